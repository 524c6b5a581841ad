-- A request and its reply, from the effects of the calls on the link.
use Rattle.std.proofs.Common.{◌≡◌, ℕ, ◌<◌, Bool, true, false, Option, Some, None, List, [], refl, sym, subst, inl, inr}
use Rattle.oc_client.specs.Conversations.{LeadsOn, EndsWith, GoesOn, EndsAt}
use Rattle.oc_client.specs.Passing.{Came, Sent, IsHeard, IsLastHeard, IsExchanged, IsLastExchanged}
use Rattle.oc_client.specs.Turns.{Turn, Speaks, SpeaksLast, asking, IsCut}
use Rattle.oc_client.specs.Wishes.{Wish, Asks, dialled_at, request_of}
use Rattle.oc_client.specs.declared.end.GetEnd.{GetEnd}
use Rattle.oc_client.specs.declared.end.GetEnd.TheVariants as ends
use Rattle.oc_client.specs.declared.client_state.ClientState.{ClientState}
use Rattle.oc_client.proofs.Spoken.{told_so, heard, heard_speaks, broken_speaks}
use Rattle.oc_link.specs.Exchange.{Hears, HearsThenBreaks}
use Rattle.oc_link.specs.Calls.{Told, IfTold, OnOutgoing}
use Rattle.oc_link.specs.Borrow.{BorrowView, ChangesOutgoing, Told-same, Told-then}
use Rattle.oc_link.specs.Story.{Story, IsHeardOut}

-- The statements of a loan of the outgoing connection about the link

pub told_at : (R : Story → Story → Type 0) (a b x y : Option Story) → a ≡ x → b ≡ y → Told R x y → Told R a b
told_at R a b x y p q t = subst (λ (o : Option Story). Told R o b) (sym p) (subst (λ (o : Option Story). Told R x o) (sym q) t)

if_told_at : (b y : Option Story) → b ≡ y → IfTold y IsHeardOut → IfTold b IsHeardOut
if_told_at b y q t = subst (λ (o : Option Story). IfTold o IsHeardOut) (sym q) t

pub outgoing_heard : {S K L : Type 0} (view : S → BorrowView) (story : L → Option Story) (takes : K → List ℕ → K → Type 0) (So : List ℕ → Bool → List ℕ → Type 0) (old new : S) (a b : L) (p q : K) → story a ≡ (view old).story → story b ≡ (view new).story → IsHeard (λ o given n. ChangesOutgoing (Hears given) (view o) (view n)) (λ o. IfTold (view o).story IsHeardOut) takes So old new p q → IsHeard (λ o given n. Told (OnOutgoing (Hears given)) (story o) (story n)) (λ l. IfTold (story l) IsHeardOut) takes So a b p q
outgoing_heard view story takes So old new a b p q first last h = record {
  reply = h.reply;
  over = h.over;
  content = h.content;
  came = told_at (OnOutgoing (Hears h.reply)) (story a) (story b) (view old).story (view new).story first last h.came.story;
  sent = h.sent;
  is_over = λ e. if_told_at (story b) (view new).story last (h.is_over e);
  so = h.so;
}

outgoing_came : {S L : Type 0} (view : S → BorrowView) (story : L → Option Story) (old new : S) (a b : L) (bytes : List ℕ) (end : GetEnd) → story a ≡ (view old).story → story b ≡ (view new).story → Came (λ o given n. ChangesOutgoing (Hears given) (view o) (view n)) (λ o given n. ChangesOutgoing (HearsThenBreaks given) (view o) (view n)) old bytes new end → Came (λ o given n. Told (OnOutgoing (Hears given)) (story o) (story n)) (λ o given n. Told (OnOutgoing (HearsThenBreaks given)) (story o) (story n)) a bytes b end
outgoing_came view story old new a b bytes ends.Link first last came = told_at (OnOutgoing (HearsThenBreaks bytes)) (story a) (story b) (view old).story (view new).story first last came.story
outgoing_came view story old new a b bytes ends.Done first last came = told_at (OnOutgoing (Hears bytes)) (story a) (story b) (view old).story (view new).story first last came.story
outgoing_came view story old new a b bytes ends.BadUrl first last came = told_at (OnOutgoing (Hears bytes)) (story a) (story b) (view old).story (view new).story first last came.story
outgoing_came view story old new a b bytes (ends.Refused status) first last came = told_at (OnOutgoing (Hears bytes)) (story a) (story b) (view old).story (view new).story first last came.story
outgoing_came view story old new a b bytes ends.Redirects first last came = told_at (OnOutgoing (Hears bytes)) (story a) (story b) (view old).story (view new).story first last came.story
outgoing_came view story old new a b bytes ends.Reply first last came = told_at (OnOutgoing (Hears bytes)) (story a) (story b) (view old).story (view new).story first last came.story
outgoing_came view story old new a b bytes ends.Sink first last came = told_at (OnOutgoing (Hears bytes)) (story a) (story b) (view old).story (view new).story first last came.story
outgoing_came view story old new a b bytes ends.Memory first last came = told_at (OnOutgoing (Hears bytes)) (story a) (story b) (view old).story (view new).story first last came.story

pub outgoing_last : {S K L : Type 0} (view : S → BorrowView) (story : L → Option Story) (takes breaks : K → List ℕ → K → Type 0) (So : List ℕ → Bool → List ℕ → GetEnd → Type 0) (old new : S) (a b : L) (p q : K) (end : GetEnd) → story a ≡ (view old).story → story b ≡ (view new).story → IsLastHeard (λ o given n. ChangesOutgoing (Hears given) (view o) (view n)) (λ o given n. ChangesOutgoing (HearsThenBreaks given) (view o) (view n)) (λ o. IfTold (view o).story IsHeardOut) takes breaks So old new p q end → IsLastHeard (λ o given n. Told (OnOutgoing (Hears given)) (story o) (story n)) (λ o given n. Told (OnOutgoing (HearsThenBreaks given)) (story o) (story n)) (λ l. IfTold (story l) IsHeardOut) takes breaks So a b p q end
outgoing_last view story takes breaks So old new a b p q end first last h = record {
  reply = h.reply;
  over = h.over;
  written = h.written;
  came = outgoing_came view story old new a b h.reply end first last h.came;
  sent = h.sent;
  is_over = λ e. if_told_at (story b) (view new).story last (h.is_over e);
  so = h.so;
}

-- A request and the reply after it

told_heard : (at : Option (List ℕ)) (request bytes : List ℕ) (over : Bool) (a b c : Option Story) → Told (Speaks (asking at request)) a b → Told (OnOutgoing (Hears bytes)) b c → (over ≡ true → IfTold c IsHeardOut) → Told (Speaks (heard at request bytes over)) a c
told_heard at request bytes over a b None p q e = tt
told_heard at request bytes over a None (Some c) p q e = absurd q
told_heard at request bytes over None (Some b) (Some c) p q e = absurd p
told_heard at request bytes over (Some a) (Some b) (Some c) p q e = heard_speaks at request bytes over a b c p q e

told_broken : (at : Option (List ℕ)) (request bytes : List ℕ) (a b c : Option Story) → Told (Speaks (asking at request)) a b → Told (OnOutgoing (HearsThenBreaks bytes)) b c → Told (Speaks (heard at request bytes false)) a c
told_broken at request bytes = Told-then (Speaks (asking at request)) (OnOutgoing (HearsThenBreaks bytes)) (Speaks (heard at request bytes false)) (broken_speaks at request bytes)

-- a turn can be the last one
told_last : (turn : Turn) (a b : Option Story) → Told (Speaks turn) a b → Told (SpeaksLast turn) a b
told_last turn = told_so (Speaks turn) (SpeaksLast turn) (λ x y p. record { between = y; speaks = p; same = refl })

-- the turn asks for the wish of a client at the state
asks_at : (wish : Wish) (state : ClientState) (reply : List ℕ) (over : Bool) → Asks wish state (heard (dialled_at state.kept state) (request_of wish state) reply over)
asks_at wish state reply over = record { dialled = refl; request = refl }

pub exchanged : {K L : Type 0} (story : L → Option Story) (takes : K → List ℕ → K → Type 0) (wish : Wish) (state next : ClientState) (a : Option Story) (l m : L) (p q : K) → Told (Speaks (asking (dialled_at state.kept state) (request_of wish state))) a (story l) → IsHeard (λ o given n. Told (OnOutgoing (Hears given)) (story o) (story n)) (λ o. IfTold (story o) IsHeardOut) takes (λ reply over content. LeadsOn wish state reply over content next) l m p q → IsExchanged takes (λ turn content. GoesOn wish state turn content next) a (story m) p q
exchanged story takes wish state next a l m p q asked h = record {
  turn = heard (dialled_at state.kept state) (request_of wish state) h.reply h.over;
  content = h.content;
  spoke = told_heard (dialled_at state.kept state) (request_of wish state) h.reply h.over a (story l) (story m) asked h.came h.is_over;
  sent = h.sent;
  so = record { asks = asks_at wish state h.reply h.over; leads = h.so };
}

-- The end of an exchange

-- memory ran out before the request
pub exchange_starved : {K : Type 0} (takes breaks : K → List ℕ → K → Type 0) → ((k : K) → takes k [] k) → (wish : Wish) (state : ClientState) (a : Option Story) (k : K) → IsLastExchanged takes breaks (EndsAt wish state) a a k k ends.Memory
exchange_starved takes breaks nothing wish state a k = record {
  turn = None;
  written = [];
  spoke = Told-same (λ x y. y ≡ x) (λ s. refl) a;
  sent = nothing k;
  so = refl;
}

-- the request was cut
pub exchange_cut : {K : Type 0} (takes breaks : K → List ℕ → K → Type 0) → ((k : K) → takes k [] k) → (wish : Wish) (state : ClientState) (turn : Turn) (a b : Option Story) (k : K) → 0 < state.replies → IsCut (dialled_at state.kept state) (request_of wish state) turn → Told (SpeaksLast turn) a b → IsLastExchanged takes breaks (EndsAt wish state) a b k k ends.Link
exchange_cut takes breaks nothing wish state turn a b k wanted cut spoke = record {
  turn = Some turn;
  written = [];
  spoke = spoke;
  sent = nothing k;
  so = (wanted, inr (cut, refl, refl));
}

-- bytes came, and no call on the link failed
exchange_given : {K : Type 0} (takes breaks : K → List ℕ → K → Type 0) (wish : Wish) (state : ClientState) (reply : List ℕ) (over : Bool) (written : List ℕ) (a b c : Option Story) (p q : K) (end : GetEnd) → 0 < state.replies → Told (Speaks (asking (dialled_at state.kept state) (request_of wish state))) a b → Told (OnOutgoing (Hears reply)) b c → (over ≡ true → IfTold c IsHeardOut) → Sent takes breaks p written q end → EndsWith wish state reply over written end → IsLastExchanged takes breaks (EndsAt wish state) a c p q end
exchange_given takes breaks wish state reply over written a b c p q end wanted asked came is_over sent so =
    let turn = heard (dialled_at state.kept state) (request_of wish state) reply over in
    record {
      turn = Some turn;
      written = written;
      spoke = told_last turn a c (told_heard (dialled_at state.kept state) (request_of wish state) reply over a b c asked came is_over);
      sent = sent;
      so = (wanted, inl (asks_at wish state reply over, so));
    }

pub last_exchanged : {K L : Type 0} (story : L → Option Story) (takes breaks : K → List ℕ → K → Type 0) (wish : Wish) (state : ClientState) (a : Option Story) (l m : L) (p q : K) (end : GetEnd) → 0 < state.replies → Told (Speaks (asking (dialled_at state.kept state) (request_of wish state))) a (story l) → IsLastHeard (λ o given n. Told (OnOutgoing (Hears given)) (story o) (story n)) (λ o given n. Told (OnOutgoing (HearsThenBreaks given)) (story o) (story n)) (λ o. IfTold (story o) IsHeardOut) takes breaks (EndsWith wish state) l m p q end → IsLastExchanged takes breaks (EndsAt wish state) a (story m) p q end
last_exchanged story takes breaks wish state a l m p q ends.Link wanted asked h =
    let turn = heard (dialled_at state.kept state) (request_of wish state) h.reply false in
    record {
      turn = Some turn;
      written = h.written;
      spoke = told_last turn a (story m) (told_broken (dialled_at state.kept state) (request_of wish state) h.reply a (story l) (story m) asked h.came);
      sent = h.sent;
      so = (wanted, inl (asks_at wish state h.reply false, h.so));
    }
last_exchanged story takes breaks wish state a l m p q ends.Done wanted asked h = absurd h.so
last_exchanged story takes breaks wish state a l m p q ends.BadUrl wanted asked h = absurd h.so
last_exchanged story takes breaks wish state a l m p q (ends.Refused status) wanted asked h = exchange_given takes breaks wish state h.reply h.over h.written a (story l) (story m) p q (ends.Refused status) wanted asked h.came h.is_over h.sent h.so
last_exchanged story takes breaks wish state a l m p q ends.Redirects wanted asked h = exchange_given takes breaks wish state h.reply h.over h.written a (story l) (story m) p q ends.Redirects wanted asked h.came h.is_over h.sent h.so
last_exchanged story takes breaks wish state a l m p q ends.Reply wanted asked h = exchange_given takes breaks wish state h.reply h.over h.written a (story l) (story m) p q ends.Reply wanted asked h.came h.is_over h.sent h.so
last_exchanged story takes breaks wish state a l m p q ends.Sink wanted asked h = exchange_given takes breaks wish state h.reply h.over h.written a (story l) (story m) p q ends.Sink wanted asked h.came h.is_over h.sent h.so
last_exchanged story takes breaks wish state a l m p q ends.Memory wanted asked h = exchange_given takes breaks wish state h.reply h.over h.written a (story l) (story m) p q ends.Memory wanted asked h.came h.is_over h.sent h.so
