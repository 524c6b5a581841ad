-- A publishing over a link and an input, from its steps.
use Rattle.std.proofs.Common.{◌≡◌, ℕ, Bool, true, false, inl, inr, Option, List, [], ◌++◌, map, refl, sym, subst, append_assoc, append-nil}
use Rattle.oc_link.specs.Calls.{Told}
use Rattle.oc_link.specs.Story.{Story}
use Rattle.oc_client.specs.Carrying.{IsRefused, IsAtPlace, IsOffPlace, IsCarried, IsCutBetween, IsRefusedAt, IsCarryStopped, IsSealed, IsSealStopped}
use Rattle.oc_client.specs.Efforts.{IsLed, IsStopped, finding}
use Rattle.oc_client.specs.Publishing.{joined, Sends, Begins, HasSent, Ends, DoesNotBegin, IsMissing, IsPublishedAt}
use Rattle.oc_client.specs.PutRequests.{Goal, bytes, nothing, seal}
use Rattle.oc_client.specs.PutTurns.{PutTurn, Makes}
use Rattle.oc_client.specs.declared.effort.Effort.{Effort}
use Rattle.oc_client.specs.declared.effort.Next.TheVariants.{Settled}
use Rattle.oc_client.specs.declared.effort.Progress.{Progress}
use Rattle.oc_client.specs.declared.put_end.PutEnd.{PutEnd}
use Rattle.oc_client.specs.declared.put_end.PutEnd.TheVariants as ends
use Rattle.oc_client.specs.declared.load.Load.{Load}
use Rattle.oc_client.specs.declared.publication.WriteMode.{WriteMode}
use Rattle.oc_client.specs.declared.publication.WriteMode.TheVariants.{New, Append, Resume}
use Rattle.oc_client.specs.declared.publication.Publication.{Publication}
use Rattle.oc_client.proofs.Carried.{IsOfTurns, ends_of_turns, refuses_of_turns, came_of_turns, came_behind, stops_publishing}
use Rattle.oc_client.proofs.Making.{made_none, made_then}

-- the promise of a source about bytes after bytes
pub record Joins {S : Type 0} (gives fails : S → List ℕ → S → Type 0) : Type 0 where
  pub none : (a : S) → gives a [] a
  pub both : (a b c : S) (x y : List ℕ) → gives a x b → gives b y c → gives a (x ++ y) c
  pub last : (a b c : S) (x y : List ℕ) → gives a x b → fails b y c → fails a (x ++ y) c

-- a publishing whose memory runs out before the first request
pub no_memory : {S : Type 0} (gives fails : S → List ℕ → S → Type 0) (ended : S → Type 0) (plan : Publication) (goal : Goal) (o : Option Story) (s : S) → gives s [] s → IsPublishedAt gives fails ended plan goal o o s s ends.Memory
no_memory gives fails ended plan goal o s none = record {
  turns = [];
  input = [];
  over = false;
  publishes = inl (inr (refl, (finding, refl)), refl);
  made = made_none goal o;
  came = none;
  is_over = λ e. absurd (let x : false ≡ true = e in cc);
}

-- the turns of an effort that stopped
stopped_turns : (goal : Goal) (load : Load) (effort : Effort) (a b : Option Story) (end : PutEnd) → IsStopped goal load effort a b end → (turns : List PutTurn) × Ends load effort turns end × Told (Makes goal turns) a b
stopped_turns goal load effort a b end (inl led) = (led.turns, inl led.leads, led.made)
stopped_turns goal load effort a b end (inr out) = (out.1.1.turns, inr (out.0, (out.1.0, out.1.1.leads)), out.1.1.made)

-- no stopped effort is a failure of the input
pub stopped_no_input : (goal : Goal) (load : Load) (effort : Effort) (a b : Option Story) (end : PutEnd) → IsStopped goal load effort a b end → end ≡ ends.Input → ⊥
stopped_no_input goal load effort a b end stopped same =
    let t = stopped_turns goal load effort a b end stopped in
    subst IsOfTurns same (ends_of_turns load effort t.0 end t.1)

pub refused_no_input : (goal : Goal) (load : Load) (progress : Progress) (a b : Option Story) (end : PutEnd) → IsRefused goal load progress a b end → end ≡ ends.Input → ⊥
refused_no_input goal load progress a b end refused same = subst IsOfTurns same (refuses_of_turns load progress refused.turns end refused.refuses)

-- no stopped effort is done
pub stopped_not_done : (goal : Goal) (load : Load) (effort : Effort) (a b : Option Story) (end : PutEnd) → IsStopped goal load effort a b end → end ≡ ends.Done → ⊥
stopped_not_done goal load effort a b end stopped same =
    let t = stopped_turns goal load effort a b end stopped in
    subst IsOfTurns same (ends_of_turns load effort t.0 end t.1)

pub refused_not_done : (goal : Goal) (load : Load) (progress : Progress) (a b : Option Story) (end : PutEnd) → IsRefused goal load progress a b end → end ≡ ends.Done → ⊥
refused_not_done goal load progress a b end refused same = subst IsOfTurns same (refuses_of_turns load progress refused.turns end refused.refuses)

not_begun_not_done : (place : WriteMode) (found : ℕ) (input : List ℕ) (over : Bool) → DoesNotBegin place found input over ends.Done → ⊥
not_begun_not_done New found input over why = why
not_begun_not_done Append found input over why = why
not_begun_not_done Resume found input over why = why

pub unplaced_not_done : {S : Type 0} (gives fails : S → List ℕ → S → Type 0) (ended : S → Type 0) (place : WriteMode) (found : ℕ) (s t : S) (end : PutEnd) → IsOffPlace gives fails ended place found s t end → end ≡ ends.Done → ⊥
unplaced_not_done gives fails ended place found s t end off same =
    not_begun_not_done place found off.input off.over (subst (λ (x : PutEnd). DoesNotBegin place found off.input off.over x) same off.why)

pub uncarried_not_done : {S : Type 0} (gives fails : S → List ℕ → S → Type 0) (plan : Publication) (goal : Goal) (found : Progress) (a b : Option Story) (s t : S) (end : PutEnd) → IsCarryStopped gives fails plan goal found a b s t end → end ≡ ends.Done → ⊥
uncarried_not_done gives fails plan goal found a b s t end (inl cut) same = subst (λ (x : PutEnd). IsMissing cut.part x) same cut.missing
uncarried_not_done gives fails plan goal found a b s t end (inr refused) same = subst IsOfTurns same (refuses_of_turns (bytes refused.piece) refused.reached refused.last end refused.refuses)

-- the length is not found
pub not_found : {S : Type 0} (gives fails : S → List ℕ → S → Type 0) (ended : S → Type 0) (plan : Publication) (goal : Goal) (a b : Option Story) (s : S) (end : PutEnd) → gives s [] s → IsStopped goal nothing finding a b end → IsPublishedAt gives fails ended plan goal a b s s end
not_found gives fails ended plan goal a b s end none stopped =
    let t = stopped_turns goal nothing finding a b end stopped in
    record {
      turns = t.0;
      input = [];
      over = false;
      publishes = stops_publishing plan t.0 [] false end (inl (t.1, refl));
      made = t.2;
      came = came_of_turns gives fails s s [] end (ends_of_turns nothing finding t.0 end t.1) none;
      is_over = λ e. absurd (let x : false ≡ true = e in cc);
    }

-- the place is not reached
pub not_placed : {S : Type 0} (gives fails : S → List ℕ → S → Type 0) (ended : S → Type 0) (plan : Publication) (goal : Goal) (a b : Option Story) (s t : S) (found : Progress) (end : PutEnd) → IsLed goal nothing finding a b (Settled found) → IsOffPlace gives fails ended plan.place found.length s t end → IsPublishedAt gives fails ended plan goal a b s t end
not_placed gives fails ended plan goal a b s t found end led off = record {
  turns = led.turns;
  input = off.input;
  over = off.over;
  publishes = stops_publishing plan led.turns off.input off.over end (inr (inl (record { found = found; finds = led.leads; why = off.why })));
  made = led.made;
  came = off.came;
  is_over = off.is_over;
}

-- the loads that were sent so far
has_sent : (place : WriteMode) (goal : Goal) (a b : Option Story) (found reached : Progress) (before : List ℕ) (pieces : List (List ℕ)) (turns : List PutTurn) → (led : IsLed goal nothing finding a b (Settled found)) → Begins place found.length before → Sends found (map bytes pieces) turns reached → HasSent place pieces (led.turns ++ turns) (before ++ joined pieces) reached
has_sent place goal a b found reached before pieces turns led begins sends = record {
  found = found;
  before = before;
  asked = led.turns;
  sent = turns;
  finds = led.leads;
  begins = begins;
  sends = sends;
  turns_are = refl;
  input_is = refl;
}

-- no next piece comes
pub not_between : {S : Type 0} (gives fails : S → List ℕ → S → Type 0) (ended : S → Type 0) (joins : Joins gives fails) (plan : Publication) (goal : Goal) (a b c : Option Story) (s t u : S) (found : Progress) (end : PutEnd) → IsLed goal nothing finding a b (Settled found) → IsAtPlace gives plan.place found.length s t → IsCutBetween gives fails plan goal found b c t u end → IsPublishedAt gives fails ended plan goal a c s u end
not_between gives fails ended joins plan goal a b c s t u found end led placed cut = record {
  turns = led.turns ++ cut.turns;
  input = placed.before ++ (joined cut.pieces ++ cut.part);
  over = false;
  publishes = stops_publishing plan (led.turns ++ cut.turns) (placed.before ++ (joined cut.pieces ++ cut.part)) false end (inr (inr (inl (record {
    pieces = cut.pieces;
    reached = cut.reached;
    came = placed.before ++ joined cut.pieces;
    part = cut.part;
    sent = has_sent plan.place goal a b found cut.reached placed.before cut.pieces cut.turns led placed.begins cut.sends;
    parts = cut.parts;
    input_is = sym (append_assoc placed.before (joined cut.pieces) cut.part);
    missing = cut.missing;
  }))));
  made = made_then goal led.turns cut.turns a b c led.made cut.made;
  came = came_behind gives fails joins.both joins.last s t u placed.before (joined cut.pieces ++ cut.part) end placed.came cut.came;
  is_over = λ e. absurd (let x : false ≡ true = e in cc);
}

-- a piece is not taken
pub not_sent : {S : Type 0} (gives fails : S → List ℕ → S → Type 0) (ended : S → Type 0) (joins : Joins gives fails) (plan : Publication) (goal : Goal) (a b c : Option Story) (s t u : S) (found : Progress) (end : PutEnd) → IsLed goal nothing finding a b (Settled found) → IsAtPlace gives plan.place found.length s t → IsRefusedAt gives plan goal found b c t u end → IsPublishedAt gives fails ended plan goal a c s u end
not_sent gives fails ended joins plan goal a b c s t u found end led placed at = record {
  turns = led.turns ++ (at.turns ++ at.last);
  input = placed.before ++ (joined at.pieces ++ at.piece);
  over = false;
  publishes = stops_publishing plan (led.turns ++ (at.turns ++ at.last)) (placed.before ++ (joined at.pieces ++ at.piece)) false end (inr (inr (inr (record {
    pieces = at.pieces;
    reached = at.reached;
    came = placed.before ++ joined at.pieces;
    load = bytes at.piece;
    through = led.turns ++ at.turns;
    last = at.last;
    sent = has_sent plan.place goal a b found at.reached placed.before at.pieces at.turns led placed.begins at.sends;
    next = inl (at.piece, refl, at.cut);
    refuses = at.refuses;
    turns_are = sym (append_assoc led.turns at.turns at.last);
    input_is = sym (append_assoc placed.before (joined at.pieces) at.piece);
  }))));
  made = made_then goal led.turns (at.turns ++ at.last) a b c led.made at.made;
  came = came_of_turns gives fails s u (placed.before ++ (joined at.pieces ++ at.piece)) end (refuses_of_turns (bytes at.piece) at.reached at.last end at.refuses) (joins.both s t u placed.before (joined at.pieces ++ at.piece) placed.came at.came);
  is_over = λ e. absurd (let x : false ≡ true = e in cc);
}

-- the rest of the input is not carried
pub not_carried : {S : Type 0} (gives fails : S → List ℕ → S → Type 0) (ended : S → Type 0) (joins : Joins gives fails) (plan : Publication) (goal : Goal) (a b c : Option Story) (s t u : S) (found : Progress) (end : PutEnd) → IsLed goal nothing finding a b (Settled found) → IsAtPlace gives plan.place found.length s t → IsCarryStopped gives fails plan goal found b c t u end → IsPublishedAt gives fails ended plan goal a c s u end
not_carried gives fails ended joins plan goal a b c s t u found end led placed (inl cut) = not_between gives fails ended joins plan goal a b c s t u found end led placed cut
not_carried gives fails ended joins plan goal a b c s t u found end led placed (inr at) = not_sent gives fails ended joins plan goal a b c s t u found end led placed at

-- the group is not closed
pub not_sealed : {S : Type 0} (gives fails : S → List ℕ → S → Type 0) (ended : S → Type 0) (joins : Joins gives fails) (plan : Publication) (goal : Goal) (a b c d : Option Story) (s t u : S) (found reached : Progress) (end : PutEnd) → IsLed goal nothing finding a b (Settled found) → IsAtPlace gives plan.place found.length s t → IsCarried gives ended plan goal found b c t u reached → IsSealStopped goal plan.seal reached c d end → IsPublishedAt gives fails ended plan goal a d s u end
not_sealed gives fails ended joins plan goal a b c d s t u found reached end led placed carried stopped =
    let last = stopped.refused in
    let input = placed.before ++ joined carried.pieces in
    record {
      turns = led.turns ++ (carried.turns ++ last.turns);
      input = input;
      over = true;
      publishes = stops_publishing plan (led.turns ++ (carried.turns ++ last.turns)) input true end (inr (inr (inr (record {
        pieces = carried.pieces;
        reached = reached;
        came = input;
        load = seal;
        through = led.turns ++ carried.turns;
        last = last.turns;
        sent = has_sent plan.place goal a b found reached placed.before carried.pieces carried.turns led placed.begins carried.sends;
        next = inr (refl, stopped.wanted, carried.cut);
        refuses = last.refuses;
        turns_are = sym (append_assoc led.turns carried.turns last.turns);
        input_is = sym (append-nil input);
      }))));
      made = made_then goal led.turns (carried.turns ++ last.turns) a b d led.made (made_then goal carried.turns last.turns b c d carried.made last.made);
      came = came_of_turns gives fails s u input end (refuses_of_turns seal reached last.turns end last.refuses) (joins.both s t u placed.before (joined carried.pieces) placed.came carried.came);
      is_over = λ e. carried.over;
    }

-- all is done
pub all_done : {S : Type 0} (gives fails : S → List ℕ → S → Type 0) (ended : S → Type 0) (joins : Joins gives fails) (plan : Publication) (goal : Goal) (a b c d : Option Story) (s t u : S) (found reached : Progress) → IsLed goal nothing finding a b (Settled found) → IsAtPlace gives plan.place found.length s t → IsCarried gives ended plan goal found b c t u reached → IsSealed goal plan.seal reached c d → IsPublishedAt gives fails ended plan goal a d s u ends.Done
all_done gives fails ended joins plan goal a b c d s t u found reached led placed carried sealed =
    let input = placed.before ++ joined carried.pieces in
    record {
      turns = led.turns ++ (carried.turns ++ sealed.turns);
      input = input;
      over = true;
      publishes = (
        record {
          pieces = carried.pieces;
          reached = reached;
          through = led.turns ++ carried.turns;
          last = sealed.turns;
          sent = has_sent plan.place goal a b found reached placed.before carried.pieces carried.turns led placed.begins carried.sends;
          cut = carried.cut;
          seals = sealed.seals;
          turns_are = sym (append_assoc led.turns carried.turns sealed.turns);
        },
        refl,
      );
      made = made_then goal led.turns (carried.turns ++ sealed.turns) a b d led.made (made_then goal carried.turns sealed.turns b c d carried.made sealed.made);
      came = joins.both s t u placed.before (joined carried.pieces) placed.came carried.came;
      is_over = λ e. carried.over;
    }
