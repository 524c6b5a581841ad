-- The law of ask numbers: each has one peer, since each fact, each yes and each parent has its ask among the messages, and all
-- asks of one number go to one peer.
use Rattle.std.proofs.Common.{◌≡◌, ℕ, ◌+◌, ◌≤◌, true, Option, List, [], ◌∷◌, ◌++◌, ◌⊎◌, inl, inr, ap, sym, ◌∙◌, subst, ⊎_elim, arith}
use Rattle.std.specs.List.{AllByRecursion, range_with_len}
use Rattle.std.proofs.lemmas.Bool.{cases_eq}
use Rattle.oc_base.specs.declared.cert.Cert.{Cert}
use Rattle.oc_base.specs.declared.rank.Rank.{Rank}
use Rattle.oc_model.specs.declared.event.Event.{Event}
use Rattle.oc_model.specs.declared.message.Body.{Body}
use Rattle.oc_model.specs.declared.message.Body.TheVariants as bodies
use Rattle.oc_model.specs.declared.message.Message.{Message}
use Rattle.oc_model.specs.declared.mode.Mode.TheVariants as modes
use Rattle.oc_model.specs.Adopting.{birth}
use Rattle.oc_model.specs.Adoption.{rank_or_last}
use Rattle.oc_model.specs.ChangeLog.{next_certs, place_after}
use Rattle.oc_base.specs.declared.limits.TheConstants.{MAX_CHECK_IN_CERTS}
use Rattle.oc_model.specs.Checking.{life}
use Rattle.oc_model.specs.ClaimsTree.{seq_of}
use Rattle.oc_model.specs.Node.{Header, Control}
use Rattle.oc_model.specs.Numbers.{IsAmong}
use Rattle.oc_model.specs.Records.{entered}
use Rattle.oc_model.specs.World.{World, Process, process, mode_of, new_world}
use Rattle.oc_model.proofs.Lists.{all_weaker, all_append}
use Rattle.oc_model.proofs.Processes.{IsNew, process_in-me, process_in-new}
use Rattle.oc_laws_step.proofs.Merges.{among_left, among_split}
use Rattle.oc_laws_step.proofs.Ranges.{all_take}
use Rattle.oc_laws_world.specs.Numbers.{HasAskedIn, HasAsked, IsPeer, Tells, IsAnywhere, GoesWith, HaveOnePeer, AskNumbersAreBelow}
use Rattle.oc_laws_world.specs.Throughout.{Throughout}
use Rattle.oc_laws_world.proofs.Laws.{law_throughout}
use Rattle.oc_laws_world.proofs.Lifts.{control_of, HasSent, Becomes, IsLaw, at_each}
use Rattle.oc_laws_world.proofs.Listed.{all_among, among_either, all_merge, all_newest, all_noted, all_acked}
use Rattle.oc_laws_world.proofs.Machine.{IsMachine, IsLoose, and_sent, with_kept}

-- the ask of which a fact tells was sent
abbrev pub IsAskedFact : World → Cert → Type 0
IsAskedFact w c = HasAsked w c.subject c.seq c.parent

-- the ask of a yes or of a check-in was sent, and so were those of the facts in the check-in
abbrev pub IsAskedSend : World → Message → Body → Type 0
IsAskedSend w m (bodies.Yes seq rank ancestors) = HasAsked w m.to seq m.from
IsAskedSend w m (bodies.CheckIn seq upto rate number clients certs) = HasAsked w m.from seq m.to × AllByRecursion (IsAskedFact w) certs
IsAskedSend w m body = Unit {0}

-- the law of ask numbers in a world
pub record NumbersHold (w : World) : Type 0 where
  pub unique : (x s p q : ℕ) → HasAsked w x s p → HasAsked w x s q → p ≡ q
  pub bound : (x s p : ℕ) → HasAsked w x s p → s ≤ (control_of w x).kept.seq
  pub present : (x p q : ℕ) → HasAsked w x (control_of w x).kept.seq p → (control_of w x).kept.mode ≡ modes.Asking q → p ≡ q
  pub joined : (x q : ℕ) → (control_of w x).kept.mode ≡ modes.Joined q → HasAsked w x (control_of w x).kept.seq q
  pub table : (x : ℕ) → AllByRecursion (IsAskedFact w) (control_of w x).kept.table
  pub waiting : (x : ℕ) → AllByRecursion (IsAskedFact w) (control_of w x).kept.log.waiting
  pub told : AllByRecursion (λ m. IsAskedSend w m m.body) w.net

-- an ask of x was sent before, or is one of these messages
abbrev pub HasAskedNow : World → List Message → ℕ → ℕ → ℕ → Type 0
HasAskedNow w ms x s p = HasAsked w x s p ⊎ HasAskedIn ms x s p

-- the law for the node x in the middle of a change of this world: its asks may be new, and all else has its ask from before
pub record IsCounting (w : World) (x : ℕ) (n : Control) (ms : List Message) : Type 0 where
  pub me : n.me ≡ x
  pub own : (y s p : ℕ) → HasAskedIn ms y s p → y ≡ x
  pub unique : (s p q : ℕ) → HasAskedNow w ms x s p → HasAskedNow w ms x s q → p ≡ q
  pub bound : (s p : ℕ) → HasAskedNow w ms x s p → s ≤ n.kept.seq
  pub present : (p q : ℕ) → HasAskedNow w ms x n.kept.seq p → n.kept.mode ≡ modes.Asking q → p ≡ q
  pub joined : (q : ℕ) → n.kept.mode ≡ modes.Joined q → HasAsked w x n.kept.seq q
  pub table : AllByRecursion (IsAskedFact w) n.kept.table
  pub waiting : AllByRecursion (IsAskedFact w) n.kept.log.waiting
  pub told : AllByRecursion (λ m. IsAskedSend w m m.body) ms

-- Messages

-- a message that is no ask
abbrev IsNoAsk : Body → Type 0
IsNoAsk (bodies.Ask seq rank) = ⊥
IsNoAsk body = Unit {0}

-- such a message is not one of the asks
no_ask_in : (ms : List Message) (m : Message) → IsNoAsk m.body → (y s p : ℕ) → HasAskedIn (ms ++ m ∷ []) y s p → HasAskedIn ms y s p
no_ask_in ms m none y s p asked = ⊎_elim
    (λ (old : IsAmong (record { from = y; to = p; body = bodies.Ask s asked.0 }) ms). (asked.0, old))
    (λ (e : m ≡ record { from = y; to = p; body = bodies.Ask s asked.0 }). absurd (subst (λ (l : Message). IsNoAsk l.body) e none))
    (among_split (record { from = y; to = p; body = bodies.Ask s asked.0 }) m ms asked.1)

no_ask_now : (w : World) (ms : List Message) (m : Message) → IsNoAsk m.body → (y s p : ℕ) → HasAskedNow w (ms ++ m ∷ []) y s p → HasAskedNow w ms y s p
no_ask_now w ms m none y s p (inl old) = inl old
no_ask_now w ms m none y s p (inr new) = inr (no_ask_in ms m none y s p new)

-- one more message that is no ask
and_told : (w : World) (x : ℕ) (n : Control) (ms : List Message) (p : ℕ) (b : Body) → IsNoAsk b → IsAskedSend w (record { from = n.me; to = p; body = b }) b → IsCounting w x n ms → IsCounting w x n (and_sent n ms p b)
and_told w x n ms p b none backed h =
    let m : Message = record { from = n.me; to = p; body = b } in
    record {
      me = h.me;
      own = λ y s q asked. h.own y s q (no_ask_in ms m none y s q asked);
      unique = λ s q r a c. h.unique s q r (no_ask_now w ms m none x s q a) (no_ask_now w ms m none x s r c);
      bound = λ s q a. h.bound s q (no_ask_now w ms m none x s q a);
      present = λ q r a e. h.present q r (no_ask_now w ms m none x n.kept.seq q a) e;
      joined = h.joined;
      table = h.table;
      waiting = h.waiting;
      told = all_append (λ l. IsAskedSend w l l.body) ms (m ∷ []) h.told (backed, tt);
    }

-- each ask was sent before or is the new one
pub ask_in : (ms : List Message) (x q k : ℕ) (rank : Option Rank) (y s p : ℕ) → HasAskedIn (ms ++ record { from = x; to = q; body = bodies.Ask k rank } ∷ []) y s p
    → HasAskedIn ms y s p ⊎ ((x ≡ y) × (k ≡ s) × (q ≡ p))
ask_in ms x q k rank y s p asked = ⊎_elim
    (λ (old : IsAmong (record { from = y; to = p; body = bodies.Ask s asked.0 }) ms). inl (asked.0, old))
    (λ (e : record { from = x; to = q; body = bodies.Ask k rank } ≡ record { from = y; to = p; body = bodies.Ask s asked.0 }).
    inr (ap (λ (l : Message). l.from) e, ap (λ (l : Message). ask_number l.body) e, ap (λ (l : Message). l.to) e))
    (among_split (record { from = y; to = p; body = bodies.Ask s asked.0 }) (record { from = x; to = q; body = bodies.Ask k rank }) ms asked.1) where
      ask_number : Body → ℕ
      ask_number (bodies.Ask number r) = number
      ask_number body = 0

-- one more ask of the node, to the peer that it asks now
and_asked : (w : World) (x : ℕ) (n : Control) (ms : List Message) (q : ℕ) → n.kept.mode ≡ modes.Asking q → IsCounting w x n ms → IsCounting w x n (and_sent n ms q (bodies.Ask n.kept.seq n.kept.rank))
and_asked w x n ms q asking h = record {
  me = h.me;
  own = λ y s p asked. ⊎_elim (λ (old : HasAskedIn ms y s p). h.own y s p old) (λ (new : (n.me ≡ y) × (n.kept.seq ≡ s) × (q ≡ p)). sym (new.0) ∙ h.me) (ask_in ms n.me q n.kept.seq n.kept.rank y s p asked);
  unique = λ s p r a c. both s p r (now s p a) (now s r c);
  bound = λ s p a. ⊎_elim (λ (old : HasAskedNow w ms x s p). h.bound s p old) (λ (new : (n.kept.seq ≡ s) × (q ≡ p)). let e = new.0 in omega (arith, e)) (now s p a);
  present = λ p r a e. ⊎_elim (λ (old : HasAskedNow w ms x n.kept.seq p). h.present p r old e) (λ (new : (n.kept.seq ≡ n.kept.seq) × (q ≡ p)). sym (new.1) ∙ cc (asking, e)) (now n.kept.seq p a);
  joined = h.joined;
  table = h.table;
  waiting = h.waiting;
  told = all_append (λ l. IsAskedSend w l l.body) ms (record { from = n.me; to = q; body = bodies.Ask n.kept.seq n.kept.rank } ∷ []) h.told (tt, tt);
} where
  now : (s p : ℕ) → HasAskedNow w (and_sent n ms q (bodies.Ask n.kept.seq n.kept.rank)) x s p → HasAskedNow w ms x s p ⊎ ((n.kept.seq ≡ s) × (q ≡ p))
  now s p (inl old) = inl (inl old)
  now s p (inr asked) = ⊎_elim (λ (old : HasAskedIn ms x s p). inl (inr old)) (λ (new : (n.me ≡ x) × (n.kept.seq ≡ s) × (q ≡ p)). inr (new.1, new.2)) (ask_in ms n.me q n.kept.seq n.kept.rank x s p asked)

  both : (s p r : ℕ) → HasAskedNow w ms x s p ⊎ ((n.kept.seq ≡ s) × (q ≡ p)) → HasAskedNow w ms x s r ⊎ ((n.kept.seq ≡ s) × (q ≡ r)) → p ≡ r
  both s p r (inl a) (inl c) = h.unique s p r a c
  both s p r (inl a) (inr c) = h.present p q (subst (λ (t : ℕ). HasAskedNow w ms x t p) (sym (c.0)) a) asking ∙ c.1
  both s p r (inr a) (inl c) = sym (h.present r q (subst (λ (t : ℕ). HasAskedNow w ms x t r) (sym (a.0)) c) asking ∙ a.1)
  both s p r (inr a) (inr c) = sym (a.1) ∙ c.1

-- a message of which the tree's laws do not speak
loose_no_ask : (b : Body) → IsLoose b → IsNoAsk b
loose_no_ask (bodies.Ask seq rank) loose = absurd loose
loose_no_ask b loose = tt

loose_told : (w : World) (m : Message) (b : Body) → IsLoose b → IsAskedSend w m b
loose_told w m (bodies.Yes seq rank ancestors) loose = absurd loose
loose_told w m (bodies.CheckIn seq upto rate number clients certs) loose = absurd loose
loose_told w m b loose = tt

-- the contents of a sent message have their asks from before
came_asked : (w : World) → NumbersHold w → (m : Message) → IsAmong m w.net → IsAskedSend w m m.body
came_asked w holds m among = all_among (λ l. IsAskedSend w l l.body) w.net m holds.told among

-- Changes

-- a certificate comes into the table
and_entered : (w : World) (x : ℕ) (n : Control) (ms : List Message) (c : Cert) → IsAskedFact w c → IsCounting w x n ms → IsCounting w x (with_kept n (entered n.kept c)) ms
and_entered w x n ms c asked h = record {
  me = h.me;
  own = h.own;
  unique = h.unique;
  bound = h.bound;
  present = h.present;
  joined = h.joined;
  table = all_merge (IsAskedFact w) n.kept.table c asked h.table;
  waiting = all_noted (IsAskedFact w) n.kept.mode n.kept.log c asked h.waiting;
  told = h.told;
}

-- a certificate of a check-in has its ask
told_asked : (w : World) (x : ℕ) (n : Control) (y s upto rate number clients : ℕ) (certs : List Cert) (c : Cert) → n.me ≡ x → NumbersHold w → HasSent w x y (bodies.CheckIn s upto rate number clients certs)
    → IsAmong c (life y s n.me number clients ∷ certs) → IsAskedFact w c
told_asked w x n y s upto rate number clients certs c me holds sent among =
    let backed = came_asked w holds (record { from = y; to = x; body = bodies.CheckIn s upto rate number clients certs }) sent in
    all_among (IsAskedFact w) (life y s n.me number clients ∷ certs) c (subst (λ (z : ℕ). HasAsked w y s z) (sym me) backed.0, backed.1) among

-- each small change keeps the law
counting : (w : World) (x : ℕ) → NumbersHold w → IsMachine (HasSent w x) (IsCounting w x)
counting w x holds = record {
  soft = λ n ms s h. record { me = h.me; own = h.own; unique = h.unique; bound = h.bound; present = h.present; joined = h.joined; table = h.table; waiting = h.waiting; told = h.told };
  lists = λ n ms leases rates counts h. record { me = h.me; own = h.own; unique = h.unique; bound = h.bound; present = h.present; joined = h.joined; table = h.table; waiting = h.waiting; told = h.told };
  aside = λ n ms ancestors measures h. record { me = h.me; own = h.own; unique = h.unique; bound = h.bound; present = h.present; joined = h.joined; table = h.table; waiting = h.waiting; told = h.told };
  falls = λ n ms h. record { me = h.me; own = h.own; unique = h.unique; bound = h.bound; present = λ p q a e. absurd cc; joined = λ q e. absurd cc; table = h.table; waiting = tt; told = h.told };
  asks = λ n ms p unspent h. record {
    me = h.me;
    own = h.own;
    unique = h.unique;
    bound = λ s q a. let below = h.bound s q a in omega (arith, below);
    present = λ q r a e. let below = h.bound (n.kept.seq + 1) q a in absurd (omega (arith, below));
    joined = λ q e. absurd cc;
    table = h.table;
    waiting = tt;
    told = h.told;
  };
  acts = λ n ms h. record { me = h.me; own = h.own; unique = h.unique; bound = h.bound; present = λ p q a e. absurd cc; joined = λ q e. absurd cc; table = h.table; waiting = tt; told = h.told };
  raises = λ n ms e acting above h. record { me = h.me; own = h.own; unique = h.unique; bound = h.bound; present = h.present; joined = h.joined; table = h.table; waiting = h.waiting; told = h.told };
  joins = λ n ms p r xs sent asking shallow before h. record {
    me = h.me;
    own = h.own;
    unique = h.unique;
    bound = h.bound;
    present = λ q s a e. absurd cc;
    joined = λ q e.
        let same : p ≡ q = cc e in
        subst (λ (z : ℕ). HasAsked w x n.kept.seq z) same (came_asked w holds (record { from = p; to = x; body = bodies.Yes n.kept.seq r xs }) sent);
    table = h.table;
    waiting = h.table;
    told = h.told;
  };
  ranks = λ n ms p upto r xs sent joined better h. record { me = h.me; own = h.own; unique = h.unique; bound = h.bound; present = h.present; joined = h.joined; table = h.table; waiting = h.waiting; told = h.told };
  acks = λ n ms p upto r xs sent joined ahead h. record {
    me = h.me;
    own = h.own;
    unique = h.unique;
    bound = h.bound;
    present = h.present;
    joined = h.joined;
    table = h.table;
    waiting = all_acked (IsAskedFact w) n.kept.log upto h.waiting;
    told = h.told;
  };
  adopts = λ n ms y s r sent tree news h. and_entered w x n ms (birth y s n.me) (r, subst (λ (z : ℕ). IsAmong (record { from = y; to = z; body = bodies.Ask s r }) w.net) (sym h.me) sent) h;
  merges = λ n ms y s upto rate number clients certs c sent among news h. and_entered w x n ms c (told_asked w x n y s upto rate number clients certs c h.me holds sent among) h;
  ends = λ n ms y e found own news h. and_entered w x n ms (record e { dead = true }) (all_newest (IsAskedFact w) n.kept.table y e found h.table) h;
  counts = λ n ms clients more h. record { me = h.me; own = h.own; unique = h.unique; bound = h.bound; present = h.present; joined = h.joined; table = h.table; waiting = h.waiting; told = h.told };
  says = λ n ms p b loose h. and_told w x n ms p b (loose_no_ask b loose) (loose_told w (record { from = n.me; to = p; body = b }) b loose) h;
  says_ask = λ n ms p asking h. and_asked w x n ms p asking h;
  says_yes = λ n ms y s r sent tree leased h.
      and_told w x n ms y (bodies.Yes s (rank_or_last n.kept.rank) n.kept.ancestors) tt (r, subst (λ (z : ℕ). IsAmong (record { from = y; to = z; body = bodies.Ask s r }) w.net) (sym h.me) sent) h;
  says_check_in = λ n ms p rate joined h.
      and_told w x n ms p (bodies.CheckIn n.kept.seq (place_after n.kept.log) rate n.kept.number n.kept.clients (next_certs n.kept.log)) tt
      (subst (λ (z : ℕ). HasAsked w z n.kept.seq p) (sym h.me) (h.joined p joined), all_take (IsAskedFact w) MAX_CHECK_IN_CERTS n.kept.log.waiting h.waiting) h;
  says_check_ack = λ n ms y s upto rate number clients certs sent known h. and_told w x n ms y (bodies.CheckAck s upto (rank_or_last n.kept.rank) n.kept.ancestors) tt tt h;
  drops = λ n ms h. record {
    me = h.me;
    own = λ y s p a. absurd (a.1);
    unique = λ s p q a c. h.unique s p q (before s p ms a) (before s q ms c);
    bound = λ s p a. h.bound s p (before s p ms a);
    present = λ p q a e. h.present p q (before n.kept.seq p ms a) e;
    joined = h.joined;
    table = h.table;
    waiting = h.waiting;
    told = tt;
  };
  starts = λ n ms h. record { me = h.me; own = h.own; unique = h.unique; bound = h.bound; present = h.present; joined = h.joined; table = h.table; waiting = h.waiting; told = h.told };
} where
  -- all asks were sent before, where no message is new
  before : (s p : ℕ) (ms : List Message) → HasAskedNow w [] x s p → HasAskedNow w ms x s p
  before s p ms (inl old) = inl old
  before s p ms (inr none) = absurd (none.1)

-- the law holds for x before the change
counting_begins : (w : World) (x : ℕ) → NumbersHold w → IsCounting w x (control_of w x) []
counting_begins w x holds = record {
  me = process_in-me w.processes x;
  own = λ y s p a. absurd (a.1);
  unique = λ s p q a c. holds.unique x s p q (before s p a) (before s q c);
  bound = λ s p a. holds.bound x s p (before s p a);
  present = λ p q a e. holds.present x p q (before (control_of w x).kept.seq p a) e;
  joined = holds.joined x;
  table = holds.table x;
  waiting = holds.waiting x;
  told = tt;
} where
  before : (s p : ℕ) → HasAskedNow w [] x s p → HasAsked w x s p
  before s p (inl old) = old
  before s p (inr none) = absurd (none.1)

-- the law holds of the world after the change
counting_ends : (w v : World) (x : ℕ) (n : Control) (ms : List Message) → NumbersHold w → Becomes w x n ms v → IsCounting w x n ms → NumbersHold v
counting_ends w v x n ms holds becomes h = record {
  unique = λ y s p q a c. by_unique y s p q (now y s p a) (now y s q c) (cases_eq x y);
  bound = λ y s p a. (each y).0 s p (now y s p a);
  present = λ y p q a e. (each y).1 p q (now y (control_of v y).kept.seq p a) e;
  joined = at_each w v x n ms becomes (λ y c. (q : ℕ) → c.kept.mode ≡ modes.Joined q → HasAsked v y c.kept.seq q) (λ q e. later x n.kept.seq q (h.joined q e)) (λ y apart q e. later y (control_of w y).kept.seq q (holds.joined y q e));
  table = at_each w v x n ms becomes (λ y c. AllByRecursion (IsAskedFact v) c.kept.table) (facts n.kept.table h.table) (λ y apart. facts (control_of w y).kept.table (holds.table y));
  waiting = at_each w v x n ms becomes (λ y c. AllByRecursion (IsAskedFact v) c.kept.log.waiting) (facts n.kept.log.waiting h.waiting) (λ y apart. facts (control_of w y).kept.log.waiting (holds.waiting y));
  told = subst (λ (net : List Message). AllByRecursion (λ m. IsAskedSend v m m.body) net) (sym becomes.net)
      (all_append (λ m. IsAskedSend v m m.body) w.net ms
      (all_weaker (λ m. IsAskedSend w m m.body) (λ m. IsAskedSend v m m.body) (λ m k. sends m m.body k) w.net holds.told)
      (all_weaker (λ m. IsAskedSend w m m.body) (λ m. IsAskedSend v m m.body) (λ m k. sends m m.body k) ms h.told));
} where
  -- an ask that was sent stays sent
  later : (y s p : ℕ) → HasAsked w y s p → HasAsked v y s p
  later y s p a = (a.0, subst (λ (net : List Message). IsAmong (record { from = y; to = p; body = bodies.Ask s a.0 }) net) (sym becomes.net) (among_left (record { from = y; to = p; body = bodies.Ask s a.0 }) w.net ms a.1))

  facts : (cs : List Cert) → AllByRecursion (IsAskedFact w) cs → AllByRecursion (IsAskedFact v) cs
  facts cs all = all_weaker (IsAskedFact w) (IsAskedFact v) (λ c a. later c.subject c.seq c.parent a) cs all

  sends : (m : Message) (b : Body) → IsAskedSend w m b → IsAskedSend v m b
  sends m (bodies.Yes seq rank ancestors) k = later m.to seq m.from k
  sends m (bodies.CheckIn seq upto rate number clients certs) k = (later m.from seq m.to k.0, facts certs k.1)
  sends m b k = tt

  -- each ask was sent before or now
  now : (y s p : ℕ) → HasAsked v y s p → HasAskedNow w ms y s p
  now y s p a = ⊎_elim
      (λ (old : IsAmong (record { from = y; to = p; body = bodies.Ask s a.0 }) w.net). inl (a.0, old))
      (λ (new : IsAmong (record { from = y; to = p; body = bodies.Ask s a.0 }) ms). inr (a.0, new))
      (among_either (record { from = y; to = p; body = bodies.Ask s a.0 }) w.net ms (subst (λ (net : List Message). IsAmong (record { from = y; to = p; body = bodies.Ask s a.0 }) net) becomes.net a.1))

  -- an ask of a node that sent nothing now was sent before
  of_other : (y s p : ℕ) → (x ≡ y → ⊥) → HasAskedNow w ms y s p → HasAsked w y s p
  of_other y s p apart (inl old) = old
  of_other y s p apart (inr new) = absurd (apart (sym (h.own y s p new)))

  by_unique : (y s p q : ℕ) → HasAskedNow w ms y s p → HasAskedNow w ms y s q → (x ≡ y) ⊎ (x ≡ y → ⊥) → p ≡ q
  by_unique y s p q a c (inl e) = h.unique s p q (subst (λ (z : ℕ). HasAskedNow w ms z s p) (sym e) a) (subst (λ (z : ℕ). HasAskedNow w ms z s q) (sym e) c)
  by_unique y s p q a c (inr apart) = holds.unique y s p q (of_other y s p apart a) (of_other y s q apart c)

  -- the bound on ask numbers and the present ask, of each node
  each : (y : ℕ) → ((s p : ℕ) → HasAskedNow w ms y s p → s ≤ (control_of v y).kept.seq) × ((p q : ℕ) → HasAskedNow w ms y (control_of v y).kept.seq p → (control_of v y).kept.mode ≡ modes.Asking q → p ≡ q)
  each y = by_case (cases_eq x y) where
    Q : ℕ → Control → Type 0
    Q z c = ((s p : ℕ) → HasAskedNow w ms z s p → s ≤ c.kept.seq) × ((p q : ℕ) → HasAskedNow w ms z c.kept.seq p → c.kept.mode ≡ modes.Asking q → p ≡ q)

    by_case : (x ≡ y) ⊎ (x ≡ y → ⊥) → Q y (control_of v y)
    by_case (inl e) = subst (λ (z : ℕ). Q z (control_of v z)) e (subst (λ (c : Control). Q x c) (sym becomes.here) (h.bound, h.present))
    by_case (inr apart) = subst (λ (c : Control). Q y c) (sym (becomes.others y apart)) (λ s p a. holds.bound y s p (of_other y s p apart a), λ p q a e. holds.present y p q (of_other y (control_of w y).kept.seq p apart a) e)

pub numbers_law : IsLaw NumbersHold IsCounting
numbers_law = record { begins = counting_begins; keeps = counting; ends = counting_ends }

-- in a new world nothing was sent and nothing is known
pub numbers_new : (h : Header) → NumbersHold (new_world h)
numbers_new h = record {
  unique = λ x s p q a c. absurd (a.1);
  bound = λ x s p a. absurd (a.1);
  present = λ x p q a e. absurd (a.1);
  joined = λ x q e. absurd (cc (new_mode x, e));
  table = λ x. subst (λ (p : Process). AllByRecursion (IsAskedFact (new_world h)) p.node.control.kept.table) (sym (new x).1) tt;
  waiting = λ x. subst (λ (p : Process). AllByRecursion (IsAskedFact (new_world h)) p.node.control.kept.log.waiting) (sym (new x).1) tt;
  told = tt;
} where
  new : (x : ℕ) → IsNew x (process (new_world h) x)
  new x = process_in-new h (range_with_len 1 h.nodes) x

  new_mode : (x : ℕ) → mode_of (new_world h) x ≡ modes.Idle
  new_mode x = ap (λ (p : Process). p.node.control.kept.mode) (new x).1

-- the law holds of every world
pub numbers_throughout : (Q : World → Type 0) → ((w : World) → NumbersHold w → Q w) → (h : Header) (events : List Event) → Throughout Q (new_world h) events
numbers_throughout Q follows h events = law_throughout NumbersHold IsCounting numbers_law Q follows h events (numbers_new h)

-- Consequences

-- each fact anywhere has its ask
fact_asked : (w : World) → NumbersHold w → (f : Cert) → IsAnywhere w f → IsAskedFact w f
fact_asked w holds f (inl at) = all_among (IsAskedFact w) (control_of w at.0).kept.table f (holds.table at.0) at.1
fact_asked w holds f (inr (inl at)) = all_among (IsAskedFact w) (control_of w at.0).kept.log.waiting f (holds.waiting at.0) at.1
fact_asked w holds f (inr (inr at)) = by_body at.0.body (came_asked w holds at.0 at.1) at.2 where
  by_body : (b : Body) → IsAskedSend w at.0 b → Tells b f → IsAskedFact w f
  by_body (bodies.CheckIn seq upto rate number clients certs) k tells = all_among (IsAskedFact w) certs f k.1 tells
  by_body b k tells = absurd tells

-- the peer of an ask number has its ask, or is asked now
abbrev IsAskedOrAsking : World → ℕ → ℕ → ℕ → Type 0
IsAskedOrAsking w x s p = HasAsked w x s p ⊎ ((seq_of w x ≡ s) × (mode_of w x ≡ modes.Asking p))

asked_or_asking : (w : World) → NumbersHold w → (x s p : ℕ) → GoesWith w x s p → IsAskedOrAsking w x s p
asked_or_asking w holds x s p (inl now) = by_peer now.1 where
  by_peer : IsPeer (mode_of w x) p → IsAskedOrAsking w x s p
  by_peer (inl asking) = inr (now.0, asking)
  by_peer (inr joined) = inl (subst (λ (t : ℕ). HasAsked w x t p) now.0 (holds.joined x p joined))
asked_or_asking w holds x s p (inr (inl asked)) = inl asked
asked_or_asking w holds x s p (inr (inr k)) =
    let f : Cert = k.0 in
    inl (subst (λ (y : ℕ). HasAsked w y s p) k.2 (subst (λ (t : ℕ). HasAsked w f.subject t p) k.3 (subst (λ (q : ℕ). HasAsked w f.subject f.seq q) k.4 (fact_asked w holds f k.1))))

pub one_peer : (w : World) → NumbersHold w → HaveOnePeer w
one_peer w holds x s p q a c = by_cases (asked_or_asking w holds x s p a) (asked_or_asking w holds x s q c) where
  by_cases : IsAskedOrAsking w x s p → IsAskedOrAsking w x s q → p ≡ q
  by_cases (inl h) (inl k) = holds.unique x s p q h k
  by_cases (inl h) (inr k) = holds.present x p q (subst (λ (t : ℕ). HasAsked w x t p) (sym (k.0)) h) k.1
  by_cases (inr h) (inl k) = sym (holds.present x q p (subst (λ (t : ℕ). HasAsked w x t q) (sym (h.0)) k) h.1)
  by_cases (inr h) (inr k) = cc (h.1, k.1)

pub numbers_below : (w : World) → NumbersHold w → AskNumbersAreBelow w
numbers_below w holds x s p a = by_case (asked_or_asking w holds x s p a) where
  by_case : IsAskedOrAsking w x s p → s ≤ seq_of w x
  by_case (inl h) = holds.bound x s p h
  by_case (inr k) = let e = k.0 in omega (arith, e)
