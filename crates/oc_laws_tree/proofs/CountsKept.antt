-- The law of own numbers: each names one count of clients, since each fact has its pair from a check-in or has none yet, and a
-- node tells only its own pair, whose number rises with each new count.
use Rattle.std.proofs.Common.{◌≡◌, ℕ, ◌+◌, ◌≤◌, true, List, [], ◌∷◌, ◌++◌, ◌⊎◌, inl, inr, refl, ap, sym, ◌∙◌, subst, ⊎_elim, arith}
use Rattle.std.specs.List.{AllByRecursion, range_with_len}
use Rattle.std.proofs.lemmas.Bool.{cases_eq}
use Rattle.oc_base.specs.declared.cert.Cert.{Cert}
use Rattle.oc_model.specs.declared.event.Event.{Event}
use Rattle.oc_model.specs.declared.message.Body.{Body}
use Rattle.oc_model.specs.declared.message.Body.TheVariants as bodies
use Rattle.oc_model.specs.declared.message.Message.{Message}
use Rattle.oc_model.specs.Adopting.{birth}
use Rattle.oc_model.specs.Adoption.{rank_or_last}
use Rattle.oc_model.specs.ChangeLog.{next_certs, place_after}
use Rattle.oc_base.specs.declared.limits.TheConstants.{MAX_CHECK_IN_CERTS}
use Rattle.oc_model.specs.Checking.{life}
use Rattle.oc_model.specs.Node.{Header, Control}
use Rattle.oc_model.specs.Numbers.{IsAmong}
use Rattle.oc_model.specs.Records.{entered}
use Rattle.oc_model.specs.World.{World, Process, process, new_world}
use Rattle.oc_model.proofs.Lists.{all_weaker, all_append}
use Rattle.oc_model.proofs.Processes.{IsNew, process_in-me, process_in-new}
use Rattle.oc_laws_step.proofs.Merges.{among_left, among_split}
use Rattle.oc_laws_step.proofs.Ranges.{all_take}
use Rattle.oc_laws_world.specs.Numbers.{Tells, IsAnywhere}
use Rattle.oc_laws_world.specs.Throughout.{Throughout}
use Rattle.oc_laws_world.proofs.Laws.{law_throughout}
use Rattle.oc_laws_world.proofs.Lifts.{control_of, HasSent, Becomes, IsLaw, at_each}
use Rattle.oc_laws_world.proofs.Listed.{all_among, among_either, all_merge, all_newest, all_noted, all_acked}
use Rattle.oc_laws_world.proofs.Machine.{IsMachine, IsLoose, and_sent, with_kept}
use Rattle.oc_laws_tree.specs.Clients.{HasToldIn, HasTold, GoesWithCount, HaveOneCount, ZeroCountsNone, OwnNumbersAreBelow}
use Rattle.oc_laws_tree.proofs.CheckMessages.{IsNoCheckIn, loose_no_check_in}

-- the pair of number 0 and no clients
abbrev pub IsNoCount : ℕ → ℕ → Type 0
IsNoCount n c = (n ≡ 0) × (c ≡ 0)

-- the pair of a fact is that of no clients yet, or was told by a check-in
abbrev pub IsCountedFact : World → Cert → Type 0
IsCountedFact w f = IsNoCount f.number f.clients ⊎ HasTold w f.subject f.number f.clients

-- the facts in a check-in have such pairs
abbrev pub IsCountedSend : World → Body → Type 0
IsCountedSend w (bodies.CheckIn seq upto rate number clients certs) = AllByRecursion (IsCountedFact w) certs
IsCountedSend w body = Unit {0}

-- the pairs told of a node with this number and count: one number has one count, no number is above the node's own, the own
-- number has the own count, and 0 has no clients
pub record AreCounted (Told : ℕ → ℕ → Type 0) (number clients : ℕ) : Type 0 where
  pub unique : (n c d : ℕ) → Told n c → Told n d → c ≡ d
  pub bound : (n c : ℕ) → Told n c → n ≤ number
  pub present : (c : ℕ) → Told number c → c ≡ clients
  pub empty : (c : ℕ) → Told 0 c → c ≡ 0
  pub begun : number ≡ 0 → clients ≡ 0

-- the law of own numbers in a world
pub record CountsHold (w : World) : Type 0 where
  pub pairs : (x : ℕ) → AreCounted (HasTold w x) (control_of w x).kept.number (control_of w x).kept.clients
  pub table : (x : ℕ) → AllByRecursion (IsCountedFact w) (control_of w x).kept.table
  pub waiting : (x : ℕ) → AllByRecursion (IsCountedFact w) (control_of w x).kept.log.waiting
  pub told : AllByRecursion (λ m. IsCountedSend w m.body) w.net

-- x told this pair before, or by one of these messages
abbrev pub HasToldNow : World → List Message → ℕ → ℕ → ℕ → Type 0
HasToldNow w ms x n c = HasTold w x n c ⊎ HasToldIn ms x n c

-- the law for the node x in the middle of a change of this world: its check-ins may be new, and all facts have their pairs from
-- before
pub record IsCounting (w : World) (x : ℕ) (n : Control) (ms : List Message) : Type 0 where
  pub me : n.me ≡ x
  pub own : (y k c : ℕ) → HasToldIn ms y k c → y ≡ x
  pub pairs : AreCounted (HasToldNow w ms x) n.kept.number n.kept.clients
  pub table : AllByRecursion (IsCountedFact w) n.kept.table
  pub waiting : AllByRecursion (IsCountedFact w) n.kept.log.waiting
  pub told : AllByRecursion (λ m. IsCountedSend w m.body) ms

-- Pairs

-- the node's own pair may be told too
with_own : {Told Now : ℕ → ℕ → Type 0} {number clients : ℕ} → AreCounted Told number clients → ((n c : ℕ) → Now n c → Told n c ⊎ ((number ≡ n) × (clients ≡ c))) → AreCounted Now number clients
with_own {Told = Told} {number = number} {clients = clients} h from = record {
  unique = λ n c d a b. both n c d (from n c a) (from n d b);
  bound = λ n c a. ⊎_elim (λ (old : Told n c). h.bound n c old) (λ (new : (number ≡ n) × (clients ≡ c)). let e = new.0 in omega (arith, e)) (from n c a);
  present = λ c a. ⊎_elim (λ (old : Told number c). h.present c old) (λ (new : (number ≡ number) × (clients ≡ c)). sym (new.1)) (from number c a);
  empty = λ c a. ⊎_elim (λ (old : Told 0 c). h.empty c old) (λ (new : (number ≡ 0) × (clients ≡ c)). sym (new.1) ∙ h.begun new.0) (from 0 c a);
  begun = h.begun;
} where
  both : (n c d : ℕ) → Told n c ⊎ ((number ≡ n) × (clients ≡ c)) → Told n d ⊎ ((number ≡ n) × (clients ≡ d)) → c ≡ d
  both n c d (inl a) (inl b) = h.unique n c d a b
  both n c d (inl a) (inr b) = h.present c (subst (λ (k : ℕ). Told k c) (sym (b.0)) a) ∙ b.1
  both n c d (inr a) (inl b) = sym (h.present d (subst (λ (k : ℕ). Told k d) (sym (a.0)) b) ∙ a.1)
  both n c d (inr a) (inr b) = sym (a.1) ∙ b.1

-- the pair of no clients may be told too
with_none : {Told Now : ℕ → ℕ → Type 0} {number clients : ℕ} → AreCounted Told number clients → ((n c : ℕ) → Now n c → Told n c ⊎ IsNoCount n c) → AreCounted Now number clients
with_none {Told = Told} {number = number} {clients = clients} h from = record {
  unique = λ n c d a b. both n c d (from n c a) (from n d b);
  bound = λ n c a. ⊎_elim (λ (old : Told n c). h.bound n c old) (λ (new : IsNoCount n c). let e = new.0 in omega (arith, e)) (from n c a);
  present = λ c a. ⊎_elim (λ (old : Told number c). h.present c old) (λ (new : IsNoCount number c). new.1 ∙ sym (h.begun new.0)) (from number c a);
  empty = λ c a. ⊎_elim (λ (old : Told 0 c). h.empty c old) (λ (new : IsNoCount 0 c). new.1) (from 0 c a);
  begun = h.begun;
} where
  both : (n c d : ℕ) → Told n c ⊎ IsNoCount n c → Told n d ⊎ IsNoCount n d → c ≡ d
  both n c d (inl a) (inl b) = h.unique n c d a b
  both n c d (inl a) (inr b) = h.empty c (subst (λ (k : ℕ). Told k c) b.0 a) ∙ sym (b.1)
  both n c d (inr a) (inl b) = a.1 ∙ sym (h.empty d (subst (λ (k : ℕ). Told k d) a.0 b))
  both n c d (inr a) (inr b) = a.1 ∙ sym (b.1)

-- fewer pairs may be told
fewer : {Told Now : ℕ → ℕ → Type 0} {number clients : ℕ} → AreCounted Told number clients → ((n c : ℕ) → Now n c → Told n c) → AreCounted Now number clients
fewer h from = with_own h (λ n c a. inl (from n c a))

-- the next number is new, so it may have any count
raised : {Told : ℕ → ℕ → Type 0} {number clients : ℕ} → AreCounted Told number clients → (next : ℕ) → AreCounted Told (number + 1) next
raised {number = number} h next = record {
  unique = h.unique;
  bound = λ n c a. let below = h.bound n c a in omega (arith, below);
  present = λ c a. let below = h.bound (number + 1) c a in absurd (omega (arith, below));
  empty = h.empty;
  begun = λ e. absurd (omega (arith, e));
}

-- Messages

-- a pair that is told among two lists in a row is told in one of them
told_either : (net ms : List Message) (x n c : ℕ) → HasToldIn (net ++ ms) x n c → HasToldIn net x n c ⊎ HasToldIn ms x n c
told_either net ms x n c a =
    let m : Message = record { from = x; to = a.0; body = bodies.CheckIn a.1 a.2 a.3 n c a.4 } in
    ⊎_elim (λ (old : IsAmong m net). inl (a.0, a.1, a.2, a.3, a.4, old)) (λ (new : IsAmong m ms). inr (a.0, a.1, a.2, a.3, a.4, new)) (among_either m net ms a.5)

-- a pair was told by the last message or before
told_last : (ms : List Message) (m : Message) (x n c : ℕ) → HasToldIn (ms ++ m ∷ []) x n c
    → HasToldIn ms x n c ⊎ ((y s upto rate : ℕ) × (certs : List Cert) × (m ≡ record { from = x; to = y; body = bodies.CheckIn s upto rate n c certs }))
told_last ms m x n c a =
    let k : Message = record { from = x; to = a.0; body = bodies.CheckIn a.1 a.2 a.3 n c a.4 } in
    ⊎_elim (λ (old : IsAmong k ms). inl (a.0, a.1, a.2, a.3, a.4, old)) (λ (e : m ≡ k). inr (a.0, a.1, a.2, a.3, a.4, e)) (among_split k m ms a.5)

-- a message that is no check-in tells no pair
no_check_in : (ms : List Message) (m : Message) → IsNoCheckIn m.body → (y n c : ℕ) → HasToldIn (ms ++ m ∷ []) y n c → HasToldIn ms y n c
no_check_in ms m other y n c a = ⊎_elim
    (λ (old : HasToldIn ms y n c). old)
    (λ (new : (p s upto rate : ℕ) × (certs : List Cert) × (m ≡ record { from = y; to = p; body = bodies.CheckIn s upto rate n c certs })). absurd (subst (λ (l : Message). IsNoCheckIn l.body) new.5 other))
    (told_last ms m y n c a)

-- one more message that is no check-in
and_other : (w : World) (x : ℕ) (n : Control) (ms : List Message) (p : ℕ) (b : Body) → IsNoCheckIn b → IsCountedSend w b → IsCounting w x n ms → IsCounting w x n (and_sent n ms p b)
and_other w x n ms p b other counted h =
    let m : Message = record { from = n.me; to = p; body = b } in
    record {
      me = h.me;
      own = λ y k c a. h.own y k c (no_check_in ms m other y k c a);
      pairs = fewer h.pairs (λ k c a. ⊎_elim (λ (old : HasTold w x k c). inl old) (λ (new : HasToldIn (ms ++ m ∷ []) x k c). inr (no_check_in ms m other x k c new)) a);
      table = h.table;
      waiting = h.waiting;
      told = all_append (λ l. IsCountedSend w l.body) ms (m ∷ []) h.told (counted, tt);
    }

-- the number and the count of the sender in a check-in
abbrev number_told : Body → ℕ
number_told (bodies.CheckIn seq upto rate number clients certs) = number
number_told body = 0

abbrev clients_told : Body → ℕ
clients_told (bodies.CheckIn seq upto rate number clients certs) = clients
clients_told body = 0

-- a told pair was told before or by the new check-in
check_in_told : (ms : List Message) (x p s upto rate number clients : ℕ) (certs : List Cert) (y n c : ℕ)
    → HasToldIn (ms ++ record { from = x; to = p; body = bodies.CheckIn s upto rate number clients certs } ∷ []) y n c → HasToldIn ms y n c ⊎ ((x ≡ y) × (number ≡ n) × (clients ≡ c))
check_in_told ms x p s upto rate number clients certs y n c a =
    let m : Message = record { from = x; to = p; body = bodies.CheckIn s upto rate number clients certs } in
    ⊎_elim
    (λ (old : HasToldIn ms y n c). inl old)
    (λ (new : (q t place speed : ℕ) × (facts : List Cert) × (m ≡ record { from = y; to = q; body = bodies.CheckIn t place speed n c facts })).
    inr (ap (λ (l : Message). l.from) new.5, ap (λ (l : Message). number_told l.body) new.5, ap (λ (l : Message). clients_told l.body) new.5))
    (told_last ms m y n c a)

-- one more check-in of the node, which tells its own pair and the waiting facts
and_checked_in : (w : World) (x : ℕ) (n : Control) (ms : List Message) (p rate : ℕ) → IsCounting w x n ms
    → IsCounting w x n (and_sent n ms p (bodies.CheckIn n.kept.seq (place_after n.kept.log) rate n.kept.number n.kept.clients (next_certs n.kept.log)))
and_checked_in w x n ms p rate h = record {
  me = h.me;
  own = λ y k c a. ⊎_elim (λ (old : HasToldIn ms y k c). h.own y k c old) (λ (new : (n.me ≡ y) × (n.kept.number ≡ k) × (n.kept.clients ≡ c)). sym (new.0) ∙ h.me) (split y k c a);
  pairs = with_own h.pairs now;
  table = h.table;
  waiting = h.waiting;
  told = all_append (λ l. IsCountedSend w l.body) ms (record { from = n.me; to = p; body = b } ∷ []) h.told (all_take (IsCountedFact w) MAX_CHECK_IN_CERTS n.kept.log.waiting h.waiting, tt);
} where
  b : Body
  b = bodies.CheckIn n.kept.seq (place_after n.kept.log) rate n.kept.number n.kept.clients (next_certs n.kept.log)

  split : (y k c : ℕ) → HasToldIn (and_sent n ms p b) y k c → HasToldIn ms y k c ⊎ ((n.me ≡ y) × (n.kept.number ≡ k) × (n.kept.clients ≡ c))
  split y k c a = check_in_told ms n.me p n.kept.seq (place_after n.kept.log) rate n.kept.number n.kept.clients (next_certs n.kept.log) y k c a

  now : (k c : ℕ) → HasToldNow w (and_sent n ms p b) x k c → HasToldNow w ms x k c ⊎ ((n.kept.number ≡ k) × (n.kept.clients ≡ c))
  now k c (inl old) = inl (inl old)
  now k c (inr a) = ⊎_elim (λ (old : HasToldIn ms x k c). inl (inr old)) (λ (new : (n.me ≡ x) × (n.kept.number ≡ k) × (n.kept.clients ≡ c)). inr (new.1, new.2)) (split x k c a)

-- a message of which the tree's laws do not speak
loose_counted : (w : World) (b : Body) → IsLoose b → IsCountedSend w b
loose_counted w (bodies.CheckIn seq upto rate number clients certs) loose = absurd loose
loose_counted w b loose = tt

-- the facts in sent messages have their pairs from before
came_counted : (w : World) → CountsHold w → (m : Message) → IsAmong m w.net → IsCountedSend w m.body
came_counted w holds m among = all_among (λ l. IsCountedSend w l.body) w.net m holds.told among

-- Changes

-- a certificate comes into the table
and_entered : (w : World) (x : ℕ) (n : Control) (ms : List Message) (c : Cert) → IsCountedFact w c → IsCounting w x n ms → IsCounting w x (with_kept n (entered n.kept c)) ms
and_entered w x n ms c counted h = record {
  me = h.me;
  own = h.own;
  pairs = h.pairs;
  table = all_merge (IsCountedFact w) n.kept.table c counted h.table;
  waiting = all_noted (IsCountedFact w) n.kept.mode n.kept.log c counted h.waiting;
  told = h.told;
}

-- a certificate of a check-in has its pair
told_counted : (w : World) (x y parent s upto rate number clients : ℕ) (certs : List Cert) (c : Cert) → CountsHold w → HasSent w x y (bodies.CheckIn s upto rate number clients certs)
    → IsAmong c (life y s parent number clients ∷ certs) → IsCountedFact w c
told_counted w x y parent s upto rate number clients certs c holds sent among =
    let counted = came_counted w holds (record { from = y; to = x; body = bodies.CheckIn s upto rate number clients certs }) sent in
    all_among (IsCountedFact w) (life y s parent number clients ∷ certs) c (inr (x, s, upto, rate, certs, sent), counted) among

-- each small change keeps the law
counting : (w : World) (x : ℕ) → CountsHold w → IsMachine (HasSent w x) (IsCounting w x)
counting w x holds = record {
  soft = λ n ms s h. record { me = h.me; own = h.own; pairs = h.pairs; table = h.table; waiting = h.waiting; told = h.told };
  lists = λ n ms leases rates counts h. record { me = h.me; own = h.own; pairs = h.pairs; table = h.table; waiting = h.waiting; told = h.told };
  aside = λ n ms ancestors measures h. record { me = h.me; own = h.own; pairs = h.pairs; table = h.table; waiting = h.waiting; told = h.told };
  falls = λ n ms h. record { me = h.me; own = h.own; pairs = h.pairs; table = h.table; waiting = tt; told = h.told };
  asks = λ n ms p unspent h. record { me = h.me; own = h.own; pairs = h.pairs; table = h.table; waiting = tt; told = h.told };
  acts = λ n ms h. record { me = h.me; own = h.own; pairs = h.pairs; table = h.table; waiting = tt; told = h.told };
  raises = λ n ms e acting above h. record { me = h.me; own = h.own; pairs = h.pairs; table = h.table; waiting = h.waiting; told = h.told };
  joins = λ n ms p r xs sent asking shallow before h. record { me = h.me; own = h.own; pairs = h.pairs; table = h.table; waiting = h.table; told = h.told };
  ranks = λ n ms p upto r xs sent joined better h. record { me = h.me; own = h.own; pairs = h.pairs; table = h.table; waiting = h.waiting; told = h.told };
  acks = λ n ms p upto r xs sent joined ahead h. record { me = h.me; own = h.own; pairs = h.pairs; table = h.table; waiting = all_acked (IsCountedFact w) n.kept.log upto h.waiting; told = h.told };
  adopts = λ n ms y s r sent tree news h. and_entered w x n ms (birth y s n.me) (inl (refl, refl)) h;
  merges = λ n ms y s upto rate number clients certs c sent among news h. and_entered w x n ms c (told_counted w x y n.me s upto rate number clients certs c holds sent among) h;
  ends = λ n ms y e found own news h. and_entered w x n ms (record e { dead = true }) (all_newest (IsCountedFact w) n.kept.table y e found h.table) h;
  counts = λ n ms clients more h. record { me = h.me; own = h.own; pairs = raised h.pairs clients; table = h.table; waiting = h.waiting; told = h.told };
  says = λ n ms p b loose h. and_other w x n ms p b (loose_no_check_in b loose) (loose_counted w b loose) h;
  says_ask = λ n ms p asking h. and_other w x n ms p (bodies.Ask n.kept.seq n.kept.rank) tt tt h;
  says_yes = λ n ms y s r sent tree leased h. and_other w x n ms y (bodies.Yes s (rank_or_last n.kept.rank) n.kept.ancestors) tt tt h;
  says_check_in = λ n ms p rate joined h. and_checked_in w x n ms p rate h;
  says_check_ack = λ n ms y s upto rate number clients certs sent known h. and_other w x n ms y (bodies.CheckAck s upto (rank_or_last n.kept.rank) n.kept.ancestors) tt tt h;
  drops = λ n ms h. record {
    me = h.me;
    own = λ y k c a. absurd (a.5);
    pairs = fewer h.pairs (λ k c a. ⊎_elim (λ (old : HasTold w x k c). inl old) (λ (new : HasToldIn [] x k c). absurd (new.5)) a);
    table = h.table;
    waiting = h.waiting;
    told = tt;
  };
  starts = λ n ms h. record { me = h.me; own = h.own; pairs = h.pairs; table = h.table; waiting = h.waiting; told = h.told };
}

-- the law holds for x before the change
counting_begins : (w : World) (x : ℕ) → CountsHold w → IsCounting w x (control_of w x) []
counting_begins w x holds = record {
  me = process_in-me w.processes x;
  own = λ y k c a. absurd (a.5);
  pairs = fewer (holds.pairs x) (λ k c a. ⊎_elim (λ (old : HasTold w x k c). old) (λ (new : HasToldIn [] x k c). absurd (new.5)) a);
  table = holds.table x;
  waiting = holds.waiting x;
  told = tt;
}

-- the law holds of the world after the change
counting_ends : (w v : World) (x : ℕ) (n : Control) (ms : List Message) → CountsHold w → Becomes w x n ms v → IsCounting w x n ms → CountsHold v
counting_ends w v x n ms holds becomes h = record {
  pairs = λ y. by_case y (cases_eq x y);
  table = at_each w v x n ms becomes (λ y c. AllByRecursion (IsCountedFact v) c.kept.table) (facts n.kept.table h.table) (λ y apart. facts (control_of w y).kept.table (holds.table y));
  waiting = at_each w v x n ms becomes (λ y c. AllByRecursion (IsCountedFact v) c.kept.log.waiting) (facts n.kept.log.waiting h.waiting) (λ y apart. facts (control_of w y).kept.log.waiting (holds.waiting y));
  told = subst (λ (net : List Message). AllByRecursion (λ m. IsCountedSend v m.body) net) (sym becomes.net)
      (all_append (λ m. IsCountedSend v m.body) w.net ms
      (all_weaker (λ m. IsCountedSend w m.body) (λ m. IsCountedSend v m.body) (λ m k. sends m.body k) w.net holds.told)
      (all_weaker (λ m. IsCountedSend w m.body) (λ m. IsCountedSend v m.body) (λ m k. sends m.body k) ms h.told));
} where
  -- a pair that was told stays told
  later : (y k c : ℕ) → HasTold w y k c → HasTold v y k c
  later y k c a =
      let m : Message = record { from = y; to = a.0; body = bodies.CheckIn a.1 a.2 a.3 k c a.4 } in
      (a.0, a.1, a.2, a.3, a.4, subst (λ (net : List Message). IsAmong m net) (sym becomes.net) (among_left m w.net ms a.5))

  facts : (cs : List Cert) → AllByRecursion (IsCountedFact w) cs → AllByRecursion (IsCountedFact v) cs
  facts cs all = all_weaker (IsCountedFact w) (IsCountedFact v)
      (λ f k. ⊎_elim (λ (none : IsNoCount f.number f.clients). inl none) (λ (told : HasTold w f.subject f.number f.clients). inr (later f.subject f.number f.clients told)) k) cs all

  sends : (b : Body) → IsCountedSend w b → IsCountedSend v b
  sends (bodies.CheckIn seq upto rate number clients certs) k = facts certs k
  sends b k = tt

  -- each told pair was told before or now
  now : (y k c : ℕ) → HasTold v y k c → HasToldNow w ms y k c
  now y k c a = told_either w.net ms y k c (subst (λ (net : List Message). HasToldIn net y k c) becomes.net a)

  -- a pair of a node that sent nothing now was told before
  of_other : (y k c : ℕ) → (x ≡ y → ⊥) → HasToldNow w ms y k c → HasTold w y k c
  of_other y k c apart (inl old) = old
  of_other y k c apart (inr new) = absurd (apart (sym (h.own y k c new)))

  -- the pairs of each node
  Q : ℕ → Control → Type 0
  Q y c = AreCounted (HasTold v y) c.kept.number c.kept.clients

  by_case : (y : ℕ) → (x ≡ y) ⊎ (x ≡ y → ⊥) → Q y (control_of v y)
  by_case y (inl e) = subst (λ (z : ℕ). Q z (control_of v z)) e (subst (λ (c : Control). Q x c) (sym becomes.here) (fewer h.pairs (λ k c a. now x k c a)))
  by_case y (inr apart) = subst (λ (c : Control). Q y c) (sym (becomes.others y apart)) (fewer (holds.pairs y) (λ k c a. of_other y k c apart (now y k c a)))

pub counts_law : IsLaw CountsHold IsCounting
counts_law = record { begins = counting_begins; keeps = counting; ends = counting_ends }

-- in a new world nothing was told and nothing is known
pub counts_new : (h : Header) → CountsHold (new_world h)
counts_new h = record {
  pairs = λ x. subst (λ (p : Process). AreCounted (HasTold (new_world h) x) p.node.control.kept.number p.node.control.kept.clients) (sym (new x).1)
      (record { unique = λ n c d a b. absurd (a.5); bound = λ n c a. absurd (a.5); present = λ c a. absurd (a.5); empty = λ c a. absurd (a.5); begun = λ e. refl });
  table = λ x. subst (λ (p : Process). AllByRecursion (IsCountedFact (new_world h)) p.node.control.kept.table) (sym (new x).1) tt;
  waiting = λ x. subst (λ (p : Process). AllByRecursion (IsCountedFact (new_world h)) p.node.control.kept.log.waiting) (sym (new x).1) tt;
  told = tt;
} where
  new : (x : ℕ) → IsNew x (process (new_world h) x)
  new x = process_in-new h (range_with_len 1 h.nodes) x

-- the law holds of every world
pub counts_throughout : (Q : World → Type 0) → ((w : World) → CountsHold w → Q w) → (h : Header) (events : List Event) → Throughout Q (new_world h) events
counts_throughout Q follows h events = law_throughout CountsHold IsCounting counts_law Q follows h events (counts_new h)

-- Consequences

-- each fact anywhere has its pair
fact_counted : (w : World) → CountsHold w → (f : Cert) → IsAnywhere w f → IsCountedFact w f
fact_counted w holds f (inl at) = all_among (IsCountedFact w) (control_of w at.0).kept.table f (holds.table at.0) at.1
fact_counted w holds f (inr (inl at)) = all_among (IsCountedFact w) (control_of w at.0).kept.log.waiting f (holds.waiting at.0) at.1
fact_counted w holds f (inr (inr at)) = by_body at.0.body (came_counted w holds at.0 at.1) at.2 where
  by_body : (b : Body) → IsCountedSend w b → Tells b f → IsCountedFact w f
  by_body (bodies.CheckIn seq upto rate number clients certs) k tells = all_among (IsCountedFact w) certs f k tells
  by_body b k tells = absurd tells

-- a pair that x told, or that of no clients
abbrev IsToldOrNone : World → ℕ → ℕ → ℕ → Type 0
IsToldOrNone w x n c = HasTold w x n c ⊎ IsNoCount n c

-- the law for told pairs holds of all pairs that go with a number: each of these was told, is that of no clients, or is the
-- node's own
all_counted : (w : World) → CountsHold w → (x : ℕ) → AreCounted (GoesWithCount w x) (control_of w x).kept.number (control_of w x).kept.clients
all_counted w holds x = with_own (with_none (holds.pairs x) (λ n c a. a)) from where
  of_fact : (f : Cert) → IsCountedFact w f → (n c : ℕ) → f.subject ≡ x → f.number ≡ n → f.clients ≡ c → IsToldOrNone w x n c
  of_fact f (inl none) n c same number clients = inr (sym number ∙ none.0, sym clients ∙ none.1)
  of_fact f (inr told) n c same number clients =
      inl (subst (λ (y : ℕ). HasTold w y n c) same (subst (λ (k : ℕ). HasTold w f.subject k c) number (subst (λ (d : ℕ). HasTold w f.subject f.number d) clients told)))

  from : (n c : ℕ) → GoesWithCount w x n c → IsToldOrNone w x n c ⊎ (((control_of w x).kept.number ≡ n) × ((control_of w x).kept.clients ≡ c))
  from n c (inl own) = inr own
  from n c (inr (inl told)) = inl (inl told)
  from n c (inr (inr k)) = inl (of_fact k.0 (fact_counted w holds k.0 k.1) n c k.2 k.3 k.4)

pub one_count : (w : World) → CountsHold w → HaveOneCount w
one_count w holds x n c d a b = (all_counted w holds x).unique n c d a b

pub zero_counts_none : (w : World) → CountsHold w → ZeroCountsNone w
zero_counts_none w holds x c a = (all_counted w holds x).empty c a

pub own_numbers_below : (w : World) → CountsHold w → OwnNumbersAreBelow w
own_numbers_below w holds x n c a = (all_counted w holds x).bound n c a
