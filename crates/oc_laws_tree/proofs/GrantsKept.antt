-- The law of grants: each fact is known at the parent that it names, and each lease at the node that said yes to it and at the
-- child's parent. No table forgets, so told facts stay known.
use Rattle.std.proofs.Common.{◌≡◌, ℕ, Bool, true, false, not, ◌==◌, if◌then◌else◌, Option, Some, None, List, [], ◌∷◌, inl, inr, refl, ap, sym, subst, ◌∙◌, arith, eqb-true}
use Rattle.std.specs.List.{AllByRecursion, range_with_len}
use Rattle.std.proofs.lemmas.Bool.{and_parts, false_from_ne_true}
use Rattle.oc_base.specs.declared.cert.Cert.{Cert}
use Rattle.oc_base.specs.Cert.{Outranks}
use Rattle.oc_model.specs.declared.message.Body.{Body}
use Rattle.oc_model.specs.declared.message.Body.TheVariants as bodies
use Rattle.oc_model.specs.declared.message.Message.{Message}
use Rattle.oc_model.specs.declared.mode.Mode.TheVariants as modes
use Rattle.oc_model.specs.Adopting.{birth, has_lease, is_number}
use Rattle.oc_model.specs.Adoption.{rank_or_last}
use Rattle.oc_model.specs.Certificates.{outranks}
use Rattle.oc_model.specs.Chains.{IsJoined}
use Rattle.oc_model.specs.ChangeLog.{next_certs, place_after}
use Rattle.oc_base.specs.declared.limits.TheConstants.{MAX_CHECK_IN_CERTS}
use Rattle.oc_model.specs.Checking.{life}
use Rattle.oc_model.specs.ClaimsTree.{table_of, seq_of}
use Rattle.oc_model.specs.Node.{Header, Control}
use Rattle.oc_model.specs.Numbers.{IsAmong}
use Rattle.oc_model.specs.Records.{entered}
use Rattle.oc_model.specs.Table.{newest, is_news_to, is_lease_of, lease_number}
use Rattle.oc_model.specs.World.{World, Process, process, mode_of, new_world}
use Rattle.oc_model.proofs.Lists.{all_weaker, all_append}
use Rattle.oc_model.proofs.Processes.{IsNew, process_in-me, process_in-new}
use Rattle.oc_laws_step.proofs.CertOrder.{outranks_fact}
use Rattle.oc_laws_step.proofs.Ranges.{all_take}
use Rattle.oc_laws_step.proofs.Tables.{merge_takes, merge_keeps}
use Rattle.oc_laws_world.specs.Numbers.{Tells, IsAnywhere}
use Rattle.oc_laws_world.proofs.Lifts.{control_of, HasSent, Becomes, IsLaw, at_each}
use Rattle.oc_laws_world.proofs.Listed.{all_among, all_merge, all_noted, all_acked}
use Rattle.oc_laws_world.proofs.Machine.{IsMachine, IsLoose, and_sent, with_kept}
use Rattle.oc_laws_tree.specs.Grants.{HasSaidYes}
use Rattle.oc_laws_tree.proofs.Known.{Knows, table_now, Grow, now_grows, now_here, now_begins, now_since, now_ends, now_later}

-- the parent that a fact names knows the fact, by these tables
abbrev pub IsGranted : (ℕ → List Cert) → Cert → Type 0
IsGranted tables f = Knows (tables f.parent) f

abbrev pub AreGranted : (ℕ → List Cert) → List Cert → Type 0
AreGranted tables fs = AllByRecursion (IsGranted tables) fs

-- the sender of a yes knows the lease, and the parents that the facts of a check-in name know the facts
abbrev pub IsGrantedSend : (ℕ → List Cert) → Message → Body → Type 0
IsGrantedSend tables m (bodies.Yes seq rank ancestors) = Knows (tables m.from) (birth m.to seq m.from)
IsGrantedSend tables m (bodies.CheckIn seq upto rate number clients certs) = AreGranted tables certs
IsGrantedSend tables m body = Unit {0}

abbrev pub AreGrantedSends : (ℕ → List Cert) → List Message → Type 0
AreGrantedSends tables ms = AllByRecursion (λ m. IsGrantedSend tables m m.body) ms

-- the law of grants in a world
pub record GrantsHold (w : World) : Type 0 where
  pub table : (x : ℕ) → AreGranted (table_of w) (control_of w x).kept.table
  pub waiting : (x : ℕ) → AreGranted (table_of w) (control_of w x).kept.log.waiting
  pub told : AreGrantedSends (table_of w) w.net
  pub joined : (x q : ℕ) → (control_of w x).kept.mode ≡ modes.Joined q → Knows (table_of w q) (birth x (control_of w x).kept.seq q)

-- the law for the node x in the middle of a change of this world: by its present table, which has forgotten nothing of the one
-- before
pub record IsGranting (w : World) (x : ℕ) (n : Control) (ms : List Message) : Type 0 where
  pub me : n.me ≡ x
  pub grows : (f : Cert) → Knows (control_of w x).kept.table f → Knows n.kept.table f
  pub table : AreGranted (table_now w x n) n.kept.table
  pub waiting : AreGranted (table_now w x n) n.kept.log.waiting
  pub told : AreGrantedSends (table_now w x n) ms
  pub joined : (q : ℕ) → n.kept.mode ≡ modes.Joined q → Knows (table_now w x n q) (birth x n.kept.seq q)

-- Tables that grow

granted_grow : (before after : ℕ → List Cert) → Grow before after → (fs : List Cert) → AreGranted before fs → AreGranted after fs
granted_grow before after grow fs all = all_weaker (IsGranted before) (IsGranted after) (λ f k. grow f.parent f k) fs all

sends_grow : (before after : ℕ → List Cert) → Grow before after → (ms : List Message) → AreGrantedSends before ms → AreGrantedSends after ms
sends_grow before after grow ms all = all_weaker (λ m. IsGrantedSend before m m.body) (λ m. IsGrantedSend after m m.body) (λ m k. by_body m m.body k) ms all where
  by_body : (m : Message) (b : Body) → IsGrantedSend before m b → IsGrantedSend after m b
  by_body m (bodies.Yes seq rank ancestors) k = grow m.from (birth m.to seq m.from) k
  by_body m (bodies.CheckIn seq upto rate number clients certs) k = granted_grow before after grow certs k
  by_body m b k = tt

-- Sources

-- a sent message is granted from before
came_granted : (w : World) → GrantsHold w → (m : Message) → IsAmong m w.net → IsGrantedSend (table_of w) m m.body
came_granted w holds m among = all_among (λ l. IsGrantedSend (table_of w) l l.body) w.net m holds.told among

-- a certificate in the table of its parent is granted
entered_here : (w : World) (x : ℕ) (n : Control) (ms : List Message) (c : Cert) → c.parent ≡ n.me → IsGranting w x n ms → IsGranted (table_now w x (with_kept n (entered n.kept c))) c
entered_here w x n ms c own h = now_here w x (with_kept n (entered n.kept c)) c.parent c (own ∙ h.me) (merge_takes n.kept.table c)

-- a certificate of a check-in is granted
entered_told : (w : World) (x : ℕ) (n : Control) (ms : List Message) (y s upto rate number clients : ℕ) (certs : List Cert) (c : Cert) → GrantsHold w
    → HasSent w x y (bodies.CheckIn s upto rate number clients certs) → IsAmong c (life y s n.me number clients ∷ certs) → IsGranting w x n ms → IsGranted (table_now w x (with_kept n (entered n.kept c))) c
entered_told w x n ms y s upto rate number clients certs c holds sent (inl e) h = entered_here w x n ms c (sym (ap (λ (k : Cert). k.parent) e)) h
entered_told w x n ms y s upto rate number clients certs c holds sent (inr among) h =
    let granted : AreGranted (table_of w) certs = came_granted w holds (record { from = y; to = x; body = bodies.CheckIn s upto rate number clients certs }) sent in
    now_since w x (with_kept n (entered n.kept c)) (λ f k. merge_keeps n.kept.table c f (h.grows f k)) c.parent c (all_among (IsGranted (table_of w)) certs c granted among)

-- a node that holds a lease knows it
pub lease_known : (n : Control) (y s : ℕ) → has_lease n y s ≡ true → Knows n.kept.table (birth y s n.me)
lease_known n y s leased = by_found (newest n.kept.table y) leased where
  f : Cert
  f = birth y s n.me

  not_later : (k : Cert) → k.seq ≡ s → k.dead ≡ false → Outranks f k → ⊥
  not_later k same alive (inl more) = omega (arith, same, more)
  not_later k same alive (inr (inl death)) = absurd (cc death.1)
  not_later k same alive (inr (inr more)) = let less = more.2 in omega (arith, less)

  by_lease : (k : Cert) (b : Bool) → is_lease_of n.me k ≡ b → is_number (if b then Some k.seq else None) s ≡ true → outranks f k ≡ false
  by_lease k true is e = false_from_ne_true (outranks f k) (λ h. not_later k (eqb-true k.seq s e) (alive k.dead (and_parts (not k.dead) (k.parent == n.me) is).0) (outranks_fact f k h)) where
    alive : (d : Bool) → not d ≡ true → d ≡ false
    alive true g = absurd cc
    alive false g = refl
  by_lease k false is e = absurd cc

  by_found : (found : Option Cert) → is_number (lease_number n.me found) s ≡ true → is_news_to found f ≡ false
  by_found None e = absurd cc
  by_found (Some k) e = by_lease k (is_lease_of n.me k) refl e

-- Changes

-- a certificate comes into the table
and_entered : (w : World) (x : ℕ) (n : Control) (ms : List Message) (c : Cert) → IsGranted (table_now w x (with_kept n (entered n.kept c))) c → IsGranting w x n ms
    → IsGranting w x (with_kept n (entered n.kept c)) ms
and_entered w x n ms c granted h = record {
  me = h.me;
  grows = λ f k. merge_keeps n.kept.table c f (h.grows f k);
  table = all_merge (IsGranted after) n.kept.table c granted (granted_grow before after grow n.kept.table h.table);
  waiting = all_noted (IsGranted after) n.kept.mode n.kept.log c granted (granted_grow before after grow n.kept.log.waiting h.waiting);
  told = sends_grow before after grow ms h.told;
  joined = λ q e. grow q (birth x n.kept.seq q) (h.joined q e);
} where
  before : ℕ → List Cert
  before = table_now w x n

  after : ℕ → List Cert
  after = table_now w x (with_kept n (entered n.kept c))

  grow : Grow (table_now w x n) (table_now w x (with_kept n (entered n.kept c)))
  grow = now_grows w x n (with_kept n (entered n.kept c)) (λ f k. merge_keeps n.kept.table c f k)

-- one more message
and_told : (w : World) (x : ℕ) (n : Control) (ms : List Message) (p : ℕ) (b : Body) → IsGrantedSend (table_now w x n) (record { from = n.me; to = p; body = b }) b → IsGranting w x n ms
    → IsGranting w x n (and_sent n ms p b)
and_told w x n ms p b granted h = record {
  me = h.me;
  grows = h.grows;
  table = h.table;
  waiting = h.waiting;
  told = all_append (λ m. IsGrantedSend (table_now w x n) m m.body) ms (record { from = n.me; to = p; body = b } ∷ []) h.told (granted, tt);
  joined = h.joined;
}

-- a message of which the tree's laws do not speak
loose_granted : (tables : ℕ → List Cert) (m : Message) (b : Body) → IsLoose b → IsGrantedSend tables m b
loose_granted tables m (bodies.Yes seq rank ancestors) loose = absurd loose
loose_granted tables m (bodies.CheckIn seq upto rate number clients certs) loose = absurd loose
loose_granted tables m b loose = tt

-- each small change keeps the law
granting : (w : World) (x : ℕ) → GrantsHold w → IsMachine (HasSent w x) (IsGranting w x)
granting w x holds = record {
  soft = λ n ms s h. record { me = h.me; grows = h.grows; table = h.table; waiting = h.waiting; told = h.told; joined = h.joined };
  lists = λ n ms leases rates counts h. record { me = h.me; grows = h.grows; table = h.table; waiting = h.waiting; told = h.told; joined = h.joined };
  aside = λ n ms ancestors measures h. record { me = h.me; grows = h.grows; table = h.table; waiting = h.waiting; told = h.told; joined = h.joined };
  falls = λ n ms h. record { me = h.me; grows = h.grows; table = h.table; waiting = tt; told = h.told; joined = λ q e. absurd cc };
  asks = λ n ms p unspent h. record { me = h.me; grows = h.grows; table = h.table; waiting = tt; told = h.told; joined = λ q e. absurd cc };
  acts = λ n ms h. record { me = h.me; grows = h.grows; table = h.table; waiting = tt; told = h.told; joined = λ q e. absurd cc };
  raises = λ n ms e acting above h. record { me = h.me; grows = h.grows; table = h.table; waiting = h.waiting; told = h.told; joined = h.joined };
  joins = λ n ms p r xs sent asking shallow before h. record {
    me = h.me;
    grows = h.grows;
    table = h.table;
    waiting = h.table;
    told = h.told;
    joined = λ q e.
        let same : p ≡ q = cc e in
        subst (λ (z : ℕ). Knows (table_now w x n z) (birth x n.kept.seq z)) same
        (now_since w x n h.grows p (birth x n.kept.seq p) (came_granted w holds (record { from = p; to = x; body = bodies.Yes n.kept.seq r xs }) sent));
  };
  ranks = λ n ms p upto r xs sent joined better h. record { me = h.me; grows = h.grows; table = h.table; waiting = h.waiting; told = h.told; joined = h.joined };
  acks = λ n ms p upto r xs sent joined ahead h. record {
    me = h.me;
    grows = h.grows;
    table = h.table;
    waiting = all_acked (IsGranted (table_now w x n)) n.kept.log upto h.waiting;
    told = h.told;
    joined = h.joined;
  };
  adopts = λ n ms y s r sent tree news h. and_entered w x n ms (birth y s n.me) (entered_here w x n ms (birth y s n.me) refl h) h;
  merges = λ n ms y s upto rate number clients certs c sent among news h. and_entered w x n ms c (entered_told w x n ms y s upto rate number clients certs c holds sent among h) h;
  ends = λ n ms y k found own news h. and_entered w x n ms (record k { dead = true }) (entered_here w x n ms (record k { dead = true }) own h) h;
  counts = λ n ms clients more h. record { me = h.me; grows = h.grows; table = h.table; waiting = h.waiting; told = h.told; joined = h.joined };
  says = λ n ms p b loose h. and_told w x n ms p b (loose_granted (table_now w x n) (record { from = n.me; to = p; body = b }) b loose) h;
  says_ask = λ n ms p asking h. and_told w x n ms p (bodies.Ask n.kept.seq n.kept.rank) tt h;
  says_yes = λ n ms y s r sent tree leased h. and_told w x n ms y (bodies.Yes s (rank_or_last n.kept.rank) n.kept.ancestors) (now_here w x n n.me (birth y s n.me) h.me (lease_known n y s leased)) h;
  says_check_in = λ n ms p rate joined h.
      and_told w x n ms p (bodies.CheckIn n.kept.seq (place_after n.kept.log) rate n.kept.number n.kept.clients (next_certs n.kept.log))
      (all_take (IsGranted (table_now w x n)) MAX_CHECK_IN_CERTS n.kept.log.waiting h.waiting) h;
  says_check_ack = λ n ms y s upto rate number clients certs sent known h. and_told w x n ms y (bodies.CheckAck s upto (rank_or_last n.kept.rank) n.kept.ancestors) tt h;
  drops = λ n ms h. record { me = h.me; grows = h.grows; table = h.table; waiting = h.waiting; told = tt; joined = h.joined };
  starts = λ n ms h. record { me = h.me; grows = h.grows; table = h.table; waiting = h.waiting; told = h.told; joined = h.joined };
}

-- the law holds for x before the change
granting_begins : (w : World) (x : ℕ) → GrantsHold w → IsGranting w x (control_of w x) []
granting_begins w x holds = record {
  me = process_in-me w.processes x;
  grows = λ f k. k;
  table = granted_grow (table_of w) (table_now w x (control_of w x)) (now_begins w x) (control_of w x).kept.table (holds.table x);
  waiting = granted_grow (table_of w) (table_now w x (control_of w x)) (now_begins w x) (control_of w x).kept.log.waiting (holds.waiting x);
  told = tt;
  joined = λ q e. now_begins w x q (birth x (control_of w x).kept.seq q) (holds.joined x q e);
}

-- the law holds of the world after the change
granting_ends : (w v : World) (x : ℕ) (n : Control) (ms : List Message) → GrantsHold w → Becomes w x n ms v → IsGranting w x n ms → GrantsHold v
granting_ends w v x n ms holds becomes h = record {
  table = at_each w v x n ms becomes (λ y c. AreGranted (table_of v) c.kept.table)
      (granted_grow (table_now w x n) (table_of v) after n.kept.table h.table)
      (λ y apart. granted_grow (table_of w) (table_of v) later (control_of w y).kept.table (holds.table y));
  waiting = at_each w v x n ms becomes (λ y c. AreGranted (table_of v) c.kept.log.waiting)
      (granted_grow (table_now w x n) (table_of v) after n.kept.log.waiting h.waiting)
      (λ y apart. granted_grow (table_of w) (table_of v) later (control_of w y).kept.log.waiting (holds.waiting y));
  told = subst (λ (net : List Message). AreGrantedSends (table_of v) net) (sym becomes.net)
      (all_append (λ m. IsGrantedSend (table_of v) m m.body) w.net ms (sends_grow (table_of w) (table_of v) later w.net holds.told) (sends_grow (table_now w x n) (table_of v) after ms h.told));
  joined = at_each w v x n ms becomes (λ y c. (q : ℕ) → c.kept.mode ≡ modes.Joined q → Knows (table_of v q) (birth y c.kept.seq q))
      (λ q e. after q (birth x n.kept.seq q) (h.joined q e))
      (λ y apart q e. later q (birth y (control_of w y).kept.seq q) (holds.joined y q e));
} where
  after : Grow (table_now w x n) (table_of v)
  after = now_ends w v x n ms becomes

  later : Grow (table_of w) (table_of v)
  later = now_later w v x n ms becomes h.grows

pub grants_law : IsLaw GrantsHold IsGranting
grants_law = record { begins = granting_begins; keeps = granting; ends = granting_ends }

-- in a new world nothing was sent and nothing is known
pub grants_new : (h : Header) → GrantsHold (new_world h)
grants_new h = record {
  table = λ x. subst (λ (p : Process). AreGranted (table_of (new_world h)) p.node.control.kept.table) (sym (new x).1) tt;
  waiting = λ x. subst (λ (p : Process). AreGranted (table_of (new_world h)) p.node.control.kept.log.waiting) (sym (new x).1) tt;
  told = tt;
  joined = λ x q e. absurd (cc (new_mode x, e));
} where
  new : (x : ℕ) → IsNew x (process (new_world h) x)
  new x = process_in-new h (range_with_len 1 h.nodes) x

  new_mode : (x : ℕ) → mode_of (new_world h) x ≡ modes.Idle
  new_mode x = ap (λ (p : Process). p.node.control.kept.mode) (new x).1

-- Consequences

-- the parent that a fact names knows it, wherever the fact is
pub facts_granted : (w : World) → GrantsHold w → (f : Cert) → IsAnywhere w f → Knows (table_of w f.parent) f
facts_granted w holds f (inl at) = all_among (IsGranted (table_of w)) (control_of w at.0).kept.table f (holds.table at.0) at.1
facts_granted w holds f (inr (inl at)) = all_among (IsGranted (table_of w)) (control_of w at.0).kept.log.waiting f (holds.waiting at.0) at.1
facts_granted w holds f (inr (inr at)) = by_body at.0.body (came_granted w holds at.0 at.1) at.2 where
  by_body : (b : Body) → IsGrantedSend (table_of w) at.0 b → Tells b f → Knows (table_of w f.parent) f
  by_body (bodies.CheckIn seq upto rate number clients certs) k tells = all_among (IsGranted (table_of w)) certs f k tells
  by_body b k tells = absurd tells

-- a node that said yes knows the lease
pub yes_granted : (w : World) → GrantsHold w → (y x s : ℕ) → HasSaidYes w y x s → Knows (table_of w y) (birth x s y)
yes_granted w holds y x s said = came_granted w holds (record { from = y; to = x; body = bodies.Yes s said.0 said.1 }) said.2

-- the parent of each child knows the child's lease
pub joined_granted : (w : World) → GrantsHold w → (x y : ℕ) → IsJoined w x y → Knows (table_of w y) (birth x (seq_of w x) y)
joined_granted w holds x y joined = holds.joined x y joined
