-- The effect of a check-in on the whole world: the parent knows its child's own number, the lease is new, and the rest is kept.
use Rattle.std.proofs.Common.{◌≡◌, ℕ, ◌+◌, ◌-◌, ◌<◌, ◌≤◌, Bool, true, false, Option, Some, None, List, ◌∷◌, ◌⊎◌, inl, inr, length, refl, ap, sym, subst, ◌∙◌, ⊎_elim, arith, eqb-true}
use Rattle.std.proofs.lemmas.Bool.{cases_eq, cases_order, true≢false}
use Rattle.oc_base.specs.declared.cert.Cert.{Cert}
use Rattle.oc_base.specs.declared.limits.TheConstants.{MAX_CHECK_IN_CERTS}
use Rattle.oc_model.specs.declared.event.Act.TheVariants as acts
use Rattle.oc_model.specs.declared.input.Input.TheVariants as inputs
use Rattle.oc_model.specs.declared.message.Body.{Body}
use Rattle.oc_model.specs.declared.message.Body.TheVariants as bodies
use Rattle.oc_model.specs.declared.message.Message.{Message}
use Rattle.oc_model.specs.Adopting.{is_number, has_lease, sends_rejoin}
use Rattle.oc_model.specs.Certificates.{outranks}
use Rattle.oc_model.specs.ChangeLog.{next_certs, place_after}
use Rattle.oc_model.specs.Chains.{IsUp, IsJoined}
use Rattle.oc_model.specs.Checking.{life}
use Rattle.oc_model.specs.ClaimsTree.{table_of, seq_of, KnowsNumber}
use Rattle.oc_base.specs.Groups.{shelf}
use Rattle.oc_model.specs.Leases.{lease_time}
use Rattle.oc_model.specs.Node.{Header, Control}
use Rattle.oc_model.specs.Numbers.{IsAmong, at}
use Rattle.oc_model.specs.Plan.{Plan, begun}
use Rattle.oc_model.specs.Ready.{HoldsLease}
use Rattle.oc_model.specs.Runs.{last_body, delivers_last}
use Rattle.oc_model.specs.Settle.{takes_ack, takes_any_ack, checks_in}
use Rattle.oc_model.specs.Step.{plan, step}
use Rattle.oc_model.specs.Table.{newest, is_news_to, leased_by, merge, merge_all}
use Rattle.oc_model.specs.World.{World, node, is_up, mode_of, after_act}
use Rattle.oc_model.specs.WorldBounds.{clock_of}
use Rattle.oc_model.proofs.Chains.{joined_once}
use Rattle.oc_model.proofs.Rules.{keeps_checked_in}
use Rattle.oc_laws_step.proofs.CertOrder.{fact_outranks}
use Rattle.oc_laws_step.proofs.Tables.{newest-subject}
use Rattle.oc_laws_world.proofs.Lifts.{control_of}
use Rattle.oc_laws_world.specs.Ranks.{own_rank, rank_of, ParentsPrecede}
use Rattle.oc_laws_tree.proofs.CountsKept.{own_numbers_below}
use Rattle.oc_laws_tree.proofs.Decided.{IsDecided, lease_decided}
use Rattle.oc_laws_tree.proofs.SoundNodes.{AreSound}
use Rattle.oc_laws_tree.proofs.Points.{sound_after, parents_after}
use Rattle.oc_laws_step.proofs.RankOrder.{precedes_irreflexive}
use Rattle.oc_laws_step.proofs.Tables.{merge_keeps}
use Rattle.oc_base.specs.declared.rank.Rank.{Rank}
use Rattle.oc_base.specs.Rank.{beneath_of}
use Rattle.oc_model.specs.Adoption.{rank_or_last, is_better}
use Rattle.oc_model.specs.Heal.{epoch_in}
use Rattle.oc_model.specs.Table.{lease_number}
use Rattle.oc_model.proofs.Rules.{either}
use Rattle.oc_laws_tree.proofs.Core.{epoch_or_last}
use Rattle.oc_laws_tree.proofs.Held.{Stays, stays_core}
use Rattle.oc_laws_tree.proofs.Reached.{of_reached}
use Rattle.oc_laws_tree.specs.Sessions.{log_of}
use Rattle.oc_laws_tree.proofs.Known.{Knows}
use Rattle.oc_laws_tree.proofs.Rising.{row_anywhere}
use Rattle.oc_laws_tree.proofs.Rows.{IsLiveRow, lease_row}
use Rattle.oc_laws_tree.proofs.Checks.{from_to, HasSameRest, check_in_refused, rank_unless}
use Rattle.oc_laws_tree.proofs.CheckIns.{Goes, IsLast, last_goes, last_rests, last_body_is, goes_last, dry, dry_sends, lease_test, ChecksAt, checks_at, ChecksIn, checks_in_once, counted_joined}
use Rattle.oc_laws_tree.proofs.Core.{Core, core_of, counted, IsCounted, is_counted}
use Rattle.oc_laws_tree.proofs.Held.{Steady, stays_same, IsHeld, held_on, held_before, all_hold, known_own, known_child}
use Rattle.oc_laws_tree.proofs.Merging.{among_take, rows_kept, leases_only, life_kept, life_only, first_known}
use Rattle.oc_laws_tree.proofs.Reached.{Reached, reached_act}
use Rattle.oc_laws_tree.proofs.Spans.{IsId, up_id, among_them}
use Rattle.oc_laws_tree.proofs.Ticks.{set_at, set_here}

-- Runs

pub reached_delivers : (h : Header) (w : World) → Reached h w → Reached h (delivers_last w).world
reached_delivers h w reached = reached_act h w (acts.Deliver (length w.net)) reached

reached_takes : (h : Header) (w : World) (b : Option Body) → Reached h w → Reached h (takes_ack b w).world
reached_takes h w (Some (bodies.CheckAck seq upto rank ancestors)) reached = reached_delivers h w reached
reached_takes h w b reached = reached

pub reached_checks_in : (h : Header) (w : World) (x : ℕ) → Reached h w → Reached h (checks_in x w).world
reached_checks_in h w x reached =
    let w1 : World = after_act w (acts.At x inputs.CheckNow) in
    let w2 : World = (delivers_last w1).world in
    reached_takes h w2 (last_body w2) (reached_delivers h w1 (reached_act h w (acts.At x inputs.CheckNow) reached))

-- no node is its own parent
pub parent_apart : (h : Header) (w : World) → Reached h w → (x p : ℕ) → IsJoined w x p → x ≡ p → ⊥
parent_apart h w reached x p joins same =
    let parents : ParentsPrecede w = of_reached ParentsPrecede parents_after h w reached in
    precedes_irreflexive (rank_of w x) (parents x x (subst (IsJoined w x) (sym same) joins)).1

-- A check-in that is not acknowledged

record InVain (w : World) (x : ℕ) (v : World) : Type 0 where
  up : (y : ℕ) → is_up v y ≡ is_up w y
  others : (y : ℕ) → (x ≡ y → ⊥) → control_of v y ≡ control_of w y
  core : core_of (control_of v x) ≡ counted (core_of (control_of w x))
  rest : HasSameRest (control_of w x) (control_of v x)

-- a lease that passes the test is held
pub number_held : (found : Option ℕ) (s : ℕ) → is_number found s ≡ true → found ≡ Some s
number_held None s e = absurd cc
number_held (Some n) s e = ap Some (eqb-true n s e)

-- the parent stays as it was: it is down, or it sends a rejoin
vain_parent : (w : World) (x p seq upto rate number clients : ℕ) (certs : List Cert) → IsLast w (from_to x p (bodies.CheckIn seq upto rate number clients certs)) → (IsUp w p → HoldsLease w p x seq → ⊥)
    → ((y : ℕ) → control_of (delivers_last w).world y ≡ control_of w y) × ((y : ℕ) → is_up (delivers_last w).world y ≡ is_up w y) × ((takes_any_ack (delivers_last w).world).world ≡ (delivers_last w).world)
vain_parent w x p seq upto rate number clients certs last none = by_up (is_up w p) refl where
  m : Message
  m = from_to x p (bodies.CheckIn seq upto rate number clients certs)

  by_lease : IsUp w p → (b : Bool) → has_lease (control_of w p) x seq ≡ b
      → ((y : ℕ) → control_of (delivers_last w).world y ≡ control_of w y) × ((y : ℕ) → is_up (delivers_last w).world y ≡ is_up w y) × ((takes_any_ack (delivers_last w).world).world ≡ (delivers_last w).world)
  by_lease up true e = absurd (none up (number_held (leased_by (table_of w p) p x) seq (sym (lease_test w p x seq) ∙ e)))
  by_lease up false e =
      let n : Control = control_of w p in
      let o : Plan = plan n (shelf (node w p).groups) (inputs.Delivered m) in
      let refused : o ≡ sends_rejoin (begun n) x seq = check_in_refused n x seq upto rate number clients certs e in
      let goes : Goes w p o.node (step (node w p) (inputs.Delivered m)).sends (delivers_last w).world = last_goes w m last up in
      let all : (step (node w p) (inputs.Delivered m)).sends ≡ o.sends =
      dry_sends (node w p) (inputs.Delivered m) (keeps_checked_in (shelf (node w p).groups) (λ q. q.wants ≡ None) (dry (shelf (node w p).groups)) (begun n) x seq upto rate number clients certs refl) in
      let said : IsLast (delivers_last w).world (from_to n.me x (bodies.Rejoin seq)) = goes_last w p o.node (step (node w p) (inputs.Delivered m)).sends _ (delivers_last w).world goes (all ∙ ap (λ (q : Plan). q.sends) refused) in (
        λ y. ⊎_elim (λ (same : p ≡ y). subst (λ (z : ℕ). control_of (delivers_last w).world z ≡ control_of w z) same (goes.here ∙ ap (λ (q : Plan). q.node) refused)) (λ apart. goes.others y apart) (cases_eq p y),
        goes.up,
        ap (λ (b : Option Body). (takes_ack b (delivers_last w).world).world) (last_body_is (delivers_last w).world _ said),
      )

  by_up : (b : Bool) → is_up w p ≡ b
      → ((y : ℕ) → control_of (delivers_last w).world y ≡ control_of w y) × ((y : ℕ) → is_up (delivers_last w).world y ≡ is_up w y) × ((takes_any_ack (delivers_last w).world).world ≡ (delivers_last w).world)
  by_up true up = by_lease up (has_lease (control_of w p) x seq) refl
  by_up false down =
      let rests_here : (delivers_last w).world ≡ w = last_rests w m last down in (
        λ y. ap (λ (u : World). control_of u y) rests_here,
        λ y. ap (λ (u : World). is_up u y) rests_here,
        ap (λ (b : Option Body). (takes_ack b (delivers_last w).world).world) (ap last_body rests_here ∙ last_body_is w m last),
      )

checks_in_vain : (w : World) (x p : ℕ) → (x ≡ p → ⊥) → IsUp w x → IsJoined w x p → (IsUp w p → HoldsLease w p x (seq_of w x) → ⊥) → InVain w x (checks_in x w).world
checks_in_vain w x p apart up joins none =
    let w1 : World = after_act w (acts.At x inputs.CheckNow) in
    let w2 : World = (delivers_last w1).world in
    let first : ChecksAt w x p w1 = checks_at w x p up joins in
    let second = vain_parent w1 x p (seq_of w x) (place_after (log_of w x)) first.rate (control_of w1 x).kept.number (control_of w1 x).kept.clients (next_certs (log_of w x)) first.last
    (λ parent_up leased. none (sym (first.up p) ∙ parent_up) (ap (λ (k : Control). leased_by k.kept.table p x) (sym (first.others p apart)) ∙ leased)) in
    subst (InVain w x) (sym second.2) record {
      up = λ y. second.1 y ∙ first.up y;
      others = λ y other. second.0 y ∙ first.others y other;
      core = ap core_of (second.0 x) ∙ first.core;
      rest = subst (λ (k : Control). HasSameRest (control_of w x) k) (sym (second.0 x)) first.rest;
    }

-- The properties that a check-in keeps, whether acknowledged or not

pub record CheckInKeeps (h : Header) (w : World) (x : ℕ) (v : World) : Type 0 where
  pub began : Reached h w
  pub reached : Reached h v
  pub steady : Steady w v
  -- no lease is made, and links still hold
  pub only : (y z s : ℕ) → HoldsLease v y z s → HoldsLease w y z s
  pub held : (y z : ℕ) → IsHeld w y z → IsHeld v y z
  pub rows : (y z : ℕ) → (x ≡ z → ⊥) → IsHeld w y z → newest (table_of v y) z ≡ newest (table_of w y) z
  -- all other nodes are as they were, and x has counted its clients
  pub cores : (z : ℕ) → (x ≡ z → ⊥) → core_of (control_of v z) ≡ core_of (control_of w z)
  pub counted : IsCounted (core_of (control_of v x))
  pub seqs : (z : ℕ) → seq_of v z ≡ seq_of w z
  pub epochs : (most : ℕ) → ((z : ℕ) → IsUp w z → epoch_in (own_rank w z) ≤ most) → (z : ℕ) → IsUp v z → epoch_in (own_rank v z) ≤ most
  pub clocks : (y : ℕ) → clock_of v y ≡ clock_of w y
  -- the lease of x begins anew, and no other does
  pub ends : (y z : ℕ) → IsId h z → (at (control_of v y).leases z None ≡ at (control_of w y).leases z None) ⊎ ((x ≡ z) × IsHeld w y x)
  pub renewed : (p : ℕ) → IsHeld v p x → at (control_of v p).leases x None ≡ Some (clock_of v p + lease_time)
  -- the parent knows the own number of x
  pub told : (p : ℕ) → IsHeld v p x → KnowsNumber v p x

module _ (h : Header) (w : World) (x : ℕ) (v : World) (keeps : CheckInKeeps h w x v) where
  -- a link that holds afterwards held before
  pub keeps_before : (y z : ℕ) → IsHeld v y z → IsHeld w y z
  keeps_before y z held = held_before w v keeps.steady y z held (λ leased. keeps.only y z (seq_of w z) leased)

-- Not acknowledged

vain_keeps : (h : Header) (w : World) (x p : ℕ) → Reached h w → IsUp w x → IsJoined w x p → (IsUp w p → HoldsLease w p x (seq_of w x) → ⊥) → CheckInKeeps h w x (checks_in x w).world
vain_keeps h w x p reached up joins none =
    let v : World = (checks_in x w).world in
    let vain : InVain w x v = checks_in_vain w x p (parent_apart h w reached x p joins) up joins none in
    let still = counted_joined (core_of (control_of w x)) in
    let steady : Steady w v = λ y. ⊎_elim
    (λ (same : x ≡ y). subst (Stays w v) same (stays_same w v x (vain.up x) (ap (λ (k : Core). k.mode) vain.core ∙ still.0) (ap (λ (k : Core). k.seq) vain.core ∙ still.1)))
    (λ apart. stays_core w v y (vain.up y) (ap core_of (vain.others y apart))) (cases_eq x y) in
    let tables : (y : ℕ) → table_of v y ≡ table_of w y = λ y. ⊎_elim
    (λ (same : x ≡ y). subst (λ (z : ℕ). table_of v z ≡ table_of w z) same vain.rest.table) (λ apart. ap (λ (k : Control). k.kept.table) (vain.others y apart)) (cases_eq x y) in
    let only : (y z s : ℕ) → HoldsLease v y z s → HoldsLease w y z s = λ y z s leased. ap (λ (t : List Cert). leased_by t y z) (sym (tables y)) ∙ leased in
    let never : (q : ℕ) → IsHeld v q x → ⊥ = λ q held.
    let before : IsHeld w q x = held_before w v steady q x held (λ leased. only q x (seq_of w x) leased) in
    let same : q ≡ p = joined_once w x q p before.joined joins in
    none (subst (IsUp w) same before.host) (subst (λ (y : ℕ). HoldsLease w y x (seq_of w x)) same before.lease) in
    record {
      began = reached;
      reached = reached_checks_in h w x reached;
      steady = steady;
      only = only;
      held = λ y z held. held_on w v steady y z held (λ leased. ap (λ (t : List Cert). leased_by t y z) (tables y) ∙ leased);
      rows = λ y z apart held. ap (λ (t : List Cert). newest t z) (tables y);
      cores = λ z apart. ap core_of (vain.others z apart);
      counted = subst IsCounted (sym vain.core) (is_counted (core_of (control_of w x)));
      seqs = λ z. ⊎_elim (λ (same : x ≡ z). subst (λ (u : ℕ). seq_of v u ≡ seq_of w u) same (ap (λ (k : Core). k.seq) vain.core ∙ still.1)) (λ apart. ap (λ (k : Control). k.kept.seq) (vain.others z apart)) (cases_eq x z);
      epochs = λ most all z is_up. subst (λ (r : Option Rank). epoch_in r ≤ most)
          (sym (⊎_elim (λ (same : x ≡ z). subst (λ (u : ℕ). own_rank v u ≡ own_rank w u) same (ap (λ (k : Core). k.rank) vain.core ∙ still.2)) (λ apart. ap (λ (k : Control). k.kept.rank) (vain.others z apart)) (cases_eq x z)))
          (all z (sym (vain.up z) ∙ is_up));
      clocks = λ y. ⊎_elim (λ (same : x ≡ y). subst (λ (z : ℕ). clock_of v z ≡ clock_of w z) same vain.rest.clock) (λ apart. ap (λ (k : Control). k.soft.clock) (vain.others y apart)) (cases_eq x y);
      ends = λ y z id. inl (⊎_elim (λ (same : x ≡ y). subst (λ (u : ℕ). at (control_of v u).leases z None ≡ at (control_of w u).leases z None) same (ap (λ (ends : List (Option ℕ)). at ends z None) vain.rest.leases)) (λ apart. ap (λ (k : Control). at k.leases z None) (vain.others y apart)) (cases_eq x y));
      renewed = λ q held. absurd (never q held);
      told = λ q held. absurd (never q held);
    }

-- Acknowledged

-- a taken rank has no epoch above both the old one and the told one
taken_epoch : (wish : Option ℕ) (own told : Option Rank) (most : ℕ) → epoch_in own ≤ most → epoch_in told ≤ most → epoch_in (rank_unless wish own (rank_or_last told)) ≤ most
taken_epoch (Some g) own told most here there = here
taken_epoch None own told most here there = either (is_better own (rank_or_last told)) (λ (r : Option Rank). epoch_in r ≤ most) (Some (beneath_of (rank_or_last told))) own (omega (arith, epoch_or_last told, there)) here

module _ (h : Header) (w : World) (x p : ℕ) (reached : Reached h w) (held : IsHeld w p x) where
  abbrev v : World
  v = (checks_in x w).world

  -- the told certificates: the child's own count, and those that wait
  abbrev certs : List Cert
  certs = next_certs (log_of w x)

  abbrev own : Cert
  own = life x (seq_of w x) p (control_of v x).kept.number (control_of v x).kept.clients

  apart : x ≡ p → ⊥
  apart = parent_apart h w reached x p held.joined

  checked : ChecksIn w x p (checks_in x w)
  checked = checks_in_once w x p apart held.up held.joined held.host held.lease

  later : Reached h v
  later = reached_checks_in h w x reached

  -- a property of the child, of the parent, and of all others as they were, holds of each node
  by_three : (Q : ℕ → Control → Type 0) → Q x (control_of v x) → Q p (control_of v p) → ((y : ℕ) → (x ≡ y → ⊥) → (p ≡ y → ⊥) → Q y (control_of w y)) → (y : ℕ) → Q y (control_of v y)
  by_three Q child parent others y = ⊎_elim
      (λ (same : x ≡ y). subst (λ (z : ℕ). Q z (control_of v z)) same child)
      (λ not_child. ⊎_elim
      (λ (same : p ≡ y). subst (λ (z : ℕ). Q z (control_of v z)) same parent)
      (λ not_parent. subst (λ (k : Control). Q y k) (sym (checked.others y not_child not_parent)) (others y not_child not_parent))
      (cases_eq p y))
      (cases_eq x y)

  still : ((counted (core_of (control_of w x))).mode ≡ mode_of w x) × ((counted (core_of (control_of w x))).seq ≡ seq_of w x) × ((counted (core_of (control_of w x))).rank ≡ (control_of w x).kept.rank)
  still = counted_joined (core_of (control_of w x))

  seqs : (y : ℕ) → seq_of v y ≡ seq_of w y
  seqs = by_three (λ y k. k.kept.seq ≡ seq_of w y) (ap (λ (k : Core). k.seq) checked.child ∙ still.1) (ap (λ (k : Core). k.seq) checked.parent) (λ y not_child not_parent. refl)

  modes_stay : (y : ℕ) → mode_of v y ≡ mode_of w y
  modes_stay = by_three (λ y k. k.kept.mode ≡ mode_of w y) (ap (λ (k : Core). k.mode) checked.child ∙ still.0) (ap (λ (k : Core). k.mode) checked.parent) (λ y not_child not_parent. refl)

  steady : Steady w v
  steady y = stays_same w v y (checked.up y) (modes_stay y) (seqs y)

  tables : (y : ℕ) → (p ≡ y → ⊥) → table_of v y ≡ table_of w y
  tables y not_parent = ⊎_elim
      (λ (same : x ≡ y). subst (λ (z : ℕ). table_of v z ≡ table_of w z) same checked.rest.table)
      (λ not_child. ap (λ (k : Control). k.kept.table) (checked.others y not_child not_parent)) (cases_eq x y)

  -- the parent knows the certificates that name it, and all those of its children
  cert_own : (c : Cert) → IsAmong c certs → c.parent ≡ p → Knows (table_of w p) c
  cert_own c among is = known_own h w reached x p c (among_take MAX_CHECK_IN_CERTS c (log_of w x).waiting among) is

  cert_child : (z : ℕ) (c : Cert) → IsAmong c certs → c.subject ≡ z → HoldsLease w p z (seq_of w z) → Knows (table_of w p) c
  cert_child z c among same leased = known_child h w reached x p z c (among_take MAX_CHECK_IN_CERTS c (log_of w x).waiting among) same leased

  only_parent : (z s : ℕ) → HoldsLease v p z s → HoldsLease w p z s
  only_parent z s leased =
      let here : leased_by (merge_all (table_of w p) (own ∷ certs)) p z ≡ Some s = ap (λ (t : List Cert). leased_by t p z) (sym checked.table) ∙ leased in
      life_only (table_of w p) x (seq_of w x) p (control_of v x).kept.number (control_of v x).kept.clients z s held.lease
      (leases_only certs (merge (table_of w p) own) p z s (λ c among is. merge_keeps (table_of w p) own c (cert_own c among is)) here)

  only : (y z s : ℕ) → HoldsLease v y z s → HoldsLease w y z s
  only y z s leased = ⊎_elim
      (λ (same : p ≡ y). subst (λ (u : ℕ). HoldsLease w u z s) same (only_parent z s (subst (λ (u : ℕ). HoldsLease v u z s) (sym same) leased)))
      (λ not_parent. ap (λ (t : List Cert). leased_by t y z) (sym (tables y not_parent)) ∙ leased) (cases_eq p y)

  rows_parent : (z : ℕ) → (x ≡ z → ⊥) → HoldsLease w p z (seq_of w z) → newest (table_of v p) z ≡ newest (table_of w p) z
  rows_parent z other leased = ap (λ (t : List Cert). newest t z) checked.table ∙ rows_kept (own ∷ certs) (table_of w p) z each where
    each : (c : Cert) → IsAmong c (own ∷ certs) → c.subject ≡ z → Knows (table_of w p) c
    each c (inl e) same = absurd (other (ap (λ (k : Cert). k.subject) e ∙ same))
    each c (inr among) same = cert_child z c among same leased

  rows : (y z : ℕ) → (x ≡ z → ⊥) → IsHeld w y z → newest (table_of v y) z ≡ newest (table_of w y) z
  rows y z other is = ⊎_elim
      (λ (same : p ≡ y). subst (λ (u : ℕ). newest (table_of v u) z ≡ newest (table_of w u) z) same (rows_parent z other (subst (λ (u : ℕ). HoldsLease w u z (seq_of w z)) (sym same) is.lease)))
      (λ not_parent. ap (λ (t : List Cert). newest t z) (tables y not_parent)) (cases_eq p y)

  -- the parent still holds the lease of the child
  lease_child : HoldsLease v p x (seq_of w x)
  lease_child =
      let known : newest (merge_all (merge (table_of w p) own) certs) x ≡ newest (merge (table_of w p) own) x =
      rows_kept certs (merge (table_of w p) own) x (λ c among same. merge_keeps (table_of w p) own c (cert_child x c among same held.lease)) in
      ap (λ (t : List Cert). leased_by t p x) checked.table
      ∙ (ap (lease_number p) known ∙ life_kept (table_of w p) x (seq_of w x) p (control_of v x).kept.number (control_of v x).kept.clients held.lease)

  holds_on : (y z : ℕ) → IsHeld w y z → IsHeld v y z
  holds_on y z is = held_on w v steady y z is (λ leased. ⊎_elim
      (λ (same : x ≡ z).
      let joined : IsJoined w x y = subst (λ (u : ℕ). IsJoined w u y) (sym same) is.joined in
      subst (λ (u : ℕ). HoldsLease v y u (seq_of w u)) same (subst (λ (u : ℕ). HoldsLease v u x (seq_of w x)) (joined_once w x p y held.joined joined) lease_child))
      (λ other. ap (lease_number y) (rows y z other is) ∙ leased)
      (cases_eq x z))

  -- the parent knows the child's own number
  told_parent : KnowsNumber v p x
  told_parent =
      let row = lease_row (table_of v p) p x (seq_of w x) lease_child in
      let known : Knows (table_of v p) own = subst (λ (t : List Cert). Knows t own) (sym checked.table) (first_known own certs (table_of w p)) in
      by_order row.0 row.1 known (cases_order row.0.number (control_of v x).kept.number) where
        below : (k : Cert) → newest (table_of v p) x ≡ Some k → k.number ≤ (control_of v x).kept.number
        below k found = own_numbers_below v (all_hold h v later).counts x k.number k.clients (inr (inr (k, row_anywhere v p x k found, newest-subject (table_of v p) x k found, refl, refl)))

        by_order : (k : Cert) → IsLiveRow (table_of v p) x p (seq_of w x) k.number k → Knows (table_of v p) own
            → (k.number ≡ (control_of v x).kept.number) ⊎ ((k.number < (control_of v x).kept.number) ⊎ ((control_of v x).kept.number < k.number)) → KnowsNumber v p x
        by_order k row known (inl same) = (k, row.found, same)
        by_order k row known (inr (inl less)) =
            let later_word : outranks own k ≡ true = fact_outranks own k (inr (inr (sym row.seq, sym row.alive, less))) in
            absurd (true≢false (sym later_word ∙ (ap (λ (o : Option Cert). is_news_to o own) (sym row.found) ∙ known)))
        by_order k row known (inr (inr more)) = absurd (omega (arith, more, below k row.found))

  clocks : (y : ℕ) → clock_of v y ≡ clock_of w y
  clocks = by_three (λ y k. k.soft.clock ≡ clock_of w y) checked.rest.clock checked.clock (λ y not_child not_parent. refl)

  -- the lease of the child has begun anew
  renewed_parent : at (control_of v p).leases x None ≡ Some (clock_of w p + lease_time)
  renewed_parent =
      let id : IsId h x = up_id h w x reached held.up in
      let host : IsId h p = up_id h w p reached held.host in
      let as_many : length (control_of w p).leases ≡ h.nodes = (of_reached AreSound sound_after h w reached p).leases ∙ (among_them h w p reached host).0 in
      ap (λ (ends : List (Option ℕ)). at ends x None) checked.leases ∙ set_here (control_of w p).leases (x - 1) (Some (clock_of w p + lease_time)) (omega (arith, as_many, id.least, id.most))

  ends_parent : (z : ℕ) → IsId h z → (at (control_of v p).leases z None ≡ at (control_of w p).leases z None) ⊎ ((x ≡ z) × IsHeld w p x)
  ends_parent z id = ⊎_elim
      (λ here. inr (omega (arith, here.0, id.least, (up_id h w x reached held.up).least), held))
      (λ other. inl (ap (λ (ends : List (Option ℕ)). at ends z None) checked.leases ∙ other))
      (set_at (control_of w p).leases (x - 1) (z - 1) (Some (clock_of w p + lease_time)))

  ends : (y z : ℕ) → IsId h z → (at (control_of v y).leases z None ≡ at (control_of w y).leases z None) ⊎ ((x ≡ z) × IsHeld w y x)
  ends y z id = by_three (λ u k. (at k.leases z None ≡ at (control_of w u).leases z None) ⊎ ((x ≡ z) × IsHeld w u x))
      (inl (ap (λ (ends : List (Option ℕ)). at ends z None) checked.rest.leases)) (ends_parent z id) (λ u not_child not_parent. inl refl) y

  at_parent : (Q : ℕ → Type 0) → Q p → (q : ℕ) → IsHeld v q x → Q q
  at_parent Q here q is = subst Q (joined_once w x p q held.joined (held_before w v steady q x is (λ leased. only q x (seq_of w x) leased)).joined) here

  acked_keeps : CheckInKeeps h w x v
  acked_keeps = record {
    began = reached;
    reached = later;
    steady = steady;
    only = only;
    held = holds_on;
    rows = rows;
    cores = λ z other. ⊎_elim
        (λ (same : p ≡ z). subst (λ (u : ℕ). core_of (control_of v u) ≡ core_of (control_of w u)) same checked.parent)
        (λ not_parent. ap core_of (checked.others z other not_parent)) (cases_eq p z);
    counted = subst IsCounted (sym checked.child) (is_counted (core_of (control_of w x)));
    seqs = seqs;
    epochs = λ most all z is_up. by_three (λ u k. IsUp w u → epoch_in k.kept.rank ≤ most)
        (λ child_up. subst (λ (r : Option Rank). epoch_in r ≤ most) (sym (ap (λ (k : Core). k.rank) checked.child)) (taken_epoch (control_of w x).soft.wish (own_rank w x) (own_rank w p) most (all x held.up) (all p held.host)))
        (λ parent_up. subst (λ (r : Option Rank). epoch_in r ≤ most) (sym (ap (λ (k : Core). k.rank) checked.parent)) (all p held.host))
        (λ u not_child not_parent was_up. all u was_up) z (sym (checked.up z) ∙ is_up);
    clocks = clocks;
    ends = ends;
    renewed = at_parent (λ q. at (control_of v q).leases x None ≡ Some (clock_of v q + lease_time)) (renewed_parent ∙ ap (λ (now : ℕ). Some (now + lease_time)) (sym (clocks p)));
    told = at_parent (λ q. KnowsNumber v q x) told_parent;
  }

-- The properties that each check-in of a joined node keeps

pub checks_in_keeps : (h : Header) (w : World) (x p : ℕ) → Reached h w → IsUp w x → IsJoined w x p → CheckInKeeps h w x (checks_in x w).world
checks_in_keeps h w x p reached up joins = by_up (is_up w p) refl where
  by_lease : IsUp w p → IsDecided (HoldsLease w p x (seq_of w x)) → CheckInKeeps h w x (checks_in x w).world
  by_lease parent_up (inl leased) = acked_keeps h w x p reached record { host = parent_up; up = up; joined = joins; lease = leased }
  by_lease parent_up (inr none) = vain_keeps h w x p reached up joins (λ is leased. none leased)

  by_up : (b : Bool) → is_up w p ≡ b → CheckInKeeps h w x (checks_in x w).world
  by_up true e = by_lease e (lease_decided w p x (seq_of w x))
  by_up false e = vain_keeps h w x p reached up joins (λ is leased. true≢false (sym is ∙ e))
