-- The tick of a node in a world: the properties that it keeps, and the leases that it ends.
use Rattle.std.proofs.Common.{◌≡◌, ℕ, ◌+◌, ◌-◌, ◌<◌, ◌≤◌, max, false, nat_le, Option, Some, None, ◌⊎◌, inl, inr, length, refl, ap, sym, subst, ◌∙◌, ⊎_elim, arith}
use Rattle.std.proofs.lemmas.Bool.{cases_eq, false_from_ne_true}
use Rattle.std.proofs.Common.{leb-true}
use Rattle.oc_model.specs.declared.event.Act.TheVariants as acts
use Rattle.oc_model.specs.declared.input.Input.TheVariants as inputs
use Rattle.oc_model.specs.Chains.{IsUp}
use Rattle.oc_model.specs.ClaimsTree.{table_of}
use Rattle.oc_base.specs.Groups.{shelf}
use Rattle.oc_model.specs.Leases.{lease_time, is_over}
use Rattle.oc_model.specs.Node.{Header, Control}
use Rattle.oc_model.specs.Numbers.{at}
use Rattle.oc_model.specs.Plan.{begun}
use Rattle.oc_model.specs.Ready.{HoldsLease}
use Rattle.oc_model.specs.Settle.{ticks}
use Rattle.oc_model.specs.Step.{step}
use Rattle.oc_model.specs.Table.{newest, leased_by}
use Rattle.oc_model.specs.World.{World, node}
use Rattle.oc_model.specs.WorldBounds.{clock_of}
use Rattle.oc_laws_world.proofs.Lifts.{control_of}
use Rattle.oc_laws_tree.specs.LeaseEnds.{LeaseEndsLieAhead}
use Rattle.oc_laws_tree.proofs.Known.{newest_among}
use Rattle.oc_laws_tree.proofs.Rows.{lease_row}
use Rattle.oc_laws_tree.proofs.SoundNodes.{AreSound}
use Rattle.oc_laws_tree.proofs.Points.{sound_after, lease_ends_after}
use Rattle.oc_laws_step.proofs.Tables.{newest-subject}
use Rattle.oc_laws_tree.proofs.CheckIns.{Goes, act_goes, me_is}
use Rattle.oc_laws_tree.proofs.Core.{core_of, HasChecked, tick_core}
use Rattle.oc_laws_tree.proofs.Ends.{ends_within}
use Rattle.oc_laws_tree.proofs.Held.{Stays, Steady, stays_core, stays_checked, IsHeld, held_before, IsCurrent, current_stays}
use Rattle.oc_laws_tree.proofs.Reached.{Reached, reached_act, of_reached}
use Rattle.oc_laws_tree.proofs.Spans.{IsId, up_id, told_id, among_them}
use Rattle.oc_laws_tree.proofs.Ticks.{HasTicked, has_ticked}

-- lease ends lie ahead
pub ends_ahead : (h : Header) (w : World) → Reached h w → LeaseEndsLieAhead w
ends_ahead h w reached = of_reached LeaseEndsLieAhead lease_ends_after h w reached

-- a node with a lease is a node of the world
pub leased_id : (h : Header) (w : World) (y z s : ℕ) → Reached h w → HoldsLease w y z s → IsId h z
leased_id h w y z s reached leased =
    let row = lease_row (table_of w y) y z s leased in
    subst (IsId h) (newest-subject (table_of w y) z row.0 row.1.found) (told_id h w y row.0 reached (newest_among (table_of w y) z row.0 row.1.found))

-- a node has as many lease ends as the world has nodes
pub leases_long : (h : Header) (w : World) (y : ℕ) → Reached h w → IsId h y → length (control_of w y).leases ≡ h.nodes
leases_long h w y reached id = (of_reached AreSound sound_after h w reached y).leases ∙ (among_them h w y reached id).0

-- The tick of x, which is up, by `more` seconds
pub record TickKeeps (h : Header) (more : ℕ) (w : World) (x : ℕ) (v : World) : Type 0 where
  pub reached : Reached h v
  pub steady : Steady w v
  pub others : (y : ℕ) → (x ≡ y → ⊥) → control_of v y ≡ control_of w y
  pub core : HasChecked (core_of (control_of w x)) (core_of (control_of v x))
  pub ticked : HasTicked (control_of w x) (clock_of w x + more) (control_of v x)
  pub only : (y z s : ℕ) → HoldsLease v y z s → HoldsLease w y z s

-- a child whose lease is not over keeps its row
pub row_fresh : (h : Header) (more : ℕ) (w : World) (x : ℕ) (v : World) → TickKeeps h more w x v → (y z : ℕ) → (x ≡ y → is_over (at (control_of v x).leases z None) (clock_of w x + more) ≡ false)
    → newest (table_of v y) z ≡ newest (table_of w y) z
row_fresh h more w x v keeps y z fresh = ⊎_elim
    (λ (same : x ≡ y). subst (λ (u : ℕ). newest (table_of v u) z ≡ newest (table_of w u) z) same (keeps.ticked.rows z (fresh same)))
    (λ apart. ap (λ (k : Control). newest k.kept.table z) (keeps.others y apart)) (cases_eq x y)

pub tick_keeps : (h : Header) (more : ℕ) (w : World) (x : ℕ) → Reached h w → IsUp w x → TickKeeps h more w x (ticks more x w).world
tick_keeps h more w x reached up =
    let t : ℕ = clock_of w x + more in
    let v : World = (ticks more x w).world in
    let goes : Goes w x (step (node w x) (inputs.Tick t)).node.control (step (node w x) (inputs.Tick t)).sends v = act_goes w x (inputs.Tick t) up in
    let core : HasChecked (core_of (control_of w x)) (core_of (control_of v x)) = subst (λ (k : Control). HasChecked (core_of (control_of w x)) (core_of k)) (sym goes.here) (tick_core (begun (control_of w x)) (shelf (node w x).groups) t) in
    let now : max (clock_of w x) t ≡ t = omega arith in
    let ticked : HasTicked (control_of w x) t (control_of v x) =
    subst (λ (k : Control). HasTicked (control_of w x) t k) (sym goes.here) (subst (λ (s : ℕ). HasTicked (control_of w x) s (step (node w x) (inputs.Tick t)).node.control) now (has_ticked (control_of w x) (shelf (node w x).groups) t)) in
    record {
      reached = reached_act h w (acts.At x (inputs.Tick t)) reached;
      steady = λ y. ⊎_elim
          (λ (same : x ≡ y). subst (Stays w v) same (stays_checked w v x (goes.up x) core))
          (λ apart. stays_core w v y (goes.up y) (ap core_of (goes.others y apart))) (cases_eq x y);
      others = goes.others;
      core = core;
      ticked = ticked;
      only = λ y z s leased. ⊎_elim
          (λ (same : x ≡ y).
          let here : HoldsLease v x z s = subst (λ (u : ℕ). HoldsLease v u z s) (sym same) leased in
          let own : leased_by (table_of v x) (control_of w x).me z ≡ Some s = subst (λ (u : ℕ). leased_by (table_of v x) u z ≡ Some s) (sym (me_is w x)) here in
          subst (λ (u : ℕ). HoldsLease w u z s) same (subst (λ (u : ℕ). leased_by (table_of w x) u z ≡ Some s) (me_is w x) (ticked.only z s own)))
          (λ apart. ap (λ (k : Control). leased_by k.kept.table y z) (sym (goes.others y apart)) ∙ leased) (cases_eq x y);
    }

-- Leases that are not current end by one second, and current ones no earlier than another

-- each lease of y that is not current ends no later than d seconds from now
abbrev pub IsStaleBy : World → ℕ → ℕ → Type 0
IsStaleBy w d y = (z s : ℕ) → HoldsLease w y z s → IsCurrent w y z s ⊎ ((e : ℕ) × (at (control_of w y).leases z None ≡ Some e) × (e ≤ clock_of w y + d))

-- the lease of each link that holds ends no earlier than d seconds from now
abbrev pub IsFreshBy : World → ℕ → ℕ → Type 0
IsFreshBy w d y = (z : ℕ) → IsHeld w y z → (e : ℕ) × (at (control_of w y).leases z None ≡ Some e) × (clock_of w y + d ≤ e)

-- the same for a node that is as it was
pub stale_other : (w v : World) (d y : ℕ) → Steady w v → control_of v y ≡ control_of w y → IsStaleBy w d y → IsStaleBy v d y
stale_other w v d y steady same stale z s leased = ⊎_elim
    (λ is. inl (current_stays w v steady y z s is))
    (λ (end : (e : ℕ) × (at (control_of w y).leases z None ≡ Some e) × (e ≤ clock_of w y + d)).
    inr (end.0, ap (λ (k : Control). at k.leases z None) same ∙ end.1, subst (λ (now : ℕ). end.0 ≤ now + d) (sym (ap (λ (k : Control). k.soft.clock) same)) end.2))
    (stale z s (ap (λ (k : Control). leased_by k.kept.table y z) (sym same) ∙ leased))

pub fresh_other : (w v : World) (d y : ℕ) → Steady w v → control_of v y ≡ control_of w y → IsFreshBy w d y → IsFreshBy v d y
fresh_other w v d y steady same fresh z held =
    let end = fresh z (held_before w v steady y z held (λ leased. ap (λ (k : Control). leased_by k.kept.table y z) (sym same) ∙ leased)) in
    (end.0, ap (λ (k : Control). at k.leases z None) same ∙ end.1, subst (λ (now : ℕ). now + d ≤ end.0) (sym (ap (λ (k : Control). k.soft.clock) same)) end.2)

-- an end that lies ahead is not over
pub not_over : (e now : ℕ) → now < e → is_over (Some e) now ≡ false
not_over e now less = false_from_ne_true (nat_le e now) (λ over. let most : e ≤ now = leb-true e now over in absurd (omega (arith, less, most)))

-- A tick at the present second of the clock, which ends no lease

-- no lease of the node that ticked is over
pub none_over : (h : Header) (w : World) (x : ℕ) (v : World) → Reached h w → IsUp w x → TickKeeps h 0 w x v → (z s : ℕ) → HoldsLease w x z s → is_over (at (control_of v x).leases z None) (clock_of w x + 0) ≡ false
none_over h w x v reached up keeps z s leased = ⊎_elim
    (λ same. by_end (at (control_of w x).leases z None) refl (same))
    (λ new. ap (λ (o : Option ℕ). is_over o (clock_of w x + 0)) new.1 ∙ not_over (clock_of w x + 0 + lease_time) (clock_of w x + 0) (omega arith))
    (keeps.ticked.ends (z - 1)) where
      by_end : (e : Option ℕ) → at (control_of w x).leases z None ≡ e → at (control_of v x).leases z None ≡ at (control_of w x).leases z None → is_over (at (control_of v x).leases z None) (clock_of w x + 0) ≡ false
      by_end None was same = ap (λ (o : Option ℕ). is_over o (clock_of w x + 0)) (same ∙ was)
      by_end (Some e) was same =
          let ahead : clock_of w x < e = ends_ahead h w reached x z s e up leased was in
          ap (λ (o : Option ℕ). is_over o (clock_of w x + 0)) (same ∙ was) ∙ not_over e (clock_of w x + 0) (omega (arith, ahead))

-- each lease then ends within a lease's time
pub all_stale : (h : Header) (more : ℕ) (w : World) (x : ℕ) (v : World) → Reached h w → IsUp w x → TickKeeps h more w x v → IsStaleBy v lease_time x
all_stale h more w x v reached up keeps z s leased = inr (by_end (at (control_of v x).leases z None) refl) where
  was : HoldsLease w x z s
  was = keeps.only x z s leased

  set : at (control_of v x).leases z None ≡ None → ⊥
  set none =
      let id : IsId h z = leased_id h w x z s reached was in
      let long : length (control_of w x).leases ≡ h.nodes = leases_long h w x reached (up_id h w x reached up) in
      keeps.ticked.started z s (subst (λ (u : ℕ). leased_by (table_of w x) u z ≡ Some s) (sym (me_is w x)) was) (omega (arith, long, id.least, id.most)) none

  by_end : (o : Option ℕ) → at (control_of v x).leases z None ≡ o → (e : ℕ) × (at (control_of v x).leases z None ≡ Some e) × (e ≤ clock_of v x + lease_time)
  by_end None e = absurd (set e)
  by_end (Some end) e = (end, e, ends_within h v x (z - 1) end keeps.reached e)

-- A tick 15 seconds later, which ends the leases that are stale by then and no fresh one

pub fresh_row : (h : Header) (w : World) (x : ℕ) (v : World) → TickKeeps h 15 w x v → IsFreshBy w 30 x → (y z : ℕ) → IsHeld w y z → newest (table_of v y) z ≡ newest (table_of w y) z
fresh_row h w x v keeps fresh y z held = row_fresh h 15 w x v keeps y z (λ same.
    let end = fresh z (subst (λ (u : ℕ). IsHeld w u z) (sym same) held) in
    ⊎_elim
    (λ still. ap (λ (o : Option ℕ). is_over o (clock_of w x + 15)) (still ∙ end.1) ∙ not_over end.0 (clock_of w x + 15) (omega (arith, end.2)))
    (λ new. let clash : None ≡ Some end.0 = sym new.0 ∙ end.1 in absurd cc)
    (keeps.ticked.ends (z - 1)))

pub less_stale : (h : Header) (d : ℕ) (w : World) (x : ℕ) (v : World) → TickKeeps h 15 w x v → IsStaleBy w (d + 15) x → IsStaleBy v d x
less_stale h d w x v keeps stale z s leased = ⊎_elim
    (λ is. inl (current_stays w v keeps.steady x z s is))
    (λ (end : (e : ℕ) × (at (control_of w x).leases z None ≡ Some e) × (e ≤ clock_of w x + (d + 15))). inr (
      end.0,
      ⊎_elim
          (λ still. still ∙ end.1)
          (λ new. let clash : None ≡ Some end.0 = sym new.0 ∙ end.1 in absurd cc)
          (keeps.ticked.ends (z - 1)),
      omega (arith, end.2, keeps.ticked.clock),
    ))
    (stale z s (keeps.only x z s leased))
