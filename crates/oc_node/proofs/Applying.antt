-- The effect of applying a plan, part by part.
use Rattle.std.proofs.Common.{◌≡◌, ℕ, ◌<◌, ◌≤◌, Option, List, drop, length, unwrap_or, refl, ap, arith, sym, subst, ◌∙◌}
use Rattle.oc_base.specs.SlotsView.{SlotsView}
use Rattle.oc_model.specs.declared.soft.Soft.{Soft}
use Rattle.oc_model.specs.Node.{Control, Durable}
use Rattle.oc_model.specs.Records.{folded}
use Rattle.oc_state.specs.declared.list_update.ListUpdate.{ListUpdate}
use Rattle.oc_state.specs.declared.volatile.Volatile.{Volatile}
use Rattle.oc_state.specs.ListUpdates.{AreReserved, leases_after, rates_after, counts_after}
use Rattle.oc_state.specs.Volatile.{soft_of}
use Rattle.oc_step.specs.Applying.{HaveRoom}
use Rattle.oc_step.specs.NodeView.{ListRooms, control_of}
use Rattle.oc_step.specs.Planned.{PlanView, control_after, soft_after}
use Rattle.oc_updown.specs.LeasesView.{LeasesView}

-- the state that a start clears is the one of the plan
pub soft_applied : (s : Soft) (p : PlanView) (v : Volatile) (set : Option (List ℕ)) (taken : ℕ) (tries : List ℕ) → v ≡ p.volatile → set ≡ p.tries → taken ≡ p.taken → tries ≡ drop taken (unwrap_or set s.tries) → soft_of v tries ≡ soft_after s p
soft_applied s p v set taken tries e f g h = rw (h, e, f, g)

-- the control state of the parts is that after the plan
pub control_applied : (me nodes chain chunk : ℕ) (areas : List ℕ) (kept after : Durable) (s t : Soft) (leases ends : List (Option ℕ)) (rates told counts sent : List ℕ) (n : Control) (p : PlanView) → control_of me nodes chain chunk areas kept s leases rates counts ≡ n → after ≡ folded kept p.records → t ≡ soft_after s p → ends ≡ leases_after kept.table me leases p.updates → told ≡ rates_after rates p.updates → sent ≡ counts_after counts p.updates → control_of me nodes chain chunk areas after t ends told sent ≡ control_after n p
control_applied me nodes chain chunk areas kept after s t leases ends rates told counts sent n p same k soft l r c = rw (k, soft, l, r, c) (ap (λ (m : Control). control_after m p) same)

-- parts that have more memory are the same
pub control_same : (me nodes chain chunk : ℕ) (areas : List ℕ) (s : Soft) (kept kept2 : Durable) (leases ends : List (Option ℕ)) (rates told counts sent : List ℕ) → kept2 ≡ kept → ends ≡ leases → told ≡ rates → sent ≡ counts → control_of me nodes chain chunk areas kept2 s ends told sent ≡ control_of me nodes chain chunk areas kept s leases rates counts
control_same me nodes chain chunk areas s kept kept2 leases ends rates told counts sent k l r c = rw (k, l, r, c) refl

-- the memory of these lists
abbrev pub rooms_of : LeasesView → SlotsView ℕ → SlotsView ℕ → ListRooms
rooms_of leases rates counts = record { leases = leases.room; rates = rates.room; counts = counts.room }

-- memory for each list, where a plan has updates
pub have_room : (us : List ListUpdate) (nodes : ℕ) (leases : LeasesView) (rates counts : SlotsView ℕ) → length leases.ends ≡ nodes → length rates.items ≡ nodes → length counts.items ≡ nodes → (0 < length us → length leases.ends ≤ leases.room) → (0 < length us → length rates.items ≤ rates.room) → (0 < length us → length counts.items ≤ counts.room) → 0 < length us → HaveRoom nodes (rooms_of leases rates counts)
have_room us nodes leases rates counts l r c ends told sent some = record { leases = omega (arith, l, ends some); rates = omega (arith, r, told some); counts = omega (arith, c, sent some) }

-- each list has an item for each node and memory for all of them, if a plan has updates
pub lists_reserved : (us ps : List ListUpdate) (rows nodes : ℕ) (leases : LeasesView) (rates counts : SlotsView ℕ) → us ≡ ps → rows ≡ nodes → length leases.ends ≡ nodes → length rates.items ≡ nodes → length counts.items ≡ nodes → (0 < length ps → HaveRoom nodes (rooms_of leases rates counts)) → 0 < length us → AreReserved rows leases rates counts
lists_reserved us ps rows nodes leases rates counts same e l r c have some =
    let there : 0 < length ps = subst (λ (xs : List ListUpdate). 0 < length xs) same some in
    let room = have there in
    record {
      leases = l ∙ sym e;
      leases_room = rw e (room.leases);
      rates = r ∙ sym e;
      rates_room = rw e (room.rates);
      counts = c ∙ sym e;
      counts_room = rw e (room.counts);
    }
