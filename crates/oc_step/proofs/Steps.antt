-- One more change of a step under way.
use Rattle.std.proofs.Common.{◌≡◌, ℕ, Option, List, [], ◌∷◌, ◌++◌, refl, ap}
use Rattle.std.specs.List.{AllByRecursion}
use Rattle.oc_base.specs.declared.cert.Cert.{Cert}
use Rattle.oc_model.specs.declared.record.Record.{Record}
use Rattle.oc_model.specs.Leases.{start_all}
use Rattle.oc_model.specs.Node.{Control, Durable}
use Rattle.oc_model.specs.Plan.{Plan}
use Rattle.oc_model.specs.Records.{fold_one, folded}
use Rattle.oc_model.proofs.Lists.{all_append}
use Rattle.oc_laws_step.proofs.Goes.{folded-append}
use Rattle.oc_state.specs.declared.list_update.ListUpdate.{ListUpdate}
use Rattle.oc_state.specs.declared.list_update.ListUpdate.TheVariants as list_updates
use Rattle.oc_state.specs.ListUpdates.{IsListUpdate, leases_by, rates_by, counts_by, leases_after, rates_after, counts_after}
use Rattle.oc_step.specs.StepView.{updates}

-- one more record
pub folded_more : (d : Durable) (rs : List Record) (r : Record) → folded d (rs ++ r ∷ []) ≡ fold_one (folded d rs) r
folded_more d rs r = folded-append d rs (r ∷ [])

-- one more update
pub leases_more : (t : List Cert) (me : ℕ) (ends : List (Option ℕ)) (us : List ListUpdate) (u : ListUpdate) → leases_after t me ends (us ++ u ∷ []) ≡ leases_by t me (leases_after t me ends us) u
leases_more t me ends [] u = refl
leases_more t me ends (v ∷ vs) u = leases_more t me (leases_by t me ends v) vs u

pub rates_more : (rates : List ℕ) (ts : List ListUpdate) (t : ListUpdate) → rates_after rates (ts ++ t ∷ []) ≡ rates_by (rates_after rates ts) t
rates_more rates [] t = refl
rates_more rates (u ∷ us) t = rates_more (rates_by rates u) us t

pub counts_more : (counts : List ℕ) (ts : List ListUpdate) (t : ListUpdate) → counts_after counts (ts ++ t ∷ []) ≡ counts_by (counts_after counts ts) t
counts_more counts [] t = refl
counts_more counts (u ∷ us) t = counts_more (counts_by counts u) us t

pub updates_more : (nodes : ℕ) (us : List ListUpdate) (u : ListUpdate) → AllByRecursion (IsListUpdate nodes) us → IsListUpdate nodes u → AllByRecursion (IsListUpdate nodes) (us ++ u ∷ [])
updates_more nodes us u all one = all_append (IsListUpdate nodes) us (u ∷ []) all (one, tt)

-- no lease begins at a table without certificates
pub none_start : (base : Control) (now : ℕ) (o : Plan) → base.kept.table ≡ [] → updates base (list_updates.Start now) o ≡ o
none_start base now o none = ap (λ (t : List Cert). record o { node = record o.node { leases = start_all t base.me o.node.leases now } }) none
