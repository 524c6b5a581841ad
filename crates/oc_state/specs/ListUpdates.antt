-- The updates of the lists that have an item for each node: lease ends, rates of children, redirection counts.
use Rattle.std.specs.Prelude.{◌≡◌, ℕ, ◌+◌, ◌≤◌, Option, List, [], ◌∷◌, length}
use Rattle.oc_base.specs.Lawful.{IsNode}
use Rattle.oc_base.specs.declared.cert.Cert.{Cert}
use Rattle.oc_base.specs.declared.limits.TheConstants.{LAST_SECOND}
use Rattle.oc_base.specs.SlotsView.{SlotsView}
use Rattle.oc_model.specs.Leases.{renew, start_all}
use Rattle.oc_model.specs.Numbers.{capped, at, put_at}
use Rattle.oc_state.specs.declared.list_update.ListUpdate.{ListUpdate}
use Rattle.oc_state.specs.declared.list_update.ListUpdate.TheVariants as updates
use Rattle.oc_updown.specs.LeasesView.{LeasesView}

-- an update that names one of `nodes` nodes, at a second within the clock's range
abbrev pub IsListUpdate : ℕ → ListUpdate → Type 0
IsListUpdate nodes (updates.Start now) = now ≤ LAST_SECOND
IsListUpdate nodes (updates.Renew x now) = IsNode nodes x × (now ≤ LAST_SECOND)
IsListUpdate nodes (updates.Tell x rate) = IsNode nodes x
IsListUpdate nodes (updates.Redirect x) = IsNode nodes x

-- the lease ends after one update, at a node with this table
abbrev pub leases_by : List Cert → ℕ → List (Option ℕ) → ListUpdate → List (Option ℕ)
leases_by t me ends (updates.Start now) = start_all t me ends now
leases_by t me ends (updates.Renew x now) = renew ends x now
leases_by t me ends update = ends

-- the children's rates after one update
abbrev pub rates_by : List ℕ → ListUpdate → List ℕ
rates_by rates (updates.Tell x rate) = put_at rates x rate
rates_by rates update = rates

-- the redirection counts after one update
abbrev pub counts_by : List ℕ → ListUpdate → List ℕ
counts_by counts (updates.Redirect x) = put_at counts x (capped (at counts x 0 + 1))
counts_by counts update = counts

-- the lease ends after these updates, one after another
abbrev pub leases_after : List Cert → ℕ → List (Option ℕ) → List ListUpdate → List (Option ℕ)
leases_after t me ends [] = ends
leases_after t me ends (u ∷ us) = leases_after t me (leases_by t me ends u) us

abbrev pub rates_after : List ℕ → List ListUpdate → List ℕ
rates_after rates [] = rates
rates_after rates (u ∷ us) = rates_after (rates_by rates u) us

abbrev pub counts_after : List ℕ → List ListUpdate → List ℕ
counts_after counts [] = counts
counts_after counts (u ∷ us) = counts_after (counts_by counts u) us

-- the lists have an item for each of this number of nodes, and memory for all of them
pub record AreReserved (nodes : ℕ) (ends : LeasesView) (told sent : SlotsView ℕ) : Type 0 where
  pub leases : length ends.ends ≡ nodes
  pub leases_room : nodes ≤ ends.room
  pub rates : length told.items ≡ nodes
  pub rates_room : nodes ≤ told.room
  pub counts : length sent.items ≡ nodes
  pub counts_room : nodes ≤ sent.room
