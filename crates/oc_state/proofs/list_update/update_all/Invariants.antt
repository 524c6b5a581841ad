use Rattle.std.proofs.Common.{◌≡◌, ◌<◌, length, drop}
use Rattle.std.specs.List.{AllByRecursion}
use Rattle.oc_state.specs.ListUpdates.{AreReserved, IsListUpdate, leases_after, rates_after, counts_after}
use Rattle.oc_state.proofs.list_update.update_all.Given as goal

abbrev pub invariant-loop-update : goal.invariant-loop-update
invariant-loop-update l = record {
  leases : leases_after l.table.entries l.me l.leases.ends (drop l.update-index l.updates) ≡ leases_after l.table.entries l.me l.initial.leases.ends l.updates;
  rates : rates_after l.rates.items (drop l.update-index l.updates) ≡ rates_after l.initial.rates.items l.updates;
  counts : counts_after l.counts.items (drop l.update-index l.updates) ≡ counts_after l.initial.counts.items l.updates;
  lists : 0 < length l.updates → AreReserved l.table.nodes l.leases l.rates l.counts;
  left : AllByRecursion (IsListUpdate l.table.nodes) (drop l.update-index l.updates);
}
