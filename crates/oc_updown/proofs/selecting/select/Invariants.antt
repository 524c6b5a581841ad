use Rattle.std.proofs.Common.{◌≡◌, ◌<◌, ◌≤◌, ◌+◌, ◌-◌}
use Rattle.std.specs.Prelude.{filter, IfSome}
use Rattle.std.specs.List.{range_with_len}
use Rattle.oc_model.specs.Table.{is_listed}
use Rattle.oc_updown.specs.Better.{is_better, best_of, with_rest}
use Rattle.oc_updown.proofs.selecting.select.Given as goal

-- the best so far and the best listed of the rest are the best listed of all; and the best so far comes before the rest
abbrev pub invariant-loop-before : goal.invariant-loop-before
invariant-loop-before l =
    record {
      best : with_rest (is_better l.areas l.counts.items l.area) l.best (best_of (is_better l.areas l.counts.items l.area) (filter (is_listed l.table.entries l.me) (range_with_len (l.before + 1) (l.nodes - l.before))))
          ≡ best_of (is_better l.areas l.counts.items l.area) (filter (is_listed l.table.entries l.me) (range_with_len (l.chain + 1) (l.nodes - l.chain)));
      behind : IfSome l.best (λ b. (1 ≤ b) × (b < l.before + 1));
    }
