use Rattle.std.proofs.Common.{◌≤◌, ap, arith, length}
use Rattle.oc_state.proofs.Waiting.{entries_in_use}
use Rattle.oc_updown.specs.TableView.{entries_of}
use Rattle.oc_state.proofs.durable.rows_in_use.Goals as goal

pub returns : goal.returns
returns c =
    let rows = c.rows.result.now in
    let most : length (entries_of rows.items) ≤ c.used.result = entries_in_use rows.items c.used.result _ _ c.used.ensures.rest c.rows.ensures.rows.1 in
    omega (arith, ap length c.rows.ensures.entries)
