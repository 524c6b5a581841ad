use Rattle.std.proofs.Common.{length}
use Rattle.oc_base.specs.declared.limits.TheConstants.{MAX_NODES}
use Rattle.oc_updown.proofs.Entries.{filled_rows}
use Rattle.oc_updown.proofs.table.Table.clear.Goals as goal

pub invariant_of-self : goal.invariant_of-self
invariant_of-self c =
    let rows = filled_rows c.fill.new.self.items (length c.self.inside.rows.items) MAX_NODES c.fill.ensures.items c.self.invariant.1 in
    ((rows.0, c.fill.ensures.blank), rows.1)
