use Rattle.oc_base.specs.declared.limits.TheConstants.{MAX_NODES}
use Rattle.oc_updown.proofs.Entries.{filled_rows}
use Rattle.oc_updown.proofs.table.Table.new.Goals as goal

pub invariant_of-result : goal.invariant_of-result
invariant_of-result c =
    let rows = filled_rows c.in_ok-new.field-0.items c.args.nodes MAX_NODES c.in_ok-new.ensures.items c.requires.most in
    ((rows.0, c.in_ok-new.ensures.blank), rows.1)
