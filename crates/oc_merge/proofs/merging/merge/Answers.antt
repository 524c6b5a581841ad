use Rattle.std.proofs.Common.{rules, None, length}
use Rattle.oc_merge.specs.Ends.{EndsAt}
use Rattle.oc_merge.specs.Heads.{IsFirstChoice}
use Rattle.oc_merge.proofs.Taken.{merge_done}
use Rattle.oc_merge.proofs.merging.merge.Goals as goal

pub returns : goal.returns
returns g c =
    let r = c.args.records.now in
    let heads = c.taking.fronts.heads.items in
    let none : IsFirstChoice heads (length heads) None = search rules in
    let ends : EndsAt r.lines heads c.end_at-end.result = search rules in
    merge_done g.N.Nodes.digest r heads (g.N.Nodes.world c.taking.nodes) c.taking.events _ c.end_at-end.result c.taking.invariant.0 c.requires.records c.taking.invariant.1 none ends (search rules) (search rules)
