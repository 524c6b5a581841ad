use Rattle.std.proofs.Common.{List, ap₂, ◌∙◌}
use Rattle.oc_base.specs.declared.shelf.Shelf.{Shelf}
use Rattle.oc_deeds.specs.Brief.{told_first}
use Rattle.oc_deeds.proofs.Results.{ok_then}
use Rattle.oc_server.proofs.telling.first_lines.Goals as goal

pub returns : goal.returns
returns g c =
    ok_then c.told_first.result (λ text is. is ∙ ap₂ (λ n (shelves : List Shelf). told_first c.args.log n.control shelves) c.node.ensures c.shelf.ensures.shelf) c.told_first.ensures
