-- A node that goes by other areas.
use Rattle.std.specs.Prelude.{ℕ, List}
use Rattle.oc_model.specs.Node.{Control}

-- the node with these areas of the nodes, by their numbers
abbrev pub with_areas : List ℕ → Control → Control
with_areas areas n = record n { areas = areas }
