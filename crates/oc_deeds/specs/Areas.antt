-- The areas that a node goes by.
use Rattle.std.specs.Prelude.{ℕ, ◌-◌, List, ◌++◌, length, replicate}
use Rattle.oc_model.specs.Node.{Node}
use Rattle.oc_node.specs.Areas.{with_areas}

-- these areas, for this many nodes: an id without an area has 0
abbrev pub areas_among : ℕ → List ℕ → List ℕ
areas_among nodes areas = areas ++ replicate (nodes - length areas) 0

-- the node that goes by these areas from now on
abbrev pub with_areas_of : List ℕ → Node → Node
with_areas_of areas n = record n { control = with_areas (areas_among n.control.nodes areas) n.control }
