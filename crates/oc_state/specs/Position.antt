-- The small durable parts of a node.
use Rattle.std.specs.Prelude.{None}
use Rattle.oc_model.specs.declared.mode.Mode.TheVariants.{Idle}
use Rattle.oc_model.specs.Node.{Durable}
use Rattle.oc_state.specs.declared.position.Position.{Position}

-- the small parts of this state
abbrev pub position_of : Durable → Position
position_of d = record { seq = d.seq; mode = d.mode; rank = d.rank; number = d.number; clients = d.clients }

-- the small parts of a new node
abbrev pub new_position : Position
new_position = record { seq = 0; mode = Idle; rank = None; number = 0; clients = 0 }
