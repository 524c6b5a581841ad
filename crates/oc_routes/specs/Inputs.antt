-- The lines of inputs.
use Rattle.std.specs.Prelude.{ℕ, List}
use Rattle.oc_model.specs.declared.event.Act.TheVariants.{At}
use Rattle.oc_model.specs.declared.input.Input.{Input}
use Rattle.oc_model.specs.declared.input.Input.TheVariants as inputs
use Rattle.oc_schedule.specs.Texts.{act_line, recv_line}
use Rattle.oc_wire.specs.Spelling.{spelling, HasSpelling}

-- the line by which the node me prints an input that it takes
abbrev pub input_line : ℕ → Input → List ℕ
input_line me (inputs.Delivered message) = recv_line me (spelling message)
input_line me input = act_line (At me input)

-- a message that is printed has a spelling
abbrev pub HasLine : Input → Type 0
HasLine (inputs.Delivered message) = HasSpelling message.body
HasLine input = Unit {0}
