-- The lines of inputs.
use Rattle.std.proofs.Common.{◌≡◌, ℕ, refl}
use Rattle.oc_model.specs.declared.event.Act.TheVariants.{At}
use Rattle.oc_model.specs.declared.input.Input.{Input}
use Rattle.oc_model.specs.declared.input.Input.TheVariants as inputs
use Rattle.oc_model.specs.declared.message.Message.{Message}
use Rattle.oc_schedule.specs.Texts.{act_line}
use Rattle.oc_routes.specs.Inputs.{input_line}

-- an input that is no message has the line of its act
pub other_line : (me : ℕ) (i : Input) → ((m : Message) → i ≡ inputs.Delivered m → ⊥) → act_line (At me i) ≡ input_line me i
other_line me (inputs.Delivered m) other = absurd (other m refl)
other_line me i other = refl
