use Rattle.std.proofs.Common.{ℕ, IfSome, subst, arith}
use Rattle.oc_model.specs.Lawful.{IsInput, IsMessage}
use Rattle.oc_model.specs.declared.input.Input.{Input}
use Rattle.oc_model.specs.declared.input.Input.TheVariants as inputs
use Rattle.oc_model.specs.declared.message.Message.{Message}
use Rattle.oc_routes.specs.Inputs.{HasLine}
use Rattle.oc_wire.specs.Spelling.{HasSpelling}
use Rattle.wire_cases.proofs.service.requests.put_input.Goals as goal

-- a lawful input has a line
has_line : (me : ℕ) (i : Input) → ((m : Message) → IsMessage 3 m → HasSpelling m.body) → IsInput 3 me i → HasLine i
has_line me (inputs.Delivered m) text lawful = text m lawful.0
has_line me i text lawful = tt

pub put_input_line-requires : goal.put_input_line-requires
put_input_line-requires c =
    has_line c.args.me c.in-Some.input (λ m is. (c.spellings_are_read.ensures.spelled 3 m (omega arith) is).fits)
    (subst (λ i. IfSome i (IsInput 3 c.args.me)) c.in-Some.is c.requires)
