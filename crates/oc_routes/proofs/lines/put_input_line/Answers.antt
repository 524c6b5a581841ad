use Rattle.std.proofs.Common.{◌∙◌, ◌++◌, ap}
use Rattle.std.proofs.lemmas.Result.{on_ok_weaker}
use Rattle.oc_routes.proofs.InputLines.{other_line}
use Rattle.oc_routes.proofs.lines.put_input_line.Goals as goal

-- an input that is no message is printed as an act
pub returns-in_default : goal.returns-in_default
returns-in_default c =
    on_ok_weaker c.put_act_line.result
    (λ put. put ∙ ap (λ line. c.args.out.now.items ++ line) (other_line c.args.me c.args.input.now (λ m e. c.in_default.not-Delivered m e)))
    c.put_act_line.ensures
