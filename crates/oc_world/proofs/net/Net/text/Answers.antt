use Rattle.std.proofs.Common.{◌≡◌, Some, sym, ap, ◌∙◌}
use Rattle.std.proofs.lemmas.Result.{IfOk-weaker}
use Rattle.oc_world.specs.Net.{text_of}
use Rattle.oc_world.proofs.net.Net.text.Goals as goal

-- the text is that of the message there
pub returns : goal.returns
returns c =
    IfOk-weaker c.text_of.result _ _
    (λ text told m there.
    let same : Some c.in_ok-message.message ≡ Some m = sym c.in_ok-message.ensures.message ∙ there in
    let is : c.in_ok-message.message ≡ m = cc same in
    told ∙ ap text_of is)
    c.text_of.ensures
