use Rattle.std.proofs.Common.{◌≡◌, ◌∙◌, ◌++◌, append_assoc, codes}
use Rattle.oc_routes.specs.Json.{number_text}
use Rattle.oc_routes.proofs.Texts.{last_put, then_field}
use Rattle.oc_routes.proofs.routes.status.put_tally.Goals as goal

-- one count after the other
pub returns : goal.returns
returns c =
    let t = c.args.tally.now in
    let out = c.args.out.now.items in
    let served : c.put_field.new.out.items ≡ out ++ codes ",\"served\":" ++ number_text t.served = rw c.served.ensures at c.in_ok-put_field.ensures in
    last_put _ out _ _ _ (codes "}")
    (then_field out _ _ _ (codes ",\"message\":") (number_text t.messages)
    (then_field out _ _ _ (codes ",\"refused\":{\"mac\":") (number_text t.macs)
    (then_field out _ _ _ (codes ",\"sent\":") (number_text t.sent)
    (served ∙ append_assoc out (codes ",\"served\":") (number_text t.served))
    (rw c.sent.ensures at c.in_ok-put_field-2.ensures)) (rw c.macs.ensures at c.in_ok-put_field-3.ensures)) (rw c.messages.ensures at c.in_ok-put_field-4.ensures)) c.put.ensures.ok
