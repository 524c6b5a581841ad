use Rattle.std.proofs.Common.{◌≡◌, ◌∙◌, ◌++◌, ap, append_assoc, codes}
use Rattle.oc_model.specs.Node.{Log}
use Rattle.oc_routes.specs.Json.{number_text}
use Rattle.oc_routes.proofs.Texts.{last_field, then_field}
use Rattle.oc_routes.proofs.routes.status.put_counts.Goals as goal

-- one field after the other
pub returns : goal.returns
returns c =
    let node = c.args.node.now.control in
    let length : c.length.result ≡ node.kept.log.length = c.length.ensures.length ∙ ap (λ (log : Log). log.length) c.log.ensures.log in
    let clock : c.put_field.new.out.items ≡ c.args.out.now.items ++ codes ",\"clock\":" ++ number_text node.soft.clock = rw c.now.ensures at c.in_ok-put_field.ensures in
    let acked : c.acked.result ≡ node.kept.log.acked = c.acked.ensures.acked ∙ ap (λ (log : Log). log.acked) c.log-2.ensures.log in
    last_field _ c.args.out.now.items _ _ _ (codes ",\"clients\":") (number_text node.kept.clients)
    (then_field c.args.out.now.items _ _ _ (codes "},\"number\":") (number_text node.kept.number)
    (then_field c.args.out.now.items _ _ _ (codes ",\"acked\":") (number_text node.kept.log.acked)
    (then_field c.args.out.now.items _ _ _ (codes ",\"log\":{\"length\":") (number_text node.kept.log.length)
    (clock ∙ append_assoc c.args.out.now.items (codes ",\"clock\":") (number_text node.soft.clock))
    (rw length at c.in_ok-put_field-2.ensures)) (rw acked at c.in_ok-put_field-3.ensures)) (rw c.number.ensures at c.in_ok-put_field-4.ensures)) (rw c.clients.ensures at c.put_field-5.ensures)
