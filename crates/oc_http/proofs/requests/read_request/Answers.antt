use Rattle.std.proofs.Common.{◌≡◌, ◌∙◌}
use Rattle.oc_http.specs.Fields.{named}
use Rattle.oc_http.proofs.requests.read_request.Goals as goal

-- the parts that the spans cover are those of the head
pub returns : goal.returns
returns c =
    let head = c.requires.head in
    let method : c.of-method.result.now ≡ head.method = c.of-method.ensures ∙ c.requires.cover.method in
    let target : c.of-target.result.now ≡ head.target = c.of-target.ensures ∙ c.requires.cover.path in
    let fields : c.of-fields.result ≡ named head.fields = c.of-fields.ensures ∙ c.requires.cover.fields in
    (head, c.requires.whole, rw (method, target, c.requires.cover.version, fields) at c.read_parts.ensures)
