-- The parts are the head.
use Rattle.std.proofs.Common.{ℕ, ◌≡◌, List, IfOk, codes, ◌∙◌, subst}
use Rattle.oc_http.specs.Writing.{line_end}
use Rattle.oc_http.proofs.Parts.{head_is}
use Rattle.oc_http.proofs.writing_replies.write_reply_head.Goals as goal

pub returns : goal.returns
returns c =
    let location = c.location_line-location in
    let rule = c.rule_line-rule in
    let type = c.content_type_line-content_type in
    let range = c.text_line-content_range in
    let tag = c.text_line-etag in
    let group = c.group_length_line-group_length in
    let content = c.content_line-content in
    let mac = c.text_line-mac in
    let text = head_is (codes "HTTP/1.1 ") c.as_bytes.result.now (codes " ") c.as_bytes-2.result.now line_end
    location.result.name.now location.result.value.now location.result.end.now c.allow_line.result.now c.challenge_line.result.now
    rule.result.name.now rule.result.value.now rule.result.end.now
    type.result.name.now type.result.value.now type.result.end.now range.result.name.now range.result.value.now range.result.end.now
    tag.result.name.now tag.result.value.now tag.result.end.now c.accept_ranges_line.result.now
    group.result.name.now group.result.value.now group.result.end.now
    content.result.name.now content.result.value.now content.result.end.now c.connection_line.result.now
    mac.result.name.now mac.result.value.now mac.result.end.now
    _ _ _ _ _ _ _ _ _ _ _ _ _ _
    (c.as_bytes.ensures.value ∙ c.format-status.ensures.text) (c.as_bytes-2.ensures.value ∙ c.phrase_of.ensures)
    location.ensures c.allow_line.ensures c.challenge_line.ensures rule.ensures type.ensures range.ensures tag.ensures c.accept_ranges_line.ensures group.ensures content.ensures c.connection_line.ensures mac.ensures in
    subst (λ (l : List ℕ). IfOk c.join.result (λ text. text.items ≡ l)) text c.join.ensures
