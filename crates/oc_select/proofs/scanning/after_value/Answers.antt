use Rattle.std.proofs.Common.{ap, ◌∙◌}
use Rattle.oc_select.specs.Tags.{members_in}
use Rattle.oc_select.specs.Scanning.{heard_all}
use Rattle.oc_select.specs.declared.scanning.Heard.{Heard}
use Rattle.oc_select.proofs.Scanned.{part_last, part_more}
use Rattle.oc_select.proofs.scanning.after_value.Goals as goal

pub parts-preserved : goal.parts-preserved
parts-preserved c =
    let split = rw c.in-Some.is at c.cut_part.ensures.first in
    ap (λ (h : Heard). heard_all c.args.how c.args.tag.now h (members_in c.in-Some.others.now)) c.after_part-said.ensures
    ∙ part_more c.args.how c.args.tag.now c.parts.said c.parts.rest.now c.cut_part.result.0.now c.in-Some.others.now split ∙ c.parts.invariant

pub returns-in-None : goal.returns-in-None
returns-in-None c =
    let split = rw c.in-None.is at c.cut_part.ensures.last in
    c.after_part-said.ensures ∙ part_last c.args.how c.args.tag.now c.parts.said c.parts.rest.now c.cut_part.result.0.now split ∙ c.parts.invariant
