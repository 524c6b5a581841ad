use Rattle.std.proofs.Common.{◌≡◌, ◌∙◌, ◌++◌, ap, codes, decimal}
use Rattle.oc_policy.specs.Listing.{rule_text, shadow_text}
use Rattle.oc_policy.proofs.Texts.{last_part, one_more}
use Rattle.oc_policy.proofs.listing.put_line.Goals as goal

-- the parts are put one after the other
pub returns : goal.returns
returns c =
    let out = c.args.out.now.items in
    let number = decimal c.args.number in
    let rule = rule_text c.args.rule.now in
    let mark = shadow_text c.args.by in
    let first : c.put_number.new.out.items ≡ out ++ number = c.in_ok-put_number.ensures.ok ∙ ap (λ n. out ++ decimal n) c.from.ensures in
    let second = one_more out _ c.put.new.out.items number (codes " ") first c.in_ok-put.ensures.ok in
    let third = one_more out _ c.put_rule.new.out.items (number ++ codes " ") rule second c.in_ok-put_rule.ensures in
    let fourth = one_more out _ c.put_shadow.new.out.items (number ++ codes " " ++ rule) mark third c.in_ok-put_shadow.ensures in
    last_part c.put-2.result out _ c.put-2.new.out.items (number ++ codes " " ++ rule ++ mark) (codes "\n") fourth c.put-2.ensures.ok
