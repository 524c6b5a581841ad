use Rattle.std.proofs.Common.{◌≡◌, ℕ, List, ◌∷◌, length, sym, ap, ◌∙◌, rules, arith}
use Rattle.std.proofs.lemmas.Grind.{common_steps}
use Rattle.oc_select.specs.Tags.{members, members_in}
use Rattle.oc_select.specs.Scanning.{concluded, heard_all}
use Rattle.oc_select.specs.declared.scanning.Heard.{Heard}
use Rattle.oc_select.specs.declared.scanning.Heard.TheVariants.{Nothing}
use Rattle.oc_select.proofs.Scanned.{concluded-said, none_left, value_more}
use Rattle.oc_select.proofs.scanning.naming.Goals as goal

pub values-preserved : goal.values-preserved
values-preserved c =
    let whole : c.values.rest.now ≡ c.in-Some.value.now ∷ c.in-Some.others.now = first_of (search rules, grind (arith, common_steps)) in
    ap (λ (h : Heard). heard_all c.args.how c.args.tag.now h (members c.in-Some.others.now))
    (c.after_value-said.ensures ∙ ap (λ (v : List ℕ). heard_all c.args.how c.args.tag.now c.values.said (members_in v)) c.items.ensures)
    ∙ value_more c.args.how c.args.tag.now c.values.said c.in-Some.value.now c.in-Some.others.now
    ∙ ap (λ (vs : List (List ℕ)). heard_all c.args.how c.args.tag.now c.values.said (members vs)) (sym whole) ∙ c.values.invariant

pub returns : goal.returns
returns c =
    let none : length c.values.rest.now ≡ 0 = first_of (search rules, grind (arith, common_steps)) in
    let all : c.values.said ≡ heard_all c.args.how c.args.tag.now Nothing (members c.args.values.now) =
    sym (ap (λ (vs : List (List ℕ)). heard_all c.args.how c.args.tag.now c.values.said (members vs)) (none_left c.values.rest.now none)) ∙ c.values.invariant in
    c.conclusion.ensures ∙ ap concluded all ∙ concluded-said c.args.how c.args.tag.now (members c.args.values.now)
