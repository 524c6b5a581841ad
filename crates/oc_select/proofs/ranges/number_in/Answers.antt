use Rattle.std.proofs.Common.{◌≡◌, ◌<◌, ◌≤◌, true, length, rules, arith}
use Rattle.std.specs.Char.{is_ascii_digit}
use Rattle.std.specs.List.{list_all}
use Rattle.std.proofs.lemmas.Grind.{common_steps}
use Rattle.oc_select.proofs.Numbers.{number_is}
use Rattle.oc_select.proofs.ranges.number_in.Goals as goal

pub returns : goal.returns
returns c =
    let some : 0 < length c.args.text.now = first_of (search rules, grind (arith, common_steps)) in
    let few : length c.args.text.now ≤ 19 = first_of (omega arith, search rules) in
    let digits : list_all is_ascii_digit c.args.text.now ≡ true = first_of (search rules, grind (arith, common_steps)) in
    number_is c.args.text.now c.value_of.result some few digits c.value_of.ensures
