use Rattle.std.proofs.Common.{◌≡◌, [], arith}
use Rattle.std.proofs.lemmas.Grind.{common_steps}
use Rattle.oc_system.proofs.WholeLines.{no_line, told_by_lines}
use Rattle.oc_system.proofs.extent.request_extent.Goals as goal

pub returns-then-is_empty : goal.returns-then-is_empty
returns-then-is_empty c =
    let lines = c.whole_lines-lines.result.now in
    let none : lines ≡ [] = grind (arith, common_steps) in
    no_line c.args.bytes.now lines c.whole_lines-lines.ensures none

pub returns : goal.returns
returns c =
    let lines = c.whole_lines-lines.result.now in
    let some : ¬ (lines ≡ []) = λ none. grind (arith, common_steps) in
    told_by_lines _ c.args.bytes.now lines _ c.whole_lines-lines.ensures some c.lines_extent.ensures
