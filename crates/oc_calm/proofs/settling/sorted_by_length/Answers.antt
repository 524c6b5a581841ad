use Rattle.std.proofs.Common.{ℕ, List, ◌-◌, ◌++◌, length, ap, ◌∙◌, arith}
use Rattle.oc_calm.specs.Longest.{longest_first}
use Rattle.oc_calm.proofs.Greatest.{longest_from}
use Rattle.oc_calm.proofs.TellingRuns.{level_more, level_none}
use Rattle.oc_calm.proofs.settling.sorted_by_length.Goals as goal

pub levels-init : goal.levels-init
levels-init c =
    let ls = c.args.lengths.now in
    let xs = c.args.nodes.now in
    ap (λ (ys : List ℕ). ys ++ longest_first ls xs c.min-length.result) c.new-sorted.ensures.items ∙ longest_from ls xs c.greatest_of.result c.min-length.result c.greatest_of.ensures c.min-length.ensures

pub levels-preserved : goal.levels-preserved
levels-preserved c =
    let ls = c.args.lengths.now in
    let xs = c.args.nodes.now in
    level_more ls xs c.levels.length (c.levels.length - 1) c.levels.sorted.items c.push_of_length.new.sorted.items (longest_first ls xs (length ls)) (omega (arith, c.levels-test.true)) c.in_ok-push_of_length.ensures c.levels.invariant

pub returns : goal.returns
returns c =
    let ls = c.args.lengths.now in
    let xs = c.args.nodes.now in
    level_none ls xs c.levels.length c.levels.sorted.items (longest_first ls xs (length ls)) (omega (arith, c.levels-test.false)) c.levels.invariant
