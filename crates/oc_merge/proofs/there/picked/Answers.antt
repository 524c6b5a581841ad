use Rattle.std.proofs.Common.{rules, ◌≡◌, ◌++◌, ◌∷◌, [], length, reverse, ◌∙◌}
use Rattle.oc_merge.specs.Recorded.{picked}
use Rattle.oc_merge.proofs.LinesThere.{picked_on, picked_done}
use Rattle.oc_merge.proofs.there.picked.Goals as goal

pub lines-preserved : goal.lines-preserved
lines-preserved c =
    let items : c.lines.lines.items ≡ c.pop.new.self.items ++ c.in-Some.line ∷ [] = search rules in
    let index : c.len.result ≡ length c.pop.new.self.items = search rules in
    picked_on c.args.there.now c.lines.lines.items c.pop.new.self.items c.in-Some.line c.lines.left.items c.push_if.new.left.items (picked c.args.there.now c.args.lines.items) c.len.result _ items index c.in_ok-push_if.ensures c.lines.invariant.0 c.lines.invariant.1

pub returns : goal.returns
returns c =
    let none : c.lines.lines.items ≡ [] = search rules in
    c.reverse.ensures.items ∙ picked_done c.args.there.now c.lines.lines.items (reverse c.lines.left.items) (picked c.args.there.now c.args.lines.items) none c.lines.invariant.1
