use Rattle.oc_policy.proofs.Coverings.{covers-Decides, covers-then, covers-else}
use Rattle.oc_policy.proofs.rule.Rule.covers.Goals as goal

pub returns-then-covers_parts : goal.returns-then-covers_parts
returns-then-covers_parts c =
    let j = c.args.self.now in
    let i = c.args.other.now in
    let said = covers-Decides j i c.covers-holds.ensures.own c.covers-holds.ensures.other c.covers_parts.ensures.range in
    covers-then j i c.covers-holds.result said c.if-covers_parts.ensures.test c.covers-holds.ensures.test

pub returns-else-covers_parts : goal.returns-else-covers_parts
returns-else-covers_parts c =
    let j = c.args.self.now in
    let i = c.args.other.now in
    let said = covers-Decides j i c.covers-holds.ensures.own c.covers-holds.ensures.other c.covers_parts.ensures.range in
    let test = c.if-covers_parts.ensures.test in
    rw c.if-covers_parts.false (covers-else j i said test)
