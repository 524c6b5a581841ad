use Rattle.std.proofs.Common.{◌≡◌, false, length, sym, ap, subst, ◌∙◌, arith}
use Rattle.std.specs.List.{AllByRecursion}
use Rattle.std.proofs.lemmas.List.{length-map}
use Rattle.oc_laws_step.proofs.Ranges.{all_take}
use Rattle.oc_world.specs.Net.{IsLetter, NetView, brought, ends_with_ack}
use Rattle.oc_world.proofs.NetLists.{cut_back}
use Rattle.oc_world.proofs.net.Net.send_all.Goals as goal

-- the letters of before are left
pub invariant_of-self : goal.invariant_of-self
invariant_of-self c =
    let t = c.self.inside in
    let s = c.self-2.inside in
    let old = c.args.self.now.messages in
    let n = c.len-before.result in
    let count : n ≡ length old = omega (arith, c.len-before.ensures, length-map t.letters.items (brought t.nodes t.pools), ap (λ (v : NetView). length v.messages) c.self.view_is) in
    let left = cut_back s.nodes s.pools s.letters.items c.truncate.new.self.items c.send_each.new.self.messages old n (ap (λ (v : NetView). v.messages) c.self-2.view_is) c.send_each.ensures.before count c.truncate.ensures.items in (
      c.self-2.invariant.0,
      omega (arith, c.truncate.ensures.len, c.self-2.invariant.1),
      subst (AllByRecursion (IsLetter s.nodes s.pools)) (sym c.truncate.ensures.items) (all_take (IsLetter s.nodes s.pools) n s.letters.items c.self-2.invariant.2),
      c.self.invariant.3 ∙ ap (λ (v : NetView). ends_with_ack false v.messages) c.self.view_is ∙ ap (ends_with_ack false) (sym left),
    )

pub returns-in-Err-clause-err : goal.returns-in-Err-clause-err
returns-in-Err-clause-err c =
    let t = c.self.inside in
    let s = c.self-2.inside in
    let old = c.args.self.now.messages in
    let n = c.len-before.result in
    let count : n ≡ length old = omega (arith, c.len-before.ensures, length-map t.letters.items (brought t.nodes t.pools), ap (λ (v : NetView). length v.messages) c.self.view_is) in
    cut_back s.nodes s.pools s.letters.items c.truncate.new.self.items c.send_each.new.self.messages old n (ap (λ (v : NetView). v.messages) c.self-2.view_is) c.send_each.ensures.before count c.truncate.ensures.items
