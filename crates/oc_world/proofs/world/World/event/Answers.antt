use Rattle.std.proofs.Common.{length, ap, arith}
use Rattle.oc_model.specs.NextWorld.{next_world}
use Rattle.oc_model.specs.World.{World}
use Rattle.oc_world.specs.World.{WorldView}
use Rattle.oc_model.proofs.GoesOn.{net-next_world}
use Rattle.oc_world.proofs.Turns.{later_length}
use Rattle.oc_world.proofs.world.World.event.Goals as goal

pub overflow_sub-result : goal.overflow_sub-result
overflow_sub-result c =
    let w = c.args.self.now.world in
    let e = c.args.event.now in
    let later = later_length w (next_world w e) (net-next_world w e) in
    let before = ap (λ (v : WorldView). length v.world.net) c.self.view_is in
    let after = ap (λ (v : WorldView). length v.world.net) c.self-2.view_is in
    let next = ap (λ (v : World). length v.net) c.in_ok-word.ensures.world in
    omega (arith, later, before, after, next, c.len-sent.ensures.length, c.len.ensures.length)

pub returns-clause-said : goal.returns-clause-said
returns-clause-said c =
    let w = c.args.self.now.world in
    let e = c.args.event.now in
    let later = later_length w (next_world w e) (net-next_world w e) in
    let before = ap (λ (v : WorldView). length v.world.net) c.self.view_is in
    let after = ap (λ (v : WorldView). length v.world.net) c.self-2.view_is in
    let next = ap (λ (v : World). length v.net) c.in_ok-word.ensures.world in
    record {
      word = c.in_ok-word.ensures.word;
      first = omega (arith, before, c.len-sent.ensures.length);
      count = omega (arith, later, before, after, next, c.len-sent.ensures.length, c.len.ensures.length);
      few = omega (arith, after, c.len.ensures.length, c.len.ensures.few);
    }
