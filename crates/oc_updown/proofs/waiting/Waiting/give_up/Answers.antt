use Rattle.std.proofs.Common.{◌∙◌, ap, drop}
use Rattle.oc_updown.proofs.Filling.{drop_more}
use Rattle.oc_updown.proofs.waiting.Waiting.give_up.Goals as goal

pub loop-preserved : goal.loop-preserved
loop-preserved c = (
  drop_more c.loop.counter c.args.self.now.certs c.pop.new.self.certs (c.pop.ensures.certs ∙ ap (drop 1) c.loop.invariant.0),
  c.pop.ensures.room ∙ c.loop.invariant.1,
  c.pop.ensures.nodes ∙ c.loop.invariant.2,
)
