use Rattle.oc_calm.proofs.Ways.{act_played}
use Rattle.oc_calm.proofs.playing.play.Goals as goal

pub returns-clause-ok : goal.returns-clause-ok
returns-clause-ok g c = act_played c.args.act.now _ _ _ _ c.in_ok-act.ensures.ok c.in_ok-next.ensures
