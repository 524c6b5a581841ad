use Rattle.std.proofs.Common.{◌≡◌, List, length, sym, subst}
use Rattle.std.proofs.Math.Seq.{take-length}
use Rattle.oc_model.specs.NextWorld.{world_after}
use Rattle.oc_model.specs.declared.event.Event.{Event}
use Rattle.oc_replay.proofs.replaying.write_run.Goals as goal

pub returns-then-summary-clause-told : goal.returns-then-summary-clause-told
returns-then-summary-clause-told g c = rw c.if-summary.true c.summarize.ensures.told

pub returns-then-summary-clause-failed : goal.returns-then-summary-clause-failed
returns-then-summary-clause-failed g c = rw c.if-summary.true c.summarize.ensures.failed

-- all events were played
pub returns-then-summary-clause-stopped : goal.returns-then-summary-clause-stopped
returns-then-summary-clause-stopped g c = λ failed.
    let events = c.args.events.now in
    (length events, subst (λ (played : List Event). g.T.Stage.world c.summarize.new.stage ≡ world_after (g.T.Stage.world c.args.stage.now) played) (sym (take-length events)) (c.summarize.ensures.stopped failed))

-- nothing was written
pub returns-then-summary-clause-memory : goal.returns-then-summary-clause-memory
returns-then-summary-clause-memory g c = λ failed. (0, c.summarize.ensures.memory failed)

pub returns-else-summary-clause-told : goal.returns-else-summary-clause-told
returns-else-summary-clause-told g c = rw c.if-summary.false c.report.ensures.told

pub returns-else-summary-clause-failed : goal.returns-else-summary-clause-failed
returns-else-summary-clause-failed g c = rw c.if-summary.false c.report.ensures.failed

pub returns-else-summary-clause-memory : goal.returns-else-summary-clause-memory
returns-else-summary-clause-memory g c = rw c.if-summary.false c.report.ensures.memory
