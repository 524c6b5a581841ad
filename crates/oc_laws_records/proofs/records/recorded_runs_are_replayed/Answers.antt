use Rattle.std.proofs.Common.{arith}
use Rattle.oc_wire.specs.Spelling.{spelling}
use Rattle.oc_laws_records.proofs.Replaying.{replayed}
use Rattle.oc_laws_records.proofs.records.recorded_runs_are_replayed.Goals as goal

pub returns : goal.returns
returns c = λ digest h runs r s are is merged.
    replayed (record {
      ordered = c.merging_takes_the_most.ensures.ordered;
      merge = c.merging_takes_the_most.ensures.merge;
      folds = c.records_are_schedules.ensures.folds;
      hold = c.records_are_schedules.ensures.laws;
    }) digest h runs r s are
    (λ m lawful. c.spellings_are_read.ensures.read h.nodes (spelling m) m (omega (arith, are.header.few)) (c.spellings_are_read.ensures.spelled h.nodes m are.header.few lawful))
    (c.recorded_runs_are_read.ensures h runs are) is merged
