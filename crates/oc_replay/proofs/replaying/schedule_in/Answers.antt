use Rattle.std.proofs.Common.{ℕ, List, sym, subst}
use Rattle.std.proofs.lemmas.Result.{err_from_is_err_and}
use Rattle.oc_replay.proofs.Limits.{limit-at}
use Rattle.oc_replay.specs.Ends.{OnMemory, end_of_schedule}
use Rattle.oc_replay.specs.declared.end.ReplayEnd.{ReplayEnd}
use Rattle.oc_replay.specs.declared.end.ReplayEnd.TheVariants.{Done, Text, Limit, Source, Sink, Memory}
use Rattle.oc_replay.proofs.replaying.schedule_in.Goals as goal

-- the fault of a text that came whole
pub returns-in_err-schedule-clause-limit : goal.returns-in_err-schedule-clause-limit
returns-in_err-schedule-clause-limit g c =
    let came = subst (λ (bytes : List ℕ). g.S.Source.gives c.args.source.now bytes c.read_all.new.source) (sym c.deref.ensures.value) c.in_ok-bytes.ensures.gives in
    let p = err_from_is_err_and c.from_residual-in_err-schedule.result c.from_residual-in_err-schedule.ensures.1 in
    rw (p.1, p.2) (limit-at c.args.scale g.S.Source.gives g.S.Source.ended c.args.source.now c.read_all.new.source c.deref.result.now c.in_err-schedule.field-0.0 came c.in_ok-bytes.ensures.end c.in_err-schedule.ensures.exact)

-- a property in every case is one at Memory
on_memory : (P : Type 0) (end : ReplayEnd) → P → OnMemory end P
on_memory P Done p = tt
on_memory P (Text line why) p = tt
on_memory P (Limit what) p = tt
on_memory P Source p = tt
on_memory P Sink p = tt
on_memory P Memory p = p

-- all of the text had come when memory ran out
pub returns-in_err-schedule-clause-memory : goal.returns-in_err-schedule-clause-memory
returns-in_err-schedule-clause-memory g c =
    let came = subst (λ (bytes : List ℕ). g.S.Source.gives c.args.source.now bytes c.read_all.new.source) (sym c.deref.ensures.value) c.in_ok-bytes.ensures.gives in
    let p = err_from_is_err_and c.from_residual-in_err-schedule.result c.from_residual-in_err-schedule.ensures.1 in
    rw (p.1, p.2) (on_memory _ (end_of_schedule c.in_err-schedule.field-0.0) (c.deref.result.now, came))
