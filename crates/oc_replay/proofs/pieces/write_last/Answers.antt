use Rattle.std.proofs.Common.{◌∙◌, ℕ, List, take, subst}
use Rattle.oc_replay.proofs.pieces.write_last.Goals as goal

-- a prefix of the last part was taken when a call failed
pub returns-in_err-write_all-clause-failed : goal.returns-in_err-write_all-clause-failed
returns-in_err-write_all-clause-failed g c = λ _.
    let failed = c.in_err-write_all.ensures.fails in
    (failed.0, subst (λ (bytes : List ℕ). g.K.Sink.fails c.args.sink.now (take failed.0 bytes) c.write_all.new.sink) (c.deref.ensures.value ∙ c.in_ok-put_end.ensures) failed.2)

-- all of the last part was taken
pub returns-clause-written : goal.returns-clause-written
returns-clause-written g c =
    subst (λ (bytes : List ℕ). g.K.Sink.takes c.args.sink.now bytes c.write_all.new.sink) (c.deref.ensures.value ∙ c.in_ok-put_end.ensures) c.in_ok-write_all.ensures.takes
