use Rattle.std.proofs.Common.{◌≡◌, ◌∙◌, ℕ, List, length, take, ap, subst}
use Rattle.oc_replay.specs.Summary.{run_summary, summary_text}
use Rattle.oc_replay.proofs.summing.summarize.Goals as goal

-- a prefix of the summary was taken when a call failed
pub returns-in_err-write_all-clause-failed : goal.returns-in_err-write_all-clause-failed
returns-in_err-write_all-clause-failed g c = λ _.
    let failed = c.in_err-write_all.ensures.fails in
    let events = c.args.events.now in
    let text : c.deref.result.now ≡ run_summary (g.T.Stage.world c.args.stage.now) events =
    c.deref.ensures.value ∙ (c.in_ok-text.ensures.text ∙ ap (summary_text (length events)) c.in_ok-text.ensures.played) in
    (failed.0, subst (λ (bytes : List ℕ). g.K.Sink.fails c.args.sink.now (take failed.0 bytes) c.write_all.new.sink) text failed.2)
