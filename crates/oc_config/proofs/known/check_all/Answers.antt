use Rattle.std.proofs.Common.{sym, ap, ◌∙◌}
use Rattle.std.proofs.lemmas.Result.{err_from_is_err_and}
use Rattle.oc_config.proofs.Walks.{known_next, known_refused, known_end}
use Rattle.oc_config.proofs.known.check_all.Goals as goal

pub loop-section-preserved : goal.loop-section-preserved
loop-section-preserved c =
    let m = c.loop-section in
    known_next c.args.sections.now m.section-index c.section-item.result c.loop-section-test.true c.section-item.is c.in_ok-check.ensures ∙ m.invariant

pub returns-in_err-check : goal.returns-in_err-check
returns-in_err-check c =
    let m = c.loop-section in
    let p = err_from_is_err_and c.from_residual.result c.from_residual.ensures.1 in
    rw (p.1, p.2) (sym (known_refused _ c.args.sections.now m.section-index c.section-item.result c.loop-section-test.true c.section-item.is c.in_err-check.ensures) ∙ m.invariant)

pub returns : goal.returns
returns c =
    let m = c.loop-section in
    sym (known_end c.args.sections.now m.section-index c.loop-section-test.false) ∙ m.invariant
