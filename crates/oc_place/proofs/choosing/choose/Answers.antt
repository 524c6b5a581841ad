use Rattle.std.proofs.Common.{sym, ap, ◌∙◌, Some}
use Rattle.oc_model.specs.declared.place.Candidate.{Candidate}
use Rattle.oc_place.proofs.Best.{after_suitable, after_other}
use Rattle.oc_place.proofs.choosing.choose.Goals as goal
use Rattle.oc_place.proofs.choosing.choose.Goals.{then-is_suitable, else-is_suitable}

pub loop-candidate-preserved : goal.loop-candidate-preserved
loop-candidate-preserved c =
    let d = c.args.direct in
    let xs = c.args.list.now in
    let i = c.loop-candidate.candidate-index in
    let x = c.candidate-item.result in
    elim c.if-is_suitable.branch [
      | then-is_suitable w ↦
          after_suitable d c.loop-candidate.best c.if-is_suitable.best xs i x _ c.loop-candidate-test.true c.candidate-item.is c.loop-candidate.invariant
          (sym c.is_suitable.ensures ∙ w.if-is_suitable.true) (w.best-is ∙ ap (λ (y : Candidate). Some y) w.nearer.ensures)
      | else-is_suitable w ↦
          after_other d c.loop-candidate.best c.if-is_suitable.best xs i x _ c.loop-candidate-test.true c.candidate-item.is c.loop-candidate.invariant
          (sym c.is_suitable.ensures ∙ w.if-is_suitable.false) w.best-is
    ]
