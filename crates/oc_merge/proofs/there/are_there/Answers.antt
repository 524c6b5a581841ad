use Rattle.std.proofs.Common.{rules, ◌≡◌, ◌<◌, ◌+◌, ◌++◌, ◌∷◌, [], List, length, drop, ap, subst, sym, ◌∙◌, arith}
use Rattle.std.specs.Prelude.{Bool}
use Rattle.oc_merge.specs.Folds.{AreFoldsAt}
use Rattle.oc_merge.specs.Recorded.{are_there}
use Rattle.oc_merge.proofs.LinesThere.{flags_on, given_back}
use Rattle.oc_merge.proofs.there.are_there.Goals as goal

pub loop-place-preserved : goal.loop-place-preserved
loop-place-preserved g c =
    let r = c.args.records.now in
    let p = c.loop-place.place in
    let digest = g.A.Alone.digest in
    let less : p < length r.lines = search rules in
    let long : c.loop-place.folds.len ≡ length c.loop-place.folds.items = search rules in
    let folds = c.fold_line.new.folds in
    let all : c.loop-place.folds.len ≡ length folds = omega (arith, long, c.loop-place.invariant.0.all, c.in_ok-fold_line.ensures.folds.all) in
    let more : c.push.new.self.items ≡ c.loop-place.there.items ++ c.in_ok-fold_line.field-0 ∷ [] = search rules in (
      subst (AreFoldsAt g.A.Alone.node digest r (p + 1)) (sym (given_back folds (drop (length folds) c.loop-place.folds.items) c.loop-place.folds.len all)) c.in_ok-fold_line.ensures.folds,
      ap (λ (bs : List Bool). bs ++ are_there digest r (p + 1) (drop (p + 1) r.lines)) more
          ∙ flags_on digest r p c.loop-place.there.items (are_there digest r 0 r.lines) c.in_ok-fold_line.field-0 less c.in_ok-fold_line.ensures.there c.loop-place.invariant.1,
    )
