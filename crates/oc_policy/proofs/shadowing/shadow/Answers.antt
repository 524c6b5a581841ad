use Rattle.std.proofs.Common.{◌-◌, refl, arith}
use Rattle.std.proofs.lemmas.Bool.{false≢true}
use Rattle.std.proofs.lemmas.Option.{slice_get_read}
use Rattle.oc_policy.proofs.Firsts.{earlier_at, shadows_from_cover, covers_from_shadows, no_more_shadows}
use Rattle.oc_policy.proofs.shadowing.shadow.Goals as goal

pub returns-then-covers-clause-some : goal.returns-then-covers-clause-some
returns-then-covers-clause-some c =
    let rules = c.args.rules.now in
    let place = c.args.index - 1 in
    let a_is = earlier_at rules place c.loop-before.before c.earlier-item.result c.loop-before-test.true c.earlier-item.is in
    let b_is = slice_get_read rules _ place c.index-rules-place.result refl (omega arith) c.index-rules-place.is in
    shadows_from_cover rules c.loop-before.before c.args.index c.earlier-item.result c.index-rules-place.result c.loop-before-test.true a_is b_is (c.if-covers.ensures.0 refl)

pub loop-before-preserved : goal.loop-before-preserved
loop-before-preserved c =
    let rules = c.args.rules.now in
    let place = c.args.index - 1 in
    let a_is = earlier_at rules place c.loop-before.before c.earlier-item.result c.loop-before-test.true c.earlier-item.is in
    let b_is = slice_get_read rules _ place c.index-rules-place.result refl (omega arith) c.index-rules-place.is in
    no_more_shadows rules c.loop-before.before c.args.index c.loop-before.invariant
    (λ shadows. absurd (false≢true (c.if-covers.ensures.1 (covers_from_shadows rules c.loop-before.before c.args.index c.earlier-item.result c.index-rules-place.result a_is b_is shadows))))
