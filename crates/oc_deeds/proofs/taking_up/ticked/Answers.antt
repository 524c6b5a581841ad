use Rattle.std.proofs.Common.{Bool, ap, refl, sym}
use Rattle.std.proofs.lemmas.Result.{err_from_is_err_and}
use Rattle.oc_deeds.specs.Deeds.{Tells}
use Rattle.oc_deeds.specs.Parts.{one, ◌>>◌}
use Rattle.oc_deeds.specs.Turns.{ticked, ticks_if}
use Rattle.oc_deeds.proofs.taking_up.ticked.Goals as goal

pub ticks_if-requires : goal.ticks_if-requires
ticks_if-requires g c = c.parts_go_on.ensures.stays_serving (one (Tells c.seconds-seconds.result)) c.args.doer.now c.seconds-seconds.new.self c.seconds-seconds.ensures c.requires

pub returns-clause-did : goal.returns-clause-did
returns-clause-did g c =
    let s = c.args.doer.now in
    let b = c.seconds-seconds.new.self in
    let told = c.seconds-seconds.result in
    let passed = c.has_passed.result in
    c.parts_go_on.ensures.as_same (one (Tells told) >> ticks_if passed told) (ticked c.args.pace.now.second told) s c.ticks_if.new.doer (λ honest. ap (λ (p : Bool). (one (Tells told) >> ticks_if p told) (g.W.Doer.setting s) (g.W.Doer.running s)) (sym c.has_passed.ensures)) (c.parts_go_on.ensures.follows (one (Tells told)) (ticks_if passed told) (ticks_if passed told) s b c.ticks_if.new.doer (c.parts_go_on.ensures.as_same (one (Tells told)) (one (Tells told)) s b (λ honest. refl) c.seconds-seconds.ensures) (λ honest. refl) c.in_ok-ticks_if.ensures.did)

pub returns-in_err-ticks_if-clause-breaks : goal.returns-in_err-ticks_if-clause-breaks
returns-in_err-ticks_if-clause-breaks g c =
    let p = err_from_is_err_and c.from_residual.result c.from_residual.ensures.1 in
    let s = c.args.doer.now in
    let b = c.seconds-seconds.new.self in
    let told = c.seconds-seconds.result in
    let passed = c.has_passed.result in
    let end = c.in_err-ticks_if.field-0.0 in
    rw (p.1, p.2) (
      told,
      c.parts_stop.ensures.as_same end (one (Tells told) >> ticks_if passed told) (ticked c.args.pace.now.second told) s c.ticks_if.new.doer (λ honest. ap (λ (x : Bool). (one (Tells told) >> ticks_if x told) (g.W.Doer.setting s) (g.W.Doer.running s)) (sym c.has_passed.ensures)) (c.parts_stop.ensures.follows end (one (Tells told)) (ticks_if passed told) (ticks_if passed told) s b c.ticks_if.new.doer (c.parts_go_on.ensures.as_same (one (Tells told)) (one (Tells told)) s b (λ honest. refl) c.seconds-seconds.ensures) (λ honest. refl) c.in_err-ticks_if.ensures.breaks),
    )
