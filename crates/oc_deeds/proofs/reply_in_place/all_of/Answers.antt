-- All bytes that came, or the cause that there are no more.
use Rattle.std.proofs.Common.{[], ◌∙◌, sym, refl, arith}
use Rattle.oc_io.specs.Tally.{counted}
use Rattle.oc_link.specs.Failures.{has_failed}
use Rattle.oc_deeds.proofs.InPlace.{all_came, all_failed, left}
use Rattle.oc_deeds.proofs.reply_in_place.all_of.Goals as goal

pub returns-then-rest-gt-MAX_BODY_BYTES-clause-refused : goal.returns-then-rest-gt-MAX_BODY_BYTES-clause-refused
returns-then-rest-gt-MAX_BODY_BYTES-clause-refused c = (c.args.rest.now, left [] c.args.coming, all_came c.args.rest.now c.args.coming, omega (arith, c.if-rest-gt-MAX_BODY_BYTES.true))

pub returns-then-has_failed-clause-refused : goal.returns-then-has_failed-clause-refused
returns-then-has_failed-clause-refused c =
    let failed = sym c.has_failed.ensures ∙ c.if-has_failed.true in
    (c.args.rest.now, record { left = []; fails = has_failed c.args.coming; faults = counted 0 }, all_failed c.args.rest.now c.args.coming failed, omega (arith, c.if-rest-gt-MAX_BODY_BYTES.false))

pub returns-else-has_failed-clause-gives : goal.returns-else-has_failed-clause-gives
returns-else-has_failed-clause-gives c =
    let passes = sym c.has_failed.ensures ∙ c.if-has_failed.false in
    (left [] c.args.coming, all_came c.args.rest.now c.args.coming, omega (arith, c.if-rest-gt-MAX_BODY_BYTES.false), record { none = refl; passes = passes })
