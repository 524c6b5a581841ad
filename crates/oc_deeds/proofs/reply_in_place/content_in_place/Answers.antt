-- The bytes of a length, or why there are no more.
use Rattle.std.proofs.Common.{[], ◌∙◌, drop, sym, refl, arith}
use Rattle.std.proofs.lemmas.List.{length-take-le}
use Rattle.oc_io.specs.Tally.{counted}
use Rattle.oc_link.specs.Failures.{has_failed}
use Rattle.oc_deeds.proofs.InPlace.{all_came, all_failed, first_came, left}
use Rattle.oc_deeds.proofs.reply_in_place.content_in_place.Goals as goal

pub returns-then-length-rest-clause-gives : goal.returns-then-length-rest-clause-gives
returns-then-length-rest-clause-gives c =
    let n = c.in-Some.length in
    rw c.in-Some.is (left (drop n c.args.rest.now) c.args.coming, first_came n c.args.rest.now c.args.coming, length-take-le n c.args.rest.now (omega (arith, c.if-length-rest.true)), λ none. cc)

pub returns-then-has_failed-clause-refused : goal.returns-then-has_failed-clause-refused
returns-then-has_failed-clause-refused c =
    let failed = sym c.has_failed.ensures ∙ c.if-has_failed.true in
    rw c.in-Some.is (c.args.rest.now, record { left = []; fails = has_failed c.args.coming; faults = counted 0 }, all_failed c.args.rest.now c.args.coming failed, omega (arith, c.if-length-rest.false))

pub returns-else-has_failed-clause-refused : goal.returns-else-has_failed-clause-refused
returns-else-has_failed-clause-refused c =
    let passes = sym c.has_failed.ensures ∙ c.if-has_failed.false in
    rw c.in-Some.is (c.args.rest.now, left [] c.args.coming, all_came c.args.rest.now c.args.coming, (omega (arith, c.if-length-rest.false), record { none = refl; passes = passes }))
