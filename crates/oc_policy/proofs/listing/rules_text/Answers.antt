use Rattle.std.proofs.Common.{◌+◌, refl}
use Rattle.std.proofs.lemmas.Option.{slice_get_read}
use Rattle.oc_policy.proofs.Texts.{lines_more, shadowed}
use Rattle.oc_policy.proofs.listing.rules_text.Goals as goal

pub loop-place-preserved : goal.loop-place-preserved
loop-place-preserved c =
    let rules = c.args.rules.now in
    let place = c.loop-place.place in
    let rule_is = slice_get_read rules _ place c.index-rules-place.result refl c.loop-place-test.true c.index-rules-place.is in
    lines_more rules place c.loop-place.text.items c.put_line.new.out.items c.index-rules-place.result c.shadow-by.result rule_is
    (shadowed rules (place + 1) c.shadow-by.result c.shadow-by.ensures.some c.shadow-by.ensures.least c.shadow-by.ensures.none)
    c.loop-place.invariant c.in_ok-put_line.ensures
