use Rattle.std.proofs.Common.{ℕ, max, ap, ◌∙◌, arith, unwrap_or}
use Rattle.oc_calm.specs.Longest.{greatest_length}
use Rattle.oc_calm.proofs.Greatest.{greatest_more, greatest_over}
use Rattle.oc_calm.proofs.settling.greatest_of.Goals as goal

pub loop-found-preserved : goal.loop-found-preserved
loop-found-preserved c =
    let ls = c.args.lengths.now in
    let g = c.loop-found.greatest in
    greatest_more ls c.loop-found.found-index g c.max-greatest.result (greatest_length ls) c.loop-found-test.true (c.max-greatest.ensures ∙ ap (λ (n : ℕ). max g n) c.unwrap_or.ensures) c.loop-found.invariant

pub returns : goal.returns
returns c = greatest_over c.args.lengths.now c.loop-found.found-index c.loop-found.greatest (greatest_length c.args.lengths.now) (omega arith) c.loop-found.invariant
