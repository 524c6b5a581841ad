use Rattle.std.proofs.Common.{List, ℕ, ap, sym, ◌∙◌, arith}
use Rattle.oc_place.specs.LeftOut.{out_of}
use Rattle.oc_place.specs.Once.{with_once}
use Rattle.oc_place.proofs.Once.{step_earlier, below_first, once_none}
use Rattle.oc_place.proofs.order.put_earlier.Goals as goal

pub loop-earlier-preserved : goal.loop-earlier-preserved
loop-earlier-preserved c = record {
  once = step_earlier (out_of c.args.left_out.now) c.loop-earlier.into.items c.put.new.into.items c.loop-earlier.earlier _ c.loop-earlier-test.true c.put.ensures.items c.loop-earlier.invariant.once;
  len = omega arith;
  capacity = omega arith;
}

pub returns : goal.returns
returns c =
    let out = out_of c.args.left_out.now in
    let done = ap (λ (xs : List ℕ). with_once out c.loop-earlier.into.items xs) (below_first c.loop-earlier.earlier c.loop-earlier-test.false) ∙ once_none out c.loop-earlier.into.items in
    sym done ∙ c.loop-earlier.invariant.once
