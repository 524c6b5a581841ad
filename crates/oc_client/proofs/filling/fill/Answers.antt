use Rattle.std.proofs.Common.{ℕ, List, [], ◌++◌, take, subst, sym, arith}
use Rattle.std.proofs.lemmas.Result.{err_from_is_err_and}
use Rattle.oc_client.proofs.filling.fill.Goals as goal

pub reads-preserved : goal.reads-preserved
reads-preserved g c =
    let fills = c.in_ok-now.ensures.fills in
    let both = g.met.S.Source.gives_then c.args.source.now c.reads.source c.read_on.new.source (take c.reads.done c.reads.buffer) fills.bytes c.reads.invariant.came fills.came in
    record {
      came = subst (λ (x : List ℕ). g.S.Source.gives c.args.source.now x c.read_on.new.source) (sym fills.filled) both;
      within = omega (arith, c.in_ok-now.ensures.within, c.read_on.auto.buffer);
      long = omega (arith, c.reads.invariant.long, c.read_on.auto.buffer);
      count = omega (arith, c.reads.invariant.count, c.read_on.ensures.count);
    }

pub returns-then-now-done-clause-came : goal.returns-then-now-done-clause-came
returns-then-now-done-clause-came g c =
    let fills = c.in_ok-now.ensures.fills in
    let both = g.met.S.Source.gives_then c.args.source.now c.reads.source c.read_on.new.source (take c.reads.done c.reads.buffer) fills.bytes c.reads.invariant.came fills.came in
    subst (λ (x : List ℕ). g.S.Source.gives c.args.source.now x c.read_on.new.source) (sym fills.filled) both

pub returns-in_err-now-clause-fails : goal.returns-in_err-now-clause-fails
returns-in_err-now-clause-fails g c =
    let p = err_from_is_err_and c.from_residual.result c.from_residual.ensures.1 in
    rw p.1 (take c.reads.done c.reads.buffer ++ [], g.met.S.Source.gives_fails c.args.source.now c.reads.source c.read_on.new.source (take c.reads.done c.reads.buffer) [] c.reads.invariant.came c.in_err-now.ensures.fails)
