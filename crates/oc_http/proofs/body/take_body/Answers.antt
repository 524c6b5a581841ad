use Rattle.std.proofs.Common.{◌≡◌, ℕ, ◌+◌, ◌<◌, ◌≤◌, List, [], ◌++◌, length, take, vec_len, subst, sym, ap, ◌∙◌, arith}
use Rattle.std.proofs.lemmas.List.{append-nil, length-take-le}
use Rattle.std.proofs.lemmas.Result.{err_from_is_err_and}
use Rattle.oc_io.proofs.Fronts.{length-rest}
use Rattle.oc_http.proofs.Faults.{Rose-later}
use Rattle.oc_http.proofs.Filled.{filled}
use Rattle.oc_http.proofs.body.take_body.Goals as goal

-- the bytes that came so far are shorter than the body
short : (done n count : ℕ) (xs : List ℕ) → done < n → n ≡ count → n ≡ length xs → length (take done xs) < count
short done n count xs less wanted long =
    let within : done ≤ length xs = omega arith in
    omega (arith, length-take-le done xs within)

pub returns-in_err-count-clause-refused : goal.returns-in_err-count-clause-refused
returns-in_err-count-clause-refused g c =
    let p = err_from_is_err_and c.from_residual-in_err-count.result c.from_residual-in_err-count.ensures.1 in
    let came = take c.pieces.done c.pieces.body.items in
    let failed = g.met.S.Source.gives_fails c.args.source.now c.pieces.source c.read.new.self came [] c.pieces.invariant.came c.in_err-count.ensures.fails in
    rw (p.1, p.2) (came, subst (λ (x : List ℕ). g.S.Source.fails c.args.source.now x c.read.new.self) (append-nil came) failed, short c.pieces.done (vec_len c.pieces.body) c.args.length c.pieces.body.items (omega arith) c.pieces.invariant.long c.pieces.body.ok.0)

pub returns-then-count-eq0-clause-refused : goal.returns-then-count-eq0-clause-refused
returns-then-count-eq0-clause-refused g c =
    let came = take c.pieces.done c.pieces.body.items in
    let nothing = subst (λ (n : ℕ). g.S.Source.gives c.pieces.source (take n c.read.new.buf) c.read.new.self) c.if-count-eq0.true c.in_ok-count.ensures.gives in
    let both = g.met.S.Source.gives_then c.args.source.now c.pieces.source c.read.new.self came [] c.pieces.invariant.came nothing in
    let less : c.pieces.done < vec_len c.pieces.body = omega arith in
    (came, subst (λ (x : List ℕ). g.S.Source.gives c.args.source.now x c.read.new.self) (append-nil came) both, (short c.pieces.done (vec_len c.pieces.body) c.args.length c.pieces.body.items less c.pieces.invariant.long c.pieces.body.ok.0, c.in_ok-count.ensures.end c.if-count-eq0.true (omega (arith, length-rest c.pieces.done c.deref_mut.result.now, c.deref_mut.ensures.len))))

pub pieces-preserved : goal.pieces-preserved
pieces-preserved g c =
    let came = take c.pieces.done c.pieces.body.items in
    let both = g.met.S.Source.gives_then c.args.source.now c.pieces.source c.read.new.self came (take c.in_ok-count.count c.read.new.buf) c.pieces.invariant.came c.in_ok-count.ensures.gives in
    let rest = length-rest c.pieces.done c.deref_mut.result.now in
    let within : c.pieces.done + c.in_ok-count.count ≤ vec_len c.pieces.body = omega (arith, rest, c.deref_mut.ensures.len, c.in_ok-count.ensures.within) in
    let old : c.pieces.done ≤ length c.deref_mut.result.now = omega (arith, c.deref_mut.ensures.len) in
    let new : c.in_ok-count.count ≤ length c.read.new.buf = omega (arith, c.in_ok-count.ensures.within, c.read.auto.buf) in
    let text = filled c.pieces.done c.in_ok-count.count (vec_len c.pieces.body) c.deref_mut.result.now c.read.new.buf _ _ old new within ∙ ap (λ (x : List ℕ). take c.pieces.done x ++ take c.in_ok-count.count c.read.new.buf) c.deref_mut.ensures.value in
    record {
      came = subst (λ (x : List ℕ). g.S.Source.gives c.args.source.now x c.read.new.self) (sym text) both;
      within = within;
      long = c.pieces.invariant.long;
      count = omega arith;
    }

-- calls that failed
pub returns-in_err-count-clause-count : goal.returns-in_err-count-clause-count
returns-in_err-count-clause-count g c = omega (arith, c.pieces.invariant.count, c.read.ensures.count)

pub returns-in_err-count-clause-cause : goal.returns-in_err-count-clause-cause
returns-in_err-count-clause-cause g c = λ is. Rose-later _ _ _ c.pieces.invariant.count c.in_err-count.ensures.cause

pub returns-then-count-eq0-clause-count : goal.returns-then-count-eq0-clause-count
returns-then-count-eq0-clause-count g c = omega (arith, c.pieces.invariant.count, c.read.ensures.count)

pub returns-then-count-eq0-clause-cause : goal.returns-then-count-eq0-clause-cause
returns-then-count-eq0-clause-cause g c = λ is. cc

pub returns-clause-count : goal.returns-clause-count
returns-clause-count g c = c.pieces.invariant.count
