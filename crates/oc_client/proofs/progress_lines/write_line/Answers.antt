use Rattle.std.proofs.Common.{◌≡◌, ℕ, List, [], ◌++◌, codes, decimal, take, ◌∙◌, subst}
use Rattle.std.proofs.lemmas.Result.{err_from_is_err_and, on_ok_weaker, on_err_weaker}
use Rattle.oc_client.proofs.Telling.{front_of_first, fails_behind}
use Rattle.oc_client.proofs.progress_lines.write_line.Goals as goal

pub returns-in_err-write_all-clause-front : goal.returns-in_err-write_all-clause-front
returns-in_err-write_all-clause-front g c =
    let p = err_from_is_err_and c.from_residual.result c.from_residual.ensures.1 in
    let broke = c.in_err-write_all.ensures.fails in
    rw (p.1) (take broke.0 (codes "overcast: "), front_of_first broke.0 (codes "overcast: ") (decimal c.args.count ++ codes " bytes\n"), broke.2)

pub returns-in_err-write_all-2-clause-front : goal.returns-in_err-write_all-2-clause-front
returns-in_err-write_all-2-clause-front g c =
    let p = err_from_is_err_and c.from_residual-in_err-write_all-2.result c.from_residual-in_err-write_all-2.ensures.1 in
    let broke = c.in_err-write_all-2.ensures.fails in
    let digits : c.as_bytes.result.now ≡ decimal c.args.count = c.as_bytes.ensures.value ∙ c.format-digits.ensures.text in
    let of_digits = subst (λ (x : List ℕ). g.E.Sink.fails c.write_all.new.sink (take broke.0 x) c.write_all-2.new.sink) digits broke.2 in
    rw (p.1) (fails_behind g.E.Sink.takes g.E.Sink.fails g.met.E.Sink.takes_fails c.args.sink.now c.write_all.new.sink c.write_all-2.new.sink (codes "overcast: ") (decimal c.args.count ++ codes " bytes\n") c.in_ok-write_all.ensures.takes
    (take broke.0 (decimal c.args.count), front_of_first broke.0 (decimal c.args.count) (codes " bytes\n"), of_digits))

pub returns-clause-written : goal.returns-clause-written
returns-clause-written g c =
    let digits : c.as_bytes.result.now ≡ decimal c.args.count = c.as_bytes.ensures.value ∙ c.format-digits.ensures.text in
    let of_digits = subst (λ (x : List ℕ). g.E.Sink.takes c.write_all.new.sink x c.write_all-2.new.sink) digits c.in_ok-write_all-2.ensures.takes in
    on_ok_weaker c.write_all-3.result (λ last. g.met.E.Sink.takes_then c.args.sink.now c.write_all.new.sink c.write_all-3.new.sink (codes "overcast: ") (decimal c.args.count ++ codes " bytes\n") c.in_ok-write_all.ensures.takes
    (g.met.E.Sink.takes_then c.write_all.new.sink c.write_all-2.new.sink c.write_all-3.new.sink (decimal c.args.count) (codes " bytes\n") of_digits last)) c.write_all-3.ensures.takes

pub returns-clause-front : goal.returns-clause-front
returns-clause-front g c =
    let digits : c.as_bytes.result.now ≡ decimal c.args.count = c.as_bytes.ensures.value ∙ c.format-digits.ensures.text in
    let of_digits = subst (λ (x : List ℕ). g.E.Sink.takes c.write_all.new.sink x c.write_all-2.new.sink) digits c.in_ok-write_all-2.ensures.takes in
    on_err_weaker c.write_all-3.result (λ broke. fails_behind g.E.Sink.takes g.E.Sink.fails g.met.E.Sink.takes_fails c.args.sink.now c.write_all.new.sink c.write_all-3.new.sink (codes "overcast: ") (decimal c.args.count ++ codes " bytes\n") c.in_ok-write_all.ensures.takes
    (fails_behind g.E.Sink.takes g.E.Sink.fails g.met.E.Sink.takes_fails c.write_all.new.sink c.write_all-2.new.sink c.write_all-3.new.sink (decimal c.args.count) (codes " bytes\n") of_digits
    (take broke.0 (codes " bytes\n"), front_of_first broke.0 (codes " bytes\n") [], broke.2))) c.write_all-3.ensures.fails
