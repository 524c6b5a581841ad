-- The parts are the request.
use Rattle.std.proofs.Common.{ℕ, ◌≡◌, List, IfOk, codes, refl, sym, subst}
use Rattle.std.specs.Prelude.{option_map}
use Rattle.oc_http.specs.Writing.{line_end, query_text}
use Rattle.oc_http.proofs.Parts.{get_joined}
use Rattle.oc_http.proofs.writing_requests.write_get.Goals as goal

pub returns : goal.returns
returns c =
    let query = c.query_parts.result in
    let text = get_joined (codes "GET ") c.args.path.now query.0.now query.1.now (codes " HTTP/1.1\r\n") (codes "Host: ") c.args.host.now line_end (query_text (option_map (λ q. q.now) c.args.query))
    (codes " HTTP/1.1\r\nHost: ") (codes "\r\n\r\n") refl refl (sym c.query_parts.ensures) in
    subst (λ (l : List ℕ). IfOk c.join.result (λ text. text.items ≡ l)) text (rw (c.as_bytes.ensures.value, c.as_bytes-2.ensures.value) at c.join.ensures)
