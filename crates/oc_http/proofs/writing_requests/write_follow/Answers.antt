-- The parts are the request.
use Rattle.std.proofs.Common.{ℕ, ◌≡◌, List, IfOk, codes, decimal, refl, sym, subst}
use Rattle.std.specs.Prelude.{option_map}
use Rattle.oc_http.specs.Writing.{line_end, area_text}
use Rattle.oc_http.proofs.Parts.{follow_joined}
use Rattle.oc_http.proofs.writing_requests.write_follow.Goals as goal

pub returns : goal.returns
returns c =
    let area = c.area_parts.result in
    let text = follow_joined (codes "GET ") c.args.path.now (codes "?start=") (decimal c.args.start) (codes "&follow") area.0.now area.1.now (codes " HTTP/1.1\r\n") (codes "Host: ") c.args.host.now line_end (area_text (option_map (λ a. a.now) c.args.area))
    (codes " HTTP/1.1\r\nHost: ") (codes "\r\n\r\n") refl refl (sym c.area_parts.ensures) in
    subst (λ (l : List ℕ). IfOk c.join.result (λ text. text.items ≡ l)) text (rw (c.as_bytes.ensures.value, c.as_bytes-2.ensures.value, c.as_bytes-3.ensures.value, c.format-start.ensures.text) at c.join.ensures)
