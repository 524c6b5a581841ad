-- The parts are the request.
use Rattle.std.proofs.Common.{ℕ, ◌≡◌, List, length, IfOk, codes, decimal, refl, subst}
use Rattle.oc_http.specs.Writing.{line_end, type_line}
use Rattle.oc_http.proofs.Parts.{request_joined}
use Rattle.oc_http.proofs.writing_requests.write_request.Goals as goal

pub returns : goal.returns
returns c =
    let mac = c.mac_line-mac in
    let text = request_joined (codes "POST /!overcast HTTP/1.1\r\n") (codes "Host: ") line_end type_line (codes "Content-Length: ") c.args.host.now (decimal (length c.args.body.now))
    mac.result.name.now mac.result.value.now mac.result.end.now _ c.args.body.now
    (codes "POST /!overcast HTTP/1.1\r\nHost: ") (codes "\r\nContent-Type: application/octet-stream\r\nContent-Length: ") refl refl mac.ensures in
    subst (λ (l : List ℕ). IfOk c.join.result (λ text. text.items ≡ l)) text (rw (c.as_bytes.ensures.value, c.as_bytes-2.ensures.value, c.format-length.ensures.text) at c.join.ensures)
