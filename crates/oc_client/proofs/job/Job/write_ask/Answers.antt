-- The parts are the request.
use Rattle.std.proofs.Common.{◌≡◌, ◌++◌, codes, option_map, ◌∙◌}
use Rattle.oc_client.proofs.Texts.{ask_joined}
use Rattle.oc_client.proofs.job.Job.write_ask.Goals as goal
use Rattle.oc_client.specs.Addresses.{host_of}
use Rattle.oc_client.specs.PutRequests.{from_lines}
use Rattle.oc_client.specs.Queries.{area_of}
use Rattle.oc_http.specs.Writing.{area_text}

pub returns : goal.returns
returns c =
    let url = c.args.self.now.target in
    let area = area_text (area_of url.query) in
    let lines = from_lines (host_of url) (option_map (λ t. t.now) c.args.self.now.token) in
    let parts : c.into_bytes.result.items ≡ codes "HEAD " ++ (url.path ++ (codes "?here" ++ (area ++ (codes " HTTP/1.1\r\n" ++ (lines ++ codes "\r\n"))))) = cc (c.into_bytes.ensures.value, c.in_ok-text.ensures.ok, c.path-path.ensures.value, c.url.ensures, c.as_str-area.ensures.value, c.args.self.now.area_is, c.as_str-lines.ensures.value, c.args.self.now.lines_are) in
    parts ∙ ask_joined (codes "HEAD ") url.path (codes "?here") area (codes " HTTP/1.1\r\n") lines (codes "\r\n")
