-- The parts are the request.
use Rattle.std.proofs.Common.{◌≡◌, ◌++◌, codes, length, option_map, ◌∙◌}
use Rattle.std.specs.Fmt.{decimal}
use Rattle.oc_client.specs.Addresses.{host_of}
use Rattle.oc_client.specs.Queries.{area_of}
use Rattle.oc_client.specs.PutRequests.{from_lines, place_query}
use Rattle.oc_client.proofs.Texts.{publish_joined}
use Rattle.oc_client.proofs.job.Job.write_publish.Goals as goal

pub returns : goal.returns
returns c =
    let url = c.args.self.now.target in
    let load = c.args.load.now in
    let query = place_query load.seals c.args.at (area_of url.query) in
    let lines = from_lines (host_of url) (option_map (λ t. t.now) c.args.self.now.token) in
    let type = codes "Content-Type: application/octet-stream\r\nContent-Length: " in
    let last = codes "\r\n\r\n" in
    let parts : c.into_bytes-text.result.items ≡ codes "POST " ++ (url.path ++ (codes "?" ++ (query ++ (codes " HTTP/1.1\r\n" ++ (lines ++ (type ++ (decimal (length load.piece) ++ last))))))) = cc (c.into_bytes-text.ensures.value, c.in_ok-head.ensures.ok, c.path-path.ensures.value, c.url.ensures, c.in_ok-query.ensures, c.as_str-lines.ensures.value, c.args.self.now.lines_are, c.items.ensures) in
    let whole : c.extend_from_slice.new.self.items ≡ (codes "POST " ++ (url.path ++ (codes "?" ++ (query ++ (codes " HTTP/1.1\r\n" ++ (lines ++ (type ++ (decimal (length load.piece) ++ last)))))))) ++ load.piece = cc (c.in_ok-extend_from_slice.ensures.items, parts, c.items-2.ensures) in
    whole ∙ publish_joined (codes "POST ") url.path (codes "?") query (codes " HTTP/1.1\r\n") lines type (decimal (length load.piece)) last load.piece
