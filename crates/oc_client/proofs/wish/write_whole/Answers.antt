use Rattle.std.proofs.Common.{◌≡◌, ◌++◌, codes, ◌∙◌}
use Rattle.oc_client.specs.Addresses.{host_of}
use Rattle.oc_client.specs.Requests.{authorization_line, query_from, from_at}
use Rattle.oc_client.proofs.Texts.{get_joined}
use Rattle.oc_client.proofs.wish.write_whole.Goals as goal

-- the parts are the request
pub returns : goal.returns
returns c =
    let state = c.args.state.now in
    let manner = c.args.manner.now in
    let query = query_from (from_at state.led manner.from) state.target.query in
    let token = authorization_line manner.token in
    let parts : c.into_bytes.result.items ≡ codes "GET " ++ (state.target.path ++ (query ++ (codes " HTTP/1.1\r\nHost: " ++ (host_of state.target ++ (codes "\r\n" ++ (token ++ codes "\r\n")))))) = cc (c.into_bytes.ensures.value, c.in_ok-text.ensures.ok, c.path-path.ensures.value, c.url-url.ensures, c.in_ok-query.ensures, c.from_at.ensures, c.first_byte.ensures, c.query.ensures.value, c.host-host.ensures, c.in_ok-authorization.ensures, c.shown_token.ensures) in
    parts ∙ get_joined (codes "GET ") state.target.path query (codes " HTTP/1.1\r\nHost: ") (host_of state.target) (codes "\r\n") token (codes "\r\n")
