use Rattle.std.proofs.Common.{map, option_map, string_bytes, Global}
use Rattle.oc_routes.proofs.Sendings.{redirected}
use Rattle.oc_routes.proofs.showing.as_seen.Goals as goal

pub returns-in-Redirect : goal.returns-in-Redirect
returns-in-Redirect c =
    redirected c.sent_on.result c.args.client.now c.args.holding (map (option_map (string_bytes {Z = Global})) c.args.addresses.now) c.args.shown c.in-Redirect.node c.address_of.result.now
    c.in-Redirect.is c.address_of.ensures c.sent_on.ensures
