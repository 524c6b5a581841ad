use Rattle.std.proofs.Common.{map, option_map, string_bytes, Global}
use Rattle.oc_routes.proofs.Sendings.{published, sealed}
use Rattle.oc_routes.proofs.routes.respond.Goals as goal

pub returns-in-Publish : goal.returns-in-Publish
returns-in-Publish c =
    let answered = c.args.answered.now in
    published c.to_publish.result c.args.asked.operation c.args.asked.hint c.args.asked.selection c.args.last answered.answer _ answered.holding (map (option_map (string_bytes {Z = Global})) c.args.network.now.addresses.now) _ answered.report.now
    c.source_in.result.now c.in-Publish.group c.in-Publish.at c.in-Publish.is c.source_in.ensures c.to_publish.ensures

pub returns-in-Seal : goal.returns-in-Seal
returns-in-Seal c =
    let answered = c.args.answered.now in
    sealed c.to_seal.result c.args.asked.operation c.args.asked.hint c.args.asked.selection c.args.last answered.answer _ answered.holding (map (option_map (string_bytes {Z = Global})) c.args.network.now.addresses.now) _ answered.report.now
    c.source_in-in-Seal.result.now c.in-Seal.group c.in-Seal.at c.in-Seal.is c.source_in-in-Seal.ensures c.to_seal.ensures
