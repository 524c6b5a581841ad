use Rattle.std.proofs.Common.{◌≡◌, ◌≤◌, ◌∙◌, ℕ, length, sym, ap, subst, arith}
use Rattle.oc_node.specs.NodeView.{NodeView}
use Rattle.oc_routes.specs.Asks.{IsLawfulVerdict}
use Rattle.oc_deeds.proofs.MoreNodes.{verdict_too}
use Rattle.oc_server.proofs.hearing.judged.Goals as goal

pub ids_of-requires : goal.ids_of-requires
ids_of-requires g c = subst (λ (n : NodeView). length c.args.config.now.addresses ≤ n.control.nodes) (sym c.node-2.ensures) c.requires.places

-- what is lawful among the ids of the configuration is lawful among all nodes
pub returns-clause-lawful : goal.returns-clause-lawful
returns-clause-lawful g c =
    let nodes = c.args.kept.now.node.control.nodes in
    let verdict = c.in_ok-verdict.verdict in
    let me : c.id.result ≡ c.args.kept.now.node.control.me = c.id.ensures ∙ ap (λ (n : NodeView). n.control.me) c.node.ensures in
    subst (λ (x : ℕ). IsLawfulVerdict nodes x verdict) me (verdict_too c.ids_of.result nodes (omega (arith, c.ids_of.ensures, c.requires.places)) c.id.result verdict c.in_ok-verdict.ensures.lawful)
