use Rattle.std.proofs.Common.{Bool, List, Option, ℕ, ◌≤◌, ap, sym, subst, ◌∙◌, length}
use Rattle.oc_base.specs.declared.shelf.Shelf.{Shelf}
use Rattle.oc_model.specs.Node.{Control}
use Rattle.oc_node.specs.NodeView.{NodeView}
use Rattle.oc_routes.specs.Reports.{report_of}
use Rattle.oc_routes.specs.Routes.{response_for}
use Rattle.oc_routes.specs.Sights.{about_of}
use Rattle.oc_routes.specs.declared.response.Response.{Response}
use Rattle.oc_deeds.specs.Asks.{holding_in}
use Rattle.oc_deeds.proofs.Results.{ok_then}
use Rattle.oc_config.specs.Settings.{key_of}
use Rattle.oc_server.proofs.Responding.{parts_same}
use Rattle.oc_server.proofs.server.Server.response_to.Goals as goal

pub ids_of-requires : goal.ids_of-requires
ids_of-requires g c = subst (λ (n : NodeView). length c.args.self.now.config.addresses ≤ n.control.nodes) (sym c.node-2.ensures) c.requires.places

pub returns : goal.returns
returns g c =
    let s = c.args.self.now in
    let r = c.args.pending.now in
    let told = c.args.accepted.now in
    let there = c.directory_of.ensures in
    let answered : (Control → ℕ → ℕ → List Shelf → List (Option (List ℕ)) → List (Option (List ℕ)) → List Bool → Option (List ℕ) → Response) =
    λ n many ids lines addresses names retired key. response_for r.asked r.last told.answer told.back (holding_in r.asked.operation lines) addresses key
    (report_of r.asked.operation (record { node = n; shelf = lines; messages = many; ids = ids; addresses = addresses; names = names; retired = retired; tally = s.tally; about = about_of s.about })) in
    let n = c.node.result.now.control in
    ok_then c.response_to.result (λ response is honest. is
    ∙ parts_same (answered n c.len.result c.ids_of.result c.shelf.result.now) there.addresses there.names there.retired there.key
    ∙ ap (λ n. answered n.control c.len.result c.ids_of.result c.shelf.result.now s.config.addresses s.config.names s.config.retired (key_of s.config.keys)) c.node.ensures
    ∙ ap (λ (many : ℕ). answered s.kept.node.control many c.ids_of.result c.shelf.result.now s.config.addresses s.config.names s.config.retired (key_of s.config.keys)) c.len.ensures
    ∙ ap (λ (ids : ℕ). answered s.kept.node.control (length s.outbox) ids c.shelf.result.now s.config.addresses s.config.names s.config.retired (key_of s.config.keys)) c.ids_of.ensures
    ∙ ap (λ (lines : List Shelf). answered s.kept.node.control (length s.outbox) (length s.config.addresses) lines s.config.addresses s.config.names s.config.retired (key_of s.config.keys)) (c.shelf.ensures.groups honest)) c.response_to.ensures
