use Rattle.std.proofs.Common.{map, ap, ◌≤◌, ◌++◌, length, arith, ◌∙◌}
use Rattle.std.proofs.lemmas.List.{length-map}
use Rattle.std.specs.List.{slice_get}
use Rattle.std.specs.Option.{option_map, option_to_list}
use Rattle.oc_link.specs.Connection.{Connection}
use Rattle.oc_link.specs.ConnectionsView.{ConnectionsView}
use Rattle.oc_link.proofs.ConnectionLists.{written_at}
use Rattle.oc_link.proofs.connections.Connections.written.Goals as goal

pub returns : goal.returns
returns c =
    let t = c.self.inside in
    let some : length t.written.strings ≤ length (map (λ v. v.items) t.given.items) = rw length-map (omega arith) in
    c.get.ensures
    ∙ written_at t.past.items (map (λ v. v.items) t.given.items) t.written.strings t.current c.args.at c.self.invariant.0 some
    ∙ ap (λ (v : ConnectionsView). option_map (λ (d : Connection). d.written) (slice_get (v.past ++ option_to_list v.current) c.args.at)) c.self.view_is
