use Rattle.std.proofs.Common.{Option, map, ap, sym, ◌∙◌}
use Rattle.std.specs.Option.{option_map}
use Rattle.oc_link.specs.Connection.{Connection}
use Rattle.oc_link.specs.ConnectionsView.{further}
use Rattle.oc_link.proofs.ConnectionLists.{read_view}
use Rattle.oc_link.proofs.connections.Connections.read.Goals as goal

pub returns-clause-view : goal.returns-clause-view
returns-clause-view c =
    let t = c.self.inside in
    let n = c.fill-count.result in
    let r = read_view (map (λ v. v.items) t.given.items) t.past.items t.current c.in-Some.progress t.written.strings t.written.room c.args.self.now n c.in-Some.is c.self.view_is in
    r.after ∙ ap (λ (o : Option Connection). record c.args.self.now { current = option_map (further n) o }) (sym r.current)
