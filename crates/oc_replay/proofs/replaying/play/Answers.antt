use Rattle.std.proofs.Common.{◌≡◌, ◌∙◌, ℕ, ap, arith, sym}
use Rattle.oc_model.specs.Node.{Header}
use Rattle.oc_schedule.specs.Script.{Script}
use Rattle.oc_replay.proofs.Opened.{opened-nodes, opened-opening}
use Rattle.oc_replay.proofs.replaying.play.Goals as goal

-- the run can begin with the world that was opened
pub write_run-requires-clause-opened : goal.write_run-requires-clause-opened
write_run-requires-clause-opened g c =
    let inside = c.schedule.inside in
    opened-opening c.args.schedule.now inside.header (g.T.Stage.world c.open.new.self) inside.events
    (ap (λ (s : Script). s.header) c.schedule.view_is)
    (ap (λ (s : Script). s.events) c.schedule.view_is)
    c.in_ok-open.ensures c.requires

pub write_run-requires-clause-nodes : goal.write_run-requires-clause-nodes
write_run-requires-clause-nodes g c =
    opened-nodes c.schedule.inside.header (g.T.Stage.world c.open.new.self) c.in_ok-open.ensures
    ∙ sym (ap (λ (h : Header). h.nodes) c.header.view_is)

pub write_run-requires-clause-few : goal.write_run-requires-clause-few
write_run-requires-clause-few g c =
    let here : c.header.inside.sizes.nodes ≡ c.schedule.inside.header.nodes = ap (λ (h : Header). h.nodes) c.header.view_is in
    let nodes : c.schedule.inside.header.nodes ≡ c.args.schedule.now.header.nodes = ap (λ (s : Script). s.header.nodes) c.schedule.view_is in
    omega (arith, here, nodes, c.requires.header.few)
