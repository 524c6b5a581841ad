use Rattle.std.proofs.Common.{IfSome, ap, subst, sym, ◌∙◌}
use Rattle.oc_keep.specs.KeptView.{sizes_of}
use Rattle.oc_model.specs.Node.{Header}
use Rattle.oc_deeds.specs.Lawful.{IsMadeFor}
use Rattle.oc_server.proofs.Scenes.{still_serving}
use Rattle.oc_server.specs.Scenes.{IsServing}
use Rattle.oc_service.proofs.Runs.{halted_ends, served_ends}
use Rattle.oc_service.proofs.running.run.Goals as goal

pub returns-in-Ok-begin : goal.returns-in-Ok-begin
returns-in-Ok-begin g c =
    served_ends g.D.Disk.view g.K.Sink.takes g.K.Sink.fails g.K.Sink.faults g.L.Link.story g.L.Link.counts g.met.K.Sink.takes_nothing g.met.K.Sink.takes_then
    c.args.most c.args.turns.now c.recovers.ensures.groups c.listen.new.server c.in-Ok.ensures.listens c.begin.new.server c.in-Ok-begin.ensures.did c.serve.result c.serve.new.self c.serve.ensures
    (λ made later honest told behind none settled.
    c.turns_are_in_order.ensures.serve c.args.most c.serve.result (record c.args.turns.now { server = c.begin.new.server }) c.serve.new.self made later honest told behind none settled c.serve.ensures)

pub returns-in-Err-begin : goal.returns-in-Err-begin
returns-in-Err-begin g c =
    halted_ends g.D.Disk.view g.K.Sink.takes g.K.Sink.fails g.K.Sink.faults g.L.Link.story g.L.Link.counts g.met.K.Sink.takes_nothing g.met.K.Sink.takes_then
    c.args.most c.args.turns.now c.recovers.ensures.groups c.listen.new.server c.in-Ok.ensures.listens c.in-Err-begin.end (record c.args.turns.now { server = c.begin.new.server }) c.in-Err-begin.ensures.stops

-- the node is ready for turns when it has begun
pub serve-requires : goal.serve-requires
serve-requires g c =
    let t = c.args.turns.now in
    let was = c.requires.ready.serving in
    let listens = c.in-Ok.ensures.listens in
    let did = c.in-Ok-begin.ensures.did in
    let listening = subst (λ s. IsServing s) (sym listens.rest) (record {
      is_open = was.is_open;
      set = record { placed = was.set.placed; rules = was.set.rules; areas = was.set.areas; roomy = was.set.roomy };
      lawful = record { sendable = was.lawful.sendable; works = was.lawful.works; dials = was.lawful.dials };
    }) in
    record {
      serving = still_serving g.D.Disk.view g.K.Sink.takes g.K.Sink.fails g.K.Sink.faults g.L.Link.story g.L.Link.counts _ c.listen.new.server c.begin.new.server did listening;
      probing = subst (λ (h : Header). IfSome t.probing (IsMadeFor h.nodes)) (sym (did.same.header ∙ ap (λ s. sizes_of s.kept.node.control) listens.rest)) c.requires.ready.probing;
    }
