use Rattle.std.proofs.Common.{◌≡◌, IfSome, List, refl, rules, sym, subst}
use Rattle.std.proofs.lemmas.Result.{err_from_is_err_and}
use Rattle.oc_deeds.specs.Deeds.{Looks}
use Rattle.oc_deeds.specs.Lawful.{IsMadeFor}
use Rattle.oc_deeds.specs.Parts.{one}
use Rattle.oc_deeds.specs.Rereading.{goes_by}
use Rattle.oc_model.specs.Node.{Header}
use Rattle.oc_server.proofs.LookingAgain.{look_done, look_stopped, look_unread}
use Rattle.oc_server.proofs.Parts.{does_serve}
use Rattle.oc_server.proofs.turns.Turns.looks_again.Goals as goal

pub rereads_look-requires : goal.rereads_look-requires
rereads_look-requires g c =
    does_serve g.D.Disk.view g.K.Sink.takes g.K.Sink.fails g.K.Sink.faults g.L.Link.story g.L.Link.counts (one (Looks c.looks-look.result)) c.args.self.now.server c.looks-look.new.self c.looks-look.ensures c.requires.serving

pub goes_by-requires-clause-serving : goal.goes_by-requires-clause-serving
goes_by-requires-clause-serving g c =
    does_serve g.D.Disk.view g.K.Sink.takes g.K.Sink.fails g.K.Sink.faults g.L.Link.story g.L.Link.counts (one (Looks c.looks-look.result)) c.args.self.now.server c.looks-look.new.self c.looks-look.ensures c.requires.serving

pub goes_by-requires-clause-probing : goal.goes_by-requires-clause-probing
goes_by-requires-clause-probing g c =
    subst (λ (h : Header). IfSome c.args.self.now.probing (IsMadeFor h.nodes)) (sym c.looks-look.ensures.did.same.header) c.requires.probing

pub returns-clause-looked : goal.returns-clause-looked
returns-clause-looked g c =
    let t = c.args.self.now in
    look_done g.D.Disk.view g.K.Sink.takes g.K.Sink.fails g.K.Sink.faults g.L.Link.story g.L.Link.counts g.met.K.Sink.takes_nothing g.met.K.Sink.takes_then t c.looks-look.new.self (record { server = c.goes_by.new.doer; pace = t.pace; probing = c.goes_by.new.probing; reading = c.last_read.result })
    c.looks-look.result c.looks-look.ensures c.in_ok-reread.reread c.in_ok-goes_by.ensures.did c.in_ok-reread.ensures.means (search rules) refl c.in_ok-goes_by.ensures.probing

pub returns-clause-ready : goal.returns-clause-ready
returns-clause-ready g c =
    let t = c.args.self.now in
    let b = c.looks-look.new.self in
    let serving = does_serve g.D.Disk.view g.K.Sink.takes g.K.Sink.fails g.K.Sink.faults g.L.Link.story g.L.Link.counts (one (Looks c.looks-look.result)) t.server b c.looks-look.ensures c.requires.serving in
    record {
      serving = does_serve g.D.Disk.view g.K.Sink.takes g.K.Sink.fails g.K.Sink.faults g.L.Link.story g.L.Link.counts (goes_by c.in_ok-reread.reread) b c.goes_by.new.doer c.in_ok-goes_by.ensures.did serving;
      probing = subst (λ (h : Header). IfSome c.goes_by.new.probing (IsMadeFor h.nodes)) (sym c.in_ok-goes_by.ensures.did.did.same.header) c.in_ok-goes_by.ensures.made;
    }

pub returns-in_err-reread-clause-stops : goal.returns-in_err-reread-clause-stops
returns-in_err-reread-clause-stops g c =
    let p = err_from_is_err_and c.from_residual.result c.from_residual.ensures.1 in
    let t = c.args.self.now in
    rw (p.1, p.2) (look_unread g.D.Disk.view g.K.Sink.takes g.K.Sink.fails g.K.Sink.faults g.L.Link.story g.L.Link.counts g.met.K.Sink.takes_nothing g.met.K.Sink.takes_then t c.looks-look.new.self (record t { server = c.looks-look.new.self }) c.looks-look.result c.looks-look.ensures c.in_err-reread.field-0.0 c.in_err-reread.ensures.breaks.1)

pub returns-in_err-goes_by-clause-stops : goal.returns-in_err-goes_by-clause-stops
returns-in_err-goes_by-clause-stops g c =
    let p = err_from_is_err_and c.from_residual-in_err-goes_by.result c.from_residual-in_err-goes_by.ensures.1 in
    let t = c.args.self.now in
    rw (p.1, p.2) (look_stopped g.D.Disk.view g.K.Sink.takes g.K.Sink.fails g.K.Sink.faults g.L.Link.story g.L.Link.counts g.met.K.Sink.takes_nothing g.met.K.Sink.takes_then t c.looks-look.new.self (record { server = c.goes_by.new.doer; pace = t.pace; probing = c.goes_by.new.probing; reading = c.last_read.result })
    c.looks-look.result c.looks-look.ensures c.in_err-goes_by.field-0.0 c.in_ok-reread.reread c.in_ok-reread.ensures.means c.in_err-goes_by.ensures.breaks)
