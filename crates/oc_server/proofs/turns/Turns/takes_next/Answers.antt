use Rattle.std.proofs.Common.{◌∷◌, [], Bool, Option, IfSome, List, ℕ, ap, refl, sym, subst, ◌∙◌}
use Rattle.std.proofs.lemmas.Result.{err_from_is_err_and}
use Rattle.oc_keep.specs.KeptView.{sizes_of}
use Rattle.oc_model.specs.Node.{Header}
use Rattle.oc_deeds.specs.Choices.{wait_for}
use Rattle.oc_deeds.specs.Turns.{deals}
use Rattle.oc_deeds.specs.Deeds.{Reads, Sees}
use Rattle.oc_deeds.specs.Lawful.{IsLawfulCame, IsLawfulErrand, IsMadeFor}
use Rattle.oc_server.specs.Runs.{NextTaken}
use Rattle.oc_deeds.specs.declared.dials.Errand.{Errand}
use Rattle.oc_deeds.specs.declared.work.Work.{Work}
use Rattle.oc_deeds.proofs.Lawful.{errand_seen}
use Rattle.oc_server.proofs.Parts.{does_serve}
use Rattle.oc_server.proofs.Probings.{ready_then}
use Rattle.oc_server.proofs.Scenes.{still_serving}
use Rattle.oc_server.proofs.Turning.{next_stops, next_taken, next_unasked, next_unread, serving_heads}
use Rattle.oc_server.proofs.turns.Turns.takes_next.Goals as goal

pub understands-requires-clause-serving : goal.understands-requires-clause-serving
understands-requires-clause-serving g c =
    let did = c.in_ok-happened.ensures.did in
    still_serving g.D.Disk.view g.K.Sink.takes g.K.Sink.fails g.K.Sink.faults g.L.Link.story g.L.Link.counts (Sees c.in_ok-happened.happened.event c.wait_for-wait.result did.0 ∷ []) c.args.self.now.server c.sees.new.self did.1 c.requires.serving

pub understands-requires-clause-errand : goal.understands-requires-clause-errand
understands-requires-clause-errand g c =
    let t = c.args.self.now in
    let happened = c.in_ok-happened.happened in
    let did = c.in_ok-happened.ensures.did in
    subst (λ (h : Header). IfSome happened.errand (IsLawfulErrand h.nodes)) (sym did.1.same.header)
    (subst (λ (e : Option Errand). IfSome e (IsLawfulErrand t.server.kept.node.control.nodes)) (sym c.in_ok-happened.ensures.errand)
    (errand_seen t.server.kept.node.control.nodes happened.event t.server.dials c.requires.serving.lawful.dials))

pub millis-now-requires : goal.millis-now-requires
millis-now-requires g c =
    let did = c.in_ok-happened.ensures.did in
    serving_heads g.D.Disk.view g.K.Sink.takes g.K.Sink.fails g.K.Sink.faults g.L.Link.story g.L.Link.counts c.sees.new.self c.understands.new.self c.understands.ensures.same
    (still_serving g.D.Disk.view g.K.Sink.takes g.K.Sink.fails g.K.Sink.faults g.L.Link.story g.L.Link.counts (Sees c.in_ok-happened.happened.event c.wait_for-wait.result did.0 ∷ []) c.args.self.now.server c.sees.new.self did.1 c.requires.serving)

pub deals-requires-clause-serving : goal.deals-requires-clause-serving
deals-requires-clause-serving g c =
    let did = c.in_ok-happened.ensures.did in
    still_serving g.D.Disk.view g.K.Sink.takes g.K.Sink.fails g.K.Sink.faults g.L.Link.story g.L.Link.counts (Reads c.millis-now.result ∷ []) c.understands.new.self c.millis-now.new.self c.millis-now.ensures
    (serving_heads g.D.Disk.view g.K.Sink.takes g.K.Sink.fails g.K.Sink.faults g.L.Link.story g.L.Link.counts c.sees.new.self c.understands.new.self c.understands.ensures.same
    (still_serving g.D.Disk.view g.K.Sink.takes g.K.Sink.fails g.K.Sink.faults g.L.Link.story g.L.Link.counts (Sees c.in_ok-happened.happened.event c.wait_for-wait.result did.0 ∷ []) c.args.self.now.server c.sees.new.self did.1 c.requires.serving))

pub deals-requires-clause-probing : goal.deals-requires-clause-probing
deals-requires-clause-probing g c =
    let t = c.args.self.now in
    subst (λ (h : Header). IfSome t.probing (IsMadeFor h.nodes)) (sym (c.millis-now.ensures.same.header ∙ ap (λ s. sizes_of s.kept.node.control) c.understands.ensures.same ∙ c.in_ok-happened.ensures.did.1.same.header)) c.requires.probing

pub deals-requires-clause-came : goal.deals-requires-clause-came
deals-requires-clause-came g c =
    let b = c.sees.new.self in
    let came = c.in_ok-came.came in
    let read = c.millis-now.ensures in
    let heads = c.understands.ensures.same in
    subst (λ (h : Header). IsLawfulCame h.nodes c.millis-now.new.self.kept.node.control.me came) (sym (read.same.header ∙ ap (λ s. sizes_of s.kept.node.control) heads))
    (subst (λ (me : ℕ). IsLawfulCame b.kept.node.control.nodes me came) (sym (read.same.me ∙ ap (λ s. s.kept.node.control.me) heads)) c.in_ok-came.ensures.lawful)

pub returns-clause-ready : goal.returns-clause-ready
returns-clause-ready g c =
    let t = c.args.self.now in
    let d = c.millis-now.new.self in
    let dealt = c.in_ok-deals.ensures.did in
    let did = c.in_ok-happened.ensures.did in
    let read = c.millis-now.ensures in
    let heads = c.understands.ensures.same in
    let serving = still_serving g.D.Disk.view g.K.Sink.takes g.K.Sink.fails g.K.Sink.faults g.L.Link.story g.L.Link.counts (Reads c.millis-now.result ∷ []) c.understands.new.self d read
    (serving_heads g.D.Disk.view g.K.Sink.takes g.K.Sink.fails g.K.Sink.faults g.L.Link.story g.L.Link.counts c.sees.new.self c.understands.new.self heads
    (still_serving g.D.Disk.view g.K.Sink.takes g.K.Sink.fails g.K.Sink.faults g.L.Link.story g.L.Link.counts (Sees c.in_ok-happened.happened.event c.wait_for-wait.result did.0 ∷ []) t.server c.sees.new.self did.1 c.requires.serving)) in
    let part = deals t.pace t.probing c.in_ok-came.came c.millis-now.result dealt.0 dealt.1 dealt.2 in
    ready_then t (record { server = c.deals.new.doer; pace = c.deals.new.pace; probing = c.deals.new.probing; reading = t.reading }) c.requires
    (does_serve g.D.Disk.view g.K.Sink.takes g.K.Sink.fails g.K.Sink.faults g.L.Link.story g.L.Link.counts part d c.deals.new.doer dealt.4 serving)
    (dealt.4.did.same.header ∙ read.same.header ∙ ap (λ s. sizes_of s.kept.node.control) heads ∙ did.1.same.header) c.in_ok-came.came c.millis-now.result d.dials c.deals.ensures.probing

pub returns-clause-taken : goal.returns-clause-taken
returns-clause-taken g c =
    let t = c.args.self.now in
    let happened = c.in_ok-happened.happened in
    let did = c.in_ok-happened.ensures.did in
    let dealt = c.in_ok-deals.ensures.did in
    subst (λ (served : Bool). NextTaken g.D.Disk.view g.K.Sink.takes g.K.Sink.faults g.L.Link.story g.L.Link.counts c.args.before served t (record { server = c.deals.new.doer; pace = c.deals.new.pace; probing = c.deals.new.probing; reading = t.reading })) (sym c.is_something-served.ensures)
    (next_taken g.D.Disk.view g.K.Sink.takes g.K.Sink.fails g.K.Sink.faults g.L.Link.story g.L.Link.counts g.met.K.Sink.takes_nothing g.met.K.Sink.takes_then t c.args.before c.wait_for-wait.result happened.event did.0 c.sees.new.self
    (c.wait_for-wait.ensures ∙ ap (λ (ws : List Work). wait_for t.pace ws c.args.before) c.list.ensures) did.1
    happened.errand (g.L.Link.lends c.sees.new.self.link) c.in_ok-came.came c.millis-now.result c.understands.new.self c.millis-now.new.self (record { server = c.deals.new.doer; pace = c.deals.new.pace; probing = c.deals.new.probing; reading = t.reading })
    c.in_ok-happened.ensures.told c.in_ok-happened.ensures.errand c.in_ok-came.ensures.means c.understands.ensures.same c.millis-now.ensures
    (record { median = dealt.0; started = dealt.1; seconds = dealt.2; measured = dealt.3; does = dealt.4; pace = dealt.5; probing = c.deals.ensures.probing }) refl)

pub returns-in_err-happened-clause-stops : goal.returns-in_err-happened-clause-stops
returns-in_err-happened-clause-stops g c =
    let p = err_from_is_err_and c.from_residual.result c.from_residual.ensures.1 in
    let t = c.args.self.now in
    rw (p.1, p.2) (next_unasked g.D.Disk.view g.K.Sink.takes g.K.Sink.fails g.K.Sink.faults g.L.Link.story g.L.Link.counts g.met.K.Sink.takes_nothing c.in_err-happened.field-0.0 c.args.before t (record t { server = c.sees.new.self }) c.requires.serving.is_open c.in_err-happened.ensures.breaks.1)

pub returns-in_err-came-clause-stops : goal.returns-in_err-came-clause-stops
returns-in_err-came-clause-stops g c =
    let p = err_from_is_err_and c.from_residual-in_err-came.result c.from_residual-in_err-came.ensures.1 in
    let t = c.args.self.now in
    let happened = c.in_ok-happened.happened in
    let did = c.in_ok-happened.ensures.did in
    rw (p.1, p.2) (next_unread g.D.Disk.view g.K.Sink.takes g.K.Sink.fails g.K.Sink.faults g.L.Link.story g.L.Link.counts g.met.K.Sink.takes_nothing g.met.K.Sink.takes_then t c.args.before c.wait_for-wait.result happened.event did.0 c.sees.new.self
    (c.wait_for-wait.ensures ∙ ap (λ (ws : List Work). wait_for t.pace ws c.args.before) c.list.ensures) did.1
    c.in_err-came.field-0.0 (record t { server = c.understands.new.self }) c.in_err-came.ensures.breaks.1)

pub returns-in_err-deals-clause-stops : goal.returns-in_err-deals-clause-stops
returns-in_err-deals-clause-stops g c =
    let p = err_from_is_err_and c.from_residual-in_err-deals.result c.from_residual-in_err-deals.ensures.1 in
    let t = c.args.self.now in
    let happened = c.in_ok-happened.happened in
    let did = c.in_ok-happened.ensures.did in
    let dealt = c.in_err-deals.ensures.breaks in
    rw (p.1, p.2) (next_stops g.D.Disk.view g.K.Sink.takes g.K.Sink.fails g.K.Sink.faults g.L.Link.story g.L.Link.counts g.met.K.Sink.takes_nothing g.met.K.Sink.takes_then t c.args.before c.wait_for-wait.result happened.event did.0 c.sees.new.self
    (c.wait_for-wait.ensures ∙ ap (λ (ws : List Work). wait_for t.pace ws c.args.before) c.list.ensures) did.1
    happened.errand (g.L.Link.lends c.sees.new.self.link) c.in_ok-came.came c.millis-now.result c.understands.new.self c.millis-now.new.self (record { server = c.deals.new.doer; pace = c.deals.new.pace; probing = c.deals.new.probing; reading = t.reading })
    c.in_ok-happened.ensures.told c.in_ok-happened.ensures.errand c.in_ok-came.ensures.means c.understands.ensures.same c.millis-now.ensures c.in_err-deals.field-0.0
    (record { median = dealt.0; started = dealt.1; seconds = dealt.2; measured = dealt.3; stops = dealt.4 }))
