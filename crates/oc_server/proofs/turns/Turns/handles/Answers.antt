use Rattle.std.proofs.Common.{◌≡◌, ◌∷◌, [], None, Some, ap, sym, slice_get, refl, ◌∙◌, arith}
use Rattle.std.proofs.lemmas.Result.{err_from_is_err_and}
use Rattle.oc_keep.specs.KeptView.{IsHonest}
use Rattle.oc_deeds.specs.Deeds.{Reads}
use Rattle.oc_server.specs.Looks.{Renews}
use Rattle.oc_server.specs.Runs.{due_in}
use Rattle.oc_deeds.specs.Turns.{takes_due}
use Rattle.oc_server.proofs.Parts.{does_serve}
use Rattle.oc_server.proofs.Probings.{ready_still}
use Rattle.oc_deeds.proofs.Results.{err_then, ok_then}
use Rattle.oc_server.proofs.Scenes.{did_then, still_renewed, still_serving}
use Rattle.oc_server.proofs.Turning.{due_then, stopped_at_once, stopped_due, stopped_next, turned_due, turned_next}
use Rattle.oc_server.proofs.turns.Turns.handles.Goals as goal

pub millis-before-requires : goal.millis-before-requires
millis-before-requires g c = still_serving g.D.Disk.view g.K.Sink.takes g.K.Sink.fails g.K.Sink.faults g.L.Link.story g.L.Link.counts [] c.args.self.now.server c.tidies.new.self c.in_ok-tidies.ensures.did c.requires.serving

pub takes_due-requires : goal.takes_due-requires
takes_due-requires g c =
    let t = c.args.self.now in
    let did = did_then g.D.Disk.view g.K.Sink.takes g.K.Sink.fails g.K.Sink.faults g.L.Link.story g.L.Link.counts g.met.K.Sink.takes_then [] (Reads c.millis-before.result ∷ []) t.server c.tidies.new.self c.millis-before.new.self c.in_ok-tidies.ensures.did c.millis-before.ensures in
    still_serving g.D.Disk.view g.K.Sink.takes g.K.Sink.fails g.K.Sink.faults g.L.Link.story g.L.Link.counts (Reads c.millis-before.result ∷ []) t.server c.millis-before.new.self did c.requires.serving

pub takes_next-requires : goal.takes_next-requires
takes_next-requires g c =
    let t = c.args.self.now in
    let did = did_then g.D.Disk.view g.K.Sink.takes g.K.Sink.fails g.K.Sink.faults g.L.Link.story g.L.Link.counts g.met.K.Sink.takes_then [] (Reads c.millis-before.result ∷ []) t.server c.tidies.new.self c.millis-before.new.self c.in_ok-tidies.ensures.did c.millis-before.ensures in
    ready_still t (record t { server = c.millis-before.new.self }) c.requires
    (still_serving g.D.Disk.view g.K.Sink.takes g.K.Sink.fails g.K.Sink.faults g.L.Link.story g.L.Link.counts (Reads c.millis-before.result ∷ []) t.server c.millis-before.new.self did c.requires.serving) did.same.header refl

pub returns-in_err-tidies-clause-stops : goal.returns-in_err-tidies-clause-stops
returns-in_err-tidies-clause-stops g c =
    let p = err_from_is_err_and c.from_residual.result c.from_residual.ensures.1 in
    let t = c.args.self.now in
    rw (p.1, p.2) (stopped_at_once g.D.Disk.view g.K.Sink.takes g.K.Sink.fails g.K.Sink.faults g.L.Link.story g.L.Link.counts g.met.K.Sink.takes_nothing c.in_err-tidies.field-0.0 t (record t { server = c.tidies.new.self }) c.requires.serving.is_open c.in_err-tidies.ensures.breaks)

pub returns-in_ok-takes_due-in-Some-clause-handled : goal.returns-in_ok-takes_due-in-Some-clause-handled
returns-in_ok-takes_due-in-Some-clause-handled g c =
    let t = c.args.self.now in
    let did = did_then g.D.Disk.view g.K.Sink.takes g.K.Sink.fails g.K.Sink.faults g.L.Link.story g.L.Link.counts g.met.K.Sink.takes_then [] (Reads c.millis-before.result ∷ []) t.server c.tidies.new.self c.millis-before.new.self c.in_ok-tidies.ensures.did c.millis-before.ensures in
    let is : IsHonest g.D.Disk.view t.server.kept → due_in t.server c.millis-before.result ≡ Some c.in-Some.index =
    λ honest.
    due_then g.D.Disk.view g.K.Sink.takes g.K.Sink.fails g.K.Sink.faults g.L.Link.story g.L.Link.counts g.met.K.Sink.takes_then c.millis-before.result t.server c.millis-before.new.self c.millis-before.new.self did c.due_at.result c.due_at.ensures honest ∙ c.in-Some.is in
    let renewed : Renews g.D.Disk.view t.server.kept c.millis-before.new.self.kept =
    still_renewed g.D.Disk.view g.K.Sink.takes g.K.Sink.fails g.K.Sink.faults g.L.Link.story g.L.Link.counts [] (Reads c.millis-before.result ∷ []) t.server c.tidies.new.self c.millis-before.new.self c.in_ok-tidies.ensures.did c.millis-before.ensures
    (λ honest ripe. omega (arith, c.in_ok-tidies.ensures.ripe ripe)) in
    let due = c.in_ok-takes_due-in-Some.ensures.did in
    turned_due g.D.Disk.view g.K.Sink.takes g.K.Sink.fails g.K.Sink.faults g.L.Link.story g.L.Link.counts g.met.K.Sink.takes_nothing g.met.K.Sink.takes_then t c.millis-before.result c.millis-before.new.self (record { server = c.takes_due.new.doer; pace = c.takes_due.new.pace; probing = t.probing; reading = t.reading }) did c.in-Some.index is due.0 renewed due.1 due.2 refl refl

pub returns-in_err-takes_due-in-Some-clause-stops : goal.returns-in_err-takes_due-in-Some-clause-stops
returns-in_err-takes_due-in-Some-clause-stops g c =
    let t = c.args.self.now in
    let did = did_then g.D.Disk.view g.K.Sink.takes g.K.Sink.fails g.K.Sink.faults g.L.Link.story g.L.Link.counts g.met.K.Sink.takes_then [] (Reads c.millis-before.result ∷ []) t.server c.tidies.new.self c.millis-before.new.self c.in_ok-tidies.ensures.did c.millis-before.ensures in
    let is : IsHonest g.D.Disk.view t.server.kept → due_in t.server c.millis-before.result ≡ Some c.in-Some.index =
    λ honest.
    due_then g.D.Disk.view g.K.Sink.takes g.K.Sink.fails g.K.Sink.faults g.L.Link.story g.L.Link.counts g.met.K.Sink.takes_then c.millis-before.result t.server c.millis-before.new.self c.millis-before.new.self did c.due_at.result c.due_at.ensures honest ∙ c.in-Some.is in
    let p = err_from_is_err_and c.from_residual-in_err-takes_due-in-Some.result c.from_residual-in_err-takes_due-in-Some.ensures.1 in
    let stops = c.in_err-takes_due-in-Some.ensures.breaks in
    rw (p.1, p.2) (stopped_due g.D.Disk.view g.K.Sink.takes g.K.Sink.fails g.K.Sink.faults g.L.Link.story g.L.Link.counts g.met.K.Sink.takes_nothing g.met.K.Sink.takes_then t c.millis-before.result c.millis-before.new.self (record { server = c.takes_due.new.doer; pace = c.takes_due.new.pace; probing = t.probing; reading = t.reading }) did c.in-Some.index is c.in_err-takes_due-in-Some.field-0.0 stops.0 stops.1)

pub returns-in_ok-takes_due-in-Some-clause-ready : goal.returns-in_ok-takes_due-in-Some-clause-ready
returns-in_ok-takes_due-in-Some-clause-ready g c =
    let t = c.args.self.now in
    let did = did_then g.D.Disk.view g.K.Sink.takes g.K.Sink.fails g.K.Sink.faults g.L.Link.story g.L.Link.counts g.met.K.Sink.takes_then [] (Reads c.millis-before.result ∷ []) t.server c.tidies.new.self c.millis-before.new.self c.in_ok-tidies.ensures.did c.millis-before.ensures in
    let due = c.in_ok-takes_due-in-Some.ensures.did in
    ready_still t (record { server = c.takes_due.new.doer; pace = c.takes_due.new.pace; probing = t.probing; reading = t.reading }) c.requires
    (does_serve g.D.Disk.view g.K.Sink.takes g.K.Sink.fails g.K.Sink.faults g.L.Link.story g.L.Link.counts (takes_due t.pace (slice_get c.millis-before.new.self.works c.in-Some.index) c.millis-before.result due.0) c.millis-before.new.self c.takes_due.new.doer due.1
    (still_serving g.D.Disk.view g.K.Sink.takes g.K.Sink.fails g.K.Sink.faults g.L.Link.story g.L.Link.counts (Reads c.millis-before.result ∷ []) t.server c.millis-before.new.self did c.requires.serving))
    (due.1.did.same.header ∙ did.same.header) refl

pub returns-in-None-clause-handled : goal.returns-in-None-clause-handled
returns-in-None-clause-handled g c =
    let t = c.args.self.now in
    let did = did_then g.D.Disk.view g.K.Sink.takes g.K.Sink.fails g.K.Sink.faults g.L.Link.story g.L.Link.counts g.met.K.Sink.takes_then [] (Reads c.millis-before.result ∷ []) t.server c.tidies.new.self c.millis-before.new.self c.in_ok-tidies.ensures.did c.millis-before.ensures in
    let is : IsHonest g.D.Disk.view t.server.kept → due_in t.server c.millis-before.result ≡ None =
    λ honest.
    due_then g.D.Disk.view g.K.Sink.takes g.K.Sink.fails g.K.Sink.faults g.L.Link.story g.L.Link.counts g.met.K.Sink.takes_then c.millis-before.result t.server c.millis-before.new.self c.millis-before.new.self did c.due_at.result c.due_at.ensures honest ∙ c.in-None.is in
    let renewed : Renews g.D.Disk.view t.server.kept c.millis-before.new.self.kept =
    still_renewed g.D.Disk.view g.K.Sink.takes g.K.Sink.fails g.K.Sink.faults g.L.Link.story g.L.Link.counts [] (Reads c.millis-before.result ∷ []) t.server c.tidies.new.self c.millis-before.new.self c.in_ok-tidies.ensures.did c.millis-before.ensures
    (λ honest ripe. omega (arith, c.in_ok-tidies.ensures.ripe ripe)) in
    ok_then c.takes_next.result (λ served taken. turned_next g.D.Disk.view g.K.Sink.takes g.K.Sink.fails g.K.Sink.faults g.L.Link.story g.L.Link.counts g.met.K.Sink.takes_nothing g.met.K.Sink.takes_then t c.millis-before.result c.millis-before.new.self c.takes_next.new.self did is served renewed taken) c.takes_next.ensures.taken

pub returns-in-None-clause-stops : goal.returns-in-None-clause-stops
returns-in-None-clause-stops g c =
    let t = c.args.self.now in
    let did = did_then g.D.Disk.view g.K.Sink.takes g.K.Sink.fails g.K.Sink.faults g.L.Link.story g.L.Link.counts g.met.K.Sink.takes_then [] (Reads c.millis-before.result ∷ []) t.server c.tidies.new.self c.millis-before.new.self c.in_ok-tidies.ensures.did c.millis-before.ensures in
    let is : IsHonest g.D.Disk.view t.server.kept → due_in t.server c.millis-before.result ≡ None =
    λ honest.
    due_then g.D.Disk.view g.K.Sink.takes g.K.Sink.fails g.K.Sink.faults g.L.Link.story g.L.Link.counts g.met.K.Sink.takes_then c.millis-before.result t.server c.millis-before.new.self c.millis-before.new.self did c.due_at.result c.due_at.ensures honest ∙ c.in-None.is in
    err_then c.takes_next.result (λ end stops. stopped_next g.D.Disk.view g.K.Sink.takes g.K.Sink.fails g.K.Sink.faults g.L.Link.story g.L.Link.counts g.met.K.Sink.takes_nothing g.met.K.Sink.takes_then t c.millis-before.result c.millis-before.new.self c.takes_next.new.self did is end stops) c.takes_next.ensures.stops
