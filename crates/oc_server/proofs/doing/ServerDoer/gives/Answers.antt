use Rattle.std.proofs.Common.{◌≡◌, ℕ, List, Option, length, refl, ap, subst, sym, ◌∙◌}
use Rattle.std.proofs.lemmas.Result.{err_from_is_err_and}
use Rattle.std.specs.List.{AllByRecursion}
use Rattle.oc_keep.specs.KeptView.{node_of}
use Rattle.oc_routes.specs.Tallies.{with_sent}
use Rattle.oc_deeds.specs.Deeds.{Gives, piece, rest, with_content}
use Rattle.oc_deeds.specs.Lawful.{IsLawfulWork}
use Rattle.oc_deeds.specs.Works.{without_work}
use Rattle.oc_deeds.specs.declared.ends.TurnEnd.TheVariants.{Memory}
use Rattle.oc_deeds.specs.declared.work.Transfer.{Transfer}
use Rattle.oc_deeds.specs.declared.work.Work.{Work}
use Rattle.oc_deeds.proofs.Lawful.{works_with_content, works_without}
use Rattle.oc_server.proofs.Looking.{memory_looks, stops_behind}
use Rattle.oc_server.proofs.Steps.{did_given, gave}
use Rattle.oc_server.proofs.Parts.{does_one}
use Rattle.oc_server.proofs.Stopping.{look_stops}
use Rattle.oc_deeds.specs.Parts.{one}
use Rattle.oc_server.proofs.doing.ServerDoer.gives.Goals as goal

pub returns-clause-did : goal.returns-clause-did
returns-clause-did g c =
    let s = c.args.self.now in
    let p = c.args.transfer in
    let nodes = s.kept.node.control.nodes in
    let me = s.kept.node.control.me in
    let groups = (node_of s.kept).groups in
    let others = without_work p.connection s.works in
    let left = c.in_ok-piece.piece.rest in
    let is : c.begin_rest.new.works ≡ with_content left others = c.in_ok-begin_rest.ensures.begun ∙ ap (with_content left) c.take-given.ensures.rest in
    does_one g.D.Disk.view g.K.Sink.takes g.K.Sink.fails g.K.Sink.faults g.L.Link.story g.L.Link.counts (Gives c.args.transfer c.args.now) (one (Gives c.args.transfer c.args.now)) s _ (λ honest. refl)
    (did_given g.D.Disk.view g.K.Sink.takes g.K.Sink.fails g.K.Sink.faults g.L.Link.story g.L.Link.counts g.met.K.Sink.takes_nothing (Gives p c.args.now) s c.next_piece.new.kept c.begin_rest.new.works (with_content (rest p c.args.now groups) others) c.finish.new.link c.sends.new.self (with_sent (length (piece p groups)) s.tally)
    refl refl refl c.in_ok-piece.ensures.looks (c.finish.ensures.counts ∙ c.give.ensures.counts)
    (λ all. subst (λ (ws : List Work). AllByRecursion (IsLawfulWork nodes me) ws) (sym is) (works_with_content nodes me left others (works_without nodes me p.connection s.works all)))
    refl
    (λ honest. is ∙ ap (λ (x : Option Transfer). with_content x others) (c.in_ok-piece.ensures.rest honest))
    (λ honest. c.sends.ensures ∙ ap (λ (n : ℕ). with_sent n s.tally) (c.len.ensures ∙ sym c.deref.ensures.len ∙ ap (λ (t : List ℕ). length t) (c.deref.ensures.value ∙ c.in_ok-piece.ensures.text honest)))
    (λ honest. gave p.connection c.deref.result.now (piece p groups) p.keeps p.told left (rest p c.args.now groups) (g.L.Link.story s.link) (g.L.Link.story c.give.new.self) (g.L.Link.story c.finish.new.link)
    (c.deref.ensures.value ∙ c.in_ok-piece.ensures.text honest) (c.in_ok-piece.ensures.rest honest) c.give.ensures.story c.finish.ensures.calls))

pub returns-in_err-piece-clause-breaks : goal.returns-in_err-piece-clause-breaks
returns-in_err-piece-clause-breaks g c =
    let p = err_from_is_err_and c.from_residual.result c.from_residual.ensures.1 in
    rw (p.1, p.2) (look_stops g.D.Disk.view g.K.Sink.takes g.K.Sink.fails g.K.Sink.faults g.L.Link.story g.L.Link.counts g.met.K.Sink.takes_nothing c.in_err-piece.field-0.0 (one (Gives c.args.transfer c.args.now)) c.args.self.now _ c.requires.is_open refl refl refl c.in_err-piece.ensures.stops)

pub returns-in_err-begin_rest-clause-breaks : goal.returns-in_err-begin_rest-clause-breaks
returns-in_err-begin_rest-clause-breaks g c =
    let p = err_from_is_err_and c.from_residual-in_err-begin_rest.result c.from_residual-in_err-begin_rest.ensures.1 in
    let looks = c.in_ok-piece.ensures.looks in
    let k = c.next_piece.new.kept in
    rw (p.1, p.2) (look_stops g.D.Disk.view g.K.Sink.takes g.K.Sink.fails g.K.Sink.faults g.L.Link.story g.L.Link.counts g.met.K.Sink.takes_nothing Memory (one (Gives c.args.transfer c.args.now)) c.args.self.now _ c.requires.is_open refl refl refl
    (stops_behind g.D.Disk.view Memory c.args.self.now.kept k k looks (memory_looks g.D.Disk.view k (c.recovers.ensures.survives looks.is_open))))
