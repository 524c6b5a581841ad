use Rattle.std.proofs.Common.{◌≡◌, ◌++◌, ◌∷◌, [], List, ℕ, Option, refl, ap, subst, sym, ◌∙◌, rules}
use Rattle.std.proofs.lemmas.Result.{err_from_is_err_and}
use Rattle.std.specs.List.{AllByRecursion}
use Rattle.oc_link.specs.declared.call.Call.TheVariants as acts
use Rattle.oc_link.proofs.Stories.{adds-then}
use Rattle.oc_keep.specs.KeptView.{IsHonest, node_of}
use Rattle.oc_deeds.specs.Counted.{with_reply_to}
use Rattle.oc_deeds.specs.Deeds.{Replies, finish, given_first, first_piece, first_rest, keeps, transfer_for, takes_request, with_content}
use Rattle.oc_deeds.specs.Lawful.{IsLawfulWork}
use Rattle.oc_deeds.specs.Works.{without_work}
use Rattle.oc_deeds.specs.declared.ends.TurnEnd.TheVariants.{Memory}
use Rattle.oc_deeds.specs.declared.work.Transfer.{Transfer}
use Rattle.oc_deeds.specs.declared.work.Work.{Work}
use Rattle.oc_deeds.proofs.Lawful.{works_with_content, works_without}
use Rattle.oc_server.proofs.Looking.{memory_looks, stops_behind}
use Rattle.oc_server.proofs.Steps.{did_given, gave}
use Rattle.oc_server.proofs.Parts.{does_one}
use Rattle.oc_server.proofs.Stopping.{memory_stops, look_stops}
use Rattle.oc_deeds.specs.Asks.{replies}
use Rattle.oc_routes.specs.declared.response.Response.{Response}
use Rattle.oc_deeds.specs.declared.ends.TurnEnd.TheVariants as ends
use Rattle.oc_server.proofs.doing.ServerDoer.replies.Goals as goal

pub response_to-requires-clause-places : goal.response_to-requires-clause-places
response_to-requires-clause-places g c = c.requires.serving.set.placed.count

pub returns-clause-did : goal.returns-clause-did
returns-clause-did g c =
    let s = c.args.self.now in
    let r = c.args.pending in
    let response = c.in_ok-response.response in
    let now = c.args.now in
    let nodes = s.kept.node.control.nodes in
    let me = s.kept.node.control.me in
    let groups = (node_of s.kept).groups in
    let others = without_work r.connection s.works in
    let left = c.in_ok-piece.piece.rest in
    let transfer = c.transfer_for-transfer.ensures in
    let is : c.begin_rest.new.works ≡ with_content left others = c.in_ok-begin_rest.ensures.begun ∙ ap (with_content left) c.take-waited.ensures.rest in
    let rest_is : IsHonest g.D.Disk.view s.kept → left ≡ first_rest (transfer_for r response now) now groups = λ honest. c.in_ok-piece.ensures.rest honest ∙ ap (λ (p : Option Transfer). first_rest p now groups) transfer in
    let text_is : IsHonest g.D.Disk.view s.kept → response.text ++ c.in_ok-piece.piece.text.items ≡ response.text ++ first_piece (transfer_for r response now) groups = λ honest. ap (λ (t : List ℕ). response.text ++ t) (c.in_ok-piece.ensures.text honest ∙ ap (λ (p : Option Transfer). first_piece p groups) transfer) in
    does_one g.D.Disk.view g.K.Sink.takes g.K.Sink.fails g.K.Sink.faults g.L.Link.story g.L.Link.counts (Replies r response now) (replies c.args.pending c.args.now c.args.accepted.now.answer c.args.accepted.now.back) s _ (λ honest. ap (λ (x : Response). Replies r x now ∷ []) (sym (c.in_ok-response.ensures honest)))
    (did_given g.D.Disk.view g.K.Sink.takes g.K.Sink.fails g.K.Sink.faults g.L.Link.story g.L.Link.counts g.met.K.Sink.takes_nothing (Replies r response now) s c.first_piece.new.kept c.begin_rest.new.works (with_content (first_rest (transfer_for r response now) now groups) others) c.finish.new.link
    c.count_reply.new.tally (with_reply_to r.asked.operation (given_first r response now groups) s.tally)
    refl refl refl c.in_ok-piece.ensures.looks (c.finish.ensures.counts ∙ c.give.ensures.counts ∙ c.take_request.ensures.counts)
    (λ all. subst (λ (ws : List Work). AllByRecursion (IsLawfulWork nodes me) ws) (sym is) (works_with_content nodes me left others (works_without nodes me r.connection s.works all)))
    refl
    (λ honest. is ∙ ap (λ (x : Option Transfer). with_content x others) (rest_is honest))
    (λ honest. c.count_reply.ensures ∙ ap (λ (t : List ℕ). with_reply_to r.asked.operation t s.tally) (search rules ∙ text_is honest))
    (λ honest. adds-then (takes_request r) (acts.Give r.connection (response.text ++ first_piece (transfer_for r response now) groups) ∷ finish r.connection (keeps response.connection) r.told (first_rest (transfer_for r response now) now groups))
    (g.L.Link.story s.link) (g.L.Link.story c.take_request.new.link) (g.L.Link.story c.finish.new.link) c.take_request.ensures.calls
    (gave r.connection _ (response.text ++ first_piece (transfer_for r response now) groups) (keeps response.connection) r.told left (first_rest (transfer_for r response now) now groups) (g.L.Link.story c.take_request.new.link) (g.L.Link.story c.give.new.self) (g.L.Link.story c.finish.new.link)
    (search rules ∙ text_is honest) (rest_is honest) c.give.ensures.story (search rules))))

pub returns-in_err-piece-clause-breaks : goal.returns-in_err-piece-clause-breaks
returns-in_err-piece-clause-breaks g c =
    let p = err_from_is_err_and c.from_residual-in_err-piece.result c.from_residual-in_err-piece.ensures.1 in
    rw (p.1, p.2) (look_stops g.D.Disk.view g.K.Sink.takes g.K.Sink.fails g.K.Sink.faults g.L.Link.story g.L.Link.counts g.met.K.Sink.takes_nothing c.in_err-piece.field-0.0 (replies c.args.pending c.args.now c.args.accepted.now.answer c.args.accepted.now.back) c.args.self.now _ c.requires.serving.is_open refl refl refl c.in_err-piece.ensures.stops)

pub returns-in_err-text-clause-breaks : goal.returns-in_err-text-clause-breaks
returns-in_err-text-clause-breaks g c =
    let p = err_from_is_err_and c.from_residual-in_err-text.result c.from_residual-in_err-text.ensures.1 in
    let looks = c.in_ok-piece.ensures.looks in
    let k = c.first_piece.new.kept in
    rw (p.1, p.2) (look_stops g.D.Disk.view g.K.Sink.takes g.K.Sink.fails g.K.Sink.faults g.L.Link.story g.L.Link.counts g.met.K.Sink.takes_nothing ends.Memory (replies c.args.pending c.args.now c.args.accepted.now.answer c.args.accepted.now.back) c.args.self.now _ c.requires.serving.is_open refl refl refl
    (stops_behind g.D.Disk.view Memory c.args.self.now.kept k k looks (memory_looks g.D.Disk.view k (c.recovers-2.ensures.survives looks.is_open))))

pub returns-in_err-begin_rest-clause-breaks : goal.returns-in_err-begin_rest-clause-breaks
returns-in_err-begin_rest-clause-breaks g c =
    let p = err_from_is_err_and c.from_residual-in_err-begin_rest.result c.from_residual-in_err-begin_rest.ensures.1 in
    let looks = c.in_ok-piece.ensures.looks in
    let k = c.first_piece.new.kept in
    rw (p.1, p.2) (look_stops g.D.Disk.view g.K.Sink.takes g.K.Sink.fails g.K.Sink.faults g.L.Link.story g.L.Link.counts g.met.K.Sink.takes_nothing ends.Memory (replies c.args.pending c.args.now c.args.accepted.now.answer c.args.accepted.now.back) c.args.self.now _ c.requires.serving.is_open refl refl refl
    (stops_behind g.D.Disk.view Memory c.args.self.now.kept k k looks (memory_looks g.D.Disk.view k (c.recovers-2.ensures.survives looks.is_open))))

pub returns-in_err-response-clause-breaks : goal.returns-in_err-response-clause-breaks
returns-in_err-response-clause-breaks g c =
    let p = err_from_is_err_and c.from_residual.result c.from_residual.ensures.1 in
    rw (p.1, p.2) (memory_stops g.D.Disk.view g.K.Sink.takes g.K.Sink.fails g.K.Sink.faults g.L.Link.story g.L.Link.counts g.met.K.Sink.takes_nothing (replies c.args.pending c.args.now c.args.accepted.now.answer c.args.accepted.now.back) c.args.self.now _ c.requires.serving.is_open refl refl refl refl (c.recovers.ensures.survives c.requires.serving.is_open))
