use Rattle.std.proofs.Common.{inr}
use Rattle.oc_client.specs.Conversations.{Converses}
use Rattle.oc_client.specs.Downloads.{Downloads, first_state, content_of}
use Rattle.oc_client.specs.Wishes.{whole}
use Rattle.oc_client.proofs.Fetched.{unasked_talked, talked_so, told_completes, unasked_so}
use Rattle.oc_client.proofs.Redirected.{talked_third}
use Rattle.oc_client.proofs.download.get.Goals as goal

pub returns-in-Ok-clause-talked : goal.returns-in-Ok-clause-talked
returns-in-Ok-clause-talked g c =
    talked_so g.K.Sink.takes g.K.Sink.fails (Converses (whole c.args.manner.now) (first_state c.args.manner.now.from c.in-Ok.url 1)) (Downloads (content_of c.args.manner.now) c.args.manner.now.from c.args.address.now 1) (g.L.Dialler.story c.args.link.now) (g.L.Dialler.story c.download.new.link) c.args.sink.now c.download.new.sink c.download.result
    (λ turns written so. inr (c.in-Ok.url, c.in-Ok.ensures.good, so)) c.download.ensures.talked

pub returns-in-Ok-clause-bad : goal.returns-in-Ok-clause-bad
returns-in-Ok-clause-bad g c = λ bad. absurd (bad c.in-Ok.url c.in-Ok.ensures.good)

pub returns-in-Ok-clause-complete : goal.returns-in-Ok-clause-complete
returns-in-Ok-clause-complete g c = λ url is.
    told_completes g.K.Sink.takes g.K.Sink.fails c.a_response_head_has_one_answer.ensures c.args.manner.now c.args.address.now url c.download.result (g.L.Dialler.story c.args.link.now) (g.L.Dialler.story c.download.new.link) c.args.sink.now c.download.new.sink is
    (talked_so g.K.Sink.takes g.K.Sink.fails (Converses (whole c.args.manner.now) (first_state c.args.manner.now.from c.in-Ok.url 1)) (Downloads (content_of c.args.manner.now) c.args.manner.now.from c.args.address.now 1) (g.L.Dialler.story c.args.link.now) (g.L.Dialler.story c.download.new.link) c.args.sink.now c.download.new.sink c.download.result
    (λ turns written so. inr (c.in-Ok.url, c.in-Ok.ensures.good, so)) c.download.ensures.talked)

pub returns-in-Err-clause-talked : goal.returns-in-Err-clause-talked
returns-in-Err-clause-talked g c =
    unasked_talked g.K.Sink.takes g.K.Sink.fails g.met.K.Sink.takes_nothing (content_of c.args.manner.now) c.args.manner.now.from c.args.address.now 1 (g.L.Dialler.story c.args.link.now) c.args.sink.now c.unasked.result
    (unasked_so c.args.address.now c.in-Err.fault c.unasked.result c.unasked.ensures c.in-Err.ensures.bad)

pub returns-in-Err-clause-bad : goal.returns-in-Err-clause-bad
returns-in-Err-clause-bad g c = λ bad. unasked_so c.args.address.now c.in-Err.fault c.unasked.result c.unasked.ensures c.in-Err.ensures.bad

pub returns-in-Err-clause-complete : goal.returns-in-Err-clause-complete
returns-in-Err-clause-complete g c = λ url is.
    told_completes g.K.Sink.takes g.K.Sink.fails c.a_response_head_has_one_answer.ensures c.args.manner.now c.args.address.now url c.unasked.result (g.L.Dialler.story c.args.link.now) (g.L.Dialler.story c.args.link.now) c.args.sink.now c.args.sink.now is
    (unasked_talked g.K.Sink.takes g.K.Sink.fails g.met.K.Sink.takes_nothing (content_of c.args.manner.now) c.args.manner.now.from c.args.address.now 1 (g.L.Dialler.story c.args.link.now) c.args.sink.now c.unasked.result
    (unasked_so c.args.address.now c.in-Err.fault c.unasked.result c.unasked.ensures c.in-Err.ensures.bad))

pub returns-in-Ok-clause-redirects : goal.returns-in-Ok-clause-redirects
returns-in-Ok-clause-redirects g c =
    talked_third g.K.Sink.takes g.K.Sink.fails c.a_response_head_has_one_answer.ensures (content_of c.args.manner.now) c.args.manner.now.from c.args.address.now 1 (g.L.Dialler.story c.args.link.now) (g.L.Dialler.story c.download.new.link) c.args.sink.now c.download.new.sink c.download.result
    (talked_so g.K.Sink.takes g.K.Sink.fails (Converses (whole c.args.manner.now) (first_state c.args.manner.now.from c.in-Ok.url 1)) (Downloads (content_of c.args.manner.now) c.args.manner.now.from c.args.address.now 1) (g.L.Dialler.story c.args.link.now) (g.L.Dialler.story c.download.new.link) c.args.sink.now c.download.new.sink c.download.result
    (λ turns written so. inr (c.in-Ok.url, c.in-Ok.ensures.good, so)) c.download.ensures.talked)

pub returns-in-Err-clause-redirects : goal.returns-in-Err-clause-redirects
returns-in-Err-clause-redirects g c =
    talked_third g.K.Sink.takes g.K.Sink.fails c.a_response_head_has_one_answer.ensures (content_of c.args.manner.now) c.args.manner.now.from c.args.address.now 1 (g.L.Dialler.story c.args.link.now) (g.L.Dialler.story c.args.link.now) c.args.sink.now c.args.sink.now c.unasked.result
    (unasked_talked g.K.Sink.takes g.K.Sink.fails g.met.K.Sink.takes_nothing (content_of c.args.manner.now) c.args.manner.now.from c.args.address.now 1 (g.L.Dialler.story c.args.link.now) c.args.sink.now c.unasked.result
    (unasked_so c.args.address.now c.in-Err.fault c.unasked.result c.unasked.ensures c.in-Err.ensures.bad))
