use Rattle.std.proofs.Common.{inr, subst}
use Rattle.oc_client.specs.Conversations.{Converses}
use Rattle.oc_client.specs.Downloads.{Downloads, first_state, news_of}
use Rattle.oc_client.specs.Wishes.{Wish, wish_of, from_of}
use Rattle.oc_client.specs.declared.end.GetEnd.TheVariants.{Memory}
use Rattle.oc_client.proofs.Fetched.{unasked_talked, talked_so, unasked_so}
use Rattle.oc_client.proofs.Redirected.{talked_third}
use Rattle.oc_client.proofs.download.follow.Goals as goal

pub returns-in-Ok-news-clause-talked : goal.returns-in-Ok-news-clause-talked
returns-in-Ok-news-clause-talked g c =
    let from = first_state (from_of (wish_of c.in-Ok-news.wish)) c.in-Ok.url c.args.times in
    talked_so g.K.Sink.takes g.K.Sink.fails (Converses (wish_of c.in-Ok-news.wish) from) (Downloads (news_of c.args.manner.now) c.args.manner.now.from c.args.address.now c.args.times) (g.L.Dialler.story c.args.link.now) (g.L.Dialler.story c.download.new.link) c.args.sink.now c.download.new.sink c.download.result
    (λ turns written so. inr (c.in-Ok.url, c.in-Ok.ensures.good, subst (λ (w : Wish). Converses w (first_state (from_of w) c.in-Ok.url c.args.times) turns written c.download.result) c.in-Ok-news.ensures so)) c.download.ensures.talked

pub returns-in-Err-clause-talked : goal.returns-in-Err-clause-talked
returns-in-Err-clause-talked g c =
    unasked_talked g.K.Sink.takes g.K.Sink.fails g.met.K.Sink.takes_nothing (news_of c.args.manner.now) c.args.manner.now.from c.args.address.now c.args.times (g.L.Dialler.story c.args.link.now) c.args.sink.now c.unasked.result
    (unasked_so c.args.address.now c.in-Err.fault c.unasked.result c.unasked.ensures c.in-Err.ensures.bad)

pub returns-in-Err-clause-bad : goal.returns-in-Err-clause-bad
returns-in-Err-clause-bad g c = λ bad. unasked_so c.args.address.now c.in-Err.fault c.unasked.result c.unasked.ensures c.in-Err.ensures.bad

pub returns-in-Err-news-clause-talked : goal.returns-in-Err-news-clause-talked
returns-in-Err-news-clause-talked g c =
    unasked_talked g.K.Sink.takes g.K.Sink.fails g.met.K.Sink.takes_nothing (news_of c.args.manner.now) c.args.manner.now.from c.args.address.now c.args.times (g.L.Dialler.story c.args.link.now) c.args.sink.now Memory tt

pub returns-in-Ok-news-clause-redirects : goal.returns-in-Ok-news-clause-redirects
returns-in-Ok-news-clause-redirects g c =
    let from = first_state (from_of (wish_of c.in-Ok-news.wish)) c.in-Ok.url c.args.times in
    talked_third g.K.Sink.takes g.K.Sink.fails c.a_response_head_has_one_answer.ensures (news_of c.args.manner.now) c.args.manner.now.from c.args.address.now c.args.times (g.L.Dialler.story c.args.link.now) (g.L.Dialler.story c.download.new.link) c.args.sink.now c.download.new.sink c.download.result
    (talked_so g.K.Sink.takes g.K.Sink.fails (Converses (wish_of c.in-Ok-news.wish) from) (Downloads (news_of c.args.manner.now) c.args.manner.now.from c.args.address.now c.args.times) (g.L.Dialler.story c.args.link.now) (g.L.Dialler.story c.download.new.link) c.args.sink.now c.download.new.sink c.download.result
    (λ turns written so. inr (c.in-Ok.url, c.in-Ok.ensures.good, subst (λ (w : Wish). Converses w (first_state (from_of w) c.in-Ok.url c.args.times) turns written c.download.result) c.in-Ok-news.ensures so)) c.download.ensures.talked)

pub returns-in-Err-clause-redirects : goal.returns-in-Err-clause-redirects
returns-in-Err-clause-redirects g c =
    talked_third g.K.Sink.takes g.K.Sink.fails c.a_response_head_has_one_answer.ensures (news_of c.args.manner.now) c.args.manner.now.from c.args.address.now c.args.times (g.L.Dialler.story c.args.link.now) (g.L.Dialler.story c.args.link.now) c.args.sink.now c.args.sink.now c.unasked.result
    (unasked_talked g.K.Sink.takes g.K.Sink.fails g.met.K.Sink.takes_nothing (news_of c.args.manner.now) c.args.manner.now.from c.args.address.now c.args.times (g.L.Dialler.story c.args.link.now) c.args.sink.now c.unasked.result
    (unasked_so c.args.address.now c.in-Err.fault c.unasked.result c.unasked.ensures c.in-Err.ensures.bad))

pub returns-in-Err-news-clause-redirects : goal.returns-in-Err-news-clause-redirects
returns-in-Err-news-clause-redirects g c =
    talked_third g.K.Sink.takes g.K.Sink.fails c.a_response_head_has_one_answer.ensures (news_of c.args.manner.now) c.args.manner.now.from c.args.address.now c.args.times (g.L.Dialler.story c.args.link.now) (g.L.Dialler.story c.args.link.now) c.args.sink.now c.args.sink.now Memory
    (unasked_talked g.K.Sink.takes g.K.Sink.fails g.met.K.Sink.takes_nothing (news_of c.args.manner.now) c.args.manner.now.from c.args.address.now c.args.times (g.L.Dialler.story c.args.link.now) c.args.sink.now Memory tt)
