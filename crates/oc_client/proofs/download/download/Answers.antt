use Rattle.oc_client.specs.Downloads.{first_state}
use Rattle.oc_client.specs.Wishes.{wish_of, from_of}
use Rattle.oc_client.proofs.Fetched.{starved_talked}
use Rattle.oc_client.proofs.download.download.Goals as goal

pub returns-in-Err-clause-talked : goal.returns-in-Err-clause-talked
returns-in-Err-clause-talked g c =
    starved_talked g.K.Sink.takes g.K.Sink.fails g.met.K.Sink.takes_nothing (wish_of c.args.wish.now) (first_state (from_of (wish_of c.args.wish.now)) c.args.url c.args.times) (g.L.Dialler.story c.args.link.now) c.args.sink.now
