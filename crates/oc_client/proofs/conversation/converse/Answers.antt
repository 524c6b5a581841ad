use Rattle.oc_client.specs.Conversations.{Converses}
use Rattle.oc_client.specs.Wishes.{wish_of}
use Rattle.oc_client.specs.declared.end.GetEnd.TheVariants.{Done}
use Rattle.oc_client.proofs.Talked.{hung_talked}
use Rattle.oc_client.proofs.conversation.converse.Goals as goal

pub returns-in-Ok-clause-talked : goal.returns-in-Ok-clause-talked
returns-in-Ok-clause-talked g c =
    hung_talked g.K.Sink.takes g.K.Sink.fails (Converses (wish_of c.args.wish.now) c.args.state) (g.L.Dialler.story c.args.link.now) (g.L.Dialler.story c.talk-talked.new.link) (g.L.Dialler.story c.hang_up.new.self) c.args.sink.now c.talk-talked.new.sink Done c.hang_up.ensures.story (rw c.in-Ok.is at c.talk-talked.ensures.through)

pub returns-in-Err-clause-talked : goal.returns-in-Err-clause-talked
returns-in-Err-clause-talked g c =
    hung_talked g.K.Sink.takes g.K.Sink.fails (Converses (wish_of c.args.wish.now) c.args.state) (g.L.Dialler.story c.args.link.now) (g.L.Dialler.story c.talk-talked.new.link) (g.L.Dialler.story c.hang_up.new.self) c.args.sink.now c.talk-talked.new.sink c.in-Err.end c.hang_up.ensures.story (rw c.in-Err.is at c.talk-talked.ensures.ended)
