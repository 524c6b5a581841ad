use Rattle.oc_server.proofs.server.Server.hears.Goals as goal

pub judged-requires-clause-rules : goal.judged-requires-clause-rules
judged-requires-clause-rules g c = c.requires.rules

pub judged-requires-clause-places : goal.judged-requires-clause-places
judged-requires-clause-places g c = c.requires.placed.count
