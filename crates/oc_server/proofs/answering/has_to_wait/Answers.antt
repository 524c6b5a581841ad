use Rattle.oc_server.proofs.Looking.{looks_none}
use Rattle.oc_server.proofs.answering.has_to_wait.Goals as goal

pub returns-in_default-clause-looks : goal.returns-in_default-clause-looks
returns-in_default-clause-looks g c = looks_none g.D.Disk.view c.args.kept.now c.requires.open
