use Rattle.oc_server.proofs.Looking.{looks_none}
use Rattle.oc_server.proofs.giving.first_piece.Goals as goal

pub returns-in-None-clause-looks : goal.returns-in-None-clause-looks
returns-in-None-clause-looks g c = looks_none g.D.Disk.view c.args.kept.now c.requires
