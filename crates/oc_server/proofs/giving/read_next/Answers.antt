use Rattle.std.proofs.lemmas.Result.{err_from_is_err_and}
use Rattle.oc_server.proofs.Looking.{memory_looks}
use Rattle.oc_server.proofs.giving.read_next.Goals as goal

pub returns-in_err-buffer-clause-stops : goal.returns-in_err-buffer-clause-stops
returns-in_err-buffer-clause-stops g c =
    let p = err_from_is_err_and c.from_residual.result c.from_residual.ensures.1 in
    rw (p.1, p.2) (memory_looks g.D.Disk.view c.args.kept.now (c.recovers.ensures.survives c.requires))
