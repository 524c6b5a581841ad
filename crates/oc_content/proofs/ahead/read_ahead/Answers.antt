use Rattle.oc_content.proofs.Aheads.{chunk_read}
use Rattle.oc_content.proofs.Views.{IsIndexed-sized}
use Rattle.oc_content.proofs.ahead.read_ahead.Goals as goal

pub wanted-requires : goal.wanted-requires
wanted-requires g c = (IsIndexed-sized g.D.Disk.view c.args.journal.now c.args.index.now c.requires.indexed).ascending

pub returns-in-Ok-clause-ahead : goal.returns-in-Ok-clause-ahead
returns-in-Ok-clause-ahead g c =
    chunk_read g.D.Disk.view c.args.journal.now c.read_stretch.new.journal c.args.index.now c.in-Some.wanted c.in-Ok.bytes.items c.requires.indexed c.read_stretch.ensures.same c.in-Some.ensures.there c.in-Ok.ensures.long c.in-Ok.ensures.bytes
