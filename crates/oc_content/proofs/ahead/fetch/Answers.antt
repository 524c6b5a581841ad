use Rattle.oc_content.proofs.Views.{IsIndexed-sized}
use Rattle.oc_content.proofs.ahead.fetch.Goals as goal

pub held-requires : goal.held-requires
held-requires g c = (IsIndexed-sized g.D.Disk.view c.args.journal.now c.args.index.now c.requires.indexed).ascending
