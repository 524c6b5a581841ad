use Rattle.std.proofs.Common.{◌≡◌, IsTrue, length}
use Rattle.oc_journal.specs.Promises.{OnlyReads, NoneFailed}
use Rattle.oc_model.specs.Lawful.{AreRecords}
use Rattle.oc_store.proofs.FrameReads.{IsRead}
use Rattle.oc_store.proofs.loading.read_all.Given as goal

-- the journal was only read, and so were the frames before the number
abbrev pub invariant-loop-number : goal.invariant-loop-number
invariant-loop-number g l = record {
  reads : OnlyReads g.D.Disk.view l.fn.journal l.journal;
  none_failed : NoneFailed g.D.Disk.view l.fn.journal l.journal;
  count : l.number-end ≡ length l.fn.journal.frames;
  lawful : AreRecords l.nodes l.list.items;
  so_far : IsTrue (g.D.Disk.view l.fn.journal.disk).honest → IsRead l.nodes l.fn.journal.frames l.list.items l.number;
}
