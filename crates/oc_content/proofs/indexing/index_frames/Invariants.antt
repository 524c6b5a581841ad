use Rattle.oc_journal.specs.Promises.{OnlyReads, NoneFailed}
use Rattle.oc_content.specs.ContentView.{IsIndexedTo}
use Rattle.oc_content.proofs.indexing.index_frames.Given as goal

-- the index is that of the frames so far, and the journal was only read
abbrev pub invariant-loop-number : goal.invariant-loop-number
invariant-loop-number g l = record {
  indexed : IsIndexedTo g.D.Disk.view l.fn.journal l.index l.number;
  same : OnlyReads g.D.Disk.view l.fn.journal l.journal;
  none_failed : NoneFailed g.D.Disk.view l.fn.journal l.journal;
}
