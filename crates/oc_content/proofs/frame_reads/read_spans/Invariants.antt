use Rattle.std.proofs.Common.{◌≡◌, ◌-◌, ◌<◌, ◌≤◌, ◌++◌, IsTrue, length, take, drop, flat_map}
use Rattle.oc_journal.specs.Promises.{OnlyReads, NoneFailed}
use Rattle.oc_base.specs.declared.limits.TheConstants.{MAX_GROUP_BYTES}
use Rattle.oc_content.specs.Indexes.{bytes_at}
use Rattle.oc_content.specs.Founds.{BeginsWithin}
use Rattle.oc_content.proofs.frame_reads.read_spans.Given as goal

-- the bytes read so far, and those of the spans to come, are the whole
abbrev pub invariant-loop-span : goal.invariant-loop-span
invariant-loop-span g l = record {
  within : l.count ≤ length l.buf;
  skip : l.skip < MAX_GROUP_BYTES;
  begins : BeginsWithin l.fn.journal.frames l.fn.skip l.spans → BeginsWithin l.fn.journal.frames l.skip (drop l.span-index l.spans);
  whole : IsTrue (g.D.Disk.view l.fn.journal.disk).honest → BeginsWithin l.fn.journal.frames l.fn.skip l.spans → take l.count l.buf ++ take (length l.buf - l.count) (drop l.skip (flat_map (bytes_at l.fn.journal.frames) (drop l.span-index l.spans))) ≡ take (length l.buf) (drop l.fn.skip (flat_map (bytes_at l.fn.journal.frames) l.spans));
  same : OnlyReads g.D.Disk.view l.fn.journal l.journal;
  none_failed : NoneFailed g.D.Disk.view l.fn.journal l.journal;
}
