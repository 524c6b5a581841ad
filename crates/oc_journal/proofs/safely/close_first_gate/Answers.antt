use Rattle.std.proofs.Common.{[]}
use Rattle.oc_io.specs.DiskView.{IsTorn}
use Rattle.oc_io.proofs.DiskMoments.{LeavesOnly-weaker, still_honest}
use Rattle.oc_journal.specs.JournalFile.{frames_of, IsAllOrNone}
use Rattle.oc_journal.proofs.Blocks.{frames_of-ended}
use Rattle.oc_journal.proofs.Writes.{both, ok_pair, IsSettled-from, closing_torn, closing_ends, torn_seen}
use Rattle.oc_journal.proofs.safely.close_first_gate.Goals as goal

pub returns-clause-clears : goal.returns-clause-clears
returns-clause-clears g c =
    let v = g.D.Disk.view c.args.disk.now in
    let w = g.D.Disk.view c.write_safely.new.disk in
    let e = c.write_safely.ensures in
    let r = c.write_safely.result in
    both r (λ w1 w2. record {
      settled = λ honest. let s = c.requires.settled honest in IsSettled-from w [] 8 (closing_ends v w s.0 s.1 s.2 (w1.0 honest)) (w1.1 honest);
      none = λ honest. let s = c.requires.settled honest in frames_of-ended w.seen [] 8 (closing_ends v w s.0 s.1 s.2 (w1.0 honest));
      two = w2.0;
      no_fault = w2.1;
    }) (ok_pair _ _ r e.written e.safe) (ok_pair _ _ r e.turns e.no_fault)

-- a read gives the old file with the gate torn
pub returns-clause-behind : goal.returns-clause-behind
returns-clause-behind g c = λ honest.
    let v = g.D.Disk.view c.args.disk.now in
    let w = g.D.Disk.view c.write_safely.new.disk in
    let law = g.met.D.Disk.consistent c.write_safely.new.disk (still_honest v w c.write_safely.ensures.takes.goes_on honest) in
    (torn_seen v w 8 1 (c.write_safely.ensures.any_moment honest (c.requires.settled honest).1.safe) law).after

pub returns-clause-any_moment : goal.returns-clause-any_moment
returns-clause-any_moment g c = λ honest.
    let v = g.D.Disk.view c.args.disk.now in
    let w = g.D.Disk.view c.write_safely.new.disk in
    let s = c.requires.settled honest in
    LeavesOnly-weaker v w (IsTorn 8 1 v.seen) (IsAllOrNone (frames_of v.seen)) (closing_torn v w s.0 s.1 s.2) (c.write_safely.ensures.any_moment honest s.1.safe)
