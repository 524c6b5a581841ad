use Rattle.std.proofs.Common.{◌≤◌, IsTrue, length, [], arith, ap}
use Rattle.oc_io.specs.DiskView.{IsTorn}
use Rattle.oc_io.proofs.DiskMoments.{LeavesOnly-weaker}
use Rattle.oc_journal.specs.JournalView.{IsLikeAnImage}
use Rattle.oc_journal.specs.JournalFile.{frames_of}
use Rattle.oc_journal.proofs.Steps.{written_header}
use Rattle.oc_journal.proofs.Writes.{both, ok_pair, IsSettled-from, header_torn, header_seen}
use Rattle.oc_journal.proofs.safely.write_header.Goals as goal

pub returns-clause-begins : goal.returns-clause-begins
returns-clause-begins g c =
    let v = g.D.Disk.view c.args.disk.now in
    let w = g.D.Disk.view c.write_safely.new.disk in
    let e = c.write_safely.ensures in
    let r = c.write_safely.result in
    let small = λ (honest : IsTrue v.honest). let law = g.met.D.Disk.consistent c.args.disk.now honest in let short : length v.seen ≤ 9 = omega (arith, c.requires.size, law.size) in short in
    both r (λ w1 no_fault. record {
      seen = λ honest. header_seen v w (small honest) (w1.0 honest);
      settled = λ honest. IsSettled-from w [] 8 (written_header v.seen w.seen (small honest) (w1.0 honest)) (w1.1 honest);
      none = λ honest. ap frames_of (header_seen v w (small honest) (w1.0 honest));
      no_fault = no_fault;
    }) (ok_pair _ _ r e.written e.safe) e.no_fault

pub returns-clause-any_moment : goal.returns-clause-any_moment
returns-clause-any_moment g c = λ honest.
    let v = g.D.Disk.view c.args.disk.now in
    let w = g.D.Disk.view c.write_safely.new.disk in
    let law = g.met.D.Disk.consistent c.args.disk.now honest in
    LeavesOnly-weaker v w (IsTorn 0 9 v.seen) (IsLikeAnImage v) (header_torn v w (omega (arith, c.requires.size, law.size)) law) (c.write_safely.ensures.any_moment honest (c.requires.safe honest))
