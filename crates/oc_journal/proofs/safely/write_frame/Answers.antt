use Rattle.std.proofs.Common.{ℕ, IsTrue, ◌≡◌, ◌+◌, [], ◌∷◌, ◌++◌, length, take, sym, ◌∙◌, ap, subst, arith}
use Rattle.std.proofs.lemmas.List.{take-take}
use Rattle.std.proofs.lemmas.Result.{err_from_is_err_and}
use Rattle.oc_io.specs.DiskView.{DiskView, Holds, IsTorn}
use Rattle.oc_io.proofs.DiskMoments.{LeavesOnly-weaker, LeavesOnly-then, still_honest}
use Rattle.oc_journal.specs.JournalFile.{frames_of, IsBeforeOrAfter}
use Rattle.oc_journal.proofs.Blocks.{frames_of-ended}
use Rattle.oc_journal.proofs.Writes.{both, ok_pair, IsSettled-from, behind_torn, gate_torn, gate_ends, gate_body, torn_seen}
use Rattle.oc_journal.proofs.safely.write_frame.Goals as goal

-- the bytes before the range of a torn write
before_range : (v w : DiskView) (end at n : ℕ) → at ≡ end + 1 → IsTorn at n v.seen w.seen → take end w.seen ≡ take end v.seen
before_range v w end at n is torn =
    sym (take-take end at w.seen (omega arith)) ∙ ap (take end) torn.before ∙ take-take end at v.seen (omega arith)

-- the first write, complete or torn, does not change the bytes before the gate
pub returns-in_err-write_safely-clause-front : goal.returns-in_err-write_safely-clause-front
returns-in_err-write_safely-clause-front g c = λ honest.
    let v = g.D.Disk.view c.args.disk.now in
    let m = g.D.Disk.view c.write_safely.new.disk in
    let law = g.met.D.Disk.consistent c.write_safely.new.disk (still_honest v m c.write_safely.ensures.takes.goes_on honest) in
    let run = c.write_safely.ensures.any_moment honest (c.requires.settled honest).safe in
    before_range v m c.args.end (c.args.end + 1) (length c.bytes.result.now) (omega arith) (torn_seen v m _ _ run law)

pub returns-in_err-write_safely-clause-any_moment : goal.returns-in_err-write_safely-clause-any_moment
returns-in_err-write_safely-clause-any_moment g c = λ honest.
    let v = g.D.Disk.view c.args.disk.now in
    let m = g.D.Disk.view c.write_safely.new.disk in
    let s = c.requires.settled honest in
    let n = length c.bytes.result.now in
    LeavesOnly-weaker v m (IsTorn (c.args.end + 1) n v.seen) (IsBeforeOrAfter (frames_of v.seen) c.args.frame.now) (behind_torn v m m c.args.end c.args.frame.now s c.bytes.ensures.short n) (c.write_safely.ensures.any_moment honest s.safe)

pub returns-clause-front : goal.returns-clause-front
returns-clause-front g c = λ honest.
    let v = g.D.Disk.view c.args.disk.now in
    let m = g.D.Disk.view c.write_safely.new.disk in
    let w = g.D.Disk.view c.write_safely-2.new.disk in
    let honest_m = still_honest v m c.write_safely.ensures.takes.goes_on honest in
    let honest_w = still_honest m w c.write_safely-2.ensures.takes.goes_on honest_m in
    let run = c.write_safely.ensures.any_moment honest (c.requires.settled honest).safe in
    let run_2 = c.write_safely-2.ensures.any_moment honest_m (c.in_ok-write_safely.ensures.safe honest) in
    (torn_seen m w c.args.end 1 run_2 (g.met.D.Disk.consistent c.write_safely-2.new.disk honest_w)).before
    ∙ before_range v m c.args.end (c.args.end + 1) (length c.bytes.result.now) (omega arith) (torn_seen v m _ _ run (g.met.D.Disk.consistent c.write_safely.new.disk honest_m))

pub returns-clause-any_moment : goal.returns-clause-any_moment
returns-clause-any_moment g c = λ honest.
    let v = g.D.Disk.view c.args.disk.now in
    let m = g.D.Disk.view c.write_safely.new.disk in
    let w = g.D.Disk.view c.write_safely-2.new.disk in
    let s = c.requires.settled honest in
    let body = c.args.frame.now in
    let n = length c.bytes.result.now in
    let P = IsBeforeOrAfter (frames_of v.seen) body in
    let honest_m = still_honest v m c.write_safely.ensures.takes.goes_on honest in
    let behind = subst (λ bytes. Holds v.seen (c.args.end + 1) bytes m.seen) c.bytes.ensures.bytes (c.in_ok-write_safely.ensures.written honest) in
    let first = LeavesOnly-weaker v m (IsTorn (c.args.end + 1) n v.seen) P (behind_torn v m w c.args.end body s c.bytes.ensures.short n) (c.write_safely.ensures.any_moment honest s.safe) in
    let second = LeavesOnly-weaker m w (IsTorn c.args.end 1 m.seen) P (gate_torn v m w c.args.end body s c.bytes.ensures.short behind) (c.write_safely-2.ensures.any_moment honest_m (c.in_ok-write_safely.ensures.safe honest)) in
    LeavesOnly-then v m w P first second

pub returns-clause-adds : goal.returns-clause-adds
returns-clause-adds g c =
    let v = g.D.Disk.view c.args.disk.now in
    let m = g.D.Disk.view c.write_safely.new.disk in
    let w = g.D.Disk.view c.write_safely-2.new.disk in
    let body = c.args.frame.now in
    let e = c.write_safely-2.ensures in
    let r = c.write_safely-2.result in
    let honest_m = λ (honest : IsTrue v.honest). still_honest v m c.write_safely.ensures.takes.goes_on honest in
    let behind = λ (honest : IsTrue v.honest). subst (λ bytes. Holds v.seen (c.args.end + 1) bytes m.seen) c.bytes.ensures.bytes (c.in_ok-write_safely.ensures.written honest) in
    both r (λ w1 w2. record {
      settled = λ honest. IsSettled-from w (frames_of v.seen ++ body ∷ []) (c.args.end + 5 + length body) (gate_ends v m w c.args.end body (c.requires.settled honest) c.bytes.ensures.short (behind honest) (w1.0 (honest_m honest))) (w1.1 (honest_m honest));
      added = λ honest. frames_of-ended w.seen (frames_of v.seen ++ body ∷ []) (c.args.end + 5 + length body) (gate_ends v m w c.args.end body (c.requires.settled honest) c.bytes.ensures.short (behind honest) (w1.0 (honest_m honest)));
      body_there = λ honest. gate_body v m w c.args.end body (c.requires.settled honest) c.bytes.ensures.short (behind honest) (w1.0 (honest_m honest));
      four = λ honest. omega (arith, w2.0 (honest_m honest), c.in_ok-write_safely.ensures.turns honest);
      no_fault = w2.1 ∙ c.in_ok-write_safely.ensures.no_fault;
    }) (ok_pair _ _ r e.written e.safe) (ok_pair _ _ r e.turns e.no_fault)

pub returns-in_err-write_safely-clause-adds : goal.returns-in_err-write_safely-clause-adds
returns-in_err-write_safely-clause-adds g c =
    let p = err_from_is_err_and c.from_residual.result c.from_residual.ensures.1 in
    rw p.1 tt

pub returns-in_err-write_safely-clause-size : goal.returns-in_err-write_safely-clause-size
returns-in_err-write_safely-clause-size g c =
    let p = err_from_is_err_and c.from_residual.result c.from_residual.ensures.1 in
    rw p.1 tt

pub returns-in_err-write_safely-clause-no_smaller : goal.returns-in_err-write_safely-clause-no_smaller
returns-in_err-write_safely-clause-no_smaller g c = c.write_safely.ensures.no_smaller

pub returns-clause-no_smaller : goal.returns-clause-no_smaller
returns-clause-no_smaller g c = omega (arith, c.write_safely.ensures.no_smaller, c.write_safely-2.ensures.no_smaller)
