use Rattle.std.proofs.Common.{ℕ, ◌+◌, ◌<◌, IsTrue, IfSome, Option, List, refl, sym, ◌∙◌, subst, arith}
use Rattle.std.proofs.lemmas.Result.{err_from_is_err_and}
use Rattle.oc_journal.specs.declared.extent.Extent.{Extent}
use Rattle.oc_io.proofs.DiskMoments.{still_honest, StaysAsItWas-then, StaysAsItWas-none}
use Rattle.oc_journal.specs.Scanning.{IsGate, IsBrokenAt, IsScanned}
use Rattle.oc_journal.proofs.Gates.{IsGate-earlier, IsScanned-start, IsScanned-more, IsFound-shut, IsNoJournal-broken}
use Rattle.oc_journal.proofs.LoadRuns.{same_error}
use Rattle.oc_journal.proofs.loading.find_frames.Goals as goal

pub loop-extents-init : goal.loop-extents-init
loop-extents-init g c =
    let v = g.D.Disk.view c.args.disk.now in
    record {
      scanned = IsScanned-start v c.new-extents.result.items c.new-extents.ensures.items (omega (arith, c.requires.size, c.requires.long)) c.requires.magic;
      stays = StaysAsItWas-none v;
      no_fault = refl;
      size = refl;
    }

-- the gate that was read is one of the old file
pub loop-extents-preserved : goal.loop-extents-preserved
loop-extents-preserved g c =
    let u = g.D.Disk.view c.args.disk.now in
    let v = g.D.Disk.view c.loop-extents.disk in
    let w = g.D.Disk.view c.read_gate.new.disk in
    let so_far = c.loop-extents.invariant in
    let law = λ (h : IsTrue u.honest). g.met.D.Disk.consistent c.args.disk.now h in
    let gate = IsGate-earlier u v c.loop-extents.gate _ so_far.stays c.in_ok-len.ensures.gate in
    let found = subst (λ (o : Option ℕ). IsTrue u.honest → IsGate u.seen c.loop-extents.gate o) c.in-Some.is gate in
    let whole = subst (λ (o : Option ℕ). IfSome o (λ len. c.loop-extents.gate + 5 + len < c.args.size)) c.in-Some.is c.in_ok-len.ensures.whole in
    record {
      scanned = subst (λ (s : List Extent). IsScanned u s (c.loop-extents.gate + 5 + c.from.result)) (sym c.in_ok-push.ensures.items)
          (IsScanned-more u c.loop-extents.extents.items c.loop-extents.gate c.in-Some.len c.args.size (c.loop-extents.gate + 5 + c.from.result) so_far.scanned (λ h. (law h).size) (omega arith) c.requires.size whole found (omega (arith, c.from.ensures)));
      stays = StaysAsItWas-then u v w law so_far.stays c.in_ok-len.ensures.stays;
      no_fault = c.in_ok-len.ensures.no_fault ∙ so_far.no_fault;
      size = c.in_ok-len.ensures.size ∙ so_far.size;
    }

pub returns-clause-found : goal.returns-clause-found
returns-clause-found g c =
    let u = g.D.Disk.view c.args.disk.now in
    let v = g.D.Disk.view c.loop-extents.disk in
    let so_far = c.loop-extents.invariant in
    let gate = IsGate-earlier u v c.loop-extents.gate _ so_far.stays c.in_ok-len.ensures.gate in
    let shut = subst (λ (o : Option ℕ). IsTrue u.honest → IsGate u.seen c.loop-extents.gate o) c.in_default.is gate in
    IsFound-shut u c.loop-extents.extents.items c.loop-extents.gate so_far.scanned (λ h. (g.met.D.Disk.consistent c.args.disk.now h).size) shut

pub returns-in_err-len-clause-not_journal : goal.returns-in_err-len-clause-not_journal
returns-in_err-len-clause-not_journal g c =
    let u = g.D.Disk.view c.args.disk.now in
    let v = g.D.Disk.view c.loop-extents.disk in
    let so_far = c.loop-extents.invariant in
    let p = err_from_is_err_and c.from_residual.result c.from_residual.ensures.1 in
    rw (p.1, p.2) (λ is honest.
    let law = g.met.D.Disk.consistent c.args.disk.now honest in
    let broken = c.in_err-len.ensures.not_journal (same_error _ _ is) (still_honest u v so_far.stays.goes_on honest) in
    IsNoJournal-broken u c.loop-extents.extents.items c.loop-extents.gate so_far.scanned law.size (omega (arith, c.requires.size, c.requires.long)) honest (subst (λ (file : List ℕ). IsBrokenAt file c.loop-extents.gate) (so_far.stays.seen honest) broken))
