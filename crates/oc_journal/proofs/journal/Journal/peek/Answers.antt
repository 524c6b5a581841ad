use Rattle.std.proofs.Common.{ℕ, ◌≡◌, ◌+◌, IsTrue, List, [], take, drop, get_or, refl, sym, ◌∙◌, ap, subst, arith}
use Rattle.std.proofs.lemmas.List.{get_or-map}
use Rattle.oc_journal.specs.JournalView.{JournalView, at_extent}
use Rattle.oc_journal.proofs.Extents.{peeked}
use Rattle.oc_journal.proofs.ReadRuns.{OnlyReads-none, NoneFailed-none}
use Rattle.oc_journal.proofs.OneRead.{OnlyReads-read, IsIndexed-read, IsIndexed-closed}
use Rattle.oc_journal.proofs.journal.Journal.peek.Goals as goal

pub returns-clause-bytes : goal.returns-clause-bytes
returns-clause-bytes g c = λ honest.
    let inside = subst (λ (j : JournalView g.row.D.Denot). IsTrue (g.D.Disk.view j.disk).honest) (sym c.self.view_is) honest in
    let file = (g.D.Disk.view c.self.inside.disk).seen in
    let extent = c.index-extent.result.now in
    let n = c.in-Ok.count in
    let frames = ap (λ (j : JournalView g.row.D.Denot). j.frames) c.self.view_is in
    let body : get_or c.args.self.now.frames c.args.index [] ≡ at_extent file extent = ap (λ (fs : List (List ℕ)). get_or fs c.args.index []) (sym frames) ∙ get_or-map (at_extent file) c.self.inside.extents.items c.args.index extent [] (omega (arith, c.if-index-len.false, c.len.ensures, c.self.inside.extents.ok.0)) ∙ ap (at_extent file) (sym c.index-extent.ensures) in
    c.in-Ok.ensures.bytes inside ∙ peeked file extent.at extent.len c.args.skip n (omega arith) (omega (arith, c.in-Ok.ensures.count, c.min-count.ensures))
    ∙ ap (λ (l : List ℕ). take n (drop c.args.skip l)) (sym body)

pub returns-then-index-len-clause-within : goal.returns-then-index-len-clause-within
returns-then-index-len-clause-within g c = omega arith

pub returns-then-index-len-clause-bytes : goal.returns-then-index-len-clause-bytes
returns-then-index-len-clause-bytes g c = λ _. refl

pub returns-then-index-len-clause-disk : goal.returns-then-index-len-clause-disk
returns-then-index-len-clause-disk g c = tt

pub returns-then-index-len-clause-none_failed : goal.returns-then-index-len-clause-none_failed
returns-then-index-len-clause-none_failed g c = NoneFailed-none g.D.Disk.view _

pub returns-then-index-len-clause-same : goal.returns-then-index-len-clause-same
returns-then-index-len-clause-same g c = OnlyReads-none g.D.Disk.view _

pub returns-then-index-len-clause-works : goal.returns-then-index-len-clause-works
returns-then-index-len-clause-works g c = λ _. refl

pub returns-then-skip-len-clause-within : goal.returns-then-skip-len-clause-within
returns-then-skip-len-clause-within g c = omega arith

pub returns-then-skip-len-clause-bytes : goal.returns-then-skip-len-clause-bytes
returns-then-skip-len-clause-bytes g c = λ _. refl

pub returns-then-skip-len-clause-disk : goal.returns-then-skip-len-clause-disk
returns-then-skip-len-clause-disk g c = tt

pub returns-then-skip-len-clause-none_failed : goal.returns-then-skip-len-clause-none_failed
returns-then-skip-len-clause-none_failed g c = NoneFailed-none g.D.Disk.view _

pub returns-then-skip-len-clause-same : goal.returns-then-skip-len-clause-same
returns-then-skip-len-clause-same g c = OnlyReads-none g.D.Disk.view _

pub returns-then-skip-len-clause-works : goal.returns-then-skip-len-clause-works
returns-then-skip-len-clause-works g c = λ _. refl

pub invariant_of-self : goal.invariant_of-self
invariant_of-self g c = IsIndexed-read (g.D.Disk.view c.self.inside.disk) (g.D.Disk.view c.read_part.new.disk) c.self.inside.extents.items c.self.inside.end c.self.inside.closed c.self.invariant c.read_part.ensures.stays c.read_part.ensures.size

pub invariant_of-self-in_default : goal.invariant_of-self-in_default
invariant_of-self-in_default g c = IsIndexed-closed (g.D.Disk.view c.self.inside.disk) (g.D.Disk.view c.read_part.new.disk) c.self.inside.extents.items c.self.inside.end c.self.inside.closed c.self.invariant c.read_part.ensures.stays c.read_part.ensures.size

pub returns-in_default-clause-within : goal.returns-in_default-clause-within
returns-in_default-clause-within g c = tt

pub returns-in_default-clause-count : goal.returns-in_default-clause-count
returns-in_default-clause-count g c = tt

pub returns-in_default-clause-bytes : goal.returns-in_default-clause-bytes
returns-in_default-clause-bytes g c = tt

pub returns-in_default-clause-none_failed : goal.returns-in_default-clause-none_failed
returns-in_default-clause-none_failed g c = tt

pub returns-in_default-clause-disk : goal.returns-in_default-clause-disk
returns-in_default-clause-disk g c = rw (← c.self.view_is) (record { fails = c.in_default.ensures.fails; closes = refl })

pub returns-in_default-clause-works : goal.returns-in_default-clause-works
returns-in_default-clause-works g c =
    λ reliable. absurd (c.in_default.ensures.fails.unsure (record { reliable = subst (λ (j : JournalView g.row.D.Denot). IsTrue (g.D.Disk.view j.disk).reliable) (sym c.self.view_is) reliable; room = omega arith; calls = omega arith }))

pub returns-in_default-clause-same : goal.returns-in_default-clause-same
returns-in_default-clause-same g c = rw (← c.self.view_is) (OnlyReads-read g.D.Disk.view c.self.inside.disk c.read_part.new.disk c.self.inside.extents.items c.read_part.ensures.stays _ _ _ _)

pub returns-clause-within : goal.returns-clause-within
returns-clause-within g c = omega (arith, c.in-Ok.ensures.count, c.min-count.ensures)

pub returns-clause-disk : goal.returns-clause-disk
returns-clause-disk g c = tt

pub returns-clause-none_failed : goal.returns-clause-none_failed
returns-clause-none_failed g c = rw (← c.self.view_is) (record { closed = refl; no_fault = c.in-Ok.ensures.no_fault })

pub returns-clause-same : goal.returns-clause-same
returns-clause-same g c = rw (← c.self.view_is) (OnlyReads-read g.D.Disk.view c.self.inside.disk c.read_part.new.disk c.self.inside.extents.items c.read_part.ensures.stays _ _ _ _)

pub returns-clause-works : goal.returns-clause-works
returns-clause-works g c = λ _. refl
