use Rattle.std.proofs.Common.{◌≡◌, false, ℕ, List, refl, sym, subst, ◌∙◌, ap}
use Rattle.oc_io.specs.MemDiskView.{MemDiskView, disk_of, view_of, may_leave_seen}
use Rattle.oc_journal.specs.JournalFile.{frames_of, IsJournalOf, IsNoJournal}
use Rattle.oc_journal.specs.Stopped.{frames_after}
use Rattle.oc_store.specs.declared.errors.Side.{Side}
use Rattle.oc_store.specs.declared.errors.Side.TheVariants.{First, Second}
use Rattle.oc_store.specs.ControlFiles.{at_side}
use Rattle.oc_store.proofs.Turns.{IsCurrent, stopped_recovers}
use Rattle.oc_store.proofs.store.Store+MemDisk.commit_stopped.Goals as goal

pub returns-in-First-clause-frames : goal.returns-in-First-clause-frames
returns-in-First-clause-frames c =
    let s = c.self.inside in
    let i = c.self.invariant in
    let same : s.closed ≡ c.args.self.closed = rw (← c.self.view_is) refl in
    let is_open : s.closed ≡ false = same ∙ c.requires.open in
    let ordered = subst (λ (side : Side). IsCurrent side s.current.frames s.other.frames) c.in-First.is (i.ordered is_open refl refl) in
    let kept : frames_of s.other.disk.bytes ≡ s.other.frames = i.kept_other is_open refl s.other.disk.bytes (may_leave_seen s.other.disk.bytes s.other.disk.past) in
    let other : frames_of c.into_disk-other.result.bytes ≡ s.other.frames = ap (λ (d : MemDiskView). frames_of d.bytes) c.into_disk-other.ensures.disk ∙ kept in
    rw (← c.self.view_is) (stopped_recovers First c.append_stopped-stopped.result.bytes c.into_disk-other.result.bytes s.current.frames s.other.frames c.args.frame.now c.args.calls c.args.image ordered c.append_stopped-stopped.ensures.frames other)

pub returns-in-First-clause-kept : goal.returns-in-First-clause-kept
returns-in-First-clause-kept c =
    let s = c.self.inside in
    let i = c.self.invariant in
    let same : s.closed ≡ c.args.self.closed = rw (← c.self.view_is) refl in
    let is_open : s.closed ≡ false = same ∙ c.requires.open in
    let ordered = subst (λ (side : Side). IsCurrent side s.current.frames s.other.frames) c.in-First.is (i.ordered is_open refl refl) in
    rw (← c.self.view_is) (λ a b left left_b.
    let stopped : frames_of a ≡ frames_after c.args.calls c.args.image s.current.frames c.args.frame.now =
    ap frames_of (subst (λ (d : MemDiskView). (view_of d).may_leave a) c.append_stopped-stopped.ensures.fresh left) ∙ c.append_stopped-stopped.ensures.frames in
    let other : frames_of b ≡ s.other.frames = i.kept_other is_open refl b (subst (λ (d : MemDiskView). (view_of d).may_leave b) c.into_disk-other.ensures.disk left_b) in
    stopped_recovers First a b s.current.frames s.other.frames c.args.frame.now c.args.calls c.args.image ordered stopped other)

pub returns-in-Second-clause-kept : goal.returns-in-Second-clause-kept
returns-in-Second-clause-kept c =
    let s = c.self.inside in
    let i = c.self.invariant in
    let same : s.closed ≡ c.args.self.closed = rw (← c.self.view_is) refl in
    let is_open : s.closed ≡ false = same ∙ c.requires.open in
    let ordered = subst (λ (side : Side). IsCurrent side s.current.frames s.other.frames) c.in-Second.is (i.ordered is_open refl refl) in
    rw (← c.self.view_is) (λ a b left left_b.
    let stopped : frames_of b ≡ frames_after c.args.calls c.args.image s.current.frames c.args.frame.now =
    ap frames_of (subst (λ (d : MemDiskView). (view_of d).may_leave b) c.append_stopped-stopped.ensures.fresh left_b) ∙ c.append_stopped-stopped.ensures.frames in
    let other : frames_of a ≡ s.other.frames = i.kept_other is_open refl a (subst (λ (d : MemDiskView). (view_of d).may_leave a) c.into_disk-other.ensures.disk left) in
    stopped_recovers Second b a s.current.frames s.other.frames c.args.frame.now c.args.calls c.args.image ordered stopped other)

pub returns-in-Second-clause-frames : goal.returns-in-Second-clause-frames
returns-in-Second-clause-frames c =
    let s = c.self.inside in
    let i = c.self.invariant in
    let same : s.closed ≡ c.args.self.closed = rw (← c.self.view_is) refl in
    let is_open : s.closed ≡ false = same ∙ c.requires.open in
    let ordered = subst (λ (side : Side). IsCurrent side s.current.frames s.other.frames) c.in-Second.is (i.ordered is_open refl refl) in
    let kept : frames_of s.other.disk.bytes ≡ s.other.frames = i.kept_other is_open refl s.other.disk.bytes (may_leave_seen s.other.disk.bytes s.other.disk.past) in
    let other : frames_of c.into_disk-other.result.bytes ≡ s.other.frames = ap (λ (d : MemDiskView). frames_of d.bytes) c.into_disk-other.ensures.disk ∙ kept in
    rw (← c.self.view_is) (stopped_recovers Second c.append_stopped-stopped.result.bytes c.into_disk-other.result.bytes s.current.frames s.other.frames c.args.frame.now c.args.calls c.args.image ordered c.append_stopped-stopped.ensures.frames other)

-- the file that was stopped is new, so its one image is a journal
stopped_journal : (d : MemDiskView) (a : List ℕ) (frames : List (List ℕ)) → d ≡ disk_of d.bytes → frames_of d.bytes ≡ frames → ¬ IsNoJournal d.bytes → (view_of d).may_leave a → IsJournalOf frames a
stopped_journal d a frames fresh is journal left =
    let same : a ≡ d.bytes = subst (λ (e : MemDiskView). (view_of e).may_leave a) fresh left in
    subst (IsJournalOf frames) (sym same) (record { journal = journal; frames = is })

pub returns-in-First-clause-journals : goal.returns-in-First-clause-journals
returns-in-First-clause-journals c =
    let s = c.self.inside in
    let i = c.self.invariant in
    let same : s.closed ≡ c.args.self.closed = rw (← c.self.view_is) refl in
    let is_open : s.closed ≡ false = same ∙ c.requires.open in
    let side : s.side ≡ First = c.in-First.is in
    let e = c.append_stopped-stopped in
    rw (← c.self.view_is) (λ a b left left_b.
    let there = subst (λ (d : MemDiskView). (view_of d).may_leave b) c.into_disk-other.ensures.disk left_b in
    subst (λ (x : Side). IsJournalOf (frames_after c.args.calls c.args.image s.current.frames c.args.frame.now) (at_side x a b) × IsJournalOf s.other.frames (at_side x b a)) (sym side)
    (stopped_journal e.result a _ e.ensures.fresh e.ensures.frames e.ensures.journal left, (c.into_disk-other.ensures.holds (i.open_other is_open) refl).images b there))

pub returns-in-Second-clause-journals : goal.returns-in-Second-clause-journals
returns-in-Second-clause-journals c =
    let s = c.self.inside in
    let i = c.self.invariant in
    let same : s.closed ≡ c.args.self.closed = rw (← c.self.view_is) refl in
    let is_open : s.closed ≡ false = same ∙ c.requires.open in
    let side : s.side ≡ Second = c.in-Second.is in
    let e = c.append_stopped-stopped in
    rw (← c.self.view_is) (λ a b left left_b.
    let there = subst (λ (d : MemDiskView). (view_of d).may_leave a) c.into_disk-other.ensures.disk left in
    subst (λ (x : Side). IsJournalOf (frames_after c.args.calls c.args.image s.current.frames c.args.frame.now) (at_side x a b) × IsJournalOf s.other.frames (at_side x b a)) (sym side)
    (stopped_journal e.result b _ e.ensures.fresh e.ensures.frames e.ensures.journal left_b, (c.into_disk-other.ensures.holds (i.open_other is_open) refl).images a there))
