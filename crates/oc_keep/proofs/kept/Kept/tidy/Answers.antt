use Rattle.std.proofs.Common.{◌+◌, Bool, IsTrue, false, inl, inr, refl, ⊎_elim}
use Rattle.std.proofs.lemmas.Result.{IfOk-weaker}
use Rattle.oc_model.specs.Snapshot.{snapshot}
use Rattle.oc_keep.specs.KeptView.{kept_of}
use Rattle.oc_keep.specs.Promises.{IsTurnedOver}
use Rattle.oc_keep.specs.Turning.{IsShort, Replaces}
use Rattle.oc_keep.proofs.Ends.{done, shut_open, still_open}
use Rattle.oc_keep.proofs.Settled.{tidy_open, turned_or_not, turned_so, untidied}
use Rattle.oc_keep.proofs.Sides.{honest_store, reliable_store}
use Rattle.oc_keep.proofs.Stays.{keeps_none, none_keeps, puts_none}
use Rattle.oc_keep.proofs.Tidied.{tidied_goes_on, tidied_kept, tidied_moments}
use Rattle.oc_keep.proofs.kept.Kept.tidy.Goals as goal

pub invariant_of-self : goal.invariant_of-self
invariant_of-self g c =
    let s = c.self.inside in
    let t = c.replace-turned in
    let b = c.turning_failed-self-inside.result in
    let so = turned_so g.D.Disk.view (snapshot (s.store.generation + 1) s.node.control.kept) (IsShort (s.store.generation + 1) s.node.control.kept) s.store t.new.store b t.result c.turning_failed-self-inside.ensures t.ensures.short t.ensures.replaces t.ensures.stays t.ensures.memory t.ensures.disk t.ensures.open in
    tidied_kept g.D.Disk.view (kept_of s.node s.store s.content s.closed) t.new.store b c.frames_add_their_records.ensures.read c.snapshots_stand_for_all.ensures c.self.invariant c.if-self.false (c.due.ensures.0 c.if-not-due.false).1 so c.frames_add_their_records.ensures.good

pub returns-clause-ripe : goal.returns-clause-ripe
returns-clause-ripe g c =
    let due = c.due.ensures.0 c.if-not-due.false in
    rw (← c.self.view_is)
    (IfOk-weaker c.replace-turned.result _ _ (λ turned short. (
      λ yes. let so = short.0 yes in record { long = due.0; next = due.1; few = so.few; based = so.based },
      λ ripe. short.1 (record { based = ripe.based; few = ripe.few }),
    )) c.replace-turned.ensures.short)

pub returns-clause-closed : goal.returns-clause-closed
returns-clause-closed g c =
    let t = c.replace-turned in
    rw (← c.self.view_is) (still_open t.result _ c.self.inside.closed (tidy_open t.result t.ensures.open) c.if-self.false)

pub returns-clause-works : goal.returns-clause-works
returns-clause-works g c =
    let s = c.self.inside in
    rw (← c.self.view_is) (λ is_open sure. c.replace-turned.ensures.works (reliable_store g.D.Disk.view s.store sure.control sure.alternate).1)

pub returns-then-self-clause-closed : goal.returns-then-self-clause-closed
returns-then-self-clause-closed g c = rw (← c.self.view_is) (λ _. c.if-self.true, λ _. refl)

pub returns-then-self-clause-works : goal.returns-then-self-clause-works
returns-then-self-clause-works g c = rw (← c.self.view_is) (λ is_open. absurd (shut_open c.self.inside.closed c.if-self.true is_open))

pub returns-then-not-due-clause-closed : goal.returns-then-not-due-clause-closed
returns-then-not-due-clause-closed g c = rw (← c.self.view_is) (still_open _ _ c.self.inside.closed (done _ _) c.if-self.false)

pub replace-turned-requires-clause-open : goal.replace-turned-requires-clause-open
replace-turned-requires-clause-open g c = c.self.invariant.open_store c.if-self.false

pub replace-turned-requires-clause-next : goal.replace-turned-requires-clause-next
replace-turned-requires-clause-next g c = (c.due.ensures.0 c.if-not-due.false).1

pub replace-turned-requires-clause-reached : goal.replace-turned-requires-clause-reached
replace-turned-requires-clause-reached g c = c.self.invariant.reached

pub returns-then-self-clause-ripe : goal.returns-then-self-clause-ripe
returns-then-self-clause-ripe g c = tt

pub returns-then-not-due-clause-ripe : goal.returns-then-not-due-clause-ripe
returns-then-not-due-clause-ripe g c = rw (← c.self.view_is) (
  λ yes. absurd (shut_open false yes refl),
  λ ripe. absurd (shut_open c.due.result (c.due.ensures.1 (ripe.long, ripe.next)) c.if-not-due.true),
)

pub returns-then-not-due-clause-works : goal.returns-then-not-due-clause-works
returns-then-not-due-clause-works g c = λ _ _. tt

pub returns-clause-turned : goal.returns-clause-turned
returns-clause-turned g c =
    let s = c.self.inside in
    let t = c.replace-turned in
    let b = c.turning_failed-self-inside.result in
    rw (← c.self.view_is, c.if-self.false)
    (turned_or_not g.D.Disk.view s.node s.store t.new.store s.content b t.result c.turning_failed-self-inside.ensures t.ensures.stays
    (IfOk-weaker t.result (λ (turned : Bool). IsTrue turned → Replaces g.D.Disk.view (snapshot (s.store.generation + 1) s.node.control.kept) s.store t.new.store)
    (λ (turned : Bool). IsTrue turned → IsTurnedOver g.D.Disk.view (kept_of s.node s.store s.content false) (kept_of s.node t.new.store s.content b)) (λ turned replaces yes.
    let so = replaces yes in
    record { side = so.side; generation = so.generation; frames = λ honest. so.frames (honest_store g.D.Disk.view s.store honest.control honest.alternate) }) t.ensures.replaces))

pub returns-clause-refused : goal.returns-clause-refused
returns-clause-refused g c =
    let s = c.self.inside in
    let t = c.replace-turned in
    let b = c.turning_failed-self-inside.result in
    rw (← c.self.view_is, c.if-self.false)
    (untidied g.D.Disk.view s.node s.store t.new.store s.content b t.result c.turning_failed-self-inside.ensures t.ensures.memory
    (λ failed. record { rose = ⊎_elim (λ rose. inl rose) (λ rose. inr (inl rose)) (t.ensures.disk failed).0.rose; closes = c.turning_failed-self-inside.ensures.1 failed })
    t.ensures.open)

pub returns-clause-keeps : goal.returns-clause-keeps
returns-clause-keeps g c =
    let s = c.self.inside in
    let t = c.replace-turned in
    let b = c.turning_failed-self-inside.result in
    let so = turned_so g.D.Disk.view (snapshot (s.store.generation + 1) s.node.control.kept) (IsShort (s.store.generation + 1) s.node.control.kept) s.store t.new.store b t.result c.turning_failed-self-inside.ensures t.ensures.short t.ensures.replaces t.ensures.stays t.ensures.memory t.ensures.disk t.ensures.open in
    rw (← c.self.view_is) (record {
      control = refl;
      content = refl;
      goes_on = tidied_goes_on g.D.Disk.view (kept_of s.node s.store s.content s.closed) t.new.store b so;
      any_moment = λ is_open. tidied_moments g.D.Disk.view (kept_of s.node s.store s.content s.closed) t.new.store b c.frames_add_their_records.ensures.read c.snapshots_stand_for_all.ensures c.self.invariant is_open (c.due.ensures.0 c.if-not-due.false).1 so (λ x h. g.met.D.Disk.consistent x h);
    })

-- The node is closed

pub returns-then-self-clause-turned : goal.returns-then-self-clause-turned
returns-then-self-clause-turned g c = tt

pub returns-then-self-clause-refused : goal.returns-then-self-clause-refused
returns-then-self-clause-refused g c = record { nothing = record { control = refl; store = keeps_none g.D.Disk.view c.args.self.now.store; content = puts_none g.D.Disk.view c.args.self.now.content }; still = refl }

pub returns-then-self-clause-keeps : goal.returns-then-self-clause-keeps
returns-then-self-clause-keeps g c =
    let s = c.self.inside in
    let k = kept_of s.node s.store s.content s.closed in
    rw (← c.self.view_is) (none_keeps g.D.Disk.view k (λ x h. g.met.D.Disk.consistent x h) c.self.invariant)

-- The control files are not due

pub returns-then-not-due-clause-turned : goal.returns-then-not-due-clause-turned
returns-then-not-due-clause-turned g c = refl

pub returns-then-not-due-clause-refused : goal.returns-then-not-due-clause-refused
returns-then-not-due-clause-refused g c = tt

pub returns-then-not-due-clause-keeps : goal.returns-then-not-due-clause-keeps
returns-then-not-due-clause-keeps g c =
    let s = c.self.inside in
    let k = kept_of s.node s.store s.content s.closed in
    rw (← c.self.view_is) (none_keeps g.D.Disk.view k (λ x h. g.met.D.Disk.consistent x h) c.self.invariant)
