use Rattle.std.proofs.Common.{ℕ, IsTrue, List, [], ◌∷◌, ◌++◌, refl, sym, ◌∙◌, ap, subst, arith, rules}
use Rattle.oc_journal.specs.JournalView.{JournalView}
use Rattle.oc_journal.proofs.Extents.{at_extents-same_front, appended-frames, appended-indexed, appended-kept}
use Rattle.oc_journal.proofs.LoadRuns.{no_error}
use Rattle.oc_journal.proofs.Shut.{not_both, closed_not_full, closed_not_disk, full_not_closed, full_not_disk, disk_not_closed, AppendsSafely-shut, leaves_before_or_after}
use Rattle.oc_journal.proofs.journal.Journal.append.Goals as goal

pub invariant_of-self-2 : goal.invariant_of-self-2
invariant_of-self-2 g c =
    let v = g.D.Disk.view c.self.inside.disk in
    let w = g.D.Disk.view c.write_frame.new.disk in
    let e = c.in-Ok.ensures in
    appended-indexed v w c.self.inside.extents.items c.push_reserved.new.self.items c.self.inside.end c.body_len-len.result c.args.frame.now c.self.inside.closed c.self.invariant c.if-self.false c.push_reserved.ensures.items c.body_len-len.ensures.len e.takes.goes_on.honest e.size e.adds.settled e.adds.added e.adds.body_there e.front _ (omega (arith, c.from-2.ensures))

pub returns-clause-appends : goal.returns-clause-appends
returns-clause-appends g c =
    let v = g.D.Disk.view c.self.inside.disk in
    let w = g.D.Disk.view c.write_frame.new.disk in
    let e = c.in-Ok.ensures in
    let was = ap (λ (j : JournalView g.row.D.Denot). j.frames) c.self.view_is in
    let inside = λ (honest : IsTrue (g.D.Disk.view c.args.self.now.disk).honest). subst (λ (j : JournalView g.row.D.Denot). IsTrue (g.D.Disk.view j.disk).honest) (sym c.self.view_is) honest in
    record {
      frames = λ honest. appended-frames v w c.self.inside.extents.items c.push_reserved.new.self.items c.self.inside.end c.body_len-len.result c.args.frame.now c.self.inside.closed c.self.invariant c.if-self.false c.push_reserved.ensures.items c.body_len-len.ensures.len e.takes.goes_on.honest e.size e.adds.settled e.adds.added e.adds.body_there e.front (inside honest) ∙ ap (λ (fs : List (List ℕ)). fs ++ c.args.frame.now ∷ []) was;
      kept = λ honest. appended-kept v w c.self.inside.extents.items c.push_reserved.new.self.items c.self.inside.end c.body_len-len.result c.args.frame.now c.self.inside.closed c.self.invariant c.if-self.false c.push_reserved.ensures.items c.body_len-len.ensures.len e.takes.goes_on.honest e.size e.adds.settled e.adds.added e.adds.body_there e.front (inside honest);
      end = search rules;
      four = search rules;
      spare = search rules;
      was_open = search rules;
      unclosed = search rules;
      no_fault = search rules;
    }

-- the write failed: the bodies before the gate are the same
pub returns-in_default-clause-disk : goal.returns-in_default-clause-disk
returns-in_default-clause-disk g c = λ _.
    let inside = λ (honest : IsTrue (g.D.Disk.view c.args.self.now.disk).honest). subst (λ (j : JournalView g.row.D.Denot). IsTrue (g.D.Disk.view j.disk).honest) (sym c.self.view_is) honest in
    let was = ap (λ (j : JournalView g.row.D.Denot). j.frames) c.self.view_is in
    record {
      fails = search rules;
      closes = search rules;
      frames = λ honest. at_extents-same_front (g.D.Disk.view c.write_frame.new.disk).seen (g.D.Disk.view c.self.inside.disk).seen c.self.inside.extents.items c.self.inside.end (c.write_frame.ensures.front (inside honest)) c.self.invariant.within ∙ was;
    }

pub returns-then-self-clause-appends : goal.returns-then-self-clause-appends
returns-then-self-clause-appends g c = tt

pub returns-then-self-clause-safely : goal.returns-then-self-clause-safely
returns-then-self-clause-safely g c = rw (← c.self.view_is) (AppendsSafely-shut g.D.Disk.view _ _ c.if-self.true)

pub returns-then-self-clause-closed : goal.returns-then-self-clause-closed
returns-then-self-clause-closed g c = rw (← c.self.view_is) (λ _. c.if-self.true, λ _. refl)

pub returns-then-self-clause-full : goal.returns-then-self-clause-full
returns-then-self-clause-full g c = rw (← c.self.view_is) (λ is. absurd (closed_not_full is), λ p. absurd (not_both c.if-self.true p.0))

pub returns-then-self-clause-unchanged : goal.returns-then-self-clause-unchanged
returns-then-self-clause-unchanged g c = λ _. refl

pub returns-then-self-clause-disk : goal.returns-then-self-clause-disk
returns-then-self-clause-disk g c = λ is. absurd (closed_not_disk is)

pub returns-then-self-clause-works : goal.returns-then-self-clause-works
returns-then-self-clause-works g c = rw (← c.self.view_is) (λ is_open _. absurd (not_both c.if-self.true is_open))

pub returns-then-self-from-clause-appends : goal.returns-then-self-from-clause-appends
returns-then-self-from-clause-appends g c = tt

pub returns-then-self-from-clause-closed : goal.returns-then-self-from-clause-closed
returns-then-self-from-clause-closed g c = rw (← c.self.view_is) (λ is. absurd (full_not_closed is), λ shut. absurd (not_both shut c.if-self.false))

pub returns-then-self-from-clause-unchanged : goal.returns-then-self-from-clause-unchanged
returns-then-self-from-clause-unchanged g c = λ _. refl

pub returns-then-self-from-clause-disk : goal.returns-then-self-from-clause-disk
returns-then-self-from-clause-disk g c = λ is. absurd (full_not_disk is)

pub returns-in_default-clause-appends : goal.returns-in_default-clause-appends
returns-in_default-clause-appends g c = tt

pub returns-in_default-clause-safely : goal.returns-in_default-clause-safely
returns-in_default-clause-safely g c = rw (← c.self.view_is) (record {
  any_moment = λ is_open honest. leaves_before_or_after (g.D.Disk.view c.self.inside.disk) (g.D.Disk.view c.write_frame.new.disk) c.self.inside.extents.items c.self.inside.end c.self.inside.closed c.self.invariant is_open honest c.args.frame.now (c.write_frame.ensures.any_moment honest);
  takes = c.write_frame.ensures.takes;
})

pub returns-in_default-clause-closed : goal.returns-in_default-clause-closed
returns-in_default-clause-closed g c = rw (← c.self.view_is) (λ is. absurd (disk_not_closed is), λ shut. absurd (not_both shut c.if-self.false))

pub returns-in_default-clause-unchanged : goal.returns-in_default-clause-unchanged
returns-in_default-clause-unchanged g c = λ other. absurd (other refl)

pub returns-in_default-clause-works : goal.returns-in_default-clause-works
returns-in_default-clause-works g c = rw (← c.self.view_is) (λ _ sure. absurd (c.in_default.ensures.fails.unsure sure))

pub returns-clause-safely : goal.returns-clause-safely
returns-clause-safely g c = rw (← c.self.view_is) (record {
  any_moment = λ is_open honest. leaves_before_or_after (g.D.Disk.view c.self.inside.disk) (g.D.Disk.view c.write_frame.new.disk) c.self.inside.extents.items c.self.inside.end c.self.inside.closed c.self.invariant is_open honest c.args.frame.now (c.write_frame.ensures.any_moment honest);
  takes = c.write_frame.ensures.takes;
})

pub returns-clause-closed : goal.returns-clause-closed
returns-clause-closed g c = rw (← c.self.view_is) (λ is. absurd (no_error _ _ is), λ shut. absurd (not_both shut c.if-self.false))

pub returns-clause-unchanged : goal.returns-clause-unchanged
returns-clause-unchanged g c = tt

pub returns-clause-disk : goal.returns-clause-disk
returns-clause-disk g c = λ is. absurd (no_error _ _ is)

pub returns-clause-works : goal.returns-clause-works
returns-clause-works g c = λ _ _. refl
