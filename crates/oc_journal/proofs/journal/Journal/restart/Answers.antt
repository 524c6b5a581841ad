use Rattle.std.proofs.Common.{IsTrue, refl, sym, ◌∙◌, ap, subst, arith, rules}
use Rattle.oc_journal.specs.JournalView.{JournalView}
use Rattle.oc_journal.proofs.Extents.{at_extents-same_back, IsIndexed-none}
use Rattle.oc_journal.proofs.LoadRuns.{no_error}
use Rattle.oc_journal.proofs.Shut.{not_both, shut_not_failed, failed_not_shut, RestartsSafely-shut, leaves_all_or_none}
use Rattle.oc_journal.proofs.journal.Journal.restart.Goals as goal

pub invariant_of-self-2 : goal.invariant_of-self-2
invariant_of-self-2 g c =
    let e = c.in-Ok.ensures in
    IsIndexed-none (g.D.Disk.view c.self.inside.disk) (g.D.Disk.view c.close_first_gate.new.disk) c.clear.new.self.items c.self.inside.end c.self.inside.closed c.clear.ensures.items e.takes.goes_on.honest c.self.invariant.start c.self.invariant.size e.no_smaller e.clears.settled e.clears.none

-- the gate may be closed: the bodies after it are the same
pub returns-in_default-clause-disk : goal.returns-in_default-clause-disk
returns-in_default-clause-disk g c = λ _.
    let inside = λ (honest : IsTrue (g.D.Disk.view c.args.self.now.disk).honest). subst (λ (j : JournalView g.row.D.Denot). IsTrue (g.D.Disk.view j.disk).honest) (sym c.self.view_is) honest in
    let was = ap (λ (j : JournalView g.row.D.Denot). j.frames) c.self.view_is in
    record {
      fails = search rules;
      closes = search rules;
      frames = λ honest. at_extents-same_back (g.D.Disk.view c.close_first_gate.new.disk).seen (g.D.Disk.view c.self.inside.disk).seen c.self.inside.extents.items c.self.inside.end (c.close_first_gate.ensures.behind (inside honest)) c.self.invariant.within ∙ was;
    }

pub returns-then-self-clause-restarts : goal.returns-then-self-clause-restarts
returns-then-self-clause-restarts g c = tt

pub returns-then-self-clause-safely : goal.returns-then-self-clause-safely
returns-then-self-clause-safely g c = rw (← c.self.view_is) (RestartsSafely-shut g.D.Disk.view _ c.if-self.true)

pub returns-then-self-clause-closed : goal.returns-then-self-clause-closed
returns-then-self-clause-closed g c = rw (← c.self.view_is) (λ _. c.if-self.true, λ _. refl)

pub returns-then-self-clause-unchanged : goal.returns-then-self-clause-unchanged
returns-then-self-clause-unchanged g c = λ _. refl

pub returns-then-self-clause-disk : goal.returns-then-self-clause-disk
returns-then-self-clause-disk g c = λ is. absurd (shut_not_failed is)

pub returns-then-self-clause-works : goal.returns-then-self-clause-works
returns-then-self-clause-works g c = rw (← c.self.view_is) (λ is_open _. absurd (not_both c.if-self.true is_open))

pub returns-then-is_empty-clause-closed : goal.returns-then-is_empty-clause-closed
returns-then-is_empty-clause-closed g c = rw (← c.self.view_is) (λ is. absurd (no_error _ _ is), λ shut. absurd (not_both shut c.if-self.false))

pub returns-then-is_empty-clause-unchanged : goal.returns-then-is_empty-clause-unchanged
returns-then-is_empty-clause-unchanged g c = λ is. absurd (no_error _ _ is)

pub returns-then-is_empty-clause-disk : goal.returns-then-is_empty-clause-disk
returns-then-is_empty-clause-disk g c = λ is. absurd (no_error _ _ is)

pub returns-then-is_empty-clause-works : goal.returns-then-is_empty-clause-works
returns-then-is_empty-clause-works g c = λ _ _. refl

pub returns-in_default-clause-restarts : goal.returns-in_default-clause-restarts
returns-in_default-clause-restarts g c = tt

pub returns-in_default-clause-safely : goal.returns-in_default-clause-safely
returns-in_default-clause-safely g c = rw (← c.self.view_is) (record {
  any_moment = λ is_open honest. leaves_all_or_none (g.D.Disk.view c.self.inside.disk) (g.D.Disk.view c.close_first_gate.new.disk) c.self.inside.extents.items c.self.inside.end c.self.inside.closed c.self.invariant is_open honest (c.close_first_gate.ensures.any_moment honest);
  takes = c.close_first_gate.ensures.takes;
  spare = omega arith;
})

pub returns-in_default-clause-closed : goal.returns-in_default-clause-closed
returns-in_default-clause-closed g c = rw (← c.self.view_is) (λ is. absurd (failed_not_shut is), λ shut. absurd (not_both shut c.if-self.false))

pub returns-in_default-clause-unchanged : goal.returns-in_default-clause-unchanged
returns-in_default-clause-unchanged g c = λ is. absurd (failed_not_shut is)

pub returns-in_default-clause-works : goal.returns-in_default-clause-works
returns-in_default-clause-works g c = rw (← c.self.view_is) (λ _ sure. absurd (c.in_default.ensures.fails.unsure sure))

pub returns-clause-closed : goal.returns-clause-closed
returns-clause-closed g c = rw (← c.self.view_is) (λ is. absurd (no_error _ _ is), λ shut. absurd (not_both shut c.if-self.false))

pub returns-clause-unchanged : goal.returns-clause-unchanged
returns-clause-unchanged g c = λ is. absurd (no_error _ _ is)

pub returns-clause-disk : goal.returns-clause-disk
returns-clause-disk g c = λ is. absurd (no_error _ _ is)

pub returns-clause-works : goal.returns-clause-works
returns-clause-works g c = λ _ _. refl

pub returns-clause-safely : goal.returns-clause-safely
returns-clause-safely g c = rw (← c.self.view_is) (record {
  any_moment = λ is_open honest. leaves_all_or_none (g.D.Disk.view c.self.inside.disk) (g.D.Disk.view c.close_first_gate.new.disk) c.self.inside.extents.items c.self.inside.end c.self.inside.closed c.self.invariant is_open honest (c.close_first_gate.ensures.any_moment honest);
  takes = c.close_first_gate.ensures.takes;
  spare = search rules;
})
