use Rattle.std.proofs.Common.{◌≡◌, IsTrue, inr, false, List, refl, sym, ap, ◌∙◌, ⊎_elim, arith}
use Rattle.std.proofs.lemmas.Result.{IfOk-weaker}
use Rattle.oc_base.specs.declared.shelf.Shelf.{Shelf}
use Rattle.oc_model.specs.NextWorld.{has_change, writes}
use Rattle.oc_model.specs.Step.{plan, step}
use Rattle.oc_keep.specs.ControlStep.{DoesControlStep}
use Rattle.oc_keep.specs.Files.{AreReliable}
use Rattle.oc_keep.specs.KeptView.{IsHonest, disks_of, kept_of, node_of}
use Rattle.oc_keep.specs.ReadyView.{CanCommit, IsFullToWrite, ReadyView, is_written, outcome_of}
use Rattle.oc_keep.proofs.Committing.{fits_file}
use Rattle.oc_keep.proofs.Ends.{shut_open, still_open}
use Rattle.oc_keep.proofs.Settled.{made_ready, ready_commits, ready_open, ready_wants, unfailed, unmade_ready}
use Rattle.oc_keep.proofs.Stays.{keeps_none, nothing_kept, nothing_same, puts_none}
use Rattle.oc_keep.proofs.Steps.{lines_are}
use Rattle.oc_keep.proofs.kept.Kept.ready.Goals as goal

pub invariant_of-self : goal.invariant_of-self
invariant_of-self g c =
    let s = c.self.inside in
    let m = c.make_ready-made in
    nothing_kept g.D.Disk.view (kept_of s.node s.store s.content s.closed) (kept_of m.new.node m.new.store m.new.content c.making_failed-self-inside.result) c.self.invariant (record { control = m.ensures.nothing.control; store = m.ensures.nothing.store; content = m.ensures.nothing.content })
    (λ is_open. (c.if-self.false, ⊎_elim (λ failed. absurd (shut_open c.making_failed-self-inside.result (c.making_failed-self-inside.ensures.1 failed) is_open)) (λ none. none.closed) m.ensures.none_failed))

pub returns-clause-made : goal.returns-clause-made
returns-clause-made g c =
    let s = c.self.inside in
    let m = c.make_ready-made in
    let k = kept_of s.node s.store s.content s.closed in
    let k2 = kept_of m.new.node m.new.store m.new.content c.making_failed-self-inside.result in
    let n = node_of k in
    rw (← c.self.view_is) (made_ready g.D.Disk.view c.args.input.now k k2 m.result m.ensures.control
    (IfOk-weaker m.result (λ (ready : ReadyView). IsTrue (g.D.Disk.view s.content.journal.disk).honest → outcome_of n ready ≡ step n c.args.input.now)
    (λ (ready : ReadyView). IsHonest g.D.Disk.view k → outcome_of n ready ≡ step n c.args.input.now) (λ ready steps honest. steps honest.content) m.ensures.step)
    (IfOk-weaker m.result (DoesControlStep (plan s.node.control s.content.shelves c.args.input.now) s.node.control)
    (λ (ready : ReadyView). IsHonest g.D.Disk.view k → is_written ready.write ≡ writes n c.args.input.now) (λ ready does honest.
    does.writes ∙ ap (λ (ls : List Shelf). has_change (plan s.node.control ls c.args.input.now)) (lines_are s.content.journal.frames s.content.shelves (c.self.invariant.shelved honest.content))) m.ensures.control)
    m.ensures.full
    (ready_commits g.D.Disk.view m.new.node m.new.store m.new.content m.result c.making_failed-self-inside.result c.making_failed-self-inside.ensures m.ensures.commits)
    (IfOk-weaker m.result (CanCommit g.D.Disk.view (kept_of m.new.node m.new.store m.new.content false)) (λ (ready : ReadyView). AreReliable g.D.Disk.view (disks_of k2) → ¬ IsFullToWrite k2 ready.write) (λ ready can. fits_file g.D.Disk.view (kept_of m.new.node m.new.store m.new.content false) ready.plan ready.write can.writes) m.ensures.commits)
    (λ other. unfailed c.making_failed-self-inside.result c.making_failed-self-inside.ensures other ∙ sym c.if-self.false))

pub returns-clause-refused : goal.returns-clause-refused
returns-clause-refused g c =
    let s = c.self.inside in
    let m = c.make_ready-made in
    let k = kept_of s.node s.store s.content s.closed in
    let k2 = kept_of m.new.node m.new.store m.new.content c.making_failed-self-inside.result in
    rw (← c.self.view_is) (unmade_ready g.D.Disk.view c.args.input.now k k2 m.result
    (λ other. unfailed c.making_failed-self-inside.result c.making_failed-self-inside.ensures other ∙ sym c.if-self.false)
    (λ failed. record { rose = inr (inr (m.ensures.disk failed).0.fails.count); closes = c.making_failed-self-inside.ensures.1 failed })
    (λ failed. (m.ensures.disk failed).1) m.ensures.open)

pub returns-clause-same : goal.returns-clause-same
returns-clause-same g c =
    let s = c.self.inside in
    let m = c.make_ready-made in
    let k = kept_of s.node s.store s.content s.closed in
    let k2 = kept_of m.new.node m.new.store m.new.content c.making_failed-self-inside.result in
    rw (← c.self.view_is) (nothing_same g.D.Disk.view k k2 (λ x h. g.met.D.Disk.consistent x h) c.self.invariant (record { control = m.ensures.nothing.control; store = m.ensures.nothing.store; content = m.ensures.nothing.content }))

pub returns-clause-closed : goal.returns-clause-closed
returns-clause-closed g c =
    let m = c.make_ready-made in
    rw (← c.self.view_is) (still_open m.result _ c.self.inside.closed (ready_open m.result m.ensures.open) c.if-self.false)

pub returns-clause-works : goal.returns-clause-works
returns-clause-works g c =
    let m = c.make_ready-made in
    rw (← c.self.view_is) (λ is_open sure.
    ready_wants m.result m.ensures.open (λ failed. absurd ((m.ensures.disk failed).0.fails.unsure (record { reliable = sure.content; room = omega arith; calls = omega arith }))))

pub returns-then-self-clause-refused : goal.returns-then-self-clause-refused
returns-then-self-clause-refused g c = refl

pub returns-then-self-clause-same : goal.returns-then-self-clause-same
returns-then-self-clause-same g c =
    let s = c.self.inside in
    let k = kept_of s.node s.store s.content s.closed in
    rw (← c.self.view_is) (nothing_same g.D.Disk.view k k (λ x h. g.met.D.Disk.consistent x h) c.self.invariant (record { control = refl; store = keeps_none g.D.Disk.view s.store; content = puts_none g.D.Disk.view s.content }))

pub returns-then-self-clause-closed : goal.returns-then-self-clause-closed
returns-then-self-clause-closed g c = rw (← c.self.view_is) (λ _. c.if-self.true, λ _. refl)

pub returns-then-self-clause-works : goal.returns-then-self-clause-works
returns-then-self-clause-works g c = rw (← c.self.view_is) (λ is_open. absurd (shut_open c.self.inside.closed c.if-self.true is_open))

pub make_ready-made-requires-clause-log : goal.make_ready-made-requires-clause-log
make_ready-made-requires-clause-log g c = c.self.invariant.short

pub returns-then-self-clause-made : goal.returns-then-self-clause-made
returns-then-self-clause-made g c = tt
