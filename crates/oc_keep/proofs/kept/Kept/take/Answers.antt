use Rattle.std.proofs.Common.{false, refl, ap, ◌∙◌}
use Rattle.oc_model.specs.Node.{Node, Outcome}
use Rattle.oc_model.specs.Step.{step}
use Rattle.oc_keep.specs.Errors.{of_commit, of_ready}
use Rattle.oc_keep.specs.KeptView.{IsHonest, disks_of, node_of}
use Rattle.oc_keep.specs.ReadyView.{IsFullToWrite, outcome_of, told_of}
use Rattle.oc_keep.proofs.Ends.{done, shut_open}
use Rattle.oc_keep.proofs.Runs.{all_reliable}
use Rattle.oc_keep.proofs.Stays.{all_honest, ready_moments, unready_moments}
use Rattle.oc_keep.proofs.Taking.{err_is, same_ready, same_taken, taken_control, taken_growth, uncommitted, uncommitted_closed, unready, unready_closed, unshut}
use Rattle.oc_keep.proofs.kept.Kept.take.Goals as goal

pub ready-made-requires : goal.ready-made-requires
ready-made-requires g c = c.requires

-- The input was not made ready

pub returns-in_err-ready-clause-took : goal.returns-in_err-ready-clause-took
returns-in_err-ready-clause-took g c =
    let e = c.in_err-ready.field-0.0 in
    let is = err_is _ (of_ready e) c.from_residual.ensures.1 in
    rw is tt

pub returns-in_err-ready-clause-refused : goal.returns-in_err-ready-clause-refused
returns-in_err-ready-clause-refused g c =
    let e = c.in_err-ready.field-0.0 in
    let is = err_is _ (of_ready e) c.from_residual.ensures.1 in
    rw is (unready g.D.Disk.view e c.args.input c.args.self.now c.ready-made.new.self c.ready-made.ensures.same c.in_err-ready.ensures.refused)

pub returns-in_err-ready-clause-closed : goal.returns-in_err-ready-clause-closed
returns-in_err-ready-clause-closed g c =
    let e = c.in_err-ready.field-0.0 in
    let is = err_is _ (of_ready e) c.from_residual.ensures.1 in
    rw is (unready_closed _ e c.in_err-ready.ensures.closed)

pub returns-in_err-ready-clause-same : goal.returns-in_err-ready-clause-same
returns-in_err-ready-clause-same g c = same_ready g.D.Disk.view c.args.self.now c.ready-made.new.self c.ready-made.ensures.same

pub returns-in_err-ready-clause-any_moment : goal.returns-in_err-ready-clause-any_moment
returns-in_err-ready-clause-any_moment g c = λ is_open honest.
    let old = c.args.self.now in
    unready_moments g.D.Disk.view old c.ready-made.new.self (node_of old) (step (node_of old) c.args.input).node (c.ready-made.ensures.same.any_moment is_open honest)

pub returns-in_err-ready-clause-works : goal.returns-in_err-ready-clause-works
returns-in_err-ready-clause-works g c =
    let e = c.in_err-ready.field-0.0 in
    let is = err_is _ (of_ready e) c.from_residual.ensures.1 in
    rw is (λ is_open sure. ap of_ready (c.in_err-ready.ensures.works is_open sure))

-- The input was made ready, and is committed

pub commit-requires-clause-open : goal.commit-requires-clause-open
commit-requires-clause-open g c =
    let was_open = unshut c.args.self.now.closed (λ shut. absurd (done _ _ (c.in_ok-ready.ensures.closed.1 shut))) in
    c.in_ok-ready.ensures.made.still ∙ was_open

pub commit-requires-clause-ready : goal.commit-requires-clause-ready
commit-requires-clause-ready g c = c.in_ok-ready.ensures.made.commits

-- The input was not committed

pub returns-in_err-commit-clause-took : goal.returns-in_err-commit-clause-took
returns-in_err-commit-clause-took g c =
    let e = c.in_err-commit.field-0.0 in
    let is = err_is _ (of_commit e) c.from_residual-in_err-commit.ensures.1 in
    rw is tt

pub returns-in_err-commit-clause-refused : goal.returns-in_err-commit-clause-refused
returns-in_err-commit-clause-refused g c =
    let e = c.in_err-commit.field-0.0 in
    let is = err_is _ (of_commit e) c.from_residual-in_err-commit.ensures.1 in
    let made = c.in_ok-ready.ensures.made in
    rw is (uncommitted g.D.Disk.view e c.args.input c.args.self.now c.ready-made.new.self c.commit.new.self c.ready-made.ensures.same made.still (IsFullToWrite c.ready-made.new.self c.in_ok-ready.ready.write) made.full c.in_err-commit.ensures.full c.in_err-commit.ensures.refused)

pub returns-in_err-commit-clause-closed : goal.returns-in_err-commit-clause-closed
returns-in_err-commit-clause-closed g c =
    let e = c.in_err-commit.field-0.0 in
    let is = err_is _ (of_commit e) c.from_residual-in_err-commit.ensures.1 in
    rw is (λ wrong. absurd (uncommitted_closed e wrong), λ shut. absurd (done _ _ (c.in_ok-ready.ensures.closed.1 shut)))

pub returns-in_err-commit-clause-same : goal.returns-in_err-commit-clause-same
returns-in_err-commit-clause-same g c = same_taken g.D.Disk.view c.args.self.now c.ready-made.new.self c.commit.new.self c.ready-made.ensures.same c.commit.ensures.same

pub returns-in_err-commit-clause-any_moment : goal.returns-in_err-commit-clause-any_moment
returns-in_err-commit-clause-any_moment g c = λ is_open honest.
    let old = c.args.self.now in
    let same = c.ready-made.ensures.same in
    ready_moments g.D.Disk.view old c.ready-made.new.self c.commit.new.self c.in_ok-ready.ready (step (node_of old) c.args.input) same.nothing honest (same.node honest) (c.in_ok-ready.ensures.made.step_is honest) c.commit.ensures.any_moment

pub returns-in_err-commit-clause-works : goal.returns-in_err-commit-clause-works
returns-in_err-commit-clause-works g c =
    let e = c.in_err-commit.field-0.0 in
    let is = err_is _ (of_commit e) c.from_residual-in_err-commit.ensures.1 in
    rw is (λ is_open sure. absurd (shut_open false (c.in_err-commit.ensures.works (all_reliable g.D.Disk.view (disks_of c.args.self.now) (disks_of c.ready-made.new.self) c.ready-made.ensures.same.goes_on sure)) refl))

-- The input was taken

pub returns-clause-took : goal.returns-clause-took
returns-clause-took g c =
    let same = c.ready-made.ensures.same in
    let made = c.in_ok-ready.ensures.made in
    let committed = c.in_ok-commit.ensures.committed in
    let later = λ (h : IsHonest g.D.Disk.view c.args.self.now). all_honest g.D.Disk.view (disks_of c.args.self.now) (disks_of c.ready-made.new.self) same.goes_on h in
    record {
      is_open = committed.is_open;
      control = taken_control g.D.Disk.view c.args.self.now c.ready-made.new.self c.commit.new.self c.args.input c.in_ok-ready.ready _ same.nothing.control made.control committed.control committed.outcome_is;
      fits = λ full. absurd (done _ _ (c.in_ok-commit.ensures.full.1 (made.full.1 full)));
      outcome_is = λ honest. committed.outcome_is ∙ ap (λ (n : Node). told_of (outcome_of n c.in_ok-ready.ready)) (same.node honest) ∙ ap told_of (made.step_is honest);
      node = λ honest. committed.node (later honest) ∙ ap (λ (n : Node). (outcome_of n c.in_ok-ready.ready).node) (same.node honest) ∙ ap (λ (o : Outcome). o.node) (made.step_is honest);
      grows = λ honest. taken_growth g.D.Disk.view c.args.self.now c.ready-made.new.self c.commit.new.self c.args.input c.in_ok-ready.ready same.nothing made.control.writes honest (committed.grows (later honest));
      survives = λ honest. committed.survives (later honest);
    }

pub returns-clause-closed : goal.returns-clause-closed
returns-clause-closed g c = (λ wrong. absurd (done _ _ wrong), λ shut. absurd (done _ _ (c.in_ok-ready.ensures.closed.1 shut)))

pub returns-clause-same : goal.returns-clause-same
returns-clause-same g c = same_taken g.D.Disk.view c.args.self.now c.ready-made.new.self c.commit.new.self c.ready-made.ensures.same c.commit.ensures.same

pub returns-clause-any_moment : goal.returns-clause-any_moment
returns-clause-any_moment g c = λ is_open honest.
    let old = c.args.self.now in
    let same = c.ready-made.ensures.same in
    ready_moments g.D.Disk.view old c.ready-made.new.self c.commit.new.self c.in_ok-ready.ready (step (node_of old) c.args.input) same.nothing honest (same.node honest) (c.in_ok-ready.ensures.made.step_is honest) c.commit.ensures.any_moment
