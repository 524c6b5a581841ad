use Rattle.std.proofs.Common.{true, inl, inr, refl}
use Rattle.oc_keep.specs.KeptView.{kept_of}
use Rattle.oc_keep.proofs.Ends.{shut_open}
use Rattle.oc_keep.proofs.Stays.{keeps_none, nothing_kept, nothing_same, only_read, puts_none}
use Rattle.oc_keep.proofs.kept.Kept.read_ahead.Goals as goal

pub invariant_of-self : goal.invariant_of-self
invariant_of-self g c =
    let s = c.self.inside in
    nothing_kept g.D.Disk.view (kept_of s.node s.store s.content s.closed) (kept_of s.node s.store c.read_ahead.new.self s.closed) c.self.invariant (only_read g.D.Disk.view s.node s.store s.content c.read_ahead.new.self s.closed s.closed c.read_ahead.ensures.same)
    (λ is_open. (is_open, c.in-Ok.ensures.none_failed.closed))

pub invariant_of-self-in-Err : goal.invariant_of-self-in-Err
invariant_of-self-in-Err g c =
    let s = c.self.inside in
    nothing_kept g.D.Disk.view (kept_of s.node s.store s.content s.closed) (kept_of s.node s.store c.read_ahead.new.self true) c.self.invariant (only_read g.D.Disk.view s.node s.store s.content c.read_ahead.new.self s.closed true c.read_ahead.ensures.same)
    (λ is_open. absurd (shut_open true refl is_open))

pub returns-in-Ok-clause-same : goal.returns-in-Ok-clause-same
returns-in-Ok-clause-same g c =
    let s = c.self.inside in
    rw (← c.self.view_is) (nothing_same g.D.Disk.view (kept_of s.node s.store s.content s.closed) (kept_of s.node s.store c.read_ahead.new.self s.closed) (λ x h. g.met.D.Disk.consistent x h) c.self.invariant
    (only_read g.D.Disk.view s.node s.store s.content c.read_ahead.new.self s.closed s.closed c.read_ahead.ensures.same))

pub returns-in-Err-clause-same : goal.returns-in-Err-clause-same
returns-in-Err-clause-same g c =
    let s = c.self.inside in
    rw (← c.self.view_is) (nothing_same g.D.Disk.view (kept_of s.node s.store s.content s.closed) (kept_of s.node s.store c.read_ahead.new.self true) (λ x h. g.met.D.Disk.consistent x h) c.self.invariant
    (only_read g.D.Disk.view s.node s.store s.content c.read_ahead.new.self s.closed true c.read_ahead.ensures.same))

pub returns-then-self-clause-same : goal.returns-then-self-clause-same
returns-then-self-clause-same g c =
    let s = c.self.inside in
    let k = kept_of s.node s.store s.content s.closed in
    rw (← c.self.view_is) (nothing_same g.D.Disk.view k k (λ x h. g.met.D.Disk.consistent x h) c.self.invariant (record { control = refl; store = keeps_none g.D.Disk.view s.store; content = puts_none g.D.Disk.view s.content }))

pub returns-then-self-clause-failed : goal.returns-then-self-clause-failed
returns-then-self-clause-failed g c = rw (← c.self.view_is) (inl (c.if-self.true, refl))

pub returns-then-self-clause-works : goal.returns-then-self-clause-works
returns-then-self-clause-works g c = rw (← c.self.view_is) (λ is_open. absurd (shut_open c.self.inside.closed c.if-self.true is_open))

pub returns-in-Err-clause-failed : goal.returns-in-Err-clause-failed
returns-in-Err-clause-failed g c =
    rw (← c.self.view_is) (inr (record { rose = inr (inr c.in-Err.ensures.disk.fails.count); closes = refl }))
