use Rattle.std.proofs.Common.{true, Err, inr, refl, ap}
use Rattle.oc_content.specs.declared.errors.ReadError.{ReadError}
use Rattle.oc_keep.specs.KeptView.{KeptView, kept_of}
use Rattle.oc_keep.proofs.Ends.{done, kept_disk, kept_none, read_unfailed, shut_open, still_open}
use Rattle.oc_keep.proofs.Stays.{keeps_none, nothing_kept, nothing_same, only_read, puts_none}
use Rattle.oc_keep.proofs.kept.Kept.read.Goals as goal

pub invariant_of-self : goal.invariant_of-self
invariant_of-self g c =
    let s = c.self.inside in
    nothing_kept g.D.Disk.view (kept_of s.node s.store s.content s.closed) (kept_of s.node s.store c.read.new.self s.closed) c.self.invariant (only_read g.D.Disk.view s.node s.store s.content c.read.new.self s.closed s.closed c.read.ensures.same)
    (λ is_open. (is_open, (c.in-Ok.ensures.none_failed (λ failed. absurd (done _ _ failed))).closed))

pub invariant_of-self-in-Err-NoGroup : goal.invariant_of-self-in-Err-NoGroup
invariant_of-self-in-Err-NoGroup g c =
    let s = c.self.inside in
    nothing_kept g.D.Disk.view (kept_of s.node s.store s.content s.closed) (kept_of s.node s.store c.read.new.self s.closed) c.self.invariant (only_read g.D.Disk.view s.node s.store s.content c.read.new.self s.closed s.closed c.read.ensures.same)
    (λ is_open. (is_open, (c.in-Err-NoGroup.ensures.none_failed (λ failed. absurd (read_unfailed c.in-Err-NoGroup.field-0 c.in-Err-NoGroup.field-0-is failed))).closed))

pub invariant_of-self-in-Err-Disk : goal.invariant_of-self-in-Err-Disk
invariant_of-self-in-Err-Disk g c =
    let s = c.self.inside in
    nothing_kept g.D.Disk.view (kept_of s.node s.store s.content s.closed) (kept_of s.node s.store c.read.new.self true) c.self.invariant (only_read g.D.Disk.view s.node s.store s.content c.read.new.self s.closed true c.read.ensures.same)
    (λ is_open. absurd (shut_open true refl is_open))

pub returns-in-Ok-clause-same : goal.returns-in-Ok-clause-same
returns-in-Ok-clause-same g c =
    let s = c.self.inside in
    rw (← c.self.view_is) (nothing_same g.D.Disk.view (kept_of s.node s.store s.content s.closed) (kept_of s.node s.store c.read.new.self s.closed) (λ x h. g.met.D.Disk.consistent x h) c.self.invariant
    (only_read g.D.Disk.view s.node s.store s.content c.read.new.self s.closed s.closed c.read.ensures.same))

pub returns-in-Err-NoGroup-clause-same : goal.returns-in-Err-NoGroup-clause-same
returns-in-Err-NoGroup-clause-same g c =
    let s = c.self.inside in
    rw (← c.self.view_is) (nothing_same g.D.Disk.view (kept_of s.node s.store s.content s.closed) (kept_of s.node s.store c.read.new.self s.closed) (λ x h. g.met.D.Disk.consistent x h) c.self.invariant
    (only_read g.D.Disk.view s.node s.store s.content c.read.new.self s.closed s.closed c.read.ensures.same))

pub returns-in-Err-Disk-clause-same : goal.returns-in-Err-Disk-clause-same
returns-in-Err-Disk-clause-same g c =
    let s = c.self.inside in
    rw (← c.self.view_is) (nothing_same g.D.Disk.view (kept_of s.node s.store s.content s.closed) (kept_of s.node s.store c.read.new.self true) (λ x h. g.met.D.Disk.consistent x h) c.self.invariant
    (only_read g.D.Disk.view s.node s.store s.content c.read.new.self s.closed true c.read.ensures.same))

pub returns-then-self-clause-same : goal.returns-then-self-clause-same
returns-then-self-clause-same g c =
    let s = c.self.inside in
    let k = kept_of s.node s.store s.content s.closed in
    rw (← c.self.view_is) (nothing_same g.D.Disk.view k k (λ x h. g.met.D.Disk.consistent x h) c.self.invariant (record { control = refl; store = keeps_none g.D.Disk.view s.store; content = puts_none g.D.Disk.view s.content }))

pub returns-then-self-clause-closed : goal.returns-then-self-clause-closed
returns-then-self-clause-closed g c = rw (← c.self.view_is) (λ _. c.if-self.true, λ _. refl)

pub returns-then-self-clause-works : goal.returns-then-self-clause-works
returns-then-self-clause-works g c = rw (← c.self.view_is) (λ is_open. absurd (shut_open c.self.inside.closed c.if-self.true is_open))

pub returns-in-Ok-clause-closed : goal.returns-in-Ok-clause-closed
returns-in-Ok-clause-closed g c = rw (← c.self.view_is) (still_open _ _ c.self.inside.closed (done _ _) c.if-self.false)

pub returns-in-Ok-clause-stays_open : goal.returns-in-Ok-clause-stays_open
returns-in-Ok-clause-stays_open g c = λ _. ap (λ (k : KeptView g.row.D.Denot). k.closed) c.self.view_is

pub returns-in-Ok-clause-disk : goal.returns-in-Ok-clause-disk
returns-in-Ok-clause-disk g c = λ wrong. absurd (done _ _ wrong)

pub returns-in-Err-NoGroup-clause-closed : goal.returns-in-Err-NoGroup-clause-closed
returns-in-Err-NoGroup-clause-closed g c = rw (← c.self.view_is) (still_open _ _ c.self.inside.closed kept_none c.if-self.false)

pub returns-in-Err-NoGroup-clause-stays_open : goal.returns-in-Err-NoGroup-clause-stays_open
returns-in-Err-NoGroup-clause-stays_open g c = λ _. ap (λ (k : KeptView g.row.D.Denot). k.closed) c.self.view_is

pub returns-in-Err-Disk-clause-closed : goal.returns-in-Err-Disk-clause-closed
returns-in-Err-Disk-clause-closed g c = rw (← c.self.view_is) (still_open _ _ c.self.inside.closed kept_disk c.if-self.false)

pub returns-then-self-clause-within : goal.returns-then-self-clause-within
returns-then-self-clause-within g c = tt

pub returns-then-self-clause-bytes : goal.returns-then-self-clause-bytes
returns-then-self-clause-bytes g c = tt

pub returns-in-Err-NoGroup-clause-within : goal.returns-in-Err-NoGroup-clause-within
returns-in-Err-NoGroup-clause-within g c = tt

pub returns-in-Err-NoGroup-clause-bytes : goal.returns-in-Err-NoGroup-clause-bytes
returns-in-Err-NoGroup-clause-bytes g c = tt

pub returns-in-Err-Disk-clause-within : goal.returns-in-Err-Disk-clause-within
returns-in-Err-Disk-clause-within g c = tt

pub returns-in-Err-Disk-clause-bytes : goal.returns-in-Err-Disk-clause-bytes
returns-in-Err-Disk-clause-bytes g c = tt

pub returns-in-Err-Disk-clause-disk : goal.returns-in-Err-Disk-clause-disk
returns-in-Err-Disk-clause-disk g c =
    let failed = ap (λ (e : ReadError). Err e) c.in-Err-Disk.field-0-is in
    rw (← c.self.view_is) (λ _. record { rose = inr (inr (c.in-Err-Disk.ensures.disk failed).fails.count); closes = refl })
