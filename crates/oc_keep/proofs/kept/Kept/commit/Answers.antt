use Rattle.std.proofs.Common.{◌≡◌, true, false, List, Err, refl, ap, ◌∙◌}
use Rattle.oc_base.specs.declared.group.Group.{Group}
use Rattle.oc_model.specs.Node.{Control}
use Rattle.oc_keep.specs.declared.errors.CommitError.{CommitError}
use Rattle.oc_keep.specs.declared.errors.CommitError.TheVariants.{Disk}
use Rattle.oc_keep.specs.KeptView.{KeptView, disks_of, header_of, kept_of}
use Rattle.oc_keep.proofs.Committing.{can_put, commit_generation, commit_grows, commit_kept, commit_moments, commit_node, failed_generation, failed_groups, failed_kept, failed_rose, fits_file, has_room, write_goes_on}
use Rattle.oc_keep.proofs.Ends.{commit_unfull, done}
use Rattle.oc_keep.proofs.Stays.{all_honest, kept_survives}
use Rattle.oc_keep.proofs.kept.Kept.commit.Goals as goal

pub invariant_of-self : goal.invariant_of-self
invariant_of-self g c =
    let s = c.self.inside in
    let k = kept_of s.node s.store s.content s.closed in
    let k2 = kept_of c.apply.new.self c.put.new.store c.put.new.content s.closed in
    let was_open : s.closed ≡ false = ap (λ (x : KeptView g.row.D.Denot). x.closed) c.self.view_is ∙ c.requires.open in
    let can = rw (← c.self.view_is, c.into_parts-plan.ensures) at c.requires.ready in
    commit_kept g.D.Disk.view c.frames_add_their_records.ensures.read k c.self.invariant was_open c.frames_add_their_records.ensures.good k2 c.into_parts-plan.result.plan c.into_parts-plan.result.write can.applies can.writes c.in-Ok.ensures.writes c.put.ensures.safely (λ long. absurd (done c.in-Ok.field-0 _ (c.in-Ok.ensures.full.1 long))) c.apply.ensures.control c.in-Ok.ensures.lines

pub returns-in-Ok-clause-any_moment : goal.returns-in-Ok-clause-any_moment
returns-in-Ok-clause-any_moment g c =
    let s = c.self.inside in
    let k = kept_of s.node s.store s.content s.closed in
    let k2 = kept_of c.apply.new.self c.put.new.store c.put.new.content s.closed in
    let was_open : s.closed ≡ false = ap (λ (x : KeptView g.row.D.Denot). x.closed) c.self.view_is ∙ c.requires.open in
    let can = rw (← c.self.view_is, c.into_parts-plan.ensures) at c.requires.ready in
    rw (← c.self.view_is, c.into_parts-plan.ensures) (λ honest.
    commit_moments g.D.Disk.view c.frames_add_their_records.ensures.read k c.self.invariant was_open (λ x h. g.met.D.Disk.consistent x h) k2 c.into_parts-plan.result.plan c.into_parts-plan.result.write can.applies.records can.writes c.put.ensures.safely honest)

pub returns-in-Err-Full-clause-any_moment : goal.returns-in-Err-Full-clause-any_moment
returns-in-Err-Full-clause-any_moment g c =
    let s = c.self.inside in
    let k = kept_of s.node s.store s.content s.closed in
    let k2 = kept_of s.node c.put.new.store c.put.new.content s.closed in
    let was_open : s.closed ≡ false = ap (λ (x : KeptView g.row.D.Denot). x.closed) c.self.view_is ∙ c.requires.open in
    let can = rw (← c.self.view_is, c.into_parts-plan.ensures) at c.requires.ready in
    rw (← c.self.view_is, c.into_parts-plan.ensures) (λ honest.
    commit_moments g.D.Disk.view c.frames_add_their_records.ensures.read k c.self.invariant was_open (λ x h. g.met.D.Disk.consistent x h) k2 c.into_parts-plan.result.plan c.into_parts-plan.result.write can.applies.records can.writes c.put.ensures.safely honest)

pub invariant_of-self-in-Err-Disk : goal.invariant_of-self-in-Err-Disk
invariant_of-self-in-Err-Disk g c =
    let s = c.self.inside in
    failed_kept g.D.Disk.view (kept_of s.node s.store s.content s.closed) (kept_of s.node c.put.new.store c.put.new.content true) c.into_parts-plan.result.write c.self.invariant refl refl (c.in-Err-Disk.ensures.disk (ap (λ (e : CommitError). Err e) c.in-Err-Disk.field-0-is)) c.put.ensures.safely

pub returns-clause-any_moment : goal.returns-clause-any_moment
returns-clause-any_moment g c =
    let s = c.self.inside in
    let k = kept_of s.node s.store s.content s.closed in
    let k2 = kept_of s.node c.put.new.store c.put.new.content true in
    let was_open : s.closed ≡ false = ap (λ (x : KeptView g.row.D.Denot). x.closed) c.self.view_is ∙ c.requires.open in
    let can = rw (← c.self.view_is, c.into_parts-plan.ensures) at c.requires.ready in
    rw (← c.self.view_is, c.into_parts-plan.ensures) (λ honest.
    commit_moments g.D.Disk.view c.frames_add_their_records.ensures.read k c.self.invariant was_open (λ x h. g.met.D.Disk.consistent x h) k2 c.into_parts-plan.result.plan c.into_parts-plan.result.write can.applies.records can.writes c.put.ensures.safely honest)

pub invariant_of-self-in-Err-Full : goal.invariant_of-self-in-Err-Full
invariant_of-self-in-Err-Full g c =
    let same = c.in-Err-Full.ensures.unchanged (ap (λ (e : CommitError). Err e) c.in-Err-Full.field-0-is) in
    rw (same.0, same.1) c.self.invariant

pub put-requires-clause-open_store : goal.put-requires-clause-open_store
put-requires-clause-open_store g c =
    let s = c.self.inside in
    let was_open : s.closed ≡ false = ap (λ (x : KeptView g.row.D.Denot). x.closed) c.self.view_is ∙ c.requires.open in
    c.self.invariant.open_store was_open

pub put-requires-clause-open_content : goal.put-requires-clause-open_content
put-requires-clause-open_content g c =
    let s = c.self.inside in
    let was_open : s.closed ≡ false = ap (λ (x : KeptView g.row.D.Denot). x.closed) c.self.view_is ∙ c.requires.open in
    c.self.invariant.open_content was_open

pub put-requires-clause-ready : goal.put-requires-clause-ready
put-requires-clause-ready g c =
    let s = c.self.inside in
    let can = rw (← c.self.view_is, c.into_parts-plan.ensures) at c.requires.ready in
    can_put g.D.Disk.view (kept_of s.node s.store s.content s.closed) c.into_parts-plan.result.plan c.into_parts-plan.result.write can.writes

pub apply-requires : goal.apply-requires
apply-requires g c =
    let can = rw (← c.self.view_is, c.into_parts-plan.ensures) at c.requires.ready in
    can.applies

pub returns-in-Ok-clause-full : goal.returns-in-Ok-clause-full
returns-in-Ok-clause-full g c = rw (← c.self.view_is, c.into_parts-plan.ensures) (λ wrong. absurd (done c.apply.result _ wrong), λ long. absurd (done c.in-Ok.field-0 _ (c.in-Ok.ensures.full.1 long)))

pub returns-in-Err-Full-clause-full : goal.returns-in-Err-Full-clause-full
returns-in-Err-Full-clause-full g c =
    let failed = ap (λ (e : CommitError). Err e) c.in-Err-Full.field-0-is in
    rw (← c.self.view_is, c.into_parts-plan.ensures) (λ _. c.in-Err-Full.ensures.full.0 failed, λ _. refl)

pub returns-in-Err-Full-clause-works : goal.returns-in-Err-Full-clause-works
returns-in-Err-Full-clause-works g c =
    let s = c.self.inside in
    let k = kept_of s.node s.store s.content s.closed in
    let can = rw (← c.self.view_is, c.into_parts-plan.ensures) at c.requires.ready in
    let failed = ap (λ (e : CommitError). Err e) c.in-Err-Full.field-0-is in
    rw (← c.self.view_is) (λ sure. absurd (fits_file g.D.Disk.view k c.into_parts-plan.result.plan c.into_parts-plan.result.write can.writes sure (c.in-Err-Full.ensures.full.0 failed)))

pub returns-clause-full : goal.returns-clause-full
returns-clause-full g c = rw (← c.self.view_is, c.into_parts-plan.ensures) (λ wrong. absurd (commit_unfull Disk refl wrong), λ long. absurd (commit_unfull c.in-Err-Disk.field-0 c.in-Err-Disk.field-0-is (c.in-Err-Disk.ensures.full.1 long)))

pub returns-clause-works : goal.returns-clause-works
returns-clause-works g c =
    let s = c.self.inside in
    let k = kept_of s.node s.store s.content s.closed in
    let can = rw (← c.self.view_is, c.into_parts-plan.ensures) at c.requires.ready in
    rw (← c.self.view_is) (λ sure. c.in-Err-Disk.ensures.works (has_room g.D.Disk.view k c.into_parts-plan.result.plan c.into_parts-plan.result.write can.writes sure))

-- The input was committed

pub returns-in-Ok-clause-committed : goal.returns-in-Ok-clause-committed
returns-in-Ok-clause-committed g c =
    let s = c.self.inside in
    let k = kept_of s.node s.store s.content s.closed in
    let k2 = kept_of c.apply.new.self c.put.new.store c.put.new.content s.closed in
    let was_open : s.closed ≡ false = ap (λ (x : KeptView g.row.D.Denot). x.closed) c.self.view_is ∙ c.requires.open in
    rw (← c.self.view_is, c.into_parts-plan.ensures) (record {
      is_open = was_open;
      control = c.apply.ensures.control;
      outcome_is = c.apply.ensures.outcome;
      node = commit_node g.D.Disk.view c.frames_add_their_records.ensures.read k c.self.invariant was_open k2 c.into_parts-plan.result.plan c.into_parts-plan.result.write c.in-Ok.ensures.writes c.put.ensures.safely c.apply.ensures.control;
      grows = commit_grows g.D.Disk.view k k2 c.into_parts-plan.result.write c.in-Ok.ensures.writes c.put.ensures.safely;
      survives = λ honest.
          kept_survives g.D.Disk.view k2 (invariant_of-self g c) was_open
          (all_honest g.D.Disk.view (disks_of k) (disks_of k2) (write_goes_on g.D.Disk.view k k2 c.into_parts-plan.result.write c.put.ensures.safely) honest);
    })

pub returns-in-Ok-clause-refused : goal.returns-in-Ok-clause-refused
returns-in-Ok-clause-refused g c = tt

pub returns-in-Ok-clause-same : goal.returns-in-Ok-clause-same
returns-in-Ok-clause-same g c =
    let s = c.self.inside in
    let k = kept_of s.node s.store s.content s.closed in
    let k2 = kept_of c.apply.new.self c.put.new.store c.put.new.content s.closed in
    let was_open : s.closed ≡ false = ap (λ (x : KeptView g.row.D.Denot). x.closed) c.self.view_is ∙ c.requires.open in
    let can = rw (← c.self.view_is, c.into_parts-plan.ensures) at c.requires.ready in
    let control = c.apply.ensures.control in
    rw (← c.self.view_is) (record {
      node = record { me = ap (λ (n : Control). n.me) control; header = ap header_of control };
      goes_on = write_goes_on g.D.Disk.view k k2 c.into_parts-plan.result.write c.put.ensures.safely;
      generation = commit_generation g.D.Disk.view c.frames_add_their_records.ensures.read k c.self.invariant was_open k2 c.into_parts-plan.result.plan c.into_parts-plan.result.write can.applies.records can.plain can.writes c.in-Ok.ensures.writes c.put.ensures.safely;
    })

-- The input's file is full

pub returns-in-Err-Full-clause-committed : goal.returns-in-Err-Full-clause-committed
returns-in-Err-Full-clause-committed g c = tt

pub returns-in-Err-Full-clause-refused : goal.returns-in-Err-Full-clause-refused
returns-in-Err-Full-clause-refused g c =
    let failed = ap (λ (e : CommitError). Err e) c.in-Err-Full.field-0-is in
    let same = c.in-Err-Full.ensures.unchanged failed in
    rw (same.0, same.1) c.self.view_is

pub returns-in-Err-Full-clause-same : goal.returns-in-Err-Full-clause-same
returns-in-Err-Full-clause-same g c =
    let s = c.self.inside in
    let k = kept_of s.node s.store s.content s.closed in
    let k2 = kept_of s.node c.put.new.store c.put.new.content s.closed in
    let failed = ap (λ (e : CommitError). Err e) c.in-Err-Full.field-0-is in
    let same = c.in-Err-Full.ensures.unchanged failed in
    rw (← c.self.view_is) (record {
      node = record { me = refl; header = refl };
      goes_on = write_goes_on g.D.Disk.view k k2 c.into_parts-plan.result.write c.put.ensures.safely;
      generation = rw same.0 (λ honest. refl);
    })

-- A disk failed

pub returns-clause-committed : goal.returns-clause-committed
returns-clause-committed g c = tt

pub returns-clause-refused : goal.returns-clause-refused
returns-clause-refused g c =
    let s = c.self.inside in
    let k = kept_of s.node s.store s.content s.closed in
    let k2 = kept_of s.node c.put.new.store c.put.new.content true in
    let failed = ap (λ (e : CommitError). Err e) c.in-Err-Disk.field-0-is in
    rw (← c.self.view_is) (
      record { rose = failed_rose g.D.Disk.view k k2 c.into_parts-plan.result.write (c.in-Err-Disk.ensures.disk failed) c.put.ensures.safely; closes = refl },
      λ honest. ap (λ (ks : List Group). record { control = s.node.control; groups = ks }) (failed_groups g.D.Disk.view k k2 c.into_parts-plan.result.write (c.in-Err-Disk.ensures.disk failed) c.put.ensures.safely honest),
    )

pub returns-clause-same : goal.returns-clause-same
returns-clause-same g c =
    let s = c.self.inside in
    let k = kept_of s.node s.store s.content s.closed in
    let k2 = kept_of s.node c.put.new.store c.put.new.content true in
    let failed = ap (λ (e : CommitError). Err e) c.in-Err-Disk.field-0-is in
    rw (← c.self.view_is) (record {
      node = record { me = refl; header = refl };
      goes_on = write_goes_on g.D.Disk.view k k2 c.into_parts-plan.result.write c.put.ensures.safely;
      generation = λ honest. failed_generation g.D.Disk.view k k2 c.into_parts-plan.result.write (c.in-Err-Disk.ensures.disk failed) c.put.ensures.safely;
    })
