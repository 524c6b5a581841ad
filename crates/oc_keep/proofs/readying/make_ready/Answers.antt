use Rattle.std.proofs.Common.{ℕ, inr, false, rules, List, refl, ap, ◌∙◌, ⊎_elim}
use Rattle.oc_content.specs.ContentFile.{groups_in}
use Rattle.oc_node.specs.Planned.{PlanView}
use Rattle.oc_io.proofs.DiskMoments.{still_honest}
use Rattle.oc_keep.specs.KeptView.{kept_of}
use Rattle.oc_keep.specs.ReadyView.{outcome_of}
use Rattle.oc_keep.specs.Writing.{fetched}
use Rattle.oc_keep.proofs.Ends.{done}
use Rattle.oc_keep.proofs.Stays.{keeps_none, puts_none}
use Rattle.oc_keep.proofs.Steps.{made_commits, made_control, made_full, made_plain, made_step, none_then, plan_keeps, plan_wants, puts_then, still_shelved, wanting_fits}
use Rattle.oc_keep.proofs.readying.make_ready.Goals as goal

pub writing-requires-clause-keeps : goal.writing-requires-clause-keeps
writing-requires-clause-keeps g c =
    let n = c.args.node.now.control in
    let made = rw c.groups.ensures.lines at c.in_ok-plan.ensures.made.control in
    plan_keeps n c.in_ok-plan.plan _ c.args.content.now.shelves _ made (c.prepare_refuses_nothing_that_is_kept.ensures.keeps n.nodes n c.args.content.now.shelves c.args.input.now c.requires.input c.groups.ensures.shelf)

pub returns-in_ok-of-in-Ok-fetch-clause-step : goal.returns-in_ok-of-in-Ok-fetch-clause-step
returns-in_ok-of-in-Ok-fetch-clause-step g c = rw c.in_ok-of-in-Ok-fetch.ensures (λ honest.
    let view = g.D.Disk.view in
    let n = c.args.node.now.control in
    let old = c.args.content.now in
    let new = c.writing.new.content in
    let p = c.in_ok-plan.plan in
    let made = rw c.groups.ensures.lines at c.in_ok-plan.ensures.made.control in
    let keeps = plan_keeps n p _ old.shelves _ made (c.prepare_refuses_nothing_that_is_kept.ensures.keeps n.nodes n old.shelves c.args.input.now c.requires.input c.groups.ensures.shelf) in
    let bytes = c.in-Ok-fetch.ensures.fetched.groups (still_honest (view old.journal.disk) (view new.journal.disk) c.writing.ensures.content.journal.disk.goes_on honest) in
    ap (λ (q : PlanView). outcome_of (record { control = n; groups = groups_in old.journal.frames }) (record { plan = q; write = c.in-Ok.write }))
    (bytes ∙ ap (λ (bodies : List (List ℕ)). fetched (groups_in bodies) p.wants p) (c.writing.ensures.content.journal.frames honest))
    ∙ made_step view c.writing.new.store new n old.journal.frames old.shelves c.args.input.now p c.in-Ok.write (c.groups.ensures.content honest) made keeps c.in-Ok.ensures.write)

pub returns-in_ok-of-in-Ok-fetch-clause-commits : goal.returns-in_ok-of-in-Ok-fetch-clause-commits
returns-in_ok-of-in-Ok-fetch-clause-commits g c = rw c.in_ok-of-in-Ok-fetch.ensures (let made = rw c.groups.ensures.lines at c.in_ok-plan.ensures.made.control in
    made_commits g.D.Disk.view c.plan.new.self c.writing.new.store c.writing.new.content c.fetch.new.content c.args.content.now.shelves c.in_ok-plan.plan c.fetch.new.plan _ c.in-Ok.write
    c.in_ok-plan.ensures.made.applies (made_plain c.args.node.now.control c.args.content.now.shelves c.args.input.now c.in_ok-plan.plan made) c.fetch.ensures.rest c.fetch.ensures.content c.in-Ok.ensures.write)

pub returns-in_ok-of-in-Ok-fetch-clause-control : goal.returns-in_ok-of-in-Ok-fetch-clause-control
returns-in_ok-of-in-Ok-fetch-clause-control g c = rw c.in_ok-of-in-Ok-fetch.ensures (let made = rw c.groups.ensures.lines at c.in_ok-plan.ensures.made.control in
    made_control g.D.Disk.view c.writing.new.store c.writing.new.content c.args.node.now.control c.args.content.now.shelves c.args.input.now c.in_ok-plan.plan c.fetch.new.plan c.in-Ok.write
    made c.fetch.ensures.rest c.in-Ok-fetch.ensures.fetched.sends c.in-Ok.ensures.write)

pub returns-in_ok-of-in-Ok-fetch-clause-full : goal.returns-in_ok-of-in-Ok-fetch-clause-full
returns-in_ok-of-in-Ok-fetch-clause-full g c = rw c.in_ok-of-in-Ok-fetch.ensures (let made = rw c.groups.ensures.lines at c.in_ok-plan.ensures.made.control in
    made_full g.D.Disk.view c.args.node.now c.plan.new.self c.args.store.now c.writing.new.store c.args.content.now c.writing.new.content c.fetch.new.content c.args.input.now c.in_ok-plan.plan c.in-Ok.write
    made c.writing.ensures.store (c.fetch.ensures.content.journal.end ∙ c.writing.ensures.content.journal.end) c.in-Ok.ensures.write)

pub plan-requires-clause-input : goal.plan-requires-clause-input
plan-requires-clause-input g c = c.requires.input

pub plan-requires-clause-log : goal.plan-requires-clause-log
plan-requires-clause-log g c = c.requires.log

pub plan-requires-clause-shelf : goal.plan-requires-clause-shelf
plan-requires-clause-shelf g c = rw c.groups.ensures.lines c.groups.ensures.shelf

pub writing-requires-clause-spelled : goal.writing-requires-clause-spelled
writing-requires-clause-spelled g c = c.spellings_are_read.ensures.spelled _ c.in_ok-plan.plan.records c.in_ok-plan.ensures.made.applies.records

pub writing-requires-clause-fits : goal.writing-requires-clause-fits
writing-requires-clause-fits g c = c.in_ok-plan.ensures.made.frame

pub writing-requires-clause-one_file : goal.writing-requires-clause-one_file
writing-requires-clause-one_file g c = c.in_ok-plan.ensures.made.one_file

pub fetch-requires-clause-held : goal.fetch-requires-clause-held
fetch-requires-clause-held g c =
    let n = c.args.node.now.control in
    let old = c.args.content.now in
    let made = rw c.groups.ensures.lines at c.in_ok-plan.ensures.made.control in
    rw c.writing.ensures.content.shelves (plan_wants n c.in_ok-plan.plan _ old.shelves made (c.prepare_refuses_nothing_that_is_kept.ensures.wants n old.shelves c.args.input.now c.groups.ensures.shelf))

pub fetch-requires-clause-shelved : goal.fetch-requires-clause-shelved
fetch-requires-clause-shelved g c = still_shelved g.D.Disk.view c.args.content.now c.writing.new.content c.writing.ensures.content c.groups.ensures.content

pub fetch-requires-clause-wanting : goal.fetch-requires-clause-wanting
fetch-requires-clause-wanting g c = c.in_ok-plan.ensures.made.wants

pub returns-in_err-plan-clause-none_failed : goal.returns-in_err-plan-clause-none_failed
returns-in_err-plan-clause-none_failed g c = inr (record { closed = refl; no_fault = refl })

pub returns-in-Err-clause-none_failed : goal.returns-in-Err-clause-none_failed
returns-in-Err-clause-none_failed g c = inr c.writing.ensures.none_failed

pub returns-in_ok-of-in-Ok-fetch-clause-none_failed : goal.returns-in_ok-of-in-Ok-fetch-clause-none_failed
returns-in_ok-of-in-Ok-fetch-clause-none_failed g c =
    inr (⊎_elim (λ wrong. absurd (done _ _ wrong))
    (λ none. none_then g.D.Disk.view c.args.content.now.journal c.writing.new.content.journal c.fetch.new.content.journal c.writing.ensures.none_failed none) c.in-Ok-fetch.ensures.none_failed)

pub returns-in_ok-of-in-Ok-fetch-clause-disk : goal.returns-in_ok-of-in-Ok-fetch-clause-disk
returns-in_ok-of-in-Ok-fetch-clause-disk g c = λ wrong. absurd (done _ _ wrong)

pub returns-in-Err-clause-step : goal.returns-in-Err-clause-step
returns-in-Err-clause-step g c = tt

pub returns-in-Err-clause-commits : goal.returns-in-Err-clause-commits
returns-in-Err-clause-commits g c = tt

pub returns-in-Err-clause-control : goal.returns-in-Err-clause-control
returns-in-Err-clause-control g c = tt

pub returns-in-Err-clause-full : goal.returns-in-Err-clause-full
returns-in-Err-clause-full g c = tt

pub returns-in-Err-fetch-clause-step : goal.returns-in-Err-fetch-clause-step
returns-in-Err-fetch-clause-step g c = tt

pub returns-in-Err-fetch-clause-commits : goal.returns-in-Err-fetch-clause-commits
returns-in-Err-fetch-clause-commits g c = tt

pub returns-in-Err-fetch-clause-control : goal.returns-in-Err-fetch-clause-control
returns-in-Err-fetch-clause-control g c = tt

pub returns-in-Err-fetch-clause-full : goal.returns-in-Err-fetch-clause-full
returns-in-Err-fetch-clause-full g c = tt

pub returns-in_err-plan-clause-nothing : goal.returns-in_err-plan-clause-nothing
returns-in_err-plan-clause-nothing g c = record { control = c.plan.ensures.node; store = keeps_none g.D.Disk.view c.args.store.now; content = puts_none g.D.Disk.view c.args.content.now }

pub returns-in-Err-clause-nothing : goal.returns-in-Err-clause-nothing
returns-in-Err-clause-nothing g c = record { control = c.plan.ensures.node; store = c.writing.ensures.store; content = c.writing.ensures.content }

pub returns-in-Err-fetch-clause-nothing : goal.returns-in-Err-fetch-clause-nothing
returns-in-Err-fetch-clause-nothing g c = record { control = c.plan.ensures.node; store = c.writing.ensures.store; content = puts_then g.D.Disk.view c.args.content.now c.writing.new.content c.fetch.new.content (λ x h. g.met.D.Disk.consistent x h) c.writing.ensures.content c.fetch.ensures.content }

pub returns-in_ok-of-in-Ok-fetch-clause-nothing : goal.returns-in_ok-of-in-Ok-fetch-clause-nothing
returns-in_ok-of-in-Ok-fetch-clause-nothing g c = record { control = c.plan.ensures.node; store = c.writing.ensures.store; content = puts_then g.D.Disk.view c.args.content.now c.writing.new.content c.fetch.new.content (λ x h. g.met.D.Disk.consistent x h) c.writing.ensures.content c.fetch.ensures.content }

pub returns-in-Err-fetch-clause-disk : goal.returns-in-Err-fetch-clause-disk
returns-in-Err-fetch-clause-disk g c = λ failed.
    let made = rw c.groups.ensures.lines at c.in_ok-plan.ensures.made.control in
    (search rules, λ full. wanting_fits (kept_of c.args.node.now c.args.store.now c.args.content.now false) c.args.input.now c.in_ok-plan.plan made c.in-Err-fetch.ensures.wanting full)

-- No memory was left to hand the result on

pub returns-in_err-of-in-Ok-fetch-clause-none_failed : goal.returns-in_err-of-in-Ok-fetch-clause-none_failed
returns-in_err-of-in-Ok-fetch-clause-none_failed g c =
    inr (⊎_elim (λ wrong. absurd (done _ _ wrong))
    (λ none. none_then g.D.Disk.view c.args.content.now.journal c.writing.new.content.journal c.fetch.new.content.journal c.writing.ensures.none_failed none) c.in-Ok-fetch.ensures.none_failed)

pub returns-in_err-of-in-Ok-fetch-clause-nothing : goal.returns-in_err-of-in-Ok-fetch-clause-nothing
returns-in_err-of-in-Ok-fetch-clause-nothing g c = record { control = c.plan.ensures.node; store = c.writing.ensures.store; content = puts_then g.D.Disk.view c.args.content.now c.writing.new.content c.fetch.new.content (λ x h. g.met.D.Disk.consistent x h) c.writing.ensures.content c.fetch.ensures.content }
