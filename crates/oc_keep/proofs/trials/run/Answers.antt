use Rattle.std.proofs.Common.{◌≡◌, List, Err, sym, ap, subst, ◌∙◌, reverse, arith}
use Rattle.std.proofs.lemmas.List.{reverse-reverse}
use Rattle.oc_model.specs.declared.input.Input.{Input}
use Rattle.oc_keep.specs.declared.errors.KeepError.{KeepError}
use Rattle.oc_keep.specs.KeptView.{disks_of}
use Rattle.oc_keep.proofs.Ends.{ended_all, ended_full}
use Rattle.oc_keep.proofs.Runs.{IsSoFar, all_go_on_then, all_reliable, next_lawful, one_fewer, popped, popped_none, refused_cause, refused_count, refused_full, refused_leaves, so_far_all, so_far_none, so_far_on, taken_full}
use Rattle.oc_keep.proofs.trials.run.Goals as goal

pub returns-in-Err-clause-leaves : goal.returns-in-Err-clause-leaves
returns-in-Err-clause-leaves g c =
    let first = c.args.kept.now in
    let all = c.args.inputs.items in
    let now = c.loop-input.kept in
    let rest = c.pop.new.self.items in
    let so = popped g.D.Disk.view (λ x h. g.met.D.Disk.consistent x h) first all now c.loop-input.inputs.items rest c.in-Some.input c.loop-input.done c.in-Some.ensures.items c.loop-input.invariant.far in
    refused_leaves g.D.Disk.view (λ x h. g.met.D.Disk.consistent x h) first all now c.take.new.self c.in-Some.input (reverse rest) c.loop-input.done c.in-Err.error so c.take.ensures.same.goes_on c.in-Err.ensures.refused (c.take.ensures.any_moment so.is_open)

pub returns-in-Err-clause-full : goal.returns-in-Err-clause-full
returns-in-Err-clause-full g c = λ honest ended.
    let is = ended_full c.in-Err.error ended in
    let first = c.args.kept.now in
    let all = c.args.inputs.items in
    let now = c.loop-input.kept in
    let rest = c.pop.new.self.items in
    let so = popped g.D.Disk.view (λ x h. g.met.D.Disk.consistent x h) first all now c.loop-input.inputs.items rest c.in-Some.input c.loop-input.done c.in-Some.ensures.items c.loop-input.invariant.far in
    let why = taken_full g.D.Disk.view c.in-Err.error c.in-Some.input now c.take.new.self is c.in-Err.ensures.refused in
    refused_full g.D.Disk.view (λ x h. g.met.D.Disk.consistent x h) first all now c.take.new.self c.in-Some.input (reverse rest) c.loop-input.done so why.0 why.1.nothing why.1.still honest

pub loop-input-init : goal.loop-input-init
loop-input-init g c =
    let first = c.args.kept.now in
    let all = c.args.inputs.items in
    let back : reverse c.reverse.new.self.items ≡ all = ap (λ (is : List Input). reverse is) c.reverse.ensures.items ∙ reverse-reverse all in
    record { far = subst (λ (left : List Input). IsSoFar g.D.Disk.view first first all left 0) (sym back) (so_far_none g.D.Disk.view (λ x h. g.met.D.Disk.consistent x h) first all c.requires.open c.requires.survives c.requires.inputs) }

pub take-requires : goal.take-requires
take-requires g c =
    let first = c.args.kept.now in
    let all = c.args.inputs.items in
    let now = c.loop-input.kept in
    let rest = c.pop.new.self.items in
    let so = popped g.D.Disk.view (λ x h. g.met.D.Disk.consistent x h) first all now c.loop-input.inputs.items rest c.in-Some.input c.loop-input.done c.in-Some.ensures.items c.loop-input.invariant.far in
    next_lawful g.D.Disk.view (λ x h. g.met.D.Disk.consistent x h) first all now c.in-Some.input (reverse rest) c.loop-input.done so

pub overflow_add-done : goal.overflow_add-done
overflow_add-done g c =
    let first = c.args.kept.now in
    let all = c.args.inputs.items in
    let now = c.loop-input.kept in
    let rest = c.pop.new.self.items in
    let so = popped g.D.Disk.view (λ x h. g.met.D.Disk.consistent x h) first all now c.loop-input.inputs.items rest c.in-Some.input c.loop-input.done c.in-Some.ensures.items c.loop-input.invariant.far in
    let fewer = refused_count g.D.Disk.view (λ x h. g.met.D.Disk.consistent x h) first all now c.in-Some.input (reverse rest) c.loop-input.done so in
    omega (arith, fewer)

pub returns-in-Err-clause-counted : goal.returns-in-Err-clause-counted
returns-in-Err-clause-counted g c =
    let first = c.args.kept.now in
    let all = c.args.inputs.items in
    let now = c.loop-input.kept in
    let rest = c.pop.new.self.items in
    let so = popped g.D.Disk.view (λ x h. g.met.D.Disk.consistent x h) first all now c.loop-input.inputs.items rest c.in-Some.input c.loop-input.done c.in-Some.ensures.items c.loop-input.invariant.far in
    refused_count g.D.Disk.view (λ x h. g.met.D.Disk.consistent x h) first all now c.in-Some.input (reverse rest) c.loop-input.done so

pub returns-in-Err-clause-cause : goal.returns-in-Err-clause-cause
returns-in-Err-clause-cause g c =
    let first = c.args.kept.now in
    let all = c.args.inputs.items in
    let now = c.loop-input.kept in
    let rest = c.pop.new.self.items in
    let so = popped g.D.Disk.view (λ x h. g.met.D.Disk.consistent x h) first all now c.loop-input.inputs.items rest c.in-Some.input c.loop-input.done c.in-Some.ensures.items c.loop-input.invariant.far in
    refused_cause g.D.Disk.view (λ x h. g.met.D.Disk.consistent x h) first all now c.take.new.self c.in-Some.input (reverse rest) c.loop-input.done c.in-Err.error so
    (λ is. c.in-Err.ensures.closed.0 (ap (λ (x : KeepError). Err x) is)) c.in-Err.ensures.refused

pub returns-in-Err-clause-goes_on : goal.returns-in-Err-clause-goes_on
returns-in-Err-clause-goes_on g c = all_go_on_then g.D.Disk.view (disks_of c.args.kept.now) (disks_of c.loop-input.kept) (disks_of c.take.new.self) c.loop-input.invariant.far.on c.take.ensures.same.goes_on

pub returns-in-Err-clause-works : goal.returns-in-Err-clause-works
returns-in-Err-clause-works g c = λ sure.
    let so = c.loop-input.invariant.far in
    c.in-Err.ensures.works so.is_open (all_reliable g.D.Disk.view (disks_of c.args.kept.now) (disks_of c.loop-input.kept) so.on sure)

pub loop-input-smaller : goal.loop-input-smaller
loop-input-smaller g c = one_fewer c.pop.new.self.len c.loop-input.inputs.len c.in-Some.ensures.cases

pub loop-input-preserved : goal.loop-input-preserved
loop-input-preserved g c =
    let first = c.args.kept.now in
    let all = c.args.inputs.items in
    let now = c.loop-input.kept in
    let rest = c.pop.new.self.items in
    let so = popped g.D.Disk.view (λ x h. g.met.D.Disk.consistent x h) first all now c.loop-input.inputs.items rest c.in-Some.input c.loop-input.done c.in-Some.ensures.items c.loop-input.invariant.far in
    let took = c.in-Ok.ensures.took in
    record { far = so_far_on g.D.Disk.view (λ x h. g.met.D.Disk.consistent x h) first all now c.take.new.self c.in-Some.input (reverse rest) c.loop-input.done so (took.is_open ∙ sym so.is_open) c.take.ensures.same.node c.take.ensures.same.goes_on took.node took.survives }

pub returns-clause-leaves : goal.returns-clause-leaves
returns-clause-leaves g c =
    let first = c.args.kept.now in
    let all = c.args.inputs.items in
    let now = c.loop-input.kept in
    let none = c.in_default.ensures in
    let so = popped_none g.D.Disk.view (λ x h. g.met.D.Disk.consistent x h) first all now c.loop-input.inputs.items c.pop.new.self.items c.loop-input.done c.loop-input.inputs.len none.items none.rest none.cases.0 c.loop-input.invariant.far in
    (so_far_all g.D.Disk.view (λ x h. g.met.D.Disk.consistent x h) first all now c.loop-input.done so).1

pub returns-clause-counted : goal.returns-clause-counted
returns-clause-counted g c =
    let first = c.args.kept.now in
    let all = c.args.inputs.items in
    let now = c.loop-input.kept in
    let none = c.in_default.ensures in
    let so = popped_none g.D.Disk.view (λ x h. g.met.D.Disk.consistent x h) first all now c.loop-input.inputs.items c.pop.new.self.items c.loop-input.done c.loop-input.inputs.len none.items none.rest none.cases.0 c.loop-input.invariant.far in
    (so_far_all g.D.Disk.view (λ x h. g.met.D.Disk.consistent x h) first all now c.loop-input.done so).0

pub returns-clause-cause : goal.returns-clause-cause
returns-clause-cause g c = tt

pub returns-clause-full : goal.returns-clause-full
returns-clause-full g c = λ honest ended. absurd (ended_all ended)

pub returns-clause-goes_on : goal.returns-clause-goes_on
returns-clause-goes_on g c = c.loop-input.invariant.far.on

pub returns-clause-works : goal.returns-clause-works
returns-clause-works g c = λ sure. tt
