use Rattle.std.proofs.Common.{ℕ, ◌≡◌, List, [], ◌∷◌, ◌++◌, length, reverse, refl, sym, ◌∙◌, ap, subst, arith}
use Rattle.std.proofs.lemmas.List.{reverse-append, nil_from_length}
use Rattle.oc_io.specs.Calls.{Fits, Call, crashed}
use Rattle.oc_io.specs.DiskLog.{told}
use Rattle.oc_io.specs.DiskLogView.{DiskLogView}
use Rattle.oc_io.specs.declared.disk_log.LoggedCall.{LoggedCall}
use Rattle.oc_io.proofs.LogBlots.{blotted_by, crashed-told, AreWithin, AreWithin-told, length-blotted}
use Rattle.oc_io.proofs.disk_log.DiskLog.blot.Goals as goal

-- the newest step comes first
turned : (steps rest : List LoggedCall) (last step : LoggedCall) → steps ≡ rest ++ last ∷ [] → last ≡ step → reverse steps ≡ step ∷ reverse rest
turned steps rest last step popped is =
    ap reverse popped ∙ reverse-append rest (last ∷ []) ∙ ap (λ (s : LoggedCall). s ∷ reverse rest) is

pub loop-step-init : goal.loop-step-init
loop-step-init c =
    let past = ap (λ (l : DiskLogView). l.past) (sym c.self.view_is) in
    let fits = subst (Fits c.args.bytes.now) past c.requires in
    record {
      rest = refl;
      within = AreWithin-told (length c.args.bytes.now) (reverse c.self.inside.steps.items) c.self.inside.pool.items c.args.bytes.now (omega arith) fits;
    }

pub fill-requires : goal.fill-requires
fill-requires c =
    (subst (AreWithin (length c.loop-step.bytes)) (turned _ _ _ _ c.in-Some.ensures.items c.in-Write.is) c.loop-step.invariant.within).0

pub loop-step-preserved : goal.loop-step-preserved
loop-step-preserved c =
    let first = turned _ _ _ _ c.in-Some.ensures.items c.in-Write.is in
    let left = reverse c.pop.new.self.items in
    let within = subst (AreWithin (length c.loop-step.bytes)) first c.loop-step.invariant.within in
    record {
      rest = ap (blotted_by c.args.image left) c.fill.ensures ∙ sym (ap (λ (s : List LoggedCall). blotted_by c.args.image s c.loop-step.bytes) first) ∙ c.loop-step.invariant.rest;
      within = subst (λ (n : ℕ). AreWithin n left) (sym (ap length c.fill.ensures ∙ length-blotted c.in-Write.at c.in-Write.count c.args.image c.loop-step.bytes)) within.1;
    }

-- all steps of the record
whole : (image : ℕ) (steps : List LoggedCall) (pool bytes : List ℕ) (past : List Call) → told steps pool ≡ past → blotted_by image steps bytes ≡ crashed image past bytes
whole image steps pool bytes past is =
    sym (crashed-told image steps pool bytes) ∙ ap (λ (p : List Call). crashed image p bytes) is

pub returns : goal.returns
returns c =
    let past = ap (λ (l : DiskLogView). l.past) c.self.view_is in
    let none : reverse c.loop-step.steps.items ≡ [] = ap reverse (nil_from_length c.loop-step.steps.items (omega (arith, c.in_default.ensures.cases, c.loop-step.steps.ok.0))) in
    sym (ap (λ (s : List LoggedCall). blotted_by c.args.image s c.loop-step.bytes) none) ∙ c.loop-step.invariant.rest
    ∙ whole c.args.image (reverse c.self.inside.steps.items) c.self.inside.pool.items c.args.bytes.now c.args.self.past past

pub returns-in-Sync : goal.returns-in-Sync
returns-in-Sync c =
    let past = ap (λ (l : DiskLogView). l.past) c.self.view_is in
    let first = turned _ _ _ _ c.in-Some.ensures.items c.in-Sync.is in
    sym (ap (λ (s : List LoggedCall). blotted_by c.args.image s c.loop-step.bytes) first) ∙ c.loop-step.invariant.rest
    ∙ whole c.args.image (reverse c.self.inside.steps.items) c.self.inside.pool.items c.args.bytes.now c.args.self.past past
