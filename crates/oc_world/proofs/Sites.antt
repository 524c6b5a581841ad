-- Processes by their places, as the model's and as nodes on their files.
use Rattle.std.proofs.Common.{◌≡◌, ℕ, zero, suc, ◌+◌, ◌-◌, ◌<◌, ◌≤◌, false, is_some, Result, Ok, Err, OnErr, Option, Some, None, List, [], ◌∷◌, ◌++◌, length, slice_set, get_or, map, refl, sym, ap, subst, ◌∙◌, arith}
use Rattle.std.proofs.lemmas.List.{length-map}
use Rattle.oc_io.specs.MemDiskView.{MemDiskView}
use Rattle.oc_keep.specs.KeptView.{KeptView}
use Rattle.oc_model.specs.declared.input.Input.{Input}
use Rattle.oc_model.specs.declared.message.Message.{Message}
use Rattle.oc_model.specs.World.{Process}
use Rattle.oc_world.specs.ProcessView.{AreRipe, ProcessView, Renews}
use Rattle.oc_world.proofs.Turns.{set_itself}
use Rattle.oc_world.specs.World.{RenewsAt, processes_of, seen_as}

-- the model's process at a place
pub got : (ps : List ProcessView) (i : ℕ) (p : ProcessView) → p ≡ get_or ps i p → p.process ≡ get_or (processes_of ps) i p.process
got [] i p is = refl
got (q ∷ ps) zero p is = ap (λ (r : ProcessView). r.process) is
got (q ∷ ps) (suc i) p is = got ps i p is

-- the model's processes after one was written at a place
pub put : (ps : List ProcessView) (i : ℕ) (q : ProcessView) → processes_of (slice_set ps i q) ≡ slice_set (processes_of ps) i q.process
put [] i q = refl
put (p ∷ ps) zero q = refl
put (p ∷ ps) (suc i) q = ap (λ (l : List Process). p.process ∷ l) (put ps i q)

-- one that stays as it is leaves them
pub unchanged : (ps : List ProcessView) (i : ℕ) (p q : ProcessView) → p ≡ get_or ps i p → q.process ≡ p.process → processes_of (slice_set ps i q) ≡ processes_of ps
unchanged ps i p q here same = put ps i q ∙ (ap (λ (r : Process). slice_set (processes_of ps) i r) same ∙ set_itself (processes_of ps) i p.process (got ps i p here))

-- the promise of a call that failed
pub on_err : {A E : Type 0} (r : Result A E) (P : Type 0) → P → OnErr r P
on_err (Ok a) P said = tt
on_err (Err e) P said = said

-- the model's processes with one more at the end
pub one_behind : (ps : List ProcessView) (q : ProcessView) → processes_of (ps ++ q ∷ []) ≡ processes_of ps ++ q.process ∷ []
one_behind [] q = refl
one_behind (p ∷ ps) q = ap (λ (l : List Process). p.process ∷ l) (one_behind ps q)

-- the node on its files at a place
abbrev kept_of : List ProcessView → List (Option (KeptView MemDiskView))
kept_of ps = map (λ p. p.kept) ps

kept_got : (ps : List ProcessView) (i : ℕ) (p : ProcessView) → i < length ps → p ≡ get_or ps i p → get_or (kept_of ps) i None ≡ p.kept
kept_got [] i p within is = absurd (omega (arith, within))
kept_got (q ∷ ps) zero p within is = ap (λ (r : ProcessView). r.kept) (sym is)
kept_got (q ∷ ps) (suc i) p within is = kept_got ps i p (omega (arith, within)) is

-- the nodes on their files after one was written at a place
kept_put : (ps : List ProcessView) (i : ℕ) (q : ProcessView) → i < length ps → get_or (kept_of (slice_set ps i q)) i None ≡ q.kept
kept_put [] i q within = absurd (omega (arith, within))
kept_put (p ∷ ps) zero q within = refl
kept_put (p ∷ ps) (suc i) q within = kept_put ps i q (omega (arith, within))

-- files that are turned over at a place
pub renewed : (ps : List ProcessView) (old new : List Message) (x i : ℕ) (p q : ProcessView) (input : Input) → i + 1 ≡ x → x ≤ length (processes_of ps) → p ≡ get_or ps i p → Renews p.kept q.kept
    → RenewsAt (Some (record { at = x; input = input })) (seen_as ps old) (seen_as (slice_set ps i q) new)
renewed ps old new x i p q input at within here renews =
    let place : i ≡ x - 1 = omega (arith, at) in
    let inside : i < length ps = omega (arith, at, within, length-map ps (λ (r : ProcessView). r.process)) in
    let before : get_or (kept_of ps) (x - 1) None ≡ p.kept = subst (λ (j : ℕ). get_or (kept_of ps) j None ≡ p.kept) place (kept_got ps i p inside here) in
    let after : get_or (kept_of (slice_set ps i q)) (x - 1) None ≡ q.kept = subst (λ (j : ℕ). get_or (kept_of (slice_set ps i q)) j None ≡ q.kept) place (kept_put ps i q inside) in
    subst (λ (k : Option (KeptView MemDiskView)). Renews k (get_or (kept_of (slice_set ps i q)) (x - 1) None)) (sym before)
    (subst (λ (k : Option (KeptView MemDiskView)). Renews p.kept k) (sym after) renews)

-- no files of a node that is down are ripe
not_ripe : (k : Option (KeptView MemDiskView)) → is_some k ≡ false → AreRipe k → ⊥
not_ripe None down ripe = ripe
not_ripe (Some k) down ripe = absurd cc

-- an input to a node that is down turns no files over
pub idle : (ps : List ProcessView) (net : List Message) (x i : ℕ) (p : ProcessView) (input : Input) → i + 1 ≡ x → x ≤ length (processes_of ps) → p ≡ get_or ps i p → is_some p.kept ≡ false
    → RenewsAt (Some (record { at = x; input = input })) (seen_as ps net) (seen_as ps net)
idle ps net x i p input at within here down =
    let place : i ≡ x - 1 = omega (arith, at) in
    let inside : i < length ps = omega (arith, at, within, length-map ps (λ (r : ProcessView). r.process)) in
    let found : get_or (kept_of ps) (x - 1) None ≡ p.kept = subst (λ (j : ℕ). get_or (kept_of ps) j None ≡ p.kept) place (kept_got ps i p inside here) in
    λ ripe. absurd (not_ripe p.kept down (subst AreRipe found ripe))
