-- Rows that were copied, and the seconds of the nodes of which rows are news, noted one after the other.
use Rattle.std.proofs.Common.{◌≡◌, ℕ, zero, suc, ◌+◌, ◌<◌, Bool, true, false, if◌then◌else◌, Option, None, Some, IfSome, List, [], ◌∷◌, ◌++◌, length, take, drop, set, refl, ap, sym, subst, arith}
use Rattle.oc_base.specs.declared.cert.Cert.{Cert}
use Rattle.oc_model.specs.Table.{newest}
use Rattle.oc_updown.specs.TableView.{AreRows, entries_of}
use Rattle.oc_updown.proofs.Entries.{newest_fits}
use Rattle.oc_routes.specs.Tallies.{noted_from}

-- the row of a node is about the node
pub row_is_of : (rows : List (Option Cert)) (y : ℕ) (row : Option Cert) → AreRows rows → row ≡ newest (entries_of rows) y → IfSome row (λ k. k.subject ≡ y)
row_is_of rows y None fit e = tt
row_is_of rows y (Some k) fit e = (newest_fits (length rows) 1 y rows k fit (sym e)).0

-- the next node is heard of, so its second is noted
pub noted_more : (holds : ℕ → Bool) (second x y i : ℕ) (heard : List (Option ℕ)) → i < length heard → y ≡ x + i → holds y ≡ true
    → set (noted_from holds second x (take i heard) ++ drop i heard) i (Some second) ≡ noted_from holds second x (take (i + 1) heard) ++ drop (i + 1) heard
noted_more holds second x y i [] within at is = absurd (omega arith)
noted_more holds second x y zero (h ∷ rest) within at is =
    let e : y ≡ x = omega arith in
    let here : holds x ≡ true = subst (λ (z : ℕ). holds z ≡ true) e is in
    rw here refl
noted_more holds second x y (suc i) (h ∷ rest) within at is =
    let next : suc i + 1 ≡ suc (i + 1) = omega arith in
    rw next (ap (λ (hs : List (Option ℕ)). (if holds x then Some second else h) ∷ hs) (noted_more holds second (x + 1) y i rest (omega arith) (omega arith) is))

-- the next node is not heard of
pub noted_less : (holds : ℕ → Bool) (second x y i : ℕ) (heard : List (Option ℕ)) → i < length heard → y ≡ x + i → holds y ≡ false
    → noted_from holds second x (take i heard) ++ drop i heard ≡ noted_from holds second x (take (i + 1) heard) ++ drop (i + 1) heard
noted_less holds second x y i [] within at is = absurd (omega arith)
noted_less holds second x y zero (h ∷ rest) within at is =
    let e : y ≡ x = omega arith in
    let here : holds x ≡ false = subst (λ (z : ℕ). holds z ≡ false) e is in
    rw here refl
noted_less holds second x y (suc i) (h ∷ rest) within at is =
    let next : suc i + 1 ≡ suc (i + 1) = omega arith in
    rw next (ap (λ (hs : List (Option ℕ)). (if holds x then Some second else h) ∷ hs) (noted_less holds second (x + 1) y i rest (omega arith) (omega arith) is))

-- a list is as long with seconds noted in its front
pub noted_long : (holds : ℕ → Bool) (second x i : ℕ) (heard : List (Option ℕ)) → length (noted_from holds second x (take i heard) ++ drop i heard) ≡ length heard
noted_long holds second x zero heard = refl
noted_long holds second x (suc i) [] = refl
noted_long holds second x (suc i) (h ∷ rest) = ap (λ (n : ℕ). suc n) (noted_long holds second (x + 1) i rest)
