-- The peers of a node, one after another.
use Rattle.std.proofs.Common.{◌≡◌, ℕ, ◌+◌, ◌<◌, ◌≤◌, zero, suc, Bool, true, false, Option, Some, None, List, [], ◌∷◌, ◌++◌, length, get_or, drop, refl, sym, ap, ◌∙◌, arith, if◌then◌else◌}
use Rattle.std.specs.Prelude.{◌==◌, is_some, not}
use Rattle.std.proofs.lemmas.List.{append_assoc}
use Rattle.oc_probe.specs.Turns.{peers_from}

-- The peers of a list of places

-- a place that holds something
put_at : {A : Type 0} (me id : ℕ) (places : List (Option A)) (k : ℕ) (o : Option A) → k < length places → get_or places k o ≡ o → is_some o ≡ true → not (id == me) ≡ true
    → peers_from me id (drop k places) ≡ id ∷ peers_from me (id + 1) (drop (suc k) places)
put_at me id [] k o within at holds other = absurd (omega (arith, within))
put_at me id (None ∷ places) zero None within at holds other = cc
put_at me id (None ∷ places) zero (Some x) within at holds other = cc
put_at me id (Some x ∷ places) zero o within at holds other = by_test (id == me) other
  where
    by_test : (own : Bool) → not own ≡ true → (if own then peers_from me (id + 1) places else id ∷ peers_from me (id + 1) places) ≡ id ∷ peers_from me (id + 1) places
    by_test true is = cc
    by_test false is = refl
put_at me id (p ∷ places) (suc k) o within at holds other = put_at me id places k o (omega (arith, within)) at holds other

-- one that holds nothing
passed_at : {A : Type 0} (me id : ℕ) (places : List (Option A)) (k : ℕ) (o : Option A) → k < length places → get_or places k o ≡ o → is_some o ≡ false
    → peers_from me id (drop k places) ≡ peers_from me (id + 1) (drop (suc k) places)
passed_at me id [] k o within at empty = absurd (omega (arith, within))
passed_at me id (None ∷ places) zero o within at empty = refl
passed_at me id (Some x ∷ places) zero None within at empty = cc
passed_at me id (Some x ∷ places) zero (Some y) within at empty = cc
passed_at me id (p ∷ places) (suc k) o within at empty = passed_at me id places k o (omega (arith, within)) at empty

-- that of the node itself
own_at : {A : Type 0} (me id : ℕ) (places : List (Option A)) (k : ℕ) → k < length places → not (id == me) ≡ false
    → peers_from me id (drop k places) ≡ peers_from me (id + 1) (drop (suc k) places)
own_at me id [] k within own = absurd (omega (arith, within))
own_at me id (None ∷ places) zero within own = refl
own_at me id (Some x ∷ places) zero within own = by_test (id == me) own
  where
    by_test : (same : Bool) → not same ≡ false → (if same then peers_from me (id + 1) places else id ∷ peers_from me (id + 1) places) ≡ peers_from me (id + 1) places
    by_test true is = refl
    by_test false is = cc
own_at me id (p ∷ places) (suc k) within own = own_at me id places k (omega (arith, within)) own

-- the peers so far go on with it
abbrev rest_from : {A : Type 0} → ℕ → List (Option A) → ℕ → List ℕ
rest_from me places k = peers_from me (k + 1) (drop k places)

pub put : {A : Type 0} (me k : ℕ) (places : List (Option A)) (o : Option A) (so_far all : List ℕ) → k < length places → get_or places k o ≡ o → is_some o ≡ true → not (k + 1 == me) ≡ true
    → so_far ++ rest_from me places k ≡ all → so_far ++ ((k + 1) ∷ []) ++ rest_from me places (k + 1) ≡ all
put me k places o so_far all within at holds other same =
    let on : suc k ≡ k + 1 = omega arith in
    append_assoc so_far ((k + 1) ∷ []) (rest_from me places (k + 1))
    ∙ ap (λ (n : ℕ). so_far ++ ((k + 1) ∷ peers_from me (k + 1 + 1) (drop n places))) (sym on)
    ∙ ap (λ (xs : List ℕ). so_far ++ xs) (sym (put_at me (k + 1) places k o within at holds other))
    ∙ same

passed : {A : Type 0} (me k : ℕ) (places : List (Option A)) (so_far all : List ℕ) → peers_from me (k + 1) (drop k places) ≡ peers_from me (k + 1 + 1) (drop (suc k) places)
    → so_far ++ rest_from me places k ≡ all → so_far ++ rest_from me places (k + 1) ≡ all
passed me k places so_far all is same =
    let on : suc k ≡ k + 1 = omega arith in
    ap (λ (n : ℕ). so_far ++ peers_from me (k + 1 + 1) (drop n places)) (sym on)
    ∙ ap (λ (xs : List ℕ). so_far ++ xs) (sym is)
    ∙ same

pub pass_empty : {A : Type 0} (me k : ℕ) (places : List (Option A)) (o : Option A) (so_far all : List ℕ) → k < length places → get_or places k o ≡ o → is_some o ≡ false
    → so_far ++ rest_from me places k ≡ all → so_far ++ rest_from me places (k + 1) ≡ all
pass_empty me k places o so_far all within at empty same = passed me k places so_far all (passed_at me (k + 1) places k o within at empty) same

pub pass_own : {A : Type 0} (me k : ℕ) (places : List (Option A)) (so_far all : List ℕ) → k < length places → not (k + 1 == me) ≡ false
    → so_far ++ rest_from me places k ≡ all → so_far ++ rest_from me places (k + 1) ≡ all
pass_own me k places so_far all within own same = passed me k places so_far all (own_at me (k + 1) places k within own) same

-- after the last there is none
pub peers_end : {A : Type 0} (me id : ℕ) (places : List (Option A)) (k : ℕ) → length places ≤ k → peers_from me id (drop k places) ≡ []
peers_end me id [] zero past = refl
peers_end me id [] (suc k) past = refl
peers_end me id (p ∷ places) zero past = absurd (omega (arith, past))
peers_end me id (p ∷ places) (suc k) past = peers_end me id places k (omega (arith, past))
