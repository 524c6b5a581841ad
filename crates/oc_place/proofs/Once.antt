-- A list in which each id occurs once, as it grows.
use Rattle.std.proofs.Common.{◌≡◌, ℕ, zero, suc, ◌+◌, ◌-◌, ◌<◌, ◌≤◌, Bool, true, false, ◌==◌, ◌||◌, nat_le, if◌then◌else◌, List, [], ◌∷◌, ◌++◌, reverse, length, get_or, drop, refl, ap, sym, ◌∙◌, append_assoc, append-nil, arith, add-one}
use Rattle.std.proofs.Math.Seq.{drop-cons}
use Rattle.std.proofs.lemmas.List.{reverse-append}
use Rattle.std.proofs.lemmas.Bool.Decides.{nat_tests}
use Rattle.std.specs.List.{range_with_len}
use Rattle.oc_model.specs.Choice.{each_once, below}
use Rattle.oc_model.specs.Numbers.{has}
use Rattle.oc_place.specs.Once.{put_new, with_once}

-- a disjunction in either order
or_either : (a b : Bool) → (a || b) ≡ (b || a)
or_either true true = refl
or_either true false = refl
or_either false true = refl
or_either false false = refl

-- a disjunction of three parts, however they are grouped
or_group : (a b c : Bool) → ((a || b) || c) ≡ (a || (b || c))
or_group true b c = refl
or_group false b c = refl

-- an id in two lists in a row is in one of them
pub has_append : (xs ys : List ℕ) (x : ℕ) → has (xs ++ ys) x ≡ (has xs x || has ys x)
has_append [] ys x = refl
has_append (y ∷ xs) ys x = ap (λ (b : Bool). y == x || b) (has_append xs ys x) ∙ sym (or_group (y == x) (has xs x) (has ys x))

-- a reversed list has the same ids
pub has_reverse : (xs : List ℕ) (x : ℕ) → has (reverse xs) x ≡ has xs x
has_reverse [] x = refl
has_reverse (y ∷ xs) x =
    ap (λ (zs : List ℕ). has zs x) (reverse-append (y ∷ []) xs)
    ∙ has_append (reverse xs) (y ∷ []) x
    ∙ ap (λ (b : Bool). b || (y == x || false)) (has_reverse xs x)
    ∙ or_either (has xs x) (y == x || false)
    ∙ ap (λ (b : Bool). b || has xs x) (or_either (y == x) false)

-- the ids that were put or are left out
pub has_seen : (out list : List ℕ) (x : ℕ) → has (reverse list ++ out) x ≡ (has out x || has list x)
has_seen out list x = has_append (reverse list) out x ∙ ap (λ (b : Bool). b || has out x) (has_reverse list x) ∙ or_either (has list x) (has out x)

-- an id that was put counts as seen
seen_more : (out list : List ℕ) (x : ℕ) → reverse (list ++ x ∷ []) ++ out ≡ x ∷ (reverse list ++ out)
seen_more out list x = ap (λ (ys : List ℕ). ys ++ out) (reverse-append list (x ∷ []))

-- one put and the rest once, by whether it is left out or there already
once_by : (out list xs : List ℕ) (x : ℕ) (b : Bool) → (has out x || has list x) ≡ b → with_once out (if b then list else list ++ x ∷ []) xs ≡ list ++ (if b then each_once (reverse list ++ out) xs else x ∷ each_once (x ∷ (reverse list ++ out)) xs)
once_by out list xs x true e = refl
once_by out list xs x false e = append_assoc list (x ∷ []) (each_once (reverse (list ++ x ∷ []) ++ out) xs) ∙ ap (λ (seen : List ℕ). list ++ x ∷ each_once seen xs) (seen_more out list x)

-- the rest completes the whole list after one id was put
pub once_more : (out list xs : List ℕ) (x : ℕ) → with_once out (put_new out list x) xs ≡ with_once out list (x ∷ xs)
once_more out list xs x =
    once_by out list xs x (has out x || has list x) refl
    ∙ ap (λ (b : Bool). list ++ (if b then each_once (reverse list ++ out) xs else x ∷ each_once (x ∷ (reverse list ++ out)) xs)) (sym (has_seen out list x))

-- a list to which nothing is added stays
pub once_none : (out list : List ℕ) → with_once out list [] ≡ list
once_none out list = append-nil list

-- two lists one after the other are the two in a row
pub once_append : (out list xs ys : List ℕ) → with_once out (with_once out list xs) ys ≡ with_once out list (xs ++ ys)
once_append out list [] ys = ap (λ (l : List ℕ). with_once out l ys) (once_none out list)
once_append out list (x ∷ xs) ys =
    ap (λ (l : List ℕ). with_once out l ys) (sym (once_more out list xs x))
    ∙ once_append out (put_new out list x) xs ys
    ∙ once_more out list (xs ++ ys) x

-- a step along a list: the rest begins with the one that is put
pub step_all : (out list new ids : List ℕ) (i x : ℕ) (whole : List ℕ) → i < length ids → x ≡ get_or ids i x → new ≡ put_new out list x → with_once out list (drop i ids) ≡ whole → with_once out new (drop (i + 1) ids) ≡ whole
step_all out list new ids i x whole short here e so_far =
    let rest : drop i ids ≡ x ∷ drop (i + 1) ids = rw (add-one, drop-cons ids i x) (ap (λ (y : ℕ). y ∷ drop (suc i) ids) (sym here)) in
    ap (λ (l : List ℕ). with_once out l (drop (i + 1) ids)) e
    ∙ once_more out list (drop (i + 1) ids) x
    ∙ ap (λ (ys : List ℕ). with_once out list ys) (sym rest)
    ∙ so_far

-- a step along the chain
pub step_chain : (out list new : List ℕ) (chain i : ℕ) (whole : List ℕ) → i < chain → new ≡ put_new out list (i + 1) → with_once out list (range_with_len (1 + i) (chain - i)) ≡ whole → with_once out new (range_with_len (1 + (i + 1)) (chain - (i + 1))) ≡ whole
step_chain out list new chain i whole short e so_far =
    let m = chain - (i + 1) in
    let more : chain - i ≡ suc m = omega arith in
    let here : i + 1 ≡ 1 + i = omega arith in
    let next : 1 + (i + 1) ≡ (1 + i) + 1 = omega arith in
    ap (λ (l : List ℕ). with_once out l (range_with_len (1 + (i + 1)) m)) e
    ∙ once_more out list (range_with_len (1 + (i + 1)) m) (i + 1)
    ∙ ap (λ (x : ℕ). with_once out list (x ∷ range_with_len (1 + (i + 1)) m)) here
    ∙ ap (λ (a : ℕ). with_once out list ((1 + i) ∷ range_with_len a m)) next
    ∙ ap (λ (n : ℕ). with_once out list (range_with_len (1 + i) n)) (sym more)
    ∙ so_far

-- a step towards the first member
pub step_earlier : (out list new : List ℕ) (n : ℕ) (whole : List ℕ) → 1 < n → new ≡ put_new out list (n - 1) → with_once out list (below n) ≡ whole → with_once out new (below (n - 1)) ≡ whole
step_earlier out list new zero whole past e so_far = absurd (omega arith)
step_earlier out list new (suc zero) whole past e so_far = absurd (omega arith)
step_earlier out list new (suc (suc k)) whole past e so_far =
    let one_less : suc (suc k) - 1 ≡ suc k = omega arith in
    ap (λ (m : ℕ). with_once out new (below m)) one_less
    ∙ ap (λ (l : List ℕ). with_once out l (below (suc k))) (e ∙ ap (λ (m : ℕ). put_new out list m) one_less)
    ∙ once_more out list (below (suc k)) (suc k)
    ∙ so_far

-- no id is below the first
pub below_first : (n : ℕ) → n ≤ 1 → below n ≡ []
below_first zero h = refl
below_first (suc zero) h = refl
below_first (suc (suc n)) h = absurd (omega arith)

-- a node past the chain is no member
pub is_past : (me chain : ℕ) → chain < me → nat_le me chain ≡ false
is_past me chain h = grind (arith, nat_tests)
