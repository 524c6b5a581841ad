-- The nodes that are asked for a place.
use Rattle.std.proofs.Common.{◌≡◌, ◌≢◌, ℕ, zero, suc, ◌+◌, ◌<◌, ◌≤◌, ◌↔◌, Bool, true, false, ◌==◌, ◌||◌, nat_le, if◌then◌else◌, Option, Some, None, List, [], ◌∷◌, ◌++◌, ◌⊎◌, inl, inr, refl, ap, sym, subst, ◌∙◌, arith, option_to_list}
use Rattle.std.proofs.lemmas.Bool.Decides.{nat_tests}
use Rattle.std.specs.List.{range_with_len}
use Rattle.oc_model.specs.Choice.{each_once, below, ask_order}
use Rattle.oc_model.specs.Numbers.{has, IsAmong}
use Rattle.oc_place.proofs.Causes.{at_or_behind}
use Rattle.oc_place.proofs.Once.{is_past}
use Rattle.oc_place.specs.Asked.{IsOnce, MayBeAsked, IsNotLeftOut}

-- a disjunction that is false has two false parts
neither : (a b : Bool) → (a || b) ≡ false → (a ≡ false) × (b ≡ false)
neither true b h = absurd cc
neither false b h = (refl, h)

-- one of those taken once, by whether the first is left out
once_among_by : (out : List ℕ) (y : ℕ) (xs : List ℕ) (x : ℕ) (b : Bool) → has out y ≡ b → (IsAmong x (each_once out xs) → IsAmong x xs × (has out x ≡ false)) → (IsAmong x (each_once (y ∷ out) xs) → IsAmong x xs × (has (y ∷ out) x ≡ false)) → IsAmong x (if b then each_once out xs else y ∷ each_once (y ∷ out) xs) → ((y ≡ x) ⊎ IsAmong x xs) × (has out x ≡ false)
once_among_by out y xs x true e old new h = let r = old h in (inr r.0, r.1)
once_among_by out y xs x false e old new (inl same) = (inl same, subst (λ (z : ℕ). has out z ≡ false) same e)
once_among_by out y xs x false e old new (inr h) = let r = new h in (inr r.0, (neither (y == x) (has out x) r.1).1)

-- an id that is taken once is in the list, and not left out
pub once_among : (out xs : List ℕ) (x : ℕ) → IsAmong x (each_once out xs) → IsAmong x xs × (has out x ≡ false)
once_among out [] x h = absurd h
once_among out (y ∷ xs) x h = once_among_by out y xs x (has out y) refl (once_among out xs x) (once_among (y ∷ out) xs x) h

-- one of the first and of the rest, which is not left out
one_first : (y x : ℕ) (out xs : List ℕ) (b : Bool) → (y == x) ≡ b → has out x ≡ false → (has (y ∷ out) x ≡ false → IsAmong x (each_once (y ∷ out) xs)) → (y ≡ x) ⊎ IsAmong x (each_once (y ∷ out) xs)
one_first y x out xs true e free new = inl (grind (arith, nat_tests))
one_first y x out xs false e free new = inr (new (ap (λ (b : Bool). b || has out x) e ∙ free))

-- one that is not left out is taken, by whether the first is left out
among_once_by : (out : List ℕ) (y : ℕ) (xs : List ℕ) (x : ℕ) (b : Bool) → has out y ≡ b → has out x ≡ false → (IsAmong x xs → IsAmong x (each_once out xs)) → (IsAmong x xs → has (y ∷ out) x ≡ false → IsAmong x (each_once (y ∷ out) xs)) → (y ≡ x) ⊎ IsAmong x xs → IsAmong x (if b then each_once out xs else y ∷ each_once (y ∷ out) xs)
among_once_by out y xs x true e free old new (inl same) = absurd (let f : true ≡ false = sym e ∙ (ap (λ (z : ℕ). has out z) same ∙ free) in cc)
among_once_by out y xs x true e free old new (inr h) = old h
among_once_by out y xs x false e free old new (inl same) = inl same
among_once_by out y xs x false e free old new (inr h) = one_first y x out xs (y == x) refl free (new h)

-- each of those that is not left out is taken
pub among_once : (out xs : List ℕ) (x : ℕ) → IsAmong x xs → has out x ≡ false → IsAmong x (each_once out xs)
among_once out [] x h free = h
among_once out (y ∷ xs) x h free = among_once_by out y xs x (has out y) refl free (λ k. among_once out xs x k free) (among_once (y ∷ out) xs x) h

-- one is taken in front of others, by whether it is left out
taken_once_by : (out : List ℕ) (y : ℕ) (xs : List ℕ) (b : Bool) → IsOnce (each_once out xs) → IsOnce (each_once (y ∷ out) xs) → IsOnce (if b then each_once out xs else y ∷ each_once (y ∷ out) xs)
taken_once_by out y xs true old new = old
taken_once_by out y xs false old new = (λ h. (let e = (once_among (y ∷ out) xs y h).1 in let f = (neither (y == y) (has out y) e).0 in grind (arith, nat_tests)), new)

-- none is taken twice
pub taken_once : (out xs : List ℕ) → IsOnce (each_once out xs)
taken_once out [] = tt
taken_once out (y ∷ xs) = taken_once_by out y xs (has out y) (taken_once out xs) (taken_once (y ∷ out) xs)

-- the number before a bound is the last one or comes before it
last_or_before : (m x : ℕ) → x < suc m → (m ≡ x) ⊎ (x < m)
last_or_before m x h = elim (at_or_behind x m (omega arith)) [ inl same ↦ inl same | inr past ↦ inr (omega arith) ]

-- each before a number is one of those below it
pub among_below : (n x : ℕ) → 1 ≤ x → x < n → IsAmong x (below n)
among_below zero x low high = absurd (omega arith)
among_below (suc zero) x low high = absurd (omega arith)
among_below (suc (suc n)) x low high = elim (last_or_before (suc n) x high) [ inl same ↦ inl same | inr before ↦ inr (among_below (suc n) x low before) ]

-- an id below n is between 1 and n
pub below_among : (n x : ℕ) → IsAmong x (below n) → (1 ≤ x) × (x < n)
below_among zero x h = absurd h
below_among (suc zero) x h = absurd h
below_among (suc (suc n)) x (inl same) = (omega arith, omega arith)
below_among (suc (suc n)) x (inr h) = let b = below_among (suc n) x h in (b.0, omega (arith, b.1))

-- each in a range is one of its numbers
pub among_range : (a n x : ℕ) → a ≤ x → x < a + n → IsAmong x (range_with_len a n)
among_range a zero x low high = absurd (omega arith)
among_range a (suc n) x low high = elim (at_or_behind a x low) [ inl same ↦ inl (sym same) | inr past ↦ inr (among_range (a + 1) n x past (omega arith)) ]

-- each number of a range is within it
pub range_among : (a n x : ℕ) → IsAmong x (range_with_len a n) → (a ≤ x) × (x < a + n)
range_among a zero x h = absurd h
range_among a (suc n) x (inl same) = (omega arith, omega arith)
range_among a (suc n) x (inr h) = let b = range_among (a + 1) n x h in let low = b.0 in let high = b.1 in (omega arith, omega arith)

-- an id in two lists in a row is in one of them
pub among_append : (xs ys : List ℕ) (x : ℕ) → IsAmong x (xs ++ ys) → IsAmong x xs ⊎ IsAmong x ys
among_append [] ys x h = inr h
among_append (y ∷ xs) ys x (inl same) = inl (inl same)
among_append (y ∷ xs) ys x (inr h) = elim (among_append xs ys x h) [ inl left ↦ inl (inr left) | inr right ↦ inr right ]

-- an id in one of two lists is in both in a row
pub append_among : (xs ys : List ℕ) (x : ℕ) → IsAmong x xs ⊎ IsAmong x ys → IsAmong x (xs ++ ys)
append_among [] ys x (inl h) = absurd h
append_among [] ys x (inr h) = h
append_among (y ∷ xs) ys x (inl (inl same)) = inl same
append_among (y ∷ xs) ys x (inl (inr h)) = inr (append_among xs ys x (inl h))
append_among (y ∷ xs) ys x (inr h) = inr (append_among xs ys x (inr h))

-- a node that passes the test is not left out
pub free_out : (me x : ℕ) (without : Option ℕ) → has (me ∷ option_to_list without) x ≡ false → IsNotLeftOut me without x
free_out me x None h = (λ e. grind (arith, nat_tests), λ e. absurd cc)
free_out me x (Some q) h = (λ e. grind (arith, nat_tests), λ e. (let same : q ≡ x = cc in grind (arith, nat_tests)))

-- the test passes for each node that is not left out
pub out_free : (me x : ℕ) (without : Option ℕ) → IsNotLeftOut me without x → has (me ∷ option_to_list without) x ≡ false
out_free me x None h = let other = h.0 in grind (arith, nat_tests)
out_free me x (Some q) h = let other = h.0 in let not_q : q ≢ x = λ e. h.1 (ap (λ (n : ℕ). Some n) e) in grind (arith, nat_tests)

-- a node that may be asked is in the list, by the test for a chain member
pub may_list : (me chain : ℕ) (ancestors : List ℕ) (x : ℕ) → MayBeAsked me chain ancestors x → IsAmong x (if nat_le me chain then below me else ancestors ++ range_with_len 1 chain)
may_list me chain ancestors x (inl h) =
    let member : nat_le me chain ≡ true = (let le = h.0 in grind (arith, nat_tests)) in
    subst (λ (b : Bool). IsAmong x (if b then below me else ancestors ++ range_with_len 1 chain)) (sym member) (among_below me x h.1 h.2)
may_list me chain ancestors x (inr h) =
    let in_range : (1 ≤ x) × (x ≤ chain) → IsAmong x (range_with_len 1 chain) = λ r. (let low = r.0 in let high = r.1 in among_range 1 chain x low (omega arith)) in
    subst (λ (b : Bool). IsAmong x (if b then below me else ancestors ++ range_with_len 1 chain)) (sym (is_past me chain h.0))
    (append_among ancestors (range_with_len 1 chain) x (elim h.1 [ inl a ↦ inl a | inr r ↦ inr (in_range r) ]))

-- one of the list may be asked, by that test
list_may_by : (me chain : ℕ) (ancestors : List ℕ) (x : ℕ) (b : Bool) → nat_le me chain ≡ b → IsAmong x (if b then below me else ancestors ++ range_with_len 1 chain) → MayBeAsked me chain ancestors x
list_may_by me chain ancestors x true e h = let b = below_among me x h in inl (grind (arith, nat_tests), b.0, b.1)
list_may_by me chain ancestors x false e h =
    inr (grind (arith, nat_tests), elim (among_append ancestors (range_with_len 1 chain) x h) [ inl a ↦ inl a | inr r ↦ (let b = range_among 1 chain x r in let high = b.1 in inr (b.0, omega arith)) ])

-- a node in the list may be asked
pub list_may : (me chain : ℕ) (ancestors : List ℕ) (x : ℕ) → IsAmong x (if nat_le me chain then below me else ancestors ++ range_with_len 1 chain) → MayBeAsked me chain ancestors x
list_may me chain ancestors x h = list_may_by me chain ancestors x (nat_le me chain) refl h

-- each is asked once
pub asked_once : (me chain : ℕ) (ancestors : List ℕ) (without : Option ℕ) → IsOnce (ask_order me chain ancestors without)
asked_once me chain ancestors without = taken_once (me ∷ option_to_list without) (if nat_le me chain then below me else ancestors ++ range_with_len 1 chain)

-- the nodes that are asked are those that may be asked and are not left out
pub asked_is : (me chain : ℕ) (ancestors : List ℕ) (without : Option ℕ) (x : ℕ) → IsAmong x (ask_order me chain ancestors without) ↔ (MayBeAsked me chain ancestors x × IsNotLeftOut me without x)
asked_is me chain ancestors without x =
    let out = me ∷ option_to_list without in
    let all = if nat_le me chain then below me else ancestors ++ range_with_len 1 chain in
    (λ h. (let o = once_among out all x h in (list_may me chain ancestors x o.0, free_out me x without o.1)), λ h. among_once out all x (may_list me chain ancestors x h.0) (out_free me x without h.1))
