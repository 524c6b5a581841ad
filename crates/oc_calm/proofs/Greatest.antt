-- The greatest length, at which the sorting of the nodes that tell begins.
use Rattle.std.proofs.Common.{◌≡◌, ℕ, zero, suc, ◌+◌, ◌-◌, ◌<◌, ◌≤◌, min, max, Bool, true, false, nat_lt, Option, Some, None, List, [], ◌∷◌, ◌++◌, filter, length, drop, get_or, refl, ap, sym, ◌∙◌, arith, ne_eqb, ltb-true, ltb-false, unwrap_or}
use Rattle.std.proofs.lemmas.List.{get_or_past, drop_more, drop_all}
use Rattle.oc_model.specs.Adopting.{is_number}
use Rattle.oc_model.specs.Numbers.{at}
use Rattle.oc_calm.specs.Longest.{greatest_length, has_found, longest_first}

-- The loop

-- one more length was looked at
pub greatest_more : (ls : List (Option ℕ)) (i g h all : ℕ) → i < length ls → h ≡ max g (unwrap_or (get_or ls i None) 0) → max g (greatest_length (drop i ls)) ≡ all
    → max h (greatest_length (drop (i + 1) ls)) ≡ all
unfolding greatest_length
greatest_more ls i g h all within new so_far =
    let next : greatest_length (drop i ls) ≡ max (unwrap_or (get_or ls i None) 0) (greatest_length (drop (i + 1) ls)) = ap greatest_length (drop_more ls i None within) in
    omega (arith, new, next, so_far)

-- all lengths were looked at
pub greatest_over : (ls : List (Option ℕ)) (i g all : ℕ) → length ls ≤ i → max g (greatest_length (drop i ls)) ≡ all → g ≡ all
unfolding greatest_length
greatest_over ls i g all past so_far =
    let none : greatest_length (drop i ls) ≡ 0 = ap greatest_length (drop_all i ls past) in
    omega (arith, none, so_far)

-- Sorting

-- no found length is above the greatest
up_to : (ls : List (Option ℕ)) (i n : ℕ) → get_or ls i None ≡ Some n → n ≤ greatest_length ls
unfolding greatest_length
up_to [] i n e = let none : None ≡ Some n = sym (get_or_past [] i None (omega arith)) ∙ e in absurd cc
up_to (f ∷ fs) zero n e = let same : unwrap_or f 0 ≡ n = ap (λ (o : Option ℕ). unwrap_or o 0) e in omega (arith, same)
up_to (f ∷ fs) (suc i) n e = omega (arith, up_to fs i n e)

-- a test that always fails leaves no item
never : (f : ℕ → Bool) → ((x : ℕ) → f x ≡ false) → (xs : List ℕ) → filter f xs ≡ []
never f fails [] = refl
never f fails (x ∷ xs) = let here : f x ≡ false = fails x in rw here (never f fails xs)

-- no node was found to have a length above the greatest
not_found : (ls : List (Option ℕ)) (j x : ℕ) → greatest_length ls < j → has_found ls j x ≡ false
unfolding has_found
not_found ls j x high = by_found (at ls x None) refl where
  by_found : (f : Option ℕ) → at ls x None ≡ f → is_number (at ls x None) j ≡ false
  by_found None e = ap (λ (f : Option ℕ). is_number f j) e
  by_found (Some n) e = ap (λ (f : Option ℕ). is_number f j) e ∙ ne_eqb n j (λ same. omega (arith, up_to ls (x - 1) n e, high, same))

-- the order begins with the greatest length
longest_cut : (ls : List (Option ℕ)) (xs : List ℕ) (k n : ℕ) → greatest_length ls ≤ k → longest_first ls xs (k + n) ≡ longest_first ls xs k
unfolding longest_first
longest_cut ls xs k zero high = let same : k + 0 ≡ k = omega arith in ap (longest_first ls xs) same
longest_cut ls xs k (suc n) high =
    let more : k + suc n ≡ suc (k + n) = omega arith in
    let none : filter (has_found ls (suc (k + n))) xs ≡ [] = never (has_found ls (suc (k + n))) (λ x. not_found ls (suc (k + n)) x (omega (arith, high))) xs in
    ap (longest_first ls xs) more ∙ (ap (λ (ys : List ℕ). ys ++ longest_first ls xs (k + n)) none ∙ longest_cut ls xs k n high)

-- the order begins with the number of nodes where the greatest length is above that
pub longest_from : (ls : List (Option ℕ)) (xs : List ℕ) (g s : ℕ) → g ≡ greatest_length ls → s ≡ min g (length ls) → longest_first ls xs s ≡ longest_first ls xs (length ls)
longest_from ls xs g s is e = by_order (nat_lt g (length ls)) refl where
  by_order : (b : Bool) → nat_lt g (length ls) ≡ b → longest_first ls xs s ≡ longest_first ls xs (length ls)
  by_order true t =
      let low : g < length ls = ltb-true g (length ls) t in
      let start : s ≡ g = omega (arith, e, low) in
      let all : length ls ≡ g + (length ls - g) = omega (arith, low) in
      ap (longest_first ls xs) start ∙ (sym (longest_cut ls xs g (length ls - g) (omega (arith, is))) ∙ ap (longest_first ls xs) (sym all))
  by_order false t = let start : s ≡ length ls = omega (arith, e, ltb-false g (length ls) t) in ap (longest_first ls xs) start
