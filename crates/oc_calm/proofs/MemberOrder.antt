-- Chain members among the nodes that are up: the leader, the member before a node, and the nodes that join.
use Rattle.std.proofs.Common.{◌≡◌, ℕ, zero, suc, ◌+◌, ◌-◌, ◌<◌, ◌≤◌, min, Bool, true, false, not, ◌&&◌, nat_lt, nat_le, List, [], ◌∷◌, ◌++◌, filter, length, drop, get_or, if◌then◌else◌, refl, ap, sym, ◌∙◌, arith, append-nil, ltb-true, ltb-false, leb-true}
use Rattle.std.specs.List.{AllByRecursion, list_all, range_with_len}
use Rattle.std.proofs.lemmas.Bool.{le-leb, lt-leb, leb-false, le-ltb, lt-ltb}
use Rattle.std.proofs.lemmas.List.{drop_more, drop_all}
use Rattle.std.proofs.lemmas.List.Elements.{filter-append}
use Rattle.oc_model.specs.Heal.{member_before, up_members, up_others}
use Rattle.oc_model.specs.Plan.{is_member}
use Rattle.oc_model.specs.World.{World, node, ids, is_up, up_ids}
use Rattle.oc_model.specs.Numbers.{first_of, last_of}
use Rattle.oc_calm.specs.Cluster.{IsNodeOf, IsRoll, HasChain}
use Rattle.oc_calm.specs.CalmRuns.{greatest_up}
use Rattle.oc_calm.specs.CalmRuns.{joiners, leader_of, member_below}
use Rattle.oc_calm.proofs.RoundRuns.{ids_nodes, all_filter}
use Rattle.oc_calm.proofs.TellingRuns.{filter_where}

-- Tests

-- two filters in a row are one filter by both tests
filter_filter : (f g : ℕ → Bool) (xs : List ℕ) → filter f (filter g xs) ≡ filter (λ x. g x && f x) xs
filter_filter f g [] = refl
filter_filter f g (x ∷ xs) = by_test (filter_filter f g xs) (g x) refl where
  by_test : filter f (filter g xs) ≡ filter (λ y. g y && f y) xs → (b : Bool) → g x ≡ b → filter f (filter g (x ∷ xs)) ≡ filter (λ y. g y && f y) (x ∷ xs)
  by_test rest true e = rw e (ap (λ (ys : List ℕ). if f x then x ∷ ys else ys) rest)
  by_test rest false e = rw e rest

-- a filter that no item passes leaves none
filter_none : (f : ℕ → Bool) (xs : List ℕ) → AllByRecursion (λ x. f x ≡ false) xs → filter f xs ≡ []
filter_none f [] all = refl
filter_none f (x ∷ xs) all = let here : f x ≡ false = all.0 in rw here (filter_none f xs all.1)

-- The leader

-- the leader is the first chain member among the nodes that are up
pub leader_first : (w : World) (xs : List ℕ) → IsRoll w xs → first_of (filter (λ x. is_member (node w x).control) xs) ≡ leader_of w
unfolding leader_of
leader_first w xs roll = ap (λ (ys : List ℕ). first_of (filter (λ x. is_member (node w x).control) ys)) roll.up

-- All nodes of a list

-- the next remaining item passes, or the result is false
pub all_later : (f : ℕ → Bool) (xs : List ℕ) (i x : ℕ) (all : Bool) → i < length xs → x ≡ get_or xs i x → f x ≡ true → list_all f (drop i xs) ≡ all → list_all f (drop (i + 1) xs) ≡ all
all_later f xs i x all within is passes so_far =
    let here : drop i xs ≡ x ∷ drop (i + 1) xs = drop_more xs i x within ∙ ap (λ (y : ℕ). y ∷ drop (i + 1) xs) (sym is) in
    let next : list_all f (drop i xs) ≡ list_all f (drop (i + 1) xs) = rw (here, passes) refl in
    sym next ∙ so_far

-- the next remaining item fails, so the result is false
pub fails_here : (f : ℕ → Bool) (xs : List ℕ) (i x : ℕ) (all : Bool) → i < length xs → x ≡ get_or xs i x → f x ≡ false → list_all f (drop i xs) ≡ all → false ≡ all
fails_here f xs i x all within is fails so_far =
    let here : drop i xs ≡ x ∷ drop (i + 1) xs = drop_more xs i x within ∙ ap (λ (y : ℕ). y ∷ drop (i + 1) xs) (sym is) in
    let next : list_all f (drop i xs) ≡ false = rw (here, fails) refl in
    sym next ∙ so_far

-- no item remains that could fail
pub all_pass : (f : ℕ → Bool) (xs : List ℕ) (i : ℕ) (all : Bool) → length xs ≤ i → list_all f (drop i xs) ≡ all → true ≡ all
all_pass f xs i all past so_far = let none : list_all f (drop i xs) ≡ true = ap (list_all f) (drop_all i xs past) in sym none ∙ so_far

-- The member before a node

-- the greatest number from 1 to k that passes a test; m if there is none
greatest : (ℕ → Bool) → ℕ → ℕ → ℕ
greatest t m zero = m
greatest t m (suc k) = if t (suc k) then suc k else greatest t m k

-- the last item of a list with x at its end is x
last_more : (m x : ℕ) (xs : List ℕ) → last_of m (xs ++ x ∷ []) ≡ x
last_more m x [] = refl
last_more m x (y ∷ ys) = last_more y x ys

-- a range with one number more ends with its greatest number
range_more : (b n : ℕ) → range_with_len b (suc n) ≡ range_with_len b n ++ (b + n) ∷ []
range_more b zero = let same : b ≡ b + 0 = omega arith in ap (λ z. z ∷ []) same
range_more b (suc n) =
    let same : b + 1 + n ≡ b + suc n = omega arith in
    ap (λ (xs : List ℕ). b ∷ xs) (range_more (b + 1) n ∙ ap (λ z. range_with_len (b + 1) n ++ z ∷ []) same)

-- the last number of a filtered range is the greatest that passes
last_greatest : (t : ℕ → Bool) (m n : ℕ) → last_of m (filter t (range_with_len 1 n)) ≡ greatest t m n
unfolding greatest
last_greatest t m zero = refl
last_greatest t m (suc n) = by_test (last_greatest t m n) (t (suc n)) refl where
  more : range_with_len 1 (suc n) ≡ range_with_len 1 n ++ suc n ∷ []
  more = let next : 1 + n ≡ suc n = omega arith in range_more 1 n ∙ ap (λ z. range_with_len 1 n ++ z ∷ []) next

  split : filter t (range_with_len 1 (suc n)) ≡ filter t (range_with_len 1 n) ++ filter t (suc n ∷ [])
  split = ap (filter t) more ∙ filter-append t (range_with_len 1 n) (suc n ∷ [])

  by_test : last_of m (filter t (range_with_len 1 n)) ≡ greatest t m n → (b : Bool) → t (suc n) ≡ b → last_of m (filter t (range_with_len 1 (suc n))) ≡ (if t (suc n) then suc n else greatest t m n)
  by_test rest true e =
      let one : filter t (suc n ∷ []) ≡ suc n ∷ [] = rw e refl in
      ap (last_of m) (split ∙ ap (λ (xs : List ℕ). filter t (range_with_len 1 n) ++ xs) one) ∙ (last_more m (suc n) (filter t (range_with_len 1 n)) ∙ rw e refl)
  by_test rest false e =
      let none : filter t (suc n ∷ []) ≡ [] = rw e refl in
      ap (last_of m) (split ∙ (ap (λ (xs : List ℕ). filter t (range_with_len 1 n) ++ xs) none ∙ append-nil (filter t (range_with_len 1 n)))) ∙ (rest ∙ rw e refl)

-- numbers that fail the test do not change the greatest
greatest_cut : (t : ℕ → Bool) (m n j : ℕ) → ((p : ℕ) → n < p → t p ≡ false) → greatest t m (n + j) ≡ greatest t m n
unfolding greatest
greatest_cut t m n zero fails = let same : n + 0 ≡ n = omega arith in rw same refl
greatest_cut t m n (suc j) fails =
    let more : n + suc j ≡ suc (n + j) = omega arith in
    let here : t (suc (n + j)) ≡ false = fails (suc (n + j)) (omega arith) in
    rw (more, here) (greatest_cut t m n j fails)

-- the greatest number that passes is the greatest node that is up
greatest_same : (w : World) (t : ℕ → Bool) (m k : ℕ) → ((p : ℕ) → p ≤ k → t p ≡ is_up w p) → greatest t m k ≡ greatest_up w m k
unfolding greatest greatest_up
greatest_same w t m zero same = refl
greatest_same w t m (suc k) same =
    let here : t (suc k) ≡ is_up w (suc k) = same (suc k) (omega arith) in
    ap (λ (b : Bool). if b then suc k else greatest t m k) here ∙ ap (λ (g : ℕ). if is_up w (suc k) then suc k else g) (greatest_same w t m k (λ p low. same p (omega (arith, low))))

-- whether p is up, a chain member and less than x
member_test : World → ℕ → ℕ → ℕ → Bool
member_test w chain x p = is_up w p && nat_le p chain && nat_lt p x

-- false and any truth value is false
and_false : (b : Bool) → (b && false) ≡ false
and_false true = refl
and_false false = refl

-- true and any truth value is that value
and_true : (b : Bool) → (b && true) ≡ b
and_true true = refl
and_true false = refl

-- a number past either bound fails
test_outside : (b : Bool) (chain x p : ℕ) → min (x - 1) chain < p → (b && nat_le p chain && nat_lt p x) ≡ false
test_outside b chain x p high = by_tests (nat_le p chain) (nat_lt p x) refl refl where
  by_tests : (l r : Bool) → nat_le p chain ≡ l → nat_lt p x ≡ r → (b && nat_le p chain && nat_lt p x) ≡ false
  by_tests l false e f = rw f (and_false (b && nat_le p chain))
  by_tests false true e f = rw (e, f) (ap (λ (c : Bool). c && true) (and_false b))
  by_tests true true e f = absurd (omega (arith, leb-true p chain e, ltb-true p x f, high))

-- a number within both bounds passes exactly where the first test does
test_inside : (b : Bool) (chain x p : ℕ) → 1 ≤ x → p ≤ min (x - 1) chain → (b && nat_le p chain && nat_lt p x) ≡ b
test_inside b chain x p some low =
    let member : nat_le p chain ≡ true = le-leb p chain (omega (arith, low)) in
    let before : nat_lt p x ≡ true = lt-ltb p x (omega (arith, low, some)) in
    rw (member, before) (and_true (b && true) ∙ and_true b)

-- the chain members that are up and less than x
members_before : (w : World) (chain m x : ℕ) → HasChain w chain → ids w ≡ range_with_len 1 (length (ids w)) → member_before w m x ≡ last_of m (filter (member_test w chain x) (range_with_len 1 (length (ids w))))
unfolding member_test
members_before w chain m x has numbered =
    let members : filter (λ p. is_member (node w p).control) (up_ids w) ≡ filter (λ p. nat_le p chain) (up_ids w) =
    filter_where (IsNodeOf w) (λ p. is_member (node w p).control) (λ p. nat_le p chain) has.members (up_ids w) (all_filter (IsNodeOf w) (is_up w) (ids w) (ids_nodes w (length (ids w)) numbered refl)) in
    ap (λ (ys : List ℕ). last_of m (filter (λ p. nat_lt p x) ys)) (members ∙ filter_filter (λ p. nat_le p chain) (is_up w) (ids w))
    ∙ (ap (last_of m) (filter_filter (λ p. nat_lt p x) (λ p. is_up w p && nat_le p chain) (ids w))
    ∙ ap (λ (ys : List ℕ). last_of m (filter (λ p. is_up w p && nat_le p chain && nat_lt p x) ys)) numbered)

-- the member before a node is the greatest node that is up, within the chain and less than the node
pub member_greatest : (w : World) (chain m x k : ℕ) → HasChain w chain → ids w ≡ range_with_len 1 (length (ids w)) → IsNodeOf w x → k ≡ min (x - 1) chain → greatest_up w m k ≡ member_below w m x
unfolding member_below member_test
member_greatest w chain m x k has numbered node e =
    let n : ℕ = length (ids w) in
    let t : ℕ → Bool = member_test w chain x in
    let all : n ≡ k + (n - k) = omega (arith, e, node.0, node.1) in
    let cut : greatest t m n ≡ greatest t m k = ap (greatest t m) all ∙ greatest_cut t m k (n - k) (λ p high. test_outside (is_up w p) chain x p (omega (arith, e, high))) in
    let up : greatest t m k ≡ greatest_up w m k = greatest_same w t m k (λ p low. test_inside (is_up w p) chain x p node.0 (omega (arith, e, low))) in
    sym (members_before w chain m x has numbered ∙ (last_greatest t m n ∙ (cut ∙ up)))

-- the greatest node that is up is the one that the loop looks at
pub greatest_here : (w : World) (m n k g : ℕ) → n ≡ suc k → is_up w n ≡ true → greatest_up w m n ≡ g → n ≡ g
unfolding greatest_up
greatest_here w m n k g e up same =
    let here : is_up w (suc k) ≡ true = ap (is_up w) (sym e) ∙ up in
    let is : greatest_up w m (suc k) ≡ suc k = rw here refl in
    e ∙ (sym is ∙ (ap (greatest_up w m) (sym e) ∙ same))

-- a node that is down is passed over
pub greatest_lower : (w : World) (m n k g : ℕ) → n ≡ suc k → is_up w n ≡ false → greatest_up w m n ≡ g → greatest_up w m k ≡ g
unfolding greatest_up
greatest_lower w m n k g e down same =
    let here : is_up w (suc k) ≡ false = ap (is_up w) (sym e) ∙ down in
    let is : greatest_up w m (suc k) ≡ greatest_up w m k = rw here refl in
    sym is ∙ (ap (greatest_up w m) (sym e) ∙ same)

-- no node remains that could be up
pub greatest_none : (w : World) (m n g : ℕ) → n ≡ 0 → greatest_up w m n ≡ g → m ≡ g
unfolding greatest_up
greatest_none w m n g e same = let is : greatest_up w m n ≡ m = rw e refl in sym is ∙ same

-- Nodes that join

-- no node past the chain is a member
small_none : (c : ℕ) (u : ℕ → Bool) (b n : ℕ) → c < b → filter (λ x. nat_le x c) (filter u (range_with_len b n)) ≡ []
small_none c u b zero high = refl
small_none c u b (suc n) high =
    let large : nat_le b c ≡ false = lt-leb b c high in
    let rest : filter (λ x. nat_le x c) (filter u (range_with_len (b + 1) n)) ≡ [] = small_none c u (b + 1) n (omega (arith, high)) in
    by_test rest large (u b) refl where
      by_test : filter (λ x. nat_le x c) (filter u (range_with_len (b + 1) n)) ≡ [] → nat_le b c ≡ false → (t : Bool) → u b ≡ t → filter (λ x. nat_le x c) (filter u (range_with_len b (suc n))) ≡ []
      by_test rest large true e = rw (e, large) rest
      by_test rest large false e = rw e rest

-- the members past m, followed by all nodes past the chain, are the nodes past the less of m and the chain's length
members_then : (m c : ℕ) (u : ℕ → Bool) (b n : ℕ) →
    filter (nat_lt m) (filter (λ x. nat_le x c) (filter u (range_with_len b n))) ++ filter (λ x. not (nat_le x c)) (filter u (range_with_len b n))
    ≡ filter (nat_lt (min m c)) (filter u (range_with_len b n))
members_then m c u b zero = refl
members_then m c u b (suc n) = by_tests (members_then m c u (b + 1) n) (u b) (nat_le b c) (nat_lt m b) refl refl refl where
  by_tests : filter (nat_lt m) (filter (λ x. nat_le x c) (filter u (range_with_len (b + 1) n))) ++ filter (λ x. not (nat_le x c)) (filter u (range_with_len (b + 1) n))
      ≡ filter (nat_lt (min m c)) (filter u (range_with_len (b + 1) n))
      → (t l r : Bool) → u b ≡ t → nat_le b c ≡ l → nat_lt m b ≡ r
      → filter (nat_lt m) (filter (λ x. nat_le x c) (filter u (range_with_len b (suc n)))) ++ filter (λ x. not (nat_le x c)) (filter u (range_with_len b (suc n)))
      ≡ filter (nat_lt (min m c)) (filter u (range_with_len b (suc n)))
  by_tests rest false l r e f g = rw e rest
  by_tests rest true true true e f g =
      let past : nat_lt (min m c) b ≡ true = lt-ltb (min m c) b (omega (arith, ltb-true m b g)) in
      rw (e, f, g, past) (ap (λ (ys : List ℕ). b ∷ ys) rest)
  by_tests rest true true false e f g =
      let past : nat_lt (min m c) b ≡ false = le-ltb (min m c) b (omega (arith, leb-true b c f, ltb-false m b g)) in
      rw (e, f, g, past) rest
  by_tests rest true false r e f g =
      let high : c < b = omega (arith, leb-false b c f) in
      let past : nat_lt (min m c) b ≡ true = lt-ltb (min m c) b (omega (arith, high)) in
      let none : filter (λ x. nat_le x c) (filter u (range_with_len (b + 1) n)) ≡ [] = small_none c u (b + 1) n (omega (arith, high)) in
      let others : filter (λ x. not (nat_le x c)) (filter u (range_with_len (b + 1) n)) ≡ filter (nat_lt (min m c)) (filter u (range_with_len (b + 1) n)) =
      ap (λ (ys : List ℕ). filter (nat_lt m) ys ++ filter (λ x. not (nat_le x c)) (filter u (range_with_len (b + 1) n))) (sym none) ∙ rest in
      rw (e, f, past, none) (ap (λ (ys : List ℕ). b ∷ ys) others)

-- the nodes that join
pub joiners_are : (w : World) (chain m k : ℕ) (xs : List ℕ) → HasChain w chain → IsRoll w xs → k ≡ min m chain → filter (nat_lt k) xs ≡ joiners m w
unfolding joiners
joiners_are w chain m k xs has roll e =
    let n : ℕ = length (ids w) in
    let nodes : AllByRecursion (IsNodeOf w) (up_ids w) = all_filter (IsNodeOf w) (is_up w) (ids w) (ids_nodes w n roll.ids refl) in
    let members : up_members w ≡ filter (λ x. nat_le x chain) (up_ids w) = filter_where (IsNodeOf w) (λ x. is_member (node w x).control) (λ x. nat_le x chain) has.members (up_ids w) nodes in
    let others : up_others w ≡ filter (λ x. not (nat_le x chain)) (up_ids w) =
    filter_where (IsNodeOf w) (λ x. not (is_member (node w x).control)) (λ x. not (nat_le x chain)) (λ x is. ap not (has.members x is)) (up_ids w) nodes in
    let numbered : up_ids w ≡ filter (is_up w) (range_with_len 1 n) = ap (filter (is_up w)) roll.ids in
    let parts : filter (nat_lt m) (up_members w) ++ up_others w ≡ filter (nat_lt (min m chain)) (filter (is_up w) (range_with_len 1 n)) =
    ap (λ (ys : List ℕ). filter (nat_lt m) ys ++ up_others w) members
    ∙ (ap (λ (ys : List ℕ). filter (nat_lt m) (filter (λ x. nat_le x chain) (up_ids w)) ++ ys) others
    ∙ (ap (λ (ys : List ℕ). filter (nat_lt m) (filter (λ x. nat_le x chain) ys) ++ filter (λ x. not (nat_le x chain)) ys) numbered
    ∙ members_then m chain (is_up w) 1 n)) in
    sym (parts ∙ (ap (λ (j : ℕ). filter (nat_lt j) (filter (is_up w) (range_with_len 1 n))) (sym e) ∙ ap (filter (nat_lt k)) (sym numbered ∙ sym roll.up)))
