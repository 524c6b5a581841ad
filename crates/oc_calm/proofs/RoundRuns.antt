-- The parts of the rounds, and the nodes that take part in them.
use Rattle.std.proofs.Common.{◌≡◌, ℕ, zero, suc, ◌+◌, ◌-◌, ◌<◌, ◌≤◌, Bool, true, false, List, [], ◌∷◌, ◌++◌, filter, length, refl, ap, sym, subst, ◌∙◌, arith, append_assoc, append-nil}
use Rattle.std.specs.List.{AllByRecursion, range_with_len}
use Rattle.std.proofs.lemmas.Bool.{cond_both}
use Rattle.std.proofs.lemmas.List.FromFn.{length-range_with_len}
use Rattle.oc_model.specs.Runs.{Run, and_then, for_each}
use Rattle.oc_model.specs.World.{World, ids, is_up}
use Rattle.oc_model.proofs.Lists.{all_weaker}
use Rattle.oc_calm.specs.Cluster.{IsNodeOf, IsRoll, IsUpNode}
use Rattle.oc_calm.specs.Played.{check_ins_run, five_run, joined_run, tick_run, ticks_run}
use Rattle.oc_calm.specs.Timely.{AreTimely}
use Rattle.oc_calm.proofs.Each.{timely_front}

-- the numbers of a range lie within it
range_within : (b n : ℕ) → AllByRecursion (λ x. (b ≤ x) × (x < b + n)) (range_with_len b n)
range_within b zero = tt
range_within b (suc n) =
    ((omega arith, omega arith), all_weaker (λ x. (b + 1 ≤ x) × (x < b + 1 + n)) (λ x. (b ≤ x) × (x < b + suc n)) (λ x h. (omega (arith, h.0), omega (arith, h.1))) (range_with_len (b + 1) n) (range_within (b + 1) n))

-- a property of all items holds of those that pass a test
pub all_filter : (P : ℕ → Type 0) (test : ℕ → Bool) (xs : List ℕ) → AllByRecursion P xs → AllByRecursion P (filter test xs)
all_filter P test [] all = tt
all_filter P test (x ∷ xs) all =
    let rest : AllByRecursion P (filter test xs) = all_filter P test xs all.1 in
    cond_both (test x) (x ∷ filter test xs) (filter test xs) (AllByRecursion P) (λ _. (all.0, rest)) (λ _. rest)

-- the number of nodes
pub nodes_count : (w : World) (n : ℕ) → ids w ≡ range_with_len 1 n → n ≡ length (ids w)
nodes_count w n e = sym (length-range_with_len 1 n) ∙ ap length (sym e)

-- each number from 1 to the number of nodes is the id of a node
pub number_node : (w : World) (n k : ℕ) → ids w ≡ range_with_len 1 n → 1 ≤ k → k < n + 1 → IsNodeOf w k
number_node w n k e low high = (low, omega (arith, high, nodes_count w n e))

-- the ids of a world are the ids of its nodes
pub ids_nodes : (w : World) (n : ℕ) → ids w ≡ range_with_len 1 n → n ≡ length (ids w) → AllByRecursion (IsNodeOf w) (ids w)
ids_nodes w n e count =
    subst (AllByRecursion (IsNodeOf w)) (sym e)
    (all_weaker (λ x. (1 ≤ x) × (x < 1 + n)) (IsNodeOf w) (λ x h. (h.0, omega (arith, h.1, count))) (range_with_len 1 n) (range_within 1 n))

-- each item of a filtered list passes the test
all_passing : (P : ℕ → Type 0) (test : ℕ → Bool) (xs : List ℕ) → AllByRecursion P xs → AllByRecursion (λ x. P x × (test x ≡ true)) (filter test xs)
all_passing P test [] all = tt
all_passing P test (x ∷ xs) all =
    let rest : AllByRecursion (λ y. P y × (test y ≡ true)) (filter test xs) = all_passing P test xs all.1 in
    cond_both (test x) (x ∷ filter test xs) (filter test xs) (AllByRecursion (λ y. P y × (test y ≡ true))) (λ passes. ((all.0, passes), rest)) (λ _. rest)

-- the nodes of a roll are up
pub roll_ups : (w : World) (xs : List ℕ) → IsRoll w xs → AllByRecursion (IsUpNode w) xs
roll_ups w xs roll =
    subst (AllByRecursion (IsUpNode w)) (sym roll.up) (all_passing (IsNodeOf w) (is_up w) (ids w) (ids_nodes w (length (ids w)) roll.ids refl))

-- the nodes of a roll are nodes of the world
pub roll_nodes : (w : World) (xs : List ℕ) → IsRoll w xs → AllByRecursion (IsNodeOf w) xs
roll_nodes w xs roll = all_weaker (IsUpNode w) (IsNodeOf w) (λ x is. is.0) xs (roll_ups w xs roll)

-- a round of ticks
pub ticks_are : (more : ℕ) (w : World) (xs : List ℕ) → IsRoll w xs → ticks_run more w ≡ for_each xs (tick_run more) w
unfolding ticks_run tick_run
ticks_are more w xs roll = ap (λ (ys : List ℕ). for_each ys (tick_run more) w) (sym roll.up)

-- a round of check-ins
pub check_ins_are : (w : World) (xs : List ℕ) → IsRoll w xs → check_ins_run w ≡ for_each xs joined_run w
unfolding check_ins_run joined_run
check_ins_are w xs roll = ap (λ (ys : List ℕ). for_each ys joined_run w) (sym roll.up)

-- the first two, three and four steps of settle
abbrev pub first_two : World → Run
first_two w = and_then (ticks_run 0 w) check_ins_run

abbrev pub first_three : World → Run
first_three w = and_then (first_two w) (ticks_run 15)

abbrev pub first_four : World → Run
first_four w = and_then (first_three w) check_ins_run

pub five_are : (w : World) → and_then (first_four w) (ticks_run 15) ≡ five_run w
unfolding ticks_run check_ins_run five_run
five_are w = refl

-- the acts of the five steps are timely part by part
pub last_timely : (w : World) → AreTimely (five_run w).acts → AreTimely (and_then (first_four w) (ticks_run 15)).acts
last_timely w all = subst (λ (r : Run). AreTimely r.acts) (sym (five_are w)) all

pub middle_timely : (w : World) → AreTimely (five_run w).acts → AreTimely (and_then (first_two w) (ticks_run 15)).acts
middle_timely w all = timely_front (first_three w) check_ins_run (timely_front (first_four w) (ticks_run 15) (last_timely w all))

pub first_timely : (w : World) → AreTimely (five_run w).acts → AreTimely (ticks_run 0 w).acts
first_timely w all = timely_front (ticks_run 0 w) check_ins_run (timely_front (first_two w) (ticks_run 15) (middle_timely w all))

-- Nodes that are up

-- the next node is up, so it is added
pub roll_takes : (test : ℕ → Bool) (k end : ℕ) (out all : List ℕ) → k < end → test k ≡ true → out ++ filter test (range_with_len k (end - k)) ≡ all
    → (out ++ k ∷ []) ++ filter test (range_with_len (k + 1) (end - (k + 1))) ≡ all
roll_takes test k end out all within passes so_far =
    let more : end - k ≡ suc (end - (k + 1)) = omega (arith, within) in
    let next : filter test (range_with_len k (end - k)) ≡ k ∷ filter test (range_with_len (k + 1) (end - (k + 1))) = rw (more, passes) refl in
    append_assoc out (k ∷ []) (filter test (range_with_len (k + 1) (end - (k + 1)))) ∙ (ap (λ (xs : List ℕ). out ++ xs) (sym next) ∙ so_far)

-- the next node is down, so it is passed over
pub roll_passes : (test : ℕ → Bool) (k end : ℕ) (out all : List ℕ) → k < end → test k ≡ false → out ++ filter test (range_with_len k (end - k)) ≡ all
    → out ++ filter test (range_with_len (k + 1) (end - (k + 1))) ≡ all
roll_passes test k end out all within fails so_far =
    let more : end - k ≡ suc (end - (k + 1)) = omega (arith, within) in
    let next : filter test (range_with_len k (end - k)) ≡ filter test (range_with_len (k + 1) (end - (k + 1))) = rw (more, fails) refl in
    ap (λ (xs : List ℕ). out ++ xs) (sym next) ∙ so_far

-- all nodes were looked at
pub roll_found : (test : ℕ → Bool) (k end : ℕ) (out all : List ℕ) → end ≤ k → out ++ filter test (range_with_len k (end - k)) ≡ all → out ≡ all
roll_found test k end out all past so_far =
    let none : end - k ≡ 0 = omega (arith, past) in
    let next : filter test (range_with_len k (end - k)) ≡ [] = rw none refl in
    sym (append-nil out) ∙ (ap (λ (xs : List ℕ). out ++ xs) (sym next) ∙ so_far)
