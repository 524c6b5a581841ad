-- The parts of telling, and the order of the nodes that tell.
use Rattle.std.proofs.Common.{◌≡◌, ℕ, zero, suc, ◌+◌, Bool, true, false, ◌==◌, Option, Some, None, List, [], ◌∷◌, ◌++◌, filter, length, refl, ap, sym, ◌∙◌, arith, append_assoc, append-nil, ne_eqb}
use Rattle.std.specs.List.{AllByRecursion}
use Rattle.std.proofs.lemmas.List.{length-map}
use Rattle.oc_base.specs.declared.cert.Cert.{Cert}
use Rattle.oc_model.specs.Adopting.{is_number}
use Rattle.oc_model.specs.Chains.{chain_from}
use Rattle.oc_model.specs.Runs.{rests, and_then, for_each}
use Rattle.oc_model.specs.Settle.{tells_while, has_length, with_chain_of, deepest_first}
use Rattle.oc_model.specs.World.{World, node}
use Rattle.oc_model.proofs.Lists.{all_append}
use Rattle.oc_calm.specs.Cluster.{IsNodeOf, IsRoll}
use Rattle.oc_calm.specs.Played.{check_in_run, five_run}
use Rattle.oc_calm.specs.CalmRuns.{deepest_nodes, settle_run, telling_left, telling_run, tellings_run}
use Rattle.oc_calm.specs.Tree.{nodes_in, chain_length, AreLengths}
use Rattle.oc_calm.specs.Longest.{has_found, longest_first}
use Rattle.oc_calm.proofs.RoundRuns.{all_filter, roll_nodes}

-- One node

-- at first the node may check in as often as it has waiting certificates
pub telling_starts : (x n : ℕ) (w : World) → n ≡ length (node w x).control.kept.log.waiting → telling_run x w ≡ telling_left n x w
unfolding telling_left telling_run
telling_starts x n w e = ap (λ (m : ℕ). tells_while m x (node w x).control.kept.log.waiting w) (sym e)

-- a node at which certificates wait checks in and goes on
goes : (n x : ℕ) (waiting : List Cert) (w : World) → (length waiting ≡ 0 → ⊥) → tells_while (suc n) x waiting w ≡ and_then (check_in_run x w) (telling_left n x)
unfolding telling_left check_in_run
goes n x [] w some = absurd (some refl)
goes n x (f ∷ fs) w some = refl

pub telling_goes : (m n x : ℕ) (w : World) → m ≡ suc n → (length (node w x).control.kept.log.waiting ≡ 0 → ⊥) → telling_left m x w ≡ and_then (check_in_run x w) (telling_left n x)
unfolding telling_left
telling_goes m n x w more some = ap (λ (k : ℕ). tells_while k x (node w x).control.kept.log.waiting w) more ∙ goes n x (node w x).control.kept.log.waiting w some

-- a node at which nothing waits rests
rests_empty : (n x : ℕ) (waiting : List Cert) (w : World) → length waiting ≡ 0 → tells_while n x waiting w ≡ rests w
rests_empty zero x waiting w none = refl
rests_empty (suc n) x [] w none = refl
rests_empty (suc n) x (f ∷ fs) w none = absurd (omega (arith, none))

pub telling_rests : (n x : ℕ) (w : World) → length (node w x).control.kept.log.waiting ≡ 0 → telling_left n x w ≡ rests w
unfolding telling_left
telling_rests n x w none = rests_empty n x (node w x).control.kept.log.waiting w none

-- a node with no check-in left rests
pub telling_over : (n x : ℕ) (w : World) → n ≡ 0 → telling_left n x w ≡ rests w
unfolding telling_left
telling_over n x w over = ap (λ (k : ℕ). tells_while k x (node w x).control.kept.log.waiting w) over

-- All nodes

-- each node tells, in the order of the lengths of the chains
pub tellings_are : (w : World) (xs : List ℕ) → xs ≡ deepest_nodes w → tellings_run w ≡ for_each xs telling_run w
unfolding tellings_run telling_run deepest_nodes
tellings_are w xs e = ap (λ (ys : List ℕ). for_each ys telling_run w) (sym e)

-- settle is its first five steps and then the telling of all nodes
pub settle_is : (w : World) → and_then (five_run w) tellings_run ≡ settle_run w
unfolding five_run tellings_run settle_run
settle_is w = refl

-- The order

-- two tests that agree on each item leave the same items
pub filter_where : (P : ℕ → Type 0) (f g : ℕ → Bool) → ((x : ℕ) → P x → f x ≡ g x) → (xs : List ℕ) → AllByRecursion P xs → filter f xs ≡ filter g xs
filter_where P f g same [] all = refl
filter_where P f g same (x ∷ xs) all = by_test (filter_where P f g same xs all.1) (g x) (same x all.0) refl where
  by_test : filter f xs ≡ filter g xs → (b : Bool) → f x ≡ g x → g x ≡ b → filter f (x ∷ xs) ≡ filter g (x ∷ xs)
  by_test rest true e t = let left : f x ≡ true = e ∙ t in rw (left, t) (ap (λ (ys : List ℕ). x ∷ ys) rest)
  by_test rest false e t = let left : f x ≡ false = e ∙ t in rw (left, t) rest

-- the found length of a node is the number of nodes of its true chain
found_length : (w : World) (ls : List (Option ℕ)) (n x : ℕ) → AreLengths w ls → IsNodeOf w x → has_found ls (suc n) x ≡ has_length (suc n) (chain_from w x)
unfolding has_found chain_length
found_length w ls n x lengths node = ap (λ (f : Option ℕ). is_number f (suc n)) (lengths.found x node) ∙ by_found (chain_from w x) where
  by_found : (found : Option (List ℕ)) → (nodes_in found == suc n) ≡ has_length (suc n) found
  by_found None = ne_eqb 0 (suc n) (λ e. omega (arith, e))
  by_found (Some c) = refl

-- the sorted nodes are those that are up and have true chains of at most n nodes, by length
sorted_levels : (w : World) (ls : List (Option ℕ)) (xs : List ℕ) → AreLengths w ls → IsRoll w xs → AllByRecursion (IsNodeOf w) xs → (n : ℕ) → longest_first ls xs n ≡ deepest_first n w
unfolding longest_first
sorted_levels w ls xs lengths roll nodes zero = refl
sorted_levels w ls xs lengths roll nodes (suc n) =
    let level : filter (has_found ls (suc n)) xs ≡ with_chain_of (suc n) w =
    filter_where (IsNodeOf w) (has_found ls (suc n)) (λ x. has_length (suc n) (chain_from w x)) (λ x node. found_length w ls n x lengths node) xs nodes
    ∙ ap (λ (ys : List ℕ). filter (λ x. has_length (suc n) (chain_from w x)) ys) roll.up in
    ap (λ (ys : List ℕ). ys ++ longest_first ls xs n) level ∙ ap (λ (ys : List ℕ). with_chain_of (suc n) w ++ ys) (sorted_levels w ls xs lengths roll nodes n)

-- the sorted nodes are those that tell
pub sorted_deepest : (w : World) (ls : List (Option ℕ)) (xs : List ℕ) → AreLengths w ls → IsRoll w xs → longest_first ls xs (length ls) ≡ deepest_nodes w
unfolding deepest_nodes
sorted_deepest w ls xs lengths roll =
    let places : length ls ≡ length w.processes = lengths.places ∙ length-map w.processes (λ p. p.node.control.me) in
    sorted_levels w ls xs lengths roll (roll_nodes w xs roll) (length ls) ∙ ap (λ (n : ℕ). deepest_first n w) places

-- a property of all nodes of a list holds of the sorted ones
pub sorted_nodes : (P : ℕ → Type 0) (ls : List (Option ℕ)) (xs : List ℕ) → AllByRecursion P xs → (n : ℕ) → AllByRecursion P (longest_first ls xs n)
unfolding longest_first
sorted_nodes P ls xs all zero = tt
sorted_nodes P ls xs all (suc n) = all_append P (filter (has_found ls (suc n)) xs) (longest_first ls xs n) (all_filter P (has_found ls (suc n)) xs all) (sorted_nodes P ls xs all n)

-- one level more is sorted
pub level_more : (ls : List (Option ℕ)) (xs : List ℕ) (k n : ℕ) (out next all : List ℕ) → k ≡ suc n → next ≡ out ++ filter (has_found ls k) xs → out ++ longest_first ls xs k ≡ all
    → next ++ longest_first ls xs n ≡ all
unfolding longest_first
level_more ls xs k n out next all more put so_far =
    let here : longest_first ls xs k ≡ filter (has_found ls k) xs ++ longest_first ls xs n = rw more refl in
    ap (λ (ys : List ℕ). ys ++ longest_first ls xs n) put ∙ (append_assoc out (filter (has_found ls k) xs) (longest_first ls xs n) ∙ (ap (λ (ys : List ℕ). out ++ ys) (sym here) ∙ so_far))

pub level_none : (ls : List (Option ℕ)) (xs : List ℕ) (k : ℕ) (out all : List ℕ) → k ≡ 0 → out ++ longest_first ls xs k ≡ all → out ≡ all
unfolding longest_first
level_none ls xs k out all none so_far =
    let here : longest_first ls xs k ≡ [] = rw none refl in
    sym (append-nil out) ∙ (ap (λ (ys : List ℕ). out ++ ys) (sym here) ∙ so_far)

-- Filtering in a loop
