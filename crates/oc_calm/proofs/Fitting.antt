-- A world is ready exactly where each node fits under its first root.
use Rattle.std.proofs.Common.{◌≡◌, ℕ, suc, ◌+◌, ◌-◌, ◌<◌, ◌≤◌, Bool, true, false, not, ◌&&◌, ◌||◌, ◌==◌, Option, Some, None, find, List, [], ◌∷◌, ⊎_elim, inl, inr, ◌⊎◌, refl, ap, sym, subst, ◌∙◌, arith, true≢false, eqb-true, eq-eqb}
use Rattle.std.specs.List.{list_all, range_with_len}
use Rattle.std.proofs.lemmas.Bool.{and_parts}
use Rattle.oc_model.specs.declared.mode.Mode.{Mode}
use Rattle.oc_model.specs.declared.mode.Mode.TheVariants.{Idle, Asking, Joined, Acting}
use Rattle.oc_model.specs.Adopting.{is_acting, is_number}
use Rattle.oc_model.specs.Chains.{IsUp, IsJoined, IsRoot, IsTrueChain, HasTrueChain, chain_from}
use Rattle.oc_model.specs.Ready.{IsLeased, IsReadyUnder, IsReady, is_root, is_leased_as, is_leased, ready_under, is_ready}
use Rattle.oc_model.specs.Table.{leased_by}
use Rattle.oc_model.specs.World.{World, node, ids, is_up, mode_of}
use Rattle.oc_model.proofs.Members.{all_test, test_all, found_passes}
use Rattle.oc_model.proofs.Processes.{up_in}
use Rattle.oc_model.proofs.Ready.{acts_true, root_true, leased_true, leased_test, ready_tested}
use Rattle.oc_calm.specs.Tree.{nodes_in, chain_length, is_positive, is_linked_as, is_linked, fits_under}
use Rattle.oc_calm.proofs.ChainLengths.{true_found, found_true}

-- Chains

-- a true chain ends at a root
chain_root : (w : World) (x r : ℕ) (c : List ℕ) → IsTrueChain w x r c → IsRoot w r
chain_root w x r [] h = absurd h
chain_root w x r (a ∷ []) h = subst (IsRoot w) h.1 h.2
chain_root w x r (a ∷ d ∷ ds) h = chain_root w d r (d ∷ ds) h.3

-- a node whose chain has a length has a true chain
long_true : (w : World) (x : ℕ) → is_positive (chain_length w x) ≡ true → (r : ℕ) × IsRoot w r × HasTrueChain w x r
unfolding chain_length
long_true w x e = by_found (chain_from w x) refl where
  by_found : (found : Option (List ℕ)) → chain_from w x ≡ found → (r : ℕ) × IsRoot w r × HasTrueChain w x r
  by_found None f = let none : is_positive (nodes_in None) ≡ true = ap (λ (g : Option (List ℕ)). is_positive (nodes_in g)) (sym f) ∙ e in absurd cc
  by_found (Some c) f = let chain = found_true w x c f in (chain.0, chain_root w x chain.0 c chain.1, (c, chain.1))

-- the converse: a true chain has a length
true_long : (w : World) (x r : ℕ) → HasTrueChain w x r → is_positive (chain_length w x) ≡ true
unfolding chain_length
true_long w x r ([], h) = absurd h
true_long w x r (a ∷ c, h) = ap (λ (g : Option (List ℕ)). is_positive (nodes_in g)) (true_found w x r (a ∷ c) h)

-- Links

-- a link holds its lease
pub linked_leased : (w : World) (x : ℕ) → is_linked w x ≡ true → is_leased w x ≡ true
linked_leased w x e = by_mode (mode_of w x) e where
  by_mode : (m : Mode) → is_linked_as w x m ≡ true → is_leased_as w x m ≡ true
  by_mode (Joined p) e = (and_parts (is_up w p) (is_number (leased_by (node w p).control.kept.table p x) (node w x).control.kept.seq) e).1
  by_mode Idle e = absurd cc
  by_mode (Asking p) e = absurd cc
  by_mode Acting e = absurd cc

-- a lease at a node that is up is a link
pub leased_linked : (w : World) (x p : ℕ) → IsJoined w x p → IsUp w p → is_leased w x ≡ true → is_linked w x ≡ true
leased_linked w x p joins up leased =
    let holds : is_leased_as w x (Joined p) ≡ true = ap (is_leased_as w x) (sym joins) ∙ leased in
    ap (is_linked_as w x) joins ∙ (ap (λ (b : Bool). b && is_leased_as w x (Joined p)) up ∙ holds)

-- the first node of a true chain is up
pub chain_up : (w : World) (x r : ℕ) (c : List ℕ) → IsTrueChain w x r c → IsUp w x
chain_up w x r [] h = absurd h
chain_up w x r (a ∷ []) h = h.2.0
chain_up w x r (a ∷ d ∷ ds) h = h.1

-- a true chain begins with a link where its first node has a lease
chain_linked : (w : World) (x r : ℕ) (c : List ℕ) → (x ≡ r → ⊥) → IsTrueChain w x r c → is_leased w x ≡ true → is_linked w x ≡ true
chain_linked w x r [] other h leased = absurd h
chain_linked w x r (a ∷ []) other h leased = absurd (other h.1)
chain_linked w x r (a ∷ d ∷ ds) other h leased = leased_linked w x d h.2 (chain_up w d r (d ∷ ds) h.3) leased

-- Tests

-- two tests that follow from each other agree
pub same_truth : (a b : Bool) → (a ≡ true → b ≡ true) → (b ≡ true → a ≡ true) → a ≡ b
same_truth true b f g = sym (f refl)
same_truth false true f g = g refl
same_truth false false f g = refl

-- the properties that the test of a node that is up checks
Fits : World → ℕ → ℕ → Type 0
Fits w r x = (x ≡ r) ⊎ ((IsRoot w x → ⊥) × (is_positive (chain_length w x) ≡ true) × IsLeased w x)

-- a node that passes the test has these properties
fits_true : (w : World) (r x : ℕ) → fits_under w r x ≡ true → IsUp w x → Fits w r x
unfolding fits_under Fits
fits_true w r x e up = by_tests (is_up w x) (x == r) (is_acting (mode_of w x)) (is_positive (chain_length w x)) (is_linked w x) up refl refl refl refl e where
  by_tests : (here same acts long leased : Bool) → here ≡ true → (x == r) ≡ same → is_acting (mode_of w x) ≡ acts → is_positive (chain_length w x) ≡ long → is_linked w x ≡ leased
      → (not here || same || (not acts && long && leased)) ≡ true → (x ≡ r) ⊎ ((IsRoot w x → ⊥) × (is_positive (chain_length w x) ≡ true) × IsLeased w x)
  by_tests here true acts long leased h s a l g e = inl (eqb-true x r s)
  by_tests here false false true true h s a l g e = inr (λ root. true≢false (sym (ap is_acting root.1) ∙ a), l, leased_true w x (linked_leased w x g))
  by_tests true false true long leased h s a l g e = absurd cc
  by_tests true false false false leased h s a l g e = absurd cc
  by_tests true false false true false h s a l g e = absurd cc
  by_tests false false true long leased h s a l g e = absurd cc
  by_tests false false false false leased h s a l g e = absurd cc
  by_tests false false false true false h s a l g e = absurd cc

-- each node of a ready world passes the test under its root
fits_test : (w : World) (r x : ℕ) → IsReadyUnder w r → fits_under w r x ≡ true
unfolding fits_under
fits_test w r x ready = by_tests (is_up w x) (x == r) (is_acting (mode_of w x)) (is_positive (chain_length w x)) (is_linked w x) refl refl refl refl refl where
  other : (x == r) ≡ false → x ≡ r → ⊥
  other s e = true≢false (sym (eq-eqb x r e) ∙ s)

  by_tests : (here same acts long leased : Bool) → is_up w x ≡ here → (x == r) ≡ same → is_acting (mode_of w x) ≡ acts → is_positive (chain_length w x) ≡ long → is_linked w x ≡ leased
      → (not here || same || (not acts && long && leased)) ≡ true
  by_tests false same acts long leased h s a l g = refl
  by_tests true true acts long leased h s a l g = refl
  by_tests true false true long leased h s a l g = absurd (other s (ready.alone x (h, acts_true (mode_of w x) a)))
  by_tests true false false long leased h s a l g =
      let chained : long ≡ true = sym l ∙ true_long w x r (ready.chains x h (other s)) in
      let chain = ready.chains x h (other s) in
      let holds : leased ≡ true = sym g ∙ chain_linked w x r chain.0 (other s) chain.1 (leased_test w x (ready.leases x h (other s))) in
      rw (chained, holds) refl

-- All nodes

-- the world is ready where each node fits under a root
fits_ready : (w : World) (r : ℕ) → IsRoot w r → ((x : ℕ) → IsUp w x → Fits w r x) → IsReadyUnder w r
unfolding Fits
fits_ready w r root fits = record { root = root; alone = alone; chains = chains; leases = leases } where
  alone : (x : ℕ) → IsRoot w x → x ≡ r
  alone x is = ⊎_elim (λ same. same) (λ both. absurd (both.0 is)) (fits x is.0)

  chains : (x : ℕ) → IsUp w x → (x ≡ r → ⊥) → HasTrueChain w x r
  chains x up other =
      ⊎_elim (λ same. absurd (other same)) (λ both. let chain = long_true w x both.1 in subst (HasTrueChain w x) (alone' chain.0 chain.1) chain.2) (fits x up) where
        alone' : (y : ℕ) → IsRoot w y → y ≡ r
        alone' y is = ⊎_elim (λ same. same) (λ both. absurd (both.0 is)) (fits y is.0)

  leases : (x : ℕ) → IsUp w x → (x ≡ r → ⊥) → IsLeased w x
  leases x up other = ⊎_elim (λ same. absurd (other same)) (λ both. both.2) (fits x up)

-- the world is ready exactly where each node fits under its first root
pub ready_fits : (w : World) (r : ℕ) → Some r ≡ find (is_root w) (ids w) → list_all (fits_under w r) (ids w) ≡ is_ready w
ready_fits w r e = same_truth (list_all (fits_under w r) (ids w)) (is_ready w) there back where
  root : IsRoot w r
  root = root_true w r (found_passes (is_root w) (ids w) r (sym e))

  there : list_all (fits_under w r) (ids w) ≡ true → is_ready w ≡ true
  there all = (ready_tested w).1 (r, fits_ready w r root (λ x up. fits_true w r x (all_test (fits_under w r) (ids w) all x (up_in w.processes x up)) up))

  back : is_ready w ≡ true → list_all (fits_under w r) (ids w) ≡ true
  back ready = test_all (fits_under w r) (ids w) (λ x one. fits_test w r x (under ((ready_tested w).0 ready))) where
    under : IsReady w → IsReadyUnder w r
    under (s, is) = subst (IsReadyUnder w) (sym (is.alone r root)) is

-- a world without a root is not ready
pub rootless : (w : World) → None ≡ find (is_root w) (ids w) → false ≡ is_ready w
rootless w e = ap (ready_under w) e

-- Loops over the nodes

-- one more node passes, so the result is that of the rest
pub all_more : (test : ℕ → Bool) (k end : ℕ) (all : Bool) → k < end → test k ≡ true → list_all test (range_with_len k (end - k)) ≡ all
    → list_all test (range_with_len (k + 1) (end - (k + 1))) ≡ all
all_more test k end all within passes so_far =
    let more : end - k ≡ suc (end - (k + 1)) = omega (arith, within) in
    let next : list_all test (range_with_len k (end - k)) ≡ list_all test (range_with_len (k + 1) (end - (k + 1))) = rw (more, passes) refl in
    sym next ∙ so_far

-- one node fails, so the result is false
pub all_fails : (test : ℕ → Bool) (k end : ℕ) (all : Bool) → k < end → test k ≡ false → list_all test (range_with_len k (end - k)) ≡ all → false ≡ all
all_fails test k end all within fails so_far =
    let more : end - k ≡ suc (end - (k + 1)) = omega (arith, within) in
    let next : list_all test (range_with_len k (end - k)) ≡ false = rw (more, fails) refl in
    sym next ∙ so_far

-- no node remains that could fail
pub all_ends : (test : ℕ → Bool) (k end : ℕ) (all : Bool) → end ≤ k → list_all test (range_with_len k (end - k)) ≡ all → true ≡ all
all_ends test k end all past so_far =
    let none : end - k ≡ 0 = omega (arith, past) in
    let next : list_all test (range_with_len k (end - k)) ≡ true = rw none refl in
    sym next ∙ so_far

-- the first root is among the nodes that were not looked at yet
pub find_more : (test : ℕ → Bool) (k end : ℕ) (found : Option ℕ) → k < end → test k ≡ false → find test (range_with_len k (end - k)) ≡ found
    → find test (range_with_len (k + 1) (end - (k + 1))) ≡ found
find_more test k end found within fails so_far =
    let more : end - k ≡ suc (end - (k + 1)) = omega (arith, within) in
    let next : find test (range_with_len k (end - k)) ≡ find test (range_with_len (k + 1) (end - (k + 1))) = rw (more, fails) refl in
    sym next ∙ so_far

-- the first root is the node that is looked at
pub find_here : (test : ℕ → Bool) (k end : ℕ) (found : Option ℕ) → k < end → test k ≡ true → find test (range_with_len k (end - k)) ≡ found → Some k ≡ found
find_here test k end found within passes so_far =
    let more : end - k ≡ suc (end - (k + 1)) = omega (arith, within) in
    let next : find test (range_with_len k (end - k)) ≡ Some k = rw (more, passes) refl in
    sym next ∙ so_far

-- no node remains that could be the first root
pub find_ends : (test : ℕ → Bool) (k end : ℕ) (found : Option ℕ) → end ≤ k → find test (range_with_len k (end - k)) ≡ found → None ≡ found
find_ends test k end found past so_far =
    let none : end - k ≡ 0 = omega (arith, past) in
    let next : find test (range_with_len k (end - k)) ≡ None = rw none refl in
    sym next ∙ so_far
