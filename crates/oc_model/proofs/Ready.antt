-- The tests of a world by which settle and heal decide agree with their definitions.
use Rattle.std.proofs.Common.{◌≡◌, ℕ, Bool, true, false, not, ◌&&◌, ◌||◌, ◌==◌, Option, Some, None, is_some, find, List, [], ◌∷◌, ◌⊎◌, ◌↔◌, inl, inr, ⊎_elim, refl, ap, sym, ◌∙◌, true≢false, eqb-true, eq-eqb}
use Rattle.std.specs.List.{list_all}
use Rattle.std.proofs.lemmas.Bool.{and_parts}
use Rattle.oc_model.specs.declared.mode.Mode.{Mode}
use Rattle.oc_model.specs.declared.mode.Mode.TheVariants.{Idle, Asking, Joined, Acting}
use Rattle.oc_model.specs.Adopting.{is_acting, is_number}
use Rattle.oc_model.specs.Chains.{IsUp, IsRoot, HasTrueChain, chain_to}
use Rattle.oc_model.specs.Ready.{IsLeased, IsReadyUnder, IsReady, is_root, is_leased_as, is_leased, stands_under, ready_under, is_ready}
use Rattle.oc_model.specs.Table.{leased_by}
use Rattle.oc_model.specs.World.{World, node, is_up, mode_of, ids}
use Rattle.oc_model.proofs.Chains.{chain_unique, chain_to-finds, chain_to-true}
use Rattle.oc_model.proofs.Members.{all_test, test_all, found_by, found_passes}
use Rattle.oc_model.proofs.Processes.{up_in}

-- a mode that is tested as acting is
pub acts_true : (m : Mode) → is_acting m ≡ true → m ≡ Acting
acts_true Acting e = refl
acts_true Idle e = absurd cc
acts_true (Asking p) e = absurd cc
acts_true (Joined p) e = absurd cc

-- the test of a root says it
pub root_true : (w : World) (x : ℕ) → is_root w x ≡ true → IsRoot w x
root_true w x e = let both = and_parts (is_up w x) (is_acting (mode_of w x)) e in (both.0, acts_true (mode_of w x) both.1)

pub root_test : (w : World) (x : ℕ) → IsRoot w x → is_root w x ≡ true
root_test w x root = rw (root.0, root.1) refl

-- the number of an optional one
number_true : (s : ℕ) (found : Option ℕ) → is_number found s ≡ true → found ≡ Some s
number_true s None e = absurd cc
number_true s (Some n) e = ap Some (eqb-true n s e)

number_test : (s : ℕ) (found : Option ℕ) → found ≡ Some s → is_number found s ≡ true
number_test s None e = absurd cc
number_test s (Some n) e = let same : n ≡ s = cc in eq-eqb n s same

-- the test of a lease says it
pub leased_true : (w : World) (x : ℕ) → is_leased w x ≡ true → IsLeased w x
leased_true w x e = by_mode (mode_of w x) refl e where
  by_mode : (m : Mode) → mode_of w x ≡ m → is_leased_as w x m ≡ true → IsLeased w x
  by_mode (Joined p) joins f = (p, joins, number_true (node w x).control.kept.seq (leased_by (node w p).control.kept.table p x) f)
  by_mode Idle joins f = absurd cc
  by_mode (Asking p) joins f = absurd cc
  by_mode Acting joins f = absurd cc

pub leased_test : (w : World) (x : ℕ) → IsLeased w x → is_leased w x ≡ true
leased_test w x leased = rw leased.1 (number_test (node w x).control.kept.seq (leased_by (node w leased.0).control.kept.table leased.0 x) leased.2)

-- there is a true chain where one is computed
chained_true : (w : World) (r x : ℕ) → is_some (chain_to w r x) ≡ true → HasTrueChain w x r
chained_true w r x e = by_found (chain_to w r x) refl e where
  by_found : (found : Option (List ℕ)) → chain_to w r x ≡ found → is_some found ≡ true → HasTrueChain w x r
  by_found None f some = absurd cc
  by_found (Some c) f some = (c, chain_to-true w x r c f)

-- one is computed where there is one
chained_test : (w : World) (r x : ℕ) → HasTrueChain w x r → is_some (chain_to w r x) ≡ true
chained_test w r x chain = rw (chain_to-finds w x r chain.0 chain.1) refl

-- a root has a true chain to itself alone
chain_of_root : (w : World) (x r : ℕ) → IsRoot w x → HasTrueChain w x r → x ≡ r
chain_of_root w x r root ([], h) = absurd h
chain_of_root w x r root (a ∷ [], h) = h.1
chain_of_root w x r root (a ∷ d ∷ ds, h) = let same : (a ∷ d ∷ ds) ≡ (x ∷ []) = chain_unique w x r x (a ∷ d ∷ ds) (x ∷ []) h (refl, refl, root) in absurd cc

-- Under a root

-- the facts that the test of a node under the root gives, if the node is up
Stands : World → ℕ → ℕ → Type 0
Stands w r x = (x ≡ r) ⊎ (HasTrueChain w x r × IsLeased w x)

stands_true : (w : World) (r x : ℕ) → stands_under w r x ≡ true → IsUp w x → Stands w r x
unfolding Stands
stands_true w r x e up = by_tests (is_up w x) (x == r) (is_some (chain_to w r x)) (is_leased w x) up refl refl refl e where
  by_tests : (here same chained leased : Bool) → here ≡ true → (x == r) ≡ same → is_some (chain_to w r x) ≡ chained → is_leased w x ≡ leased
      → (not here || same || (chained && leased)) ≡ true → Stands w r x
  by_tests here true chained leased h f g l e = inl (eqb-true x r f)
  by_tests here false true true h f g l e = inr (chained_true w r x g, leased_true w x l)
  by_tests true false false leased h f g l e = absurd cc
  by_tests true false true false h f g l e = absurd cc
  by_tests false false false leased h f g l e = absurd cc
  by_tests false false true false h f g l e = absurd cc

-- in a ready world each node passes the test
stands_test : (w : World) (r x : ℕ) → IsReadyUnder w r → stands_under w r x ≡ true
stands_test w r x ready = by_tests (is_up w x) (x == r) (is_some (chain_to w r x)) (is_leased w x) refl refl
    (λ up other. chained_test w r x (ready.chains x up (λ is. true≢false (sym (eq-eqb x r is) ∙ other))))
    (λ up other. leased_test w x (ready.leases x up (λ is. true≢false (sym (eq-eqb x r is) ∙ other)))) where
      by_tests : (here same chained leased : Bool) → is_up w x ≡ here → (x == r) ≡ same
          → (is_up w x ≡ true → (x == r) ≡ false → chained ≡ true) → (is_up w x ≡ true → (x == r) ≡ false → leased ≡ true)
          → (not here || same || (chained && leased)) ≡ true
      by_tests false same chained leased h f g l = refl
      by_tests true true chained leased h f g l = refl
      by_tests true false chained leased h f g l = rw (g h f, l h f) refl

-- where `Stands` holds of each node that is up, the world is ready
ready_if : (w : World) (r : ℕ) → IsRoot w r → ((x : ℕ) → IsUp w x → Stands w r x) → IsReadyUnder w r
unfolding Stands
ready_if w r root stands = record {
  root = root;
  alone = λ x is. ⊎_elim (λ same. same) (λ both. chain_of_root w x r is both.0) (stands x is.0);
  chains = λ x up other. ⊎_elim (λ same. absurd (other same)) (λ both. both.0) (stands x up);
  leases = λ x up other. ⊎_elim (λ same. absurd (other same)) (λ both. both.1) (stands x up);
}

-- a world that is tested as ready is
pub ready_true : (w : World) → is_ready w ≡ true → IsReady w
ready_true w e = by_found (find (is_root w) (ids w)) refl e where
  by_found : (found : Option ℕ) → find (is_root w) (ids w) ≡ found → ready_under w found ≡ true → IsReady w
  by_found None f all = absurd cc
  by_found (Some r) f all = (r, ready_if w r (root_true w r (found_passes (is_root w) (ids w) r f)) (λ x up. stands_true w r x (all_test (stands_under w r) (ids w) all x (up_in w.processes x up)) up))

-- a ready world passes the test
pub ready_test : (w : World) → IsReady w → is_ready w ≡ true
ready_test w (r, ready) =
    let found = found_by (is_root w) (ids w) r (up_in w.processes r ready.root.0) (root_test w r ready.root) in
    let same : found.0 ≡ r = ready.alone found.0 (root_true w found.0 found.2) in
    let all : list_all (stands_under w r) (ids w) ≡ true = test_all (stands_under w r) (ids w) (λ x one. stands_test w r x ready) in
    let there : find (is_root w) (ids w) ≡ Some r = found.1 ∙ ap Some same in
    rw there all

-- the test of ready is its definition
pub ready_tested : (w : World) → (is_ready w ≡ true) ↔ IsReady w
ready_tested w = (ready_true w, ready_test w)
