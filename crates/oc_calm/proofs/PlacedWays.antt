-- The placed nodes: the leader, and each node with a leased link to a placed one.
use Rattle.std.proofs.Common.{◌≡◌, ℕ, zero, suc, ◌+◌, ◌<◌, ◌≤◌, Bool, true, false, Option, Some, None, List, [], ◌∷◌, ◌++◌, length, drop, reverse, refl, ap, sym, subst, ◌∙◌, arith, true≢false}
use Rattle.std.proofs.lemmas.List.{reverse-append}
use Rattle.oc_model.specs.Chains.{IsRoot, IsTrueChain, chain_to}
use Rattle.oc_model.specs.Heal.{AreLeased, IsPlaced, top_down}
use Rattle.oc_model.specs.Ready.{is_root, is_leased}
use Rattle.oc_model.specs.World.{World, ids}
use Rattle.oc_model.proofs.Able.{placed_tested}
use Rattle.oc_model.proofs.Chains.{chain_to-finds, chain_to-true}
use Rattle.oc_model.proofs.Ready.{root_true, root_test, leased_true, leased_test}
use Rattle.oc_calm.specs.Played.{is_placed_under, nodes_below}
use Rattle.oc_calm.specs.Tree.{parent_of, chain_length, above_of, above, is_linked}
use Rattle.oc_calm.proofs.ChainLengths.{parent_true, parent_found, link, unlink, longer, length_above, length_short, length_of_true}
use Rattle.oc_calm.proofs.Fitting.{same_truth, linked_leased, leased_linked, chain_up}

-- Placed

-- a node that passes the test is placed
placed_true : (w : World) (m x : ℕ) → is_placed_under w m x ≡ true → IsPlaced w m x
unfolding is_placed_under
placed_true w m x e = (placed_tested w m x).0 e

-- the converse: a placed node passes the test
placed_test : (w : World) (m x : ℕ) → IsPlaced w m x → is_placed_under w m x ≡ true
unfolding is_placed_under
placed_test w m x placed = (placed_tested w m x).1 placed

-- the leader is placed once it acts
pub leader_placed : (w : World) (m x : ℕ) → x ≡ m → is_root w x ≡ true → is_placed_under w m x ≡ true
leader_placed w m x same root = placed_test w m x (x ∷ [], (refl, same, root_true w x root), tt)

-- the rest of a leased chain after its first link is leased
behind : (w : World) (x : ℕ) (d : List ℕ) → AreLeased w (x ∷ d) → AreLeased w d
behind w x [] all = tt
behind w x (y ∷ ys) all = all.1

-- a leased link before a leased chain gives a leased chain
before : (w : World) (x p r : ℕ) (d : List ℕ) → IsTrueChain w p r d → is_leased w x ≡ true → AreLeased w d → AreLeased w (x ∷ d)
before w x p r [] chain leased all = tt
before w x p r (y ∷ ys) chain leased all = (leased_true w x leased, all)

-- a placed node that has a parent is linked to it, and the parent is placed
pub placed_parent : (w : World) (m x p : ℕ) → parent_of w x ≡ Some p → is_placed_under w m x ≡ true → (is_linked w x ≡ true) × (is_placed_under w m p ≡ true)
placed_parent w m x p up e =
    let placed = placed_true w m x e in
    let is = parent_true w x p up in
    let rest = unlink w x p m placed.0 is.0 is.1 placed.1 in
    let leases : AreLeased w (x ∷ rest.0) = subst (AreLeased w) rest.2 placed.2 in
    (leased_linked w x p is.1 (chain_up w p m rest.0 rest.1) (first rest.0 rest.1 leases), placed_test w m p (rest.0, rest.1, behind w x rest.0 leases)) where
      first : (d : List ℕ) → IsTrueChain w p m d → AreLeased w (x ∷ d) → is_leased w x ≡ true
      first [] chain leases = absurd chain
      first (y ∷ ys) chain leases = leased_test w x leases.0

-- the converse: a node that is linked to a placed parent is placed
pub placed_linked : (w : World) (m x p : ℕ) → parent_of w x ≡ Some p → is_linked w x ≡ true → is_placed_under w m p ≡ is_placed_under w m x
placed_linked w m x p up linked = same_truth (is_placed_under w m p) (is_placed_under w m x) there (λ e. (placed_parent w m x p up e).1) where
  there : is_placed_under w m p ≡ true → is_placed_under w m x ≡ true
  there e =
      let placed = placed_true w m p e in
      let is = parent_true w x p up in
      placed_test w m x (x ∷ placed.0, link w x p m placed.0 is.0 is.1 placed.1, before w x p m placed.0 placed.1 (linked_leased w x linked) placed.2)

-- a truth value that is not true is false
not_so : (b : Bool) → (b ≡ true → ⊥) → false ≡ b
not_so true denied = absurd (denied refl)
not_so false denied = refl

-- a node without a leased link to its parent is not placed
pub linkless : (w : World) (m x p : ℕ) → parent_of w x ≡ Some p → is_linked w x ≡ false → false ≡ is_placed_under w m x
linkless w m x p up none = not_so (is_placed_under w m x) (λ e. true≢false (sym (placed_parent w m x p up e).0 ∙ none))

-- a true chain of a node without a parent has that node alone, as its root
top_only : (w : World) (x r : ℕ) (c : List ℕ) → parent_of w x ≡ None → IsTrueChain w x r c → (x ≡ r) × (is_root w x ≡ true)
top_only w x r [] none chain = absurd chain
top_only w x r (a ∷ []) none chain = (chain.1, root_test w x chain.2)
top_only w x r (a ∷ d ∷ ds) none chain = let has : parent_of w x ≡ Some d = parent_found w x d chain.1 chain.2 in absurd cc

-- a node without a parent that is not an acting leader is not placed
pub unlinked : (w : World) (m x : ℕ) → parent_of w x ≡ None → (x ≡ m → is_root w x ≡ false) → false ≡ is_placed_under w m x
unlinked w m x none other = not_so (is_placed_under w m x) (λ e. let placed = placed_true w m x e in let top = top_only w x m placed.0 none placed.1 in true≢false (sym top.1 ∙ other top.0))

-- a node at the end of a way with at least as many links as the world has nodes has no true chain
long_chain : (w : World) (k x y r : ℕ) (c : List ℕ) → length (ids w) ≤ k → above w k x ≡ Some y → IsTrueChain w y r c → ⊥
long_chain w k x y r c long way chain = absurd (by_length (chain_length w y) refl (length_of_true w y r c chain)) where
  by_length : (n : ℕ) → chain_length w y ≡ n → 0 < chain_length w y → ⊥
  by_length zero e some = omega (arith, e, some)
  by_length (suc n) e some = let all : chain_length w x ≡ suc n + k = length_above w k x y way ∙ ap (longer k) e in omega (arith, all, length_short w x, long)

-- the node at the start of such a way is not placed
pub too_long : (w : World) (m k x y : ℕ) → length (ids w) ≤ k → above w k x ≡ Some y → is_placed_under w m y ≡ is_placed_under w m x → false ≡ is_placed_under w m x
too_long w m k x y long way same = not_so (is_placed_under w m x) (λ e. let placed = placed_true w m y (same ∙ e) in long_chain w k x y m placed.0 long way placed.1)

-- The nodes on a way up

-- the rest of a way from the parent on; no node without a parent
pub on_way : Option ℕ → (ℕ → List ℕ) → List ℕ
on_way None rest = []
on_way (Some p) rest = rest p

-- the first k nodes of the way up from x
pub way_up : World → ℕ → ℕ → List ℕ
way_up w zero x = []
way_up w (suc k) x = x ∷ on_way (parent_of w x) (way_up w k)

-- the way of no links has no nodes
pub way_zero : (w : World) (x : ℕ) → way_up w 0 x ≡ []
unfolding way_up
way_zero w x = refl

-- a way with one node more at its end
pub way_more : (w : World) (k x y : ℕ) → above w k x ≡ Some y → way_up w (k + 1) x ≡ way_up w k x ++ y ∷ []
unfolding way_up on_way above
way_more w zero x y e = let same : x ≡ y = cc in by_parent (parent_of w x) same where
  by_parent : (p : Option ℕ) → x ≡ y → x ∷ on_way p (way_up w 0) ≡ y ∷ []
  by_parent None same = ap (λ z. z ∷ []) same
  by_parent (Some p) same = ap (λ z. z ∷ []) same
way_more w (suc k) x y e = by_parent (way_more w k) (parent_of w x) refl e where
  by_parent : ((x y : ℕ) → above w k x ≡ Some y → way_up w (k + 1) x ≡ way_up w k x ++ y ∷ []) → (p : Option ℕ) → parent_of w x ≡ p
      → above_of (above w k) (parent_of w x) ≡ Some y → way_up w (suc k + 1) x ≡ way_up w (suc k) x ++ y ∷ []
  by_parent rest None f e = let none : None ≡ Some y = rw f at e in absurd cc
  by_parent rest (Some p) f e =
      let there : above w k p ≡ Some y = rw f at e in
      let more : suc k + 1 ≡ suc (k + 1) = omega arith in
      rw (more, f) (ap (λ (xs : List ℕ). x ∷ xs) (rest p y there))

-- the way up to a root is a true chain
way_true : (w : World) (k x r : ℕ) → above w k x ≡ Some r → IsRoot w r → IsTrueChain w x r (way_up w k x ++ r ∷ [])
unfolding way_up on_way above
way_true w zero x r e root = let same : x ≡ r = cc in (sym same, same, subst (IsRoot w) (sym same) root)
way_true w (suc k) x r e root = by_parent (way_true w k) (parent_of w x) refl e where
  by_parent : ((x r : ℕ) → above w k x ≡ Some r → IsRoot w r → IsTrueChain w x r (way_up w k x ++ r ∷ [])) → (p : Option ℕ) → parent_of w x ≡ p
      → above_of (above w k) (parent_of w x) ≡ Some r → IsTrueChain w x r (way_up w (suc k) x ++ r ∷ [])
  by_parent rest None f e = let none : None ≡ Some r = rw f at e in absurd cc
  by_parent rest (Some p) f e =
      let there : above w k p ≡ Some r = rw f at e in
      let is = parent_true w x p f in
      rw f (link w x p r (way_up w k p ++ r ∷ []) is.0 is.1 (rest p r there root))

-- a true chain goes on above each node on the way
chain_above : (w : World) (k x y r : ℕ) (c : List ℕ) → above w k x ≡ Some y → IsTrueChain w x r c → (d : List ℕ) × IsTrueChain w y r d
unfolding above
chain_above w zero x y r c e chain = let same : x ≡ y = cc in (c, subst (λ z. IsTrueChain w z r c) same chain)
chain_above w (suc k) x y r c e chain = by_parent (chain_above w k) (parent_of w x) refl e where
  by_parent : ((x y r : ℕ) (c : List ℕ) → above w k x ≡ Some y → IsTrueChain w x r c → (d : List ℕ) × IsTrueChain w y r d) → (p : Option ℕ) → parent_of w x ≡ p
      → above_of (above w k) (parent_of w x) ≡ Some y → (d : List ℕ) × IsTrueChain w y r d
  by_parent rest None f e = let none : None ≡ Some y = rw f at e in absurd cc
  by_parent rest (Some p) f e =
      let there : above w k p ≡ Some y = rw f at e in
      let is = parent_true w x p f in
      let below = unlink w x p r c is.0 is.1 chain in
      rest p y r below.0 there below.1

-- The nodes below the top

-- the nodes below the top, where the way comes to the top
pub below_way : (w : World) (k m x y : ℕ) → above w k x ≡ Some y → y ≡ m → is_root w y ≡ true → reverse (way_up w k x) ≡ nodes_below m x w
unfolding nodes_below
below_way w k m x y way same root =
    let here : above w k x ≡ Some m = way ∙ ap Some same in
    let chain : chain_to w m x ≡ Some (way_up w k x ++ m ∷ []) = chain_to-finds w x m (way_up w k x ++ m ∷ []) (way_true w k x m here (subst (IsRoot w) same (root_true w y root))) in
    let turned : reverse (way_up w k x ++ m ∷ []) ≡ m ∷ reverse (way_up w k x) = reverse-append (way_up w k x) (m ∷ []) in
    sym (ap top_down chain ∙ ap (drop 1) turned)

-- no node is below the top where there is no chain to it
none_below : (w : World) (m x : ℕ) → ((c : List ℕ) → IsTrueChain w x m c → ⊥) → [] ≡ nodes_below m x w
unfolding nodes_below
none_below w m x none = by_found (chain_to w m x) refl where
  by_found : (found : Option (List ℕ)) → chain_to w m x ≡ found → [] ≡ top_down (chain_to w m x)
  by_found None e = ap top_down (sym e)
  by_found (Some c) e = absurd (none c (chain_to-true w x m c e))

-- no node is below the top where the way ends elsewhere
pub below_elsewhere : (w : World) (k m x y : ℕ) → above w k x ≡ Some y → parent_of w y ≡ None → (y ≡ m → is_root w y ≡ false) → [] ≡ nodes_below m x w
below_elsewhere w k m x y way none other =
    none_below w m x (λ c chain. let up = chain_above w k x y m c way chain in let top = top_only w y m up.0 none up.1 in true≢false (sym top.1 ∙ other top.0))

-- no node is below the top where the way never ends
pub below_endless : (w : World) (k m x y : ℕ) → length (ids w) ≤ k → above w k x ≡ Some y → [] ≡ nodes_below m x w
below_endless w k m x y long way = none_below w m x (λ c chain. let up = chain_above w k x y m c way chain in long_chain w k x y m up.0 long way up.1)
