-- The lengths of true chains: a node's is one more than its parent's, and a way that comes back to its start has none.
use Rattle.std.proofs.Common.{◌≡◌, ℕ, zero, suc, ◌+◌, ◌-◌, ◌<◌, ◌≤◌, Bool, true, false, ◌==◌, Option, Some, None, option_map, List, [], ◌∷◌, length, if◌then◌else◌, refl, ap, sym, subst, ◌∙◌, arith, eq-eqb}
use Rattle.std.proofs.lemmas.List.{length-map}
use Rattle.oc_model.specs.declared.mode.Mode.{Mode}
use Rattle.oc_model.specs.declared.mode.Mode.TheVariants.{Idle, Asking, Joined, Acting}
use Rattle.oc_model.specs.Chains.{IsUp, IsJoined, IsTrueChain, climb_from, chain_from, ending_at}
use Rattle.oc_model.specs.Ready.{is_root}
use Rattle.oc_model.specs.World.{World, ids, is_up, mode_of}
use Rattle.oc_model.proofs.Chains.{chain_short, chain_to-finds, chain_to-true}
use Rattle.oc_model.proofs.Ready.{root_true, root_test}
use Rattle.oc_model.specs.Numbers.{last_of}
use Rattle.oc_calm.specs.Tree.{parent_as, parent_of, nodes_in, chain_length, length_alone, above_of, above, is_positive}

-- Computed chains

-- a chain that ends at a root is found as computed
ended : (r : ℕ) (found : Option (List ℕ)) (c : List ℕ) → ending_at r found ≡ Some c → found ≡ Some c
ended r None c e = absurd cc
ended r (Some []) c e = absurd cc
ended r (Some (x ∷ xs)) c e = by_test (last_of x xs == r) refl where
  by_test : (b : Bool) → (last_of x xs == r) ≡ b → Some (x ∷ xs) ≡ Some c
  by_test true t = rw t at e
  by_test false t = let none : None ≡ Some c = rw t at e in absurd cc

-- a true chain is the chain that is found
pub true_found : (w : World) (x r : ℕ) (c : List ℕ) → IsTrueChain w x r c → chain_from w x ≡ Some c
true_found w x r c h = ended r (chain_from w x) c (chain_to-finds w x r c h)

-- a found chain is not empty
not_empty : (n : ℕ) (w : World) (x : ℕ) (up : Bool) (m : Mode) → climb_from n w x up m ≡ Some [] → ⊥
not_empty zero w x up m e = absurd cc
not_empty (suc n) w x true Acting e = absurd cc
not_empty (suc n) w x true (Joined p) e = by_found (climb_from n w p (is_up w p) (mode_of w p)) e where
  by_found : (found : Option (List ℕ)) → option_map (λ c. x ∷ c) found ≡ Some [] → ⊥
  by_found None e = absurd cc
  by_found (Some c) e = absurd cc
not_empty (suc n) w x true Idle e = absurd cc
not_empty (suc n) w x true (Asking p) e = absurd cc
not_empty (suc n) w x false m e = absurd cc

-- a found chain is a true chain
pub found_true : (w : World) (x : ℕ) (c : List ℕ) → chain_from w x ≡ Some c → (r : ℕ) × IsTrueChain w x r c
found_true w x [] e = absurd (not_empty (length w.processes) w x (is_up w x) (mode_of w x) e)
found_true w x (a ∷ c) e =
    let ends : (last_of a c == last_of a c) ≡ true = eq-eqb (last_of a c) (last_of a c) refl in
    (last_of a c, chain_to-true w x (last_of a c) (a ∷ c) (rw (e, ends) refl))

-- Parents

-- a node's parent is one that the node, which is up, is joined to
pub parent_true : (w : World) (x p : ℕ) → parent_of w x ≡ Some p → IsUp w x × IsJoined w x p
unfolding parent_of
parent_true w x p e = by_case (is_up w x) (mode_of w x) refl refl e where
  by_case : (up : Bool) (m : Mode) → is_up w x ≡ up → mode_of w x ≡ m → parent_as up m ≡ Some p → IsUp w x × IsJoined w x p
  by_case true (Joined q) u j e = let same : q ≡ p = cc in (u, j ∙ ap Joined same)
  by_case true Idle u j e = absurd cc
  by_case true (Asking q) u j e = absurd cc
  by_case true Acting u j e = absurd cc
  by_case false m u j e = absurd cc

-- the converse: a node that is up has the parent it is joined to
pub parent_found : (w : World) (x p : ℕ) → IsUp w x → IsJoined w x p → parent_of w x ≡ Some p
unfolding parent_of
parent_found w x p up joins = rw (up, joins) refl

-- a true chain with one more link before its first node is a true chain
pub link : (w : World) (x p r : ℕ) (c : List ℕ) → IsUp w x → IsJoined w x p → IsTrueChain w p r c → IsTrueChain w x r (x ∷ c)
link w x p r [] up joins chain = absurd chain
link w x p r (a ∷ []) up joins chain = (refl, up, subst (IsJoined w x) (sym chain.0) joins, subst (λ z. IsTrueChain w z r (a ∷ [])) (sym chain.0) chain)
link w x p r (a ∷ d ∷ ds) up joins chain = (refl, up, subst (IsJoined w x) (sym chain.0) joins, subst (λ z. IsTrueChain w z r (a ∷ d ∷ ds)) (sym chain.0) chain)

-- the rest of a true chain after its first link is the true chain of the parent
pub unlink : (w : World) (x p r : ℕ) (c : List ℕ) → IsUp w x → IsJoined w x p → IsTrueChain w x r c → (d : List ℕ) × IsTrueChain w p r d × (c ≡ x ∷ d)
unlink w x p r [] up joins chain = absurd chain
unlink w x p r (a ∷ []) up joins chain = absurd (acts (sym chain.2.1 ∙ joins)) where
  acts : Acting ≡ Joined p → ⊥
  acts e = absurd cc
unlink w x p r (a ∷ d ∷ ds) up joins chain = (d ∷ ds, subst (λ z. IsTrueChain w z r (d ∷ ds)) (same (sym chain.2 ∙ joins)) chain.3, ap (λ z. z ∷ d ∷ ds) chain.0) where
  same : Joined d ≡ Joined p → d ≡ p
  same e = cc

-- Lengths

-- a length with k nodes more; 0 stays 0, for no chain
abbrev pub longer : ℕ → ℕ → ℕ
longer k zero = 0
longer k (suc n) = suc n + k

-- the computed chain of a node that has a parent
chain_linked : (w : World) (x p : ℕ) → IsUp w x → IsJoined w x p → chain_from w x ≡ option_map (λ c. x ∷ c) (chain_from w p)
chain_linked w x p up joins = by_found (chain_from w p) (chain_from w x) refl refl where
  by_found : (below above' : Option (List ℕ)) → chain_from w p ≡ below → chain_from w x ≡ above' → chain_from w x ≡ option_map (λ c. x ∷ c) (chain_from w p)
  by_found (Some d) here e f = let chain = found_true w p d e in true_found w x chain.0 (x ∷ d) (link w x p chain.0 d up joins chain.1) ∙ ap (option_map (λ c. x ∷ c)) (sym e)
  by_found None None e f = f ∙ ap (option_map (λ c. x ∷ c)) (sym e)
  by_found None (Some c) e f =
      let chain = found_true w x c f in
      let rest = unlink w x p chain.0 c up joins chain.1 in
      let there : chain_from w p ≡ Some rest.0 = true_found w p chain.0 rest.0 rest.1 in
      absurd cc

-- a chain with one link more has one node more
length_of_link : (x : ℕ) (found : Option (List ℕ)) → (found ≡ Some [] → ⊥) → nodes_in (option_map (λ c. x ∷ c) found) ≡ longer 1 (nodes_in found)
length_of_link x None some = refl
length_of_link x (Some []) some = absurd (some refl)
length_of_link x (Some (y ∷ ys)) some = omega arith

-- the length of the chain of a node that has a parent
pub length_linked : (w : World) (x p : ℕ) → parent_of w x ≡ Some p → chain_length w x ≡ longer 1 (chain_length w p)
unfolding chain_length
length_linked w x p e =
    let is = parent_true w x p e in
    ap nodes_in (chain_linked w x p is.0 is.1) ∙ length_of_link x (chain_from w p) (not_empty (length w.processes) w p (is_up w p) (mode_of w p))

-- the length of the chain of a node without a parent
pub length_unlinked : (w : World) (x : ℕ) → parent_of w x ≡ None → length_alone w x ≡ chain_length w x
unfolding chain_length length_alone
length_unlinked w x e = by_root (is_root w x) refl where
  none_found : is_root w x ≡ false → (found : Option (List ℕ)) → chain_from w x ≡ found → 0 ≡ nodes_in (chain_from w x)
  none_found other None f = ap nodes_in (sym f)
  none_found other (Some c) f = absurd (by_chain c (found_true w x c f)) where
    by_chain : (c : List ℕ) → ((r : ℕ) × IsTrueChain w x r c) → ⊥
    by_chain [] h = h.1
    by_chain (a ∷ []) h = let roots : is_root w x ≡ true = root_test w x h.1.2 in absurd cc
    by_chain (a ∷ d ∷ ds) h = let has : parent_of w x ≡ Some d = parent_found w x d h.1.1 h.1.2 in absurd cc

  by_root : (b : Bool) → is_root w x ≡ b → (if is_root w x then 1 else 0) ≡ nodes_in (chain_from w x)
  by_root true f = rw f (ap nodes_in (sym (true_found w x x (x ∷ []) (refl, refl, root_true w x f))))
  by_root false f = ap (λ (b : Bool). if b then 1 else 0) f ∙ none_found f (chain_from w x) refl

-- a node that has a parent is noted at first as one without a chain
pub linked_alone : (w : World) (x p : ℕ) → parent_of w x ≡ Some p → length_alone w x ≡ 0
unfolding length_alone
linked_alone w x p e = by_root (is_root w x) refl where
  by_root : (b : Bool) → is_root w x ≡ b → length_alone w x ≡ 0
  by_root false f = rw f refl
  by_root true f = let acts = (root_true w x f).1 in let joins = (parent_true w x p e).1 in let no : Acting ≡ Joined p = sym acts ∙ joins in absurd cc

-- a true chain has at most as many nodes as the world
pub length_short : (w : World) (x : ℕ) → chain_length w x ≤ length (ids w)
unfolding chain_length
length_short w x = by_found (chain_from w x) refl where
  by_found : (found : Option (List ℕ)) → chain_from w x ≡ found → nodes_in (chain_from w x) ≤ length (ids w)
  by_found None e = let none : nodes_in (chain_from w x) ≡ 0 = ap nodes_in e in omega (arith, none)
  by_found (Some c) e =
      let chain = found_true w x c e in
      let same : nodes_in (chain_from w x) ≡ length c = ap nodes_in e in
      let places : length (ids w) ≡ length w.processes = length-map w.processes (λ p. p.node.control.me) in
      omega (arith, same, places, chain_short w x chain.0 c chain.1)

-- Ways up

-- the first link of a way up
pub above_first : (w : World) (k x p : ℕ) → parent_of w x ≡ Some p → above w (suc k) x ≡ above w k p
unfolding above
above_first w k x p e = ap (above_of (above w k)) e

-- no link leads up from a node without a parent
pub above_none : (w : World) (k x : ℕ) → parent_of w x ≡ None → above w (suc k) x ≡ None
unfolding above
above_none w k x e = ap (above_of (above w k)) e

-- the way of no links leads to the node itself
pub above_zero : (w : World) (x : ℕ) → above w 0 x ≡ Some x
unfolding above
above_zero w x = refl

-- a way with one link more at its end
pub above_more : (w : World) (k x y p : ℕ) → above w k x ≡ Some y → parent_of w y ≡ Some p → above w (k + 1) x ≡ Some p
unfolding above
above_more w zero x y p e f = let same : x ≡ y = cc in let here : parent_of w x ≡ Some p = ap (parent_of w) same ∙ f in ap (above_of (above w 0)) here
above_more w (suc k) x y p e f = by_parent (above_more w k) (parent_of w x) refl e where
  by_parent : ((x y p : ℕ) → above w k x ≡ Some y → parent_of w y ≡ Some p → above w (k + 1) x ≡ Some p)
      → (q : Option ℕ) → parent_of w x ≡ q → above_of (above w k) (parent_of w x) ≡ Some y → above w (suc k + 1) x ≡ Some p
  by_parent rest None g e = let none : None ≡ Some y = rw g at e in absurd cc
  by_parent rest (Some q) g e = let there : above w k q ≡ Some y = rw g at e in let more : suc k + 1 ≡ suc (k + 1) = omega arith in rw (more, g) (rest q y p there f)

-- the chain of a node is longer than that of a node above it by the links between them
pub length_above : (w : World) (k x y : ℕ) → above w k x ≡ Some y → chain_length w x ≡ longer k (chain_length w y)
unfolding above
length_above w zero x y e = let same : x ≡ y = cc in ap (chain_length w) same ∙ no_longer (chain_length w y) where
  no_longer : (n : ℕ) → n ≡ longer 0 n
  no_longer zero = refl
  no_longer (suc n) = omega arith
length_above w (suc k) x y e = by_parent (length_above w k) (parent_of w x) refl e where
  both : (n : ℕ) → longer 1 (longer k n) ≡ longer (suc k) n
  both zero = refl
  both (suc n) = let more : suc n + k ≡ suc (n + k) = omega arith in rw more (omega arith)

  by_parent : ((x y : ℕ) → above w k x ≡ Some y → chain_length w x ≡ longer k (chain_length w y)) → (q : Option ℕ) → parent_of w x ≡ q
      → above_of (above w k) (parent_of w x) ≡ Some y → chain_length w x ≡ longer (suc k) (chain_length w y)
  by_parent rest None g e = let none : None ≡ Some y = rw g at e in absurd cc
  by_parent rest (Some q) g e =
      let there : above w k q ≡ Some y = rw g at e in
      length_linked w x q g ∙ (ap (longer 1) (rest q y there) ∙ both (chain_length w y))

-- the shorter of two ways up from a node is a prefix of the longer
pub above_between : (w : World) (j k x y z : ℕ) → j ≤ k → above w j x ≡ Some y → above w k x ≡ Some z → above w (k - j) y ≡ Some z
unfolding above
above_between w zero k x y z within e f = let same : x ≡ y = cc in let all : k - 0 ≡ k = omega arith in rw (all, ← same) f
above_between w (suc j) zero x y z within e f = absurd (omega (arith, within))
above_between w (suc j) (suc k) x y z within e f = by_parent (above_between w j k) (parent_of w x) refl e f where
  by_parent : ((x y z : ℕ) → j ≤ k → above w j x ≡ Some y → above w k x ≡ Some z → above w (k - j) y ≡ Some z) → (q : Option ℕ) → parent_of w x ≡ q
      → above_of (above w j) (parent_of w x) ≡ Some y → above_of (above w k) (parent_of w x) ≡ Some z → above w (suc k - suc j) y ≡ Some z
  by_parent rest None g e f = let none : None ≡ Some y = rw g at e in absurd cc
  by_parent rest (Some q) g e f =
      let there : above w j q ≡ Some y = rw g at e in
      let beyond : above w k q ≡ Some z = rw g at f in
      let less : suc k - suc j ≡ k - j = omega arith in
      rw less (rest q y z (omega (arith, within)) there beyond)

-- a way that comes back to its start has no chain
pub round_none : (w : World) (k x : ℕ) → 0 < k → above w k x ≡ Some x → chain_length w x ≡ 0
round_none w k x some e = by_length (chain_length w x) refl (length_above w k x x e) where
  by_length : (n : ℕ) → chain_length w x ≡ n → chain_length w x ≡ longer k (chain_length w x) → chain_length w x ≡ 0
  by_length zero f h = f
  by_length (suc n) f h = let same : suc n ≡ suc n + k = sym f ∙ (h ∙ ap (longer k) f) in absurd (omega (arith, same, some))

-- a node with a true chain has a chain of at least one node
pub length_of_true : (w : World) (x r : ℕ) (c : List ℕ) → IsTrueChain w x r c → 0 < chain_length w x
unfolding chain_length
length_of_true w x r [] chain = absurd chain
length_of_true w x r (a ∷ c) chain = let same : nodes_in (chain_from w x) ≡ suc (length c) = ap nodes_in (true_found w x r (a ∷ c) chain) in omega (arith, same)

-- Climbs

-- a chain that is made longer has nodes exactly where it had nodes before
positive_longer : (k n : ℕ) → is_positive (longer k n) ≡ is_positive n
positive_longer k zero = refl
positive_longer k (suc n) = let more : suc n + k ≡ suc (n + k) = omega arith in ap is_positive more

-- a node without a parent has a chain exactly where it is a root
root_positive : (w : World) (y : ℕ) → parent_of w y ≡ None → is_root w y ≡ is_positive (chain_length w y)
unfolding length_alone
root_positive w y none = by_root (is_root w y) refl where
  alone : (b : Bool) → b ≡ is_positive (if b then 1 else 0)
  alone true = refl
  alone false = refl

  by_root : (b : Bool) → is_root w y ≡ b → is_root w y ≡ is_positive (chain_length w y)
  by_root b f = f ∙ (alone b ∙ (ap (λ (c : Bool). is_positive (if c then 1 else 0)) (sym f) ∙ ap is_positive (length_unlinked w y none)))

-- a node whose way ends at a node without a parent has a chain exactly where that node is a root
pub climb_root : (w : World) (k x y : ℕ) → above w k x ≡ Some y → parent_of w y ≡ None → is_root w y ≡ is_positive (chain_length w x)
climb_root w k x y way none = root_positive w y none ∙ (sym (positive_longer k (chain_length w y)) ∙ ap is_positive (sym (length_above w k x y way)))

-- a node whose way never ends has no chain
pub climb_endless : (w : World) (k x y : ℕ) → length (ids w) ≤ k → above w k x ≡ Some y → false ≡ is_positive (chain_length w x)
climb_endless w k x y long way = by_length (chain_length w y) refl where
  by_length : (n : ℕ) → chain_length w y ≡ n → false ≡ is_positive (chain_length w x)
  by_length zero e = ap is_positive (sym (length_above w k x y way ∙ ap (longer k) e))
  by_length (suc n) e = let all : chain_length w x ≡ suc n + k = length_above w k x y way ∙ ap (longer k) e in absurd (omega (arith, all, length_short w x, long))
