-- True chains: there is at most one of a node, and the walk that computes it finds it.
use Rattle.std.proofs.Common.{◌≡◌, ℕ, zero, suc, ◌≤◌, Bool, true, false, ◌==◌, Option, Some, None, option_map, List, [], ◌∷◌, inl, inr, length, if◌then◌else◌, refl, ap, sym, subst, ◌∙◌, arith, eqb-true, eq-eqb, le_refl}
use Rattle.std.specs.List.{AllByRecursion}
use Rattle.std.proofs.lemmas.List.{length-map}
use Rattle.oc_model.specs.declared.mode.Mode.{Mode}
use Rattle.oc_model.specs.declared.mode.Mode.TheVariants.{Idle, Asking, Joined, Acting}
use Rattle.oc_model.specs.Chains.{IsUp, IsJoined, IsTrueChain, climb_from, chain_from, ending_at, chain_to}
use Rattle.oc_model.specs.World.{World, is_up, mode_of, ids}
use Rattle.oc_model.proofs.Lists.{all_weaker}
use Rattle.oc_model.specs.WorldBounds.{IsOneOf, IsDistinct}
use Rattle.oc_model.proofs.Members.{AreAmong, no_longer}
use Rattle.oc_model.proofs.Processes.{up_in}
use Rattle.oc_model.specs.Numbers.{last_of}

-- a node that acts is joined to none
pub acting_alone : (w : World) (x p : ℕ) → mode_of w x ≡ Acting → IsJoined w x p → ⊥
acting_alone w x p acts joins = by_mode (sym acts ∙ joins) where
  by_mode : Acting ≡ Joined p → ⊥
  by_mode e = absurd cc

-- a node is joined to one
pub joined_once : (w : World) (x p q : ℕ) → IsJoined w x p → IsJoined w x q → p ≡ q
joined_once w x p q to_p to_q = by_mode (sym to_p ∙ to_q) where
  by_mode : Joined p ≡ Joined q → p ≡ q
  by_mode e = cc

-- there is at most one true chain of a node
pub chain_unique : (w : World) (x r s : ℕ) (c e : List ℕ) → IsTrueChain w x r c → IsTrueChain w x s e → c ≡ e
chain_unique w x r s [] e h k = absurd h
chain_unique w x r s (a ∷ []) [] h k = absurd k
chain_unique w x r s (a ∷ d ∷ ds) [] h k = absurd k
chain_unique w x r s (a ∷ []) (b ∷ []) h k = ap (λ z. z ∷ []) (h.0 ∙ sym k.0)
chain_unique w x r s (a ∷ []) (b ∷ e ∷ es) h k = absurd (acting_alone w x e h.2.1 k.2)
chain_unique w x r s (a ∷ d ∷ ds) (b ∷ []) h k = absurd (acting_alone w x d k.2.1 h.2)
chain_unique w x r s (a ∷ d ∷ ds) (b ∷ e ∷ es) h k =
    let same : e ≡ d = joined_once w x e d k.2 h.2 in
    let rest : (d ∷ ds) ≡ (e ∷ es) = chain_unique w d r s (d ∷ ds) (e ∷ es) h.3 (subst (λ z. IsTrueChain w z s (e ∷ es)) same k.3) in
    let first : a ≡ b = h.0 ∙ sym k.0 in
    λ i. first i ∷ rest i

-- from each of its nodes on, a true chain is one
chain_from_member : (w : World) (x r y : ℕ) (c : List ℕ) → IsTrueChain w x r c → IsOneOf y c → (e : List ℕ) × IsTrueChain w y r e × (length e ≤ length c)
chain_from_member w x r y [] h one = absurd h
chain_from_member w x r y (a ∷ []) h (inl same) = (a ∷ [], subst (λ z. IsTrueChain w z r (a ∷ [])) (sym (same ∙ h.0)) h, le_refl (length (a ∷ [])))
chain_from_member w x r y (a ∷ []) h (inr later) = absurd later
chain_from_member w x r y (a ∷ d ∷ ds) h (inl same) = (a ∷ d ∷ ds, subst (λ z. IsTrueChain w z r (a ∷ d ∷ ds)) (sym (same ∙ h.0)) h, le_refl (length (a ∷ d ∷ ds)))
chain_from_member w x r y (a ∷ d ∷ ds) h (inr later) =
    let found = chain_from_member w d r y (d ∷ ds) h.3 later in
    (found.0, found.1, omega (arith, found.2))

-- a true chain goes through no node twice
pub chain_distinct : (w : World) (x r : ℕ) (c : List ℕ) → IsTrueChain w x r c → IsDistinct c
chain_distinct w x r [] h = tt
chain_distinct w x r (a ∷ []) h = (λ one. one, tt)
chain_distinct w x r (a ∷ d ∷ ds) h = (λ one. again (chain_from_member w d r a (d ∷ ds) h.3 one), chain_distinct w d r (d ∷ ds) h.3) where
  again : (e : List ℕ) × IsTrueChain w a r e × (length e ≤ length (d ∷ ds)) → ⊥
  again found =
      let same : found.0 ≡ (a ∷ d ∷ ds) = chain_unique w x r r found.0 (a ∷ d ∷ ds) (subst (λ z. IsTrueChain w z r found.0) h.0 found.1) h in
      let long : length found.0 ≡ length (a ∷ d ∷ ds) = ap length same in
      absurd (omega (arith, found.2, long))

-- the nodes of a true chain are up
pub chain_up : (w : World) (x r : ℕ) (c : List ℕ) → IsTrueChain w x r c → AllByRecursion (IsUp w) c
chain_up w x r [] h = tt
chain_up w x r (a ∷ []) h = (subst (IsUp w) (sym h.0) h.2.0, tt)
chain_up w x r (a ∷ d ∷ ds) h = (subst (IsUp w) (sym h.0) h.1, chain_up w d r (d ∷ ds) h.3)

-- a true chain has at most as many nodes as the world
pub chain_short : (w : World) (x r : ℕ) (c : List ℕ) → IsTrueChain w x r c → length c ≤ length w.processes
chain_short w x r c h =
    let among : AreAmong c (ids w) = all_weaker (IsUp w) (λ y. IsOneOf y (ids w)) (λ y up. up_in w.processes y up) c (chain_up w x r c h) in
    omega (arith, no_longer c (ids w) (chain_distinct w x r c h) among, length-map w.processes (λ p. p.node.control.me))

-- a true chain ends at its root
pub chain_last : (w : World) (x r a : ℕ) (c : List ℕ) → IsTrueChain w x r (a ∷ c) → last_of a c ≡ r
chain_last w x r a [] h = h.0 ∙ h.1
chain_last w x r a (d ∷ ds) h = chain_last w d r d ds h.3

-- with enough steps the walk finds it
climb_finds : (n : ℕ) (w : World) (x r : ℕ) (c : List ℕ) → IsTrueChain w x r c → length c ≤ n → climb_from n w x (is_up w x) (mode_of w x) ≡ Some c
climb_finds n w x r [] h short = absurd h
climb_finds zero w x r (a ∷ c) h short = absurd (omega (arith, short))
climb_finds (suc n) w x r (a ∷ []) h short = rw (h.2.0, h.2.1) (ap (λ z. Some (z ∷ [])) (sym h.0))
climb_finds (suc n) w x r (a ∷ d ∷ ds) h short =
    let rest : climb_from n w d (is_up w d) (mode_of w d) ≡ Some (d ∷ ds) = climb_finds n w d r (d ∷ ds) h.3 (omega (arith, short)) in
    let here : option_map (λ c. x ∷ c) (climb_from n w d (is_up w d) (mode_of w d)) ≡ Some (a ∷ d ∷ ds) = rw rest (ap (λ z. Some (z ∷ d ∷ ds)) (sym h.0)) in
    rw (h.1, h.2) here

-- the walk finds true chains only
IsChain : World → ℕ → List ℕ → Type 0
IsChain w x c = (r : ℕ) × IsTrueChain w x r c

-- a link put before a true chain
link : (w : World) (x p : ℕ) (c : List ℕ) → IsUp w x → IsJoined w x p → IsChain w p c → IsChain w x (x ∷ c)
unfolding IsChain
link w x p [] up joins chain = absurd chain.1
link w x p (a ∷ []) up joins chain = (chain.0, (refl, up, subst (IsJoined w x) (sym chain.1.0) joins, subst (λ z. IsTrueChain w z chain.0 (a ∷ [])) (sym chain.1.0) chain.1))
link w x p (a ∷ d ∷ ds) up joins chain = (chain.0, (refl, up, subst (IsJoined w x) (sym chain.1.0) joins, subst (λ z. IsTrueChain w z chain.0 (a ∷ d ∷ ds)) (sym chain.1.0) chain.1))

climb_true : (n : ℕ) (w : World) (x : ℕ) (c : List ℕ) → climb_from n w x (is_up w x) (mode_of w x) ≡ Some c → IsChain w x c
unfolding IsChain
climb_true zero w x c e = absurd cc
climb_true (suc n) w x c e = by_mode (climb_true n w) (is_up w x) (mode_of w x) refl refl e where
  by_found : (p : ℕ) → IsUp w x → IsJoined w x p → (found : Option (List ℕ)) → ((d : List ℕ) → found ≡ Some d → IsChain w p d) → option_map (λ d. x ∷ d) found ≡ Some c → IsChain w x c
  by_found p up joins None rest e = absurd cc
  by_found p up joins (Some d) rest e = let same : (x ∷ d) ≡ c = cc in subst (IsChain w x) same (link w x p d up joins (rest d refl))

  by_mode : ((p : ℕ) (d : List ℕ) → climb_from n w p (is_up w p) (mode_of w p) ≡ Some d → IsChain w p d)
      → (up : Bool) (m : Mode) → is_up w x ≡ up → mode_of w x ≡ m → climb_from (suc n) w x up m ≡ Some c → IsChain w x c
  by_mode rest true Acting up acts e = let same : (x ∷ []) ≡ c = cc in subst (IsChain w x) same (x, (refl, refl, (up, acts)))
  by_mode rest true (Joined p) up joins e = by_found p up joins (climb_from n w p (is_up w p) (mode_of w p)) (rest p) e
  by_mode rest true Idle up idle e = absurd cc
  by_mode rest true (Asking p) up asks e = absurd cc
  by_mode rest false Acting up acts e = absurd cc
  by_mode rest false (Joined p) up joins e = absurd cc
  by_mode rest false Idle up idle e = absurd cc
  by_mode rest false (Asking p) up asks e = absurd cc

-- a true chain is computed
pub chain_to-finds : (w : World) (x r : ℕ) (c : List ℕ) → IsTrueChain w x r c → chain_to w r x ≡ Some c
chain_to-finds w x r [] h = absurd h
chain_to-finds w x r (a ∷ c) h =
    let found : chain_from w x ≡ Some (a ∷ c) = climb_finds (length w.processes) w x r (a ∷ c) h (chain_short w x r (a ∷ c) h) in
    let ends : (last_of a c == r) ≡ true = eq-eqb (last_of a c) r (chain_last w x r a c h) in
    rw (found, ends)

-- a computed chain is a true chain
pub chain_to-true : (w : World) (x r : ℕ) (c : List ℕ) → chain_to w r x ≡ Some c → IsTrueChain w x r c
unfolding IsChain
chain_to-true w x r c e = by_found (chain_from w x) refl e where
  by_test : (a : ℕ) (as' : List ℕ) → IsChain w x (a ∷ as') → (b : Bool) → (last_of a as' == r) ≡ b → (if b then Some (a ∷ as') else None) ≡ Some c → IsTrueChain w x r c
  by_test a as' chain true ends e =
      let same : (a ∷ as') ≡ c = cc in
      let root : chain.0 ≡ r = sym (chain_last w x chain.0 a as' chain.1) ∙ eqb-true (last_of a as') r ends in
      subst (λ d. IsTrueChain w x r d) same (subst (λ z. IsTrueChain w x z (a ∷ as')) root chain.1)
  by_test a as' chain false ends e = absurd cc

  by_found : (found : Option (List ℕ)) → chain_from w x ≡ found → ending_at r found ≡ Some c → IsTrueChain w x r c
  by_found None f e = absurd cc
  by_found (Some []) f e = absurd cc
  by_found (Some (a ∷ as')) f e = by_test a as' (climb_true (length w.processes) w x (a ∷ as') f) (last_of a as' == r) refl e
