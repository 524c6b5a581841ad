use Rattle.std.specs.Prelude.{◌≡◌, ℕ, zero, suc, Bool, true, ◌==◌, if◌then◌else◌, Option, Some, None, option_map, List, [], ◌∷◌, ◌++◌, length}
use Rattle.oc_model.specs.declared.mode.Mode.{Mode}
use Rattle.oc_model.specs.declared.mode.Mode.TheVariants.{Joined, Acting}
use Rattle.oc_model.specs.Numbers.{last_of}
use Rattle.oc_model.specs.World.{World, is_up, mode_of}

-- The live tree: who is joined to whom, up to a root.

abbrev pub IsUp : World → ℕ → Type 0
IsUp w x = is_up w x ≡ true

abbrev pub IsJoined : World → ℕ → ℕ → Type 0
IsJoined w x p = mode_of w x ≡ Joined p

-- r is up, and acts as root
abbrev pub IsRoot : World → ℕ → Type 0
IsRoot w x = IsUp w x × (mode_of w x ≡ Acting)

-- the live way from x up to the root r: nodes that are up, each joined to the next
abbrev pub IsTrueChain : World → ℕ → ℕ → List ℕ → Type 0
IsTrueChain w x r [] = ⊥
IsTrueChain w x r (c ∷ []) = (c ≡ x) × (x ≡ r) × IsRoot w x
IsTrueChain w x r (c ∷ d ∷ ds) = (c ≡ x) × IsUp w x × IsJoined w x d × IsTrueChain w d r (d ∷ ds)

abbrev pub HasTrueChain : World → ℕ → ℕ → Type 0
HasTrueChain w x r = (c : List ℕ) × IsTrueChain w x r c

-- each is joined to the next
abbrev pub AreJoined : World → List ℕ → Type 0
AreJoined w [] = Unit {0}
AreJoined w (x ∷ []) = Unit {0}
AreJoined w (x ∷ y ∷ ys) = IsJoined w x y × AreJoined w (y ∷ ys)

-- parent links form no cycle; a node that is down counts with its durable mode
abbrev pub HasNoCycle : World → Type 0
HasNoCycle w = (y : ℕ) (between : List ℕ) → AreJoined w (y ∷ between ++ y ∷ []) → ⊥

-- The same definitions, computed.

-- the walk upwards from a node with this mode, in at most this many steps
abbrev pub climb_from : ℕ → World → ℕ → Bool → Mode → Option (List ℕ)
climb_from zero w x up mode = None
climb_from (suc n) w x true Acting = Some (x ∷ [])
climb_from (suc n) w x true (Joined p) = option_map (λ c. x ∷ c) (climb_from n w p (is_up w p) (mode_of w p))
climb_from (suc n) w x up mode = None

-- the true chain of x, to any root
abbrev pub chain_from : World → ℕ → Option (List ℕ)
chain_from w x = climb_from (length w.processes) w x (is_up w x) (mode_of w x)

-- the chain, where it ends at r
abbrev pub ending_at : ℕ → Option (List ℕ) → Option (List ℕ)
ending_at r None = None
ending_at r (Some []) = None
ending_at r (Some (x ∷ c)) = if last_of x c == r then Some (x ∷ c) else None

-- the true chain of x to r
abbrev pub chain_to : World → ℕ → ℕ → Option (List ℕ)
chain_to w r x = ending_at r (chain_from w x)

-- the second node of a chain, which the first one is joined to
abbrev pub first_link : Option (List ℕ) → Option ℕ
first_link (Some (x ∷ y ∷ ys)) = Some y
first_link c = None

-- the first link of the true chain of x to r
abbrev pub true_line : World → ℕ → ℕ → Option ℕ
true_line w r x = first_link (chain_to w r x)
