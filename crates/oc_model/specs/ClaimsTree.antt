use Rattle.std.specs.Prelude.{◌≡◌, ℕ, ◌<◌, ◌⊎◌, Some, List, [], ◌∷◌}
use Rattle.oc_base.specs.declared.cert.Cert.{Cert}
use Rattle.oc_model.specs.Chains.{IsUp, IsJoined, IsRoot, IsTrueChain, HasTrueChain, true_line}
use Rattle.oc_model.specs.ChangeLog.{IsWaiting}
use Rattle.oc_model.specs.Ready.{HoldsLease}
use Rattle.oc_model.specs.Table.{newest, parent_in, table_line}
use Rattle.oc_model.specs.World.{World, node}

-- Why a root's table may be wrong, and that each wrong line has a cause that is still there.

abbrev pub table_of : World → ℕ → List Cert
table_of w x = (node w x).control.kept.table

abbrev pub seq_of : World → ℕ → ℕ
seq_of w x = (node w x).control.kept.seq

-- a certificate about x waits at y
abbrev pub WaitsAt : World → ℕ → ℕ → Type 0
WaitsAt w y x = IsWaiting (node w y).control.kept.log x

-- a certificate about x waits at a node of this chain below its root
abbrev pub WaitsBelow : World → List ℕ → ℕ → Type 0
WaitsBelow w [] x = ⊥
WaitsBelow w (r ∷ []) x = ⊥
WaitsBelow w (y ∷ z ∷ zs) x = WaitsAt w y x ⊎ WaitsBelow w (z ∷ zs) x

-- some node of this chain has no lease, at its own ask number, of the next node, which has ended the lease
abbrev pub HasEndedLease : World → List ℕ → Type 0
HasEndedLease w [] = ⊥
HasEndedLease w (r ∷ []) = ⊥
HasEndedLease w (x ∷ y ∷ ys) = (HoldsLease w y x (seq_of w x) → ⊥) ⊎ HasEndedLease w (y ∷ ys)

-- a certificate about some node of this chain waits above it, below the root
abbrev pub HasWaiting : World → List ℕ → Type 0
HasWaiting w [] = ⊥
HasWaiting w (x ∷ ys) = WaitsBelow w ys x ⊎ HasWaiting w ys

-- why the table of the root r may lack x, or have x in a wrong place, although x is in the live tree
abbrev pub HasMissingCause : World → ℕ → ℕ → Type 0
HasMissingCause w r x = (c : List ℕ) × IsTrueChain w x r c × (HasEndedLease w c ⊎ HasWaiting w c)

-- the nodes from x up to r by this table's parents; r occurs once, at the end
abbrev pub IsWalk : List Cert → ℕ → ℕ → List ℕ → Type 0
IsWalk table x r [] = ⊥
IsWalk table x r (c ∷ []) = (c ≡ x) × (x ≡ r)
IsWalk table x r (c ∷ d ∷ ds) = (c ≡ x) × (x ≡ r → ⊥) × (parent_in table x ≡ Some d) × IsWalk table d r (d ∷ ds)

-- x is up, and joined to y at the ask number of this table
abbrev pub IsTrueLink : World → List Cert → ℕ → ℕ → Type 0
IsTrueLink w table x y = IsUp w x × IsJoined w x y × ((e : Cert) × (newest table x ≡ Some e) × (e.seq ≡ seq_of w x))

abbrev pub AreTrueLinks : World → List Cert → List ℕ → Type 0
AreTrueLinks w table [] = Unit {0}
AreTrueLinks w table (r ∷ []) = Unit {0}
AreTrueLinks w table (x ∷ y ∷ ys) = IsTrueLink w table x y × AreTrueLinks w table (y ∷ ys)

-- the topmost false link of this walk goes from v to y
abbrev pub IsTopmostFalse : World → List Cert → List ℕ → ℕ → ℕ → Type 0
IsTopmostFalse w table [] v y = ⊥
IsTopmostFalse w table (r ∷ []) v y = ⊥
IsTopmostFalse w table (a ∷ b ∷ bs) v y =
    IsTopmostFalse w table (b ∷ bs) v y
    ⊎ ((a ≡ v) × (b ≡ y) × (IsTrueLink w table a b → ⊥) × AreTrueLinks w table (b ∷ bs))

-- y still holds the lease of v at the ask number in r's table, or a certificate about v waits on y's true chain below r
abbrev pub IsStaleLink : World → ℕ → ℕ → ℕ → Type 0
IsStaleLink w r v y =
    ((e : Cert) × (newest (table_of w r) v ≡ Some e) × HoldsLease w y v e.seq)
    ⊎ ((c : List ℕ) × IsTrueChain w y r c × WaitsBelow w c v)

-- why the table of the root r may still list x, although x has no true chain to r
abbrev pub HasWrongCause : World → ℕ → ℕ → Type 0
HasWrongCause w r x =
    (x ≡ r → ⊥) × ((c : List ℕ) × (v : ℕ) × (y : ℕ) × IsWalk (table_of w r) x r c × IsTopmostFalse w (table_of w r) c v y × IsStaleLink w r v y)

-- the line of x in the table of r is right, or wrong with a cause
abbrev pub IsLineExplained : World → ℕ → ℕ → Type 0
IsLineExplained w r x =
    (table_line (table_of w r) r x ≡ true_line w r x)
    ⊎ (HasTrueChain w x r × HasMissingCause w r x)
    ⊎ ((HasTrueChain w x r → ⊥) × HasWrongCause w r x)

-- every missing or wrong line of an acting root's table has a cause that is still there
abbrev pub IsExplained : World → Type 0
IsExplained w = (r x : ℕ) → IsRoot w r → (x ≡ r → ⊥) → IsLineExplained w r x

-- Clients

-- the certificate about x at y has x's present own number
abbrev pub KnowsNumber : World → ℕ → ℕ → Type 0
KnowsNumber w y x = (e : Cert) × (newest (table_of w y) x ≡ Some e) × (e.number ≡ (node w x).control.kept.number)

-- the count of x's clients at r is right, or wrong with a cause
abbrev pub IsCountInformed : World → ℕ → ℕ → ℕ → Type 0
IsCountInformed w r x p =
    ((e : Cert) × (newest (table_of w r) x ≡ Some e) × (e.number ≡ (node w x).control.kept.number) × (e.clients ≡ (node w x).control.kept.clients))
    ⊎ HasMissingCause w r x
    ⊎ ((e : Cert) × (newest (table_of w p) x ≡ Some e) × (e.number < (node w x).control.kept.number))

-- where a root's line of a node is right, the count of that node's clients is right or has a cause; p is the node's parent
abbrev pub IsInformed : World → Type 0
IsInformed w = (r x p : ℕ) → IsRoot w r → table_line (table_of w r) r x ≡ Some p → true_line w r x ≡ Some p → IsCountInformed w r x p

-- every parent knows its children's present own numbers
abbrev pub IsTold : World → Type 0
IsTold w = (x y : ℕ) → IsUp w x → IsJoined w x y → KnowsNumber w y x
