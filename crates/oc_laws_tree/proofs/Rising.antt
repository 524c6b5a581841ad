-- The way of a row from table to table: up to the parent of the node that has the row, and to the parent that the row names.
use Rattle.std.proofs.Common.{◌≡◌, ℕ, Some, List, ◌⊎◌, inl, inr, refl, subst}
use Rattle.oc_base.specs.declared.cert.Cert.{Cert}
use Rattle.oc_base.specs.Cert.{Outranks}
use Rattle.oc_model.specs.Chains.{IsJoined}
use Rattle.oc_model.specs.ClaimsTree.{table_of, WaitsAt}
use Rattle.oc_model.specs.Table.{newest}
use Rattle.oc_model.specs.World.{World}
use Rattle.oc_laws_step.specs.Order.{AreEven}
use Rattle.oc_laws_step.proofs.Tables.{newest-subject}
use Rattle.oc_laws_world.specs.Numbers.{IsAnywhere, GoesWith}
use Rattle.oc_laws_tree.proofs.Known.{Knows, KnownBy, known_by, newest_among}
use Rattle.oc_laws_tree.proofs.TreeHolds.{TreeHolds}

-- the row of x in this table is a later word than f, or even with f
abbrev pub HasNoOlder : List Cert → ℕ → Cert → Type 0
HasNoOlder t x f = (k : Cert) × (newest t x ≡ Some k) × (Outranks k f ⊎ AreEven k f)

-- a table that knows the row of x in another table has no older row of x
known_row : (t u : List Cert) (x : ℕ) (f : Cert) → newest u x ≡ Some f → Knows t f → HasNoOlder t x f
known_row t u x f found known = by_row known_as.0 known_as.1 where
  known_as : (k : Cert) × KnownBy t f k
  known_as = known_by t f known

  by_row : (k : Cert) → KnownBy t f k → HasNoOlder t x f
  by_row k by = (k, subst (λ s. newest t s ≡ Some k) (newest-subject u x f found) by.found, by.later)

-- a row is a fact in a table
pub row_anywhere : (w : World) (z x : ℕ) (k : Cert) → newest (table_of w z) x ≡ Some k → IsAnywhere w k
row_anywhere w z x k found = inl (z, newest_among (table_of w z) x k found)

-- the ask number of a row goes with its parent
pub row_goes : (w : World) (z x : ℕ) (k : Cert) → newest (table_of w z) x ≡ Some k → GoesWith w x k.seq k.parent
row_goes w z x k found = inr (inr (k, row_anywhere w z x k found, newest-subject (table_of w z) x k found, refl, refl))

-- a parent has no older row of x than its child has, or something about x waits at the child
pub row_rises : (w : World) → TreeHolds w → (x z u : ℕ) (f : Cert) → IsJoined w z u → newest (table_of w z) x ≡ Some f → WaitsAt w z x ⊎ HasNoOlder (table_of w u) x f
row_rises w holds x z u f joined found = by_told (holds.told z u f joined (newest_among (table_of w z) x f found)) where
  by_told : Knows (table_of w u) f ⊎ WaitsAt w z f.subject → WaitsAt w z x ⊎ HasNoOlder (table_of w u) x f
  by_told (inl known) = inr (known_row (table_of w u) (table_of w z) x f found known)
  by_told (inr waits) = inl (subst (λ s. WaitsAt w z s) (newest-subject (table_of w z) x f found) waits)

-- the parent that a row of x names has no older row of x
pub row_granted : (w : World) → TreeHolds w → (x z y : ℕ) (f : Cert) → newest (table_of w z) x ≡ Some f → f.parent ≡ y → HasNoOlder (table_of w y) x f
row_granted w holds x z y f found named =
    known_row (table_of w y) (table_of w z) x f found (subst (λ p. Knows (table_of w p) f) named (holds.granted f (row_anywhere w z x f found)))

-- rows of one ask name one parent
pub same_parent : (w : World) → TreeHolds w → (x y z : ℕ) (j k : Cert) → newest (table_of w y) x ≡ Some j → newest (table_of w z) x ≡ Some k → k.seq ≡ j.seq → k.parent ≡ j.parent
same_parent w holds x y z j k there found same =
    holds.peers x j.seq k.parent j.parent (subst (λ s. GoesWith w x s k.parent) same (row_goes w z x k found)) (row_goes w y x j there)
