-- Rows of tables: the row of a leased child and of a parent, and when one row makes another one obsolete.
use Rattle.std.proofs.Common.{◌≡◌, ℕ, ◌<◌, ◌≤◌, Bool, true, false, not, ◌==◌, Option, Some, None, List, ◌⊎◌, inl, inr, if◌then◌else◌, refl, sym, ◌∙◌, arith, eqb-true, eq-eqb}
use Rattle.std.proofs.lemmas.Bool.{true≢false, and_parts, not-true}
use Rattle.oc_base.specs.declared.cert.Cert.{Cert}
use Rattle.oc_base.specs.Cert.{Outranks}
use Rattle.oc_model.specs.Table.{newest, is_lease_of, lease_number, HasLease, live_parent, parent_in}
use Rattle.oc_laws_step.specs.Order.{AreEven}

-- the row of x is alive, names the parent p and the ask number s, and has an own number of at least n
pub record IsLiveRow (t : List Cert) (x p s n : ℕ) (k : Cert) : Type 0 where
  pub found : newest t x ≡ Some k
  pub alive : k.dead ≡ false
  pub parent : k.parent ≡ p
  pub seq : k.seq ≡ s
  pub number : n ≤ k.number

abbrev pub HasLiveRow : List Cert → ℕ → ℕ → ℕ → ℕ → Type 0
HasLiveRow t x p s n = (k : Cert) × IsLiveRow t x p s n k

-- a lease that is held is a row
pub lease_row : (t : List Cert) (y x s : ℕ) → HasLease t y x s → (k : Cert) × IsLiveRow t x y s k.number k
lease_row t y x s leased = by_found (newest t x) refl leased where
  by_found : (was : Option Cert) → newest t x ≡ was → lease_number y was ≡ Some s → (k : Cert) × IsLiveRow t x y s k.number k
  by_found None e h = absurd cc
  by_found (Some k) e h = by_test (is_lease_of y k) refl h where
    by_test : (b : Bool) → is_lease_of y k ≡ b → (if b then Some k.seq else None) ≡ Some s → (k : Cert) × IsLiveRow t x y s k.number k
    by_test true f g =
        let both = and_parts (not k.dead) (k.parent == y) f in
        (k, record { found = e; alive = not-true k.dead both.0; parent = eqb-true k.parent y both.1; seq = cc; number = omega arith })
    by_test false f g = absurd cc

-- a living row is a lease
pub row_lease : (t : List Cert) (y x s n : ℕ) (k : Cert) → IsLiveRow t x y s n k → HasLease t y x s
row_lease t y x s n k row = let same : (k.parent == y) ≡ true = eq-eqb k.parent y row.parent in rw (row.found, row.alive, same, row.seq) refl

-- a parent in a table is the parent of a living row
pub parent_row : (t : List Cert) (x p : ℕ) → parent_in t x ≡ Some p → (k : Cert) × IsLiveRow t x p k.seq k.number k
parent_row t x p parent = by_found (newest t x) refl parent where
  by_found : (was : Option Cert) → newest t x ≡ was → live_parent was ≡ Some p → (k : Cert) × IsLiveRow t x p k.seq k.number k
  by_found None e h = absurd cc
  by_found (Some k) e h = by_test k.dead refl h where
    by_test : (b : Bool) → k.dead ≡ b → (if b then None else Some k.parent) ≡ Some p → (k : Cert) × IsLiveRow t x p k.seq k.number k
    by_test true f g = absurd cc
    by_test false f g = (k, record { found = e; alive = f; parent = cc; seq = refl; number = omega arith })

-- a living row has its parent in the table
pub row_parent : (t : List Cert) (x p s n : ℕ) (k : Cert) → IsLiveRow t x p s n k → parent_in t x ≡ Some p
row_parent t x p s n k row = rw (row.found, row.alive, row.parent) refl

-- the word k makes the living row e obsolete: k is of a later ask, or the death of the same ask
abbrev pub IsPast : Cert → Cert → Type 0
IsPast k e = (e.seq < k.seq) ⊎ ((k.seq ≡ e.seq) × (k.dead ≡ true))

-- a word no older than g makes e obsolete where g does
pub past_later : (k g e : Cert) → IsPast g e → Outranks k g ⊎ AreEven k g → IsPast k e
past_later k g e (inl more) (inl (inl later)) = inl (omega arith)
past_later k g e (inl more) (inl (inr (inl death))) = inl (omega (arith, death.0))
past_later k g e (inl more) (inl (inr (inr own))) = inl (omega (arith, own.0))
past_later k g e (inl more) (inr even) = inl (omega (arith, even.0))
past_later k g e (inr dead) (inl (inl later)) = inl (omega (arith, dead.0))
past_later k g e (inr dead) (inl (inr (inl death))) = inr (death.0 ∙ dead.0, death.1)
past_later k g e (inr dead) (inl (inr (inr own))) = inr (own.0 ∙ dead.0, own.1 ∙ dead.1)
past_later k g e (inr dead) (inr even) = inr (even.0 ∙ dead.0, even.1 ∙ dead.1)

-- a living row does not make itself obsolete
pub past_itself : (e : Cert) → e.dead ≡ false → IsPast e e → ⊥
past_itself e alive (inl more) = omega arith
past_itself e alive (inr dead) = true≢false (sym dead.1 ∙ alive)

-- a living word of the same ask that is no older
abbrev pub IsStill : Cert → Cert → Type 0
IsStill k e = (k.seq ≡ e.seq) × (k.dead ≡ false) × (e.number ≤ k.number)

-- a word no older than a living row makes it obsolete or still says the same
pub past_or_still : (k e : Cert) → e.dead ≡ false → Outranks k e ⊎ AreEven k e → IsPast k e ⊎ IsStill k e
past_or_still k e alive (inl (inl later)) = inl (inl later)
past_or_still k e alive (inl (inr (inl death))) = inl (inr (death.0, death.1))
past_or_still k e alive (inl (inr (inr own))) = inr (own.0, own.1 ∙ alive, omega (arith, own.2))
past_or_still k e alive (inr even) = inr (even.0, even.1 ∙ alive, omega (arith, even.2))
