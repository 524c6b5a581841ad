-- The bytes of a prefix, and its name back from them.
use Rattle.std.specs.Prelude.{◌≡◌, ℕ, Bool, true, false, if◌then◌else◌, Option, Some, None, is_none, IsTrue, List, codes, refl}
use Rattle.std.proofs.Common.{◌⊎◌, inl, inr, subst}
use Rattle.std.specs.Option.{ForSome}
use Rattle.std.specs.Str.{bytes_eq}
use Rattle.oc_base.specs.Names.{name_fault}
use Rattle.std.proofs.lemmas.Slice.Eq.{bytes_eq-Decides}

-- the name, and `/` where there is none
abbrev pub bytes_of : Option (List ℕ) → List ℕ
bytes_of None = codes "/"
bytes_of (Some name) = name

-- the name in these bytes, and none for `/`
abbrev pub name_in : List ℕ → Option (List ℕ)
name_in bytes = if bytes_eq bytes (codes "/") then None else Some bytes

true_or_false : (b : Bool) → (b ≡ true) ⊎ (b ≡ false)
true_or_false true = inl refl
true_or_false false = inr refl

no_fault : (name : List ℕ) → IsTrue (is_none (name_fault name)) → name ≡ codes "/" → ⊥
no_fault name good e = let bad = subst (λ (n : List ℕ). IsTrue (is_none (name_fault n))) e good in cc bad

-- no group name is a slash alone
named : (name : List ℕ) → IsTrue (is_none (name_fault name)) → name_in name ≡ Some name
named name good = elim (true_or_false (bytes_eq name (codes "/"))) [
  | inl is ↦ absurd (no_fault name good ((bytes_eq-Decides name (codes "/")).0 is))
  | inr not ↦ rw not refl
]

-- the name comes back from the bytes
pub name_again : (o : Option (List ℕ)) → ForSome o (λ name. IsTrue (is_none (name_fault name))) → name_in (bytes_of o) ≡ o
name_again None h = refl
name_again (Some name) h = named name (h name refl)
