-- Groups within the limits: in their order, no more and no longer than a node may hold.
use Rattle.std.proofs.Common.{◌≡◌, ℕ, ◌+◌, ◌<◌, Bool, true, false, None, List, [], ◌∷◌, length, Ordering, Less, Equal, Greater, nat_cmp, ◌⊎◌, inl, inr, ⊎_elim, refl, arith}
use Rattle.std.specs.List.{AllByRecursion}
use Rattle.std.specs.Cmp.Lexicographic.{slice_cmp}
use Rattle.oc_base.specs.declared.group.Group.{Group}
use Rattle.oc_base.specs.Named.{same_name}
use Rattle.oc_base.specs.Groups.{group_of, group_or_empty, with_group, AreAbove, IsAscending}
use Rattle.oc_base.specs.declared.limits.TheConstants.{MAX_GROUPS}
use Rattle.oc_model.specs.WorldBounds.{IsShort, AreWithinLimits}
use Rattle.oc_model.proofs.Groups.{above_lower, ascend-with_group}

-- there is room for a group of this name: it is held, or there are fewer than the most
abbrev pub HasRoom : List Group → List ℕ → Type 0
HasRoom ks g = group_of g ks ≡ None → length ks < MAX_GROUPS

-- a name below all groups is absent
pub absent_below : (g : List ℕ) (ks : List Group) → AreAbove g ks → group_of g ks ≡ None
absent_below g [] above = refl
absent_below g (k ∷ ks) above = rw above.0 (absent_below g ks above.1)

-- there are as many groups after one was put, or one more where its name is new
abbrev HasCount : Group → List Group → Type 0
HasCount k ks = (length (with_group k ks) ≡ length ks) ⊎ ((group_of k.name ks ≡ None) × (length (with_group k ks) ≡ length ks + 1))

count-with_group : (k : Group) (ks : List Group) → IsAscending ks → HasCount k ks
count-with_group k [] up = inr (refl, refl)
count-with_group k (j ∷ js) up = by_order (count-with_group k js up.1) (slice_cmp nat_cmp k.name j.name) refl where
  by_order : HasCount k js → (o : Ordering) → slice_cmp nat_cmp k.name j.name ≡ o → HasCount k (j ∷ js)
  by_order rest Less e = inr (rw e (absent_below k.name js (above_lower k.name j.name js e up.0)), rw e (omega arith))
  by_order rest Equal e = inl (rw e)
  by_order (inl same) Greater e = inl (rw e (omega (arith, same)))
  by_order (inr more) Greater e = inr (rw e more.0, rw e (omega (arith, more.1)))

-- a property of each group and of the new one holds of each group after the put
pub all-with_group : (P : Group → Type 0) (k : Group) (ks : List Group) → P k → AllByRecursion P ks → AllByRecursion P (with_group k ks)
all-with_group P k [] here all = (here, tt)
all-with_group P k (j ∷ js) here all = by_order (all-with_group P k js here all.1) (slice_cmp nat_cmp k.name j.name) refl where
  by_order : AllByRecursion P (with_group k js) → (o : Ordering) → slice_cmp nat_cmp k.name j.name ≡ o → AllByRecursion P (with_group k (j ∷ js))
  by_order rest Less e = rw e (here, all)
  by_order rest Equal e = rw e (here, all.1)
  by_order rest Greater e = rw e (all.0, rest)

-- the group of any name is short, if each group is
pub held_short : (g : List ℕ) (ks : List Group) → AllByRecursion IsShort ks → IsShort (group_or_empty g ks)
held_short g [] all = omega arith
held_short g (k ∷ ks) all = by_test (held_short g ks all.1) (same_name g k.name) refl where
  by_test : IsShort (group_or_empty g ks) → (b : Bool) → same_name g k.name ≡ b → IsShort (group_or_empty g (k ∷ ks))
  by_test rest true e = rw e all.0
  by_test rest false e = rw e rest

-- a group that has room and is short passes no limit
pub limits-with_group : (k : Group) (ks : List Group) → HasRoom ks k.name → IsShort k → AreWithinLimits ks → AreWithinLimits (with_group k ks)
limits-with_group k ks room short in_limits = (
  ascend-with_group k ks in_limits.0,
  ⊎_elim (λ same. omega (arith, same, in_limits.1)) (λ more. omega (arith, more.1, room more.0)) (count-with_group k ks in_limits.0),
  all-with_group IsShort k ks short in_limits.2,
)
