-- The order of names, which tells each two apart.
use Rattle.std.proofs.Common.{◌≡◌, ℕ, true, false, List, Ordering, Less, Equal, Greater, nat_cmp, is_eq, refl, ap, ◌∙◌}
use Rattle.std.specs.Cmp.Lexicographic.{slice_cmp}
use Rattle.std.specs.Ordering.{ordering_reverse}
use Rattle.std.proofs.lemmas.Cmp.{nat_list_cmp_total, tied_itself}
use Rattle.std.proofs.lemmas.Map.Lookups.{exact_bytes}
use Rattle.oc_base.specs.Named.{same_name}

-- the one order that is equality
is_eq-true : (o : Ordering) → is_eq o ≡ true → o ≡ Equal
is_eq-true Less h = absurd cc
is_eq-true Equal h = refl
is_eq-true Greater h = absurd cc

-- a name is its own
pub same_name-itself : (g : List ℕ) → same_name g g ≡ true
same_name-itself g = ap is_eq (tied_itself nat_list_cmp_total g)

-- names that are one are equal
pub names_equal : (a b : List ℕ) → same_name a b ≡ true → a ≡ b
names_equal a b h = exact_bytes a b (is_eq-true (slice_cmp nat_cmp a b) h)

-- names with none before the other are equal
pub names_tied : (a b : List ℕ) → slice_cmp nat_cmp a b ≡ Equal → a ≡ b
names_tied a b h = exact_bytes a b h

-- the order seen from the other side
pub names_back : (a b : List ℕ) → slice_cmp nat_cmp a b ≡ Greater → slice_cmp nat_cmp b a ≡ Less
names_back a b h = nat_list_cmp_total.antisymm b a ∙ ap ordering_reverse h

-- a greater name is another
pub names_apart : (a b : List ℕ) → slice_cmp nat_cmp a b ≡ Less → same_name b a ≡ false
names_apart a b h = ap is_eq (nat_list_cmp_total.antisymm b a ∙ ap ordering_reverse h)

-- the order of names goes on
pub names_rise : (a b c : List ℕ) → slice_cmp nat_cmp a b ≡ Less → slice_cmp nat_cmp b c ≡ Less → slice_cmp nat_cmp a c ≡ Less
names_rise a b c h k = nat_list_cmp_total.trans a b c h k
