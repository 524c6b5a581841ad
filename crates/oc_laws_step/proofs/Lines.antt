-- Shelves: lines within their ranges, and no more than a node may have.
use Rattle.std.proofs.Common.{◌≡◌, ℕ, ◌+◌, ◌<◌, ◌≤◌, Bool, true, false, not, ◌&&◌, nat_lt, nat_le, if◌then◌else◌, Option, Some, None, is_some, List, [], ◌∷◌, length, Ordering, Less, Equal, Greater, nat_cmp, ◌⊎◌, inl, inr, ⊎_elim, refl, sym, subst, arith, ltb-false}
use Rattle.std.specs.List.{AllByRecursion}
use Rattle.std.specs.Cmp.Lexicographic.{slice_cmp}
use Rattle.std.proofs.lemmas.Bool.{cond_both, leb-false}
use Rattle.oc_base.specs.declared.shelf.Shelf.{Shelf}
use Rattle.oc_base.specs.Names.{IsGroupName}
use Rattle.oc_model.specs.declared.answer.Answer.TheVariants as words
use Rattle.oc_base.specs.declared.group.Group.{Group}
use Rattle.oc_model.specs.Content.{unless}
use Rattle.oc_base.specs.Named.{same_name}
use Rattle.oc_base.specs.Groups.{shelf, AreAbove, IsAscending}
use Rattle.oc_base.specs.declared.limits.TheConstants.{MAX_GROUPS, MAX_GROUP_BYTES}
use Rattle.oc_base.specs.Shelves.{IsLine, AreLines, IsShelf, line_of}
use Rattle.oc_model.specs.Numbers.{IsAmong}
use Rattle.oc_model.specs.Plan.{Plan, answers}
use Rattle.oc_model.specs.Shelves.{line_or_none, line_at, with_line, limit, next_behind}
use Rattle.oc_model.specs.WorldBounds.{IsShort, AreWithinLimits}
use Rattle.oc_model.proofs.Lists.{all_weaker}
use Rattle.oc_base.proofs.NameOrder.{names_back, names_tied, names_rise}
use Rattle.oc_model.proofs.Shelves.{length-shelf, next-among}
use Rattle.oc_laws_step.proofs.Ranges.{IfFound}

-- A line that is found

line_found : (g : List ℕ) (ls : List Shelf) → AreLines ls → IfFound IsLine (line_of g ls)
line_found g [] all = tt
line_found g (l ∷ ls) all = cond_both (same_name g l.group) (Some l) (line_of g ls) (IfFound IsLine) (λ _. all.0) (λ _. line_found g ls all.2)

pub line_at_lawful : (g : List ℕ) (ls : List Shelf) → IsGroupName g → AreLines ls → IsLine (line_at g ls)
line_at_lawful g ls name all = by_found (line_of g ls) (line_found g ls all) where
  by_found : (l : Option Shelf) → IfFound IsLine l → IsLine (line_or_none g l)
  by_found None here = (name, omega arith)
  by_found (Some l) here = here

line_among : (l : Shelf) (ls : List Shelf) → AreLines ls → IsAmong l ls → IsLine l
line_among l [] all h = absurd h
line_among l (k ∷ ks) all (inl e) = subst IsLine e all.0
line_among l (k ∷ ks) all (inr h) = line_among l ks all.2 h

pub behind_lawful : (chunk : ℕ) (have ls : List Shelf) → AreLines ls → IfFound IsLine (next_behind chunk have ls)
behind_lawful chunk have ls all = by_found (next_behind chunk have ls) refl where
  by_found : (found : Option Shelf) → next_behind chunk have ls ≡ found → IfFound IsLine found
  by_found None e = tt
  by_found (Some l) e = line_among l ls all (next-among chunk have ls l e)

-- A line that is put

abbrev LinesAbove : List ℕ → List Shelf → Type 0
LinesAbove g ls = AllByRecursion (λ k. slice_cmp nat_cmp g k.group ≡ Less) ls

-- a line above a name, put among lines above it
above_line : (g : List ℕ) (l : Shelf) (ls : List Shelf) → slice_cmp nat_cmp g l.group ≡ Less → LinesAbove g ls → LinesAbove g (with_line l ls)
above_line g l [] h all = (h, tt)
above_line g l (k ∷ ks) h all = by_order (above_line g l ks h all.1) (slice_cmp nat_cmp l.group k.group) refl where
  by_order : LinesAbove g (with_line l ks) → (o : Ordering) → slice_cmp nat_cmp l.group k.group ≡ o → LinesAbove g (with_line l (k ∷ ks))
  by_order rest Less e = rw e (h, all)
  by_order rest Equal e = rw e (h, all.1)
  by_order rest Greater e = rw e (all.0, rest)

-- lines above a name are above a lesser name
above_lower : (a b : List ℕ) (ls : List Shelf) → slice_cmp nat_cmp a b ≡ Less → LinesAbove b ls → LinesAbove a ls
above_lower a b ls h all = all_weaker (λ k. slice_cmp nat_cmp b k.group ≡ Less) (λ k. slice_cmp nat_cmp a k.group ≡ Less) (λ k e. names_rise a b k.group h e) ls all

lines_put : (l : Shelf) (ls : List Shelf) → IsLine l → AreLines ls → AreLines (with_line l ls)
lines_put l [] here all = (here, tt, tt)
lines_put l (k ∷ ks) here all = by_order (lines_put l ks here all.2) (slice_cmp nat_cmp l.group k.group) refl where
  by_order : AreLines (with_line l ks) → (o : Ordering) → slice_cmp nat_cmp l.group k.group ≡ o → AreLines (with_line l (k ∷ ks))
  by_order rest Less e = rw e (here, (e, above_lower l.group k.group ks e all.1), all)
  by_order rest Equal e = rw e (here, subst (λ g. LinesAbove g ks) (sym (names_tied l.group k.group e)) all.1, all.2)
  by_order rest Greater e = rw e (all.0, above_line k.group l ks (names_back l.group k.group e) all.1, rest)

-- a name below all these has no line
none_below : (g : List ℕ) (ls : List Shelf) → LinesAbove g ls → line_of g ls ≡ None
none_below g [] above = refl
none_below g (k ∷ ks) above = rw above.0 (none_below g ks above.1)

-- there are as many lines as before, or one more where the name is new
abbrev HasCount : Shelf → List Shelf → Type 0
HasCount l ls = (length (with_line l ls) ≡ length ls) ⊎ ((line_of l.group ls ≡ None) × (length (with_line l ls) ≡ length ls + 1))

count_put : (l : Shelf) (ls : List Shelf) → AreLines ls → HasCount l ls
count_put l [] all = inr (refl, refl)
count_put l (k ∷ ks) all = by_order (count_put l ks all.2) (slice_cmp nat_cmp l.group k.group) refl where
  by_order : HasCount l ks → (o : Ordering) → slice_cmp nat_cmp l.group k.group ≡ o → HasCount l (k ∷ ks)
  by_order rest Less e = inr (rw e (none_below l.group ks (above_lower l.group k.group ks e all.1)), rw e (omega arith))
  by_order rest Equal e = inl (rw e)
  by_order (inl same) Greater e = inl (rw e (omega (arith, same)))
  by_order (inr more) Greater e = inr (rw e more.0, rw e (omega (arith, more.1)))

-- there is room for a line of this name
abbrev pub HasRoom : List Shelf → List ℕ → Type 0
HasRoom ls g = line_of g ls ≡ None → length ls < MAX_GROUPS

pub shelf_put : (l : Shelf) (ls : List Shelf) → IsLine l → HasRoom ls l.group → IsShelf ls → IsShelf (with_line l ls)
shelf_put l ls here room ok = (lines_put l ls here ok.0, ⊎_elim (λ same. omega (arith, same, ok.1)) (λ more. omega (arith, more.1, room more.0)) (count_put l ls ok.0))

-- a property of both refusals, and of the rest where neither limit is exceeded, holds of the result
pub within : (P : Plan → Type 0) (o : Plan) (ls : List Shelf) (g : List ℕ) (end : ℕ) (q : Plan) → P (answers o words.Groups) → P (answers o words.TooLong)
    → (HasRoom ls g → end ≤ MAX_GROUP_BYTES → P q) → P (unless (limit ls g end) o q)
within P o ls g end q many long fits = by_tests (not (is_some (line_of g ls)) && nat_le MAX_GROUPS (length ls)) (nat_lt MAX_GROUP_BYTES end) refl refl where
  room : (not (is_some (line_of g ls)) && nat_le MAX_GROUPS (length ls)) ≡ false → HasRoom ls g
  room e none = let few : nat_le MAX_GROUPS (length ls) ≡ false = rw none at e in leb-false MAX_GROUPS (length ls) few

  by_tests : (a b : Bool) → (not (is_some (line_of g ls)) && nat_le MAX_GROUPS (length ls)) ≡ a → nat_lt MAX_GROUP_BYTES end ≡ b
      → P (unless (if a then Some words.Groups else if b then Some words.TooLong else None) o q)
  by_tests true b e f = many
  by_tests false true e f = long
  by_tests false false e f = fits (room e) (ltb-false MAX_GROUP_BYTES end f)

-- Shelves of groups

abbrev pub AreNamed : List Group → Type 0
AreNamed ks = AllByRecursion (λ k. IsGroupName k.name) ks

groups_above : (g : List ℕ) (ks : List Group) → LinesAbove g (shelf ks) → AreAbove g ks
groups_above g [] all = tt
groups_above g (k ∷ ks) all = (all.0, groups_above g ks all.1)

lines_above : (g : List ℕ) (ks : List Group) → AreAbove g ks → LinesAbove g (shelf ks)
lines_above g [] all = tt
lines_above g (k ∷ ks) all = (all.0, lines_above g ks all.1)

groups_ascend : (ks : List Group) → AreLines (shelf ks) → IsAscending ks
groups_ascend [] all = tt
groups_ascend (k ∷ ks) all = (groups_above k.name ks all.1, groups_ascend ks all.2)

groups_short : (ks : List Group) → AreLines (shelf ks) → AllByRecursion IsShort ks
groups_short [] all = tt
groups_short (k ∷ ks) all = (all.0.1, groups_short ks all.2)

pub groups_named : (ks : List Group) → AreLines (shelf ks) → AreNamed ks
groups_named [] all = tt
groups_named (k ∷ ks) all = (all.0.0, groups_named ks all.2)

-- a lawful shelf is that of groups within the limits
pub shelf_limits : (ks : List Group) → IsShelf (shelf ks) → AreWithinLimits ks
shelf_limits ks ok = (groups_ascend ks ok.0, omega (arith, ok.1, length-shelf ks), groups_short ks ok.0)

lines_of : (ks : List Group) → IsAscending ks → AllByRecursion IsShort ks → AreNamed ks → AreLines (shelf ks)
lines_of [] up short named = tt
lines_of (k ∷ ks) up short named = ((named.0, short.0), lines_above k.name ks up.0, lines_of ks up.1 short.1 named.1)

-- the reverse, for groups with names
pub limits_shelf : (ks : List Group) → AreWithinLimits ks → AreNamed ks → IsShelf (shelf ks)
limits_shelf ks ok named = (lines_of ks ok.0 ok.2 named, omega (arith, ok.1, length-shelf ks))
