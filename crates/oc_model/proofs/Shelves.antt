-- The shelf of groups: its lines are those of the groups, and it changes as they do.
use Rattle.std.proofs.Common.{◌≡◌, ℕ, zero, suc, ◌+◌, ◌-◌, ◌≤◌, max, Bool, true, false, ◌||◌, List, [], ◌∷◌, ◌++◌, length, drop, take, ◌⊎◌, inl, inr, Option, Some, None, option_map, is_some, Ordering, Less, Equal, Greater, nat_cmp, refl, ap, sym, ◌∙◌, arith, length-append, length-drop}
use Rattle.std.specs.Cmp.Lexicographic.{slice_cmp}
use Rattle.oc_base.specs.declared.shelf.Shelf.{Shelf}
use Rattle.oc_base.specs.declared.group.Group.{Group}
use Rattle.oc_model.specs.Content.{adds_seal, grown_line}
use Rattle.oc_base.specs.Named.{same_name}
use Rattle.oc_base.specs.Groups.{group_of, with_group, or_empty, group_or_empty, shelf_of, shelf}
use Rattle.oc_model.specs.Numbers.{IsAmong}
use Rattle.oc_model.specs.Shelves.{line_or_none, line_at, with_line, is_behind, first_behind, turn, from_place, next_behind}
use Rattle.oc_base.specs.Shelves.{line_of}
use Rattle.oc_model.specs.Step.{grown}
use Rattle.oc_model.proofs.Groups.{AreFoundIn}

-- a group's line is on the shelf where the group is held
pub line_of-shelf : (g : List ℕ) (ks : List Group) → line_of g (shelf ks) ≡ option_map shelf_of (group_of g ks)
line_of-shelf g [] = refl
line_of-shelf g (k ∷ ks) = by_test (line_of-shelf g ks) (same_name g k.name) refl where
  by_test : line_of g (shelf ks) ≡ option_map shelf_of (group_of g ks) → (b : Bool) → same_name g k.name ≡ b → line_of g (shelf (k ∷ ks)) ≡ option_map shelf_of (group_of g (k ∷ ks))
  by_test rest true e = rw e refl
  by_test rest false e = rw e rest

-- the line of a group, where an absent group has 0 bytes
pub line_at-shelf : (g : List ℕ) (ks : List Group) → line_at g (shelf ks) ≡ shelf_of (group_or_empty g ks)
line_at-shelf g ks = ap (line_or_none g) (line_of-shelf g ks) ∙ by_found (group_of g ks) where
  by_found : (found : Option Group) → line_or_none g (option_map shelf_of found) ≡ shelf_of (or_empty g found)
  by_found None = refl
  by_found (Some k) = refl

-- a line is there where a group is
pub is_some-shelf : (g : List ℕ) (ks : List Group) → is_some (line_of g (shelf ks)) ≡ is_some (group_of g ks)
is_some-shelf g ks = ap is_some (line_of-shelf g ks) ∙ by_found (group_of g ks) where
  by_found : (found : Option Group) → is_some (option_map shelf_of found) ≡ is_some found
  by_found None = refl
  by_found (Some k) = refl

-- the shelf has as many lines as there are groups
pub length-shelf : (ks : List Group) → length (shelf ks) ≡ length ks
length-shelf [] = refl
length-shelf (k ∷ ks) = let rest = length-shelf ks in omega arith

-- the shelf once a group was put
pub with_line-shelf : (k : Group) (ks : List Group) → with_line (shelf_of k) (shelf ks) ≡ shelf (with_group k ks)
with_line-shelf k [] = refl
with_line-shelf k (j ∷ js) = by_order (with_line-shelf k js) (slice_cmp nat_cmp k.name j.name) refl where
  by_order : with_line (shelf_of k) (shelf js) ≡ shelf (with_group k js) → (o : Ordering) → slice_cmp nat_cmp k.name j.name ≡ o → with_line (shelf_of k) (shelf (j ∷ js)) ≡ shelf (with_group k (j ∷ js))
  by_order rest Less e = rw e refl
  by_order rest Equal e = rw e refl
  by_order rest Greater e = rw e (ap (λ ls. shelf_of j ∷ ls) rest)

-- the line of a group after the new part of a chunk
pub line-grown : (k : Group) (start : ℕ) (bytes : List ℕ) (last : Bool) → start ≤ length k.bytes
    → shelf_of (grown k start bytes (adds_seal (shelf_of k) (start + length bytes) last)) ≡ grown_line (shelf_of k) (start + length bytes) last
line-grown k start bytes last within =
    let long : length (k.bytes ++ drop (length k.bytes - start) bytes) ≡ max (length k.bytes) (start + length bytes) =
    omega (arith, length-append k.bytes (drop (length k.bytes - start) bytes), length-drop (length k.bytes - start) bytes, within) in
    ap (λ n. record { group = k.name; held = n; sealed = k.sealed || adds_seal (shelf_of k) (start + length bytes) last }) long

-- Whose turn it is

-- the first line of which the other has less is in the list
behind-among : (have ls : List Shelf) (l : Shelf) → first_behind have ls ≡ Some l → IsAmong l ls
behind-among have [] l h = absurd cc
behind-among have (k ∷ ks) l h = by_test (behind-among have ks l) (is_behind (line_of k.group have) k) refl where
  by_test : (first_behind have ks ≡ Some l → IsAmong l ks) → (b : Bool) → is_behind (line_of k.group have) k ≡ b → IsAmong l (k ∷ ks)
  by_test rest true e =
      let here : Some k ≡ Some l = rw e at h in
      inl cc
  by_test rest false e = inr (rest (rw e at h))

-- an item of a part of a list is in the list
among-append : {X : Type 0} (x : X) (xs ys : List X) → IsAmong x (xs ++ ys) → IsAmong x xs ⊎ IsAmong x ys
among-append x [] ys h = inr h
among-append x (z ∷ zs) ys (inl e) = inl (inl e)
among-append x (z ∷ zs) ys (inr h) = by_part (among-append x zs ys h) where
  by_part : IsAmong x zs ⊎ IsAmong x ys → IsAmong x (z ∷ zs) ⊎ IsAmong x ys
  by_part (inl a) = inl (inr a)
  by_part (inr b) = inr b

among-drop : {X : Type 0} (i : ℕ) (x : X) (xs : List X) → IsAmong x (drop i xs) → IsAmong x xs
among-drop zero x xs h = h
among-drop (suc i) x [] h = h
among-drop (suc i) x (z ∷ zs) h = inr (among-drop i x zs h)

among-take : {X : Type 0} (i : ℕ) (x : X) (xs : List X) → IsAmong x (take i xs) → IsAmong x xs
among-take zero x xs h = absurd h
among-take (suc i) x [] h = h
among-take (suc i) x (z ∷ zs) (inl e) = inl e
among-take (suc i) x (z ∷ zs) (inr h) = inr (among-take i x zs h)

-- the first such line in cyclic order is in the list too
pub next-among : (chunk : ℕ) (have ls : List Shelf) (l : Shelf) → next_behind chunk have ls ≡ Some l → IsAmong l ls
next-among chunk have ls l h = by_part (among-append l (drop place ls) (take place ls) (behind-among have (from_place place ls) l h)) where
  place : ℕ
  place = turn chunk have ls

  by_part : IsAmong l (drop place ls) ⊎ IsAmong l (take place ls) → IsAmong l ls
  by_part (inl a) = among-drop place l ls a
  by_part (inr b) = among-take place l ls b

-- the line that is chosen for a fetch is that of a group
pub next_behind-shelf : (chunk : ℕ) (all : List Group) (have : List Shelf) (l : Shelf) → AreFoundIn all all → next_behind chunk have (shelf all) ≡ Some l
    → (k : Group) × (group_of k.name all ≡ Some k) × (l ≡ shelf_of k)
next_behind-shelf chunk all have l found h = of_group all found (next-among chunk have (shelf all) l h) where
  of_group : (ks : List Group) → AreFoundIn all ks → IsAmong l (shelf ks) → (k : Group) × (group_of k.name all ≡ Some k) × (l ≡ shelf_of k)
  of_group [] are h = absurd h
  of_group (k ∷ ks) are (inl e) = (k, are.0, sym e)
  of_group (k ∷ ks) are (inr h) = of_group ks are.1 h
