-- The place of a group among the lines, and the lines after an entry there.
use Rattle.std.proofs.Common.{◌≡◌, ℕ, zero, suc, ◌<◌, ◌≤◌, Bool, true, false, List, [], ◌∷◌, length, get_or, drop, insert, Option, Some, None, option_map, Greater, nat_cmp, refl, sym, ap, ◌∙◌, arith}
use Rattle.std.specs.Cmp.Lexicographic.{slice_cmp}
use Rattle.oc_base.specs.declared.shelf.Shelf.{Shelf}
use Rattle.oc_base.specs.declared.group.Group.{Group}
use Rattle.oc_base.specs.Named.{same_name}
use Rattle.oc_base.specs.Groups.{group_of, with_group, or_empty, shelf, shelf_of}
use Rattle.oc_base.specs.Shelves.{line_of, AreLinesAbove, IsLineAt, IsFreeLineAt}
use Rattle.oc_content.specs.Entries.{Entry}
use Rattle.oc_content.specs.ContentFile.{grown, with_entry}
use Rattle.oc_content.specs.declared.heading.Heading.{Heading}
use Rattle.oc_content.specs.Headings.{entry_at}
use Rattle.oc_content.specs.Indexes.{changed, line_with}
use Rattle.std.proofs.lemmas.Cmp.{nat_list_cmp_total, tied_itself}
use Rattle.std.proofs.lemmas.List.{length-append}
use Rattle.oc_base.proofs.NameOrder.{same_name-itself}

-- as many lines as groups
pub length-shelf : (ks : List Group) → length (shelf ks) ≡ length ks
length-shelf [] = refl
length-shelf (k ∷ ks) = ap suc (length-shelf ks)

-- a name that is there is within the list
pub stands_within : (ss : List Shelf) (g : List ℕ) (i : ℕ) → IsLineAt ss g i → i < length ss
stands_within [] g i h = absurd h
stands_within (s ∷ ss) g zero h = omega arith
stands_within (s ∷ ss) g (suc i) h = omega (arith, stands_within ss g i h.1)

-- a name that would be there goes into the list or after it
pub goes_within : (ss : List Shelf) (g : List ℕ) (i : ℕ) → IsFreeLineAt ss g i → i ≤ length ss
goes_within ss g zero h = omega arith
goes_within [] g (suc i) h = absurd h
goes_within (s ∷ ss) g (suc i) h = omega (arith, goes_within ss g i h.1)

-- the line of the name is the one at the index
pub line_of-stands : (ss : List Shelf) (g : List ℕ) (i : ℕ) (s : Shelf) → IsLineAt ss g i → s ≡ get_or ss i s → line_of g ss ≡ Some s
line_of-stands [] g i s h e = absurd h
line_of-stands (t ∷ ss) g zero s h e =
    let same : same_name g t.group ≡ true = ap (same_name g) h ∙ same_name-itself g in
    rw same (ap Some (sym e))
line_of-stands (t ∷ ss) g (suc i) s h e = rw h.0 (line_of-stands ss g i s h.1 e)

-- the line at the index has the name
pub stands_name : (ss : List Shelf) (g : List ℕ) (i : ℕ) (s : Shelf) → IsLineAt ss g i → s ≡ get_or ss i s → s.group ≡ g
stands_name [] g i s h e = absurd h
stands_name (t ∷ ss) g zero s h e = ap (λ (x : Shelf). x.group) e ∙ h
stands_name (t ∷ ss) g (suc i) s h e = stands_name ss g i s h.1 e

-- among greater names a name is absent
absent_below : (g : List ℕ) (ss : List Shelf) → AreLinesAbove g ss → line_of g ss ≡ None
absent_below g [] all = refl
absent_below g (s ∷ ss) all = rw all.0 (absent_below g ss all.1)

-- a name that would be there is absent
pub line_of-goes : (ss : List Shelf) (g : List ℕ) (i : ℕ) → IsFreeLineAt ss g i → line_of g ss ≡ None
line_of-goes ss g zero h = absent_below g ss h
line_of-goes [] g (suc i) h = refl
line_of-goes (s ∷ ss) g (suc i) h = rw h.0 (line_of-goes ss g i h.1)

-- the line of a group
pub line_of-shelf : (g : List ℕ) (ks : List Group) → line_of g (shelf ks) ≡ option_map shelf_of (group_of g ks)
line_of-shelf g [] = refl
line_of-shelf g (j ∷ js) = by_test (line_of-shelf g js) (same_name g j.name) refl where
  by_test : line_of g (shelf js) ≡ option_map shelf_of (group_of g js) → (b : Bool) → same_name g j.name ≡ b → line_of g (shelf (j ∷ js)) ≡ option_map shelf_of (group_of g (j ∷ js))
  by_test rest true e = rw e
  by_test rest false e = rw e rest

-- a group that its name has passed is not the one that is looked for
pub group_of-past : (g : List ℕ) (k : Group) (ks : List Group) → slice_cmp nat_cmp g k.name ≡ Greater → group_of g (k ∷ ks) ≡ group_of g ks
group_of-past g k ks h = rw h

-- an entry goes past a lesser name
with_entry-past : (e : Entry) (k : Group) (ks : List Group) → slice_cmp nat_cmp e.group k.name ≡ Greater → with_entry e (k ∷ ks) ≡ k ∷ with_entry e ks
with_entry-past e k ks h =
    ap (λ (found : Option Group). with_group (grown e (or_empty e.group found)) (k ∷ ks)) (group_of-past e.group k ks h) ∙ rw h

-- where a group is present, an entry changes it alone
pub with_entry-stands : (ks : List Group) (e : Entry) (i : ℕ) → IsLineAt (shelf ks) e.group i → with_entry e ks ≡ changed (grown e) i ks
with_entry-stands [] e i h = absurd h
with_entry-stands (k ∷ ks) e zero h =
    rw (h, same_name-itself e.group, tied_itself nat_list_cmp_total e.group)
with_entry-stands (k ∷ ks) e (suc i) h =
    with_entry-past e k ks h.0 ∙ ap (λ (l : List Group). k ∷ l) (with_entry-stands ks e i h.1)

-- a new group with an entry
abbrev pub fresh : Entry → Group
fresh e = grown e (or_empty e.group None)

-- among greater names it is put first
with_entry-above : (ks : List Group) (e : Entry) → AreLinesAbove e.group (shelf ks) → with_group (fresh e) ks ≡ fresh e ∷ ks
with_entry-above [] e h = refl
with_entry-above (k ∷ ks) e h = rw h.0

-- among greater names there is none of this name
group_of-above : (ks : List Group) (g : List ℕ) → AreLinesAbove g (shelf ks) → group_of g ks ≡ None
group_of-above [] g h = refl
group_of-above (k ∷ ks) g h = rw h.0 (group_of-above ks g h.1)

-- where a group would be, an entry puts it in
pub with_entry-goes : (ks : List Group) (e : Entry) (i : ℕ) → IsFreeLineAt (shelf ks) e.group i → with_entry e ks ≡ insert ks i (fresh e)
with_entry-goes ks e zero h = rw (group_of-above ks e.group h) (with_entry-above ks e h)
with_entry-goes [] e (suc i) h = absurd h
with_entry-goes (k ∷ ks) e (suc i) h =
    with_entry-past e k ks h.0 ∙ ap (λ (l : List Group). k ∷ l) (with_entry-goes ks e i h.1)

-- the lines of the groups after such a change
pub shelf-changed : (ks : List Group) (h : Heading) (body : List ℕ) (count i : ℕ) → count ≡ length (drop h.skip body) → IsLineAt (shelf ks) h.group i → shelf (changed (grown (entry_at h body)) i ks) ≡ changed (line_with h count) i (shelf ks)
shelf-changed [] h body count i n at = absurd at
shelf-changed (k ∷ ks) h body count zero n at = rw (at, n, length-append k.bytes (drop h.skip body))
shelf-changed (k ∷ ks) h body count (suc i) n at = ap (λ l. shelf_of k ∷ l) (shelf-changed ks h body count i n at.1)

-- the shelf after an insert
pub shelf-insert : (ks : List Group) (i : ℕ) (k : Group) → shelf (insert ks i k) ≡ insert (shelf ks) i (shelf_of k)
shelf-insert ks zero k = refl
shelf-insert [] (suc i) k = refl
shelf-insert (j ∷ js) (suc i) k = ap (λ l. shelf_of j ∷ l) (shelf-insert js i k)
