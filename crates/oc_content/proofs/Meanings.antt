-- The properties of the groups in good frames, and the groups after one more frame.
use Rattle.std.proofs.Common.{◌≡◌, ℕ, suc, ◌+◌, ◌<◌, ◌≤◌, Bool, true, false, ◌&&◌, List, [], ◌∷◌, ◌++◌, length, take, drop, if◌then◌else◌, Option, Some, None, Ordering, Less, Equal, Greater, nat_cmp, nat_lt, nat_le, is_some, fold, option_map, not, ◌||◌, ◌==◌, refl, sym, ap, subst, ◌∙◌, arith}
use Rattle.std.specs.Cmp.Lexicographic.{slice_cmp}
use Rattle.std.specs.List.{AllByRecursion}
use Rattle.std.proofs.lemmas.List.{length-append}
use Rattle.std.proofs.lemmas.Bool.{eqb-true, ltb-true, leb-true}
use Rattle.oc_base.specs.declared.shelf.Shelf.{Shelf}
use Rattle.oc_base.specs.declared.group.Group.{Group}
use Rattle.oc_base.specs.Groups.{group_of, with_group, shelf, shelf_of}
use Rattle.oc_base.specs.Shelves.{line_of, AreLines, AreLinesAbove, AreLinesAscending}
use Rattle.oc_base.specs.Names.{IsGroupName, name_fault}
use Rattle.oc_base.specs.declared.group_name.NameFault.{NameFault}
use Rattle.oc_content.specs.Entries.{Entry, entry_of, fields, named}
use Rattle.oc_content.specs.ContentFile.{fits, grown, with_entry, taken, more, content_of}
use Rattle.oc_base.specs.declared.limits.TheConstants.{MAX_GROUPS, MAX_GROUP_BYTES}
use Rattle.oc_base.proofs.Each.{all_weaker}
use Rattle.oc_content.proofs.Lines.{line_of-shelf, fresh}
use Rattle.oc_base.proofs.NameOrder.{names_tied, names_back, names_rise}

-- frames after a bad one are bad
pub none_more : (bodies : List (List ℕ)) → fold more None bodies ≡ None
none_more [] = refl
none_more (body ∷ bodies) = none_more bodies

-- the parts of a test that passes
and_three : (a b c : Bool) → (a && b && c) ≡ true → (a ≡ true) × (b ≡ true) × (c ≡ true)
and_three true true true h = (refl, refl, refl)
and_three true true false h = absurd cc
and_three true false c h = absurd cc
and_three false b c h = absurd cc

-- the same for four tests
and_four : (a b c d : Bool) → (a && b && c && d) ≡ true → (a ≡ true) × (b ≡ true) × (c ≡ true) × (d ≡ true)
and_four true true true true h = (refl, refl, refl, refl)
and_four true true true false h = absurd cc
and_four true true false d h = absurd cc
and_four true false c d h = absurd cc
and_four false b c d h = absurd cc

-- a group that is put among greater names is among them
above_more : (g : List ℕ) (k : Group) (ks : List Group) → slice_cmp nat_cmp g k.name ≡ Less → AreLinesAbove g (shelf ks) → AreLinesAbove g (shelf (with_group k ks))
above_more g k [] h all = (h, tt)
above_more g k (j ∷ js) h all = by_order (above_more g k js h all.1) (slice_cmp nat_cmp k.name j.name) refl where
  by_order : AreLinesAbove g (shelf (with_group k js)) → (o : Ordering) → slice_cmp nat_cmp k.name j.name ≡ o → AreLinesAbove g (shelf (with_group k (j ∷ js)))
  by_order rest Less e = rw e (h, all)
  by_order rest Equal e = rw e (h, all.1)
  by_order rest Greater e = rw e (all.0, rest)

-- lines above a name are above a lesser name
pub above_lower : (a b : List ℕ) (ss : List Shelf) → slice_cmp nat_cmp a b ≡ Less → AreLinesAbove b ss → AreLinesAbove a ss
above_lower a b ss h all = all_weaker (λ s. slice_cmp nat_cmp b s.group ≡ Less) (λ s. slice_cmp nat_cmp a s.group ≡ Less) (λ s e. names_rise a b s.group h e) ss all

-- a list that ascends does so once a group was put
ascending-with_group : (k : Group) (ks : List Group) → AreLinesAscending (shelf ks) → AreLinesAscending (shelf (with_group k ks))
ascending-with_group k [] up = (tt, tt)
ascending-with_group k (j ∷ js) up = by_order (ascending-with_group k js up.1) (slice_cmp nat_cmp k.name j.name) refl where
  by_order : AreLinesAscending (shelf (with_group k js)) → (o : Ordering) → slice_cmp nat_cmp k.name j.name ≡ o → AreLinesAscending (shelf (with_group k (j ∷ js)))
  by_order rest Less e = rw e ((e, above_lower k.name j.name (shelf js) e up.0), up)
  by_order rest Equal e = rw e (subst (λ g. AreLinesAbove g (shelf js)) (sym (names_tied k.name j.name e)) up.0, up.1)
  by_order rest Greater e = rw e (above_more j.name k js (names_back k.name j.name e) up.0, rest)

-- a property of the lines and of the new one holds of all lines after the put
all-with_group : (P : Shelf → Type 0) (k : Group) (ks : List Group) → P (shelf_of k) → AllByRecursion P (shelf ks) → AllByRecursion P (shelf (with_group k ks))
all-with_group P k [] here all = (here, tt)
all-with_group P k (j ∷ js) here all = by_order (all-with_group P k js here all.1) (slice_cmp nat_cmp k.name j.name) refl where
  by_order : AllByRecursion P (shelf (with_group k js)) → (o : Ordering) → slice_cmp nat_cmp k.name j.name ≡ o → AllByRecursion P (shelf (with_group k (j ∷ js)))
  by_order rest Less e = rw e (here, all)
  by_order rest Equal e = rw e (here, all.1)
  by_order rest Greater e = rw e (all.0, rest)

-- a group that is put makes at most one more
length-with_group : (k : Group) (ks : List Group) → length (with_group k ks) ≤ suc (length ks)
length-with_group k [] = omega arith
length-with_group k (j ∷ js) = by_order (length-with_group k js) (slice_cmp nat_cmp k.name j.name) refl where
  by_order : length (with_group k js) ≤ suc (length js) → (o : Ordering) → slice_cmp nat_cmp k.name j.name ≡ o → length (with_group k (j ∷ js)) ≤ suc (suc (length js))
  by_order rest Less e = rw e (omega arith)
  by_order rest Equal e = rw e (omega arith)
  by_order rest Greater e = rw e (omega (arith, rest))

-- no group is added if one of its name is there
length-with_group_same : (k : Group) (ks : List Group) → AreLinesAscending (shelf ks) → is_some (line_of k.name (shelf ks)) ≡ true → length (with_group k ks) ≡ length ks
length-with_group_same k [] up h = absurd cc
length-with_group_same k (j ∷ js) up h = by_order (length-with_group_same k js up.1) (slice_cmp nat_cmp k.name j.name) refl where
  absent : (ss : List Shelf) → AreLinesAbove k.name ss → line_of k.name ss ≡ None
  absent [] all = refl
  absent (s ∷ ss) all = rw all.0 (absent ss all.1)

  by_order : (is_some (line_of k.name (shelf js)) ≡ true → length (with_group k js) ≡ length js) → (o : Ordering) → slice_cmp nat_cmp k.name j.name ≡ o → length (with_group k (j ∷ js)) ≡ suc (length js)
  by_order rest Less e =
      let none : line_of k.name (shelf (j ∷ js)) ≡ None = absent (shelf (j ∷ js)) (e, above_lower k.name j.name (shelf js) e up.0) in
      let no : false ≡ true = sym (ap is_some none) ∙ h in
      absurd cc
  by_order rest Equal e = rw e
  by_order rest Greater e =
      let there : is_some (line_of k.name (shelf js)) ≡ true = rw e at h in
      rw e (ap suc (rest there))

-- an entry, if there is one, names a group
abbrev IsNamed : Option Entry → Type 0
IsNamed None = Unit {0}
IsNamed (Some e) = IsGroupName e.group

-- a body names the group of its entry
entry_of-named : (body : List ℕ) → IsNamed (entry_of body)
entry_of-named [] = tt
entry_of-named (b ∷ rest) = by_mark (b == 0) where
  by_name : (seals : Bool) (name rest : List ℕ) (fault : Option NameFault) → name_fault name ≡ fault → IsNamed (named seals name rest)
  by_name seals name rest None e = rw e e
  by_name seals name rest (Some fault) e = rw e tt

  by_fields : (seals : Bool) (text : List ℕ) → IsNamed (fields seals text)
  by_fields seals [] = tt
  by_fields seals (n ∷ text) = by_length (nat_lt (length text) (n + 8)) where
    by_length : (short : Bool) → IsNamed (if short then None else named seals (take n text) (drop n text))
    by_length true = tt
    by_length false = by_name seals (take n text) (drop n text) (name_fault (take n text)) refl

  by_mark : (sealed : Bool) → IsNamed (if sealed then fields true rest else fields false (b ∷ rest))
  by_mark true = by_fields true rest
  by_mark false = by_fields false (b ∷ rest)

-- the properties of groups in good frames: they are named, their names ascend, and they are within the limits
pub record IsGood (ks : List Group) : Type 0 where
  pub named : AllByRecursion (λ s. IsGroupName s.group) (shelf ks)
  pub ascending : AreLinesAscending (shelf ks)
  pub few : length ks ≤ MAX_GROUPS
  pub short : AllByRecursion (λ s. s.held ≤ MAX_GROUP_BYTES) (shelf ks)

-- the conditions of an entry for a new group
pub fits_new : (groups start count : ℕ) (seals : Bool) → fits None groups start count seals ≡ true → (start ≡ 0) × (groups < MAX_GROUPS) × (count ≤ MAX_GROUP_BYTES)
fits_new groups start count seals h =
    let three = and_three (start == 0) (nat_lt groups MAX_GROUPS) (nat_le count MAX_GROUP_BYTES) h in
    (eqb-true start 0 three.0, ltb-true groups MAX_GROUPS three.1, leb-true count MAX_GROUP_BYTES three.2)

-- the conditions of an entry for a group that is there
pub fits_held : (line : Shelf) (groups start count : ℕ) (seals : Bool) → fits (Some line) groups start count seals ≡ true → (start ≡ line.held) × (line.held + count ≤ MAX_GROUP_BYTES)
fits_held line groups start count seals h =
    let some = and_four (start == line.held) (not line.sealed) (nat_le (line.held + count) MAX_GROUP_BYTES) (seals || nat_lt 0 count) h in
    (eqb-true start line.held some.0, leb-true (line.held + count) MAX_GROUP_BYTES some.2)

-- the groups after an entry that fits
pub with_entry-good : (e : Entry) (ks : List Group) → IsGroupName e.group → fits (line_of e.group (shelf ks)) (length ks) e.start (length e.bytes) e.seals ≡ true → IsGood ks → IsGood (with_entry e ks)
with_entry-good e ks name h good = by_found (group_of e.group ks) refl where
  by_found : (found : Option Group) → group_of e.group ks ≡ found → IsGood (with_entry e ks)
  by_found None none =
      let absent : line_of e.group (shelf ks) ≡ None = line_of-shelf e.group ks ∙ ap (option_map shelf_of) none in
      let new = fits_new (length ks) e.start (length e.bytes) e.seals (rw absent at h) in
      rw none (record {
        named = all-with_group (λ s. IsGroupName s.group) (fresh e) ks name good.named;
        ascending = ascending-with_group (fresh e) ks good.ascending;
        few = omega (arith, length-with_group (fresh e) ks, new.1);
        short = all-with_group (λ s. s.held ≤ MAX_GROUP_BYTES) (fresh e) ks new.2 good.short;
      })
  by_found (Some k) some =
      let there : line_of e.group (shelf ks) ≡ Some (shelf_of k) = line_of-shelf e.group ks ∙ ap (option_map shelf_of) some in
      let held = fits_held (shelf_of k) (length ks) e.start (length e.bytes) e.seals (rw there at h) in
      let found : is_some (line_of e.group (shelf ks)) ≡ true = ap is_some there in
      rw some (record {
        named = all-with_group (λ s. IsGroupName s.group) (grown e k) ks name good.named;
        ascending = ascending-with_group (grown e k) ks good.ascending;
        few = omega (arith, length-with_group_same (grown e k) ks good.ascending found, good.few);
        short = all-with_group (λ s. s.held ≤ MAX_GROUP_BYTES) (grown e k) ks (omega (arith, length-append k.bytes e.bytes, held.1)) good.short;
      })

-- the groups after a frame that is taken
taken-good : (said : Option Entry) (ks js : List Group) → IsNamed said → taken ks said ≡ Some js → IsGood ks → IsGood js
taken-good None ks js name h good = absurd cc
taken-good (Some e) ks js name h good = by_test (fits (line_of e.group (shelf ks)) (length ks) e.start (length e.bytes) e.seals) refl where
  by_test : (b : Bool) → fits (line_of e.group (shelf ks)) (length ks) e.start (length e.bytes) e.seals ≡ b → IsGood js
  by_test true t =
      let some : Some (with_entry e ks) ≡ Some js = rw t at h in
      let same : with_entry e ks ≡ js = cc in
      subst IsGood same (with_entry-good e ks name t good)
  by_test false t =
      let none : None ≡ Some js = rw t at h in
      absurd cc

-- after a bad frame there are no groups
fold-none : (bodies : List (List ℕ)) → fold more None bodies ≡ None
fold-none [] = refl
fold-none (b ∷ bodies) = fold-none bodies

-- groups stay good
good_from : (bodies : List (List ℕ)) (ks js : List Group) → IsGood ks → fold more (Some ks) bodies ≡ Some js → IsGood js
good_from [] ks js good h = let same : ks ≡ js = cc in subst IsGood same good
good_from (b ∷ bodies) ks js good h = by_next (λ is g. good_from bodies is js g) (taken ks (entry_of b)) refl where
  by_next : ((is : List Group) → IsGood is → fold more (Some is) bodies ≡ Some js → IsGood js) → (next : Option (List Group)) → taken ks (entry_of b) ≡ next → IsGood js
  by_next rest None n = let none : None ≡ Some js = sym (fold-none bodies) ∙ rw n at h in absurd cc
  by_next rest (Some is) n = rest is (taken-good (entry_of b) ks is (entry_of-named b) n good) (rw n at h)

-- the groups of good frames
pub content_of-good : (bodies : List (List ℕ)) (groups : List Group) → content_of bodies ≡ Some groups → IsGood groups
content_of-good bodies groups h =
    good_from bodies [] groups (record { named = tt; ascending = tt; few = omega arith; short = tt }) h

-- the lines of these groups are those of a shelf
pub lines_of_good : (ks : List Group) → IsGood ks → AreLines (shelf ks)
lines_of_good ks good = by_lines (shelf ks) good.named good.short good.ascending where
  by_lines : (ls : List Shelf) → AllByRecursion (λ s. IsGroupName s.group) ls → AllByRecursion (λ s. s.held ≤ MAX_GROUP_BYTES) ls → AreLinesAscending ls → AreLines ls
  by_lines [] named short up = tt
  by_lines (l ∷ ls) named short up = ((named.0, short.0), up.0, by_lines ls named.1 short.1 up.1)

-- one frame more
pub fold_push : {X Y : Type 0} (f : Y → X → Y) (a : Y) (xs : List X) (x : X) → fold f a (xs ++ x ∷ []) ≡ f (fold f a xs) x
fold_push f a [] x = refl
fold_push f a (y ∷ xs) x = fold_push f (f a y) xs x

-- one frame more
pub content_of-push : (bodies : List (List ℕ)) (groups : List Group) (body : List ℕ) → content_of bodies ≡ Some groups → content_of (bodies ++ body ∷ []) ≡ taken groups (entry_of body)
content_of-push bodies groups body h =
    fold_push more (Some []) bodies body ∙ ap (λ (c : Option (List Group)). more c body) h
