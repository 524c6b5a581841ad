-- The groups of frames, told body by body.
use Rattle.std.proofs.Common.{◌≡◌, ◌↔◌, ℕ, Bool, true, false, ◌==◌, ◌||◌, ◌&&◌, IsTrue, IsSome, is_some, cond, Option, None, Some, List, [], ◌∷◌, ◌++◌, fold, Any, unwrap_or, length, take, drop, nat_lt, ◌+◌, Ordering, Less, Equal, Greater, nat_cmp, refl, sym, ap, ◌∙◌, append_assoc}
use Rattle.std.specs.List.{list_any}
use Rattle.std.specs.Cmp.Lexicographic.{slice_cmp}
use Rattle.std.specs.Int.{w64, from_be_bytes}
use Rattle.std.proofs.lemmas.List.{append-nil}
use Rattle.std.proofs.lemmas.List.Concat.{flat_map-cons}
use Rattle.std.proofs.lemmas.List.Folds.{Any-from_list_any, list_any-from_Any}
use Rattle.oc_base.specs.declared.group.Group.{Group}
use Rattle.oc_base.specs.Named.{same_name}
use Rattle.oc_base.specs.Groups.{group_of, with_group, or_empty, group_or_empty, shelf}
use Rattle.oc_base.specs.Shelves.{line_of}
use Rattle.oc_base.specs.Names.{name_fault}
use Rattle.oc_base.proofs.NameOrder.{names_equal, names_back, names_apart}
use Rattle.oc_content.specs.Entries.{Entry, entry_of, fields, named}
use Rattle.oc_content.specs.ContentFile.{fits, grown, with_entry, taken, more, content_of, groups_in, bytes_in}
use Rattle.oc_content.specs.GroupPieces.{is_entry_for, is_for, entry_piece, piece_for, pieces_for, begins_with_zero, seals_for, sealed_in}
use Rattle.oc_content.proofs.Meanings.{none_more}
use Rattle.oc_content.proofs.Others.{found_other}

-- a group that was put is found
found_same : (g : List ℕ) (k : Group) (ks : List Group) → same_name g k.name ≡ true → group_of g (with_group k ks) ≡ Some k
found_same g k [] h = rw h refl
found_same g k (j ∷ js) h = by_order (found_same g k js h) (slice_cmp nat_cmp k.name j.name) refl where
  by_order : group_of g (with_group k js) ≡ Some k → (o : Ordering) → slice_cmp nat_cmp k.name j.name ≡ o → group_of g (with_group k (j ∷ js)) ≡ Some k
  by_order rest Less e = rw (e, h) refl
  by_order rest Equal e = rw (e, h) refl
  by_order rest Greater e =
      let apart : same_name g j.name ≡ false = ap (λ (n : List ℕ). same_name n j.name) (names_equal g k.name h) ∙ names_apart j.name k.name (names_back k.name j.name e) in
      rw (e, apart) rest

-- the group, if there is one, after an entry
abbrev pub after_entry : List ℕ → Option Group → Option Entry → Option Group
after_entry g o None = o
after_entry g o (Some e) = cond (same_name g e.group) (Some (grown e (or_empty g o))) o

-- a group after an entry
found_after : (g : List ℕ) (ks : List Group) (e : Entry) → group_of g (with_entry e ks) ≡ after_entry g (group_of g ks) (Some e)
found_after g ks e = by_name (same_name g e.group) refl where
  by_name : (b : Bool) → same_name g e.group ≡ b → group_of g (with_entry e ks) ≡ cond b (Some (grown e (or_empty g (group_of g ks)))) (group_of g ks)
  by_name true h =
      found_same g (grown e (group_or_empty e.group ks)) ks h
      ∙ ap (λ (n : List ℕ). Some (grown e (group_or_empty n ks))) (sym (names_equal g e.group h))
  by_name false h = found_other g (grown e (group_or_empty e.group ks)) ks h

-- the group, if there is one, after frames
abbrev pub after_bodies : List ℕ → Option Group → List (List ℕ) → Option Group
after_bodies g o [] = o
after_bodies g o (body ∷ bodies) = after_bodies g (after_entry g o (entry_of body)) bodies

-- one frame
took : (g : List ℕ) (ks : List Group) (entry : Option Entry) (js : List Group) → taken ks entry ≡ Some js → group_of g js ≡ after_entry g (group_of g ks) entry
took g ks None js is = absurd cc
took g ks (Some e) js is = by_fit (fits (line_of e.group (shelf ks)) (length ks) e.start (length e.bytes) e.seals) is where
  by_fit : (b : Bool) → cond b (Some (with_entry e ks)) None ≡ Some js → group_of g js ≡ after_entry g (group_of g ks) (Some e)
  by_fit true h = let same : with_entry e ks ≡ js = cc in ap (group_of g) (sym same) ∙ found_after g ks e
  by_fit false h = absurd cc

-- a group after more bodies
found_from : (g : List ℕ) (bodies : List (List ℕ)) (ks js : List Group) → fold more (Some ks) bodies ≡ Some js → group_of g js ≡ after_bodies g (group_of g ks) bodies
found_from g [] ks js is = let same : ks ≡ js = cc in ap (group_of g) (sym same)
found_from g (body ∷ bodies) ks js is = by_next (λ is2 h. found_from g bodies is2 js h) (taken ks (entry_of body)) refl where
  by_next : ((is2 : List Group) → fold more (Some is2) bodies ≡ Some js → group_of g js ≡ after_bodies g (group_of g is2) bodies) → (next : Option (List Group)) → taken ks (entry_of body) ≡ next → group_of g js ≡ after_bodies g (after_entry g (group_of g ks) (entry_of body)) bodies
  by_next rest None n = let none : None ≡ Some js = sym (none_more bodies) ∙ rw n at is in absurd cc
  by_next rest (Some is2) n =
      rest is2 (rw n at is) ∙ ap (λ (o : Option Group). after_bodies g o bodies) (took g ks (entry_of body) is2 n)

-- the bytes after an entry
bytes_after : (g : List ℕ) (o : Option Group) (entry : Option Entry) → (or_empty g (after_entry g o entry)).bytes ≡ (or_empty g o).bytes ++ entry_piece g entry
bytes_after g o None = sym (append-nil (or_empty g o).bytes)
bytes_after g o (Some e) = by_name (same_name g e.group) where
  by_name : (b : Bool) → (or_empty g (cond b (Some (grown e (or_empty g o))) o)).bytes ≡ (or_empty g o).bytes ++ cond b e.bytes []
  by_name true = refl
  by_name false = sym (append-nil (or_empty g o).bytes)

-- the group's bytes are those it had and the pieces for it
bytes_by_pieces : (g : List ℕ) (bodies : List (List ℕ)) (o : Option Group) → (or_empty g (after_bodies g o bodies)).bytes ≡ (or_empty g o).bytes ++ pieces_for g bodies
bytes_by_pieces g [] o = sym (append-nil (or_empty g o).bytes)
bytes_by_pieces g (body ∷ bodies) o =
    bytes_by_pieces g bodies (after_entry g o (entry_of body))
    ∙ ap (λ (l : List ℕ). l ++ pieces_for g bodies) (bytes_after g o (entry_of body))
    ∙ append_assoc (or_empty g o).bytes (piece_for g body) (pieces_for g bodies)
    ∙ ap (λ (l : List ℕ). (or_empty g o).bytes ++ l) (sym (flat_map-cons (piece_for g) body bodies))

-- whether there is a group after an entry
there_after : (g : List ℕ) (o : Option Group) (entry : Option Entry) → is_some (after_entry g o entry) ≡ is_some o || is_entry_for g entry
there_after g o None = or_false (is_some o) where
  or_false : (b : Bool) → b ≡ b || false
  or_false true = refl
  or_false false = refl
there_after g o (Some e) = by_name (same_name g e.group) o where
  by_name : (b : Bool) (x : Option Group) → is_some (cond b (Some (grown e (or_empty g x))) x) ≡ is_some x || b
  by_name true None = refl
  by_name true (Some k) = refl
  by_name false None = refl
  by_name false (Some k) = refl

-- tests in any grouping
or_assoc : (a b c : Bool) → (a || b) || c ≡ a || (b || c)
or_assoc true b c = refl
or_assoc false b c = refl

-- a test beside one that fails
or_none : (a : Bool) → a || false ≡ a
or_none true = refl
or_none false = refl

-- the group is there if it was before, or if a body is for it
there_by_bodies : (g : List ℕ) (bodies : List (List ℕ)) (o : Option Group) → is_some (after_bodies g o bodies) ≡ is_some o || list_any (is_for g) bodies
there_by_bodies g [] o = sym (or_none (is_some o))
there_by_bodies g (body ∷ bodies) o =
    there_by_bodies g bodies (after_entry g o (entry_of body))
    ∙ ap (λ (b : Bool). b || list_any (is_for g) bodies) (there_after g o (entry_of body))
    ∙ or_assoc (is_some o) (is_for g body) (list_any (is_for g) bodies)

-- the seal of a body's entry is told by its first byte
past_test : (b : Bool) (entry : Option Entry) (e : Entry) → cond b None entry ≡ Some e → entry ≡ Some e
past_test true entry e is = absurd cc
past_test false entry e is = is

-- the fields say the seal that they are read with
fields_seal : (seals : Bool) (bytes : List ℕ) (e : Entry) → fields seals bytes ≡ Some e → e.seals ≡ seals
fields_seal seals [] e is = absurd cc
fields_seal seals (n ∷ rest) e is =
    let name = take n rest in
    let said = past_test (nat_lt (length rest) (n + 8)) (named seals name (drop n rest)) e is in
    let same : Some (record { group = name; start = from_be_bytes w64 (take 8 (drop n rest)); bytes = drop 8 (drop n rest); seals = seals }) ≡ Some e = past_test (is_some (name_fault name)) _ e said in
    cc

-- a body seals its group exactly if its first byte is 0
body_seals : (body : List ℕ) (e : Entry) → entry_of body ≡ Some e → e.seals ≡ begins_with_zero body
body_seals [] e is = absurd cc
body_seals (b ∷ rest) e is = by_first (b == 0) is where
  by_first : (z : Bool) → cond z (fields true rest) (fields false (b ∷ rest)) ≡ Some e → e.seals ≡ z
  by_first true h = fields_seal true rest e h
  by_first false h = fields_seal false (b ∷ rest) e h

-- the seal that an entry sets
abbrev pub entry_seals : Option Entry → Bool
entry_seals None = false
entry_seals (Some e) = e.seals

-- a body seals a group if it is for the group and begins with the byte 0
seals_by_first : (g body : List ℕ) (entry : Option Entry) → entry_of body ≡ entry → (is_entry_for g entry && entry_seals entry) ≡ (is_entry_for g entry && begins_with_zero body)
seals_by_first g body None is = refl
seals_by_first g body (Some e) is = ap (λ (b : Bool). same_name g e.group && b) (body_seals body e is)

-- the seal after an entry
sealed_after : (g : List ℕ) (o : Option Group) (entry : Option Entry) → (or_empty g (after_entry g o entry)).sealed ≡ (or_empty g o).sealed || (is_entry_for g entry && entry_seals entry)
sealed_after g o None = sym (or_none (or_empty g o).sealed)
sealed_after g o (Some e) = by_name (same_name g e.group) where
  by_name : (b : Bool) → (or_empty g (cond b (Some (grown e (or_empty g o))) o)).sealed ≡ (or_empty g o).sealed || (b && e.seals)
  by_name true = refl
  by_name false = sym (or_none (or_empty g o).sealed)

-- a group is sealed where it was, or where a body seals it
sealed_by_bodies : (g : List ℕ) (bodies : List (List ℕ)) (o : Option Group) → (or_empty g (after_bodies g o bodies)).sealed ≡ (or_empty g o).sealed || list_any (seals_for g) bodies
sealed_by_bodies g [] o = sym (or_none (or_empty g o).sealed)
sealed_by_bodies g (body ∷ bodies) o =
    sealed_by_bodies g bodies (after_entry g o (entry_of body))
    ∙ ap (λ (b : Bool). b || list_any (seals_for g) bodies) (sealed_after g o (entry_of body) ∙ ap (λ (b : Bool). (or_empty g o).sealed || b) (seals_by_first g body (entry_of body) refl))
    ∙ or_assoc (or_empty g o).sealed (seals_for g body) (list_any (seals_for g) bodies)

-- a test that computes whether some element passes
any_by_test : {A : Type 0} (p : A → Bool) (xs : List A) (b : Bool) → b ≡ list_any p xs → IsTrue b ↔ Any (λ x. p x ≡ true) xs
any_by_test p xs b is =
    (λ h. Any-from_list_any p xs (sym is ∙ h), λ some. is ∙ list_any-from_Any p xs some)

-- the group in good frames, if there is one
good : (g : List ℕ) (bodies : List (List ℕ)) → IsSome (content_of bodies) → group_of g (groups_in bodies) ≡ after_bodies g None bodies
good g bodies some = by_content (content_of bodies) refl some where
  by_content : (c : Option (List Group)) → content_of bodies ≡ c → IsSome c → group_of g (unwrap_or c []) ≡ after_bodies g None bodies
  by_content None is h = absurd (is_none h) where
    is_none : IsSome {T = List Group} None → ⊥
    is_none none = cc
  by_content (Some js) is h = found_from g bodies [] js is

-- the bytes of a group in good frames
pub bytes_are_pieces : (bodies : List (List ℕ)) (g : List ℕ) → IsSome (content_of bodies) → bytes_in g bodies ≡ pieces_for g bodies
bytes_are_pieces bodies g some =
    ap (λ (o : Option Group). (or_empty g o).bytes) (good g bodies some) ∙ bytes_by_pieces g bodies None

-- the seal of a group
pub sealed_by_zero : (bodies : List (List ℕ)) (g : List ℕ) → IsSome (content_of bodies) → IsTrue (sealed_in g bodies) ↔ Any (λ body. seals_for g body ≡ true) bodies
sealed_by_zero bodies g some =
    any_by_test (seals_for g) bodies (sealed_in g bodies) (ap (λ (o : Option Group). (or_empty g o).sealed) (good g bodies some) ∙ sealed_by_bodies g bodies None)

-- whether a group is there
pub held_by_bodies : (bodies : List (List ℕ)) (g : List ℕ) → IsSome (content_of bodies) → IsSome (group_of g (groups_in bodies)) ↔ Any (λ body. is_for g body ≡ true) bodies
held_by_bodies bodies g some =
    any_by_test (is_for g) bodies (is_some (group_of g (groups_in bodies))) (ap (λ (o : Option Group). is_some o) (good g bodies some) ∙ there_by_bodies g bodies None)
