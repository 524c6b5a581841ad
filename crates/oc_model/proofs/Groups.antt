-- The list of a node's groups: the group found after a put, and the ascending order.
use Rattle.std.proofs.Common.{◌≡◌, ℕ, Bool, true, false, List, [], ◌∷◌, Option, Some, None, Ordering, Less, Equal, Greater, nat_cmp, is_eq, if◌then◌else◌, refl, ap, sym, subst, ◌∙◌}
use Rattle.std.specs.Cmp.Lexicographic.{slice_cmp}
use Rattle.std.specs.List.{AllByRecursion}
use Rattle.oc_base.specs.declared.group.Group.{Group}
use Rattle.oc_base.specs.Named.{same_name}
use Rattle.oc_base.specs.Groups.{group_of, with_group, group_or_empty, or_empty, AreAbove, IsAscending}
use Rattle.oc_model.proofs.Lists.{all_weaker, all_both}
use Rattle.oc_base.proofs.NameOrder.{same_name-itself, names_equal, names_tied, names_back, names_apart, names_rise}

-- the group found at a name after this group was put
abbrev pub put_at : List ℕ → Group → Option Group → Option Group
put_at g k was = if same_name g k.name then Some k else was

abbrev put_found : List ℕ → Group → List Group → Type 0
put_found g k ks = group_of g (with_group k ks) ≡ put_at g k (group_of g ks)

-- the group that is put comes before all others of its name
over_head : (g : List ℕ) (k j : Group) (js : List Group) → k.name ≡ j.name → put_at g k (group_of g js) ≡ put_at g k (group_of g (j ∷ js))
over_head g k j js e = by_test (same_name g k.name) refl where
  by_test : (b : Bool) → same_name g k.name ≡ b → put_at g k (group_of g js) ≡ put_at g k (group_of g (j ∷ js))
  by_test true h = rw h
  by_test false h = let other : same_name g j.name ≡ false = rw (← e) h in rw (h, other)

-- a group with a greater name than the head is put after it
past_head : (g : List ℕ) (k j : Group) (js : List Group) → slice_cmp nat_cmp k.name j.name ≡ Greater → put_found g k js → group_of g (j ∷ with_group k js) ≡ put_at g k (group_of g (j ∷ js))
past_head g k j js e rest = by_test (same_name g j.name) refl where
  by_test : (b : Bool) → same_name g j.name ≡ b → group_of g (j ∷ with_group k js) ≡ put_at g k (group_of g (j ∷ js))
  by_test true h =
      let is : g ≡ j.name = names_equal g j.name h in
      let other : same_name g k.name ≡ false = rw is (ap is_eq (names_back k.name j.name e)) in
      rw (h, other)
  by_test false h = rw h rest

-- at each name: the new group, or the group found before
pub group_of-with_group : (g : List ℕ) (k : Group) (ks : List Group) → group_of g (with_group k ks) ≡ put_at g k (group_of g ks)
group_of-with_group g k [] = refl
group_of-with_group g k (j ∷ js) = by_order (group_of-with_group g k js) (slice_cmp nat_cmp k.name j.name) refl where
  by_order : put_found g k js → (o : Ordering) → slice_cmp nat_cmp k.name j.name ≡ o → put_found g k (j ∷ js)
  by_order rest Less e = rw e
  by_order rest Equal e = rw e (over_head g k j js (names_tied k.name j.name e))
  by_order rest Greater e = rw e (past_head g k j js e rest)

-- at its own name the group that was put is found
pub group_of-with_group_same : (k : Group) (ks : List Group) → group_of k.name (with_group k ks) ≡ Some k
group_of-with_group_same k ks = group_of-with_group k.name k ks ∙ rw (same_name-itself k.name)

-- at another name, the group found before
pub group_of-with_group_other : (g : List ℕ) (k : Group) (ks : List Group) → same_name g k.name ≡ false → group_of g (with_group k ks) ≡ group_of g ks
group_of-with_group_other g k ks h = group_of-with_group g k ks ∙ rw h

-- a group that is found has the name that was asked for
pub group_of-name : (g : List ℕ) (ks : List Group) (k : Group) → group_of g ks ≡ Some k → k.name ≡ g
group_of-name g [] k h = absurd cc
group_of-name g (j ∷ js) k h = by_test (group_of-name g js k) (same_name g j.name) refl where
  by_test : (group_of g js ≡ Some k → k.name ≡ g) → (b : Bool) → same_name g j.name ≡ b → k.name ≡ g
  by_test rest true e =
      let found : Some j ≡ Some k = rw e at h in
      let same : j ≡ k = cc in
      rw (← same) (sym (names_equal g j.name e))
  by_test rest false e = rest (rw e at h)

-- the group at a name, or an empty one, has that name
pub group_or_empty-name : (g : List ℕ) (ks : List Group) → (group_or_empty g ks).name ≡ g
group_or_empty-name g ks = by_found (group_of g ks) refl where
  by_found : (found : Option Group) → group_of g ks ≡ found → (or_empty g found).name ≡ g
  by_found None e = refl
  by_found (Some k) e = group_of-name g ks k e

-- a group found under that name is the one held
pub group_or_empty-held : (g : List ℕ) (ks : List Group) (t : Group) → group_of (group_or_empty g ks).name ks ≡ Some t → group_or_empty g ks ≡ t
group_or_empty-held g ks t h =
    let found : group_of g ks ≡ Some t = rw (group_or_empty-name g ks) at h in
    ap (or_empty g) found

-- a group with a greater name may be put among greater names
above_more : (g : List ℕ) (k : Group) (ks : List Group) → slice_cmp nat_cmp g k.name ≡ Less → AreAbove g ks → AreAbove g (with_group k ks)
above_more g k [] h all = (h, tt)
above_more g k (j ∷ js) h all = by_order (above_more g k js h all.1) (slice_cmp nat_cmp k.name j.name) refl where
  by_order : AreAbove g (with_group k js) → (o : Ordering) → slice_cmp nat_cmp k.name j.name ≡ o → AreAbove g (with_group k (j ∷ js))
  by_order rest Less e = rw e (h, all)
  by_order rest Equal e = rw e (h, all.1)
  by_order rest Greater e = rw e (all.0, rest)

-- groups above a name are above a lesser name
pub above_lower : (a b : List ℕ) (ks : List Group) → slice_cmp nat_cmp a b ≡ Less → AreAbove b ks → AreAbove a ks
above_lower a b ks h all = all_weaker (λ k. slice_cmp nat_cmp b k.name ≡ Less) (λ k. slice_cmp nat_cmp a k.name ≡ Less) (λ k e. names_rise a b k.name h e) ks all

-- a list that ascends does so once a group was put
pub ascend-with_group : (k : Group) (ks : List Group) → IsAscending ks → IsAscending (with_group k ks)
ascend-with_group k [] up = (tt, tt)
ascend-with_group k (j ∷ js) up = by_order (ascend-with_group k js up.1) (slice_cmp nat_cmp k.name j.name) refl where
  by_order : IsAscending (with_group k js) → (o : Ordering) → slice_cmp nat_cmp k.name j.name ≡ o → IsAscending (with_group k (j ∷ js))
  by_order rest Less e = rw e ((e, above_lower k.name j.name js e up.0), up)
  by_order rest Equal e = rw e (subst (λ g. AreAbove g js) (sym (names_tied k.name j.name e)) up.0, up.1)
  by_order rest Greater e = rw e (above_more j.name k js (names_back k.name j.name e) up.0, rest)

-- each group of the list is found by its name
abbrev pub AreFoundIn : List Group → List Group → Type 0
AreFoundIn all ks = AllByRecursion (λ k. group_of k.name all ≡ Some k) ks

-- a group found after a lesser name is found in the whole list
behind_head : (j k : Group) (js : List Group) → slice_cmp nat_cmp j.name k.name ≡ Less → group_of k.name js ≡ Some k → group_of k.name (j ∷ js) ≡ Some k
behind_head j k js e h = rw (names_apart j.name k.name e) h

-- in a list that ascends each group is found by its name
pub ascend-found : (ks : List Group) → IsAscending ks → AreFoundIn ks ks
ascend-found [] up = tt
ascend-found (j ∷ js) up = (
  rw (same_name-itself j.name),
  all_both (λ k. slice_cmp nat_cmp j.name k.name ≡ Less) (λ k. group_of k.name js ≡ Some k) (λ k. group_of k.name (j ∷ js) ≡ Some k) (λ k e h. behind_head j k js e h) js up.0 (ascend-found js up.1),
)
