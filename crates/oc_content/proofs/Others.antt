-- A group that is put leaves those of other names.
use Rattle.std.proofs.Common.{◌≡◌, ◌≢◌, ℕ, Bool, true, false, List, [], ◌∷◌, Ordering, Less, Equal, Greater, nat_cmp, refl, ap, sym, ◌∙◌}
use Rattle.std.specs.Cmp.Lexicographic.{slice_cmp}
use Rattle.oc_base.specs.declared.group.Group.{Group}
use Rattle.oc_base.specs.Named.{same_name}
use Rattle.oc_base.specs.Groups.{group_of, with_group, group_or_empty}
use Rattle.oc_content.specs.Entries.{Entry}
use Rattle.oc_content.specs.ContentFile.{grown, with_entry}
use Rattle.oc_base.proofs.NameOrder.{names_equal, names_tied}

-- the group found at another name
pub found_other : (g : List ℕ) (k : Group) (ks : List Group) → same_name g k.name ≡ false → group_of g (with_group k ks) ≡ group_of g ks
found_other g k [] h = rw h
found_other g k (j ∷ js) h = by_order (found_other g k js h) (slice_cmp nat_cmp k.name j.name) refl where
  behind : group_of g (with_group k js) ≡ group_of g js → (b : Bool) → same_name g j.name ≡ b → group_of g (j ∷ with_group k js) ≡ group_of g (j ∷ js)
  behind rest true e = rw e
  behind rest false e = rw e rest

  by_order : group_of g (with_group k js) ≡ group_of g js → (o : Ordering) → slice_cmp nat_cmp k.name j.name ≡ o → group_of g (with_group k (j ∷ js)) ≡ group_of g (j ∷ js)
  by_order rest Less e = rw (e, h)
  by_order rest Equal e =
      let other : same_name g j.name ≡ false = ap (same_name g) (sym (names_tied k.name j.name e)) ∙ h in
      rw (e, h, other)
  by_order rest Greater e = rw e (behind rest (same_name g j.name) refl)

-- an entry leaves all groups of other names
pub with_entry-others : (e : Entry) (ks : List Group) (name : List ℕ) → name ≢ e.group → group_of name (with_entry e ks) ≡ group_of name ks
with_entry-others e ks name other = by_test (same_name name e.group) refl where
  by_test : (b : Bool) → same_name name e.group ≡ b → group_of name (with_entry e ks) ≡ group_of name ks
  by_test true h = absurd (other (names_equal name e.group h))
  by_test false h = found_other name (grown e (group_or_empty e.group ks)) ks h
