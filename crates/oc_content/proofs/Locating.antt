-- The group at a place of the index, and the search for one of its bytes.
use Rattle.std.proofs.Common.{◌≡◌, ℕ, zero, suc, ◌<◌, ◌≤◌, Bool, true, IsTrue, List, [], ◌∷◌, length, get_or, Some, None, refl, sym, ap, subst, ◌∙◌, arith}
use Rattle.oc_base.specs.declared.shelf.Shelf.{Shelf}
use Rattle.oc_content.specs.declared.track.Span.{Span}
use Rattle.oc_content.specs.declared.index.Index.{Index}
use Rattle.oc_base.specs.declared.group.Group.{Group}
use Rattle.oc_base.specs.Named.{same_name}
use Rattle.oc_base.specs.Groups.{group_of, shelf}
use Rattle.oc_base.specs.Shelves.{held_of, IsHeldAt, IsLineAt, IsFreeLineAt}
use Rattle.oc_content.specs.Indexes.{IsTracked, AreTracked, paths, helds, IsIndexOf}
use Rattle.oc_content.specs.Founds.{IsRest, IsSpot}
use Rattle.oc_base.proofs.NameOrder.{same_name-itself}
use Rattle.oc_content.proofs.Lines.{group_of-past, line_of-goes}

-- the group at a place, with its spans and its line
pub record GroupAt (bodies : List (List ℕ)) (groups : List Group) (ss : List Shelf) (ps : List (List Span)) (g : List ℕ) (at : ℕ) : Type 0 where
  pub group : Group
  pub named : group.name ≡ g
  pub tracked : IsTracked bodies group (get_or ps at [])
  pub held : length group.bytes ≡ get_or (helds ss) at 0
  pub found : group_of g groups ≡ Some group

-- a group that is found is tracked at its index
group_stands : (bodies : List (List ℕ)) (groups : List Group) (ps : List (List Span)) (g : List ℕ) (at : ℕ) → AreTracked bodies groups ps → IsLineAt (shelf groups) g at → GroupAt bodies groups (shelf groups) ps g at
group_stands bodies [] ps g at are stands = absurd stands
group_stands bodies (k ∷ ks) [] g at are stands = absurd are
group_stands bodies (k ∷ ks) (p ∷ ps) g zero are stands =
    let same : same_name g k.name ≡ true = ap (same_name g) stands ∙ same_name-itself g in
    record { group = k; named = stands; tracked = are.0; held = refl; found = rw same }
group_stands bodies (k ∷ ks) (p ∷ ps) g (suc at) are stands =
    let there = group_stands bodies ks ps g at are.1 stands.1 in
    record { group = there.group; named = there.named; tracked = there.tracked; held = there.held; found = group_of-past g k ks stands.0 ∙ there.found }

-- the same in an index
pub group_at : (bodies : List (List ℕ)) (groups : List Group) (x : Index) (honest : Bool) (g : List ℕ) (at : ℕ) → IsIndexOf bodies groups x honest → IsTrue honest → IsLineAt x.shelves.items g at → GroupAt bodies groups x.shelves.items (paths x.tracks.items) g at
group_at bodies groups x honest g at is h stands =
    subst (λ (ss : List Shelf). GroupAt bodies groups ss (paths x.tracks.items) g at) (sym is.lines) (group_stands bodies groups (paths x.tracks.items) g at (is.tracked h) (subst (λ (ss : List Shelf). IsLineAt ss g at) is.lines stands))

-- the length of the group at a place
pub held_of-stands : (ss : List Shelf) (g : List ℕ) (at : ℕ) → IsLineAt ss g at → held_of g ss ≡ Some (get_or (helds ss) at 0)
held_of-stands [] g at stands = absurd stands
held_of-stands (s ∷ ss) g zero stands =
    let same : same_name g s.group ≡ true = ap (same_name g) stands ∙ same_name-itself g in
    rw same
held_of-stands (s ∷ ss) g (suc at) stands = rw stands.0 (held_of-stands ss g at stands.1)

-- an absent group has no bytes
pub held_of-goes : (ss : List Shelf) (g : List ℕ) (at : ℕ) → IsFreeLineAt ss g at → held_of g ss ≡ None
held_of-goes ss g at goes = rw (line_of-goes ss g at goes)

-- a byte before the end of the group is there, and one past it is not
pub held_at : (ss : List Shelf) (g : List ℕ) (at start : ℕ) → IsLineAt ss g at → start < get_or (helds ss) at 0 → IsHeldAt g ss start
held_at ss g at start stands within = rw (held_of-stands ss g at stands) within

-- past the end of a group is no byte
pub past_end : (ss : List Shelf) (g : List ℕ) (at start : ℕ) → IsLineAt ss g at → get_or (helds ss) at 0 ≤ start → ¬ IsHeldAt g ss start
past_end ss g at start stands past =
    λ h. let within : start < get_or (helds ss) at 0 = rw (held_of-stands ss g at stands) at h in omega (arith, within, past)

-- an absent group has no bytes
pub absent_group : (ss : List Shelf) (g : List ℕ) (at start : ℕ) → IsFreeLineAt ss g at → ¬ IsHeldAt g ss start
absent_group ss g at start goes = λ h. rw (held_of-goes ss g at goes) at h

-- a byte that is found is at its spot
pub IsSpot-rest : (bodies : List (List ℕ)) (k : Group) (g : List ℕ) (start : ℕ) (spans : List Span) (skip : ℕ) (d : Span) → k.name ≡ g → IsRest bodies k start spans skip → IsSpot bodies g start (record { frame = (get_or spans 0 d).frame; skip = skip })
IsSpot-rest bodies k g start spans skip d named rest =
    subst (λ (ss : List Span). IsSpot bodies g start (record { frame = (get_or ss 0 d).frame; skip = skip })) (sym rest.are) (record {
      entry = _;
      says = rest.span.says;
      name = named;
      place = rest.place;
      within = rest.here;
    })
