-- The terms of the laws on content, over two lists of groups: that of the source and that of one node.
use Rattle.std.proofs.Common.{◌≡◌, ℕ, ◌+◌, Bool, true, false, ◌&&◌, ◌-◌, ◌≤◌, ◌==◌, List, [], ◌∷◌, Some, length, take, drop, if◌then◌else◌, refl, ap, sym, subst, ◌∙◌, arith, le_refl, eqb-true, length-take, length-drop}
use Rattle.std.specs.List.{AllByRecursion}
use Rattle.std.proofs.lemmas.Bool.{and_parts}
use Rattle.oc_base.specs.declared.shelf.Shelf.{Shelf}
use Rattle.oc_base.specs.declared.group.Group.{Group}
use Rattle.oc_model.specs.declared.message.Body.{Body}
use Rattle.oc_model.specs.declared.message.Body.TheVariants.{Fetch, Chunk}
use Rattle.oc_model.specs.Claims.{Keeps, IsPieceOf}
use Rattle.oc_base.specs.Named.{same_name}
use Rattle.oc_base.specs.Groups.{group_of, with_group, shelf, IsAscending}
use Rattle.oc_laws_world.proofs.Fronts.{IsFront, front_itself, front_along, front_length, IsPiece, piece_along, piece_cut}
use Rattle.oc_model.proofs.Groups.{AreFoundIn, ascend-found, ascend-with_group, group_of-with_group}
use Rattle.oc_model.proofs.Lists.{all_weaker}
use Rattle.oc_base.proofs.NameOrder.{names_equal}

-- the group of this name has at least the bytes of k, and is k if k is sealed
pub record IsGrown (k : Group) (g : List ℕ) (new : List Group) : Type 0 where
  pub now : Group
  pub found : group_of g new ≡ Some now
  pub front : IsFront k.bytes now.bytes
  pub stays : k.sealed ≡ true → now ≡ k

-- no group loses a byte, and no sealed group changes
abbrev pub Grows : List Group → List Group → Type 0
Grows old new = (g : List ℕ) (k : Group) → group_of g old ≡ Some k → IsGrown k g new

-- an unchanged list of groups loses nothing
pub grows_itself : (ks : List Group) → Grows ks ks
grows_itself ks g k h = record { now = k; found = h; front = front_itself k.bytes; stays = λ e. refl }

-- k may take the place of the group of its name
abbrev pub MayReplace : Group → List Group → Type 0
MayReplace k ks = (t : Group) → group_of k.name ks ≡ Some t → IsFront t.bytes k.bytes × (t.sealed ≡ true → k ≡ t)

-- a list loses nothing by a group that may replace the one of its name
pub grows_with : (k : Group) (ks : List Group) → MayReplace k ks → Grows ks (with_group k ks)
grows_with k ks may g t h = by_test (same_name g k.name) refl where
  by_test : (b : Bool) → same_name g k.name ≡ b → IsGrown t g (with_group k ks)
  by_test true e =
      let same : g ≡ k.name = names_equal g k.name e in
      let here : group_of k.name ks ≡ Some t = rw (← same) h in
      record { now = k; found = group_of-with_group g k ks ∙ rw e; front = (may t here).0; stays = (may t here).1 }
  by_test false e = record { now = t; found = group_of-with_group g k ks ∙ rw e h; front = front_itself t.bytes; stays = λ _. refl }

-- a shelf line that is kept stays kept
pub keeps_along : (ks js : List Group) → Grows ks js → (l : Shelf) → Keeps ks l → Keeps js l
keeps_along ks js grows l held =
    let grown = grows l.group held.0 held.1 in
    let more = front_length held.0.bytes grown.now.bytes grown.front in
    (grown.now, grown.found, omega (arith, held.2), λ e. ap (λ (k : Group). k.sealed) (grown.stays (held.3 e)) ∙ held.3 e)

-- the source's group of which k is a prefix, and which k is if k is sealed
pub record IsHeld (s : List Group) (g : List ℕ) (k : Group) : Type 0 where
  pub whole : Group
  pub found : group_of g s ≡ Some whole
  pub front : IsFront k.bytes whole.bytes
  pub sealed : k.sealed ≡ true → (whole.sealed ≡ true) × (k.bytes ≡ whole.bytes)

-- ascending groups, each a prefix of the source's
pub record Holds (s ks : List Group) : Type 0 where
  pub ascend : IsAscending ks
  pub each : (g : List ℕ) (k : Group) → group_of g ks ≡ Some k → IsHeld s g k

-- a prefix stays a prefix as the source grows
pub held_along : (s s' : List Group) → Grows s s' → (g : List ℕ) (k : Group) → IsHeld s g k → IsHeld s' g k
held_along s s' grows g k held =
    let grown = grows g held.whole held.found in
    record {
      whole = grown.now;
      found = grown.found;
      front = front_along k.bytes held.whole.bytes grown.now.bytes held.front grown.front;
      sealed = λ e.
          let full = held.sealed e in
          let same : held.whole ≡ grown.now = sym (grown.stays full.0) in
          subst (λ (t : Group). (t.sealed ≡ true) × (k.bytes ≡ t.bytes)) same full;
    }

-- all groups of a node stay prefixes as the source grows
pub holds_along : (s s' ks : List Group) → Grows s s' → Holds s ks → Holds s' ks
holds_along s s' ks grows holds = record { ascend = holds.ascend; each = λ g k h. held_along s s' grows g k (holds.each g k h) }

-- a prefix of a group of the source may be put
pub holds_with : (s : List Group) (k : Group) (ks : List Group) → Holds s ks → IsHeld s k.name k → Holds s (with_group k ks)
holds_with s k ks holds held = record { ascend = ascend-with_group k ks holds.ascend; each = λ g t h. by_test g t h (same_name g k.name) refl } where
  by_test : (g : List ℕ) (t : Group) → group_of g (with_group k ks) ≡ Some t → (b : Bool) → same_name g k.name ≡ b → IsHeld s g t
  by_test g t h true e =
      let found : Some k ≡ Some t = rw e at (sym (group_of-with_group g k ks) ∙ h) in
      let same : k ≡ t = cc in
      let name : k.name ≡ g = sym (names_equal g k.name e) in
      subst (λ (j : Group). IsHeld s g j) same (subst (λ (n : List ℕ). IsHeld s n k) name held)
  by_test g t h false e = holds.each g t (rw e at (sym (group_of-with_group g k ks) ∙ h))

-- the same groups at every name
abbrev pub AreSame : List Group → List Group → Type 0
AreSame ks s = (g : List ℕ) → group_of g ks ≡ group_of g s

-- the same group put into both leaves both the same
pub same_with : (k : Group) (ks s : List Group) → AreSame ks s → AreSame (with_group k ks) (with_group k s)
same_with k ks s same g = group_of-with_group g k ks ∙ (ap (λ was. if same_name g k.name then Some k else was) (same g) ∙ sym (group_of-with_group g k s))

-- a node with exactly the groups of the source holds prefixes of them
pub holds_same : (s ks : List Group) → IsAscending ks → AreSame ks s → Holds s ks
holds_same s ks up same = record { ascend = up; each = λ g k h. record { whole = k; found = sym (same g) ∙ h; front = front_itself k.bytes; sealed = λ e. (e, refl) } }

-- a chunk brings bytes that the source published
abbrev pub IsTrueOfSource : List Group → Body → Type 0
IsTrueOfSource s (Chunk g start bytes last) =
    (t : Group) × (group_of g s ≡ Some t) × IsPieceOf start bytes t
    × (last ≡ true → (t.sealed ≡ true) × (start + length bytes ≡ length t.bytes))
IsTrueOfSource s b = Unit {0}

-- a fetch names groups that its sender holds
abbrev pub IsTrueOfSender : List Group → Body → Type 0
IsTrueOfSender ks (Fetch have) = AllByRecursion (Keeps ks) have
IsTrueOfSender ks b = Unit {0}

-- a message that is true of the source and of its sender's groups
pub record IsTrue (s ks : List Group) (b : Body) : Type 0 where
  pub source : IsTrueOfSource s b
  pub sender : IsTrueOfSender ks b

-- a true chunk stays true as the source grows
chunk_along : (s s' : List Group) → Grows s s' → (b : Body) → IsTrueOfSource s b → IsTrueOfSource s' b
chunk_along s s' grows (Chunk g start bytes last) h =
    let grown = grows g h.0 h.1 in (
      grown.now,
      grown.found,
      piece_along start bytes h.0.bytes grown.now.bytes h.2 grown.front,
      λ e.
          let full = h.3 e in
          let same : h.0 ≡ grown.now = sym (grown.stays full.0) in
          subst (λ (t : Group). (t.sealed ≡ true) × (start + length bytes ≡ length t.bytes)) same full,
    )
chunk_along s s' grows b h = tt

-- a true fetch stays true as its sender's groups grow
fetch_along : (ks js : List Group) → Grows ks js → (b : Body) → IsTrueOfSender ks b → IsTrueOfSender js b
fetch_along ks js grows (Fetch have) h = all_weaker (Keeps ks) (Keeps js) (keeps_along ks js grows) have h
fetch_along ks js grows b h = tt

-- a true message stays true as the source and the sender's groups grow
pub true_along : (s s' ks js : List Group) → Grows s s' → Grows ks js → (b : Body) → IsTrue s ks b → IsTrue s' js b
true_along s s' ks js source sender b h = record { source = chunk_along s s' source b h.source; sender = fetch_along ks js sender b h.sender }

-- lines of groups that are found in a list are kept there
shelf_kept : (all ks : List Group) → AreFoundIn all ks → AllByRecursion (Keeps all) (shelf ks)
shelf_kept all [] found = tt
shelf_kept all (k ∷ ks) found = ((k, found.0, le_refl (length k.bytes), λ e. e), shelf_kept all ks found.1)

-- a fetch that names the shelf of ascending groups is true
pub shelf_true : (s ks : List Group) → IsAscending ks → IsTrue s ks (Fetch (shelf ks))
shelf_true s ks up = record { source = tt; sender = shelf_kept ks ks (ascend-found ks up) }

-- bytes cut from a prefix of the source's group are true of the source; they are the last ones where they end a sealed group
pub piece_true : (s : List Group) (g : List ℕ) (k : Group) (start count : ℕ) (bytes : List ℕ) → IsHeld s g k → count ≤ length k.bytes - start → bytes ≡ take count (drop start k.bytes)
    → IsTrueOfSource s (Chunk g start bytes (k.sealed && start + count == length k.bytes))
piece_true s g k start count bytes held few is =
    let piece : IsPiece start bytes k.bytes = subst (λ (xs : List ℕ). IsPiece start xs k.bytes) (sym is) (piece_cut start count k.bytes) in
    let long : length bytes ≡ count = omega (arith, ap length is, length-take count (drop start k.bytes), length-drop start k.bytes, few) in (
      held.whole,
      held.found,
      piece_along start bytes k.bytes held.whole.bytes piece held.front,
      λ e.
          let both = and_parts k.sealed (start + count == length k.bytes) e in
          let full = held.sealed both.0 in
          let end : start + length bytes ≡ length k.bytes = ap (λ n. start + n) long ∙ eqb-true (start + count) (length k.bytes) both.1 in
          (full.0, end ∙ ap length full.1),
    )

-- two growths in a row are a growth
pub grows_then : (a b c : List Group) → Grows a b → Grows b c → Grows a c
grows_then a b c first second g k h =
    let one = first g k h in
    let two = second g one.now one.found in
    record {
      now = two.now;
      found = two.found;
      front = front_along k.bytes one.now.bytes two.now.bytes one.front two.front;
      stays = λ e. two.stays (ap (λ (t : Group). t.sealed) (one.stays e) ∙ e) ∙ one.stays e;
    }
