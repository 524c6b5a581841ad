-- The index after one more entry.
use Rattle.std.proofs.Common.{◌≡◌, ℕ, zero, suc, ◌+◌, ◌<◌, ◌≤◌, Bool, true, false, IsTrue, List, [], ◌∷◌, ◌++◌, length, get_or, drop, insert, Option, Some, None, refl, sym, ap, subst, ◌∙◌, arith}
use Rattle.std.proofs.lemmas.List.{length-map, get_or_push, length_push}
use Rattle.oc_base.specs.declared.shelf.Shelf.{Shelf}
use Rattle.oc_content.specs.declared.heading.Heading.{Heading}
use Rattle.oc_content.specs.declared.track.Span.{Span}
use Rattle.oc_content.specs.declared.track.Track.{Track}
use Rattle.oc_content.specs.declared.index.Index.{Index}
use Rattle.oc_base.specs.declared.named.Lookup.{Lookup}
use Rattle.oc_base.specs.declared.named.Lookup.TheVariants.{Found, Free}
use Rattle.oc_base.specs.declared.group.Group.{Group}
use Rattle.oc_base.specs.Groups.{shelf, shelf_of, or_empty}
use Rattle.oc_base.specs.Shelves.{line_of, LooksUpLine}
use Rattle.oc_content.specs.Entries.{Entry, entry_of}
use Rattle.oc_content.specs.ContentFile.{fits, grown, with_entry, taken}
use Rattle.oc_base.specs.declared.limits.TheConstants.{MAX_GROUP_BYTES}
use Rattle.oc_content.specs.Headings.{entry_at}
use Rattle.oc_content.specs.Indexes.{IsTracked, AreTracked, paths, span_of, lines_with, line_with, paths_with, IsIndexOf, IsSized, OnlyReserves, IsWithin}
use Rattle.oc_base.proofs.Each.{all_at}
use Rattle.oc_content.proofs.Lists.{length-changed, length_insert}
use Rattle.oc_content.proofs.Lines.{length-shelf, stands_within, goes_within, stands_name, line_of-stands, line_of-goes, with_entry-stands, with_entry-goes, shelf-changed, shelf-insert, fresh}
use Rattle.oc_content.proofs.Meanings.{content_of-good, content_of-push, fits_held, fits_new}
use Rattle.oc_content.proofs.Tracking.{AreTracked-more, AreTracked-changed, AreTracked-insert, IsTracked-push}

-- the line at a place
line_at : (ks : List Group) (i : ℕ) (k : Group) → i < length ks → k ≡ get_or ks i k → shelf_of k ≡ get_or (shelf ks) i (shelf_of k)
line_at [] i k h e = absurd (omega (arith, h))
line_at (j ∷ ks) zero k h e = ap shelf_of e
line_at (j ∷ ks) (suc i) k h e = line_at ks i k (omega (arith, h)) e

-- the groups with an entry are tracked
tracked-add : (bodies : List (List ℕ)) (groups : List Group) (ps : List (List Span)) (h : Heading) (body : List ℕ) (count frame : ℕ) (place : Lookup) → AreTracked bodies groups ps → LooksUpLine (shelf groups) h.group place → fits (line_of h.group (shelf groups)) (length groups) h.start count h.seals ≡ true → count ≡ length (drop h.skip body) → entry_of body ≡ Some (entry_at h body) → frame ≡ length bodies → AreTracked (bodies ++ body ∷ []) (with_entry (entry_at h body) groups) (paths_with place (span_of h count frame) ps)
tracked-add bodies groups ps h body count frame (Found i) tracked at fit many says number =
    let more = AreTracked-more bodies body groups ps tracked in
    let here : get_or (bodies ++ body ∷ []) frame [] ≡ body = get_or_push bodies body [] frame (sym number) in
    let within : frame < length (bodies ++ body ∷ []) = omega (arith, length_push bodies body, number) in
    subst (λ (ks : List Group). AreTracked (bodies ++ body ∷ []) ks (paths_with (Found i) (span_of h count frame) ps)) (sym (with_entry-stands groups (entry_at h body) i at))
    (AreTracked-changed (bodies ++ body ∷ []) groups ps i (grown (entry_at h body)) (λ p. p ++ span_of h count frame) (λ k p is tracks.
    let inside : i < length groups = omega (arith, stands_within (shelf groups) h.group i at, length-shelf groups) in
    let line = line_at groups i k inside is in
    let named : k.name ≡ h.group = stands_name (shelf groups) h.group i (shelf_of k) at line in
    let there : line_of h.group (shelf groups) ≡ Some (shelf_of k) = line_of-stands (shelf groups) h.group i (shelf_of k) at line in
    let held = fits_held (shelf_of k) (length groups) h.start count h.seals (rw there at fit) in
    IsTracked-push (bodies ++ body ∷ []) k p h frame count body here within says many (sym named) held.0 tracks) more)
tracked-add bodies groups ps h body count frame (Free i) tracked at fit many says number =
    let more = AreTracked-more bodies body groups ps tracked in
    let here : get_or (bodies ++ body ∷ []) frame [] ≡ body = get_or_push bodies body [] frame (sym number) in
    let within : frame < length (bodies ++ body ∷ []) = omega (arith, length_push bodies body, number) in
    let absent : line_of h.group (shelf groups) ≡ None = line_of-goes (shelf groups) h.group i at in
    let new = fits_new (length groups) h.start count h.seals (rw absent at fit) in
    let none : IsTracked (bodies ++ body ∷ []) (or_empty h.group None) [] = record { spans = tt; bytes = refl } in
    subst (λ (ks : List Group). AreTracked (bodies ++ body ∷ []) ks (paths_with (Free i) (span_of h count frame) ps)) (sym (with_entry-goes groups (entry_at h body) i at))
    (AreTracked-insert (bodies ++ body ∷ []) groups ps i (fresh (entry_at h body)) (span_of h count frame)
    (IsTracked-push (bodies ++ body ∷ []) (or_empty h.group None) [] h frame count body here within says many refl new.0 none) more)

-- the lines of the groups with an entry
lines-add : (groups : List Group) (h : Heading) (body : List ℕ) (count : ℕ) (place : Lookup) → LooksUpLine (shelf groups) h.group place → count ≡ length (drop h.skip body) → lines_with place h count (shelf groups) ≡ shelf (with_entry (entry_at h body) groups)
lines-add groups h body count (Found i) at many =
    sym (ap shelf (with_entry-stands groups (entry_at h body) i at) ∙ shelf-changed groups h body count i many at)
lines-add groups h body count (Free i) at many =
    sym (ap shelf (with_entry-goes groups (entry_at h body) i at) ∙ (shelf-insert groups i (fresh (entry_at h body)) ∙ ap (λ (n : ℕ). insert (shelf groups) i (record { group = h.group; held = n; sealed = h.seals })) (sym many)))

-- as many paths as lines
rows-add : (ss : List Shelf) (ps : List (List Span)) (h : Heading) (count : ℕ) (spans : List Span) (place : Lookup) → length ps ≡ length ss → length (paths_with place spans ps) ≡ length (lines_with place h count ss)
rows-add ss ps h count spans (Found i) e = length-changed (λ p. p ++ spans) i ps ∙ (e ∙ sym (length-changed (line_with h count) i ss))
rows-add ss ps h count spans (Free i) e =
    length_insert i ps spans ∙ (ap suc e ∙ sym (length_insert i ss (record { group = h.group; held = count; sealed = h.seals })))

-- the index with an entry is that of one frame more
pub IsIndexOf-add : (bodies : List (List ℕ)) (groups : List Group) (x y : Index) (honest : Bool) (h : Heading) (body : List ℕ) (count frame : ℕ) (place : Lookup) → IsIndexOf bodies groups x honest → LooksUpLine x.shelves.items h.group place → fits (line_of h.group x.shelves.items) (length x.shelves.items) h.start count h.seals ≡ true → count ≡ length (drop h.skip body) → entry_of body ≡ Some (entry_at h body) → (IsTrue honest → frame ≡ length bodies) → y.shelves.items ≡ lines_with place h count x.shelves.items → paths y.tracks.items ≡ paths_with place (span_of h count frame) (paths x.tracks.items) → IsIndexOf (bodies ++ body ∷ []) (with_entry (entry_at h body) groups) y honest
IsIndexOf-add bodies groups x y honest h body count frame place is at fit many says number lines tracks =
    let at' : LooksUpLine (shelf groups) h.group place = subst (λ (ss : List Shelf). LooksUpLine ss h.group place) is.lines at in
    let fit' : fits (line_of h.group (shelf groups)) (length groups) h.start count h.seals ≡ true =
    subst (λ (n : ℕ). fits (line_of h.group (shelf groups)) n h.start count h.seals ≡ true) (length-shelf groups) (subst (λ (ss : List Shelf). fits (line_of h.group ss) (length ss) h.start count h.seals ≡ true) is.lines fit) in
    record {
      content = content_of-push bodies groups body is.content ∙ (ap (taken groups) says ∙ took groups (entry_at h body) (subst (λ (n : ℕ). fits (line_of h.group (shelf groups)) (length groups) h.start n h.seals ≡ true) many fit'));
      lines = lines ∙ (ap (lines_with place h count) is.lines ∙ lines-add groups h body count place at' many);
      rows = sym (length-map y.tracks.items (λ t. t.spans.items)) ∙ (ap length tracks ∙ (rows-add x.shelves.items (paths x.tracks.items) h count (span_of h count frame) place (length-map x.tracks.items (λ t. t.spans.items) ∙ is.rows) ∙ ap length (sym lines)));
      tracked = λ honest. subst (λ (ps : List (List Span)). AreTracked (bodies ++ body ∷ []) (with_entry (entry_at h body) groups) ps) (sym tracks) (tracked-add bodies groups (paths x.tracks.items) h body count frame place (is.tracked honest) at' fit' many says (number honest));
    }
  where
    took : (ks : List Group) (e : Entry) → fits (line_of e.group (shelf ks)) (length ks) e.start (length e.bytes) e.seals ≡ true → taken ks (Some e) ≡ Some (with_entry e ks)
    took ks e t = rw t

-- an index of good frames is within the limits
pub IsSized-good : (bodies : List (List ℕ)) (groups : List Group) (x : Index) (honest : Bool) → IsIndexOf bodies groups x honest → IsSized x
IsSized-good bodies groups x honest is =
    let good = content_of-good bodies groups is.content in
    record {
      rows = is.rows;
      ascending = rw is.lines good.ascending;
      few = omega (arith, good.few, length-shelf groups, ap length is.lines);
      short = rw is.lines (all_at (λ s. s.held ≤ MAX_GROUP_BYTES) (shelf groups) good.short);
    }

-- an index with more memory is still within the limits
pub IsSized-reserved : (x y : Index) → IsSized x → OnlyReserves x y → IsSized y
IsSized-reserved x y sized keeps = record {
  rows = sym (length-map y.tracks.items (λ (t : Track). t.spans.items)) ∙ (ap length keeps.tracks.paths ∙ (length-map x.tracks.items (λ (t : Track). t.spans.items) ∙ (sized.rows ∙ sym (ap length keeps.lines))));
  ascending = rw keeps.lines sized.ascending;
  few = omega (arith, sized.few, ap length keeps.lines);
  short = rw keeps.lines sized.short;
}

-- where an entry fits there is an index for it
pub place_within : (ss : List Shelf) (g : List ℕ) (place : Lookup) (start count : ℕ) (seals : Bool) → LooksUpLine ss g place → fits (line_of g ss) (length ss) start count seals ≡ true → IsWithin place (length ss)
place_within ss g (Found i) start count seals at fit = stands_within ss g i at
place_within ss g (Free i) start count seals at fit =
    let absent : line_of g ss ≡ None = line_of-goes ss g i at in
    (goes_within ss g i at, (fits_new (length ss) start count seals (rw absent at fit)).1)

-- an entry that fits is no longer than a group
pub count_short : (line : Option Shelf) (groups start count : ℕ) (seals : Bool) → fits line groups start count seals ≡ true → count ≤ MAX_GROUP_BYTES
count_short None groups start count seals fit = (fits_new groups start count seals fit).2
count_short (Some line) groups start count seals fit = omega (arith, (fits_held line groups start count seals fit).1)

-- an entry that does not fit is not taken
pub taken-refused : (bodies : List (List ℕ)) (groups : List Group) (x : Index) (honest : Bool) (h : Heading) (body : List ℕ) (count : ℕ) → IsIndexOf bodies groups x honest → count ≡ length (drop h.skip body) → entry_of body ≡ Some (entry_at h body) → fits (line_of h.group x.shelves.items) (length x.shelves.items) h.start count h.seals ≡ false → taken groups (entry_of body) ≡ None
taken-refused bodies groups x honest h body count is many says fit =
    let fit' : fits (line_of h.group (shelf groups)) (length groups) h.start (length (drop h.skip body)) h.seals ≡ false =
    subst (λ (n : ℕ). fits (line_of h.group (shelf groups)) (length groups) h.start n h.seals ≡ false) many (subst (λ (n : ℕ). fits (line_of h.group (shelf groups)) n h.start count h.seals ≡ false) (length-shelf groups) (subst (λ (ss : List Shelf). fits (line_of h.group ss) (length ss) h.start count h.seals ≡ false) is.lines fit)) in
    ap (taken groups) says ∙ refused groups (entry_at h body) fit'
  where
    refused : (ks : List Group) (e : Entry) → fits (line_of e.group (shelf ks)) (length ks) e.start (length e.bytes) e.seals ≡ false → taken ks (Some e) ≡ None
    refused ks e f = rw f

-- an entry that fits ends within the limit
pub end_short : (line : Option Shelf) (groups start count : ℕ) (seals : Bool) → fits line groups start count seals ≡ true → start + count ≤ MAX_GROUP_BYTES
end_short None groups start count seals fit =
    let new = fits_new groups start count seals fit in omega (arith, new.0, new.2)
end_short (Some line) groups start count seals fit =
    let held = fits_held line groups start count seals fit in omega (arith, held.0, held.1)
