-- The line that a merge takes next is the first of the input that can be taken; where there is none, the merge is full.
use Rattle.std.proofs.Common.{◌≡◌, ℕ, zero, suc, ◌+◌, ◌<◌, Some, List, [], ◌∷◌, ◌++◌, length, map, take, drop, slice_get, option_map, refl, ap, sym, subst, ◌∙◌, arith}
use Rattle.std.specs.List.{AllByRecursion}
use Rattle.std.proofs.lemmas.List.{append_cancel_left, length-map, take-map}
use Rattle.std.proofs.lemmas.Option.{slice_get-map, slice_get_within}
use Rattle.oc_model.specs.declared.event.Event.{Event}
use Rattle.oc_model.specs.Node.{Node}
use Rattle.oc_model.specs.World.{World, new_world}
use Rattle.oc_laws_world.specs.Merges.{Entry, Line, entries_of, CanFollow}
use Rattle.oc_laws_world.specs.Taking.{IsTaking, CanBeTaken, CanBeTakenAt, IsFirst, IsFull}
use Rattle.oc_laws_world.proofs.Merged.{IsWorldOf, merge_leads, world_new}
use Rattle.oc_laws_world.proofs.Takings.{order_taking, taken_merge}
use Rattle.oc_merge.specs.declared.choosing.Choice.{Choice}
use Rattle.oc_merge.specs.declared.heads.Head.{Head}
use Rattle.oc_merge.specs.declared.told.Told.{Told}
use Rattle.oc_merge.specs.declared.told.Told.TheVariants.{Started, Came, Took}
use Rattle.oc_merge.specs.declared.told.ToldLine.{ToldLine}
use Rattle.oc_merge.specs.declared.way.Way.{Way}
use Rattle.oc_merge.specs.declared.way.Way.TheVariants.{Start, Number, Input}
use Rattle.oc_merge.specs.Heads.{IsHeadOf, IsOnTheWay, IsChosen, IsWay, CanGo, NoneGoBefore, head_of}
use Rattle.oc_merge.specs.Recorded.{entry_of, line_of, own_told, recorded}
use Rattle.oc_merge.specs.Records.{AreRecords, IsLine}
use Rattle.oc_merge.specs.Told.{Records}
use Rattle.oc_merge.proofs.Fronts.{at_dropped, drop_at_place, goes, follows, fits_of, rest_is, next_told}
use Rattle.oc_merge.proofs.Own.{entries_own, own_first, first_own, same_place}

-- a property of all is one of the item at a place
pub all_at : {A : Type 0} (P : A → Type 0) (xs : List A) (k : ℕ) (x : A) → AllByRecursion P xs → slice_get xs k ≡ Some x → P x
all_at P [] k x all at = absurd (cc at)
all_at P (y ∷ ys) zero x all at = subst P (cc at) all.0
all_at P (y ∷ ys) (suc k) x all at = all_at P ys k x all.1 at

-- a list whose images begin so
map_front : {A B : Type 0} (f : A → B) (xs : List A) (y : B) (ys : List B) → map f xs ≡ y ∷ ys → (x : A) × (more : List A) × (xs ≡ x ∷ more) × (f x ≡ y)
map_front f [] y ys e = absurd (cc e)
map_front f (x ∷ xs) y ys e = (x, xs, refl, cc e)

-- an image at a place
map_at : {A B : Type 0} (f : A → B) (xs : List A) (k : ℕ) (y : B) → slice_get (map f xs) k ≡ Some y → (x : A) × (slice_get xs k ≡ Some x) × (f x ≡ y)
map_at f [] k y at = absurd (cc at)
map_at f (x ∷ xs) zero y at = (x, refl, cc at)
map_at f (x ∷ xs) (suc k) y at = map_at f xs k y at

-- a way can be gone
pub way_goes : (digest : Node → List ℕ) (nodes : ℕ) (w : World) (x : ℕ) (t : Told) (way : Way) → IsWay digest nodes w x t (Some way) → CanGo digest nodes w x t
way_goes digest nodes w x (Started files) Start is = is
way_goes digest nodes w x (Started files) (Number k) is = absurd is
way_goes digest nodes w x (Started files) Input is = absurd is
way_goes digest nodes w x (Came bytes) Start is = absurd is
way_goes digest nodes w x (Came bytes) (Number k) is = is.0
way_goes digest nodes w x (Came bytes) Input is = absurd is
way_goes digest nodes w x (Took i) Start is = absurd is
way_goes digest nodes w x (Took i) (Number k) is = absurd is
way_goes digest nodes w x (Took i) Input is = is

module _ (digest : Node → List ℕ) (r : Records) (heads : List Head) (w : World) (events : List Event) (on : IsOnTheWay digest r heads w events) where
  pub taking : IsTaking (recorded digest r) on.taken
  taking = order_taking (recorded digest r) [] on.taken on.in_order

  pub world_is : IsWorldOf r.header on.taken w
  world_is =
      subst (IsWorldOf r.header on.taken) (sym on.at)
      (merge_leads r.header [] on.taken (new_world r.header) events (world_new r.header) (taken_merge (recorded digest r) [] on.taken taking) on.scheduled)

  -- a line that can be taken is at the head of its node, and can come next
  at_head : (x : ℕ) (e : Entry) → CanBeTaken (recorded digest r) on.taken x e
      → (l : ToldLine) × (slice_get r.lines (head_of heads x).place ≡ Some l) × CanGo digest r.header.nodes w x l.told
  at_head x e can = (found.0, at_dropped r.lines place found.0 found.1 found.2, subst (CanGo digest r.header.nodes w x) (sym found.4) go) where
    place : ℕ
    place = (head_of heads x).place

    head : IsHeadOf r.lines on.taken x (head_of heads x)
    head = on.heads_are.each x can.0

    left : map (entry_of r.header.nodes) (own_told x (drop place r.lines)) ≡ e ∷ can.1.0
    left = append_cancel_left (entries_of x on.taken) (map (entry_of r.header.nodes) (own_told x (drop place r.lines))) (e ∷ can.1.0) (sym (rest_is digest r on.taken taking x place head.count) ∙ can.1.1)

    own : (t : Told) × (more : List Told) × (own_told x (drop place r.lines) ≡ t ∷ more) × (entry_of r.header.nodes t ≡ e)
    own = map_front (entry_of r.header.nodes) (own_told x (drop place r.lines)) e can.1.0 left

    found : (l : ToldLine) × (rest : List ToldLine) × (drop place r.lines ≡ l ∷ rest) × (l.node ≡ x) × (l.told ≡ own.0) × (own_told x rest ≡ own.1)
    found = first_own x (drop place r.lines) own.0 own.1 head.own own.2

    go : CanGo digest r.header.nodes w x own.0
    go =
        goes digest r on.taken w world_is x can.0 own.0 (next_told digest r on.taken taking x place head.count own.0 own.1 own.2) can.2
        (subst (CanFollow r.header on.taken x) (sym own.3) can.3)

  -- where no head can go, no line can be taken
  pub full_here : NoneGoBefore digest r w heads (r.header.nodes + 1) (length r.lines) → IsFull (recorded digest r) on.taken
  full_here none x e can =
      let at = at_head x e can in
      none x can.0 (omega (arith, can.0.1)) (slice_get_within r.lines (head_of heads x).place at.0 at.1) at

  -- as many entries as lines
  count_entries : (x p : ℕ) → length (entries_of x (take p (map (line_of r.header.nodes) r.lines))) ≡ length (own_told x (take p r.lines))
  count_entries x p =
      ap (λ (ms : List Line). length (entries_of x ms)) (take-map (line_of r.header.nodes) p r.lines)
      ∙ (ap length (entries_own r.header.nodes x (take p r.lines)) ∙ length-map (own_told x (take p r.lines)) (entry_of r.header.nodes))

  module _ (lawful : AreRecords r) (c : Choice) (chosen : IsChosen digest r w heads (r.header.nodes + 1) c) where
    pub is_line : IsLine r.header.nodes chosen.told
    is_line = all_at (IsLine r.header.nodes) r.lines c.place chosen.told lawful.lines chosen.there

    pub own_count : length (own_told chosen.told.node (take c.place r.lines)) ≡ length (entries_of chosen.told.node on.taken)
    own_count = subst (λ (p : ℕ). length (own_told chosen.told.node (take p r.lines)) ≡ length (entries_of chosen.told.node on.taken)) chosen.of_head (on.heads_are.each chosen.told.node is_line.0).count

    can_be : CanBeTaken (recorded digest r) on.taken chosen.told.node (entry_of r.header.nodes chosen.told.told)
    can_be = (is_line.0, (map (entry_of r.header.nodes) (own_told x (drop (suc c.place) r.lines)), next), fits_of digest r on.taken w world_is x is_line.0 chosen.told.told told go, follows digest r on.taken w world_is x is_line.0 chosen.told.told is_line.1 go) where
      x : ℕ
      x = chosen.told.node

      own : own_told x (drop c.place r.lines) ≡ chosen.told.told ∷ own_told x (drop (suc c.place) r.lines)
      own = ap (own_told x) (drop_at_place r.lines c.place chosen.told chosen.there) ∙ own_first x chosen.told (drop (suc c.place) r.lines) refl

      next : entries_of x (map (line_of r.header.nodes) r.lines) ≡ entries_of x on.taken ++ entry_of r.header.nodes chosen.told.told ∷ map (entry_of r.header.nodes) (own_told x (drop (suc c.place) r.lines))
      next = rest_is digest r on.taken taking x c.place own_count ∙ ap (λ (ts : List Told). entries_of x on.taken ++ map (entry_of r.header.nodes) ts) own

      told : slice_get (own_told x r.lines) (length (entries_of x on.taken)) ≡ Some chosen.told.told
      told = next_told digest r on.taken taking x c.place own_count chosen.told.told (own_told x (drop (suc c.place) r.lines)) own

      go : CanGo digest r.header.nodes w x chosen.told.told
      go = way_goes digest r.header.nodes w x chosen.told.told c.way chosen.way

    pub first_here : IsFirst (recorded digest r) on.taken c.place (line_of r.header.nodes chosen.told)
    first_here = record {
      can = (
        slice_get-map (line_of r.header.nodes) r.lines c.place ∙ ap (option_map (line_of r.header.nodes)) chosen.there,
        count_entries chosen.told.node c.place ∙ own_count,
        can_be,
      );
      none_before = none;
    } where
      none : (earlier : ℕ) (l : Line) → earlier < c.place → CanBeTakenAt (recorded digest r) on.taken earlier l → ⊥
      none earlier l less can =
          let x : ℕ = l.node in
          let head : IsHeadOf r.lines on.taken x (head_of heads x) = on.heads_are.each x can.2.0 in
          let there = map_at (line_of r.header.nodes) r.lines earlier l can.0 in
          let of_x : there.0.node ≡ x = ap (λ (k : Line). k.node) there.2 in
          let count : length (own_told x (take earlier r.lines)) ≡ length (own_told x (take (head_of heads x).place r.lines)) = sym (count_entries x earlier) ∙ (can.1 ∙ sym head.count) in
          let same : earlier ≡ (head_of heads x).place = same_place x r.lines earlier (head_of heads x).place there.0 there.1 of_x head.own head.within count in
          chosen.none_before x can.2.0 (omega (arith, can.2.0.1)) (subst (λ (p : ℕ). p < c.place) same less) (at_head x l.entry can.2)
