-- A line that is taken, and a merge that is done.
use Rattle.std.proofs.Common.{◌≡◌, ℕ, zero, suc, ◌+◌, ◌-◌, ◌<◌, Bool, true, None, Some, List, [], ◌∷◌, ◌++◌, length, drop, slice_get, slice_set, get_or, refl, ap, sym, subst, ◌∙◌, arith}
use Rattle.oc_laws_world.specs.Merges.{IsScheduleOf}
use Rattle.oc_model.specs.declared.event.Event.{Event}
use Rattle.oc_model.specs.Node.{Node}
use Rattle.oc_model.specs.World.{World, is_up, new_world}
use Rattle.oc_schedule.specs.Script.{Script}
use Rattle.oc_merge.specs.declared.choosing.Choice.{Choice}
use Rattle.oc_merge.specs.declared.heads.Head.{Head}
use Rattle.oc_merge.specs.declared.merge_end.MergeEnd.{MergeEnd}
use Rattle.oc_merge.specs.declared.told.ToldLine.{ToldLine}
use Rattle.oc_merge.specs.Ends.{EndsAt, IsFirstAtHeads, StandsFirst}
use Rattle.oc_merge.specs.Heads.{AreNextPlaces, HaveWays, HaveWaysBut, IsChosen, IsFirstChoice, IsFirstWay, IsLookedAt, IsOnTheWay, IsTaken, IsWay, before_own, head_of, lines_left, no_head, receivers_after}
use Rattle.oc_merge.specs.Merging.{DeliverFirst, IsMergeOf}
use Rattle.oc_merge.specs.Recorded.{line_of}
use Rattle.oc_merge.specs.Records.{AreRecords, IsLine}
use Rattle.oc_merge.specs.Told.{Records}
use Rattle.oc_merge.proofs.Chosen.{full_here, is_line}
use Rattle.oc_merge.proofs.Ending.{ends_as}
use Rattle.oc_merge.proofs.Going.{go_on, left_fewer}
use Rattle.oc_merge.proofs.NextPlaces.{any_default}
use Rattle.oc_merge.proofs.OneMore.{chosen_of, heads_in, none_chosen, ways_behind}

-- the value read at a place is the line there
pub read_is : (ls : List ToldLine) (p : ℕ) (l x : ToldLine) → slice_get ls p ≡ Some l → x ≡ get_or ls p x → x ≡ l
read_is [] p l x at read = absurd (cc at)
read_is (k ∷ ks) zero l x at read = let same : k ≡ l = cc at in read ∙ same
read_is (k ∷ ks) (suc p) l x at read = read_is ks p l x at read

module _ (digest : Node → List ℕ) (r : Records) (heads : List Head) (w : World) (before : List Event) (on : IsOnTheWay digest r heads w before) (lawful : AreRecords r) (ways : HaveWays digest r w heads) (c : Choice) (first : IsFirstWay heads (length heads) c) where
  pub chosen : IsChosen digest r w heads (r.header.nodes + 1) c
  chosen = chosen_of digest r w heads before on ways c first

  -- the line that is read
  module _ (line : ToldLine) (read : line ≡ get_or r.lines c.place line) where
    line_is : line ≡ chosen.told
    line_is = read_is r.lines c.place chosen.told line chosen.there read

    pub line_lawful : IsLine r.header.nodes line
    line_lawful = subst (IsLine r.header.nodes) (sym line_is) (is_line digest r heads w before on lawful c chosen)

    pub line_way : IsWay digest r.header.nodes w line.node line.told (Some c.way)
    line_way = subst (λ (l : ToldLine). IsWay digest r.header.nodes w l.node l.told (Some c.way)) (sym line_is) chosen.way

    pub line_started : (head_of heads line.node).started ≡ is_up w line.node
    line_started = (heads_in digest r heads w before on).started line.node line_lawful.0

    pub line_head : (head_of heads line.node).place ≡ c.place
    line_head = subst (λ (l : ToldLine). (head_of heads l.node).place ≡ c.place) (sym line_is) chosen.of_head

    module _ (next : List ℕ) (are : AreNextPlaces r.lines next) (v : World) (after : List Event) (taken : IsTaken r.header.nodes w line v before after) (h : Head) (place : h.place ≡ get_or next c.place h.place) (begun : h.started ≡ true) where
      place_is : h.place ≡ c.place + 1 + before_own chosen.told.node (drop (suc c.place) r.lines)
      place_is =
          let index : c.place + 1 ≡ suc c.place = omega arith in
          place ∙ (any_default next c.place h.place 0 (omega (arith, chosen.within, are.0))
          ∙ (are.1 c.place chosen.told chosen.there ∙ ap (λ q. c.place + 1 + before_own chosen.told.node (drop q r.lines)) index))

      taken_is : IsTaken r.header.nodes w chosen.told v before after
      taken_is = subst (λ (l : ToldLine). IsTaken r.header.nodes w l v before after) line_is taken

      next_on : (then : IsOnTheWay digest r (slice_set heads (chosen.told.node - 1) h) v after) × (then.taken ≡ on.taken ++ line_of r.header.nodes chosen.told ∷ [])
      next_on = go_on digest r heads w before on lawful c chosen h v after taken_is place_is begun

      pub moved_on : IsOnTheWay digest r (slice_set heads (line.node - 1) h) v after
      moved_on = subst (λ (l : ToldLine). IsOnTheWay digest r (slice_set heads (l.node - 1) h) v after) (sym line_is) next_on.0

      pub moved_fewer : lines_left (length r.lines) (slice_set heads (line.node - 1) h) < lines_left (length r.lines) heads
      moved_fewer =
          let here : (get_or heads (line.node - 1) no_head).place < length r.lines = omega (arith, line_head, chosen.within) in
          let later : (get_or heads (line.node - 1) no_head).place < h.place = omega (arith, line_head, place_is) in
          left_fewer (length r.lines) heads (line.node - 1) h (omega (arith, line_lawful.0.0, line_lawful.0.1, on.heads_are.all)) here later

      pub ways_but : (bs : List Head) → IsLookedAt digest r v line.node (slice_set heads (line.node - 1) h) bs → HaveWaysBut digest r v bs (receivers_after (length w.net) v.net)
      ways_but bs at =
          let at_told : IsLookedAt digest r v chosen.told.node (slice_set heads (chosen.told.node - 1) h) bs = subst (λ (l : ToldLine). IsLookedAt digest r v l.node (slice_set heads (l.node - 1) h) bs) line_is at in
          ways_behind digest r w v heads (slice_set heads (chosen.told.node - 1) h) bs before after on ways next_on.0 (line_of r.header.nodes chosen.told) next_on.1
          (is_line digest r heads w before on lawful c chosen).0 h refl taken_is.events taken_is.leads at_told

-- a line is taken, and the head of its node moves on
pub record IsMoved (digest : Node → List ℕ) (r : Records) (heads mid : List Head) (w v : World) (x sent : ℕ) (after : List Event) : Type 0 where
  pub on : IsOnTheWay digest r mid v after
  pub fewer : lines_left (length r.lines) mid < lines_left (length r.lines) heads
  pub ways : (bs : List Head) → IsLookedAt digest r v x mid bs → HaveWaysBut digest r v bs (receivers_after sent v.net)

pub moved : (digest : Node → List ℕ) (r : Records) (heads : List Head) (w : World) (before : List Event) (on : IsOnTheWay digest r heads w before) (lawful : AreRecords r) (ways : HaveWays digest r w heads) (c : Choice) (first : IsFirstWay heads (length heads) c)
    → (line : ToldLine) (read : line ≡ get_or r.lines c.place line) (next : List ℕ) (are : AreNextPlaces r.lines next) (v : World) (after : List Event) (count : ℕ) → count ≡ r.header.nodes → IsTaken count w line v before after
    → (h : Head) (place : h.place ≡ get_or next c.place h.place) (begun : h.started ≡ true) (index sent : ℕ) → index ≡ line.node - 1 → sent ≡ length w.net → IsMoved digest r heads (slice_set heads index h) w v line.node sent after
moved digest r heads w before on lawful ways c first line read next are v after count counted taken h place begun index sent at all =
    subst (λ (n : ℕ). IsMoved digest r heads (slice_set heads index h) w v line.node n after) (sym all)
    (subst (λ (i : ℕ). IsMoved digest r heads (slice_set heads i h) w v line.node (length w.net) after) (sym at) base) where
      is_taken : IsTaken r.header.nodes w line v before after
      is_taken = subst (λ (n : ℕ). IsTaken n w line v before after) counted taken

      base : IsMoved digest r heads (slice_set heads (line.node - 1) h) w v line.node (length w.net) after
      base = record {
        on = moved_on digest r heads w before on lawful ways c first line read next are v after is_taken h place begun;
        fewer = moved_fewer digest r heads w before on lawful ways c first line read next are v after is_taken h place begun;
        ways = ways_but digest r heads w before on lawful ways c first line read next are v after is_taken h place begun;
      }

-- the value read of a head
pub head_read : (heads : List Head) (i : ℕ) (h : Head) → i < length heads → h ≡ get_or heads i h → h ≡ get_or heads i no_head
head_read [] i h within read = absurd (omega (arith, within))
head_read (k ∷ ks) zero h within read = read
head_read (k ∷ ks) (suc i) h within read = head_read ks i h (omega (arith, within)) read

-- no line can be taken any more
pub merge_done : (digest : Node → List ℕ) (r : Records) (heads : List Head) (w : World) (events : List Event) (s : Script) (end : MergeEnd) → IsOnTheWay digest r heads w events → AreRecords r → HaveWays digest r w heads
    → IsFirstChoice heads (length heads) None → EndsAt r.lines heads end → s.header ≡ r.header → s.events ≡ events → IsMergeOf digest r s end
merge_done digest r heads w events s end on lawful ways none ends header same = record {
  taken = on.taken;
  in_order = on.in_order;
  full = full_here digest r heads w events on (none_chosen digest r w heads events on ways none);
  header = header;
  schedule = subst (IsScheduleOf (new_world r.header) on.taken) (sym same) on.scheduled;
  least = subst (DeliverFirst (new_world r.header)) (sym same) on.least;
  ends = ends_as digest r heads w events on lawful end ends;
}

get_there : (ls : List ToldLine) (p : ℕ) (l d : ToldLine) → slice_get ls p ≡ Some l → get_or ls p d ≡ l
get_there [] p l d there = absurd (cc there)
get_there (k ∷ ks) zero l d there = cc there
get_there (k ∷ ks) (suc p) l d there = get_there ks p l d there

-- the first of its kind at the heads is the first of its kind that is left
pub stands_first : (ls : List ToldLine) (heads : List Head) (starts : Bool) (place : ℕ) (d : ToldLine) → IsFirstAtHeads ls heads starts (length heads) place → place < length ls → StandsFirst ls heads starts (get_or ls place d).number
stands_first ls heads starts place d is within = record {
  place = place;
  stands = is.stands within;
  has_number = ap (λ (l : ToldLine). l.number) (sym (get_there ls place (is.stands within).told d (is.stands within).there));
  none_before = is.none_before;
}
