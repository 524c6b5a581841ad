-- How a merge ends where no line can be taken.
use Rattle.std.proofs.Common.{◌≡◌, ℕ, suc, ◌-◌, ◌<◌, ◌≤◌, Bool, true, false, None, Some, List, ◌++◌, ⊎_elim, length, map, take, slice_get, get_or, refl, ap, sym, subst, ◌∙◌, arith, append-nil}
use Rattle.std.proofs.lemmas.Bool.{cases_order}
use Rattle.std.proofs.lemmas.List.{drop_all}
use Rattle.std.proofs.lemmas.Option.{slice_get-get_or, slice_get_within}
use Rattle.oc_base.specs.Lawful.{IsNode}
use Rattle.oc_model.specs.declared.event.Event.{Event}
use Rattle.oc_model.specs.Node.{Node}
use Rattle.oc_model.specs.World.{World}
use Rattle.oc_laws_world.specs.Merges.{entries_of}
use Rattle.oc_merge.specs.declared.heads.Head.{Head}
use Rattle.oc_merge.specs.declared.merge_end.MergeEnd.{MergeEnd}
use Rattle.oc_merge.specs.declared.merge_end.MergeEnd.TheVariants.{Whole, State, Unsent}
use Rattle.oc_merge.specs.declared.told.Told.TheVariants.{Started}
use Rattle.oc_merge.specs.declared.told.ToldLine.{ToldLine}
use Rattle.oc_merge.specs.Ends.{EndsAt, NoneStandsBefore, StandsAt, is_of}
use Rattle.oc_merge.specs.Heads.{IsHeadOf, IsOnTheWay, head_of, no_head}
use Rattle.oc_merge.specs.Merging.{EndsAs, IsNextAt, NoneStands, is_start}
use Rattle.oc_merge.specs.Recorded.{entry_of, line_of, own_told}
use Rattle.oc_merge.specs.Records.{AreRecords, IsLine}
use Rattle.oc_merge.specs.Told.{Records}
use Rattle.oc_merge.proofs.Chosen.{all_at, taking}
use Rattle.oc_merge.proofs.Fronts.{rest_is}
use Rattle.oc_merge.proofs.Going.{node_at_head}
use Rattle.oc_merge.proofs.Own.{same_place}

module _ (digest : Node → List ℕ) (r : Records) (heads : List Head) (w : World) (events : List Event) (on : IsOnTheWay digest r heads w events) (lawful : AreRecords r) where
  -- a line that is next is at the head of its node
  at_head : (place : ℕ) (l : ToldLine) → IsNextAt r on.taken place l → IsNode r.header.nodes l.node × (place ≡ (head_of heads l.node).place)
  at_head place l next =
      let is : IsNode r.header.nodes l.node = (all_at (IsLine r.header.nodes) r.lines place l lawful.lines next.0).0 in
      let head : IsHeadOf r.lines on.taken l.node (head_of heads l.node) = on.heads_are.each l.node is in
      (is, same_place l.node r.lines place (head_of heads l.node).place l next.0 refl head.own head.within (next.1 ∙ sym head.count))

  -- the head at an index is that of a node
  of_index : (i : ℕ) → i < length heads → IsNode r.header.nodes (suc i)
  of_index i within = (omega arith, omega (arith, within, on.heads_are.all))

  head_at : (i : ℕ) → i < length heads → IsHeadOf r.lines on.taken (suc i) (get_or heads i no_head)
  head_at i within = subst (λ (j : ℕ). IsHeadOf r.lines on.taken (suc i) (get_or heads j no_head)) (omega arith) (on.heads_are.each (suc i) (of_index i within))

  none_next : (starts : Bool) (upto : ℕ) → NoneStandsBefore r.lines heads starts (length heads) upto → (place : ℕ) (l : ToldLine) → place < upto → IsNextAt r on.taken place l → is_of starts l.told ≡ false
  none_next starts upto none place l less next =
      let at = at_head place l next in
      none (l.node - 1) l (omega (arith, at.0.0, at.0.1, on.heads_are.all)) (subst (λ (p : ℕ). p < upto) at.1 less) (subst (λ (p : ℕ). slice_get r.lines p ≡ Some l) at.1 next.0)

  next_of : (starts : Bool) (place : ℕ) (s : StandsAt r.lines heads starts place) → IsNextAt r on.taken place s.told
  next_of starts place s =
      let head : IsHeadOf r.lines on.taken (suc s.index) (get_or heads s.index no_head) = head_at s.index s.within in
      let own : s.told.node ≡ suc s.index = node_at_head (suc s.index) r.lines (get_or heads s.index no_head).place s.told head.own (subst (λ (p : ℕ). slice_get r.lines p ≡ Some s.told) (sym s.of_head) s.there) in
      (s.there, subst (λ (y : ℕ). length (own_told y (take place r.lines)) ≡ length (entries_of y on.taken)) (sym own) (subst (λ (p : ℕ). length (own_told (suc s.index) (take p r.lines)) ≡ length (entries_of (suc s.index) on.taken)) s.of_head head.count))

  none_stands : NoneStandsBefore r.lines heads true (length heads) (length r.lines) → NoneStands r on.taken is_start
  none_stands none place l next = none_next true (length r.lines) none place l (slice_get_within r.lines place l next.0) next

  whole_here : NoneStandsBefore r.lines heads false (length heads) (length r.lines) → (x : ℕ) → IsNode r.header.nodes x → entries_of x on.taken ≡ entries_of x (map (line_of r.header.nodes) r.lines)
  whole_here none x is = sym (rest_is digest r on.taken (taking digest r heads w events on) x place head.count ∙ (ap (λ (ls : List ToldLine). entries_of x on.taken ++ map (entry_of r.header.nodes) (own_told x ls)) (drop_all place r.lines past) ∙ append-nil (entries_of x on.taken))) where
    place : ℕ
    place = (head_of heads x).place

    head : IsHeadOf r.lines on.taken x (head_of heads x)
    head = on.heads_are.each x is

    behind : place < length r.lines → ⊥
    behind less =
        let l : ToldLine = get_or r.lines place (record { number = 0; node = 0; told = Started None }) in
        let stands : is_of false l.told ≡ false = none (x - 1) l (omega (arith, is.0, is.1, on.heads_are.all)) less (slice_get-get_or r.lines place (record { number = 0; node = 0; told = Started None }) less) in
        absurd (cc stands)

    past : length r.lines ≤ place
    past = ⊎_elim (λ same. omega (arith, same)) (λ apart. ⊎_elim (λ less. absurd (behind less)) (λ more. omega (arith, more)) apart) (cases_order place (length r.lines))

  pub ends_as : (end : MergeEnd) → EndsAt r.lines heads end → EndsAs r on.taken end
  ends_as Whole none = whole_here none
  ends_as (State number) s = record {
    place = s.place;
    told = s.stands.told;
    next = next_of true s.place s.stands;
    of_kind = s.stands.of_kind;
    has_number = s.has_number;
    none_before = λ earlier k less next. none_next true s.place s.none_before earlier k less next;
  }
  ends_as (Unsent number) s = (
    none_stands s.0,
    record {
      place = s.1.place;
      told = s.1.stands.told;
      next = next_of false s.1.place s.1.stands;
      of_kind = refl;
      has_number = s.1.has_number;
      none_before = λ earlier k less next. none_next false s.1.place s.1.none_before earlier k less next;
    },
  )
