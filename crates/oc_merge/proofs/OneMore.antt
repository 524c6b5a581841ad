-- Heads on the way: the choice among them, and the ways that they keep if a line was taken.
use Rattle.std.proofs.Common.{◌≡◌, ◌≢◌, ℕ, zero, suc, ◌+◌, ◌-◌, ◌<◌, ◌≤◌, Bool, true, Option, Some, None, List, [], ◌∷◌, ◌++◌, ◌⊎◌, inr, ⊎_elim, length, map, drop, slice_get, slice_set, get_or, refl, ap, sym, subst, ◌∙◌, arith, append_assoc, append-nil}
use Rattle.std.specs.List.{range_with_len}
use Rattle.std.proofs.lemmas.Bool.{cases_eq}
use Rattle.std.proofs.lemmas.List.{get_or-set_other}
use Rattle.std.proofs.lemmas.Option.{slice_get_within}
use Rattle.oc_base.specs.Lawful.{IsNode}
use Rattle.oc_model.specs.declared.event.Event.{Event}
use Rattle.oc_model.specs.declared.message.Message.{Message}
use Rattle.oc_model.specs.NextWorld.{next_world, world_after}
use Rattle.oc_model.specs.Node.{Node, new_node}
use Rattle.oc_model.specs.Numbers.{IsAmong}
use Rattle.oc_model.specs.World.{World, Process, ids, process}
use Rattle.oc_model.specs.WorldBounds.{IsLater}
use Rattle.oc_model.proofs.GoesOn.{ids-always, net-next_world}
use Rattle.oc_laws_world.specs.Merges.{Entry, Line, after_entries, entries_of, is_any}
use Rattle.oc_laws_world.proofs.MergeLists.{entries_there}
use Rattle.oc_merge.specs.declared.choosing.Choice.{Choice}
use Rattle.oc_merge.specs.declared.heads.Head.{Head}
use Rattle.oc_merge.specs.declared.told.ToldLine.{ToldLine}
use Rattle.oc_merge.specs.declared.way.Way.{Way}
use Rattle.oc_merge.specs.Heads.{AreHeadsIn, CanGoAt, HasWay, HaveWays, HaveWaysBut, IsChosen, IsFirstChoice, IsFirstWay, IsLookedAt, IsOnTheWay, IsWay, IsWayAt, NoneGoBefore, head_of, is_waiting, no_head, receivers_after}
use Rattle.oc_merge.specs.Told.{Records}
use Rattle.oc_merge.proofs.Chosen.{world_is}
use Rattle.oc_merge.proofs.Fronts.{own_up}
use Rattle.oc_merge.proofs.Going.{node_at_head}
use Rattle.oc_merge.proofs.Looking.{looked_here, looked_there, way_later}

-- Heads on the way

pub length-range : (from n : ℕ) → length (range_with_len from n) ≡ n
length-range from zero = refl
length-range from (suc n) = ap suc (length-range (from + 1) n)

pub ids_on : (digest : Node → List ℕ) (r : Records) (heads : List Head) (w : World) (events : List Event) → IsOnTheWay digest r heads w events → length (ids w) ≡ r.header.nodes
ids_on digest r heads w events on = ap (λ (v : World). length (ids v)) on.at ∙ (ap length (ids-always r.header events) ∙ length-range 1 r.header.nodes)

pub heads_in : (digest : Node → List ℕ) (r : Records) (heads : List Head) (w : World) (events : List Event) → IsOnTheWay digest r heads w events → AreHeadsIn w r heads
heads_in digest r heads w events on = record {
  ids_are = ids_on digest r heads w events on;
  all = on.heads_are.all;
  own = λ x is l at. node_at_head x r.lines (head_of heads x).place l (on.heads_are.each x is).own at;
  started = λ x is. (on.heads_are.each x is).started ∙ sym (own_up digest r on.taken w (world_is digest r heads w events on) x is);
}

-- Choosing

module _ (digest : Node → List ℕ) (r : Records) (w : World) (heads : List Head) (events : List Event) (on : IsOnTheWay digest r heads w events) (ways : HaveWays digest r w heads) where
  way_of_head : (x : ℕ) → IsNode r.header.nodes x → HasWay digest r w x (head_of heads x)
  way_of_head x is = ⊎_elim (λ pending. absurd pending.0) (λ has. has) (ways x is)

  -- a head without a way can't go
  none_goes : (x : ℕ) → IsNode r.header.nodes x → (head_of heads x).way ≡ None → CanGoAt digest r w heads x → ⊥
  none_goes x is none can =
      let at : IsWayAt digest r.header.nodes w x (Some can.0) None =
      subst (λ (o : Option ToldLine). IsWayAt digest r.header.nodes w x o None) can.1 (subst (IsWayAt digest r.header.nodes w x (slice_get r.lines (head_of heads x).place)) none (way_of_head x is)) in
      at can.2

  none_go : (upto place : ℕ) → ((i : ℕ) → i < upto → (get_or heads i no_head).place < place → (get_or heads i no_head).way ≡ None) → length heads ≤ upto → NoneGoBefore digest r w heads (r.header.nodes + 1) place
  none_go upto place none all x is within before can = none_goes x is (none (x - 1) (omega (arith, is.0, is.1, on.heads_are.all, all)) before) can

  pub none_chosen : IsFirstChoice heads (length heads) None → NoneGoBefore digest r w heads (r.header.nodes + 1) (length r.lines)
  none_chosen none = none_go (length heads) (length r.lines) (λ i within before. none i within) (omega arith)

  -- the line of a head that has a way
  line_of_way : (o : Option ToldLine) (x : ℕ) (way : Way) → IsWayAt digest r.header.nodes w x o (Some way) → (l : ToldLine) × (o ≡ Some l) × IsWay digest r.header.nodes w x l.told (Some way)
  line_of_way None x way is = absurd (cc is)
  line_of_way (Some l) x way is = (l, refl, is)

  pub chosen_of : (c : Choice) → IsFirstWay heads (length heads) c → IsChosen digest r w heads (r.header.nodes + 1) c
  chosen_of c first = record {
    within = slice_get_within r.lines c.place found.0 there;
    told = found.0;
    there = there;
    of_head = ap (λ (y : ℕ). (head_of heads y).place) own ∙ of_place;
    way = subst (λ (y : ℕ). IsWay digest r.header.nodes w y found.0.told (Some c.way)) (sym own) found.2;
    none_before = none_go (length heads) c.place first.none_before (omega arith);
  } where
    x : ℕ
    x = suc first.index

    is : IsNode r.header.nodes x
    is = (omega arith, omega (arith, first.within, on.heads_are.all))

    same : x - 1 ≡ first.index
    same = omega arith

    of_place : (head_of heads x).place ≡ c.place
    of_place = ap (λ (i : ℕ). (get_or heads i no_head).place) same ∙ first.of_place

    of_way : (head_of heads x).way ≡ Some c.way
    of_way = ap (λ (i : ℕ). (get_or heads i no_head).way) same ∙ first.of_way

    found : (l : ToldLine) × (slice_get r.lines (head_of heads x).place ≡ Some l) × IsWay digest r.header.nodes w x l.told (Some c.way)
    found = line_of_way (slice_get r.lines (head_of heads x).place) x c.way (subst (IsWayAt digest r.header.nodes w x (slice_get r.lines (head_of heads x).place)) of_way (way_of_head x is))

    there : slice_get r.lines c.place ≡ Some found.0
    there = sym (ap (slice_get r.lines) of_place) ∙ found.1

    own : found.0.node ≡ x
    own = node_at_head x r.lines (head_of heads x).place found.0 (on.heads_are.each x is).own found.1

-- Going on: the head of the node whose line was taken is looked at, and the others but receivers have their ways

net_after : (w : World) (es : List Event) → IsLater w (world_after w es)
net_after w [] = ([], sym (append-nil w.net))
net_after w (e ∷ es) =
    let one = net-next_world w e in
    let rest = net_after (next_world w e) es in
    (one.0 ++ rest.0, rest.1 ∙ (ap (λ (ms : List Message). ms ++ rest.0) one.1 ∙ append_assoc w.net one.0 rest.0))

behind_all : (ms news : List Message) → drop (length ms) (ms ++ news) ≡ news
behind_all [] news = refl
behind_all (m ∷ ms) news = behind_all ms news

module _ (digest : Node → List ℕ) (r : Records) (w v : World) (heads mid bs : List Head) (before after : List Event) (on : IsOnTheWay digest r heads w before) (ways : HaveWays digest r w heads) (on_next : IsOnTheWay digest r mid v after)
    (l : Line) (one_more : on_next.taken ≡ on.taken ++ l ∷ []) (is : IsNode r.header.nodes l.node) (h : Head) (moved : mid ≡ slice_set heads (l.node - 1) h) (es : List Event) (leads : v ≡ world_after w es) (at : IsLookedAt digest r v l.node mid bs) where
  abbrev process_of : Node → Bool → Process
  process_of n up = record { node = n; up = up }

  process_stays : (x : ℕ) → IsNode r.header.nodes x → (l.node ≡ x → ⊥) → process v x ≡ process w x
  process_stays x among apart =
      (world_is digest r mid v after on_next).processes x among
      ∙ (ap (λ (ents : List Entry). process_of (after_entries (new_node r.header x) ents) (is_any ents)) (ap (entries_of x) one_more ∙ entries_there on.taken l x apart)
      ∙ sym ((world_is digest r heads w before on).processes x among))

  abbrev Has : ℕ → Type 0
  Has y = (IsAmong y (receivers_after (length w.net) v.net) × (is_waiting r.lines (head_of bs y) ≡ true)) ⊎ HasWay digest r v y (head_of bs y)

  pub ways_behind : HaveWaysBut digest r v bs (receivers_after (length w.net) v.net)
  ways_behind x among = ⊎_elim here there (cases_eq l.node x) where
    news : IsLater w v
    news = subst (IsLater w) (sym leads) (net_after w es)

    receivers_are : receivers_after (length w.net) v.net ≡ map (λ m. m.to) news.0
    receivers_are = ap (λ (ms : List Message). map (λ m. m.to) (drop (length w.net) ms)) news.1 ∙ ap (map (λ m. m.to)) (behind_all w.net news.0)

    here : l.node ≡ x → Has x
    here same = inr (subst (λ (y : ℕ). HasWay digest r v y (head_of bs y)) same (looked_here digest r v l.node mid bs at (is.0, omega (arith, is.1, on_next.heads_are.all))))

    there : (l.node ≡ x → ⊥) → Has x
    there apart =
        let others : x - 1 ≢ l.node - 1 = λ e. apart (omega (arith, e, is.0, among.0)) in
        let stays : head_of bs x ≡ head_of heads x =
        looked_there digest r v l.node mid bs at x is.0 among.0 apart
        ∙ (ap (λ (hs : List Head). head_of hs x) moved ∙ get_or-set_other heads (l.node - 1) (x - 1) h no_head others) in
        let same : process v x ≡ process w x = process_stays x among apart in
        let later = way_later digest r.header.nodes w v x news.0 (ap (λ (p : Process). p.node) same) (ap (λ (p : Process). p.up) same) news.1 (slice_get r.lines (head_of heads x).place) (head_of heads x).way (way_of_head digest r w heads before on ways x among) in
        subst (λ (k : Head). (IsAmong x (receivers_after (length w.net) v.net) × (is_waiting r.lines k ≡ true)) ⊎ HasWay digest r v x k) (sym stays)
        (subst (λ (ys : List ℕ). (IsAmong x ys × (is_waiting r.lines (head_of heads x) ≡ true)) ⊎ HasWay digest r v x (head_of heads x)) (sym receivers_are) later)
