-- A merge goes on by one line.
use Rattle.std.proofs.Common.{◌≡◌, ◌≢◌, ℕ, zero, suc, ◌+◌, ◌-◌, ◌<◌, ◌≤◌, Bool, true, false, ◌==◌, if◌then◌else◌, Some, List, [], ◌∷◌, ◌++◌, inl, inr, ⊎_elim, length, take, drop, slice_get, slice_set, get_or, refl, ap, sym, subst, ◌∙◌, arith, length-append, length-drop}
use Rattle.std.proofs.Math.ListN.{length-set}
use Rattle.std.proofs.lemmas.Bool.{cases_Bool, cases_eq, eqb-true}
use Rattle.std.proofs.lemmas.List.{drop-drop, get_or-set_same, get_or-set_other}
use Rattle.std.proofs.lemmas.Option.{slice_get_within}
use Rattle.oc_base.specs.Lawful.{IsNode}
use Rattle.oc_model.specs.declared.event.Event.{Event}
use Rattle.oc_model.specs.NextWorld.{next_world, world_after}
use Rattle.oc_model.specs.Node.{Node}
use Rattle.oc_model.specs.World.{World, new_world}
use Rattle.oc_laws_world.specs.Merges.{Line, entries_of, is_any, AreEventsOf, IsScheduleOf}
use Rattle.oc_laws_world.proofs.MergeLists.{any_last, entries_here, entries_there}
use Rattle.oc_laws_world.proofs.Merged.{schedule_more}
use Rattle.oc_laws_world.proofs.Takings.{order_more}
use Rattle.oc_merge.specs.declared.choosing.Choice.{Choice}
use Rattle.oc_merge.specs.declared.heads.Head.{Head}
use Rattle.oc_merge.specs.declared.told.ToldLine.{ToldLine}
use Rattle.oc_merge.specs.Heads.{IsChosen, IsHeadOf, IsOnTheWay, IsTaken, before_own, head_of, lines_left, no_head}
use Rattle.oc_merge.specs.Merging.{DeliverFirst}
use Rattle.oc_merge.specs.Recorded.{entry_of, line_of, own_told, recorded}
use Rattle.oc_merge.specs.Records.{AreRecords}
use Rattle.oc_merge.specs.Told.{Records}
use Rattle.oc_merge.proofs.Chosen.{first_here, is_line, own_count}
use Rattle.oc_merge.proofs.Fronts.{drop_at_place}
use Rattle.oc_merge.proofs.Own.{own_first}

-- The next line of a node

before_here : (x : ℕ) (l : ToldLine) (ls : List ToldLine) → (l.node == x) ≡ true → before_own x (l ∷ ls) ≡ 0
before_here x l ls e = ap (λ b. if b then 0 else suc (before_own x ls)) e

before_later : (x : ℕ) (l : ToldLine) (ls : List ToldLine) → (l.node == x) ≡ false → before_own x (l ∷ ls) ≡ suc (before_own x ls)
before_later x l ls e = ap (λ b. if b then 0 else suc (before_own x ls)) e

own_skip : (x : ℕ) (l : ToldLine) (ls : List ToldLine) → (l.node == x) ≡ false → own_told x (l ∷ ls) ≡ own_told x ls
own_skip x l ls e = ap (λ b. if b then l.told ∷ own_told x ls else own_told x ls) e

pub before_within : (x : ℕ) (ls : List ToldLine) → before_own x ls ≤ length ls
before_within x [] = omega arith
before_within x (l ∷ ls) = elim (cases_Bool (l.node == x)) [
  | inl same ↦ omega (arith, before_here x l ls same)
  | inr other ↦ omega (arith, before_later x l ls other, before_within x ls)
]

-- at the next line none comes before
pub before_none : (x : ℕ) (ls : List ToldLine) → before_own x (drop (before_own x ls) ls) ≡ 0
before_none x [] = refl
before_none x (l ∷ ls) = elim (cases_Bool (l.node == x)) [
  | inl same ↦ ap (λ n. before_own x (drop n (l ∷ ls))) (before_here x l ls same) ∙ before_here x l ls same
  | inr other ↦ ap (λ n. before_own x (drop n (l ∷ ls))) (before_later x l ls other) ∙ before_none x ls
]

-- no line of x is on the way
pub own_none : (x : ℕ) (ls : List ToldLine) → own_told x (take (before_own x ls) ls) ≡ []
own_none x [] = refl
own_none x (l ∷ ls) = elim (cases_Bool (l.node == x)) [
  | inl same ↦ ap (λ n. own_told x (take n (l ∷ ls))) (before_here x l ls same)
  | inr other ↦ ap (λ n. own_told x (take n (l ∷ ls))) (before_later x l ls other) ∙ (own_skip x l (take (before_own x ls) ls) other ∙ own_none x ls)
]

-- a line of x is one more
count_on : (x : ℕ) (ls : List ToldLine) (p n : ℕ) (l : ToldLine) → slice_get ls p ≡ Some l → l.node ≡ x → n ≡ p + 1 + before_own x (drop (suc p) ls)
    → length (own_told x (take n ls)) ≡ length (own_told x (take p ls)) + 1
count_on x [] p n l at is on = absurd (cc at)
count_on x (k ∷ ks) zero n l at is on =
    let long : n ≡ suc (before_own x ks) = omega (arith, on) in
    let same : k ≡ l = cc at in
    let own : k.node ≡ x = ap (λ (j : ToldLine). j.node) same ∙ is in
    ap (λ i. length (own_told x (take i (k ∷ ks)))) long
    ∙ (ap length (own_first x k (take (before_own x ks) ks) own)
    ∙ ap (λ ts. length (k.told ∷ ts)) (own_none x ks))
count_on x (k ∷ ks) (suc p) n l at is on =
    let m : ℕ = p + 1 + before_own x (drop (suc p) ks) in
    let long : n ≡ suc m = omega (arith, on) in
    ap (λ i. length (own_told x (take i (k ∷ ks)))) long ∙ by_test (k.node == x) m (count_on x ks p m l at is refl) where
      by_test : (b : Bool) (m : ℕ) → length (own_told x (take m ks)) ≡ length (own_told x (take p ks)) + 1
          → length (if b then k.told ∷ own_told x (take m ks) else own_told x (take m ks)) ≡ length (if b then k.told ∷ own_told x (take p ks) else own_told x (take p ks)) + 1
      by_test true m e = omega (arith, e)
      by_test false m e = e

-- the node of a line at a head
pub node_at_head : (x : ℕ) (ls : List ToldLine) (p : ℕ) (l : ToldLine) → before_own x (drop p ls) ≡ 0 → slice_get ls p ≡ Some l → l.node ≡ x
node_at_head x ls p l own at = elim (cases_Bool (l.node == x)) [
  | inl same ↦ eqb-true l.node x same
  | inr other ↦
      let more : suc (before_own x (drop (suc p) ls)) ≡ 0 = sym (ap (before_own x) (drop_at_place ls p l at) ∙ before_later x l (drop (suc p) ls) other) ∙ own in
      absurd (cc more)
]

-- Events

world_on : (w : World) (first rest : List Event) → world_after w (first ++ rest) ≡ world_after (world_after w first) rest
world_on w [] rest = refl
world_on w (e ∷ es) rest = world_on (next_world w e) es rest

least_on : (w : World) (first rest : List Event) → DeliverFirst w first → DeliverFirst (world_after w first) rest → DeliverFirst w (first ++ rest)
least_on w [] rest a b = b
least_on w (e ∷ es) rest a b = (a.0, least_on (next_world w e) es rest a.1 b)

-- Heads

pub head_on : (nodes x : ℕ) (ls : List ToldLine) (taken : List Line) (l : ToldLine) (p : ℕ) (h : Head) → slice_get ls p ≡ Some l → l.node ≡ x
    → length (own_told x (take p ls)) ≡ length (entries_of x taken) → h.place ≡ p + 1 + before_own x (drop (suc p) ls) → h.started ≡ true → IsHeadOf ls (taken ++ line_of nodes l ∷ []) x h
head_on nodes x ls taken l p h at is count on begun = record {
  within = omega (arith, on, before_within x (drop (suc p) ls), length-drop (suc p) ls, slice_get_within ls p l at);
  own = ap (λ n. before_own x (drop n ls)) place ∙ (sym (ap (before_own x) (drop-drop (before_own x (drop (suc p) ls)) (suc p) ls)) ∙ before_none x (drop (suc p) ls));
  count = count_on x ls p h.place l at is on ∙ (ap (λ n. n + 1) count ∙ sym longer);
  started = begun ∙ sym (ap is_any here ∙ any_last (entries_of x taken) (entry_of nodes l.told));
} where
  place : h.place ≡ suc p + before_own x (drop (suc p) ls)
  place = omega (arith, on)

  here : entries_of x (taken ++ line_of nodes l ∷ []) ≡ entries_of x taken ++ entry_of nodes l.told ∷ []
  here = subst (λ (y : ℕ). entries_of y (taken ++ line_of nodes l ∷ []) ≡ entries_of y taken ++ entry_of nodes l.told ∷ []) is (entries_here taken (line_of nodes l))

  longer : length (entries_of x (taken ++ line_of nodes l ∷ [])) ≡ length (entries_of x taken) + 1
  longer = ap length here ∙ length-append (entries_of x taken) (entry_of nodes l.told ∷ [])

-- the head of another node stays
head_stays : (x : ℕ) (ls : List ToldLine) (taken : List Line) (l : Line) (h : Head) → (l.node ≡ x → ⊥) → IsHeadOf ls taken x h → IsHeadOf ls (taken ++ l ∷ []) x h
head_stays x ls taken l h apart is = record {
  within = is.within;
  own = is.own;
  count = is.count ∙ sym (ap length (entries_there taken l x apart));
  started = is.started ∙ sym (ap is_any (entries_there taken l x apart));
}

pub go_on : (digest : Node → List ℕ) (r : Records) (heads : List Head) (w : World) (events : List Event) (on : IsOnTheWay digest r heads w events) → AreRecords r
    → (c : Choice) (chosen : IsChosen digest r w heads (r.header.nodes + 1) c) (h : Head) (v : World) (after : List Event) → IsTaken r.header.nodes w chosen.told v events after
    → h.place ≡ c.place + 1 + before_own chosen.told.node (drop (suc c.place) r.lines) → h.started ≡ true
    → (next : IsOnTheWay digest r (slice_set heads (chosen.told.node - 1) h) v after) × (next.taken ≡ on.taken ++ line_of r.header.nodes chosen.told ∷ [])
go_on digest r heads w events on lawful c chosen h v after t place begun = (
  record {
    taken = on.taken ++ l ∷ [];
    in_order = order_more (recorded digest r) [] on.taken c.place l on.in_order (first_here digest r heads w events on lawful c chosen);
    scheduled = subst (IsScheduleOf (new_world r.header) (on.taken ++ l ∷ [])) (sym t.behind)
        (schedule_more (new_world r.header) on.taken l events t.events on.scheduled (subst (λ (u : World). AreEventsOf u x (entry_of r.header.nodes chosen.told.told) t.events) on.at t.of_line));
    least = subst (DeliverFirst (new_world r.header)) (sym t.behind) (least_on (new_world r.header) events t.events on.least (subst (λ (u : World). DeliverFirst u t.events) on.at t.least));
    at = t.leads ∙ (ap (λ (u : World). world_after u t.events) on.at ∙ (sym (world_on (new_world r.header) events t.events) ∙ ap (world_after (new_world r.header)) (sym t.behind)));
    heads_are = record {
      all = length-set heads (x - 1) h ∙ on.heads_are.all;
      each = each;
    };
  },
  refl,
) where
  x : ℕ
  x = chosen.told.node

  l : Line
  l = line_of r.header.nodes chosen.told

  is : IsNode r.header.nodes x
  is = (is_line digest r heads w events on lawful c chosen).0

  each : (y : ℕ) → IsNode r.header.nodes y → IsHeadOf r.lines (on.taken ++ l ∷ []) y (head_of (slice_set heads (x - 1) h) y)
  each y among = ⊎_elim here there (cases_eq x y) where
    there : (x ≡ y → ⊥) → IsHeadOf r.lines (on.taken ++ l ∷ []) y (head_of (slice_set heads (x - 1) h) y)
    there apart =
        let other : y - 1 ≢ x - 1 = λ e. apart (omega (arith, e, is.0, among.0)) in
        subst (IsHeadOf r.lines (on.taken ++ l ∷ []) y) (sym (get_or-set_other heads (x - 1) (y - 1) h no_head other))
        (head_stays y r.lines on.taken l (head_of heads y) apart (on.heads_are.each y among))

    own : IsHeadOf r.lines (on.taken ++ l ∷ []) x (head_of (slice_set heads (x - 1) h) x)
    own =
        subst (IsHeadOf r.lines (on.taken ++ l ∷ []) x) (sym (get_or-set_same heads (x - 1) h no_head (omega (arith, is.0, is.1, on.heads_are.all))))
        (head_on r.header.nodes x r.lines on.taken chosen.told c.place h chosen.there refl (own_count digest r heads w events on lawful c chosen) place begun)

    here : x ≡ y → IsHeadOf r.lines (on.taken ++ l ∷ []) y (head_of (slice_set heads (x - 1) h) y)
    here same = subst (λ (z : ℕ). IsHeadOf r.lines (on.taken ++ l ∷ []) z (head_of (slice_set heads (x - 1) h) z)) same own

-- Fewer lines are left

left_with : (n : ℕ) (hs : List Head) (i : ℕ) (h : Head) → i < length hs → lines_left n (slice_set hs i h) + (n - (get_or hs i no_head).place) ≡ lines_left n hs + (n - h.place)
left_with n [] i h within = absurd (omega (arith, within))
left_with n (k ∷ ks) zero h within = omega arith
left_with n (k ∷ ks) (suc i) h within = omega (arith, left_with n ks i h (omega (arith, within)))

pub left_fewer : (n : ℕ) (hs : List Head) (i : ℕ) (h : Head) → i < length hs → (get_or hs i no_head).place < n → (get_or hs i no_head).place < h.place → lines_left n (slice_set hs i h) < lines_left n hs
left_fewer n hs i h within before on = omega (arith, left_with n hs i h within, before, on)
