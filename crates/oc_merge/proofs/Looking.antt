-- Heads that differ in their ways alone, and the ways that heads keep while others go on.
use Rattle.std.proofs.Common.{◌≡◌, ◌≢◌, ℕ, zero, suc, ◌+◌, ◌-◌, ◌<◌, ◌≤◌, true, false, ◌&&◌, Option, Some, None, is_none, List, [], ◌∷◌, ◌++◌, ◌⊎◌, inl, inr, ⊎_elim, length, map, take, drop, slice_get, slice_set, get_or, refl, ap, sym, subst, ◌∙◌, arith}
use Rattle.std.proofs.lemmas.Bool.{cases_eq}
use Rattle.std.proofs.lemmas.List.{get_or-set_same, get_or-set_other, length-map}
use Rattle.oc_base.specs.Lawful.{IsNode}
use Rattle.oc_laws_world.proofs.Listed.{among_either}
use Rattle.oc_laws_world.specs.Merges.{Line}
use Rattle.oc_model.specs.declared.event.Event.{Event}
use Rattle.oc_model.specs.declared.message.Message.{Message}
use Rattle.oc_model.specs.Node.{Node}
use Rattle.oc_model.specs.Numbers.{IsAmong}
use Rattle.oc_model.specs.World.{World, is_up, message_at, node}
use Rattle.oc_merge.specs.declared.heads.Head.{Head}
use Rattle.oc_merge.specs.declared.told.Told.{Told}
use Rattle.oc_merge.specs.declared.told.Told.TheVariants.{Started, Came, Took}
use Rattle.oc_merge.specs.declared.told.ToldLine.{ToldLine}
use Rattle.oc_merge.specs.declared.way.Way.{Way}
use Rattle.oc_merge.specs.declared.way.Way.TheVariants.{Start, Number, Input}
use Rattle.oc_merge.specs.Heads.{before_own, AreHeads, AreHeadsIn, AreSamePlaces, CanGo, HasWay, HaveWaysBut, IsHeadOf, IsLookedAt, IsOnTheWay, IsWay, IsWayAt, LooksAgain, head_of, is_message_there, is_waiting, lines_left, no_head, placed, receivers_after}
use Rattle.oc_merge.specs.Merging.{IsFirstOf}
use Rattle.oc_merge.specs.Recorded.{are_files, message_of, own_told}
use Rattle.oc_merge.specs.Told.{Records}

-- The same places

placed_at : (hs : List Head) (i : ℕ) → get_or (map placed hs) i no_head ≡ placed (get_or hs i no_head)
placed_at [] zero = refl
placed_at [] (suc i) = refl
placed_at (h ∷ hs) zero = refl
placed_at (h ∷ hs) (suc i) = placed_at hs i

module _ (hs bs : List Head) (same : AreSamePlaces hs bs) where
  same_at : (i : ℕ) → placed (get_or bs i no_head) ≡ placed (get_or hs i no_head)
  same_at i = sym (placed_at bs i) ∙ (ap (λ (js : List Head). get_or js i no_head) same ∙ placed_at hs i)

  pub same_place : (i : ℕ) → (get_or bs i no_head).place ≡ (get_or hs i no_head).place
  same_place i = ap (λ (h : Head). h.place) (same_at i)

  pub same_started : (i : ℕ) → (get_or bs i no_head).started ≡ (get_or hs i no_head).started
  same_started i = ap (λ (h : Head). h.started) (same_at i)

  pub same_length : length bs ≡ length hs
  same_length = sym (length-map bs placed) ∙ (ap length same ∙ length-map hs placed)

  pub same_heads : (nodes : ℕ) (lines : List ToldLine) (taken : List Line) → AreHeads nodes lines taken hs → AreHeads nodes lines taken bs
  same_heads nodes lines taken are = record { all = same_length ∙ are.all; each = each } where
    each : (x : ℕ) → IsNode nodes x → IsHeadOf lines taken x (head_of bs x)
    each x is =
        let h : IsHeadOf lines taken x (head_of hs x) = are.each x is in
        let e : (head_of bs x).place ≡ (head_of hs x).place = same_place (x - 1) in
        record {
          within = omega (arith, e, h.within);
          own = ap (λ p. before_own x (drop p lines)) e ∙ h.own;
          count = ap (λ p. length (own_told x (take p lines))) e ∙ h.count;
          started = same_started (x - 1) ∙ h.started;
        }

  pub same_on : (digest : Node → List ℕ) (r : Records) (w : World) (events : List Event) → IsOnTheWay digest r hs w events → IsOnTheWay digest r bs w events
  same_on digest r w events on = record {
    taken = on.taken;
    in_order = on.in_order;
    scheduled = on.scheduled;
    least = on.least;
    at = on.at;
    heads_are = same_heads r.header.nodes r.lines on.taken on.heads_are;
  }

  pub same_in : (w : World) (r : Records) → AreHeadsIn w r hs → AreHeadsIn w r bs
  same_in w r are = record {
    ids_are = are.ids_are;
    all = same_length ∙ are.all;
    own = λ x is l at. are.own x is l (sym (ap (slice_get r.lines) (same_place (x - 1))) ∙ at);
    started = λ x is. same_started (x - 1) ∙ are.started x is;
  }

left_placed : (n : ℕ) (hs : List Head) → lines_left n (map placed hs) ≡ lines_left n hs
left_placed n [] = refl
left_placed n (h ∷ hs) = ap (λ k. (n - h.place) + k) (left_placed n hs)

pub same_left : (hs bs : List Head) (n : ℕ) → AreSamePlaces hs bs → lines_left n bs ≡ lines_left n hs
same_left hs bs n same = sym (left_placed n bs) ∙ (ap (lines_left n) same ∙ left_placed n hs)

pub same_along : (hs bs ks : List Head) → AreSamePlaces hs bs → AreSamePlaces bs ks → AreSamePlaces hs ks
same_along hs bs ks first second = second ∙ first

set_placed : (hs : List Head) (i : ℕ) (way : Option Way) → map placed (slice_set hs i (record (get_or hs i no_head) { way = way })) ≡ map placed hs
set_placed [] zero way = refl
set_placed [] (suc i) way = refl
set_placed (h ∷ hs) zero way = refl
set_placed (h ∷ hs) (suc i) way = ap (λ ks. placed h ∷ ks) (set_placed hs i way)

-- Heads that are looked at

module _ (digest : Node → List ℕ) (r : Records) (w : World) (x : ℕ) (hs bs : List Head) where
  pub looked_same : IsLookedAt digest r w x hs bs → AreSamePlaces hs bs
  looked_same at = ap (map placed) at.after_is ∙ set_placed hs (x - 1) at.way

  pub looked_here : IsLookedAt digest r w x hs bs → IsNode (length hs) x → HasWay digest r w x (head_of bs x)
  looked_here at is =
      let here : head_of bs x ≡ record (head_of hs x) { way = at.way } =
      ap (λ (js : List Head). head_of js x) at.after_is ∙ get_or-set_same hs (x - 1) (record (head_of hs x) { way = at.way }) no_head (omega (arith, is.0, is.1)) in
      subst (HasWay digest r w x) (sym here) at.is

  pub looked_there : IsLookedAt digest r w x hs bs → (y : ℕ) → 1 ≤ x → 1 ≤ y → (x ≡ y → ⊥) → head_of bs y ≡ head_of hs y
  looked_there at y some other apart =
      let others : y - 1 ≢ x - 1 = λ e. apart (omega (arith, e, some, other)) in
      ap (λ (js : List Head). head_of js y) at.after_is ∙ get_or-set_other hs (x - 1) (y - 1) (record (head_of hs x) { way = at.way }) no_head others

  pub again_same : LooksAgain digest r w x hs bs → AreSamePlaces hs bs
  again_same (inl at) = looked_same at
  again_same (inr still) = ap (map placed) still.1

  looked_but : IsLookedAt digest r w x hs bs → IsNode r.header.nodes x → length hs ≡ r.header.nodes → (pending : List ℕ) → HaveWaysBut digest r w hs (x ∷ pending) → HaveWaysBut digest r w bs pending
  looked_but at is all pending but y among = ⊎_elim here there (cases_eq x y) where
    here : x ≡ y → (IsAmong y pending × (is_waiting r.lines (head_of bs y) ≡ true)) ⊎ HasWay digest r w y (head_of bs y)
    here same = inr (subst (λ (z : ℕ). HasWay digest r w z (head_of bs z)) same (looked_here at (is.0, omega (arith, is.1, all))))

    there : (x ≡ y → ⊥) → (IsAmong y pending × (is_waiting r.lines (head_of bs y) ≡ true)) ⊎ HasWay digest r w y (head_of bs y)
    there apart =
        let still : head_of bs y ≡ head_of hs y = looked_there at y is.0 among.0 apart in
        subst (λ (h : Head). (IsAmong y pending × (is_waiting r.lines h ≡ true)) ⊎ HasWay digest r w y h) (sym still)
        (⊎_elim (λ waits. ⊎_elim (λ (e : x ≡ y). absurd (apart e)) (λ later. inl (later, waits.1)) waits.0) (λ has. inr has) (but y among))

  still_but : is_waiting r.lines (head_of hs x) ≡ false → (pending : List ℕ) → HaveWaysBut digest r w hs (x ∷ pending) → HaveWaysBut digest r w hs pending
  still_but still pending but y among = ⊎_elim (λ waits. ⊎_elim (λ (e : x ≡ y). absurd (never e waits.1)) (λ later. inl (later, waits.1)) waits.0) (λ has. inr has) (but y among) where
    never : x ≡ y → is_waiting r.lines (head_of hs y) ≡ true → ⊥
    never e waits =
        let no : false ≡ true = sym still ∙ (ap (λ (z : ℕ). is_waiting r.lines (head_of hs z)) e ∙ waits) in
        cc no

  pub again_but : LooksAgain digest r w x hs bs → IsNode r.header.nodes x → length hs ≡ r.header.nodes → (pending : List ℕ) → HaveWaysBut digest r w hs (x ∷ pending) → HaveWaysBut digest r w bs pending
  again_but (inl at) is all pending but = looked_but at is all pending but
  again_but (inr still) is all pending but = subst (λ (js : List Head). HaveWaysBut digest r w js pending) (sym still.1) (still_but still.0 pending but)

-- Messages after others

get_longer : (ms news : List Message) (k : ℕ) (m : Message) → slice_get ms k ≡ Some m → slice_get (ms ++ news) k ≡ Some m
get_longer [] news k m at = absurd (cc at)
get_longer (n ∷ ns) news zero m at = at
get_longer (n ∷ ns) news (suc k) m at = get_longer ns news k m at

get_before : (ms news : List Message) (j k : ℕ) (m : Message) → slice_get ms k ≡ Some m → j < k → slice_get (ms ++ news) j ≡ slice_get ms j
get_before [] news j k m at less = absurd (cc at)
get_before (n ∷ ns) news j zero m at less = absurd (omega (arith, less))
get_before (n ∷ ns) news zero (suc k) m at less = refl
get_before (n ∷ ns) news (suc j) (suc k) m at less = get_before ns news j k m at (omega (arith, less))

at_longer : (ms news : List Message) (k : ℕ) (m : Message) → message_at ms k ≡ Some m → message_at (ms ++ news) k ≡ Some m
at_longer ms news zero m at = absurd (cc at)
at_longer ms news (suc k) m at = get_longer ms news k m at

at_before : (ms news : List Message) (j k : ℕ) (m : Message) → message_at ms k ≡ Some m → j < k → message_at (ms ++ news) j ≡ message_at ms j
at_before ms news j zero m at less = absurd (cc at)
at_before ms news zero (suc k) m at less = refl
at_before ms news (suc j) (suc k) m at less = get_before ms news j k m at (omega (arith, less))

first_longer : (ms news : List Message) (k : ℕ) (m : Message) → message_at ms k ≡ Some m → IsFirstOf ms k → IsFirstOf (ms ++ news) k
first_longer ms news k m at first j less same =
    first j less (sym (at_before ms news j k m at less) ∙ (same ∙ (at_longer ms news k m at ∙ sym at)))

among_front : (m : Message) (ms news : List Message) → IsAmong m ms → IsAmong m (ms ++ news)
among_front m [] news h = absurd h
among_front m (n ∷ ns) news (inl same) = inl same
among_front m (n ∷ ns) news (inr later) = inr (among_front m ns news later)

-- whether x is one of these
among_or_not : (x : ℕ) (ys : List ℕ) → IsAmong x ys ⊎ (IsAmong x ys → ⊥)
among_or_not x [] = inr (λ h. h)
among_or_not x (y ∷ ys) = ⊎_elim (λ (same : y ≡ x). inl (inl same)) (λ apart. ⊎_elim (λ later. inl (inr later)) (λ none. inr (λ h. ⊎_elim apart none h)) (among_or_not x ys)) (cases_eq y x)

receiver_among : (m : Message) (ms : List Message) → IsAmong m ms → IsAmong m.to (map (λ k. k.to) ms)
receiver_among m [] h = absurd h
receiver_among m (k ∷ ks) (inl same) = inl (ap (λ (n : Message). n.to) same)
receiver_among m (k ∷ ks) (inr later) = inr (receiver_among m ks later)

-- Ways that stay

module _ (digest : Node → List ℕ) (nodes : ℕ) (w v : World) (x : ℕ) (news : List Message) (same_node : node v x ≡ node w x) (same_up : is_up v x ≡ is_up w x) (grown : v.net ≡ w.net ++ news) where
  -- the statements that can be taken stay the same if no new message is for x
  came_before : (bytes : List ℕ) → (IsAmong x (map (λ m. m.to) news) → ⊥) → CanGo digest nodes v x (Came bytes) → CanGo digest nodes w x (Came bytes)
  came_before bytes none can = (sym same_up ∙ can.0, can.1, ⊎_elim (λ before. before) (λ now. absurd (none (subst (λ (y : ℕ). IsAmong y (map (λ m. m.to) news)) can.1 (receiver_among (message_of nodes bytes) news now)))) (among_either (message_of nodes bytes) w.net news (subst (IsAmong (message_of nodes bytes)) grown can.2)))

  abbrev Later : Option Way → Option ToldLine → Type 0
  Later way o = (IsAmong x (map (λ m. m.to) news) × (is_none way && is_message_there o ≡ true)) ⊎ IsWayAt digest nodes v x o way

  told_later : (i : ℕ) (y : ℕ) (t : Told) (way : Option Way) → IsWay digest nodes w x t way → Later way (Some (record { number = i; node = y; told = t }))
  told_later i y (Started files) None is = inr (λ can. is (subst (λ n. are_files digest files n ≡ true) same_node can))
  told_later i y (Started files) (Some Start) is = inr (subst (λ n. are_files digest files n ≡ true) (sym same_node) is)
  told_later i y (Started files) (Some (Number k)) is = absurd is
  told_later i y (Started files) (Some Input) is = absurd is
  told_later i y (Came bytes) None is = ⊎_elim (λ among. inl (among, refl)) (λ none. inr (λ can. is (came_before bytes none can))) (among_or_not x (map (λ m. m.to) news))
  told_later i y (Came bytes) (Some Start) is = absurd is
  told_later i y (Came bytes) (Some (Number k)) is = inr (
    (same_up ∙ is.0.0, is.0.1, subst (IsAmong (message_of nodes bytes)) (sym grown) (among_front (message_of nodes bytes) w.net news is.0.2)),
    (
      ap (λ (ms : List Message). message_at ms k) grown ∙ at_longer w.net news k (message_of nodes bytes) is.1.0,
      subst (λ (ms : List Message). IsFirstOf ms k) (sym grown) (first_longer w.net news k (message_of nodes bytes) is.1.0 is.1.1),
    ),
  )
  told_later i y (Came bytes) (Some Input) is = absurd is
  told_later i y (Took input) None is = inr (λ can. is (sym same_up ∙ can))
  told_later i y (Took input) (Some Start) is = absurd is
  told_later i y (Took input) (Some (Number k)) is = absurd is
  told_later i y (Took input) (Some Input) is = inr (same_up ∙ is)

  pub way_later : (o : Option ToldLine) (way : Option Way) → IsWayAt digest nodes w x o way → Later way o
  way_later None way is = inr is
  way_later (Some l) way is = told_later l.number l.node l.told way is

-- Receivers

receivers_suc : (net : List Message) (k to : ℕ) → k < length net → ((m : Message) → slice_get net k ≡ Some m → m.to ≡ to) → map (λ m. m.to) (drop k net) ≡ to ∷ map (λ m. m.to) (drop (suc k) net)
receivers_suc [] k to within all = absurd (omega (arith, within))
receivers_suc (m ∷ ms) zero to within all = ap (λ y. y ∷ map (λ k. k.to) ms) (all m refl)
receivers_suc (m ∷ ms) (suc k) to within all = receivers_suc ms k to (omega (arith, within)) all

-- the next of those to whom messages are
pub receivers_more : (net : List Message) (k to : ℕ) → k < length net → ((m : Message) → message_at net (k + 1) ≡ Some m → m.to ≡ to) → receivers_after k net ≡ to ∷ receivers_after (k + 1) net
receivers_more net k to within all =
    let index : k + 1 ≡ suc k = omega arith in
    receivers_suc net k to within (λ m there. all m (ap (message_at net) index ∙ there)) ∙ ap (λ q. to ∷ map (λ m. m.to) (drop q net)) (sym index)

-- one receiver is looked at
pub receiver_on : (digest : Node → List ℕ) (r : Records) (w : World) (hs bs : List Head) (k to : ℕ) → k < length w.net → ((m : Message) → message_at w.net (k + 1) ≡ Some m → m.to ≡ to) → LooksAgain digest r w to hs bs → IsNode r.header.nodes to → length hs ≡ r.header.nodes
    → HaveWaysBut digest r w hs (receivers_after k w.net) → HaveWaysBut digest r w bs (receivers_after (k + 1) w.net)
receiver_on digest r w hs bs k to within all again is long but =
    again_but digest r w to hs bs again is long (receivers_after (k + 1) w.net) (subst (HaveWaysBut digest r w hs) (receivers_more w.net k to within all) but)
