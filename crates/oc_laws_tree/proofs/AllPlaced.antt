-- Step 3 of heal: each node that is not in place, one after another, is put in place.
use Rattle.std.proofs.Common.{◌≡◌, ℕ, ◌+◌, ◌*◌, ◌≤◌, ◌<◌, Bool, true, false, not, ◌==◌, nat_lt, nat_le, if◌then◌else◌, List, [], ◌∷◌, ◌⊎◌, inl, inr, filter, length, refl, ap, sym, subst, ◌∙◌, ⊎_elim, arith, ltb-true, lt-ltb, eqb-true, length-append}
use Rattle.std.proofs.lemmas.Bool.{cases_eq, eqb-false, true≢false, false_from_ne_true, leb-false}
use Rattle.std.proofs.Common.{leb-true}
use Rattle.oc_model.specs.Chains.{IsUp, IsJoined}
use Rattle.oc_model.specs.ClaimsTree.{seq_of}
use Rattle.oc_model.specs.Heal.{up_members, IsPlaced, is_placed, member_before, places_at, places_under, places_if, places}
use Rattle.oc_model.specs.Node.{Header}
use Rattle.oc_model.specs.Numbers.{number_end}
use Rattle.oc_model.specs.Plan.{is_member}
use Rattle.oc_model.specs.Runs.{Run, rests, for_each}
use Rattle.oc_model.specs.World.{World, is_up, ids, up_ids}
use Rattle.oc_model.specs.WorldBounds.{IsOneOf}
use Rattle.oc_model.proofs.Able.{among_up, placed_tested}
use Rattle.oc_model.proofs.Members.{of_filter, in_filter}
use Rattle.oc_laws_world.specs.Ranks.{own_rank}
use Rattle.oc_laws_world.proofs.Lifts.{control_of}
use Rattle.oc_laws_tree.specs.Healing.{PlacesOne, PlacesEach}
use Rattle.oc_laws_tree.proofs.FiveSteps.{up_of}
use Rattle.oc_laws_tree.proofs.LineHolds.{member_of, is_member_of}
use Rattle.oc_laws_tree.proofs.Placing.{IsHealing, IsBefore}
use Rattle.oc_laws_tree.proofs.Reached.{Reached}
use Rattle.oc_laws_tree.proofs.RisingHeals.{IsRising, range_rises, filter_rises, last_in, last_greatest, filter_fewer}
use Rattle.oc_laws_tree.proofs.Spans.{ids_reached, up_id}
use Rattle.oc_laws_tree.proofs.Turn.{CanPut, IsPut, put_at_root, root_placed}
use Rattle.oc_laws_tree.proofs.TurnBelow.{put_under}
use Rattle.oc_model.specs.Heal.{epoch_in}

-- The member before a node

pub up_rises : (h : Header) (w : World) → Reached h w → IsRising (up_ids w)
up_rises h w reached = filter_rises (is_up w) (ids w) (subst IsRising (sym (ids_reached h w reached)) (range_rises 1 h.nodes))

-- a chain member that is up
pub of_members : (h : Header) (w : World) (x : ℕ) → Reached h w → IsOneOf x (up_members w) → IsUp w x × (x ≤ h.chain)
of_members h w x reached one =
    let both = of_filter (λ y. is_member (control_of w y)) (up_ids w) x one in
    let up : IsUp w x = up_of w x both.1 in
    (up, member_of h w x reached (up_id h w x reached up) both.0)

pub in_members : (h : Header) (w : World) (x : ℕ) → Reached h w → IsUp w x → x ≤ h.chain → IsOneOf x (up_members w)
in_members h w x reached up member = in_filter (λ y. is_member (control_of w y)) (up_ids w) x (is_member_of h w x reached (up_id h w x reached up) member) (among_up w x up)

-- p is the greatest chain member that is up and less than x
record IsMemberBefore (h : Header) (w : World) (x p : ℕ) : Type 0 where
  up : IsUp w p
  member : p ≤ h.chain
  less : p < x
  before : IsBefore h w p x

member_is_before : (h : Header) (m x : ℕ) (w : World) → IsHealing h m w → m < x → IsMemberBefore h w x (member_before w m x)
member_is_before h m x w healing past =
    let earlier : List ℕ = filter (λ p. nat_lt p x) (up_members w) in
    let root_in : IsOneOf m earlier = in_filter (λ p. nat_lt p x) (up_members w) m (lt-ltb m x past) (in_members h w m healing.reached healing.root.0 healing.member) in
    let one : IsOneOf (member_before w m x) earlier = last_in m earlier m root_in in
    let both = of_filter (λ p. nat_lt p x) (up_members w) (member_before w m x) one in
    let is = of_members h w (member_before w m x) healing.reached both.1 in
    let rising : IsRising earlier = filter_rises (λ p. nat_lt p x) (up_members w) (filter_rises (λ y. is_member (control_of w y)) (up_ids w) (up_rises h w healing.reached)) in
    record {
      up = is.0;
      member = is.1;
      less = ltb-true (member_before w m x) x both.0;
      before = λ k up member less. last_greatest m earlier k rising (in_filter (λ p. nat_lt p x) (up_members w) k (lt-ltb k x less) (in_members h w k healing.reached up member));
    }

-- One turn

-- the members before x are in place
abbrev AreBefore : Header → ℕ → World → ℕ → Type 0
AreBefore h m w x = (y : ℕ) → IsUp w y → y ≤ h.chain → y < x → IsPlaced w m y

record CanTurn (h : Header) (m : ℕ) (w : World) (x most : ℕ) : Type 0 where
  healing : IsHealing h m w
  short : h.chain ≤ 16
  up : IsUp w x
  all : AreBefore h m w x
  low : (y : ℕ) → IsUp w y → epoch_in (own_rank w y) ≤ most
  room : most + 2 < number_end
  asks : (IsPlaced w m x → ⊥) → seq_of w x + 1 < number_end

-- the effect of the turn of x, whether x was in place or not
record HasTurned (h : Header) (m : ℕ) (w : World) (x most : ℕ) (r : Run) : Type 0 where
  healing : IsHealing h m r.world
  up : (y : ℕ) → is_up r.world y ≡ is_up w y
  one : PlacesOne w m x
  seqs : (y : ℕ) → (seq_of r.world y ≡ seq_of w y) ⊎ ((x ≡ y) × (IsPlaced w m x → ⊥) × (seq_of r.world y ≤ seq_of w y + 2))
  low : (y : ℕ) → IsUp r.world y → epoch_in (own_rank r.world y) ≤ most + 2

past_root : (h : Header) (m x : ℕ) (w : World) → IsHealing h m w → IsUp w x → (x ≡ m → ⊥) → m < x
past_root h m x w healing up other = by_test (nat_le x h.chain) refl where
  by_test : (b : Bool) → nat_le x h.chain ≡ b → m < x
  by_test true e = let least : m ≤ x = healing.least x up (leb-true x h.chain e) in omega (arith, least, other)
  by_test false e = let past : h.chain < x = leb-false x h.chain e in omega (arith, past, healing.member)

-- a node that is in place is passed over
turn_placed : (h : Header) (m : ℕ) (w : World) (x most : ℕ) → CanTurn h m w x most → IsPlaced w m x → HasTurned h m w x most (places m x w)
turn_placed h m w x most can placed =
    let still : places m x w ≡ rests w = ap (λ b. places_if b m x w) ((placed_tested w m x).1 placed) in
    record {
      healing = subst (λ (r : Run). IsHealing h m r.world) (sym still) can.healing;
      up = λ y. ap (λ (r : Run). is_up r.world y) still;
      one = record {
        placed = subst (λ (r : Run). IsPlaced r.world m x) (sym still) placed;
        kept = λ y is. subst (λ (r : Run). IsPlaced r.world m y) (sym still) is;
        parents = λ y p is joins. subst (λ (r : Run). IsJoined r.world y p) (sym still) joins;
        few = omega (arith, ap (λ (r : Run). length r.acts) still);
        none = λ is. ap (λ (r : Run). length r.acts) still;
      };
      seqs = λ y. inl (ap (λ (r : Run). seq_of r.world y) still);
      low = λ y up. subst (λ (r : Run). epoch_in (own_rank r.world y) ≤ most + 2) (sym still)
          (let own : epoch_in (own_rank w y) ≤ most = can.low y (sym (ap (λ (r : Run). is_up r.world y) still) ∙ up) in omega (arith, own));
    }

-- any other node is put under the member before it
turn_unplaced : (h : Header) (m : ℕ) (w : World) (x most : ℕ) → CanTurn h m w x most → (IsPlaced w m x → ⊥) → HasTurned h m w x most (places m x w)
turn_unplaced h m w x most can unplaced =
    let goes : places m x w ≡ places_under m (member_before w m x) x w = ap (λ b. places_if b m x w) (false_from_ne_true (is_placed w m x) (λ e. unplaced ((placed_tested w m x).0 e))) in
    let put : IsPut h m w x most (places m x w) = subst (IsPut h m w x most) (sym goes) (by_host (member_before w m x == m) refl) in
    record {
      healing = put.healing;
      up = put.up;
      one = record {
        placed = put.placed;
        kept = put.kept;
        parents = λ y p is joins. (put.stays y (λ same. unplaced (subst (IsPlaced w m) (sym same) is))).joined p joins;
        few = put.acts;
        none = λ is. absurd (unplaced is);
      };
      seqs = λ y. ⊎_elim
          (λ (same : x ≡ y). inr (same, unplaced, subst (λ (z : ℕ). seq_of (places m x w).world z ≤ seq_of w z + 2) same put.seq))
          (λ apart. inl (put.seqs y apart)) (cases_eq x y);
      low = put.low;
    } where
      other : x ≡ m → ⊥
      other same = unplaced (subst (IsPlaced w m) (sym same) (root_placed w m can.healing.root))

      is : IsMemberBefore h w x (member_before w m x)
      is = member_is_before h m x w can.healing (past_root h m x w can.healing can.up other)

      can_put : CanPut h m w x (member_before w m x) most
      can_put = record {
        healing = can.healing;
        short = can.short;
        up = can.up;
        other = other;
        unplaced = unplaced;
        host = is.up;
        member = is.member;
        less = is.less;
        before = is.before;
        all = can.all;
        low = can.low;
        room = can.room;
        asks = can.asks unplaced;
      }

      by_host : (b : Bool) → (member_before w m x == m) ≡ b → IsPut h m w x most (places_at b m (member_before w m x) x w)
      by_host true e = put_at_root h m w x (member_before w m x) most can_put (eqb-true (member_before w m x) m e)
      by_host false e = put_under h m w x (member_before w m x) most can_put (eqb-false (member_before w m x) m e)

turn : (h : Header) (m : ℕ) (w : World) (x most : ℕ) → CanTurn h m w x most → HasTurned h m w x most (places m x w)
turn h m w x most can = by_test (is_placed w m x) refl where
  by_test : (b : Bool) → is_placed w m x ≡ b → HasTurned h m w x most (places m x w)
  by_test true e = turn_placed h m w x most can ((placed_tested w m x).0 e)
  by_test false e = turn_unplaced h m w x most can (λ is. true≢false (sym ((placed_tested w m x).1 is) ∙ e))

-- All turns

-- chain members are placed in their order
abbrev pub IsInOrder : Header → List ℕ → Type 0
IsInOrder h [] = Unit {0}
IsInOrder h (x ∷ xs) = ((q : ℕ) → IsOneOf q xs → q ≤ h.chain → x < q) × IsInOrder h xs

-- the world before the turns of these nodes: all other nodes that are up are in place, and since w0 only nodes in place have
-- asked, at most twice
pub record CanPlace (h : Header) (m : ℕ) (w0 : World) (xs : List ℕ) (most : ℕ) (w : World) : Type 0 where
  pub healing : IsHealing h m w
  pub short : h.chain ≤ 16
  pub order : IsInOrder h xs
  pub up : (x : ℕ) → IsOneOf x xs → IsUp w x
  pub others : (y : ℕ) → IsUp w y → IsOneOf y xs ⊎ IsPlaced w m y
  pub asked : (y : ℕ) → (seq_of w y ≡ seq_of w0 y) ⊎ (IsPlaced w m y × (seq_of w y ≤ seq_of w0 y + 2))
  pub low : (y : ℕ) → IsUp w y → epoch_in (own_rank w y) ≤ most
  pub room : most + 2 * length xs < number_end
  pub asks : (y : ℕ) → IsUp w y → seq_of w0 y + 1 < number_end

-- the world after the turns of these nodes
pub record HasPlaced (h : Header) (m : ℕ) (w0 : World) (xs : List ℕ) (w : World) (r : Run) : Type 0 where
  pub healing : IsHealing h m r.world
  pub up : (y : ℕ) → is_up r.world y ≡ is_up w y
  pub each : PlacesEach w m xs
  pub all : (y : ℕ) → IsUp r.world y → IsPlaced r.world m y
  pub asked : (y : ℕ) → seq_of r.world y ≤ seq_of w0 y + 2
  pub acts : length r.acts ≤ 51 * length (filter (λ x. not (is_placed w m x)) xs)

-- the first and the last of three equal numbers are equal
both_same : (s t u : ℕ) → s ≡ t → t ≡ u → s ≡ u
both_same s t u later before = later ∙ before

-- nodes stay up or down throughout
up_through : (u v w : World) → ((y : ℕ) → is_up u y ≡ is_up v y) → ((y : ℕ) → is_up v y ≡ is_up w y) → (y : ℕ) → is_up u y ≡ is_up w y
up_through u v w after before y = after y ∙ before y

pub places_all : (h : Header) (m : ℕ) (w0 : World) (xs : List ℕ) (most : ℕ) (w : World) → CanPlace h m w0 xs most w → HasPlaced h m w0 xs w (for_each xs (places m) w)
places_all h m w0 [] most w can = record {
  healing = can.healing;
  up = λ y. refl;
  each = tt;
  all = λ y up. ⊎_elim (λ none. absurd none) (λ placed. placed) (can.others y up);
  asked = λ y. ⊎_elim (λ same. omega (arith, same)) (λ asked. asked.1) (can.asked y);
  acts = omega arith;
}
places_all h m w0 (x ∷ xs) most w can =
    let up : IsUp w x = can.up x (inl refl) in
    let can_turn : CanTurn h m w x most = record {
      healing = can.healing;
      short = can.short;
      up = up;
      all = λ y is_up member less. ⊎_elim
          (λ one. absurd (⊎_elim (λ (same : y ≡ x). omega (arith, same, less)) (λ later. let more : x < y = can.order.0 y later member in omega (arith, more, less)) one))
          (λ placed. placed) (can.others y is_up);
      low = can.low;
      room = omega (arith, can.room);
      asks = λ unplaced. ⊎_elim (λ same. let more : seq_of w0 x + 1 < number_end = can.asks x up in omega (arith, same, more)) (λ asked. absurd (unplaced asked.0)) (can.asked x);
    } in
    let first : HasTurned h m w x most (places m x w) = turn h m w x most can_turn in
    let v : World = (places m x w).world in
    let rest : HasPlaced h m w0 xs v (for_each xs (places m) v) = places_all h m w0 xs (most + 2) v record {
      healing = first.healing;
      short = can.short;
      order = can.order.1;
      up = λ y one. first.up y ∙ can.up y (inr one);
      others = λ y is_up. ⊎_elim
          (λ one. ⊎_elim (λ (same : y ≡ x). inr (subst (IsPlaced v m) (sym same) first.one.placed)) (λ later. inl later) one)
          (λ placed. inr (first.one.kept y placed)) (can.others y (sym (first.up y) ∙ is_up));
      asked = λ y. ⊎_elim
          (λ same. ⊎_elim (λ still. inl (both_same (seq_of v y) (seq_of w y) (seq_of w0 y) same still)) (λ (asked : IsPlaced w m y × (seq_of w y ≤ seq_of w0 y + 2)). inr (first.one.kept y asked.0, subst (λ (s : ℕ). s ≤ seq_of w0 y + 2) (sym same) asked.1)) (can.asked y))
          (λ (here : (x ≡ y) × (IsPlaced w m x → ⊥) × (seq_of v y ≤ seq_of w y + 2)). ⊎_elim
          (λ still. inr (subst (IsPlaced v m) here.0 first.one.placed, omega (arith, here.2, still)))
          (λ asked. absurd (here.1 (subst (IsPlaced w m) (sym here.0) asked.0))) (can.asked y))
          (first.seqs y);
      low = first.low;
      room = omega (arith, can.room);
      asks = λ y is_up. can.asks y (sym (first.up y) ∙ is_up);
    } in
    record {
      healing = rest.healing;
      up = up_through (for_each xs (places m) v).world v w rest.up first.up;
      each = (first.one, rest.each);
      all = rest.all;
      asked = rest.asked;
      acts = omega (
        arith,
        length-append (places m x w).acts (for_each xs (places m) v).acts,
        rest.acts,
        counted (is_placed w m x) refl first.one,
        filter_fewer (λ y. not (is_placed v m y)) (λ y. not (is_placed w m y)) xs (λ y loose. still_loose y first.one loose),
      );
    } where
      -- the turn of x takes at most 51 acts, and none if x is in place
      counted : (b : Bool) → is_placed w m x ≡ b → PlacesOne w m x → length (places m x w).acts + 51 * length (filter (λ y. not (is_placed w m y)) xs) ≤ 51 * length (if not b then x ∷ filter (λ y. not (is_placed w m y)) xs else filter (λ y. not (is_placed w m y)) xs)
      counted true e one = let none : length (places m x w).acts ≡ 0 = one.none ((placed_tested w m x).0 e) in omega (arith, none)
      counted false e one = omega (arith, one.few)

      -- a node that is not in place after the turn was not in place before
      still_loose : (y : ℕ) → PlacesOne w m x → not (is_placed (places m x w).world m y) ≡ true → not (is_placed w m y) ≡ true
      still_loose y one loose = by_test (is_placed w m y) refl where
        by_test : (b : Bool) → is_placed w m y ≡ b → not b ≡ true
        by_test false e = refl
        by_test true e =
            let later : is_placed (places m x w).world m y ≡ true = (placed_tested (places m x w).world m y).1 (one.kept y ((placed_tested w m y).0 e)) in
            let clash : false ≡ true = sym (ap not later) ∙ loose in
            absurd cc
