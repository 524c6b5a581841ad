-- The ticks of a round in a star, and the whole round.
use Rattle.std.proofs.Common.{◌≡◌, ℕ, ◌+◌, ◌-◌, ◌≤◌, ◌<◌, max, Bool, true, false, not, ◌&&◌, ◌||◌, ◌==◌, nat_le, nat_lt, Option, Some, None, unwrap_or, List, [], ◌∷◌, ◌++◌, ◌⊎◌, inl, inr, length, map, refl, ap, sym, subst, ◌∙◌, ⊎_elim, arith, eqb-true, eq-eqb, length-append, append_assoc, append-nil}
use Rattle.std.specs.List.{AllByRecursion, list_all}
use Rattle.std.proofs.lemmas.Bool.{cases_eq, and_parts, or_cases, le-leb, leb-true, ltb-true, not-true}
use Rattle.std.proofs.lemmas.List.{length-replicate}
use Rattle.oc_base.specs.declared.cert.Cert.{Cert}
use Rattle.oc_model.specs.declared.event.Act.TheVariants.{At}
use Rattle.oc_model.specs.declared.input.Input.TheVariants.{Tick}
use Rattle.oc_model.specs.declared.message.Body.TheVariants.{Look, Ask, CheckIn, Fetch}
use Rattle.oc_model.specs.declared.message.Message.{Message}
use Rattle.oc_model.specs.declared.mode.Mode.TheVariants.{Idle, Acting}
use Rattle.oc_model.specs.Adopting.{birth}
use Rattle.oc_model.specs.Checking.{is_due}
use Rattle.oc_model.specs.ClaimsTree.{table_of}
use Rattle.oc_model.specs.Node.{Header, Node, new_node, new_control}
use Rattle.oc_model.specs.Numbers.{has}
use Rattle.oc_model.specs.Table.{newest, leased_children}
use Rattle.oc_model.specs.World.{World, Process, process, node, is_up, up_ids, after_act}
use Rattle.oc_model.specs.WorldBounds.{IsOneOf}
use Rattle.oc_model.proofs.Able.{among_up}
use Rattle.oc_model.proofs.Lists.{all_weaker, all_append}
use Rattle.oc_model.proofs.Members.{all_test}
use Rattle.oc_laws_rest.specs.Rounds.{Turn, Round, after_turns, arrived, after_arrivals, after_round, is_distinct, are_the_up, is_timely, are_sent, new_messages, is_round}
use Rattle.oc_laws_rest.proofs.Forms.{root_node, Going, rising_node, looking_node, idle_node, joined_node, letter, search_of, LooksEarlier, in_numbers, Sets, leaf_begins, leaf_begins_again, Checked, leaf_checks, Reigns, root_begins, Rises, root_rises, HasTicked, root_ticks}
use Rattle.oc_laws_rest.proofs.Moves.{Is, Turned, ticked, Waits, waits_new, waits_more}
use Rattle.oc_laws_rest.proofs.Rows.{IsLeaf, Row, leased_row, none_set, none_ended, end_of}
use Rattle.oc_laws_rest.proofs.Star.{HasRow, Acts, HasAsked, Keeps, top_apart, LooksAt, Sees, AsksFor, Accepts, ChecksIn, RootAsks, Looks, Idles, Joins, LeafIs, RootIs, Rising, TopIs, IsKnown, Arriving, known_on, none_on, ups_on}
use Rattle.oc_laws_rest.proofs.Arrivals.{arrives}

-- Lists

pub has_one : (xs : List ℕ) (x : ℕ) → has xs x ≡ true → IsOneOf x xs
has_one [] x e = absurd cc
has_one (y ∷ ys) x e = ⊎_elim (λ a. inl (sym (eqb-true y x a))) (λ b. inr (has_one ys x b)) (or_cases (y == x) (has ys x) e)

one_has : (xs : List ℕ) (x : ℕ) → IsOneOf x xs → has xs x ≡ true
one_has [] x one = absurd one
one_has (y ∷ ys) x one = by_test (y == x) refl (λ later. one_has ys x later) one where
  by_test : (b : Bool) → (y == x) ≡ b → (IsOneOf x ys → has ys x ≡ true) → (x ≡ y) ⊎ IsOneOf x ys → b || has ys x ≡ true
  by_test true e rest one = refl
  by_test false e rest (inl same) = let clash : true ≡ false = sym (eq-eqb y x (sym same)) ∙ e in absurd cc
  by_test false e rest (inr later) = rest later

pub has_none : (xs : List ℕ) (x : ℕ) → has xs x ≡ false → IsOneOf x xs → ⊥
has_none xs x e one = let clash : true ≡ false = sym (one_has xs x one) ∙ e in absurd cc

-- a check that is due at this second is due at the clock of the tick
pub due_then : (due : Option ℕ) (clock c : ℕ) → nat_le (unwrap_or due clock) c ≡ true → is_due due (max clock c) ≡ true
due_then None clock c e = refl
due_then (Some d) clock c e = le-leb d (max clock c) (omega (arith, leb-true d c e))

module _ (h : Header) (up : ℕ → Bool) (m : ℕ) (within : m ≤ h.chain) (some : 1 ≤ m) (short : m ≤ 16) (top : up m ≡ true) (kinds : (y : ℕ) → up y ≡ true → (y ≡ m) ⊎ IsLeaf h up y)
    (down : (p : ℕ) → p ≤ h.chain → (p ≡ m → ⊥) → up p ≡ false) (Early : Type 0) where
  -- each lease ends a lease's time from now
  abbrev pub AreRenewed : (w : World) → RootIs h up m within Early w → Type 0
  AreRenewed w r = (y : ℕ) → IsLeaf h up y → Row m r.table y → end_of r.ends y ≡ Some (r.soft.clock + 30)

  -- a node that is new, or found no place
  abbrev pub IsUnplaced : World → ℕ → Type 0
  IsUnplaced w y = (Is w y (new_node h y) ⊎ ((g : Going) × Is w y (idle_node h y g))) × (HasRow m w y → ⊥)

  -- a world in which a round may begin
  pub record Begins (w : World) : Type 0 where
    pub ups : (y : ℕ) → is_up w y ≡ up y
    pub root : (Is w m (new_node h m) × ((m ≡ 1) ⊎ Early)) ⊎ ((r : RootIs h up m within Early w) × AreRenewed w r)
    pub leaves : (y : ℕ) → IsLeaf h up y → IsUnplaced w y ⊎ Joins h up m within Early w y

  -- the world after a round
  pub record Ends (w : World) : Type 0 where
    pub ups : (y : ℕ) → is_up w y ≡ up y
    pub root : RootIs h up m within Early w
    pub renewed : AreRenewed w root
    pub leaves : (y : ℕ) → IsLeaf h up y → Idles h up m within Early w y ⊎ Joins h up m within Early w y

  module _ (w0 : World) (begins : Begins w0) where
    -- a node past the chain that has ticked: it looks for a place, or its check-in is on the way
    HasGone : World → ℕ → Type 0
    HasGone w y = Looks h up m within Early w (length w0.net) [] y ⊎ (Joins h up m within Early w y × Waits w (length w0.net) [] (ChecksIn h up m within Early y))

    -- what holds while nodes tick; these still have to
    record Ticking (w : World) (still : List ℕ) : Type 0 where
      ups : (y : ℕ) → is_up w y ≡ up y
      same : (y : ℕ) → IsOneOf y still → process w y ≡ process w0 y
      table : table_of w m ≡ table_of w0 m
      acts : Acts m w0 → Acts m w
      root : IsOneOf m still ⊎ (RootIs h up m within Early w ⊎ Rising h up m within Early w (length w0.net) [])
      leaves : (y : ℕ) → IsLeaf h up y → IsOneOf y still ⊎ HasGone w y
      later : List Message
      net : w.net ≡ w0.net ++ later
      known : AllByRecursion (IsKnown h up m within Early w) later

    longer : (w : World) (still : List ℕ) → Ticking w still → length w0.net ≤ length w.net
    longer w still going = omega (arith, ap length going.net, length-append w0.net going.later)

    -- One tick

    gone_on : (w v : World) (ms : List Message) (y : ℕ) → v.net ≡ w.net ++ ms → Keeps m w v → process v y ≡ process w y → HasGone w y → HasGone v y
    unfolding HasGone
    gone_on w v ms y net keeps same (inl l) = inl record {
      target = l.target;
      going = l.going;
      is = same ∙ l.is;
      members = l.members;
      hope = l.hope;
      none = none_on h up m within Early w v keeps y (ap (λ (p : Process). p.node.control.kept.seq) l.is) l.none;
      waits = ⊎_elim
          (λ a. inl (waits_more w v (length w0.net) [] (LooksAt h up m within Early y l.target) ms net a))
          (λ a. inr (a.0, waits_more w v (length w0.net) [] (Sees h up m within Early y) ms net a.1))
          l.waits;
    }
    gone_on w v ms y net keeps same (inr (joins, waits)) = inr (
      record { going = joins.going; rank = joins.rank; review = joins.review; is = same ∙ joins.is; row = keeps.rows y joins.row },
      waits_more w v (length w0.net) [] (ChecksIn h up m within Early y) ms net waits,
    )

    ticks_on : (w v : World) (x : ℕ) (xs : List ℕ) (n n2 : Node) (ms : List Message) → Ticking w (x ∷ xs) → (IsOneOf x xs → ⊥) → Is w x n → Turned w x n2 ms v → table_of v m ≡ table_of w m
        → (Acts m w → Acts m v) → ((m ≡ x → ⊥) → n.control.kept.seq ≡ 1 → n2.control.kept.seq ≡ 1)
        → (IsOneOf m xs ⊎ (RootIs h up m within Early v ⊎ Rising h up m within Early v (length w0.net) [])) → (IsLeaf h up x → HasGone v x) → AllByRecursion (IsKnown h up m within Early v) ms → Ticking v xs
    ticks_on w v x xs n n2 ms going out is turn table acts seq root gone new = record {
      ups = λ y. ups_on h up m within Early w v x n n2 ms is turn y ∙ going.ups y;
      same = λ y one. turn.others y (λ e. out (subst (λ (z : ℕ). IsOneOf z xs) (sym e) one)) ∙ going.same y (inr one);
      table = table ∙ going.table;
      acts = λ e. acts (going.acts e);
      root = root;
      leaves = λ y leaf. ⊎_elim
          (λ (e : x ≡ y). inr (subst (HasGone v) e (gone (subst (IsLeaf h up) (sym e) leaf))))
          (λ apart. ⊎_elim
          (λ one. ⊎_elim (λ (e : y ≡ x). absurd (apart (sym e))) (λ later. inl later) one)
          (λ has_gone. inr (gone_on w v ms y turn.net keeps (turn.others y apart) has_gone))
          (going.leaves y leaf))
          (cases_eq x y);
      later = going.later ++ ms;
      net = turn.net ∙ (ap (λ (all : List Message). all ++ ms) going.net ∙ append_assoc w0.net going.later ms);
      known = all_append (IsKnown h up m within Early v) going.later ms
          (all_weaker (IsKnown h up m within Early w) (IsKnown h up m within Early v) (known_on h up m within Early w v keeps) going.later going.known) new;
    } where
      asked : (y : ℕ) → (m ≡ y → ⊥) → HasAsked w y → HasAsked v y
      asked y other has = ⊎_elim
          (λ (e : x ≡ y). subst (HasAsked v) e (ap (λ (p : Process). p.node.control.kept.seq) turn.here
          ∙ seq (λ same. other (same ∙ e)) (sym (ap (λ (p : Process). p.node.control.kept.seq) is) ∙ subst (HasAsked w) (sym e) has)))
          (λ away. ap (λ (p : Process). p.node.control.kept.seq) (turn.others y away) ∙ has) (cases_eq x y)

      keeps : Keeps m w v
      keeps = record {
        rows = λ y row. subst (λ (t : List Cert). Row m t y) (sym table) row;
        fewer = λ y row. inl (subst (λ (t : List Cert). Row m t y) table row);
        acts = acts;
        asked = asked;
      }

    -- m ticks
    root_turns : (w : World) (xs : List ℕ) (c : ℕ) → Ticking w (m ∷ xs) → (IsOneOf m xs → ⊥) → is_timely (node w0 m).control c ≡ true → Ticking (after_act w (At m (Tick c))) xs
    root_turns w xs c going out timely = ⊎_elim from_new from_rest begins.root where
      v : World
      v = after_act w (At m (Tick c))

      same : process w m ≡ process w0 m
      same = going.same m (inl refl)

      -- the others
      no_leaf : IsLeaf h up m → HasGone (after_act w (At m (Tick c))) m
      no_leaf leaf = absurd (top_apart h up m within Early m leaf refl)

      from_new : Is w0 m (new_node h m) × ((m ≡ 1) ⊎ Early) → Ticking (after_act w (At m (Tick c))) xs
      from_new (is, when) = ⊎_elim reigns rises (cases_eq m 1) where
        here : Is w m (new_node h m)
        here = same ∙ is

        idle : Acts m w → Acts m (after_act w (At m (Tick c)))
        idle acts = let clash : Idle ≡ Acting = sym (ap (λ (p : Process). p.node.control.kept.mode) here) ∙ acts in absurd cc

        reigns : m ≡ 1 → Ticking (after_act w (At m (Tick c))) xs
        reigns first =
            let reign : Reigns h m 0 (new_node h m) (Tick c) = root_begins h m c first in
            let n : Node = root_node h m 0 1 [] reign.soft (new_control h m).leases (new_control h m).rates in
            let turn : Turned w m n [] (after_act w (At m (Tick c))) = ticked w m c (new_node h m) n [] here refl reign.gives in
            ticks_on w (after_act w (At m (Tick c))) m xs (new_node h m) n [] going out here turn
            (ap (λ (p : Process). p.node.control.kept.table) turn.here ∙ sym (ap (λ (p : Process). p.node.control.kept.table) here))
            idle (λ other. absurd (other refl))
            (inr (inl record {
              asks = 0;
              epoch = 1;
              table = [];
              soft = reign.soft;
              ends = (new_control h m).leases;
              rates = (new_control h m).rates;
              is = turn.here;
              search = reign.search;
              some = omega arith;
              rows = tt;
              size = length-replicate h.nodes None;
            }))
            no_leaf tt

        rises : (m ≡ 1 → ⊥) → Ticking (after_act w (At m (Tick c))) xs
        rises other =
            let more : 2 ≤ m = omega (arith, some, other) in
            let rise : Rises h m some within (new_node h m) c = root_rises h m some within c more in
            let n : Node = rising_node h m 1 rise.first rise.going in
            let ask : Message = letter m rise.first (Ask 1 None) in
            let turn : Turned w m n (ask ∷ []) (after_act w (At m (Tick c))) = ticked w m c (new_node h m) n (ask ∷ []) here refl rise.gives in
            let first = rise.earlier rise.first (inl refl) in
            ticks_on w (after_act w (At m (Tick c))) m xs (new_node h m) n (ask ∷ []) going out here turn
            (ap (λ (p : Process). p.node.control.kept.table) turn.here ∙ sym (ap (λ (p : Process). p.node.control.kept.table) here))
            idle (λ away. absurd (away refl))
            (inr (inr record {
              asks = 1;
              peer = rise.first;
              going = rise.going;
              is = turn.here;
              silent = rise.silent;
              earlier = rise.earlier;
              few = omega (arith, rise.few, short);
              early = ⊎_elim (λ e. absurd (other e)) (λ early. early) when;
              waits = waits_new w (after_act w (At m (Tick c))) (length w0.net) [] (RootAsks h up m within Early rise.first) ask [] turn.net (longer w (m ∷ xs) going) (λ j one. absurd one) (1, refl);
            }))
            no_leaf
            (inr (inl record { peer = rise.first; least = first.0; most = first.1; is = (1, refl) }), tt)

      from_rest : (r : RootIs h up m within Early w0) × AreRenewed w0 r → Ticking (after_act w (At m (Tick c))) xs
      from_rest (r, renewed) =
          let n : Node = root_node h m r.asks r.epoch r.table r.soft r.ends r.rates in
          let here : Is w m n = same ∙ r.is in
          let now : ℕ = max r.soft.clock c in
          let soon : nat_le c (r.soft.clock + 29) ≡ true =
          (and_parts (nat_le (unwrap_or r.soft.due r.soft.clock) c) (nat_le c (r.soft.clock + 29)) (sym (ap (λ (p : Process). is_timely p.node.control c) r.is) ∙ timely)).1 in
          let ahead : now < r.soft.clock + 30 = omega (arith, leb-true c (r.soft.clock + 29) soon) in
          let each : (y : ℕ) → IsOneOf y (leased_children r.table m) → end_of r.ends y ≡ Some (r.soft.clock + 30) = λ y one. let row = leased_row h up m r.table y r.rows one in renewed y row.1 row.0 in
          let ticks : HasTicked h m some within r.asks r.epoch r.table r.ends r.rates now r.soft c =
          root_ticks h m some within r.asks r.epoch r.table r.ends r.rates now r.soft c refl r.search (none_set m r.table r.ends now (r.soft.clock + 30) each) (none_ended m r.table r.ends now (r.soft.clock + 30) ahead each) in
          let next : Node = root_node h m r.asks ticks.epoch r.table ticks.soft r.ends r.rates in
          let turn : Turned w m next ticks.sent (after_act w (At m (Tick c))) = ticked w m c n next ticks.sent here refl ticks.gives in
          let acts : Acts m (after_act w (At m (Tick c))) = ap (λ (p : Process). p.node.control.kept.mode) turn.here in
          ticks_on w (after_act w (At m (Tick c))) m xs n next ticks.sent going out here turn
          (ap (λ (p : Process). p.node.control.kept.table) turn.here ∙ sym (ap (λ (p : Process). p.node.control.kept.table) here))
          (λ _. acts) (λ other. absurd (other refl))
          (inr (inl record {
            asks = r.asks;
            epoch = ticks.epoch;
            table = r.table;
            soft = ticks.soft;
            ends = r.ends;
            rates = r.rates;
            is = turn.here;
            search = ticks.search;
            some = omega (arith, r.some, ticks.more);
            rows = r.rows;
            size = r.size;
          }))
          no_leaf
          (all_weaker (LooksEarlier m) (IsKnown h up m within Early (after_act w (At m (Tick c)))) (λ s look. inr (inr (look, acts))) ticks.sent ticks.looks)

    -- a node past the chain ticks
    leaf_turns : (w : World) (x : ℕ) (xs : List ℕ) (c : ℕ) → IsLeaf h up x → Ticking w (x ∷ xs) → (IsOneOf x xs → ⊥) → is_timely (node w0 x).control c ≡ true → Ticking (after_act w (At x (Tick c))) xs
    unfolding HasGone
    leaf_turns w x xs c leaf going out timely = ⊎_elim from_none from_rest (begins.leaves x leaf) where
      v : World
      v = after_act w (At x (Tick c))

      same : process w x ≡ process w0 x
      same = going.same x (inl refl)

      apart : x ≡ m → ⊥
      apart e = top_apart h up m within Early x leaf (sym e)

      -- m is as it was
      root : (ms : List Message) → (after_act w (At x (Tick c))).net ≡ w.net ++ ms → process (after_act w (At x (Tick c))) m ≡ process w m
          → IsOneOf m xs ⊎ (RootIs h up m within Early (after_act w (At x (Tick c))) ⊎ Rising h up m within Early (after_act w (At x (Tick c))) (length w0.net) [])
      root ms net stays = ⊎_elim
          (λ one. ⊎_elim (λ (e : m ≡ x). absurd (apart (sym e))) (λ later. inl later) one)
          (λ state. inr (⊎_elim
          (λ r. inl record {
            asks = r.asks;
            epoch = r.epoch;
            table = r.table;
            soft = r.soft;
            ends = r.ends;
            rates = r.rates;
            is = stays ∙ r.is;
            search = r.search;
            some = r.some;
            rows = r.rows;
            size = r.size;
          })
          (λ r. inr record {
            asks = r.asks;
            peer = r.peer;
            going = r.going;
            is = stays ∙ r.is;
            silent = r.silent;
            earlier = r.earlier;
            few = r.few;
            early = r.early;
            waits = waits_more w (after_act w (At x (Tick c))) (length w0.net) [] (RootAsks h up m within Early r.peer) ms net r.waits;
          })
          state))
          going.root

      -- it begins a descent
      sets : (n : Node) (g : Going) → Is w x n → n.control.kept.seq ≡ 0 → Sets h m x some within leaf.past g c n → (HasRow m w0 x → ⊥) → Ticking (after_act w (At x (Tick c))) xs
      sets n g here zero_seq begun none =
          let look : Message = letter x begun.first Look in
          let next : Node = looking_node h x begun.first begun.going in
          let turn : Turned w x next (look ∷ []) (after_act w (At x (Tick c))) = ticked w x c n next (look ∷ []) here refl begun.gives in
          let stays : process (after_act w (At x (Tick c))) m ≡ process w m = turn.others m apart in
          let table : table_of (after_act w (At x (Tick c))) m ≡ table_of w m = ap (λ (p : Process). p.node.control.kept.table) stays in
          let first = begun.members begun.first (inl refl) in
          ticks_on w (after_act w (At x (Tick c))) x xs n next (look ∷ []) going out here turn table
          (λ acts. ap (λ (p : Process). p.node.control.kept.mode) stays ∙ acts) (λ _ e. let clash : 0 ≡ 1 = sym zero_seq ∙ e in absurd (omega (arith, clash)))
          (root (look ∷ []) turn.net stays)
          (λ _. inl record {
            target = begun.first;
            going = begun.going;
            is = turn.here;
            members = begun.members;
            hope = inr (begun.all m some within);
            none = λ row. none (subst (λ (t : List Cert). Row m t x) (table ∙ going.table) row);
            waits = inl (waits_new w (after_act w (At x (Tick c))) (length w0.net) [] (LooksAt h up m within Early x begun.first) look [] turn.net (longer w (x ∷ xs) going) (λ j one. absurd one) refl);
          })
          (inl record { node = x; leaf = leaf; said = inl (record { target = begun.first; least = first.0; most = first.1; is = refl }) }, tt)

      from_none : IsUnplaced w0 x → Ticking (after_act w (At x (Tick c))) xs
      from_none (state, none) = ⊎_elim
          (λ is. sets (new_node h x) (record { clock = 0; due = None; tries = []; silent = false; checked = None }) (same ∙ is) refl (leaf_begins h m x some within leaf.past c) none)
          (λ idle.
          let g : Going = idle.0 in
          let due : nat_le (unwrap_or g.due g.clock) c ≡ true =
          (and_parts (nat_le (unwrap_or g.due g.clock) c) (nat_le c (g.clock + 29)) (sym (ap (λ (p : Process). is_timely p.node.control c) idle.1) ∙ timely)).0 in
          sets (idle_node h x g) g (same ∙ idle.1) refl (leaf_begins_again h m x some within leaf.past g c (due_then g.due g.clock c due)) none)
          state

      from_rest : Joins h up m within Early w0 x → Ticking (after_act w (At x (Tick c))) xs
      from_rest joins =
          let g : Going = joins.going in
          let n : Node = joined_node h m x g joins.rank (search_of joins.review) in
          let here : Is w x n = same ∙ joins.is in
          let due : nat_le (unwrap_or g.due g.clock) c ≡ true =
          (and_parts (nat_le (unwrap_or g.due g.clock) c) (nat_le c (g.clock + 29)) (sym (ap (λ (p : Process). is_timely p.node.control c) joins.is) ∙ timely)).0 in
          let checks : Checked h m x some within leaf.past joins.rank n c = leaf_checks h m x some within leaf.past g joins.rank (search_of joins.review) c (due_then g.due g.clock c due) in
          let check_in : Message = letter x m (CheckIn 1 0 checks.rate 0 0 []) in
          let rest : List Message = letter x m Look ∷ letter x m (Fetch []) ∷ [] in
          let next : Node = joined_node h m x checks.going joins.rank (search_of true) in
          let turn : Turned w x next (check_in ∷ rest) (after_act w (At x (Tick c))) = ticked w x c n next (check_in ∷ rest) here refl checks.gives in
          let stays : process (after_act w (At x (Tick c))) m ≡ process w m = turn.others m apart in
          let table : table_of (after_act w (At x (Tick c))) m ≡ table_of w m = ap (λ (p : Process). p.node.control.kept.table) stays in
          let row : HasRow m (after_act w (At x (Tick c))) x = subst (λ (t : List Cert). Row m t x) (sym (table ∙ going.table)) joins.row in
          let acts : Acts m (after_act w (At x (Tick c))) = ap (λ (p : Process). p.node.control.kept.mode) stays ∙ going.acts (acted joins.row) in
          ticks_on w (after_act w (At x (Tick c))) x xs n next (check_in ∷ rest) going out here turn table (λ _. acts) (λ _ e. e) (root (check_in ∷ rest) turn.net stays)
          (λ _. inr (
            record { going = checks.going; rank = joins.rank; review = true; is = turn.here; row = row },
            waits_new w (after_act w (At x (Tick c))) (length w0.net) [] (ChecksIn h up m within Early x) check_in rest turn.net (longer w (x ∷ xs) going) (λ j one. absurd one) (checks.rate, refl),
          )) (
            inl record { node = x; leaf = leaf; said = inr (inr (inr (inr (inl ((checks.rate, refl), row))))) },
            (
              inl record { node = x; leaf = leaf; said = inl (record { target = m; least = some; most = within; is = refl }) },
              (inl record { node = x; leaf = leaf; said = inr (inr (inr (inr (inr (inr (([], refl), acts)))))) }, tt),
            ),
          ) where
            -- m was the root already, since it has a child
            acted : HasRow m w0 x → Acts m w0
            acted row = ⊎_elim
                (λ new. let clash : None ≡ Some (birth x 1 m) = sym (ap (λ (p : Process). newest p.node.control.kept.table x) new.0) ∙ row in absurd cc)
                (λ r. ap (λ (p : Process). p.node.control.kept.mode) r.0.is)
                begins.root

    -- All ticks

    one_turns : (w : World) (x : ℕ) (xs : List ℕ) (c : ℕ) → Ticking w (x ∷ xs) → (IsOneOf x xs → ⊥) → is_timely (node w0 x).control c ≡ true → (x ≡ m) ⊎ IsLeaf h up x → Ticking (after_act w (At x (Tick c))) xs
    one_turns w x xs c going out timely (inl e) =
        (subst (λ (z : ℕ). Ticking w (z ∷ xs) → (IsOneOf z xs → ⊥) → is_timely (node w0 z).control c ≡ true → Ticking (after_act w (At z (Tick c))) xs) (sym e) (root_turns w xs c)) going out timely
    one_turns w x xs c going out timely (inr leaf) = leaf_turns w x xs c leaf going out timely

    all_turn : (ts : List Turn) (w : World) → Ticking w (map (λ t. t.node) ts) → is_distinct (map (λ t. t.node) ts) ≡ true → list_all (is_up w0) (map (λ t. t.node) ts) ≡ true
        → list_all (λ t. is_timely (node w0 t.node).control t.time) ts ≡ true → Ticking (after_turns w ts) []
    all_turn [] w going distinct ups timely = going
    all_turn (t ∷ ts) w going distinct ups timely =
        let xs : List ℕ = map (λ (u : Turn). u.node) ts in
        let apart = and_parts (not (has xs t.node)) (is_distinct xs) distinct in
        let out : IsOneOf t.node xs → ⊥ = has_none xs t.node (not-true (has xs t.node) apart.0) in
        let lives = and_parts (is_up w0 t.node) (list_all (is_up w0) xs) ups in
        let times = and_parts (is_timely (node w0 t.node).control t.time) (list_all (λ (u : Turn). is_timely (node w0 u.node).control u.time) ts) timely in
        all_turn ts (after_act w (At t.node (Tick t.time))) (one_turns w t.node xs t.time going out times.0 (kinds t.node (sym (begins.ups t.node) ∙ lives.0))) apart.1 lives.1 times.1

    -- who is up has a turn
    begin : (xs : List ℕ) → list_all (has xs) (up_ids w0) ≡ true → Ticking w0 xs
    begin xs all = record {
      ups = begins.ups;
      same = λ y one. refl;
      table = refl;
      acts = λ e. e;
      root = inl (turns_of m top);
      leaves = λ y leaf. inl (turns_of y leaf.lives);
      later = [];
      net = sym (append-nil w0.net);
      known = tt;
    } where
      turns_of : (y : ℕ) → up y ≡ true → IsOneOf y xs
      turns_of y lives = has_one xs y (all_test (has xs) (up_ids w0) all y (among_up w0 y (begins.ups y ∙ lives)))

    -- after the ticks messages arrive
    ticked_all : (w : World) → Ticking w [] → Arriving h up m within Early w w0.net []
    unfolding HasGone
    ticked_all w going = record {
      ups = going.ups;
      root = ⊎_elim (λ one. absurd one) (λ state. ⊎_elim (λ r. inl (r, fresh r)) (λ r. inr r) state) going.root;
      leaves = λ y leaf. ⊎_elim (λ one. absurd one) (λ gone. ⊎_elim (λ l. inl l) (λ joins. inr (inr (inr joins.0))) gone) (going.leaves y leaf);
      later = going.later;
      net = going.net;
      known = going.known;
      sent = λ k one. absurd one;
    } where
      fresh : (r : RootIs h up m within Early w) (y : ℕ) → IsLeaf h up y → Row m r.table y → (end_of r.ends y ≡ Some (r.soft.clock + 30)) ⊎ Waits w (length w0.net) [] (ChecksIn h up m within Early y)
      fresh r y leaf row = ⊎_elim
          (λ one. absurd one)
          (λ gone. ⊎_elim
          (λ l. absurd (l.none (subst (λ (t : List Cert). Row m t y) (sym (ap (λ (p : Process). p.node.control.kept.table) r.is)) row)))
          (λ joins. inr joins.1) gone)
          (going.leaves y leaf)

  -- All messages

  -- what holds after these messages arrived
  record Arrived (front : List Message) (ks done : List ℕ) (v : World) : Type 0 where
    all : List ℕ
    arriving : Arriving h up m within Early v front all
    before : (k : ℕ) → IsOneOf k done → IsOneOf k all
    each : (k : ℕ) → IsOneOf k ks → IsOneOf k all

  all_arrive : (least : ℕ) (front : List Message) (ks : List ℕ) (w : World) (done : List ℕ) → length front ≤ least → Arriving h up m within Early w front done → are_sent least w ks ≡ true
      → Arrived front ks done (after_arrivals w ks)
  all_arrive least front [] w done old a sent = record { all = done; arriving = a; before = λ k one. one; each = λ k one. absurd one }
  all_arrive least front (k ∷ ks) w done old a sent =
      let outer = and_parts (nat_lt least k && nat_le k (length w.net)) (are_sent least (arrived w k) ks) sent in
      let inner = and_parts (nat_lt least k) (nat_le k (length w.net)) outer.0 in
      let next : Arriving h up m within Early (arrived w k) front (k ∷ done) =
      arrives h up m within Early some down w front done a k (omega (arith, old, ltb-true least k inner.0)) (leb-true k (length w.net) inner.1) in
      let rest : Arrived front ks (k ∷ done) (after_arrivals (arrived w k) ks) = all_arrive least front ks (arrived w k) (k ∷ done) old next outer.1 in
      record {
        all = rest.all;
        arriving = rest.arriving;
        before = λ j one. rest.before j (inr one);
        each = λ j one. ⊎_elim (λ (e : j ≡ k). rest.before j (inl e)) (λ later. rest.each j later) one;
      }

  -- The whole round

  pub round_ends : (least : ℕ) (w : World) (r : Round) → length w.net ≤ least → Begins w → is_round least w r ≡ true → Ends (after_round w r)
  round_ends least w r old begins is =
      let xs : List ℕ = map (λ (t : Turn). t.node) r.turns in
      let u : World = after_turns w r.turns in
      let v : World = after_arrivals u r.arrivals in
      let timely : Bool = list_all (λ (t : Turn). is_timely (node w t.node).control t.time) r.turns in
      let sent : Bool = are_sent least u r.arrivals in
      let whole : Bool = list_all (has r.arrivals) (new_messages w v) in
      let p3 = and_parts (are_the_up w xs && timely && sent) whole is in
      let p2 = and_parts (are_the_up w xs && timely) sent p3.0 in
      let p1 = and_parts (are_the_up w xs) timely p2.0 in
      let q2 = and_parts (list_all (is_up w) xs && list_all (has xs) (up_ids w)) (is_distinct xs) p1.0 in
      let q1 = and_parts (list_all (is_up w) xs) (list_all (has xs) (up_ids w)) q2.0 in
      let ticks : Arriving h up m within Early u w.net [] = ticked_all w begins u (all_turn w begins r.turns w (begin w begins xs q1.1) q2.1 q1.0 p1.1) in
      let done : Arrived w.net r.arrivals [] v = all_arrive least w.net r.arrivals u [] old ticks p2.1 in
      ends v done (λ k past low. has_one r.arrivals k (all_test (has r.arrivals) (new_messages w v) p3.1 k (in_numbers (length w.net + 1) (length v.net - length w.net) k (omega (arith, past)) (omega (arith, past, low))))) where
        ends : (v : World) → Arrived w.net r.arrivals [] v → ((k : ℕ) → length w.net < k → k ≤ length v.net → IsOneOf k r.arrivals) → Ends v
        ends v done each = by_top done.arriving.root where
          -- every message has arrived
          none : (P : Message → Type 0) → Waits v (length w.net) done.all P → ⊥
          none P waits = waits.still (done.each waits.number (each waits.number waits.new waits.sent))

          by_leaf : (y : ℕ) → LeafIs h up m within Early v (length w.net) done.all y → Idles h up m within Early v y ⊎ Joins h up m within Early v y
          by_leaf y (inl l) = absurd (⊎_elim (none (LooksAt h up m within Early y l.target)) (λ b. none (Sees h up m within Early y) b.1) l.waits)
          by_leaf y (inr (inl idles)) = inl idles
          by_leaf y (inr (inr (inl asks))) = absurd (⊎_elim (none (AsksFor h up m within Early y)) (none (Accepts h up m within Early y)) asks.waits)
          by_leaf y (inr (inr (inr joins))) = inr joins

          by_top : TopIs h up m within Early v (length w.net) done.all → Ends v
          by_top (inl (root, fresh)) = record {
            ups = done.arriving.ups;
            root = root;
            renewed = λ y leaf row. ⊎_elim (λ e. e) (λ waits. absurd (none (ChecksIn h up m within Early y) waits)) (fresh y leaf row);
            leaves = λ y leaf. by_leaf y (done.arriving.leaves y leaf);
          }
          by_top (inr r) = absurd (none (RootAsks h up m within Early r.peer) r.waits)
