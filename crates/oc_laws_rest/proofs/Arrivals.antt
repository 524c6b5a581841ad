-- Each message that arrives in a star that forms: what it does at m, or at the node past the chain that takes it or is told that it failed.
use Rattle.std.proofs.Common.{◌≡◌, ℕ, ◌+◌, ◌-◌, ◌≤◌, ◌<◌, Bool, true, false, ◌==◌, Some, None, List, [], ◌∷◌, ◌++◌, ◌⊎◌, inl, inr, length, refl, ap, sym, subst, ◌∙◌, ⊎_elim, arith, length-append, ne_eqb}
use Rattle.std.specs.List.{AllByRecursion}
use Rattle.std.proofs.lemmas.Bool.{cases_eq}
use Rattle.std.proofs.lemmas.List.{length-set, length-replicate}
use Rattle.oc_base.specs.declared.cert.Cert.{Cert}
use Rattle.oc_base.specs.declared.cert.Child.{Child}
use Rattle.oc_base.specs.declared.shelf.Shelf.{Shelf}
use Rattle.oc_base.specs.Rank.{beneath_of}
use Rattle.oc_model.specs.declared.input.Input.{Input}
use Rattle.oc_model.specs.declared.input.Input.TheVariants.{Unreachable, Delivered}
use Rattle.oc_model.specs.declared.message.Body.TheVariants.{Look, LookIs, Ask, Yes, CheckIn, CheckAck, Fetch}
use Rattle.oc_model.specs.declared.message.Message.{Message}
use Rattle.oc_model.specs.declared.mode.Mode.TheVariants.{Asking, Acting}
use Rattle.oc_model.specs.Adopting.{birth}
use Rattle.oc_model.specs.ClaimsTree.{table_of}
use Rattle.oc_model.specs.Leases.{renew}
use Rattle.oc_model.specs.Node.{Header, Node, new_control}
use Rattle.oc_model.specs.Numbers.{number_end, put_at}
use Rattle.oc_model.specs.Table.{newest, put}
use Rattle.oc_model.specs.World.{World, Process, process, is_up, message_at}
use Rattle.oc_model.specs.WorldBounds.{IsOneOf}
use Rattle.oc_laws_step.proofs.Tables.{newest-put_same, newest-put_other}
use Rattle.oc_laws_rest.specs.Rounds.{arrived}
use Rattle.oc_laws_rest.proofs.Forms.{root_node, Going, rising_node, looking_node, idle_node, asking_node, joined_node, top, letter, search_of, Gives, Tried, leaf_told, leaf_told_other, leaf_idle_told, leaf_asking_told, leaf_joined_told, leaf_asks, leaf_passes, leaf_looking_seen, leaf_idle_seen, leaf_asking_seen, leaf_joined_seen, leaf_looking_yes, leaf_idle_yes, leaf_joins, leaf_joined_yes, leaf_looking_ack, leaf_idle_ack, leaf_asking_ack, leaf_acked, Shows, Reigns, Asked, root_goes_on, rising_told, rising_looked, root_looked, root_told, root_fetched, root_checked_in, root_asked_again, root_asked}
use Rattle.oc_laws_rest.proofs.Moves.{Is, Turned, Waits, taken, failed, waits_new, waits_on, at_some, at_after}
use Rattle.oc_laws_rest.proofs.Rows.{IsLeaf, Row, AreRows, end_of, row_or_none, rows_put, no_member, renewed, renewed_other}
use Rattle.oc_laws_rest.proofs.Star.{tag, greater, HasRow, Acts, HasAsked, Keeps, top_apart, LooksAt, Sees, AsksFor, Accepts, ChecksIn, RootAsks, Looks, Asks, LeafIs, RootIs, Rising, AreFresh, TopIs, IsSaid, IsKnown, Arriving, ups_on, none_on, joins_stay, idles_stay, looks_stay, leaf_stays, root_stays, fresh_stays, top_stays, assemble}

-- where no process of m changed, and no other node forgot that it asked
keeps_still : (m : ℕ) (w v : World) → process v m ≡ process w m → ((y : ℕ) → (m ≡ y → ⊥) → HasAsked w y → HasAsked v y) → Keeps m w v
keeps_still m w v same asked =
    let table : table_of v m ≡ table_of w m = ap (λ (p : Process). p.node.control.kept.table) same in
    record {
      rows = λ y row. subst (λ (t : List Cert). Row m t y) (sym table) row;
      fewer = λ y row. inl (subst (λ (t : List Cert). Row m t y) table row);
      acts = λ acts. ap (λ (p : Process). p.node.control.kept.mode) same ∙ acts;
      asked = asked;
    }

module _ (h : Header) (up : ℕ → Bool) (m : ℕ) (within : m ≤ h.chain) (Early : Type 0) (some : 1 ≤ m) (down : (p : ℕ) → p ≤ h.chain → (p ≡ m → ⊥) → up p ≡ false) (w : World) (front : List Message)
    (done : List ℕ) (a : Arriving h up m within Early w front done) (k : ℕ) (low : k ≤ length w.net) where
  -- what holds after the message arrived
  abbrev Arrives : Type 0
  Arrives = Arriving h up m within Early (arrived w k) front (k ∷ done)

  abbrev LeafAfter : ℕ → Type 0
  LeafAfter y = LeafIs h up m within Early (arrived w k) (length front) (k ∷ done) y

  abbrev KnownAfter : List Message → Type 0
  KnownAfter ms = AllByRecursion (IsKnown h up m within Early (arrived w k)) ms

  abbrev WaitsAfter : (Message → Type 0) → Type 0
  WaitsAfter P = Waits (arrived w k) (length front) (k ∷ done) P

  before : length front ≤ length w.net
  before = omega (arith, ap length a.net, length-append front a.later)

  sent_by_now : (j : ℕ) → IsOneOf j (k ∷ done) → j ≤ length w.net
  sent_by_now j one = ⊎_elim (λ (e : j ≡ k). subst (λ (i : ℕ). i ≤ length w.net) (sym e) low) (a.sent j) one

  -- the first message that is sent waits
  first_waits : (P : Message → Type 0) (s : Message) (ms : List Message) → (arrived w k).net ≡ w.net ++ s ∷ ms → P s → WaitsAfter P
  first_waits P s ms net is = waits_new w (arrived w k) (length front) (k ∷ done) P s ms net before sent_by_now is

  -- a message of another kind
  not_looks : (s : Message) (x p : ℕ) → (tag s.body ≡ 0 → ⊥) → LooksAt h up m within Early x p s → ⊥
  not_looks s x p other e = other (ap (λ (n : Message). tag n.body) e)

  not_seen : (s : Message) (x : ℕ) → (tag s.body ≡ 1 → ⊥) → Sees h up m within Early x s → ⊥
  not_seen s x other e = other (ap (λ (n : Message). tag n.body) e.is)

  not_asks : (s : Message) (x : ℕ) → (tag s.body ≡ 2 → ⊥) → AsksFor h up m within Early x s → ⊥
  not_asks s x other e = other (ap (λ (n : Message). tag n.body) e)

  not_accepts : (s : Message) (x : ℕ) → (tag s.body ≡ 3 → ⊥) → Accepts h up m within Early x s → ⊥
  not_accepts s x other e = other (ap (λ (n : Message). tag n.body) e.1)

  not_checks : (s : Message) → (tag s.body ≡ 4 → ⊥) → (y : ℕ) → ChecksIn h up m within Early y s → ⊥
  not_checks s other y e = other (ap (λ (n : Message). tag n.body) e.1)

  not_root : (s : Message) → (s.from ≡ m → ⊥) ⊎ (tag s.body ≡ 2 → ⊥) → (p : ℕ) → RootAsks h up m within Early p s → ⊥
  not_root s (inl other) p e = other (ap (λ (n : Message). n.from) e.1)
  not_root s (inr other) p e = other (ap (λ (n : Message). tag n.body) e.1)

  -- A message that changes no node

  calm : (s : Message) (ms : List Message) (z : ℕ) (n : Node) (turner : ℕ) → message_at w.net k ≡ Some s → Is w turner n → Turned w turner n ms (arrived w k) → greater s ≡ z
      → ((y : ℕ) → ChecksIn h up m within Early y s → ⊥) → ((r : Rising h up m within Early w (length front) done) → RootAsks h up m within Early r.peer s → ⊥)
      → (Keeps m w (arrived w k) → ((y : ℕ) → process (arrived w k) y ≡ process w y) → IsLeaf h up z → LeafAfter z) → (Keeps m w (arrived w k) → KnownAfter ms) → Arrives
  calm s ms z n turner found is turn of_z checks asks leaf new =
      let same : (y : ℕ) → process (arrived w k) y ≡ process w y = λ y. ⊎_elim
      (λ (e : turner ≡ y). subst (λ (u : ℕ). process (arrived w k) u ≡ process w u) e (turn.here ∙ sym is))
      (λ apart. turn.others y apart) (cases_eq turner y) in
      let keeps : Keeps m w (arrived w k) = keeps_still m w (arrived w k) (same m) (λ y apart asked. ap (λ (p : Process). p.node.control.kept.seq) (same y) ∙ asked) in
      assemble h up m within Early w (arrived w k) front done k s ms found turn.net keeps a z of_z (λ y. ap (λ (p : Process). p.up) (same y)) (λ y leaf_y apart. same y)
      (top_stays h up m within Early w (arrived w k) (length front) done k s ms found turn.net keeps a.root (same m) checks asks)
      (leaf keeps same) (new keeps) low

  -- A message that x takes, or of which x is told that it failed

  at_leaf : (s : Message) (x : ℕ) → IsLeaf h up x → (n n2 : Node) (ms : List Message) → message_at w.net k ≡ Some s → Is w x n → Turned w x n2 ms (arrived w k) → greater s ≡ x
      → (n.control.kept.seq ≡ 1 → n2.control.kept.seq ≡ 1) → ((y : ℕ) → ChecksIn h up m within Early y s → ⊥) → ((p : ℕ) → RootAsks h up m within Early p s → ⊥)
      → (Keeps m w (arrived w k) → LeafAfter x) → (Keeps m w (arrived w k) → KnownAfter ms) → Arrives
  at_leaf s x leaf n n2 ms found is turn of_x seq checks asks here new =
      let apart : x ≡ m → ⊥ = λ e. top_apart h up m within Early x leaf (sym e) in
      let same : process (arrived w k) m ≡ process w m = turn.others m apart in
      let keeps : Keeps m w (arrived w k) = keeps_still m w (arrived w k) same (λ y other asked. ⊎_elim
      (λ (e : x ≡ y). subst (HasAsked (arrived w k)) e (ap (λ (p : Process). p.node.control.kept.seq) turn.here
      ∙ seq (sym (ap (λ (p : Process). p.node.control.kept.seq) is) ∙ subst (HasAsked w) (sym e) asked)))
      (λ away. ap (λ (p : Process). p.node.control.kept.seq) (turn.others y away) ∙ asked) (cases_eq x y)) in
      assemble h up m within Early w (arrived w k) front done k s ms found turn.net keeps a x of_x (ups_on h up m within Early w (arrived w k) x n n2 ms is turn) (λ y leaf_y away. turn.others y away)
      (top_stays h up m within Early w (arrived w k) (length front) done k s ms found turn.net keeps a.root same checks (λ r. asks r.peer))
      (λ _. here keeps) (new keeps) low

  -- Nodes past the chain

  module _ (x : ℕ) (leaf : IsLeaf h up x) where
    apart : x ≡ m → ⊥
    apart e = top_apart h up m within Early x leaf (sym e)

    -- x goes on with its next try
    goes_on : (s : Message) (l : Looks h up m within Early w (length front) done x) (i : Input) → message_at w.net k ≡ Some s → greater s ≡ x
        → ((n2 : Node) (ms : List Message) → n2.control.me ≡ x → Gives (looking_node h x l.target l.going) i n2 ms → Turned w x n2 ms (arrived w k))
        → Tried h m x some within leaf.past l.going i (looking_node h x l.target l.going) → Early ⊎ IsOneOf m l.going.tries
        → ((y : ℕ) → ChecksIn h up m within Early y s → ⊥) → ((p : ℕ) → RootAsks h up m within Early p s → ⊥) → Arrives
    goes_on s l i found of_x turner tried hope checks asks = ⊎_elim to_none to_next tried.goes where
      n : Node
      n = looking_node h x l.target l.going

      to_none : (l.going.tries ≡ []) × Gives (looking_node h x l.target l.going) i (idle_node h x tried.going) [] → Arrives
      to_none (empty, gives) =
          let turn : Turned w x (idle_node h x tried.going) [] (arrived w k) = turner (idle_node h x tried.going) [] refl gives in
          at_leaf s x leaf n (idle_node h x tried.going) [] found l.is turn of_x (λ e. e) checks asks
          (λ keeps. inr (inl record {
            going = tried.going;
            is = turn.here;
            none = none_on h up m within Early w (arrived w k) keeps x (ap (λ (p : Process). p.node.control.kept.seq) l.is) l.none;
            early = ⊎_elim (λ early. early) (λ one. absurd (subst (IsOneOf m) empty one)) hope;
          }))
          (λ keeps. tt)

      to_next : (p : ℕ) × (ps : List ℕ) × (l.going.tries ≡ p ∷ ps) × (tried.going.tries ≡ ps) × Gives (looking_node h x l.target l.going) i (looking_node h x p tried.going) (letter x p Look ∷ []) → Arrives
      to_next (p, ps, is, after, gives) =
          let look : Message = letter x p Look in
          let turn : Turned w x (looking_node h x p tried.going) (look ∷ []) (arrived w k) = turner (looking_node h x p tried.going) (look ∷ []) refl gives in
          let next : l.going.tries ≡ p ∷ tried.going.tries = is ∙ ap (λ (qs : List ℕ). p ∷ qs) (sym after) in
          at_leaf s x leaf n (looking_node h x p tried.going) (look ∷ []) found l.is turn of_x (λ e. e) checks asks
          (λ keeps. inl record {
            target = p;
            going = tried.going;
            is = turn.here;
            members = λ q one. l.members q (inr (subst (IsOneOf q) (sym next) one));
            hope = ⊎_elim (λ early. inl early) (λ one. inr (subst (IsOneOf m) next one)) hope;
            none = none_on h up m within Early w (arrived w k) keeps x (ap (λ (q : Process). q.node.control.kept.seq) l.is) l.none;
            waits = inl (first_waits (LooksAt h up m within Early x p) look [] turn.net refl);
          })
          (λ keeps. (
            inl record {
              node = x;
              leaf = leaf;
              said = inl (let low_p = l.members p (inr (subst (IsOneOf p) (sym next) (inl refl))) in record { target = p; least = low_p.0; most = low_p.1; is = refl });
            },
            tt,
          ))

    -- a node that takes the message without a change
    same_leaf : (s : Message) (n : Node) → message_at w.net k ≡ Some s → greater s ≡ x → Is w x n → Turned w x n [] (arrived w k)
        → ((y : ℕ) → ChecksIn h up m within Early y s → ⊥) → ((p : ℕ) → RootAsks h up m within Early p s → ⊥)
        → (Keeps m w (arrived w k) → process (arrived w k) x ≡ process w x → LeafAfter x) → Arrives
    same_leaf s n found of_x is turn checks asks here =
        at_leaf s x leaf n n [] found is turn of_x (λ e. e) checks asks (λ keeps. here keeps (turn.here ∙ sym is)) (λ keeps. tt)

    -- a node that asks goes on to wait
    asks_on : (s : Message) (net : (arrived w k).net ≡ w.net ++ []) → message_at w.net k ≡ Some s → (asks : Asks h up m within Early w (length front) done x) → (AsksFor h up m within Early x s → ⊥) → (Accepts h up m within Early x s → ⊥)
        → process (arrived w k) x ≡ process w x → LeafAfter x
    asks_on s net found asks not_asked not_accepted same = inr (inr (inl record {
      going = asks.going;
      is = same ∙ asks.is;
      waits = ⊎_elim
          (λ b. ⊎_elim (λ c. inl c) (λ c. absurd (not_asked c)) (waits_on w (arrived w k) (length front) done (AsksFor h up m within Early x) [] k s net found b))
          (λ b. ⊎_elim (λ c. inr c) (λ c. absurd (not_accepted c)) (waits_on w (arrived w k) (length front) done (Accepts h up m within Early x) [] k s net found b))
          asks.waits;
    }))

    -- a node that looks goes on to wait
    looks_on : (s : Message) (net : (arrived w k).net ≡ w.net ++ []) → message_at w.net k ≡ Some s → Keeps m w (arrived w k) → (l : Looks h up m within Early w (length front) done x)
        → (LooksAt h up m within Early x l.target s → ⊥) → (l.target ≡ m → Sees h up m within Early x s → ⊥) → process (arrived w k) x ≡ process w x → LeafAfter x
    looks_on s net found keeps l not_looked not_saw same =
        inl (looks_stay h up m within Early w (arrived w k) (length front) done k s [] found net keeps x same l (⊎_elim
        (λ b. ⊎_elim (λ c. inl c) (λ c. absurd (not_looked c)) (waits_on w (arrived w k) (length front) done (LooksAt h up m within Early x l.target) [] k s net found b))
        (λ b. ⊎_elim (λ c. inr (b.0, c)) (λ c. absurd (not_saw b.0 c)) (waits_on w (arrived w k) (length front) done (Sees h up m within Early x) [] k s net found b.1))
        l.waits))

    -- A look that fails

    look_fails : (p : ℕ) → p ≤ h.chain → (p ≡ m → ⊥) → message_at w.net k ≡ Some (letter x p Look) → Arrives
    look_fails p most other found = by_state (a.leaves x leaf) where
      s : Message
      s = letter x p Look

      off : is_up w p ≡ false
      off = a.ups p ∙ down p most other

      of_x : greater (letter x p Look) ≡ x
      of_x = omega (arith, most, leaf.past)

      checks : (y : ℕ) → ChecksIn h up m within Early y (letter x p Look) → ⊥
      checks = not_checks (letter x p Look) (λ e. omega (arith, e))

      asks : (q : ℕ) → RootAsks h up m within Early q (letter x p Look) → ⊥
      asks = not_root (letter x p Look) (inr (λ e. omega (arith, e)))

      by_state : LeafIs h up m within Early w (length front) done x → Arrives
      by_state (inl l) = ⊎_elim here away (cases_eq l.target p) where
        here : l.target ≡ p → Arrives
        here same =
            let found_here : message_at w.net k ≡ Some (letter x l.target Look) = subst (λ (q : ℕ). message_at w.net k ≡ Some (letter x q Look)) (sym same) found in
            goes_on (letter x l.target Look) l (Unreachable l.target) found_here (omega (arith, most, leaf.past, same))
            (λ n2 ms me gives. failed w k (letter x l.target Look) (looking_node h x l.target l.going) n2 ms found_here refl (subst (λ (q : ℕ). is_up w q ≡ false) (sym same) off) l.is me gives)
            (leaf_told h m x some within leaf.past l.going l.target)
            (⊎_elim (λ early. inl early) (λ one. ⊎_elim (λ (e : m ≡ l.target). absurd (other (sym (e ∙ same)))) (λ later. inr later) one) l.hope)
            (not_checks (letter x l.target Look) (λ e. omega (arith, e))) (not_root (letter x l.target Look) (inr (λ e. omega (arith, e))))

        away : (l.target ≡ p → ⊥) → Arrives
        away differs =
            let n : Node = looking_node h x l.target l.going in
            let turn : Turned w x n [] (arrived w k) = failed w k s n n [] found refl off l.is refl (leaf_told_other h m x some within leaf.past l.going l.target p differs) in
            same_leaf s n found of_x l.is turn checks asks
            (λ keeps same. looks_on s turn.net found keeps l (λ e. differs (sym (ap (λ (n2 : Message). n2.to) e))) (λ at_m e. not_seen s x (λ c. omega (arith, c)) e) same)
      by_state (inr (inl idles)) =
          let n : Node = idle_node h x idles.going in
          let turn : Turned w x n [] (arrived w k) = failed w k s n n [] found refl off idles.is refl (leaf_idle_told h m x some within leaf.past idles.going p) in
          same_leaf s n found of_x idles.is turn checks asks (λ keeps same. inr (inl (idles_stay h up m within Early w (arrived w k) (length front) done k s [] found turn.net keeps x same idles)))
      by_state (inr (inr (inl asking))) =
          let n : Node = asking_node h m x asking.going in
          let turn : Turned w x n [] (arrived w k) = failed w k s n n [] found refl off asking.is refl (leaf_asking_told h m x some within leaf.past asking.going p (λ e. other (sym e))) in
          same_leaf s n found of_x asking.is turn checks asks
          (λ keeps same. asks_on s turn.net found asking (not_asks s x (λ c. omega (arith, c))) (not_accepts s x (λ c. omega (arith, c))) same)
      by_state (inr (inr (inr joins))) =
          let n : Node = joined_node h m x joins.going joins.rank (search_of joins.review) in
          let turn : Turned w x n [] (arrived w k) =
          failed w k s n n [] found refl off joins.is refl (leaf_joined_told h m x some within leaf.past joins.going joins.rank joins.review p (λ e. other (sym e))) in
          same_leaf s n found of_x joins.is turn checks asks (λ keeps same. inr (inr (inr (joins_stay h up m within Early w (arrived w k) (length front) done k s [] found turn.net keeps x same joins))))

    -- A position, an acceptance, an acknowledgement

    seen_arrives : (b : Bool) (r : ℕ) (cs : List Child) → (b ≡ true) ⊎ Early → (b ≡ true → Acts m w) → message_at w.net k ≡ Some (letter m x (LookIs b None r cs)) → Arrives
    seen_arrives b r cs when acts found = by_state (a.leaves x leaf) where
      s : Message
      s = letter m x (LookIs b None r cs)

      of_x : greater (letter m x (LookIs b None r cs)) ≡ x
      of_x = omega (arith, within, leaf.past)

      checks : (y : ℕ) → ChecksIn h up m within Early y (letter m x (LookIs b None r cs)) → ⊥
      checks = not_checks (letter m x (LookIs b None r cs)) (λ e. omega (arith, e))

      asks : (q : ℕ) → RootAsks h up m within Early q (letter m x (LookIs b None r cs)) → ⊥
      asks = not_root (letter m x (LookIs b None r cs)) (inr (λ e. omega (arith, e)))

      -- at a descent that looks at m
      at_m : (l : Looks h up m within Early w (length front) done x) → l.target ≡ m → (c : Bool) → (c ≡ true) ⊎ Early → (c ≡ true → Acts m w) → message_at w.net k ≡ Some (letter m x (LookIs c None r cs)) → Arrives
      at_m l same true when acts found_here =
          let n : Node = looking_node h x m l.going in
          let is : Is w x n = subst (λ (p : ℕ). Is w x (looking_node h x p l.going)) same l.is in
          let next : Node = asking_node h m x l.going in
          let ask : Message = letter x m (Ask 1 None) in
          let turn : Turned w x next (ask ∷ []) (arrived w k) = taken w k (letter m x (LookIs true None r cs)) n next (ask ∷ []) found_here is refl (leaf_asks h m x some within leaf.past l.going r cs) in
          at_leaf (letter m x (LookIs true None r cs)) x leaf n next (ask ∷ []) found_here is turn (omega (arith, within, leaf.past)) (λ _. refl)
          (not_checks (letter m x (LookIs true None r cs)) (λ e. omega (arith, e))) (not_root (letter m x (LookIs true None r cs)) (inr (λ e. omega (arith, e))))
          (λ keeps. inr (inr (inl record { going = l.going; is = turn.here; waits = inl (first_waits (AsksFor h up m within Early x) ask [] turn.net refl) })))
          (λ keeps. (inl record { node = x; leaf = leaf; said = inr (inr (inl (refl, keeps.acts (acts refl), ap (λ (p : Process). p.node.control.kept.seq) turn.here))) }, tt))
      at_m l same false when acts found_here =
          let i : Message = letter m x (LookIs false None r cs) in
          goes_on i l (Delivered i) found_here (omega (arith, within, leaf.past))
          (λ n2 ms me gives. taken w k i (looking_node h x l.target l.going) n2 ms found_here l.is me gives)
          (subst (λ (p : ℕ). Tried h m x some within leaf.past l.going (Delivered i) (looking_node h x p l.going)) (sym same) (leaf_passes h m x some within leaf.past l.going r cs))
          (⊎_elim (λ e. let clash : false ≡ true = e in absurd cc) (λ early. inl early) when)
          (not_checks i (λ e. omega (arith, e))) (not_root i (inr (λ e. omega (arith, e))))

      by_state : LeafIs h up m within Early w (length front) done x → Arrives
      by_state (inl l) = ⊎_elim (λ same. at_m l same b when acts found) away (cases_eq l.target m) where
        away : (l.target ≡ m → ⊥) → Arrives
        away differs =
            let n : Node = looking_node h x l.target l.going in
            let turn : Turned w x n [] (arrived w k) = taken w k s n n [] found l.is refl (leaf_looking_seen h m x some within leaf.past l.going l.target b r cs differs) in
            same_leaf s n found of_x l.is turn checks asks
            (λ keeps same. looks_on s turn.net found keeps l (not_looks s x l.target (λ c. omega (arith, c))) (λ at_it e. differs at_it) same)
      by_state (inr (inl idles)) =
          let n : Node = idle_node h x idles.going in
          let turn : Turned w x n [] (arrived w k) = taken w k s n n [] found idles.is refl (leaf_idle_seen h m x some within leaf.past idles.going b r cs) in
          same_leaf s n found of_x idles.is turn checks asks (λ keeps same. inr (inl (idles_stay h up m within Early w (arrived w k) (length front) done k s [] found turn.net keeps x same idles)))
      by_state (inr (inr (inl asking))) =
          let n : Node = asking_node h m x asking.going in
          let turn : Turned w x n [] (arrived w k) = taken w k s n n [] found asking.is refl (leaf_asking_seen h m x some within leaf.past asking.going b r cs) in
          same_leaf s n found of_x asking.is turn checks asks
          (λ keeps same. asks_on s turn.net found asking (not_asks s x (λ c. omega (arith, c))) (not_accepts s x (λ c. omega (arith, c))) same)
      by_state (inr (inr (inr joins))) =
          let n : Node = joined_node h m x joins.going joins.rank (search_of joins.review) in
          let next : Node = joined_node h m x joins.going joins.rank None in
          let turn : Turned w x next [] (arrived w k) = taken w k s n next [] found joins.is refl (leaf_joined_seen h m x some within leaf.past joins.going joins.rank joins.review b r cs) in
          at_leaf s x leaf n next [] found joins.is turn of_x (λ e. e) checks asks
          (λ keeps. inr (inr (inr record { going = joins.going; rank = joins.rank; review = false; is = turn.here; row = keeps.rows x joins.row }))) (λ keeps. tt)

    yes_arrives : (e : ℕ) → HasRow m w x → message_at w.net k ≡ Some (letter m x (Yes 1 (top e) [])) → Arrives
    yes_arrives e row found = by_state (a.leaves x leaf) where
      s : Message
      s = letter m x (Yes 1 (top e) [])

      of_x : greater (letter m x (Yes 1 (top e) [])) ≡ x
      of_x = omega (arith, within, leaf.past)

      checks : (y : ℕ) → ChecksIn h up m within Early y (letter m x (Yes 1 (top e) [])) → ⊥
      checks = not_checks (letter m x (Yes 1 (top e) [])) (λ c. omega (arith, c))

      asks : (q : ℕ) → RootAsks h up m within Early q (letter m x (Yes 1 (top e) [])) → ⊥
      asks = not_root (letter m x (Yes 1 (top e) [])) (inr (λ c. omega (arith, c)))

      by_state : LeafIs h up m within Early w (length front) done x → Arrives
      by_state (inl l) =
          let n : Node = looking_node h x l.target l.going in
          let turn : Turned w x n [] (arrived w k) = taken w k s n n [] found l.is refl (leaf_looking_yes h m x some within leaf.past l.going l.target e) in
          same_leaf s n found of_x l.is turn checks asks
          (λ keeps same. looks_on s turn.net found keeps l (not_looks s x l.target (λ c. omega (arith, c))) (λ at_it d. not_seen s x (λ c. omega (arith, c)) d) same)
      by_state (inr (inl idles)) =
          let n : Node = idle_node h x idles.going in
          let turn : Turned w x n [] (arrived w k) = taken w k s n n [] found idles.is refl (leaf_idle_yes h m x some within leaf.past idles.going e) in
          same_leaf s n found of_x idles.is turn checks asks (λ keeps same. inr (inl (idles_stay h up m within Early w (arrived w k) (length front) done k s [] found turn.net keeps x same idles)))
      by_state (inr (inr (inl asking))) =
          let n : Node = asking_node h m x asking.going in
          let going : Going = record (asking.going) { due = None; tries = [] } in
          let next : Node = joined_node h m x going (beneath_of (top e)) None in
          let turn : Turned w x next [] (arrived w k) = taken w k s n next [] found asking.is refl (leaf_joins h m x some within leaf.past asking.going e) in
          at_leaf s x leaf n next [] found asking.is turn of_x (λ c. c) checks asks
          (λ keeps. inr (inr (inr record { going = going; rank = beneath_of (top e); review = false; is = turn.here; row = keeps.rows x row }))) (λ keeps. tt)
      by_state (inr (inr (inr joins))) =
          let n : Node = joined_node h m x joins.going joins.rank (search_of joins.review) in
          let turn : Turned w x n [] (arrived w k) = taken w k s n n [] found joins.is refl (leaf_joined_yes h m x some within leaf.past joins.going joins.rank (search_of joins.review) e) in
          same_leaf s n found of_x joins.is turn checks asks (λ keeps same. inr (inr (inr (joins_stay h up m within Early w (arrived w k) (length front) done k s [] found turn.net keeps x same joins))))

    ack_arrives : (e : ℕ) → message_at w.net k ≡ Some (letter m x (CheckAck 1 0 (top e) [])) → Arrives
    ack_arrives e found = by_state (a.leaves x leaf) where
      s : Message
      s = letter m x (CheckAck 1 0 (top e) [])

      of_x : greater (letter m x (CheckAck 1 0 (top e) [])) ≡ x
      of_x = omega (arith, within, leaf.past)

      checks : (y : ℕ) → ChecksIn h up m within Early y (letter m x (CheckAck 1 0 (top e) [])) → ⊥
      checks = not_checks (letter m x (CheckAck 1 0 (top e) [])) (λ c. omega (arith, c))

      asks : (q : ℕ) → RootAsks h up m within Early q (letter m x (CheckAck 1 0 (top e) [])) → ⊥
      asks = not_root (letter m x (CheckAck 1 0 (top e) [])) (inr (λ c. omega (arith, c)))

      by_state : LeafIs h up m within Early w (length front) done x → Arrives
      by_state (inl l) =
          let n : Node = looking_node h x l.target l.going in
          let turn : Turned w x n [] (arrived w k) = taken w k s n n [] found l.is refl (leaf_looking_ack h m x some within leaf.past l.going l.target e) in
          same_leaf s n found of_x l.is turn checks asks
          (λ keeps same. looks_on s turn.net found keeps l (not_looks s x l.target (λ c. omega (arith, c))) (λ at_it d. not_seen s x (λ c. omega (arith, c)) d) same)
      by_state (inr (inl idles)) =
          let n : Node = idle_node h x idles.going in
          let turn : Turned w x n [] (arrived w k) = taken w k s n n [] found idles.is refl (leaf_idle_ack h m x some within leaf.past idles.going e) in
          same_leaf s n found of_x idles.is turn checks asks (λ keeps same. inr (inl (idles_stay h up m within Early w (arrived w k) (length front) done k s [] found turn.net keeps x same idles)))
      by_state (inr (inr (inl asking))) =
          let n : Node = asking_node h m x asking.going in
          let turn : Turned w x n [] (arrived w k) = taken w k s n n [] found asking.is refl (leaf_asking_ack h m x some within leaf.past asking.going e) in
          same_leaf s n found of_x asking.is turn checks asks
          (λ keeps same. asks_on s turn.net found asking (not_asks s x (λ c. omega (arith, c))) (not_accepts s x (λ c. omega (arith, c))) same)
      by_state (inr (inr (inr joins))) =
          let n : Node = joined_node h m x joins.going joins.rank (search_of joins.review) in
          let acked = leaf_acked h m x some within leaf.past joins.going joins.rank (search_of joins.review) e in
          let next : Node = joined_node h m x joins.going acked.0 (search_of joins.review) in
          let turn : Turned w x next [] (arrived w k) = taken w k s n next [] found joins.is refl acked.1 in
          at_leaf s x leaf n next [] found joins.is turn of_x (λ c. c) checks asks
          (λ keeps. inr (inr (inr record { going = joins.going; rank = acked.0; review = joins.review; is = turn.here; row = keeps.rows x joins.row }))) (λ keeps. tt)

    -- At m

    -- m answers a look, and x waits for that
    answered : (b : Bool) (n : Node) → (b ≡ true) ⊎ Early → (b ≡ true → Acts m w) → message_at w.net k ≡ Some (letter x m Look) → Is w m n → n.control.me ≡ m → Shows h m some within b n x → Arrives
    answered b n when acts found is me shows =
        let s : Message = letter x m Look in
        let answer : Message = letter m x (LookIs b None 0 shows.children) in
        let turn : Turned w m n (answer ∷ []) (arrived w k) = taken w k s n n (answer ∷ []) found is me shows.gives in
        let sees : Sees h up m within Early x answer = record { in_tree = b; rate = 0; children = shows.children; when = when; is = refl } in
        calm s (answer ∷ []) x n m found is turn (omega (arith, within, leaf.past)) (not_checks s (λ e. omega (arith, e))) (λ r. not_root s (inr (λ e. omega (arith, e))) r.peer)
        (λ keeps same _. leaf_stays h up m within Early w (arrived w k) (length front) done k s (answer ∷ []) found turn.net keeps x (same x) (a.leaves x leaf)
        (λ l e. inr (sym (ap (λ (n2 : Message). n2.to) e), first_waits (Sees h up m within Early x) answer [] turn.net sees))
        (λ l at_it e. not_seen s x (λ c. omega (arith, c)) e)
        (λ e. absurd (not_asks s x (λ c. omega (arith, c)) e)) (not_accepts s x (λ c. omega (arith, c))))
        (λ keeps. (inl record { node = x; leaf = leaf; said = inr (inl (sees, λ e. keeps.acts (acts e))) }, tt))

    look_arrives : message_at w.net k ≡ Some (letter x m Look) → Arrives
    look_arrives found = ⊎_elim
        (λ root. let r : RootIs h up m within Early w = root.0 in
        answered true (root_node h m r.asks r.epoch r.table r.soft r.ends r.rates) (inl refl) (λ _. ap (λ (p : Process). p.node.control.kept.mode) r.is) found r.is refl
        (root_looked h m some within r.asks r.epoch r.table r.soft r.ends r.rates x))
        (λ r. answered false (rising_node h m r.asks r.peer r.going) (inr r.early) (λ e. let clash : false ≡ true = e in absurd cc) found r.is refl (rising_looked h m some within r.asks r.peer r.going x))
        a.root

    -- no other change of x
    unmoved : (s : Message) (ms : List Message) → message_at w.net k ≡ Some s → (arrived w k).net ≡ w.net ++ ms → Keeps m w (arrived w k) → process (arrived w k) x ≡ process w x
        → ((p : ℕ) → LooksAt h up m within Early x p s → ⊥) → (Sees h up m within Early x s → ⊥) → (AsksFor h up m within Early x s → WaitsAfter (AsksFor h up m within Early x) ⊎ WaitsAfter (Accepts h up m within Early x))
        → (Accepts h up m within Early x s → ⊥) → LeafAfter x
    unmoved s ms found net keeps same not_looked not_saw asked not_accepted =
        leaf_stays h up m within Early w (arrived w k) (length front) done k s ms found net keeps x same (a.leaves x leaf)
        (λ l e. absurd (not_looked l.target e)) (λ l at_it e. not_saw e) asked not_accepted

    fetch_arrives : (have : List Shelf) → Acts m w → message_at w.net k ≡ Some (letter x m (Fetch have)) → Arrives
    fetch_arrives have acts found = ⊎_elim by_root (λ r. absurd (not_rising r)) a.root where
      s : Message
      s = letter x m (Fetch have)

      not_rising : Rising h up m within Early w (length front) done → ⊥
      not_rising r = let clash : Asking r.peer ≡ Acting = sym (ap (λ (p : Process). p.node.control.kept.mode) r.is) ∙ acts in cc

      by_root : (r : RootIs h up m within Early w) × AreFresh h up m within Early w (length front) done r → Arrives
      by_root (r, fresh) =
          let n : Node = root_node h m r.asks r.epoch r.table r.soft r.ends r.rates in
          let turn : Turned w m n [] (arrived w k) = taken w k s n n [] found r.is refl (root_fetched h m some within r.asks r.epoch r.table r.soft r.ends r.rates x have) in
          calm s [] x n m found r.is turn (omega (arith, within, leaf.past)) (not_checks s (λ e. omega (arith, e))) (λ rising. not_root s (inr (λ e. omega (arith, e))) rising.peer)
          (λ keeps same _. unmoved s [] found turn.net keeps (same x) (λ p. not_looks s x p (λ c. omega (arith, c))) (not_seen s x (λ c. omega (arith, c)))
          (λ e. absurd (not_asks s x (λ c. omega (arith, c)) e)) (not_accepts s x (λ c. omega (arith, c))))
          (λ keeps. tt)

    -- m renews the lease of x: its table has the same rows, and that of x
    module _ (r : RootIs h up m within Early w) (fresh : AreFresh h up m within Early w (length front) done r) where
      renews : (s answer : Message) (table : List Cert) (rates : List ℕ) → message_at w.net k ≡ Some s
          → Turned w m (root_node h m r.asks r.epoch table r.soft (renew r.ends x r.soft.clock) rates) (answer ∷ []) (arrived w k)
          → greater s ≡ x → ((y : ℕ) → ChecksIn h up m within Early y s → y ≡ x)
          → AreRows h up m table → ((y : ℕ) → Row m r.table y → Row m table y) → ((y : ℕ) → (x ≡ y → ⊥) → Row m table y → Row m r.table y)
          → ((y : ℕ) → Row m table y → Row m r.table y ⊎ HasAsked w y)
          → (Keeps m w (arrived w k) → LeafAfter x) → (HasRow m (arrived w k) x → IsKnown h up m within Early (arrived w k) answer) → Row m table x → Arrives
      renews s answer table rates found turn of_x checks rows more less fewer here new row =
          let was : table_of w m ≡ r.table = ap (λ (p : Process). p.node.control.kept.table) r.is in
          let becomes : table_of (arrived w k) m ≡ table = ap (λ (p : Process). p.node.control.kept.table) turn.here in
          let keeps : Keeps m w (arrived w k) = record {
            rows = λ y old_row. subst (λ (t : List Cert). Row m t y) (sym becomes) (more y (subst (λ (t : List Cert). Row m t y) was old_row));
            fewer = λ y new_row. ⊎_elim (λ e. inl (subst (λ (t : List Cert). Row m t y) (sym was) e)) (λ e. inr e) (fewer y (subst (λ (t : List Cert). Row m t y) becomes new_row));
            acts = λ _. ap (λ (p : Process). p.node.control.kept.mode) turn.here;
            asked = λ y other asked. ap (λ (p : Process). p.node.control.kept.seq) (turn.others y other) ∙ asked;
          } in
          let root : RootIs h up m within Early (arrived w k) = record {
            asks = r.asks;
            epoch = r.epoch;
            table = table;
            soft = r.soft;
            ends = renew r.ends x r.soft.clock;
            rates = rates;
            is = turn.here;
            search = r.search;
            some = r.some;
            rows = rows;
            size = length-set r.ends (x - 1) (Some (r.soft.clock + 30)) ∙ r.size;
          } in
          let fresh_after : AreFresh h up m within Early (arrived w k) (length front) (k ∷ done) root = λ y is has. ⊎_elim
          (λ (same : x ≡ y).
          inl (subst (λ (z : ℕ). end_of (renew r.ends x r.soft.clock) z ≡ Some (r.soft.clock + 30)) same (renewed r.ends x r.soft.clock (omega (arith, leaf.past)) (omega (arith, leaf.within, r.size)))))
          (λ other. ⊎_elim
          (λ e. inl (renewed_other r.ends x y r.soft.clock (omega (arith, leaf.past)) (omega (arith, is.past)) other ∙ e))
          (λ waits. ⊎_elim (λ b. inr b) (λ b. absurd (other (sym (checks y b)))) (waits_on w (arrived w k) (length front) done (ChecksIn h up m within Early y) (answer ∷ []) k s turn.net found waits))
          (fresh y is (less y other has)))
          (cases_eq x y) in
          assemble h up m within Early w (arrived w k) front done k s (answer ∷ []) found turn.net keeps a x of_x
          (ups_on h up m within Early w (arrived w k) m (root_node h m r.asks r.epoch r.table r.soft r.ends r.rates) (root_node h m r.asks r.epoch table r.soft (renew r.ends x r.soft.clock) rates) (answer ∷ []) r.is turn)
          (λ y is other. turn.others y (top_apart h up m within Early y is))
          (inl (root, fresh_after)) (λ _. here keeps) (new (subst (λ (t : List Cert). Row m t x) (sym becomes) row), tt) low

      check_in_at_root : (rate : ℕ) → HasRow m w x → message_at w.net k ≡ Some (letter x m (CheckIn 1 0 rate 0 0 [])) → Arrives
      check_in_at_root rate has found =
          let s : Message = letter x m (CheckIn 1 0 rate 0 0 []) in
          let n : Node = root_node h m r.asks r.epoch r.table r.soft r.ends r.rates in
          let rates : List ℕ = put_at r.rates x rate in
          let next : Node = root_node h m r.asks r.epoch r.table r.soft (renew r.ends x r.soft.clock) rates in
          let answer : Message = letter m x (CheckAck 1 0 (top r.epoch) []) in
          let row : Row m r.table x = subst (λ (t : List Cert). Row m t x) (ap (λ (p : Process). p.node.control.kept.table) r.is) has in
          let turn : Turned w m next (answer ∷ []) (arrived w k) =
          taken w k s n next (answer ∷ []) found r.is refl (root_checked_in h m some within r.asks r.epoch r.table r.soft r.ends r.rates x rate row) in
          renews s answer r.table rates found turn (omega (arith, within, leaf.past)) (λ y e. sym (ap (λ (n2 : Message). n2.from) e.1)) r.rows (λ y e. e) (λ y other e. e) (λ y e. inl e)
          (λ keeps. unmoved s (answer ∷ []) found turn.net keeps (turn.others x (λ e. apart (sym e))) (λ p. not_looks s x p (λ c. omega (arith, c))) (not_seen s x (λ c. omega (arith, c)))
          (λ e. absurd (not_asks s x (λ c. omega (arith, c)) e)) (not_accepts s x (λ c. omega (arith, c))))
          (λ has_row. inl record { node = x; leaf = leaf; said = inr (inr (inr (inr (inr (inl (r.epoch, refl)))))) })
          row

      ask_at_root : HasAsked w x → message_at w.net k ≡ Some (letter x m (Ask 1 None)) → Arrives
      ask_at_root asked found = ⊎_elim to_new again (row_or_none h up m r.table x r.rows) where
        s : Message
        s = letter x m (Ask 1 None)

        answer : Message
        answer = letter m x (Yes 1 (top r.epoch) [])

        -- x waits for the answer
        here : (n : Node) → Turned w m n (letter m x (Yes 1 (top r.epoch) []) ∷ []) (arrived w k) → Keeps m w (arrived w k) → LeafAfter x
        here n turn keeps =
            unmoved (letter x m (Ask 1 None)) (letter m x (Yes 1 (top r.epoch) []) ∷ []) found turn.net keeps (turn.others x (λ e. apart (sym e)))
            (λ p. not_looks (letter x m (Ask 1 None)) x p (λ c. omega (arith, c))) (not_seen (letter x m (Ask 1 None)) x (λ c. omega (arith, c)))
            (λ _. inr (first_waits (Accepts h up m within Early x) (letter m x (Yes 1 (top r.epoch) [])) [] turn.net (r.epoch, refl)))
            (not_accepts (letter x m (Ask 1 None)) x (λ c. omega (arith, c)))

        again : Row m r.table x → Arrives
        again row =
            let n : Node = root_node h m r.asks r.epoch r.table r.soft r.ends r.rates in
            let next : Node = root_node h m r.asks r.epoch r.table r.soft (renew r.ends x r.soft.clock) r.rates in
            let turn : Turned w m next (answer ∷ []) (arrived w k) =
            taken w k s n next (answer ∷ []) found r.is refl (root_asked_again h m some within r.asks r.epoch r.table r.soft r.ends r.rates x r.some apart (no_member h up m r.table x r.rows) row) in
            renews s answer r.table r.rates found turn (omega (arith, within, leaf.past)) (λ y e. absurd (not_checks s (λ c. omega (arith, c)) y e)) r.rows (λ y e. e) (λ y other e. e) (λ y e. inl e) (here next turn)
            (λ has. inl record { node = x; leaf = leaf; said = inr (inr (inr (inl ((r.epoch, refl), has)))) })
            row

        to_new : newest r.table x ≡ None → Arrives
        to_new none =
            let n : Node = root_node h m r.asks r.epoch r.table r.soft r.ends r.rates in
            let table : List Cert = put r.table (birth x 1 m) in
            let next : Node = root_node h m r.asks r.epoch table r.soft (renew r.ends x r.soft.clock) r.rates in
            let turn : Turned w m next (answer ∷ []) (arrived w k) =
            taken w k s n next (answer ∷ []) found r.is refl (root_asked h m some within r.asks r.epoch r.table r.soft r.ends r.rates x r.some apart (no_member h up m r.table x r.rows) none) in
            let row : Row m table x = newest-put_same r.table (birth x 1 m) x refl in
            let less : (y : ℕ) → (x ≡ y → ⊥) → Row m table y → Row m r.table y = λ y other e. sym (newest-put_other r.table (birth x 1 m) y other) ∙ e in
            renews s answer table r.rates found turn (omega (arith, within, leaf.past)) (λ y e. absurd (not_checks s (λ c. omega (arith, c)) y e))
            (rows_put h up m r.table (birth x 1 m) (record { is = refl; leaf = leaf }) r.rows)
            (λ y e. ⊎_elim (λ (same : x ≡ y). subst (Row m table) same row) (λ other. newest-put_other r.table (birth x 1 m) y other ∙ e) (cases_eq x y))
            less
            (λ y e. ⊎_elim (λ (same : x ≡ y). inr (subst (HasAsked w) same asked)) (λ other. inl (less y other e)) (cases_eq x y))
            (here next turn)
            (λ has. inl record { node = x; leaf = leaf; said = inr (inr (inr (inl ((r.epoch, refl), has)))) })
            row

    check_in_arrives : (rate : ℕ) → HasRow m w x → message_at w.net k ≡ Some (letter x m (CheckIn 1 0 rate 0 0 [])) → Arrives
    check_in_arrives rate has found = ⊎_elim (λ root. check_in_at_root root.0 root.1 rate has found) (λ r. absurd (not_rising r)) a.root where
      not_rising : Rising h up m within Early w (length front) done → ⊥
      not_rising r = let clash : None ≡ Some (birth x 1 m) = sym (ap (λ (p : Process). newest p.node.control.kept.table x) r.is) ∙ has in cc

    ask_arrives : Acts m w → HasAsked w x → message_at w.net k ≡ Some (letter x m (Ask 1 None)) → Arrives
    ask_arrives acts asked found = ⊎_elim (λ root. ask_at_root root.0 root.1 asked found) (λ r. absurd (not_rising r)) a.root where
      not_rising : Rising h up m within Early w (length front) done → ⊥
      not_rising r = let clash : Asking r.peer ≡ Acting = sym (ap (λ (p : Process). p.node.control.kept.mode) r.is) ∙ acts in cc

    leaf_arrives : (s : Message) → message_at w.net k ≡ Some s → IsSaid h up m within Early w x s → Arrives
    leaf_arrives s found (inl e) = ⊎_elim
        (λ (same : e.target ≡ m). look_arrives (subst (λ (p : ℕ). message_at w.net k ≡ Some (letter x p Look)) same (found ∙ ap Some e.is)))
        (λ other. look_fails e.target e.most other (found ∙ ap Some e.is))
        (cases_eq e.target m)
    leaf_arrives s found (inr (inl e)) = seen_arrives e.0.in_tree e.0.rate e.0.children e.0.when e.1 (found ∙ ap Some e.0.is)
    leaf_arrives s found (inr (inr (inl e))) = ask_arrives e.1 e.2 (found ∙ ap Some e.0)
    leaf_arrives s found (inr (inr (inr (inl e)))) = yes_arrives e.0.0 e.1 (found ∙ ap Some e.0.1)
    leaf_arrives s found (inr (inr (inr (inr (inl e))))) = check_in_arrives e.0.0 e.1 (found ∙ ap Some e.0.1)
    leaf_arrives s found (inr (inr (inr (inr (inr (inl e)))))) = ack_arrives e.0 (found ∙ ap Some e.1)
    leaf_arrives s found (inr (inr (inr (inr (inr (inr e)))))) = fetch_arrives e.0.0 e.1 (found ∙ ap Some e.0.1)

  -- What m is told of earlier members

  is_down : (p : ℕ) → p < m → is_up w p ≡ false
  is_down p less = a.ups p ∙ down p (omega (arith, less, within)) (λ e. omega (arith, e, less))

  -- m changes, and no row
  moves : (s : Message) (ms : List Message) (n n2 : Node) → message_at w.net k ≡ Some s → Is w m n → Turned w m n2 ms (arrived w k) → greater s ≡ m → (n.control.kept.mode ≡ Acting → n2.control.kept.mode ≡ Acting)
      → n2.control.kept.table ≡ n.control.kept.table → (Keeps m w (arrived w k) → TopIs h up m within Early (arrived w k) (length front) (k ∷ done)) → KnownAfter ms → Arrives
  moves s ms n n2 found is turn of_m mode table root new =
      let same : table_of (arrived w k) m ≡ table_of w m = ap (λ (p : Process). p.node.control.kept.table) turn.here ∙ (table ∙ sym (ap (λ (p : Process). p.node.control.kept.table) is)) in
      let keeps : Keeps m w (arrived w k) = record {
        rows = λ y row. subst (λ (t : List Cert). Row m t y) (sym same) row;
        fewer = λ y row. inl (subst (λ (t : List Cert). Row m t y) same row);
        acts = λ acts. ap (λ (p : Process). p.node.control.kept.mode) turn.here ∙ mode (sym (ap (λ (p : Process). p.node.control.kept.mode) is) ∙ acts);
        asked = λ y other asked. ap (λ (p : Process). p.node.control.kept.seq) (turn.others y other) ∙ asked;
      } in
      assemble h up m within Early w (arrived w k) front done k s ms found turn.net keeps a m of_m (ups_on h up m within Early w (arrived w k) m n n2 ms is turn)
      (λ y leaf_y other. turn.others y other) (root keeps) (λ leaf. absurd (top_apart h up m within Early m leaf refl)) new low

  -- the root hears that an earlier member is down
  root_hears : (r : RootIs h up m within Early w) → AreFresh h up m within Early w (length front) done r → (p : ℕ) (s : Message) → message_at w.net k ≡ Some s → greater s ≡ m
      → ((n n2 : Node) (ms : List Message) → Is w m n → n2.control.me ≡ m → Gives n (Unreachable p) n2 ms → Turned w m n2 ms (arrived w k)) → ((y : ℕ) → ChecksIn h up m within Early y s → ⊥) → Arrives
  root_hears r fresh p s found of_m turner checks =
      let n : Node = root_node h m r.asks r.epoch r.table r.soft r.ends r.rates in
      let turn : Turned w m n [] (arrived w k) = turner n n [] r.is refl (root_told h m some within r.asks r.epoch r.table r.soft r.ends r.rates p r.search) in
      let same : process (arrived w k) m ≡ process w m = turn.here ∙ sym r.is in
      moves s [] n n found r.is turn of_m (λ e. e) refl
      (λ keeps. inl (
        root_stays h up m within Early w (arrived w k) (length front) done k s [] found turn.net keeps r same,
        fresh_stays h up m within Early w (arrived w k) (length front) done k s [] found turn.net keeps r fresh same checks,
      ))
      tt

  -- it looked there
  earlier_look : (p : ℕ) → p < m → Acts m w → message_at w.net k ≡ Some (letter m p Look) → Arrives
  earlier_look p less acts found = ⊎_elim
      (λ root. root_hears root.0 root.1 p (letter m p Look) found (omega (arith, less))
      (λ n n2 ms is me gives. failed w k (letter m p Look) n n2 ms found refl (is_down p less) is me gives) (not_checks (letter m p Look) (λ e. omega (arith, e))))
      (λ r. absurd (not_rising r)) a.root where
        not_rising : Rising h up m within Early w (length front) done → ⊥
        not_rising r = let clash : Asking r.peer ≡ Acting = sym (ap (λ (q : Process). q.node.control.kept.mode) r.is) ∙ acts in cc

  -- it asked there
  earlier_ask : (q p : ℕ) → p < m → message_at w.net k ≡ Some (letter m p (Ask q None)) → Arrives
  earlier_ask q p less found = ⊎_elim
      (λ root. root_hears root.0 root.1 p (letter m p (Ask q None)) found of_m turner (not_checks (letter m p (Ask q None)) (λ e. omega (arith, e))))
      by_rising a.root where
        s : Message
        s = letter m p (Ask q None)

        of_m : greater (letter m p (Ask q None)) ≡ m
        of_m = omega (arith, less)

        turner : (n n2 : Node) (ms : List Message) → Is w m n → n2.control.me ≡ m → Gives n (Unreachable p) n2 ms → Turned w m n2 ms (arrived w k)
        turner n n2 ms is me gives = failed w k (letter m p (Ask q None)) n n2 ms found refl (is_down p less) is me gives

        by_rising : Rising h up m within Early w (length front) done → Arrives
        by_rising r = ⊎_elim here away (cases_eq r.peer p) where
          away : (r.peer ≡ p → ⊥) → Arrives
          away other =
              let n : Node = rising_node h m r.asks r.peer r.going in
              let turn : Turned w m n [] (arrived w k) = turner n n [] r.is refl (rising_told h m some within r.asks r.peer r.going p other) in
              moves s [] n n found r.is turn of_m (λ e. e) refl
              (λ keeps. inr record {
                asks = r.asks;
                peer = r.peer;
                going = r.going;
                is = turn.here;
                silent = r.silent;
                earlier = r.earlier;
                few = r.few;
                early = r.early;
                waits = ⊎_elim (λ b. b) (λ b. absurd (other (sym (ap (λ (n2 : Message). n2.to) b.1))))
                    (waits_on w (arrived w k) (length front) done (RootAsks h up m within Early r.peer) [] k s turn.net found r.waits);
              })
              tt

          here : r.peer ≡ p → Arrives
          here same = ⊎_elim reign next (root_goes_on h m some within r.asks r.peer r.going more r.silent room) where
            more : 2 ≤ m
            more = let first = r.earlier r.peer (inl refl) in omega (arith, first.0, first.1)

            room : (r.asks == number_end) ≡ false
            room = ne_eqb r.asks number_end (λ e. omega (arith, e, r.few))

            reign : (r.going.tries ≡ []) × Reigns h m r.asks (rising_node h m r.asks r.peer r.going) (Unreachable r.peer) → Arrives
            reign (empty, reigns) =
                let n : Node = rising_node h m r.asks r.peer r.going in
                let next_node : Node = root_node h m r.asks 1 [] reigns.soft (new_control h m).leases (new_control h m).rates in
                let turn : Turned w m next_node [] (arrived w k) = turner n next_node [] r.is refl (subst (λ (z : ℕ). Gives n (Unreachable z) next_node []) same reigns.gives) in
                let root : RootIs h up m within Early (arrived w k) = record {
                  asks = r.asks;
                  epoch = 1;
                  table = [];
                  soft = reigns.soft;
                  ends = (new_control h m).leases;
                  rates = (new_control h m).rates;
                  is = turn.here;
                  search = reigns.search;
                  some = omega arith;
                  rows = tt;
                  size = length-replicate h.nodes None;
                } in
                moves s [] n next_node found r.is turn of_m (λ _. refl) refl
                (λ keeps. inl (root, λ y leaf row. let clash : None ≡ Some (birth y 1 m) = row in absurd cc)) tt

            next : (p2 : ℕ) × (ps : List ℕ) × (r.going.tries ≡ p2 ∷ ps) × Asked h m some within r.asks r.peer p2 r.going ps → Arrives
            next (p2, ps, is, asked) =
                let n : Node = rising_node h m r.asks r.peer r.going in
                let next_node : Node = rising_node h m (r.asks + 1) p2 asked.going in
                let ask : Message = letter m p2 (Ask (r.asks + 1) None) in
                let turn : Turned w m next_node (ask ∷ []) (arrived w k) = turner n next_node (ask ∷ []) r.is refl (subst (λ (z : ℕ). Gives n (Unreachable z) next_node (ask ∷ [])) same asked.gives) in
                let tries : r.going.tries ≡ p2 ∷ asked.going.tries = is ∙ ap (λ (qs : List ℕ). p2 ∷ qs) (sym asked.tries) in
                let low_p = r.earlier p2 (inr (subst (IsOneOf p2) (sym tries) (inl refl))) in
                moves s (ask ∷ []) n next_node found r.is turn of_m (λ e. let clash : Asking r.peer ≡ Acting = e in absurd cc) refl
                (λ keeps. inr record {
                  asks = r.asks + 1;
                  peer = p2;
                  going = asked.going;
                  is = turn.here;
                  silent = asked.silent;
                  earlier = λ z one. r.earlier z (inr (subst (IsOneOf z) (sym tries) one));
                  few = omega (arith, r.few, ap length tries);
                  early = r.early;
                  waits = first_waits (RootAsks h up m within Early p2) ask [] turn.net (r.asks + 1, refl);
                })
                (inr (inl record { peer = p2; least = low_p.0; most = low_p.1; is = (r.asks + 1, refl) }), tt)

  known_arrives : (s : Message) → message_at w.net k ≡ Some s → IsKnown h up m within Early w s → Arrives
  known_arrives s found (inl e) = leaf_arrives e.node e.leaf s found e.said
  known_arrives s found (inr (inl e)) = earlier_ask e.is.0 e.peer e.most (found ∙ ap Some e.is.1)
  known_arrives s found (inr (inr e)) = earlier_look e.0.earlier e.0.most e.1 (found ∙ ap Some e.0.is)

-- each message of the round may arrive
pub arrives : (h : Header) (up : ℕ → Bool) (m : ℕ) (within : m ≤ h.chain) (Early : Type 0) → 1 ≤ m → ((p : ℕ) → p ≤ h.chain → (p ≡ m → ⊥) → up p ≡ false) → (w : World) (front : List Message) (done : List ℕ)
    → Arriving h up m within Early w front done → (k : ℕ) → length front < k → k ≤ length w.net → Arriving h up m within Early (arrived w k) front (k ∷ done)
arrives h up m within Early some down w front done a k past low =
    let found = at_some w.net k (omega (arith, past)) low in
    known_arrives h up m within Early some down w front done a k low found.0 found.1
    (at_after (IsKnown h up m within Early w) front a.later k found.0 past (subst (λ (all : List Message). message_at all k ≡ Some found.0) a.net found.1) a.known)
