-- The least chain member that is up becomes the root, in whatever world the rounds began.
use Rattle.std.proofs.Common.{◌≡◌, ℕ, ◌+◌, ◌≤◌, ◌<◌, Bool, true, false, not, ◌&&◌, nat_le, nat_lt, unwrap_or, Some, List, [], ◌∷◌, ◌++◌, ◌⊎◌, inl, inr, length, map, refl, ap, sym, subst, ◌∙◌, ⊎_elim, arith, eq-eqb, append_assoc, append-nil}
use Rattle.std.specs.List.{AllByRecursion, list_all}
use Rattle.std.proofs.lemmas.Bool.{cases_eq, cases_Bool, and_parts, true≢false, leb-true, ltb-true, not-true}
use Rattle.oc_model.specs.declared.event.Act.TheVariants.{At}
use Rattle.oc_model.specs.declared.input.Input.{Input}
use Rattle.oc_model.specs.declared.input.Input.TheVariants.{Tick, Unreachable, Delivered}
use Rattle.oc_model.specs.declared.message.Body.{Body}
use Rattle.oc_model.specs.declared.message.Message.{Message}
use Rattle.oc_model.specs.declared.mode.Mode.{Mode}
use Rattle.oc_model.specs.Chains.{IsRoot}
use Rattle.oc_model.specs.Checking.{is_peer}
use Rattle.oc_model.specs.ClaimsTree.{seq_of}
use Rattle.oc_model.specs.Heal.{IsMember}
use Rattle.oc_model.specs.Node.{Header, Control, Node}
use Rattle.oc_model.specs.Numbers.{number_end, has}
use Rattle.oc_model.specs.Step.{step}
use Rattle.oc_model.specs.World.{World, Process, process, node, is_up, mode_of, up_ids, message_at, acted, after_act}
use Rattle.oc_model.specs.WorldBounds.{IsOneOf}
use Rattle.oc_model.proofs.Lists.{all_weaker, all_append}
use Rattle.oc_laws_step.specs.Sound.{IsTable}
use Rattle.oc_laws_world.proofs.Laws.{HasTable, tables_law, tables_new}
use Rattle.oc_laws_world.proofs.Lifts.{AreTables}
use Rattle.oc_laws_world.proofs.Machine.{IsMachine}
use Rattle.oc_laws_world.proofs.Walks.{HasCome, walks_step}
use Rattle.oc_laws_tree.proofs.LineHolds.{in_line, is_member_of, member_of}
use Rattle.oc_laws_tree.proofs.Points.{law_after}
use Rattle.oc_laws_tree.proofs.Reached.{Reached, reached_act, of_reached}
use Rattle.oc_laws_tree.proofs.Spans.{IsId, up_id}
use Rattle.oc_laws_rest.specs.Rounds.{Turn, Round, after_turns, is_dial, arriving, arrived, after_arrivals, after_round, after_rounds, is_distinct, are_the_up, is_timely, are_sent, new_messages, is_round, are_later_rounds, is_quiet}
use Rattle.oc_laws_rest.specs.Rest.{PeersAreUp, IsLeastMember}
use Rattle.oc_laws_rest.proofs.Links.{me_of, takes, takes_none, acted_ups, arrived_fails, arrived_comes, HasEnded, round_ends, rounds_end, EndsAs}
use Rattle.oc_laws_rest.proofs.Moves.{Turned, at_some, at_after}
use Rattle.oc_laws_rest.proofs.Ticks.{has_one, has_none, due_then}
use Rattle.oc_laws_rest.proofs.Upward.{Rises, IsUpward, rises_by_tick, rises_by_failure, rises_by_message}
use Rattle.oc_model.proofs.Able.{among_up}
use Rattle.oc_model.proofs.Members.{all_test}

-- Each message of a step is of its node, and a last ask number stays

abbrev pub IsOwn : ℕ → Type 0 → Control → List Message → Type 0
IsOwn x S n ms = (n.me ≡ x) × AllByRecursion (λ s. s.from ≡ x) ms × (S → n.kept.seq ≡ number_end)

abbrev pub any_came : ℕ → Body → Type 0
any_came p b = Unit {0}

own_sent : (x : ℕ) (S : Type 0) (n : Control) (ms : List Message) (p : ℕ) (b : Body) → (n.me ≡ x) × AllByRecursion (λ s. s.from ≡ x) ms × (S → n.kept.seq ≡ number_end)
    → (n.me ≡ x) × AllByRecursion (λ s. s.from ≡ x) (ms ++ record { from = n.me; to = p; body = b } ∷ []) × (S → n.kept.seq ≡ number_end)
own_sent x S n ms p b h = (h.0, all_append (λ (s : Message). s.from ≡ x) ms (record { from = n.me; to = p; body = b } ∷ []) h.1 (h.0, tt), h.2)

own_machine : (x : ℕ) (S : Type 0) → IsMachine any_came (IsOwn x S)
own_machine x S = record {
  soft = λ n ms s h. h;
  lists = λ n ms leases rates counts h. h;
  aside = λ n ms ancestors measures h. h;
  falls = λ n ms h. h;
  asks = λ n ms p e1 h. (h.0, h.1, λ s. absurd (true≢false (sym (eq-eqb n.kept.seq number_end (h.2 s)) ∙ e1)));
  acts = λ n ms h. h;
  raises = λ n ms e e1 e2 h. h;
  joins = λ n ms p r xs e1 e2 e3 e4 h. h;
  ranks = λ n ms p upto r xs e1 e2 e3 h. h;
  acks = λ n ms p upto r xs e1 e2 e3 h. h;
  adopts = λ n ms x s r e1 e2 e3 h. h;
  merges = λ n ms x s upto rate number clients certs c e1 e2 e3 h. h;
  ends = λ n ms x k e1 e2 e3 h. h;
  counts = λ n ms clients e1 h. h;
  says = λ n ms p b e1 h. own_sent x S n ms p b h;
  says_ask = λ n ms p e1 h. own_sent x S n ms p _ h;
  says_yes = λ n ms y s r e1 e2 e3 h. own_sent x S n ms y _ h;
  says_check_in = λ n ms p rate e1 h. own_sent x S n ms p _ h;
  says_check_ack = λ n ms y s upto rate number clients certs e1 e2 h. own_sent x S n ms y _ h;
  drops = λ n ms h. (h.0, tt, h.2);
  starts = λ n ms h. h;
}

pub own_step : (x : ℕ) (S : Type 0) (n : Node) (i : Input) → IsTable n.control.kept.table → HasCome any_came i → n.control.me ≡ x → (S → n.control.kept.seq ≡ number_end)
    → IsOwn x S (step n i).node.control (step n i).sends
own_step x S n i is_table came me last = walks_step any_came (IsOwn x S) (own_machine x S) n i is_table came (me, tt, last)

module _ (h : Header) where
  -- Worlds that are reached

  pub tables_of : (w : World) → Reached h w → AreTables w
  tables_of w reached = of_reached AreTables (λ g events. law_after AreTables HasTable tables_law g events (tables_new g)) h w reached

  pub reached_turns : (ts : List Turn) (w : World) → Reached h w → Reached h (after_turns w ts)
  reached_turns [] w reached = reached
  reached_turns (t ∷ ts) w reached = reached_turns ts (after_act w (At t.node (Tick t.time))) (reached_act h w (At t.node (Tick t.time)) reached)

  pub reached_arrived : (w : World) (k : ℕ) → Reached h w → Reached h (arrived w k)
  reached_arrived w k reached = reached_act h w (arriving w k (message_at w.net k)) reached

  reached_arrivals : (ks : List ℕ) (w : World) → Reached h w → Reached h (after_arrivals w ks)
  reached_arrivals [] w reached = reached
  reached_arrivals (k ∷ ks) w reached = reached_arrivals ks (arrived w k) (reached_arrived w k reached)

  pub reached_round : (w : World) (r : Round) → Reached h w → Reached h (after_round w r)
  reached_round w r reached = reached_arrivals r.arrivals (after_turns w r.turns) (reached_turns r.turns w reached)

  pub reached_rounds : (rs : List Round) (w : World) → Reached h w → Reached h (after_rounds w rs)
  reached_rounds [] w reached = reached
  reached_rounds (r ∷ rs) w reached = reached_rounds rs (after_round w r) (reached_round w r reached)

  module _ (m : ℕ) (id : IsId h m) (within : m ≤ h.chain) where
    -- m is up and no earlier node
    pub record IsTopmost (w : World) : Type 0 where
      pub reached : Reached h w
      pub up : is_up w m ≡ true
      pub none : (x : ℕ) → x < m → is_up w x ≡ true → ⊥

    pub member : (w : World) → Reached h w → IsMember w m
    member w reached = is_member_of h w m reached id within

    -- whom m asks or is joined to is an earlier node
    earlier : (w : World) → Reached h w → (p : ℕ) → is_peer (mode_of w m) p ≡ true → p < m
    earlier w reached p peer = subst (λ (z : ℕ). p < z) (me_of w m) ((in_line h w m reached).peer (member w reached) p peer)

    -- so at the end of a round it has none
    pub free : (w : World) → IsTopmost w → PeersAreUp w → (p : ℕ) → is_peer (mode_of w m) p ≡ true → ⊥
    free w top peers p peer = top.none p (earlier w top.reached p peer) (peers m p top.up peer)

    module _ (w0 : World) (top0 : IsTopmost w0) (free0 : (p : ℕ) → is_peer (mode_of w0 m) p ≡ true → ⊥) where
      abbrev AreOfUp : List Message → Type 0
      AreOfUp ms = AllByRecursion (λ s. is_up w0 s.from ≡ true) ms

      of_up : (x : ℕ) (ms : List Message) → is_up w0 x ≡ true → AllByRecursion (λ s. s.from ≡ x) ms → AllByRecursion (λ s. is_up w0 s.from ≡ true) ms
      of_up x ms up all = all_weaker (λ (s : Message). s.from ≡ x) (λ (s : Message). is_up w0 s.from ≡ true) (λ s e. ap (is_up w0) e ∙ up) ms all

      -- Ticks

      record Ticking (w : World) (still : List ℕ) : Type 0 where
        reached : Reached h w
        ups : (y : ℕ) → is_up w y ≡ is_up w0 y
        same : (y : ℕ) → IsOneOf y still → process w y ≡ process w0 y
        top : IsOneOf m still ⊎ IsUpward (node w m).control
        later : List Message
        net : w.net ≡ w0.net ++ later
        from : AllByRecursion (λ s. is_up w0 s.from ≡ true) later

      one_turns : (w : World) (x : ℕ) (xs : List ℕ) (c : ℕ) → Ticking w (x ∷ xs) → (IsOneOf x xs → ⊥) → is_up w0 x ≡ true → is_timely (node w0 x).control c ≡ true → Ticking (after_act w (At x (Tick c))) xs
      one_turns w x xs c going out up timely = record {
        reached = reached_act h w (At x (Tick c)) going.reached;
        ups = λ y. acted_ups w x (Tick c) y ∙ going.ups y;
        same = λ y one. turn.others y (λ e. out (subst (λ (z : ℕ). IsOneOf z xs) (sym e) one)) ∙ going.same y (inr one);
        top = ⊎_elim
            (λ (e : x ≡ m). inr (subst (λ (z : ℕ). IsUpward (node (after_act w (At x (Tick c))) z).control) e (subst (λ (p : Process). IsUpward p.node.control) (sym turn.here) (own e))))
            (λ apart. ⊎_elim
            (λ one. ⊎_elim (λ (e : m ≡ x). absurd (apart (sym e))) (λ later. inl later) one)
            (λ upward. inr (subst (λ (p : Process). IsUpward p.node.control) (sym (turn.others m apart)) upward))
            going.top)
            (cases_eq x m);
        later = going.later ++ (step (node w x) (Tick c)).sends;
        net = turn.net ∙ (ap (λ (all : List Message). all ++ (step (node w x) (Tick c)).sends) going.net ∙ append_assoc w0.net going.later (step (node w x) (Tick c)).sends);
        from = all_append (λ (s : Message). is_up w0 s.from ≡ true) going.later (step (node w x) (Tick c)).sends going.from
            (of_up x (step (node w x) (Tick c)).sends up (own_step x ⊥ (node w x) (Tick c) (tables_of w going.reached x) tt (me_of w x) (λ none. absurd none)).1);
      } where
        turn : Turned w x (step (node w x) (Tick c)).node (step (node w x) (Tick c)).sends (after_act w (At x (Tick c)))
        turn = takes w x (Tick c) (going.ups x ∙ up)

        due : nat_le (unwrap_or (node w x).control.soft.due (node w x).control.soft.clock) c ≡ true
        due = (and_parts (nat_le (unwrap_or (node w x).control.soft.due (node w x).control.soft.clock) c) (nat_le c ((node w x).control.soft.clock + 29))
            (ap (λ (p : Process). is_timely p.node.control c) (going.same x (inl refl)) ∙ timely)).0

        own : x ≡ m → IsUpward (step (node w x) (Tick c)).node.control
        own e =
            let at_m : IsMember w x = subst (IsMember w) (sym e) (member w going.reached) in
            rises_by_tick (node w x) c at_m
            (λ p peer. free0 p (ap (λ (z : ℕ). is_peer (mode_of w0 z) p) (sym e) ∙ (sym (ap (λ (q : Process). is_peer q.node.control.kept.mode p) (going.same x (inl refl))) ∙ peer)))
            ((in_line h w x going.reached).still at_m)
            (due_then (node w x).control.soft.due (node w x).control.soft.clock c due)

      all_turn : (ts : List Turn) (w : World) → Ticking w (map (λ t. t.node) ts) → is_distinct (map (λ t. t.node) ts) ≡ true → list_all (is_up w0) (map (λ t. t.node) ts) ≡ true
          → list_all (λ t. is_timely (node w0 t.node).control t.time) ts ≡ true → Ticking (after_turns w ts) []
      all_turn [] w going distinct ups timely = going
      all_turn (t ∷ ts) w going distinct ups timely =
          let xs : List ℕ = map (λ (u : Turn). u.node) ts in
          let apart = and_parts (not (has xs t.node)) (is_distinct xs) distinct in
          let out : IsOneOf t.node xs → ⊥ = has_none xs t.node (not-true (has xs t.node) apart.0) in
          let lives = and_parts (is_up w0 t.node) (list_all (is_up w0) xs) ups in
          let times = and_parts (is_timely (node w0 t.node).control t.time) (list_all (λ (u : Turn). is_timely (node w0 u.node).control u.time) ts) timely in
          all_turn ts (after_act w (At t.node (Tick t.time))) (one_turns w t.node xs t.time going out lives.0 times.0) apart.1 lives.1 times.1

      begin : (xs : List ℕ) → list_all (has xs) (up_ids w0) ≡ true → Ticking w0 xs
      begin xs all = record {
        reached = top0.reached;
        ups = λ y. refl;
        same = λ y one. refl;
        top = inl (has_one xs m (all_test (has xs) (up_ids w0) all m (among_up w0 m top0.up)));
        later = [];
        net = sym (append-nil w0.net);
        from = tt;
      }

      -- Messages

      record Arriving (w : World) : Type 0 where
        reached : Reached h w
        ups : (y : ℕ) → is_up w y ≡ is_up w0 y
        top : IsUpward (node w m).control
        later : List Message
        net : w.net ≡ w0.net ++ later
        from : AllByRecursion (λ s. is_up w0 s.from ≡ true) later

      module _ (w : World) (a : Arriving w) where
        abbrev after : ℕ → Input → World
        after z i = acted w (Some (record { at = z; input = i }))

        goes : (z : ℕ) (i : Input) → Reached h (after z i) → is_up w z ≡ true → HasCome any_came i
            → (z ≡ m → Rises (node w m).control.kept.mode (node w m).control.soft.silent → IsUpward (step (node w m) i).node.control) → Arriving (after z i)
        goes z i reached up came rises = record {
          reached = reached;
          ups = λ y. acted_ups w z i y ∙ a.ups y;
          top = ⊎_elim
              (λ (e : z ≡ m). subst (λ (y : ℕ). IsUpward (node (after z i) y).control) e
              (subst (λ (p : Process). IsUpward p.node.control) (sym turn.here) (subst (λ (y : ℕ). IsUpward (step (node w y) i).node.control) (sym e) (own e))))
              (λ apart. subst (λ (p : Process). IsUpward p.node.control) (sym (turn.others m apart)) a.top)
              (cases_eq z m);
          later = a.later ++ (step (node w z) i).sends;
          net = turn.net ∙ (ap (λ (all : List Message). all ++ (step (node w z) i).sends) a.net ∙ append_assoc w0.net a.later (step (node w z) i).sends);
          from = all_append (λ (s : Message). is_up w0 s.from ≡ true) a.later (step (node w z) i).sends a.from
              (of_up z (step (node w z) i).sends (sym (a.ups z) ∙ up) (own_step z ⊥ (node w z) i (tables_of w a.reached z) came (me_of w z) (λ none. absurd none)).1);
        } where
          turn : Turned w z (step (node w z) i).node (step (node w z) i).sends (after z i)
          turn = takes w z i up

          own : z ≡ m → IsUpward (step (node w m) i).node.control
          own e = ⊎_elim
              (λ last. inl ((own_step m (Unit {0}) (node w m) i (tables_of w a.reached m) came (me_of w m) (λ _. last)).2 tt))
              (λ r. rises e r)
              a.top

        stays : (z : ℕ) (i : Input) → is_up w z ≡ false → Arriving (after z i)
        stays z i off = subst Arriving (sym (takes_none w z i off)) a

        -- the sender of a message of this round is up, so it is no earlier node
        comes : (k : ℕ) (s : Message) → message_at w.net k ≡ Some s → is_up w0 s.from ≡ true → Arriving (arrived w k)
        comes k s found up_from = ⊎_elim
            (λ fails. subst Arriving (sym (arrived_fails w k s found fails)) (⊎_elim
            (λ up. goes s.from (Unreachable s.to) (subst (Reached h) (arrived_fails w k s found fails) (reached_arrived w k a.reached)) up tt
            (λ e r. rises_by_failure (node w m) s.to (member w a.reached) ((in_line h w m a.reached).still (member w a.reached)) r))
            (λ off. stays s.from (Unreachable s.to) off)
            (cases_Bool (is_up w s.from))))
            (λ delivered. subst Arriving (sym (arrived_comes w k s found delivered)) (⊎_elim
            (λ up. goes s.to (Delivered s) (subst (Reached h) (arrived_comes w k s found delivered) (reached_arrived w k a.reached)) up tt
            (λ e r. rises_by_message (node w m) s r
            (λ peer. top0.none s.from (earlier w a.reached s.from peer) up_from)
            (λ less. top0.none s.from (subst (λ (z : ℕ). s.from < z) (me_of w m) less) up_from)))
            (λ off. stays s.to (Delivered s) off)
            (cases_Bool (is_up w s.to))))
            (cases_Bool (is_dial s.body && not (is_up w s.to)))

      all_arrive : (ks : List ℕ) (w : World) → Arriving w → are_sent (length w0.net) w ks ≡ true → Arriving (after_arrivals w ks)
      all_arrive [] w a sent = a
      all_arrive (k ∷ ks) w a sent =
          let outer = and_parts (nat_lt (length w0.net) k && nat_le k (length w.net)) (are_sent (length w0.net) (arrived w k) ks) sent in
          let inner = and_parts (nat_lt (length w0.net) k) (nat_le k (length w.net)) outer.0 in
          let past : length w0.net < k = ltb-true (length w0.net) k inner.0 in
          let found = at_some w.net k (omega (arith, past)) (leb-true k (length w.net) inner.1) in
          let up_from : is_up w0 found.0.from ≡ true =
          at_after (λ (s : Message). is_up w0 s.from ≡ true) w0.net a.later k found.0 past (subst (λ (all : List Message). message_at all k ≡ Some found.0) a.net found.1) a.from in
          all_arrive ks (arrived w k) (comes w a k found.0 found.1 up_from) outer.1

      pub round_rises : (r : Round) → is_round (length w0.net) w0 r ≡ true → IsUpward (node (after_round w0 r) m).control
      round_rises r is =
          let xs : List ℕ = map (λ (t : Turn). t.node) r.turns in
          let u : World = after_turns w0 r.turns in
          let v : World = after_arrivals u r.arrivals in
          let timely : Bool = list_all (λ (t : Turn). is_timely (node w0 t.node).control t.time) r.turns in
          let sent : Bool = are_sent (length w0.net) u r.arrivals in
          let whole : Bool = list_all (has r.arrivals) (new_messages w0 v) in
          let p3 = and_parts (are_the_up w0 xs && timely && sent) whole is in
          let p2 = and_parts (are_the_up w0 xs && timely) sent p3.0 in
          let p1 = and_parts (are_the_up w0 xs) timely p2.0 in
          let q2 = and_parts (list_all (is_up w0) xs && list_all (has xs) (up_ids w0)) (is_distinct xs) p1.0 in
          let q1 = and_parts (list_all (is_up w0) xs) (list_all (has xs) (up_ids w0)) q2.0 in
          let ticks : Ticking u [] = all_turn r.turns w0 (begin xs q1.1) q2.1 q1.0 p1.1 in
          (all_arrive r.arrivals u (record { reached = ticks.reached; ups = ticks.ups; top = ⊎_elim (λ one. absurd one) (λ upward. upward) ticks.top; later = ticks.later; net = ticks.net; from = ticks.from }) p2.1).top

    -- Rounds

    -- m is topmost in a world in which the same nodes are up
    pub topmost_on : (w v : World) → IsTopmost w → Reached h v → ((y : ℕ) → is_up v y ≡ is_up w y) → IsTopmost v
    topmost_on w v top reached ups = record { reached = reached; up = ups m ∙ top.up; none = λ x less up. top.none x less (sym (ups x) ∙ up) }

    pub later_rises : (r : Round) (rs : List Round) (w : World) → IsTopmost w → PeersAreUp w → are_later_rounds w (r ∷ rs) ≡ true → IsUpward (node (after_rounds w (r ∷ rs)) m).control
    later_rises r [] w top peers quiet = round_rises w top (free w top peers) r (and_parts (is_round (length w.net) w r) (are_later_rounds (after_round w r) []) quiet).0
    later_rises r (q ∷ qs) w top peers quiet =
        let both = and_parts (is_round (length w.net) w r) (are_later_rounds (after_round w r) (q ∷ qs)) quiet in
        let ends : HasEnded w (after_round w r) = round_ends w (length w.net) r both.0 in
        later_rises q qs (after_round w r) (topmost_on w (after_round w r) top (reached_round w r top.reached) ends.ups) ends.peers both.1

-- The least chain member

module _ (h : Header) (w : World) (reached : Reached h w) (m : ℕ) (least : IsLeastMember w m) where
  abbrev pub its_id : IsId h m
  its_id = up_id h w m reached least.up

  abbrev pub in_chain : m ≤ h.chain
  in_chain = member_of h w m reached (up_id h w m reached least.up) least.member

  pub topmost : IsTopmost h m its_id in_chain w
  topmost = record {
    reached = reached;
    up = least.up;
    none = λ x less up.
        let inside : m ≤ h.chain = in_chain in
        let low : m ≤ x = least.least x up (is_member_of h w x reached (up_id h w x reached up) (omega (arith, less, inside))) in
        omega (arith, low, less);
  }

  pub asks_nobody : (r : Round) (rs : List Round) → is_quiet w (r ∷ rs) ≡ true → (p : ℕ) → is_peer (mode_of (after_rounds w (r ∷ rs)) m) p ≡ true → ⊥
  asks_nobody r rs quiet p peer =
      let v : World = after_rounds w (r ∷ rs) in
      let ends : EndsAs w v = rounds_end w r rs quiet in
      free h m its_id in_chain v
      (topmost_on h m its_id in_chain w v topmost (reached_rounds h (r ∷ rs) w reached) ends.ups) ends.peers p peer

  pub acts_as_root : (q r : Round) (rs : List Round) → is_quiet w (q ∷ r ∷ rs) ≡ true → (seq_of (after_rounds w (q ∷ r ∷ rs)) m ≡ number_end → ⊥) → IsRoot (after_rounds w (q ∷ r ∷ rs)) m
  acts_as_root q r rs quiet room =
      let v : World = after_rounds w (q ∷ r ∷ rs) in
      let both = and_parts (is_round 0 w q) (are_later_rounds (after_round w q) (r ∷ rs)) quiet in
      let first : HasEnded w (after_round w q) = round_ends w 0 q both.0 in
      let ends : EndsAs w v = rounds_end w q (r ∷ rs) quiet in (
        ends.ups m ∙ least.up,
        ⊎_elim
            (λ last. absurd (room last))
            (λ rises. ⊎_elim (λ acts. acts) (λ asks. absurd (asks_nobody q (r ∷ rs) quiet asks.0 (ap (λ (n : Mode). is_peer n asks.0) asks.1 ∙ eq-eqb asks.0 asks.0 refl))) rises)
            (later_rises h m its_id in_chain r rs (after_round w q)
            (topmost_on h m its_id in_chain w (after_round w q) topmost (reached_round h w q reached) first.ups) first.peers both.1),
      )
