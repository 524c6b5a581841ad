-- Three rounds after the least chain member acts, it holds no lease of a node that is down.
use Rattle.std.proofs.Common.{◌≡◌, ℕ, ◌+◌, ◌-◌, ◌≤◌, ◌<◌, ◌%◌, max, Bool, true, false, not, ◌&&◌, nat_le, nat_lt, Some, unwrap_or, List, [], ◌∷◌, ◌++◌, ◌⊎◌, inl, inr, length, map, refl, ap, sym, subst, ◌∙◌, ⊎_elim, arith, append_assoc, append-nil}
use Rattle.std.proofs.Math.Nat.{mod-lt}
use Rattle.std.specs.List.{AllByRecursion, list_all}
use Rattle.std.proofs.lemmas.Bool.{cases_eq, cases_Bool, and_parts, leb-true, ltb-true, not-true}
use Rattle.oc_model.specs.declared.event.Act.TheVariants.{At, Deliver}
use Rattle.oc_model.specs.declared.input.Input.{Input}
use Rattle.oc_model.specs.declared.input.Input.TheVariants.{Tick, Unreachable, Delivered}
use Rattle.oc_model.specs.declared.message.Body.{Body}
use Rattle.oc_model.specs.declared.message.Body.TheVariants as bodies
use Rattle.oc_model.specs.declared.message.Message.{Message}
use Rattle.oc_model.specs.declared.mode.Mode.TheVariants.{Acting}
use Rattle.oc_model.specs.Chains.{IsRoot}
use Rattle.oc_model.specs.ClaimsTree.{table_of, seq_of}
use Rattle.oc_model.specs.Leases.{lease_time}
use Rattle.oc_model.specs.Node.{Header}
use Rattle.oc_model.specs.Numbers.{has}
use Rattle.oc_model.specs.Ready.{HoldsLease}
use Rattle.oc_model.specs.Step.{step}
use Rattle.oc_model.specs.Table.{leased_by}
use Rattle.oc_model.specs.World.{World, Process, process, node, is_up, mode_of, up_ids, message_at, delivery, after_act}
use Rattle.oc_model.specs.WorldBounds.{IsOneOf, clock_of}
use Rattle.oc_model.proofs.Able.{among_up}
use Rattle.oc_model.proofs.Lists.{all_append}
use Rattle.oc_model.proofs.Members.{all_test}
use Rattle.oc_laws_step.proofs.Tables.{newest-subject}
use Rattle.oc_laws_world.proofs.Lifts.{HasSent, IsTrueArrival, arrival_came}
use Rattle.oc_laws_tree.specs.LeaseEnds.{LeaseEndsLieAhead}
use Rattle.oc_laws_tree.proofs.Held.{tree_of}
use Rattle.oc_laws_tree.proofs.Known.{Knows, newest_among}
use Rattle.oc_laws_tree.proofs.LineHolds.{in_line}
use Rattle.oc_laws_tree.proofs.Points.{lease_ends_after}
use Rattle.oc_laws_tree.proofs.Reached.{Reached, reached_act, of_reached}
use Rattle.oc_laws_tree.proofs.Rows.{lease_row}
use Rattle.oc_laws_tree.proofs.Spans.{IsId, up_id, told_id, among_them}
use Rattle.oc_laws_rest.specs.Rounds.{Turn, Round, after_turns, is_dial, arrived, after_arrivals, after_round, after_rounds, is_distinct, are_the_up, is_timely, are_sent, new_messages, is_round, are_later_rounds, is_quiet}
use Rattle.oc_laws_rest.specs.Rest.{IsLeastMember, LeasesAreOfUp}
use Rattle.oc_laws_rest.proofs.Asks.{sound_of}
use Rattle.oc_laws_rest.proofs.Children.{rounds_more, later_more}
use Rattle.oc_laws_rest.proofs.Forgetting.{HasEnd, IsKnownTo, tick_ends, tick_keeps, message_ends, mild_ends, failure_ends}
use Rattle.oc_laws_rest.proofs.Leases.{any_come}
use Rattle.oc_laws_rest.proofs.Links.{EndsAs, rounds_end, round_ends, me_of, takes, takes_none, acted_ups, arrived_fails, arrived_comes}
use Rattle.oc_laws_rest.proofs.Hush.{IsHush, FromUp, IsDown, down_goes, down_hush, IsReigning, Turning, Rules, root_goes, root_hush}
use Rattle.oc_laws_rest.proofs.Moves.{at_some, at_after}
use Rattle.oc_laws_rest.proofs.Near.{near_of}
use Rattle.oc_laws_rest.proofs.Reigning.{Acts, message_reigns, failure_reigns, tick_reigns}
use Rattle.oc_laws_rest.proofs.Replies.{after_input}
use Rattle.oc_laws_rest.proofs.Roots.{IsTopmost, member, topmost_on, its_id, in_chain, topmost, own_step, tables_of, reached_arrived, reached_rounds}
use Rattle.oc_laws_rest.proofs.Ticks.{has_one, has_none, due_then}

-- the second of the next check of m, set by a tick at the second c
abbrev next : ℕ → ℕ → ℕ
next m c = c + 20 - m % 3

module _ (h : Header) (m : ℕ) (id : IsId h m) (within : m ≤ h.chain) (x : ℕ) (its : IsId h x) where
  -- x is m itself, or down: it sends m no ask and no check-in
  abbrev pub IsSilent : World → Type 0
  IsSilent w = (x ≡ m) ⊎ (is_up w x ≡ false)

  -- m acts, its clock is at least at this second, and the lease of x ends by the second that goes with the clock; this is the ask
  -- number of m
  record HasActed (low : ℕ) (end : ℕ → ℕ) (s : ℕ) (w : World) : Type 0 where
    clock : ℕ
    late : low ≤ clock
    acts : Acts m clock (Some (next m clock)) s (node w m).control
    ends : HasEnd x (end clock) (node w m).control

  module _ (w0 : World) (top0 : IsTopmost h m id within w0) (acting : mode_of w0 m ≡ Acting) (Before : World → List ℕ → Type 0) (After : World → Type 0) (hush : IsHush h w0 x m Before After) (low : ℕ) (end : ℕ → ℕ) where
    -- each tick that may come leaves it so
    abbrev IsReady : Type 0
    IsReady = (t : ℕ) → is_timely (node w0 m).control t ≡ true → (low ≤ max (node w0 m).control.soft.clock t) × HasEnd x (end (max (node w0 m).control.soft.clock t)) (step (node w0 m) (Tick t)).node.control

    record Going (w : World) : Type 0 where
      reached : Reached h w
      ups : (y : ℕ) → is_up w y ≡ is_up w0 y
      later : List Message
      net : w.net ≡ w0.net ++ later
      from : AllByRecursion (λ s. is_up w0 s.from ≡ true) later

    from_up : (z : ℕ) (sent : List Message) → is_up w0 z ≡ true → AllByRecursion (λ s. s.from ≡ z) sent → AllByRecursion (λ s. is_up w0 s.from ≡ true) sent
    from_up z [] up all = tt
    from_up z (s ∷ rest) up all = (ap (is_up w0) all.0 ∙ up, from_up z rest up all.1)

    going_on : (w : World) (z : ℕ) (i : Input) → Going w → is_up w z ≡ true → Reached h (after_input w z i) → Going (after_input w z i)
    going_on w z i going up reached =
        let turn = takes w z i up in
        let sent : List Message = (step (node w z) i).sends in
        record {
          reached = reached;
          ups = λ y. acted_ups w z i y ∙ going.ups y;
          later = going.later ++ sent;
          net = turn.net ∙ (ap (λ (all : List Message). all ++ sent) going.net ∙ append_assoc w0.net going.later sent);
          from = all_append (λ (s : Message). is_up w0 s.from ≡ true) going.later sent going.from
              (from_up z sent (sym (going.ups z) ∙ up) (own_step z ⊥ (node w z) i (tables_of h w going.reached z) (any_come i) (me_of w z) (λ never. absurd never)).1);
        }

    -- what m does, and what others do
    acted_on : (w : World) (z : ℕ) (i : Input) → is_up w z ≡ true → HasActed low end (seq_of w0 m) w
        → (z ≡ m → (c : ℕ) → Acts m c (Some (next m c)) (seq_of w0 m) (node w m).control → HasEnd x (end c) (node w m).control → Acts m c (Some (next m c)) (seq_of w0 m) (step (node w m) i).node.control × HasEnd x (end c) (step (node w m) i).node.control)
        → HasActed low end (seq_of w0 m) (after_input w z i)
    acted_on w z i up acted own = ⊎_elim
        (λ (e : z ≡ m).
        let both = own e acted.clock acted.acts acted.ends in
        let here : process (after_input w z i) m ≡ record { node = (step (node w m) i).node; up = true } =
        subst (λ (y : ℕ). process (after_input w z i) y ≡ record { node = (step (node w y) i).node; up = true }) e (takes w z i up).here in
        record {
          clock = acted.clock;
          late = acted.late;
          acts = subst (λ (p : Process). Acts m acted.clock (Some (next m acted.clock)) (seq_of w0 m) p.node.control) (sym here) both.0;
          ends = subst (λ (p : Process). HasEnd x (end acted.clock) p.node.control) (sym here) both.1;
        })
        (λ apart. record {
          clock = acted.clock;
          late = acted.late;
          acts = subst (λ (p : Process). Acts m acted.clock (Some (next m acted.clock)) (seq_of w0 m) p.node.control) (sym ((takes w z i up).others m apart)) acted.acts;
          ends = subst (λ (p : Process). HasEnd x (end acted.clock) p.node.control) (sym ((takes w z i up).others m apart)) acted.ends;
        })
        (cases_eq z m)

    -- Ticks

    module _ (ready : IsReady) where
      record Ticking (w : World) (still : List ℕ) : Type 0 where
        going : Going w
        quiet : Before w still
        same : (y : ℕ) → IsOneOf y still → process w y ≡ process w0 y
        acted : IsOneOf m still ⊎ HasActed low end (seq_of w0 m) w

      one_turns : (w : World) (y : ℕ) (ys : List ℕ) (t : ℕ) → Ticking w (y ∷ ys) → (IsOneOf y ys → ⊥) → is_up w0 y ≡ true → is_timely (node w0 y).control t ≡ true → Ticking (after_act w (At y (Tick t))) ys
      one_turns w y ys t ticking out up timely = record {
        going = going_on w y (Tick t) ticking.going (ticking.going.ups y ∙ up) (reached_act h w (At y (Tick t)) ticking.going.reached);
        quiet = hush.ticks w y ys t ticking.quiet out up timely;
        same = λ z one. (takes w y (Tick t) (ticking.going.ups y ∙ up)).others z (λ e. out (subst (λ (u : ℕ). IsOneOf u ys) (sym e) one)) ∙ ticking.same z (inr one);
        acted = ⊎_elim (λ (e : y ≡ m). inr (own e))
            (λ apart. ⊎_elim
            (λ one. ⊎_elim (λ (e : m ≡ y). absurd (apart (sym e))) (λ later. inl later) one)
            (λ acted. inr (acted_on w y (Tick t) (ticking.going.ups y ∙ up) acted (λ e. absurd (apart e))))
            ticking.acted)
            (cases_eq y m);
      } where
        own : y ≡ m → HasActed low end (seq_of w0 m) (after_act w (At y (Tick t)))
        own e =
            let same : process w m ≡ process w0 m = subst (λ (z : ℕ). process w z ≡ process w0 z) e (ticking.same y (inl refl)) in
            let ticks : is_timely (node w0 m).control t ≡ true = subst (λ (z : ℕ). is_timely (node w0 z).control t ≡ true) e timely in
            let due : nat_le (unwrap_or (node w0 m).control.soft.due (node w0 m).control.soft.clock) t ≡ true =
            (and_parts (nat_le (unwrap_or (node w0 m).control.soft.due (node w0 m).control.soft.clock) t) (nat_le t ((node w0 m).control.soft.clock + 29)) ticks).0 in
            let done = ready t ticks in
            let reigns : Acts m (max (node w0 m).control.soft.clock t) (Some (next m (max (node w0 m).control.soft.clock t))) (seq_of w0 m) (step (node w0 m) (Tick t)).node.control =
            tick_reigns m (node w0 m) t (me_of w0 m) acting (due_then (node w0 m).control.soft.due (node w0 m).control.soft.clock t due) in
            let here : process (after_act w (At y (Tick t))) m ≡ record { node = (step (node w m) (Tick t)).node; up = true } =
            subst (λ (z : ℕ). process (after_act w (At y (Tick t))) z ≡ record { node = (step (node w z) (Tick t)).node; up = true }) e (takes w y (Tick t) (ticking.going.ups y ∙ up)).here in
            let whole : process (after_act w (At y (Tick t))) m ≡ record { node = (step (node w0 m) (Tick t)).node; up = true } =
            here ∙ ap (λ (p : Process). record { node = (step p.node (Tick t)).node; up = true }) same in
            record {
              clock = max (node w0 m).control.soft.clock t;
              late = done.0;
              acts = subst (λ (p : Process). Acts m (max (node w0 m).control.soft.clock t) (Some (next m (max (node w0 m).control.soft.clock t))) (seq_of w0 m) p.node.control) (sym whole) reigns;
              ends = subst (λ (p : Process). HasEnd x (end (max (node w0 m).control.soft.clock t)) p.node.control) (sym whole) done.1;
            }

      all_turn : (ts : List Turn) (w : World) → Ticking w (map (λ t. t.node) ts) → is_distinct (map (λ t. t.node) ts) ≡ true → list_all (is_up w0) (map (λ t. t.node) ts) ≡ true
          → list_all (λ t. is_timely (node w0 t.node).control t.time) ts ≡ true → Ticking (after_turns w ts) []
      all_turn [] w ticking distinct ups timely = ticking
      all_turn (t ∷ ts) w ticking distinct ups timely =
          let xs : List ℕ = map (λ (u : Turn). u.node) ts in
          let apart = and_parts (not (has xs t.node)) (is_distinct xs) distinct in
          let out : IsOneOf t.node xs → ⊥ = has_none xs t.node (not-true (has xs t.node) apart.0) in
          let lives = and_parts (is_up w0 t.node) (list_all (is_up w0) xs) ups in
          let times = and_parts (is_timely (node w0 t.node).control t.time) (list_all (λ (u : Turn). is_timely (node w0 u.node).control u.time) ts) timely in
          all_turn ts (after_act w (At t.node (Tick t.time))) (one_turns w t.node xs t.time ticking out lives.0 times.0) apart.1 lives.1 times.1

    -- Messages

    record Ruled (w : World) : Type 0 where
      going : Going w
      acted : HasActed low end (seq_of w0 m) w

    module _ (w : World) (ruling : Ruled w) (quiet : After w) (k : ℕ) (s : Message) (found : message_at w.net k ≡ Some s) (sender : is_up w0 s.from ≡ true) (past : length w0.net < k) where
      not_earlier : s.from < m → ⊥
      not_earlier less = top0.none s.from less sender

      by_message : (c : ℕ) → Acts m c (Some (next m c)) (seq_of w0 m) (node w m).control → Acts m c (Some (next m c)) (seq_of w0 m) (step (node w m) (Delivered s)).node.control
      by_message c acts = message_reigns m c (Some (next m c)) (seq_of w0 m) (node w m) s not_earlier acts

      by_failure : (c : ℕ) → Acts m c (Some (next m c)) (seq_of w0 m) (node w m).control → Acts m c (Some (next m c)) (seq_of w0 m) (step (node w m) (Unreachable s.to)).node.control
      by_failure c acts = failure_reigns m c (Some (next m c)) (seq_of w0 m) (node w m) s.to ((in_line h w m ruling.going.reached).still (member h m id within w ruling.going.reached)) acts

      -- the lease of x, where x sent the message
      ends_message : (bound : ℕ) → s.to ≡ m → HasEnd x bound (node w m).control → HasEnd x bound (step (node w m) (Delivered s)).node.control
      ends_message bound e ends = ⊎_elim
          (λ (same : s.from ≡ x). mild_ends x bound (node w m) s (hush.mild w k s quiet past found same e) ends)
          (λ other. message_ends x bound (node w m) s other (apart other) (known e s.body refl) ends)
          (cases_eq s.from x) where
            apart : (s.from ≡ x → ⊥) → s.from - 1 ≡ x - 1 → ⊥
            apart other f = let least : 1 ≤ s.from = (up_id h w0 s.from top0.reached sender).least in other (omega (arith, f, least, its.least))

            sent : HasSent w s.to s.from s.body
            sent = subst (λ o. IsTrueArrival w (delivery o)) found (arrival_came w (Deliver k))

            known : s.to ≡ m → (b : Body) → s.body ≡ b → IsKnownTo (node w m).control b
            known f (bodies.CheckIn seq upto rate number clients certs) body = λ c among own.
                let told : HasSent w s.to s.from (bodies.CheckIn seq upto rate number clients certs) = subst (HasSent w s.to s.from) body sent in
                let knows : Knows (table_of w c.parent) c = (tree_of h w ruling.going.reached).granted c (inr (inr (record { from = s.from; to = s.to; body = bodies.CheckIn seq upto rate number clients certs }, told, among))) in
                subst (λ (y : ℕ). Knows (table_of w y) c) (own ∙ me_of w m) knows
            known f b body = tt

      comes : is_dial s.body && not (is_up w s.to) ≡ false → Ruled (after_input w s.to (Delivered s))
      comes whole = ⊎_elim
          (λ up. record {
            going = going_on w s.to (Delivered s) ruling.going up (subst (Reached h) (arrived_comes w k s found whole) (reached_arrived h w k ruling.going.reached));
            acted = acted_on w s.to (Delivered s) up ruling.acted (λ e c acts ends. (by_message c acts, ends_message (end c) e ends));
          })
          (λ off. subst Ruled (sym (takes_none w s.to (Delivered s) off)) ruling)
          (cases_Bool (is_up w s.to))

      fails : is_dial s.body && not (is_up w s.to) ≡ true → Ruled (after_input w s.from (Unreachable s.to))
      fails failed = ⊎_elim
          (λ up. record {
            going = going_on w s.from (Unreachable s.to) ruling.going up (subst (Reached h) (arrived_fails w k s found failed) (reached_arrived h w k ruling.going.reached));
            acted = acted_on w s.from (Unreachable s.to) up ruling.acted (λ e c acts ends. (by_failure c acts, failure_ends x (end c) (node w m) s.to ends));
          })
          (λ off. subst Ruled (sym (takes_none w s.from (Unreachable s.to) off)) ruling)
          (cases_Bool (is_up w s.from))

      arrives : Ruled (arrived w k)
      arrives = ⊎_elim
          (λ failed. subst Ruled (sym (arrived_fails w k s found failed)) (fails failed))
          (λ whole. subst Ruled (sym (arrived_comes w k s found whole)) (comes whole))
          (cases_Bool (is_dial s.body && not (is_up w s.to)))

    -- with what is known of x
    record Ruling (w : World) : Type 0 where
      ruled : Ruled w
      quiet : After w

    all_arrive : (ks : List ℕ) (w : World) → Ruling w → are_sent (length w0.net) w ks ≡ true → Ruling (after_arrivals w ks)
    all_arrive [] w ruling sent = ruling
    all_arrive (k ∷ ks) w ruling sent =
        let outer = and_parts (nat_lt (length w0.net) k && nat_le k (length w.net)) (are_sent (length w0.net) (arrived w k) ks) sent in
        let inner = and_parts (nat_lt (length w0.net) k) (nat_le k (length w.net)) outer.0 in
        let past : length w0.net < k = ltb-true (length w0.net) k inner.0 in
        let found = at_some w.net k (omega (arith, past)) (leb-true k (length w.net) inner.1) in
        let going : Going w = ruling.ruled.going in
        let sender : is_up w0 found.0.from ≡ true =
        at_after (λ (s : Message). is_up w0 s.from ≡ true) w0.net going.later k found.0 past (subst (λ (all : List Message). message_at all k ≡ Some found.0) going.net found.1) going.from in
        all_arrive ks (arrived w k)
        (record { ruled = arrives w ruling.ruled ruling.quiet k found.0 found.1 sender past; quiet = hush.arrives w k found.0 ruling.quiet past found.1 }) outer.1

    round_rules : (r : Round) → is_round (length w0.net) w0 r ≡ true → IsReady → Ruled (after_round w0 r)
    round_rules r is ready =
        let xs : List ℕ = map (λ (t : Turn). t.node) r.turns in
        let u : World = after_turns w0 r.turns in
        let timely : Bool = list_all (λ (t : Turn). is_timely (node w0 t.node).control t.time) r.turns in
        let sent : Bool = are_sent (length w0.net) u r.arrivals in
        let p3 = and_parts (are_the_up w0 xs && timely && sent) (list_all (has r.arrivals) (new_messages w0 (after_round w0 r))) is in
        let p2 = and_parts (are_the_up w0 xs && timely) sent p3.0 in
        let p1 = and_parts (are_the_up w0 xs) timely p2.0 in
        let q2 = and_parts (list_all (is_up w0) xs && list_all (has xs) (up_ids w0)) (is_distinct xs) p1.0 in
        let q1 = and_parts (list_all (is_up w0) xs) (list_all (has xs) (up_ids w0)) q2.0 in
        let first : Going w0 = record { reached = top0.reached; ups = λ y. refl; later = []; net = sym (append-nil w0.net); from = tt } in
        let begins : Ticking ready w0 xs = record { going = first; quiet = hush.begins xs; same = λ y one. refl; acted = inl (has_one xs m (all_test (has xs) (up_ids w0) q1.1 m (among_up w0 m top0.up))) } in
        let ticked : Ticking ready u [] = all_turn ready r.turns w0 begins q2.1 q1.0 p1.1 in
        (all_arrive r.arrivals u (record { ruled = record { going = ticked.going; acted = ⊎_elim (λ one. absurd one) (λ acted. acted) ticked.acted }; quiet = hush.ticked u ticked.quiet }) p2.1).ruled

  -- Three rounds

  abbrev after_first : ℕ → ℕ
  after_first c = c + lease_time

  -- a node whose next check was set at the second c ticks not before then
  late_tick : (w : World) (c s : ℕ) → Acts m c (Some (next m c)) s (node w m).control → (t : ℕ) → is_timely (node w m).control t ≡ true → c + 18 ≤ max (node w m).control.soft.clock t
  late_tick w c s acts t timely =
      let due : nat_le (unwrap_or (node w m).control.soft.due (node w m).control.soft.clock) t ≡ true =
      (and_parts (nat_le (unwrap_or (node w m).control.soft.due (node w m).control.soft.clock) t) (nat_le t ((node w m).control.soft.clock + 29)) timely).0 in
      let then_due : next m c ≤ t = leb-true (next m c) t (sym (ap (λ d. nat_le (unwrap_or d (node w m).control.soft.clock) t) acts.3) ∙ due) in
      let small : m % 3 < 3 = mod-lt m (omega arith) in
      omega (arith, then_due, small)

  -- from a world of which Q holds on, x sends m no ask and no check-in
  module _ (Q : World → Type 0) (Before : (v : World) → Q v → World → List ℕ → Type 0) (After : (v : World) → Q v → World → Type 0) (goes : (v : World) (r : Round) → Q v → is_round (length v.net) v r ≡ true → Q (after_round v r))
      (hush : (v : World) (silent : Q v) → IsHush h v x m (Before v silent) (After v silent)) where
    pub three_rounds : (w : World) → IsTopmost h m id within w → mode_of w m ≡ Acting → Q w → (a b c : Round) → are_later_rounds w (a ∷ b ∷ c ∷ []) ≡ true
        → (s : ℕ) → HoldsLease (after_rounds w (a ∷ b ∷ c ∷ [])) m x s → ⊥
    three_rounds w top acting silent a b c quiet s leased =
        let qa = and_parts (is_round (length w.net) w a) (are_later_rounds (after_round w a) (b ∷ c ∷ [])) quiet in
        let wa : World = after_round w a in
        let qb = and_parts (is_round (length wa.net) wa b) (are_later_rounds (after_round wa b) (c ∷ [])) qa.1 in
        let wb : World = after_round wa b in
        let qc = and_parts (is_round (length wb.net) wb c) (are_later_rounds (after_round wb c) []) qb.1 in
        let wc : World = after_round wb c in
        let as_many : length (node w m).control.leases ≡ h.nodes = (sound_of h w top.reached m).leases ∙ (among_them h w m top.reached id).0 in
        let first : Ruled w top acting (Before w silent) (After w silent) (hush w silent) 0 after_first wa =
        round_rules w top acting (Before w silent) (After w silent) (hush w silent) 0 after_first a qa.0
        (λ t timely. (
          omega arith,
          tick_ends x (max (node w m).control.soft.clock t + lease_time) (node w m) t its.least (omega (arith, as_many, its.most)) (omega arith)
              (λ end e. let near : end ≤ (node w m).control.soft.clock + lease_time = near_of h w top.reached m x end e in omega (arith, near)),
        )) in
        let silent_a : Q wa = goes w a silent qa.0 in
        let c1 : ℕ = first.acted.clock in
        let top_a : IsTopmost h m id within wa = topmost_on h m id within w wa top first.going.reached first.going.ups in
        let second : Ruled wa top_a first.acted.acts.1 (Before wa silent_a) (After wa silent_a) (hush wa silent_a) (c1 + 18) (λ _. c1 + lease_time) wb =
        round_rules wa top_a first.acted.acts.1 (Before wa silent_a) (After wa silent_a) (hush wa silent_a) (c1 + 18) (λ _. c1 + lease_time) b qb.0
        (λ t timely. (late_tick wa c1 (seq_of w m) first.acted.acts t timely, tick_keeps x (c1 + lease_time) (node wa m) t first.acted.ends)) in
        let c2 : ℕ = second.acted.clock in
        let more : c1 + 18 ≤ c2 = second.acted.late in
        let top_b : IsTopmost h m id within wb = topmost_on h m id within wa wb top_a second.going.reached second.going.ups in
        let silent_b : Q wb = goes wa b silent_a qb.0 in
        let third : Ruled wb top_b second.acted.acts.1 (Before wb silent_b) (After wb silent_b) (hush wb silent_b) (c1 + 36) (λ _. c1 + lease_time) wc =
        round_rules wb top_b second.acted.acts.1 (Before wb silent_b) (After wb silent_b) (hush wb silent_b) (c1 + 36) (λ _. c1 + lease_time) c qc.0
        (λ t timely. (
          (let late : c2 + 18 ≤ max (node wb m).control.soft.clock t = late_tick wb c2 (seq_of wa m) second.acted.acts t timely in omega (arith, late, more)),
          tick_keeps x (c1 + lease_time) (node wb m) t second.acted.ends,
        )) in
        let held = third.acted.ends s (subst (λ (y : ℕ). leased_by (table_of wc m) y x ≡ Some s) (sym (me_of wc m)) leased) in
        let ahead : clock_of wc m < held.0 = of_reached LeaseEndsLieAhead lease_ends_after h wc third.going.reached m x s held.0 (third.going.ups m ∙ top_b.up) leased held.1 in
        let now : (node wc m).control.soft.clock ≡ third.acted.clock = third.acted.acts.2 in
        omega (arith, ahead, now, third.acted.late, held.2)

-- later rounds leave up who is up
pub later_ups : (rs : List Round) (v : World) → are_later_rounds v rs ≡ true → (x : ℕ) → is_up (after_rounds v rs) x ≡ is_up v x
later_ups [] v later x = refl
later_ups (r ∷ rs) v later x =
    let both = and_parts (is_round (length v.net) v r) (are_later_rounds (after_round v r) rs) later in
    later_ups rs (after_round v r) both.1 x ∙ (round_ends v (length v.net) r both.0).ups x

-- m holds leases of others that are up alone
pub record HasForgotten (w : World) (m : ℕ) : Type 0 where
  pub up : LeasesAreOfUp w m
  pub other : (s : ℕ) → HoldsLease w m m s → ⊥

-- after three rounds in which m acts
pub forgets_in : (h : Header) (m : ℕ) (id : IsId h m) (within : m ≤ h.chain) (v : World) → IsTopmost h m id within v → mode_of v m ≡ Acting → (rs : List Round) → (a b c : Round) → rs ≡ a ∷ b ∷ c ∷ []
    → are_later_rounds v rs ≡ true → HasForgotten (after_rounds v rs) m
forgets_in h m id within v top acting rs a b c three later = record {
  up = λ x s leased.
      let row = lease_row (table_of end m) m x s leased in
      let id_x : IsId h x = subst (IsId h) (newest-subject (table_of end m) x row.0 row.1.found) (told_id h end m row.0 (reached_rounds h rs v top.reached) (newest_among (table_of end m) x row.0 row.1.found)) in
      ⊎_elim
      (λ up. later_ups rs v later x ∙ up)
      (λ off. absurd (three_rounds h m id within x id_x (IsDown h x) (λ u down w zs. FromUp h u w) (λ u down. FromUp h u) (down_goes h x) (down_hush h x m) v top acting (top.reached, off) a b c quiet s (held x s leased)))
      (cases_Bool (is_up v x));
  other = λ s leased.
      three_rounds h m id within m id (IsReigning h m id within) (Turning h m id within) (Rules h m id within) (λ u r reign. root_goes h m id within u reign r) (λ u reign. root_hush h m id within u reign m) v top acting
      (record { top = top; acts = acting }) a b c quiet s (held m s leased);
} where
  end : World
  end = after_rounds v rs

  quiet : are_later_rounds v (a ∷ b ∷ c ∷ []) ≡ true
  quiet = subst (λ (qs : List Round). are_later_rounds v qs ≡ true) three later

  held : (x s : ℕ) → HoldsLease (after_rounds v rs) m x s → HoldsLease (after_rounds v (a ∷ b ∷ c ∷ [])) m x s
  held x s leased = subst (λ (qs : List Round). HoldsLease (after_rounds v qs) m x s) three leased

-- the same of the least chain member, round after round
pub root_forgets : (h : Header) (w : World) → Reached h w → (m : ℕ) → IsLeastMember w m → (q : Round) (rs : List Round) (a b c : Round) → is_quiet w (q ∷ rs ++ a ∷ b ∷ c ∷ []) ≡ true
    → IsRoot (after_rounds w (q ∷ rs)) m → HasForgotten (after_rounds w (q ∷ rs ++ a ∷ b ∷ c ∷ [])) m
root_forgets h w reached m least q rs a b c quiet root = by_rest (a ∷ b ∷ c ∷ []) refl quiet where
  by_rest : (more : List Round) → more ≡ a ∷ b ∷ c ∷ [] → is_quiet w (q ∷ rs ++ more) ≡ true → HasForgotten (after_rounds w (q ∷ rs ++ more)) m
  by_rest more three quiet =
      let first = and_parts (is_round 0 w q) (are_later_rounds (after_round w q) (rs ++ more)) quiet in
      let rest = later_more rs more (after_round w q) first.1 in
      let v : World = after_rounds w (q ∷ rs) in
      let ends : EndsAs w v = rounds_end w q rs (ap (λ (k : Bool). k && are_later_rounds (after_round w q) rs) first.0 ∙ rest.0) in
      let top : IsTopmost h m (its_id h w reached m least) (in_chain h w reached m least) v =
      topmost_on h m (its_id h w reached m least) (in_chain h w reached m least) w v (topmost h w reached m least) (reached_rounds h (q ∷ rs) w reached) ends.ups in
      subst (λ (u : World). HasForgotten u m) (sym (rounds_more (q ∷ rs) more w)) (forgets_in h m (its_id h w reached m least) (in_chain h w reached m least) v top root.1 more a b c three rest.1)
