-- A child that keeps its place holds no lease of a node that has sent it nothing for three rounds.
use Rattle.std.proofs.Common.{◌≡◌, ℕ, ◌+◌, ◌-◌, ◌≤◌, ◌<◌, ◌%◌, max, Bool, true, not, ◌&&◌, nat_le, nat_lt, Option, Some, unwrap_or, List, [], ◌∷◌, ◌++◌, ◌⊎◌, inl, inr, length, map, refl, ap, sym, subst, ◌∙◌, ⊎_elim, arith}
use Rattle.std.proofs.Math.Nat.{mod-lt}
use Rattle.std.specs.List.{list_all}
use Rattle.std.proofs.lemmas.Bool.{cases_eq, cases_Bool, and_parts, leb-true, ltb-true, not-true}
use Rattle.oc_model.specs.declared.event.Act.TheVariants.{At, Deliver}
use Rattle.oc_model.specs.declared.input.Input.{Input}
use Rattle.oc_model.specs.declared.input.Input.TheVariants.{Tick, Unreachable, Delivered}
use Rattle.oc_model.specs.declared.message.Body.{Body}
use Rattle.oc_model.specs.declared.message.Body.TheVariants as bodies
use Rattle.oc_model.specs.declared.message.Message.{Message}
use Rattle.oc_model.specs.declared.reading.Reading.{Reading}
use Rattle.oc_model.specs.ClaimsTree.{table_of}
use Rattle.oc_model.specs.Leases.{lease_time}
use Rattle.oc_model.specs.Node.{Header}
use Rattle.oc_model.specs.Numbers.{has}
use Rattle.oc_model.specs.Ready.{HoldsLease}
use Rattle.oc_model.specs.Step.{step}
use Rattle.oc_model.specs.Table.{leased_by}
use Rattle.oc_model.specs.World.{World, Process, process, node, is_up, up_ids, message_at, delivery, after_act}
use Rattle.oc_model.specs.WorldBounds.{IsOneOf, clock_of}
use Rattle.oc_model.proofs.Able.{among_up}
use Rattle.oc_model.proofs.Members.{all_test}
use Rattle.oc_laws_world.proofs.Lifts.{HasSent, IsTrueArrival, arrival_came}
use Rattle.oc_laws_tree.specs.LeaseEnds.{LeaseEndsLieAhead}
use Rattle.oc_laws_tree.proofs.Held.{tree_of}
use Rattle.oc_laws_tree.proofs.Known.{Knows}
use Rattle.oc_laws_tree.proofs.Points.{lease_ends_after}
use Rattle.oc_laws_tree.proofs.Reached.{Reached, of_reached}
use Rattle.oc_laws_tree.proofs.Spans.{IsId, up_id, among_them}
use Rattle.oc_laws_rest.specs.Rounds.{Turn, Round, after_turns, is_dial, arrived, after_arrivals, after_round, after_rounds, is_distinct, are_the_up, is_timely, are_sent, new_messages, is_round, are_later_rounds}
use Rattle.oc_laws_rest.specs.Rest.{IsChild, JoinedAreLeased}
use Rattle.oc_laws_rest.proofs.Asks.{sound_of}
use Rattle.oc_laws_rest.proofs.Children as children
use Rattle.oc_laws_rest.proofs.Children.{IsKept, IsClean}
use Rattle.oc_laws_rest.proofs.Forgetting.{HasEnd, IsKnownTo, tick_ends, tick_keeps, message_ends, mild_ends, failure_ends}
use Rattle.oc_laws_rest.proofs.Hush.{IsHush}
use Rattle.oc_laws_rest.proofs.Keeping.{AreNone, IsAnyTime, IsJoinedBy}
use Rattle.oc_laws_rest.proofs.Leases.{round_leases}
use Rattle.oc_laws_rest.proofs.Links.{HasEnded, round_ends, me_of, takes, takes_none, arrived_fails, arrived_comes}
use Rattle.oc_laws_rest.proofs.Moves.{at_some, at_after}
use Rattle.oc_laws_rest.proofs.Near.{near_of}
use Rattle.oc_laws_rest.proofs.Replies.{after_input}
use Rattle.oc_laws_rest.proofs.Roots.{reached_round}
use Rattle.oc_laws_rest.proofs.Ticks.{has_one, has_none, due_then}
use Rattle.oc_laws_rest.proofs.Timing.{tick_times}

-- the clock is at this second, and the next check is set from there
abbrev IsAt : ℕ → ℕ → ℕ → Option ℕ → Type 0
IsAt y c clock due = (clock ≡ c) × (due ≡ Some (c + 20 - y % 3))

module _ (h : Header) (y p s : ℕ) (ms : List Reading) (none : AreNone ms) (x : ℕ) (its : IsId h x) where
  -- y is joined to p
  abbrev IsJoinedHere : World → Type 0
  IsJoinedHere w = IsJoinedBy y p s ms none IsAnyTime (node w y).control

  module _ (w0 : World) (reached0 : Reached h w0) (up0 : is_up w0 y ≡ true) (joined0 : IsJoinedHere w0) (child0 : IsChild w0 p y) (Before : World → List ℕ → Type 0) (After : World → Type 0) (hush : IsHush h w0 x y Before After)
      (low : ℕ) (end : ℕ → ℕ) where
    -- each tick that may come leaves the lease of x with an end by the second that goes with the clock
    abbrev IsReady : Type 0
    IsReady = (t : ℕ) → is_timely (node w0 y).control t ≡ true → (low ≤ max (node w0 y).control.soft.clock t) × HasEnd x (end (max (node w0 y).control.soft.clock t)) (step (node w0 y) (Tick t)).node.control

    record HasGone (w : World) : Type 0 where
      clock : ℕ
      late : low ≤ clock
      time : IsAt y clock (node w y).control.soft.clock (node w y).control.soft.due
      ends : HasEnd x (end clock) (node w y).control

    -- Ticks

    module _ (ready : IsReady) where
      record Ticking (w : World) (still : List ℕ) : Type 0 where
        going : children.Ticking h y p s ms none w0 child0.end w still
        quiet : Before w still
        gone : IsOneOf y still ⊎ HasGone w

      one_turns : (w : World) (z : ℕ) (zs : List ℕ) (t : ℕ) → Ticking w (z ∷ zs) → (IsOneOf z zs → ⊥) → is_up w0 z ≡ true → is_timely (node w0 z).control t ≡ true → Ticking (after_act w (At z (Tick t))) zs
      one_turns w z zs t ticking out up timely = record {
        going = children.one_turns h y p s ms none w0 child0.end w z zs t ticking.going out up timely;
        quiet = hush.ticks w z zs t ticking.quiet out up timely;
        gone = ⊎_elim (λ (e : z ≡ y). inr (own e))
            (λ apart. ⊎_elim
            (λ one. ⊎_elim (λ (e : y ≡ z). absurd (apart (sym e))) (λ later. inl later) one)
            (λ gone. inr record {
              clock = gone.clock;
              late = gone.late;
              time = subst (λ (q : Process). IsAt y gone.clock q.node.control.soft.clock q.node.control.soft.due) (sym ((takes w z (Tick t) (ticking.going.kept.ups z ∙ up)).others y apart)) gone.time;
              ends = subst (λ (q : Process). HasEnd x (end gone.clock) q.node.control) (sym ((takes w z (Tick t) (ticking.going.kept.ups z ∙ up)).others y apart)) gone.ends;
            })
            ticking.gone)
            (cases_eq z y);
      } where
        own : z ≡ y → HasGone (after_act w (At z (Tick t)))
        own e =
            let same : process w y ≡ process w0 y = subst (λ (u : ℕ). process w u ≡ process w0 u) e (ticking.going.same z (inl refl)) in
            let in_time : is_timely (node w0 y).control t ≡ true = subst (λ (u : ℕ). is_timely (node w0 u).control t ≡ true) e timely in
            let due : nat_le (unwrap_or (node w0 y).control.soft.due (node w0 y).control.soft.clock) t ≡ true =
            (and_parts (nat_le (unwrap_or (node w0 y).control.soft.due (node w0 y).control.soft.clock) t) (nat_le t ((node w0 y).control.soft.clock + 29)) in_time).0 in
            let here : process (after_act w (At z (Tick t))) y ≡ record { node = (step (node w y) (Tick t)).node; up = true } =
            subst (λ (u : ℕ). process (after_act w (At z (Tick t))) u ≡ record { node = (step (node w u) (Tick t)).node; up = true }) e (takes w z (Tick t) (ticking.going.kept.ups z ∙ up)).here in
            let whole : process (after_act w (At z (Tick t))) y ≡ record { node = (step (node w0 y) (Tick t)).node; up = true } =
            here ∙ ap (λ (q : Process). record { node = (step q.node (Tick t)).node; up = true }) same in
            let times = tick_times y p (node w0 y) t (me_of w0 y) joined0.2 (due_then (node w0 y).control.soft.due (node w0 y).control.soft.clock t due) in
            let done = ready t in_time in
            record {
              clock = max (node w0 y).control.soft.clock t;
              late = done.0;
              time = subst (λ (q : Process). IsAt y (max (node w0 y).control.soft.clock t) q.node.control.soft.clock q.node.control.soft.due) (sym whole) times;
              ends = subst (λ (q : Process). HasEnd x (end (max (node w0 y).control.soft.clock t)) q.node.control) (sym whole) done.1;
            }

      all_turn : (ts : List Turn) (w : World) → Ticking w (map (λ t. t.node) ts) → is_distinct (map (λ t. t.node) ts) ≡ true → list_all (is_up w0) (map (λ t. t.node) ts) ≡ true
          → list_all (λ t. is_timely (node w0 t.node).control t.time) ts ≡ true → Ticking (after_turns w ts) []
      all_turn [] w ticking distinct ups timely = ticking
      all_turn (t ∷ ts) w ticking distinct ups timely =
          let xs : List ℕ = map (λ (u : Turn). u.node) ts in
          let apart = and_parts (not (has xs t.node)) (is_distinct xs) distinct in
          let out : IsOneOf t.node xs → ⊥ = has_none xs t.node (not-true (has xs t.node) apart.0) in
          let lives = and_parts (is_up w0 t.node) (list_all (is_up w0) xs) ups in
          let times = and_parts (is_timely (node w0 t.node).control t.time) (list_all (λ (u : Turn). is_timely (node w0 u.node).control u.time) ts) timely in
          all_turn ts (after_act w (At t.node (Tick t.time))) (one_turns w t.node xs t.time ticking out lives.0 times.0) apart.1 lives.1 times.1

    -- Messages

    module _ (c : ℕ) where
      record Ruling (w : World) : Type 0 where
        kept : IsKept h y p s ms none (IsAt y c) w0 w
        quiet : After w
        ends : HasEnd x (end c) (node w y).control

      module _ (w : World) (ruling : Ruling w) (k : ℕ) (m : Message) (past : length w0.net < k) (found : message_at w.net k ≡ Some m) (sender : is_up w0 m.from ≡ true) where
        -- the lease of x after a message to y
        ends_message : m.to ≡ y → HasEnd x (end c) (step (node w y) (Delivered m)).node.control
        ends_message e = ⊎_elim
            (λ (same : m.from ≡ x). mild_ends x (end c) (node w y) m (hush.mild w k m ruling.quiet past found same e) ruling.ends)
            (λ other. message_ends x (end c) (node w y) m other (apart other) (known e m.body refl) ruling.ends)
            (cases_eq m.from x) where
              apart : (m.from ≡ x → ⊥) → m.from - 1 ≡ x - 1 → ⊥
              apart other f = let least : 1 ≤ m.from = (up_id h w0 m.from reached0 sender).least in other (omega (arith, f, least, its.least))

              sent : HasSent w m.to m.from m.body
              sent = subst (λ o. IsTrueArrival w (delivery o)) found (arrival_came w (Deliver k))

              known : m.to ≡ y → (b : Body) → m.body ≡ b → IsKnownTo (node w y).control b
              known f (bodies.CheckIn seq upto rate number clients certs) body = λ cert among own.
                  let told : HasSent w m.to m.from (bodies.CheckIn seq upto rate number clients certs) = subst (HasSent w m.to m.from) body sent in
                  let knows : Knows (table_of w cert.parent) cert = (tree_of h w ruling.kept.reached).granted cert (inr (inr (record { from = m.from; to = m.to; body = bodies.CheckIn seq upto rate number clients certs }, told, among))) in
                  subst (λ (z : ℕ). Knows (table_of w z) cert) (own ∙ me_of w y) knows
              known f b body = tt

        -- and after any step
        ends_on : (z : ℕ) (i : Input) → is_up w z ≡ true → (z ≡ y → HasEnd x (end c) (step (node w y) i).node.control) → HasEnd x (end c) (node (after_input w z i) y).control
        ends_on z i up own = ⊎_elim
            (λ (e : z ≡ y). subst (λ (u : ℕ). HasEnd x (end c) (node (after_input w z i) u).control) e
            (subst (λ (q : Process). HasEnd x (end c) q.node.control) (sym (takes w z i up).here) (subst (λ (u : ℕ). HasEnd x (end c) (step (node w u) i).node.control) (sym e) (own e))))
            (λ apart. subst (λ (q : Process). HasEnd x (end c) q.node.control) (sym ((takes w z i up).others y apart)) ruling.ends)
            (cases_eq z y)

        ends_arrived : HasEnd x (end c) (node (arrived w k) y).control
        ends_arrived = ⊎_elim
            (λ fails. subst (λ (v : World). HasEnd x (end c) (node v y).control) (sym (arrived_fails w k m found fails)) (⊎_elim
            (λ up. ends_on m.from (Unreachable m.to) up (λ e. failure_ends x (end c) (node w y) m.to ruling.ends))
            (λ off. subst (λ (v : World). HasEnd x (end c) (node v y).control) (sym (takes_none w m.from (Unreachable m.to) off)) ruling.ends)
            (cases_Bool (is_up w m.from))))
            (λ comes. subst (λ (v : World). HasEnd x (end c) (node v y).control) (sym (arrived_comes w k m found comes)) (⊎_elim
            (λ up. ends_on m.to (Delivered m) up ends_message)
            (λ off. subst (λ (v : World). HasEnd x (end c) (node v y).control) (sym (takes_none w m.to (Delivered m) off)) ruling.ends)
            (cases_Bool (is_up w m.to))))
            (cases_Bool (is_dial m.body && not (is_up w m.to)))

      all_arrive : (ks : List ℕ) (w : World) → Ruling w → are_sent (length w0.net) w ks ≡ true → Ruling (after_arrivals w ks)
      all_arrive [] w ruling sent = ruling
      all_arrive (k ∷ ks) w ruling sent =
          let outer = and_parts (nat_lt (length w0.net) k && nat_le k (length w.net)) (are_sent (length w0.net) (arrived w k) ks) sent in
          let inner = and_parts (nat_lt (length w0.net) k) (nat_le k (length w.net)) outer.0 in
          let past : length w0.net < k = ltb-true (length w0.net) k inner.0 in
          let found = at_some w.net k (omega (arith, past)) (leb-true k (length w.net) inner.1) in
          let there : message_at (w0.net ++ ruling.kept.later) k ≡ Some found.0 = subst (λ (all : List Message). message_at all k ≡ Some found.0) ruling.kept.net found.1 in
          let clean : IsClean h y p s ms none (IsAt y c) found.0 = at_after (IsClean h y p s ms none (IsAt y c)) w0.net ruling.kept.later k found.0 past there ruling.kept.clean in
          let sender : is_up w0 found.0.from ≡ true = at_after (λ (m : Message). is_up w0 m.from ≡ true) w0.net ruling.kept.later k found.0 past there ruling.kept.from in
          all_arrive ks (arrived w k)
          (record {
            kept = children.arrives h y p s ms none (IsAt y c) w0 child0.parent w ruling.kept k found.0 found.1 clean;
            quiet = hush.arrives w k found.0 ruling.quiet past found.1;
            ends = ends_arrived w ruling k found.0 past found.1 sender;
          })
          outer.1

    -- after the round y is joined as before, and its clock has gone on
    record HasEndedRound (v : World) : Type 0 where
      clock : ℕ
      late : low ≤ clock
      time : IsAt y clock (node v y).control.soft.clock (node v y).control.soft.due
      joined : IsJoinedHere v
      ends : HasEnd x (end clock) (node v y).control

    round_goes : (r : Round) → is_round (length w0.net) w0 r ≡ true → IsReady → HasEndedRound (after_round w0 r)
    round_goes r is ready =
        let xs : List ℕ = map (λ (t : Turn). t.node) r.turns in
        let u : World = after_turns w0 r.turns in
        let timely : Bool = list_all (λ (t : Turn). is_timely (node w0 t.node).control t.time) r.turns in
        let sent : Bool = are_sent (length w0.net) u r.arrivals in
        let p3 = and_parts (are_the_up w0 xs && timely && sent) (list_all (has r.arrivals) (new_messages w0 (after_round w0 r))) is in
        let p2 = and_parts (are_the_up w0 xs && timely) sent p3.0 in
        let p1 = and_parts (are_the_up w0 xs) timely p2.0 in
        let q2 = and_parts (list_all (is_up w0) xs && list_all (has xs) (up_ids w0)) (is_distinct xs) p1.0 in
        let q1 = and_parts (list_all (is_up w0) xs) (list_all (has xs) (up_ids w0)) q2.0 in
        let first : IsKept h y p s ms none IsAnyTime w0 w0 = children.kept_first h y p s ms none IsAnyTime w0 reached0 joined0 child0 in
        let begins : Ticking ready w0 xs = record { going = record { kept = first; same = λ z one. refl }; quiet = hush.begins xs; gone = inl (has_one xs y (all_test (has xs) (up_ids w0) q1.1 y (among_up w0 y up0))) } in
        let ticked : Ticking ready u [] = all_turn ready r.turns w0 begins q2.1 q1.0 p1.1 in
        let gone : HasGone u = ⊎_elim (λ one. absurd one) (λ gone_now. gone_now) ticked.gone in
        let kept : IsKept h y p s ms none (IsAt y gone.clock) w0 u = children.kept_at h y p s ms none w0 (IsAt y gone.clock) u ticked.going.kept gone.time in
        let done : Ruling gone.clock (after_round w0 r) = all_arrive gone.clock r.arrivals u (record { kept = kept; quiet = hush.ticked u ticked.quiet; ends = gone.ends }) p2.1 in
        let child = done.kept.child in
        record { clock = gone.clock; late = gone.late; time = child.5; joined = (child.0, child.1, child.2, child.3, child.4, tt); ends = done.ends }

  -- Three rounds

  -- from a world of which Q holds on, x sends y no ask and no check-in
  module _ (Q : World → Type 0) (Before : (v : World) → Q v → World → List ℕ → Type 0) (After : (v : World) → Q v → World → Type 0) (goes : (v : World) (r : Round) → Q v → is_round (length v.net) v r ≡ true → Q (after_round v r))
      (hush : (v : World) (quiet : Q v) → IsHush h v x y (Before v quiet) (After v quiet)) where
    pub three_rounds : (w : World) → Reached h w → is_up w y ≡ true → IsJoinedHere w → JoinedAreLeased w → Q w → (a b c : Round) → are_later_rounds w (a ∷ b ∷ c ∷ []) ≡ true → (t : ℕ) → HoldsLease (after_rounds w (a ∷ b ∷ c ∷ [])) y x t → ⊥
    three_rounds w reached up joined leased quiet a b c rounds t lease =
        let qa = and_parts (is_round (length w.net) w a) (are_later_rounds (after_round w a) (b ∷ c ∷ [])) rounds in
        let wa : World = after_round w a in
        let qb = and_parts (is_round (length wa.net) wa b) (are_later_rounds (after_round wa b) (c ∷ [])) qa.1 in
        let wb : World = after_round wa b in
        let qc = and_parts (is_round (length wb.net) wb c) (are_later_rounds (after_round wb c) []) qb.1 in
        let wc : World = after_round wb c in
        let id_y : IsId h y = up_id h w y reached up in
        let as_many : length (node w y).control.leases ≡ h.nodes = (sound_of h w reached y).leases ∙ (among_them h w y reached id_y).0 in
        let ends_a : HasEnded w wa = round_ends w (length w.net) a qa.0 in
        let ends_b : HasEnded wa wb = round_ends wa (length wa.net) b qb.0 in
        let ends_c : HasEnded wb wc = round_ends wb (length wb.net) c qc.0 in
        let up_a : is_up wa y ≡ true = ends_a.ups y ∙ up in
        let up_b : is_up wb y ≡ true = ends_b.ups y ∙ up_a in
        let up_c : is_up wc y ≡ true = ends_c.ups y ∙ up_b in
        let reached_a : Reached h wa = reached_round h w a reached in
        let reached_b : Reached h wb = reached_round h wa b reached_a in
        let quiet_a : Q wa = goes w a quiet qa.0 in
        let first : HasEndedRound w reached up joined (leased y p up joined.2) (Before w quiet) (After w quiet) (hush w quiet) 0 (λ k. k + lease_time) wa =
        round_goes w reached up joined (leased y p up joined.2) (Before w quiet) (After w quiet) (hush w quiet) 0 (λ k. k + lease_time) a qa.0
        (λ k timely. (
          omega arith,
          tick_ends x (max (node w y).control.soft.clock k + lease_time) (node w y) k its.least (omega (arith, as_many, its.most)) (omega arith)
              (λ end e. let near : end ≤ (node w y).control.soft.clock + lease_time = near_of h w reached y x end e in omega (arith, near)),
        )) in
        let c1 : ℕ = first.clock in
        let child_a : IsChild wa p y = round_leases h w a reached qa.0 y p up_a first.joined.2 in
        let second : HasEndedRound wa reached_a up_a first.joined child_a (Before wa quiet_a) (After wa quiet_a) (hush wa quiet_a) (c1 + 18) (λ k. c1 + lease_time) wb =
        round_goes wa reached_a up_a first.joined child_a (Before wa quiet_a) (After wa quiet_a) (hush wa quiet_a) (c1 + 18) (λ k. c1 + lease_time) b qb.0
        (λ k timely. (late_tick wa c1 first.time k timely, tick_keeps x (c1 + lease_time) (node wa y) k first.ends)) in
        let c2 : ℕ = second.clock in
        let more : c1 + 18 ≤ c2 = second.late in
        let quiet_b : Q wb = goes wa b quiet_a qb.0 in
        let child_b : IsChild wb p y = round_leases h wa b reached_a qb.0 y p up_b second.joined.2 in
        let third : HasEndedRound wb reached_b up_b second.joined child_b (Before wb quiet_b) (After wb quiet_b) (hush wb quiet_b) (c1 + 36) (λ k. c1 + lease_time) wc =
        round_goes wb reached_b up_b second.joined child_b (Before wb quiet_b) (After wb quiet_b) (hush wb quiet_b) (c1 + 36) (λ k. c1 + lease_time) c qc.0
        (λ k timely. (
          (let late : c2 + 18 ≤ max (node wb y).control.soft.clock k = late_tick wb c2 second.time k timely in omega (arith, late, more)),
          tick_keeps x (c1 + lease_time) (node wb y) k second.ends,
        )) in
        let held = third.ends t (subst (λ (z : ℕ). leased_by (table_of wc y) z x ≡ Some t) (sym (me_of wc y)) lease) in
        let ahead : clock_of wc y < held.0 = of_reached LeaseEndsLieAhead lease_ends_after h wc (reached_round h wb c reached_b) y x t held.0 up_c lease held.1 in
        let now : (node wc y).control.soft.clock ≡ third.clock = third.time.0 in
        omega (arith, ahead, now, third.late, held.2) where
          -- a node whose next check was set at the second k ticks not before then
          late_tick : (v : World) (k : ℕ) → IsAt y k (node v y).control.soft.clock (node v y).control.soft.due → (t : ℕ) → is_timely (node v y).control t ≡ true → k + 18 ≤ max (node v y).control.soft.clock t
          late_tick v k time t timely =
              let due : nat_le (unwrap_or (node v y).control.soft.due (node v y).control.soft.clock) t ≡ true =
              (and_parts (nat_le (unwrap_or (node v y).control.soft.due (node v y).control.soft.clock) t) (nat_le t ((node v y).control.soft.clock + 29)) timely).0 in
              let then_due : k + 20 - y % 3 ≤ t = leb-true (k + 20 - y % 3) t (sym (ap (λ d. nat_le (unwrap_or d (node v y).control.soft.clock) t) time.1) ∙ due) in
              let small : y % 3 < 3 = mod-lt y (omega arith) in
              omega (arith, then_due, small)
