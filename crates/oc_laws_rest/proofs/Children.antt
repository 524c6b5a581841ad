-- A child past the chain that has measured no way stays joined to its parent, round after round.
use Rattle.std.proofs.Common.{◌≡◌, ℕ, ◌+◌, ◌≤◌, ◌<◌, Bool, true, false, not, ◌&&◌, nat_le, nat_lt, Option, Some, None, unwrap_or, List, [], ◌∷◌, ◌++◌, inl, inr, length, map, refl, ap, sym, subst, ◌∙◌, ⊎_elim, arith, append_assoc, append-nil}
use Rattle.std.specs.List.{AllByRecursion, list_all}
use Rattle.std.proofs.lemmas.Bool.{cases_eq, cases_Bool, and_parts, false_from_ne_true, leb-true, ltb-true, not-true}
use Rattle.oc_model.specs.declared.event.Act.TheVariants.{At, Deliver}
use Rattle.oc_model.specs.declared.input.Input.{Input}
use Rattle.oc_model.specs.declared.input.Input.TheVariants.{Tick, Unreachable, Delivered}
use Rattle.oc_model.specs.declared.message.Body.{Body}
use Rattle.oc_model.specs.declared.message.Body.TheVariants as bodies
use Rattle.oc_model.specs.declared.message.Message.{Message}
use Rattle.oc_model.specs.declared.reading.Reading.{Reading}
use Rattle.oc_model.specs.Chains.{IsUp, IsJoined}
use Rattle.oc_model.specs.ClaimsTree.{table_of, seq_of}
use Rattle.oc_model.specs.Leases.{lease_time}
use Rattle.oc_model.specs.Node.{Header}
use Rattle.oc_model.specs.Numbers.{has, at}
use Rattle.oc_model.specs.Plan.{is_member}
use Rattle.oc_model.specs.Ready.{HoldsLease}
use Rattle.oc_model.specs.Step.{step}
use Rattle.oc_model.specs.Table.{leased_by}
use Rattle.oc_model.specs.World.{World, Process, process, node, is_up, up_ids, message_at, delivery, after_act}
use Rattle.oc_model.specs.WorldBounds.{IsOneOf, clock_of}
use Rattle.oc_model.proofs.Lists.{all_append, all_weaker}
use Rattle.oc_laws_world.proofs.Lifts.{HasSent, IsTrueArrival, arrival_came}
use Rattle.oc_laws_tree.proofs.Reached.{Reached, reached_act}
use Rattle.oc_laws_rest.specs.Rounds.{Turn, Round, after_turns, is_dial, arrived, after_arrivals, after_round, after_rounds, is_distinct, are_the_up, is_timely, are_sent, new_messages, is_round, are_later_rounds, is_quiet}
use Rattle.oc_laws_rest.specs.Rest.{IsChild, JoinedAreLeased, IsUnmeasured}
use Rattle.oc_laws_rest.proofs.Holding.{IsNoCall, tick_holds, starts_call, message_calls}
use Rattle.oc_laws_rest.proofs.Keeping.{AreNone, IsAnyTime, IsJoinedBy, DialsThere, IsNoRecall, HasStayed, tick_stays, message_stays}
use Rattle.oc_laws_rest.proofs.Leases.{any_come, old_body, joined_are_leased, round_leases}
use Rattle.oc_laws_rest.proofs.Leasing.{HasIt, IsOld, message_has, failure_has}
use Rattle.oc_laws_rest.proofs.Links.{HasEnded, me_of, takes, takes_none, acted_ups, arrived_fails, arrived_comes, round_ends}
use Rattle.oc_laws_rest.proofs.Moves.{at_some, at_after}
use Rattle.oc_laws_rest.proofs.Replies.{after_input}
use Rattle.oc_laws_rest.proofs.Roots.{own_step, tables_of, reached_arrived, reached_round, reached_rounds}
use Rattle.oc_laws_rest.proofs.Ticks.{has_none}
use Rattle.oc_laws_rest.proofs.Unasked.{tick_starts, failure_starts}

module _ (h : Header) (x p s : ℕ) (ms : List Reading) (none : AreNone ms) (E : ℕ → Option ℕ → Type 0) where
  -- x dials p alone, and p does not call it back
  abbrev pub IsClean : Message → Type 0
  IsClean m = (m.from ≡ x → is_dial m.body ≡ true → m.to ≡ p) × (m.from ≡ p → m.to ≡ x → m.body ≡ bodies.Rejoin s → ⊥)

  all_clean : (z : ℕ) (sent : List Message) → AllByRecursion (λ m. m.from ≡ z) sent → (z ≡ x → AllByRecursion (DialsThere x p s ms none E) sent) → (z ≡ p → AllByRecursion (IsNoCall x s) sent) → AllByRecursion IsClean sent
  all_clean z [] from there calls = tt
  all_clean z (m ∷ rest) from there calls =
      ((λ e dials. (there (sym from.0 ∙ e)).0 dials, λ e to body. (calls (sym from.0 ∙ e)).0 to body), all_clean z rest from.1 (λ e. (there e).1) (λ e. (calls e).1))

  module _ (w0 : World) where
    -- x is joined to p, which holds its lease, in this world of the round
    pub record IsKept (w : World) : Type 0 where
      pub reached : Reached h w
      pub ups : (y : ℕ) → is_up w y ≡ is_up w0 y
      pub child : IsJoinedBy x p s ms none E (node w x).control
      pub lease : HasIt x s (node w p).control
      pub later : List Message
      pub net : w.net ≡ w0.net ++ later
      pub clean : AllByRecursion IsClean later
      pub from : AllByRecursion (λ m. is_up w0 m.from ≡ true) later

    -- a step of any node, if it is right for x and for p
    kept_on : (w : World) (z : ℕ) (i : Input) → IsKept w → is_up w z ≡ true → Reached h (after_input w z i) → (z ≡ x → HasStayed x p s ms none E (step (node w x) i).node.control (step (node w x) i).sends)
        → (z ≡ p → HasIt x s (step (node w p) i).node.control × AllByRecursion (IsNoCall x s) (step (node w p) i).sends) → IsKept (after_input w z i)
    kept_on w z i kept up reached right_child right_parent =
        let turn = takes w z i up in
        let sent : List Message = (step (node w z) i).sends in
        record {
          reached = reached;
          ups = λ y. acted_ups w z i y ∙ kept.ups y;
          child = ⊎_elim
              (λ (e : z ≡ x). subst (λ (y : ℕ). IsJoinedBy x p s ms none E (node (after_input w z i) y).control) e
              (subst (λ (u : Process). IsJoinedBy x p s ms none E u.node.control) (sym turn.here) (subst (λ (y : ℕ). IsJoinedBy x p s ms none E (step (node w y) i).node.control) (sym e) (right_child e).member)))
              (λ apart. subst (λ (u : Process). IsJoinedBy x p s ms none E u.node.control) (sym (turn.others x apart)) kept.child)
              (cases_eq z x);
          lease = ⊎_elim
              (λ (e : z ≡ p). subst (λ (y : ℕ). HasIt x s (node (after_input w z i) y).control) e
              (subst (λ (u : Process). HasIt x s u.node.control) (sym turn.here) (subst (λ (y : ℕ). HasIt x s (step (node w y) i).node.control) (sym e) (right_parent e).0)))
              (λ apart. subst (λ (u : Process). HasIt x s u.node.control) (sym (turn.others p apart)) kept.lease)
              (cases_eq z p);
          later = kept.later ++ sent;
          net = turn.net ∙ (ap (λ (all : List Message). all ++ sent) kept.net ∙ append_assoc w0.net kept.later sent);
          clean = all_append IsClean kept.later sent kept.clean
              (all_clean z sent (own_step z ⊥ (node w z) i (tables_of h w kept.reached z) (any_come i) (me_of w z) (λ never. absurd never)).1
              (λ e. subst (λ (y : ℕ). AllByRecursion (DialsThere x p s ms none E) (step (node w y) i).sends) (sym e) (right_child e).there)
              (λ e. subst (λ (y : ℕ). AllByRecursion (IsNoCall x s) (step (node w y) i).sends) (sym e) (right_parent e).1));
          from = all_append (λ (m : Message). is_up w0 m.from ≡ true) kept.later sent kept.from
              (all_weaker (λ (m : Message). m.from ≡ z) (λ (m : Message). is_up w0 m.from ≡ true) (λ m e. ap (is_up w0) e ∙ (sym (kept.ups z) ∙ up)) sent
              (own_step z ⊥ (node w z) i (tables_of h w kept.reached z) (any_come i) (me_of w z) (λ never. absurd never)).1);
        }

    -- at the beginning of the round
    pub kept_first : Reached h w0 → IsJoinedBy x p s ms none E (node w0 x).control → IsChild w0 p x → IsKept w0
    kept_first reached joined child = record {
      reached = reached;
      ups = λ y. refl;
      child = joined;
      lease = subst (λ (y : ℕ). leased_by (table_of w0 p) y x ≡ Some s) (sym (me_of w0 p)) (subst (λ (t : ℕ). leased_by (table_of w0 p) p x ≡ Some t) joined.3 child.lease);
      later = [];
      net = sym (append-nil w0.net);
      clean = tt;
      from = tt;
    }

    -- Messages

    module _ (host : is_up w0 p ≡ true) (w : World) (kept : IsKept w) (k : ℕ) (m : Message) (found : message_at w.net k ≡ Some m) (clean : IsClean m) where
      comes : is_dial m.body && not (is_up w m.to) ≡ false → IsKept (after_input w m.to (Delivered m))
      comes arrives = ⊎_elim
          (λ up. kept_on w m.to (Delivered m) kept up (subst (Reached h) (arrived_comes w k m found arrives) (reached_arrived h w k kept.reached))
          (λ e. message_stays x p s ms none E (node w x) m (no_recall e m.body refl) kept.child)
          (λ e. (message_has x s (node w p) m (old e) kept.lease, message_calls x s (node w p) m kept.lease)))
          (λ off. subst IsKept (sym (takes_none w m.to (Delivered m) off)) kept)
          (cases_Bool (is_up w m.to)) where
            no_recall : m.to ≡ x → (b : Body) → m.body ≡ b → IsNoRecall x p s ms none E m.from b
            no_recall to (bodies.Rejoin seq) body = λ from number. clean.1 from to (body ∙ ap bodies.Rejoin number)
            no_recall to b body = tt

            among : HasSent w m.to m.from m.body
            among = subst (λ o. IsTrueArrival w (delivery o)) found (arrival_came w (Deliver k))

            leased : HoldsLease w p x (seq_of w x)
            leased = subst (λ (t : ℕ). leased_by (table_of w p) p x ≡ Some t) (sym kept.child.3) (subst (λ (y : ℕ). leased_by (table_of w p) y x ≡ Some s) (me_of w p) kept.lease)

            old : m.to ≡ p → IsOld x s (node w p).control m.from m.body
            old e = subst (λ (t : ℕ). IsOld x t (node w p).control m.from m.body) kept.child.3 (old_body h w x p m.from m.body kept.reached (subst (λ (y : ℕ). HasSent w y m.from m.body) e among) leased)

      fails : is_dial m.body && not (is_up w m.to) ≡ true → IsKept (after_input w m.from (Unreachable m.to))
      fails failed = ⊎_elim
          (λ up. kept_on w m.from (Unreachable m.to) kept up (subst (Reached h) (arrived_fails w k m found failed) (reached_arrived h w k kept.reached))
          (λ e. absurd (never e))
          (λ _. (failure_has x s (node w p) m.to kept.lease, starts_call x s (step (node w p) (Unreachable m.to)).sends (failure_starts (node w p) m.to))))
          (λ off. subst IsKept (sym (takes_none w m.from (Unreachable m.to) off)) kept)
          (cases_Bool (is_up w m.from)) where
            -- the one node that x dials is up
            never : m.from ≡ x → ⊥
            never e =
                let both = and_parts (is_dial m.body) (not (is_up w m.to)) failed in
                let there : m.to ≡ p = clean.0 e both.0 in
                let off : is_up w m.to ≡ false = not-true (is_up w m.to) both.1 in
                let clash : true ≡ false = sym (kept.ups p ∙ host) ∙ (ap (is_up w) (sym there) ∙ off) in
                cc

      pub arrives : IsKept (arrived w k)
      arrives = ⊎_elim
          (λ failed. subst IsKept (sym (arrived_fails w k m found failed)) (fails failed))
          (λ whole. subst IsKept (sym (arrived_comes w k m found whole)) (comes whole))
          (cases_Bool (is_dial m.body && not (is_up w m.to)))

    pub all_arrive : is_up w0 p ≡ true → (ks : List ℕ) (w : World) → IsKept w → are_sent (length w0.net) w ks ≡ true → IsKept (after_arrivals w ks)
    all_arrive host [] w kept sent = kept
    all_arrive host (k ∷ ks) w kept sent =
        let outer = and_parts (nat_lt (length w0.net) k && nat_le k (length w.net)) (are_sent (length w0.net) (arrived w k) ks) sent in
        let inner = and_parts (nat_lt (length w0.net) k) (nat_le k (length w.net)) outer.0 in
        let past : length w0.net < k = ltb-true (length w0.net) k inner.0 in
        let found = at_some w.net k (omega (arith, past)) (leb-true k (length w.net) inner.1) in
        let clean : IsClean found.0 = at_after IsClean w0.net kept.later k found.0 past (subst (λ (all : List Message). message_at all k ≡ Some found.0) kept.net found.1) kept.clean in
        all_arrive host ks (arrived w k) (arrives host w kept k found.0 found.1 clean) outer.1

module _ (h : Header) (x p s : ℕ) (ms : List Reading) (none : AreNone ms) where
  module _ (w0 : World) where
    -- the same, with what holds of the clock
    pub kept_at : (E : ℕ → Option ℕ → Type 0) (w : World) → IsKept h x p s ms none IsAnyTime w0 w → E (node w x).control.soft.clock (node w x).control.soft.due → IsKept h x p s ms none E w0 w
    kept_at E w kept time = record {
      reached = kept.reached;
      ups = kept.ups;
      child = (kept.child.0, kept.child.1, kept.child.2, kept.child.3, kept.child.4, time);
      lease = kept.lease;
      later = kept.later;
      net = kept.net;
      clean = kept.clean;
      from = kept.from;
    }

    -- Ticks

    module _ (end : at (node w0 p).control.leases x None ≡ Some (clock_of w0 p + lease_time)) where
      pub record Ticking (w : World) (still : List ℕ) : Type 0 where
        pub kept : IsKept h x p s ms none IsAnyTime w0 w
        pub same : (y : ℕ) → IsOneOf y still → process w y ≡ process w0 y

      pub one_turns : (w : World) (y : ℕ) (ys : List ℕ) (c : ℕ) → Ticking w (y ∷ ys) → (IsOneOf y ys → ⊥) → is_up w0 y ≡ true → is_timely (node w0 y).control c ≡ true → Ticking (after_act w (At y (Tick c))) ys
      one_turns w y ys c going out up timely = record {
        kept = kept_on h x p s ms none IsAnyTime w0 w y (Tick c) going.kept (going.kept.ups y ∙ up) (reached_act h w (At y (Tick c)) going.kept.reached)
            (λ _. tick_stays x p s ms none (node w x) c going.kept.child)
            (λ e. (at_parent e, starts_call x s (step (node w p) (Tick c)).sends (tick_starts (node w p) c)));
        same = λ z one. (takes w y (Tick c) (going.kept.ups y ∙ up)).others z (λ e. out (subst (λ (u : ℕ). IsOneOf u ys) (sym e) one)) ∙ going.same z (inr one);
      } where
        at_parent : y ≡ p → HasIt x s (step (node w p) (Tick c)).node.control
        at_parent e =
            let same : process w p ≡ process w0 p = subst (λ (z : ℕ). process w z ≡ process w0 z) e (going.same y (inl refl)) in
            let soon : c ≤ clock_of w0 p + 29 =
            leb-true c (clock_of w0 p + 29) (and_parts (nat_le (unwrap_or (node w0 p).control.soft.due (node w0 p).control.soft.clock) c) (nat_le c ((node w0 p).control.soft.clock + 29))
            (subst (λ (z : ℕ). is_timely (node w0 z).control c ≡ true) e timely)).1 in
            let clock : (node w p).control.soft.clock ≡ clock_of w0 p = ap (λ (u : Process). u.node.control.soft.clock) same in
            tick_holds x s (node w p) c (clock_of w0 p + lease_time) going.kept.lease (ap (λ (u : Process). at u.node.control.leases x None) same ∙ end) (omega (arith, soon, clock))

      all_turn : (ts : List Turn) (w : World) → Ticking w (map (λ t. t.node) ts) → is_distinct (map (λ t. t.node) ts) ≡ true → list_all (is_up w0) (map (λ t. t.node) ts) ≡ true
          → list_all (λ t. is_timely (node w0 t.node).control t.time) ts ≡ true → IsKept h x p s ms none IsAnyTime w0 (after_turns w ts)
      all_turn [] w going distinct ups timely = going.kept
      all_turn (t ∷ ts) w going distinct ups timely =
          let xs : List ℕ = map (λ (u : Turn). u.node) ts in
          let apart = and_parts (not (has xs t.node)) (is_distinct xs) distinct in
          let out : IsOneOf t.node xs → ⊥ = has_none xs t.node (not-true (has xs t.node) apart.0) in
          let lives = and_parts (is_up w0 t.node) (list_all (is_up w0) xs) ups in
          let times = and_parts (is_timely (node w0 t.node).control t.time) (list_all (λ (u : Turn). is_timely (node w0 u.node).control u.time) ts) timely in
          all_turn ts (after_act w (At t.node (Tick t.time))) (one_turns w t.node xs t.time going out lives.0 times.0) apart.1 lives.1 times.1

    -- The whole round

    round_keeps : (r : Round) → Reached h w0 → is_round (length w0.net) w0 r ≡ true → IsJoinedBy x p s ms none IsAnyTime (node w0 x).control → IsChild w0 p x → IsJoinedBy x p s ms none IsAnyTime (node (after_round w0 r) x).control
    round_keeps r reached is joined child =
        let xs : List ℕ = map (λ (t : Turn). t.node) r.turns in
        let u : World = after_turns w0 r.turns in
        let timely : Bool = list_all (λ (t : Turn). is_timely (node w0 t.node).control t.time) r.turns in
        let sent : Bool = are_sent (length w0.net) u r.arrivals in
        let p3 = and_parts (are_the_up w0 xs && timely && sent) (list_all (has r.arrivals) (new_messages w0 (after_round w0 r))) is in
        let p2 = and_parts (are_the_up w0 xs && timely) sent p3.0 in
        let p1 = and_parts (are_the_up w0 xs) timely p2.0 in
        let q2 = and_parts (list_all (is_up w0) xs && list_all (has xs) (up_ids w0)) (is_distinct xs) p1.0 in
        let q1 = and_parts (list_all (is_up w0) xs) (list_all (has xs) (up_ids w0)) q2.0 in
        let first : IsKept h x p s ms none IsAnyTime w0 w0 = kept_first h x p s ms none IsAnyTime w0 reached joined child in
        let ticked : IsKept h x p s ms none IsAnyTime w0 u = all_turn child.end r.turns w0 (record { kept = first; same = λ y one. refl }) q2.1 q1.0 p1.1 in
        (all_arrive h x p s ms none IsAnyTime w0 child.parent r.arrivals u ticked p2.1).child

  pub later_keeps : (rs : List Round) (w : World) → Reached h w → JoinedAreLeased w → is_up w x ≡ true → IsJoinedBy x p s ms none IsAnyTime (node w x).control → are_later_rounds w rs ≡ true
      → IsJoinedBy x p s ms none IsAnyTime (node (after_rounds w rs) x).control
  later_keeps [] w reached leased up joined quiet = joined
  later_keeps (r ∷ rs) w reached leased up joined quiet =
      let both = and_parts (is_round (length w.net) w r) (are_later_rounds (after_round w r) rs) quiet in
      let ends : HasEnded w (after_round w r) = round_ends w (length w.net) r both.0 in
      later_keeps rs (after_round w r) (reached_round h w r reached) (round_leases h w r reached both.0) (ends.ups x ∙ up) (round_keeps w r reached both.0 joined (leased x p up joined.2)) both.1

-- Rounds, one after another

pub rounds_more : (rs more : List Round) (w : World) → after_rounds w (rs ++ more) ≡ after_rounds (after_rounds w rs) more
rounds_more [] more w = refl
rounds_more (r ∷ rs) more w = rounds_more rs more (after_round w r)

pub later_more : (rs more : List Round) (w : World) → are_later_rounds w (rs ++ more) ≡ true → (are_later_rounds w rs ≡ true) × (are_later_rounds (after_rounds w rs) more ≡ true)
later_more [] more w quiet = (refl, quiet)
later_more (r ∷ rs) more w quiet =
    let both = and_parts (is_round (length w.net) w r) (are_later_rounds (after_round w r) (rs ++ more)) quiet in
    let rest = later_more rs more (after_round w r) both.1 in
    (ap (λ (b : Bool). b && are_later_rounds (after_round w r) rs) both.0 ∙ rest.0, rest.1)

pub record StaysJoined (w v : World) (x p : ℕ) : Type 0 where
  pub joined : IsJoined v x p
  pub seq : seq_of v x ≡ seq_of w x

pub keeps_parent : (h : Header) (w : World) → Reached h w → (q r : Round) (rs more : List Round) (x p : ℕ) → is_quiet w (q ∷ r ∷ rs ++ more) ≡ true → IsUnmeasured (after_rounds w (q ∷ r ∷ rs)) x
    → IsUp (after_rounds w (q ∷ r ∷ rs)) x → IsJoined (after_rounds w (q ∷ r ∷ rs)) x p → StaysJoined (after_rounds w (q ∷ r ∷ rs)) (after_rounds w (q ∷ r ∷ rs ++ more)) x p
keeps_parent h w reached q r rs more x p quiet plain up joined =
    let first = and_parts (is_round 0 w q) (are_later_rounds (after_round w q) (r ∷ rs ++ more)) quiet in
    let rest = later_more (r ∷ rs) more (after_round w q) first.1 in
    let v : World = after_rounds w (q ∷ r ∷ rs) in
    let leased : JoinedAreLeased v = joined_are_leased h w reached q r rs (ap (λ (b : Bool). b && are_later_rounds (after_round w q) (r ∷ rs)) first.0 ∙ rest.0) in
    let done : IsJoinedBy x p (seq_of v x) (node v x).control.kept.measures plain.rates IsAnyTime (node (after_rounds v more) x).control =
    later_keeps h x p (seq_of v x) (node v x).control.kept.measures plain.rates more v (reached_rounds h (q ∷ r ∷ rs) w reached) leased up
    (me_of v x, false_from_ne_true (is_member (node v x).control) plain.past, joined, refl, refl, tt) rest.1 in
    let same : after_rounds w (q ∷ r ∷ rs ++ more) ≡ after_rounds v more = rounds_more (q ∷ r ∷ rs) more w in
    record {
      joined = subst (λ (u : World). IsJoined u x p) (sym same) done.2;
      seq = ap (λ (u : World). seq_of u x) same ∙ done.3;
    }
