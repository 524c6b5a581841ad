-- At the end of a round no node asks a node that is down, or is joined to one, whatever the world before it.
use Rattle.std.proofs.Common.{◌≡◌, ℕ, suc, ◌+◌, ◌-◌, ◌≤◌, ◌<◌, Bool, true, false, not, ◌&&◌, nat_le, nat_lt, if◌then◌else◌, Some, unwrap_or, List, [], ◌∷◌, ◌++◌, ◌⊎◌, inl, inr, length, map, refl, ap, sym, subst, ◌∙◌, ⊎_elim, arith, length-append, append_assoc, append-nil}
use Rattle.std.specs.List.{list_all}
use Rattle.std.proofs.lemmas.Bool.{cases_eq, cases_Bool, and_parts, leb-true, ltb-true, not-true}
use Rattle.oc_model.specs.declared.event.Act.TheVariants.{At, Deliver}
use Rattle.oc_model.specs.declared.input.Input.{Input}
use Rattle.oc_model.specs.declared.input.Input.TheVariants.{Tick, Unreachable, Delivered}
use Rattle.oc_model.specs.declared.message.Message.{Message}
use Rattle.oc_model.specs.Checking.{is_peer}
use Rattle.oc_model.specs.Node.{Node}
use Rattle.oc_model.specs.Numbers.{IsAmong, has}
use Rattle.oc_model.specs.Step.{step}
use Rattle.oc_model.specs.World.{World, Process, process, node, is_up, mode_of, up_ids, message_at, stepped, delivery, acted, after_act}
use Rattle.oc_model.specs.WorldBounds.{IsOneOf}
use Rattle.oc_model.proofs.Able.{among_up}
use Rattle.oc_model.proofs.Members.{all_test}
use Rattle.oc_model.proofs.Outcomes.{step_leaves}
use Rattle.oc_model.proofs.Processes.{process_in-me}
use Rattle.oc_laws_rest.specs.Rounds.{Turn, Round, after_turns, is_dial, arriving, arrived, after_arrivals, after_round, after_rounds, is_distinct, are_the_up, is_timely, are_sent, new_messages, is_round, are_later_rounds, is_quiet}
use Rattle.oc_laws_rest.specs.Rest.{PeersAreUp}
use Rattle.oc_laws_rest.proofs.Forms.{in_numbers}
use Rattle.oc_laws_rest.proofs.Moves.{Turned, turned, Waits, AreSent, waits_on, waits_more, at_next, at_some}
use Rattle.oc_laws_rest.proofs.Peers.{IsDial, Dials, step_ticks, step_fails, step_receives}
use Rattle.oc_laws_rest.proofs.Ticks.{has_one, has_none, due_then}

-- One input

pub me_of : (w : World) (x : ℕ) → (node w x).control.me ≡ x
me_of w x = process_in-me w.processes x

-- what one input at a node that is up makes of a world
pub takes : (w : World) (x : ℕ) (i : Input) → is_up w x ≡ true → Turned w x (step (node w x) i).node (step (node w x) i).sends (acted w (Some (record { at = x; input = i })))
takes w x i up = turned w x i (node w x) (step (node w x) i).node (step (node w x) i).sends (ap (λ (b : Bool). record { node = node w x; up = b }) up) ((step_leaves (node w x) i).me ∙ me_of w x) (record { node = refl; sends = refl })

-- a node that is down takes nothing
pub takes_none : (w : World) (x : ℕ) (i : Input) → is_up w x ≡ false → acted w (Some (record { at = x; input = i })) ≡ w
takes_none w x i down = ap (λ (b : Bool). if b then stepped w i (step (node w x) i) else w) down

-- nobody goes down by an input, and nobody comes up
same_ups : (w v : World) (x : ℕ) (n : Node) (ms : List Message) → is_up w x ≡ true → Turned w x n ms v → (y : ℕ) → is_up v y ≡ is_up w y
same_ups w v x n ms up turn y = ⊎_elim
    (λ (same : x ≡ y). subst (λ (z : ℕ). is_up v z ≡ is_up w z) same (ap (λ (p : Process). p.up) turn.here ∙ sym up))
    (λ apart. ap (λ (p : Process). p.up) (turn.others y apart))
    (cases_eq x y)

pub acted_ups : (w : World) (x : ℕ) (i : Input) (y : ℕ) → is_up (acted w (Some (record { at = x; input = i }))) y ≡ is_up w y
acted_ups w x i y = ⊎_elim
    (λ up. same_ups w (acted w (Some (record { at = x; input = i }))) x (step (node w x) i).node (step (node w x) i).sends up (takes w x i up) y)
    (λ down. ap (λ (v : World). is_up v y) (takes_none w x i down))
    (cases_Bool (is_up w x))

-- One message

-- it is told as failed, or delivered
pub arrived_fails : (w : World) (k : ℕ) (s : Message) → message_at w.net k ≡ Some s → is_dial s.body && not (is_up w s.to) ≡ true → arrived w k ≡ acted w (Some (record { at = s.from; input = Unreachable s.to }))
arrived_fails w k s found fails = ap (after_act w) (ap (arriving w k) found ∙ ap (λ (b : Bool). if b then At s.from (Unreachable s.to) else Deliver k) fails)

pub arrived_comes : (w : World) (k : ℕ) (s : Message) → message_at w.net k ≡ Some s → is_dial s.body && not (is_up w s.to) ≡ false → arrived w k ≡ acted w (Some (record { at = s.to; input = Delivered s }))
arrived_comes w k s found comes = ap (after_act w) (ap (arriving w k) found ∙ ap (λ (b : Bool). if b then At s.from (Unreachable s.to) else Deliver k) comes) ∙ ap (λ o. acted w (delivery o)) found

-- Messages of a step wait

pub record Placed (front ms : List Message) (m : Message) : Type 0 where
  pub number : ℕ
  pub past : length front < number
  pub low : number ≤ length (front ++ ms)
  pub at : message_at (front ++ ms) number ≡ Some m

pub place : (front ms : List Message) (m : Message) → IsAmong m ms → Placed front ms m
place front [] m one = absurd one
place front (a ∷ ms) m (inl e) = record { number = suc (length front); past = omega arith; low = omega (arith, length-append front (a ∷ ms)); at = at_next front ms a ∙ ap Some e }
place front (a ∷ ms) m (inr later) =
    let rest : Placed (front ++ a ∷ []) ms m = place (front ++ a ∷ []) ms m later in
    let same : (front ++ a ∷ []) ++ ms ≡ front ++ a ∷ ms = append_assoc front (a ∷ []) ms in
    record {
      number = rest.number;
      past = omega (arith, rest.past, length-append front (a ∷ []));
      low = subst (λ (all : List Message). rest.number ≤ length all) same rest.low;
      at = subst (λ (all : List Message). message_at all rest.number ≡ Some m) same rest.at;
    }

-- a message that a step sends has not arrived
pub waits_sent : (w v : World) (old : ℕ) (done : List ℕ) (P : Message → Type 0) (m : Message) (ms : List Message) → v.net ≡ w.net ++ ms → old ≤ length w.net → ((k : ℕ) → IsOneOf k done → k ≤ length w.net)
    → IsAmong m ms → P m → Waits v old done P
waits_sent w v old done P m ms net before sent among is =
    let placed : Placed w.net ms m = place w.net ms m among in
    record {
      number = placed.number;
      message = m;
      new = omega (arith, placed.past, before);
      sent = subst (λ (all : List Message). placed.number ≤ length all) (sym net) placed.low;
      still = λ one. let low : placed.number ≤ length w.net = sent placed.number one in absurd (omega (arith, low, placed.past));
      at = ap (λ (all : List Message). message_at all placed.number) net ∙ placed.at;
      is = is;
    }

waits_dial : (w v : World) (old : ℕ) (done : List ℕ) (x p : ℕ) (ms : List Message) → v.net ≡ w.net ++ ms → old ≤ length w.net → ((k : ℕ) → IsOneOf k done → k ≤ length w.net) → Dials x ms p → Waits v old done (IsDial x p)
waits_dial w v old done x p ms net before sent d = waits_sent w v old done (IsDial x p) d.message ms net before sent d.among d.is

-- where the peer of x is down, a dial of x to it has not arrived
abbrev Ties : World → ℕ → List ℕ → ℕ → Type 0
Ties w old done x = (p : ℕ) → is_peer (mode_of w x) p ≡ true → is_up w p ≡ false → Waits w old done (IsDial x p)

module _ (w0 : World) where
  -- Ticks

  record Ticking (w : World) (still : List ℕ) : Type 0 where
    ups : (y : ℕ) → is_up w y ≡ is_up w0 y
    same : (y : ℕ) → IsOneOf y still → process w y ≡ process w0 y
    ties : (y : ℕ) → is_up w0 y ≡ true → IsOneOf y still ⊎ Ties w (length w0.net) [] y
    longer : length w0.net ≤ length w.net

  one_turns : (w : World) (x : ℕ) (xs : List ℕ) (c : ℕ) → Ticking w (x ∷ xs) → (IsOneOf x xs → ⊥) → is_up w0 x ≡ true → is_timely (node w0 x).control c ≡ true → Ticking (after_act w (At x (Tick c))) xs
  one_turns w x xs c going out up timely = record {
    ups = λ y. ups y ∙ going.ups y;
    same = λ y one. turn.others y (λ e. out (subst (λ (z : ℕ). IsOneOf z xs) (sym e) one)) ∙ going.same y (inr one);
    ties = λ y up_y. ⊎_elim
        (λ (e : x ≡ y). inr (subst (λ (z : ℕ). Ties v (length w0.net) [] z) e own))
        (λ apart. ⊎_elim
        (λ one. ⊎_elim (λ (e : y ≡ x). absurd (apart (sym e))) (λ later. inl later) one)
        (λ ties. inr (λ p peer down. waits_more w v (length w0.net) [] (IsDial y p) o_sends turn.net
        (ties p (sym (ap (λ (q : Process). is_peer q.node.control.kept.mode p) (turn.others y apart)) ∙ peer) (sym (ups p) ∙ down))))
        (going.ties y up_y))
        (cases_eq x y);
    longer = omega (arith, going.longer, ap length turn.net, length-append w.net o_sends);
  } where
    v : World
    v = after_act w (At x (Tick c))

    up_now : is_up w x ≡ true
    up_now = going.ups x ∙ up

    o_sends : List Message
    o_sends = (step (node w x) (Tick c)).sends

    turn : Turned w x (step (node w x) (Tick c)).node (step (node w x) (Tick c)).sends (after_act w (At x (Tick c)))
    turn = takes w x (Tick c) (going.ups x ∙ up)

    ups : (y : ℕ) → is_up (after_act w (At x (Tick c))) y ≡ is_up w y
    ups y = acted_ups w x (Tick c) y

    due : nat_le (unwrap_or (node w x).control.soft.due (node w x).control.soft.clock) c ≡ true
    due = (and_parts (nat_le (unwrap_or (node w x).control.soft.due (node w x).control.soft.clock) c) (nat_le c ((node w x).control.soft.clock + 29))
        (ap (λ (p : Process). is_timely p.node.control c) (going.same x (inl refl)) ∙ timely)).0

    own : Ties (after_act w (At x (Tick c))) (length w0.net) [] x
    own p peer down = ⊎_elim
        (λ none. absurd none)
        (λ d. waits_dial w (after_act w (At x (Tick c))) (length w0.net) [] x p (step (node w x) (Tick c)).sends turn.net going.longer (λ k one. absurd one) d)
        (step_ticks x (λ q. ⊥) (node w x) c (me_of w x) (due_then (node w x).control.soft.due (node w x).control.soft.clock c due) p
        (sym (ap (λ (q : Process). is_peer q.node.control.kept.mode p) turn.here) ∙ peer))

  all_turn : (ts : List Turn) (w : World) → Ticking w (map (λ t. t.node) ts) → is_distinct (map (λ t. t.node) ts) ≡ true → list_all (is_up w0) (map (λ t. t.node) ts) ≡ true
      → list_all (λ t. is_timely (node w0 t.node).control t.time) ts ≡ true → Ticking (after_turns w ts) []
  all_turn [] w going distinct ups timely = going
  all_turn (t ∷ ts) w going distinct ups timely =
      let xs : List ℕ = map (λ (u : Turn). u.node) ts in
      let apart = and_parts (not (has xs t.node)) (is_distinct xs) distinct in
      let out : IsOneOf t.node xs → ⊥ = has_none xs t.node (not-true (has xs t.node) apart.0) in
      let lives = and_parts (is_up w0 t.node) (list_all (is_up w0) xs) ups in
      let times = and_parts (is_timely (node w0 t.node).control t.time) (list_all (λ (u : Turn). is_timely (node w0 u.node).control u.time) ts) timely in
      all_turn ts (after_act w (At t.node (Tick t.time))) (one_turns w t.node xs t.time going out lives.0 times.0) apart.1 lives.1 times.1

  begin : (xs : List ℕ) → list_all (has xs) (up_ids w0) ≡ true → Ticking w0 xs
  begin xs all = record {
    ups = λ y. refl;
    same = λ y one. refl;
    ties = λ y up. inl (has_one xs y (all_test (has xs) (up_ids w0) all y (among_up w0 y up)));
    longer = omega arith;
  }

  -- Messages

  record Arriving (w : World) (done : List ℕ) : Type 0 where
    ups : (y : ℕ) → is_up w y ≡ is_up w0 y
    ties : (y : ℕ) → is_up w0 y ≡ true → Ties w (length w0.net) done y
    longer : length w0.net ≤ length w.net
    sent : AreSent w done

  module _ (w : World) (done : List ℕ) (a : Arriving w done) (k : ℕ) (low : k ≤ length w.net) (s : Message) (found : message_at w.net k ≡ Some s) where
    sent_by_now : (j : ℕ) → IsOneOf j (k ∷ done) → j ≤ length w.net
    sent_by_now j one = ⊎_elim (λ (e : j ≡ k). subst (λ (i : ℕ). i ≤ length w.net) (sym e) low) (a.sent j) one

    abbrev after : ℕ → Input → World
    after z i = acted w (Some (record { at = z; input = i }))

    -- it changes z
    moves : (z : ℕ) (i : Input) → is_up w z ≡ true → Ties (after z i) (length w0.net) (k ∷ done) z
        → ((y p : ℕ) → (z ≡ y → ⊥) → is_up w p ≡ false → IsDial y p s → ⊥) → Arriving (after z i) (k ∷ done)
    moves z i up own others =
        let turn = takes w z i up in
        record {
          ups = λ y. acted_ups w z i y ∙ a.ups y;
          ties = λ y up_y. ⊎_elim
              (λ (e : z ≡ y). subst (λ (x : ℕ). Ties (after z i) (length w0.net) (k ∷ done) x) e own)
              (λ apart p peer down.
              let down_before : is_up w p ≡ false = sym (acted_ups w z i p) ∙ down in
              ⊎_elim (λ b. b) (λ is. absurd (others y p apart down_before is))
              (waits_on w (after z i) (length w0.net) done (IsDial y p) (step (node w z) i).sends k s turn.net found
              (a.ties y up_y p (sym (ap (λ (q : Process). is_peer q.node.control.kept.mode p) (turn.others y apart)) ∙ peer) down_before)))
              (cases_eq z y);
          longer = omega (arith, a.longer, ap length turn.net, length-append w.net (step (node w z) i).sends);
          sent = λ j one. let before : j ≤ length w.net = sent_by_now j one in omega (arith, before, ap length turn.net, length-append w.net (step (node w z) i).sends);
        }

    -- it changes nothing
    rests : (z : ℕ) (i : Input) → is_up w z ≡ false → ((y p : ℕ) → is_up w0 y ≡ true → is_up w p ≡ false → IsDial y p s → ⊥) → Arriving (after z i) (k ∷ done)
    rests z i off others = subst (λ (v : World). Arriving v (k ∷ done)) (sym (takes_none w z i off)) record {
      ups = a.ups;
      ties = λ y up_y p peer down. ⊎_elim (λ b. b) (λ is. absurd (others y p up_y down is))
          (waits_on w w (length w0.net) done (IsDial y p) [] k s (sym (append-nil w.net)) found (a.ties y up_y p peer down));
      longer = a.longer;
      sent = sent_by_now;
    }

    -- what z has after its step
    own_ties : (z : ℕ) (i : Input) → (up : is_up w z ≡ true)
        → ((p : ℕ) → is_peer (step (node w z) i).node.control.kept.mode p ≡ true → (is_up w p ≡ false → Waits (after z i) (length w0.net) (k ∷ done) (IsDial z p)) ⊎ Dials z (step (node w z) i).sends p)
        → Ties (after z i) (length w0.net) (k ∷ done) z
    own_ties z i up has p peer down =
        let turn = takes w z i up in
        ⊎_elim
        (λ b. b (sym (acted_ups w z i p) ∙ down))
        (λ d. waits_dial w (after z i) (length w0.net) (k ∷ done) z p (step (node w z) i).sends turn.net a.longer sent_by_now d)
        (has p (sym (ap (λ (q : Process). is_peer q.node.control.kept.mode p) turn.here) ∙ peer))

    -- what z had before it
    had : (z : ℕ) (i : Input) → is_up w z ≡ true → (p : ℕ) → is_peer (mode_of w z) p ≡ true → (IsDial z p s → is_up w p ≡ false → ⊥) → is_up w p ≡ false → Waits (after z i) (length w0.net) (k ∷ done) (IsDial z p)
    had z i up p peer none down =
        let turn = takes w z i up in
        ⊎_elim (λ b. b) (λ is. absurd (none is down))
        (waits_on w (after z i) (length w0.net) done (IsDial z p) (step (node w z) i).sends k s turn.net found (a.ties z (sym (a.ups z) ∙ up) p peer down))

    -- the message fails
    fails_there : is_dial s.body && not (is_up w s.to) ≡ true → Arriving (after s.from (Unreachable s.to)) (k ∷ done)
    fails_there fails = ⊎_elim
        (λ up. moves s.from (Unreachable s.to) up
        (own_ties s.from (Unreachable s.to) up
        (step_fails s.from (λ p. is_up w p ≡ false → Waits (after s.from (Unreachable s.to)) (length w0.net) (k ∷ done) (IsDial s.from p)) (node w s.from) s.to (me_of w s.from)
        (λ p peer. ⊎_elim (λ (same : p ≡ s.to). inl same) (λ apart. inr (had s.from (Unreachable s.to) up p peer (λ is down. apart (sym is.to)))) (cases_eq p s.to))))
        (λ y p apart down is. apart is.from))
        (λ off. rests s.from (Unreachable s.to) off (λ y p up_y down is.
        let clash : true ≡ false = sym (a.ups y ∙ up_y) ∙ (ap (is_up w) (sym is.from) ∙ off) in
        cc))
        (cases_Bool (is_up w s.from))

    -- the message comes
    comes_there : is_dial s.body && not (is_up w s.to) ≡ false → Arriving (after s.to (Delivered s)) (k ∷ done)
    comes_there comes = ⊎_elim
        (λ up. moves s.to (Delivered s) up
        (own_ties s.to (Delivered s) up
        (step_receives s.to (λ p. is_up w p ≡ false → Waits (after s.to (Delivered s)) (length w0.net) (k ∷ done) (IsDial s.to p)) (node w s.to) s (me_of w s.to)
        (λ p peer. had s.to (Delivered s) up p peer (λ is down. none_here s.to p is down))))
        (λ y p apart down is. none_here y p is down))
        (λ off. rests s.to (Delivered s) off (λ y p up_y down is. none_here y p is down))
        (cases_Bool (is_up w s.to)) where
          none_here : (y p : ℕ) → IsDial y p s → is_up w p ≡ false → ⊥
          none_here y p is down =
              let off : is_up w s.to ≡ false = ap (is_up w) is.to ∙ down in
              let clash : true ≡ false = sym (ap (λ (b : Bool). b && not (is_up w s.to)) is.dials ∙ ap (λ (b : Bool). true && not b) off) ∙ comes in
              cc

    arrives : Arriving (arrived w k) (k ∷ done)
    arrives = ⊎_elim
        (λ fails. subst (λ (v : World). Arriving v (k ∷ done)) (sym (arrived_fails w k s found fails)) (fails_there fails))
        (λ comes. subst (λ (v : World). Arriving v (k ∷ done)) (sym (arrived_comes w k s found comes)) (comes_there comes))
        (cases_Bool (is_dial s.body && not (is_up w s.to)))

  record Arrived (ks done : List ℕ) (v : World) : Type 0 where
    all : List ℕ
    arriving : Arriving v all
    before : (k : ℕ) → IsOneOf k done → IsOneOf k all
    each : (k : ℕ) → IsOneOf k ks → IsOneOf k all

  all_arrive : (least : ℕ) (ks : List ℕ) (w : World) (done : List ℕ) → Arriving w done → are_sent least w ks ≡ true → Arrived ks done (after_arrivals w ks)
  all_arrive least [] w done a sent = record { all = done; arriving = a; before = λ k one. one; each = λ k one. absurd one }
  all_arrive least (k ∷ ks) w done a sent =
      let outer = and_parts (nat_lt least k && nat_le k (length w.net)) (are_sent least (arrived w k) ks) sent in
      let inner = and_parts (nat_lt least k) (nat_le k (length w.net)) outer.0 in
      let low : k ≤ length w.net = leb-true k (length w.net) inner.1 in
      let found = at_some w.net k (omega (arith, ltb-true least k inner.0)) low in
      let next : Arriving (arrived w k) (k ∷ done) = arrives w done a k low found.0 found.1 in
      let rest : Arrived ks (k ∷ done) (after_arrivals (arrived w k) ks) = all_arrive least ks (arrived w k) (k ∷ done) next outer.1 in
      record {
        all = rest.all;
        arriving = rest.arriving;
        before = λ j one. rest.before j (inr one);
        each = λ j one. ⊎_elim (λ (e : j ≡ k). rest.before j (inl e)) (λ later. rest.each j later) one;
      }

  -- The whole round

  pub record HasEnded (v : World) : Type 0 where
    pub ups : (y : ℕ) → is_up v y ≡ is_up w0 y
    pub peers : PeersAreUp v

  pub round_ends : (least : ℕ) (r : Round) → is_round least w0 r ≡ true → HasEnded (after_round w0 r)
  round_ends least r is =
      let xs : List ℕ = map (λ (t : Turn). t.node) r.turns in
      let u : World = after_turns w0 r.turns in
      let v : World = after_arrivals u r.arrivals in
      let timely : Bool = list_all (λ (t : Turn). is_timely (node w0 t.node).control t.time) r.turns in
      let sent : Bool = are_sent least u r.arrivals in
      let whole : Bool = list_all (has r.arrivals) (new_messages w0 v) in
      let p3 = and_parts (are_the_up w0 xs && timely && sent) whole is in
      let p2 = and_parts (are_the_up w0 xs && timely) sent p3.0 in
      let p1 = and_parts (are_the_up w0 xs) timely p2.0 in
      let q2 = and_parts (list_all (is_up w0) xs && list_all (has xs) (up_ids w0)) (is_distinct xs) p1.0 in
      let q1 = and_parts (list_all (is_up w0) xs) (list_all (has xs) (up_ids w0)) q2.0 in
      let ticks : Ticking u [] = all_turn r.turns w0 (begin xs q1.1) q2.1 q1.0 p1.1 in
      let arriving : Arriving u [] = record { ups = ticks.ups; ties = λ y up. ⊎_elim (λ one. absurd one) (λ ties. ties) (ticks.ties y up); longer = ticks.longer; sent = λ k one. absurd one } in
      let done : Arrived r.arrivals [] v = all_arrive least r.arrivals u [] arriving p2.1 in
      ends v done (λ k past low. has_one r.arrivals k (all_test (has r.arrivals) (new_messages w0 v) p3.1 k (in_numbers (length w0.net + 1) (length v.net - length w0.net) k (omega (arith, past)) (omega (arith, past, low))))) where
        ends : (v : World) → Arrived r.arrivals [] v → ((k : ℕ) → length w0.net < k → k ≤ length v.net → IsOneOf k r.arrivals) → HasEnded v
        ends v done each = record {
          ups = done.arriving.ups;
          peers = λ x p up peer. ⊎_elim
              (λ lives. lives)
              (λ off.
              let waits : Waits v (length w0.net) done.all (IsDial x p) = done.arriving.ties x (sym (done.arriving.ups x) ∙ up) p peer off in
              absurd (waits.still (done.each waits.number (each waits.number waits.new waits.sent))))
              (cases_Bool (is_up v p));
        }

-- Rounds

pub record EndsAs (w v : World) : Type 0 where
  pub ups : (y : ℕ) → is_up v y ≡ is_up w y
  pub peers : PeersAreUp v

later_end : (rs : List Round) (w v : World) → EndsAs w v → are_later_rounds v rs ≡ true → EndsAs w (after_rounds v rs)
later_end [] w v ends quiet = ends
later_end (r ∷ rs) w v ends quiet =
    let both = and_parts (is_round (length v.net) v r) (are_later_rounds (after_round v r) rs) quiet in
    let next = round_ends v (length v.net) r both.0 in
    later_end rs w (after_round v r) (record { ups = λ y. next.ups y ∙ ends.ups y; peers = next.peers }) both.1

pub rounds_end : (w : World) (r : Round) (rs : List Round) → is_quiet w (r ∷ rs) ≡ true → EndsAs w (after_rounds w (r ∷ rs))
rounds_end w r rs quiet =
    let both = and_parts (is_round 0 w r) (are_later_rounds (after_round w r) rs) quiet in
    let first = round_ends w 0 r both.0 in
    later_end rs w (after_round w r) (record { ups = first.ups; peers = first.peers }) both.1
