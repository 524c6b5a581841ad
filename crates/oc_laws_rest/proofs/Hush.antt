-- A node that is down, a root, and a child of another node send a node no ask and no check-in in a round.
use Rattle.std.proofs.Common.{◌≡◌, ℕ, ◌+◌, ◌%◌, ◌-◌, ◌≤◌, ◌<◌, max, Bool, true, false, not, ◌&&◌, nat_le, nat_lt, Option, Some, unwrap_or, List, [], ◌∷◌, ◌++◌, length, map, refl, ap, sym, subst, ◌∙◌, ⊎_elim, arith, append_assoc, append-nil, inl, inr}
use Rattle.std.specs.List.{AllByRecursion, list_all}
use Rattle.std.proofs.lemmas.Bool.{cases_eq, cases_Bool, and_parts, true≢false, leb-true, ltb-true, not-true}
use Rattle.oc_model.specs.declared.event.Act.TheVariants.{At}
use Rattle.oc_model.specs.declared.input.Input.{Input}
use Rattle.oc_model.specs.declared.input.Input.TheVariants.{Tick, Unreachable, Delivered}
use Rattle.oc_model.specs.declared.message.Body.{Body}
use Rattle.oc_model.specs.declared.message.Body.TheVariants as bodies
use Rattle.oc_model.specs.declared.message.Message.{Message}
use Rattle.oc_model.specs.declared.mode.Mode.TheVariants as modes
use Rattle.oc_model.specs.declared.reading.Reading.{Reading}
use Rattle.oc_model.specs.Checking.{is_due}
use Rattle.oc_model.specs.ClaimsTree.{seq_of}
use Rattle.oc_model.specs.Node.{Header, Control}
use Rattle.oc_model.specs.Numbers.{has}
use Rattle.oc_model.specs.Step.{step}
use Rattle.oc_model.specs.World.{World, Process, process, node, is_up, mode_of, up_ids, message_at, after_act}
use Rattle.oc_model.specs.WorldBounds.{IsOneOf, clock_of}
use Rattle.oc_model.proofs.Lists.{all_append, all_weaker}
use Rattle.oc_laws_tree.proofs.LineHolds.{in_line}
use Rattle.oc_laws_tree.proofs.Reached.{Reached, reached_act}
use Rattle.oc_laws_tree.proofs.Spans.{IsId}
use Rattle.oc_laws_rest.specs.Rounds.{Turn, Round, after_turns, is_dial, arrived, after_arrivals, after_round, is_distinct, are_the_up, is_timely, are_sent, new_messages, is_round}
use Rattle.oc_laws_rest.specs.Rest.{IsChild, JoinedAreLeased}
use Rattle.oc_laws_rest.proofs.Children as children
use Rattle.oc_laws_rest.proofs.Children.{IsKept, IsClean, later_keeps}
use Rattle.oc_laws_rest.proofs.Keeping.{AreNone, IsAnyTime, IsJoinedBy}
use Rattle.oc_laws_rest.proofs.Leases.{any_come, round_leases}
use Rattle.oc_laws_rest.proofs.Links.{round_ends, me_of, takes, takes_none, acted_ups, arrived_fails, arrived_comes}
use Rattle.oc_laws_rest.proofs.Mild.{IsMild, IsAlone, step_mild}
use Rattle.oc_laws_rest.proofs.Moves.{at_some, at_after}
use Rattle.oc_laws_rest.proofs.Reigning.{Acts, message_reigns, failure_reigns, tick_reigns}
use Rattle.oc_laws_rest.proofs.Replies.{after_input}
use Rattle.oc_laws_rest.proofs.Roots.{IsTopmost, member, topmost_on, own_step, tables_of, reached_arrived, reached_round}
use Rattle.oc_laws_rest.proofs.Ticks.{has_none, due_then}

-- in a round from w0, x sends y no ask and no check-in: Before holds while nodes tick, and After while messages arrive
pub record IsHush (h : Header) (w0 : World) (x y : ℕ) (Before : World → List ℕ → Type 0) (After : World → Type 0) : Type 0 where
  pub begins : (zs : List ℕ) → Before w0 zs
  pub ticks : (w : World) (z : ℕ) (zs : List ℕ) (t : ℕ) → Before w (z ∷ zs) → (IsOneOf z zs → ⊥) → is_up w0 z ≡ true → is_timely (node w0 z).control t ≡ true → Before (after_act w (At z (Tick t))) zs
  pub ticked : (w : World) → Before w [] → After w
  pub arrives : (w : World) (k : ℕ) (s : Message) → After w → length w0.net < k → message_at w.net k ≡ Some s → After (arrived w k)
  pub mild : (w : World) (k : ℕ) (s : Message) → After w → length w0.net < k → message_at w.net k ≡ Some s → s.from ≡ x → s.to ≡ y → IsMild s.body

-- A node that is down

module _ (h : Header) (w0 : World) where
  -- the messages of the round are of nodes that are up
  pub record FromUp (w : World) : Type 0 where
    pub reached : Reached h w
    pub ups : (y : ℕ) → is_up w y ≡ is_up w0 y
    pub later : List Message
    pub net : w.net ≡ w0.net ++ later
    pub from : AllByRecursion (λ s. is_up w0 s.from ≡ true) later

  from_first : Reached h w0 → FromUp w0
  from_first reached = record { reached = reached; ups = λ y. refl; later = []; net = sym (append-nil w0.net); from = tt }

  from_on : (w : World) (z : ℕ) (i : Input) → FromUp w → is_up w z ≡ true → Reached h (after_input w z i) → FromUp (after_input w z i)
  from_on w z i before up reached =
      let turn = takes w z i up in
      let sent : List Message = (step (node w z) i).sends in
      record {
        reached = reached;
        ups = λ y. acted_ups w z i y ∙ before.ups y;
        later = before.later ++ sent;
        net = turn.net ∙ (ap (λ (all : List Message). all ++ sent) before.net ∙ append_assoc w0.net before.later sent);
        from = all_append (λ (s : Message). is_up w0 s.from ≡ true) before.later sent before.from
            (all_weaker (λ (s : Message). s.from ≡ z) (λ (s : Message). is_up w0 s.from ≡ true) (λ s e. ap (is_up w0) e ∙ (sym (before.ups z) ∙ up)) sent
            (own_step z ⊥ (node w z) i (tables_of h w before.reached z) (any_come i) (me_of w z) (λ never. absurd never)).1);
      }

  from_arrived : (w : World) (k : ℕ) (s : Message) → FromUp w → message_at w.net k ≡ Some s → FromUp (arrived w k)
  from_arrived w k s before found = ⊎_elim
      (λ fails. subst FromUp (sym (arrived_fails w k s found fails)) (⊎_elim
      (λ up. from_on w s.from (Unreachable s.to) before up (subst (Reached h) (arrived_fails w k s found fails) (reached_arrived h w k before.reached)))
      (λ off. subst FromUp (sym (takes_none w s.from (Unreachable s.to) off)) before)
      (cases_Bool (is_up w s.from))))
      (λ comes. subst FromUp (sym (arrived_comes w k s found comes)) (⊎_elim
      (λ up. from_on w s.to (Delivered s) before up (subst (Reached h) (arrived_comes w k s found comes) (reached_arrived h w k before.reached)))
      (λ off. subst FromUp (sym (takes_none w s.to (Delivered s) off)) before)
      (cases_Bool (is_up w s.to))))
      (cases_Bool (is_dial s.body && not (is_up w s.to)))

  sender_up : (w : World) (k : ℕ) (s : Message) → FromUp w → length w0.net < k → message_at w.net k ≡ Some s → is_up w0 s.from ≡ true
  sender_up w k s before past found = at_after (λ (m : Message). is_up w0 m.from ≡ true) w0.net before.later k s past (subst (λ (all : List Message). message_at all k ≡ Some s) before.net found) before.from

abbrev pub IsDown : Header → ℕ → World → Type 0
IsDown h x v = Reached h v × (is_up v x ≡ false)

pub down_goes : (h : Header) (x : ℕ) (v : World) (r : Round) → IsDown h x v → is_round (length v.net) v r ≡ true → IsDown h x (after_round v r)
down_goes h x v r down is = (reached_round h v r down.0, (round_ends v (length v.net) r is).ups x ∙ down.1)

pub down_hush : (h : Header) (x y : ℕ) (v : World) → IsDown h x v → IsHush h v x y (λ w zs. FromUp h v w) (FromUp h v)
down_hush h x y v down = record {
  begins = λ zs. from_first h v down.0;
  ticks = λ w z zs t before out up timely. from_on h v w z (Tick t) before (before.ups z ∙ up) (reached_act h w (At z (Tick t)) before.reached);
  ticked = λ w before. before;
  arrives = λ w k s before past found. from_arrived h v w k s before found;
  mild = λ w k s before past found from to. absurd (true≢false (sym (sender_up h v w k s before past found) ∙ (ap (is_up v) from ∙ down.1)));
}

-- A child of another node

module _ (h : Header) (x p s : ℕ) (ms : List Reading) (none : AreNone ms) where
  -- x is a child of p, and keeps its place
  pub record IsChildOf (v : World) : Type 0 where
    pub reached : Reached h v
    pub up : is_up v x ≡ true
    pub joined : IsJoinedBy x p s ms none IsAnyTime (node v x).control
    pub leased : JoinedAreLeased v

  pub child_goes : (v : World) (r : Round) → IsChildOf v → is_round (length v.net) v r ≡ true → IsChildOf (after_round v r)
  child_goes v r child is = record {
    reached = reached_round h v r child.reached;
    up = (round_ends v (length v.net) r is).ups x ∙ child.up;
    joined = later_keeps h x p s ms none (r ∷ []) v child.reached child.leased child.up child.joined (ap (λ (b : Bool). b && true) is);
    leased = round_leases h v r child.reached is;
  }

  abbrev pub its_place : (v : World) → IsChildOf v → IsChild v p x
  its_place v child = child.leased x p child.up child.joined.2

  kept_clean : (v w : World) (k : ℕ) (m : Message) → IsKept h x p s ms none IsAnyTime v w → length v.net < k → message_at w.net k ≡ Some m → IsClean h x p s ms none IsAnyTime m
  kept_clean v w k m kept past found =
      at_after (IsClean h x p s ms none IsAnyTime) v.net kept.later k m past (subst (λ (all : List Message). message_at all k ≡ Some m) kept.net found) kept.clean

  -- it dials p alone
  mild_elsewhere : (y : ℕ) → (p ≡ y → ⊥) → (m : Message) → IsClean h x p s ms none IsAnyTime m → m.from ≡ x → m.to ≡ y → (b : Body) → m.body ≡ b → IsMild b
  mild_elsewhere y other m clean from to (bodies.Ask seq rank) e = absurd (other (sym (clean.0 from (ap is_dial e)) ∙ to))
  mild_elsewhere y other m clean from to (bodies.CheckIn seq upto rate number clients certs) e = absurd (other (sym (clean.0 from (ap is_dial e)) ∙ to))
  mild_elsewhere y other m clean from to bodies.Look e = tt
  mild_elsewhere y other m clean from to (bodies.LookIs is_in parent rate children) e = tt
  mild_elsewhere y other m clean from to (bodies.Yes seq rank ancestors) e = tt
  mild_elsewhere y other m clean from to (bodies.No seq why) e = tt
  mild_elsewhere y other m clean from to (bodies.CheckAck seq upto rank ancestors) e = tt
  mild_elsewhere y other m clean from to (bodies.Rejoin seq) e = tt
  mild_elsewhere y other m clean from to (bodies.Fetch have) e = tt
  mild_elsewhere y other m clean from to (bodies.Chunk g start bytes last) e = tt

  pub child_hush : (y : ℕ) → (p ≡ y → ⊥) → (v : World) (child : IsChildOf v) → IsHush h v x y (children.Ticking h x p s ms none v (its_place v child).end) (IsKept h x p s ms none IsAnyTime v)
  child_hush y other v child = record {
    begins = λ zs. record { kept = children.kept_first h x p s ms none IsAnyTime v child.reached child.joined (its_place v child); same = λ z one. refl };
    ticks = λ w z zs t before out up timely. children.one_turns h x p s ms none v (its_place v child).end w z zs t before out up timely;
    ticked = λ w before. before.kept;
    arrives = λ w k m kept past found. children.arrives h x p s ms none IsAnyTime v (its_place v child).parent w kept k m found (kept_clean v w k m kept past found);
    mild = λ w k m kept past found from to. mild_elsewhere y other m (kept_clean v w k m kept past found) from to m.body refl;
  }

-- A root

module _ (h : Header) (m : ℕ) (id : IsId h m) (within : m ≤ h.chain) where
  -- m is the least member that is up, and acts
  pub record IsReigning (v : World) : Type 0 where
    pub top : IsTopmost h m id within v
    pub acts : mode_of v m ≡ modes.Acting

  module _ (w0 : World) (reign : IsReigning w0) where
    abbrev IsActing : Control → Type 0
    IsActing n = (c : ℕ) × ((d : Option ℕ) × Acts m c d (seq_of w0 m) n)

    -- m acts, and has sent no ask and no check-in in the round
    pub record Rules (w : World) : Type 0 where
      reached : Reached h w
      ups : (y : ℕ) → is_up w y ≡ is_up w0 y
      later : List Message
      net : w.net ≡ w0.net ++ later
      from : AllByRecursion (λ s. is_up w0 s.from ≡ true) later
      mild : AllByRecursion (λ s. s.from ≡ m → IsMild s.body) later
      acts : IsActing (node w m).control

    rules_on : (w : World) (z : ℕ) (i : Input) → Rules w → is_up w z ≡ true → Reached h (after_input w z i) → (z ≡ m → IsActing (step (node w m) i).node.control) → Rules (after_input w z i)
    rules_on w z i rules up reached root =
        let turn = takes w z i up in
        let sent : List Message = (step (node w z) i).sends in
        let own : AllByRecursion (λ s. s.from ≡ z) (step (node w z) i).sends = (own_step z ⊥ (node w z) i (tables_of h w rules.reached z) (any_come i) (me_of w z) (λ never. absurd never)).1 in
        record {
          reached = reached;
          ups = λ y. acted_ups w z i y ∙ rules.ups y;
          later = rules.later ++ sent;
          net = turn.net ∙ (ap (λ (all : List Message). all ++ sent) rules.net ∙ append_assoc w0.net rules.later sent);
          from = all_append (λ (s : Message). is_up w0 s.from ≡ true) rules.later sent rules.from
              (all_weaker (λ (s : Message). s.from ≡ z) (λ (s : Message). is_up w0 s.from ≡ true) (λ s e. ap (is_up w0) e ∙ (sym (rules.ups z) ∙ up)) sent own);
          mild = all_append (λ (s : Message). s.from ≡ m → IsMild s.body) rules.later sent rules.mild (⊎_elim
              (λ (e : z ≡ m).
              let after = root e in
              let same : (step (node w m) i).node.control.kept.seq ≡ seq_of w m = after.1.1.4 ∙ sym rules.acts.1.1.4 in
              let gentle : AllByRecursion (λ s. IsMild s.body) (step (node w m) i).sends = step_mild (node w m) i (tables_of h w rules.reached m) (any_come i) (subst IsAlone (sym rules.acts.1.1.1) tt) same in
              all_weaker (λ (s : Message). IsMild s.body) (λ (s : Message). s.from ≡ m → IsMild s.body) (λ s fine from. fine) sent
              (subst (λ (y : ℕ). AllByRecursion (λ s. IsMild s.body) (step (node w y) i).sends) (sym e) gentle))
              (λ apart. all_weaker (λ (s : Message). s.from ≡ z) (λ (s : Message). s.from ≡ m → IsMild s.body) (λ s is from. absurd (apart (sym is ∙ from))) sent own)
              (cases_eq z m));
          acts = ⊎_elim
              (λ (e : z ≡ m). subst (λ (p : Process). IsActing p.node.control)
              (sym (subst (λ (y : ℕ). process (after_input w z i) y ≡ record { node = (step (node w y) i).node; up = true }) e turn.here)) (root e))
              (λ apart. subst (λ (p : Process). IsActing p.node.control) (sym (turn.others m apart)) rules.acts)
              (cases_eq z m);
        }

    pub record Turning (w : World) (still : List ℕ) : Type 0 where
      rules : Rules w
      same : (y : ℕ) → IsOneOf y still → process w y ≡ process w0 y

    one_turns : (w : World) (z : ℕ) (zs : List ℕ) (t : ℕ) → Turning w (z ∷ zs) → (IsOneOf z zs → ⊥) → is_up w0 z ≡ true → is_timely (node w0 z).control t ≡ true → Turning (after_act w (At z (Tick t))) zs
    one_turns w z zs t turning out up timely = record {
      rules = rules_on w z (Tick t) turning.rules (turning.rules.ups z ∙ up) (reached_act h w (At z (Tick t)) turning.rules.reached) at_root;
      same = λ y one. (takes w z (Tick t) (turning.rules.ups z ∙ up)).others y (λ e. out (subst (λ (u : ℕ). IsOneOf u zs) (sym e) one)) ∙ turning.same y (inr one);
    } where
      due : is_due (node w z).control.soft.due (max (node w z).control.soft.clock t) ≡ true
      due = due_then (node w z).control.soft.due (node w z).control.soft.clock t
          (and_parts (nat_le (unwrap_or (node w z).control.soft.due (node w z).control.soft.clock) t) (nat_le t ((node w z).control.soft.clock + 29))
          (ap (λ (p : Process). is_timely p.node.control t) (turning.same z (inl refl)) ∙ timely)).0

      at_root : z ≡ m → IsActing (step (node w m) (Tick t)).node.control
      at_root e =
          let a = turning.rules.acts.1.1 in
          let now : ℕ = max (node w m).control.soft.clock t in
          let due_m : is_due (node w m).control.soft.due (max (node w m).control.soft.clock t) ≡ true = subst (λ (y : ℕ). is_due (node w y).control.soft.due (max (node w y).control.soft.clock t) ≡ true) e due in
          (now, (Some (now + 20 - m % 3), subst (λ (s : ℕ). Acts m now (Some (now + 20 - m % 3)) s (step (node w m) (Tick t)).node.control) a.4 (tick_reigns m (node w m) t (me_of w m) a.1 due_m)))

    begins_ruling : (zs : List ℕ) → Turning w0 zs
    begins_ruling zs = record {
      rules = record {
        reached = reign.top.reached;
        ups = λ y. refl;
        later = [];
        net = sym (append-nil w0.net);
        from = tt;
        mild = tt;
        acts = (clock_of w0 m, ((node w0 m).control.soft.due, (me_of w0 m, reign.acts, refl, refl, refl)));
      };
      same = λ y one. refl;
    }

    rules_arrived : (w : World) (k : ℕ) (s : Message) → Rules w → length w0.net < k → message_at w.net k ≡ Some s → Rules (arrived w k)
    rules_arrived w k s rules past found = ⊎_elim
        (λ fails. subst Rules (sym (arrived_fails w k s found fails)) (⊎_elim
        (λ up. rules_on w s.from (Unreachable s.to) rules up (subst (Reached h) (arrived_fails w k s found fails) (reached_arrived h w k rules.reached))
        (λ e. (rules.acts.0, (rules.acts.1.0, failure_reigns m rules.acts.0 rules.acts.1.0 (seq_of w0 m) (node w m) s.to ((in_line h w m rules.reached).still (member h m id within w rules.reached)) rules.acts.1.1))))
        (λ off. subst Rules (sym (takes_none w s.from (Unreachable s.to) off)) rules)
        (cases_Bool (is_up w s.from))))
        (λ comes. subst Rules (sym (arrived_comes w k s found comes)) (⊎_elim
        (λ up. rules_on w s.to (Delivered s) rules up (subst (Reached h) (arrived_comes w k s found comes) (reached_arrived h w k rules.reached))
        (λ e. (rules.acts.0, (rules.acts.1.0, message_reigns m rules.acts.0 rules.acts.1.0 (seq_of w0 m) (node w m) s (λ less. reign.top.none s.from less sender) rules.acts.1.1))))
        (λ off. subst Rules (sym (takes_none w s.to (Delivered s) off)) rules)
        (cases_Bool (is_up w s.to))))
        (cases_Bool (is_dial s.body && not (is_up w s.to))) where
          sender : is_up w0 s.from ≡ true
          sender = at_after (λ (l : Message). is_up w0 l.from ≡ true) w0.net rules.later k s past (subst (λ (all : List Message). message_at all k ≡ Some s) rules.net found) rules.from

    pub root_hush : (y : ℕ) → IsHush h w0 m y Turning Rules
    root_hush y = record {
      begins = begins_ruling;
      ticks = one_turns;
      ticked = λ w turning. turning.rules;
      arrives = rules_arrived;
      mild = λ w k s rules past found from to.
          at_after (λ (l : Message). l.from ≡ m → IsMild l.body) w0.net rules.later k s past (subst (λ (all : List Message). message_at all k ≡ Some s) rules.net found) rules.mild from;
    }

    -- The whole round

    all_turn : (ts : List Turn) (w : World) → Turning w (map (λ t. t.node) ts) → is_distinct (map (λ t. t.node) ts) ≡ true → list_all (is_up w0) (map (λ t. t.node) ts) ≡ true
        → list_all (λ t. is_timely (node w0 t.node).control t.time) ts ≡ true → Turning (after_turns w ts) []
    all_turn [] w turning distinct ups timely = turning
    all_turn (t ∷ ts) w turning distinct ups timely =
        let xs : List ℕ = map (λ (u : Turn). u.node) ts in
        let apart = and_parts (not (has xs t.node)) (is_distinct xs) distinct in
        let out : IsOneOf t.node xs → ⊥ = has_none xs t.node (not-true (has xs t.node) apart.0) in
        let lives = and_parts (is_up w0 t.node) (list_all (is_up w0) xs) ups in
        let times = and_parts (is_timely (node w0 t.node).control t.time) (list_all (λ (u : Turn). is_timely (node w0 u.node).control u.time) ts) timely in
        all_turn ts (after_act w (At t.node (Tick t.time))) (one_turns w t.node xs t.time turning out lives.0 times.0) apart.1 lives.1 times.1

    all_arrive : (ks : List ℕ) (w : World) → Rules w → are_sent (length w0.net) w ks ≡ true → Rules (after_arrivals w ks)
    all_arrive [] w rules sent = rules
    all_arrive (k ∷ ks) w rules sent =
        let outer = and_parts (nat_lt (length w0.net) k && nat_le k (length w.net)) (are_sent (length w0.net) (arrived w k) ks) sent in
        let inner = and_parts (nat_lt (length w0.net) k) (nat_le k (length w.net)) outer.0 in
        let past : length w0.net < k = ltb-true (length w0.net) k inner.0 in
        let found = at_some w.net k (omega (arith, past)) (leb-true k (length w.net) inner.1) in
        all_arrive ks (arrived w k) (rules_arrived w k found.0 rules past found.1) outer.1

    round_rules : (r : Round) → is_round (length w0.net) w0 r ≡ true → Rules (after_round w0 r)
    round_rules r is =
        let xs : List ℕ = map (λ (t : Turn). t.node) r.turns in
        let u : World = after_turns w0 r.turns in
        let timely : Bool = list_all (λ (t : Turn). is_timely (node w0 t.node).control t.time) r.turns in
        let sent : Bool = are_sent (length w0.net) u r.arrivals in
        let p3 = and_parts (are_the_up w0 xs && timely && sent) (list_all (has r.arrivals) (new_messages w0 (after_round w0 r))) is in
        let p2 = and_parts (are_the_up w0 xs && timely) sent p3.0 in
        let p1 = and_parts (are_the_up w0 xs) timely p2.0 in
        let q2 = and_parts (list_all (is_up w0) xs && list_all (has xs) (up_ids w0)) (is_distinct xs) p1.0 in
        let q1 = and_parts (list_all (is_up w0) xs) (list_all (has xs) (up_ids w0)) q2.0 in
        all_arrive r.arrivals u (all_turn r.turns w0 (begins_ruling xs) q2.1 q1.0 p1.1).rules p2.1

    pub root_goes : (r : Round) → is_round (length w0.net) w0 r ≡ true → IsReigning (after_round w0 r)
    root_goes r is =
        let rules : Rules (after_round w0 r) = round_rules r is in
        record { top = topmost_on h m id within w0 (after_round w0 r) reign.top rules.reached rules.ups; acts = rules.acts.1.1.1 }
