-- In a round a node past the chain that looks for a place finds one, if the root is the one member that is up.
use Rattle.std.proofs.Common.{◌≡◌, ℕ, ◌+◌, ◌-◌, ◌≤◌, ◌<◌, ◌%◌, max, Bool, true, false, not, ◌&&◌, ◌==◌, nat_le, nat_lt, Option, Some, None, unwrap_or, List, [], ◌∷◌, ◌++◌, ◌⊎◌, inl, inr, length, map, refl, ap, sym, subst, ◌∙◌, ⊎_elim, arith, append_assoc, append-nil, length-append}
use Rattle.std.specs.List.{AllByRecursion, list_all}
use Rattle.std.proofs.lemmas.Bool.{cases_eq, cases_Bool, cases_order, and_parts, leb-true, ltb-true, not-true, true≢false, false_from_ne_true}
use Rattle.oc_model.specs.declared.event.Act.TheVariants.{At, Deliver}
use Rattle.oc_model.specs.declared.input.Input.{Input}
use Rattle.oc_model.specs.declared.input.Input.TheVariants.{Tick, Unreachable, Delivered}
use Rattle.oc_model.specs.declared.message.Body.{Body}
use Rattle.oc_model.specs.declared.message.Body.TheVariants as bodies
use Rattle.oc_model.specs.declared.message.Message.{Message}
use Rattle.oc_model.specs.declared.mode.Mode.{Mode}
use Rattle.oc_model.specs.declared.mode.Mode.TheVariants as modes
use Rattle.oc_model.specs.declared.reading.Reading.{Reading}
use Rattle.oc_model.specs.declared.soft.Search.{Search}
use Rattle.oc_model.specs.declared.soft.Search.TheVariants as searches
use Rattle.oc_model.specs.Adopting.{in_tree}
use Rattle.oc_model.specs.Adoption.{chain_child}
use Rattle.oc_model.specs.Checking.{is_due}
use Rattle.oc_model.specs.ClaimsTree.{table_of, seq_of}
use Rattle.oc_model.specs.Heal.{epoch_in}
use Rattle.oc_model.specs.Looking.{parent_of, rate_to_some, children}
use Rattle.oc_model.specs.Node.{Header, Control, Node}
use Rattle.oc_model.specs.Numbers.{IsAmong, number_end, has}
use Rattle.oc_model.specs.Plan.{is_member}
use Rattle.oc_model.specs.Ready.{HoldsLease}
use Rattle.oc_model.specs.Step.{step}
use Rattle.oc_model.specs.Table.{leased_by, leased_children}
use Rattle.oc_model.specs.World.{World, Process, process, node, is_up, mode_of, up_ids, message_at, delivery, after_act}
use Rattle.oc_model.specs.WorldBounds.{IsOneOf, clock_of}
use Rattle.oc_model.proofs.Able.{among_up}
use Rattle.oc_model.proofs.Lists.{all_append, all_weaker}
use Rattle.oc_model.proofs.Members.{all_test, found_passes}
use Rattle.oc_laws_step.proofs.Tables.{newest-subject}
use Rattle.oc_laws_world.specs.Ranks.{own_rank}
use Rattle.oc_laws_world.proofs.Lifts.{HasSent, IsTrueArrival, arrival_came}
use Rattle.oc_laws_tree.specs.LeaseEnds.{LeaseEndsLieAhead}
use Rattle.oc_laws_tree.proofs.Children.{found_one, child_leased}
use Rattle.oc_laws_tree.proofs.Held.{tree_of}
use Rattle.oc_laws_tree.proofs.Known.{Knows, newest_among}
use Rattle.oc_laws_tree.proofs.Line.{IsTop}
use Rattle.oc_laws_tree.proofs.LineHolds.{in_line, root_top, member_of}
use Rattle.oc_laws_tree.proofs.Points.{lease_ends_after}
use Rattle.oc_laws_tree.proofs.Reached.{Reached, reached_act, of_reached}
use Rattle.oc_laws_tree.proofs.Rows.{lease_row}
use Rattle.oc_laws_tree.proofs.Spans.{IsId, up_id, told_id, among_them}
use Rattle.oc_laws_rest.specs.Rounds.{Turn, Round, after_turns, is_dial, arrived, after_arrivals, after_round, is_distinct, are_the_up, is_timely, are_sent, new_messages, is_round}
use Rattle.oc_laws_rest.proofs.Asks.{has_number, sound_of}
use Rattle.oc_laws_rest.proofs.Forgets.{IsSilent}
use Rattle.oc_laws_rest.proofs.Forgetting.{HasEnd, IsKnownTo, tick_keeps, message_ends, mild_ends, failure_ends}
use Rattle.oc_laws_rest.proofs.Forms.{in_numbers}
use Rattle.oc_laws_rest.proofs.Keeping.{AreNone, IsAnyTime, HasStayed, tick_stays}
use Rattle.oc_laws_rest.proofs.Leases.{any_come}
use Rattle.oc_laws_rest.proofs.Links.{me_of, takes, takes_none, acted_ups, arrived_fails, arrived_comes, waits_sent}
use Rattle.oc_laws_rest.proofs.Mild.{IsMild, IsAlone, step_mild}
use Rattle.oc_laws_rest.proofs.Moves.{Turned, Waits, waits_on, waits_more, at_some, at_after}
use Rattle.oc_laws_rest.proofs.Reigning.{Acts, message_reigns, failure_reigns, tick_reigns}
use Rattle.oc_laws_rest.proofs.Replies.{after_input}
use Rattle.oc_laws_rest.proofs.Roots.{IsTopmost, member, own_step, tables_of, reached_arrived}
use Rattle.oc_laws_rest.proofs.Seeking.{IsCalm, TellsPosition, IsFair, Way, way_by, HasLooked, HasSought, step_ticks, step_fails, step_receives}
use Rattle.oc_laws_rest.proofs.Ticks.{has_one, has_none, due_then}
use Rattle.oc_laws_rest.proofs.Welcoming.{IsWelcome, Welcomes, TakesIn, MayAsk, message_welcomes, failure_welcomes, tick_welcomes, takes_in}
use Rattle.oc_laws_rest.proofs.Within.{IsWithin, within_up, step_within}

-- fairness of messages
welcome_fair : (m : ℕ) (Free : Type 0) (x p : ℕ) (b : Body) → IsWelcome x Free b → IsFair m Free p b
welcome_fair m Free x p (bodies.No seq why) w = λ e. w
welcome_fair m Free x p (bodies.LookIs is_in parent rate children) w = λ e off. w off
welcome_fair m Free x p b w = tt

other_fair : (m : ℕ) (Free : Type 0) (p : ℕ) (b : Body) → (p ≡ m → ⊥) → IsFair m Free p b
other_fair m Free p (bodies.No seq why) apart = λ e. absurd (apart e)
other_fair m Free p (bodies.LookIs is_in parent rate children) apart = λ e off. absurd (apart e)
other_fair m Free p b apart = tt

-- who tells a position does not dial
position_replies : (b : Body) → TellsPosition b → is_dial b ≡ false
position_replies (bodies.LookIs is_in parent rate children) tells = refl
position_replies bodies.Look tells = absurd tells
position_replies (bodies.Ask seq rank) tells = absurd tells
position_replies (bodies.Yes seq rank ancestors) tells = absurd tells
position_replies (bodies.No seq why) tells = absurd tells
position_replies (bodies.CheckIn seq upto rate number clients certs) tells = absurd tells
position_replies (bodies.CheckAck seq upto rank ancestors) tells = absurd tells
position_replies (bodies.Rejoin seq) tells = absurd tells
position_replies (bodies.Fetch have) tells = absurd tells
position_replies (bodies.Chunk g start bytes last) tells = absurd tells

-- no ask number or epoch is left
abbrev pub IsSpent : Control → Type 0
IsSpent n = (n.kept.seq ≡ number_end) ⊎ (number_end ≤ epoch_in n.kept.rank)

-- what is spent stays so
pub spent_step : (h : Header) (w : World) (x : ℕ) (i : Input) → Reached h w → IsSpent (node w x).control → IsSpent (step (node w x) i).node.control
spent_step h w x i reached spent = ⊎_elim
    (λ last. inl ((own_step x (Unit {0}) (node w x) i (tables_of h w reached x) (any_come i) (me_of w x) (λ _. last)).2 tt))
    (λ high. inr (step_within number_end (node w x) i (tables_of h w reached x) (any_come i) high).0)
    spent

-- the root is m, and x is a node past the chain that has measured no way; Free is what is known where nothing is asked of the root's leases
module _ (h : Header) (m : ℕ) (id : IsId h m) (within : m ≤ h.chain) (x : ℕ) (its : IsId h x) (past : h.chain < x) (ms : List Reading) (none : AreNone ms) (Free : Type 0) where
  -- Messages between x and q

  abbrev IsLook : ℕ → Message → Type 0
  IsLook q s = s ≡ record { from = x; to = q; body = bodies.Look }

  abbrev IsSeen : ℕ → Message → Type 0
  IsSeen q s = (s.from ≡ q) × (s.to ≡ x) × TellsPosition s.body

  abbrev Looks : World → ℕ → List ℕ → ℕ → Type 0
  Looks w old done q = Waits w old done (IsLook q) ⊎ Waits w old done (IsSeen q)

  -- the search of x
  abbrev WayOf : (ℕ → Type 0) → Control → Type 0
  WayOf L n = (n.kept.measures ≡ ms) × Way x m h.chain ms none id.least within past Free L n.kept.mode n.soft.search n.soft.tries

  apart_from_root : x ≡ m → ⊥
  apart_from_root e = omega (arith, e, within, past)

  module _ (w0 : World) (top0 : IsTopmost h m id within w0) (acting : mode_of w0 m ≡ modes.Acting) (only : (y : ℕ) → is_up w0 y ≡ true → y ≤ h.chain → y ≡ m) (up0 : is_up w0 x ≡ true) where
    -- m holds no lease of itself or of a node that is down
    abbrev AreForgotten : Control → Type 0
    AreForgotten n = (y : ℕ) (id_y : IsId h y) → IsSilent h m id within y id_y w0 → HasEnd y 0 n

    abbrev IsActing : Control → Type 0
    IsActing n = (c : ℕ) × ((d : Option ℕ) × Acts m c d (seq_of w0 m) n)

    record Going (w : World) : Type 0 where
      reached : Reached h w
      ups : (y : ℕ) → is_up w y ≡ is_up w0 y
      later : List Message
      net : w.net ≡ w0.net ++ later
      from : AllByRecursion (λ s. is_up w0 s.from ≡ true) later
      mild : AllByRecursion (λ s. s.from ≡ m → IsMild s.body) later
      fair : AllByRecursion (λ s. s.to ≡ x → IsFair m Free s.from s.body) later
      told : AllByRecursion (λ s. s.from ≡ x → IsWithin (epoch_in (own_rank w x)) s.body) later
      acts : IsActing (node w m).control
      forgot : Free ⊎ AreForgotten (node w m).control

    -- a step of m
    record RootGoes (w : World) (i : Input) : Type 0 where
      acts : IsActing (step (node w m) i).node.control
      forgot : Free ⊎ AreForgotten (step (node w m) i).node.control
      welcomes : AllByRecursion (Welcomes x Free) (step (node w m) i).sends

    going_on : (w : World) (z : ℕ) (i : Input) → Going w → is_up w z ≡ true → Reached h (after_input w z i) → (z ≡ m → RootGoes w i) → Going (after_input w z i)
    going_on w z i going up reached root =
        record {
          reached = reached;
          ups = λ y. acted_ups w z i y ∙ going.ups y;
          later = going.later ++ sent;
          net = turn.net ∙ (ap (λ (all : List Message). all ++ sent) going.net ∙ append_assoc w0.net going.later sent);
          from = all_append (λ (s : Message). is_up w0 s.from ≡ true) going.later sent going.from (all_weaker (λ (s : Message). s.from ≡ z) (λ (s : Message). is_up w0 s.from ≡ true) (λ s e. ap (is_up w0) e ∙ (sym (going.ups z) ∙ up)) sent own);
          mild = all_append (λ (s : Message). s.from ≡ m → IsMild s.body) going.later sent going.mild (⊎_elim
              (λ (e : z ≡ m).
              let after = root e in
              let same : (step (node w m) i).node.control.kept.seq ≡ seq_of w m = after.acts.1.1.4 ∙ sym going.acts.1.1.4 in
              let mild : AllByRecursion (λ s. IsMild s.body) (step (node w m) i).sends =
              step_mild (node w m) i (tables_of h w going.reached m) (any_come i) (subst IsAlone (sym going.acts.1.1.1) tt) same in
              all_weaker (λ (s : Message). IsMild s.body) (λ (s : Message). s.from ≡ m → IsMild s.body) (λ s fine from. fine) sent
              (subst (λ (y : ℕ). AllByRecursion (λ s. IsMild s.body) (step (node w y) i).sends) (sym e) mild))
              (λ apart. all_weaker (λ (s : Message). s.from ≡ z) (λ (s : Message). s.from ≡ m → IsMild s.body) (λ s is from. absurd (apart (sym is ∙ from))) sent own)
              (cases_eq z m));
          fair = all_append (λ (s : Message). s.to ≡ x → IsFair m Free s.from s.body) going.later sent going.fair (⊎_elim
              (λ (e : z ≡ m). all_weaker (Welcomes x Free) (λ (s : Message). s.to ≡ x → IsFair m Free s.from s.body) (λ s w to. welcome_fair m Free x s.from s.body (w to)) sent
              (subst (λ (y : ℕ). AllByRecursion (Welcomes x Free) (step (node w y) i).sends) (sym e) (root e).welcomes))
              (λ apart. all_weaker (λ (s : Message). s.from ≡ z) (λ (s : Message). s.to ≡ x → IsFair m Free s.from s.body) (λ s is to. other_fair m Free s.from s.body (λ f. apart (sym is ∙ f))) sent own)
              (cases_eq z m));
          told = all_append (λ (s : Message). s.from ≡ x → IsWithin (epoch_in (own_rank v x)) s.body) going.later sent
              (all_weaker (λ (s : Message). s.from ≡ x → IsWithin (epoch_in (own_rank w x)) s.body) (λ (s : Message). s.from ≡ x → IsWithin (epoch_in (own_rank v x)) s.body)
              (λ s known from. within_up (epoch_in (own_rank w x)) (epoch_in (own_rank v x)) rising s.body (known from)) going.later going.told)
              (⊎_elim
              (λ (e : z ≡ x). all_weaker (λ (s : Message). IsWithin (epoch_in (own_rank v x)) s.body) (λ (s : Message). s.from ≡ x → IsWithin (epoch_in (own_rank v x)) s.body) (λ s known from. known) sent
              (subst (λ (y : ℕ). AllByRecursion (λ s. IsWithin (epoch_in (own_rank v x)) s.body) (step (node w y) i).sends) (sym e)
              (subst (λ (p : Process). AllByRecursion (λ s. IsWithin (epoch_in p.node.control.kept.rank) s.body) (step (node w x) i).sends) (sym (at_x e)) (own_within e).1)))
              (λ apart. all_weaker (λ (s : Message). s.from ≡ z) (λ (s : Message). s.from ≡ x → IsWithin (epoch_in (own_rank v x)) s.body) (λ s is from. absurd (apart (sym is ∙ from))) sent own)
              (cases_eq z x));
          acts = ⊎_elim
              (λ (e : z ≡ m). subst (λ (p : Process). IsActing p.node.control) (sym (at_root e)) (root e).acts)
              (λ apart. subst (λ (p : Process). IsActing p.node.control) (sym (turn.others m apart)) going.acts)
              (cases_eq z m);
          forgot = ⊎_elim
              (λ (e : z ≡ m). subst (λ (p : Process). Free ⊎ AreForgotten p.node.control) (sym (at_root e)) (root e).forgot)
              (λ apart. subst (λ (p : Process). Free ⊎ AreForgotten p.node.control) (sym (turn.others m apart)) going.forgot)
              (cases_eq z m);
        } where
          v : World
          v = after_input w z i

          sent : List Message
          sent = (step (node w z) i).sends

          turn : Turned w z (step (node w z) i).node (step (node w z) i).sends (after_input w z i)
          turn = takes w z i up

          own : AllByRecursion (λ s. s.from ≡ z) (step (node w z) i).sends
          own = (own_step z ⊥ (node w z) i (tables_of h w going.reached z) (any_come i) (me_of w z) (λ never. absurd never)).1

          at_root : z ≡ m → process (after_input w z i) m ≡ record { node = (step (node w m) i).node; up = true }
          at_root e = subst (λ (y : ℕ). process (after_input w z i) y ≡ record { node = (step (node w y) i).node; up = true }) e turn.here

          at_x : z ≡ x → process (after_input w z i) x ≡ record { node = (step (node w x) i).node; up = true }
          at_x e = subst (λ (y : ℕ). process (after_input w z i) y ≡ record { node = (step (node w y) i).node; up = true }) e turn.here

          own_within : z ≡ x → (epoch_in (own_rank w x) ≤ epoch_in (step (node w x) i).node.control.kept.rank) × AllByRecursion (λ s. IsWithin (epoch_in (step (node w x) i).node.control.kept.rank) s.body) (step (node w x) i).sends
          own_within e = step_within (epoch_in (own_rank w x)) (node w x) i (tables_of h w going.reached x) (any_come i) (omega arith)

          rising : epoch_in (own_rank w x) ≤ epoch_in (own_rank (after_input w z i) x)
          rising = ⊎_elim
              (λ (e : z ≡ x). subst (λ (p : Process). epoch_in (own_rank w x) ≤ epoch_in p.node.control.kept.rank) (sym (at_x e)) (own_within e).0)
              (λ apart. subst (λ (p : Process). epoch_in (own_rank w x) ≤ epoch_in p.node.control.kept.rank) (sym (turn.others x apart)) (omega arith))
              (cases_eq z x)

    spent_on : (w : World) (z : ℕ) (i : Input) → Reached h w → is_up w z ≡ true → IsSpent (node w x).control → IsSpent (node (after_input w z i) x).control
    spent_on w z i reached up spent = ⊎_elim
        (λ (e : z ≡ x). subst (λ (y : ℕ). IsSpent (node (after_input w z i) y).control) e (subst (λ (p : Process). IsSpent p.node.control) (sym (takes w z i up).here)
        (subst (λ (y : ℕ). IsSpent (step (node w y) i).node.control) (sym e) (spent_step h w x i reached spent))))
        (λ apart. subst (λ (p : Process). IsSpent p.node.control) (sym ((takes w z i up).others x apart)) spent)
        (cases_eq z x)

    -- x looks for a place, or is spent
    abbrev Seeks : World → List ℕ → Type 0
    Seeks w done = IsSpent (node w x).control ⊎ WayOf (Looks w (length w0.net) done) (node w x).control

    -- by a step of x
    sought : (w v : World) (done : List ℕ) (n : Control) (sent : List Message) → v.net ≡ w.net ++ sent → length w0.net ≤ length w.net → ((k : ℕ) → IsOneOf k done → k ≤ length w.net)
        → HasSought x m h.chain ms none id.least within past Free (Looks v (length w0.net) done) n sent → IsSpent n ⊎ WayOf (Looks v (length w0.net) done) n
    sought w v done n sent net before low done_is = ⊎_elim
        (λ last. inl (inl last))
        (λ way. inr (
          way.0,
          way_by x m h.chain ms none id.least within past Free (HasLooked x m h.chain ms none id.least within past Free (Looks v (length w0.net) done) sent) (Looks v (length w0.net) done)
              (λ q looked. ⊎_elim (λ a. a) (λ one. inl (waits_sent w v (length w0.net) done (IsLook q) (record { from = x; to = q; body = bodies.Look }) sent net before low one refl)) looked)
              n.kept.mode n.soft.search n.soft.tries way.1,
        ))
        done_is

    chain_of : (w : World) → Reached h w → (node w x).control.chain ≡ h.chain
    chain_of w reached = (among_them h w x reached its).1

    -- Ticks

    -- before its tick: nobody has found x a place yet, or nothing is asked of its search
    abbrev pub Begins : Control → Type 0
    Begins n = (n.kept.measures ≡ ms) × (((n.kept.mode ≡ modes.Idle) × (Free ⊎ IsCalm n.soft.search)) ⊎ (Free × ((p : ℕ) × (n.kept.mode ≡ modes.Joined p))))

    outside : (w : World) → Reached h w → is_member (node w x).control ≡ false
    outside w reached = false_from_ne_true (is_member (node w x).control) (λ e. let low : x ≤ h.chain = member_of h w x reached its e in omega (arith, low, past))

    module _ (begins : Begins (node w0 x).control) (forgotten : Free ⊎ AreForgotten (node w0 m).control) where
      record Ticking (w : World) (still : List ℕ) : Type 0 where
        going : Going w
        longer : length w0.net ≤ length w.net
        same : (y : ℕ) → IsOneOf y still → process w y ≡ process w0 y
        seeks : IsOneOf x still ⊎ Seeks w []

      module _ (w : World) (y : ℕ) (ys : List ℕ) (t : ℕ) (ticking : Ticking w (y ∷ ys)) (up : is_up w0 y ≡ true) (timely : is_timely (node w0 y).control t ≡ true) where
        up_now : is_up w y ≡ true
        up_now = ticking.going.ups y ∙ up

        turn : Turned w y (step (node w y) (Tick t)).node (step (node w y) (Tick t)).sends (after_act w (At y (Tick t)))
        turn = takes w y (Tick t) (ticking.going.ups y ∙ up)

        due : is_due (node w y).control.soft.due (max (node w y).control.soft.clock t) ≡ true
        due = due_then (node w y).control.soft.due (node w y).control.soft.clock t
            (and_parts (nat_le (unwrap_or (node w y).control.soft.due (node w y).control.soft.clock) t) (nat_le t ((node w y).control.soft.clock + 29))
            (ap (λ (p : Process). is_timely p.node.control t) (ticking.same y (inl refl)) ∙ timely)).0

        way_more : WayOf (Looks w (length w0.net) []) (node w x).control → WayOf (Looks (after_act w (At y (Tick t))) (length w0.net) []) (node w x).control
        way_more way = (
          way.0,
          way_by x m h.chain ms none id.least within past Free (Looks w (length w0.net) []) (Looks (after_act w (At y (Tick t))) (length w0.net) [])
              (λ q looks. ⊎_elim
              (λ a. inl (waits_more w (after_act w (At y (Tick t))) (length w0.net) [] (IsLook q) (step (node w y) (Tick t)).sends turn.net a))
              (λ a. inr (waits_more w (after_act w (At y (Tick t))) (length w0.net) [] (IsSeen q) (step (node w y) (Tick t)).sends turn.net a))
              looks)
              (node w x).control.kept.mode (node w x).control.soft.search (node w x).control.soft.tries way.1,
        )

        root_ticks : y ≡ m → RootGoes w (Tick t)
        root_ticks e =
            let a = ticking.going.acts.1.1 in
            let due_m : is_due (node w m).control.soft.due (max (node w m).control.soft.clock t) ≡ true = subst (λ (z : ℕ). is_due (node w z).control.soft.due (max (node w z).control.soft.clock t) ≡ true) e due in
            let now : ℕ = max (node w m).control.soft.clock t in
            record {
              acts = (now, (Some (now + 20 - m % 3), subst (λ (s : ℕ). Acts m now (Some (now + 20 - m % 3)) s (step (node w m) (Tick t)).node.control) a.4 (tick_reigns m (node w m) t (me_of w m) a.1 due_m)));
              forgot = ⊎_elim (λ free. inl free) (λ all. inr (λ z id_z silent. tick_keeps z 0 (node w m) t (all z id_z silent))) ticking.going.forgot;
              welcomes = tick_welcomes x Free (node w m) t;
            }

        at_x : Begins (node w x).control → is_due (node w x).control.soft.due (max (node w x).control.soft.clock t) ≡ true → (after_act w (At y (Tick t))).net ≡ w.net ++ (step (node w x) (Tick t)).sends
            → IsSpent (step (node w x) (Tick t)).node.control ⊎ WayOf (Looks (after_act w (At y (Tick t))) (length w0.net) []) (step (node w x) (Tick t)).node.control
        at_x begun_x due_x net = ⊎_elim
            (λ idle. sought w (after_act w (At y (Tick t))) [] (step (node w x) (Tick t)).node.control (step (node w x) (Tick t)).sends net ticking.longer (λ k one. absurd one)
            (step_ticks x m h.chain ms none id.least within past Free (Looks (after_act w (At y (Tick t))) (length w0.net) []) (node w x) (me_of w x) (chain_of w ticking.going.reached) begun_x.0 t idle.0 idle.1 due_x))
            (λ joined.
            let stayed : HasStayed x joined.1.0 (seq_of w x) ms none IsAnyTime (step (node w x) (Tick t)).node.control (step (node w x) (Tick t)).sends =
            tick_stays x joined.1.0 (seq_of w x) ms none (node w x) t (me_of w x, outside w ticking.going.reached, joined.1.1, refl, begun_x.0, tt) in
            let n : Control = (step (node w x) (Tick t)).node.control in
            inr (
              stayed.member.4,
              subst (λ (k : Mode). Way x m h.chain ms none id.least within past Free (Looks (after_act w (At y (Tick t))) (length w0.net) []) k n.soft.search n.soft.tries) (sym stayed.member.2) (inl joined.0),
            ))
            begun_x.1

        own : y ≡ x → Seeks (after_act w (At y (Tick t))) []
        own e =
            let begun_y : Begins (node w y).control = subst (λ (p : Process). Begins p.node.control) (sym (ticking.same y (inl refl))) (subst (λ (z : ℕ). Begins (node w0 z).control) (sym e) begins) in
            let here : process (after_act w (At y (Tick t))) x ≡ record { node = (step (node w x) (Tick t)).node; up = true } =
            subst (λ (z : ℕ). process (after_act w (At y (Tick t))) z ≡ record { node = (step (node w z) (Tick t)).node; up = true }) e turn.here in
            subst (λ (p : Process). IsSpent p.node.control ⊎ WayOf (Looks (after_act w (At y (Tick t))) (length w0.net) []) p.node.control) (sym here)
            (at_x (subst (λ (z : ℕ). Begins (node w z).control) e begun_y) (subst (λ (z : ℕ). is_due (node w z).control.soft.due (max (node w z).control.soft.clock t) ≡ true) e due)
            (subst (λ (z : ℕ). (after_act w (At y (Tick t))).net ≡ w.net ++ (step (node w z) (Tick t)).sends) e turn.net))

        one_turns : (IsOneOf y ys → ⊥) → Ticking (after_act w (At y (Tick t))) ys
        one_turns out = record {
          going = going_on w y (Tick t) ticking.going up_now (reached_act h w (At y (Tick t)) ticking.going.reached) root_ticks;
          longer = omega (arith, ticking.longer, ap length turn.net, length-append w.net (step (node w y) (Tick t)).sends);
          same = λ z one. turn.others z (λ e. out (subst (λ (u : ℕ). IsOneOf u ys) (sym e) one)) ∙ ticking.same z (inr one);
          seeks = ⊎_elim (λ (e : y ≡ x). inr (own e))
              (λ apart. ⊎_elim
              (λ one. ⊎_elim (λ (e : x ≡ y). absurd (apart (sym e))) (λ later. inl later) one)
              (λ seeks. inr (⊎_elim
              (λ spent. inl (subst (λ (p : Process). IsSpent p.node.control) (sym (turn.others x apart)) spent))
              (λ way. inr (subst (λ (p : Process). WayOf (Looks (after_act w (At y (Tick t))) (length w0.net) []) p.node.control) (sym (turn.others x apart)) (way_more way)))
              seeks))
              ticking.seeks)
              (cases_eq y x);
        }

      all_turn : (ts : List Turn) (w : World) → Ticking w (map (λ t. t.node) ts) → is_distinct (map (λ t. t.node) ts) ≡ true → list_all (is_up w0) (map (λ t. t.node) ts) ≡ true
          → list_all (λ t. is_timely (node w0 t.node).control t.time) ts ≡ true → Ticking (after_turns w ts) []
      all_turn [] w ticking distinct ups timely = ticking
      all_turn (t ∷ ts) w ticking distinct ups timely =
          let xs : List ℕ = map (λ (u : Turn). u.node) ts in
          let apart = and_parts (not (has xs t.node)) (is_distinct xs) distinct in
          let out : IsOneOf t.node xs → ⊥ = has_none xs t.node (not-true (has xs t.node) apart.0) in
          let lives = and_parts (is_up w0 t.node) (list_all (is_up w0) xs) ups in
          let times = and_parts (is_timely (node w0 t.node).control t.time) (list_all (λ (u : Turn). is_timely (node w0 u.node).control u.time) ts) timely in
          all_turn ts (after_act w (At t.node (Tick t.time))) (one_turns w t.node xs t.time ticking lives.0 times.0 out) apart.1 lives.1 times.1

    -- Messages

    record Arriving (w : World) (done : List ℕ) : Type 0 where
      reached : Reached h w
      ups : (y : ℕ) → is_up w y ≡ is_up w0 y
      longer : length w0.net ≤ length w.net
      sent : (k : ℕ) → IsOneOf k done → k ≤ length w.net
      state : IsSpent (node w x).control ⊎ (Going w × WayOf (Looks w (length w0.net) done) (node w x).control)

    -- the root takes x in
    takes_x : (w : World) → Going w → Free ⊎ TakesIn x Free (node w m).control
    takes_x w going = ⊎_elim (λ free. inl free) (λ all. inr (takes_in (node w m).control x mode top.0 top.1 (λ e. apart_from_root (e ∙ me_of w m)) (no_child all))) going.forgot where
      mode : (node w m).control.kept.mode ≡ modes.Acting
      mode = going.acts.1.1.1

      top : ((node w m).control.kept.ancestors ≡ []) × IsTop (node w m).control.kept.rank
      top = root_top h w m going.reached going.acts.1.1.1

      -- a lease whose end is past
      ended : AreForgotten (node w m).control → (k : ℕ) (id_k : IsId h k) → IsSilent h m id within k id_k w0 → (s : ℕ) → HoldsLease w m k s → ⊥
      ended all k id_k silent s leased =
          let end = all k id_k silent s (subst (λ (y : ℕ). leased_by (table_of w m) y k ≡ Some s) (sym (me_of w m)) leased) in
          let ahead : clock_of w m < end.0 = of_reached LeaseEndsLieAhead lease_ends_after h w going.reached m k s end.0 (going.ups m ∙ top0.up) leased end.1 in
          omega (arith, ahead, end.2)

      no_child : AreForgotten (node w m).control → chain_child (node w m).control.kept.table (node w m).control.me (node w m).control.chain x ≡ None
      no_child all = by_child (chain_child (table_of w m) (node w m).control.me (node w m).control.chain x) refl where
        by_child : (q : Option ℕ) → chain_child (table_of w m) (node w m).control.me (node w m).control.chain x ≡ q → q ≡ None
        by_child None e = refl
        by_child (Some k) e =
            let passes = and_parts (nat_le k (node w m).control.chain) (not (k == x)) (found_passes (λ z. nat_le z (node w m).control.chain && not (z == x)) (leased_children (table_of w m) (node w m).control.me) k e) in
            let low : k ≤ h.chain = omega (arith, leb-true k (node w m).control.chain passes.0, (among_them h w m going.reached id).1) in
            let lease = child_leased (table_of w m) (node w m).control.me k (sound_of h w going.reached m).kept.table
            (found_one (λ z. nat_le z (node w m).control.chain && not (z == x)) (leased_children (table_of w m) (node w m).control.me) k e) in
            let held : HoldsLease w m k lease.0 = subst (λ (y : ℕ). leased_by (table_of w m) y k ≡ Some lease.0) (me_of w m) lease.1 in
            let row = lease_row (table_of w m) m k lease.0 held in
            let id_k : IsId h k = subst (IsId h) (newest-subject (table_of w m) k row.0 row.1.found) (told_id h w m row.0 going.reached (newest_among (table_of w m) k row.0 row.1.found)) in
            absurd (⊎_elim
            (λ up. ended all k id_k (inl (only k up low)) lease.0 held)
            (λ off. ended all k id_k (inr off) lease.0 held)
            (cases_Bool (is_up w0 k)))

    module _ (w : World) (k : ℕ) (s : Message) (found : message_at w.net k ≡ Some s) (going : Going w) (room : epoch_in (own_rank w x) < number_end)
        (sender : is_up w0 s.from ≡ true) (gentle : s.from ≡ m → IsMild s.body) (fair : s.to ≡ x → IsFair m Free s.from s.body) (told : s.from ≡ x → IsWithin (epoch_in (own_rank w x)) s.body) where
      acts_now : Acts m going.acts.0 going.acts.1.0 (seq_of w0 m) (node w m).control
      acts_now = going.acts.1.1

      may_ask : (b : Body) → (s.from ≡ x → IsWithin (epoch_in (own_rank w x)) b) → MayAsk x Free s.from b
      may_ask (bodies.Ask seq r) is = λ e. let low : epoch_in r ≤ epoch_in (own_rank w x) = is e in omega (arith, low, room)
      may_ask b is = tt

      ends_message : s.to ≡ m → (y : ℕ) (id_y : IsId h y) → IsSilent h m id within y id_y w0 → HasEnd y 0 (node w m).control → HasEnd y 0 (step (node w m) (Delivered s)).node.control
      ends_message e y id_y silent ends = ⊎_elim
          (λ (same : s.from ≡ y). ⊎_elim
          (λ itself. mild_ends y 0 (node w m) s (gentle (same ∙ itself)) ends)
          (λ off. let clash : true ≡ false = sym sender ∙ (ap (is_up w0) same ∙ off) in absurd cc)
          silent)
          (λ other. message_ends y 0 (node w m) s other (apart other) (known e s.body refl) ends)
          (cases_eq s.from y) where
            apart : (s.from ≡ y → ⊥) → s.from - 1 ≡ y - 1 → ⊥
            apart other f = let least : 1 ≤ s.from = (up_id h w0 s.from top0.reached sender).least in other (omega (arith, f, least, id_y.least))

            sent : HasSent w s.to s.from s.body
            sent = subst (λ o. IsTrueArrival w (delivery o)) found (arrival_came w (Deliver k))

            known : s.to ≡ m → (b : Body) → s.body ≡ b → IsKnownTo (node w m).control b
            known f (bodies.CheckIn seq upto rate number clients certs) body = λ c among own.
                let came : HasSent w s.to s.from (bodies.CheckIn seq upto rate number clients certs) = subst (HasSent w s.to s.from) body sent in
                let knows : Knows (table_of w c.parent) c = (tree_of h w going.reached).granted c (inr (inr (record { from = s.from; to = s.to; body = bodies.CheckIn seq upto rate number clients certs }, came, among))) in
                subst (λ (z : ℕ). Knows (table_of w z) c) (own ∙ me_of w m) knows
            known f b body = tt

      root_receives : s.to ≡ m → RootGoes w (Delivered s)
      root_receives e = record {
        acts = (going.acts.0, (going.acts.1.0, message_reigns m going.acts.0 going.acts.1.0 (seq_of w0 m) (node w m) s (λ less. top0.none s.from less sender) acts_now));
        forgot = ⊎_elim (λ free. inl free) (λ all. inr (λ y id_y silent. ends_message e y id_y silent (all y id_y silent))) going.forgot;
        welcomes = message_welcomes x Free (node w m) s acts_now.1 (takes_x w going) (may_ask s.body told);
      }

      root_fails : s.from ≡ m → RootGoes w (Unreachable s.to)
      root_fails e = record {
        acts = (going.acts.0, (going.acts.1.0, failure_reigns m going.acts.0 going.acts.1.0 (seq_of w0 m) (node w m) s.to ((in_line h w m going.reached).still (member h m id within w going.reached)) acts_now));
        forgot = ⊎_elim (λ free. inl free) (λ all. inr (λ y id_y silent. failure_ends y 0 (node w m) s.to (all y id_y silent))) going.forgot;
        welcomes = failure_welcomes x Free (node w m) s.to;
      }

      module _ (done : List ℕ) (longer : length w0.net ≤ length w.net) (low : (j : ℕ) → IsOneOf j (k ∷ done) → j ≤ length w.net) (way : WayOf (Looks w (length w0.net) done) (node w x).control) where
        number : (q : ℕ) → (node w x).control.kept.mode ≡ modes.Asking q → (seq_of w x == 0) ≡ false
        number q asks = has_number w (sound_of h w going.reached) x q asks

        -- who takes the look of x tells it the position
        seen : (q : ℕ) → IsLook q s → (v : World) → v.net ≡ w.net ++ (step (node w s.to) (Delivered s)).sends → Waits v (length w0.net) (k ∷ done) (IsSeen q)
        seen q is v net =
            let to : s.to ≡ q = ap (λ (l : Message). l.to) is in
            let n : Node = node w s.to in
            let reply : Message = record { from = n.control.me; to = s.from; body = bodies.LookIs (in_tree n.control.kept.mode) (parent_of n.control.kept.mode) (rate_to_some n.control (parent_of n.control.kept.mode)) (children n.control) } in
            waits_sent w v (length w0.net) (k ∷ done) (IsSeen q) reply (step n (Delivered s)).sends net longer low
            (subst (λ (l : Message). IsAmong (record { from = n.control.me; to = l.from; body = bodies.LookIs (in_tree n.control.kept.mode) (parent_of n.control.kept.mode) (rate_to_some n.control (parent_of n.control.kept.mode)) (children n.control) }) (step n (Delivered l)).sends) (sym is) (inl refl))
            (me_of w s.to ∙ to, ap (λ (l : Message). l.from) is, tt)

        -- before the step that takes s
        before : (v : World) → v.net ≡ w.net ++ (step (node w s.to) (Delivered s)).sends → (q : ℕ) → Looks w (length w0.net) done q → Looks v (length w0.net) (k ∷ done) q ⊎ IsSeen q s
        before v net q looks = ⊎_elim
            (λ a. ⊎_elim (λ still. inl (inl still)) (λ is. inl (inr (seen q is v net))) (waits_on w v (length w0.net) done (IsLook q) (step (node w s.to) (Delivered s)).sends k s net found a))
            (λ a. ⊎_elim (λ still. inl (inr still)) (λ is. inr is) (waits_on w v (length w0.net) done (IsSeen q) (step (node w s.to) (Delivered s)).sends k s net found a))
            looks

        comes_up : is_up w s.to ≡ true → IsSpent (node (after_input w s.to (Delivered s)) x).control ⊎ WayOf (Looks (after_input w s.to (Delivered s)) (length w0.net) (k ∷ done)) (node (after_input w s.to (Delivered s)) x).control
        comes_up up = ⊎_elim
            (λ (e : s.to ≡ x).
            let here : process v x ≡ record { node = (step (node w x) (Delivered s)).node; up = true } = subst (λ (z : ℕ). process v z ≡ record { node = (step (node w z) (Delivered s)).node; up = true }) e turn.here in
            subst (λ (p : Process). IsSpent p.node.control ⊎ WayOf (Looks v (length w0.net) (k ∷ done)) p.node.control) (sym here)
            (sought w v (k ∷ done) (step (node w x) (Delivered s)).node.control (step (node w x) (Delivered s)).sends
            (subst (λ (z : ℕ). v.net ≡ w.net ++ (step (node w z) (Delivered s)).sends) e turn.net) longer low
            (step_receives x m h.chain ms none id.least within past Free (Looks v (length w0.net) (k ∷ done)) (node w x) (me_of w x) (chain_of w going.reached) way.0 s number (fair e)
            (way_by x m h.chain ms none id.least within past Free (Looks w (length w0.net) done) (λ q. Looks v (length w0.net) (k ∷ done) q ⊎ (TellsPosition s.body × (s.from ≡ q)))
            (λ q looks. ⊎_elim (λ a. inl a) (λ is. inr (is.2, is.0)) (before v turn.net q looks)) (node w x).control.kept.mode (node w x).control.soft.search (node w x).control.soft.tries way.1))))
            (λ apart. inr (subst (λ (p : Process). WayOf (Looks v (length w0.net) (k ∷ done)) p.node.control) (sym (turn.others x apart)) (
              way.0,
              way_by x m h.chain ms none id.least within past Free (Looks w (length w0.net) done) (Looks v (length w0.net) (k ∷ done))
                  (λ q looks. ⊎_elim (λ a. a) (λ is. absurd (apart is.1)) (before v turn.net q looks)) (node w x).control.kept.mode (node w x).control.soft.search (node w x).control.soft.tries way.1,
            )))
            (cases_eq s.to x) where
              v : World
              v = after_input w s.to (Delivered s)

              turn : Turned w s.to (step (node w s.to) (Delivered s)).node (step (node w s.to) (Delivered s)).sends (after_input w s.to (Delivered s))
              turn = takes w s.to (Delivered s) up

        -- no message that x waits for goes to a node that is down
        comes_none : is_dial s.body && not (is_up w s.to) ≡ false → is_up w s.to ≡ false → WayOf (Looks w (length w0.net) (k ∷ done)) (node w x).control
        comes_none whole off = (
          way.0,
          way_by x m h.chain ms none id.least within past Free (Looks w (length w0.net) done) (Looks w (length w0.net) (k ∷ done))
              (λ q looks. ⊎_elim
              (λ a. ⊎_elim (λ still. inl still)
              (λ is. let clash : true ≡ false = sym (ap (λ (b : Bool). b && not (is_up w s.to)) (ap (λ (l : Message). is_dial l.body) is) ∙ ap (λ (b : Bool). true && not b) off) ∙ whole in absurd cc)
              (waits_on w w (length w0.net) done (IsLook q) [] k s (sym (append-nil w.net)) found a))
              (λ a. ⊎_elim (λ still. inr still)
              (λ is. let clash : true ≡ false = sym (going.ups x ∙ up0) ∙ (ap (is_up w) (sym is.1) ∙ off) in absurd cc)
              (waits_on w w (length w0.net) done (IsSeen q) [] k s (sym (append-nil w.net)) found a))
              looks)
              (node w x).control.kept.mode (node w x).control.soft.search (node w x).control.soft.tries way.1,
        )

        fails_up : is_dial s.body ≡ true → is_up w s.to ≡ false → is_up w s.from ≡ true
            → IsSpent (node (after_input w s.from (Unreachable s.to)) x).control ⊎ WayOf (Looks (after_input w s.from (Unreachable s.to)) (length w0.net) (k ∷ done)) (node (after_input w s.from (Unreachable s.to)) x).control
        fails_up dials off up = ⊎_elim
            (λ (e : s.from ≡ x).
            let here : process v x ≡ record { node = (step (node w x) (Unreachable s.to)).node; up = true } = subst (λ (z : ℕ). process v z ≡ record { node = (step (node w z) (Unreachable s.to)).node; up = true }) e turn.here in
            subst (λ (p : Process). IsSpent p.node.control ⊎ WayOf (Looks v (length w0.net) (k ∷ done)) p.node.control) (sym here)
            (sought w v (k ∷ done) (step (node w x) (Unreachable s.to)).node.control (step (node w x) (Unreachable s.to)).sends
            (subst (λ (z : ℕ). v.net ≡ w.net ++ (step (node w z) (Unreachable s.to)).sends) e turn.net) longer low
            (step_fails x m h.chain ms none id.least within past Free (Looks v (length w0.net) (k ∷ done)) (node w x) (me_of w x) (chain_of w going.reached) way.0 s.to not_root
            (way_by x m h.chain ms none id.least within past Free (Looks w (length w0.net) done) (λ q. Looks v (length w0.net) (k ∷ done) q ⊎ (s.to ≡ q)) passing (node w x).control.kept.mode (node w x).control.soft.search (node w x).control.soft.tries way.1))))
            (λ apart. inr (subst (λ (p : Process). WayOf (Looks v (length w0.net) (k ∷ done)) p.node.control) (sym (turn.others x apart)) (
              way.0,
              way_by x m h.chain ms none id.least within past Free (Looks w (length w0.net) done) (Looks v (length w0.net) (k ∷ done))
                  (λ q looks. ⊎_elim
                  (λ a. ⊎_elim (λ still. inl still) (λ is. absurd (apart (ap (λ (l : Message). l.from) is))) (waits_on w v (length w0.net) done (IsLook q) (step (node w s.from) (Unreachable s.to)).sends k s turn.net found a))
                  (λ a. ⊎_elim (λ still. inr still) (λ is. absurd (true≢false (sym dials ∙ position_replies s.body is.2))) (waits_on w v (length w0.net) done (IsSeen q) (step (node w s.from) (Unreachable s.to)).sends k s turn.net found a))
                  looks)
                  (node w x).control.kept.mode (node w x).control.soft.search (node w x).control.soft.tries way.1,
            )))
            (cases_eq s.from x) where
              v : World
              v = after_input w s.from (Unreachable s.to)

              turn : Turned w s.from (step (node w s.from) (Unreachable s.to)).node (step (node w s.from) (Unreachable s.to)).sends (after_input w s.from (Unreachable s.to))
              turn = takes w s.from (Unreachable s.to) up

              not_root : s.to ≡ m → ⊥
              not_root e = true≢false (sym (going.ups m ∙ top0.up) ∙ (ap (is_up w) (sym e) ∙ off))

              passing : (q : ℕ) → Looks w (length w0.net) done q → Looks (after_input w s.from (Unreachable s.to)) (length w0.net) (k ∷ done) q ⊎ (s.to ≡ q)
              passing q looks = ⊎_elim
                  (λ a. ⊎_elim (λ still. inl (inl still)) (λ is. inr (ap (λ (l : Message). l.to) is))
                  (waits_on w (after_input w s.from (Unreachable s.to)) (length w0.net) done (IsLook q) (step (node w s.from) (Unreachable s.to)).sends k s turn.net found a))
                  (λ a. ⊎_elim (λ still. inl (inr still)) (λ is. absurd (true≢false (sym dials ∙ position_replies s.body is.2)))
                  (waits_on w (after_input w s.from (Unreachable s.to)) (length w0.net) done (IsSeen q) (step (node w s.from) (Unreachable s.to)).sends k s turn.net found a))
                  looks

    -- One message

    module _ (w : World) (done : List ℕ) (a : Arriving w done) (k : ℕ) (s : Message) (past_old : length w0.net < k) (low_k : k ≤ length w.net) (found : message_at w.net k ≡ Some s) where
      low : (j : ℕ) → IsOneOf j (k ∷ done) → j ≤ length w.net
      low j one = ⊎_elim (λ (e : j ≡ k). omega (arith, e, low_k)) (λ later. a.sent j later) one

      abbrev State : World → Type 0
      State v = IsSpent (node v x).control ⊎ (Going v × WayOf (Looks v (length w0.net) (k ∷ done)) (node v x).control)

      -- a step that was taken
      moves : (z : ℕ) (i : Input) → is_up w z ≡ true → Reached h (after_input w z i) → State (after_input w z i) → Arriving (after_input w z i) (k ∷ done)
      moves z i up reached state =
          let turn = takes w z i up in
          let more : length (after_input w z i).net ≡ length w.net + length (step (node w z) i).sends = ap length turn.net ∙ length-append w.net (step (node w z) i).sends in
          record {
            reached = reached;
            ups = λ y. acted_ups w z i y ∙ a.ups y;
            longer = omega (arith, a.longer, more);
            sent = λ j one. let small : j ≤ length w.net = low j one in omega (arith, small, more);
            state = state;
          }

      rests : (z : ℕ) (i : Input) → is_up w z ≡ false → State w → Arriving (after_input w z i) (k ∷ done)
      rests z i off state = subst (λ (v : World). Arriving v (k ∷ done)) (sym (takes_none w z i off)) record { reached = a.reached; ups = a.ups; longer = a.longer; sent = low; state = state }

      -- nothing is left to x
      spent_arrives : IsSpent (node w x).control → Arriving (arrived w k) (k ∷ done)
      spent_arrives spent = ⊎_elim
          (λ fails. subst (λ (v : World). Arriving v (k ∷ done)) (sym (arrived_fails w k s found fails)) (⊎_elim
          (λ up. moves s.from (Unreachable s.to) up (subst (Reached h) (arrived_fails w k s found fails) (reached_arrived h w k a.reached)) (inl (spent_on w s.from (Unreachable s.to) a.reached up spent)))
          (λ off. rests s.from (Unreachable s.to) off (inl spent))
          (cases_Bool (is_up w s.from))))
          (λ comes. subst (λ (v : World). Arriving v (k ∷ done)) (sym (arrived_comes w k s found comes)) (⊎_elim
          (λ up. moves s.to (Delivered s) up (subst (Reached h) (arrived_comes w k s found comes) (reached_arrived h w k a.reached)) (inl (spent_on w s.to (Delivered s) a.reached up spent)))
          (λ off. rests s.to (Delivered s) off (inl spent))
          (cases_Bool (is_up w s.to))))
          (cases_Bool (is_dial s.body && not (is_up w s.to)))

      module _ (going : Going w) (way : WayOf (Looks w (length w0.net) done) (node w x).control) (room : epoch_in (own_rank w x) < number_end) where
        of_later : (P : Message → Type 0) → AllByRecursion P going.later → P s
        of_later P all = at_after P w0.net going.later k s past_old (subst (λ (net : List Message). message_at net k ≡ Some s) going.net found) all

        sender : is_up w0 s.from ≡ true
        sender = of_later (λ l. is_up w0 l.from ≡ true) going.from

        gentle : s.from ≡ m → IsMild s.body
        gentle = of_later (λ l. l.from ≡ m → IsMild l.body) going.mild

        fair : s.to ≡ x → IsFair m Free s.from s.body
        fair = of_later (λ l. l.to ≡ x → IsFair m Free l.from l.body) going.fair

        told : s.from ≡ x → IsWithin (epoch_in (own_rank w x)) s.body
        told = of_later (λ l. l.from ≡ x → IsWithin (epoch_in (own_rank w x)) l.body) going.told

        with_going : (v : World) → Going v → IsSpent (node v x).control ⊎ WayOf (Looks v (length w0.net) (k ∷ done)) (node v x).control → State v
        with_going v next seeks = ⊎_elim (λ spent. inl spent) (λ goes. inr (next, goes)) seeks

        going_arrives : Arriving (arrived w k) (k ∷ done)
        going_arrives = ⊎_elim
            (λ fails. subst (λ (v : World). Arriving v (k ∷ done)) (sym (arrived_fails w k s found fails)) (by_failure fails))
            (λ comes. subst (λ (v : World). Arriving v (k ∷ done)) (sym (arrived_comes w k s found comes)) (by_message comes))
            (cases_Bool (is_dial s.body && not (is_up w s.to))) where
              by_failure : is_dial s.body && not (is_up w s.to) ≡ true → Arriving (after_input w s.from (Unreachable s.to)) (k ∷ done)
              by_failure fails =
                  let both = and_parts (is_dial s.body) (not (is_up w s.to)) fails in
                  let up : is_up w s.from ≡ true = going.ups s.from ∙ sender in
                  let reached : Reached h (after_input w s.from (Unreachable s.to)) = subst (Reached h) (arrived_fails w k s found fails) (reached_arrived h w k a.reached) in
                  moves s.from (Unreachable s.to) up reached
                  (with_going (after_input w s.from (Unreachable s.to))
                  (going_on w s.from (Unreachable s.to) going up reached (root_fails w k s found going room sender gentle fair told))
                  (fails_up w k s found going room sender gentle fair told done a.longer low way both.0 (not-true (is_up w s.to) both.1) up))

              by_message : is_dial s.body && not (is_up w s.to) ≡ false → Arriving (after_input w s.to (Delivered s)) (k ∷ done)
              by_message comes = ⊎_elim
                  (λ up.
                  let reached : Reached h (after_input w s.to (Delivered s)) = subst (Reached h) (arrived_comes w k s found comes) (reached_arrived h w k a.reached) in
                  moves s.to (Delivered s) up reached
                  (with_going (after_input w s.to (Delivered s))
                  (going_on w s.to (Delivered s) going up reached (root_receives w k s found going room sender gentle fair told))
                  (comes_up w k s found going room sender gentle fair told done a.longer low way up)))
                  (λ off. rests s.to (Delivered s) off (inr (going, comes_none w k s found going room sender gentle fair told done a.longer low way comes off)))
                  (cases_Bool (is_up w s.to))

      arrives : Arriving (arrived w k) (k ∷ done)
      arrives = ⊎_elim spent_arrives
          (λ both. ⊎_elim
          (λ last. spent_arrives (inr (omega (arith, last))))
          (λ rest. ⊎_elim (λ room. going_arrives both.0 both.1 room) (λ more. spent_arrives (inr (omega (arith, more)))) rest)
          (cases_order (epoch_in (own_rank w x)) number_end))
          a.state

    record Arrived (ks done : List ℕ) (v : World) : Type 0 where
      all : List ℕ
      arriving : Arriving v all
      before : (k : ℕ) → IsOneOf k done → IsOneOf k all
      each : (k : ℕ) → IsOneOf k ks → IsOneOf k all

    all_arrive : (ks : List ℕ) (w : World) (done : List ℕ) → Arriving w done → are_sent (length w0.net) w ks ≡ true → Arrived ks done (after_arrivals w ks)
    all_arrive [] w done a sent = record { all = done; arriving = a; before = λ k one. one; each = λ k one. absurd one }
    all_arrive (k ∷ ks) w done a sent =
        let outer = and_parts (nat_lt (length w0.net) k && nat_le k (length w.net)) (are_sent (length w0.net) (arrived w k) ks) sent in
        let inner = and_parts (nat_lt (length w0.net) k) (nat_le k (length w.net)) outer.0 in
        let past_old : length w0.net < k = ltb-true (length w0.net) k inner.0 in
        let low : k ≤ length w.net = leb-true k (length w.net) inner.1 in
        let found = at_some w.net k (omega (arith, past_old)) low in
        let next : Arriving (arrived w k) (k ∷ done) = arrives w done a k found.0 past_old low found.1 in
        let rest : Arrived ks (k ∷ done) (after_arrivals (arrived w k) ks) = all_arrive ks (arrived w k) (k ∷ done) next outer.1 in
        record {
          all = rest.all;
          arriving = rest.arriving;
          before = λ j one. rest.before j (inr one);
          each = λ j one. ⊎_elim (λ (e : j ≡ k). rest.before j (inl e)) (λ later. rest.each j later) one;
        }

    -- The whole round

    -- x has a place, or asks for one, or nothing was asked of its search
    abbrev pub HasFound : Control → Type 0
    HasFound n = (n.kept.measures ≡ ms) × (((p : ℕ) × (n.kept.mode ≡ modes.Joined p)) ⊎ (((p : ℕ) × (n.kept.mode ≡ modes.Asking p)) ⊎ (Free × (n.kept.mode ≡ modes.Idle) × IsCalm n.soft.search)))

    pub round_finds : (r : Round) → is_round (length w0.net) w0 r ≡ true → Begins (node w0 x).control → Free ⊎ AreForgotten (node w0 m).control
        → IsSpent (node (after_round w0 r) x).control ⊎ HasFound (node (after_round w0 r) x).control
    round_finds r is begins forgotten =
        let xs : List ℕ = map (λ (t : Turn). t.node) r.turns in
        let u : World = after_turns w0 r.turns in
        let v : World = after_arrivals u r.arrivals in
        let timely : Bool = list_all (λ (t : Turn). is_timely (node w0 t.node).control t.time) r.turns in
        let sent : Bool = are_sent (length w0.net) u r.arrivals in
        let whole : Bool = list_all (has r.arrivals) (new_messages w0 v) in
        let p3 = and_parts (are_the_up w0 xs && timely && sent) whole is in
        let p2 = and_parts (are_the_up w0 xs && timely) sent p3.0 in
        let p1 = and_parts (are_the_up w0 xs) timely p2.0 in
        let q2 = and_parts (list_all (is_up w0) xs && list_all (has xs) (up_ids w0)) (is_distinct xs) p1.0 in
        let q1 = and_parts (list_all (is_up w0) xs) (list_all (has xs) (up_ids w0)) q2.0 in
        let first : Going w0 = record {
          reached = top0.reached;
          ups = λ y. refl;
          later = [];
          net = sym (append-nil w0.net);
          from = tt;
          mild = tt;
          fair = tt;
          told = tt;
          acts = (clock_of w0 m, ((node w0 m).control.soft.due, (me_of w0 m, acting, refl, refl, refl)));
          forgot = forgotten;
        } in
        let ticks : Ticking begins forgotten u [] = all_turn begins forgotten r.turns w0
        (record { going = first; longer = omega arith; same = λ y one. refl; seeks = inl (has_one xs x (all_test (has xs) (up_ids w0) q1.1 x (among_up w0 x up0))) }) q2.1 q1.0 p1.1 in
        let seeks : Seeks u [] = ⊎_elim (λ one. absurd one) (λ sought_now. sought_now) ticks.seeks in
        let start : Arriving u [] = record {
          reached = ticks.going.reached;
          ups = ticks.going.ups;
          longer = ticks.longer;
          sent = λ k one. absurd one;
          state = ⊎_elim (λ spent. inl spent) (λ way. inr (ticks.going, way)) seeks;
        } in
        let done : Arrived r.arrivals [] v = all_arrive r.arrivals u [] start p2.1 in
        ends v done (λ k past_old low. has_one r.arrivals k (all_test (has r.arrivals) (new_messages w0 v) p3.1 k (in_numbers (length w0.net + 1) (length v.net - length w0.net) k (omega (arith, past_old)) (omega (arith, past_old, low))))) where
          ends : (v : World) → Arrived r.arrivals [] v → ((k : ℕ) → length w0.net < k → k ≤ length v.net → IsOneOf k r.arrivals) → IsSpent (node v x).control ⊎ HasFound (node v x).control
          ends v done each = ⊎_elim (λ spent. inl spent)
              (λ both. inr (both.1.0, by_way (node v x).control.kept.mode (node v x).control.soft.search refl refl both.1.1)) done.arriving.state where
                -- nothing waits
                none_waits : (P : Message → Type 0) → Waits v (length w0.net) done.all P → ⊥
                none_waits P a = a.still (done.each a.number (each a.number a.new a.sent))

                by_way : (k : Mode) (search : Option Search) → (node v x).control.kept.mode ≡ k → (node v x).control.soft.search ≡ search
                    → Way x m h.chain ms none id.least within past Free (Looks v (length w0.net) done.all) k search (node v x).control.soft.tries
                    → ((p : ℕ) × ((node v x).control.kept.mode ≡ modes.Joined p))
                    ⊎ (((p : ℕ) × ((node v x).control.kept.mode ≡ modes.Asking p)) ⊎ (Free × ((node v x).control.kept.mode ≡ modes.Idle) × IsCalm (node v x).control.soft.search))
                by_way modes.Idle (Some (searches.Descend p)) ek es way = absurd (⊎_elim (none_waits (IsLook p)) (none_waits (IsSeen p)) way.1)
                by_way modes.Idle (Some searches.Review) ek es way = inr (inr (way, ek, subst IsCalm (sym es) tt))
                by_way modes.Idle None ek es way = inr (inr (way, ek, subst IsCalm (sym es) tt))
                by_way (modes.Asking p) search ek es way = inr (inl (p, ek))
                by_way (modes.Joined p) search ek es way = inl (p, ek)
                by_way modes.Acting search ek es way = absurd way
