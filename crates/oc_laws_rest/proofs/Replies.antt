-- What a node waits for in a round, it gets: an answer to its ask, and to its check-in an acknowledgement or a call to ask anew.
use Rattle.std.proofs.Common.{◌≡◌, ℕ, ◌+◌, ◌-◌, ◌≤◌, ◌<◌, Bool, true, false, not, ◌&&◌, ◌==◌, nat_le, nat_lt, Option, Some, unwrap_or, List, [], ◌∷◌, ◌++◌, ◌⊎◌, inl, inr, length, map, refl, ap, sym, subst, ◌∙◌, ⊎_elim, arith, length-append, append-nil}
use Rattle.std.specs.List.{list_all}
use Rattle.std.proofs.lemmas.Bool.{cases_eq, cases_Bool, and_parts, leb-true, ltb-true, not-true}
use Rattle.oc_base.specs.declared.cert.Cert.{Cert}
use Rattle.oc_base.specs.declared.rank.Rank.{Rank}
use Rattle.oc_model.specs.declared.event.Act.TheVariants.{At, Deliver}
use Rattle.oc_model.specs.declared.input.Input.{Input}
use Rattle.oc_model.specs.declared.input.Input.TheVariants.{Tick, Unreachable, Delivered}
use Rattle.oc_model.specs.declared.message.Body.{Body}
use Rattle.oc_model.specs.declared.message.Body.TheVariants as bodies
use Rattle.oc_model.specs.declared.message.Message.{Message}
use Rattle.oc_model.specs.declared.mode.Mode.{Mode}
use Rattle.oc_model.specs.declared.mode.Mode.TheVariants as modes
use Rattle.oc_model.specs.ClaimsTree.{seq_of}
use Rattle.oc_model.specs.Node.{Node}
use Rattle.oc_model.specs.Numbers.{IsAmong, has}
use Rattle.oc_model.specs.Step.{step}
use Rattle.oc_model.specs.World.{World, Process, process, node, is_up, mode_of, up_ids, message_at, delivery, acted, after_act}
use Rattle.oc_model.specs.WorldBounds.{IsOneOf}
use Rattle.oc_model.proofs.Able.{among_up}
use Rattle.oc_model.proofs.Members.{all_test}
use Rattle.oc_laws_world.specs.Ranks.{own_rank}
use Rattle.oc_laws_world.proofs.Lifts.{HasSent, IsTrueArrival, arrival_came}
use Rattle.oc_laws_world.proofs.Walks.{HasCome}
use Rattle.oc_laws_rest.specs.Rounds.{Turn, Round, after_turns, is_dial, arrived, after_arrivals, after_round, is_distinct, are_the_up, is_timely, are_sent, new_messages, is_round}
use Rattle.oc_laws_rest.proofs.Answered.{Replies, step_replies}
use Rattle.oc_laws_rest.proofs.Forms.{in_numbers}
use Rattle.oc_laws_rest.proofs.Links.{me_of, takes, takes_none, acted_ups, arrived_fails, arrived_comes, waits_sent}
use Rattle.oc_laws_rest.proofs.Moves.{Turned, Waits, AreSent, waits_on, waits_more, at_some}
use Rattle.oc_laws_rest.proofs.Said.{Answers, IsRejoin, Has, Had, HadNone, HasReported, step_ticks, step_fails, step_receives}
use Rattle.oc_laws_rest.proofs.Ticks.{has_one, has_none, due_then}

-- Messages between x and a node p that it asks by the number s, or is joined to by it

module _ (x p s : ℕ) where
  -- the ask
  abbrev pub IsAsk : Option Rank → Message → Type 0
  IsAsk r m = m ≡ record { from = x; to = p; body = bodies.Ask s r }

  -- an answer that x takes
  abbrev pub IsAnswer : Option Rank → Message → Type 0
  IsAnswer r m = (m.from ≡ p) × (m.to ≡ x) × Answers m.body s r

  -- a check-in
  abbrev pub IsReport : Message → Type 0
  IsReport m = (upto rate number clients : ℕ) × (certs : List Cert) × (m ≡ record { from = x; to = p; body = bodies.CheckIn s upto rate number clients certs })

  -- a call to ask anew
  abbrev pub IsRecall : Message → Type 0
  IsRecall m = (m.from ≡ p) × (m.to ≡ x) × IsRejoin m.body s

-- answers are no dials
no_answer : (b : Body) (s : ℕ) (r : Option Rank) → is_dial b ≡ true → Answers b s r → ⊥
no_answer bodies.Look s r e is = is
no_answer (bodies.LookIs is_in parent rate children) s r e is = is
no_answer (bodies.Ask seq rank) s r e is = is
no_answer (bodies.Yes seq rank ancestors) s r e is = absurd cc
no_answer (bodies.No seq why) s r e is = absurd cc
no_answer (bodies.CheckIn seq upto rate number clients certs) s r e is = is
no_answer (bodies.CheckAck seq upto rank ancestors) s r e is = is
no_answer (bodies.Rejoin seq) s r e is = absurd cc
no_answer (bodies.Fetch have) s r e is = is
no_answer (bodies.Chunk g start bytes last) s r e is = is

no_recall : (b : Body) (s : ℕ) → is_dial b ≡ true → IsRejoin b s → ⊥
no_recall bodies.Look s e is = is
no_recall (bodies.LookIs is_in parent rate children) s e is = is
no_recall (bodies.Ask seq rank) s e is = is
no_recall (bodies.Yes seq rank ancestors) s e is = is
no_recall (bodies.No seq why) s e is = is
no_recall (bodies.CheckIn seq upto rate number clients certs) s e is = is
no_recall (bodies.CheckAck seq upto rank ancestors) s e is = is
no_recall (bodies.Rejoin seq) s e is = absurd cc
no_recall (bodies.Fetch have) s e is = is
no_recall (bodies.Chunk g start bytes last) s e is = is

-- What x waits for; L w p x s says that p keeps the place of its child x

module _ (L : World → ℕ → ℕ → ℕ → Type 0) (w : World) (old : ℕ) (done : List ℕ) (x : ℕ) where
  abbrev pub Awaits : ℕ → ℕ → Option Rank → Type 0
  Awaits p s r = Waits w old done (IsAsk x p s r) ⊎ Waits w old done (IsAnswer x p s r)

  abbrev pub IsKeptOr : ℕ → ℕ → Type 0
  IsKeptOr p s = L w p x s ⊎ (Waits w old done (IsReport x p s) ⊎ Waits w old done (IsRecall x p s))

  abbrev pub Stands : Mode → ℕ → Option Rank → Type 0
  Stands (modes.Asking p) s r = Awaits p s r
  Stands (modes.Joined p) s r = IsKeptOr p s
  Stands modes.Idle s r = Unit {0}
  Stands modes.Acting s r = Unit {0}

abbrev pub IsStanding : (World → ℕ → ℕ → ℕ → Type 0) → World → ℕ → List ℕ → ℕ → Type 0
IsStanding L w old done x = Stands L w old done x (mode_of w x) (seq_of w x) (own_rank w x)

-- after a step of x
has_stands : (L : World → ℕ → ℕ → ℕ → Type 0) (w v : World) (old : ℕ) (done : List ℕ) (x : ℕ) (ms : List Message) → v.net ≡ w.net ++ ms → old ≤ length w.net → ((k : ℕ) → IsOneOf k done → k ≤ length w.net)
    → (m : Mode) (s : ℕ) (r : Option Rank) → Has x (Awaits L v old done x) (IsKeptOr L v old done x) m s r ms → Stands L v old done x m s r
has_stands L w v old done x ms net before sent (modes.Asking p) s r h = ⊎_elim (λ a. a)
    (λ one. inl (waits_sent w v old done (IsAsk x p s r) (record { from = x; to = p; body = bodies.Ask s r }) ms net before sent one refl)) h
has_stands L w v old done x ms net before sent (modes.Joined p) s r h = ⊎_elim (λ a. a)
    (λ (has : HasReported ms x p s).
    let m : Message = record { from = x; to = p; body = bodies.CheckIn s has.0 has.1 has.2 has.3 has.4 } in
    inr (inl (waits_sent w v old done (IsReport x p s) m ms net before sent has.5 (has.0, has.1, has.2, has.3, has.4, refl)))) h
has_stands L w v old done x ms net before sent modes.Idle s r h = tt
has_stands L w v old done x ms net before sent modes.Acting s r h = tt

-- no place is kept
abbrev NotKept : World → ℕ → ℕ → ℕ → Type 0
NotKept w p x s = ⊥

none_stands : (L : World → ℕ → ℕ → ℕ → Type 0) (w : World) (old : ℕ) (done : List ℕ) (x : ℕ) (m : Mode) (s : ℕ) (r : Option Rank) → Stands NotKept w old done x m s r → Stands L w old done x m s r
none_stands L w old done x (modes.Asking p) s r h = h
none_stands L w old done x (modes.Joined p) s r h = ⊎_elim (λ none. absurd none) (λ waits. inr waits) h
none_stands L w old done x modes.Idle s r h = tt
none_stands L w old done x modes.Acting s r h = tt

stands_more : (w v : World) (old : ℕ) (x : ℕ) (ms : List Message) → v.net ≡ w.net ++ ms → (m : Mode) (s : ℕ) (r : Option Rank) → Stands NotKept w old [] x m s r → Stands NotKept v old [] x m s r
stands_more w v old x ms net (modes.Asking p) s r h =
    ⊎_elim (λ a. inl (waits_more w v old [] (IsAsk x p s r) ms net a)) (λ a. inr (waits_more w v old [] (IsAnswer x p s r) ms net a)) h
stands_more w v old x ms net (modes.Joined p) s r h = ⊎_elim (λ none. absurd none)
    (λ waits. inr (⊎_elim (λ a. inl (waits_more w v old [] (IsReport x p s) ms net a)) (λ a. inr (waits_more w v old [] (IsRecall x p s) ms net a)) waits)) h
stands_more w v old x ms net modes.Idle s r h = tt
stands_more w v old x ms net modes.Acting s r h = tt

-- by the process of a node
abbrev StandsAs : (World → ℕ → ℕ → ℕ → Type 0) → World → ℕ → List ℕ → ℕ → Process → Type 0
StandsAs L w old done x p = Stands L w old done x p.node.control.kept.mode p.node.control.kept.seq p.node.control.kept.rank

-- an input that a message brings to this node
abbrev pub IsBrought : ℕ → Input → Type 0
IsBrought z (Delivered m) = m.to ≡ z
IsBrought z (Unreachable p) = Unit {0}
IsBrought z i = ⊥

abbrev pub after_input : World → ℕ → Input → World
after_input w z i = acted w (Some (record { at = z; input = i }))

-- what is known of the worlds of a round, in which messages past the first `least` arrive, and of the places that parents keep
pub record AreKept (Good : World → Type 0) (L : World → ℕ → ℕ → ℕ → Type 0) (least : ℕ) : Type 0 where
  pub goes : (w : World) (z : ℕ) (i : Input) → Good w → is_up w z ≡ true → HasCome (HasSent w z) i → IsBrought z i → Good (after_input w z i)
  pub some : (w : World) (x p : ℕ) → Good w → mode_of w x ≡ modes.Asking p → (seq_of w x == 0) ≡ false
  pub keeps : (w : World) (z : ℕ) (i : Input) → Good w → is_up w z ≡ true → HasCome (HasSent w z) i → IsBrought z i → (p x : ℕ) → L w p x (seq_of w x) → L (after_input w z i) p x (seq_of w x)
  pub yes : (w : World) (k : ℕ) (m : Message) → Good w → least < k → message_at w.net k ≡ Some m → (seq : ℕ) (r : Rank) (xs : List ℕ) → m.body ≡ bodies.Yes seq r xs → mode_of w m.to ≡ modes.Asking m.from
      → seq ≡ seq_of w m.to → L w m.from m.to (seq_of w m.to)
  pub acks : (w : World) (m : Message) (x p : ℕ) → Good w → is_up w m.to ≡ true → is_up w x ≡ true → IsAmong m w.net → IsReport x p (seq_of w x) m
      → L (after_input w m.to (Delivered m)) p x (seq_of w x) ⊎ IsAmong (record { from = p; to = x; body = bodies.Rejoin (seq_of w x) }) (step (node w m.to) (Delivered m)).sends

module _ (w0 : World) where
  -- Ticks

  record Ticking (w : World) (still : List ℕ) : Type 0 where
    ups : (y : ℕ) → is_up w y ≡ is_up w0 y
    same : (y : ℕ) → IsOneOf y still → process w y ≡ process w0 y
    stands : (y : ℕ) → is_up w0 y ≡ true → IsOneOf y still ⊎ IsStanding NotKept w (length w0.net) [] y
    longer : length w0.net ≤ length w.net

  one_turns : (w : World) (x : ℕ) (xs : List ℕ) (c : ℕ) → Ticking w (x ∷ xs) → (IsOneOf x xs → ⊥) → is_up w0 x ≡ true → is_timely (node w0 x).control c ≡ true → Ticking (after_act w (At x (Tick c))) xs
  one_turns w x xs c going out up timely = record {
    ups = λ y. acted_ups w x (Tick c) y ∙ going.ups y;
    same = λ y one. turn.others y (λ e. out (subst (λ (z : ℕ). IsOneOf z xs) (sym e) one)) ∙ going.same y (inr one);
    stands = λ y up_y. ⊎_elim
        (λ (e : x ≡ y). inr (subst (λ (z : ℕ). IsStanding NotKept v (length w0.net) [] z) e own))
        (λ apart. ⊎_elim
        (λ one. ⊎_elim (λ (e : y ≡ x). absurd (apart (sym e))) (λ later. inl later) one)
        (λ stands. inr (subst (StandsAs NotKept v (length w0.net) [] y) (sym (turn.others y apart))
        (stands_more w v (length w0.net) y o_sends turn.net (mode_of w y) (seq_of w y) (own_rank w y) stands)))
        (going.stands y up_y))
        (cases_eq x y);
    longer = omega (arith, going.longer, ap length turn.net, length-append w.net o_sends);
  } where
    v : World
    v = after_act w (At x (Tick c))

    o_sends : List Message
    o_sends = (step (node w x) (Tick c)).sends

    turn : Turned w x (step (node w x) (Tick c)).node (step (node w x) (Tick c)).sends (after_act w (At x (Tick c)))
    turn = takes w x (Tick c) (going.ups x ∙ up)

    due : nat_le (unwrap_or (node w x).control.soft.due (node w x).control.soft.clock) c ≡ true
    due = (and_parts (nat_le (unwrap_or (node w x).control.soft.due (node w x).control.soft.clock) c) (nat_le c ((node w x).control.soft.clock + 29))
        (ap (λ (p : Process). is_timely p.node.control c) (going.same x (inl refl)) ∙ timely)).0

    own : IsStanding NotKept (after_act w (At x (Tick c))) (length w0.net) [] x
    own =
        let n : Node = (step (node w x) (Tick c)).node in
        subst (StandsAs NotKept (after_act w (At x (Tick c))) (length w0.net) [] x) (sym turn.here)
        (has_stands NotKept w (after_act w (At x (Tick c))) (length w0.net) [] x (step (node w x) (Tick c)).sends turn.net going.longer (λ k one. absurd one) n.control.kept.mode n.control.kept.seq n.control.kept.rank
        (step_ticks x (Awaits NotKept (after_act w (At x (Tick c))) (length w0.net) [] x) (IsKeptOr NotKept (after_act w (At x (Tick c))) (length w0.net) [] x) (node w x) c (me_of w x)
        (due_then (node w x).control.soft.due (node w x).control.soft.clock c due)))

  all_turn : (ts : List Turn) (w : World) → Ticking w (map (λ t. t.node) ts) → is_distinct (map (λ t. t.node) ts) ≡ true → list_all (is_up w0) (map (λ t. t.node) ts) ≡ true
      → list_all (λ t. is_timely (node w0 t.node).control t.time) ts ≡ true → Ticking (after_turns w ts) []
  all_turn [] w going distinct ups timely = going
  all_turn (t ∷ ts) w going distinct ups timely =
      let xs : List ℕ = map (λ (u : Turn). u.node) ts in
      let apart = and_parts (not (has xs t.node)) (is_distinct xs) distinct in
      let out : IsOneOf t.node xs → ⊥ = has_none xs t.node (not-true (has xs t.node) apart.0) in
      let lives = and_parts (is_up w0 t.node) (list_all (is_up w0) xs) ups in
      let times = and_parts (is_timely (node w0 t.node).control t.time) (list_all (λ (u : Turn). is_timely (node w0 u.node).control u.time) ts) timely in
      all_turn ts (after_act w (At t.node (Tick t.time))) (one_turns w t.node xs t.time going out lives.0 times.0) apart.1 lives.1 times.1

  begin : (xs : List ℕ) → list_all (has xs) (up_ids w0) ≡ true → Ticking w0 xs
  begin xs all = record {
    ups = λ y. refl;
    same = λ y one. refl;
    stands = λ y up. inl (has_one xs y (all_test (has xs) (up_ids w0) all y (among_up w0 y up)));
    longer = omega arith;
  }

  -- Messages

  module _ (Good : World → Type 0) (L : World → ℕ → ℕ → ℕ → Type 0) (least : ℕ) (kept : AreKept Good L least) where
    record Arriving (w : World) (done : List ℕ) : Type 0 where
      good : Good w
      ups : (y : ℕ) → is_up w y ≡ is_up w0 y
      stands : (y : ℕ) → is_up w0 y ≡ true → IsStanding L w (length w0.net) done y
      longer : length w0.net ≤ length w.net
      sent : AreSent w done

    module _ (w : World) (done : List ℕ) (a : Arriving w done) (k : ℕ) (past : least < k) (low : k ≤ length w.net) (s : Message) (found : message_at w.net k ≡ Some s) where
      abbrev old : ℕ
      old = length w0.net

      sent_by_now : (j : ℕ) → IsOneOf j (k ∷ done) → j ≤ length w.net
      sent_by_now j one = ⊎_elim (λ (e : j ≡ k). subst (λ (i : ℕ). i ≤ length w.net) (sym e) low) (a.sent j) one

      -- y waits on, or this message is what it waited for
      Now : World → ℕ → Mode → ℕ → Option Rank → Type 0
      Now v y (modes.Asking p) q r = Awaits L v (length w0.net) (k ∷ done) y p q r ⊎ (IsAsk y p q r s ⊎ IsAnswer y p q r s)
      Now v y (modes.Joined p) q r = IsKeptOr L v (length w0.net) (k ∷ done) y p q ⊎ (IsReport y p q s ⊎ IsRecall y p q s)
      Now v y modes.Idle q r = Unit {0}
      Now v y modes.Acting q r = Unit {0}

      now : (v : World) (ms : List Message) → v.net ≡ w.net ++ ms → (y : ℕ) (m : Mode) (q : ℕ) (r : Option Rank) → ((p : ℕ) → L w p y q → L v p y q) → Stands L w (length w0.net) done y m q r → Now v y m q r
      unfolding Now
      now v ms net y (modes.Asking p) q r keeps h = ⊎_elim
          (λ ask. ⊎_elim (λ b. inl (inl b)) (λ is. inr (inl is)) (waits_on w v (length w0.net) done (IsAsk y p q r) ms k s net found ask))
          (λ answer. ⊎_elim (λ b. inl (inr b)) (λ is. inr (inr is)) (waits_on w v (length w0.net) done (IsAnswer y p q r) ms k s net found answer))
          h
      now v ms net y (modes.Joined p) q r keeps h = ⊎_elim
          (λ l. inl (inl (keeps p l)))
          (λ waits. ⊎_elim
          (λ report. ⊎_elim (λ b. inl (inr (inl b))) (λ is. inr (inl is)) (waits_on w v (length w0.net) done (IsReport y p q) ms k s net found report))
          (λ recall. ⊎_elim (λ b. inl (inr (inr b))) (λ is. inr (inr is)) (waits_on w v (length w0.net) done (IsRecall y p q) ms k s net found recall))
          waits)
          h
      now v ms net y modes.Idle q r keeps h = tt
      now v ms net y modes.Acting q r keeps h = tt

      now_at : (v : World) (ms : List Message) → v.net ≡ w.net ++ ms → (y : ℕ) → is_up w0 y ≡ true → ((p : ℕ) → L w p y (seq_of w y) → L v p y (seq_of w y)) → Now v y (mode_of w y) (seq_of w y) (own_rank w y)
      now_at v ms net y up keeps = now v ms net y (mode_of w y) (seq_of w y) (own_rank w y) keeps (a.stands y up)

      -- it changes z
      moves : (z : ℕ) (i : Input) → is_up w z ≡ true → HasCome (HasSent w z) i → IsBrought z i → IsStanding L (after_input w z i) (length w0.net) (k ∷ done) z
          → ((y : ℕ) → is_up w0 y ≡ true → (z ≡ y → ⊥) → Stands L (after_input w z i) (length w0.net) (k ∷ done) y (mode_of w y) (seq_of w y) (own_rank w y)) → Arriving (after_input w z i) (k ∷ done)
      moves z i up came brought own others =
          let turn = takes w z i up in
          record {
            good = kept.goes w z i a.good up came brought;
            ups = λ y. acted_ups w z i y ∙ a.ups y;
            stands = λ y up_y. ⊎_elim
                (λ (e : z ≡ y). subst (λ (x : ℕ). IsStanding L (after_input w z i) (length w0.net) (k ∷ done) x) e own)
                (λ apart. subst (StandsAs L (after_input w z i) (length w0.net) (k ∷ done) y) (sym (turn.others y apart)) (others y up_y apart))
                (cases_eq z y);
            longer = omega (arith, a.longer, ap length turn.net, length-append w.net (step (node w z) i).sends);
            sent = λ j one. let before : j ≤ length w.net = sent_by_now j one in omega (arith, before, ap length turn.net, length-append w.net (step (node w z) i).sends);
          }

      -- it changes nothing
      rests : (z : ℕ) (i : Input) → is_up w z ≡ false → ((y : ℕ) → is_up w0 y ≡ true → Now w y (mode_of w y) (seq_of w y) (own_rank w y) → IsStanding L w (length w0.net) (k ∷ done) y) → Arriving (after_input w z i) (k ∷ done)
      rests z i off all = subst (λ (v : World). Arriving v (k ∷ done)) (sym (takes_none w z i off)) record {
        good = a.good;
        ups = a.ups;
        stands = λ y up. all y up (now_at w [] (sym (append-nil w.net)) y up (λ p l. l));
        longer = a.longer;
        sent = sent_by_now;
      }

      among : IsAmong s w.net
      among = subst (λ o. IsTrueArrival w (delivery o)) found (arrival_came w (Deliver k))

      -- The message comes

      module _ (up : is_up w s.to ≡ true) where
        abbrev then : World
        then = after_input w s.to (Delivered s)

        abbrev sends : List Message
        sends = (step (node w s.to) (Delivered s)).sends

        turned_to : Turned w s.to (step (node w s.to) (Delivered s)).node (step (node w s.to) (Delivered s)).sends (after_input w s.to (Delivered s))
        turned_to = takes w s.to (Delivered s) up

        keeps_then : (y p : ℕ) → L w p y (seq_of w y) → L (after_input w s.to (Delivered s)) p y (seq_of w y)
        keeps_then y p l = kept.keeps w s.to (Delivered s) a.good up among refl p y l

        -- it is the ask of y, which is answered
        ask_comes : (y p q : ℕ) (r : Option Rank) → IsAsk y p q r s → Awaits L (after_input w s.to (Delivered s)) (length w0.net) (k ∷ done) y p q r
        ask_comes y p q r is =
            let replies : Replies p y q r (step (node w s.to) (Delivered s)).sends = subst (λ (m : Message). Replies p y q r (step (node w m.to) (Delivered m)).sends) (sym is) (step_replies (node w p) y p q r (me_of w p)) in
            inr (waits_sent w (after_input w s.to (Delivered s)) (length w0.net) (k ∷ done) (IsAnswer y p q r) (record { from = p; to = y; body = replies.body }) (step (node w s.to) (Delivered s)).sends turned_to.net a.longer
            sent_by_now replies.among (refl, refl, replies.answers))

        -- it is the check-in of y, which is acknowledged or called back
        report_comes : (y p : ℕ) → is_up w0 y ≡ true → IsReport y p (seq_of w y) s → IsKeptOr L (after_input w s.to (Delivered s)) (length w0.net) (k ∷ done) y p (seq_of w y)
        report_comes y p up_y is = ⊎_elim (λ l. inl l)
            (λ one. inr (inr (waits_sent w (after_input w s.to (Delivered s)) (length w0.net) (k ∷ done) (IsRecall y p (seq_of w y)) (record { from = p; to = y; body = bodies.Rejoin (seq_of w y) })
            (step (node w s.to) (Delivered s)).sends turned_to.net a.longer sent_by_now one (refl, refl, refl))))
            (kept.acks w s y p a.good up (a.ups y ∙ up_y) among is)

        had : (y : ℕ) → is_up w0 y ≡ true → (m : Mode) (r : Option Rank) → Now (after_input w s.to (Delivered s)) y m (seq_of w y) r
            → Had y (Awaits L (after_input w s.to (Delivered s)) (length w0.net) (k ∷ done) y) (IsKeptOr L (after_input w s.to (Delivered s)) (length w0.net) (k ∷ done) y) s.from s.body m (seq_of w y) r
        unfolding Now
        had y up_y (modes.Asking p) r h = ⊎_elim (λ b. inl b) (λ is. ⊎_elim (λ ask. inl (ask_comes y p (seq_of w y) r ask)) (λ answer. inr (answer.0, answer.2)) is) h
        had y up_y (modes.Joined p) r h = ⊎_elim (λ b. inl b) (λ is. ⊎_elim (λ report. inl (report_comes y p up_y report)) (λ recall. inr (recall.0, recall.2)) is) h
        had y up_y modes.Idle r h = tt
        had y up_y modes.Acting r h = tt

        other : (y : ℕ) → is_up w0 y ≡ true → (s.to ≡ y → ⊥) → (m : Mode) (r : Option Rank) → Now (after_input w s.to (Delivered s)) y m (seq_of w y) r → Stands L (after_input w s.to (Delivered s)) (length w0.net) (k ∷ done) y m (seq_of w y) r
        unfolding Now
        other y up_y apart (modes.Asking p) r h = ⊎_elim (λ b. b) (λ is. ⊎_elim (λ ask. ask_comes y p (seq_of w y) r ask) (λ answer. absurd (apart answer.1)) is) h
        other y up_y apart (modes.Joined p) r h = ⊎_elim (λ b. b) (λ is. ⊎_elim (λ report. report_comes y p up_y report) (λ recall. absurd (apart recall.1)) is) h
        other y up_y apart modes.Idle r h = tt
        other y up_y apart modes.Acting r h = tt

        own : is_up w0 s.to ≡ true → IsStanding L (after_input w s.to (Delivered s)) (length w0.net) (k ∷ done) s.to
        own up0 =
            let v : World = after_input w s.to (Delivered s) in
            let n : Node = (step (node w s.to) (Delivered s)).node in
            subst (StandsAs L v (length w0.net) (k ∷ done) s.to) (sym turned_to.here)
            (has_stands L w v (length w0.net) (k ∷ done) s.to (step (node w s.to) (Delivered s)).sends turned_to.net a.longer sent_by_now n.control.kept.mode n.control.kept.seq n.control.kept.rank
            (step_receives s.to (Awaits L v (length w0.net) (k ∷ done) s.to) (IsKeptOr L v (length w0.net) (k ∷ done) s.to) (node w s.to) s (me_of w s.to)
            (λ seq r xs body asks same. (
              λ zero. let clash : true ≡ false = sym zero ∙ kept.some w s.to s.from a.good asks in absurd cc,
              λ _. inl (keeps_then s.to s.from (kept.yes w k s a.good past found seq r xs body asks same)),
            ))
            (had s.to up0 (mode_of w s.to) (own_rank w s.to) (now_at v (step (node w s.to) (Delivered s)).sends turned_to.net s.to up0 (keeps_then s.to)))))

        comes_up : Arriving (after_input w s.to (Delivered s)) (k ∷ done)
        comes_up =
            let v : World = after_input w s.to (Delivered s) in
            moves s.to (Delivered s) up among refl (own (sym (a.ups s.to) ∙ up))
            (λ y up_y apart. other y up_y apart (mode_of w y) (own_rank w y) (now_at v (step (node w s.to) (Delivered s)).sends turned_to.net y up_y (keeps_then y)))

      -- nothing that is waited for comes to a node that is down
      none_comes : is_dial s.body && not (is_up w s.to) ≡ false → is_up w s.to ≡ false → (y : ℕ) → is_up w0 y ≡ true → (m : Mode) (q : ℕ) (r : Option Rank) → Now w y m q r → Stands L w (length w0.net) (k ∷ done) y m q r
      unfolding Now
      none_comes comes off y up (modes.Asking p) q r h = ⊎_elim (λ b. b)
          (λ is. ⊎_elim
          (λ ask.
          let clash : true ≡ false = sym (ap (λ (b : Bool). b && not (is_up w s.to)) (ap (λ (m : Message). is_dial m.body) ask) ∙ ap (λ (b : Bool). true && not b) off) ∙ comes in
          absurd cc)
          (λ answer. let clash : true ≡ false = sym (a.ups y ∙ up) ∙ (ap (is_up w) (sym answer.1) ∙ off) in absurd cc)
          is)
          h
      none_comes comes off y up (modes.Joined p) q r h = ⊎_elim (λ b. b)
          (λ is. ⊎_elim
          (λ report.
          let clash : true ≡ false = sym (ap (λ (b : Bool). b && not (is_up w s.to)) (ap (λ (m : Message). is_dial m.body) report.5) ∙ ap (λ (b : Bool). true && not b) off) ∙ comes in
          absurd cc)
          (λ recall. let clash : true ≡ false = sym (a.ups y ∙ up) ∙ (ap (is_up w) (sym recall.1) ∙ off) in absurd cc)
          is)
          h
      none_comes comes off y up modes.Idle q r h = tt
      none_comes comes off y up modes.Acting q r h = tt

      comes_there : is_dial s.body && not (is_up w s.to) ≡ false → Arriving (after_input w s.to (Delivered s)) (k ∷ done)
      comes_there comes = ⊎_elim comes_up
          (λ off. rests s.to (Delivered s) off (λ y up h. none_comes comes off y up (mode_of w y) (seq_of w y) (own_rank w y) h))
          (cases_Bool (is_up w s.to))

      -- The message fails

      module _ (dials : is_dial s.body ≡ true) where
        had_none : (v : World) (y : ℕ) (m : Mode) (q : ℕ) (r : Option Rank) → Now v y m q r
            → HadNone y (Awaits L v (length w0.net) (k ∷ done) y) (IsKeptOr L v (length w0.net) (k ∷ done) y) s.to m q r
        unfolding Now
        had_none v y (modes.Asking p) q r h = ⊎_elim (λ b. inl b) (λ is. ⊎_elim (λ ask. inr (sym (ap (λ (m : Message). m.to) ask))) (λ answer. absurd (no_answer s.body q r dials answer.2)) is) h
        had_none v y (modes.Joined p) q r h = ⊎_elim (λ b. inl b) (λ is. ⊎_elim (λ report. inr (sym (ap (λ (m : Message). m.to) report.5))) (λ recall. absurd (no_recall s.body q dials recall.2)) is) h
        had_none v y modes.Idle q r h = tt
        had_none v y modes.Acting q r h = tt

        other_none : (v : World) (y : ℕ) → (s.from ≡ y → ⊥) → (m : Mode) (q : ℕ) (r : Option Rank) → Now v y m q r → Stands L v (length w0.net) (k ∷ done) y m q r
        unfolding Now
        other_none v y apart (modes.Asking p) q r h =
            ⊎_elim (λ b. b) (λ is. ⊎_elim (λ ask. absurd (apart (ap (λ (m : Message). m.from) ask))) (λ answer. absurd (no_answer s.body q r dials answer.2)) is) h
        other_none v y apart (modes.Joined p) q r h =
            ⊎_elim (λ b. b) (λ is. ⊎_elim (λ report. absurd (apart (ap (λ (m : Message). m.from) report.5))) (λ recall. absurd (no_recall s.body q dials recall.2)) is) h
        other_none v y apart modes.Idle q r h = tt
        other_none v y apart modes.Acting q r h = tt

        fails_up : is_up w s.from ≡ true → Arriving (after_input w s.from (Unreachable s.to)) (k ∷ done)
        fails_up up =
            let v : World = after_input w s.from (Unreachable s.to) in
            let n : Node = (step (node w s.from) (Unreachable s.to)).node in
            let ms : List Message = (step (node w s.from) (Unreachable s.to)).sends in
            let turn : Turned w s.from n ms v = takes w s.from (Unreachable s.to) up in
            let keeps : (y p : ℕ) → L w p y (seq_of w y) → L v p y (seq_of w y) = λ y p l. kept.keeps w s.from (Unreachable s.to) a.good up tt tt p y l in
            moves s.from (Unreachable s.to) up tt tt
            (subst (StandsAs L v (length w0.net) (k ∷ done) s.from) (sym turn.here)
            (has_stands L w v (length w0.net) (k ∷ done) s.from ms turn.net a.longer sent_by_now n.control.kept.mode n.control.kept.seq n.control.kept.rank
            (step_fails s.from (Awaits L v (length w0.net) (k ∷ done) s.from) (IsKeptOr L v (length w0.net) (k ∷ done) s.from) (node w s.from) s.to (me_of w s.from)
            (had_none v s.from (mode_of w s.from) (seq_of w s.from) (own_rank w s.from) (now_at v ms turn.net s.from (sym (a.ups s.from) ∙ up) (keeps s.from))))))
            (λ y up_y apart. other_none v y apart (mode_of w y) (seq_of w y) (own_rank w y) (now_at v ms turn.net y up_y (keeps y)))

        fails_there : Arriving (after_input w s.from (Unreachable s.to)) (k ∷ done)
        fails_there = ⊎_elim fails_up
            (λ off. rests s.from (Unreachable s.to) off (λ y up h.
            other_none w y (λ (e : s.from ≡ y). let clash : true ≡ false = sym (a.ups y ∙ up) ∙ (ap (is_up w) (sym e) ∙ off) in cc) (mode_of w y) (seq_of w y) (own_rank w y) h))
            (cases_Bool (is_up w s.from))

      arrives : Arriving (arrived w k) (k ∷ done)
      arrives = ⊎_elim
          (λ fails. subst (λ (v : World). Arriving v (k ∷ done)) (sym (arrived_fails w k s found fails)) (fails_there (and_parts (is_dial s.body) (not (is_up w s.to)) fails).0))
          (λ comes. subst (λ (v : World). Arriving v (k ∷ done)) (sym (arrived_comes w k s found comes)) (comes_there comes))
          (cases_Bool (is_dial s.body && not (is_up w s.to)))

    record Arrived (ks done : List ℕ) (v : World) : Type 0 where
      all : List ℕ
      arriving : Arriving v all
      before : (k : ℕ) → IsOneOf k done → IsOneOf k all
      each : (k : ℕ) → IsOneOf k ks → IsOneOf k all

    all_arrive : (ks : List ℕ) (w : World) (done : List ℕ) → Arriving w done → are_sent least w ks ≡ true → Arrived ks done (after_arrivals w ks)
    all_arrive [] w done a sent = record { all = done; arriving = a; before = λ k one. one; each = λ k one. absurd one }
    all_arrive (k ∷ ks) w done a sent =
        let outer = and_parts (nat_lt least k && nat_le k (length w.net)) (are_sent least (arrived w k) ks) sent in
        let inner = and_parts (nat_lt least k) (nat_le k (length w.net)) outer.0 in
        let past : least < k = ltb-true least k inner.0 in
        let low : k ≤ length w.net = leb-true k (length w.net) inner.1 in
        let found = at_some w.net k (omega (arith, past)) low in
        let next : Arriving (arrived w k) (k ∷ done) = arrives w done a k past low found.0 found.1 in
        let rest : Arrived ks (k ∷ done) (after_arrivals (arrived w k) ks) = all_arrive ks (arrived w k) (k ∷ done) next outer.1 in
        record {
          all = rest.all;
          arriving = rest.arriving;
          before = λ j one. rest.before j (inr one);
          each = λ j one. ⊎_elim (λ (e : j ≡ k). rest.before j (inl e)) (λ later. rest.each j later) one;
        }

    -- The whole round

    -- at its end nobody asks, and each child's place is kept
    pub record HasAnswered (v : World) : Type 0 where
      pub good : Good v
      pub ups : (y : ℕ) → is_up v y ≡ is_up w0 y
      pub asks : (x p : ℕ) → is_up v x ≡ true → mode_of v x ≡ modes.Asking p → ⊥
      pub joined : (x p : ℕ) → is_up v x ≡ true → mode_of v x ≡ modes.Joined p → L v p x (seq_of v x)

    pub round_answers : (r : Round) → is_round least w0 r ≡ true → Good (after_turns w0 r.turns) → HasAnswered (after_round w0 r)
    round_answers r is good =
        let xs : List ℕ = map (λ (t : Turn). t.node) r.turns in
        let u : World = after_turns w0 r.turns in
        let v : World = after_arrivals u r.arrivals in
        let timely : Bool = list_all (λ (t : Turn). is_timely (node w0 t.node).control t.time) r.turns in
        let sent : Bool = are_sent least u r.arrivals in
        let whole : Bool = list_all (has r.arrivals) (new_messages w0 v) in
        let p3 = and_parts (are_the_up w0 xs && timely && sent) whole is in
        let p2 = and_parts (are_the_up w0 xs && timely) sent p3.0 in
        let p1 = and_parts (are_the_up w0 xs) timely p2.0 in
        let q2 = and_parts (list_all (is_up w0) xs && list_all (has xs) (up_ids w0)) (is_distinct xs) p1.0 in
        let q1 = and_parts (list_all (is_up w0) xs) (list_all (has xs) (up_ids w0)) q2.0 in
        let ticks : Ticking u [] = all_turn r.turns w0 (begin xs q1.1) q2.1 q1.0 p1.1 in
        let arriving : Arriving u [] = record {
          good = good;
          ups = ticks.ups;
          stands = λ y up. none_stands L u (length w0.net) [] y (mode_of u y) (seq_of u y) (own_rank u y) (⊎_elim (λ one. absurd one) (λ stands. stands) (ticks.stands y up));
          longer = ticks.longer;
          sent = λ k one. absurd one;
        } in
        let done : Arrived r.arrivals [] v = all_arrive r.arrivals u [] arriving p2.1 in
        ends v done (λ k past low. has_one r.arrivals k (all_test (has r.arrivals) (new_messages w0 v) p3.1 k (in_numbers (length w0.net + 1) (length v.net - length w0.net) k (omega (arith, past)) (omega (arith, past, low))))) where
          ends : (v : World) → Arrived r.arrivals [] v → ((k : ℕ) → length w0.net < k → k ≤ length v.net → IsOneOf k r.arrivals) → HasAnswered v
          ends v done each = record {
            good = done.arriving.good;
            ups = done.arriving.ups;
            asks = λ x p up e.
                let stands : Awaits L v (length w0.net) done.all x p (seq_of v x) (own_rank v x) = subst (λ (m : Mode). Stands L v (length w0.net) done.all x m (seq_of v x) (own_rank v x)) e (done.arriving.stands x (sym (done.arriving.ups x) ∙ up)) in
                ⊎_elim
                (λ (ask : Waits v (length w0.net) done.all (IsAsk x p (seq_of v x) (own_rank v x))). ask.still (done.each ask.number (each ask.number ask.new ask.sent)))
                (λ (answer : Waits v (length w0.net) done.all (IsAnswer x p (seq_of v x) (own_rank v x))). answer.still (done.each answer.number (each answer.number answer.new answer.sent)))
                stands;
            joined = λ x p up e.
                let stands : IsKeptOr L v (length w0.net) done.all x p (seq_of v x) = subst (λ (m : Mode). Stands L v (length w0.net) done.all x m (seq_of v x) (own_rank v x)) e (done.arriving.stands x (sym (done.arriving.ups x) ∙ up)) in
                ⊎_elim (λ l. l)
                (λ waits. ⊎_elim
                (λ (report : Waits v (length w0.net) done.all (IsReport x p (seq_of v x))). absurd (report.still (done.each report.number (each report.number report.new report.sent))))
                (λ (recall : Waits v (length w0.net) done.all (IsRecall x p (seq_of v x))). absurd (recall.still (done.each recall.number (each recall.number recall.new recall.sent))))
                waits)
                stands;
          }
