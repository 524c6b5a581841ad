-- At the end of each round but the first, a node that is joined has its lease, renewed in that round.
use Rattle.std.proofs.Common.{◌≡◌, ℕ, ◌≤◌, ◌<◌, Bool, true, false, Option, Some, List, [], ◌∷◌, ◌++◌, ◌⊎◌, inl, inr, length, refl, ap, sym, subst, ◌∙◌, ⊎_elim, arith, eq-eqb, append_assoc, append-nil}
use Rattle.std.specs.List.{AllByRecursion}
use Rattle.std.proofs.lemmas.Bool.{cases_eq, cases_Bool, cases_order, and_parts, false_from_ne_true}
use Rattle.oc_base.specs.declared.cert.Cert.{Cert}
use Rattle.oc_base.specs.declared.rank.Rank.{Rank}
use Rattle.oc_base.specs.Cert.{Outranks}
use Rattle.oc_model.specs.declared.event.Act.TheVariants.{At, Deliver}
use Rattle.oc_model.specs.declared.input.Input.{Input}
use Rattle.oc_model.specs.declared.input.Input.TheVariants.{Tick, Unreachable, Delivered}
use Rattle.oc_model.specs.declared.message.Body.{Body}
use Rattle.oc_model.specs.declared.message.Body.TheVariants as bodies
use Rattle.oc_model.specs.declared.message.Message.{Message}
use Rattle.oc_model.specs.declared.mode.Mode.TheVariants as modes
use Rattle.oc_model.specs.Certificates.{outranks}
use Rattle.oc_model.specs.Checking.{is_peer}
use Rattle.oc_model.specs.ClaimsTree.{table_of, seq_of}
use Rattle.oc_model.specs.Node.{Header, Control}
use Rattle.oc_model.specs.Numbers.{IsAmong}
use Rattle.oc_model.specs.Ready.{HoldsLease}
use Rattle.oc_model.specs.Step.{step}
use Rattle.oc_model.specs.Table.{newest, is_news_to, leased_by}
use Rattle.oc_model.specs.World.{World, Process, node, is_up, mode_of, message_at, delivery, acted, after_act}
use Rattle.oc_model.proofs.Lists.{all_weaker, all_append}
use Rattle.oc_laws_step.proofs.CertOrder.{outranks_fact}
use Rattle.oc_laws_world.specs.Numbers.{IsAnywhere, GoesWith}
use Rattle.oc_laws_world.proofs.Lifts.{HasSent}
use Rattle.oc_laws_world.proofs.Walks.{HasCome}
use Rattle.oc_laws_tree.proofs.Held.{all_hold, tree_of}
use Rattle.oc_laws_tree.proofs.Known.{Knows}
use Rattle.oc_laws_tree.proofs.Reached.{Reached, reached_act}
use Rattle.oc_laws_tree.proofs.Rising.{row_goes}
use Rattle.oc_laws_tree.proofs.Rows.{IsLiveRow, lease_row}
use Rattle.oc_laws_tree.proofs.Spans.{IsId, up_id, asked_id, among_them}
use Rattle.oc_laws_tree.proofs.TreeHolds.{TreeHolds}
use Rattle.oc_laws_rest.specs.Rounds.{Turn, Round, after_turns, after_round, after_rounds, is_round, are_later_rounds, is_quiet}
use Rattle.oc_laws_rest.specs.Rest.{JoinedAreLeased}
use Rattle.oc_laws_rest.proofs.Asks.{has_number, sound_of}
use Rattle.oc_laws_rest.proofs.Leasing.{IsOld, HasFull, IsGrant, AreGrants, IsNoYes, AreNoYes, message_full, failure_full, ask_grants, report_renews, step_quiet, step_rises}
use Rattle.oc_laws_rest.proofs.Links.{HasEnded, me_of, takes, takes_none, round_ends, Placed, place}
use Rattle.oc_laws_rest.proofs.Moves.{at_after}
use Rattle.oc_laws_rest.proofs.Replies.{AreKept, HasAnswered, IsReport, IsBrought, after_input, round_answers}
use Rattle.oc_laws_rest.proofs.Roots.{own_step, tables_of, reached_round}

-- Words on a child

-- y knows each word on a child of its own whose lease it holds at the child's number
known_there : (h : Header) (w : World) → Reached h w → (y z : ℕ) (c : Cert) → IsAnywhere w c → c.subject ≡ z → HoldsLease w y z (seq_of w z) → Knows (table_of w y) c
known_there h w reached y z c anywhere same leased =
    let tree : TreeHolds w = tree_of h w reached in
    let goes : GoesWith w z c.seq c.parent = inr (inr (c, anywhere, same, refl, refl)) in
    let row = lease_row (table_of w y) y z (seq_of w z) leased in
    let most : c.seq ≤ seq_of w z = tree.asks z c.seq c.parent goes in
    by_order row.0 row.1 goes most (cases_order c.seq (seq_of w z)) where
      old : (k : Cert) → IsLiveRow (table_of w y) z y (seq_of w z) k.number k → c.seq < seq_of w z → Knows (table_of w y) c
      old k row less =
          let here : newest (table_of w y) c.subject ≡ Some k = ap (newest (table_of w y)) same ∙ row.found in
          ap (λ (o : Option Cert). is_news_to o c) here ∙ false_from_ne_true (outranks c k) (λ e. by_fact (outranks_fact c k e)) where
            by_fact : Outranks c k → ⊥
            by_fact (inl more) = omega (arith, more, less, row.seq)
            by_fact (inr (inl death)) = omega (arith, death.0, less, row.seq)
            by_fact (inr (inr number)) = omega (arith, number.0, less, row.seq)

      by_order : (k : Cert) → IsLiveRow (table_of w y) z y (seq_of w z) k.number k → GoesWith w z c.seq c.parent → c.seq ≤ seq_of w z
          → (c.seq ≡ seq_of w z) ⊎ ((c.seq < seq_of w z) ⊎ (seq_of w z < c.seq)) → Knows (table_of w y) c
      by_order k row goes most (inl e) =
          let lease_goes : GoesWith w z (seq_of w z) y = subst (λ (s : ℕ). GoesWith w z s y) row.seq (subst (GoesWith w z k.seq) row.parent (row_goes w y z k row.found)) in
          let own : c.parent ≡ y = (tree_of h w reached).peers z (seq_of w z) c.parent y (subst (λ (s : ℕ). GoesWith w z s c.parent) e goes) lease_goes in
          subst (λ (p : ℕ). Knows (table_of w p) c) own ((tree_of h w reached).granted c anywhere)
      by_order k row goes most (inr (inl less)) = old k row less
      by_order k row goes most (inr (inr more)) = absurd (omega (arith, most, more))

-- Asks among bodies

is_ask : Body → Bool
is_ask (bodies.Ask seq rank) = true
is_ask body = false

ask_of : (b : Body) → is_ask b ≡ true → (s : ℕ) × (r : Option Rank) × (b ≡ bodies.Ask s r)
unfolding is_ask
ask_of (bodies.Ask seq rank) e = (seq, rank, refl)
ask_of bodies.Look e = absurd cc
ask_of (bodies.LookIs is_in parent rate children) e = absurd cc
ask_of (bodies.Yes seq rank ancestors) e = absurd cc
ask_of (bodies.No seq why) e = absurd cc
ask_of (bodies.CheckIn seq upto rate number clients certs) e = absurd cc
ask_of (bodies.CheckAck seq upto rank ancestors) e = absurd cc
ask_of (bodies.Rejoin seq) e = absurd cc
ask_of (bodies.Fetch have) e = absurd cc
ask_of (bodies.Chunk g start bytes last) e = absurd cc

no_ask : (b : Body) → is_ask b ≡ false → (s : ℕ) (r : Option Rank) → b ≡ bodies.Ask s r → ⊥
unfolding is_ask
no_ask b e s r same = let clash : true ≡ false = sym (ap is_ask same) ∙ e in cc

pub any_come : (i : Input) → HasCome (λ p b. Unit {0}) i
any_come (Delivered m) = tt
any_come i = tt

-- One input

-- p holds the lease of x at the number s, and it ends a whole lease's time from now
abbrev Full : World → ℕ → ℕ → ℕ → Type 0
Full w p x s = HasFull x s (node w p).control

full_lease : (w : World) (p x s : ℕ) → Full w p x s → HoldsLease w p x s
full_lease w p x s full = subst (λ (y : ℕ). leased_by (table_of w p) y x ≡ Some s) (me_of w p) full.0

module _ (h : Header) where
  pub old_body : (w : World) (x z p : ℕ) (b : Body) → Reached h w → HasSent w z p b → HoldsLease w z x (seq_of w x) → IsOld x (seq_of w x) (node w z).control p b
  old_body w x z p (bodies.Ask seq rank) reached sent leased = λ here. (all_hold h w reached).asks.bound x seq z (rank, subst (λ (y : ℕ). IsAmong (record { from = y; to = z; body = bodies.Ask seq rank }) w.net) here sent)
  old_body w x z p (bodies.CheckIn seq upto rate number clients certs) reached sent leased = λ c among about.
      known_there h w reached z x c (inr (inr (record { from = p; to = z; body = bodies.CheckIn seq upto rate number clients certs }, sent, among))) about leased
  old_body w x z p b reached sent leased = tt

  full_step : (w : World) (z : ℕ) (i : Input) (x : ℕ) → Reached h w → HasCome (HasSent w z) i → IsBrought z i → Full w z x (seq_of w x) → HasFull x (seq_of w x) (step (node w z) i).node.control
  full_step w z (Delivered m) x reached came brought full = message_full x (seq_of w x) (node w z) m (old_body w x z m.from m.body reached came (full_lease w z x (seq_of w x) full)) full
  full_step w z (Unreachable q) x reached came brought full = failure_full x (seq_of w x) (node w z) q full
  full_step w z i x reached came brought full = absurd brought

  full_on : (w : World) (z : ℕ) (i : Input) → Reached h w → is_up w z ≡ true → HasCome (HasSent w z) i → IsBrought z i → (p x : ℕ) → Full w p x (seq_of w x) → Full (after_input w z i) p x (seq_of w x)
  full_on w z i reached up came brought p x full =
      let turn = takes w z i up in
      ⊎_elim
      (λ (e : z ≡ p). subst (λ (q : ℕ). Full (after_input w z i) q x (seq_of w x)) e
      (subst (λ (u : Process). HasFull x (seq_of w x) u.node.control) (sym turn.here) (full_step w z i x reached came brought (subst (λ (q : ℕ). Full w q x (seq_of w x)) (sym e) full))))
      (λ apart. subst (λ (u : Process). HasFull x (seq_of w x) u.node.control) (sym (turn.others p apart)) full)
      (cases_eq z p)

  seq_on : (w : World) (z : ℕ) (i : Input) → Reached h w → is_up w z ≡ true → (y : ℕ) → seq_of w y ≤ seq_of (after_input w z i) y
  seq_on w z i reached up y =
      let turn = takes w z i up in
      ⊎_elim
      (λ (e : z ≡ y). subst (λ (q : ℕ). seq_of w q ≤ seq_of (after_input w z i) q) e
      (subst (λ (u : Process). seq_of w z ≤ u.node.control.kept.seq) (sym turn.here) (step_rises (node w z) i (tables_of h w reached z) (any_come i))))
      (λ apart. subst (λ (u : Process). seq_of w y ≤ u.node.control.kept.seq) (sym (turn.others y apart)) (omega arith))
      (cases_eq z y)

  -- it is a step to another world that events lead to
  reached_input : (w : World) (z : ℕ) (i : Input) → Reached h w → HasCome (HasSent w z) i → IsBrought z i → Reached h (after_input w z i)
  reached_input w z (Delivered m) reached came brought =
      let placed : Placed [] w.net m = place [] w.net m (subst (λ (y : ℕ). IsAmong (record { from = m.from; to = y; body = m.body }) w.net) (sym brought) came) in
      subst (Reached h) (ap (λ o. acted w (delivery o)) placed.at ∙ ap (λ (y : ℕ). acted w (Some (record { at = y; input = Delivered m }))) brought) (reached_act h w (Deliver placed.number) reached)
  reached_input w z (Unreachable q) reached came brought = reached_act h w (At z (Unreachable q)) reached
  reached_input w z i reached came brought = absurd brought

  -- A yes

  -- where it is a yes, the lease is full, unless its receiver has asked anew
  abbrev IsGranted : World → Message → Type 0
  IsGranted w m = (seq : ℕ) (r : Rank) (xs : List ℕ) → m.body ≡ bodies.Yes seq r xs → (seq ≡ 0) ⊎ ((seq < seq_of w m.to) ⊎ ((seq ≡ seq_of w m.to) × Full w m.from m.to seq))

  granted_on : (w : World) (z : ℕ) (i : Input) → Reached h w → is_up w z ≡ true → HasCome (HasSent w z) i → IsBrought z i → (m : Message) → IsGranted w m → IsGranted (after_input w z i) m
  granted_on w z i reached up came brought m given seq r xs e =
      let low : seq_of w m.to ≤ seq_of (after_input w z i) m.to = seq_on w z i reached up m.to in
      ⊎_elim (λ none. inl none) (λ rest. inr (⊎_elim (λ less. inl (omega (arith, less, low))) (λ same. by_order low same (cases_order seq (seq_of (after_input w z i) m.to))) rest)) (given seq r xs e) where
        by_order : seq_of w m.to ≤ seq_of (after_input w z i) m.to → (seq ≡ seq_of w m.to) × Full w m.from m.to seq
            → (seq ≡ seq_of (after_input w z i) m.to) ⊎ ((seq < seq_of (after_input w z i) m.to) ⊎ (seq_of (after_input w z i) m.to < seq))
            → (seq < seq_of (after_input w z i) m.to) ⊎ ((seq ≡ seq_of (after_input w z i) m.to) × Full (after_input w z i) m.from m.to seq)
        by_order low (same, full) (inl e) =
            inr (e, subst (λ (s : ℕ). Full (after_input w z i) m.from m.to s) (sym same) (full_on w z i reached up came brought m.from m.to (subst (λ (s : ℕ). Full w m.from m.to s) same full)))
        by_order low (same, full) (inr (inl less)) = inl less
        by_order low (same, full) (inr (inr more)) = absurd (omega (arith, low, same, more))

  none_granted : (v : World) (ms : List Message) → AreNoYes ms → AllByRecursion (IsGranted v) ms
  none_granted v ms none = all_weaker IsNoYes (IsGranted v) (λ m other seq r xs e. absurd (other seq r xs e)) ms none

  -- the place of the lease end of a node that has asked
  within : (w : World) (x p : ℕ) → Reached h w → is_up w p ≡ true → IsId h x → (1 ≤ x) × (x ≤ length (node w p).control.leases)
  within w x p reached up id =
      let as_many : length (node w p).control.leases ≡ h.nodes = (sound_of h w reached p).leases ∙ (among_them h w p reached (up_id h w p reached up)).0 in
      (id.least, omega (arith, as_many, id.most))

  ask_granted : (w : World) (z x s : ℕ) (r : Option Rank) → Reached h w → is_up w z ≡ true → HasSent w z x (bodies.Ask s r)
      → AllByRecursion (IsGranted (after_input w z (Delivered (record { from = x; to = z; body = bodies.Ask s r })))) (step (node w z) (Delivered (record { from = x; to = z; body = bodies.Ask s r }))).sends
  ask_granted w z x s r reached up sent =
      let i : Input = Delivered (record { from = x; to = z; body = bodies.Ask s r }) in
      let most : s ≤ seq_of w x = (all_hold h w reached).asks.bound x s z (r, sent) in
      all (step (node w z) i).sends (own_step z ⊥ (node w z) i (tables_of h w reached z) tt (me_of w z) (λ none. absurd none)).1
      (ask_grants x s (1 ≤ s) (node w z) z r (λ some. within w x z reached up (asked_id h w x reached (omega (arith, some, most))))) where
        v : World
        v = after_input w z (Delivered (record { from = x; to = z; body = bodies.Ask s r }))

        low : s ≤ seq_of (after_input w z (Delivered (record { from = x; to = z; body = bodies.Ask s r }))) x
        low =
            let most : s ≤ seq_of w x = (all_hold h w reached).asks.bound x s z (r, sent) in
            let more : seq_of w x ≤ seq_of (after_input w z (Delivered (record { from = x; to = z; body = bodies.Ask s r }))) x = seq_on w z (Delivered (record { from = x; to = z; body = bodies.Ask s r })) reached up x in
            omega (arith, most, more)

        n : Control
        n = (step (node w z) (Delivered (record { from = x; to = z; body = bodies.Ask s r }))).node.control

        by_order : (1 ≤ s → HasFull x s (step (node w z) (Delivered (record { from = x; to = z; body = bodies.Ask s r }))).node.control)
            → (s ≡ seq_of (after_input w z (Delivered (record { from = x; to = z; body = bodies.Ask s r }))) x)
            ⊎ ((s < seq_of (after_input w z (Delivered (record { from = x; to = z; body = bodies.Ask s r }))) x) ⊎ (seq_of (after_input w z (Delivered (record { from = x; to = z; body = bodies.Ask s r }))) x < s))
            → (s ≡ 0) ⊎ ((s < seq_of (after_input w z (Delivered (record { from = x; to = z; body = bodies.Ask s r }))) x)
            ⊎ ((s ≡ seq_of (after_input w z (Delivered (record { from = x; to = z; body = bodies.Ask s r }))) x) × Full (after_input w z (Delivered (record { from = x; to = z; body = bodies.Ask s r }))) z x s))
        by_order full (inl e) = ⊎_elim (λ none. inl none)
            (λ some. inr (inr (e, subst (λ (u : Process). HasFull x s u.node.control) (sym (takes w z (Delivered (record { from = x; to = z; body = bodies.Ask s r })) up).here) (full (omega (arith, some))))))
            (cases_eq s 0)
        by_order full (inr (inl less)) = inr (inl less)
        by_order full (inr (inr more)) = let few = low in absurd (omega (arith, few, more))

        one : (m : Message) → m.from ≡ z → IsGrant x s (1 ≤ s) (step (node w z) (Delivered (record { from = x; to = z; body = bodies.Ask s r }))).node.control m
            → IsGranted (after_input w z (Delivered (record { from = x; to = z; body = bodies.Ask s r }))) m
        one m from grant seq given xs e =
            let is = grant seq given xs e in
            let u : World = after_input w z (Delivered (record { from = x; to = z; body = bodies.Ask s r })) in
            subst (λ (k : ℕ). (k ≡ 0) ⊎ ((k < seq_of u m.to) ⊎ ((k ≡ seq_of u m.to) × Full u m.from m.to k))) (sym is.1)
            (subst (λ (y : ℕ). (s ≡ 0) ⊎ ((s < seq_of u y) ⊎ ((s ≡ seq_of u y) × Full u m.from y s))) (sym is.0)
            (subst (λ (p : ℕ). (s ≡ 0) ⊎ ((s < seq_of u x) ⊎ ((s ≡ seq_of u x) × Full u p x s))) (sym from) (by_order is.2 (cases_order s (seq_of u x)))))

        all : (ms : List Message) → AllByRecursion (λ m. m.from ≡ z) ms → AreGrants x s (1 ≤ s) (step (node w z) (Delivered (record { from = x; to = z; body = bodies.Ask s r }))).node.control ms
            → AllByRecursion (IsGranted (after_input w z (Delivered (record { from = x; to = z; body = bodies.Ask s r })))) ms
        all [] froms grants = tt
        all (m ∷ ms) froms grants = (one m froms.0 grants.0, all ms froms.1 grants.1)

  message_granted : (w : World) (z : ℕ) (m : Message) → Reached h w → is_up w z ≡ true → HasSent w z m.from m.body → m.to ≡ z → AllByRecursion (IsGranted (after_input w z (Delivered m))) (step (node w z) (Delivered m)).sends
  message_granted w z m reached up sent to = by_test (is_ask m.body) refl where
    by_test : (b : Bool) → is_ask m.body ≡ b → AllByRecursion (IsGranted (after_input w z (Delivered m))) (step (node w z) (Delivered m)).sends
    by_test true e =
        let asks = ask_of m.body e in
        let same : m ≡ record { from = m.from; to = z; body = bodies.Ask asks.0 asks.1 } =
        ap (λ (y : ℕ). record { from = m.from; to = y; body = m.body }) to ∙ ap (λ (b : Body). record { from = m.from; to = z; body = b }) asks.2 in
        subst (λ (k : Message). AllByRecursion (IsGranted (after_input w z (Delivered k))) (step (node w z) (Delivered k)).sends) (sym same)
        (ask_granted w z m.from asks.0 asks.1 reached up (subst (HasSent w z m.from) asks.2 sent))
    by_test false e =
        none_granted (after_input w z (Delivered m)) (step (node w z) (Delivered m)).sends
        (step_quiet (λ p b. b ≡ m.body) (λ p s r same. no_ask m.body e s r (sym same)) (node w z) (Delivered m) (tables_of h w reached z) refl)

  sends_granted : (w : World) (z : ℕ) (i : Input) → Reached h w → is_up w z ≡ true → HasCome (HasSent w z) i → IsBrought z i → AllByRecursion (IsGranted (after_input w z i)) (step (node w z) i).sends
  sends_granted w z (Delivered m) reached up came brought = message_granted w z m reached up came brought
  sends_granted w z (Unreachable q) reached up came brought =
      none_granted (after_input w z (Unreachable q)) (step (node w z) (Unreachable q)).sends (step_quiet (λ p b. ⊥) (λ p s r none. none) (node w z) (Unreachable q) (tables_of h w reached z) tt)
  sends_granted w z i reached up came brought = absurd brought

  -- The worlds of a round

  module _ (w0 : World) where
    record IsGood (w : World) : Type 0 where
      reached : Reached h w
      later : List Message
      net : w.net ≡ w0.net ++ later
      granted : AllByRecursion (IsGranted w) later

    good_on : (w : World) (z : ℕ) (i : Input) → IsGood w → is_up w z ≡ true → HasCome (HasSent w z) i → IsBrought z i → IsGood (after_input w z i)
    good_on w z i good up came brought =
        let turn = takes w z i up in
        let ms : List Message = (step (node w z) i).sends in
        let v : World = after_input w z i in
        record {
          reached = reached_input w z i good.reached came brought;
          later = good.later ++ ms;
          net = turn.net ∙ (ap (λ (all : List Message). all ++ ms) good.net ∙ append_assoc w0.net good.later ms);
          granted = all_append (IsGranted v) good.later ms
              (all_weaker (IsGranted w) (IsGranted v) (granted_on w z i good.reached up came brought) good.later good.granted) (sends_granted w z i good.reached up came brought);
        }

    yes_full : (w : World) (k : ℕ) (m : Message) → IsGood w → length w0.net < k → message_at w.net k ≡ Some m → (seq : ℕ) (r : Rank) (xs : List ℕ) → m.body ≡ bodies.Yes seq r xs
        → mode_of w m.to ≡ modes.Asking m.from → seq ≡ seq_of w m.to → Full w m.from m.to (seq_of w m.to)
    yes_full w k m good past found seq r xs body asks same =
        let granted : IsGranted w m = at_after (IsGranted w) w0.net good.later k m past (subst (λ (all : List Message). message_at all k ≡ Some m) good.net found) good.granted in
        ⊎_elim
        (λ none. let clash : true ≡ false = sym (eq-eqb (seq_of w m.to) 0 (sym same ∙ none)) ∙ has_number w (sound_of h w good.reached) m.to m.from asks in absurd cc)
        (λ rest. ⊎_elim (λ less. absurd (omega (arith, less, same))) (λ given. subst (λ (s : ℕ). Full w m.from m.to s) same given.1) rest)
        (granted seq r xs body)

    report_acked : (w : World) (m : Message) (x p : ℕ) → IsGood w → is_up w m.to ≡ true → is_up w x ≡ true → IsAmong m w.net → IsReport x p (seq_of w x) m
        → Full (after_input w m.to (Delivered m)) p x (seq_of w x) ⊎ IsAmong (record { from = p; to = x; body = bodies.Rejoin (seq_of w x) }) (step (node w m.to) (Delivered m)).sends
    report_acked w m x p good up up_x among (upto, rate, number, clients, certs, is) =
        subst (λ (k : Message). Full (after_input w k.to (Delivered k)) p x (seq_of w x) ⊎ IsAmong (record { from = p; to = x; body = bodies.Rejoin (seq_of w x) }) (step (node w k.to) (Delivered k)).sends) (sym is)
        (at_host (subst (λ (k : Message). is_up w k.to ≡ true) is up) (subst (λ (k : Message). IsAmong k w.net) is among)) where
          at_host : is_up w p ≡ true → IsAmong (record { from = x; to = p; body = bodies.CheckIn (seq_of w x) upto rate number clients certs }) w.net
              → Full (after_input w p (Delivered (record { from = x; to = p; body = bodies.CheckIn (seq_of w x) upto rate number clients certs }))) p x (seq_of w x)
              ⊎ IsAmong (record { from = p; to = x; body = bodies.Rejoin (seq_of w x) }) (step (node w p) (Delivered (record { from = x; to = p; body = bodies.CheckIn (seq_of w x) upto rate number clients certs }))).sends
          at_host up_p sent =
              let told : Message = record { from = x; to = p; body = bodies.CheckIn (seq_of w x) upto rate number clients certs } in
              let range = within w x p good.reached up_p (up_id h w x good.reached up_x) in
              ⊎_elim
              (λ full. inl (subst (λ (u : Process). HasFull x (seq_of w x) u.node.control) (sym (takes w p (Delivered told) up_p).here) full))
              (λ one. inr one)
              (report_renews x (seq_of w x) (node w p) p upto rate number clients certs (me_of w p) range.0 range.1
              (λ leased c one about. known_there h w good.reached p x c (inr (inr (told, sent, one))) about (subst (λ (y : ℕ). leased_by (table_of w p) y x ≡ Some (seq_of w x)) (me_of w p) leased)))

    all_kept : AreKept IsGood Full (length w0.net)
    all_kept = record {
      goes = λ w z i good up came brought. good_on w z i good up came brought;
      some = λ w x p good e. has_number w (sound_of h w good.reached) x p e;
      keeps = λ w z i good up came brought p x full. full_on w z i good.reached up came brought p x full;
      yes = λ w k m good past found seq r xs body asks same. yes_full w k m good past found seq r xs body asks same;
      acks = λ w m x p good up up_x among is. report_acked w m x p good up up_x among is;
    }

    -- after the ticks, which send no yes
    record HasTicked (w : World) : Type 0 where
      reached : Reached h w
      later : List Message
      net : w.net ≡ w0.net ++ later
      quiet : AreNoYes later

    one_tick : (w : World) (x c : ℕ) → HasTicked w → HasTicked (after_act w (At x (Tick c)))
    one_tick w x c ticked = ⊎_elim
        (λ up.
        let turn = takes w x (Tick c) up in
        let ms : List Message = (step (node w x) (Tick c)).sends in
        record {
          reached = reached_act h w (At x (Tick c)) ticked.reached;
          later = ticked.later ++ ms;
          net = turn.net ∙ (ap (λ (all : List Message). all ++ ms) ticked.net ∙ append_assoc w0.net ticked.later ms);
          quiet = all_append IsNoYes ticked.later ms ticked.quiet (step_quiet (λ p b. ⊥) (λ p s r none. none) (node w x) (Tick c) (tables_of h w ticked.reached x) tt);
        })
        (λ off. subst HasTicked (sym (takes_none w x (Tick c) off)) ticked)
        (cases_Bool (is_up w x))

    all_tick : (ts : List Turn) (w : World) → HasTicked w → HasTicked (after_turns w ts)
    all_tick [] w ticked = ticked
    all_tick (t ∷ ts) w ticked = all_tick ts (after_act w (At t.node (Tick t.time))) (one_tick w t.node t.time ticked)

    good_turns : (ts : List Turn) → Reached h w0 → IsGood (after_turns w0 ts)
    good_turns ts reached =
        let ticked : HasTicked (after_turns w0 ts) = all_tick ts w0 (record { reached = reached; later = []; net = sym (append-nil w0.net); quiet = tt }) in
        record { reached = ticked.reached; later = ticked.later; net = ticked.net; granted = none_granted (after_turns w0 ts) ticked.later ticked.quiet }

    pub round_leases : (r : Round) → Reached h w0 → is_round (length w0.net) w0 r ≡ true → JoinedAreLeased (after_round w0 r)
    round_leases r reached is x p up joined =
        let v : World = after_round w0 r in
        let answered : HasAnswered w0 IsGood Full (length w0.net) all_kept v = round_answers w0 IsGood Full (length w0.net) all_kept r is (good_turns r.turns reached) in
        let full : Full v p x (seq_of v x) = answered.joined x p up joined in
        let ends : HasEnded w0 v = round_ends w0 (length w0.net) r is in
        record {
          parent = ends.peers x p up (ap (λ m. is_peer m p) joined ∙ eq-eqb p p refl);
          lease = full_lease v p x (seq_of v x) full;
          end = full.1;
        }

  later_leases : (r : Round) (rs : List Round) (w : World) → Reached h w → are_later_rounds w (r ∷ rs) ≡ true → JoinedAreLeased (after_rounds w (r ∷ rs))
  later_leases r [] w reached quiet = round_leases w r reached (and_parts (is_round (length w.net) w r) (are_later_rounds (after_round w r) []) quiet).0
  later_leases r (q ∷ qs) w reached quiet =
      later_leases q qs (after_round w r) (reached_round h w r reached) (and_parts (is_round (length w.net) w r) (are_later_rounds (after_round w r) (q ∷ qs)) quiet).1

  pub joined_are_leased : (w : World) → Reached h w → (q r : Round) (rs : List Round) → is_quiet w (q ∷ r ∷ rs) ≡ true → JoinedAreLeased (after_rounds w (q ∷ r ∷ rs))
  joined_are_leased w reached q r rs quiet =
      later_leases r rs (after_round w q) (reached_round h w q reached) (and_parts (is_round 0 w q) (are_later_rounds (after_round w q) (r ∷ rs)) quiet).1
