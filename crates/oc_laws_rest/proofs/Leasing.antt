-- A lease that was renewed in a round stays, with all its time, through the rest of the round: the effect of each input on that.
use Rattle.std.proofs.Common.{◌≡◌, ℕ, zero, suc, ◌+◌, ◌-◌, ◌≤◌, Bool, true, false, not, ◌&&◌, ◌==◌, if◌then◌else◌, Option, Some, None, List, [], ◌∷◌, ◌++◌, ◌⊎◌, inl, inr, get_or, set, length, refl, ap, sym, subst, ◌∙◌, ⊎_elim, arith}
use Rattle.std.specs.List.{AllByRecursion}
use Rattle.std.proofs.lemmas.Bool.{cond_both, cases_eq, false_from_ne_true}
use Rattle.oc_base.specs.declared.cert.Cert.{Cert}
use Rattle.oc_base.specs.declared.rank.Rank.{Rank}
use Rattle.oc_base.specs.declared.refusal.Refusal.{Refusal}
use Rattle.oc_base.specs.declared.shelf.Shelf.{Shelf}
use Rattle.oc_base.specs.Cert.{Outranks}
use Rattle.oc_base.specs.Groups.{shelf}
use Rattle.oc_model.specs.declared.input.Input.{Input}
use Rattle.oc_model.specs.declared.input.Input.TheVariants.{Unreachable, Delivered}
use Rattle.oc_model.specs.declared.message.Body.{Body}
use Rattle.oc_model.specs.declared.message.Body.TheVariants as bodies
use Rattle.oc_model.specs.declared.message.Message.{Message}
use Rattle.oc_model.specs.declared.record.Record.TheVariants as records
use Rattle.oc_model.specs.Adopting.{is_acting, raises, raises_over, host, birth, has_lease, grants, sends_rejoin, adopts, answers_ask, asked}
use Rattle.oc_model.specs.Adoption.{precedes, rank_or_last, adoption_refusal}
use Rattle.oc_model.specs.Certificates.{outranks}
use Rattle.oc_model.specs.Checking.{merges, merges_all, acknowledges, life, checked_in}
use Rattle.oc_model.specs.Leases.{lease_time, renew}
use Rattle.oc_model.specs.Node.{Control, Node}
use Rattle.oc_model.specs.Numbers.{IsAmong, raise, at}
use Rattle.oc_model.specs.Plan.{Plan, begun, write}
use Rattle.oc_model.specs.Step.{received, step}
use Rattle.oc_model.specs.Table.{newest, put, is_news, is_news_to, merge, leased_by}
use Rattle.oc_model.specs.ChangeLog.{place_after, next_certs}
use Rattle.oc_model.proofs.Lists.{all_append}
use Rattle.oc_model.proofs.Rules.{either, keeps_asked, keeps_checked_in}
use Rattle.oc_laws_step.proofs.CertOrder.{outranks_fact}
use Rattle.oc_laws_step.proofs.Tables.{newest-put_same, merge_keeps}
use Rattle.oc_laws_step.specs.Sound.{IsTable}
use Rattle.oc_laws_world.proofs.Machine.{IsMachine, IsLoose, and_sent}
use Rattle.oc_laws_world.proofs.Walks.{HasCome, walks_step}
use Rattle.oc_laws_tree.proofs.CheckedIn.{number_held}
use Rattle.oc_laws_tree.proofs.CheckIns.{dry, dry_sends}
use Rattle.oc_laws_tree.proofs.Known.{Knows}
use Rattle.oc_laws_tree.proofs.LeaseRules.{OfLeases, OfPlan, stays_took_yes, stays_took_no, stays_unreachable, stays_raises_over, stays_took_ack, stays_took_rejoin, stays_sees, stays_fetched, stays_took_chunk}
use Rattle.oc_laws_tree.proofs.LeasesAhead.{leased_merge_other, of_merges}
use Rattle.oc_laws_tree.proofs.Rows.{IsLiveRow, lease_row, row_lease}
use Rattle.oc_laws_rest.proofs.Said.{among_last}
use Rattle.oc_laws_rest.proofs.Rows.{renewed}

-- Lease ends

-- setting an item leaves one that has the same value
kept_set : (ends : List (Option ℕ)) (i j v : ℕ) → get_or ends j None ≡ Some v → get_or (set ends i (Some v)) j None ≡ Some v
kept_set [] i j v e = absurd cc
kept_set (f ∷ fs) zero zero v e = refl
kept_set (f ∷ fs) zero (suc j) v e = e
kept_set (f ∷ fs) (suc i) zero v e = e
kept_set (f ∷ fs) (suc i) (suc j) v e = kept_set fs i j v e

module _ (x s : ℕ) where
  -- the lease of x at the number s is held, and ends a whole lease's time from now
  abbrev pub IsFull : ℕ → List Cert → List (Option ℕ) → ℕ → Type 0
  IsFull me t ends clock = (leased_by t me x ≡ Some s) × (at ends x None ≡ Some (clock + lease_time))

  -- a word that does not end the lease of x: it is about another node, or known, or says the same
  abbrev IsHarmless : List Cert → ℕ → Cert → Type 0
  IsHarmless t me c = (c.subject ≡ x → ⊥) ⊎ (Knows t c ⊎ ((c.dead ≡ false) × (c.parent ≡ me) × (c.seq ≡ s)))

  merged_lease : (t : List Cert) (me : ℕ) (c : Cert) → IsHarmless t me c → leased_by t me x ≡ Some s → leased_by (merge t c) me x ≡ Some s
  merged_lease t me c harmless leased = ⊎_elim
      (λ other. leased_merge_other t c me x other ∙ leased)
      (λ rest. ⊎_elim
      (λ known. ap (λ (b : Bool). leased_by (if b then put t c else t) me x) known ∙ leased)
      (λ same. ⊎_elim
      (λ here. cond_both (is_news t c) (put t c) t (λ (u : List Cert). leased_by u me x ≡ Some s)
      (λ _. row_lease (put t c) me x s c.number c (record { found = newest-put_same t c x here; alive = same.0; parent = same.1; seq = same.2; number = omega arith }))
      (λ _. leased))
      (λ other. leased_merge_other t c me x other ∙ leased)
      (cases_eq c.subject x))
      rest)
      harmless

  -- certificates that leave the lease, and what is known of lease ends and the clock
  abbrev Takes : (List (Option ℕ) → ℕ → Type 0) → List Cert → ℕ → List Cert → List (Option ℕ) → ℕ → Type 0
  Takes E cs me t ends clock = ((c : Cert) → IsAmong c cs → IsHarmless t me c) × (leased_by t me x ≡ Some s) × E ends clock

  abbrev Leased : (List (Option ℕ) → ℕ → Type 0) → ℕ → List Cert → List (Option ℕ) → ℕ → Type 0
  Leased E me t ends clock = (leased_by t me x ≡ Some s) × E ends clock

  harmless_on : (t : List Cert) (me : ℕ) (c d : Cert) → IsHarmless t me d → IsHarmless (merge t c) me d
  harmless_on t me c d h = ⊎_elim (λ other. inl other) (λ rest. ⊎_elim (λ known. inr (inl (merge_keeps t c d known))) (λ same. inr (inr same)) rest) h

  all_merged : (E : List (Option ℕ) → ℕ → Type 0) (cs : List Cert) (o : Plan) → OfPlan (Takes E cs) o → OfPlan (Leased E) (merges_all cs o)
  all_merged E [] o h = (h.1, h.2)
  all_merged E (c ∷ cs) o h =
      all_merged E cs (merges o c) (of_merges (Takes E cs) o c (
        λ d among. harmless_on o.node.kept.table o.node.me c d (h.0 d (inr among)),
        merged_lease o.node.kept.table o.node.me c (h.0 c (inl refl)) h.1,
        h.2,
      ))

  -- Check-ins

  -- known words on x
  abbrev AreKnown : List Cert → List Cert → Type 0
  AreKnown t certs = (c : Cert) → IsAmong c certs → c.subject ≡ x → Knows t c

  -- what a child of this node tells of itself, and the other certificates
  all_harmless : (o : Plan) (y seq number clients : ℕ) (certs : List Cert) → AreKnown o.node.kept.table certs → (y ≡ x → seq ≡ s) → (c : Cert) → IsAmong c (life y seq o.node.me number clients ∷ certs)
      → IsHarmless o.node.kept.table o.node.me c
  all_harmless o y seq number clients certs known same c (inl e) = ⊎_elim
      (λ here. inr (inr (subst (λ (k : Cert). (k.dead ≡ false) × (k.parent ≡ o.node.me) × (k.seq ≡ s)) e (refl, refl, same here))))
      (λ other. inl (subst (λ (k : Cert). k.subject ≡ x → ⊥) e other))
      (cases_eq y x)
  all_harmless o y seq number clients certs known same c (inr among) = ⊎_elim (λ here. inr (inl (known c among here))) (λ other. inl other) (cases_eq c.subject x)

  -- a check-in of x itself renews its lease, or is answered by a call to ask anew
  pub checked_in_renews : (p : ℕ) (o : Plan) (upto rate number clients : ℕ) (certs : List Cert) → o.node.me ≡ p → 1 ≤ x → x ≤ length o.node.leases → (leased_by o.node.kept.table o.node.me x ≡ Some s → AreKnown o.node.kept.table certs)
      → OfPlan IsFull (checked_in o x s upto rate number clients certs) ⊎ IsAmong (record { from = p; to = x; body = bodies.Rejoin s }) (checked_in o x s upto rate number clients certs).sends
  checked_in_renews p o upto rate number clients certs me least most known =
      let told : List Cert = life x s o.node.me number clients ∷ certs in
      let merged : Plan = merges_all told o in
      cond_both (has_lease o.node x s) (acknowledges merged x s upto rate) (sends_rejoin o x s) (λ (q : Plan). OfPlan IsFull q ⊎ IsAmong (record { from = p; to = x; body = bodies.Rejoin s }) q.sends)
      (λ e.
      let leased : leased_by o.node.kept.table o.node.me x ≡ Some s = number_held (leased_by o.node.kept.table o.node.me x) s e in
      let done = all_merged (λ ends clock. x ≤ length ends) told o (all_harmless o x s number clients certs (known leased) (λ _. refl), leased, most) in
      inl (done.0, renewed merged.node.leases x merged.node.soft.clock least done.1))
      (λ _. inr (subst (λ (y : ℕ). IsAmong (record { from = y; to = x; body = bodies.Rejoin s }) (o.sends ++ record { from = o.node.me; to = x; body = bodies.Rejoin s } ∷ [])) me
      (among_last o.sends (record { from = o.node.me; to = x; body = bodies.Rejoin s }))))

  -- Asks

  -- an older birth is no news beside the lease
  old_birth : (t : List Cert) (me y seq : ℕ) → (y ≡ x → seq ≤ s) → leased_by t me x ≡ Some s → IsHarmless t me (birth y seq me)
  old_birth t me y seq old leased = ⊎_elim (λ here. inr (inl (by_row here (lease_row t me x s leased)))) (λ other. inl other) (cases_eq y x) where
    by_row : y ≡ x → (k : Cert) × IsLiveRow t x me s k.number k → Knows t (birth y seq me)
    by_row here (k, row) = ap (λ (o : Option Cert). is_news_to o (birth y seq me)) (ap (newest t) here ∙ row.found) ∙ false_from_ne_true (outranks (birth y seq me) k) (λ e. by_fact (old here) (outranks_fact (birth y seq me) k e)) where
      by_fact : seq ≤ s → Outranks (birth y seq me) k → ⊥
      by_fact low (inl more) = omega (arith, more, row.seq, low)
      by_fact low (inr (inl death)) = absurd cc
      by_fact low (inr (inr number)) = omega (arith, number.2)

  -- A message

  -- it has no newer ask of x, and no news of it
  abbrev pub IsOld : Control → ℕ → Body → Type 0
  IsOld n p (bodies.Ask seq rank) = p ≡ x → seq ≤ s
  IsOld n p (bodies.CheckIn seq upto rate number clients certs) = (c : Cert) → IsAmong c certs → c.subject ≡ x → Knows n.kept.table c
  IsOld n p b = Unit {0}

  -- what is known of lease ends stays where a lease is renewed
  module _ (E : List (Option ℕ) → ℕ → Type 0) (renews : (ends : List (Option ℕ)) (y clock : ℕ) → E ends clock → E (renew ends y clock) clock) where
    checked_in_leased : (o : Plan) (y seq upto rate number clients : ℕ) (certs : List Cert) → AreKnown o.node.kept.table certs → OfPlan (Leased E) o → OfPlan (Leased E) (checked_in o y seq upto rate number clients certs)
    checked_in_leased o y seq upto rate number clients certs known h =
        let told : List Cert = life y seq o.node.me number clients ∷ certs in
        let merged : Plan = merges_all told o in
        cond_both (has_lease o.node y seq) (acknowledges merged y seq upto rate) (sends_rejoin o y seq) (OfPlan (Leased E))
        (λ e.
        let done : OfPlan (Leased E) merged = all_merged E told o (all_harmless o y seq number clients certs known (same e), h.0, h.1) in
        (done.0, renews merged.node.leases y merged.node.soft.clock done.1))
        (λ _. h) where
          same : has_lease o.node y seq ≡ true → y ≡ x → seq ≡ s
          same e here =
              let held : leased_by o.node.kept.table o.node.me x ≡ Some seq = subst (λ (z : ℕ). leased_by o.node.kept.table o.node.me z ≡ Some seq) here (number_held (leased_by o.node.kept.table o.node.me y) seq e) in
              let both : Some seq ≡ Some s = sym held ∙ h.0 in
              cc

    adopts_leased : (o : Plan) (y seq : ℕ) → (y ≡ x → seq ≤ s) → OfPlan (Leased E) o → OfPlan (Leased E) (adopts o y seq)
    adopts_leased o y seq old h =
        let born : Cert = birth y seq o.node.me in
        let entered : Plan = write o (records.Entry born) in
        either (has_lease o.node y seq) (OfPlan (Leased E)) (grants o y seq) (if is_news o.node.kept.table born then grants entered y seq else sends_rejoin o y seq)
        (h.0, renews o.node.leases y o.node.soft.clock h.1)
        (either (is_news o.node.kept.table born) (OfPlan (Leased E)) (grants entered y seq) (sends_rejoin o y seq)
        (merged_lease o.node.kept.table o.node.me born (old_birth o.node.kept.table o.node.me y seq old h.0) h.0, renews o.node.leases y o.node.soft.clock h.1)
        h)

    answers_leased : (why : Option Refusal) (o : Plan) (y seq : ℕ) → (y ≡ x → seq ≤ s) → OfPlan (Leased E) o → OfPlan (Leased E) (answers_ask why o y seq)
    answers_leased None o y seq old h = adopts_leased o y seq old h
    answers_leased (Some why) o y seq old h = h

    asked_leased : (o : Plan) (y seq : ℕ) (r : Option Rank) → (y ≡ x → seq ≤ s) → OfPlan (Leased E) o → OfPlan (Leased E) (asked o y seq r)
    asked_leased o y seq r old h =
        let raised : Plan = raises_over o y (rank_or_last r) in
        answers_leased (adoption_refusal (host raised.node y) y r) raised y seq old (stays_raises_over (Leased E) o y (rank_or_last r) h)

    received_leased : (n : Control) (ls : List Shelf) (p : ℕ) (b : Body) → IsOld n p b → OfPlan (Leased E) (begun n) → OfPlan (Leased E) (received (begun n) ls p b)
    received_leased n ls p bodies.Look old h = h
    received_leased n ls p (bodies.LookIs is_in parent rate children) old h = stays_sees (Leased E) (begun n) p (record { in_tree = is_in; parent = parent; rate = rate; children = children }) h
    received_leased n ls p (bodies.Ask seq rank) old h = asked_leased (begun n) p seq rank old h
    received_leased n ls p (bodies.Yes seq rank ancestors) old h = stays_took_yes (Leased E) (begun n) p seq rank ancestors h
    received_leased n ls p (bodies.No seq why) old h = stays_took_no (Leased E) (begun n) p seq why h
    received_leased n ls p (bodies.CheckIn seq upto rate number clients certs) old h = checked_in_leased (begun n) p seq upto rate number clients certs old h
    received_leased n ls p (bodies.CheckAck seq upto rank ancestors) old h = stays_took_ack (Leased E) (begun n) p seq upto rank ancestors h
    received_leased n ls p (bodies.Rejoin seq) old h = stays_took_rejoin (Leased E) (begun n) p seq h
    received_leased n ls p (bodies.Fetch have) old h = stays_fetched (Leased E) (begun n) ls p have h
    received_leased n ls p (bodies.Chunk g start bytes last) old h = stays_took_chunk (Leased E) (begun n) ls p g start bytes last h

    pub message_leased : (n : Node) (m : Message) → IsOld n.control m.from m.body → OfLeases (Leased E) n.control → OfLeases (Leased E) (step n (Delivered m)).node.control
    message_leased n m old h = received_leased n.control (shelf n.groups) m.from m.body old h

    pub failure_leased : (n : Node) (q : ℕ) → OfLeases (Leased E) n.control → OfLeases (Leased E) (step n (Unreachable q)).node.control
    failure_leased n q h = stays_unreachable (Leased E) (begun n.control) q h

  abbrev pub HasFull : Control → Type 0
  HasFull n = IsFull n.me n.kept.table n.leases n.soft.clock

  -- the end of the lease
  abbrev FullEnd : List (Option ℕ) → ℕ → Type 0
  FullEnd ends clock = at ends x None ≡ Some (clock + lease_time)

  full_renews : (ends : List (Option ℕ)) (y clock : ℕ) → FullEnd ends clock → FullEnd (renew ends y clock) clock
  full_renews ends y clock e = kept_set ends (y - 1) (x - 1) (clock + lease_time) e

  pub message_full : (n : Node) (m : Message) → IsOld n.control m.from m.body → HasFull n.control → HasFull (step n (Delivered m)).node.control
  message_full n m old h = message_leased FullEnd full_renews n m old h

  pub failure_full : (n : Node) (q : ℕ) → HasFull n.control → HasFull (step n (Unreachable q)).node.control
  failure_full n q h = failure_leased FullEnd full_renews n q h

  -- the node holds the lease of x at the number s
  abbrev pub HasIt : Control → Type 0
  HasIt n = leased_by n.kept.table n.me x ≡ Some s

  abbrev AnyEnd : List (Option ℕ) → ℕ → Type 0
  AnyEnd ends clock = Unit {0}

  pub message_has : (n : Node) (m : Message) → IsOld n.control m.from m.body → HasIt n.control → HasIt (step n (Delivered m)).node.control
  message_has n m old h = (message_leased AnyEnd (λ ends y clock e. tt) n m old (h, tt)).0

  pub failure_has : (n : Node) (q : ℕ) → HasIt n.control → HasIt (step n (Unreachable q)).node.control
  failure_has n q h = (failure_leased AnyEnd (λ ends y clock e. tt) n q (h, tt)).0

  -- What a yes says

  module _ (R : Type 0) where
    -- a yes of this step is for x and for the number s, and the lease is full, where R holds
    abbrev pub IsGrant : Control → Message → Type 0
    IsGrant n m = (seq : ℕ) (r : Rank) (xs : List ℕ) → m.body ≡ bodies.Yes seq r xs → (m.to ≡ x) × (seq ≡ s) × (R → HasFull n)

    abbrev pub AreGrants : Control → List Message → Type 0
    AreGrants n ms = AllByRecursion (IsGrant n) ms

    -- there is a place for the lease end of x
    abbrev InRange : ℕ → List Cert → List (Option ℕ) → ℕ → Type 0
    InRange me t ends clock = R → (1 ≤ x) × (x ≤ length ends)

    one_grant : (n : Control) (o : Plan) (m : Message) → o.sends ≡ [] → IsGrant n m → AreGrants n (o.sends ++ m ∷ [])
    one_grant n o m none is = subst (λ (ms : List Message). AreGrants n (ms ++ m ∷ [])) (sym none) (is, tt)

    grants_all : (o : Plan) → o.sends ≡ [] → OfPlan InRange o → leased_by o.node.kept.table o.node.me x ≡ Some s → AreGrants (grants o x s).node (grants o x s).sends
    grants_all o none range leased =
        one_grant (grants o x s).node o (record { from = o.node.me; to = x; body = bodies.Yes s (rank_or_last o.node.kept.rank) o.node.kept.ancestors }) none
        (λ seq r xs e. (refl, same seq r xs e, λ given. let within = range given in (leased, renewed o.node.leases x o.node.soft.clock within.0 within.1))) where
          same : (seq : ℕ) (r : Rank) (xs : List ℕ) → bodies.Yes s (rank_or_last o.node.kept.rank) o.node.kept.ancestors ≡ bodies.Yes seq r xs → seq ≡ s
          same seq r xs e = cc

    adopts_grants : (o : Plan) → o.sends ≡ [] → OfPlan InRange o → AreGrants (adopts o x s).node (adopts o x s).sends
    adopts_grants o none range =
        let born : Cert = birth x s o.node.me in
        let entered : Plan = write o (records.Entry born) in
        cond_both (has_lease o.node x s) (grants o x s) (if is_news o.node.kept.table born then grants entered x s else sends_rejoin o x s) (λ (q : Plan). AreGrants q.node q.sends)
        (λ e. grants_all o none range (number_held (leased_by o.node.kept.table o.node.me x) s e))
        (λ _. cond_both (is_news o.node.kept.table born) (grants entered x s) (sends_rejoin o x s) (λ (q : Plan). AreGrants q.node q.sends)
        (λ e. grants_all entered none range
        (ap (λ (b : Bool). leased_by (if b then put o.node.kept.table born else o.node.kept.table) o.node.me x) e
        ∙ row_lease (put o.node.kept.table born) o.node.me x s 0 born (record { found = newest-put_same o.node.kept.table born x refl; alive = refl; parent = refl; seq = refl; number = omega arith })))
        (λ _. one_grant o.node o (record { from = o.node.me; to = x; body = bodies.Rejoin s }) none (λ seq r xs e. absurd cc)))

    answers_grants : (why : Option Refusal) (o : Plan) → o.sends ≡ [] → OfPlan InRange o → AreGrants (answers_ask why o x s).node (answers_ask why o x s).sends
    answers_grants None o none range = adopts_grants o none range
    answers_grants (Some why) o none range = one_grant o.node o (record { from = o.node.me; to = x; body = bodies.No s why }) none (λ seq r xs e. absurd cc)

    asked_grants : (n : Control) (r : Option Rank) → (R → (1 ≤ x) × (x ≤ length n.leases)) → AreGrants (asked (begun n) x s r).node (asked (begun n) x s r).sends
    asked_grants n r range =
        let raised : Plan = raises_over (begun n) x (rank_or_last r) in
        answers_grants (adoption_refusal (host raised.node x) x r) raised (none_sent (raise (rank_or_last r).epoch)) (stays_raises_over InRange (begun n) x (rank_or_last r) range) where
          none_raised : (e : Option ℕ) → (raises (begun n) e).sends ≡ []
          none_raised None = refl
          none_raised (Some f) = refl

          none_sent : (e : Option ℕ) → (if is_acting n.kept.mode && not (precedes (rank_or_last n.kept.rank) (rank_or_last r)) && not (x == n.me) then raises (begun n) e else begun n).sends ≡ []
          none_sent e = either (is_acting n.kept.mode && not (precedes (rank_or_last n.kept.rank) (rank_or_last r)) && not (x == n.me)) (λ (q : Plan). q.sends ≡ []) (raises (begun n) e) (begun n) (none_raised e) refl

    -- each yes of the step that takes an ask
    pub ask_grants : (n : Node) (p : ℕ) (r : Option Rank) → (R → (1 ≤ x) × (x ≤ length n.control.leases))
        → AreGrants (step n (Delivered (record { from = x; to = p; body = bodies.Ask s r }))).node.control (step n (Delivered (record { from = x; to = p; body = bodies.Ask s r }))).sends
    ask_grants n p r range =
        let i : Input = Delivered (record { from = x; to = p; body = bodies.Ask s r }) in
        subst (AreGrants (step n i).node.control) (sym (dry_sends n i (keeps_asked (shelf n.groups) (λ o. o.wants ≡ None) (dry (shelf n.groups)) (begun n.control) x s r refl))) (asked_grants n.control r range)

  -- the step that takes a check-in of x renews its lease, or calls it back
  pub report_renews : (n : Node) (p upto rate number clients : ℕ) (certs : List Cert) → n.control.me ≡ p → 1 ≤ x → x ≤ length n.control.leases
      → (leased_by n.control.kept.table n.control.me x ≡ Some s → (c : Cert) → IsAmong c certs → c.subject ≡ x → Knows n.control.kept.table c)
      → HasFull (step n (Delivered (record { from = x; to = p; body = bodies.CheckIn s upto rate number clients certs }))).node.control
      ⊎ IsAmong (record { from = p; to = x; body = bodies.Rejoin s }) (step n (Delivered (record { from = x; to = p; body = bodies.CheckIn s upto rate number clients certs }))).sends
  report_renews n p upto rate number clients certs me least most known =
      let i : Input = Delivered (record { from = x; to = p; body = bodies.CheckIn s upto rate number clients certs }) in
      let sends : List Message = (checked_in (begun n.control) x s upto rate number clients certs).sends in
      ⊎_elim (λ full. inl full)
      (λ one. inr (subst (IsAmong (record { from = p; to = x; body = bodies.Rejoin s }))
      (sym (dry_sends n i (keeps_checked_in (shelf n.groups) (λ o. o.wants ≡ None) (dry (shelf n.groups)) (begun n.control) x s upto rate number clients certs refl))) one))
      (checked_in_renews p (begun n.control) upto rate number clients certs me least most known)

-- Other steps send no yes, and an ask number never falls

abbrev pub IsNoYes : Message → Type 0
IsNoYes m = (seq : ℕ) (r : Rank) (xs : List ℕ) → m.body ≡ bodies.Yes seq r xs → ⊥

abbrev pub AreNoYes : List Message → Type 0
AreNoYes ms = AllByRecursion IsNoYes ms

module _ (came : ℕ → Body → Type 0) (none : (p s : ℕ) (r : Option Rank) → came p (bodies.Ask s r) → ⊥) where
  no_more : (n : Control) (ms : List Message) (p : ℕ) (b : Body) → ((seq : ℕ) (r : Rank) (xs : List ℕ) → b ≡ bodies.Yes seq r xs → ⊥) → AreNoYes ms → AreNoYes (and_sent n ms p b)
  no_more n ms p b other h = all_append IsNoYes ms (record { from = n.me; to = p; body = b } ∷ []) h (other, tt)

  quiet_machine : IsMachine came (λ n ms. AreNoYes ms)
  quiet_machine = record {
    soft = λ n ms s h. h;
    lists = λ n ms leases rates counts h. h;
    aside = λ n ms ancestors measures h. h;
    falls = λ n ms h. h;
    asks = λ n ms p e1 h. h;
    acts = λ n ms h. h;
    raises = λ n ms e e1 e2 h. h;
    joins = λ n ms p r xs e1 e2 e3 e4 h. h;
    ranks = λ n ms p upto r xs e1 e2 e3 h. h;
    acks = λ n ms p upto r xs e1 e2 e3 h. h;
    adopts = λ n ms x s r e1 e2 e3 h. h;
    merges = λ n ms x s upto rate number clients certs c e1 e2 e3 h. h;
    ends = λ n ms x k e1 e2 e3 h. h;
    counts = λ n ms clients e1 h. h;
    says = λ n ms p b loose h. no_more n ms p b (λ seq r xs e. subst IsLoose e loose) h;
    says_ask = λ n ms p e1 h. no_more n ms p (bodies.Ask n.kept.seq n.kept.rank) (λ seq r xs e. absurd cc) h;
    says_yes = λ n ms x s r asked e2 e3 h. absurd (none x s r asked);
    says_check_in = λ n ms p rate e1 h. no_more n ms p (bodies.CheckIn n.kept.seq (place_after n.kept.log) rate n.kept.number n.kept.clients (next_certs n.kept.log)) (λ seq r xs e. absurd cc) h;
    says_check_ack = λ n ms x s upto rate number clients certs e1 e2 h. no_more n ms x (bodies.CheckAck s upto (rank_or_last n.kept.rank) n.kept.ancestors) (λ seq r xs e. absurd cc) h;
    drops = λ n ms h. tt;
    starts = λ n ms h. h;
  }

  pub step_quiet : (n : Node) (i : Input) → IsTable n.control.kept.table → HasCome came i → AreNoYes (step n i).sends
  step_quiet n i is_table has_come = walks_step came (λ c ms. AreNoYes ms) quiet_machine n i is_table has_come tt

abbrev came_any : ℕ → Body → Type 0
came_any p b = Unit {0}

rising_machine : (s : ℕ) → IsMachine came_any (λ n ms. s ≤ n.kept.seq)
rising_machine s = record {
  soft = λ n ms t h. h;
  lists = λ n ms leases rates counts h. h;
  aside = λ n ms ancestors measures h. h;
  falls = λ n ms h. h;
  asks = λ n ms p e1 h. omega (arith, h);
  acts = λ n ms h. h;
  raises = λ n ms e e1 e2 h. h;
  joins = λ n ms p r xs e1 e2 e3 e4 h. h;
  ranks = λ n ms p upto r xs e1 e2 e3 h. h;
  acks = λ n ms p upto r xs e1 e2 e3 h. h;
  adopts = λ n ms x t r e1 e2 e3 h. h;
  merges = λ n ms x t upto rate number clients certs c e1 e2 e3 h. h;
  ends = λ n ms x k e1 e2 e3 h. h;
  counts = λ n ms clients e1 h. h;
  says = λ n ms p b e1 h. h;
  says_ask = λ n ms p e1 h. h;
  says_yes = λ n ms x t r e1 e2 e3 h. h;
  says_check_in = λ n ms p rate e1 h. h;
  says_check_ack = λ n ms x t upto rate number clients certs e1 e2 h. h;
  drops = λ n ms h. h;
  starts = λ n ms h. h;
}

pub step_rises : (n : Node) (i : Input) → IsTable n.control.kept.table → HasCome (λ p b. Unit {0}) i → n.control.kept.seq ≤ (step n i).node.control.kept.seq
step_rises n i is_table came = walks_step came_any (λ c ms. n.control.kept.seq ≤ c.kept.seq) (rising_machine n.control.kept.seq) n i is_table came (omega arith)
