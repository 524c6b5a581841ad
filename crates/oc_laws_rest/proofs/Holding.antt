-- A node that holds the lease of a child keeps it at a tick before the lease's end, and does not call the child back.
use Rattle.std.proofs.Common.{◌≡◌, ℕ, ◌+◌, ◌-◌, ◌<◌, max, true, false, not, ◌&&◌, ◌==◌, nat_le, if◌then◌else◌, Option, Some, None, List, [], ◌∷◌, ◌++◌, inl, inr, get_or, refl, ap, sym, subst, ◌∙◌, ⊎_elim, arith, eq-eqb}
use Rattle.std.specs.List.{AllByRecursion}
use Rattle.std.proofs.lemmas.Bool.{cond_both, true≢false, leb-true}
use Rattle.oc_base.specs.declared.cert.Cert.{Cert}
use Rattle.oc_base.specs.declared.rank.Rank.{Rank}
use Rattle.oc_base.specs.declared.refusal.Refusal.{Refusal}
use Rattle.oc_base.specs.Groups.{shelf}
use Rattle.oc_model.specs.declared.input.Input.{Input}
use Rattle.oc_model.specs.declared.input.Input.TheVariants.{Tick, Delivered}
use Rattle.oc_model.specs.declared.message.Body.{Body}
use Rattle.oc_model.specs.declared.message.Body.TheVariants as bodies
use Rattle.oc_model.specs.declared.message.Message.{Message}
use Rattle.oc_model.specs.declared.record.Record.TheVariants as records
use Rattle.oc_model.specs.Adopting.{is_acting, is_number, raises, raises_over, host, birth, has_lease, grants, sends_rejoin, adopts, answers_ask, asked}
use Rattle.oc_model.specs.Adoption.{precedes, rank_or_last, adoption_refusal}
use Rattle.oc_model.specs.Checking.{merges, merges_all, at_time, starts_leases, dies, ends_each, ends_leases, checks_if_due, acknowledges, life, checked_in}
use Rattle.oc_model.specs.Leases.{lease_time, start_if, start_each, is_over, ended}
use Rattle.oc_model.specs.Node.{Node}
use Rattle.oc_model.specs.Numbers.{raise, at}
use Rattle.oc_model.specs.Plan.{Plan, begun, write}
use Rattle.oc_model.specs.Step.{step}
use Rattle.oc_model.specs.Table.{newest, is_news, leased_by, leased_children}
use Rattle.oc_model.specs.WorldBounds.{IsOneOf}
use Rattle.oc_model.proofs.Lists.{all_append, all_weaker}
use Rattle.oc_model.proofs.Members.{of_filter}
use Rattle.oc_model.proofs.Rules.{either, keeps_asked, keeps_checked_in}
use Rattle.oc_laws_step.proofs.Tables.{newest-subject}
use Rattle.oc_laws_tree.proofs.CheckIns.{dry, dry_sends}
use Rattle.oc_laws_tree.proofs.LeaseRules.{OfPlan, stays_raises_over, stays_checks_if_due, stays_fetches_as}
use Rattle.oc_laws_tree.proofs.LeasesAhead.{leased_merge_other, of_merges}
use Rattle.oc_laws_tree.proofs.Ticks.{set_at}
use Rattle.oc_laws_rest.proofs.Unasked.{IsStart, AreStarts, IsUnasked, message_starts}

-- A tick

-- lease ends that are set stay where others begin
kept_start : (x now end y : ℕ) (e : Option ℕ) (ends : List (Option ℕ)) → at ends y None ≡ e → at ends x None ≡ Some end → at (start_if e ends y now) x None ≡ Some end
kept_start x now end y (Some t) ends found here = here
kept_start x now end y None ends found here = ⊎_elim
    (λ same.
    let clash : None ≡ Some end = sym found ∙ (ap (λ (i : ℕ). get_or ends i None) same.0 ∙ here) in
    absurd cc)
    (λ other. other ∙ here)
    (set_at ends (y - 1) (x - 1) (Some (now + lease_time)))

pub kept_starts : (x now end : ℕ) (ys : List ℕ) (ends : List (Option ℕ)) → at ends x None ≡ Some end → at (start_each ys ends now) x None ≡ Some end
kept_starts x now end [] ends here = here
kept_starts x now end (y ∷ ys) ends here = kept_starts x now end ys (start_if (at ends y None) ends y now) (kept_start x now end y (at ends y None) ends refl here)

module _ (x s : ℕ) where
  -- the lease of x is held
  abbrev Holds : ℕ → List Cert → List (Option ℕ) → ℕ → Type 0
  Holds me t ends clock = leased_by t me x ≡ Some s

  -- the deaths of others
  holds_ends : (ys : List ℕ) (o : Plan) → (IsOneOf x ys → ⊥) → OfPlan Holds o → OfPlan Holds (ends_each ys o)
  holds_ends [] o out h = h
  holds_ends (y ∷ ys) o out h = holds_ends ys (dies (newest o.node.kept.table y) o) (λ later. out (inr later)) (by_row (newest o.node.kept.table y) refl) where
    by_row : (e : Option Cert) → newest o.node.kept.table y ≡ e → OfPlan Holds (dies e o)
    by_row None found = h
    by_row (Some k) found =
        of_merges Holds o (record k { dead = true })
        (leased_merge_other o.node.kept.table (record k { dead = true }) o.node.me x (λ same. out (inl (sym same ∙ newest-subject o.node.kept.table y k found))) ∙ h)

  -- a tick before the end of the lease leaves it
  pub tick_holds : (n : Node) (t end : ℕ) → leased_by n.control.kept.table n.control.me x ≡ Some s → at n.control.leases x None ≡ Some end → max n.control.soft.clock t < end
      → leased_by (step n (Tick t)).node.control.kept.table (step n (Tick t)).node.control.me x ≡ Some s
  tick_holds n t end leased is_set ahead =
      let started : Plan = starts_leases (at_time (begun n.control) t) in
      let over : Plan = ends_leases started in
      let now : ℕ = max n.control.soft.clock t in
      let here : at started.node.leases x None ≡ Some end = kept_starts x now end (leased_children n.control.kept.table n.control.me) n.control.leases is_set in
      let checked : Plan = checks_if_due over in
      stays_fetches_as Holds checked.node.kept.mode checked (shelf n.groups)
      (stays_checks_if_due Holds over
      (holds_ends (ended started.node.kept.table started.node.me started.node.leases started.node.soft.clock) started
      (λ one.
      let passed = of_filter (λ y. is_over (at started.node.leases y None) now) (leased_children started.node.kept.table started.node.me) x one in
      let over_now : nat_le end now ≡ true = sym (ap (λ (e : Option ℕ). is_over e now) here) ∙ passed.0 in
      omega (arith, ahead, leb-true end now over_now))
      leased))

  -- No call to ask anew

  -- it does not call x back by this number
  abbrev pub IsNoCall : Message → Type 0
  IsNoCall m = m.to ≡ x → m.body ≡ bodies.Rejoin s → ⊥

  abbrev NoCalls : Plan → Type 0
  NoCalls o = AllByRecursion IsNoCall o.sends

  no_send : (o : Plan) (y : ℕ) (b : Body) → (y ≡ x → b ≡ bodies.Rejoin s → ⊥) → NoCalls o → AllByRecursion IsNoCall (o.sends ++ record { from = o.node.me; to = y; body = b } ∷ [])
  no_send o y b other h = all_append IsNoCall o.sends (record { from = o.node.me; to = y; body = b } ∷ []) h (other, tt)

  -- a call to ask anew goes to one that has no lease
  no_rejoin : (o : Plan) (y seq : ℕ) → OfPlan Holds o → has_lease o.node y seq ≡ false → NoCalls o → NoCalls (sends_rejoin o y seq)
  no_rejoin o y seq leased unleased h = no_send o y (bodies.Rejoin seq) here h where
    here : y ≡ x → bodies.Rejoin seq ≡ bodies.Rejoin s → ⊥
    here same e =
        let number : seq ≡ s = cc in
        let held : leased_by o.node.kept.table o.node.me y ≡ Some seq = ap (leased_by o.node.kept.table o.node.me) same ∙ (leased ∙ ap Some (sym number)) in
        true≢false (sym (ap (λ (l : Option ℕ). is_number l seq) held ∙ eq-eqb seq seq refl) ∙ unleased)

  no_adopts : (o : Plan) (y seq : ℕ) → OfPlan Holds o → NoCalls o → NoCalls (adopts o y seq)
  no_adopts o y seq leased h =
      let born : Cert = birth y seq o.node.me in
      let entered : Plan = write o (records.Entry born) in
      let yes : Body = bodies.Yes seq (rank_or_last o.node.kept.rank) o.node.kept.ancestors in
      cond_both (has_lease o.node y seq) (grants o y seq) (if is_news o.node.kept.table born then grants entered y seq else sends_rejoin o y seq) NoCalls
      (λ _. no_send o y yes (λ same e. absurd cc) h)
      (λ unleased. either (is_news o.node.kept.table born) NoCalls (grants entered y seq) (sends_rejoin o y seq) (no_send o y yes (λ same e. absurd cc) h) (no_rejoin o y seq leased unleased h))

  no_answers : (why : Option Refusal) (o : Plan) (y seq : ℕ) → OfPlan Holds o → NoCalls o → NoCalls (answers_ask why o y seq)
  no_answers None o y seq leased h = no_adopts o y seq leased h
  no_answers (Some why) o y seq leased h = no_send o y (bodies.No seq why) (λ same e. absurd cc) h

  no_asked : (o : Plan) (y seq : ℕ) (r : Option Rank) → OfPlan Holds o → NoCalls o → NoCalls (asked o y seq r)
  no_asked o y seq r leased h =
      let raised : Plan = raises_over o y (rank_or_last r) in
      no_answers (adoption_refusal (host raised.node y) y r) raised y seq (stays_raises_over Holds o y (rank_or_last r) leased)
      (either (is_acting o.node.kept.mode && not (precedes (rank_or_last o.node.kept.rank) (rank_or_last r)) && not (y == o.node.me)) NoCalls (raises o (raise (rank_or_last r).epoch)) o (no_raises (raise (rank_or_last r).epoch)) h) where
        no_raises : (e : Option ℕ) → NoCalls (raises o e)
        no_raises None = h
        no_raises (Some e) = h

  no_merges : (cs : List Cert) (o : Plan) → NoCalls o → NoCalls (merges_all cs o)
  no_merges [] o h = h
  no_merges (c ∷ cs) o h = no_merges cs (merges o c) (either (is_news o.node.kept.table c) NoCalls (write o (records.Entry c)) o h h)

  no_checked_in : (o : Plan) (y seq upto rate number clients : ℕ) (certs : List Cert) → OfPlan Holds o → NoCalls o → NoCalls (checked_in o y seq upto rate number clients certs)
  no_checked_in o y seq upto rate number clients certs leased h =
      let told : List Cert = life y seq o.node.me number clients ∷ certs in
      let merged : Plan = merges_all told o in
      cond_both (has_lease o.node y seq) (acknowledges merged y seq upto rate) (sends_rejoin o y seq) NoCalls
      (λ _. no_send merged y (bodies.CheckAck seq upto (rank_or_last merged.node.kept.rank) merged.node.kept.ancestors) (λ same e. absurd cc) (no_merges told o h))
      (λ unleased. no_rejoin o y seq leased unleased h)

  -- no other step has one
  pub starts_call : (ms : List Message) → AreStarts ms → AllByRecursion IsNoCall ms
  starts_call ms all = all_weaker (λ m. IsStart m.body) IsNoCall (λ m is same e. subst IsStart e is) ms all

  pub message_calls : (n : Node) (m : Message) → leased_by n.control.kept.table n.control.me x ≡ Some s → AllByRecursion IsNoCall (step n (Delivered m)).sends
  message_calls n m leased = by_body m.body refl where
    asks : (seq : ℕ) (r : Option Rank) → AllByRecursion IsNoCall (step n (Delivered (record { from = m.from; to = m.to; body = bodies.Ask seq r }))).sends
    asks seq r =
        let i : Input = Delivered (record { from = m.from; to = m.to; body = bodies.Ask seq r }) in
        subst (AllByRecursion IsNoCall) (sym (dry_sends n i (keeps_asked (shelf n.groups) (λ o. o.wants ≡ None) (dry (shelf n.groups)) (begun n.control) m.from seq r refl))) (no_asked (begun n.control) m.from seq r leased tt)

    reports : (seq upto rate number clients : ℕ) (certs : List Cert) → AllByRecursion IsNoCall (step n (Delivered (record { from = m.from; to = m.to; body = bodies.CheckIn seq upto rate number clients certs }))).sends
    reports seq upto rate number clients certs =
        let i : Input = Delivered (record { from = m.from; to = m.to; body = bodies.CheckIn seq upto rate number clients certs }) in
        subst (AllByRecursion IsNoCall)
        (sym (dry_sends n i (keeps_checked_in (shelf n.groups) (λ o. o.wants ≡ None) (dry (shelf n.groups)) (begun n.control) m.from seq upto rate number clients certs refl)))
        (no_checked_in (begun n.control) m.from seq upto rate number clients certs leased tt)

    same : (b : Body) → m.body ≡ b → m ≡ record { from = m.from; to = m.to; body = b }
    same b e = ap (λ (c : Body). record { from = m.from; to = m.to; body = c }) e

    other : (b : Body) → m.body ≡ b → IsUnasked b → AllByRecursion IsNoCall (step n (Delivered m)).sends
    other b e is = starts_call (step n (Delivered m)).sends (message_starts n m (subst IsUnasked (sym e) is))

    by_body : (b : Body) → m.body ≡ b → AllByRecursion IsNoCall (step n (Delivered m)).sends
    by_body (bodies.Ask seq r) e = subst (λ (k : Message). AllByRecursion IsNoCall (step n (Delivered k)).sends) (sym (same (bodies.Ask seq r) e)) (asks seq r)
    by_body (bodies.CheckIn seq upto rate number clients certs) e =
        subst (λ (k : Message). AllByRecursion IsNoCall (step n (Delivered k)).sends) (sym (same (bodies.CheckIn seq upto rate number clients certs) e)) (reports seq upto rate number clients certs)
    by_body bodies.Look e = subst (λ (k : Message). AllByRecursion IsNoCall (step n (Delivered k)).sends) (sym (same bodies.Look e)) ((λ to f. absurd cc), tt)
    by_body (bodies.LookIs is_in parent rate children) e = other (bodies.LookIs is_in parent rate children) e tt
    by_body (bodies.Yes seq rank ancestors) e = other (bodies.Yes seq rank ancestors) e tt
    by_body (bodies.No seq why) e = other (bodies.No seq why) e tt
    by_body (bodies.CheckAck seq upto rank ancestors) e = other (bodies.CheckAck seq upto rank ancestors) e tt
    by_body (bodies.Rejoin seq) e = other (bodies.Rejoin seq) e tt
    by_body (bodies.Fetch have) e = other (bodies.Fetch have) e tt
    by_body (bodies.Chunk g start bytes last) e = other (bodies.Chunk g start bytes last) e tt
