-- A lease of a child that sends nothing more runs out: the effect of each input on its end.
use Rattle.std.proofs.Common.{◌≡◌, ℕ, ◌+◌, ◌-◌, ◌≤◌, max, Bool, true, false, not, ◌&&◌, ◌==◌, if◌then◌else◌, Option, Some, None, List, [], ◌∷◌, ◌⊎◌, inl, inr, length, refl, ap, sym, subst, ◌∙◌, ⊎_elim, arith, ne_eqb}
use Rattle.std.proofs.lemmas.Bool.{cases_eq, true≢false, and_right}
use Rattle.std.proofs.lemmas.List.{length-set}
use Rattle.oc_base.specs.declared.cert.Cert.{Cert}
use Rattle.oc_base.specs.declared.rank.Rank.{Rank}
use Rattle.oc_base.specs.declared.refusal.Refusal.{Refusal}
use Rattle.oc_base.specs.declared.shelf.Shelf.{Shelf}
use Rattle.oc_base.specs.Groups.{shelf}
use Rattle.oc_model.specs.declared.input.Input.TheVariants.{Tick, Unreachable, Delivered}
use Rattle.oc_model.specs.declared.message.Body.{Body}
use Rattle.oc_model.specs.declared.message.Body.TheVariants as bodies
use Rattle.oc_model.specs.declared.message.Message.{Message}
use Rattle.oc_model.specs.declared.record.Record.TheVariants as records
use Rattle.oc_model.specs.Adopting.{raises_over, host, birth, has_lease, grants, sends_rejoin, adopts, answers_ask, asked}
use Rattle.oc_model.specs.Adoption.{rank_or_last, adoption_refusal}
use Rattle.oc_model.specs.Checking.{merges, merges_all, at_time, starts_leases, dies, ends_each, ends_leases, checks_if_due, acknowledges, life, checked_in}
use Rattle.oc_model.specs.Leases.{lease_time, renew, start_if, start_each, ended}
use Rattle.oc_model.specs.Node.{Control, Node}
use Rattle.oc_model.specs.Numbers.{IsAmong, at}
use Rattle.oc_model.specs.Plan.{Plan, begun, write}
use Rattle.oc_model.specs.Step.{received, step}
use Rattle.oc_model.specs.Table.{newest, put, is_news, merge, is_lease_of, leased_by, leased_children}
use Rattle.oc_model.specs.WorldBounds.{IsOneOf}
use Rattle.oc_model.proofs.Rules.{either}
use Rattle.oc_laws_step.proofs.Tables.{merge_keeps}
use Rattle.oc_laws_tree.proofs.Known.{Knows}
use Rattle.oc_laws_tree.proofs.LeaseRules.{OfLeases, OfPlan, stays_took_yes, stays_took_no, stays_unreachable, stays_raises_over, stays_took_ack, stays_took_rejoin, stays_sees, stays_fetched, stays_took_chunk, stays_checks_if_due, stays_fetches_as}
use Rattle.oc_laws_tree.proofs.LeasesAhead.{leased_merge_other, leased_put_none, of_merges}
use Rattle.oc_laws_tree.proofs.LeaseTicks.{leased_among}
use Rattle.oc_laws_tree.proofs.Ticks.{set_at}
use Rattle.oc_laws_rest.proofs.Holding.{kept_starts}
use Rattle.oc_laws_rest.proofs.Mild.{IsMild}
use Rattle.oc_laws_rest.proofs.Rows.{renewed}

-- a lease after a merge was there before, if the merged word is a death, or known where it names the owner of the table
leased_back : (t : List Cert) (me x s : ℕ) (c : Cert) → (c.dead ≡ true) ⊎ (c.parent ≡ me → Knows t c) → leased_by (merge t c) me x ≡ Some s → leased_by t me x ≡ Some s
leased_back t me x s c old leased = ⊎_elim here (λ apart. sym (leased_merge_other t c me x apart) ∙ leased) (cases_eq c.subject x) where
  loose : is_news t c ≡ true → (c.dead ≡ true) ⊎ (c.parent ≡ me → Knows t c) → is_lease_of me c ≡ false
  loose news (inl dead) = ap (λ (b : Bool). not b && c.parent == me) dead
  loose news (inr known) = ⊎_elim (λ own. absurd (true≢false (sym news ∙ known own))) (λ other. and_right (not c.dead) (c.parent == me) (ne_eqb c.parent me other)) (cases_eq c.parent me)

  by_test : c.subject ≡ x → (b : Bool) → is_news t c ≡ b → leased_by (if b then put t c else t) me x ≡ Some s → leased_by t me x ≡ Some s
  by_test same true e found = let clash : None ≡ Some s = sym (leased_put_none t c me x same (loose e old)) ∙ found in absurd cc
  by_test same false e found = found

  here : c.subject ≡ x → leased_by t me x ≡ Some s
  here same = by_test same (is_news t c) refl leased

-- an end is set for each of these children, at the latest a lease's time from now
begun_end : (x now bound : ℕ) (ys : List ℕ) (ends : List (Option ℕ)) → IsOneOf x ys → 1 ≤ x → x ≤ length ends → now + lease_time ≤ bound → ((end : ℕ) → at ends x None ≡ Some end → end ≤ bound)
    → (end : ℕ) × (at (start_each ys ends now) x None ≡ Some end) × (end ≤ bound)
begun_end x now bound [] ends one least most soon old = absurd one
begun_end x now bound (y ∷ ys) ends one least most soon old = by_end (λ start more wide low. begun_end x now bound ys start more least wide soon low) (at ends x None) refl where
  set_now : (start : List (Option ℕ)) → at start x None ≡ Some (now + lease_time) → (end : ℕ) × (at (start_each ys start now) x None ≡ Some end) × (end ≤ bound)
  set_now start e = (now + lease_time, kept_starts x now (now + lease_time) ys start e, soon)

  later : ((start : List (Option ℕ)) → IsOneOf x ys → x ≤ length start → ((end : ℕ) → at start x None ≡ Some end → end ≤ bound) → (end : ℕ) × (at (start_each ys start now) x None ≡ Some end) × (end ≤ bound))
      → IsOneOf x ys → (e : Option ℕ) → at ends y None ≡ e → (end : ℕ) × (at (start_each ys (start_if e ends y now) now) x None ≡ Some end) × (end ≤ bound)
  later rest more (Some f) found = rest ends more most old
  later rest more None found = ⊎_elim
      (λ here. set_now (renew ends y now) here.2)
      (λ other. rest (renew ends y now) more (omega (arith, most, length-set ends (y - 1) (Some (now + lease_time)))) (λ end e. old end (sym other ∙ e)))
      (set_at ends (y - 1) (x - 1) (Some (now + lease_time)))

  first : x ≡ y → (e : Option ℕ) → at ends y None ≡ e → at ends x None ≡ None → (end : ℕ) × (at (start_each ys (start_if e ends y now) now) x None ≡ Some end) × (end ≤ bound)
  first same (Some f) found empty = let clash : None ≡ Some f = sym empty ∙ (ap (λ (z : ℕ). at ends z None) same ∙ found) in absurd cc
  first same None found empty = set_now (renew ends y now) (subst (λ (z : ℕ). at (renew ends z now) x None ≡ Some (now + lease_time)) same (renewed ends x now least most))

  by_end : ((start : List (Option ℕ)) → IsOneOf x ys → x ≤ length start → ((end : ℕ) → at start x None ≡ Some end → end ≤ bound) → (end : ℕ) × (at (start_each ys start now) x None ≡ Some end) × (end ≤ bound))
      → (e : Option ℕ) → at ends x None ≡ e → (end : ℕ) × (at (start_each (y ∷ ys) ends now) x None ≡ Some end) × (end ≤ bound)
  by_end rest (Some end) e = (end, kept_starts x now end (y ∷ ys) ends e, old end e)
  by_end rest None e = ⊎_elim (λ same. first same (at ends y None) refl e) (λ more. later rest more (at ends y None) refl) one

-- it tells nothing new of this node's own leases
abbrev pub IsKnownTo : Control → Body → Type 0
IsKnownTo n (bodies.CheckIn seq upto rate number clients certs) = (c : Cert) → IsAmong c certs → c.parent ≡ n.me → Knows n.kept.table c
IsKnownTo n b = Unit {0}

module _ (x bound : ℕ) where
  -- if x has a lease here, it ends by then
  abbrev pub EndsBy : ℕ → List Cert → List (Option ℕ) → ℕ → Type 0
  EndsBy me t ends clock = (s : ℕ) → leased_by t me x ≡ Some s → (end : ℕ) × (at ends x None ≡ Some end) × (end ≤ bound)

  abbrev pub HasEnd : Control → Type 0
  HasEnd n = OfLeases EndsBy n

  by_merge : (o : Plan) (c : Cert) → (c.dead ≡ true) ⊎ (c.parent ≡ o.node.me → Knows o.node.kept.table c) → OfPlan EndsBy o → OfPlan EndsBy (merges o c)
  by_merge o c old h = of_merges EndsBy o c (λ s leased. h s (leased_back o.node.kept.table o.node.me x s c old leased))

  -- A tick

  by_ends : (ys : List ℕ) (o : Plan) → OfPlan EndsBy o → OfPlan EndsBy (ends_each ys o)
  by_ends [] o h = h
  by_ends (y ∷ ys) o h = by_ends ys (dies (newest o.node.kept.table y) o) (by_row (newest o.node.kept.table y)) where
    by_row : (e : Option Cert) → OfPlan EndsBy (dies e o)
    by_row None = h
    by_row (Some k) = by_merge o (record k { dead = true }) (inl refl) h

  -- at a tick each lease end is set
  pub tick_ends : (n : Node) (t : ℕ) → 1 ≤ x → x ≤ length n.control.leases → max n.control.soft.clock t + lease_time ≤ bound → ((end : ℕ) → at n.control.leases x None ≡ Some end → end ≤ bound)
      → HasEnd (step n (Tick t)).node.control
  tick_ends n t least most soon old =
      let started : Plan = starts_leases (at_time (begun n.control) t) in
      let over : Plan = ends_leases started in
      let checked : Plan = checks_if_due over in
      stays_fetches_as EndsBy checked.node.kept.mode checked (shelf n.groups)
      (stays_checks_if_due EndsBy over
      (by_ends (ended started.node.kept.table started.node.me started.node.leases started.node.soft.clock) started
      (λ s leased. begun_end x (max n.control.soft.clock t) bound (leased_children n.control.kept.table n.control.me) n.control.leases (leased_among n.control.kept.table n.control.me x s leased) least most soon old)))

  -- a later tick keeps the bound
  pub tick_keeps : (n : Node) (t : ℕ) → HasEnd n.control → HasEnd (step n (Tick t)).node.control
  tick_keeps n t h =
      let started : Plan = starts_leases (at_time (begun n.control) t) in
      let over : Plan = ends_leases started in
      let checked : Plan = checks_if_due over in
      stays_fetches_as EndsBy checked.node.kept.mode checked (shelf n.groups)
      (stays_checks_if_due EndsBy over
      (by_ends (ended started.node.kept.table started.node.me started.node.leases started.node.soft.clock) started
      (λ s leased. let end = h s leased in (end.0, kept_starts x (max n.control.soft.clock t) end.0 (leased_children n.control.kept.table n.control.me) n.control.leases end.1, end.2))))

  -- Messages of other nodes

  by_renew : (me y clock : ℕ) (t : List Cert) (ends : List (Option ℕ)) → (y - 1 ≡ x - 1 → ⊥) → EndsBy me t ends clock → EndsBy me t (renew ends y clock) clock
  by_renew me y clock t ends apart h = λ s leased.
      let end = h s leased in
      (end.0, ⊎_elim (λ same. absurd (apart same.0)) (λ other. other ∙ end.1) (set_at ends (y - 1) (x - 1) (Some (clock + lease_time))), end.2)

  -- certificates that are known where they name this node
  abbrev TakesKnown : List Cert → ℕ → List Cert → List (Option ℕ) → ℕ → Type 0
  TakesKnown cs me t ends clock = ((c : Cert) → IsAmong c cs → (c.parent ≡ me → Knows t c) ⊎ (c.subject ≡ x → ⊥)) × EndsBy me t ends clock

  one_merged : (t : List Cert) (me clock : ℕ) (ends : List (Option ℕ)) (c : Cert) → (c.parent ≡ me → Knows t c) ⊎ (c.subject ≡ x → ⊥) → EndsBy me t ends clock → EndsBy me (merge t c) ends clock
  one_merged t me clock ends c (inl known) h = λ s leased. h s (leased_back t me x s c (inr known) leased)
  one_merged t me clock ends c (inr other) h = λ s leased. h s (sym (leased_merge_other t c me x other) ∙ leased)

  all_merged : (cs : List Cert) (o : Plan) → OfPlan (TakesKnown cs) o → OfPlan EndsBy (merges_all cs o)
  all_merged [] o h = h.1
  all_merged (c ∷ cs) o h = all_merged cs (merges o c) (of_merges (TakesKnown cs) o c (
    λ d among. ⊎_elim (λ known. inl (λ own. merge_keeps o.node.kept.table c d (known own))) (λ other. inr other) (h.0 d (inr among)),
    one_merged o.node.kept.table o.node.me o.node.soft.clock o.node.leases c (h.0 c (inl refl)) h.1,
  ))

  checked_in_ends : (o : Plan) (y seq upto rate number clients : ℕ) (certs : List Cert) → (y ≡ x → ⊥) → (y - 1 ≡ x - 1 → ⊥) → ((c : Cert) → IsAmong c certs → c.parent ≡ o.node.me → Knows o.node.kept.table c)
      → OfPlan EndsBy o → OfPlan EndsBy (checked_in o y seq upto rate number clients certs)
  checked_in_ends o y seq upto rate number clients certs other apart known h =
      let told : List Cert = life y seq o.node.me number clients ∷ certs in
      let merged : Plan = merges_all told o in
      either (has_lease o.node y seq) (OfPlan EndsBy) (acknowledges merged y seq upto rate) (sends_rejoin o y seq)
      (by_renew merged.node.me y merged.node.soft.clock merged.node.kept.table merged.node.leases apart (all_merged told o (each, h))) h where
        each : (c : Cert) → IsAmong c (life y seq o.node.me number clients ∷ certs) → (c.parent ≡ o.node.me → Knows o.node.kept.table c) ⊎ (c.subject ≡ x → ⊥)
        each c (inl e) = inr (subst (λ (k : Cert). k.subject ≡ x → ⊥) e other)
        each c (inr among) = inl (known c among)

  adopts_ends : (o : Plan) (y seq : ℕ) → (y ≡ x → ⊥) → (y - 1 ≡ x - 1 → ⊥) → OfPlan EndsBy o → OfPlan EndsBy (adopts o y seq)
  adopts_ends o y seq other apart h =
      let born : Cert = birth y seq o.node.me in
      let entered : Plan = write o (records.Entry born) in
      either (has_lease o.node y seq) (OfPlan EndsBy) (grants o y seq) (if is_news o.node.kept.table born then grants entered y seq else sends_rejoin o y seq)
      (by_renew o.node.me y o.node.soft.clock o.node.kept.table o.node.leases apart h)
      (either (is_news o.node.kept.table born) (OfPlan EndsBy) (grants entered y seq) (sends_rejoin o y seq)
      (by_renew o.node.me y o.node.soft.clock (merge o.node.kept.table born) o.node.leases apart (one_merged o.node.kept.table o.node.me o.node.soft.clock o.node.leases born (inr other) h))
      h)

  answers_ends : (why : Option Refusal) (o : Plan) (y seq : ℕ) → (y ≡ x → ⊥) → (y - 1 ≡ x - 1 → ⊥) → OfPlan EndsBy o → OfPlan EndsBy (answers_ask why o y seq)
  answers_ends None o y seq other apart h = adopts_ends o y seq other apart h
  answers_ends (Some why) o y seq other apart h = h

  asked_ends : (o : Plan) (y seq : ℕ) (r : Option Rank) → (y ≡ x → ⊥) → (y - 1 ≡ x - 1 → ⊥) → OfPlan EndsBy o → OfPlan EndsBy (asked o y seq r)
  asked_ends o y seq r other apart h =
      let raised : Plan = raises_over o y (rank_or_last r) in
      answers_ends (adoption_refusal (host raised.node y) y r) raised y seq other apart (stays_raises_over EndsBy o y (rank_or_last r) h)

  received_ends : (n : Control) (ls : List Shelf) (y : ℕ) (b : Body) → (y ≡ x → ⊥) → (y - 1 ≡ x - 1 → ⊥) → IsKnownTo n b → OfPlan EndsBy (begun n) → OfPlan EndsBy (received (begun n) ls y b)
  received_ends n ls y bodies.Look other apart known h = h
  received_ends n ls y (bodies.LookIs is_in parent rate children) other apart known h = stays_sees EndsBy (begun n) y (record { in_tree = is_in; parent = parent; rate = rate; children = children }) h
  received_ends n ls y (bodies.Ask seq rank) other apart known h = asked_ends (begun n) y seq rank other apart h
  received_ends n ls y (bodies.Yes seq rank ancestors) other apart known h = stays_took_yes EndsBy (begun n) y seq rank ancestors h
  received_ends n ls y (bodies.No seq why) other apart known h = stays_took_no EndsBy (begun n) y seq why h
  received_ends n ls y (bodies.CheckIn seq upto rate number clients certs) other apart known h = checked_in_ends (begun n) y seq upto rate number clients certs other apart known h
  received_ends n ls y (bodies.CheckAck seq upto rank ancestors) other apart known h = stays_took_ack EndsBy (begun n) y seq upto rank ancestors h
  received_ends n ls y (bodies.Rejoin seq) other apart known h = stays_took_rejoin EndsBy (begun n) y seq h
  received_ends n ls y (bodies.Fetch have) other apart known h = stays_fetched EndsBy (begun n) ls y have h
  received_ends n ls y (bodies.Chunk g start bytes last) other apart known h = stays_took_chunk EndsBy (begun n) ls y g start bytes last h

  pub message_ends : (n : Node) (m : Message) → (m.from ≡ x → ⊥) → (m.from - 1 ≡ x - 1 → ⊥) → IsKnownTo n.control m.body → HasEnd n.control → HasEnd (step n (Delivered m)).node.control
  message_ends n m other apart known h = received_ends n.control (shelf n.groups) m.from m.body other apart known h

  -- a message that is no ask and no check-in, of any node
  received_mild : (n : Control) (ls : List Shelf) (y : ℕ) (b : Body) → IsMild b → OfPlan EndsBy (begun n) → OfPlan EndsBy (received (begun n) ls y b)
  received_mild n ls y bodies.Look mild h = h
  received_mild n ls y (bodies.LookIs is_in parent rate children) mild h = stays_sees EndsBy (begun n) y (record { in_tree = is_in; parent = parent; rate = rate; children = children }) h
  received_mild n ls y (bodies.Ask seq rank) mild h = absurd mild
  received_mild n ls y (bodies.Yes seq rank ancestors) mild h = stays_took_yes EndsBy (begun n) y seq rank ancestors h
  received_mild n ls y (bodies.No seq why) mild h = stays_took_no EndsBy (begun n) y seq why h
  received_mild n ls y (bodies.CheckIn seq upto rate number clients certs) mild h = absurd mild
  received_mild n ls y (bodies.CheckAck seq upto rank ancestors) mild h = stays_took_ack EndsBy (begun n) y seq upto rank ancestors h
  received_mild n ls y (bodies.Rejoin seq) mild h = stays_took_rejoin EndsBy (begun n) y seq h
  received_mild n ls y (bodies.Fetch have) mild h = stays_fetched EndsBy (begun n) ls y have h
  received_mild n ls y (bodies.Chunk g start bytes last) mild h = stays_took_chunk EndsBy (begun n) ls y g start bytes last h

  pub mild_ends : (n : Node) (m : Message) → IsMild m.body → HasEnd n.control → HasEnd (step n (Delivered m)).node.control
  mild_ends n m mild h = received_mild n.control (shelf n.groups) m.from m.body mild h

  pub failure_ends : (n : Node) (q : ℕ) → HasEnd n.control → HasEnd (step n (Unreachable q)).node.control
  failure_ends n q h = stays_unreachable EndsBy (begun n.control) q h
