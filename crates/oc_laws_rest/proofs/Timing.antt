-- A tick at which the check of a child is due sets the clock, and from it the next check: the effect of a tick on that.
use Rattle.std.proofs.Common.{◌≡◌, ℕ, ◌+◌, ◌-◌, ◌%◌, max, Bool, true, false, not, ◌&&◌, ◌==◌, nat_lt, if◌then◌else◌, Option, Some, None, List, [], ◌∷◌, filter, refl, ap, sym, subst, ◌∙◌}
use Rattle.oc_base.specs.declared.cert.Cert.{Cert}
use Rattle.oc_base.specs.Groups.{shelf}
use Rattle.oc_model.specs.declared.input.Input.TheVariants.{Tick}
use Rattle.oc_model.specs.declared.message.Body.TheVariants as bodies
use Rattle.oc_model.specs.declared.mode.Mode.{Mode}
use Rattle.oc_model.specs.declared.mode.Mode.TheVariants as modes
use Rattle.oc_model.specs.declared.record.Record.TheVariants as records
use Rattle.oc_model.specs.declared.soft.Search.TheVariants as searches
use Rattle.oc_model.specs.Checking.{checks_in, notes_time, reports, sets_due, at_time, starts_leases, dies, ends_each, ends_leases, looks_at_each, looks_round, is_due, forgets_refusal, tick_checks_as, tick_checks, checks_in_time, reports_news, checks_if_due, fetches_as}
use Rattle.oc_model.specs.Choice.{below}
use Rattle.oc_model.specs.Leases.{ended}
use Rattle.oc_model.specs.Node.{Node}
use Rattle.oc_model.specs.Numbers.{number_end, capped}
use Rattle.oc_model.specs.Plan.{Plan, begun, write, send, with_soft, searching, is_member}
use Rattle.oc_model.specs.Step.{step}
use Rattle.oc_model.specs.Table.{newest, is_news}
use Rattle.oc_model.proofs.Rules.{either}

module _ (y p c : ℕ) where
  -- y is joined to p at this second of its clock, and this is the second of its next check
  abbrev Keeps : Option ℕ → Plan → Type 0
  Keeps d o = (o.node.me ≡ y) × (o.node.kept.mode ≡ modes.Joined p) × (o.node.soft.clock ≡ c) × (o.node.soft.due ≡ d)

  keeps_ends_each : (d : Option ℕ) (zs : List ℕ) (o : Plan) → Keeps d o → Keeps d (ends_each zs o)
  keeps_ends_each d [] o h = h
  keeps_ends_each d (z ∷ zs) o h = keeps_ends_each d zs (dies (newest o.node.kept.table z) o) (by_row (newest o.node.kept.table z)) where
    by_row : (e : Option Cert) → Keeps d (dies e o)
    by_row None = h
    by_row (Some k) = either (is_news o.node.kept.table (record k { dead = true })) (Keeps d) (write o (records.Entry (record k { dead = true }))) o h h

  keeps_looks_at_each : (d : Option ℕ) (zs : List ℕ) (o : Plan) → Keeps d o → Keeps d (looks_at_each zs o)
  keeps_looks_at_each d [] o h = h
  keeps_looks_at_each d (z ∷ zs) o h = keeps_looks_at_each d zs (send o z bodies.Look) h

  keeps_looks_round : (d : Option ℕ) (o : Plan) → Keeps d o → Keeps d (looks_round (modes.Joined p) o)
  keeps_looks_round d o h =
      let nearer : List ℕ = filter (λ z. nat_lt p z) (below o.node.me) in
      let reviewing : Plan = send (searching o (Some searches.Review)) p bodies.Look in
      either (is_member o.node) (Keeps d) (looks_at_each nearer o) (if o.node.soft.refused then o else reviewing) (keeps_looks_at_each d nearer o h) (either o.node.soft.refused (Keeps d) o reviewing h h)

  keeps_reports : (d : Option ℕ) (o : Plan) → Keeps d o → Keeps d (reports o p)
  keeps_reports d o h =
      let noted : Plan = notes_time o in
      let counted : Plan = with_soft (write noted (records.Info (noted.node.kept.number + 1) (capped (noted.node.kept.clients + noted.node.soft.served)))) (record noted.node.soft { served = 0 }) in
      either (not (noted.node.soft.served == 0) && nat_lt noted.node.kept.number number_end) (λ (q : Plan). Keeps d (checks_in q p)) counted noted h h

  -- the second of the next check
  abbrev After : Option ℕ
  After = Some (c + 20 - y % 3)

  keeps_set : (o : Plan) → (o.node.me ≡ y) × (o.node.kept.mode ≡ modes.Joined p) × (o.node.soft.clock ≡ c) → Keeps After (looks_round o.node.kept.mode (tick_checks o))
  keeps_set o h =
      let set : Plan = sets_due o in
      subst (λ (k : Mode). Keeps After (looks_round k (tick_checks_as k set))) (sym h.1)
      (keeps_looks_round After (reports set p)
      (keeps_reports After set (h.0, h.1, h.2, ap (λ (t : ℕ). Some (t + 20 - o.node.me % 3)) h.2 ∙ ap (λ (z : ℕ). Some (c + 20 - z % 3)) h.0)))

  keeps_forgets : (due : Option ℕ) (o : Plan) → (o.node.me ≡ y) × (o.node.kept.mode ≡ modes.Joined p) × (o.node.soft.clock ≡ c) → Keeps After (looks_round o.node.kept.mode (tick_checks (forgets_refusal due o)))
  keeps_forgets None o h = keeps_set o h
  keeps_forgets (Some e) o h = keeps_set (with_soft o (record o.node.soft { refused = false })) h

  keeps_in_time : (d : Option ℕ) (o : Plan) → Keeps d o → Keeps After (checks_in_time o)
  keeps_in_time d o h = keeps_forgets o.node.soft.due o (h.0, h.1, h.2)

-- the clock and the second of the next check after the tick
pub tick_times : (y p : ℕ) (n : Node) (t : ℕ) → n.control.me ≡ y → n.control.kept.mode ≡ modes.Joined p → is_due n.control.soft.due (max n.control.soft.clock t) ≡ true
    → ((step n (Tick t)).node.control.soft.clock ≡ max n.control.soft.clock t) × ((step n (Tick t)).node.control.soft.due ≡ Some (max n.control.soft.clock t + 20 - y % 3))
tick_times y p n t me joined due =
    let now : ℕ = max n.control.soft.clock t in
    let started : Plan = starts_leases (at_time (begun n.control) t) in
    let over : Plan = ends_leases started in
    let before : Keeps y p now n.control.soft.due over =
    keeps_ends_each y p now n.control.soft.due (ended started.node.kept.table started.node.me started.node.leases started.node.soft.clock) started (me, joined, refl, refl) in
    let due_now : is_due over.node.soft.due over.node.soft.clock ≡ true = ap (λ (e : Option ℕ). is_due e over.node.soft.clock) before.3 ∙ (ap (is_due n.control.soft.due) before.2 ∙ due) in
    let checked : Plan = checks_if_due over in
    let done : Keeps y p now (Some (now + 20 - y % 3)) checked =
    subst (λ (b : Bool). Keeps y p now (Some (now + 20 - y % 3)) (if b then checks_in_time over else reports_news over)) (sym due_now) (keeps_in_time y p now n.control.soft.due over before) in
    subst (λ (k : Mode). ((fetches_as k checked (shelf n.groups)).node.soft.clock ≡ now) × ((fetches_as k checked (shelf n.groups)).node.soft.due ≡ Some (now + 20 - y % 3))) (sym done.1) (done.2, done.3)
