-- The rules that keep leases and tell changes consist of the small changes: rules 5 (check now), 6 (tick) and 13 (check-ins).
use Rattle.std.proofs.Common.{◌≡◌, ℕ, ◌+◌, max, true, false, not, ◌&&◌, ◌==◌, nat_lt, if◌then◌else◌, Option, Some, None, List, [], ◌∷◌, inl, inr, filter, refl, sym, ◌∙◌, subst, eqb-true}
use Rattle.std.specs.List.{AllByRecursion}
use Rattle.std.proofs.lemmas.Bool.{cond_both, and_parts}
use Rattle.oc_base.specs.declared.cert.Cert.{Cert}
use Rattle.oc_base.specs.declared.rank.Rank.{Rank}
use Rattle.oc_base.specs.declared.shelf.Shelf.{Shelf}
use Rattle.oc_base.specs.Rank.{beneath_of}
use Rattle.oc_model.specs.declared.message.Body.{Body}
use Rattle.oc_model.specs.declared.message.Body.TheVariants as bodies
use Rattle.oc_model.specs.declared.message.Message.{Message}
use Rattle.oc_model.specs.declared.mode.Mode.{Mode}
use Rattle.oc_model.specs.declared.mode.Mode.TheVariants as modes
use Rattle.oc_model.specs.declared.record.Record.TheVariants as records
use Rattle.oc_model.specs.declared.soft.Search.{Search}
use Rattle.oc_model.specs.declared.soft.Search.TheVariants as searches
use Rattle.oc_model.specs.Adopting.{has_lease, sends_rejoin}
use Rattle.oc_model.specs.Adoption.{rank_or_last, is_better}
use Rattle.oc_model.specs.Asking.{ask_before, ancestors_by}
use Rattle.oc_model.specs.ChangeLog.{is_ahead}
use Rattle.oc_model.specs.Checking.{counts_clients, checks_in, notes_time, reports, checks_as, next_check, sets_due, checks, merges, merges_all, at_time, starts_leases, dies, ends_each, ends_leases, looks_at_each, looks_round, is_due, forgets_refusal, goes_on, tick_checks_as, tick_checks, checks_in_time, has_news, reports_news_as, reports_news, checks_if_due, fetches_as, tick, acknowledges, life, checked_in, is_joined_to, takes_place, takes_rank, takes_rank_unless, same_ids, takes_ancestors, took_ack, is_peer, took_rejoin}
use Rattle.oc_model.specs.Choice.{below}
use Rattle.oc_model.specs.Leases.{renew, start_all, ended}
use Rattle.oc_model.specs.Node.{Control}
use Rattle.oc_model.specs.Numbers.{number_end, raise, capped, put_at, IsAmong}
use Rattle.oc_model.specs.Plan.{Plan, write, send, with_soft, searching, ignored, is_member, rate_to}
use Rattle.oc_model.specs.Table.{newest, is_news, merge}
use Rattle.oc_model.proofs.Lists.{all_weaker}
use Rattle.oc_model.proofs.Settled.{joined_true}
use Rattle.oc_laws_step.specs.Sound.{IsTable}
use Rattle.oc_laws_step.proofs.Tables.{merge_takes, merge_keeps}
use Rattle.oc_laws_world.proofs.LeasedRows.{IsRowOf, row_put, rows_ended}
use Rattle.oc_laws_world.proofs.Machine.{IsMachine, Of}
use Rattle.oc_laws_world.proofs.WalksAdopting.{raise_above, walks_raises, walks_sends_rejoin}
use Rattle.oc_laws_world.proofs.WalksAsking.{walks_ask_before, walks_round}

-- a certificate is no news after it was merged
merged_takes : (o : Plan) (c : Cert) → is_news (merges o c).node.kept.table c ≡ false
merged_takes o c = cond_both (is_news o.node.kept.table c) (write o (records.Entry c)) o (λ q. is_news q.node.kept.table c ≡ false) (λ _. merge_takes o.node.kept.table c) (λ e. e)

merged_keeps : (o : Plan) (c d : Cert) → is_news o.node.kept.table d ≡ false → is_news (merges o c).node.kept.table d ≡ false
merged_keeps o c d known =
    cond_both (is_news o.node.kept.table c) (write o (records.Entry c)) o (λ q. is_news q.node.kept.table d ≡ false) (λ _. merge_keeps o.node.kept.table c d known) (λ _. known)

all_merged_keeps : (cs : List Cert) (o : Plan) (d : Cert) → is_news o.node.kept.table d ≡ false → is_news (merges_all cs o).node.kept.table d ≡ false
all_merged_keeps [] o d known = known
all_merged_keeps (c ∷ cs) o d known = all_merged_keeps cs (merges o c) d (merged_keeps o c d known)

-- merged certificates are no news after all of them were merged
all_merged : (cs : List Cert) (o : Plan) → AllByRecursion (λ c. is_news (merges_all cs o).node.kept.table c ≡ false) cs
all_merged [] o = tt
all_merged (c ∷ cs) o = (all_merged_keeps cs (merges o c) c (merged_takes o c), all_merged cs (merges o c))

-- merging changes neither the id nor the mode
merged_me : (cs : List Cert) (o : Plan) → (merges_all cs o).node.me ≡ o.node.me
merged_me [] o = refl
merged_me (c ∷ cs) o = merged_me cs (merges o c) ∙ cond_both (is_news o.node.kept.table c) (write o (records.Entry c)) o (λ q. q.node.me ≡ o.node.me) (λ _. refl) (λ _. refl)

module _ (came : ℕ → Body → Type 0) (P : Control → List Message → Type 0) (k : IsMachine came P) where
  -- Checks

  walks_counts_clients : (p : ℕ) (o : Plan) → o.node.kept.mode ≡ modes.Joined p → Of P o → Of P (checks_in (counts_clients o) p)
  walks_counts_clients p o joined h =
      let counted : Plan = write o (records.Info (o.node.kept.number + 1) (capped (o.node.kept.clients + o.node.soft.served))) in
      let told : Plan = with_soft counted (record o.node.soft { served = 0 }) in
      cond_both (not (o.node.soft.served == 0) && nat_lt o.node.kept.number number_end) told o (λ q. Of P (checks_in q p))
      (λ e. k.says_check_in told.node told.sends p (rate_to told.node p) joined
      (k.soft counted.node counted.sends (record o.node.soft { served = 0 })
      (k.counts o.node o.sends (capped (o.node.kept.clients + o.node.soft.served)) (and_parts (not (o.node.soft.served == 0)) (nat_lt o.node.kept.number number_end) e).1 h)))
      (λ _. k.says_check_in o.node o.sends p (rate_to o.node p) joined h)

  walks_reports : (p : ℕ) (o : Plan) → o.node.kept.mode ≡ modes.Joined p → Of P o → Of P (reports o p)
  walks_reports p o joined h = walks_counts_clients p (notes_time o) joined (k.soft o.node o.sends (record o.node.soft { checked = Some o.node.soft.clock }) h)

  walks_checks_as : (m : Mode) (o : Plan) → o.node.kept.mode ≡ m → Of P o → Of P (checks_as m o)
  walks_checks_as (modes.Joined p) o e h = walks_reports p o e h
  walks_checks_as modes.Acting o e h =
      walks_raises came P k o (raise (rank_or_last o.node.kept.rank).epoch) e (λ f g. raise_above (rank_or_last o.node.kept.rank).epoch f g) h
  walks_checks_as modes.Idle o e h = walks_round came P k o None h
  walks_checks_as (modes.Asking p) o e h = k.says_ask o.node o.sends p e h

  walks_sets_due : (o : Plan) → Of P o → Of P (sets_due o)
  walks_sets_due o h = k.soft o.node o.sends (record o.node.soft { due = Some (next_check o.node) }) h

  pub walks_checks : (o : Plan) → Of P o → Of P (checks o)
  walks_checks o h = walks_checks_as o.node.kept.mode (sets_due o) refl (walks_sets_due o h)

  -- Ticks

  -- the rows of the remaining children name the node while leases end
  walks_ends_each : (xs : List ℕ) (o : Plan) → AllByRecursion (IsRowOf o.node.kept.table o.node.me) xs → Of P o → Of P (ends_each xs o)
  walks_ends_each [] o rows h = h
  walks_ends_each (x ∷ xs) o rows h = by_found (λ q. walks_ends_each xs q) (newest o.node.kept.table x) refl where
    by_found : ((q : Plan) → AllByRecursion (IsRowOf q.node.kept.table q.node.me) xs → Of P q → Of P (ends_each xs q)) → (e : Option Cert) → newest o.node.kept.table x ≡ e → Of P (ends_each xs (dies e o))
    by_found rest None found = rest o rows.1 h
    by_found rest (Some c) found =
        let dead : Cert = record c { dead = true } in
        let over : Plan = write o (records.Entry dead) in
        cond_both (is_news o.node.kept.table dead) over o (λ q. Of P (ends_each xs q))
        (λ news. rest over
        (all_weaker (IsRowOf o.node.kept.table o.node.me) (IsRowOf (merge o.node.kept.table dead) o.node.me)
        (λ z row. rw news (row_put o.node.kept.table dead o.node.me z (rows.0 c found) row)) xs rows.1)
        (k.ends o.node o.sends x c found (rows.0 c found) news h))
        (λ _. rest o rows.1 h)

  walks_looks_at_each : (xs : List ℕ) (o : Plan) → Of P o → Of P (looks_at_each xs o)
  walks_looks_at_each [] o h = h
  walks_looks_at_each (x ∷ xs) o h = walks_looks_at_each xs (send o x bodies.Look) (k.says o.node o.sends x bodies.Look tt h)

  walks_looks_round : (m : Mode) (o : Plan) → Of P o → Of P (looks_round m o)
  walks_looks_round (modes.Joined p) o h =
      let nearer : List ℕ = filter (λ x. nat_lt p x) (below o.node.me) in
      let reviewing : Plan = searching o (Some searches.Review) in
      cond_both (is_member o.node) (looks_at_each nearer o) (if o.node.soft.refused then o else send reviewing p bodies.Look) (Of P)
      (λ _. walks_looks_at_each nearer o h)
      (λ _. cond_both o.node.soft.refused o (send reviewing p bodies.Look) (Of P) (λ _. h)
      (λ _. k.says reviewing.node reviewing.sends p bodies.Look tt (k.soft o.node o.sends (record o.node.soft { search = Some searches.Review }) h)))
  walks_looks_round modes.Acting o h = cond_both (is_member o.node) (looks_at_each (below o.node.me) o) o (Of P) (λ _. walks_looks_at_each (below o.node.me) o h) (λ _. h)
  walks_looks_round modes.Idle o h = h
  walks_looks_round (modes.Asking p) o h = h

  walks_forgets : (due : Option ℕ) (o : Plan) → Of P o → Of P (forgets_refusal due o)
  walks_forgets None o h = h
  walks_forgets (Some t) o h = k.soft o.node o.sends (record o.node.soft { refused = false }) h

  walks_goes_on : (s : Option Search) (o : Plan) → Of P o → Of P (goes_on s o)
  walks_goes_on (Some (searches.Descend p)) o h = k.says o.node o.sends p bodies.Look tt h
  walks_goes_on (Some searches.Review) o h = walks_round came P k o None h
  walks_goes_on None o h = walks_round came P k o None h

  walks_tick_checks_as : (m : Mode) (o : Plan) → o.node.kept.mode ≡ m → Of P o → Of P (tick_checks_as m o)
  walks_tick_checks_as modes.Idle o e h = walks_goes_on o.node.soft.search o h
  walks_tick_checks_as (modes.Joined p) o e h = walks_checks_as (modes.Joined p) o e h
  walks_tick_checks_as (modes.Asking p) o e h = walks_checks_as (modes.Asking p) o e h
  walks_tick_checks_as modes.Acting o e h = walks_checks_as modes.Acting o e h

  walks_tick_checks : (o : Plan) → Of P o → Of P (tick_checks o)
  walks_tick_checks o h = walks_tick_checks_as o.node.kept.mode (sets_due o) refl (walks_sets_due o h)

  walks_checks_in_time : (o : Plan) → Of P o → Of P (checks_in_time o)
  walks_checks_in_time o h =
      let begins : Plan = forgets_refusal o.node.soft.due o in
      walks_looks_round o.node.kept.mode (tick_checks begins) (walks_tick_checks begins (walks_forgets o.node.soft.due o h))

  walks_reports_news_as : (m : Mode) (o : Plan) → o.node.kept.mode ≡ m → Of P o → Of P (reports_news_as m o)
  walks_reports_news_as (modes.Joined p) o e h = cond_both (has_news o.node) (reports o p) o (Of P) (λ _. walks_reports p o e h) (λ _. h)
  walks_reports_news_as modes.Idle o e h = h
  walks_reports_news_as (modes.Asking p) o e h = h
  walks_reports_news_as modes.Acting o e h = h

  walks_checks_if_due : (o : Plan) → Of P o → Of P (checks_if_due o)
  walks_checks_if_due o h =
      cond_both (is_due o.node.soft.due o.node.soft.clock) (checks_in_time o) (reports_news o) (Of P)
      (λ _. walks_checks_in_time o h) (λ _. walks_reports_news_as o.node.kept.mode o refl h)

  walks_fetches_as : (m : Mode) (o : Plan) (shelf : List Shelf) → Of P o → Of P (fetches_as m o shelf)
  walks_fetches_as (modes.Joined p) o shelf h = k.says o.node o.sends p (bodies.Fetch shelf) tt h
  walks_fetches_as modes.Idle o shelf h = h
  walks_fetches_as (modes.Asking p) o shelf h = h
  walks_fetches_as modes.Acting o shelf h = h

  pub walks_tick : (o : Plan) (shelf : List Shelf) (t : ℕ) → IsTable o.node.kept.table → Of P o → Of P (tick o shelf t)
  walks_tick o shelf t is_table h =
      let timed : Plan = at_time o t in
      let started : Plan = starts_leases timed in
      let over : Plan = ends_leases started in
      let checked : Plan = checks_if_due over in
      let is_timed : Of P timed = k.soft o.node o.sends (record o.node.soft { clock = max o.node.soft.clock t }) h in
      let is_started : Of P started = k.lists timed.node timed.sends (start_all timed.node.kept.table timed.node.me timed.node.leases timed.node.soft.clock) timed.node.rates timed.node.counts is_timed in
      let is_over : Of P over = walks_ends_each (ended started.node.kept.table started.node.me started.node.leases started.node.soft.clock) started (rows_ended started.node.kept.table started.node.me started.node.leases started.node.soft.clock is_table) is_started in
      walks_fetches_as checked.node.kept.mode checked shelf (walks_checks_if_due over is_over)

  -- Check-ins

  walks_merges_all : (x s upto rate number clients : ℕ) (certs : List Cert) → came x (bodies.CheckIn s upto rate number clients certs)
      → (cs : List Cert) (o : Plan) → ((c : Cert) → IsAmong c cs → IsAmong c (life x s o.node.me number clients ∷ certs)) → Of P o → Of P (merges_all cs o)
  walks_merges_all x s upto rate number clients certs came_in [] o told h = h
  walks_merges_all x s upto rate number clients certs came_in (c ∷ cs) o told h =
      cond_both (is_news o.node.kept.table c) (write o (records.Entry c)) o (λ q. Of P (merges_all cs q))
      (λ news. walks_merges_all x s upto rate number clients certs came_in cs (write o (records.Entry c)) (λ d among. told d (inr among))
      (k.merges o.node o.sends x s upto rate number clients certs c came_in (told c (inl refl)) news h))
      (λ _. walks_merges_all x s upto rate number clients certs came_in cs o (λ d among. told d (inr among)) h)

  pub walks_checked_in : (o : Plan) (x s upto rate number clients : ℕ) (certs : List Cert) → came x (bodies.CheckIn s upto rate number clients certs)
      → Of P o → Of P (checked_in o x s upto rate number clients certs)
  walks_checked_in o x s upto rate number clients certs came_in h =
      let told : List Cert = life x s o.node.me number clients ∷ certs in
      let merged : Plan = merges_all told o in
      let is_merged : Of P merged = walks_merges_all x s upto rate number clients certs came_in told o (λ c among. among) h in
      let renewed : Control = record merged.node { leases = renew merged.node.leases x merged.node.soft.clock; rates = put_at merged.node.rates x rate } in
      let known : AllByRecursion (λ c. is_news renewed.kept.table c ≡ false) (life x s renewed.me number clients ∷ certs) =
      subst (λ (y : ℕ). AllByRecursion (λ c. is_news merged.node.kept.table c ≡ false) (life x s y number clients ∷ certs)) (sym (merged_me told o)) (all_merged told o) in
      cond_both (has_lease o.node x s) (acknowledges merged x s upto rate) (sends_rejoin o x s) (Of P)
      (λ _. k.says_check_ack renewed merged.sends x s upto rate number clients certs came_in known
      (k.lists merged.node merged.sends (renew merged.node.leases x merged.node.soft.clock) (put_at merged.node.rates x rate) merged.node.counts is_merged))
      (λ _. walks_sends_rejoin came P k o x s h)

  -- an acknowledgement of the parent: its place in the log, its rank and its ancestors
  walks_takes_place : (o : Plan) (p upto : ℕ) (r : Rank) (xs : List ℕ) → came p (bodies.CheckAck o.node.kept.seq upto r xs) → o.node.kept.mode ≡ modes.Joined p
      → (Q : Plan → Type 0) → ((q : Plan) → q.node.kept.seq ≡ o.node.kept.seq → q.node.kept.mode ≡ o.node.kept.mode → Of P q → Q q) → Of P o → Q (takes_place o upto)
  walks_takes_place o p upto r xs came_ack joined Q next h =
      cond_both (is_ahead o.node.kept.log upto) (write o (records.Acked upto)) o Q
      (λ ahead. next (write o (records.Acked upto)) refl refl (k.acks o.node o.sends p upto r xs came_ack joined ahead h))
      (λ _. next o refl refl h)

  walks_takes_rank : (o : Plan) (p upto : ℕ) (r : Rank) (xs : List ℕ) → came p (bodies.CheckAck o.node.kept.seq upto r xs) → o.node.kept.mode ≡ modes.Joined p → Of P o → Of P (takes_rank o r)
  walks_takes_rank o p upto r xs came_ack joined h =
      cond_both (is_better o.node.kept.rank r) (write o (records.Ranked (beneath_of r))) o (Of P) (λ better. k.ranks o.node o.sends p upto r xs came_ack joined better h) (λ _. h)

  walks_takes_rank_unless : (wish : Option ℕ) (o : Plan) (p upto : ℕ) (r : Rank) (xs : List ℕ) → came p (bodies.CheckAck o.node.kept.seq upto r xs) → o.node.kept.mode ≡ modes.Joined p
      → Of P o → Of P (takes_rank_unless wish o r)
  walks_takes_rank_unless None o p upto r xs came_ack joined h = walks_takes_rank o p upto r xs came_ack joined h
  walks_takes_rank_unless (Some g) o p upto r xs came_ack joined h = h

  walks_takes_ancestors : (o : Plan) (xs : List ℕ) → Of P o → Of P (takes_ancestors o xs)
  walks_takes_ancestors o xs h =
      cond_both (same_ids xs o.node.kept.ancestors) o (write o (records.Ancestors xs)) (Of P) (λ _. h) (λ _. k.aside o.node o.sends xs o.node.kept.measures h)

  pub walks_took_ack : (o : Plan) (p seq upto : ℕ) (r : Rank) (xs : List ℕ) → came p (bodies.CheckAck seq upto r xs) → Of P o → Of P (took_ack o p seq upto r xs)
  walks_took_ack o p seq upto r xs came_ack h =
      let ranked : Plan = takes_rank_unless o.node.soft.wish (takes_place o upto) r in
      cond_both (is_joined_to o.node.kept.mode p && seq == o.node.kept.seq) (takes_ancestors ranked (ancestors_by p xs)) (ignored o) (Of P)
      (λ e.
      let both = and_parts (is_joined_to o.node.kept.mode p) (seq == o.node.kept.seq) e in
      let joined : o.node.kept.mode ≡ modes.Joined p = joined_true o.node.kept.mode p both.0 in
      let here : came p (bodies.CheckAck o.node.kept.seq upto r xs) = subst (λ (s : ℕ). came p (bodies.CheckAck s upto r xs)) (eqb-true seq o.node.kept.seq both.1) came_ack in
      walks_takes_ancestors ranked (ancestors_by p xs)
      (walks_takes_place o p upto r xs here joined (λ q. Of P (takes_rank_unless o.node.soft.wish q r))
      (λ q same_seq same_mode g. walks_takes_rank_unless o.node.soft.wish q p upto r xs (subst (λ (s : ℕ). came p (bodies.CheckAck s upto r xs)) (sym same_seq) here) (same_mode ∙ joined) g) h))
      (λ _. h)

  pub walks_took_rejoin : (o : Plan) (p seq : ℕ) → Of P o → Of P (took_rejoin o p seq)
  walks_took_rejoin o p seq h = cond_both (is_peer o.node.kept.mode p && seq == o.node.kept.seq) (ask_before o p) (ignored o) (Of P) (λ _. walks_ask_before came P k o p h) (λ _. h)
