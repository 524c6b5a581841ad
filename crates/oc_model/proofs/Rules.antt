-- A property that each single change of a step under way keeps is kept by every rule of the control step.
use Rattle.std.proofs.Common.{◌≡◌, ℕ, ◌+◌, ◌-◌, Bool, true, false, not, ◌&&◌, ◌||◌, ◌==◌, nat_lt, nat_le, if◌then◌else◌, Option, Some, None, List, [], ◌∷◌, filter, refl, ap, sym}
use Rattle.oc_base.specs.declared.cert.Cert.{Cert}
use Rattle.oc_base.specs.declared.rank.Rank.{Rank}
use Rattle.oc_base.specs.declared.refusal.Refusal.{Refusal}
use Rattle.oc_base.specs.declared.refusal.Refusal.TheVariants as refusals
use Rattle.oc_base.specs.declared.shelf.Shelf.{Shelf}
use Rattle.oc_base.specs.Rank.{beneath_of}
use Rattle.oc_model.specs.declared.answer.Answer.{Answer}
use Rattle.oc_model.specs.declared.answer.Answer.TheVariants as words
use Rattle.oc_model.specs.declared.message.Body.{Body}
use Rattle.oc_model.specs.declared.message.Body.TheVariants as bodies
use Rattle.oc_model.specs.declared.mode.Mode.{Mode}
use Rattle.oc_model.specs.declared.mode.Mode.TheVariants as modes
use Rattle.oc_model.specs.declared.place.Review.{Review}
use Rattle.oc_model.specs.declared.place.Review.TheVariants as reviews
use Rattle.oc_model.specs.declared.record.Record.{Record}
use Rattle.oc_model.specs.declared.record.Record.TheVariants as records
use Rattle.oc_model.specs.declared.soft.Search.{Search}
use Rattle.oc_model.specs.declared.soft.Search.TheVariants as searches
use Rattle.oc_model.specs.declared.soft.Soft.{Soft}
use Rattle.oc_model.specs.declared.soft.TheConstants.{MAX_MOVES}
use Rattle.oc_model.specs.Adopting.{is_acting, raises, raises_over, host, birth, has_lease, grants, sends_rejoin, adopts, answers_ask, asked}
use Rattle.oc_model.specs.Adoption.{precedes, precedes_any, rank_or_last, is_better, adoption_refusal}
use Rattle.oc_base.specs.declared.limits.TheConstants.{MAX_DEPTH}
use Rattle.oc_model.specs.Asking.{lost_from, lost, send_ask, ask, next_epoch, act, descend, try_at, earlier, waits_awhile, try_first, next_try, set_tries, round, ask_before, is_asking, ancestors_by, patience_at, joins, took_yes, refused, took_no, not_seen, not_reached, unreachable, left_in_move, notes_parent, relocate}
use Rattle.oc_model.specs.ChangeLog.{next_certs, place_after, is_ahead}
use Rattle.oc_model.specs.Checking.{counts_clients, checks_in, notes_time, reports, checks_as, next_check, sets_due, checks, merges, merges_all, at_time, starts_leases, dies, ends_each, ends_leases, looks_at_each, looks_round, is_due, forgets_refusal, goes_on, tick_checks_as, tick_checks, checks_in_time, has_news, reports_news_as, reports_news, checks_if_due, fetches_as, fetches, tick, acknowledges, life, checked_in, is_joined_to, takes_place, takes_rank, takes_rank_unless, same_ids, takes_ancestors, took_ack, is_peer, took_rejoin}
use Rattle.oc_model.specs.Choice.{ask_order, below, chosen, reviewed}
use Rattle.oc_model.specs.Content.{pulled}
use Rattle.oc_model.specs.Leases.{renew, start_all, ended}
use Rattle.oc_model.specs.Looking.{Stand, looked, goes_down, candidates, descends, place_in, is_place, wishes, leaves_for, goes_where, weighs, view, reviews_place, prefers, keeps_line, sees_as, sees}
use Rattle.oc_model.specs.Measures.{reading_of, same_reading}
use Rattle.oc_model.specs.Numbers.{number_end, raise, capped, at, put_at, is_empty}
use Rattle.oc_model.specs.Plan.{Plan, write, send, answers, with_soft, with_leases, searching, ignored, is_member, rate_to}
use Rattle.oc_model.specs.Serving.{serves, redirects, server_for, client_of, client, may_move, measured}
use Rattle.oc_base.specs.Shelves.{line_of}
use Rattle.oc_model.specs.Table.{newest, is_news}

-- a property of both holds of the one that a test chooses
pub either : {X : Type 0} (b : Bool) (P : X → Type 0) (o q : X) → P o → P q → P (if b then o else q)
either true P o q h k = h
either false P o q h k = k

-- a message of the control rules: no chunk, and a fetch names the whole shelf
abbrev pub IsPlain : List Shelf → Body → Type 0
IsPlain shelf (bodies.Chunk g start bytes last) = ⊥
IsPlain shelf (bodies.Fetch have) = have ≡ shelf
IsPlain shelf body = Unit {0}

abbrev pub with_lists : Plan → List (Option ℕ) → List ℕ → List ℕ → Plan
with_lists o leases rates counts = record o { node = record o.node { leases = leases; rates = rates; counts = counts } }

-- each change of a step under way keeps this; the clock is changed by a tick alone
pub record IsClosed (shelf : List Shelf) (P : Plan → Type 0) : Type 0 where
  pub write : (o : Plan) (r : Record) → P o → P (write o r)
  pub send : (o : Plan) (p : ℕ) (b : Body) → IsPlain shelf b → P o → P (send o p b)
  pub answers : (o : Plan) (a : Answer) → P o → P (answers o a)
  pub soft : (o : Plan) (s : Soft) → s.clock ≡ o.node.soft.clock → P o → P (with_soft o s)
  pub lists : (o : Plan) (leases : List (Option ℕ)) (rates counts : List ℕ) → P o → P (with_lists o leases rates counts)

-- losing a parent does not change the part that a start clears
lost_soft : (m : Mode) (o : Plan) → (lost_from m o).node.soft ≡ o.node.soft
lost_soft modes.Idle o = refl
lost_soft (modes.Asking p) o = refl
lost_soft (modes.Joined p) o = refl
lost_soft modes.Acting o = refl

module _ (shelf : List Shelf) (P : Plan → Type 0) (k : IsClosed shelf P) where
  -- Asks

  keeps_lost_from : (m : Mode) (o : Plan) → P o → P (lost_from m o)
  keeps_lost_from modes.Idle o h = h
  keeps_lost_from (modes.Asking p) o h = k.write o records.Lost h
  keeps_lost_from (modes.Joined p) o h = k.write o records.Lost h
  keeps_lost_from modes.Acting o h = k.write o records.Lost h

  keeps_lost : (o : Plan) → P o → P (lost o)
  keeps_lost o h = keeps_lost_from o.node.kept.mode o h

  keeps_searching : (o : Plan) (s : Option Search) → P o → P (searching o s)
  keeps_searching o s h = k.soft o (record o.node.soft { search = s }) refl h

  keeps_ignored : (o : Plan) → P o → P (ignored o)
  keeps_ignored o h = k.answers o words.Ignored h

  keeps_send_ask : (o : Plan) (p : ℕ) → P o → P (send_ask o p)
  keeps_send_ask o p h = k.send o p (bodies.Ask o.node.kept.seq o.node.kept.rank) tt h

  keeps_ask : (o : Plan) (p : ℕ) → P o → P (ask o p)
  keeps_ask o p h =
      either (o.node.kept.seq == number_end) P (answers (lost o) words.Spent) (send_ask (searching (write o (records.Ask (o.node.kept.seq + 1) p)) None) p)
      (k.answers (lost o) words.Spent (keeps_lost o h))
      (keeps_send_ask (searching (write o (records.Ask (o.node.kept.seq + 1) p)) None) p (keeps_searching (write o (records.Ask (o.node.kept.seq + 1) p)) None (k.write o (records.Ask (o.node.kept.seq + 1) p) h)))

  keeps_act : (o : Plan) → P o → P (act o)
  keeps_act o h = k.write (write o records.Acting) (records.Epoch (next_epoch (rank_or_last o.node.kept.rank))) (k.write o records.Acting h)

  keeps_descend : (o : Plan) (p : ℕ) → P o → P (descend o p)
  keeps_descend o p h = k.send (searching o (Some (searches.Descend p))) p bodies.Look tt (keeps_searching o (Some (searches.Descend p)) h)

  keeps_try_at : (o : Plan) (p : ℕ) → P o → P (try_at o p)
  keeps_try_at o p h = either (not (is_member o.node) && is_empty o.node.kept.ancestors) P (descend o p) (ask o p) (keeps_descend o p h) (keeps_ask o p h)

  keeps_waits_awhile : (o : Plan) → P o → P (waits_awhile o)
  keeps_waits_awhile o h =
      let later : Soft = record o.node.soft { due = Some (earlier o.node.soft.due (o.node.soft.clock + 4)) } in
      k.answers (with_soft o later) words.Waiting (k.soft o later refl h)

  keeps_try_first : (ps : List ℕ) (o : Plan) → P o → P (try_first ps o)
  keeps_try_first [] o h = either (is_member o.node && o.node.soft.silent) P (act o) (waits_awhile o) (keeps_act o h) (keeps_waits_awhile o h)
  keeps_try_first (p ∷ ps) o h = keeps_try_at (with_soft o (record o.node.soft { tries = ps })) p (k.soft o (record o.node.soft { tries = ps }) refl h)

  keeps_next_try : (o : Plan) → P o → P (next_try o)
  keeps_next_try o h = either (o.node.me == 1) P (act o) (try_first o.node.soft.tries o) (keeps_act o h) (keeps_try_first o.node.soft.tries o h)

  keeps_set_tries : (o : Plan) (without : Option ℕ) → P o → P (set_tries o without)
  keeps_set_tries o without h = k.soft o (record o.node.soft { tries = ask_order o.node.me o.node.chain o.node.kept.ancestors without; silent = true }) refl h

  keeps_round : (o : Plan) (without : Option ℕ) → P o → P (round o without)
  keeps_round o without h = keeps_next_try (set_tries o without) (keeps_set_tries o without h)

  keeps_ask_before : (o : Plan) (p : ℕ) → P o → P (ask_before o p)
  keeps_ask_before o p h = keeps_ask (set_tries o (Some p)) p (keeps_set_tries o (Some p) h)

  keeps_joins : (o : Plan) (p : ℕ) (r : Rank) (xs : List ℕ) → P o → P (joins o p r xs)
  keeps_joins o p r xs h =
      k.soft (write (write o (records.Joined p (beneath_of r))) (records.Ancestors (ancestors_by p xs)))
      (record o.node.soft { due = None; tries = []; search = None; wish = None; waits = 0; patience = patience_at o.node p }) refl
      (k.write (write o (records.Joined p (beneath_of r))) (records.Ancestors (ancestors_by p xs)) (k.write o (records.Joined p (beneath_of r)) h))

  pub keeps_took_yes : (o : Plan) (p seq : ℕ) (r : Rank) (xs : List ℕ) → P o → P (took_yes o p seq r xs)
  keeps_took_yes o p seq r xs h =
      either (is_asking o.node.kept.mode p && seq == o.node.kept.seq && nat_lt r.depth MAX_DEPTH && precedes_any r o.node.kept.rank) P (joins o p r xs) (ignored o)
      (keeps_joins o p r xs h) (keeps_ignored o h)

  keeps_refused : (o : Plan) (why : Refusal) → P o → P (refused o why)
  keeps_refused o (refusals.Chain q) h = either (is_member o.node || q == o.node.me) P (next_try o) (descend o q) (keeps_next_try o h) (keeps_descend o q h)
  keeps_refused o refusals.Own h = keeps_next_try o h
  keeps_refused o refusals.NotJoined h = keeps_next_try o h
  keeps_refused o refusals.Ancestor h = keeps_next_try o h
  keeps_refused o refusals.Depth h = keeps_next_try o h
  keeps_refused o refusals.Rank h = keeps_next_try o h

  pub keeps_took_no : (o : Plan) (p seq : ℕ) (why : Refusal) → P o → P (took_no o p seq why)
  keeps_took_no o p seq why h =
      either (is_asking o.node.kept.mode p && seq == o.node.kept.seq) P (refused (with_soft (lost o) (record o.node.soft { silent = false; refused = true })) why) (ignored o)
      (keeps_refused (with_soft (lost o) (record o.node.soft { silent = false; refused = true })) why
      (k.soft (lost o) (record o.node.soft { silent = false; refused = true }) (ap (λ s. s.clock) (sym (lost_soft o.node.kept.mode o))) (keeps_lost o h)))
      (keeps_ignored o h)

  keeps_not_seen : (s : Option Search) (o : Plan) (p : ℕ) → P o → P (not_seen s o p)
  keeps_not_seen None o p h = keeps_ignored o h
  keeps_not_seen (Some searches.Review) o p h = keeps_ignored o h
  keeps_not_seen (Some (searches.Descend q)) o p h = either (q == p) P (next_try (searching o None)) (ignored o) (keeps_next_try (searching o None) (keeps_searching o None h)) (keeps_ignored o h)

  keeps_not_reached : (m : Mode) (o : Plan) (p : ℕ) → P o → P (not_reached m o p)
  keeps_not_reached modes.Idle o p h = keeps_not_seen o.node.soft.search o p h
  keeps_not_reached modes.Acting o p h = keeps_not_seen o.node.soft.search o p h
  keeps_not_reached (modes.Joined q) o p h =
      either (q == p) P (round (lost o) (Some p)) (not_seen o.node.soft.search o p) (keeps_round (lost o) (Some p) (keeps_lost o h)) (keeps_not_seen o.node.soft.search o p h)
  keeps_not_reached (modes.Asking q) o p h =
      either (q == p) P (next_try (lost o)) (not_seen o.node.soft.search o p) (keeps_next_try (lost o) (keeps_lost o h)) (keeps_not_seen o.node.soft.search o p h)

  pub keeps_unreachable : (o : Plan) (p : ℕ) → P o → P (unreachable o p)
  keeps_unreachable o p h = keeps_not_reached o.node.kept.mode o p h

  keeps_notes_parent : (o : Plan) → P o → P (notes_parent o)
  keeps_notes_parent o h = k.soft o (record o.node.soft { left = left_in_move o.node.kept.mode o.node.soft.wish o.node.soft.left }) refl h

  pub keeps_relocate : (o : Plan) (p : ℕ) → P o → P (relocate o p)
  keeps_relocate o p h =
      either (p == o.node.me) P (answers o words.Own) (if o.node.me == 1 || (is_member o.node && nat_lt o.node.me p) then answers o words.Fixed else ask_before (notes_parent o) p)
      (k.answers o words.Own h)
      (either (o.node.me == 1 || (is_member o.node && nat_lt o.node.me p)) P (answers o words.Fixed) (ask_before (notes_parent o) p)
      (k.answers o words.Fixed h) (keeps_ask_before (notes_parent o) p (keeps_notes_parent o h)))

  -- Adoption

  keeps_raises : (o : Plan) (e : Option ℕ) → P o → P (raises o e)
  keeps_raises o None h = h
  keeps_raises o (Some e) h = k.write o (records.Epoch e) h

  keeps_raises_over : (o : Plan) (x : ℕ) (r : Rank) → P o → P (raises_over o x r)
  keeps_raises_over o x r h =
      either (is_acting o.node.kept.mode && not (precedes (rank_or_last o.node.kept.rank) r) && not (x == o.node.me)) P (raises o (raise r.epoch)) o
      (keeps_raises o (raise r.epoch) h) h

  keeps_grants : (o : Plan) (x seq : ℕ) → P o → P (grants o x seq)
  keeps_grants o x seq h =
      k.send (with_leases o (renew o.node.leases x o.node.soft.clock)) x (bodies.Yes seq (rank_or_last o.node.kept.rank) o.node.kept.ancestors) tt
      (k.lists o (renew o.node.leases x o.node.soft.clock) o.node.rates o.node.counts h)

  keeps_sends_rejoin : (o : Plan) (x seq : ℕ) → P o → P (sends_rejoin o x seq)
  keeps_sends_rejoin o x seq h = k.send o x (bodies.Rejoin seq) tt h

  keeps_adopts : (o : Plan) (x seq : ℕ) → P o → P (adopts o x seq)
  keeps_adopts o x seq h =
      let entry : Record = records.Entry (birth x seq o.node.me) in
      either (has_lease o.node x seq) P (grants o x seq) (if is_news o.node.kept.table (birth x seq o.node.me) then grants (write o entry) x seq else sends_rejoin o x seq)
      (keeps_grants o x seq h)
      (either (is_news o.node.kept.table (birth x seq o.node.me)) P (grants (write o entry) x seq) (sends_rejoin o x seq)
      (keeps_grants (write o entry) x seq (k.write o entry h)) (keeps_sends_rejoin o x seq h))

  keeps_answers_ask : (why : Option Refusal) (o : Plan) (x seq : ℕ) → P o → P (answers_ask why o x seq)
  keeps_answers_ask None o x seq h = keeps_adopts o x seq h
  keeps_answers_ask (Some why) o x seq h = k.send o x (bodies.No seq why) tt h

  pub keeps_asked : (o : Plan) (x seq : ℕ) (r : Option Rank) → P o → P (asked o x seq r)
  keeps_asked o x seq r h =
      let raised : Plan = raises_over o x (rank_or_last r) in
      keeps_answers_ask (adoption_refusal (host raised.node x) x r) raised x seq (keeps_raises_over o x (rank_or_last r) h)

  -- Checks

  keeps_counts_clients : (o : Plan) → P o → P (counts_clients o)
  keeps_counts_clients o h =
      let info : Record = records.Info (o.node.kept.number + 1) (capped (o.node.kept.clients + o.node.soft.served)) in
      either (not (o.node.soft.served == 0) && nat_lt o.node.kept.number number_end) P (with_soft (write o info) (record o.node.soft { served = 0 })) o
      (k.soft (write o info) (record o.node.soft { served = 0 }) refl (k.write o info h)) h

  keeps_checks_in : (o : Plan) (p : ℕ) → P o → P (checks_in o p)
  keeps_checks_in o p h = k.send o p (bodies.CheckIn o.node.kept.seq (place_after o.node.kept.log) (rate_to o.node p) o.node.kept.number o.node.kept.clients (next_certs o.node.kept.log)) tt h

  keeps_reports : (o : Plan) (p : ℕ) → P o → P (reports o p)
  keeps_reports o p h =
      keeps_checks_in (counts_clients (notes_time o)) p (keeps_counts_clients (notes_time o) (k.soft o (record o.node.soft { checked = Some o.node.soft.clock }) refl h))

  keeps_checks_as : (m : Mode) (o : Plan) → P o → P (checks_as m o)
  keeps_checks_as (modes.Joined p) o h = keeps_reports o p h
  keeps_checks_as modes.Acting o h = keeps_raises o (raise (rank_or_last o.node.kept.rank).epoch) h
  keeps_checks_as modes.Idle o h = keeps_round o None h
  keeps_checks_as (modes.Asking p) o h = keeps_send_ask o p h

  keeps_sets_due : (o : Plan) → P o → P (sets_due o)
  keeps_sets_due o h = k.soft o (record o.node.soft { due = Some (next_check o.node) }) refl h

  pub keeps_checks : (o : Plan) → P o → P (checks o)
  keeps_checks o h = keeps_checks_as o.node.kept.mode (sets_due o) (keeps_sets_due o h)

  keeps_goes_on : (s : Option Search) (o : Plan) → P o → P (goes_on s o)
  keeps_goes_on (Some (searches.Descend p)) o h = k.send o p bodies.Look tt h
  keeps_goes_on (Some searches.Review) o h = keeps_round o None h
  keeps_goes_on None o h = keeps_round o None h

  keeps_tick_checks_as : (m : Mode) (o : Plan) → P o → P (tick_checks_as m o)
  keeps_tick_checks_as modes.Idle o h = keeps_goes_on o.node.soft.search o h
  keeps_tick_checks_as (modes.Joined p) o h = keeps_reports o p h
  keeps_tick_checks_as modes.Acting o h = keeps_checks_as modes.Acting o h
  keeps_tick_checks_as (modes.Asking p) o h = keeps_send_ask o p h

  keeps_tick_checks : (o : Plan) → P o → P (tick_checks o)
  keeps_tick_checks o h = keeps_tick_checks_as o.node.kept.mode (sets_due o) (keeps_sets_due o h)

  keeps_merges : (o : Plan) (c : Cert) → P o → P (merges o c)
  keeps_merges o c h = either (is_news o.node.kept.table c) P (write o (records.Entry c)) o (k.write o (records.Entry c) h) h

  keeps_merges_all : (cs : List Cert) (o : Plan) → P o → P (merges_all cs o)
  keeps_merges_all [] o h = h
  keeps_merges_all (c ∷ cs) o h = keeps_merges_all cs (merges o c) (keeps_merges o c h)

  keeps_starts_leases : (o : Plan) → P o → P (starts_leases o)
  keeps_starts_leases o h = k.lists o (start_all o.node.kept.table o.node.me o.node.leases o.node.soft.clock) o.node.rates o.node.counts h

  keeps_dies : (e : Option Cert) (o : Plan) → P o → P (dies e o)
  keeps_dies None o h = h
  keeps_dies (Some c) o h = keeps_merges o (record c { dead = true }) h

  keeps_ends_each : (xs : List ℕ) (o : Plan) → P o → P (ends_each xs o)
  keeps_ends_each [] o h = h
  keeps_ends_each (x ∷ xs) o h = keeps_ends_each xs (dies (newest o.node.kept.table x) o) (keeps_dies (newest o.node.kept.table x) o h)

  keeps_ends_leases : (o : Plan) → P o → P (ends_leases o)
  keeps_ends_leases o h = keeps_ends_each (ended o.node.kept.table o.node.me o.node.leases o.node.soft.clock) o h

  keeps_looks_at_each : (xs : List ℕ) (o : Plan) → P o → P (looks_at_each xs o)
  keeps_looks_at_each [] o h = h
  keeps_looks_at_each (x ∷ xs) o h = keeps_looks_at_each xs (send o x bodies.Look) (k.send o x bodies.Look tt h)

  keeps_looks_round : (m : Mode) (o : Plan) → P o → P (looks_round m o)
  keeps_looks_round (modes.Joined p) o h =
      let nearer : List ℕ = filter (λ x. nat_lt p x) (below o.node.me) in
      let reviewing : Plan = searching o (Some searches.Review) in
      either (is_member o.node) P (looks_at_each nearer o) (if o.node.soft.refused then o else send reviewing p bodies.Look)
      (keeps_looks_at_each nearer o h)
      (either o.node.soft.refused P o (send reviewing p bodies.Look) h (k.send reviewing p bodies.Look tt (keeps_searching o (Some searches.Review) h)))
  keeps_looks_round modes.Acting o h = either (is_member o.node) P (looks_at_each (below o.node.me) o) o (keeps_looks_at_each (below o.node.me) o h) h
  keeps_looks_round modes.Idle o h = h
  keeps_looks_round (modes.Asking p) o h = h

  keeps_forgets_refusal : (due : Option ℕ) (o : Plan) → P o → P (forgets_refusal due o)
  keeps_forgets_refusal None o h = h
  keeps_forgets_refusal (Some t) o h = k.soft o (record o.node.soft { refused = false }) refl h

  keeps_checks_in_time : (o : Plan) → P o → P (checks_in_time o)
  keeps_checks_in_time o h =
      let begins : Plan = forgets_refusal o.node.soft.due o in
      keeps_looks_round o.node.kept.mode (tick_checks begins) (keeps_tick_checks begins (keeps_forgets_refusal o.node.soft.due o h))

  keeps_reports_news_as : (m : Mode) (o : Plan) → P o → P (reports_news_as m o)
  keeps_reports_news_as (modes.Joined p) o h = either (has_news o.node) P (reports o p) o (keeps_reports o p h) h
  keeps_reports_news_as modes.Idle o h = h
  keeps_reports_news_as (modes.Asking p) o h = h
  keeps_reports_news_as modes.Acting o h = h

  keeps_checks_if_due : (o : Plan) → P o → P (checks_if_due o)
  keeps_checks_if_due o h =
      either (is_due o.node.soft.due o.node.soft.clock) P (checks_in_time o) (reports_news o) (keeps_checks_in_time o h) (keeps_reports_news_as o.node.kept.mode o h)

  keeps_fetches_as : (m : Mode) (o : Plan) → P o → P (fetches_as m o shelf)
  keeps_fetches_as (modes.Joined p) o h = k.send o p (bodies.Fetch shelf) refl h
  keeps_fetches_as modes.Idle o h = h
  keeps_fetches_as (modes.Asking p) o h = h
  keeps_fetches_as modes.Acting o h = h

  keeps_fetches : (o : Plan) → P o → P (fetches o shelf)
  keeps_fetches o h = keeps_fetches_as o.node.kept.mode o h

  -- a tick, once the clock was set
  pub keeps_tick : (o : Plan) (t : ℕ) → P (at_time o t) → P (tick o shelf t)
  keeps_tick o t h =
      let started : Plan = starts_leases (at_time o t) in
      keeps_fetches (checks_if_due (ends_leases started)) (keeps_checks_if_due (ends_leases started) (keeps_ends_leases started (keeps_starts_leases (at_time o t) h)))

  keeps_acknowledges : (o : Plan) (x seq upto rate : ℕ) → P o → P (acknowledges o x seq upto rate)
  keeps_acknowledges o x seq upto rate h =
      let renewed : Plan = with_lists o (renew o.node.leases x o.node.soft.clock) (put_at o.node.rates x rate) o.node.counts in
      k.send renewed x (bodies.CheckAck seq upto (rank_or_last o.node.kept.rank) o.node.kept.ancestors) tt
      (k.lists o (renew o.node.leases x o.node.soft.clock) (put_at o.node.rates x rate) o.node.counts h)

  pub keeps_checked_in : (o : Plan) (x seq upto rate number clients : ℕ) (certs : List Cert) → P o → P (checked_in o x seq upto rate number clients certs)
  keeps_checked_in o x seq upto rate number clients certs h =
      let merged : Plan = merges_all (life x seq o.node.me number clients ∷ certs) o in
      either (has_lease o.node x seq) P (acknowledges merged x seq upto rate) (sends_rejoin o x seq)
      (keeps_acknowledges merged x seq upto rate (keeps_merges_all (life x seq o.node.me number clients ∷ certs) o h)) (keeps_sends_rejoin o x seq h)

  keeps_takes_place : (o : Plan) (upto : ℕ) → P o → P (takes_place o upto)
  keeps_takes_place o upto h = either (is_ahead o.node.kept.log upto) P (write o (records.Acked upto)) o (k.write o (records.Acked upto) h) h

  keeps_takes_rank : (o : Plan) (told : Rank) → P o → P (takes_rank o told)
  keeps_takes_rank o told h = either (is_better o.node.kept.rank told) P (write o (records.Ranked (beneath_of told))) o (k.write o (records.Ranked (beneath_of told)) h) h

  keeps_takes_rank_unless : (wish : Option ℕ) (o : Plan) (told : Rank) → P o → P (takes_rank_unless wish o told)
  keeps_takes_rank_unless None o told h = keeps_takes_rank o told h
  keeps_takes_rank_unless (Some g) o told h = h

  keeps_takes_ancestors : (o : Plan) (xs : List ℕ) → P o → P (takes_ancestors o xs)
  keeps_takes_ancestors o xs h = either (same_ids xs o.node.kept.ancestors) P o (write o (records.Ancestors xs)) h (k.write o (records.Ancestors xs) h)

  pub keeps_took_ack : (o : Plan) (p seq upto : ℕ) (told : Rank) (xs : List ℕ) → P o → P (took_ack o p seq upto told xs)
  keeps_took_ack o p seq upto told xs h =
      let ranked : Plan = takes_rank_unless o.node.soft.wish (takes_place o upto) told in
      either (is_joined_to o.node.kept.mode p && seq == o.node.kept.seq) P (takes_ancestors ranked (ancestors_by p xs)) (ignored o)
      (keeps_takes_ancestors ranked (ancestors_by p xs) (keeps_takes_rank_unless o.node.soft.wish (takes_place o upto) told (keeps_takes_place o upto h))) (keeps_ignored o h)

  pub keeps_took_rejoin : (o : Plan) (p seq : ℕ) → P o → P (took_rejoin o p seq)
  keeps_took_rejoin o p seq h = either (is_peer o.node.kept.mode p && seq == o.node.kept.seq) P (ask_before o p) (ignored o) (keeps_ask_before o p h) (keeps_ignored o h)

  -- Looks

  pub keeps_looked : (o : Plan) (p : ℕ) → P o → P (looked o p)
  keeps_looked o p h = k.send o p _ tt h

  keeps_goes_down : (c : Option ℕ) (o : Plan) (p : ℕ) → P o → P (goes_down c o p)
  keeps_goes_down None o p h = keeps_ask o p h
  keeps_goes_down (Some q) o p h = keeps_descend o q h

  keeps_descends : (o : Plan) (p : ℕ) (s : Stand) → P o → P (descends o p s)
  keeps_descends o p s h =
      let way : Option ℕ = chosen (rate_to o.node p) (candidates o.node s.children) in
      either s.in_tree P (goes_down way o p) (next_try (searching o None)) (keeps_goes_down way o p h) (keeps_next_try (searching o None) (keeps_searching o None h))

  keeps_wishes : (o : Plan) (place : Option ℕ) (count : ℕ) → P o → P (wishes o place count)
  keeps_wishes o place count h = k.soft o (record o.node.soft { wish = place; waits = count }) refl h

  keeps_leaves_for : (o : Plan) (p g : ℕ) → P o → P (leaves_for o p g)
  keeps_leaves_for o p g h =
      let left : Soft = record o.node.soft { left = Some p; moves = o.node.soft.moves + 1 } in
      keeps_ask_before (with_soft o left) g (k.soft o left refl h)

  keeps_goes_where : (place : Option ℕ) (o : Plan) (p : ℕ) → P o → P (goes_where place o p)
  keeps_goes_where None o p h = h
  keeps_goes_where (Some g) o p h =
      either (nat_lt o.node.soft.waits (o.node.soft.patience + 2)) P (wishes o (Some g) (o.node.soft.waits + 1)) (leaves_for o p g)
      (keeps_wishes o (Some g) (o.node.soft.waits + 1) h) (keeps_leaves_for o p g h)

  keeps_weighs : (o : Plan) (p : ℕ) (place : Option ℕ) → P o → P (weighs o p place)
  keeps_weighs o p place h =
      let soft : Soft = o.node.soft in
      let doubted : Plan = wishes o soft.wish (soft.waits - 1) in
      let wished : Plan = wishes o place soft.waits in
      either (nat_le MAX_MOVES soft.moves) P (wishes o None 0) (if not (is_place place soft.wish) && nat_lt 0 soft.waits then doubted else goes_where place wished p)
      (keeps_wishes o None 0 h)
      (either (not (is_place place soft.wish) && nat_lt 0 soft.waits) P doubted (goes_where place wished p)
      (keeps_wishes o soft.wish (soft.waits - 1) h) (keeps_goes_where place wished p (keeps_wishes o place soft.waits h)))

  keeps_reviews_place : (o : Plan) (p : ℕ) (s : Stand) → P o → P (reviews_place o p s)
  keeps_reviews_place o p s h = keeps_weighs (searching o None) p (place_in (reviewed (view o.node p s))) (keeps_searching o None h)

  keeps_keeps_line : (o : Plan) (p : ℕ) (s : Stand) → P o → P (keeps_line o p s)
  keeps_keeps_line o p s h =
      either (is_member o.node && prefers o.node.kept.mode p && nat_lt p o.node.me && s.in_tree) P (ask_before o p) (ignored o) (keeps_ask_before o p h) (keeps_ignored o h)

  keeps_sees_as : (m : Mode) (search : Option Search) (o : Plan) (p : ℕ) (s : Stand) → P o → P (sees_as m search o p s)
  keeps_sees_as modes.Idle (Some (searches.Descend q)) o p s h = either (q == p) P (descends o p s) (keeps_line o p s) (keeps_descends o p s h) (keeps_keeps_line o p s h)
  keeps_sees_as modes.Idle (Some searches.Review) o p s h = keeps_keeps_line o p s h
  keeps_sees_as modes.Idle None o p s h = keeps_keeps_line o p s h
  keeps_sees_as (modes.Joined q) (Some searches.Review) o p s h = either (q == p) P (reviews_place o p s) (keeps_line o p s) (keeps_reviews_place o p s h) (keeps_keeps_line o p s h)
  keeps_sees_as (modes.Joined q) (Some (searches.Descend y)) o p s h = keeps_keeps_line o p s h
  keeps_sees_as (modes.Joined q) None o p s h = keeps_keeps_line o p s h
  keeps_sees_as (modes.Asking q) search o p s h = keeps_keeps_line o p s h
  keeps_sees_as modes.Acting search o p s h = keeps_keeps_line o p s h

  pub keeps_sees : (o : Plan) (p : ℕ) (s : Stand) → P o → P (sees o p s)
  keeps_sees o p s h = keeps_sees_as o.node.kept.mode o.node.soft.search o p s h

  -- Clients and measures

  keeps_serves : (o : Plan) (count : ℕ) → P o → P (serves o count)
  keeps_serves o count h =
      let served : Soft = record o.node.soft { served = capped (o.node.soft.served + 1) } in
      k.answers (with_soft o served) (words.Serve count) (k.soft o served refl h)

  keeps_redirects : (to : Option ℕ) (o : Plan) (count : ℕ) → P o → P (redirects to o count)
  keeps_redirects None o count h = keeps_serves o count h
  keeps_redirects (Some q) o count h =
      let counted : List ℕ = put_at o.node.counts q (capped (at o.node.counts q 0 + 1)) in
      k.answers (with_lists o o.node.leases o.node.rates counted) (words.Redirect q) (k.lists o o.node.leases o.node.rates counted h)

  keeps_client_of : (l : Option Shelf) (o : Plan) (area start : ℕ) → P o → P (client_of l o area start)
  keeps_client_of None o area start h = k.answers o words.NoGroup h
  keeps_client_of (Some l) o area start h = keeps_redirects (server_for o.node area) o _ h

  pub keeps_client : (o : Plan) (area start : ℕ) (g : List ℕ) → P o → P (client o shelf area start g)
  keeps_client o area start g h = keeps_client_of (line_of g shelf) o area start h

  pub keeps_measured : (o : Plan) (p rate hops : ℕ) → P o → P (measured o p rate hops)
  keeps_measured o p rate hops h =
      let wrote : Plan = write o (records.Rate p rate hops) in
      either (p == o.node.me) P (answers o words.Own) (if same_reading (reading_of o.node.kept.measures p) (record { rate = rate; hops = hops }) then o else may_move wrote)
      (k.answers o words.Own h)
      (either (same_reading (reading_of o.node.kept.measures p) (record { rate = rate; hops = hops })) P o (may_move wrote) h
      (k.soft wrote (record wrote.node.soft { moves = 0 }) refl (k.write o (records.Rate p rate hops) h)))

  pub keeps_pulled : (o : Plan) (p : ℕ) → P o → P (pulled o shelf p)
  keeps_pulled o p h = either (p == o.node.me) P (answers o words.Own) (send o p (bodies.Fetch shelf)) (k.answers o words.Own h) (k.send o p (bodies.Fetch shelf) refl h)
