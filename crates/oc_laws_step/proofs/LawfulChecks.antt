-- Rules 5 (check now), 6 (tick) and 13 (check-ins) keep a node lawful, and their records and messages are lawful.
use Rattle.std.proofs.Common.{◌≡◌, ℕ, ◌+◌, ◌-◌, ◌<◌, ◌≤◌, min, max, true, false, not, ◌&&◌, ◌==◌, nat_lt, if◌then◌else◌, Option, Some, None, List, [], ◌∷◌, length, filter, refl, sym, subst, arith, ltb-true, length-take}
use Rattle.std.proofs.lemmas.Bool.{and_parts}
use Rattle.oc_base.specs.declared.cert.Cert.{Cert}
use Rattle.oc_base.specs.declared.rank.Rank.{Rank}
use Rattle.oc_base.specs.declared.shelf.Shelf.{Shelf}
use Rattle.oc_base.specs.Rank.{beneath_of}
use Rattle.oc_model.specs.declared.message.Body.TheVariants as bodies
use Rattle.oc_model.specs.declared.mode.Mode.{Mode}
use Rattle.oc_model.specs.declared.mode.Mode.TheVariants as modes
use Rattle.oc_model.specs.declared.record.Record.TheVariants as records
use Rattle.oc_model.specs.declared.soft.Search.{Search}
use Rattle.oc_model.specs.declared.soft.Search.TheVariants.{Descend, Review}
use Rattle.oc_model.specs.Adopting.{has_lease, sends_rejoin}
use Rattle.oc_model.specs.Adoption.{rank_or_last, is_better, precedes_any}
use Rattle.oc_base.specs.declared.limits.TheConstants.{MAX_DEPTH, MAX_CHECK_IN_CERTS, LAST_SECOND}
use Rattle.oc_model.specs.Asking.{ask_before, ancestors_by}
use Rattle.oc_model.specs.ChangeLog.{is_ahead, next_certs, place_after}
use Rattle.oc_model.specs.Checking.{counts_clients, checks_in, reports, checks_as, next_check, sets_due, checks, merges, merges_all, at_time, starts_leases, dies, ends_each, ends_leases, looks_at_each, looks_round, is_due, forgets_refusal, goes_on, tick_checks_as, tick_checks, checks_in_time, has_news, reports_news_as, reports_news, checks_if_due, fetches_as, fetches, tick, acknowledges, life, checked_in, is_joined_to, takes_place, takes_rank, takes_rank_unless, same_ids, takes_ancestors, took_ack, is_peer, took_rejoin}
use Rattle.oc_model.specs.Choice.{below}
use Rattle.oc_base.specs.Lawful.{IsNode, AreNodes, IsLong, IsCount, IsRank, IsRate, IsCert, AreCerts, AreAncestors}
use Rattle.oc_base.specs.Shelves.{IsShelf}
use Rattle.oc_model.specs.Leases.{renew, start_all, ended}
use Rattle.oc_model.specs.Numbers.{number_end, raise, capped, put_at}
use Rattle.oc_model.specs.Plan.{Plan, write, send, with_soft, searching, ignored, is_member, rate_to}
use Rattle.oc_model.specs.Table.{newest, is_news}
use Rattle.oc_laws_step.specs.LawfulNode.{IsLawfulMode, IsLawfulSearch, IsLawfulPlan}
use Rattle.oc_laws_step.proofs.Goes.{either, either_by}
use Rattle.oc_laws_step.proofs.LawfulAdopts.{lawful_raises, lawful_rejoin}
use Rattle.oc_laws_step.proofs.LawfulAsks.{lawful_ignored, lawful_round, lawful_ask_before, lawful_ancestors}
use Rattle.oc_laws_step.proofs.LawfulFolds.{lawful_write, lawful_write_acked, lawful_send, lawful_send_if, lawful_soft, lawful_searching, lawful_due, lawful_lists}
use Rattle.oc_laws_step.proofs.Ranges.{IfFound, all_filter, all_take, all_set, cert_found, reading_rate, rank_lawful, raise_lawful, capped_lawful, below_lawful}

module _ (nodes : ℕ) where
  -- Check now

  abbrev counted : Plan → Plan
  counted o = write o (records.Info (o.node.kept.number + 1) (capped (o.node.kept.clients + o.node.soft.served)))

  lawful_counts : (o : Plan) → IsLawfulPlan nodes o → IsLawfulPlan nodes (counts_clients o)
  lawful_counts o ok =
      either_by (not (o.node.soft.served == 0) && nat_lt o.node.kept.number number_end) (IsLawfulPlan nodes) (with_soft (counted o) (record o.node.soft { served = 0 })) o
      (λ e. let less : o.node.kept.number < number_end = ltb-true o.node.kept.number number_end (and_parts (not (o.node.soft.served == 0)) (nat_lt o.node.kept.number number_end) e).1 in
      lawful_soft nodes (counted o) (record o.node.soft { served = 0 }) (record { clock = ok.node.soft.clock; tries = ok.node.soft.tries; search = ok.node.soft.search })
      (lawful_write nodes o (records.Info (o.node.kept.number + 1) (capped (o.node.kept.clients + o.node.soft.served)))
      ((omega arith, omega (arith, less)), capped_lawful (o.node.kept.clients + o.node.soft.served)) ok))
      (λ _. ok)

  -- the number of the ask stays
  counts_seq : (o : Plan) → (counts_clients o).node.kept.seq ≡ o.node.kept.seq
  counts_seq o =
      either (not (o.node.soft.served == 0) && nat_lt o.node.kept.number number_end) (λ q. q.node.kept.seq ≡ o.node.kept.seq) (with_soft (counted o) (record o.node.soft { served = 0 })) o
      refl refl

  lawful_checks_in : (o : Plan) (p : ℕ) → IsNode nodes p → 1 ≤ o.node.kept.seq → IsLawfulPlan nodes o → IsLawfulPlan nodes (checks_in o p)
  lawful_checks_in o p to asked ok =
      lawful_send_if nodes o p (bodies.CheckIn o.node.kept.seq (place_after o.node.kept.log) (rate_to o.node p) o.node.kept.number o.node.kept.clients (next_certs o.node.kept.log)) to
      (λ room. (
        (asked, ok.node.kept.seq),
        omega (arith, room, taken, ok.log, ok.node.kept.whole),
        reading_rate o.node.kept.measures p ok.node.kept.measures,
        ok.node.kept.number,
        ok.node.kept.clients,
        all_take (IsCert nodes) MAX_CHECK_IN_CERTS o.node.kept.log.waiting ok.node.kept.waiting,
        omega (arith, taken),
      )) ok where
        taken : length (next_certs o.node.kept.log) ≡ min MAX_CHECK_IN_CERTS (length o.node.kept.log.waiting)
        taken = length-take MAX_CHECK_IN_CERTS o.node.kept.log.waiting

  abbrev noted : Plan → Plan
  noted o = with_soft o (record o.node.soft { checked = Some o.node.soft.clock })

  lawful_reports : (o : Plan) (p : ℕ) → IsNode nodes p → 1 ≤ o.node.kept.seq → IsLawfulPlan nodes o → IsLawfulPlan nodes (reports o p)
  lawful_reports o p to asked ok =
      lawful_checks_in (counts_clients (noted o)) p to (subst (λ s. 1 ≤ s) (sym (counts_seq (noted o))) asked)
      (lawful_counts (noted o)
      (lawful_soft nodes o (record o.node.soft { checked = Some o.node.soft.clock }) (record { clock = ok.node.soft.clock; tries = ok.node.soft.tries; search = ok.node.soft.search }) ok))

  lawful_checks_as : (m : Mode) (o : Plan) → IsLawfulMode nodes o.node.kept.seq m → IsLawfulPlan nodes o → IsLawfulPlan nodes (checks_as m o)
  lawful_checks_as (modes.Joined p) o mode ok = lawful_reports o p mode.1 mode.0 ok
  lawful_checks_as modes.Acting o mode ok = lawful_raises nodes o (raise (rank_or_last o.node.kept.rank).epoch) (raise_lawful (rank_or_last o.node.kept.rank).epoch (rank_lawful o.node.kept.rank ok.node.kept.rank).0) ok
  lawful_checks_as modes.Idle o mode ok = lawful_round nodes o None ok
  lawful_checks_as (modes.Asking p) o mode ok = lawful_send nodes o p (bodies.Ask o.node.kept.seq o.node.kept.rank) mode.1 ((mode.0, ok.node.kept.seq), ok.node.kept.rank) ok

  lawful_sets_due : (o : Plan) → IsLawfulPlan nodes o → IsLawfulPlan nodes (sets_due o)
  lawful_sets_due o ok = lawful_due nodes o (Some (next_check o.node)) ok

  pub lawful_checks : (o : Plan) → IsLawfulPlan nodes o → IsLawfulPlan nodes (checks o)
  lawful_checks o ok = lawful_checks_as o.node.kept.mode (sets_due o) ok.node.kept.mode (lawful_sets_due o ok)

  -- Tick

  pub lawful_merges : (o : Plan) (c : Cert) → IsCert nodes c → IsLawfulPlan nodes o → IsLawfulPlan nodes (merges o c)
  lawful_merges o c here ok = either (is_news o.node.kept.table c) (IsLawfulPlan nodes) (write o (records.Entry c)) o (lawful_write nodes o (records.Entry c) here ok) ok

  lawful_merges_all : (cs : List Cert) (o : Plan) → AreCerts nodes cs → IsLawfulPlan nodes o → IsLawfulPlan nodes (merges_all cs o)
  lawful_merges_all [] o all ok = ok
  lawful_merges_all (c ∷ cs) o all ok = lawful_merges_all cs (merges o c) all.1 (lawful_merges o c all.0 ok)

  lawful_at_time : (o : Plan) (t : ℕ) → t ≤ LAST_SECOND → IsLawfulPlan nodes o → IsLawfulPlan nodes (at_time o t)
  lawful_at_time o t within ok =
      lawful_soft nodes o (record o.node.soft { clock = max o.node.soft.clock t }) (record { clock = omega (arith, within, ok.node.soft.clock); tries = ok.node.soft.tries; search = ok.node.soft.search }) ok

  lawful_starts : (o : Plan) → IsLawfulPlan nodes o → IsLawfulPlan nodes (starts_leases o)
  lawful_starts o ok = lawful_lists nodes o (start_all o.node.kept.table o.node.me o.node.leases o.node.soft.clock) o.node.rates o.node.counts ok.node.rates ok

  lawful_dies : (k : Option Cert) (o : Plan) → IfFound (IsCert nodes) k → IsLawfulPlan nodes o → IsLawfulPlan nodes (dies k o)
  lawful_dies None o here ok = ok
  lawful_dies (Some k) o here ok = lawful_merges o (record k { dead = true }) (record { subject = here.subject; seq = here.seq; parent = here.parent; number = here.number; clients = here.clients }) ok

  lawful_ends_each : (xs : List ℕ) (o : Plan) → IsLawfulPlan nodes o → IsLawfulPlan nodes (ends_each xs o)
  lawful_ends_each [] o ok = ok
  lawful_ends_each (x ∷ xs) o ok =
      lawful_ends_each xs (dies (newest o.node.kept.table x) o) (lawful_dies (newest o.node.kept.table x) o (cert_found nodes o.node.kept.table x ok.node.kept.table) ok)

  lawful_looks_at_each : (xs : List ℕ) (o : Plan) → AreNodes nodes xs → IsLawfulPlan nodes o → IsLawfulPlan nodes (looks_at_each xs o)
  lawful_looks_at_each [] o all ok = ok
  lawful_looks_at_each (x ∷ xs) o all ok = lawful_looks_at_each xs (send o x bodies.Look) all.1 (lawful_send nodes o x bodies.Look all.0 tt ok)

  lawful_looks_round : (m : Mode) (seq : ℕ) (o : Plan) → IsLawfulMode nodes seq m → IsLawfulPlan nodes o → IsLawfulPlan nodes (looks_round m o)
  lawful_looks_round (modes.Joined p) seq o mode ok =
      either (is_member o.node) (IsLawfulPlan nodes) (looks_at_each (filter (λ x. nat_lt p x) (below o.node.me)) o) (if o.node.soft.refused then o else send (searching o (Some Review)) p bodies.Look)
      (lawful_looks_at_each (filter (λ x. nat_lt p x) (below o.node.me)) o (all_filter (IsNode nodes) (λ x. nat_lt p x) (below o.node.me) (below_lawful nodes o.node.me ok.node.me.1)) ok)
      (either o.node.soft.refused (IsLawfulPlan nodes) o (send (searching o (Some Review)) p bodies.Look) ok
      (lawful_send nodes (searching o (Some Review)) p bodies.Look mode.1 tt (lawful_searching nodes o (Some Review) tt ok)))
  lawful_looks_round modes.Acting seq o mode ok =
      either (is_member o.node) (IsLawfulPlan nodes) (looks_at_each (below o.node.me) o) o (lawful_looks_at_each (below o.node.me) o (below_lawful nodes o.node.me ok.node.me.1) ok) ok
  lawful_looks_round modes.Idle seq o mode ok = ok
  lawful_looks_round (modes.Asking p) seq o mode ok = ok

  lawful_forgets : (due : Option ℕ) (o : Plan) → IsLawfulPlan nodes o → IsLawfulPlan nodes (forgets_refusal due o)
  lawful_forgets None o ok = ok
  lawful_forgets (Some t) o ok = lawful_soft nodes o (record o.node.soft { refused = false }) (record { clock = ok.node.soft.clock; tries = ok.node.soft.tries; search = ok.node.soft.search }) ok

  lawful_goes_on : (s : Option Search) (o : Plan) → IsLawfulSearch nodes s → IsLawfulPlan nodes o → IsLawfulPlan nodes (goes_on s o)
  lawful_goes_on (Some (Descend p)) o to ok = lawful_send nodes o p bodies.Look to tt ok
  lawful_goes_on (Some Review) o to ok = lawful_round nodes o None ok
  lawful_goes_on None o to ok = lawful_round nodes o None ok

  lawful_tick_checks_as : (m : Mode) (o : Plan) → IsLawfulMode nodes o.node.kept.seq m → IsLawfulPlan nodes o → IsLawfulPlan nodes (tick_checks_as m o)
  lawful_tick_checks_as modes.Idle o mode ok = lawful_goes_on o.node.soft.search o ok.node.soft.search ok
  lawful_tick_checks_as (modes.Joined p) o mode ok = lawful_checks_as (modes.Joined p) o mode ok
  lawful_tick_checks_as (modes.Asking p) o mode ok = lawful_checks_as (modes.Asking p) o mode ok
  lawful_tick_checks_as modes.Acting o mode ok = lawful_checks_as modes.Acting o mode ok

  lawful_tick_checks : (o : Plan) → IsLawfulPlan nodes o → IsLawfulPlan nodes (tick_checks o)
  lawful_tick_checks o ok = lawful_tick_checks_as o.node.kept.mode (sets_due o) ok.node.kept.mode (lawful_sets_due o ok)

  lawful_checks_in_time : (o : Plan) → IsLawfulPlan nodes o → IsLawfulPlan nodes (checks_in_time o)
  lawful_checks_in_time o ok =
      let begins : Plan = forgets_refusal o.node.soft.due o in
      lawful_looks_round o.node.kept.mode o.node.kept.seq (tick_checks begins) ok.node.kept.mode (lawful_tick_checks begins (lawful_forgets o.node.soft.due o ok))

  lawful_reports_news_as : (m : Mode) (o : Plan) → IsLawfulMode nodes o.node.kept.seq m → IsLawfulPlan nodes o → IsLawfulPlan nodes (reports_news_as m o)
  lawful_reports_news_as (modes.Joined p) o mode ok = either (has_news o.node) (IsLawfulPlan nodes) (reports o p) o (lawful_reports o p mode.1 mode.0 ok) ok
  lawful_reports_news_as modes.Idle o mode ok = ok
  lawful_reports_news_as (modes.Asking p) o mode ok = ok
  lawful_reports_news_as modes.Acting o mode ok = ok

  lawful_checks_if_due : (o : Plan) → IsLawfulPlan nodes o → IsLawfulPlan nodes (checks_if_due o)
  lawful_checks_if_due o ok =
      either (is_due o.node.soft.due o.node.soft.clock) (IsLawfulPlan nodes) (checks_in_time o) (reports_news o)
      (lawful_checks_in_time o ok) (lawful_reports_news_as o.node.kept.mode o ok.node.kept.mode ok)

  lawful_fetches_as : (m : Mode) (seq : ℕ) (o : Plan) (shelf : List Shelf) → IsLawfulMode nodes seq m → IsShelf shelf → IsLawfulPlan nodes o → IsLawfulPlan nodes (fetches_as m o shelf)
  lawful_fetches_as (modes.Joined p) seq o shelf mode lines ok = lawful_send nodes o p (bodies.Fetch shelf) mode.1 lines ok
  lawful_fetches_as modes.Idle seq o shelf mode lines ok = ok
  lawful_fetches_as (modes.Asking p) seq o shelf mode lines ok = ok
  lawful_fetches_as modes.Acting seq o shelf mode lines ok = ok

  lawful_fetches : (o : Plan) (shelf : List Shelf) → IsShelf shelf → IsLawfulPlan nodes o → IsLawfulPlan nodes (fetches o shelf)
  lawful_fetches o shelf lines ok = lawful_fetches_as o.node.kept.mode o.node.kept.seq o shelf ok.node.kept.mode lines ok

  abbrev timed : Plan → ℕ → Plan
  timed o t = starts_leases (at_time o t)

  pub lawful_tick : (o : Plan) (shelf : List Shelf) (t : ℕ) → t ≤ LAST_SECOND → IsShelf shelf → IsLawfulPlan nodes o → IsLawfulPlan nodes (tick o shelf t)
  lawful_tick o shelf t within lines ok =
      lawful_fetches (checks_if_due (ends_leases (timed o t))) shelf lines
      (lawful_checks_if_due (ends_leases (timed o t))
      (lawful_ends_each (ended o.node.kept.table o.node.me (timed o t).node.leases (timed o t).node.soft.clock) (timed o t)
      (lawful_starts (at_time o t) (lawful_at_time o t within ok))))

  -- Check-ins

  lawful_acknowledges : (o : Plan) (x seq upto rate : ℕ) → IsNode nodes x → IsCount seq → IsLong upto → IsRate rate → IsLawfulPlan nodes o → IsLawfulPlan nodes (acknowledges o x seq upto rate)
  lawful_acknowledges o x seq upto rate from asked place fast ok =
      lawful_send nodes (record o { node = record o.node { leases = renew o.node.leases x o.node.soft.clock; rates = put_at o.node.rates x rate } }) x
      (bodies.CheckAck seq upto (rank_or_last o.node.kept.rank) o.node.kept.ancestors) from
      (asked, place, rank_lawful o.node.kept.rank ok.node.kept.rank, ok.node.kept.ancestors)
      (lawful_lists nodes o (renew o.node.leases x o.node.soft.clock) (put_at o.node.rates x rate) o.node.counts (all_set IsRate o.node.rates (x - 1) rate fast ok.node.rates) ok)

  pub lawful_checked_in : (o : Plan) (x seq upto rate number clients : ℕ) (certs : List Cert) → IsNode nodes x → IsCount seq → IsLong upto → IsRate rate → IsLong number → IsLong clients → AreCerts nodes certs
      → IsLawfulPlan nodes o → IsLawfulPlan nodes (checked_in o x seq upto rate number clients certs)
  lawful_checked_in o x seq upto rate number clients certs from asked place fast own served all ok =
      either (has_lease o.node x seq) (IsLawfulPlan nodes) (acknowledges (merges_all (life x seq o.node.me number clients ∷ certs) o) x seq upto rate) (sends_rejoin o x seq)
      (lawful_acknowledges (merges_all (life x seq o.node.me number clients ∷ certs) o) x seq upto rate from asked place fast
      (lawful_merges_all (life x seq o.node.me number clients ∷ certs) o (record { subject = from; seq = asked; parent = ok.node.me; number = own; clients = served }, all) ok))
      (lawful_rejoin nodes o x seq from asked ok)

  lawful_takes_place : (o : Plan) (upto : ℕ) → IsLawfulPlan nodes o → IsLawfulPlan nodes (takes_place o upto)
  lawful_takes_place o upto ok = either_by (is_ahead o.node.kept.log upto) (IsLawfulPlan nodes) (write o (records.Acked upto)) o (λ e. lawful_write_acked nodes o upto e ok) (λ _. ok)

  lawful_takes_rank : (o : Plan) (told : Rank) → IsRank told → IsLawfulPlan nodes o → IsLawfulPlan nodes (takes_rank o told)
  lawful_takes_rank o told here ok =
      either_by (is_better o.node.kept.rank told) (IsLawfulPlan nodes) (write o (records.Ranked (beneath_of told))) o
      (λ e. let less : told.depth < MAX_DEPTH = ltb-true told.depth MAX_DEPTH (and_parts (nat_lt told.depth MAX_DEPTH) (precedes_any (beneath_of told) o.node.kept.rank) e).0 in
      lawful_write nodes o (records.Ranked (beneath_of told)) (here.0, omega (arith, less)) ok)
      (λ _. ok)

  lawful_takes_rank_unless : (wish : Option ℕ) (o : Plan) (told : Rank) → IsRank told → IsLawfulPlan nodes o → IsLawfulPlan nodes (takes_rank_unless wish o told)
  lawful_takes_rank_unless None o told here ok = lawful_takes_rank o told here ok
  lawful_takes_rank_unless (Some g) o told here ok = ok

  lawful_takes_ancestors : (o : Plan) (xs : List ℕ) → AreAncestors nodes xs → IsLawfulPlan nodes o → IsLawfulPlan nodes (takes_ancestors o xs)
  lawful_takes_ancestors o xs here ok =
      either (same_ids xs o.node.kept.ancestors) (IsLawfulPlan nodes) o (write o (records.Ancestors xs)) ok (lawful_write nodes o (records.Ancestors xs) here ok)

  pub lawful_took_ack : (o : Plan) (p seq upto : ℕ) (told : Rank) (xs : List ℕ) → IsNode nodes p → IsRank told → AreNodes nodes xs → IsLawfulPlan nodes o → IsLawfulPlan nodes (took_ack o p seq upto told xs)
  lawful_took_ack o p seq upto told xs from here all ok =
      let ranked : Plan = takes_rank_unless o.node.soft.wish (takes_place o upto) told in
      either (is_joined_to o.node.kept.mode p && seq == o.node.kept.seq) (IsLawfulPlan nodes) (takes_ancestors ranked (ancestors_by p xs)) (ignored o)
      (lawful_takes_ancestors ranked (ancestors_by p xs) (lawful_ancestors nodes p xs from all)
      (lawful_takes_rank_unless o.node.soft.wish (takes_place o upto) told here (lawful_takes_place o upto ok)))
      (lawful_ignored nodes o ok)

  pub lawful_took_rejoin : (o : Plan) (p seq : ℕ) → IsNode nodes p → IsLawfulPlan nodes o → IsLawfulPlan nodes (took_rejoin o p seq)
  lawful_took_rejoin o p seq from ok =
      either (is_peer o.node.kept.mode p && seq == o.node.kept.seq) (IsLawfulPlan nodes) (ask_before o p) (ignored o) (lawful_ask_before nodes o p from ok) (lawful_ignored nodes o ok)
