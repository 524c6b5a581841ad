-- Rules 5 (check now), 6 (tick) and 13 (check-ins) write an entry for each change of the table, and few other records.
use Rattle.std.proofs.Common.{◌≡◌, ℕ, ◌+◌, ◌≤◌, max, Bool, true, false, not, ◌&&◌, ◌==◌, nat_lt, if◌then◌else◌, Option, Some, None, List, [], ◌∷◌, length, filter, refl, ◌∙◌, arith, length-set}
use Rattle.std.proofs.lemmas.List.{length-map}
use Rattle.oc_base.specs.declared.cert.Cert.{Cert}
use Rattle.oc_base.specs.declared.rank.Rank.{Rank}
use Rattle.oc_base.specs.declared.shelf.Shelf.{Shelf}
use Rattle.oc_base.specs.Rank.{beneath_of}
use Rattle.oc_model.specs.declared.answer.Answer.TheVariants as words
use Rattle.oc_model.specs.declared.message.Body.TheVariants as bodies
use Rattle.oc_model.specs.declared.mode.Mode.{Mode}
use Rattle.oc_model.specs.declared.mode.Mode.TheVariants as modes
use Rattle.oc_model.specs.declared.record.Record.TheVariants as records
use Rattle.oc_model.specs.declared.soft.Search.{Search}
use Rattle.oc_model.specs.declared.soft.Search.TheVariants.{Descend, Review}
use Rattle.oc_model.specs.Adopting.{raises, has_lease, sends_rejoin}
use Rattle.oc_model.specs.Adoption.{rank_or_last, is_better}
use Rattle.oc_model.specs.Asking.{send_ask, ask_before, ancestors_by}
use Rattle.oc_base.specs.declared.limits.TheConstants.{MAX_ANCESTORS}
use Rattle.oc_model.specs.ChangeLog.{is_ahead}
use Rattle.oc_model.specs.Checking.{counts_clients, reports, checks_as, next_check, sets_due, checks, merges, merges_all, at_time, starts_leases, dies, ends_each, ends_leases, looks_at_each, looks_round, is_due, forgets_refusal, goes_on, tick_checks_as, tick_checks, checks_in_time, has_news, reports_news_as, reports_news, checks_if_due, fetches_as, tick, acknowledges, life, checked_in, is_joined_to, takes_place, takes_rank, takes_rank_unless, same_ids, takes_ancestors, took_ack, is_peer, took_rejoin}
use Rattle.oc_model.specs.Choice.{below}
use Rattle.oc_model.specs.Leases.{start_if, start_each, is_over, ended}
use Rattle.oc_model.specs.Numbers.{number_end, raise, capped, at}
use Rattle.oc_model.specs.Plan.{Plan, write, send, with_soft, searching, ignored, is_member}
use Rattle.oc_model.specs.Table.{newest, is_news, is_lease_of, leased_children}
use Rattle.oc_laws_step.proofs.Goes.{Goes, either, goes_itself, goes_still, goes_then, goes_within, goes_write, goes_send, goes_soft, then_send, then_soft, then_still, goes_free, goes_says}
use Rattle.oc_laws_step.proofs.Adopts.{goes_raises, goes_rejoin}
use Rattle.oc_laws_step.proofs.Asks.{goes_round, goes_ask_before, few_ancestors}

-- Check now

abbrev counted : Plan → Plan
counted o = write o (records.Info (o.node.kept.number + 1) (capped (o.node.kept.clients + o.node.soft.served)))

goes_counts_clients : (o : Plan) → Goes 0 1 o (counts_clients o)
goes_counts_clients o =
    either (not (o.node.soft.served == 0) && nat_lt o.node.kept.number number_end) (Goes 0 1 o) (with_soft (counted o) (record o.node.soft { served = 0 })) o
    (then_soft 0 1 o (counted o) (record o.node.soft { served = 0 }) (goes_write o (records.Info (o.node.kept.number + 1) (capped (o.node.kept.clients + o.node.soft.served))) (λ e. omega arith)))
    (goes_free 0 1 o o (goes_itself o))

abbrev noted : Plan → Plan
noted o = with_soft o (record o.node.soft { checked = Some o.node.soft.clock })

goes_reports : (o : Plan) (p : ℕ) → Goes 0 1 o (reports o p)
goes_reports o p =
    then_still 0 1 o (counts_clients (noted o)) (reports o p)
    (goes_then 0 0 0 1 o (noted o) (counts_clients (noted o)) (goes_soft o (record o.node.soft { checked = Some o.node.soft.clock })) (goes_counts_clients (noted o)))
    (goes_send (counts_clients (noted o)) p _)

goes_checks_as : (m : Mode) (o : Plan) → Goes 0 2 o (checks_as m o)
goes_checks_as (modes.Joined p) o = goes_within 0 1 0 2 o (reports o p) (omega arith) (omega arith) (goes_reports o p)
goes_checks_as modes.Acting o =
    goes_within 0 1 0 2 o (raises o (raise (rank_or_last o.node.kept.rank).epoch)) (omega arith) (omega arith) (goes_raises o (raise (rank_or_last o.node.kept.rank).epoch))
goes_checks_as modes.Idle o = goes_round o None
goes_checks_as (modes.Asking p) o = goes_free 0 2 o (send_ask o p) (goes_send o p (bodies.Ask o.node.kept.seq o.node.kept.rank))

goes_sets_due : (o : Plan) → Goes 0 0 o (sets_due o)
goes_sets_due o = goes_soft o (record o.node.soft { due = Some (next_check o.node) })

pub goes_checks : (o : Plan) → Goes 0 2 o (checks o)
goes_checks o = goes_then 0 0 0 2 o (sets_due o) (checks o) (goes_sets_due o) (goes_checks_as o.node.kept.mode (sets_due o))

-- Tick

pub goes_merges : (o : Plan) (c : Cert) → Goes 1 0 o (merges o c)
goes_merges o c = either (is_news o.node.kept.table c) (Goes 1 0 o) (write o (records.Entry c)) o (goes_write o (records.Entry c) tt) (goes_free 1 0 o o (goes_itself o))

-- an entry at most for each certificate
pub goes_merges_all : (cs : List Cert) (o : Plan) → Goes (length cs) 0 o (merges_all cs o)
goes_merges_all [] o = goes_itself o
goes_merges_all (c ∷ cs) o =
    goes_within (1 + length cs) 0 (length (c ∷ cs)) 0 o (merges_all (c ∷ cs) o) (omega arith) (omega arith)
    (goes_then 1 0 (length cs) 0 o (merges o c) (merges_all (c ∷ cs) o) (goes_merges o c) (goes_merges_all cs (merges o c)))

-- leases that start leave as many ends
length-start_each : (xs : List ℕ) (ends : List (Option ℕ)) (now : ℕ) → length (start_each xs ends now) ≡ length ends
length-start_each [] ends now = refl
length-start_each (x ∷ xs) ends now = length-start_each xs (start_if (at ends x None) ends x now) now ∙ once (at ends x None) where
  once : (was : Option ℕ) → length (start_if was ends x now) ≡ length ends
  once None = length-set ends _ _
  once (Some t) = refl

goes_starts : (o : Plan) → Goes 0 0 o (starts_leases o)
goes_starts o =
    goes_still o (starts_leases o) refl refl
    (record { me = refl; nodes = refl; chain = refl; chunk = refl; areas = refl; leases = length-start_each (leased_children o.node.kept.table o.node.me) o.node.leases o.node.soft.clock; rates = refl; counts = refl })
    refl refl

goes_dies : (k : Option Cert) (o : Plan) → Goes 1 0 o (dies k o)
goes_dies None o = goes_free 1 0 o o (goes_itself o)
goes_dies (Some k) o = goes_merges o (record k { dead = true })

goes_ends_each : (xs : List ℕ) (o : Plan) → Goes (length xs) 0 o (ends_each xs o)
goes_ends_each [] o = goes_itself o
goes_ends_each (x ∷ xs) o =
    goes_within (1 + length xs) 0 (length (x ∷ xs)) 0 o (ends_each (x ∷ xs) o) (omega arith) (omega arith)
    (goes_then 1 0 (length xs) 0 o (dies (newest o.node.kept.table x) o) (ends_each (x ∷ xs) o) (goes_dies (newest o.node.kept.table x) o)
    (goes_ends_each xs (dies (newest o.node.kept.table x) o)))

-- a part of a list is no longer
shorter : {X : Type 0} (p : X → Bool) (xs : List X) → length (filter p xs) ≤ length xs
shorter p [] = omega arith
shorter p (x ∷ xs) = by_test (p x) (shorter p xs) where
  by_test : (b : Bool) → length (filter p xs) ≤ length xs → length (if b then x ∷ filter p xs else filter p xs) ≤ length (x ∷ xs)
  by_test true h = omega arith
  by_test false h = omega arith

-- no more leases end than the table has rows
few_ended : (t : List Cert) (y : ℕ) (ends : List (Option ℕ)) (now : ℕ) → length (ended t y ends now) ≤ length t
few_ended t y ends now =
    omega (arith, shorter (λ x. is_over (at ends x None) now) (leased_children t y), length-map (filter (is_lease_of y) t) (λ k. k.subject), shorter (is_lease_of y) t)

goes_looks_at_each : (xs : List ℕ) (o : Plan) → Goes 0 0 o (looks_at_each xs o)
goes_looks_at_each [] o = goes_itself o
goes_looks_at_each (x ∷ xs) o =
    goes_then 0 0 0 0 o (send o x bodies.Look) (looks_at_each (x ∷ xs) o) (goes_send o x bodies.Look) (goes_looks_at_each xs (send o x bodies.Look))

goes_looks_round : (m : Mode) (o : Plan) → Goes 0 0 o (looks_round m o)
goes_looks_round (modes.Joined p) o =
    either (is_member o.node) (Goes 0 0 o) (looks_at_each (filter (λ x. nat_lt p x) (below o.node.me)) o) (if o.node.soft.refused then o else send (searching o (Some Review)) p bodies.Look)
    (goes_looks_at_each (filter (λ x. nat_lt p x) (below o.node.me)) o)
    (either o.node.soft.refused (Goes 0 0 o) o (send (searching o (Some Review)) p bodies.Look) (goes_itself o)
    (then_send 0 0 o (searching o (Some Review)) p bodies.Look (goes_soft o (record o.node.soft { search = Some Review }))))
goes_looks_round modes.Acting o =
    either (is_member o.node) (Goes 0 0 o) (looks_at_each (below o.node.me) o) o (goes_looks_at_each (below o.node.me) o) (goes_itself o)
goes_looks_round m o = goes_itself o

goes_forgets : (due : Option ℕ) (o : Plan) → Goes 0 0 o (forgets_refusal due o)
goes_forgets None o = goes_itself o
goes_forgets (Some t) o = goes_soft o (record o.node.soft { refused = false })

goes_goes_on : (s : Option Search) (o : Plan) → Goes 0 2 o (goes_on s o)
goes_goes_on (Some (Descend p)) o = goes_free 0 2 o (send o p bodies.Look) (goes_send o p bodies.Look)
goes_goes_on (Some Review) o = goes_round o None
goes_goes_on None o = goes_round o None

goes_tick_checks_as : (m : Mode) (o : Plan) → Goes 0 2 o (tick_checks_as m o)
goes_tick_checks_as modes.Idle o = goes_goes_on o.node.soft.search o
goes_tick_checks_as (modes.Joined p) o = goes_checks_as (modes.Joined p) o
goes_tick_checks_as (modes.Asking p) o = goes_checks_as (modes.Asking p) o
goes_tick_checks_as modes.Acting o = goes_checks_as modes.Acting o

goes_tick_checks : (o : Plan) → Goes 0 2 o (tick_checks o)
goes_tick_checks o = goes_then 0 0 0 2 o (sets_due o) (tick_checks o) (goes_sets_due o) (goes_tick_checks_as o.node.kept.mode (sets_due o))

goes_checks_in_time : (o : Plan) → Goes 0 2 o (checks_in_time o)
goes_checks_in_time o =
    let begins : Plan = forgets_refusal o.node.soft.due o in
    goes_then 0 2 0 0 o (tick_checks begins) (checks_in_time o)
    (goes_then 0 0 0 2 o begins (tick_checks begins) (goes_forgets o.node.soft.due o) (goes_tick_checks begins))
    (goes_looks_round o.node.kept.mode (tick_checks begins))

goes_reports_news_as : (m : Mode) (o : Plan) → Goes 0 2 o (reports_news_as m o)
goes_reports_news_as (modes.Joined p) o =
    either (has_news o.node) (Goes 0 2 o) (reports o p) o (goes_within 0 1 0 2 o (reports o p) (omega arith) (omega arith) (goes_reports o p)) (goes_free 0 2 o o (goes_itself o))
goes_reports_news_as m o = goes_free 0 2 o o (goes_itself o)

goes_checks_if_due : (o : Plan) → Goes 0 2 o (checks_if_due o)
goes_checks_if_due o =
    either (is_due o.node.soft.due o.node.soft.clock) (Goes 0 2 o) (checks_in_time o) (reports_news o) (goes_checks_in_time o) (goes_reports_news_as o.node.kept.mode o)

goes_fetches_as : (m : Mode) (o : Plan) (shelf : List Shelf) → Goes 0 0 o (fetches_as m o shelf)
goes_fetches_as (modes.Joined p) o shelf = goes_send o p (bodies.Fetch shelf)
goes_fetches_as m o shelf = goes_itself o

-- the leases as they are once the clock was set and leases started
abbrev timed : Plan → ℕ → Plan
timed o t = starts_leases (at_time o t)

-- the children whose leases have ended then
abbrev over : Plan → ℕ → List ℕ
over o t = ended o.node.kept.table o.node.me (timed o t).node.leases (timed o t).node.soft.clock

goes_timed : (o : Plan) (t : ℕ) → Goes 0 0 o (timed o t)
goes_timed o t = goes_then 0 0 0 0 o (at_time o t) (timed o t) (goes_soft o (record o.node.soft { clock = max o.node.soft.clock t })) (goes_starts (at_time o t))

goes_over : (o : Plan) (t : ℕ) → Goes (length o.node.kept.table) 0 o (ends_leases (timed o t))
goes_over o t =
    goes_within (0 + length (over o t)) 0 (length o.node.kept.table) 0 o (ends_leases (timed o t))
    (omega (arith, few_ended o.node.kept.table o.node.me (timed o t).node.leases (timed o t).node.soft.clock)) (omega arith)
    (goes_then 0 0 (length (over o t)) 0 o (timed o t) (ends_leases (timed o t)) (goes_timed o t) (goes_ends_each (over o t) (timed o t)))

-- an entry for each lease that ended, and two records more
pub goes_tick : (o : Plan) (shelf : List Shelf) (t : ℕ) → Goes (length o.node.kept.table) 2 o (tick o shelf t)
goes_tick o shelf t =
    then_still (length o.node.kept.table) 2 o (checks_if_due (ends_leases (timed o t))) (tick o shelf t)
    (goes_within (length o.node.kept.table + 0) 2 (length o.node.kept.table) 2 o (checks_if_due (ends_leases (timed o t))) (omega arith) (omega arith)
    (goes_then (length o.node.kept.table) 0 0 2 o (ends_leases (timed o t)) (checks_if_due (ends_leases (timed o t))) (goes_over o t) (goes_checks_if_due (ends_leases (timed o t)))))
    (goes_fetches_as (checks_if_due (ends_leases (timed o t))).node.kept.mode (checks_if_due (ends_leases (timed o t))) shelf)

-- Check-ins

goes_acknowledges : (o : Plan) (x seq upto rate : ℕ) → Goes 0 0 o (acknowledges o x seq upto rate)
goes_acknowledges o x seq upto rate =
    goes_still o (acknowledges o x seq upto rate) refl refl
    (record { me = refl; nodes = refl; chain = refl; chunk = refl; areas = refl; leases = length-set o.node.leases _ _; rates = length-set o.node.rates _ _; counts = refl })
    refl refl

-- all certificates of a check-in
abbrev told : Plan → ℕ → ℕ → ℕ → ℕ → List Cert → List Cert
told o x seq number clients certs = life x seq o.node.me number clients ∷ certs

pub goes_checked_in : (o : Plan) (x seq upto rate number clients : ℕ) (certs : List Cert) → Goes (length certs + 1) 0 o (checked_in o x seq upto rate number clients certs)
goes_checked_in o x seq upto rate number clients certs =
    either (has_lease o.node x seq) (Goes (length certs + 1) 0 o) (acknowledges (merges_all (told o x seq number clients certs) o) x seq upto rate) (sends_rejoin o x seq)
    (then_still (length certs + 1) 0 o (merges_all (told o x seq number clients certs) o) (acknowledges (merges_all (told o x seq number clients certs) o) x seq upto rate)
    (goes_within (length (told o x seq number clients certs)) 0 (length certs + 1) 0 o (merges_all (told o x seq number clients certs) o) (omega arith) (omega arith)
    (goes_merges_all (told o x seq number clients certs) o))
    (goes_acknowledges (merges_all (told o x seq number clients certs) o) x seq upto rate))
    (goes_rejoin (length certs + 1) 0 o x seq)

goes_takes_place : (o : Plan) (upto : ℕ) → Goes 0 1 o (takes_place o upto)
goes_takes_place o upto = either (is_ahead o.node.kept.log upto) (Goes 0 1 o) (write o (records.Acked upto)) o (goes_write o (records.Acked upto) tt) (goes_free 0 1 o o (goes_itself o))

goes_takes_rank : (o : Plan) (told : Rank) → Goes 0 1 o (takes_rank o told)
goes_takes_rank o told =
    either (is_better o.node.kept.rank told) (Goes 0 1 o) (write o (records.Ranked (beneath_of told))) o
    (goes_write o (records.Ranked (beneath_of told)) tt) (goes_free 0 1 o o (goes_itself o))

goes_takes_rank_unless : (wish : Option ℕ) (o : Plan) (told : Rank) → Goes 0 1 o (takes_rank_unless wish o told)
goes_takes_rank_unless None o told = goes_takes_rank o told
goes_takes_rank_unless (Some g) o told = goes_free 0 1 o o (goes_itself o)

goes_takes_ancestors : (o : Plan) (xs : List ℕ) → length xs ≤ MAX_ANCESTORS → Goes 0 1 o (takes_ancestors o xs)
goes_takes_ancestors o xs few =
    either (same_ids xs o.node.kept.ancestors) (Goes 0 1 o) o (write o (records.Ancestors xs)) (goes_free 0 1 o o (goes_itself o)) (goes_write o (records.Ancestors xs) few)

abbrev raised : Plan → ℕ → Rank → Plan
raised o upto told = takes_rank_unless o.node.soft.wish (takes_place o upto) told

pub goes_took_ack : (o : Plan) (p seq upto : ℕ) (told : Rank) (xs : List ℕ) → Goes 0 3 o (took_ack o p seq upto told xs)
goes_took_ack o p seq upto told xs =
    either (is_joined_to o.node.kept.mode p && seq == o.node.kept.seq) (Goes 0 3 o) (takes_ancestors (raised o upto told) (ancestors_by p xs)) (ignored o)
    (goes_then 0 2 0 1 o (raised o upto told) (takes_ancestors (raised o upto told) (ancestors_by p xs))
    (goes_then 0 1 0 1 o (takes_place o upto) (raised o upto told) (goes_takes_place o upto) (goes_takes_rank_unless o.node.soft.wish (takes_place o upto) told))
    (goes_takes_ancestors (raised o upto told) (ancestors_by p xs) (few_ancestors p xs)))
    (goes_says 0 3 o words.Ignored)

pub goes_took_rejoin : (o : Plan) (p seq : ℕ) → Goes 0 1 o (took_rejoin o p seq)
goes_took_rejoin o p seq =
    either (is_peer o.node.kept.mode p && seq == o.node.kept.seq) (Goes 0 1 o) (ask_before o p) (ignored o) (goes_ask_before o p) (goes_says 0 1 o words.Ignored)
