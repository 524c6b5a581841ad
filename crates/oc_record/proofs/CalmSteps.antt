-- A calm node stays calm, whatever its inputs.
use Rattle.std.proofs.Common.{◌≡◌, ℕ, ◌+◌, ◌-◌, ◌≤◌, Bool, true, false, not, ◌&&◌, ◌||◌, ◌==◌, nat_lt, nat_le, if◌then◌else◌, Option, Some, None, List, [], ◌∷◌, filter, refl, sym, subst, ◌∙◌}
use Rattle.oc_base.specs.declared.cert.Cert.{Cert}
use Rattle.oc_base.specs.declared.limits.TheConstants.{MAX_DEPTH}
use Rattle.oc_base.specs.declared.rank.Rank.{Rank}
use Rattle.oc_base.specs.declared.refusal.Refusal.{Refusal}
use Rattle.oc_base.specs.declared.refusal.Refusal.TheVariants as refusals
use Rattle.oc_base.specs.declared.shelf.Shelf.{Shelf}
use Rattle.oc_base.specs.Rank.{beneath_of}
use Rattle.oc_base.specs.Shelves.{line_of}
use Rattle.oc_model.specs.declared.answer.Answer.TheVariants as words
use Rattle.oc_model.specs.declared.input.Input.{Input}
use Rattle.oc_model.specs.declared.input.Input.TheVariants as inputs
use Rattle.oc_model.specs.declared.message.Body.{Body}
use Rattle.oc_model.specs.declared.message.Body.TheVariants as bodies
use Rattle.oc_model.specs.declared.mode.Mode.{Mode}
use Rattle.oc_model.specs.declared.mode.Mode.TheVariants as modes
use Rattle.oc_model.specs.declared.record.Record.{Record}
use Rattle.oc_model.specs.declared.record.Record.TheVariants as records
use Rattle.oc_model.specs.declared.soft.Search.{Search}
use Rattle.oc_model.specs.declared.soft.Search.TheVariants.{Descend, Review as Reviewing}
use Rattle.oc_model.specs.declared.soft.Soft.{Soft}
use Rattle.oc_model.specs.declared.soft.TheConstants.{MAX_MOVES}
use Rattle.oc_model.specs.Adopting.{is_acting, raises, host, birth, has_lease, grants, sends_rejoin, adopts, answers_ask, asked_at, asked}
use Rattle.oc_model.specs.Adoption.{rank_or_last, precedes, precedes_any, is_better, adoption_refusal}
use Rattle.oc_model.specs.Asking.{lost_from, lost, next_try, round, ask_before, is_asking, ancestors_by, patience_at, joins, took_yes, refused, took_no, descend, not_seen, not_reached, left_in_move, notes_parent, relocate}
use Rattle.oc_model.specs.ChangeLog.{is_ahead, begun_with}
use Rattle.oc_model.specs.Checking.{counts_clients, notes_time, reports, checks_as, next_check, sets_due, checks, merges, merges_all, at_time, starts_leases, dies, ends_each, ends_leases, looks_at_each, looks_round, is_due, forgets_refusal, goes_on, tick_checks_as, tick_checks, checks_in_time, has_news, reports_news_as, reports_news, checks_if_due, fetches_as, tick, acknowledges, life, checked_in, is_joined_to, takes_place, takes_rank_unless, same_ids, takes_ancestors, took_ack, is_peer, took_rejoin}
use Rattle.oc_model.specs.Choice.{below, chosen, reviewed}
use Rattle.oc_model.specs.Content.{published, sealed_at, fetched, took_chunk}
use Rattle.oc_model.specs.Leases.{ended}
use Rattle.oc_model.specs.Looking.{Stand, candidates, goes_down, descends, view, place_in, is_place, wishes, leaves_for, goes_where, weighs, reviews_place, prefers, keeps_line, sees_as}
use Rattle.oc_model.specs.Measures.{reading_of, same_reading}
use Rattle.oc_model.specs.Node.{Control, Durable, Header, started_with}
use Rattle.oc_model.specs.Numbers.{number_end, raise, capped}
use Rattle.oc_model.specs.Plan.{Plan, begun, write, send, answers, with_soft, searching, ignored, is_member, rate_to}
use Rattle.oc_model.specs.Records.{fold_one}
use Rattle.oc_model.specs.Serving.{redirects, server_for, client_of, may_move, measured}
use Rattle.oc_model.specs.Step.{received, plan}
use Rattle.oc_model.specs.Table.{newest, is_news}
use Rattle.oc_record.specs.SeeksNoPlace.{NoDescent, SeeksNoPlace}
use Rattle.oc_laws_step.proofs.Contents.{Stays, stays_published, stays_sealed_at, stays_fetched, stays_took_chunk}
use Rattle.oc_laws_step.proofs.Goes.{either, either_by}
use Rattle.oc_record.proofs.MovesAsking.{calm_write, calm_soft, calm_lost, calm_ask, calm_descend, calm_next_try, calm_round, calm_ask_before}

abbrev Calm : Plan → Type 0
Calm o = SeeksNoPlace o.node

calm_keep : (o : Plan) (r : Record) → (fold_one o.node.kept r).mode ≡ o.node.kept.mode → Calm o → Calm (write o r)
calm_keep o r same calm = calm_write o r (λ e. sym same ∙ e) calm

-- Answer an ask

calm_raises : (o : Plan) (e : Option ℕ) → Calm o → Calm (raises o e)
calm_raises o None calm = calm
calm_raises o (Some e) calm = calm_keep o (records.Epoch e) refl calm

calm_adopts : (o : Plan) (x seq : ℕ) → Calm o → Calm (adopts o x seq)
calm_adopts o x seq calm =
    either (has_lease o.node x seq) Calm (grants o x seq)
    (if is_news o.node.kept.table (birth x seq o.node.me) then grants (write o (records.Entry (birth x seq o.node.me))) x seq else sends_rejoin o x seq)
    (calm_lists o calm)
    (either (is_news o.node.kept.table (birth x seq o.node.me)) Calm (grants (write o (records.Entry (birth x seq o.node.me))) x seq) (sends_rejoin o x seq)
    (calm_lists (write o (records.Entry (birth x seq o.node.me))) (calm_keep o (records.Entry (birth x seq o.node.me)) refl calm)) calm) where
      calm_lists : (q : Plan) → Calm q → Calm (grants q x seq)
      calm_lists q c = record { line = c.line; member = c.member; acting = c.acting }

calm_answers_ask : (why : Option Refusal) (o : Plan) (x seq : ℕ) → Calm o → Calm (answers_ask why o x seq)
calm_answers_ask None o x seq calm = calm_adopts o x seq calm
calm_answers_ask (Some why) o x seq calm = calm

calm_asked : (o : Plan) (x seq : ℕ) (r : Option Rank) → Calm o → Calm (asked o x seq r)
calm_asked o x seq r calm =
    either (is_acting o.node.kept.mode && not (precedes (rank_or_last o.node.kept.rank) (rank_or_last r)) && not (x == o.node.me)) (λ q. Calm (asked_at q x seq r)) (raises o (raise (rank_or_last r).epoch)) o
    (calm_answers_ask (adoption_refusal (host (raises o (raise (rank_or_last r).epoch)).node x) x r) (raises o (raise (rank_or_last r).epoch)) x seq (calm_raises o (raise (rank_or_last r).epoch) calm))
    (calm_answers_ask (adoption_refusal (host o.node x) x r) o x seq calm)

-- Yes, no, and a node that is not reached

calm_joins : (o : Plan) (p : ℕ) (r : Rank) (xs : List ℕ) → Calm o → Calm (joins o p r xs)
calm_joins o p r xs calm =
    calm_soft (write (write o (records.Joined p (beneath_of r))) (records.Ancestors (ancestors_by p xs)))
    (record o.node.soft { due = None; tries = []; search = None; wish = None; waits = 0; patience = patience_at o.node p }) (λ none. tt)
    (calm_keep (write o (records.Joined p (beneath_of r))) (records.Ancestors (ancestors_by p xs)) refl
    (calm_write o (records.Joined p (beneath_of r)) (by_number (o.node.kept.seq == 0)) calm)) where
      by_number : (b : Bool) → (if b then o.node.kept else record o.node.kept { mode = modes.Joined p; rank = Some (beneath_of r); log = begun_with o.node.kept.table }).mode ≡ modes.Acting → o.node.kept.mode ≡ modes.Acting
      by_number true e = e
      by_number false e = absurd (cc e)

calm_took_yes : (o : Plan) (p seq : ℕ) (r : Rank) (xs : List ℕ) → Calm o → Calm (took_yes o p seq r xs)
calm_took_yes o p seq r xs calm =
    either (is_asking o.node.kept.mode p && seq == o.node.kept.seq && nat_lt r.depth MAX_DEPTH && precedes_any r o.node.kept.rank) Calm (joins o p r xs) (ignored o) (calm_joins o p r xs calm) calm

-- the mode after a loss is idle
lost_idle_from : (m : Mode) (o : Plan) → o.node.kept.mode ≡ m → (lost_from m o).node.kept.mode ≡ modes.Idle
lost_idle_from modes.Idle o is = is
lost_idle_from (modes.Asking p) o is = refl
lost_idle_from (modes.Joined p) o is = refl
lost_idle_from modes.Acting o is = refl

not_acting : (o : Plan) → o.node.kept.mode ≡ modes.Idle → o.node.kept.mode ≡ modes.Acting → ⊥
not_acting o idle acting = absurd (cc (sym idle ∙ acting))

lost_not_acting : (o : Plan) → (lost o).node.kept.mode ≡ modes.Acting → ⊥
lost_not_acting o = not_acting (lost o) (lost_idle_from o.node.kept.mode o refl)

or_false : (a b : Bool) → (a || b) ≡ false → a ≡ true → ⊥
or_false true b h e = absurd (cc h)
or_false false b h e = absurd (cc e)

calm_refused : (o : Plan) (why : Refusal) → (o.node.kept.mode ≡ modes.Acting → ⊥) → Calm o → Calm (refused o why)
calm_refused o (refusals.Chain k) other calm =
    either_by (is_member o.node || k == o.node.me) Calm (next_try o) (descend o k) (λ e. calm_next_try o other calm)
    (λ e. calm_descend o k (or_false (is_member o.node) (k == o.node.me) e) other calm)
calm_refused o refusals.Own other calm = calm_next_try o other calm
calm_refused o refusals.NotJoined other calm = calm_next_try o other calm
calm_refused o refusals.Ancestor other calm = calm_next_try o other calm
calm_refused o refusals.Depth other calm = calm_next_try o other calm
calm_refused o refusals.Rank other calm = calm_next_try o other calm

abbrev heard : Plan → Plan
heard o = with_soft (lost o) (record o.node.soft { silent = false; refused = true })

-- losing a parent does not change the search
lost_soft_from : (m : Mode) (o : Plan) → (lost_from m o).node.soft ≡ o.node.soft
lost_soft_from modes.Idle o = refl
lost_soft_from (modes.Asking p) o = refl
lost_soft_from (modes.Joined p) o = refl
lost_soft_from modes.Acting o = refl

calm_heard : (o : Plan) → Calm o → Calm (heard o)
calm_heard o calm =
    calm_soft (lost o) (record o.node.soft { silent = false; refused = true }) (λ none. subst (λ s. NoDescent s.search) (lost_soft_from o.node.kept.mode o) none) (calm_lost o calm)

calm_took_no : (o : Plan) (p seq : ℕ) (why : Refusal) → Calm o → Calm (took_no o p seq why)
calm_took_no o p seq why calm =
    either (is_asking o.node.kept.mode p && seq == o.node.kept.seq) Calm (refused (heard o) why) (ignored o) (calm_refused (heard o) why (lost_not_acting o) (calm_heard o calm)) calm

-- a calm node stays calm where a peer is not seen
calm_not_seen : (s : Option Search) (o : Plan) (p : ℕ) → s ≡ o.node.soft.search → Calm o → Calm (not_seen s o p)
calm_not_seen (Some (Descend q)) o p is calm =
    either (q == p) Calm (next_try (searching o None)) (ignored o)
    (calm_next_try (searching o None) (λ acting. subst NoDescent (sym is) (calm.acting acting)) (calm_soft o (record o.node.soft { search = None }) (λ none. tt) calm)) calm
calm_not_seen (Some Reviewing) o p is calm = calm
calm_not_seen None o p is calm = calm

calm_not_reached : (m : Mode) (o : Plan) (p : ℕ) → Calm o → Calm (not_reached m o p)
calm_not_reached (modes.Joined q) o p calm =
    either (q == p) Calm (round (lost o) (Some p)) (not_seen o.node.soft.search o p) (calm_round (lost o) (Some p) (lost_not_acting o) (calm_lost o calm)) (calm_not_seen o.node.soft.search o p refl calm)
calm_not_reached (modes.Asking q) o p calm =
    either (q == p) Calm (next_try (lost o)) (not_seen o.node.soft.search o p) (calm_next_try (lost o) (lost_not_acting o) (calm_lost o calm)) (calm_not_seen o.node.soft.search o p refl calm)
calm_not_reached modes.Idle o p calm = calm_not_seen o.node.soft.search o p refl calm
calm_not_reached modes.Acting o p calm = calm_not_seen o.node.soft.search o p refl calm

calm_relocate : (o : Plan) (p : ℕ) → Calm o → Calm (relocate o p)
calm_relocate o p calm =
    either (p == o.node.me) Calm (answers o words.Own) (if o.node.me == 1 || (is_member o.node && nat_lt o.node.me p) then answers o words.Fixed else ask_before (notes_parent o) p)
    calm
    (either (o.node.me == 1 || (is_member o.node && nat_lt o.node.me p)) Calm (answers o words.Fixed) (ask_before (notes_parent o) p)
    calm (calm_ask_before (notes_parent o) p (calm_soft o (record o.node.soft { left = left_in_move o.node.kept.mode o.node.soft.wish o.node.soft.left }) (λ none. none) calm)))

-- Check now and tick

calm_counts : (o : Plan) → Calm o → Calm (counts_clients o)
calm_counts o calm =
    either (not (o.node.soft.served == 0) && nat_lt o.node.kept.number number_end) Calm
    (with_soft (write o (records.Info (o.node.kept.number + 1) (capped (o.node.kept.clients + o.node.soft.served)))) (record o.node.soft { served = 0 })) o
    (calm_soft (write o (records.Info (o.node.kept.number + 1) (capped (o.node.kept.clients + o.node.soft.served)))) (record o.node.soft { served = 0 }) (λ none. none)
    (calm_keep o (records.Info (o.node.kept.number + 1) (capped (o.node.kept.clients + o.node.soft.served))) refl calm))
    calm

calm_noted : (o : Plan) → Calm o → Calm (notes_time o)
calm_noted o calm = calm_soft o (record o.node.soft { checked = Some o.node.soft.clock }) (λ none. none) calm

calm_checks_as : (m : Mode) (o : Plan) → o.node.kept.mode ≡ m → Calm o → Calm (checks_as m o)
calm_checks_as (modes.Joined p) o is calm = calm_counts (notes_time o) (calm_noted o calm)
calm_checks_as modes.Acting o is calm = calm_raises o (raise (rank_or_last o.node.kept.rank).epoch) calm
calm_checks_as modes.Idle o is calm = calm_round o None (not_acting o is) calm
calm_checks_as (modes.Asking p) o is calm = calm

calm_sets_due : (o : Plan) → Calm o → Calm (sets_due o)
calm_sets_due o calm = calm_soft o (record o.node.soft { due = Some (next_check o.node) }) (λ none. none) calm

calm_checks : (o : Plan) → Calm o → Calm (checks o)
calm_checks o calm = calm_checks_as o.node.kept.mode (sets_due o) refl (calm_sets_due o calm)

calm_goes_on : (s : Option Search) (o : Plan) → o.node.kept.mode ≡ modes.Idle → Calm o → Calm (goes_on s o)
calm_goes_on (Some (Descend p)) o is calm = calm
calm_goes_on (Some Reviewing) o is calm = calm_round o None (not_acting o is) calm
calm_goes_on None o is calm = calm_round o None (not_acting o is) calm

calm_tick_checks_as : (m : Mode) (o : Plan) → o.node.kept.mode ≡ m → Calm o → Calm (tick_checks_as m o)
calm_tick_checks_as modes.Idle o is calm = calm_goes_on o.node.soft.search o is calm
calm_tick_checks_as (modes.Joined p) o is calm = calm_checks_as (modes.Joined p) o is calm
calm_tick_checks_as (modes.Asking p) o is calm = calm_checks_as (modes.Asking p) o is calm
calm_tick_checks_as modes.Acting o is calm = calm_checks_as modes.Acting o is calm

calm_tick_checks : (o : Plan) → Calm o → Calm (tick_checks o)
calm_tick_checks o calm = calm_tick_checks_as o.node.kept.mode (sets_due o) refl (calm_sets_due o calm)

calm_merges : (o : Plan) (c : Cert) → Calm o → Calm (merges o c)
calm_merges o c calm = either (is_news o.node.kept.table c) Calm (write o (records.Entry c)) o (calm_keep o (records.Entry c) refl calm) calm

calm_merges_all : (cs : List Cert) (o : Plan) → Calm o → Calm (merges_all cs o)
calm_merges_all [] o calm = calm
calm_merges_all (c ∷ cs) o calm = calm_merges_all cs (merges o c) (calm_merges o c calm)

calm_dies : (k : Option Cert) (o : Plan) → Calm o → Calm (dies k o)
calm_dies None o calm = calm
calm_dies (Some k) o calm = calm_merges o (record k { dead = true }) calm

calm_ends_each : (xs : List ℕ) (o : Plan) → Calm o → Calm (ends_each xs o)
calm_ends_each [] o calm = calm
calm_ends_each (x ∷ xs) o calm = calm_ends_each xs (dies (newest o.node.kept.table x) o) (calm_dies (newest o.node.kept.table x) o calm)

calm_looks_at_each : (xs : List ℕ) (o : Plan) → Calm o → Calm (looks_at_each xs o)
calm_looks_at_each [] o calm = calm
calm_looks_at_each (x ∷ xs) o calm = calm_looks_at_each xs (send o x bodies.Look) calm

calm_looks_round : (m : Mode) (o : Plan) → Calm o → Calm (looks_round m o)
calm_looks_round (modes.Joined p) o calm =
    either (is_member o.node) Calm (looks_at_each (filter (λ x. nat_lt p x) (below o.node.me)) o) (if o.node.soft.refused then o else send (searching o (Some Reviewing)) p bodies.Look)
    (calm_looks_at_each (filter (λ x. nat_lt p x) (below o.node.me)) o calm)
    (either o.node.soft.refused Calm o (send (searching o (Some Reviewing)) p bodies.Look) calm (calm_soft o (record o.node.soft { search = Some Reviewing }) (λ none. tt) calm))
calm_looks_round modes.Acting o calm = either (is_member o.node) Calm (looks_at_each (below o.node.me) o) o (calm_looks_at_each (below o.node.me) o calm) calm
calm_looks_round modes.Idle o calm = calm
calm_looks_round (modes.Asking p) o calm = calm

calm_forgets : (due : Option ℕ) (o : Plan) → Calm o → Calm (forgets_refusal due o)
calm_forgets None o calm = calm
calm_forgets (Some t) o calm = calm_soft o (record o.node.soft { refused = false }) (λ none. none) calm

calm_checks_in_time : (o : Plan) → Calm o → Calm (checks_in_time o)
calm_checks_in_time o calm =
    let begins : Plan = forgets_refusal o.node.soft.due o in
    calm_looks_round o.node.kept.mode (tick_checks begins) (calm_tick_checks begins (calm_forgets o.node.soft.due o calm))

calm_reports_news_as : (m : Mode) (o : Plan) → Calm o → Calm (reports_news_as m o)
calm_reports_news_as (modes.Joined p) o calm = either (has_news o.node) Calm (reports o p) o (calm_counts (notes_time o) (calm_noted o calm)) calm
calm_reports_news_as modes.Idle o calm = calm
calm_reports_news_as (modes.Asking p) o calm = calm
calm_reports_news_as modes.Acting o calm = calm

calm_checks_if_due : (o : Plan) → Calm o → Calm (checks_if_due o)
calm_checks_if_due o calm = either (is_due o.node.soft.due o.node.soft.clock) Calm (checks_in_time o) (reports_news o) (calm_checks_in_time o calm) (calm_reports_news_as o.node.kept.mode o calm)

calm_fetches_as : (m : Mode) (o : Plan) (shelf : List Shelf) → Calm o → Calm (fetches_as m o shelf)
calm_fetches_as (modes.Joined p) o shelf calm = calm
calm_fetches_as modes.Idle o shelf calm = calm
calm_fetches_as (modes.Asking p) o shelf calm = calm
calm_fetches_as modes.Acting o shelf calm = calm

abbrev timed : Plan → ℕ → Plan
timed o t = starts_leases (at_time o t)

calm_timed : (o : Plan) (t : ℕ) → Calm o → Calm (timed o t)
calm_timed o t calm = record { line = calm.line; member = calm.member; acting = calm.acting }

calm_tick : (o : Plan) (shelf : List Shelf) (t : ℕ) → Calm o → Calm (tick o shelf t)
calm_tick o shelf t calm =
    let ends : Calm (ends_leases (timed o t)) = calm_ends_each (ended o.node.kept.table o.node.me (timed o t).node.leases (timed o t).node.soft.clock) (timed o t) (calm_timed o t calm) in
    calm_fetches_as (checks_if_due (ends_leases (timed o t))).node.kept.mode (checks_if_due (ends_leases (timed o t))) shelf (calm_checks_if_due (ends_leases (timed o t)) ends)

-- Check-ins

calm_acknowledges : (o : Plan) (x seq upto rate : ℕ) → Calm o → Calm (acknowledges o x seq upto rate)
calm_acknowledges o x seq upto rate calm = record { line = calm.line; member = calm.member; acting = calm.acting }

calm_checked_in : (o : Plan) (x seq upto rate number clients : ℕ) (certs : List Cert) → Calm o → Calm (checked_in o x seq upto rate number clients certs)
calm_checked_in o x seq upto rate number clients certs calm =
    either (has_lease o.node x seq) Calm (acknowledges (merges_all (life x seq o.node.me number clients ∷ certs) o) x seq upto rate) (sends_rejoin o x seq)
    (calm_acknowledges (merges_all (life x seq o.node.me number clients ∷ certs) o) x seq upto rate (calm_merges_all (life x seq o.node.me number clients ∷ certs) o calm)) calm

calm_took_ack : (o : Plan) (p seq upto : ℕ) (told : Rank) (xs : List ℕ) → Calm o → Calm (took_ack o p seq upto told xs)
calm_took_ack o p seq upto told xs calm =
    let ranked : Plan = takes_rank_unless o.node.soft.wish (takes_place o upto) told in
    either (is_joined_to o.node.kept.mode p && seq == o.node.kept.seq) Calm (takes_ancestors ranked (ancestors_by p xs)) (ignored o)
    (calm_ancestors ranked (ancestors_by p xs) (calm_rank o.node.soft.wish (takes_place o upto) calm_place)) calm where
      calm_place : Calm (takes_place o upto)
      calm_place = either (is_ahead o.node.kept.log upto) Calm (write o (records.Acked upto)) o (calm_keep o (records.Acked upto) refl calm) calm

      calm_rank : (wish : Option ℕ) (q : Plan) → Calm q → Calm (takes_rank_unless wish q told)
      calm_rank (Some g) q c = c
      calm_rank None q c = either (is_better q.node.kept.rank told) Calm (write q (records.Ranked (beneath_of told))) q (calm_keep q (records.Ranked (beneath_of told)) refl c) c

      calm_ancestors : (q : Plan) (ys : List ℕ) → Calm q → Calm (takes_ancestors q ys)
      calm_ancestors q ys c = either (same_ids ys q.node.kept.ancestors) Calm q (write q (records.Ancestors ys)) c (calm_keep q (records.Ancestors ys) refl c)

calm_took_rejoin : (o : Plan) (p seq : ℕ) → Calm o → Calm (took_rejoin o p seq)
calm_took_rejoin o p seq calm = either (is_peer o.node.kept.mode p && seq == o.node.kept.seq) Calm (ask_before o p) (ignored o) (calm_ask_before o p calm) calm

-- Look

-- a node that is no chain member and no root stays calm where a descent goes down
calm_goes_down : (k : Option ℕ) (o : Plan) (p : ℕ) → (is_member o.node ≡ true → ⊥) → (o.node.kept.mode ≡ modes.Acting → ⊥) → Calm o → Calm (goes_down k o p)
calm_goes_down None o p out other calm = calm_ask o p calm
calm_goes_down (Some k) o p out other calm = calm_descend o k out other calm

calm_descends : (o : Plan) (p : ℕ) (s : Stand) → (is_member o.node ≡ true → ⊥) → (o.node.kept.mode ≡ modes.Acting → ⊥) → Calm o → Calm (descends o p s)
calm_descends o p s out other calm =
    either s.in_tree Calm (goes_down (chosen (rate_to o.node p) (candidates o.node s.children)) o p) (next_try (searching o None))
    (calm_goes_down (chosen (rate_to o.node p) (candidates o.node s.children)) o p out other calm)
    (calm_next_try (searching o None) other (calm_soft o (record o.node.soft { search = None }) (λ none. tt) calm))

calm_wishes : (o : Plan) (place : Option ℕ) (count : ℕ) → Calm o → Calm (wishes o place count)
calm_wishes o place count calm = calm_soft o (record o.node.soft { wish = place; waits = count }) (λ none. none) calm

calm_leaves_for : (o : Plan) (p g : ℕ) → Calm o → Calm (leaves_for o p g)
calm_leaves_for o p g calm =
    let left : Soft = record o.node.soft { left = Some p; moves = o.node.soft.moves + 1 } in
    calm_ask_before (with_soft o left) g (calm_soft o left (λ none. none) calm)

calm_goes_where : (place : Option ℕ) (o : Plan) (p : ℕ) → Calm o → Calm (goes_where place o p)
calm_goes_where None o p calm = calm
calm_goes_where (Some g) o p calm =
    either (nat_lt o.node.soft.waits (o.node.soft.patience + 2)) Calm (wishes o (Some g) (o.node.soft.waits + 1)) (leaves_for o p g)
    (calm_wishes o (Some g) (o.node.soft.waits + 1) calm) (calm_leaves_for o p g calm)

calm_weighs : (o : Plan) (p : ℕ) (place : Option ℕ) → Calm o → Calm (weighs o p place)
calm_weighs o p place calm =
    let soft : Soft = o.node.soft in
    let doubts : Bool = not (is_place place soft.wish) && nat_lt 0 soft.waits in
    let doubted : Plan = wishes o soft.wish (soft.waits - 1) in
    let wished : Plan = wishes o place soft.waits in
    either (nat_le MAX_MOVES soft.moves) Calm (wishes o None 0) (if doubts then doubted else goes_where place wished p) (calm_wishes o None 0 calm)
    (either doubts Calm doubted (goes_where place wished p) (calm_wishes o soft.wish (soft.waits - 1) calm) (calm_goes_where place wished p (calm_wishes o place soft.waits calm)))

calm_keeps_line : (o : Plan) (p : ℕ) (s : Stand) → Calm o → Calm (keeps_line o p s)
calm_keeps_line o p s calm =
    either (is_member o.node && prefers o.node.kept.mode p && nat_lt p o.node.me && s.in_tree) Calm (ask_before o p) (ignored o) (calm_ask_before o p calm) calm

calm_sees_as : (m : Mode) (search : Option Search) (o : Plan) (p : ℕ) (s : Stand) → search ≡ o.node.soft.search → Calm o → Calm (sees_as m search o p s)
calm_sees_as modes.Idle (Some (Descend q)) o p s is calm =
    either (q == p) Calm (descends o p s) (keeps_line o p s)
    (calm_descends o p s (λ e. subst NoDescent (sym is) (calm.member e)) (λ e. subst NoDescent (sym is) (calm.acting e)) calm) (calm_keeps_line o p s calm)
calm_sees_as (modes.Joined q) (Some Reviewing) o p s is calm =
    either (q == p) Calm (reviews_place o p s) (keeps_line o p s)
    (calm_weighs (searching o None) p (place_in (reviewed (view o.node p s))) (calm_soft o (record o.node.soft { search = None }) (λ none. tt) calm)) (calm_keeps_line o p s calm)
calm_sees_as m search o p s is calm = calm_keeps_line o p s calm

-- Client and measured

calm_redirects : (k : Option ℕ) (o : Plan) (count : ℕ) → Calm o → Calm (redirects k o count)
calm_redirects None o count calm = calm_soft o (record o.node.soft { served = capped (o.node.soft.served + 1) }) (λ none. none) calm
calm_redirects (Some k) o count calm = record { line = calm.line; member = calm.member; acting = calm.acting }

calm_client_of : (l : Option Shelf) (o : Plan) (area start : ℕ) → Calm o → Calm (client_of l o area start)
calm_client_of None o area start calm = calm
calm_client_of (Some l) o area start calm = calm_redirects (server_for o.node area) o _ calm

calm_measured : (o : Plan) (p rate hops : ℕ) → Calm o → Calm (measured o p rate hops)
calm_measured o p rate hops calm =
    let is_old : Bool = same_reading (reading_of o.node.kept.measures p) (record { rate = rate; hops = hops }) in
    let wrote : Plan = write o (records.Rate p rate hops) in
    either (p == o.node.me) Calm (answers o words.Own) (if is_old then o else may_move wrote) calm
    (either is_old Calm o (may_move wrote) calm (calm_soft wrote (record o.node.soft { moves = 0 }) (λ none. none) (calm_keep o (records.Rate p rate hops) refl calm)))

-- Each step

calm_same : (o q : Plan) → Stays o q → Calm o → Calm q
calm_same o q h calm = subst SeeksNoPlace (sym h.node) calm

calm_received : (o : Plan) (shelf : List Shelf) (p : ℕ) (b : Body) → Calm o → Calm (received o shelf p b)
calm_received o shelf p bodies.Look calm = calm
calm_received o shelf p (bodies.LookIs is_in parent rate children) calm = calm_sees_as o.node.kept.mode o.node.soft.search o p (record { in_tree = is_in; parent = parent; rate = rate; children = children }) refl calm
calm_received o shelf p (bodies.Ask seq rank) calm = calm_asked o p seq rank calm
calm_received o shelf p (bodies.Yes seq rank ancestors) calm = calm_took_yes o p seq rank ancestors calm
calm_received o shelf p (bodies.No seq why) calm = calm_took_no o p seq why calm
calm_received o shelf p (bodies.CheckIn seq upto rate number clients certs) calm = calm_checked_in o p seq upto rate number clients certs calm
calm_received o shelf p (bodies.CheckAck seq upto rank ancestors) calm = calm_took_ack o p seq upto rank ancestors calm
calm_received o shelf p (bodies.Rejoin seq) calm = calm_took_rejoin o p seq calm
calm_received o shelf p (bodies.Fetch have) calm = calm_same o (fetched o shelf p have) (stays_fetched o shelf p have) calm
calm_received o shelf p (bodies.Chunk g start bytes last) calm = calm_same o (took_chunk o shelf p g start bytes last) (stays_took_chunk o shelf p g start bytes last) calm

pub calm_planned : (n : Control) (shelf : List Shelf) (i : Input) → SeeksNoPlace n → SeeksNoPlace (plan n shelf i).node
calm_planned n shelf (inputs.Tick t) calm = calm_tick (begun n) shelf t calm
calm_planned n shelf inputs.CheckNow calm = calm_checks (begun n) calm
calm_planned n shelf (inputs.Relocate p) calm = calm_relocate (begun n) p calm
calm_planned n shelf (inputs.Unreachable p) calm = calm_not_reached n.kept.mode (begun n) p calm
calm_planned n shelf (inputs.Pull p) calm = either (p == n.me) Calm (answers (begun n) words.Own) (send (begun n) p (bodies.Fetch shelf)) calm calm
calm_planned n shelf (inputs.Measured p rate hops) calm = calm_measured (begun n) p rate hops calm
calm_planned n shelf (inputs.Publish g bytes) calm = calm_same (begun n) (published (begun n) shelf g bytes) (stays_published (begun n) shelf g bytes) calm
calm_planned n shelf (inputs.Seal g) calm = calm_same (begun n) (sealed_at (begun n) shelf g) (stays_sealed_at (begun n) shelf g) calm
calm_planned n shelf (inputs.Client area start g) calm = calm_client_of (line_of g shelf) (begun n) area start calm
calm_planned n shelf (inputs.Delivered m) calm = calm_received (begun n) shelf m.from m.body calm

-- The beginning of a step

pub calm_started : (h : Header) (x : ℕ) (d : Durable) → 1 ≤ h.chain → SeeksNoPlace (started_with h x d)
calm_started h x d line = record { line = line; member = λ e. tt; acting = λ e. tt }
