-- The rules other than a tick, an ask and a check-in: they leave the id, the table, the lease ends and the clock unchanged, and
-- so keep each property of these four.
use Rattle.std.proofs.Common.{ℕ, ◌+◌, ◌-◌, Bool, true, false, not, ◌&&◌, ◌||◌, ◌==◌, nat_lt, nat_le, if◌then◌else◌, Option, Some, None, List, [], ◌∷◌, filter, length}
use Rattle.oc_base.specs.declared.cert.Cert.{Cert}
use Rattle.oc_base.specs.declared.rank.Rank.{Rank}
use Rattle.oc_base.specs.declared.refusal.Refusal.{Refusal}
use Rattle.oc_base.specs.declared.refusal.Refusal.TheVariants as refusals
use Rattle.oc_base.specs.declared.shelf.Shelf.{Shelf}
use Rattle.oc_base.specs.Rank.{beneath_of}
use Rattle.oc_model.specs.declared.answer.Answer.{Answer}
use Rattle.oc_model.specs.declared.answer.Answer.TheVariants as words
use Rattle.oc_model.specs.declared.message.Body.TheVariants as bodies
use Rattle.oc_model.specs.declared.mode.Mode.{Mode}
use Rattle.oc_model.specs.declared.mode.Mode.TheVariants as modes
use Rattle.oc_model.specs.declared.record.Record.TheVariants as records
use Rattle.oc_model.specs.declared.soft.Search.{Search}
use Rattle.oc_model.specs.declared.soft.Search.TheVariants as searches
use Rattle.oc_model.specs.declared.soft.Soft.{Soft}
use Rattle.oc_model.specs.declared.soft.TheConstants.{MAX_MOVES}
use Rattle.oc_model.specs.Adopting.{is_acting, raises, raises_over}
use Rattle.oc_model.specs.Adoption.{precedes, precedes_any, rank_or_last, is_better}
use Rattle.oc_base.specs.declared.limits.TheConstants.{MAX_DEPTH}
use Rattle.oc_model.specs.Asking.{lost_from, lost, send_ask, ask, act, descend, try_at, waits_awhile, try_first, next_try, set_tries, round, ask_before, is_asking, ancestors_by, joins, took_yes, refused, took_no, not_seen, not_reached, unreachable, notes_parent, relocate}
use Rattle.oc_model.specs.ChangeLog.{begun_with, is_ahead}
use Rattle.oc_model.specs.Checking.{counts_clients, notes_time, reports, checks_as, sets_due, checks, looks_at_each, looks_round, is_due, forgets_refusal, goes_on, tick_checks_as, tick_checks, checks_in_time, has_news, reports_news_as, reports_news, checks_if_due, fetches_as, is_joined_to, takes_place, takes_rank, takes_rank_unless, same_ids, takes_ancestors, took_ack, is_peer, took_rejoin}
use Rattle.oc_model.specs.Choice.{below, chosen, reviewed}
use Rattle.oc_model.specs.Content.{unless, keeps, grows, publish_to, published, seal_line, sealed_at, pulled, answers_fetch, fetched, adds_seal, adds, grown_line, asks_on, keeps_chunk, chunk_to, took_chunk}
use Rattle.oc_model.specs.Looking.{Stand, goes_down, candidates, descends, place_in, is_place, wishes, leaves_for, goes_where, weighs, view, reviews_place, prefers, keeps_line, sees_as, sees}
use Rattle.oc_model.specs.Measures.{reading_of, same_reading}
use Rattle.oc_model.specs.Node.{Control, Durable}
use Rattle.oc_model.specs.Numbers.{number_end, raise, capped, is_empty}
use Rattle.oc_model.specs.Plan.{Plan, write, send, answers, with_soft, searching, ignored, is_member, rate_to}
use Rattle.oc_model.specs.Serving.{redirects, server_for, client_of, client, may_move, measured}
use Rattle.oc_model.specs.Shelves.{line_at, with_line, limit, next_behind}
use Rattle.oc_base.specs.Shelves.{line_of}
use Rattle.oc_model.proofs.Rules.{either}

-- a property of a node's id, table, lease ends and clock
abbrev pub OfLeases : (ℕ → List Cert → List (Option ℕ) → ℕ → Type 0) → Control → Type 0
OfLeases Q n = Q n.me n.kept.table n.leases n.soft.clock

-- the same of a step under way
abbrev pub OfPlan : (ℕ → List Cert → List (Option ℕ) → ℕ → Type 0) → Plan → Type 0
OfPlan Q o = OfLeases Q o.node

module _ (Q : ℕ → List Cert → List (Option ℕ) → ℕ → Type 0) where
  -- Asks

  stays_lost_from : (m : Mode) (o : Plan) → OfPlan Q o → OfPlan Q (lost_from m o)
  stays_lost_from modes.Idle o h = h
  stays_lost_from (modes.Asking p) o h = h
  stays_lost_from (modes.Joined p) o h = h
  stays_lost_from modes.Acting o h = h

  stays_lost : (o : Plan) → OfPlan Q o → OfPlan Q (lost o)
  stays_lost o h = stays_lost_from o.node.kept.mode o h

  stays_ask : (o : Plan) (p : ℕ) → OfPlan Q o → OfPlan Q (ask o p)
  stays_ask o p h =
      either (o.node.kept.seq == number_end) (OfPlan Q) (answers (lost o) words.Spent) (send_ask (searching (write o (records.Ask (o.node.kept.seq + 1) p)) None) p) (stays_lost o h) h

  stays_try_at : (o : Plan) (p : ℕ) → OfPlan Q o → OfPlan Q (try_at o p)
  stays_try_at o p h = either (not (is_member o.node) && is_empty o.node.kept.ancestors) (OfPlan Q) (descend o p) (ask o p) h (stays_ask o p h)

  stays_try_first : (ps : List ℕ) (o : Plan) → OfPlan Q o → OfPlan Q (try_first ps o)
  stays_try_first [] o h = either (is_member o.node && o.node.soft.silent) (OfPlan Q) (act o) (waits_awhile o) h h
  stays_try_first (p ∷ ps) o h = stays_try_at (with_soft o (record o.node.soft { tries = ps })) p h

  stays_next_try : (o : Plan) → OfPlan Q o → OfPlan Q (next_try o)
  stays_next_try o h = either (o.node.me == 1) (OfPlan Q) (act o) (try_first o.node.soft.tries o) h (stays_try_first o.node.soft.tries o h)

  stays_round : (o : Plan) (without : Option ℕ) → OfPlan Q o → OfPlan Q (round o without)
  stays_round o without h = stays_next_try (set_tries o without) h

  stays_ask_before : (o : Plan) (p : ℕ) → OfPlan Q o → OfPlan Q (ask_before o p)
  stays_ask_before o p h = stays_ask (set_tries o (Some p)) p h

  stays_joins : (o : Plan) (p : ℕ) (r : Rank) (xs : List ℕ) → OfPlan Q o → OfPlan Q (joins o p r xs)
  stays_joins o p r xs h =
      either (o.node.kept.seq == 0) (λ (d : Durable). OfPlan Q (record o { node = record o.node { kept = d } })) o.node.kept (record o.node.kept { mode = modes.Joined p; rank = Some (beneath_of r); log = begun_with o.node.kept.table }) h h

  pub stays_took_yes : (o : Plan) (p seq : ℕ) (r : Rank) (xs : List ℕ) → OfPlan Q o → OfPlan Q (took_yes o p seq r xs)
  stays_took_yes o p seq r xs h =
      either (is_asking o.node.kept.mode p && seq == o.node.kept.seq && nat_lt r.depth MAX_DEPTH && precedes_any r o.node.kept.rank) (OfPlan Q) (joins o p r xs) (ignored o) (stays_joins o p r xs h) h

  stays_refused : (o : Plan) (why : Refusal) → OfPlan Q o → OfPlan Q (refused o why)
  stays_refused o (refusals.Chain q) h = either (is_member o.node || q == o.node.me) (OfPlan Q) (next_try o) (descend o q) (stays_next_try o h) h
  stays_refused o refusals.Own h = stays_next_try o h
  stays_refused o refusals.NotJoined h = stays_next_try o h
  stays_refused o refusals.Ancestor h = stays_next_try o h
  stays_refused o refusals.Depth h = stays_next_try o h
  stays_refused o refusals.Rank h = stays_next_try o h

  pub stays_took_no : (o : Plan) (p seq : ℕ) (why : Refusal) → OfPlan Q o → OfPlan Q (took_no o p seq why)
  stays_took_no o p seq why h =
      let fallen : Plan = with_soft (lost o) (record o.node.soft { silent = false; refused = true }) in
      either (is_asking o.node.kept.mode p && seq == o.node.kept.seq) (OfPlan Q) (refused fallen why) (ignored o) (stays_refused fallen why (by_mode o.node.kept.mode)) h where
        by_mode : (m : Mode) → OfPlan Q (with_soft (lost_from m o) (record o.node.soft { silent = false; refused = true }))
        by_mode modes.Idle = h
        by_mode (modes.Asking q) = h
        by_mode (modes.Joined q) = h
        by_mode modes.Acting = h

  stays_not_seen : (s : Option Search) (o : Plan) (p : ℕ) → OfPlan Q o → OfPlan Q (not_seen s o p)
  stays_not_seen None o p h = h
  stays_not_seen (Some searches.Review) o p h = h
  stays_not_seen (Some (searches.Descend q)) o p h = either (q == p) (OfPlan Q) (next_try (searching o None)) (ignored o) (stays_next_try (searching o None) h) h

  stays_not_reached : (m : Mode) (o : Plan) (p : ℕ) → OfPlan Q o → OfPlan Q (not_reached m o p)
  stays_not_reached modes.Idle o p h = stays_not_seen o.node.soft.search o p h
  stays_not_reached modes.Acting o p h = stays_not_seen o.node.soft.search o p h
  stays_not_reached (modes.Joined q) o p h =
      either (q == p) (OfPlan Q) (round (lost o) (Some p)) (not_seen o.node.soft.search o p) (stays_round (lost o) (Some p) (stays_lost o h)) (stays_not_seen o.node.soft.search o p h)
  stays_not_reached (modes.Asking q) o p h =
      either (q == p) (OfPlan Q) (next_try (lost o)) (not_seen o.node.soft.search o p) (stays_next_try (lost o) (stays_lost o h)) (stays_not_seen o.node.soft.search o p h)

  pub stays_unreachable : (o : Plan) (p : ℕ) → OfPlan Q o → OfPlan Q (unreachable o p)
  stays_unreachable o p h = stays_not_reached o.node.kept.mode o p h

  pub stays_relocate : (o : Plan) (p : ℕ) → OfPlan Q o → OfPlan Q (relocate o p)
  stays_relocate o p h =
      let is_fixed : Bool = o.node.me == 1 || (is_member o.node && nat_lt o.node.me p) in
      either (p == o.node.me) (OfPlan Q) (answers o words.Own) (if is_fixed then answers o words.Fixed else ask_before (notes_parent o) p) h
      (either is_fixed (OfPlan Q) (answers o words.Fixed) (ask_before (notes_parent o) p) h (stays_ask_before (notes_parent o) p h))

  -- Checks

  stays_raises : (o : Plan) (e : Option ℕ) → OfPlan Q o → OfPlan Q (raises o e)
  stays_raises o None h = h
  stays_raises o (Some e) h = h

  pub stays_raises_over : (o : Plan) (x : ℕ) (r : Rank) → OfPlan Q o → OfPlan Q (raises_over o x r)
  stays_raises_over o x r h =
      either (is_acting o.node.kept.mode && not (precedes (rank_or_last o.node.kept.rank) r) && not (x == o.node.me)) (OfPlan Q) (raises o (raise r.epoch)) o (stays_raises o (raise r.epoch) h) h

  stays_counts_clients : (o : Plan) → OfPlan Q o → OfPlan Q (counts_clients o)
  stays_counts_clients o h =
      let counted : Plan = write o (records.Info (o.node.kept.number + 1) (capped (o.node.kept.clients + o.node.soft.served))) in
      either (not (o.node.soft.served == 0) && nat_lt o.node.kept.number number_end) (OfPlan Q) (with_soft counted (record o.node.soft { served = 0 })) o h h

  stays_checks_as : (m : Mode) (o : Plan) → OfPlan Q o → OfPlan Q (checks_as m o)
  stays_checks_as (modes.Joined p) o h = stays_counts_clients (notes_time o) h
  stays_checks_as modes.Acting o h = stays_raises o (raise (rank_or_last o.node.kept.rank).epoch) h
  stays_checks_as modes.Idle o h = stays_round o None h
  stays_checks_as (modes.Asking p) o h = h

  pub stays_checks : (o : Plan) → OfPlan Q o → OfPlan Q (checks o)
  stays_checks o h = stays_checks_as o.node.kept.mode (sets_due o) h

  stays_goes_on : (s : Option Search) (o : Plan) → OfPlan Q o → OfPlan Q (goes_on s o)
  stays_goes_on (Some (searches.Descend p)) o h = h
  stays_goes_on (Some searches.Review) o h = stays_round o None h
  stays_goes_on None o h = stays_round o None h

  stays_tick_checks_as : (m : Mode) (o : Plan) → OfPlan Q o → OfPlan Q (tick_checks_as m o)
  stays_tick_checks_as modes.Idle o h = stays_goes_on o.node.soft.search o h
  stays_tick_checks_as (modes.Joined p) o h = stays_checks_as (modes.Joined p) o h
  stays_tick_checks_as (modes.Asking p) o h = stays_checks_as (modes.Asking p) o h
  stays_tick_checks_as modes.Acting o h = stays_checks_as modes.Acting o h

  stays_tick_checks : (o : Plan) → OfPlan Q o → OfPlan Q (tick_checks o)
  stays_tick_checks o h = stays_tick_checks_as o.node.kept.mode (sets_due o) h

  stays_looks_at_each : (xs : List ℕ) (o : Plan) → OfPlan Q o → OfPlan Q (looks_at_each xs o)
  stays_looks_at_each [] o h = h
  stays_looks_at_each (x ∷ xs) o h = stays_looks_at_each xs (send o x bodies.Look) h

  stays_looks_round : (m : Mode) (o : Plan) → OfPlan Q o → OfPlan Q (looks_round m o)
  stays_looks_round (modes.Joined p) o h =
      let nearer : List ℕ = filter (λ x. nat_lt p x) (below o.node.me) in
      either (is_member o.node) (OfPlan Q) (looks_at_each nearer o) (if o.node.soft.refused then o else send (searching o (Some searches.Review)) p bodies.Look) (stays_looks_at_each nearer o h)
      (either o.node.soft.refused (OfPlan Q) o (send (searching o (Some searches.Review)) p bodies.Look) h h)
  stays_looks_round modes.Acting o h = either (is_member o.node) (OfPlan Q) (looks_at_each (below o.node.me) o) o (stays_looks_at_each (below o.node.me) o h) h
  stays_looks_round modes.Idle o h = h
  stays_looks_round (modes.Asking p) o h = h

  stays_forgets_refusal : (due : Option ℕ) (o : Plan) → OfPlan Q o → OfPlan Q (forgets_refusal due o)
  stays_forgets_refusal None o h = h
  stays_forgets_refusal (Some t) o h = h

  stays_checks_in_time : (o : Plan) → OfPlan Q o → OfPlan Q (checks_in_time o)
  stays_checks_in_time o h =
      let begins : Plan = forgets_refusal o.node.soft.due o in
      stays_looks_round o.node.kept.mode (tick_checks begins) (stays_tick_checks begins (stays_forgets_refusal o.node.soft.due o h))

  stays_reports_news_as : (m : Mode) (o : Plan) → OfPlan Q o → OfPlan Q (reports_news_as m o)
  stays_reports_news_as (modes.Joined p) o h = either (has_news o.node) (OfPlan Q) (reports o p) o (stays_counts_clients (notes_time o) h) h
  stays_reports_news_as modes.Idle o h = h
  stays_reports_news_as (modes.Asking p) o h = h
  stays_reports_news_as modes.Acting o h = h

  -- the rest of a tick, after its leases
  pub stays_checks_if_due : (o : Plan) → OfPlan Q o → OfPlan Q (checks_if_due o)
  stays_checks_if_due o h =
      either (is_due o.node.soft.due o.node.soft.clock) (OfPlan Q) (checks_in_time o) (reports_news o) (stays_checks_in_time o h) (stays_reports_news_as o.node.kept.mode o h)

  pub stays_fetches_as : (m : Mode) (o : Plan) (shelf : List Shelf) → OfPlan Q o → OfPlan Q (fetches_as m o shelf)
  stays_fetches_as (modes.Joined p) o shelf h = h
  stays_fetches_as modes.Idle o shelf h = h
  stays_fetches_as (modes.Asking p) o shelf h = h
  stays_fetches_as modes.Acting o shelf h = h

  -- Acknowledgements

  stays_takes_place : (o : Plan) (upto : ℕ) → OfPlan Q o → OfPlan Q (takes_place o upto)
  stays_takes_place o upto h = either (is_ahead o.node.kept.log upto) (OfPlan Q) (write o (records.Acked upto)) o h h

  stays_takes_rank : (o : Plan) (told : Rank) → OfPlan Q o → OfPlan Q (takes_rank o told)
  stays_takes_rank o told h = either (is_better o.node.kept.rank told) (OfPlan Q) (write o (records.Ranked (beneath_of told))) o h h

  stays_takes_rank_unless : (wish : Option ℕ) (o : Plan) (told : Rank) → OfPlan Q o → OfPlan Q (takes_rank_unless wish o told)
  stays_takes_rank_unless None o told h = stays_takes_rank o told h
  stays_takes_rank_unless (Some g) o told h = h

  stays_takes_ancestors : (o : Plan) (xs : List ℕ) → OfPlan Q o → OfPlan Q (takes_ancestors o xs)
  stays_takes_ancestors o xs h = either (same_ids xs o.node.kept.ancestors) (OfPlan Q) o (write o (records.Ancestors xs)) h h

  pub stays_took_ack : (o : Plan) (p seq upto : ℕ) (told : Rank) (xs : List ℕ) → OfPlan Q o → OfPlan Q (took_ack o p seq upto told xs)
  stays_took_ack o p seq upto told xs h =
      let ranked : Plan = takes_rank_unless o.node.soft.wish (takes_place o upto) told in
      either (is_joined_to o.node.kept.mode p && seq == o.node.kept.seq) (OfPlan Q) (takes_ancestors ranked (ancestors_by p xs)) (ignored o)
      (stays_takes_ancestors ranked (ancestors_by p xs) (stays_takes_rank_unless o.node.soft.wish (takes_place o upto) told (stays_takes_place o upto h))) h

  pub stays_took_rejoin : (o : Plan) (p seq : ℕ) → OfPlan Q o → OfPlan Q (took_rejoin o p seq)
  stays_took_rejoin o p seq h = either (is_peer o.node.kept.mode p && seq == o.node.kept.seq) (OfPlan Q) (ask_before o p) (ignored o) (stays_ask_before o p h) h

  -- Looks

  stays_goes_down : (c : Option ℕ) (o : Plan) (p : ℕ) → OfPlan Q o → OfPlan Q (goes_down c o p)
  stays_goes_down None o p h = stays_ask o p h
  stays_goes_down (Some q) o p h = h

  stays_descends : (o : Plan) (p : ℕ) (s : Stand) → OfPlan Q o → OfPlan Q (descends o p s)
  stays_descends o p s h =
      let way : Option ℕ = chosen (rate_to o.node p) (candidates o.node s.children) in
      either s.in_tree (OfPlan Q) (goes_down way o p) (next_try (searching o None)) (stays_goes_down way o p h) (stays_next_try (searching o None) h)

  stays_leaves_for : (o : Plan) (p g : ℕ) → OfPlan Q o → OfPlan Q (leaves_for o p g)
  stays_leaves_for o p g h = stays_ask_before (with_soft o (record o.node.soft { left = Some p; moves = o.node.soft.moves + 1 })) g h

  stays_goes_where : (place : Option ℕ) (o : Plan) (p : ℕ) → OfPlan Q o → OfPlan Q (goes_where place o p)
  stays_goes_where None o p h = h
  stays_goes_where (Some g) o p h =
      either (nat_lt o.node.soft.waits (o.node.soft.patience + 2)) (OfPlan Q) (wishes o (Some g) (o.node.soft.waits + 1)) (leaves_for o p g) h (stays_leaves_for o p g h)

  stays_weighs : (o : Plan) (p : ℕ) (place : Option ℕ) → OfPlan Q o → OfPlan Q (weighs o p place)
  stays_weighs o p place h =
      let soft : Soft = o.node.soft in
      let doubts : Bool = not (is_place place soft.wish) && nat_lt 0 soft.waits in
      let doubted : Plan = wishes o soft.wish (soft.waits - 1) in
      let wished : Plan = wishes o place soft.waits in
      either (nat_le MAX_MOVES soft.moves) (OfPlan Q) (wishes o None 0) (if doubts then doubted else goes_where place wished p) h
      (either doubts (OfPlan Q) doubted (goes_where place wished p) h (stays_goes_where place wished p h))

  stays_reviews_place : (o : Plan) (p : ℕ) (s : Stand) → OfPlan Q o → OfPlan Q (reviews_place o p s)
  stays_reviews_place o p s h = stays_weighs (searching o None) p (place_in (reviewed (view o.node p s))) h

  stays_keeps_line : (o : Plan) (p : ℕ) (s : Stand) → OfPlan Q o → OfPlan Q (keeps_line o p s)
  stays_keeps_line o p s h =
      either (is_member o.node && prefers o.node.kept.mode p && nat_lt p o.node.me && s.in_tree) (OfPlan Q) (ask_before o p) (ignored o) (stays_ask_before o p h) h

  stays_sees_as : (m : Mode) (search : Option Search) (o : Plan) (p : ℕ) (s : Stand) → OfPlan Q o → OfPlan Q (sees_as m search o p s)
  stays_sees_as modes.Idle (Some (searches.Descend q)) o p s h = either (q == p) (OfPlan Q) (descends o p s) (keeps_line o p s) (stays_descends o p s h) (stays_keeps_line o p s h)
  stays_sees_as modes.Idle (Some searches.Review) o p s h = stays_keeps_line o p s h
  stays_sees_as modes.Idle None o p s h = stays_keeps_line o p s h
  stays_sees_as (modes.Joined q) (Some searches.Review) o p s h = either (q == p) (OfPlan Q) (reviews_place o p s) (keeps_line o p s) (stays_reviews_place o p s h) (stays_keeps_line o p s h)
  stays_sees_as (modes.Joined q) (Some (searches.Descend y)) o p s h = stays_keeps_line o p s h
  stays_sees_as (modes.Joined q) None o p s h = stays_keeps_line o p s h
  stays_sees_as (modes.Asking q) search o p s h = stays_keeps_line o p s h
  stays_sees_as modes.Acting search o p s h = stays_keeps_line o p s h

  pub stays_sees : (o : Plan) (p : ℕ) (s : Stand) → OfPlan Q o → OfPlan Q (sees o p s)
  stays_sees o p s h = stays_sees_as o.node.kept.mode o.node.soft.search o p s h

  -- Clients and measures

  stays_redirects : (to : Option ℕ) (o : Plan) (count : ℕ) → OfPlan Q o → OfPlan Q (redirects to o count)
  stays_redirects None o count h = h
  stays_redirects (Some q) o count h = h

  stays_client_of : (l : Option Shelf) (o : Plan) (area start : ℕ) → OfPlan Q o → OfPlan Q (client_of l o area start)
  stays_client_of None o area start h = h
  stays_client_of (Some l) o area start h = stays_redirects (server_for o.node area) o _ h

  pub stays_client : (o : Plan) (shelf : List Shelf) (area start : ℕ) (g : List ℕ) → OfPlan Q o → OfPlan Q (client o shelf area start g)
  stays_client o shelf area start g h = stays_client_of (line_of g shelf) o area start h

  pub stays_measured : (o : Plan) (p rate hops : ℕ) → OfPlan Q o → OfPlan Q (measured o p rate hops)
  stays_measured o p rate hops h =
      let is_old : Bool = same_reading (reading_of o.node.kept.measures p) (record { rate = rate; hops = hops }) in
      let wrote : Plan = write o (records.Rate p rate hops) in
      either (p == o.node.me) (OfPlan Q) (answers o words.Own) (if is_old then o else may_move wrote) h (either is_old (OfPlan Q) o (may_move wrote) h h)

  -- Content

  stays_unless : (a : Option Answer) (o q : Plan) → OfPlan Q o → OfPlan Q q → OfPlan Q (unless a o q)
  stays_unless None o q h g = g
  stays_unless (Some a) o q h g = h

  stays_publish_to : (o : Plan) (shelf : List Shelf) (l : Shelf) (count : ℕ) → OfPlan Q o → OfPlan Q (publish_to o shelf l count)
  stays_publish_to o shelf l count h =
      let kept : Plan = if grows shelf l.group count then keeps o l.held false else o in
      either l.sealed (OfPlan Q) (answers o words.Sealed) (unless (limit shelf l.group (l.held + count)) o kept) h
      (stays_unless (limit shelf l.group (l.held + count)) o kept h (either (grows shelf l.group count) (OfPlan Q) (keeps o l.held false) o h h))

  pub stays_published : (o : Plan) (shelf : List Shelf) (g bytes : List ℕ) → OfPlan Q o → OfPlan Q (published o shelf g bytes)
  stays_published o shelf g bytes h =
      either (o.node.me == 1) (OfPlan Q) (publish_to o shelf (line_at g shelf) (length bytes)) (answers o words.NotSource) (stays_publish_to o shelf (line_at g shelf) (length bytes) h) h

  stays_seal_line : (l : Option Shelf) (o : Plan) → OfPlan Q o → OfPlan Q (seal_line o l)
  stays_seal_line None o h = h
  stays_seal_line (Some l) o h = either l.sealed (OfPlan Q) (ignored o) (keeps o l.held true) h h

  pub stays_sealed_at : (o : Plan) (shelf : List Shelf) (g : List ℕ) → OfPlan Q o → OfPlan Q (sealed_at o shelf g)
  stays_sealed_at o shelf g h = either (o.node.me == 1) (OfPlan Q) (seal_line o (line_of g shelf)) (answers o words.NotSource) (stays_seal_line (line_of g shelf) o h) h

  pub stays_pulled : (o : Plan) (shelf : List Shelf) (p : ℕ) → OfPlan Q o → OfPlan Q (pulled o shelf p)
  stays_pulled o shelf p h = either (p == o.node.me) (OfPlan Q) (answers o words.Own) (send o p (bodies.Fetch shelf)) h h

  stays_answers_fetch : (l : Option Shelf) (o : Plan) (p : ℕ) (have : List Shelf) → OfPlan Q o → OfPlan Q (answers_fetch o p have l)
  stays_answers_fetch None o p have h = h
  stays_answers_fetch (Some l) o p have h = h

  pub stays_fetched : (o : Plan) (shelf : List Shelf) (p : ℕ) (have : List Shelf) → OfPlan Q o → OfPlan Q (fetched o shelf p have)
  stays_fetched o shelf p have h = stays_answers_fetch (next_behind o.node.chunk have shelf) o p have h

  stays_asks_on : (m : Mode) (p : ℕ) (shelf : List Shelf) (o : Plan) → OfPlan Q o → OfPlan Q (asks_on m p shelf o)
  stays_asks_on (modes.Joined q) p shelf o h = either (q == p) (OfPlan Q) (send o p (bodies.Fetch shelf)) o h h
  stays_asks_on modes.Idle p shelf o h = h
  stays_asks_on (modes.Asking q) p shelf o h = h
  stays_asks_on modes.Acting p shelf o h = h

  stays_keeps_chunk : (o : Plan) (shelf : List Shelf) (p : ℕ) (l : Shelf) (start end : ℕ) (last : Bool) → OfPlan Q o → OfPlan Q (keeps_chunk o shelf p l start end last)
  stays_keeps_chunk o shelf p l start end last h =
      let kept : Plan = keeps o start (adds_seal l end last) in
      let names : List Shelf = with_line (grown_line l end last) shelf in
      either (adds shelf l end last) (OfPlan Q) (asks_on o.node.kept.mode p names kept) (ignored o) (stays_asks_on o.node.kept.mode p names kept h) h

  stays_chunk_to : (o : Plan) (shelf : List Shelf) (p : ℕ) (l : Shelf) (start end : ℕ) (last : Bool) → OfPlan Q o → OfPlan Q (chunk_to o shelf p l start end last)
  stays_chunk_to o shelf p l start end last h =
      let taken : Plan = keeps_chunk o shelf p l start end last in
      let limited : Plan = unless (limit shelf l.group end) o taken in
      either (nat_lt l.held start) (OfPlan Q) (answers o words.Gap) (if l.sealed && nat_lt l.held end then answers o words.Sealed else limited) h
      (either (l.sealed && nat_lt l.held end) (OfPlan Q) (answers o words.Sealed) limited h (stays_unless (limit shelf l.group end) o taken h (stays_keeps_chunk o shelf p l start end last h)))

  pub stays_took_chunk : (o : Plan) (shelf : List Shelf) (p : ℕ) (g : List ℕ) (start : ℕ) (bytes : List ℕ) (last : Bool) → OfPlan Q o → OfPlan Q (took_chunk o shelf p g start bytes last)
  stays_took_chunk o shelf p g start bytes last h =
      either (o.node.me == 1) (OfPlan Q) (ignored o) (chunk_to o shelf p (line_at g shelf) start (start + length bytes) last) h (stays_chunk_to o shelf p (line_at g shelf) start (start + length bytes) last h)
