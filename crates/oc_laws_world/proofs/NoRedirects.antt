-- No rule but that of clients answers by sending a client on.
use Rattle.std.proofs.Common.{ℕ, ◌+◌, ◌-◌, Bool, true, false, not, ◌&&◌, ◌||◌, ◌==◌, nat_lt, nat_le, if◌then◌else◌, Option, Some, None, is_some, List, [], ◌∷◌, length, filter}
use Rattle.oc_base.specs.declared.cert.Cert.{Cert}
use Rattle.oc_base.specs.declared.rank.Rank.{Rank}
use Rattle.oc_base.specs.declared.refusal.Refusal.{Refusal}
use Rattle.oc_base.specs.declared.refusal.Refusal.TheVariants as refusals
use Rattle.oc_base.specs.declared.shelf.Shelf.{Shelf}
use Rattle.oc_base.specs.declared.limits.TheConstants.{MAX_DEPTH, MAX_GROUPS, MAX_GROUP_BYTES}
use Rattle.oc_base.specs.Rank.{beneath_of}
use Rattle.oc_base.specs.Shelves.{line_of}
use Rattle.oc_model.specs.declared.answer.Answer.{Answer}
use Rattle.oc_model.specs.declared.answer.Answer.TheVariants as words
use Rattle.oc_model.specs.declared.message.Body.{Body}
use Rattle.oc_model.specs.declared.message.Body.TheVariants as bodies
use Rattle.oc_model.specs.declared.mode.Mode.{Mode}
use Rattle.oc_model.specs.declared.mode.Mode.TheVariants as modes
use Rattle.oc_model.specs.declared.record.Record.TheVariants as records
use Rattle.oc_model.specs.declared.soft.Search.{Search}
use Rattle.oc_model.specs.declared.soft.Search.TheVariants as searches
use Rattle.oc_model.specs.declared.soft.Soft.{Soft}
use Rattle.oc_model.specs.declared.soft.TheConstants.{MAX_MOVES}
use Rattle.oc_model.specs.Adopting.{is_acting, raises, raises_over, host, birth, has_lease, grants, sends_rejoin, adopts, answers_ask, asked}
use Rattle.oc_model.specs.Adoption.{precedes, precedes_any, rank_or_last, is_better, adoption_refusal}
use Rattle.oc_model.specs.Asking.{lost_from, lost, send_ask, ask, act, descend, try_at, waits_awhile, try_first, next_try, set_tries, round, ask_before, is_asking, ancestors_by, joins, took_yes, refused, took_no, not_seen, not_reached, unreachable, notes_parent, relocate}
use Rattle.oc_model.specs.ChangeLog.{is_ahead}
use Rattle.oc_model.specs.Checking.{notes_time, reports, checks_as, sets_due, checks, merges, merges_all, at_time, starts_leases, dies, ends_each, ends_leases, looks_at_each, looks_round, is_due, forgets_refusal, goes_on, tick_checks_as, tick_checks, checks_in_time, has_news, reports_news_as, reports_news, checks_if_due, fetches_as, tick, acknowledges, life, checked_in, is_joined_to, takes_place, takes_rank_unless, same_ids, takes_ancestors, took_ack, is_peer, took_rejoin}
use Rattle.oc_model.specs.Choice.{below, chosen, reviewed}
use Rattle.oc_model.specs.Content.{unless, keeps, grows, publish_to, published, seal_line, sealed_at, pulled, answers_fetch, adds_seal, adds, grown_line, asks_on, keeps_chunk, chunk_to, took_chunk}
use Rattle.oc_model.specs.Leases.{ended}
use Rattle.oc_model.specs.Looking.{Stand, goes_down, candidates, descends, place_in, is_place, wishes, leaves_for, goes_where, weighs, view, reviews_place, prefers, keeps_line, sees_as, sees}
use Rattle.oc_model.specs.Measures.{reading_of, same_reading}
use Rattle.oc_model.specs.Numbers.{number_end, raise, capped, is_empty}
use Rattle.oc_model.specs.Plan.{Plan, write, send, answers, with_soft, searching, ignored, is_member, rate_to}
use Rattle.oc_model.specs.Serving.{may_move, measured}
use Rattle.oc_model.specs.Shelves.{line_at, with_line, limit, next_behind}
use Rattle.oc_model.specs.Step.{received}
use Rattle.oc_model.specs.Table.{newest, is_news}
use Rattle.oc_model.proofs.Rules.{either}

-- an answer that does not send a client on
abbrev pub IsNoRedirect : Answer → Type 0
IsNoRedirect (words.Redirect k) = ⊥
IsNoRedirect a = Unit {0}

-- a step under way whose answer does not send a client on
abbrev pub Stays : Plan → Type 0
Stays o = IsNoRedirect o.answer

-- Asks

stays_lost : (m : Mode) (o : Plan) → Stays o → Stays (lost_from m o)
stays_lost modes.Idle o h = h
stays_lost (modes.Asking p) o h = h
stays_lost (modes.Joined p) o h = h
stays_lost modes.Acting o h = h

stays_ask : (o : Plan) (p : ℕ) → Stays o → Stays (ask o p)
stays_ask o p h = either (o.node.kept.seq == number_end) Stays (answers (lost o) words.Spent) (send_ask (searching (write o (records.Ask (o.node.kept.seq + 1) p)) None) p) tt h

stays_ask_before : (o : Plan) (p : ℕ) → Stays o → Stays (ask_before o p)
stays_ask_before o p h = stays_ask (set_tries o (Some p)) p h

stays_try_at : (o : Plan) (p : ℕ) → Stays o → Stays (try_at o p)
stays_try_at o p h = either (not (is_member o.node) && is_empty o.node.kept.ancestors) Stays (descend o p) (ask o p) h (stays_ask o p h)

stays_try_first : (ps : List ℕ) (o : Plan) → Stays o → Stays (try_first ps o)
stays_try_first [] o h = either (is_member o.node && o.node.soft.silent) Stays (act o) (waits_awhile o) h tt
stays_try_first (p ∷ ps) o h = stays_try_at (with_soft o (record o.node.soft { tries = ps })) p h

stays_next_try : (o : Plan) → Stays o → Stays (next_try o)
stays_next_try o h = either (o.node.me == 1) Stays (act o) (try_first o.node.soft.tries o) h (stays_try_first o.node.soft.tries o h)

stays_round : (o : Plan) (without : Option ℕ) → Stays o → Stays (round o without)
stays_round o without h = stays_next_try (set_tries o without) h

stays_took_yes : (o : Plan) (p seq : ℕ) (r : Rank) (xs : List ℕ) → Stays o → Stays (took_yes o p seq r xs)
stays_took_yes o p seq r xs h =
    either (is_asking o.node.kept.mode p && seq == o.node.kept.seq && nat_lt r.depth MAX_DEPTH && precedes_any r o.node.kept.rank) Stays (joins o p r xs) (ignored o) h tt

stays_refused : (o : Plan) (why : Refusal) → Stays o → Stays (refused o why)
stays_refused o (refusals.Chain q) h = either (is_member o.node || q == o.node.me) Stays (next_try o) (descend o q) (stays_next_try o h) h
stays_refused o refusals.Own h = stays_next_try o h
stays_refused o refusals.NotJoined h = stays_next_try o h
stays_refused o refusals.Ancestor h = stays_next_try o h
stays_refused o refusals.Depth h = stays_next_try o h
stays_refused o refusals.Rank h = stays_next_try o h

stays_took_no : (o : Plan) (p seq : ℕ) (why : Refusal) → Stays o → Stays (took_no o p seq why)
stays_took_no o p seq why h =
    let no_longer : Plan = with_soft (lost o) (record o.node.soft { silent = false; refused = true }) in
    either (is_asking o.node.kept.mode p && seq == o.node.kept.seq) Stays (refused no_longer why) (ignored o) (stays_refused no_longer why (stays_lost o.node.kept.mode o h)) tt

stays_not_seen : (s : Option Search) (o : Plan) (p : ℕ) → Stays o → Stays (not_seen s o p)
stays_not_seen None o p h = tt
stays_not_seen (Some searches.Review) o p h = tt
stays_not_seen (Some (searches.Descend q)) o p h = either (q == p) Stays (next_try (searching o None)) (ignored o) (stays_next_try (searching o None) h) tt

stays_not_reached : (m : Mode) (o : Plan) (p : ℕ) → Stays o → Stays (not_reached m o p)
stays_not_reached modes.Idle o p h = stays_not_seen o.node.soft.search o p h
stays_not_reached modes.Acting o p h = stays_not_seen o.node.soft.search o p h
stays_not_reached (modes.Joined q) o p h =
    either (q == p) Stays (round (lost o) (Some p)) (not_seen o.node.soft.search o p) (stays_round (lost o) (Some p) (stays_lost o.node.kept.mode o h)) (stays_not_seen o.node.soft.search o p h)
stays_not_reached (modes.Asking q) o p h =
    either (q == p) Stays (next_try (lost o)) (not_seen o.node.soft.search o p) (stays_next_try (lost o) (stays_lost o.node.kept.mode o h)) (stays_not_seen o.node.soft.search o p h)

pub stays_unreachable : (o : Plan) (p : ℕ) → Stays o → Stays (unreachable o p)
stays_unreachable o p h = stays_not_reached o.node.kept.mode o p h

pub stays_relocate : (o : Plan) (p : ℕ) → Stays o → Stays (relocate o p)
stays_relocate o p h =
    let fixed : Bool = o.node.me == 1 || (is_member o.node && nat_lt o.node.me p) in
    either (p == o.node.me) Stays (answers o words.Own) (if fixed then answers o words.Fixed else ask_before (notes_parent o) p) tt
    (either fixed Stays (answers o words.Fixed) (ask_before (notes_parent o) p) tt (stays_ask_before (notes_parent o) p h))

-- Adoption

stays_raises : (o : Plan) (e : Option ℕ) → Stays o → Stays (raises o e)
stays_raises o None h = h
stays_raises o (Some e) h = h

stays_raises_over : (o : Plan) (x : ℕ) (r : Rank) → Stays o → Stays (raises_over o x r)
stays_raises_over o x r h =
    either (is_acting o.node.kept.mode && not (precedes (rank_or_last o.node.kept.rank) r) && not (x == o.node.me)) Stays (raises o (raise r.epoch)) o (stays_raises o (raise r.epoch) h) h

stays_adopts : (o : Plan) (x seq : ℕ) → Stays o → Stays (adopts o x seq)
stays_adopts o x seq h =
    let born : Cert = birth x seq o.node.me in
    either (has_lease o.node x seq) Stays (grants o x seq) (if is_news o.node.kept.table born then grants (write o (records.Entry born)) x seq else sends_rejoin o x seq) h
    (either (is_news o.node.kept.table born) Stays (grants (write o (records.Entry born)) x seq) (sends_rejoin o x seq) h h)

stays_answers_ask : (why : Option Refusal) (o : Plan) (x seq : ℕ) → Stays o → Stays (answers_ask why o x seq)
stays_answers_ask None o x seq h = stays_adopts o x seq h
stays_answers_ask (Some why) o x seq h = h

stays_asked : (o : Plan) (x seq : ℕ) (r : Option Rank) → Stays o → Stays (asked o x seq r)
stays_asked o x seq r h =
    let raised : Plan = raises_over o x (rank_or_last r) in
    stays_answers_ask (adoption_refusal (host raised.node x) x r) raised x seq (stays_raises_over o x (rank_or_last r) h)

-- Checks

stays_reports : (o : Plan) (p : ℕ) → Stays o → Stays (reports o p)
stays_reports o p h =
    let noted : Plan = notes_time o in
    either (not (noted.node.soft.served == 0) && nat_lt noted.node.kept.number number_end) Stays
    (with_soft (write noted (records.Info (noted.node.kept.number + 1) (capped (noted.node.kept.clients + noted.node.soft.served)))) (record noted.node.soft { served = 0 })) noted h h

stays_checks_as : (m : Mode) (o : Plan) → Stays o → Stays (checks_as m o)
stays_checks_as (modes.Joined p) o h = stays_reports o p h
stays_checks_as modes.Acting o h = stays_raises o (raise (rank_or_last o.node.kept.rank).epoch) h
stays_checks_as modes.Idle o h = stays_round o None h
stays_checks_as (modes.Asking p) o h = h

pub stays_checks : (o : Plan) → Stays o → Stays (checks o)
stays_checks o h = stays_checks_as o.node.kept.mode (sets_due o) h

stays_merges : (o : Plan) (c : Cert) → Stays o → Stays (merges o c)
stays_merges o c h = either (is_news o.node.kept.table c) Stays (write o (records.Entry c)) o h h

stays_merges_all : (cs : List Cert) (o : Plan) → Stays o → Stays (merges_all cs o)
stays_merges_all [] o h = h
stays_merges_all (c ∷ cs) o h = stays_merges_all cs (merges o c) (stays_merges o c h)

stays_dies : (e : Option Cert) (o : Plan) → Stays o → Stays (dies e o)
stays_dies None o h = h
stays_dies (Some c) o h = stays_merges o (record c { dead = true }) h

stays_ends_each : (xs : List ℕ) (o : Plan) → Stays o → Stays (ends_each xs o)
stays_ends_each [] o h = h
stays_ends_each (x ∷ xs) o h = stays_ends_each xs (dies (newest o.node.kept.table x) o) (stays_dies (newest o.node.kept.table x) o h)

stays_looks_at_each : (xs : List ℕ) (o : Plan) → Stays o → Stays (looks_at_each xs o)
stays_looks_at_each [] o h = h
stays_looks_at_each (x ∷ xs) o h = stays_looks_at_each xs (send o x bodies.Look) h

stays_looks_round : (m : Mode) (o : Plan) → Stays o → Stays (looks_round m o)
stays_looks_round (modes.Joined p) o h =
    let nearer : List ℕ = filter (λ x. nat_lt p x) (below o.node.me) in
    let reviewing : Plan = send (searching o (Some searches.Review)) p bodies.Look in
    either (is_member o.node) Stays (looks_at_each nearer o) (if o.node.soft.refused then o else reviewing) (stays_looks_at_each nearer o h) (either o.node.soft.refused Stays o reviewing h h)
stays_looks_round modes.Acting o h = either (is_member o.node) Stays (looks_at_each (below o.node.me) o) o (stays_looks_at_each (below o.node.me) o h) h
stays_looks_round modes.Idle o h = h
stays_looks_round (modes.Asking p) o h = h

stays_forgets_refusal : (due : Option ℕ) (o : Plan) → Stays o → Stays (forgets_refusal due o)
stays_forgets_refusal None o h = h
stays_forgets_refusal (Some t) o h = h

stays_goes_on : (s : Option Search) (o : Plan) → Stays o → Stays (goes_on s o)
stays_goes_on (Some (searches.Descend p)) o h = h
stays_goes_on (Some searches.Review) o h = stays_round o None h
stays_goes_on None o h = stays_round o None h

stays_tick_checks_as : (m : Mode) (o : Plan) → Stays o → Stays (tick_checks_as m o)
stays_tick_checks_as modes.Idle o h = stays_goes_on o.node.soft.search o h
stays_tick_checks_as (modes.Joined p) o h = stays_checks_as (modes.Joined p) o h
stays_tick_checks_as (modes.Asking p) o h = h
stays_tick_checks_as modes.Acting o h = stays_checks_as modes.Acting o h

stays_tick_checks : (o : Plan) → Stays o → Stays (tick_checks o)
stays_tick_checks o h = stays_tick_checks_as o.node.kept.mode (sets_due o) h

stays_checks_in_time : (o : Plan) → Stays o → Stays (checks_in_time o)
stays_checks_in_time o h =
    let begins : Plan = forgets_refusal o.node.soft.due o in
    stays_looks_round o.node.kept.mode (tick_checks begins) (stays_tick_checks begins (stays_forgets_refusal o.node.soft.due o h))

stays_reports_news : (m : Mode) (o : Plan) → Stays o → Stays (reports_news_as m o)
stays_reports_news (modes.Joined p) o h = either (has_news o.node) Stays (reports o p) o (stays_reports o p h) h
stays_reports_news modes.Idle o h = h
stays_reports_news (modes.Asking p) o h = h
stays_reports_news modes.Acting o h = h

stays_checks_if_due : (o : Plan) → Stays o → Stays (checks_if_due o)
stays_checks_if_due o h = either (is_due o.node.soft.due o.node.soft.clock) Stays (checks_in_time o) (reports_news o) (stays_checks_in_time o h) (stays_reports_news o.node.kept.mode o h)

stays_fetches : (m : Mode) (o : Plan) (shelf : List Shelf) → Stays o → Stays (fetches_as m o shelf)
stays_fetches (modes.Joined p) o shelf h = h
stays_fetches modes.Idle o shelf h = h
stays_fetches (modes.Asking p) o shelf h = h
stays_fetches modes.Acting o shelf h = h

pub stays_tick : (o : Plan) (shelf : List Shelf) (t : ℕ) → Stays o → Stays (tick o shelf t)
stays_tick o shelf t h =
    let started : Plan = starts_leases (at_time o t) in
    let checked : Plan = checks_if_due (ends_leases started) in
    stays_fetches checked.node.kept.mode checked shelf
    (stays_checks_if_due (ends_leases started) (stays_ends_each (ended started.node.kept.table started.node.me started.node.leases started.node.soft.clock) started h))

stays_checked_in : (o : Plan) (x seq upto rate number clients : ℕ) (certs : List Cert) → Stays o → Stays (checked_in o x seq upto rate number clients certs)
stays_checked_in o x seq upto rate number clients certs h =
    let merged : Plan = merges_all (life x seq o.node.me number clients ∷ certs) o in
    either (has_lease o.node x seq) Stays (acknowledges merged x seq upto rate) (sends_rejoin o x seq) (stays_merges_all (life x seq o.node.me number clients ∷ certs) o h) h

stays_took_ack : (o : Plan) (p seq upto : ℕ) (told : Rank) (xs : List ℕ) → Stays o → Stays (took_ack o p seq upto told xs)
stays_took_ack o p seq upto told xs h =
    let placed : Plan = takes_place o upto in
    let ranked : Plan = takes_rank_unless o.node.soft.wish placed told in
    let above : List ℕ = ancestors_by p xs in
    either (is_joined_to o.node.kept.mode p && seq == o.node.kept.seq) Stays (takes_ancestors ranked above) (ignored o)
    (either (same_ids above ranked.node.kept.ancestors) Stays ranked (write ranked (records.Ancestors above)) (ranked_stays o.node.soft.wish) (ranked_stays o.node.soft.wish)) tt where
      placed_stays : Stays (takes_place o upto)
      placed_stays = either (is_ahead o.node.kept.log upto) Stays (write o (records.Acked upto)) o h h

      ranked_stays : (wish : Option ℕ) → Stays (takes_rank_unless wish (takes_place o upto) told)
      ranked_stays (Some g) = placed_stays
      ranked_stays None =
          either (is_better (takes_place o upto).node.kept.rank told) Stays (write (takes_place o upto) (records.Ranked (beneath_of told))) (takes_place o upto) placed_stays placed_stays

stays_took_rejoin : (o : Plan) (p seq : ℕ) → Stays o → Stays (took_rejoin o p seq)
stays_took_rejoin o p seq h = either (is_peer o.node.kept.mode p && seq == o.node.kept.seq) Stays (ask_before o p) (ignored o) (stays_ask_before o p h) tt

-- Looks

stays_goes_down : (c : Option ℕ) (o : Plan) (p : ℕ) → Stays o → Stays (goes_down c o p)
stays_goes_down None o p h = stays_ask o p h
stays_goes_down (Some q) o p h = h

stays_descends : (o : Plan) (p : ℕ) (s : Stand) → Stays o → Stays (descends o p s)
stays_descends o p s h =
    let way : Option ℕ = chosen (rate_to o.node p) (candidates o.node s.children) in
    either s.in_tree Stays (goes_down way o p) (next_try (searching o None)) (stays_goes_down way o p h) (stays_next_try (searching o None) h)

stays_leaves_for : (o : Plan) (p g : ℕ) → Stays o → Stays (leaves_for o p g)
stays_leaves_for o p g h = stays_ask_before (with_soft o (record o.node.soft { left = Some p; moves = o.node.soft.moves + 1 })) g h

stays_goes_where : (place : Option ℕ) (o : Plan) (p : ℕ) → Stays o → Stays (goes_where place o p)
stays_goes_where None o p h = h
stays_goes_where (Some g) o p h =
    either (nat_lt o.node.soft.waits (o.node.soft.patience + 2)) Stays (wishes o (Some g) (o.node.soft.waits + 1)) (leaves_for o p g) h (stays_leaves_for o p g h)

stays_weighs : (o : Plan) (p : ℕ) (place : Option ℕ) → Stays o → Stays (weighs o p place)
stays_weighs o p place h =
    let soft : Soft = o.node.soft in
    let doubts : Bool = not (is_place place soft.wish) && nat_lt 0 soft.waits in
    let doubted : Plan = wishes o soft.wish (soft.waits - 1) in
    let wished : Plan = wishes o place soft.waits in
    either (nat_le MAX_MOVES soft.moves) Stays (wishes o None 0) (if doubts then doubted else goes_where place wished p) h
    (either doubts Stays doubted (goes_where place wished p) h (stays_goes_where place wished p h))

stays_keeps_line : (o : Plan) (p : ℕ) (s : Stand) → Stays o → Stays (keeps_line o p s)
stays_keeps_line o p s h =
    either (is_member o.node && prefers o.node.kept.mode p && nat_lt p o.node.me && s.in_tree) Stays (ask_before o p) (ignored o) (stays_ask_before o p h) tt

stays_sees_as : (m : Mode) (search : Option Search) (o : Plan) (p : ℕ) (s : Stand) → Stays o → Stays (sees_as m search o p s)
stays_sees_as modes.Idle (Some (searches.Descend q)) o p s h = either (q == p) Stays (descends o p s) (keeps_line o p s) (stays_descends o p s h) (stays_keeps_line o p s h)
stays_sees_as modes.Idle (Some searches.Review) o p s h = stays_keeps_line o p s h
stays_sees_as modes.Idle None o p s h = stays_keeps_line o p s h
stays_sees_as (modes.Joined q) (Some searches.Review) o p s h =
    either (q == p) Stays (reviews_place o p s) (keeps_line o p s) (stays_weighs (searching o None) p (place_in (reviewed (view o.node p s))) h) (stays_keeps_line o p s h)
stays_sees_as (modes.Joined q) (Some (searches.Descend y)) o p s h = stays_keeps_line o p s h
stays_sees_as (modes.Joined q) None o p s h = stays_keeps_line o p s h
stays_sees_as (modes.Asking q) search o p s h = stays_keeps_line o p s h
stays_sees_as modes.Acting search o p s h = stays_keeps_line o p s h

stays_sees : (o : Plan) (p : ℕ) (s : Stand) → Stays o → Stays (sees o p s)
stays_sees o p s h = stays_sees_as o.node.kept.mode o.node.soft.search o p s h

-- Measures and content

pub stays_measured : (o : Plan) (p rate hops : ℕ) → Stays o → Stays (measured o p rate hops)
stays_measured o p rate hops h =
    let same : Bool = same_reading (reading_of o.node.kept.measures p) (record { rate = rate; hops = hops }) in
    let wrote : Plan = write o (records.Rate p rate hops) in
    either (p == o.node.me) Stays (answers o words.Own) (if same then o else may_move wrote) tt (either same Stays o (may_move wrote) h h)

pub stays_pulled : (o : Plan) (shelf : List Shelf) (p : ℕ) → Stays o → Stays (pulled o shelf p)
stays_pulled o shelf p h = either (p == o.node.me) Stays (answers o words.Own) (send o p (bodies.Fetch shelf)) tt h

-- neither limit on groups sends a client on
stays_limited : (shelf : List Shelf) (g : List ℕ) (end : ℕ) (o q : Plan) → Stays q → Stays (unless (limit shelf g end) o q)
stays_limited shelf g end o q h = by_tests (not (is_some (line_of g shelf)) && nat_le MAX_GROUPS (length shelf)) (nat_lt MAX_GROUP_BYTES end) where
  by_tests : (a b : Bool) → Stays (unless (if a then Some words.Groups else if b then Some words.TooLong else None) o q)
  by_tests true b = tt
  by_tests false true = tt
  by_tests false false = h

pub stays_published : (o : Plan) (shelf : List Shelf) (g bytes : List ℕ) → Stays o → Stays (published o shelf g bytes)
stays_published o shelf g bytes h =
    let l : Shelf = line_at g shelf in
    let kept : Plan = if grows shelf l.group (length bytes) then keeps o l.held false else o in
    either (o.node.me == 1) Stays (publish_to o shelf l (length bytes)) (answers o words.NotSource)
    (either l.sealed Stays (answers o words.Sealed) (unless (limit shelf l.group (l.held + length bytes)) o kept) tt
    (stays_limited shelf l.group (l.held + length bytes) o kept (either (grows shelf l.group (length bytes)) Stays (keeps o l.held false) o h h)))
    tt

stays_seal_line : (l : Option Shelf) (o : Plan) → Stays o → Stays (seal_line o l)
stays_seal_line None o h = tt
stays_seal_line (Some l) o h = either l.sealed Stays (ignored o) (keeps o l.held true) tt h

pub stays_sealed_at : (o : Plan) (shelf : List Shelf) (g : List ℕ) → Stays o → Stays (sealed_at o shelf g)
stays_sealed_at o shelf g h = either (o.node.me == 1) Stays (seal_line o (line_of g shelf)) (answers o words.NotSource) (stays_seal_line (line_of g shelf) o h) tt

stays_answers_fetch : (l : Option Shelf) (o : Plan) (p : ℕ) (have : List Shelf) → Stays o → Stays (answers_fetch o p have l)
stays_answers_fetch None o p have h = h
stays_answers_fetch (Some l) o p have h = h

stays_asks_on : (m : Mode) (p : ℕ) (shelf : List Shelf) (o : Plan) → Stays o → Stays (asks_on m p shelf o)
stays_asks_on (modes.Joined q) p shelf o h = either (q == p) Stays (send o p (bodies.Fetch shelf)) o h h
stays_asks_on modes.Idle p shelf o h = h
stays_asks_on (modes.Asking q) p shelf o h = h
stays_asks_on modes.Acting p shelf o h = h

stays_chunk_to : (o : Plan) (shelf : List Shelf) (p : ℕ) (l : Shelf) (start end : ℕ) (last : Bool) → Stays o → Stays (chunk_to o shelf p l start end last)
stays_chunk_to o shelf p l start end last h =
    let room : Plan = unless (limit shelf l.group end) o (keeps_chunk o shelf p l start end last) in
    let more : List Shelf = with_line (grown_line l end last) shelf in
    let kept : Plan = keeps o start (adds_seal l end last) in
    either (nat_lt l.held start) Stays (answers o words.Gap) (if l.sealed && nat_lt l.held end then answers o words.Sealed else room) tt
    (either (l.sealed && nat_lt l.held end) Stays (answers o words.Sealed) room tt
    (stays_limited shelf l.group end o (keeps_chunk o shelf p l start end last)
    (either (adds shelf l end last) Stays (asks_on o.node.kept.mode p more kept) (ignored o) (stays_asks_on o.node.kept.mode p more kept h) tt)))

stays_took_chunk : (o : Plan) (shelf : List Shelf) (p : ℕ) (g : List ℕ) (start : ℕ) (bytes : List ℕ) (last : Bool) → Stays o → Stays (took_chunk o shelf p g start bytes last)
stays_took_chunk o shelf p g start bytes last h =
    let end : ℕ = start + length bytes in
    either (o.node.me == 1) Stays (ignored o) (chunk_to o shelf p (line_at g shelf) start end last) tt (stays_chunk_to o shelf p (line_at g shelf) start end last h)

-- A message

pub stays_received : (o : Plan) (shelf : List Shelf) (p : ℕ) (b : Body) → Stays o → Stays (received o shelf p b)
stays_received o shelf p bodies.Look h = h
stays_received o shelf p (bodies.LookIs is_in parent rate children) h = stays_sees o p (record { in_tree = is_in; parent = parent; rate = rate; children = children }) h
stays_received o shelf p (bodies.Ask seq rank) h = stays_asked o p seq rank h
stays_received o shelf p (bodies.Yes seq rank ancestors) h = stays_took_yes o p seq rank ancestors h
stays_received o shelf p (bodies.No seq why) h = stays_took_no o p seq why h
stays_received o shelf p (bodies.CheckIn seq upto rate number clients certs) h = stays_checked_in o p seq upto rate number clients certs h
stays_received o shelf p (bodies.CheckAck seq upto rank ancestors) h = stays_took_ack o p seq upto rank ancestors h
stays_received o shelf p (bodies.Rejoin seq) h = stays_took_rejoin o p seq h
stays_received o shelf p (bodies.Fetch have) h = stays_answers_fetch (next_behind o.node.chunk have shelf) o p have h
stays_received o shelf p (bodies.Chunk g start bytes last) h = stays_took_chunk o shelf p g start bytes last h
