-- A step that takes no look, no ask and no check-in sends no answer to one.
use Rattle.std.proofs.Common.{ℕ, ◌+◌, ◌-◌, Bool, true, false, not, ◌&&◌, ◌||◌, ◌==◌, nat_lt, nat_le, if◌then◌else◌, Option, Some, None, is_some, List, [], ◌∷◌, length, filter}
use Rattle.std.specs.List.{AllByRecursion}
use Rattle.oc_base.specs.declared.cert.Cert.{Cert}
use Rattle.oc_base.specs.declared.group.Group.{Group}
use Rattle.oc_base.specs.declared.rank.Rank.{Rank}
use Rattle.oc_base.specs.declared.refusal.Refusal.{Refusal}
use Rattle.oc_base.specs.declared.refusal.Refusal.TheVariants as refusals
use Rattle.oc_base.specs.declared.shelf.Shelf.{Shelf}
use Rattle.oc_base.specs.declared.limits.TheConstants.{MAX_DEPTH, MAX_GROUPS, MAX_GROUP_BYTES}
use Rattle.oc_base.specs.Groups.{shelf}
use Rattle.oc_base.specs.Rank.{beneath_of}
use Rattle.oc_base.specs.Shelves.{line_of}
use Rattle.oc_model.specs.declared.answer.Answer.TheVariants as words
use Rattle.oc_model.specs.declared.input.Input.TheVariants.{Tick, Unreachable, Delivered}
use Rattle.oc_model.specs.declared.message.Body.{Body}
use Rattle.oc_model.specs.declared.message.Body.TheVariants as bodies
use Rattle.oc_model.specs.declared.message.Message.{Message}
use Rattle.oc_model.specs.declared.mode.Mode.{Mode}
use Rattle.oc_model.specs.declared.mode.Mode.TheVariants as modes
use Rattle.oc_model.specs.declared.record.Record.TheVariants as records
use Rattle.oc_model.specs.declared.soft.Search.{Search}
use Rattle.oc_model.specs.declared.soft.Search.TheVariants as searches
use Rattle.oc_model.specs.declared.soft.Soft.{Soft}
use Rattle.oc_model.specs.declared.soft.TheConstants.{MAX_MOVES}
use Rattle.oc_model.specs.declared.want.Want.{Want}
use Rattle.oc_model.specs.Adopting.{raises}
use Rattle.oc_model.specs.Adoption.{precedes_any, rank_or_last, is_better}
use Rattle.oc_model.specs.Asking.{lost_from, lost, send_ask, ask, act, descend, try_at, waits_awhile, try_first, next_try, set_tries, round, ask_before, is_asking, ancestors_by, joins, took_yes, refused, took_no, not_seen, not_reached, unreachable}
use Rattle.oc_model.specs.ChangeLog.{is_ahead}
use Rattle.oc_model.specs.Checking.{checks_in, notes_time, reports, sets_due, at_time, starts_leases, dies, ends_each, ends_leases, looks_at_each, looks_round, is_due, forgets_refusal, goes_on, tick_checks_as, tick_checks, checks_in_time, has_news, reports_news_as, reports_news, checks_if_due, fetches_as, tick, is_joined_to, takes_place, takes_rank_unless, same_ids, takes_ancestors, took_ack, is_peer, took_rejoin}
use Rattle.oc_model.specs.Choice.{below, chosen, reviewed}
use Rattle.oc_model.specs.Content.{unless, keeps, answers_fetch, adds_seal, adds, grown_line, asks_on, keeps_chunk, chunk_to, took_chunk}
use Rattle.oc_model.specs.Leases.{ended}
use Rattle.oc_model.specs.Looking.{Stand, goes_down, candidates, descends, place_in, is_place, wishes, leaves_for, goes_where, weighs, view, reviews_place, prefers, keeps_line, sees_as}
use Rattle.oc_model.specs.Node.{Node}
use Rattle.oc_model.specs.Numbers.{number_end, raise, capped, is_empty}
use Rattle.oc_model.specs.Plan.{Plan, begun, write, send, answers, with_soft, searching, ignored, is_member, rate_to}
use Rattle.oc_model.specs.Shelves.{line_at, with_line, limit, next_behind}
use Rattle.oc_model.specs.Step.{received, fill_body, filled, bytes_wanted, step}
use Rattle.oc_model.specs.Table.{newest, is_news}
use Rattle.oc_model.proofs.Rules.{either}
use Rattle.oc_model.proofs.Lists.{all_append}

-- a message that is no answer to a look, an ask or a check-in
abbrev pub IsStart : Body → Type 0
IsStart (bodies.LookIs is_in parent rate children) = ⊥
IsStart (bodies.Yes seq rank ancestors) = ⊥
IsStart (bodies.No seq why) = ⊥
IsStart (bodies.CheckAck seq upto rank ancestors) = ⊥
IsStart (bodies.Rejoin seq) = ⊥
IsStart b = Unit {0}

abbrev pub AreStarts : List Message → Type 0
AreStarts ms = AllByRecursion (λ m. IsStart m.body) ms

abbrev Starts : Plan → Type 0
Starts o = AllByRecursion (λ m. IsStart m.body) o.sends

starts_send : (o : Plan) (p : ℕ) (b : Body) → IsStart b → Starts o → Starts (send o p b)
starts_send o p b is h = all_append (λ (m : Message). IsStart m.body) o.sends (record { from = o.node.me; to = p; body = b } ∷ []) h (is, tt)

-- Asks

starts_lost_from : (m : Mode) (o : Plan) → Starts o → Starts (lost_from m o)
starts_lost_from modes.Idle o h = h
starts_lost_from (modes.Asking p) o h = h
starts_lost_from (modes.Joined p) o h = h
starts_lost_from modes.Acting o h = h

starts_lost : (o : Plan) → Starts o → Starts (lost o)
starts_lost o h = starts_lost_from o.node.kept.mode o h

starts_ask : (o : Plan) (p : ℕ) → Starts o → Starts (ask o p)
starts_ask o p h =
    let asking : Plan = searching (write o (records.Ask (o.node.kept.seq + 1) p)) None in
    either (o.node.kept.seq == number_end) Starts (answers (lost o) words.Spent) (send_ask asking p) (starts_lost o h) (starts_send asking p (bodies.Ask asking.node.kept.seq asking.node.kept.rank) tt h)

starts_descend : (o : Plan) (p : ℕ) → Starts o → Starts (descend o p)
starts_descend o p h = starts_send (searching o (Some (searches.Descend p))) p bodies.Look tt h

starts_try_at : (o : Plan) (p : ℕ) → Starts o → Starts (try_at o p)
starts_try_at o p h = either (not (is_member o.node) && is_empty o.node.kept.ancestors) Starts (descend o p) (ask o p) (starts_descend o p h) (starts_ask o p h)

starts_try_first : (ps : List ℕ) (o : Plan) → Starts o → Starts (try_first ps o)
starts_try_first [] o h = either (is_member o.node && o.node.soft.silent) Starts (act o) (waits_awhile o) h h
starts_try_first (p ∷ ps) o h = starts_try_at (with_soft o (record o.node.soft { tries = ps })) p h

starts_next_try : (o : Plan) → Starts o → Starts (next_try o)
starts_next_try o h = either (o.node.me == 1) Starts (act o) (try_first o.node.soft.tries o) h (starts_try_first o.node.soft.tries o h)

starts_round : (o : Plan) (without : Option ℕ) → Starts o → Starts (round o without)
starts_round o without h = starts_next_try (set_tries o without) h

starts_ask_before : (o : Plan) (p : ℕ) → Starts o → Starts (ask_before o p)
starts_ask_before o p h = starts_ask (set_tries o (Some p)) p h

starts_took_yes : (o : Plan) (p seq : ℕ) (r : Rank) (xs : List ℕ) → Starts o → Starts (took_yes o p seq r xs)
starts_took_yes o p seq r xs h = either (is_asking o.node.kept.mode p && seq == o.node.kept.seq && nat_lt r.depth MAX_DEPTH && precedes_any r o.node.kept.rank) Starts (joins o p r xs) (ignored o) h h

starts_refused : (o : Plan) (why : Refusal) → Starts o → Starts (refused o why)
starts_refused o (refusals.Chain q) h = either (is_member o.node || q == o.node.me) Starts (next_try o) (descend o q) (starts_next_try o h) (starts_descend o q h)
starts_refused o refusals.Own h = starts_next_try o h
starts_refused o refusals.NotJoined h = starts_next_try o h
starts_refused o refusals.Ancestor h = starts_next_try o h
starts_refused o refusals.Depth h = starts_next_try o h
starts_refused o refusals.Rank h = starts_next_try o h

starts_took_no : (o : Plan) (p seq : ℕ) (why : Refusal) → Starts o → Starts (took_no o p seq why)
starts_took_no o p seq why h =
    let heard : Plan = with_soft (lost o) (record o.node.soft { silent = false; refused = true }) in
    either (is_asking o.node.kept.mode p && seq == o.node.kept.seq) Starts (refused heard why) (ignored o) (starts_refused heard why (starts_lost o h)) h

starts_not_seen : (s : Option Search) (o : Plan) (p : ℕ) → Starts o → Starts (not_seen s o p)
starts_not_seen None o p h = h
starts_not_seen (Some searches.Review) o p h = h
starts_not_seen (Some (searches.Descend q)) o p h = either (q == p) Starts (next_try (searching o None)) (ignored o) (starts_next_try (searching o None) h) h

starts_not_reached : (m : Mode) (o : Plan) (p : ℕ) → Starts o → Starts (not_reached m o p)
starts_not_reached modes.Idle o p h = starts_not_seen o.node.soft.search o p h
starts_not_reached modes.Acting o p h = starts_not_seen o.node.soft.search o p h
starts_not_reached (modes.Joined q) o p h =
    either (q == p) Starts (round (lost o) (Some p)) (not_seen o.node.soft.search o p) (starts_round (lost o) (Some p) (starts_lost o h)) (starts_not_seen o.node.soft.search o p h)
starts_not_reached (modes.Asking q) o p h =
    either (q == p) Starts (next_try (lost o)) (not_seen o.node.soft.search o p) (starts_next_try (lost o) (starts_lost o h)) (starts_not_seen o.node.soft.search o p h)

-- Check-ins

starts_took_ack : (o : Plan) (p seq upto : ℕ) (told : Rank) (xs : List ℕ) → Starts o → Starts (took_ack o p seq upto told xs)
starts_took_ack o p seq upto told xs h =
    let placed : Plan = takes_place o upto in
    let ranked : Plan = takes_rank_unless o.node.soft.wish placed told in
    let above : List ℕ = ancestors_by p xs in
    either (is_joined_to o.node.kept.mode p && seq == o.node.kept.seq) Starts (takes_ancestors ranked above) (ignored o)
    (either (same_ids above ranked.node.kept.ancestors) Starts ranked (write ranked (records.Ancestors above)) (starts_ranked o.node.soft.wish) (starts_ranked o.node.soft.wish)) h where
      starts_placed : Starts (takes_place o upto)
      starts_placed = either (is_ahead o.node.kept.log upto) Starts (write o (records.Acked upto)) o h h

      starts_ranked : (wish : Option ℕ) → Starts (takes_rank_unless wish (takes_place o upto) told)
      starts_ranked (Some g) = starts_placed
      starts_ranked None =
          either (is_better (takes_place o upto).node.kept.rank told) Starts (write (takes_place o upto) (records.Ranked (beneath_of told))) (takes_place o upto) starts_placed starts_placed

starts_took_rejoin : (o : Plan) (p seq : ℕ) → Starts o → Starts (took_rejoin o p seq)
starts_took_rejoin o p seq h = either (is_peer o.node.kept.mode p && seq == o.node.kept.seq) Starts (ask_before o p) (ignored o) (starts_ask_before o p h) h

-- Looks

starts_goes_down : (c : Option ℕ) (o : Plan) (p : ℕ) → Starts o → Starts (goes_down c o p)
starts_goes_down None o p h = starts_ask o p h
starts_goes_down (Some q) o p h = starts_descend o q h

starts_descends : (o : Plan) (p : ℕ) (s : Stand) → Starts o → Starts (descends o p s)
starts_descends o p s h =
    let way : Option ℕ = chosen (rate_to o.node p) (candidates o.node s.children) in
    either s.in_tree Starts (goes_down way o p) (next_try (searching o None)) (starts_goes_down way o p h) (starts_next_try (searching o None) h)

starts_goes_where : (place : Option ℕ) (o : Plan) (p : ℕ) → Starts o → Starts (goes_where place o p)
starts_goes_where None o p h = h
starts_goes_where (Some g) o p h =
    either (nat_lt o.node.soft.waits (o.node.soft.patience + 2)) Starts (wishes o (Some g) (o.node.soft.waits + 1)) (leaves_for o p g) h
    (starts_ask_before (with_soft o (record o.node.soft { left = Some p; moves = o.node.soft.moves + 1 })) g h)

starts_weighs : (o : Plan) (p : ℕ) (place : Option ℕ) → Starts o → Starts (weighs o p place)
starts_weighs o p place h =
    let soft : Soft = o.node.soft in
    let doubts : Bool = not (is_place place soft.wish) && nat_lt 0 soft.waits in
    let doubted : Plan = wishes o soft.wish (soft.waits - 1) in
    let wished : Plan = wishes o place soft.waits in
    either (nat_le MAX_MOVES soft.moves) Starts (wishes o None 0) (if doubts then doubted else goes_where place wished p) h
    (either doubts Starts doubted (goes_where place wished p) h (starts_goes_where place wished p h))

starts_keeps_line : (o : Plan) (p : ℕ) (s : Stand) → Starts o → Starts (keeps_line o p s)
starts_keeps_line o p s h = either (is_member o.node && prefers o.node.kept.mode p && nat_lt p o.node.me && s.in_tree) Starts (ask_before o p) (ignored o) (starts_ask_before o p h) h

starts_sees_as : (m : Mode) (search : Option Search) (o : Plan) (p : ℕ) (s : Stand) → Starts o → Starts (sees_as m search o p s)
starts_sees_as modes.Idle (Some (searches.Descend q)) o p s h = either (q == p) Starts (descends o p s) (keeps_line o p s) (starts_descends o p s h) (starts_keeps_line o p s h)
starts_sees_as modes.Idle (Some searches.Review) o p s h = starts_keeps_line o p s h
starts_sees_as modes.Idle None o p s h = starts_keeps_line o p s h
starts_sees_as (modes.Joined q) (Some searches.Review) o p s h =
    either (q == p) Starts (reviews_place o p s) (keeps_line o p s) (starts_weighs (searching o None) p (place_in (reviewed (view o.node p s))) h) (starts_keeps_line o p s h)
starts_sees_as (modes.Joined q) (Some (searches.Descend y)) o p s h = starts_keeps_line o p s h
starts_sees_as (modes.Joined q) None o p s h = starts_keeps_line o p s h
starts_sees_as (modes.Asking q) search o p s h = starts_keeps_line o p s h
starts_sees_as modes.Acting search o p s h = starts_keeps_line o p s h

-- Content

starts_answers_fetch : (l : Option Shelf) (o : Plan) (p : ℕ) (have : List Shelf) → Starts o → Starts (answers_fetch o p have l)
starts_answers_fetch None o p have h = h
starts_answers_fetch (Some l) o p have h = all_append (λ (m : Message). IsStart m.body) o.sends _ h (tt, tt)

starts_asks_on : (m : Mode) (p : ℕ) (ls : List Shelf) (o : Plan) → Starts o → Starts (asks_on m p ls o)
starts_asks_on (modes.Joined q) p ls o h = either (q == p) Starts (send o p (bodies.Fetch ls)) o (starts_send o p (bodies.Fetch ls) tt h) h
starts_asks_on modes.Idle p ls o h = h
starts_asks_on (modes.Asking q) p ls o h = h
starts_asks_on modes.Acting p ls o h = h

starts_limited : (ls : List Shelf) (g : List ℕ) (end : ℕ) (o q : Plan) → Starts o → Starts q → Starts (unless (limit ls g end) o q)
starts_limited ls g end o q h i = by_tests (not (is_some (line_of g ls)) && nat_le MAX_GROUPS (length ls)) (nat_lt MAX_GROUP_BYTES end) where
  by_tests : (a b : Bool) → Starts (unless (if a then Some words.Groups else if b then Some words.TooLong else None) o q)
  by_tests true b = h
  by_tests false true = h
  by_tests false false = i

starts_chunk_to : (o : Plan) (ls : List Shelf) (p : ℕ) (l : Shelf) (start end : ℕ) (last : Bool) → Starts o → Starts (chunk_to o ls p l start end last)
starts_chunk_to o ls p l start end last h =
    let room : Plan = unless (limit ls l.group end) o (keeps_chunk o ls p l start end last) in
    let more : List Shelf = with_line (grown_line l end last) ls in
    let kept : Plan = keeps o start (adds_seal l end last) in
    either (nat_lt l.held start) Starts (answers o words.Gap) (if l.sealed && nat_lt l.held end then answers o words.Sealed else room) h
    (either (l.sealed && nat_lt l.held end) Starts (answers o words.Sealed) room h
    (starts_limited ls l.group end o (keeps_chunk o ls p l start end last) h
    (either (adds ls l end last) Starts (asks_on o.node.kept.mode p more kept) (ignored o) (starts_asks_on o.node.kept.mode p more kept h) h)))

starts_took_chunk : (o : Plan) (ls : List Shelf) (p : ℕ) (g : List ℕ) (start : ℕ) (bytes : List ℕ) (last : Bool) → Starts o → Starts (took_chunk o ls p g start bytes last)
starts_took_chunk o ls p g start bytes last h =
    either (o.node.me == 1) Starts (ignored o) (chunk_to o ls p (line_at g ls) start (start + length bytes) last) h (starts_chunk_to o ls p (line_at g ls) start (start + length bytes) last h)

-- A message

-- it is no look, no ask and no check-in
abbrev pub IsUnasked : Body → Type 0
IsUnasked bodies.Look = ⊥
IsUnasked (bodies.Ask seq rank) = ⊥
IsUnasked (bodies.CheckIn seq upto rate number clients certs) = ⊥
IsUnasked b = Unit {0}

starts_received : (o : Plan) (ls : List Shelf) (p : ℕ) (b : Body) → IsUnasked b → Starts o → Starts (received o ls p b)
starts_received o ls p bodies.Look other h = absurd other
starts_received o ls p (bodies.LookIs is_in parent rate children) other h = starts_sees_as o.node.kept.mode o.node.soft.search o p (record { in_tree = is_in; parent = parent; rate = rate; children = children }) h
starts_received o ls p (bodies.Ask seq rank) other h = absurd other
starts_received o ls p (bodies.Yes seq rank ancestors) other h = starts_took_yes o p seq rank ancestors h
starts_received o ls p (bodies.No seq why) other h = starts_took_no o p seq why h
starts_received o ls p (bodies.CheckIn seq upto rate number clients certs) other h = absurd other
starts_received o ls p (bodies.CheckAck seq upto rank ancestors) other h = starts_took_ack o p seq upto rank ancestors h
starts_received o ls p (bodies.Rejoin seq) other h = starts_took_rejoin o p seq h
starts_received o ls p (bodies.Fetch have) other h = starts_answers_fetch (next_behind o.node.chunk have ls) o p have h
starts_received o ls p (bodies.Chunk g start bytes last) other h = starts_took_chunk o ls p g start bytes last h

-- A tick

starts_looks_at_each : (ys : List ℕ) (o : Plan) → Starts o → Starts (looks_at_each ys o)
starts_looks_at_each [] o h = h
starts_looks_at_each (y ∷ ys) o h = starts_looks_at_each ys (send o y bodies.Look) (starts_send o y bodies.Look tt h)

starts_looks_round : (m : Mode) (o : Plan) → Starts o → Starts (looks_round m o)
starts_looks_round (modes.Joined p) o h =
    let nearer : List ℕ = filter (λ z. nat_lt p z) (below o.node.me) in
    let reviewing : Plan = send (searching o (Some searches.Review)) p bodies.Look in
    either (is_member o.node) Starts (looks_at_each nearer o) (if o.node.soft.refused then o else reviewing) (starts_looks_at_each nearer o h)
    (either o.node.soft.refused Starts o reviewing h (starts_send (searching o (Some searches.Review)) p bodies.Look tt h))
starts_looks_round modes.Acting o h = either (is_member o.node) Starts (looks_at_each (below o.node.me) o) o (starts_looks_at_each (below o.node.me) o h) h
starts_looks_round modes.Idle o h = h
starts_looks_round (modes.Asking p) o h = h

starts_goes_on : (s : Option Search) (o : Plan) → Starts o → Starts (goes_on s o)
starts_goes_on (Some (searches.Descend p)) o h = starts_send o p bodies.Look tt h
starts_goes_on (Some searches.Review) o h = starts_round o None h
starts_goes_on None o h = starts_round o None h

starts_reports : (o : Plan) (p : ℕ) → Starts o → Starts (reports o p)
starts_reports o p h =
    let noted : Plan = notes_time o in
    let counted : Plan = with_soft (write noted (records.Info (noted.node.kept.number + 1) (capped (noted.node.kept.clients + noted.node.soft.served)))) (record noted.node.soft { served = 0 }) in
    either (not (noted.node.soft.served == 0) && nat_lt noted.node.kept.number number_end) (λ (q : Plan). Starts (checks_in q p)) counted noted (starts_send counted p _ tt h) (starts_send noted p _ tt h)

starts_raises : (o : Plan) (e : Option ℕ) → Starts o → Starts (raises o e)
starts_raises o None h = h
starts_raises o (Some e) h = h

starts_tick_checks_as : (m : Mode) (o : Plan) → Starts o → Starts (tick_checks_as m o)
starts_tick_checks_as modes.Idle o h = starts_goes_on o.node.soft.search o h
starts_tick_checks_as (modes.Joined p) o h = starts_reports o p h
starts_tick_checks_as (modes.Asking p) o h = starts_send o p (bodies.Ask o.node.kept.seq o.node.kept.rank) tt h
starts_tick_checks_as modes.Acting o h = starts_raises o (raise (rank_or_last o.node.kept.rank).epoch) h

starts_forgets : (due : Option ℕ) (o : Plan) → Starts o → Starts (forgets_refusal due o)
starts_forgets None o h = h
starts_forgets (Some t) o h = h

starts_checks_in_time : (o : Plan) → Starts o → Starts (checks_in_time o)
starts_checks_in_time o h =
    let begins : Plan = forgets_refusal o.node.soft.due o in
    starts_looks_round o.node.kept.mode (tick_checks begins) (starts_tick_checks_as begins.node.kept.mode (sets_due begins) (starts_forgets o.node.soft.due o h))

starts_reports_news : (m : Mode) (o : Plan) → Starts o → Starts (reports_news_as m o)
starts_reports_news (modes.Joined p) o h = either (has_news o.node) Starts (reports o p) o (starts_reports o p h) h
starts_reports_news modes.Idle o h = h
starts_reports_news (modes.Asking p) o h = h
starts_reports_news modes.Acting o h = h

starts_fetches : (m : Mode) (o : Plan) (ls : List Shelf) → Starts o → Starts (fetches_as m o ls)
starts_fetches (modes.Joined p) o ls h = starts_send o p (bodies.Fetch ls) tt h
starts_fetches modes.Idle o ls h = h
starts_fetches (modes.Asking p) o ls h = h
starts_fetches modes.Acting o ls h = h

starts_dies : (e : Option Cert) (o : Plan) → Starts o → Starts (dies e o)
starts_dies None o h = h
starts_dies (Some c) o h = either (is_news o.node.kept.table (record c { dead = true })) Starts (write o (records.Entry (record c { dead = true }))) o h h

starts_ends_each : (ys : List ℕ) (o : Plan) → Starts o → Starts (ends_each ys o)
starts_ends_each [] o h = h
starts_ends_each (y ∷ ys) o h = starts_ends_each ys (dies (newest o.node.kept.table y) o) (starts_dies (newest o.node.kept.table y) o h)

starts_tick : (o : Plan) (ls : List Shelf) (t : ℕ) → Starts o → Starts (tick o ls t)
starts_tick o ls t h =
    let started : Plan = starts_leases (at_time o t) in
    let over : Plan = ends_leases started in
    let ended_all : Starts over = starts_ends_each (ended started.node.kept.table started.node.me started.node.leases started.node.soft.clock) started h in
    let checked : Plan = checks_if_due over in
    starts_fetches checked.node.kept.mode checked ls
    (either (is_due over.node.soft.due over.node.soft.clock) Starts (checks_in_time over) (reports_news over) (starts_checks_in_time over ended_all) (starts_reports_news over.node.kept.mode over ended_all))

-- The step

fill_start : (bytes : List ℕ) (b : Body) → IsStart b → IsStart (fill_body bytes b)
fill_start bytes bodies.Look is = tt
fill_start bytes (bodies.LookIs is_in parent rate children) is = absurd is
fill_start bytes (bodies.Ask seq rank) is = tt
fill_start bytes (bodies.Yes seq rank ancestors) is = absurd is
fill_start bytes (bodies.No seq why) is = absurd is
fill_start bytes (bodies.CheckIn seq upto rate number clients certs) is = tt
fill_start bytes (bodies.CheckAck seq upto rank ancestors) is = absurd is
fill_start bytes (bodies.Rejoin seq) is = absurd is
fill_start bytes (bodies.Fetch have) is = tt
fill_start bytes (bodies.Chunk g start none last) is = tt

starts_filled : (w : Option Want) (ks : List Group) (ms : List Message) → AreStarts ms → AreStarts (filled w ks ms)
starts_filled None ks ms h = h
starts_filled (Some w) ks [] h = tt
starts_filled (Some w) ks (m ∷ ms) h = (fill_start (bytes_wanted ks w) m.body h.0, starts_filled (Some w) ks ms h.1)

pub message_starts : (n : Node) (m : Message) → IsUnasked m.body → AreStarts (step n (Delivered m)).sends
message_starts n m other =
    let o : Plan = received (begun n.control) (shelf n.groups) m.from m.body in
    starts_filled o.wants n.groups o.sends (starts_received (begun n.control) (shelf n.groups) m.from m.body other tt)

pub failure_starts : (n : Node) (q : ℕ) → AreStarts (step n (Unreachable q)).sends
failure_starts n q =
    let o : Plan = unreachable (begun n.control) q in
    starts_filled o.wants n.groups o.sends (starts_not_reached n.control.kept.mode (begun n.control) q tt)

pub tick_starts : (n : Node) (t : ℕ) → AreStarts (step n (Tick t)).sends
tick_starts n t =
    let o : Plan = tick (begun n.control) (shelf n.groups) t in
    starts_filled o.wants n.groups o.sends (starts_tick (begun n.control) (shelf n.groups) t tt)
