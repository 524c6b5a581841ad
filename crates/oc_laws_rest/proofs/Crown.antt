-- Only chain members act as root, in each world that is reached, and a round leaves the readings: the effect of each input on that.
use Rattle.std.proofs.Common.{◌≡◌, ℕ, ◌+◌, ◌-◌, Bool, true, false, not, ◌&&◌, ◌||◌, ◌==◌, nat_lt, nat_le, if◌then◌else◌, Option, Some, None, List, [], ◌∷◌, ◌⊎◌, inl, inr, filter, refl, sym, subst, eqb-true}
use Rattle.std.specs.List.{range_with_len}
use Rattle.std.proofs.lemmas.Bool.{cond_both, and_parts}
use Rattle.oc_base.specs.declared.cert.Cert.{Cert}
use Rattle.oc_base.specs.declared.rank.Rank.{Rank}
use Rattle.oc_base.specs.declared.refusal.Refusal.{Refusal}
use Rattle.oc_base.specs.declared.refusal.Refusal.TheVariants as refusals
use Rattle.oc_base.specs.declared.shelf.Shelf.{Shelf}
use Rattle.oc_base.specs.declared.limits.TheConstants.{MAX_DEPTH}
use Rattle.oc_base.specs.Groups.{shelf}
use Rattle.oc_base.specs.Rank.{beneath_of}
use Rattle.oc_base.specs.Shelves.{line_of}
use Rattle.oc_model.specs.declared.answer.Answer.TheVariants as words
use Rattle.oc_model.specs.declared.event.Act.{Act}
use Rattle.oc_model.specs.declared.event.Event.{Event}
use Rattle.oc_model.specs.declared.input.Input.{Input}
use Rattle.oc_model.specs.declared.input.Input.TheVariants.{Tick, CheckNow, Relocate, Unreachable, Pull, Measured, Publish, Seal, Client, Delivered}
use Rattle.oc_model.specs.declared.message.Body.{Body}
use Rattle.oc_model.specs.declared.message.Body.TheVariants as bodies
use Rattle.oc_model.specs.declared.mode.Mode.{Mode}
use Rattle.oc_model.specs.declared.mode.Mode.TheVariants as modes
use Rattle.oc_model.specs.declared.reading.Reading.{Reading}
use Rattle.oc_model.specs.declared.record.Record.TheVariants as records
use Rattle.oc_model.specs.declared.soft.Search.{Search}
use Rattle.oc_model.specs.declared.soft.Search.TheVariants as searches
use Rattle.oc_model.specs.declared.soft.Soft.{Soft}
use Rattle.oc_model.specs.declared.soft.TheConstants.{MAX_MOVES}
use Rattle.oc_model.specs.Adopting.{is_acting, raises, raises_over, host, birth, has_lease, grants, sends_rejoin, adopts, answers_ask, asked}
use Rattle.oc_model.specs.Adoption.{precedes, precedes_any, rank_or_last, is_better, adoption_refusal}
use Rattle.oc_model.specs.Asking.{lost_from, lost, send_ask, ask, act, descend, try_at, waits_awhile, try_first, next_try, set_tries, round, ask_before, is_asking, ancestors_by, joins, took_yes, refused, took_no, not_seen, not_reached, notes_parent, relocate}
use Rattle.oc_model.specs.ChangeLog.{begun_with, is_ahead}
use Rattle.oc_model.specs.Checking.{checks_as, notes_time, reports, sets_due, merges, merges_all, at_time, starts_leases, dies, ends_each, ends_leases, looks_at_each, looks_round, is_due, forgets_refusal, goes_on, tick_checks_as, tick_checks, checks_in_time, has_news, reports_news_as, reports_news, checks_if_due, fetches_as, tick, acknowledges, life, checked_in, is_joined_to, takes_place, takes_rank_unless, same_ids, takes_ancestors, took_ack, is_peer, took_rejoin}
use Rattle.oc_model.specs.Choice.{below, chosen, reviewed}
use Rattle.oc_model.specs.Leases.{ended}
use Rattle.oc_model.specs.Looking.{Stand, goes_down, candidates, descends, place_in, is_place, wishes, leaves_for, goes_where, weighs, view, reviews_place, prefers, keeps_line, sees_as}
use Rattle.oc_model.specs.Measures.{reading_of, same_reading}
use Rattle.oc_model.specs.NextWorld.{next_world, stopped}
use Rattle.oc_model.specs.Node.{Header, Control, Durable, Node}
use Rattle.oc_model.specs.Numbers.{number_end, raise, capped, is_empty}
use Rattle.oc_model.specs.Plan.{Plan, begun, write, send, answers, with_soft, searching, ignored, is_member, rate_to}
use Rattle.oc_model.specs.Serving.{redirects, server_for, client_of, client, may_move, measured}
use Rattle.oc_model.specs.Step.{received, step}
use Rattle.oc_model.specs.Table.{newest, is_news}
use Rattle.oc_model.specs.World.{World, Process, node, process, process_in, with_process, after_act, new_world}
use Rattle.oc_model.proofs.Processes.{IsNew, process_in-new, at_put, anew}
use Rattle.oc_model.proofs.Rules.{either}
use Rattle.oc_laws_world.proofs.Lifts.{control_of, IsActLaw, act_lift, act_event}
use Rattle.oc_laws_tree.proofs.ContentRules.{content_published, content_sealed_at, content_pulled, content_fetched, content_took_chunk}
use Rattle.oc_laws_tree.proofs.Points.{passing_after}
use Rattle.oc_laws_tree.proofs.Reached.{Reached}

-- an input that a round brings
abbrev pub IsOfRound : Input → Type 0
IsOfRound (Tick t) = Unit {0}
IsOfRound (Unreachable p) = Unit {0}
IsOfRound (Delivered m) = Unit {0}
IsOfRound i = ⊥

-- a node that acts is a chain member, or the first node
abbrev pub IsCrowned : Control → Type 0
IsCrowned n = n.kept.mode ≡ modes.Acting → (is_member n ≡ true) ⊎ (n.me ≡ 1)

module _ (ms : List Reading) where
  -- and it has these readings
  abbrev KeepsAll : Control → Type 0
  KeepsAll n = IsCrowned n × (n.kept.measures ≡ ms)

  abbrev Crowned : Plan → Type 0
  Crowned o = KeepsAll o.node

  -- Asks

  rules_lost_from : (m : Mode) (o : Plan) → Crowned o → Crowned (lost_from m o)
  rules_lost_from modes.Idle o h = h
  rules_lost_from (modes.Asking p) o h = (λ e. absurd cc, h.1)
  rules_lost_from (modes.Joined p) o h = (λ e. absurd cc, h.1)
  rules_lost_from modes.Acting o h = (λ e. absurd cc, h.1)

  rules_lost : (o : Plan) → Crowned o → Crowned (lost o)
  rules_lost o h = rules_lost_from o.node.kept.mode o h

  rules_ask : (o : Plan) (p : ℕ) → Crowned o → Crowned (ask o p)
  rules_ask o p h =
      either (o.node.kept.seq == number_end) Crowned (answers (lost o) words.Spent) (send_ask (searching (write o (records.Ask (o.node.kept.seq + 1) p)) None) p) (rules_lost o h) (λ e. absurd cc, h.1)

  rules_try_at : (o : Plan) (p : ℕ) → Crowned o → Crowned (try_at o p)
  rules_try_at o p h = either (not (is_member o.node) && is_empty o.node.kept.ancestors) Crowned (descend o p) (ask o p) h (rules_ask o p h)

  rules_try_first : (ps : List ℕ) (o : Plan) → Crowned o → Crowned (try_first ps o)
  rules_try_first [] o h = cond_both (is_member o.node && o.node.soft.silent) (act o) (waits_awhile o) Crowned (λ t. (λ e. inl (and_parts (is_member o.node) o.node.soft.silent t).0, h.1)) (λ _. h)
  rules_try_first (p ∷ ps) o h = rules_try_at (with_soft o (record o.node.soft { tries = ps })) p h

  rules_next_try : (o : Plan) → Crowned o → Crowned (next_try o)
  rules_next_try o h = cond_both (o.node.me == 1) (act o) (try_first o.node.soft.tries o) Crowned (λ t. (λ e. inr (eqb-true o.node.me 1 t), h.1)) (λ _. rules_try_first o.node.soft.tries o h)

  rules_round : (o : Plan) (without : Option ℕ) → Crowned o → Crowned (round o without)
  rules_round o without h = rules_next_try (set_tries o without) h

  rules_ask_before : (o : Plan) (p : ℕ) → Crowned o → Crowned (ask_before o p)
  rules_ask_before o p h = rules_ask (set_tries o (Some p)) p h

  rules_took_yes : (o : Plan) (p seq : ℕ) (r : Rank) (xs : List ℕ) → Crowned o → Crowned (took_yes o p seq r xs)
  rules_took_yes o p seq r xs h =
      let d : Durable = o.node.kept in
      let j : Durable = record o.node.kept { mode = modes.Joined p; rank = Some (beneath_of r); log = begun_with o.node.kept.table } in
      either (is_asking o.node.kept.mode p && seq == o.node.kept.seq && nat_lt r.depth MAX_DEPTH && precedes_any r o.node.kept.rank) Crowned (joins o p r xs) (ignored o)
      (cond_both (o.node.kept.seq == 0) d j (λ (k : Durable). (k.mode ≡ modes.Acting → (is_member o.node ≡ true) ⊎ (o.node.me ≡ 1)) × (k.measures ≡ ms)) (λ _. h) (λ _. (λ e. absurd cc, h.1)))
      h

  rules_refused : (o : Plan) (why : Refusal) → Crowned o → Crowned (refused o why)
  rules_refused o (refusals.Chain q) h = either (is_member o.node || q == o.node.me) Crowned (next_try o) (descend o q) (rules_next_try o h) h
  rules_refused o refusals.Own h = rules_next_try o h
  rules_refused o refusals.NotJoined h = rules_next_try o h
  rules_refused o refusals.Ancestor h = rules_next_try o h
  rules_refused o refusals.Depth h = rules_next_try o h
  rules_refused o refusals.Rank h = rules_next_try o h

  rules_took_no : (o : Plan) (p seq : ℕ) (why : Refusal) → Crowned o → Crowned (took_no o p seq why)
  rules_took_no o p seq why h =
      let heard : Plan = with_soft (lost o) (record o.node.soft { silent = false; refused = true }) in
      either (is_asking o.node.kept.mode p && seq == o.node.kept.seq) Crowned (refused heard why) (ignored o) (rules_refused heard why (rules_lost o h)) h

  rules_not_seen : (s : Option Search) (o : Plan) (p : ℕ) → Crowned o → Crowned (not_seen s o p)
  rules_not_seen None o p h = h
  rules_not_seen (Some searches.Review) o p h = h
  rules_not_seen (Some (searches.Descend q)) o p h = either (q == p) Crowned (next_try (searching o None)) (ignored o) (rules_next_try (searching o None) h) h

  rules_not_reached : (m : Mode) (o : Plan) (p : ℕ) → Crowned o → Crowned (not_reached m o p)
  rules_not_reached modes.Idle o p h = rules_not_seen o.node.soft.search o p h
  rules_not_reached modes.Acting o p h = rules_not_seen o.node.soft.search o p h
  rules_not_reached (modes.Joined q) o p h =
      either (q == p) Crowned (round (lost o) (Some p)) (not_seen o.node.soft.search o p) (rules_round (lost o) (Some p) (rules_lost o h)) (rules_not_seen o.node.soft.search o p h)
  rules_not_reached (modes.Asking q) o p h =
      either (q == p) Crowned (next_try (lost o)) (not_seen o.node.soft.search o p) (rules_next_try (lost o) (rules_lost o h)) (rules_not_seen o.node.soft.search o p h)

  rules_relocate : (o : Plan) (p : ℕ) → Crowned o → Crowned (relocate o p)
  rules_relocate o p h =
      either (p == o.node.me) Crowned (answers o words.Own) (if o.node.me == 1 || (is_member o.node && nat_lt o.node.me p) then answers o words.Fixed else ask_before (notes_parent o) p) h
      (either (o.node.me == 1 || (is_member o.node && nat_lt o.node.me p)) Crowned (answers o words.Fixed) (ask_before (notes_parent o) p) h (rules_ask_before (notes_parent o) p h))

  rules_raises : (o : Plan) (e : Option ℕ) → Crowned o → Crowned (raises o e)
  rules_raises o None h = h
  rules_raises o (Some e) h = h

  rules_adopts : (o : Plan) (y seq : ℕ) → Crowned o → Crowned (adopts o y seq)
  rules_adopts o y seq h =
      let born : Cert = birth y seq o.node.me in
      either (has_lease o.node y seq) Crowned (grants o y seq) (if is_news o.node.kept.table born then grants (write o (records.Entry born)) y seq else sends_rejoin o y seq) h
      (either (is_news o.node.kept.table born) Crowned (grants (write o (records.Entry born)) y seq) (sends_rejoin o y seq) h h)

  rules_answers : (why : Option Refusal) (o : Plan) (y seq : ℕ) → Crowned o → Crowned (answers_ask why o y seq)
  rules_answers None o y seq h = rules_adopts o y seq h
  rules_answers (Some why) o y seq h = h

  rules_asked : (o : Plan) (y seq : ℕ) (r : Option Rank) → Crowned o → Crowned (asked o y seq r)
  rules_asked o y seq r h =
      let raised : Plan = raises_over o y (rank_or_last r) in
      rules_answers (adoption_refusal (host raised.node y) y r) raised y seq
      (either (is_acting o.node.kept.mode && not (precedes (rank_or_last o.node.kept.rank) (rank_or_last r)) && not (y == o.node.me)) Crowned (raises o (raise (rank_or_last r).epoch)) o (rules_raises o (raise (rank_or_last r).epoch) h) h)

  -- Check-ins

  rules_merges : (o : Plan) (c : Cert) → Crowned o → Crowned (merges o c)
  rules_merges o c h = either (is_news o.node.kept.table c) Crowned (write o (records.Entry c)) o h h

  rules_merges_all : (cs : List Cert) (o : Plan) → Crowned o → Crowned (merges_all cs o)
  rules_merges_all [] o h = h
  rules_merges_all (c ∷ cs) o h = rules_merges_all cs (merges o c) (rules_merges o c h)

  rules_checked_in : (o : Plan) (y seq upto rate number clients : ℕ) (certs : List Cert) → Crowned o → Crowned (checked_in o y seq upto rate number clients certs)
  rules_checked_in o y seq upto rate number clients certs h =
      let told : List Cert = life y seq o.node.me number clients ∷ certs in
      either (has_lease o.node y seq) Crowned (acknowledges (merges_all told o) y seq upto rate) (sends_rejoin o y seq) (rules_merges_all told o h) h

  rules_took_ack : (o : Plan) (p seq upto : ℕ) (told : Rank) (xs : List ℕ) → Crowned o → Crowned (took_ack o p seq upto told xs)
  rules_took_ack o p seq upto told xs h =
      let placed : Plan = takes_place o upto in
      let ranked : Plan = takes_rank_unless o.node.soft.wish placed told in
      let above : List ℕ = ancestors_by p xs in
      either (is_joined_to o.node.kept.mode p && seq == o.node.kept.seq) Crowned (takes_ancestors ranked above) (ignored o)
      (either (same_ids above ranked.node.kept.ancestors) Crowned ranked (write ranked (records.Ancestors above)) (rules_ranked o.node.soft.wish) (rules_ranked o.node.soft.wish)) h where
        rules_placed : Crowned (takes_place o upto)
        rules_placed = either (is_ahead o.node.kept.log upto) Crowned (write o (records.Acked upto)) o h h

        rules_ranked : (wish : Option ℕ) → Crowned (takes_rank_unless wish (takes_place o upto) told)
        rules_ranked (Some g) = rules_placed
        rules_ranked None =
            either (is_better (takes_place o upto).node.kept.rank told) Crowned (write (takes_place o upto) (records.Ranked (beneath_of told))) (takes_place o upto) rules_placed rules_placed

  rules_took_rejoin : (o : Plan) (p seq : ℕ) → Crowned o → Crowned (took_rejoin o p seq)
  rules_took_rejoin o p seq h = either (is_peer o.node.kept.mode p && seq == o.node.kept.seq) Crowned (ask_before o p) (ignored o) (rules_ask_before o p h) h

  -- Looks

  rules_goes_down : (c : Option ℕ) (o : Plan) (p : ℕ) → Crowned o → Crowned (goes_down c o p)
  rules_goes_down None o p h = rules_ask o p h
  rules_goes_down (Some q) o p h = h

  rules_descends : (o : Plan) (p : ℕ) (s : Stand) → Crowned o → Crowned (descends o p s)
  rules_descends o p s h =
      let way : Option ℕ = chosen (rate_to o.node p) (candidates o.node s.children) in
      either s.in_tree Crowned (goes_down way o p) (next_try (searching o None)) (rules_goes_down way o p h) (rules_next_try (searching o None) h)

  rules_goes_where : (place : Option ℕ) (o : Plan) (p : ℕ) → Crowned o → Crowned (goes_where place o p)
  rules_goes_where None o p h = h
  rules_goes_where (Some g) o p h =
      either (nat_lt o.node.soft.waits (o.node.soft.patience + 2)) Crowned (wishes o (Some g) (o.node.soft.waits + 1)) (leaves_for o p g) h
      (rules_ask_before (with_soft o (record o.node.soft { left = Some p; moves = o.node.soft.moves + 1 })) g h)

  rules_weighs : (o : Plan) (p : ℕ) (place : Option ℕ) → Crowned o → Crowned (weighs o p place)
  rules_weighs o p place h =
      let soft : Soft = o.node.soft in
      let doubts : Bool = not (is_place place soft.wish) && nat_lt 0 soft.waits in
      let doubted : Plan = wishes o soft.wish (soft.waits - 1) in
      let wished : Plan = wishes o place soft.waits in
      either (nat_le MAX_MOVES soft.moves) Crowned (wishes o None 0) (if doubts then doubted else goes_where place wished p) h
      (either doubts Crowned doubted (goes_where place wished p) h (rules_goes_where place wished p h))

  rules_keeps_line : (o : Plan) (p : ℕ) (s : Stand) → Crowned o → Crowned (keeps_line o p s)
  rules_keeps_line o p s h = either (is_member o.node && prefers o.node.kept.mode p && nat_lt p o.node.me && s.in_tree) Crowned (ask_before o p) (ignored o) (rules_ask_before o p h) h

  rules_sees_as : (m : Mode) (search : Option Search) (o : Plan) (p : ℕ) (s : Stand) → Crowned o → Crowned (sees_as m search o p s)
  rules_sees_as modes.Idle (Some (searches.Descend q)) o p s h = either (q == p) Crowned (descends o p s) (keeps_line o p s) (rules_descends o p s h) (rules_keeps_line o p s h)
  rules_sees_as modes.Idle (Some searches.Review) o p s h = rules_keeps_line o p s h
  rules_sees_as modes.Idle None o p s h = rules_keeps_line o p s h
  rules_sees_as (modes.Joined q) (Some searches.Review) o p s h =
      either (q == p) Crowned (reviews_place o p s) (keeps_line o p s) (rules_weighs (searching o None) p (place_in (reviewed (view o.node p s))) h) (rules_keeps_line o p s h)
  rules_sees_as (modes.Joined q) (Some (searches.Descend y)) o p s h = rules_keeps_line o p s h
  rules_sees_as (modes.Joined q) None o p s h = rules_keeps_line o p s h
  rules_sees_as (modes.Asking q) search o p s h = rules_keeps_line o p s h
  rules_sees_as modes.Acting search o p s h = rules_keeps_line o p s h

  -- Messages

  rules_received : (o : Plan) (ls : List Shelf) (p : ℕ) (b : Body) → Crowned o → Crowned (received o ls p b)
  rules_received o ls p bodies.Look h = h
  rules_received o ls p (bodies.LookIs is_in parent rate children) h = rules_sees_as o.node.kept.mode o.node.soft.search o p (record { in_tree = is_in; parent = parent; rate = rate; children = children }) h
  rules_received o ls p (bodies.Ask seq rank) h = rules_asked o p seq rank h
  rules_received o ls p (bodies.Yes seq rank ancestors) h = rules_took_yes o p seq rank ancestors h
  rules_received o ls p (bodies.No seq why) h = rules_took_no o p seq why h
  rules_received o ls p (bodies.CheckIn seq upto rate number clients certs) h = rules_checked_in o p seq upto rate number clients certs h
  rules_received o ls p (bodies.CheckAck seq upto rank ancestors) h = rules_took_ack o p seq upto rank ancestors h
  rules_received o ls p (bodies.Rejoin seq) h = rules_took_rejoin o p seq h
  rules_received o ls p (bodies.Fetch have) h = content_fetched KeepsAll o ls p have h
  rules_received o ls p (bodies.Chunk g start bytes last) h = content_took_chunk KeepsAll o ls p g start bytes last h

  -- Checks and ticks

  rules_looks_at_each : (ys : List ℕ) (o : Plan) → Crowned o → Crowned (looks_at_each ys o)
  rules_looks_at_each [] o h = h
  rules_looks_at_each (y ∷ ys) o h = rules_looks_at_each ys (send o y bodies.Look) h

  rules_looks_round : (m : Mode) (o : Plan) → Crowned o → Crowned (looks_round m o)
  rules_looks_round (modes.Joined p) o h =
      let nearer : List ℕ = filter (λ z. nat_lt p z) (below o.node.me) in
      let reviewing : Plan = send (searching o (Some searches.Review)) p bodies.Look in
      either (is_member o.node) Crowned (looks_at_each nearer o) (if o.node.soft.refused then o else reviewing) (rules_looks_at_each nearer o h) (either o.node.soft.refused Crowned o reviewing h h)
  rules_looks_round modes.Acting o h = either (is_member o.node) Crowned (looks_at_each (below o.node.me) o) o (rules_looks_at_each (below o.node.me) o h) h
  rules_looks_round modes.Idle o h = h
  rules_looks_round (modes.Asking p) o h = h

  rules_goes_on : (s : Option Search) (o : Plan) → Crowned o → Crowned (goes_on s o)
  rules_goes_on (Some (searches.Descend p)) o h = h
  rules_goes_on (Some searches.Review) o h = rules_round o None h
  rules_goes_on None o h = rules_round o None h

  rules_reports : (o : Plan) (p : ℕ) → Crowned o → Crowned (reports o p)
  rules_reports o p h =
      let noted : Plan = notes_time o in
      let counted : Plan = with_soft (write noted (records.Info (noted.node.kept.number + 1) (capped (noted.node.kept.clients + noted.node.soft.served)))) (record noted.node.soft { served = 0 }) in
      either (not (noted.node.soft.served == 0) && nat_lt noted.node.kept.number number_end) Crowned counted noted h h

  rules_checks_as : (m : Mode) (o : Plan) → Crowned o → Crowned (checks_as m o)
  rules_checks_as modes.Idle o h = rules_round o None h
  rules_checks_as (modes.Joined p) o h = rules_reports o p h
  rules_checks_as (modes.Asking p) o h = h
  rules_checks_as modes.Acting o h = rules_raises o (raise (rank_or_last o.node.kept.rank).epoch) h

  rules_tick_checks_as : (m : Mode) (o : Plan) → Crowned o → Crowned (tick_checks_as m o)
  rules_tick_checks_as modes.Idle o h = rules_goes_on o.node.soft.search o h
  rules_tick_checks_as (modes.Joined p) o h = rules_reports o p h
  rules_tick_checks_as (modes.Asking p) o h = h
  rules_tick_checks_as modes.Acting o h = rules_raises o (raise (rank_or_last o.node.kept.rank).epoch) h

  rules_forgets : (due : Option ℕ) (o : Plan) → Crowned o → Crowned (forgets_refusal due o)
  rules_forgets None o h = h
  rules_forgets (Some t) o h = h

  rules_checks_in_time : (o : Plan) → Crowned o → Crowned (checks_in_time o)
  rules_checks_in_time o h =
      let begins : Plan = forgets_refusal o.node.soft.due o in
      rules_looks_round o.node.kept.mode (tick_checks begins) (rules_tick_checks_as begins.node.kept.mode (sets_due begins) (rules_forgets o.node.soft.due o h))

  rules_reports_news : (m : Mode) (o : Plan) → Crowned o → Crowned (reports_news_as m o)
  rules_reports_news (modes.Joined p) o h = either (has_news o.node) Crowned (reports o p) o (rules_reports o p h) h
  rules_reports_news modes.Idle o h = h
  rules_reports_news (modes.Asking p) o h = h
  rules_reports_news modes.Acting o h = h

  rules_fetches : (m : Mode) (o : Plan) (ls : List Shelf) → Crowned o → Crowned (fetches_as m o ls)
  rules_fetches (modes.Joined p) o ls h = h
  rules_fetches modes.Idle o ls h = h
  rules_fetches (modes.Asking p) o ls h = h
  rules_fetches modes.Acting o ls h = h

  rules_dies : (e : Option Cert) (o : Plan) → Crowned o → Crowned (dies e o)
  rules_dies None o h = h
  rules_dies (Some k) o h = rules_merges o (record k { dead = true }) h

  rules_ends_each : (ys : List ℕ) (o : Plan) → Crowned o → Crowned (ends_each ys o)
  rules_ends_each [] o h = h
  rules_ends_each (y ∷ ys) o h = rules_ends_each ys (dies (newest o.node.kept.table y) o) (rules_dies (newest o.node.kept.table y) o h)

  rules_tick : (o : Plan) (ls : List Shelf) (t : ℕ) → Crowned o → Crowned (tick o ls t)
  rules_tick o ls t h =
      let started : Plan = starts_leases (at_time o t) in
      let over : Plan = ends_leases started in
      let ended_all : Crowned over = rules_ends_each (ended started.node.kept.table started.node.me started.node.leases started.node.soft.clock) started h in
      let checked : Plan = checks_if_due over in
      rules_fetches checked.node.kept.mode checked ls
      (either (is_due over.node.soft.due over.node.soft.clock) Crowned (checks_in_time over) (reports_news over) (rules_checks_in_time over ended_all) (rules_reports_news over.node.kept.mode over ended_all))

  -- Other inputs

  rules_client : (o : Plan) (ls : List Shelf) (area start : ℕ) (g : List ℕ) → Crowned o → Crowned (client o ls area start g)
  rules_client o ls area start g h = by_line (line_of g ls) where
    by_server : (to : Option ℕ) (count : ℕ) → Crowned (redirects to o count)
    by_server None count = h
    by_server (Some k) count = h

    by_line : (l : Option Shelf) → Crowned (client_of l o area start)
    by_line None = h
    by_line (Some l) = by_server (server_for o.node area) _

  -- the inputs of a round
  pub round_step : (n : Node) (i : Input) → IsOfRound i → KeepsAll n.control → KeepsAll (step n i).node.control
  round_step n (Tick t) of h = rules_tick (begun n.control) (shelf n.groups) t h
  round_step n (Unreachable p) of h = rules_not_reached n.control.kept.mode (begun n.control) p h
  round_step n (Delivered m) of h = rules_received (begun n.control) (shelf n.groups) m.from m.body h
  round_step n i of h = absurd of

crown_measured : (o : Plan) (p rate hops : ℕ) → IsCrowned o.node → IsCrowned (measured o p rate hops).node
crown_measured o p rate hops h =
    let is_old : Bool = same_reading (reading_of o.node.kept.measures p) (record { rate = rate; hops = hops }) in
    let wrote : Plan = write o (records.Rate p rate hops) in
    either (p == o.node.me) (λ (q : Plan). IsCrowned q.node) (answers o words.Own) (if is_old then o else may_move wrote) h (either is_old (λ (q : Plan). IsCrowned q.node) o (may_move wrote) h h)

rules_step : (n : Node) (i : Input) → IsCrowned n.control → IsCrowned (step n i).node.control
rules_step n (Tick t) h = (rules_tick n.control.kept.measures (begun n.control) (shelf n.groups) t (h, refl)).0
rules_step n CheckNow h = (rules_checks_as n.control.kept.measures n.control.kept.mode (sets_due (begun n.control)) (h, refl)).0
rules_step n (Relocate p) h = (rules_relocate n.control.kept.measures (begun n.control) p (h, refl)).0
rules_step n (Unreachable p) h = (rules_not_reached n.control.kept.measures n.control.kept.mode (begun n.control) p (h, refl)).0
rules_step n (Pull p) h = content_pulled IsCrowned (begun n.control) (shelf n.groups) p h
rules_step n (Measured p rate hops) h = crown_measured (begun n.control) p rate hops h
rules_step n (Publish g bytes) h = content_published IsCrowned (begun n.control) (shelf n.groups) g bytes h
rules_step n (Seal g) h = content_sealed_at IsCrowned (begun n.control) (shelf n.groups) g h
rules_step n (Client area start g) h = (rules_client n.control.kept.measures (begun n.control) (shelf n.groups) area start g (h, refl)).0
rules_step n (Delivered m) h = (rules_received n.control.kept.measures (begun n.control) (shelf n.groups) m.from m.body (h, refl)).0

-- Worlds

abbrev AreCrowned : World → Type 0
AreCrowned w = (y : ℕ) → IsCrowned (control_of w y)

crowned_put : (w : World) (q : Process) → IsCrowned q.node.control → AreCrowned w → (y : ℕ) → IsCrowned (process_in (with_process w.processes q) y).node.control
crowned_put w q here all y = at_put w.processes q (λ (n : Node). IsCrowned n.control) y (λ _. here) (all y)

crowned_law : IsActLaw (λ w. Unit {0}) AreCrowned
crowned_law = record {
  starts = λ w x up all. crowned_put w (anew w x up) (all x) all;
  takes = λ w a truth is_up beside all. crowned_put w (record { node = (step (node w a.at) a.input).node; up = true }) (rules_step (node w a.at) a.input (all a.at)) all;
  stops = λ w a truth is_up beside all. crowned_put w (stopped (step (node w a.at) a.input).node) (rules_step (node w a.at) a.input (all a.at)) all;
}

crowned_act : (w : World) (a : Act) → AreCrowned w → AreCrowned (after_act w a)
crowned_act w a all = act_lift (λ v. Unit {0}) AreCrowned crowned_law (λ v b beside. beside) w a tt all

crowned_event : (w : World) (e : Event) → AreCrowned w → AreCrowned (next_world w e)
crowned_event w e all = act_event (λ v. Unit {0}) AreCrowned crowned_law (λ v b beside. beside) w e tt all

crowned_new : (h : Header) → AreCrowned (new_world h)
crowned_new h y =
    let new : IsNew y (process (new_world h) y) = process_in-new h (range_with_len 1 h.nodes) y in
    subst (λ (p : Process). IsCrowned p.node.control) (sym new.1) (λ e. absurd cc)

-- each node that acts is a chain member, or the first node
pub crowned : (h : Header) (w : World) (y : ℕ) → Reached h w → IsCrowned (control_of w y)
crowned h w y reached = subst AreCrowned (sym reached.is) (passing_after AreCrowned crowned_act crowned_event (new_world h) reached.events (crowned_new h)) y
