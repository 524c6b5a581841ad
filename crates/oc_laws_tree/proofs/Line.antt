-- The chain as one line: a chain member asks only earlier members, and neither looks nor wishes for a place; a root is above
-- all nodes. Every rule keeps this.
use Rattle.std.proofs.Common.{◌≡◌, ℕ, zero, suc, ◌+◌, ◌-◌, ◌<◌, ◌≤◌, Bool, true, false, not, ◌&&◌, ◌||◌, ◌==◌, nat_lt, nat_le, if◌then◌else◌, Option, Some, None, List, [], ◌∷◌, ◌++◌, filter, length, refl, ap, sym, subst, ◌∙◌, arith, eqb-true, ltb-true, ltb-false, option_to_list}
use Rattle.std.specs.List.{AllByRecursion, range_with_len}
use Rattle.std.proofs.lemmas.Bool.{cond_both, and_parts, or_left, or_right, true≢false, eqb-false}
use Rattle.oc_base.specs.declared.rank.Rank.{Rank}
use Rattle.oc_base.specs.declared.refusal.Refusal.{Refusal}
use Rattle.oc_base.specs.declared.refusal.Refusal.TheVariants as refusals
use Rattle.oc_base.specs.declared.shelf.Shelf.{Shelf}
use Rattle.oc_base.specs.Rank.{beneath_of}
use Rattle.oc_base.specs.declared.limits.TheConstants.{MAX_DEPTH}
use Rattle.oc_model.specs.declared.answer.Answer.TheVariants as words
use Rattle.oc_model.specs.declared.message.Body.TheVariants as bodies
use Rattle.oc_model.specs.declared.mode.Mode.{Mode}
use Rattle.oc_model.specs.declared.mode.Mode.TheVariants as modes
use Rattle.oc_model.specs.declared.record.Record.TheVariants as records
use Rattle.oc_model.specs.declared.soft.Search.{Search}
use Rattle.oc_model.specs.declared.soft.Search.TheVariants as searches
use Rattle.oc_model.specs.declared.soft.Soft.{Soft}
use Rattle.oc_model.specs.declared.soft.TheConstants.{MAX_MOVES}
use Rattle.oc_model.specs.Adopting.{is_acting, raises, raises_over}
use Rattle.oc_model.specs.Adoption.{precedes, precedes_any, rank_or_last, is_better}
use Rattle.oc_model.specs.Asking.{lost_from, lost, send_ask, ask, next_epoch, act, descend, try_at, waits_awhile, try_first, next_try, set_tries, round, ask_before, is_asking, ancestors_by, joins, took_yes, refused, took_no, not_seen, not_reached, unreachable, notes_parent, relocate}
use Rattle.oc_model.specs.ChangeLog.{is_ahead}
use Rattle.oc_model.specs.Checking.{counts_clients, notes_time, reports, checks_as, sets_due, checks, looks_at_each, looks_round, is_due, forgets_refusal, goes_on, tick_checks_as, tick_checks, checks_in_time, has_news, reports_news_as, reports_news, checks_if_due, fetches_as, is_joined_to, takes_place, takes_rank_unless, same_ids, takes_ancestors, took_ack, is_peer, took_rejoin}
use Rattle.oc_model.specs.Choice.{below, each_once, ask_order, chosen, reviewed}
use Rattle.oc_model.specs.Looking.{Stand, goes_down, candidates, descends, place_in, is_place, wishes, leaves_for, goes_where, weighs, view, reviews_place, prefers, keeps_line, sees_as, sees}
use Rattle.oc_model.specs.Node.{Control}
use Rattle.oc_model.specs.Numbers.{number_end, raise, capped, has, is_empty}
use Rattle.oc_model.specs.Plan.{Plan, write, send, answers, with_soft, searching, ignored, is_member, rate_to}
use Rattle.oc_model.proofs.Rules.{either}

-- The order in which a chain member asks

abbrev pub AreBelow : ℕ → List ℕ → Type 0
AreBelow me xs = AllByRecursion (λ p. p < me) xs

below_less : (me most : ℕ) → me ≤ most → AreBelow most (below me)
below_less zero most few = tt
below_less (suc zero) most few = tt
below_less (suc (suc n)) most few = (omega (arith, few), below_less (suc n) most (omega (arith, few)))

below_count : (me : ℕ) → length (below me) ≤ me - 1
below_count zero = omega arith
below_count (suc zero) = omega arith
below_count (suc (suc n)) = omega (arith, below_count (suc n))

once_below : (me : ℕ) (out xs : List ℕ) → AreBelow me xs → AreBelow me (each_once out xs)
once_below me out [] all = tt
once_below me out (x ∷ xs) all = cond_both (has out x) (each_once out xs) (x ∷ each_once (x ∷ out) xs) (AreBelow me) (λ _. once_below me out xs all.1) (λ _. (all.0, once_below me (x ∷ out) xs all.1))

once_count : (out xs : List ℕ) → length (each_once out xs) ≤ length xs
once_count out [] = omega arith
once_count out (x ∷ xs) = cond_both (has out x) (each_once out xs) (x ∷ each_once (x ∷ out) xs) (λ ys. length ys ≤ length (x ∷ xs)) (λ _. omega (arith, once_count out xs)) (λ _. omega (arith, once_count (x ∷ out) xs))

-- a round asks earlier members, and no more than there are
pub order_below : (me chain : ℕ) (ancestors : List ℕ) (without : Option ℕ) → nat_le me chain ≡ true → AreBelow me (ask_order me chain ancestors without) × (length (ask_order me chain ancestors without) ≤ me - 1)
order_below me chain ancestors without member =
    let earlier : ask_order me chain ancestors without ≡ each_once (me ∷ option_to_list without) (below me) = ap (λ b. each_once (me ∷ option_to_list without) (if b then below me else ancestors ++ range_with_len 1 chain)) member in (
      subst (AreBelow me) (sym earlier) (once_below me (me ∷ option_to_list without) (below me) (below_less me me (omega arith))),
      subst (λ xs. length xs ≤ me - 1) (sym earlier) (omega (arith, once_count (me ∷ option_to_list without) (below me), below_count me)),
    )

-- A node in its line

-- a rank of depth 0
abbrev pub IsTop : Option Rank → Type 0
IsTop rank = (r : Rank) × (rank ≡ Some r) × (r.depth ≡ 0)

-- a root has no ancestors and depth 0; a chain member has only earlier members as peer and to try, and neither looks nor wishes
-- for a place
pub record InLine (me chain : ℕ) (mode : Mode) (tries : List ℕ) (search : Option Search) (wish : Option ℕ) (ancestors : List ℕ) (rank : Option Rank) : Type 0 where
  pub root : mode ≡ modes.Acting → (ancestors ≡ []) × IsTop rank
  pub peer : nat_le me chain ≡ true → (p : ℕ) → is_peer mode p ≡ true → p < me
  pub earlier : nat_le me chain ≡ true → AreBelow me tries
  pub few : nat_le me chain ≡ true → length tries ≤ me - 1
  pub still : nat_le me chain ≡ true → search ≡ None
  pub no_wish : nat_le me chain ≡ true → wish ≡ None

abbrev pub IsInLine : Control → Type 0
IsInLine n = InLine n.me n.chain n.kept.mode n.soft.tries n.soft.search n.soft.wish n.kept.ancestors n.kept.rank

abbrev pub OfLine : Plan → Type 0
OfLine o = IsInLine o.node

-- the node may ask p
abbrev MayAsk : Plan → ℕ → Type 0
MayAsk o p = is_member o.node ≡ true → p < o.node.me

-- Changes

module _ {me chain : ℕ} {mode : Mode} {tries : List ℕ} {search : Option Search} {wish : Option ℕ} {ancestors : List ℕ} {rank : Option Rank} (h : InLine me chain mode tries search wish ancestors rank) where
  line_idle : InLine me chain modes.Idle tries search wish ancestors rank
  line_idle = record { root = λ e. absurd cc; peer = λ member p e. absurd cc; earlier = h.earlier; few = h.few; still = h.still; no_wish = h.no_wish }

  line_asking : (p : ℕ) → (nat_le me chain ≡ true → p < me) → InLine me chain (modes.Asking p) tries None wish ancestors rank
  line_asking p may = record { root = λ e. absurd cc; peer = λ member q e. let same : p ≡ q = eqb-true p q e in let less : p < me = may member in omega (arith, same, less); earlier = h.earlier; few = h.few; still = λ member. refl; no_wish = h.no_wish }

  line_acting : (r : Rank) → r.depth ≡ 0 → InLine me chain modes.Acting tries search wish [] (Some r)
  line_acting r top = record { root = λ e. (refl, (r, refl, top)); peer = λ member p e. absurd cc; earlier = h.earlier; few = h.few; still = h.still; no_wish = h.no_wish }

  line_raised : (r : Rank) → r.depth ≡ 0 → InLine me chain mode tries search wish ancestors (Some r)
  line_raised r top = record { root = λ e. ((h.root e).0, (r, refl, top)); peer = h.peer; earlier = h.earlier; few = h.few; still = h.still; no_wish = h.no_wish }

  line_looks : (s : Option Search) → (nat_le me chain ≡ true → s ≡ None) → InLine me chain mode tries s wish ancestors rank
  line_looks s none = record { root = h.root; peer = h.peer; earlier = h.earlier; few = h.few; still = none; no_wish = h.no_wish }

  line_tries : (without : Option ℕ) → InLine me chain mode (ask_order me chain ancestors without) search wish ancestors rank
  line_tries without = record { root = h.root; peer = h.peer; earlier = λ member. (order_below me chain ancestors without member).0; few = λ member. (order_below me chain ancestors without member).1; still = h.still; no_wish = h.no_wish }

  -- a node that is no root may have any rank and ancestors
  line_below : (xs : List ℕ) (r : Option Rank) → (mode ≡ modes.Acting → ⊥) → InLine me chain mode tries search wish xs r
  line_below xs r other = record { root = λ e. absurd (other e); peer = h.peer; earlier = h.earlier; few = h.few; still = h.still; no_wish = h.no_wish }

-- the first try is removed
line_rest : {me chain : ℕ} {mode : Mode} {search : Option Search} {wish : Option ℕ} {ancestors : List ℕ} {rank : Option Rank} (p : ℕ) (ps : List ℕ) → InLine me chain mode (p ∷ ps) search wish ancestors rank → InLine me chain mode ps search wish ancestors rank
line_rest p ps h = record { root = h.root; peer = h.peer; earlier = λ member. (h.earlier member).1; few = λ member. omega (arith, h.few member); still = h.still; no_wish = h.no_wish }

-- Asks

line_lost_from : (m : Mode) (o : Plan) → OfLine o → OfLine (lost_from m o)
line_lost_from modes.Idle o h = h
line_lost_from (modes.Asking p) o h = line_idle h
line_lost_from (modes.Joined p) o h = line_idle h
line_lost_from modes.Acting o h = line_idle h

line_lost : (o : Plan) → OfLine o → OfLine (lost o)
line_lost o h = line_lost_from o.node.kept.mode o h

line_ask : (o : Plan) (p : ℕ) → MayAsk o p → OfLine o → OfLine (ask o p)
line_ask o p may h =
    either (o.node.kept.seq == number_end) OfLine (answers (lost o) words.Spent) (send_ask (searching (write o (records.Ask (o.node.kept.seq + 1) p)) None) p) (line_lost o h) (line_asking h p may)

line_act : (o : Plan) → OfLine o → OfLine (act o)
line_act o h = line_acting h (record { epoch = next_epoch (rank_or_last o.node.kept.rank); depth = 0 }) refl

-- a node past the chain may look for a place
line_descend : (o : Plan) (p : ℕ) → (is_member o.node ≡ true → ⊥) → OfLine o → OfLine (descend o p)
line_descend o p past h = line_looks h (Some (searches.Descend p)) (λ member. absurd (past member))

line_try_at : (o : Plan) (p : ℕ) → MayAsk o p → OfLine o → OfLine (try_at o p)
line_try_at o p may h = cond_both (not (is_member o.node) && is_empty o.node.kept.ancestors) (descend o p) (ask o p) OfLine
    (λ looks. line_descend o p (λ member. true≢false (sym (and_parts (not (is_member o.node)) (is_empty o.node.kept.ancestors) looks).0 ∙ ap not member)) h)
    (λ _. line_ask o p may h)

line_try_first : (ps : List ℕ) (o : Plan) → o.node.soft.tries ≡ ps → OfLine o → OfLine (try_first ps o)
line_try_first [] o e h = either (is_member o.node && o.node.soft.silent) OfLine (act o) (waits_awhile o) (line_act o h) h
line_try_first (p ∷ ps) o e h =
    let all : InLine o.node.me o.node.chain o.node.kept.mode (p ∷ ps) o.node.soft.search o.node.soft.wish o.node.kept.ancestors o.node.kept.rank =
    subst (λ (xs : List ℕ). InLine o.node.me o.node.chain o.node.kept.mode xs o.node.soft.search o.node.soft.wish o.node.kept.ancestors o.node.kept.rank) e h in
    line_try_at (with_soft o (record o.node.soft { tries = ps })) p (λ member. (all.earlier member).0) (line_rest p ps all)

line_next_try : (o : Plan) → OfLine o → OfLine (next_try o)
line_next_try o h = either (o.node.me == 1) OfLine (act o) (try_first o.node.soft.tries o) (line_act o h) (line_try_first o.node.soft.tries o refl h)

line_set_tries : (o : Plan) (without : Option ℕ) → OfLine o → OfLine (set_tries o without)
line_set_tries o without h = line_tries h without

line_round : (o : Plan) (without : Option ℕ) → OfLine o → OfLine (round o without)
line_round o without h = line_next_try (set_tries o without) (line_set_tries o without h)

line_ask_before : (o : Plan) (p : ℕ) → MayAsk o p → OfLine o → OfLine (ask_before o p)
line_ask_before o p may h = line_ask (set_tries o (Some p)) p may (line_set_tries o (Some p) h)

-- a node that asks p has p as its peer and is no root
asking_peer : (m : Mode) (p : ℕ) → is_asking m p ≡ true → (is_peer m p ≡ true) × (m ≡ modes.Acting → ⊥)
asking_peer (modes.Asking q) p e = (e, λ f. absurd cc)
asking_peer modes.Idle p e = absurd cc
asking_peer (modes.Joined q) p e = absurd cc
asking_peer modes.Acting p e = absurd cc

line_joins : (o : Plan) (p : ℕ) (r : Rank) (xs : List ℕ) → is_asking o.node.kept.mode p ≡ true → OfLine o → OfLine (joins o p r xs)
line_joins o p r xs asks h =
    let is = asking_peer o.node.kept.mode p asks in
    either (o.node.kept.seq == 0) (λ d. InLine o.node.me o.node.chain d.mode [] None None (ancestors_by p xs) d.rank)
    o.node.kept (record o.node.kept { mode = modes.Joined p; rank = Some (beneath_of r); log = _ })
    (record { root = λ e. absurd (is.1 e); peer = h.peer; earlier = λ member. tt; few = λ member. omega arith; still = λ member. refl; no_wish = λ member. refl })
    (record { root = λ e. absurd cc; peer = λ member q e. let same : p ≡ q = eqb-true p q e in let less : p < o.node.me = h.peer member p is.0 in omega (arith, same, less); earlier = λ member. tt; few = λ member. omega arith; still = λ member. refl; no_wish = λ member. refl })

-- the first of four conditions that all hold; the third of them
and_first : (a b c d : Bool) → (a && b && c && d) ≡ true → a ≡ true
and_first true b c d e = refl
and_first false b c d e = absurd cc

and_third : (a b c d : Bool) → (a && b && c && d) ≡ true → c ≡ true
and_third true true true d e = refl
and_third true true false d e = e
and_third true false c d e = absurd cc
and_third false b c d e = absurd cc

pub line_took_yes : (o : Plan) (p seq : ℕ) (r : Rank) (xs : List ℕ) → OfLine o → OfLine (took_yes o p seq r xs)
line_took_yes o p seq r xs h =
    cond_both (is_asking o.node.kept.mode p && seq == o.node.kept.seq && nat_lt r.depth MAX_DEPTH && precedes_any r o.node.kept.rank) (joins o p r xs) (ignored o) OfLine
    (λ all. line_joins o p r xs (and_first (is_asking o.node.kept.mode p) (seq == o.node.kept.seq) (nat_lt r.depth MAX_DEPTH) (precedes_any r o.node.kept.rank) all) h) (λ _. h)

line_refused : (o : Plan) (why : Refusal) → OfLine o → OfLine (refused o why)
line_refused o (refusals.Chain q) h = cond_both (is_member o.node || q == o.node.me) (next_try o) (descend o q) OfLine
    (λ _. line_next_try o h) (λ none. line_descend o q (λ member. true≢false (sym (or_left (is_member o.node) (q == o.node.me) member) ∙ none)) h)
line_refused o refusals.Own h = line_next_try o h
line_refused o refusals.NotJoined h = line_next_try o h
line_refused o refusals.Ancestor h = line_next_try o h
line_refused o refusals.Depth h = line_next_try o h
line_refused o refusals.Rank h = line_next_try o h

pub line_took_no : (o : Plan) (p seq : ℕ) (why : Refusal) → OfLine o → OfLine (took_no o p seq why)
line_took_no o p seq why h =
    let fallen : Plan = with_soft (lost o) (record o.node.soft { silent = false; refused = true }) in
    either (is_asking o.node.kept.mode p && seq == o.node.kept.seq) OfLine (refused fallen why) (ignored o) (line_refused fallen why (by_mode o.node.kept.mode)) h where
      by_mode : (m : Mode) → OfLine (with_soft (lost_from m o) (record o.node.soft { silent = false; refused = true }))
      by_mode modes.Idle = h
      by_mode (modes.Asking q) = line_idle h
      by_mode (modes.Joined q) = line_idle h
      by_mode modes.Acting = line_idle h

-- a node that no longer looks for a place
line_unsearching : (o : Plan) → OfLine o → OfLine (searching o None)
line_unsearching o h = line_looks h None (λ member. refl)

line_not_seen : (s : Option Search) (o : Plan) (p : ℕ) → OfLine o → OfLine (not_seen s o p)
line_not_seen None o p h = h
line_not_seen (Some searches.Review) o p h = h
line_not_seen (Some (searches.Descend q)) o p h = either (q == p) OfLine (next_try (searching o None)) (ignored o) (line_next_try (searching o None) (line_unsearching o h)) h

line_not_reached : (m : Mode) (o : Plan) (p : ℕ) → OfLine o → OfLine (not_reached m o p)
line_not_reached modes.Idle o p h = line_not_seen o.node.soft.search o p h
line_not_reached modes.Acting o p h = line_not_seen o.node.soft.search o p h
line_not_reached (modes.Joined q) o p h = either (q == p) OfLine (round (lost o) (Some p)) (not_seen o.node.soft.search o p) (line_round (lost o) (Some p) (line_lost o h)) (line_not_seen o.node.soft.search o p h)
line_not_reached (modes.Asking q) o p h = either (q == p) OfLine (next_try (lost o)) (not_seen o.node.soft.search o p) (line_next_try (lost o) (line_lost o h)) (line_not_seen o.node.soft.search o p h)

pub line_unreachable : (o : Plan) (p : ℕ) → OfLine o → OfLine (unreachable o p)
line_unreachable o p h = line_not_reached o.node.kept.mode o p h

pub line_relocate : (o : Plan) (p : ℕ) → OfLine o → OfLine (relocate o p)
line_relocate o p h =
    let is_fixed : Bool = o.node.me == 1 || (is_member o.node && nat_lt o.node.me p) in
    cond_both (p == o.node.me) (answers o words.Own) (if is_fixed then answers o words.Fixed else ask_before (notes_parent o) p) OfLine (λ _. h)
    (λ other. cond_both is_fixed (answers o words.Fixed) (ask_before (notes_parent o) p) OfLine (λ _. h) (λ free. line_ask_before (notes_parent o) p (may (eqb-false p o.node.me other) free) h)) where
      may : (p ≡ o.node.me → ⊥) → (o.node.me == 1 || (is_member o.node && nat_lt o.node.me p)) ≡ false → MayAsk o p
      may other free member = by_less (nat_lt o.node.me p) refl where
        by_less : (b : Bool) → nat_lt o.node.me p ≡ b → p < o.node.me
        by_less true e =
            let fixed : (o.node.me == 1 || (is_member o.node && nat_lt o.node.me p)) ≡ true = or_right (o.node.me == 1) (is_member o.node && nat_lt o.node.me p) (rw (member, e) refl) in
            absurd (true≢false (sym fixed ∙ free))
        by_less false e = let least : p ≤ o.node.me = ltb-false o.node.me p e in omega (arith, least, other)

-- Checks

line_raises : (o : Plan) (e : Option ℕ) → OfLine o → OfLine (raises o e)
line_raises o None h = h
line_raises o (Some e) h = line_raised h (record { epoch = e; depth = 0 }) refl

pub line_raises_over : (o : Plan) (x : ℕ) (r : Rank) → OfLine o → OfLine (raises_over o x r)
line_raises_over o x r h =
    either (is_acting o.node.kept.mode && not (precedes (rank_or_last o.node.kept.rank) r) && not (x == o.node.me)) OfLine (raises o (raise r.epoch)) o (line_raises o (raise r.epoch) h) h

line_counts_clients : (o : Plan) → OfLine o → OfLine (counts_clients o)
line_counts_clients o h =
    let counted : Plan = write o (records.Info (o.node.kept.number + 1) (capped (o.node.kept.clients + o.node.soft.served))) in
    either (not (o.node.soft.served == 0) && nat_lt o.node.kept.number number_end) OfLine (with_soft counted (record o.node.soft { served = 0 })) o h h

line_checks_as : (m : Mode) (o : Plan) → OfLine o → OfLine (checks_as m o)
line_checks_as (modes.Joined p) o h = line_counts_clients (notes_time o) h
line_checks_as modes.Acting o h = line_raises o (raise (rank_or_last o.node.kept.rank).epoch) h
line_checks_as modes.Idle o h = line_round o None h
line_checks_as (modes.Asking p) o h = h

pub line_checks : (o : Plan) → OfLine o → OfLine (checks o)
line_checks o h = line_checks_as o.node.kept.mode (sets_due o) h

line_goes_on : (s : Option Search) (o : Plan) → OfLine o → OfLine (goes_on s o)
line_goes_on (Some (searches.Descend p)) o h = h
line_goes_on (Some searches.Review) o h = line_round o None h
line_goes_on None o h = line_round o None h

line_tick_checks_as : (m : Mode) (o : Plan) → OfLine o → OfLine (tick_checks_as m o)
line_tick_checks_as modes.Idle o h = line_goes_on o.node.soft.search o h
line_tick_checks_as (modes.Joined p) o h = line_checks_as (modes.Joined p) o h
line_tick_checks_as (modes.Asking p) o h = line_checks_as (modes.Asking p) o h
line_tick_checks_as modes.Acting o h = line_checks_as modes.Acting o h

line_tick_checks : (o : Plan) → OfLine o → OfLine (tick_checks o)
line_tick_checks o h = line_tick_checks_as o.node.kept.mode (sets_due o) h

line_looks_at_each : (xs : List ℕ) (o : Plan) → OfLine o → OfLine (looks_at_each xs o)
line_looks_at_each [] o h = h
line_looks_at_each (x ∷ xs) o h = line_looks_at_each xs (send o x bodies.Look) h

line_looks_round : (m : Mode) (o : Plan) → OfLine o → OfLine (looks_round m o)
line_looks_round (modes.Joined p) o h =
    let nearer : List ℕ = filter (λ x. nat_lt p x) (below o.node.me) in
    let reviewing : Plan = send (searching o (Some searches.Review)) p bodies.Look in
    cond_both (is_member o.node) (looks_at_each nearer o) (if o.node.soft.refused then o else reviewing) OfLine
    (λ _. line_looks_at_each nearer o h) (λ past. either o.node.soft.refused OfLine o reviewing h (line_looks h (Some searches.Review) (λ member. absurd (true≢false (sym member ∙ past)))))
line_looks_round modes.Acting o h = either (is_member o.node) OfLine (looks_at_each (below o.node.me) o) o (line_looks_at_each (below o.node.me) o h) h
line_looks_round modes.Idle o h = h
line_looks_round (modes.Asking p) o h = h

line_forgets_refusal : (due : Option ℕ) (o : Plan) → OfLine o → OfLine (forgets_refusal due o)
line_forgets_refusal None o h = h
line_forgets_refusal (Some t) o h = h

line_checks_in_time : (o : Plan) → OfLine o → OfLine (checks_in_time o)
line_checks_in_time o h =
    let begins : Plan = forgets_refusal o.node.soft.due o in
    line_looks_round o.node.kept.mode (tick_checks begins) (line_tick_checks begins (line_forgets_refusal o.node.soft.due o h))

line_reports_news_as : (m : Mode) (o : Plan) → OfLine o → OfLine (reports_news_as m o)
line_reports_news_as (modes.Joined p) o h = either (has_news o.node) OfLine (reports o p) o (line_counts_clients (notes_time o) h) h
line_reports_news_as modes.Idle o h = h
line_reports_news_as (modes.Asking p) o h = h
line_reports_news_as modes.Acting o h = h

pub line_checks_if_due : (o : Plan) → OfLine o → OfLine (checks_if_due o)
line_checks_if_due o h = either (is_due o.node.soft.due o.node.soft.clock) OfLine (checks_in_time o) (reports_news o) (line_checks_in_time o h) (line_reports_news_as o.node.kept.mode o h)

pub line_fetches_as : (m : Mode) (o : Plan) (ls : List Shelf) → OfLine o → OfLine (fetches_as m o ls)
line_fetches_as (modes.Joined p) o ls h = h
line_fetches_as modes.Idle o ls h = h
line_fetches_as (modes.Asking p) o ls h = h
line_fetches_as modes.Acting o ls h = h

-- Acknowledgements

-- a joined node is no root
joined_below : (m : Mode) (p : ℕ) → is_joined_to m p ≡ true → m ≡ modes.Acting → ⊥
joined_below (modes.Joined q) p e f = absurd cc
joined_below modes.Idle p e f = absurd cc
joined_below (modes.Asking q) p e f = absurd cc
joined_below modes.Acting p e f = absurd cc

line_takes_place : (o : Plan) (upto : ℕ) → OfLine o → OfLine (takes_place o upto)
line_takes_place o upto h = either (is_ahead o.node.kept.log upto) OfLine (write o (records.Acked upto)) o h h

pub line_took_ack : (o : Plan) (p seq upto : ℕ) (told : Rank) (xs : List ℕ) → OfLine o → OfLine (took_ack o p seq upto told xs)
line_took_ack o p seq upto told xs h =
    cond_both (is_joined_to o.node.kept.mode p && seq == o.node.kept.seq) (takes_ancestors (takes_rank_unless o.node.soft.wish (takes_place o upto) told) (ancestors_by p xs)) (ignored o) OfLine
    (λ here. taken (joined_below o.node.kept.mode p (and_parts (is_joined_to o.node.kept.mode p) (seq == o.node.kept.seq) here).0)) (λ _. h) where
      known : (u : Plan) → OfLine u → (u.node.kept.mode ≡ modes.Acting → ⊥) → OfLine (takes_ancestors u (ancestors_by p xs))
      known u k other = either (same_ids (ancestors_by p xs) u.node.kept.ancestors) OfLine u (write u (records.Ancestors (ancestors_by p xs))) k (line_below k (ancestors_by p xs) u.node.kept.rank other)

      ranked : (wish : Option ℕ) (q : Plan) → OfLine q → (q.node.kept.mode ≡ modes.Acting → ⊥) → OfLine (takes_ancestors (takes_rank_unless wish q told) (ancestors_by p xs))
      ranked (Some g) q k other = known q k other
      ranked None q k other = either (is_better q.node.kept.rank told) (λ (u : Plan). OfLine (takes_ancestors u (ancestors_by p xs))) (write q (records.Ranked (beneath_of told))) q
          (known (write q (records.Ranked (beneath_of told))) (line_below k q.node.kept.ancestors (Some (beneath_of told)) other) other) (known q k other)

      taken : (o.node.kept.mode ≡ modes.Acting → ⊥) → OfLine (takes_ancestors (takes_rank_unless o.node.soft.wish (takes_place o upto) told) (ancestors_by p xs))
      taken other = either (is_ahead o.node.kept.log upto) (λ (q : Plan). OfLine (takes_ancestors (takes_rank_unless o.node.soft.wish q told) (ancestors_by p xs))) (write o (records.Acked upto)) o
          (ranked o.node.soft.wish (write o (records.Acked upto)) h other) (ranked o.node.soft.wish o h other)

pub line_took_rejoin : (o : Plan) (p seq : ℕ) → OfLine o → OfLine (took_rejoin o p seq)
line_took_rejoin o p seq h = cond_both (is_peer o.node.kept.mode p && seq == o.node.kept.seq) (ask_before o p) (ignored o) OfLine
    (λ here. line_ask_before o p (λ member. h.peer member p (and_parts (is_peer o.node.kept.mode p) (seq == o.node.kept.seq) here).0) h) (λ _. h)

-- Looks: a node that looks for a place is past the chain

past_of : (o : Plan) (s : Search) → o.node.soft.search ≡ Some s → OfLine o → is_member o.node ≡ true → ⊥
past_of o s e h member = let clash : Some s ≡ None = sym e ∙ h.still member in cc

line_goes_down : (c : Option ℕ) (o : Plan) (p : ℕ) → (is_member o.node ≡ true → ⊥) → OfLine o → OfLine (goes_down c o p)
line_goes_down None o p past h = line_ask o p (λ member. absurd (past member)) h
line_goes_down (Some q) o p past h = line_descend o q past h

line_descends : (o : Plan) (p : ℕ) (s : Stand) → (is_member o.node ≡ true → ⊥) → OfLine o → OfLine (descends o p s)
line_descends o p s past h =
    let way : Option ℕ = chosen (rate_to o.node p) (candidates o.node s.children) in
    either s.in_tree OfLine (goes_down way o p) (next_try (searching o None)) (line_goes_down way o p past h) (line_next_try (searching o None) (line_unsearching o h))

-- a node past the chain may wish for a place
line_wishes : (o : Plan) (place : Option ℕ) (count : ℕ) → (is_member o.node ≡ true → ⊥) → OfLine o → OfLine (wishes o place count)
line_wishes o place count past h = record { root = h.root; peer = h.peer; earlier = h.earlier; few = h.few; still = h.still; no_wish = λ member. absurd (past member) }

line_leaves_for : (o : Plan) (p g : ℕ) → (is_member o.node ≡ true → ⊥) → OfLine o → OfLine (leaves_for o p g)
line_leaves_for o p g past h = line_ask_before (with_soft o (record o.node.soft { left = Some p; moves = o.node.soft.moves + 1 })) g (λ member. absurd (past member)) h

line_goes_where : (place : Option ℕ) (o : Plan) (p : ℕ) → (is_member o.node ≡ true → ⊥) → OfLine o → OfLine (goes_where place o p)
line_goes_where None o p past h = h
line_goes_where (Some g) o p past h =
    either (nat_lt o.node.soft.waits (o.node.soft.patience + 2)) OfLine (wishes o (Some g) (o.node.soft.waits + 1)) (leaves_for o p g)
    (line_wishes o (Some g) (o.node.soft.waits + 1) past h) (line_leaves_for o p g past h)

line_weighs : (o : Plan) (p : ℕ) (place : Option ℕ) → (is_member o.node ≡ true → ⊥) → OfLine o → OfLine (weighs o p place)
line_weighs o p place past h =
    let soft : Soft = o.node.soft in
    let doubts : Bool = not (is_place place soft.wish) && nat_lt 0 soft.waits in
    let doubted : Plan = wishes o soft.wish (soft.waits - 1) in
    let wished : Plan = wishes o place soft.waits in
    either (nat_le MAX_MOVES soft.moves) OfLine (wishes o None 0) (if doubts then doubted else goes_where place wished p) (line_wishes o None 0 past h)
    (either doubts OfLine doubted (goes_where place wished p) (line_wishes o soft.wish (soft.waits - 1) past h) (line_goes_where place wished p past (line_wishes o place soft.waits past h)))

line_reviews_place : (o : Plan) (p : ℕ) (s : Stand) → (is_member o.node ≡ true → ⊥) → OfLine o → OfLine (reviews_place o p s)
line_reviews_place o p s past h = line_weighs (searching o None) p (place_in (reviewed (view o.node p s))) past (line_unsearching o h)

line_keeps_line : (o : Plan) (p : ℕ) (s : Stand) → OfLine o → OfLine (keeps_line o p s)
line_keeps_line o p s h = cond_both (is_member o.node && prefers o.node.kept.mode p && nat_lt p o.node.me && s.in_tree) (ask_before o p) (ignored o) OfLine
    (λ all. line_ask_before o p (λ member. ltb-true p o.node.me (and_third (is_member o.node) (prefers o.node.kept.mode p) (nat_lt p o.node.me) s.in_tree all)) h) (λ _. h)

line_sees_as : (m : Mode) (search : Option Search) (o : Plan) (p : ℕ) (s : Stand) → o.node.soft.search ≡ search → OfLine o → OfLine (sees_as m search o p s)
line_sees_as modes.Idle (Some (searches.Descend q)) o p s e h = either (q == p) OfLine (descends o p s) (keeps_line o p s) (line_descends o p s (past_of o (searches.Descend q) e h) h) (line_keeps_line o p s h)
line_sees_as modes.Idle (Some searches.Review) o p s e h = line_keeps_line o p s h
line_sees_as modes.Idle None o p s e h = line_keeps_line o p s h
line_sees_as (modes.Joined q) (Some searches.Review) o p s e h = either (q == p) OfLine (reviews_place o p s) (keeps_line o p s) (line_reviews_place o p s (past_of o searches.Review e h) h) (line_keeps_line o p s h)
line_sees_as (modes.Joined q) (Some (searches.Descend y)) o p s e h = line_keeps_line o p s h
line_sees_as (modes.Joined q) None o p s e h = line_keeps_line o p s h
line_sees_as (modes.Asking q) search o p s e h = line_keeps_line o p s h
line_sees_as modes.Acting search o p s e h = line_keeps_line o p s h

pub line_sees : (o : Plan) (p : ℕ) (s : Stand) → OfLine o → OfLine (sees o p s)
line_sees o p s h = line_sees_as o.node.kept.mode o.node.soft.search o p s refl h
