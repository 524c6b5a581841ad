-- The rules by which a node comes by a parent, or becomes a root, write a few records.
use Rattle.std.proofs.Common.{◌≡◌, ℕ, ◌+◌, ◌≤◌, min, true, false, not, ◌&&◌, ◌||◌, ◌==◌, nat_lt, if◌then◌else◌, Option, Some, None, List, [], ◌∷◌, length, take, refl, arith, length-take}
use Rattle.oc_base.specs.declared.rank.Rank.{Rank}
use Rattle.oc_base.specs.declared.refusal.Refusal.{Refusal}
use Rattle.oc_base.specs.declared.refusal.Refusal.TheVariants as refusals
use Rattle.oc_base.specs.Rank.{beneath_of}
use Rattle.oc_model.specs.declared.answer.Answer.TheVariants as words
use Rattle.oc_model.specs.declared.message.Body.TheVariants as bodies
use Rattle.oc_model.specs.declared.mode.Mode.{Mode}
use Rattle.oc_model.specs.declared.mode.Mode.TheVariants as modes
use Rattle.oc_model.specs.declared.record.Record.TheVariants as records
use Rattle.oc_model.specs.declared.soft.Search.{Search}
use Rattle.oc_model.specs.declared.soft.Search.TheVariants.{Descend}
use Rattle.oc_model.specs.declared.soft.Soft.{Soft}
use Rattle.oc_model.specs.Adoption.{rank_or_last, precedes_any}
use Rattle.oc_base.specs.declared.limits.TheConstants.{MAX_DEPTH, MAX_ANCESTORS}
use Rattle.oc_model.specs.Asking.{lost_from, lost, send_ask, ask, next_epoch, act, descend, try_at, earlier, waits_awhile, try_first, next_try, set_tries, round, ask_before, is_asking, ancestors_by, patience_at, joins, took_yes, refused, took_no, not_seen, not_reached, unreachable, left_in_move, notes_parent, relocate}
use Rattle.oc_model.specs.Choice.{ask_order}
use Rattle.oc_model.specs.Numbers.{number_end, is_empty}
use Rattle.oc_model.specs.Plan.{Plan, write, answers, with_soft, searching, ignored, is_member}
use Rattle.oc_laws_step.proofs.Goes.{Goes, either, goes_itself, goes_then, goes_within, goes_write, goes_soft, then_send, then_soft, then_answers, then_other, goes_free, goes_says}

goes_lost_from : (m : Mode) (o : Plan) → Goes 0 1 o (lost_from m o)
goes_lost_from modes.Idle o = goes_free 0 1 o o (goes_itself o)
goes_lost_from m o = goes_write o records.Lost tt

-- a parent that is lost is one record at most
pub goes_lost : (o : Plan) → Goes 0 1 o (lost o)
goes_lost o = goes_lost_from o.node.kept.mode o

-- so is an ask
pub goes_ask : (o : Plan) (p : ℕ) → Goes 0 1 o (ask o p)
goes_ask o p =
    either (o.node.kept.seq == number_end) (Goes 0 1 o) (answers (lost o) words.Spent) (send_ask (searching (write o (records.Ask (o.node.kept.seq + 1) p)) None) p)
    (then_answers 0 1 o (lost o) words.Spent (goes_lost o))
    (then_send 0 1 o (searching (write o (records.Ask (o.node.kept.seq + 1) p)) None) p (bodies.Ask (o.node.kept.seq + 1) o.node.kept.rank)
    (then_soft 0 1 o (write o (records.Ask (o.node.kept.seq + 1) p)) (record o.node.soft { search = None })
    (goes_write o (records.Ask (o.node.kept.seq + 1) p) (λ e. omega arith))))

-- a root is two records
pub goes_act : (o : Plan) → Goes 0 2 o (act o)
goes_act o =
    goes_then 0 1 0 1 o (write o records.Acting) (act o) (goes_write o records.Acting tt)
    (goes_write (write o records.Acting) (records.Epoch (next_epoch (rank_or_last o.node.kept.rank))) tt)

-- a question is none
pub goes_descend : (e k : ℕ) (o : Plan) (p : ℕ) → Goes e k o (descend o p)
goes_descend e k o p =
    goes_free e k o (descend o p)
    (then_send 0 0 o (searching o (Some (Descend p))) p bodies.Look (goes_soft o (record o.node.soft { search = Some (Descend p) })))

goes_try_at : (o : Plan) (p : ℕ) → Goes 0 1 o (try_at o p)
goes_try_at o p = either (not (is_member o.node) && is_empty o.node.kept.ancestors) (Goes 0 1 o) (descend o p) (ask o p) (goes_descend 0 1 o p) (goes_ask o p)

goes_waits_awhile : (e k : ℕ) (o : Plan) → Goes e k o (waits_awhile o)
goes_waits_awhile e k o =
    let later : Soft = record o.node.soft { due = Some (earlier o.node.soft.due (o.node.soft.clock + 4)) } in
    goes_free e k o (waits_awhile o) (then_answers 0 0 o (with_soft o later) words.Waiting (goes_soft o later))

goes_try_first : (ps : List ℕ) (o : Plan) → Goes 0 2 o (try_first ps o)
goes_try_first [] o = either (is_member o.node && o.node.soft.silent) (Goes 0 2 o) (act o) (waits_awhile o) (goes_act o) (goes_waits_awhile 0 2 o)
goes_try_first (p ∷ ps) o =
    goes_within 0 1 0 2 o (try_first (p ∷ ps) o) (omega arith) (omega arith)
    (goes_then 0 0 0 1 o (with_soft o (record o.node.soft { tries = ps })) (try_first (p ∷ ps) o) (goes_soft o (record o.node.soft { tries = ps }))
    (goes_try_at (with_soft o (record o.node.soft { tries = ps })) p))

pub goes_next_try : (o : Plan) → Goes 0 2 o (next_try o)
goes_next_try o = either (o.node.me == 1) (Goes 0 2 o) (act o) (try_first o.node.soft.tries o) (goes_act o) (goes_try_first o.node.soft.tries o)

pub goes_set_tries : (o : Plan) (without : Option ℕ) → Goes 0 0 o (set_tries o without)
goes_set_tries o without = goes_soft o (record o.node.soft { tries = ask_order o.node.me o.node.chain o.node.kept.ancestors without; silent = true })

pub goes_round : (o : Plan) (without : Option ℕ) → Goes 0 2 o (round o without)
goes_round o without = goes_then 0 0 0 2 o (set_tries o without) (round o without) (goes_set_tries o without) (goes_next_try (set_tries o without))

pub goes_ask_before : (o : Plan) (p : ℕ) → Goes 0 1 o (ask_before o p)
goes_ask_before o p = goes_then 0 0 0 1 o (set_tries o (Some p)) (ask_before o p) (goes_set_tries o (Some p)) (goes_ask (set_tries o (Some p)) p)

-- the ancestors of a child are not too many
pub few_ancestors : (p : ℕ) (xs : List ℕ) → length (ancestors_by p xs) ≤ MAX_ANCESTORS
few_ancestors p xs = let e : length (take 999 xs) ≡ min 999 (length xs) = length-take 999 xs in omega arith

goes_joins : (o : Plan) (p : ℕ) (r : Rank) (xs : List ℕ) → Goes 0 2 o (joins o p r xs)
goes_joins o p r xs =
    then_soft 0 2 o (write (write o (records.Joined p (beneath_of r))) (records.Ancestors (ancestors_by p xs)))
    (record o.node.soft { due = None; tries = []; search = None; wish = None; waits = 0; patience = patience_at o.node p })
    (then_other 1 o (write o (records.Joined p (beneath_of r))) (records.Ancestors (ancestors_by p xs)) refl (few_ancestors p xs) (goes_write o (records.Joined p (beneath_of r)) tt))

pub goes_took_yes : (o : Plan) (p seq : ℕ) (r : Rank) (xs : List ℕ) → Goes 0 2 o (took_yes o p seq r xs)
goes_took_yes o p seq r xs =
    either (is_asking o.node.kept.mode p && seq == o.node.kept.seq && nat_lt r.depth MAX_DEPTH && precedes_any r o.node.kept.rank) (Goes 0 2 o) (joins o p r xs) (ignored o)
    (goes_joins o p r xs) (goes_says 0 2 o words.Ignored)

goes_refused : (o : Plan) (why : Refusal) → Goes 0 2 o (refused o why)
goes_refused o (refusals.Chain k) = either (is_member o.node || k == o.node.me) (Goes 0 2 o) (next_try o) (descend o k) (goes_next_try o) (goes_descend 0 2 o k)
goes_refused o why = goes_next_try o

-- the node that has no parent any more
abbrev heard : Plan → Plan
heard o = with_soft (lost o) (record o.node.soft { silent = false; refused = true })

pub goes_took_no : (o : Plan) (p seq : ℕ) (why : Refusal) → Goes 0 3 o (took_no o p seq why)
goes_took_no o p seq why =
    either (is_asking o.node.kept.mode p && seq == o.node.kept.seq) (Goes 0 3 o) (refused (heard o) why) (ignored o)
    (goes_then 0 1 0 2 o (heard o) (refused (heard o) why) (then_soft 0 1 o (lost o) (record o.node.soft { silent = false; refused = true }) (goes_lost o)) (goes_refused (heard o) why))
    (goes_says 0 3 o words.Ignored)

goes_not_seen : (s : Option Search) (o : Plan) (p : ℕ) → Goes 0 3 o (not_seen s o p)
goes_not_seen (Some (Descend q)) o p =
    either (q == p) (Goes 0 3 o) (next_try (searching o None)) (ignored o)
    (goes_within 0 2 0 3 o (next_try (searching o None)) (omega arith) (omega arith)
    (goes_then 0 0 0 2 o (searching o None) (next_try (searching o None)) (goes_soft o (record o.node.soft { search = None })) (goes_next_try (searching o None))))
    (goes_says 0 3 o words.Ignored)
goes_not_seen s o p = goes_says 0 3 o words.Ignored

goes_not_reached : (m : Mode) (o : Plan) (p : ℕ) → Goes 0 3 o (not_reached m o p)
goes_not_reached (modes.Joined q) o p =
    either (q == p) (Goes 0 3 o) (round (lost o) (Some p)) (not_seen o.node.soft.search o p)
    (goes_then 0 1 0 2 o (lost o) (round (lost o) (Some p)) (goes_lost o) (goes_round (lost o) (Some p)))
    (goes_not_seen o.node.soft.search o p)
goes_not_reached (modes.Asking q) o p =
    either (q == p) (Goes 0 3 o) (next_try (lost o)) (not_seen o.node.soft.search o p)
    (goes_then 0 1 0 2 o (lost o) (next_try (lost o)) (goes_lost o) (goes_next_try (lost o)))
    (goes_not_seen o.node.soft.search o p)
goes_not_reached m o p = goes_not_seen o.node.soft.search o p

pub goes_unreachable : (o : Plan) (p : ℕ) → Goes 0 3 o (unreachable o p)
goes_unreachable o p = goes_not_reached o.node.kept.mode o p

pub goes_relocate : (o : Plan) (p : ℕ) → Goes 0 1 o (relocate o p)
goes_relocate o p =
    either (p == o.node.me) (Goes 0 1 o) (answers o words.Own) (if o.node.me == 1 || (is_member o.node && nat_lt o.node.me p) then answers o words.Fixed else ask_before (notes_parent o) p)
    (goes_says 0 1 o words.Own)
    (either (o.node.me == 1 || (is_member o.node && nat_lt o.node.me p)) (Goes 0 1 o) (answers o words.Fixed) (ask_before (notes_parent o) p)
    (goes_says 0 1 o words.Fixed)
    (goes_then 0 0 0 1 o (notes_parent o) (ask_before (notes_parent o) p)
    (goes_soft o (record o.node.soft { left = left_in_move o.node.kept.mode o.node.soft.wish o.node.soft.left }))
    (goes_ask_before (notes_parent o) p)))
