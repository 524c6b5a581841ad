use Rattle.std.specs.Prelude.{ℕ, ◌+◌, ◌%◌, min, Bool, true, false, not, ◌&&◌, ◌||◌, ◌==◌, nat_lt, if◌then◌else◌, Option, Some, None, unwrap_or, List, [], ◌∷◌, take}
use Rattle.oc_base.specs.declared.rank.Rank.{Rank}
use Rattle.oc_base.specs.declared.refusal.Refusal.{Refusal}
use Rattle.oc_base.specs.declared.refusal.Refusal.TheVariants as refusals
use Rattle.oc_base.specs.Rank.{beneath_of}
use Rattle.oc_model.specs.declared.answer.Answer.TheVariants as words
use Rattle.oc_model.specs.declared.message.Body.TheVariants as bodies
use Rattle.oc_model.specs.declared.mode.Mode.{Mode}
use Rattle.oc_model.specs.declared.mode.Mode.TheVariants as modes
use Rattle.oc_model.specs.declared.record.Record.TheVariants as records
use Rattle.oc_model.specs.declared.soft.Search.{Search}
use Rattle.oc_model.specs.declared.soft.TheConstants.{MAX_PATIENCE}
use Rattle.oc_model.specs.declared.soft.Search.TheVariants.{Descend}
use Rattle.oc_model.specs.Adoption.{rank_or_last, precedes_any}
use Rattle.oc_base.specs.declared.limits.TheConstants.{MAX_ANCESTORS, MAX_DEPTH}
use Rattle.oc_model.specs.Choice.{ask_order}
use Rattle.oc_model.specs.Node.{Control}
use Rattle.oc_model.specs.Numbers.{number_end, raise, is_empty}
use Rattle.oc_model.specs.Plan.{Plan, write, send, answers, with_soft, searching, ignored, is_member}

-- How a node gets a parent or becomes a root: rules 1 to 4 (ask, next try, round, become acting), 8 (take a yes), 9 (take a no),
-- 10 (unreachable) and 11 (relocate).

-- Rule 1, ask: one ask number goes with one peer, so that births and deaths of leases can be put in order by it.

-- the node becomes idle, unless it is idle already
abbrev pub lost_from : Mode → Plan → Plan
lost_from modes.Idle o = o
lost_from mode o = write o records.Lost

abbrev pub lost : Plan → Plan
lost o = lost_from o.node.kept.mode o

-- sends p an ask with the present number
abbrev pub send_ask : Plan → ℕ → Plan
send_ask o p = send o p (bodies.Ask o.node.kept.seq o.node.kept.rank)

-- Rule 1, ask: asks p by the next number; with no number left the node becomes idle and answers `Spent`
abbrev pub ask : Plan → ℕ → Plan
ask o p =
    if o.node.kept.seq == number_end then answers (lost o) words.Spent
    else send_ask (searching (write o (records.Ask (o.node.kept.seq + 1) p)) None) p

-- Rule 4, become acting: whatever joins a new root outranks all that is left of the old tree.

-- the epoch after that of this rank, or the last one where there is no later epoch
abbrev pub next_epoch : Rank → ℕ
next_epoch r = unwrap_or (raise r.epoch) r.epoch

-- Rule 4, become acting: clears the ancestors and takes depth 0 of the next epoch
abbrev pub act : Plan → Plan
act o = write (write o records.Acting) (records.Epoch (next_epoch (rank_or_last o.node.kept.rank)))

-- Rule 2, next try.

-- asks p for its position, on the way down to a first place
abbrev pub descend : Plan → ℕ → Plan
descend o p = send (searching o (Some (Descend p))) p bodies.Look

-- tries p: a node that never had a place begins a descent there, any other node asks p
abbrev pub try_at : Plan → ℕ → Plan
try_at o p = if not (is_member o.node) && is_empty o.node.kept.ancestors then descend o p else ask o p

-- the earlier of two seconds; the second one where the first is not set
abbrev pub earlier : Option ℕ → ℕ → ℕ
earlier None t = t
earlier (Some due) t = min due t

-- leaves the node idle, with its next check in four seconds or sooner
abbrev pub waits_awhile : Plan → Plan
waits_awhile o = answers (with_soft o (record o.node.soft { due = Some (earlier o.node.soft.due (o.node.soft.clock + 4)) })) words.Waiting

-- takes the first of the tries; with none left, a chain member that nobody refused becomes the root
abbrev pub try_first : List ℕ → Plan → Plan
try_first [] o = if is_member o.node && o.node.soft.silent then act o else waits_awhile o
try_first (p ∷ ps) o = try_at (with_soft o (record o.node.soft { tries = ps })) p

-- Rule 2, next try: node 1 becomes acting, and every other node takes the first of its tries
abbrev pub next_try : Plan → Plan
next_try o = if o.node.me == 1 then act o else try_first o.node.soft.tries o

-- Rule 3, round: the nearest living ancestor is the nearest place, and the chain is there when all ancestors are gone.

-- sets the tries to all nodes that may be asked, in their order, except `without`
abbrev pub set_tries : Plan → Option ℕ → Plan
set_tries o without = with_soft o (record o.node.soft { tries = ask_order o.node.me o.node.chain o.node.kept.ancestors without; silent = true })

-- Rule 3, round: sets the tries anew, and takes the first
abbrev pub round : Plan → Option ℕ → Plan
round o without = next_try (set_tries o without)

-- asks p first, and all others after it
abbrev pub ask_before : Plan → ℕ → Plan
ask_before o p = ask (set_tries o (Some p)) p

-- Rule 8, take a yes.

abbrev pub is_asking : Mode → ℕ → Bool
is_asking (modes.Asking q) p = q == p
is_asking mode p = false

-- the ancestors of a child of p, from the ancestors of p
abbrev pub ancestors_by : ℕ → List ℕ → List ℕ
ancestors_by p xs = take MAX_ANCESTORS (p ∷ xs)

-- whether the id, if any, is x
abbrev pub is_id : Option ℕ → ℕ → Bool
is_id None p = false
is_id (Some q) p = q == p

-- whether a node with a wish comes back to the parent that it left for that wish, mostly since the place refused it
abbrev pub comes_back : Option ℕ → Control → ℕ → Bool
comes_back None n p = false
comes_back (Some g) n p = is_id n.soft.left p

-- the patience after one more return; it grows by the id, so that two nodes that want each other's places do not move together
abbrev pub more_patience : Control → ℕ
more_patience n = min (n.soft.patience + (1 + n.me % 3)) MAX_PATIENCE

-- the patience of a node that becomes a child of p
abbrev pub patience_at : Control → ℕ → ℕ
patience_at n p = if comes_back n.soft.wish n p then more_patience n else 0

-- becomes a child of p, with the rank beneath p's and a new change log
abbrev pub joins : Plan → ℕ → Rank → List ℕ → Plan
joins o p r xs =
    with_soft (write (write o (records.Joined p (beneath_of r))) (records.Ancestors (ancestors_by p xs)))
    (record o.node.soft { due = None; tries = []; search = None; wish = None; waits = 0; patience = patience_at o.node p })

-- Rule 8, take a yes: joins p where the answer is to the present ask and p's rank precedes the node's own
abbrev pub took_yes : Plan → ℕ → ℕ → Rank → List ℕ → Plan
took_yes o p seq r xs =
    if is_asking o.node.kept.mode p && seq == o.node.kept.seq && nat_lt r.depth MAX_DEPTH && precedes_any r o.node.kept.rank
    then joins o p r xs
    else ignored o

-- Rule 9, take a no: a live answer shows that this chain member must not act as root.

-- the step after a refusal: a node outside the chain goes on with a descent at the chain member that it was told
abbrev pub refused : Plan → Refusal → Plan
refused o (refusals.Chain k) = if is_member o.node || k == o.node.me then next_try o else descend o k
refused o why = next_try o

-- Rule 9, take a no: becomes idle and goes on, where the answer is to the present ask
abbrev pub took_no : Plan → ℕ → ℕ → Refusal → Plan
took_no o p seq why =
    if is_asking o.node.kept.mode p && seq == o.node.kept.seq
    then refused (with_soft (lost o) (record o.node.soft { silent = false; refused = true })) why
    else ignored o

-- Rule 10, unreachable: the tree mends itself from the nearest ancestor up.

-- the node did not learn p's position: a descent at p takes its next try
abbrev pub not_seen : Option Search → Plan → ℕ → Plan
not_seen (Some (Descend q)) o p = if q == p then next_try (searching o None) else ignored o
not_seen search o p = ignored o

abbrev pub not_reached : Mode → Plan → ℕ → Plan
not_reached (modes.Joined q) o p = if q == p then round (lost o) (Some p) else not_seen o.node.soft.search o p
not_reached (modes.Asking q) o p = if q == p then next_try (lost o) else not_seen o.node.soft.search o p
not_reached mode o p = not_seen o.node.soft.search o p

-- Rule 10, unreachable: a node that lost its parent begins a round, and one that waits for p takes its next try
abbrev pub unreachable : Plan → ℕ → Plan
unreachable o p = not_reached o.node.kept.mode o p

-- Rule 11, relocate.

-- the parent that a node with a wish left last; a move away from a parent counts as leaving it
abbrev pub left_in_move : Mode → Option ℕ → Option ℕ → Option ℕ
left_in_move (modes.Joined q) (Some g) left = Some q
left_in_move mode wish left = left

-- notes the parent of a node with a wish as left, so that a moved node waits longer if it comes back
abbrev pub notes_parent : Plan → Plan
notes_parent o = with_soft o (record o.node.soft { left = left_in_move o.node.kept.mode o.node.soft.wish o.node.soft.left })

-- Rule 11, relocate: asks p as an operator wishes; a chain member goes beneath earlier members alone, and node 1 beneath none
abbrev pub relocate : Plan → ℕ → Plan
relocate o p =
    if p == o.node.me then answers o words.Own
    else if o.node.me == 1 || (is_member o.node && nat_lt o.node.me p) then answers o words.Fixed
    else ask_before (notes_parent o) p
