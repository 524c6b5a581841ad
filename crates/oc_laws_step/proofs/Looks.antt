-- Rule 12, look, writes the records of an ask or of a root, if any.
use Rattle.std.proofs.Common.{ℕ, ◌+◌, ◌-◌, not, ◌&&◌, ◌==◌, nat_lt, nat_le, if◌then◌else◌, Option, Some, None, arith}
use Rattle.oc_model.specs.declared.answer.Answer.TheVariants as words
use Rattle.oc_model.specs.declared.mode.Mode.{Mode}
use Rattle.oc_model.specs.declared.mode.Mode.TheVariants as modes
use Rattle.oc_model.specs.declared.soft.Search.{Search}
use Rattle.oc_model.specs.declared.soft.Search.TheVariants as searches
use Rattle.oc_model.specs.declared.soft.Soft.{Soft}
use Rattle.oc_model.specs.declared.soft.TheConstants.{MAX_MOVES}
use Rattle.oc_model.specs.Asking.{ask, ask_before, next_try}
use Rattle.oc_model.specs.Choice.{chosen, reviewed}
use Rattle.oc_model.specs.Looking.{looked, Stand, candidates, goes_down, descends, view, place_in, is_place, wishes, leaves_for, goes_where, weighs, reviews_place, prefers, keeps_line, sees_as, sees}
use Rattle.oc_model.specs.Plan.{Plan, with_soft, searching, ignored, is_member, rate_to}
use Rattle.oc_laws_step.proofs.Goes.{Goes, either, goes_itself, goes_then, goes_within, goes_send, goes_soft, goes_free, goes_says}
use Rattle.oc_laws_step.proofs.Asks.{goes_ask, goes_ask_before, goes_descend, goes_next_try}

pub goes_looked : (o : Plan) (p : ℕ) → Goes 0 0 o (looked o p)
goes_looked o p = goes_send o p _

goes_goes_down : (k : Option ℕ) (o : Plan) (p : ℕ) → Goes 0 2 o (goes_down k o p)
goes_goes_down None o p = goes_within 0 1 0 2 o (ask o p) (omega arith) (omega arith) (goes_ask o p)
goes_goes_down (Some k) o p = goes_descend 0 2 o k

goes_ends_search : (o : Plan) → Goes 0 0 o (searching o None)
goes_ends_search o = goes_soft o (record o.node.soft { search = None })

goes_descends : (o : Plan) (p : ℕ) (s : Stand) → Goes 0 2 o (descends o p s)
goes_descends o p s =
    either s.in_tree (Goes 0 2 o) (goes_down (chosen (rate_to o.node p) (candidates o.node s.children)) o p) (next_try (searching o None))
    (goes_goes_down (chosen (rate_to o.node p) (candidates o.node s.children)) o p)
    (goes_then 0 0 0 2 o (searching o None) (next_try (searching o None)) (goes_ends_search o) (goes_next_try (searching o None)))

goes_wishes : (e k : ℕ) (o : Plan) (place : Option ℕ) (count : ℕ) → Goes e k o (wishes o place count)
goes_wishes e k o place count = goes_free e k o (wishes o place count) (goes_soft o (record o.node.soft { wish = place; waits = count }))

goes_leaves_for : (o : Plan) (p g : ℕ) → Goes 0 1 o (leaves_for o p g)
goes_leaves_for o p g =
    let left : Soft = record o.node.soft { left = Some p; moves = o.node.soft.moves + 1 } in
    goes_then 0 0 0 1 o (with_soft o left) (leaves_for o p g) (goes_soft o left) (goes_ask_before (with_soft o left) g)

goes_goes_where : (place : Option ℕ) (o : Plan) (p : ℕ) → Goes 0 1 o (goes_where place o p)
goes_goes_where None o p = goes_free 0 1 o o (goes_itself o)
goes_goes_where (Some g) o p =
    either (nat_lt o.node.soft.waits (o.node.soft.patience + 2)) (Goes 0 1 o) (wishes o (Some g) (o.node.soft.waits + 1)) (leaves_for o p g)
    (goes_wishes 0 1 o (Some g) (o.node.soft.waits + 1)) (goes_leaves_for o p g)

goes_weighs : (o : Plan) (p : ℕ) (place : Option ℕ) → Goes 0 1 o (weighs o p place)
goes_weighs o p place =
    let soft : Soft = o.node.soft in
    let doubted : Plan = wishes o soft.wish (soft.waits - 1) in
    let wished : Plan = wishes o place soft.waits in
    either (nat_le MAX_MOVES soft.moves) (Goes 0 1 o) (wishes o None 0) (if not (is_place place soft.wish) && nat_lt 0 soft.waits then doubted else goes_where place wished p)
    (goes_wishes 0 1 o None 0)
    (either (not (is_place place soft.wish) && nat_lt 0 soft.waits) (Goes 0 1 o) doubted (goes_where place wished p)
    (goes_wishes 0 1 o soft.wish (soft.waits - 1))
    (goes_then 0 0 0 1 o wished (goes_where place wished p) (goes_wishes 0 0 o place soft.waits) (goes_goes_where place wished p)))

goes_reviews : (o : Plan) (p : ℕ) (s : Stand) → Goes 0 2 o (reviews_place o p s)
goes_reviews o p s =
    goes_within 0 1 0 2 o (reviews_place o p s) (omega arith) (omega arith)
    (goes_then 0 0 0 1 o (searching o None) (reviews_place o p s) (goes_ends_search o) (goes_weighs (searching o None) p (place_in (reviewed (view o.node p s)))))

goes_keeps_line : (o : Plan) (p : ℕ) (s : Stand) → Goes 0 2 o (keeps_line o p s)
goes_keeps_line o p s =
    either (is_member o.node && prefers o.node.kept.mode p && nat_lt p o.node.me && s.in_tree) (Goes 0 2 o) (ask_before o p) (ignored o)
    (goes_within 0 1 0 2 o (ask_before o p) (omega arith) (omega arith) (goes_ask_before o p))
    (goes_says 0 2 o words.Ignored)

goes_sees_as : (m : Mode) (search : Option Search) (o : Plan) (p : ℕ) (s : Stand) → Goes 0 2 o (sees_as m search o p s)
goes_sees_as modes.Idle (Some (searches.Descend q)) o p s = either (q == p) (Goes 0 2 o) (descends o p s) (keeps_line o p s) (goes_descends o p s) (goes_keeps_line o p s)
goes_sees_as (modes.Joined q) (Some searches.Review) o p s = either (q == p) (Goes 0 2 o) (reviews_place o p s) (keeps_line o p s) (goes_reviews o p s) (goes_keeps_line o p s)
goes_sees_as m search o p s = goes_keeps_line o p s

pub goes_sees : (o : Plan) (p : ℕ) (s : Stand) → Goes 0 2 o (sees o p s)
goes_sees o p s = goes_sees_as o.node.kept.mode o.node.soft.search o p s
