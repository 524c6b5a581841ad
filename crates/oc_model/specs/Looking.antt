use Rattle.std.specs.Prelude.{ℕ, ◌+◌, ◌-◌, Bool, true, false, not, ◌&&◌, ◌||◌, ◌==◌, nat_lt, nat_le, if◌then◌else◌, Option, Some, None, List, map, filter}
use Rattle.oc_base.specs.declared.cert.Child.{Child}
use Rattle.oc_model.specs.declared.message.Body.TheVariants as bodies
use Rattle.oc_model.specs.declared.mode.Mode.{Mode}
use Rattle.oc_model.specs.declared.mode.Mode.TheVariants as modes
use Rattle.oc_model.specs.declared.place.Candidate.{Candidate}
use Rattle.oc_model.specs.declared.place.Review.{Review}
use Rattle.oc_model.specs.declared.place.Review.TheVariants as reviews
use Rattle.oc_model.specs.declared.soft.Search.{Search}
use Rattle.oc_model.specs.declared.soft.Search.TheVariants as searches
use Rattle.oc_model.specs.declared.soft.TheConstants.{MAX_MOVES}
use Rattle.oc_model.specs.Adopting.{in_tree}
use Rattle.oc_model.specs.Asking.{ask, ask_before, descend, next_try}
use Rattle.oc_model.specs.Choice.{View, chosen, reviewed}
use Rattle.oc_model.specs.Measures.{reading_of}
use Rattle.oc_model.specs.Node.{Control}
use Rattle.oc_model.specs.Numbers.{at, has}
use Rattle.oc_model.specs.Plan.{Plan, send, with_soft, searching, ignored, is_member, rate_to}
use Rattle.oc_model.specs.Table.{leased_children}

-- Rule 12, look: how a node finds a good place.

abbrev pub parent_of : Mode → Option ℕ
parent_of (modes.Joined p) = Some p
parent_of mode = None

abbrev pub rate_to_some : Control → Option ℕ → ℕ
rate_to_some n None = 0
rate_to_some n (Some p) = rate_to n p

-- the leased children with the rates that they told last, ascending, without ancestors, below which a search would go in a ring
abbrev pub children : Control → List Child
children n = map (λ x. record { id = x; rate = at n.rates x 0 }) (filter (λ x. not (has n.kept.ancestors x)) (leased_children n.kept.table n.me))

-- Rule 12, look: tells p the node's position
abbrev pub looked : Plan → ℕ → Plan
looked o p = send o p (bodies.LookIs (in_tree o.node.kept.mode) (parent_of o.node.kept.mode) (rate_to_some o.node (parent_of o.node.kept.mode)) (children o.node))

-- the position of another node, as that node told it
pub record Stand : Type 0 where
  pub in_tree : Bool
  pub parent : Option ℕ
  pub rate : ℕ
  pub children : List Child

abbrev pub candidate : Control → Child → Candidate
candidate n c = record { id = c.id; mine = (reading_of n.kept.measures c.id).rate; up = c.rate; hops = (reading_of n.kept.measures c.id).hops }

-- the children that p told, without the node itself
abbrev pub candidates : Control → List Child → List Candidate
candidates n cs = map (candidate n) (filter (λ c. not (c.id == n.me)) cs)

-- goes on with the descent at the chosen child, or asks p where no child is as good
abbrev pub goes_down : Option ℕ → Plan → ℕ → Plan
goes_down None o p = ask o p
goes_down (Some k) o p = descend o k

-- Rule 12, a descent: the node learns p's position, and goes on
abbrev pub descends : Plan → ℕ → Stand → Plan
descends o p s =
    if s.in_tree then goes_down (chosen (rate_to o.node p) (candidates o.node s.children)) o p
    else next_try (searching o None)

-- the grandparent with this node's own rate to it; none where it is the node itself, or a chain member above a parent in the chain,
-- since a chain member with another one below it refuses every other asker
abbrev pub grandparent : Control → ℕ → Option ℕ → Option (ℕ × ℕ)
grandparent n p None = None
grandparent n p (Some g) = if g == n.me || (nat_le p n.chain && nat_le g n.chain) then None else Some (g, rate_to n g)

-- the node's present place, below the parent p
abbrev pub view : Control → ℕ → Stand → View
view n p s = record { direct = rate_to n p; up = s.rate; grand = grandparent n p s.parent; siblings = candidates n s.children }

-- the place that a review speaks for, if it is another one than the present place
abbrev pub place_in : Review → Option ℕ
place_in reviews.Stay = None
place_in (reviews.Up g) = Some g
place_in (reviews.Beneath k) = Some k

abbrev pub is_place : Option ℕ → Option ℕ → Bool
is_place None None = true
is_place (Some g) (Some k) = g == k
is_place one another = false

-- sets the wish, and the number of reviews that spoke for it
abbrev pub wishes : Plan → Option ℕ → ℕ → Plan
wishes o place count = with_soft o (record o.node.soft { wish = place; waits = count })

-- leaves the parent p, and asks g
abbrev pub leaves_for : Plan → ℕ → ℕ → Plan
leaves_for o p g = ask_before (with_soft o (record o.node.soft { left = Some p; moves = o.node.soft.moves + 1 })) g

-- counts a review for g, or asks g after enough of them
abbrev pub goes_where : Option ℕ → Plan → ℕ → Plan
goes_where None o p = o
goes_where (Some g) o p =
    if nat_lt o.node.soft.waits (o.node.soft.patience + 2) then wishes o (Some g) (o.node.soft.waits + 1)
    else leaves_for o p g

-- Rule 12, a review at the parent p speaks for this place: measures of one line differ from time to time, so a review for another
-- place than the wish only makes the wish doubtful; a node that has moved eight times stays
abbrev pub weighs : Plan → ℕ → Option ℕ → Plan
weighs o p place =
    if nat_le MAX_MOVES o.node.soft.moves then wishes o None 0
    else if not (is_place place o.node.soft.wish) && nat_lt 0 o.node.soft.waits then wishes o o.node.soft.wish (o.node.soft.waits - 1)
    else goes_where place (wishes o place o.node.soft.waits) p

-- Rule 12, a review: the node learns the position of its parent p, and weighs the place that it finds
abbrev pub reviews_place : Plan → ℕ → Stand → Plan
reviews_place o p s = weighs (searching o None) p (place_in (reviewed (view o.node p s)))

-- whether a chain member prefers p: it is acting, or its parent is an earlier member than p
abbrev pub prefers : Mode → ℕ → Bool
prefers modes.Acting p = true
prefers (modes.Joined q) p = nat_lt q p
prefers mode p = false

-- Rule 12, the line of the chain: a chain member asks the nearest earlier member that is in the tree
abbrev pub keeps_line : Plan → ℕ → Stand → Plan
keeps_line o p s =
    if is_member o.node && prefers o.node.kept.mode p && nat_lt p o.node.me && s.in_tree then ask_before o p
    else ignored o

abbrev pub sees_as : Mode → Option Search → Plan → ℕ → Stand → Plan
sees_as modes.Idle (Some (searches.Descend q)) o p s = if q == p then descends o p s else keeps_line o p s
sees_as (modes.Joined q) (Some searches.Review) o p s = if q == p then reviews_place o p s else keeps_line o p s
sees_as mode search o p s = keeps_line o p s

-- Rule 12, look, at the asker: takes the position of p
abbrev pub sees : Plan → ℕ → Stand → Plan
sees o p s = sees_as o.node.kept.mode o.node.soft.search o p s
