-- The rule for a node that is not reached, as choices by tests.
use Rattle.std.specs.Option.{option_or}
use Rattle.std.proofs.Common.{◌≡◌, ℕ, if◌then◌else◌, Option, Some, None, refl}
use Rattle.oc_model.specs.declared.mode.Mode.{Mode}
use Rattle.oc_model.specs.declared.mode.Mode.TheVariants as modes
use Rattle.oc_model.specs.declared.soft.Search.{Search}
use Rattle.oc_model.specs.declared.soft.Search.TheVariants as searches
use Rattle.oc_model.specs.Asking.{is_asking, left_in_move, lost, next_try, not_seen, not_reached, round, unreachable}
use Rattle.oc_model.specs.Checking.{is_joined_to}
use Rattle.oc_model.specs.Looking.{parent_of}
use Rattle.oc_model.specs.Plan.{Plan, searching, ignored}
use Rattle.oc_state.specs.Modes.{is_descending}

pub not_seen_is : (s : Option Search) (o : Plan) (p : ℕ) → not_seen s o p ≡ (if is_descending s p then next_try (searching o None) else ignored o)
not_seen_is None o p = refl
not_seen_is (Some (searches.Descend q)) o p = refl
not_seen_is (Some searches.Review) o p = refl

not_reached_is : (m : Mode) (o : Plan) (p : ℕ) → not_reached m o p ≡ (if is_joined_to m p then round (lost o) (Some p) else if is_asking m p then next_try (lost o) else not_seen o.node.soft.search o p)
not_reached_is modes.Idle o p = refl
not_reached_is (modes.Asking q) o p = refl
not_reached_is (modes.Joined q) o p = refl
not_reached_is modes.Acting o p = refl

pub unreachable_is : (o : Plan) (p : ℕ) → unreachable o p ≡ (if is_joined_to o.node.kept.mode p then round (lost o) (Some p) else if is_asking o.node.kept.mode p then next_try (lost o) else not_seen o.node.soft.search o p)
unreachable_is o p = not_reached_is o.node.kept.mode o p

-- the parent that a moved node with a wish left: its present parent, or else the one noted before
pub left_with_wish : (m : Mode) (g : ℕ) (left : Option ℕ) → left_in_move m (Some g) left ≡ option_or (parent_of m) left
left_with_wish modes.Idle g left = refl
left_with_wish (modes.Asking q) g left = refl
left_with_wish (modes.Joined q) g left = refl
left_with_wish modes.Acting g left = refl

-- nothing is noted at a node without a wish
pub left_without : (m : Mode) (left : Option ℕ) → left_in_move m None left ≡ left
left_without modes.Idle left = refl
left_without (modes.Asking q) left = refl
left_without (modes.Joined q) left = refl
left_without modes.Acting left = refl
