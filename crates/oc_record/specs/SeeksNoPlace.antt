-- Nodes that are on no descent, since they are chain members or roots.
use Rattle.std.specs.Prelude.{◌≡◌, ◌≤◌, true, Option, Some}
use Rattle.oc_model.specs.declared.mode.Mode.TheVariants.{Acting}
use Rattle.oc_model.specs.declared.soft.Search.{Search}
use Rattle.oc_model.specs.declared.soft.Search.TheVariants.{Descend}
use Rattle.oc_model.specs.Node.{Control}
use Rattle.oc_model.specs.Plan.{is_member}

-- the node is not on a descent
abbrev pub NoDescent : Option Search → Type 0
NoDescent (Some (Descend p)) = ⊥
NoDescent s = Unit {0}

-- there is a chain, and neither its members nor a root are on a descent
pub record SeeksNoPlace (n : Control) : Type 0 where
  pub line : 1 ≤ n.chain
  pub member : is_member n ≡ true → NoDescent n.soft.search
  pub acting : n.kept.mode ≡ Acting → NoDescent n.soft.search
