use Rattle.std.specs.Prelude.{◌≡◌, Some}
use Rattle.oc_base.specs.declared.group.Group.{Group}
use Rattle.oc_model.specs.declared.input.Input.{Input}
use Rattle.oc_model.specs.declared.input.Input.TheVariants.{Client}
use Rattle.oc_base.specs.Groups.{group_of}
use Rattle.oc_model.specs.Node.{Node}

-- The requests that a node may answer by a redirection.

-- a client asks the node for a group that the node holds
abbrev pub AsksForHeld : Node → Input → Type 0
AsksForHeld n (Client area start g) = (k : Group) × (group_of g n.groups ≡ Some k)
AsksForHeld n i = ⊥
