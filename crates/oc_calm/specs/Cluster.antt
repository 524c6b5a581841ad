-- The acts that a cluster takes, and the parts of the world that it shows.
use Rattle.std.specs.Prelude.{◌≡◌, ℕ, ◌≤◌, nat_le, Bool, true, false, Option, Some, List, length}
use Rattle.std.specs.List.{range_with_len}
use Rattle.oc_base.specs.Lawful.{IsNode, IsLong}
use Rattle.oc_base.specs.declared.limits.TheConstants.{LAST_SECOND}
use Rattle.oc_model.specs.declared.event.Act.{Act}
use Rattle.oc_model.specs.declared.event.Act.TheVariants as acts
use Rattle.oc_model.specs.declared.input.Input.TheVariants as inputs
use Rattle.oc_model.specs.declared.message.Body.{Body}
use Rattle.oc_model.specs.declared.message.Body.TheVariants.{CheckAck}
use Rattle.oc_model.specs.declared.mode.Mode.{Mode}
use Rattle.oc_model.specs.declared.mode.Mode.TheVariants.{Asking, Joined}
use Rattle.oc_model.specs.Chains.{IsUp}
use Rattle.oc_model.specs.Lawful.{IsInput}
use Rattle.oc_model.specs.Plan.{is_member}
use Rattle.oc_model.specs.Table.{leased_by}
use Rattle.oc_model.specs.World.{World, node, ids, up_ids}
use Rattle.oc_model.specs.WorldBounds.{clock_of}

-- x is the id of a node of this world
abbrev pub IsNodeOf : World → ℕ → Type 0
IsNodeOf w x = IsNode (length (ids w)) x

-- x is the id of a node of this world that is up
abbrev pub IsUpNode : World → ℕ → Type 0
IsUpNode w x = IsNodeOf w x × IsUp w x

-- an act that a cluster of `nodes` nodes takes: any input of a node, or a delivery of any message number
abbrev pub IsStep : ℕ → Act → Type 0
IsStep nodes (acts.At x i) = IsNode nodes x × IsInput nodes x i
IsStep nodes (acts.Deliver k) = IsLong k

abbrev pub IsStepOf : World → Act → Type 0
IsStepOf w a = IsStep (length (ids w)) a

-- the peer of a mode, if it has one, is a node of this world
abbrev pub HasPeerOf : World → Mode → Type 0
HasPeerOf w (Asking p) = IsNodeOf w p
HasPeerOf w (Joined p) = IsNodeOf w p
HasPeerOf w mode = Unit {0}

-- each lease that y holds is the lease of a node of this world
pub record HasNoStranger (w : World) (y : ℕ) : Type 0 where
  pub node : (x seq : ℕ) → leased_by (node w y).control.kept.table y x ≡ Some seq → IsNodeOf w x

-- the chain members are the nodes with the ids up to the chain's length
pub record HasChain (w : World) (chain : ℕ) : Type 0 where
  pub members : (x : ℕ) → IsNodeOf w x → is_member (node w x).control ≡ nat_le x chain

-- whether a message acknowledges a check-in
abbrev pub is_ack : Option Body → Bool
is_ack (Some (CheckAck seq upto rank ancestors)) = true
is_ack b = false

-- no clock of a node that is up is past this second
abbrev pub UpAreBefore : ℕ → World → Type 0
UpAreBefore t w = (x : ℕ) → IsUp w x → clock_of w x ≤ t

-- the ids are 1, 2 and so on
abbrev pub IsNumbered : World → Type 0
IsNumbered w = ids w ≡ range_with_len 1 (length (ids w))

-- these are the nodes that are up, in a world with such ids
pub record IsRoll (w : World) (xs : List ℕ) : Type 0 where
  pub ids : IsNumbered w
  pub up : xs ≡ up_ids w
