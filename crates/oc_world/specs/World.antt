-- The world as contracts see it, and the properties of its parts.
use Rattle.std.specs.Prelude.{◌≡◌, ℕ, ◌-◌, ◌≤◌, Option, Some, None, List, length, map, get_or}
use Rattle.std.specs.List.{AllByRecursion, range_with_len}
use Rattle.oc_base.specs.declared.limits.TheConstants.{MAX_NODES}
use Rattle.oc_io.specs.MemDiskView.{MemDiskView}
use Rattle.oc_keep.specs.KeptView.{KeptView}
use Rattle.oc_model.specs.declared.event.Event.{Event}
use Rattle.oc_model.specs.declared.event.Event.TheVariants.{Do}
use Rattle.oc_model.specs.declared.message.Message.{Message}
use Rattle.oc_model.specs.World.{Arrival, Process, World, arrival, process_in}
use Rattle.oc_model.specs.WorldBounds.{AreWithinLimits}
use Rattle.oc_world.specs.ProcessView.{ProcessView, Renews}

-- the world of the model, and for each node, by its number, the node on its files while it is up
pub record WorldView : Type 0 where
  pub world : World
  pub kept : List (Option (KeptView MemDiskView))

-- the node x on its files, while it is up
abbrev pub kept_at : WorldView → ℕ → Option (KeptView MemDiskView)
kept_at w x = get_or w.kept (x - 1) None

-- Turning over

-- an input to a node that is up leaves its control files with a greater generation, where they were ripe
abbrev pub RenewsAt : Option Arrival → WorldView → WorldView → Type 0
RenewsAt None old new = Unit {0}
RenewsAt (Some a) old new = Renews (kept_at old a.at) (kept_at new a.at)

-- an act without a stop does so
abbrev pub RenewsBy : Event → WorldView → WorldView → Type 0
RenewsBy (Do act) old new = RenewsAt (arrival old.world act) old new
RenewsBy e old new = Unit {0}

-- The parts of a world

-- the model's processes
abbrev pub processes_of : List ProcessView → List Process
processes_of ps = map (λ p. p.process) ps

-- the world of these processes and messages: the source is the content of node 1
abbrev pub world_of : List Process → List Message → World
world_of ps net = record { processes = ps; net = net; source = (process_in ps 1).node.groups }

abbrev pub seen_as : List ProcessView → List Message → WorldView
seen_as ps net = record { world = world_of (processes_of ps) net; kept = map (λ p. p.kept) ps }

-- the ids are 1, 2 and so on
abbrev pub IsNumbered : List Process → Type 0
IsNumbered ps = map (λ p. p.node.control.me) ps ≡ range_with_len 1 (length ps)

-- a process among `nodes` nodes, with a chain of this length, and groups within the limits
pub record IsAmong (nodes chain : ℕ) (p : Process) : Type 0 where
  pub among : p.node.control.nodes ≡ nodes
  pub members : p.node.control.chain ≡ chain
  pub limits : AreWithinLimits p.node.groups

-- numbered processes of one network, with messages between the same number of nodes
pub record IsNetwork (chain : ℕ) (ps : List Process) (nodes : ℕ) : Type 0 where
  pub numbered : IsNumbered ps
  pub few : length ps ≤ MAX_NODES
  pub net : nodes ≡ length ps
  pub each : AllByRecursion (IsAmong nodes chain) ps
