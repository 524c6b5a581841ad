-- Lawful addresses, works, news, and states kept for probes.
use Rattle.std.specs.Prelude.{◌≡◌, ℕ, ◌<◌, ◌≤◌, Option, IfSome, List, length}
use Rattle.std.specs.List.{AllByRecursion}
use Rattle.oc_base.specs.Lawful.{IsNode}
use Rattle.oc_http.specs.Writing.{IsHost}
use Rattle.oc_model.specs.Lawful.{IsInput}
use Rattle.oc_probe.specs.declared.probing.Probing.{Probing}
use Rattle.oc_routes.specs.Asks.{IsLawfulVerdict}
use Rattle.oc_routes.specs.Lawful.{IsAsking}
use Rattle.oc_routes.specs.Responses.{address_of}
use Rattle.oc_deeds.specs.Works.{client_input}
use Rattle.oc_deeds.specs.declared.came.Came.{Came}
use Rattle.oc_deeds.specs.declared.came.Came.TheVariants as comes
use Rattle.oc_deeds.specs.declared.dials.Dialling.{Dialling}
use Rattle.oc_deeds.specs.declared.dials.Errand.{Errand}
use Rattle.oc_deeds.specs.declared.dials.Errand.TheVariants as errands
use Rattle.oc_deeds.specs.declared.work.Waiting.{Waiting}
use Rattle.oc_deeds.specs.declared.work.Work.{Work}
use Rattle.oc_deeds.specs.declared.work.Work.TheVariants as works

-- no more addresses have a place than there are nodes, and each may be the host of a request
pub record IsPlaced (nodes : ℕ) (addresses : List (Option (List ℕ))) : Type 0 where
  pub count : length addresses ≤ nodes
  pub hosts : (x : ℕ) → 0 < length (address_of addresses x) → IsHost (address_of addresses x)

-- a request that waits is within its ranges, and so is its input
pub record IsLawfulWaiting (nodes me : ℕ) (w : Waiting) : Type 0 where
  pub asks : IsAsking w.request.asked
  pub input : IfSome (client_input w.request.asked) (IsInput nodes me)

-- a request that waits is lawful
abbrev pub IsLawfulWork : ℕ → ℕ → Work → Type 0
IsLawfulWork nodes me (works.Waits w) = IsLawfulWaiting nodes me w
IsLawfulWork nodes me work = Unit {0}

-- an errand to one of `nodes` nodes
abbrev pub IsLawfulErrand : ℕ → Errand → Type 0
IsLawfulErrand nodes (errands.Message to fetch) = IsNode nodes to
IsLawfulErrand nodes (errands.Probe peer since) = IsNode nodes peer

abbrev pub IsLawfulDial : ℕ → Dialling → Type 0
IsLawfulDial nodes d = IsLawfulErrand nodes d.errand

-- news of an operation that can be asked of the node `me` of `nodes` nodes
abbrev pub IsLawfulCame : ℕ → ℕ → Came → Type 0
IsLawfulCame nodes me (comes.Request c count verdict) = IsLawfulVerdict nodes me verdict
IsLawfulCame nodes me (comes.Reply input taken refused) = IfSome input (IsInput nodes me)
IsLawfulCame nodes me (comes.Probed peer since fault) = IsNode nodes peer
IsLawfulCame nodes me came = Unit {0}

-- the state kept for probes is that of `nodes` nodes: it has the rates of each, and the peers are among them
pub record IsMadeFor (nodes : ℕ) (probing : Probing) : Type 0 where
  pub rates : length probing.gauge ≡ nodes
  pub peers : AllByRecursion (IsNode nodes) probing.rotation.coming
