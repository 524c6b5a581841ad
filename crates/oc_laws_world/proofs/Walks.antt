-- Every step is made of the small changes of the fine machine.
use Rattle.std.proofs.Common.{◌≡◌, ℕ, None, List, [], refl, sym, subst}
use Rattle.oc_base.specs.declared.shelf.Shelf.{Shelf}
use Rattle.oc_model.specs.declared.input.Input.{Input}
use Rattle.oc_model.specs.declared.input.Input.TheVariants.{Tick, CheckNow, Relocate, Unreachable, Pull, Measured, Publish, Seal, Client, Delivered}
use Rattle.oc_model.specs.declared.message.Body.{Body}
use Rattle.oc_model.specs.declared.message.Body.TheVariants as bodies
use Rattle.oc_model.specs.declared.message.Message.{Message}
use Rattle.oc_base.specs.Groups.{shelf}
use Rattle.oc_model.specs.Looking.{Stand}
use Rattle.oc_model.specs.Node.{Control, Node}
use Rattle.oc_model.specs.Plan.{Plan, begun}
use Rattle.oc_model.specs.Step.{received, filled, finished, plan, step}
use Rattle.oc_model.proofs.Rules.{IsClosed, keeps_tick, keeps_checks, keeps_relocate, keeps_unreachable, keeps_pulled, keeps_measured, keeps_client, keeps_looked, keeps_sees, keeps_asked, keeps_took_yes, keeps_took_no, keeps_checked_in, keeps_took_ack, keeps_took_rejoin}
use Rattle.oc_laws_step.specs.Sound.{IsTable}
use Rattle.oc_laws_world.proofs.Machine.{IsMachine}
use Rattle.oc_laws_world.proofs.WalksAdopting.{walks_asked}
use Rattle.oc_laws_world.proofs.WalksAsking.{walks_took_yes, walks_took_no, walks_unreachable, walks_relocate}
use Rattle.oc_laws_world.proofs.WalksChecking.{walks_checks, walks_tick, walks_checked_in, walks_took_ack, walks_took_rejoin}
use Rattle.oc_laws_world.proofs.WalksContent.{OfDry, walks_published, walks_sealed_at, walks_pulled, walks_fetched, walks_took_chunk}
use Rattle.oc_laws_world.proofs.WalksLooking.{walks_looked, walks_sees, walks_client, walks_measured}

-- a message that a node takes was sent to the node
abbrev pub HasCome : (ℕ → Body → Type 0) → Input → Type 0
HasCome came (Delivered m) = came m.from m.body
HasCome came input = Unit {0}

-- a step under way that sends no bytes
abbrev IsDry : Plan → Type 0
IsDry o = o.wants ≡ None

-- the control rules send no bytes
dry_closed : (ls : List Shelf) → IsClosed ls IsDry
dry_closed ls = record {
  write = λ o r h. h;
  send = λ o p b plain h. h;
  answers = λ o a h. h;
  soft = λ o s e h. h;
  lists = λ o leases rates counts h. h;
}

-- a step that sends no bytes sends the planned messages
of_dry : (P : Control → List Message → Type 0) (n : Node) (i : Input) (o : Plan) → OfDry P o → P (finished n i o).node.control (finished n i o).sends
of_dry P n i o h = subst (λ w. P o.node (filled w n.groups o.sends)) (sym h.1) h.0

module _ (came : ℕ → Body → Type 0) (P : Control → List Message → Type 0) (k : IsMachine came P) where
  walks_received : (n : Node) (i : Input) (p : ℕ) (b : Body) → came p b → P n.control []
      → P (finished n i (received (begun n.control) (shelf n.groups) p b)).node.control (finished n i (received (begun n.control) (shelf n.groups) p b)).sends
  walks_received n i p bodies.Look has_come h =
      of_dry P n i (received (begun n.control) (shelf n.groups) p bodies.Look) (walks_looked came P k (begun n.control) p h, keeps_looked (shelf n.groups) IsDry (dry_closed (shelf n.groups)) (begun n.control) p refl)
  walks_received n i p (bodies.LookIs is_in parent rate children) has_come h =
      let stand : Stand = record { in_tree = is_in; parent = parent; rate = rate; children = children } in
      of_dry P n i (received (begun n.control) (shelf n.groups) p (bodies.LookIs is_in parent rate children)) (walks_sees came P k (begun n.control) p stand h, keeps_sees (shelf n.groups) IsDry (dry_closed (shelf n.groups)) (begun n.control) p stand refl)
  walks_received n i p (bodies.Ask seq rank) has_come h =
      of_dry P n i (received (begun n.control) (shelf n.groups) p (bodies.Ask seq rank)) (walks_asked came P k (begun n.control) p seq rank has_come h, keeps_asked (shelf n.groups) IsDry (dry_closed (shelf n.groups)) (begun n.control) p seq rank refl)
  walks_received n i p (bodies.Yes seq rank ancestors) has_come h =
      of_dry P n i (received (begun n.control) (shelf n.groups) p (bodies.Yes seq rank ancestors)) (walks_took_yes came P k (begun n.control) p seq rank ancestors has_come h, keeps_took_yes (shelf n.groups) IsDry (dry_closed (shelf n.groups)) (begun n.control) p seq rank ancestors refl)
  walks_received n i p (bodies.No seq why) has_come h =
      of_dry P n i (received (begun n.control) (shelf n.groups) p (bodies.No seq why)) (walks_took_no came P k (begun n.control) p seq why h, keeps_took_no (shelf n.groups) IsDry (dry_closed (shelf n.groups)) (begun n.control) p seq why refl)
  walks_received n i p (bodies.CheckIn seq upto rate number clients certs) has_come h =
      of_dry P n i (received (begun n.control) (shelf n.groups) p (bodies.CheckIn seq upto rate number clients certs)) (
        walks_checked_in came P k (begun n.control) p seq upto rate number clients certs has_come h,
        keeps_checked_in (shelf n.groups) IsDry (dry_closed (shelf n.groups)) (begun n.control) p seq upto rate number clients certs refl,
      )
  walks_received n i p (bodies.CheckAck seq upto rank ancestors) has_come h =
      of_dry P n i (received (begun n.control) (shelf n.groups) p (bodies.CheckAck seq upto rank ancestors))
      (walks_took_ack came P k (begun n.control) p seq upto rank ancestors has_come h, keeps_took_ack (shelf n.groups) IsDry (dry_closed (shelf n.groups)) (begun n.control) p seq upto rank ancestors refl)
  walks_received n i p (bodies.Rejoin seq) has_come h =
      of_dry P n i (received (begun n.control) (shelf n.groups) p (bodies.Rejoin seq)) (walks_took_rejoin came P k (begun n.control) p seq h, keeps_took_rejoin (shelf n.groups) IsDry (dry_closed (shelf n.groups)) (begun n.control) p seq refl)
  walks_received n i p (bodies.Fetch have) has_come h = walks_fetched came P k n.control (shelf n.groups) p have n.groups h
  walks_received n i p (bodies.Chunk g start bytes last) has_come h = of_dry P n i (received (begun n.control) (shelf n.groups) p (bodies.Chunk g start bytes last)) (walks_took_chunk came P k (begun n.control) (shelf n.groups) p g start bytes last (h, refl))

  -- each step keeps a property that each small change keeps
  pub walks_step : (n : Node) (i : Input) → IsTable n.control.kept.table → HasCome came i → P n.control [] → P (step n i).node.control (step n i).sends
  walks_step n (Tick t) is_table has_come h =
      of_dry P n (Tick t) (plan n.control (shelf n.groups) (Tick t)) (walks_tick came P k (begun n.control) (shelf n.groups) t is_table h, keeps_tick (shelf n.groups) IsDry (dry_closed (shelf n.groups)) (begun n.control) t refl)
  walks_step n CheckNow is_table has_come h = of_dry P n CheckNow (plan n.control (shelf n.groups) CheckNow) (walks_checks came P k (begun n.control) h, keeps_checks (shelf n.groups) IsDry (dry_closed (shelf n.groups)) (begun n.control) refl)
  walks_step n (Relocate p) is_table has_come h =
      of_dry P n (Relocate p) (plan n.control (shelf n.groups) (Relocate p)) (walks_relocate came P k (begun n.control) p h, keeps_relocate (shelf n.groups) IsDry (dry_closed (shelf n.groups)) (begun n.control) p refl)
  walks_step n (Unreachable p) is_table has_come h =
      of_dry P n (Unreachable p) (plan n.control (shelf n.groups) (Unreachable p)) (walks_unreachable came P k (begun n.control) p h, keeps_unreachable (shelf n.groups) IsDry (dry_closed (shelf n.groups)) (begun n.control) p refl)
  walks_step n (Pull p) is_table has_come h =
      of_dry P n (Pull p) (plan n.control (shelf n.groups) (Pull p)) (walks_pulled came P k (begun n.control) (shelf n.groups) p h, keeps_pulled (shelf n.groups) IsDry (dry_closed (shelf n.groups)) (begun n.control) p refl)
  walks_step n (Measured p rate hops) is_table has_come h =
      of_dry P n (Measured p rate hops) (plan n.control (shelf n.groups) (Measured p rate hops))
      (walks_measured came P k (begun n.control) p rate hops h, keeps_measured (shelf n.groups) IsDry (dry_closed (shelf n.groups)) (begun n.control) p rate hops refl)
  walks_step n (Publish g bytes) is_table has_come h = of_dry P n (Publish g bytes) (plan n.control (shelf n.groups) (Publish g bytes)) (walks_published came P k (begun n.control) (shelf n.groups) g bytes (h, refl))
  walks_step n (Seal g) is_table has_come h = of_dry P n (Seal g) (plan n.control (shelf n.groups) (Seal g)) (walks_sealed_at came P k (begun n.control) (shelf n.groups) g (h, refl))
  walks_step n (Client area start g) is_table has_come h =
      of_dry P n (Client area start g) (plan n.control (shelf n.groups) (Client area start g))
      (walks_client came P k (begun n.control) (shelf n.groups) area start g h, keeps_client (shelf n.groups) IsDry (dry_closed (shelf n.groups)) (begun n.control) area start g refl)
  walks_step n (Delivered m) is_table has_come h = walks_received n (Delivered m) m.from m.body has_come h
