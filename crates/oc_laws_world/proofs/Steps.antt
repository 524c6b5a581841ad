-- Each input keeps content true: the control rules leave it unchanged, and only rule 14, content, changes it.
use Rattle.std.proofs.Common.{ℕ, List, refl}
use Rattle.oc_base.specs.declared.group.Group.{Group}
use Rattle.oc_model.specs.declared.input.Input.{Input}
use Rattle.oc_model.specs.declared.input.Input.TheVariants.{Tick, CheckNow, Relocate, Unreachable, Pull, Measured, Publish, Seal, Client, Delivered}
use Rattle.oc_model.specs.declared.message.Body.{Body}
use Rattle.oc_model.specs.declared.message.Body.TheVariants as bodies
use Rattle.oc_base.specs.Groups.{shelf}
use Rattle.oc_model.specs.Node.{Node}
use Rattle.oc_model.specs.Plan.{Plan, begun}
use Rattle.oc_model.specs.Step.{received, finished, step}
use Rattle.oc_model.specs.World.{source_after}
use Rattle.oc_model.proofs.Rules.{IsClosed, keeps_tick, keeps_checks, keeps_relocate, keeps_unreachable, keeps_pulled, keeps_measured, keeps_client, keeps_looked, keeps_sees, keeps_asked, keeps_took_yes, keeps_took_no, keeps_checked_in, keeps_took_ack, keeps_took_rejoin}
use Rattle.oc_laws_world.proofs.Fair.{Ready, Fair}
use Rattle.oc_laws_world.proofs.Quiet.{IsQuiet, quiet_begun, quiet_closed, quiet_fair}
use Rattle.oc_laws_world.proofs.Rules.{comes, publish_fair, seal_fair, fetch_fair, chunk_fair}
use Rattle.oc_laws_world.proofs.Truth.{IsTrueOfSource}

-- a message that comes is true
abbrev pub IsTrueInput : List Group → Input → Type 0
IsTrueInput s (Delivered m) = IsTrueOfSource s m.body
IsTrueInput s input = Unit {0}

-- a step under way of this node that has left content unchanged
abbrev Quiet : Node → Plan → Type 0
Quiet n o = IsQuiet n.control.me (shelf n.groups) o

quiet_kept : (n : Node) → IsClosed (shelf n.groups) (Quiet n)
quiet_kept n = quiet_closed n.control.me (shelf n.groups)

quiet_start : (n : Node) → Quiet n (begun n.control)
quiet_start n = quiet_begun n.control (shelf n.groups)

-- a true message keeps content true
received_fair : (s : List Group) (n : Node) (x p : ℕ) (b : Body) → Ready s n → IsTrueOfSource s b → Fair s s n (finished n (comes x p b) (received (begun n.control) (shelf n.groups) p b))
received_fair s n x p bodies.Look ready truth =
    quiet_fair s n (comes x p bodies.Look) _ ready (keeps_looked (shelf n.groups) (Quiet n) (quiet_kept n) (begun n.control) p (quiet_start n))
received_fair s n x p (bodies.LookIs is_in parent rate children) ready truth =
    quiet_fair s n (comes x p (bodies.LookIs is_in parent rate children)) _ ready
    (keeps_sees (shelf n.groups) (Quiet n) (quiet_kept n) (begun n.control) p (record { in_tree = is_in; parent = parent; rate = rate; children = children }) (quiet_start n))
received_fair s n x p (bodies.Ask seq rank) ready truth =
    quiet_fair s n (comes x p (bodies.Ask seq rank)) _ ready (keeps_asked (shelf n.groups) (Quiet n) (quiet_kept n) (begun n.control) p seq rank (quiet_start n))
received_fair s n x p (bodies.Yes seq rank ancestors) ready truth =
    quiet_fair s n (comes x p (bodies.Yes seq rank ancestors)) _ ready (keeps_took_yes (shelf n.groups) (Quiet n) (quiet_kept n) (begun n.control) p seq rank ancestors (quiet_start n))
received_fair s n x p (bodies.No seq why) ready truth =
    quiet_fair s n (comes x p (bodies.No seq why)) _ ready (keeps_took_no (shelf n.groups) (Quiet n) (quiet_kept n) (begun n.control) p seq why (quiet_start n))
received_fair s n x p (bodies.CheckIn seq upto rate number clients certs) ready truth =
    quiet_fair s n (comes x p (bodies.CheckIn seq upto rate number clients certs)) _ ready
    (keeps_checked_in (shelf n.groups) (Quiet n) (quiet_kept n) (begun n.control) p seq upto rate number clients certs (quiet_start n))
received_fair s n x p (bodies.CheckAck seq upto rank ancestors) ready truth =
    quiet_fair s n (comes x p (bodies.CheckAck seq upto rank ancestors)) _ ready (keeps_took_ack (shelf n.groups) (Quiet n) (quiet_kept n) (begun n.control) p seq upto rank ancestors (quiet_start n))
received_fair s n x p (bodies.Rejoin seq) ready truth =
    quiet_fair s n (comes x p (bodies.Rejoin seq)) _ ready (keeps_took_rejoin (shelf n.groups) (Quiet n) (quiet_kept n) (begun n.control) p seq (quiet_start n))
received_fair s n x p (bodies.Fetch have) ready truth = fetch_fair s n x p have ready
received_fair s n x p (bodies.Chunk g start bytes last) ready truth = chunk_fair s n x p g start bytes last ready truth

-- each input keeps content true
pub step_fair : (s : List Group) (n : Node) (i : Input) → Ready s n → IsTrueInput s i → Fair s (source_after s i (step n i).answer) n (step n i)
step_fair s n (Tick t) ready truth =
    quiet_fair s n (Tick t) _ ready (keeps_tick (shelf n.groups) (Quiet n) (quiet_kept n) (begun n.control) t (record { me = refl; keeps = refl; wants = refl; sends = tt }))
step_fair s n CheckNow ready truth = quiet_fair s n CheckNow _ ready (keeps_checks (shelf n.groups) (Quiet n) (quiet_kept n) (begun n.control) (quiet_start n))
step_fair s n (Relocate p) ready truth = quiet_fair s n (Relocate p) _ ready (keeps_relocate (shelf n.groups) (Quiet n) (quiet_kept n) (begun n.control) p (quiet_start n))
step_fair s n (Unreachable p) ready truth = quiet_fair s n (Unreachable p) _ ready (keeps_unreachable (shelf n.groups) (Quiet n) (quiet_kept n) (begun n.control) p (quiet_start n))
step_fair s n (Pull p) ready truth = quiet_fair s n (Pull p) _ ready (keeps_pulled (shelf n.groups) (Quiet n) (quiet_kept n) (begun n.control) p (quiet_start n))
step_fair s n (Measured p rate hops) ready truth =
    quiet_fair s n (Measured p rate hops) _ ready (keeps_measured (shelf n.groups) (Quiet n) (quiet_kept n) (begun n.control) p rate hops (quiet_start n))
step_fair s n (Publish g bytes) ready truth = publish_fair s n g bytes ready
step_fair s n (Seal g) ready truth = seal_fair s n g ready
step_fair s n (Client area start g) ready truth =
    quiet_fair s n (Client area start g) _ ready (keeps_client (shelf n.groups) (Quiet n) (quiet_kept n) (begun n.control) area start g (quiet_start n))
step_fair s n (Delivered m) ready truth = received_fair s n m.to m.from m.body ready truth
