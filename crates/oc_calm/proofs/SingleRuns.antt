-- The parts of the runs that single calls play.
use Rattle.std.proofs.Common.{◌≡◌, ℕ, ◌+◌, true, false, Option, Some, None, length, refl, ap, sym}
use Rattle.oc_model.specs.declared.event.Act.TheVariants as acts
use Rattle.oc_model.specs.declared.input.Input.TheVariants as inputs
use Rattle.oc_model.specs.declared.message.Body.{Body}
use Rattle.oc_model.specs.declared.message.Body.TheVariants as bodies
use Rattle.oc_model.specs.declared.mode.Mode.{Mode}
use Rattle.oc_model.specs.declared.mode.Mode.TheVariants.{Idle, Asking, Joined, Acting}
use Rattle.oc_model.specs.Runs.{rests, does, and_then, last_body, delivers_last}
use Rattle.oc_model.specs.Settle.{takes_ack, checks_in_if}
use Rattle.oc_model.specs.World.{World, mode_of}
use Rattle.oc_model.specs.WorldBounds.{clock_of}
use Rattle.oc_calm.specs.Cluster.{is_ack}
use Rattle.oc_calm.specs.Played.{act_run, ack_run, check_in_run, delivery_run, joined_run, tick_run}

-- a tick
pub tick_is : (more x t : ℕ) (w : World) → t ≡ clock_of w x + more → act_run (acts.At x (inputs.Tick t)) w ≡ tick_run more x w
unfolding act_run tick_run
tick_is more x t w e = ap (λ (u : ℕ). does (acts.At x (inputs.Tick u)) w) e

-- a delivery
pub delivery_is : (k : ℕ) (w : World) → k ≡ length w.net → act_run (acts.Deliver k) w ≡ delivery_run w
unfolding act_run delivery_run
delivery_is k w e = ap (λ (j : ℕ). does (acts.Deliver j) w) e

-- an acknowledgement is delivered
ack_taken : (b : Option Body) (w : World) → is_ack b ≡ true → delivers_last w ≡ takes_ack b w
ack_taken None w e = absurd cc
ack_taken (Some (bodies.CheckAck seq upto rank ancestors)) w e = refl
ack_taken (Some bodies.Look) w e = absurd cc
ack_taken (Some (bodies.LookIs in_tree parent rate children)) w e = absurd cc
ack_taken (Some (bodies.Ask seq rank)) w e = absurd cc
ack_taken (Some (bodies.Yes seq rank ancestors)) w e = absurd cc
ack_taken (Some (bodies.No seq why)) w e = absurd cc
ack_taken (Some (bodies.CheckIn seq upto rate number clients certs)) w e = absurd cc
ack_taken (Some (bodies.Rejoin seq)) w e = absurd cc
ack_taken (Some (bodies.Fetch have)) w e = absurd cc
ack_taken (Some (bodies.Chunk group start bytes last)) w e = absurd cc

pub ack_is : (w : World) → is_ack (last_body w) ≡ true → delivery_run w ≡ ack_run w
unfolding delivery_run ack_run
ack_is w e = ack_taken (last_body w) w e

-- any other message is not delivered
nothing_taken : (b : Option Body) (w : World) → is_ack b ≡ false → rests w ≡ takes_ack b w
nothing_taken (Some (bodies.CheckAck seq upto rank ancestors)) w e = absurd cc
nothing_taken b w e = refl

pub no_ack_is : (w : World) → is_ack (last_body w) ≡ false → rests w ≡ ack_run w
unfolding ack_run
no_ack_is w e = nothing_taken (last_body w) w e

-- a check-in
pub check_in_is : (x : ℕ) (w : World) → and_then (and_then (act_run (acts.At x inputs.CheckNow) w) delivery_run) ack_run ≡ check_in_run x w
unfolding act_run delivery_run ack_run check_in_run
check_in_is x w = refl

-- a check-in of a node that is joined
pub joined_is : (x p : ℕ) (w : World) → mode_of w x ≡ Joined p → check_in_run x w ≡ joined_run x w
unfolding check_in_run joined_run
joined_is x p w e = ap (λ (m : Mode). checks_in_if m x w) (sym e)

-- no check-in of a node that is not joined
not_joined : (m : Mode) (x : ℕ) (w : World) → ((p : ℕ) → m ≡ Joined p → ⊥) → rests w ≡ checks_in_if m x w
not_joined (Joined p) x w other = absurd (other p refl)
not_joined Idle x w other = refl
not_joined (Asking p) x w other = refl
not_joined Acting x w other = refl

pub other_is : (x : ℕ) (w : World) → ((p : ℕ) → mode_of w x ≡ Joined p → ⊥) → rests w ≡ joined_run x w
unfolding joined_run
other_is x w other = not_joined (mode_of w x) x w other
