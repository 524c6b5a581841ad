-- Lease ends lie ahead: between two inputs each lease end that is set for a leased child is later than its node's clock, given
-- that the parent that a told fact names knows the fact. Inside a tick this may be false.
use Rattle.std.proofs.Common.{◌≡◌, ℕ, zero, suc, true, Option, Some, None, List, get_or, replicate, inr, refl, sym, subst, ◌∙◌}
use Rattle.std.specs.List.{range_with_len}
use Rattle.oc_base.specs.declared.cert.Cert.{Cert}
use Rattle.oc_model.specs.declared.event.Act.{Act}
use Rattle.oc_model.specs.declared.event.Event.{Event}
use Rattle.oc_model.specs.declared.input.Input.{Input}
use Rattle.oc_model.specs.declared.input.Input.TheVariants.{Delivered}
use Rattle.oc_model.specs.declared.message.Body.{Body}
use Rattle.oc_model.specs.declared.message.Body.TheVariants.{CheckIn}
use Rattle.oc_model.specs.declared.message.Message.{Message}
use Rattle.oc_model.specs.ClaimsTree.{table_of}
use Rattle.oc_model.specs.NextWorld.{next_world, stopped}
use Rattle.oc_model.specs.Node.{Header, Control, Node, restarted}
use Rattle.oc_model.specs.Numbers.{IsAmong}
use Rattle.oc_model.specs.Step.{step}
use Rattle.oc_model.specs.Table.{leased_by}
use Rattle.oc_model.specs.World.{World, Process, node, process, process_in, with_process, after_act, new_world}
use Rattle.oc_model.proofs.Processes.{IsNew, process_in-me, process_in-new, at_put, anew}
use Rattle.oc_laws_world.specs.Numbers.{IsAnywhere}
use Rattle.oc_laws_world.specs.Throughout.{Throughout}
use Rattle.oc_laws_world.proofs.Laws.{Tabled, tables_new, tabled_act, tabled_event}
use Rattle.oc_laws_world.proofs.Lifts.{HasSent, IsLaw, control_of, IsActLaw, act_lift, act_event}
use Rattle.oc_laws_world.proofs.Passing.{passing_throughout}
use Rattle.oc_laws_world.proofs.Walks.{HasCome}
use Rattle.oc_laws_tree.specs.LeaseEnds.{LeaseEndsLieAhead}
use Rattle.oc_laws_tree.proofs.Known.{Knows}
use Rattle.oc_laws_tree.proofs.LeasesAhead.{IsAhead}
use Rattle.oc_laws_tree.proofs.LeaseSteps.{HasKnownCerts, OwnCertsAreKnown, step_ahead}

-- y knows the leases of y that a check-in sent to y tells of
abbrev pub CertsAreKnown : World → Type 0
CertsAreKnown w = (x y s upto rate number clients : ℕ) (certs : List Cert) (c : Cert) → HasSent w y x (CheckIn s upto rate number clients certs) → IsAmong c certs → c.parent ≡ y → Knows (table_of w y) c

-- the same where the parent that a fact names knows the fact, wherever the fact is
pub known_anywhere : (w : World) → ((f : Cert) → IsAnywhere w f → Knows (table_of w f.parent) f) → CertsAreKnown w
known_anywhere w granted x y s upto rate number clients certs c sent among own =
    let told : Message = record { from = x; to = y; body = CheckIn s upto rate number clients certs } in
    subst (λ (z : ℕ). Knows (table_of w z) c) own (granted c (inr (inr (told, sent, among))))

-- the lease ends of each node, up or down, lie ahead
abbrev pub AreAllAhead : World → Type 0
AreAllAhead w = (y : ℕ) → IsAhead (control_of w y)

-- One input

body_known : (w : World) (y p : ℕ) (b : Body) → HasSent w y p b → CertsAreKnown w → HasKnownCerts (control_of w y) b
body_known w y p (CheckIn s upto rate number clients certs) sent known = λ c among own. known p y s upto rate number clients certs c sent among (own ∙ process_in-me w.processes y)
body_known w y p b sent known = tt

-- a message that was sent to a node tells nothing new of the node's own leases
input_known : (w : World) (y : ℕ) (i : Input) → HasCome (HasSent w y) i → CertsAreKnown w → OwnCertsAreKnown (control_of w y) i
input_known w y (Delivered m) came known = body_known w y m.from m.body came known
input_known w y i came known = tt

-- the lease ends after a start, none of which is set
abbrev no_ends : ℕ → List (Option ℕ)
no_ends k = replicate k None

none_set : (k i : ℕ) → get_or (no_ends k) i None ≡ None
none_set zero i = refl
none_set (suc k) zero = refl
none_set (suc k) (suc i) = none_set k i

restarted_ahead : (n : Node) → IsAhead (restarted n).control
restarted_ahead n x s end leased is_set = let clash : None ≡ Some end = sym (none_set n.control.nodes _) ∙ is_set in absurd cc

abbrev IsAheadNode : Node → Type 0
IsAheadNode n = IsAhead n.control

put_ahead : (w : World) (q : Process) → IsAhead q.node.control → AreAllAhead w → (y : ℕ) → IsAhead (process_in (with_process w.processes q) y).node.control
put_ahead w q here all y = at_put w.processes q IsAheadNode y (λ _. here) (all y)

-- the law holds together with any law by which such facts are known
ahead_law : (G : World → Type 0) → ((w : World) → G w → CertsAreKnown w) → IsActLaw G AreAllAhead
ahead_law G knows = record {
  starts = λ w x up all. put_ahead w (anew w x up) (restarted_ahead (node w x)) all;
  takes = λ w a truth is_up beside all.
      put_ahead w (record { node = (step (node w a.at) a.input).node; up = true }) (step_ahead (node w a.at) a.input (input_known w a.at a.input truth (knows w beside)) (all a.at)) all;
  stops = λ w a truth is_up beside all. put_ahead w (stopped (step (node w a.at) a.input).node) (restarted_ahead (step (node w a.at) a.input).node) all;
}

-- Worlds

ahead_new : (h : Header) → AreAllAhead (new_world h)
ahead_new h y =
    let new : IsNew y (process (new_world h) y) = process_in-new h (range_with_len 1 h.nodes) y in
    subst (λ (p : Process). IsAhead p.node.control) (sym new.1) (λ x s end leased is_set. absurd cc)

-- the law in the words of its definition
lie_ahead : (w : World) → AreAllAhead w → LeaseEndsLieAhead w
lie_ahead w all y x s end up leased is_set =
    all y x s end (subst (λ (z : ℕ). leased_by (table_of w y) z x ≡ Some s) (sym (process_in-me w.processes y)) leased) is_set

module _ (JG : World → Type 0) (PG : World → ℕ → Control → List Message → Type 0) (law : IsLaw JG PG) (knows : (w : World) → JG w → CertsAreKnown w) where
  -- the law together with ascending tables, in which lease ends lie ahead
  abbrev Ahead : World → Type 0
  Ahead w = Tabled JG w × AreAllAhead w

  ahead_beside : IsActLaw (Tabled JG) AreAllAhead
  ahead_beside = ahead_law (Tabled JG) (λ w holds. knows w holds.1)

  ahead_act : (w : World) (a : Act) → Ahead w → Ahead (after_act w a)
  ahead_act w a holds = (tabled_act JG PG law w a holds.0, act_lift (Tabled JG) AreAllAhead ahead_beside (tabled_act JG PG law) w a holds.0 holds.1)

  ahead_event : (w : World) (e : Event) → Ahead w → Ahead (next_world w e)
  ahead_event w e holds = (tabled_event JG PG law w e holds.0, act_event (Tabled JG) AreAllAhead ahead_beside (tabled_act JG PG law) w e holds.0 holds.1)

  -- lease ends lie ahead in each world on the way
  pub lease_ends_throughout : (h : Header) → JG (new_world h) → (events : List Event) → Throughout LeaseEndsLieAhead (new_world h) events
  lease_ends_throughout h holds events =
      passing_throughout Ahead ahead_act ahead_event LeaseEndsLieAhead (λ w k. lie_ahead w k.1) (new_world h) ((tables_new h, holds), ahead_new h) events
