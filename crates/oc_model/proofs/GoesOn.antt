-- How a world goes on, whatever the event: the ids stay, no message is lost, no node passes the limits, and clocks run by ticks alone.
use Rattle.std.proofs.Common.{◌≡◌, ℕ, ◌==◌, Bool, true, false, Option, Some, None, List, [], ◌∷◌, ◌++◌, refl, ap, sym, ◌∙◌, arith, append_assoc, append-nil}
use Rattle.std.specs.List.{AllByRecursion, range_with_len}
use Rattle.std.proofs.lemmas.Bool.{cond_both}
use Rattle.oc_model.specs.declared.event.Act.{Act}
use Rattle.oc_model.specs.declared.event.Event.{Event}
use Rattle.oc_model.specs.declared.event.Event.TheVariants.{Up, Crash, Stop, Do, Held, Show, Settle, Heal}
use Rattle.oc_model.specs.declared.input.Input.{Input}
use Rattle.oc_model.specs.NextWorld.{stopped, cut_off, keeps_write, stopped_at, settle_acts, heal_acts, after_any, next_world, world_after}
use Rattle.oc_model.specs.Node.{Header, Node, restarted}
use Rattle.oc_model.specs.Runs.{after_acts}
use Rattle.oc_model.specs.Step.{step}
use Rattle.oc_model.specs.World.{World, Process, Arrival, absent, node, process, process_in, with_process, ids, new_world, stepped, arrival, acted, after_act}
use Rattle.oc_model.specs.WorldBounds.{IsLater, AreWithinLimits, IsWithinLimits}
use Rattle.oc_model.proofs.Outcomes.{step_leaves}
use Rattle.oc_model.proofs.Places.{ids-with_process, ids-new}
use Rattle.oc_model.proofs.Processes.{anew, again}

-- a relation of two worlds that holds whenever the first goes on to the second, by any event
pub record IsPassage (R : World → World → Type 0) : Type 0 where
  pub still : (w : World) → R w w
  pub follows : (w v u : World) → R w v → R v u → R w u
  pub starts : (w : World) (x : ℕ) (up : Bool) → R w (again w x up)
  pub takes : (w : World) (x : ℕ) (i : Input) → R w (stepped w i (step (node w x) i))
  pub stops : (w : World) (x : ℕ) (i : Input) → R w (cut_off true w (node w x) i (step (node w x) i))

module _ (R : World → World → Type 0) (k : IsPassage R) where
  passage_acted : (w : World) (a : Option Arrival) → R w (acted w a)
  passage_acted w None = k.still w
  passage_acted w (Some a) = cond_both (process w a.at).up (stepped w a.input (step (node w a.at) a.input)) w (R w) (λ _. k.takes w a.at a.input) (λ _. k.still w)

  pub passage_acts : (w : World) (done : List Act) → R w (after_acts w done)
  passage_acts w [] = k.still w
  passage_acts w (a ∷ rest) = k.follows w (after_act w a) (after_acts (after_act w a) rest) (passage_acted w (arrival w a)) (passage_acts (after_act w a) rest)

  passage_any : (w : World) (done : Option (List Act)) → R w (after_any w done)
  passage_any w None = k.still w
  passage_any w (Some done) = passage_acts w done

  passage_cut : (b : Bool) (w : World) (x : ℕ) (i : Input) → R w (cut_off b w (node w x) i (step (node w x) i))
  passage_cut true w x i = k.stops w x i
  passage_cut false w x i = k.starts w x false

  passage_stop : (w : World) (calls image : ℕ) (a : Option Arrival) → R w (stopped_at w calls image a)
  passage_stop w calls image None = k.still w
  passage_stop w calls image (Some a) =
      let kept : Bool = keeps_write calls image (node w a.at) a.input in
      cond_both (process w a.at).up (cut_off kept w (node w a.at) a.input (step (node w a.at) a.input)) w (R w) (λ _. passage_cut kept w a.at a.input) (λ _. k.still w)

  -- the relation holds for each event
  pub passage : (w : World) (e : Event) → R w (next_world w e)
  passage w (Up x) = cond_both (process w x).up w (again w x true) (R w) (λ _. k.still w) (λ _. k.starts w x true)
  passage w (Crash x) = cond_both (process w x).up (again w x false) w (R w) (λ _. k.starts w x false) (λ _. k.still w)
  passage w (Stop calls image a) = passage_stop w calls image (arrival w a)
  passage w (Do a) = passage_acted w (arrival w a)
  passage w (Held x) = k.still w
  passage w (Show x) = k.still w
  passage w Settle = passage_any w (settle_acts w)
  passage w Heal = passage_any w (heal_acts w)

-- The ids

abbrev pub HasSameIds : World → World → Type 0
HasSameIds w v = ids v ≡ ids w

ids_stay : IsPassage HasSameIds
ids_stay = record {
  still = λ w. refl;
  follows = λ w v u first second. second ∙ first;
  starts = λ w x up. ids-with_process w.processes (anew w x up);
  takes = λ w x i. ids-with_process w.processes (record { node = (step (node w x) i).node; up = true });
  stops = λ w x i. ids-with_process w.processes (stopped (step (node w x) i).node);
}

-- no event changes the ids
pub ids-next_world : (w : World) (e : Event) → ids (next_world w e) ≡ ids w
ids-next_world w e = passage HasSameIds ids_stay w e

pub ids-after_acts : (w : World) (done : List Act) → ids (after_acts w done) ≡ ids w
ids-after_acts w done = passage_acts HasSameIds ids_stay w done

-- no events change the ids
pub ids-world_after : (w : World) (es : List Event) → ids (world_after w es) ≡ ids w
ids-world_after w [] = refl
ids-world_after w (e ∷ es) = ids-world_after (next_world w e) es ∙ ids-next_world w e

-- from a new world on the ids are those from 1 to the number of nodes
pub ids-always : (h : Header) (es : List Event) → ids (world_after (new_world h) es) ≡ range_with_len 1 h.nodes
ids-always h es = ids-world_after (new_world h) es ∙ ids-new h (range_with_len 1 h.nodes)

-- The net

net_grows : IsPassage IsLater
net_grows = record {
  still = λ w. ([], sym (append-nil w.net));
  follows = λ w v u first second. (first.0 ++ second.0, second.1 ∙ (ap (λ ms. ms ++ second.0) first.1 ∙ append_assoc w.net first.0 second.0));
  starts = λ w x up. ([], sym (append-nil w.net));
  takes = λ w x i. ((step (node w x) i).sends, refl);
  stops = λ w x i. ([], sym (append-nil w.net));
}

-- no event loses a message
pub net-next_world : (w : World) (e : Event) → IsLater w (next_world w e)
net-next_world w e = passage IsLater net_grows w e

-- Each node

-- this is so of each node
abbrev pub OfAll : (Node → Type 0) → List Process → Type 0
OfAll P ps = AllByRecursion (λ p. P p.node) ps

-- a property of all nodes and of absent ones holds of the node at any id
of_process : (P : Node → Type 0) (ps : List Process) (x : ℕ) → P (absent x).node → OfAll P ps → P (process_in ps x).node
of_process P [] x new all = new
of_process P (p ∷ ps) x new all = cond_both (p.node.control.me == x) p (process_in ps x) (λ q. P q.node) (λ _. all.0) (λ _. of_process P ps x new all.1)

-- a property of all nodes and of the new one holds of all nodes after the put
all_with_process : (P : Node → Type 0) (ps : List Process) (q : Process) → P q.node → OfAll P ps → OfAll P (with_process ps q)
all_with_process P [] q here all = tt
all_with_process P (p ∷ ps) q here all =
    cond_both (p.node.control.me == q.node.control.me) (q ∷ ps) (p ∷ with_process ps q) (OfAll P) (λ _. (here, all.1)) (λ _. (all.0, all_with_process P ps q here all.1))

-- this is so of an absent node, and a start and an input leave it so
record Lasts (P : Node → Type 0) : Type 0 where
  new : (x : ℕ) → P (absent x).node
  start : (n : Node) → P n → P (restarted n)
  input : (n : Node) (i : Input) → P n → P (step n i).node

abbrev KeepsAll : (Node → Type 0) → World → World → Type 0
KeepsAll P w v = OfAll P w.processes → OfAll P v.processes

-- then an event leaves it so of all
lasting : (P : Node → Type 0) → Lasts P → IsPassage (KeepsAll P)
lasting P lasts = record {
  still = λ w all. all;
  follows = λ w v u first second all. second (first all);
  starts = λ w x up all. all_with_process P w.processes (anew w x up) (lasts.start (node w x) (of_process P w.processes x (lasts.new x) all)) all;
  takes = λ w x i all. all_with_process P w.processes (record { node = (step (node w x) i).node; up = true }) (lasts.input (node w x) i (of_process P w.processes x (lasts.new x) all)) all;
  stops = λ w x i all. all_with_process P w.processes (stopped (step (node w x) i).node) (lasts.start (step (node w x) i).node (lasts.input (node w x) i (of_process P w.processes x (lasts.new x) all))) all;
}

-- The limits

limits_last : Lasts (λ n. AreWithinLimits n.groups)
limits_last = record { new = λ x. (tt, omega arith, tt); start = λ n within. within; input = λ n i within. (step_leaves n i).limits within }

-- an event takes no node past the limits
pub limits-next_world : (w : World) (e : Event) → IsWithinLimits w → IsWithinLimits (next_world w e)
limits-next_world w e = passage (KeepsAll (λ n. AreWithinLimits n.groups)) (lasting (λ n. AreWithinLimits n.groups) limits_last) w e
