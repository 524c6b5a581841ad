-- Each node of every world is sound, so a snapshot of the node can replace its records.
use Rattle.std.proofs.Common.{ℕ, true, List, [], ◌∷◌, length, ap, sym, subst}
use Rattle.std.specs.List.{range_with_len}
use Rattle.oc_model.specs.declared.event.Act.{Act}
use Rattle.oc_model.specs.declared.event.Event.{Event}
use Rattle.oc_model.specs.NextWorld.{next_world, stopped}
use Rattle.oc_model.specs.Node.{Header, Node, Durable}
use Rattle.oc_base.specs.Groups.{shelf}
use Rattle.oc_model.specs.declared.input.Input.{Input}
use Rattle.oc_model.specs.Step.{step}
use Rattle.oc_model.specs.World.{World, Process, node, process, process_in, with_process, after_act, new_world}
use Rattle.oc_model.proofs.GoesOn.{IsPassage, passage, passage_acts}
use Rattle.oc_model.proofs.Processes.{IsNew, process_in-new, at_put, anew}
use Rattle.oc_laws_step.specs.Sound.{IsSound, IsSoundDurable}
use Rattle.oc_laws_step.proofs.Soundness.{sound_new, sound_planned, sound_restarted}
use Rattle.oc_laws_step.proofs.Unfolding.{snapshot_stands}
use Rattle.oc_laws_world.specs.Throughout.{Throughout}
use Rattle.oc_laws_world.proofs.Passing.{passing_throughout}
use Rattle.oc_laws_tree.specs.Clients.{kept_of}
use Rattle.oc_laws_tree.specs.Coverage.{SnapshotsKeepLogs}

-- each node is sound
abbrev pub AreSound : World → Type 0
AreSound w = (x : ℕ) → IsSound (node w x).control

abbrev StaySound : World → World → Type 0
StaySound w v = AreSound w → AreSound v

abbrev IsSoundNode : Node → Type 0
IsSoundNode n = IsSound n.control

sound_step : (n : Node) (i : Input) → IsSound n.control → IsSound (step n i).node.control
sound_step n i sound = sound_planned n.control (shelf n.groups) i sound

-- a process put into a world keeps all nodes sound, if its own node is
put_sound : (w : World) (q : Process) → IsSound q.node.control → AreSound w → (x : ℕ) → IsSound (process_in (with_process w.processes q) x).node.control
put_sound w q here all x = at_put w.processes q IsSoundNode x (λ _. here) (all x)

-- each act and each event keep all nodes sound
sound_passage : IsPassage StaySound
sound_passage = record {
  still = λ w all. all;
  follows = λ w v u first second all. second (first all);
  starts = λ w x up all. put_sound w (anew w x up) (sound_restarted (node w x) (all x)) all;
  takes = λ w x i all. put_sound w (record { node = (step (node w x) i).node; up = true }) (sound_step (node w x) i (all x)) all;
  stops = λ w x i all. put_sound w (stopped (step (node w x) i).node) (sound_restarted (step (node w x) i).node (sound_step (node w x) i (all x))) all;
}

pub sound_act : (w : World) (a : Act) → AreSound w → AreSound (after_act w a)
sound_act w a all = passage_acts StaySound sound_passage w (a ∷ []) all

pub sound_event : (w : World) (e : Event) → AreSound w → AreSound (next_world w e)
sound_event w e all = passage StaySound sound_passage w e all

-- all nodes of a new world are sound
pub sound_in_new : (h : Header) → AreSound (new_world h)
sound_in_new h x =
    let new : IsNew x (process (new_world h) x) = process_in-new h (range_with_len 1 h.nodes) x in
    subst (λ (p : Process). IsSound p.node.control) (sym new.1) (sound_new new.0 x)

pub sound_throughout : (Q : World → Type 0) → ((w : World) → AreSound w → Q w) → (h : Header) (events : List Event) → Throughout Q (new_world h) events
sound_throughout Q follows h events = passing_throughout AreSound sound_act sound_event Q follows (new_world h) (sound_in_new h) events

-- a snapshot of a node keeps its log
pub snapshots_keep_logs : (w : World) → AreSound w → SnapshotsKeepLogs w
snapshots_keep_logs w all x generation before as_many =
    let kept = (all x).kept in
    ap (λ (d : Durable). d.log) (snapshot_stands (length (kept_of w x).measures) generation (kept_of w x) before (subst (λ (n : ℕ). IsSoundDurable n (kept_of w x)) (sym kept.measures) kept) as_many)
