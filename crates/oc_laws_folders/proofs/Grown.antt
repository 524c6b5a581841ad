-- No node ever loses a byte.
use Rattle.std.proofs.Common.{◌≡◌, ℕ, true, Some, List, [], ◌∷◌, inl, inr, sym, subst, ◌∙◌}
use Rattle.std.specs.List.{AllByRecursion}
use Rattle.oc_model.specs.declared.event.Act.{Act}
use Rattle.oc_model.specs.declared.event.Event.{Event}
use Rattle.oc_model.specs.declared.input.Input.{Input}
use Rattle.oc_model.specs.declared.input.Input.TheVariants.{Delivered}
use Rattle.oc_model.specs.declared.message.Message.{Message}
use Rattle.oc_model.specs.NextWorld.{stopped, next_world}
use Rattle.oc_model.specs.Node.{Outcome}
use Rattle.oc_model.specs.Numbers.{IsAmong}
use Rattle.oc_model.specs.Step.{step}
use Rattle.oc_model.specs.World.{World, Process, Arrival, node, process_in, with_process, source_after, after_act}
use Rattle.oc_model.proofs.Processes.{process_in-me, at_put, anew}
use Rattle.oc_laws_world.specs.Throughout.{Throughout}
use Rattle.oc_laws_world.proofs.Fair.{Fair}
use Rattle.oc_laws_world.proofs.Lifts.{HasSent, IsTrueArrival, IsActLaw, act_lift, act_event}
use Rattle.oc_laws_world.proofs.Passing.{passing_throughout}
use Rattle.oc_laws_world.proofs.Steps.{IsTrueInput, step_fair}
use Rattle.oc_laws_world.proofs.Truth.{Grows, grows_itself, grows_then}
use Rattle.oc_laws_world.proofs.Turns.{Sound, IsTrueIn, act_turn, event_turn}
use Rattle.oc_laws_world.proofs.Walks.{HasCome}

-- each node has all bytes that it had in the first world
abbrev pub HasGrown : World → World → Type 0
HasGrown w v = (x : ℕ) → Grows (node w x).groups (node v x).groups

-- a process of the same id that has lost no byte is put
put_grown : (w v : World) (x : ℕ) (q : Process) → HasGrown w v → q.node.control.me ≡ x → Grows (node v x).groups q.node.groups
    → (y : ℕ) → Grows (node w y).groups (process_in (with_process v.processes q) y).node.groups
put_grown w v x q holds me grows y =
    at_put v.processes q (λ n. Grows (node w y).groups n.groups) y
    (λ e.
    let same : x ≡ y = sym me ∙ e in
    subst (λ (z : ℕ). Grows (node w z).groups q.node.groups) same (grows_then (node w x).groups (node v x).groups q.node.groups (holds x) grows))
    (holds y)

-- a message among those of which all are true is true
among_all : (P : Message → Type 0) (ms : List Message) (m : Message) → AllByRecursion P ms → IsAmong m ms → P m
among_all P [] m all e = absurd e
among_all P (a ∷ rest) m all (inl e) = subst P e all.0
among_all P (a ∷ rest) m all (inr e) = among_all P rest m all.1 e

true_input : (v : World) (x : ℕ) (i : Input) → Sound v → HasCome (HasSent v x) i → IsTrueInput v.source i
true_input v x (Delivered m) sound came = (among_all (IsTrueIn v) v.net (record { from = m.from; to = x; body = m.body }) sound.net came).source
true_input v x i sound came = tt

fair_at : (v : World) (a : Arrival) → Sound v → IsTrueArrival v (Some a)
    → Fair v.source (source_after v.source a.input (step (node v a.at) a.input).answer) (node v a.at) (step (node v a.at) a.input)
fair_at v a sound came = step_fair v.source (node v a.at) a.input (sound.ready a.at) (true_input v a.at a.input sound came)

-- each input, start and stop keeps what the nodes had
grown_law : (w : World) → IsActLaw Sound (HasGrown w)
grown_law w = record {
  starts = λ v x up holds. put_grown w v x (anew v x up) holds (process_in-me v.processes x) (grows_itself (node v x).groups);
  takes = λ v a came up sound holds.
      let o : Outcome = step (node v a.at) a.input in
      let fair = fair_at v a sound came in
      put_grown w v a.at (record { node = o.node; up = true }) holds (fair.me ∙ process_in-me v.processes a.at) fair.groups;
  stops = λ v a came up sound holds.
      let o : Outcome = step (node v a.at) a.input in
      let fair = fair_at v a sound came in
      put_grown w v a.at (stopped o.node) holds (fair.me ∙ process_in-me v.processes a.at) fair.groups;
}

-- a world that events lead to, in which each node has all that it had
abbrev Goes : World → World → Type 0
Goes w v = Sound v × HasGrown w v

stays_sound : (v : World) (a : Act) → Sound v → Sound (after_act v a)
stays_sound v a sound = (act_turn v sound a).sound

act_goes : (w v : World) (a : Act) → Goes w v → Goes w (after_act v a)
act_goes w v a holds = (stays_sound v a holds.0, act_lift Sound (HasGrown w) (grown_law w) stays_sound v a holds.0 holds.1)

event_goes : (w v : World) (e : Event) → Goes w v → Goes w (next_world v e)
event_goes w v e holds = ((event_turn v holds.0 e).sound, act_event Sound (HasGrown w) (grown_law w) stays_sound v e holds.0 holds.1)

-- what follows from it holds in each world on the way of any later events
pub grown_throughout : (w : World) (Q : World → Type 0) → ((v : World) → HasGrown w v → Q v) → Sound w → (later : List Event) → Throughout Q w later
grown_throughout w Q follows sound later =
    passing_throughout (Goes w) (act_goes w) (event_goes w) Q (λ v holds. follows v holds.1) w (sound, λ x. grows_itself (node w x).groups) later
