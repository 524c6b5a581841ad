-- Worlds in which content is true, and the proof that each event keeps it true.
use Rattle.std.proofs.Common.{◌≡◌, ℕ, zero, suc, Bool, true, false, Option, Some, None, List, [], ◌∷◌, ◌++◌, refl, sym, subst, ◌∙◌}
use Rattle.std.specs.List.{AllByRecursion, range_with_len}
use Rattle.std.proofs.lemmas.Bool.{cond_both}
use Rattle.oc_model.specs.declared.event.Act.{Act}
use Rattle.oc_model.specs.declared.event.Act.TheVariants as acts
use Rattle.oc_model.specs.declared.input.Input.TheVariants as inputs
use Rattle.oc_model.specs.declared.event.Event.{Event}
use Rattle.oc_model.specs.declared.event.Event.TheVariants.{Up, Crash, Stop, Do, Held, Show, Settle, Heal}
use Rattle.oc_base.specs.declared.group.Group.{Group}
use Rattle.oc_model.specs.declared.message.Message.{Message}
use Rattle.oc_model.specs.NextWorld.{stopped, cut_off, keeps_write, stopped_at, settle_acts, heal_acts, after_any, next_world}
use Rattle.oc_model.specs.Node.{Header, Node, Outcome, new_node, restarted}
use Rattle.oc_model.specs.Runs.{after_acts}
use Rattle.oc_model.specs.Step.{step}
use Rattle.oc_model.specs.World.{World, Process, Arrival, node, process, process_in, with_process, new_world, message_at, source_after, stepped, delivery, arrival, acted, after_act}
use Rattle.oc_model.proofs.Lists.{all_weaker, all_append, all_get}
use Rattle.oc_model.proofs.Processes.{IsNew, process_in-me, process_in-with_up, process_in-new, at_put, at_put_up, anew, again}
use Rattle.oc_laws_world.proofs.Fair.{Ready, MaySend}
use Rattle.oc_laws_world.proofs.Steps.{IsTrueInput, step_fair}
use Rattle.oc_laws_world.proofs.Truth.{Grows, grows_itself, grows_then, holds_along, AreSame, IsTrue, true_along}

-- a message that is true of the source and of its sender in this world
abbrev pub IsTrueIn : World → Message → Type 0
IsTrueIn w m = IsTrue w.source (node w m.from).groups m.body

-- content is true of each node and each message
pub record Sound (w : World) : Type 0 where
  pub ready : (x : ℕ) → Ready w.source (node w x)
  pub net : AllByRecursion (IsTrueIn w) w.net

-- from one sound world to another, while the source grows
pub record Turn (w v : World) : Type 0 where
  pub sound : Sound v
  pub source : Grows w.source v.source

-- no change is a turn
turn_itself : (w : World) → Sound w → Turn w w
turn_itself w sound = record { sound = sound; source = grows_itself w.source }

-- one turn and then another
turn_then : (w v u : World) → Turn w v → Turn v u → Turn w u
turn_then w v u first second = record { sound = second.sound; source = grows_then w.source v.source u.source first.source second.source }

-- a new node has no group, and neither has the source
new_ready : (h : Header) (x : ℕ) → Ready [] (new_node h x)
new_ready h x = record { holds = record { ascend = tt; each = λ g k e. absurd cc }; own = λ e g. refl }

-- a new world is sound
pub sound_new : (h : Header) → Sound (new_world h)
sound_new h = record {
  ready = λ x. by_new x (process_in-new h (range_with_len 1 h.nodes) x);
  net = tt;
} where
  by_new : (x : ℕ) → IsNew x (process (new_world h) x) → Ready [] (node (new_world h) x)
  by_new x new = subst (λ (p : Process). Ready [] p.node) (sym new.1) (new_ready new.0 x)

-- A start, and a crash

-- a start leaves the groups unchanged
restarted_ready : (s : List Group) (n : Node) → Ready s n → Ready s (restarted n)
restarted_ready s n ready = record { holds = ready.holds; own = ready.own }

-- a property of the groups of each id holds after a start or a stop
at_again : (w : World) (x : ℕ) (up : Bool) (y : ℕ) (F : List Group → Type 0) → F (node w y).groups → F (node (again w x up) y).groups
at_again w x up y F h =
    at_put w.processes (anew w x up) (λ n. F n.groups) y
    (λ e. let same : y ≡ x = sym e ∙ process_in-me w.processes x in subst (λ (z : ℕ). F (node w z).groups) same h)
    h

-- a start or a stop is a turn
again_turn : (w : World) (x : ℕ) (up : Bool) → Sound w → Turn w (again w x up)
again_turn w x up sound = record {
  sound = record {
    ready = λ y. at_put w.processes (anew w x up) (Ready w.source) y (λ _. restarted_ready w.source (node w x) (sound.ready x)) (sound.ready y);
    net = all_weaker (IsTrueIn w) (IsTrueIn (again w x up)) (λ m h. at_again w x up m.from (λ ks. IsTrue w.source ks m.body) h) w.net sound.net;
  };
  source = grows_itself w.source;
}

-- An input

-- another node stays ready while the source changes, which happens only at node 1
ready_other : (s s' : List Group) (n : Node) → Grows s s' → (n.control.me ≡ 1 → s' ≡ s) → Ready s n → Ready s' n
ready_other s s' n grows away ready = record {
  holds = holds_along s s' n.groups grows ready.holds;
  own = λ e. subst (λ (t : List Group). AreSame n.groups t) (sym (away e)) (ready.own e);
}

-- the effect of a step at x, which is up: this process and this source
record Step (w : World) (x : ℕ) (s : List Group) (q : Process) : Type 0 where
  sound : Sound w
  up : (process w x).up ≡ true
  me : q.node.control.me ≡ x
  groups : Grows (node w x).groups q.node.groups
  source : Grows w.source s
  ready : Ready s q.node
  away : ((node w x).control.me ≡ 1 → ⊥) → s ≡ w.source

-- the world after the step, with these messages added
abbrev after_step : World → List Group → Process → List Message → World
after_step w s q sent = record { processes = with_process w.processes q; net = w.net ++ sent; source = s }

-- the process of x was up
step_up : (w : World) (x : ℕ) (s : List Group) (q : Process) → Step w x s q → (process_in w.processes q.node.control.me).up ≡ true
step_up w x s q h = subst (λ (y : ℕ). (process w y).up ≡ true) (sym h.me) h.up

-- each node is ready after the step
step_ready : (w : World) (x : ℕ) (s : List Group) (q : Process) → Step w x s q → (y : ℕ) → Ready s (process_in (with_process w.processes q) y).node
step_ready w x s q h y =
    at_put_up w.processes q (Ready s) y (step_up w x s q h)
    (λ _. h.ready)
    (λ apart. ready_other w.source s (node w y) h.source (λ first. h.away (λ one. apart (h.me ∙ (sym (process_in-me w.processes x) ∙ (one ∙ (sym first ∙ process_in-me w.processes y)))))) (h.sound.ready y))

-- no node loses a byte by the step
step_groups : (w : World) (x : ℕ) (s : List Group) (q : Process) → Step w x s q → (y : ℕ) → Grows (node w y).groups (process_in (with_process w.processes q) y).node.groups
step_groups w x s q h y =
    at_put_up w.processes q (λ n. Grows (node w y).groups n.groups) y (step_up w x s q h)
    (λ e. let same : x ≡ y = sym h.me ∙ e in subst (λ (z : ℕ). Grows (node w z).groups q.node.groups) same h.groups)
    (λ _. grows_itself (node w y).groups)

-- messages that were true are true after the step
step_net : (w : World) (x : ℕ) (s : List Group) (q : Process) → Step w x s q → AllByRecursion (λ m. IsTrue s (process_in (with_process w.processes q) m.from).node.groups m.body) w.net
step_net w x s q h =
    all_weaker (IsTrueIn w) (λ m. IsTrue s (process_in (with_process w.processes q) m.from).node.groups m.body)
    (λ m. true_along w.source s (node w m.from).groups (process_in (with_process w.processes q) m.from).node.groups h.source (step_groups w x s q h m.from) m.body) w.net h.sound.net

-- the messages that the step sends are true after it
step_sent : (w : World) (x : ℕ) (s : List Group) (q : Process) → Step w x s q → (m : Message) → MaySend s (node w x).control.me q.node.groups m
    → IsTrue s (process_in (with_process w.processes q) m.from).node.groups m.body
step_sent w x s q h m may =
    let here : process_in (with_process w.processes q) q.node.control.me ≡ q = process_in-with_up w.processes q (step_up w x s q h) in
    let there : IsTrue s (process_in (with_process w.processes q) q.node.control.me).node.groups m.body = subst (λ (p : Process). IsTrue s p.node.groups m.body) (sym here) (may.1) in
    subst (λ (y : ℕ). IsTrue s (process_in (with_process w.processes q) y).node.groups m.body) (sym (may.0 ∙ (process_in-me w.processes x ∙ sym h.me))) there

-- a step is a turn
step_turn : (w : World) (x : ℕ) (s : List Group) (q : Process) (sent : List Message) → Step w x s q → AllByRecursion (MaySend s (node w x).control.me q.node.groups) sent → Turn w (after_step w s q sent)
step_turn w x s q sent h may = record {
  sound = record {
    ready = step_ready w x s q h;
    net = all_append (IsTrueIn (after_step w s q sent)) w.net sent (step_net w x s q h) (all_weaker (MaySend s (node w x).control.me q.node.groups) (IsTrueIn (after_step w s q sent)) (step_sent w x s q h) sent may);
  };
  source = h.source;
}

-- a step whose messages are lost is a turn
lost_turn : (w : World) (x : ℕ) (s : List Group) (q : Process) → Step w x s q → Turn w (record w { processes = with_process w.processes q; source = s })
lost_turn w x s q h = record { sound = record { ready = step_ready w x s q h; net = step_net w x s q h }; source = h.source }

-- An event

-- the input of an act is true
abbrev IsTrueArrival : List Group → Option Arrival → Type 0
IsTrueArrival s None = Unit {0}
IsTrueArrival s (Some a) = IsTrueInput s a.input

-- a delivered message is true, since it was sent
delivery_true : (w : World) → Sound w → (k : ℕ) → IsTrueArrival w.source (delivery (message_at w.net k))
delivery_true w sound zero = tt
delivery_true w sound (suc k) = by_found (message_at w.net (suc k)) refl where
  by_found : (found : Option Message) → message_at w.net (suc k) ≡ found → IsTrueArrival w.source (delivery found)
  by_found None e = tt
  by_found (Some m) e = let said = all_get (IsTrueIn w) w.net k m sound.net e in said.source

-- the input of an act is true
arrival_true : (w : World) → Sound w → (a : Act) → IsTrueArrival w.source (arrival w a)
arrival_true w sound (acts.At x (inputs.Delivered m)) = tt
arrival_true w sound (acts.At x i) = tt
arrival_true w sound (acts.Deliver k) = delivery_true w sound k

-- the step of an input at a node that is up, where its process goes on as it is or is started anew
step_of : (w : World) → Sound w → (a : Arrival) → IsTrueInput w.source a.input → (process w a.at).up ≡ true
    → (q : Process) → q.node.control.me ≡ (step (node w a.at) a.input).node.control.me → q.node.groups ≡ (step (node w a.at) a.input).node.groups
    → Ready (source_after w.source a.input (step (node w a.at) a.input).answer) q.node
    → Step w a.at (source_after w.source a.input (step (node w a.at) a.input).answer) q
step_of w sound a truth up q me groups ready =
    let fair = step_fair w.source (node w a.at) a.input (sound.ready a.at) truth in
    record {
      sound = sound;
      up = up;
      me = me ∙ (fair.me ∙ process_in-me w.processes a.at);
      groups = subst (λ ks. Grows (node w a.at).groups ks) (sym groups) fair.groups;
      source = fair.source;
      ready = ready;
      away = fair.away;
    }

-- an act is a turn
acted_turn : (w : World) → Sound w → (a : Option Arrival) → IsTrueArrival w.source a → Turn w (acted w a)
acted_turn w sound None truth = turn_itself w sound
acted_turn w sound (Some a) truth =
    let o : Outcome = step (node w a.at) a.input in
    let fair = step_fair w.source (node w a.at) a.input (sound.ready a.at) truth in
    cond_both (process w a.at).up (stepped w a.input o) w (Turn w)
    (λ up. step_turn w a.at (source_after w.source a.input o.answer) (record { node = o.node; up = true }) o.sends
    (step_of w sound a truth up (record { node = o.node; up = true }) refl refl fair.ready) fair.sends)
    (λ _. turn_itself w sound)

pub act_turn : (w : World) → Sound w → (a : Act) → Turn w (after_act w a)
act_turn w sound a = acted_turn w sound (arrival w a) (arrival_true w sound a)

-- acts, one after another, are a turn
pub acts_turn : (w : World) → Sound w → (done : List Act) → Turn w (after_acts w done)
acts_turn w sound [] = turn_itself w sound
acts_turn w sound (a ∷ rest) =
    let first : Turn w (after_act w a) = act_turn w sound a in
    turn_then w (after_act w a) (after_acts (after_act w a) rest) first (acts_turn (after_act w a) first.sound rest)

any_turn : (w : World) → Sound w → (done : Option (List Act)) → Turn w (after_any w done)
any_turn w sound None = turn_itself w sound
any_turn w sound (Some done) = acts_turn w sound done

-- a stop is a turn, whether its write is kept or not
stop_turn : (w : World) → Sound w → (calls image : ℕ) (a : Option Arrival) → IsTrueArrival w.source a → Turn w (stopped_at w calls image a)
stop_turn w sound calls image None truth = turn_itself w sound
stop_turn w sound calls image (Some a) truth =
    let o : Outcome = step (node w a.at) a.input in
    let s : List Group = source_after w.source a.input o.answer in
    let fair = step_fair w.source (node w a.at) a.input (sound.ready a.at) truth in
    let kept : Bool = keeps_write calls image (node w a.at) a.input in
    cond_both (process w a.at).up (cut_off kept w (node w a.at) a.input o) w (Turn w)
    (λ up. by_kept kept
    (lost_turn w a.at s (stopped o.node) (step_of w sound a truth up (stopped o.node) refl refl (restarted_ready s o.node fair.ready))))
    (λ _. turn_itself w sound) where
      by_kept : (b : Bool) → Turn w (cut_off true w (node w a.at) a.input (step (node w a.at) a.input)) → Turn w (cut_off b w (node w a.at) a.input (step (node w a.at) a.input))
      by_kept true new = new
      by_kept false new = again_turn w a.at false sound

-- each event leaves a sound world sound, and the source grows
pub event_turn : (w : World) → Sound w → (e : Event) → Turn w (next_world w e)
event_turn w sound (Up x) = cond_both (process w x).up w (again w x true) (Turn w) (λ _. turn_itself w sound) (λ _. again_turn w x true sound)
event_turn w sound (Crash x) = cond_both (process w x).up (again w x false) w (Turn w) (λ _. again_turn w x false sound) (λ _. turn_itself w sound)
event_turn w sound (Stop calls image a) = stop_turn w sound calls image (arrival w a) (arrival_true w sound a)
event_turn w sound (Do a) = act_turn w sound a
event_turn w sound (Held x) = turn_itself w sound
event_turn w sound (Show x) = turn_itself w sound
event_turn w sound Settle = any_turn w sound (settle_acts w)
event_turn w sound Heal = any_turn w sound (heal_acts w)
