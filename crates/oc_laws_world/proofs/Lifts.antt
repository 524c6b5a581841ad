-- A law of every run: each act and each event keeps what the small changes of each node keep. The same holds of a law that is
-- true between two inputs but not within one, if every input, start and stop keeps it together with another law.
use Rattle.std.proofs.Common.{◌≡◌, ℕ, zero, suc, Bool, true, false, Option, Some, None, List, [], ◌∷◌, ◌++◌, inl, inr, refl, ap, sym, subst, ◌∙◌, ⊎_elim, append-nil}
use Rattle.std.proofs.lemmas.Bool.{cond_both, cases_eq}
use Rattle.std.specs.Prelude.{slice_get}
use Rattle.oc_model.specs.declared.event.Act.{Act}
use Rattle.oc_model.specs.declared.event.Act.TheVariants as acts
use Rattle.oc_model.specs.declared.input.Input.TheVariants as inputs
use Rattle.oc_model.specs.declared.event.Event.{Event}
use Rattle.oc_model.specs.declared.event.Event.TheVariants.{Up, Crash, Stop, Do, Held, Show, Settle, Heal}
use Rattle.oc_model.specs.declared.message.Body.{Body}
use Rattle.oc_model.specs.declared.message.Message.{Message}
use Rattle.oc_model.specs.NextWorld.{stopped, cut_off, keeps_write, stopped_at, settle_acts, heal_acts, after_any, next_world}
use Rattle.oc_model.specs.Node.{Control, Outcome}
use Rattle.oc_model.specs.Numbers.{IsAmong}
use Rattle.oc_model.specs.Runs.{after_acts}
use Rattle.oc_model.specs.Step.{step}
use Rattle.oc_model.specs.World.{World, Process, Arrival, absent, node, process, process_in, with_process, message_at, source_after, stepped, delivery, arrival, acted, after_act}
use Rattle.oc_model.proofs.Outcomes.{step_leaves}
use Rattle.oc_model.proofs.Processes.{IsPutOrAbsent, process_in-me, process_in-with_up, process_in-with_other, process_in-with_same, anew, again}
use Rattle.oc_laws_step.specs.Sound.{IsTable}
use Rattle.oc_laws_world.proofs.Machine.{IsMachine, cleared}
use Rattle.oc_laws_world.proofs.Walks.{HasCome, walks_step}

-- the control state of the node of this id
abbrev pub control_of : World → ℕ → Control
control_of w x = (node w x).control

-- each node's table is ascending
abbrev pub AreTables : World → Type 0
AreTables w = (x : ℕ) → IsTable (control_of w x).kept.table

-- p has sent this body to x
abbrev pub HasSent : World → ℕ → ℕ → Body → Type 0
HasSent w x p b = IsAmong (record { from = p; to = x; body = b }) w.net

-- the node x has become n and has sent these messages; all other nodes are as they were
pub record Becomes (w : World) (x : ℕ) (n : Control) (ms : List Message) (v : World) : Type 0 where
  pub here : control_of v x ≡ n
  pub others : (y : ℕ) → (x ≡ y → ⊥) → control_of v y ≡ control_of w y
  pub net : v.net ≡ w.net ++ ms

-- a law J of worlds that follows from a law P of the node that changes: P holds at the start where J does, each small change
-- keeps P, and J holds of the new world where P holds at the end
pub record IsLaw (J : World → Type 0) (P : World → ℕ → Control → List Message → Type 0) : Type 0 where
  pub begins : (w : World) (x : ℕ) → J w → P w x (control_of w x) []
  pub keeps : (w : World) (x : ℕ) → J w → IsMachine (HasSent w x) (P w x)
  pub ends : (w v : World) (x : ℕ) (n : Control) (ms : List Message) → J w → Becomes w x n ms v → P w x n ms → J v

-- The world after a change

-- a process put in the place of one that is up
put_becomes : (w : World) (x : ℕ) (q : Process) (s : _) (ms : List Message) → (process w x).up ≡ true → q.node.control.me ≡ x
    → Becomes w x q.node.control ms (record { processes = with_process w.processes q; net = w.net ++ ms; source = s })
put_becomes w x q s ms up me = record {
  here = subst (λ (y : ℕ). (process_in (with_process w.processes q) y).node.control ≡ q.node.control) me
      (ap (λ (p : Process). p.node.control) (process_in-with_up w.processes q (subst (λ (y : ℕ). (process_in w.processes y).up ≡ true) (sym me) up)));
  others = λ y apart. ap (λ (p : Process). p.node.control) (process_in-with_other w.processes q y (λ e. apart (sym me ∙ e)));
  net = refl;
}

-- the same where the sent messages are lost
lost_becomes : (w : World) (x : ℕ) (q : Process) (s : _) → (process w x).up ≡ true → q.node.control.me ≡ x
    → Becomes w x q.node.control [] (record { processes = with_process w.processes q; net = w.net; source = s })
lost_becomes w x q s up me =
    let put : Becomes w x q.node.control [] (record { processes = with_process w.processes q; net = w.net ++ []; source = s }) = put_becomes w x q s [] up me in
    record { here = put.here; others = put.others; net = sym (append-nil w.net) }

-- a start or a stop
again_becomes : (w : World) (x : ℕ) (up : Bool) → Becomes w x (cleared (control_of w x)) [] (again w x up)
again_becomes w x up = record {
  here = subst (λ (y : ℕ). (process_in (with_process w.processes (anew w x up)) y).node.control ≡ cleared (control_of w x)) me (by_case (process_in-with_same w.processes (anew w x up)));
  others = λ y apart. ap (λ (p : Process). p.node.control) (process_in-with_other w.processes (anew w x up) y (λ e. apart (sym me ∙ e)));
  net = sym (append-nil w.net);
} where
  me : (anew w x up).node.control.me ≡ x
  me = process_in-me w.processes x

  by_case : IsPutOrAbsent w.processes (anew w x up) → (process_in (with_process w.processes (anew w x up)) (anew w x up).node.control.me).node.control ≡ cleared (control_of w x)
  by_case (inl put) = ap (λ (p : Process). p.node.control) put
  by_case (inr none) =
      let old : process_in w.processes x ≡ absent (anew w x up).node.control.me = subst (λ (y : ℕ). process_in w.processes y ≡ absent (anew w x up).node.control.me) me none.0 in
      ap (λ (p : Process). p.node.control) none.1 ∙ ap (λ (p : Process). cleared p.node.control) (sym old)

-- a property of the changed node, and of every other node as it was, holds of each node
pub at_each : (w v : World) (x : ℕ) (n : Control) (ms : List Message) → Becomes w x n ms v → (Q : ℕ → Control → Type 0) → Q x n → ((y : ℕ) → (x ≡ y → ⊥) → Q y (control_of w y))
    → (y : ℕ) → Q y (control_of v y)
at_each w v x n ms becomes Q here others y = ⊎_elim
    (λ (e : x ≡ y). subst (λ (z : ℕ). Q z (control_of v z)) e (subst (λ (c : Control). Q x c) (sym becomes.here) here))
    (λ apart. subst (λ (c : Control). Q y c) (sym (becomes.others y apart)) (others y apart))
    (cases_eq x y)

-- a message that is found in a list is in the list
found_among : (ms : List Message) (k : ℕ) (m : Message) → slice_get ms k ≡ Some m → IsAmong m ms
found_among [] k m e = absurd cc
found_among (a ∷ rest) zero m e = inl cc
found_among (a ∷ rest) (suc k) m e = inr (found_among rest k m e)

-- the input of an act, if it is a message, was sent
abbrev pub IsTrueArrival : World → Option Arrival → Type 0
IsTrueArrival w None = Unit {0}
IsTrueArrival w (Some a) = HasCome (HasSent w a.at) a.input

delivery_came : (w : World) (k : ℕ) → IsTrueArrival w (delivery (message_at w.net k))
delivery_came w zero = tt
delivery_came w (suc k) = by_found (message_at w.net (suc k)) refl where
  by_found : (found : Option Message) → message_at w.net (suc k) ≡ found → IsTrueArrival w (delivery found)
  by_found None e = tt
  by_found (Some m) e = found_among w.net k m e

pub arrival_came : (w : World) (a : Act) → IsTrueArrival w (arrival w a)
arrival_came w (acts.At x (inputs.Delivered m)) = tt
arrival_came w (acts.At x i) = tt
arrival_came w (acts.Deliver k) = delivery_came w k

-- Laws of inputs

-- a law of inputs: where G holds, each true input at a node that is up keeps J, both with the messages it sends and where a
-- stop cuts it off; so do starts and stops
pub record IsActLaw (G J : World → Type 0) : Type 0 where
  pub starts : (w : World) (x : ℕ) (up : Bool) → J w → J (again w x up)
  pub takes : (w : World) (a : Arrival) → IsTrueArrival w (Some a) → (process w a.at).up ≡ true → G w → J w → J (stepped w a.input (step (node w a.at) a.input))
  pub stops : (w : World) (a : Arrival) → IsTrueArrival w (Some a) → (process w a.at).up ≡ true → G w → J w → J (cut_off true w (node w a.at) a.input (step (node w a.at) a.input))

module _ (G J : World → Type 0) (law : IsActLaw G J) (goes_on : (w : World) (a : Act) → G w → G (after_act w a)) where
  act_acted : (w : World) (a : Option Arrival) → IsTrueArrival w a → G w → J w → J (acted w a)
  act_acted w None truth beside holds = holds
  act_acted w (Some a) truth beside holds =
      cond_both (process w a.at).up (stepped w a.input (step (node w a.at) a.input)) w J (λ up. law.takes w a truth up beside holds) (λ _. holds)

  -- each act keeps the law
  pub act_lift : (w : World) (a : Act) → G w → J w → J (after_act w a)
  act_lift w a beside holds = act_acted w (arrival w a) (arrival_came w a) beside holds

  act_acts : (w : World) (done : List Act) → G w → J w → J (after_acts w done)
  act_acts w [] beside holds = holds
  act_acts w (a ∷ rest) beside holds = act_acts (after_act w a) rest (goes_on w a beside) (act_lift w a beside holds)

  act_any : (w : World) (done : Option (List Act)) → G w → J w → J (after_any w done)
  act_any w None beside holds = holds
  act_any w (Some done) beside holds = act_acts w done beside holds

  act_cut : (b : Bool) (w : World) (a : Arrival) → IsTrueArrival w (Some a) → (process w a.at).up ≡ true → G w → J w → J (cut_off b w (node w a.at) a.input (step (node w a.at) a.input))
  act_cut true w a truth up beside holds = law.stops w a truth up beside holds
  act_cut false w a truth up beside holds = law.starts w a.at false holds

  act_stop : (w : World) (calls image : ℕ) (a : Option Arrival) → IsTrueArrival w a → G w → J w → J (stopped_at w calls image a)
  act_stop w calls image None truth beside holds = holds
  act_stop w calls image (Some a) truth beside holds =
      let kept : Bool = keeps_write calls image (node w a.at) a.input in
      cond_both (process w a.at).up (cut_off kept w (node w a.at) a.input (step (node w a.at) a.input)) w J (λ up. act_cut kept w a truth up beside holds) (λ _. holds)

  -- each event keeps the law
  pub act_event : (w : World) (e : Event) → G w → J w → J (next_world w e)
  act_event w (Up x) beside holds = cond_both (process w x).up w (again w x true) J (λ _. holds) (λ _. law.starts w x true holds)
  act_event w (Crash x) beside holds = cond_both (process w x).up (again w x false) w J (λ _. law.starts w x false holds) (λ _. holds)
  act_event w (Stop calls image a) beside holds = act_stop w calls image (arrival w a) (arrival_came w a) beside holds
  act_event w (Do a) beside holds = act_lift w a beside holds
  act_event w (Held x) beside holds = holds
  act_event w (Show x) beside holds = holds
  act_event w Settle beside holds = act_any w (settle_acts w) beside holds
  act_event w Heal beside holds = act_any w (heal_acts w) beside holds

-- Laws of small changes

module _ (J : World → Type 0) (P : World → ℕ → Control → List Message → Type 0) (law : IsLaw J P) (tables : (w : World) → J w → AreTables w) where
  -- a step at x keeps the law's part for x
  lift_step : (w : World) (a : Arrival) → IsTrueArrival w (Some a) → J w → P w a.at (step (node w a.at) a.input).node.control (step (node w a.at) a.input).sends
  lift_step w a truth holds = walks_step (HasSent w a.at) (P w a.at) (law.keeps w a.at holds) (node w a.at) a.input (tables w holds a.at) truth (law.begins w a.at holds)

  step_me : (w : World) (a : Arrival) → (step (node w a.at) a.input).node.control.me ≡ a.at
  step_me w a = (step_leaves (node w a.at) a.input).me ∙ process_in-me w.processes a.at

  -- each input keeps the law without any law beside it. An input in which the node stops leaves the kept state, and its
  -- messages are lost
  of_changes : IsActLaw (λ w. Unit {0}) J
  of_changes = record {
    starts = λ w x up holds. law.ends w (again w x up) x (cleared (control_of w x)) [] holds (again_becomes w x up) ((law.keeps w x holds).starts (control_of w x) [] (law.begins w x holds));
    takes = λ w a truth up beside holds.
        let o : Outcome = step (node w a.at) a.input in
        law.ends w (stepped w a.input o) a.at o.node.control o.sends holds
        (put_becomes w a.at (record { node = o.node; up = true }) (source_after w.source a.input o.answer) o.sends up (step_me w a)) (lift_step w a truth holds);
    stops = λ w a truth up beside holds.
        let o : Outcome = step (node w a.at) a.input in
        let machine : IsMachine (HasSent w a.at) (P w a.at) = law.keeps w a.at holds in
        law.ends w (cut_off true w (node w a.at) a.input o) a.at (cleared o.node.control) [] holds
        (lost_becomes w a.at (stopped o.node) (source_after w.source a.input o.answer) up (step_me w a))
        (machine.starts o.node.control [] (machine.drops o.node.control o.sends (lift_step w a truth holds)));
  }

  -- each act keeps the law
  pub lift_act : (w : World) (a : Act) → J w → J (after_act w a)
  lift_act w a holds = act_lift (λ v. Unit {0}) J of_changes (λ v b beside. beside) w a tt holds

  -- each event keeps the law
  pub lift_event : (w : World) (e : Event) → J w → J (next_world w e)
  lift_event w e holds = act_event (λ v. Unit {0}) J of_changes (λ v b beside. beside) w e tt holds
