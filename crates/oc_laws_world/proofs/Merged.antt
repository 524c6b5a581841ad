-- The schedule of a merge, and its world, in which each node is the fold of its own entries.
use Rattle.std.proofs.Common.{◌≡◌, ℕ, suc, Bool, true, false, Option, Some, List, [], ◌∷◌, ◌++◌, ◌⊎◌, inl, inr, ⊎_elim, refl, ap, sym, subst, ◌∙◌, arith, append_assoc, append-nil}
use Rattle.std.specs.List.{range_with_len}
use Rattle.std.proofs.lemmas.Bool.{cases_eq}
use Rattle.oc_base.specs.Lawful.{IsNode}
use Rattle.oc_model.specs.declared.event.Act.TheVariants.{At, Deliver}
use Rattle.oc_model.specs.declared.event.Event.{Event}
use Rattle.oc_model.specs.declared.event.Event.TheVariants.{Up, Crash, Do}
use Rattle.oc_model.specs.declared.input.Input.{Input}
use Rattle.oc_model.specs.declared.input.Input.TheVariants.{Delivered}
use Rattle.oc_model.specs.declared.message.Message.{Message}
use Rattle.oc_model.specs.NextWorld.{next_world, world_after}
use Rattle.oc_model.specs.Node.{Header, Node, new_node, restarted}
use Rattle.oc_model.specs.Numbers.{IsAmong}
use Rattle.oc_model.specs.Step.{step}
use Rattle.oc_model.specs.World.{World, Process, Arrival, node, process, is_up, ids, new_world, stepped, delivery, acted, with_process}
use Rattle.oc_model.specs.WorldBounds.{IsOneOf}
use Rattle.oc_model.proofs.Outcomes.{step_leaves}
use Rattle.oc_model.proofs.Places.{ids-with_process, ids-new}
use Rattle.oc_model.proofs.Processes.{anew, again, process_in-me, process_in-with_other}
use Rattle.oc_laws_step.proofs.Merges.{among_left}
use Rattle.oc_laws_world.specs.Merges.{Entry, Starts, Takes, Line, line, after_entry, sent_by, after_entries, sent_by_all, entries_of, own_fold, is_any, HasStarted, WasSent, CanFollow, GoOn, start_events, AreEventsOf, IsScheduleOf}
use Rattle.oc_laws_world.proofs.Listed.{among_either}
use Rattle.oc_laws_world.proofs.MergeLists.{among_right, place_of, entries-append, entries_here, entries_there, any_last, after_last, sent_last, sent_longer}
use Rattle.oc_laws_world.proofs.Present.{in_range, new_found, found_at}

abbrev process_of : Node → Bool → Process
process_of n up = record { node = n; up = up }

-- the process of x by its own entries, up once it has one
abbrev own_process : Header → List Line → ℕ → Process
own_process h ls x = process_of (own_fold h ls x) (is_any (entries_of x ls))

-- the world of a merge: each node is the fold of its own entries, and the net has exactly the messages that their steps sent
pub record IsWorldOf (h : Header) (ls : List Line) (w : World) : Type 0 where
  pub there : (x : ℕ) → IsNode h.nodes x → IsOneOf x (ids w)
  pub processes : (x : ℕ) → IsNode h.nodes x → process w x ≡ own_process h ls x
  pub sent : (m : Message) → IsAmong m w.net → WasSent h ls m
  pub kept : (m : Message) → WasSent h ls m → IsAmong m w.net

-- a new world is the world of no line
pub world_new : (h : Header) → IsWorldOf h [] (new_world h)
world_new h = record { there = there; processes = λ x is. new_found h (range_with_len 1 h.nodes) x (in_range 1 h.nodes x is.0 (omega (arith, is.1))); sent = λ m none. absurd none; kept = λ m was. absurd was.2 } where
  there : (x : ℕ) → IsNode h.nodes x → IsOneOf x (ids (new_world h))
  there x is = subst (IsOneOf x) (sym (ids-new h (range_with_len 1 h.nodes))) (in_range 1 h.nodes x is.0 (omega (arith, is.1)))

-- sent messages stay sent
sent_more : (h : Header) (ls : List Line) (l : Line) (m : Message) → WasSent h ls m → WasSent h (ls ++ l ∷ []) m
sent_more h ls l m was =
    (was.0, was.1, subst (λ (es : List Entry). IsAmong m (sent_by_all (new_node h was.0) es)) (sym (entries-append was.0 ls (l ∷ []))) (sent_longer (new_node h was.0) (entries_of was.0 ls) (entries_of was.0 (l ∷ [])) m was.2))

-- One line more: its node goes on, all other nodes stay, and the messages of its step are added to the net
record GoesOn (h : Header) (ls : List Line) (l : Line) (w v : World) : Type 0 where
  ids_stay : ids v ≡ ids w
  here : process v l.node ≡ process_of (after_entry (own_fold h ls l.node) l.entry) true
  others : (x : ℕ) → (l.node ≡ x → ⊥) → process v x ≡ process w x
  net : v.net ≡ w.net ++ sent_by (own_fold h ls l.node) l.entry

-- the line's node is the fold with one entry more
own_last : (h : Header) (ls : List Line) (l : Line) → own_process h (ls ++ l ∷ []) l.node ≡ process_of (after_entry (own_fold h ls l.node) l.entry) true
own_last h ls l =
    let es : List Entry = entries_of l.node ls in
    ap (λ (more : List Entry). process_of (after_entries (new_node h l.node) more) (is_any more)) (entries_here ls l)
    ∙ (ap (λ (n : Node). process_of n (is_any (es ++ l.entry ∷ []))) (after_last (new_node h l.node) es l.entry)
    ∙ ap (λ (b : Bool). process_of (after_entry (after_entries (new_node h l.node) es) l.entry) b) (any_last es l.entry))

own_others : (h : Header) (ls : List Line) (l : Line) (x : ℕ) → (l.node ≡ x → ⊥) → own_process h (ls ++ l ∷ []) x ≡ own_process h ls x
own_others h ls l x apart = ap (λ (es : List Entry). process_of (after_entries (new_node h x) es) (is_any es)) (entries_there ls l x apart)

-- the messages of the line's node, with those that it sends now
sent_here : (h : Header) (ls : List Line) (l : Line) → sent_by_all (new_node h l.node) (entries_of l.node (ls ++ l ∷ [])) ≡ sent_by_all (new_node h l.node) (entries_of l.node ls) ++ sent_by (own_fold h ls l.node) l.entry
sent_here h ls l = ap (sent_by_all (new_node h l.node)) (entries_here ls l) ∙ sent_last (new_node h l.node) (entries_of l.node ls) l.entry

world_on : (h : Header) (ls : List Line) (l : Line) (w v : World) → IsNode h.nodes l.node → IsWorldOf h ls w → GoesOn h ls l w v → IsWorldOf h (ls ++ l ∷ []) v
world_on h ls l w v is k on = record {
  there = λ x among. subst (IsOneOf x) (sym on.ids_stay) (k.there x among);
  processes = λ x among. ⊎_elim (λ (same : l.node ≡ x). subst (λ (y : ℕ). process v y ≡ own_process h (ls ++ l ∷ []) y) same (on.here ∙ sym (own_last h ls l)))
      (λ apart. on.others x apart ∙ (k.processes x among ∙ sym (own_others h ls l x apart))) (cases_eq l.node x);
  sent = λ m held. ⊎_elim (λ before. sent_more h ls l m (k.sent m before)) (λ now. (l.node, is, subst (IsAmong m) (sym (sent_here h ls l)) (among_right m (sent_by_all (new_node h l.node) (entries_of l.node ls)) news now)))
      (among_either m w.net news (subst (IsAmong m) on.net held));
  kept = λ m was. subst (IsAmong m) (sym on.net) (⊎_elim (λ before. among_left m w.net news (k.kept m before)) (λ now. among_right m w.net news now) (by_sender m was));
} where
  news : List Message
  news = sent_by (own_fold h ls l.node) l.entry

  -- a message that was sent was sent before this line or by it
  by_sender : (m : Message) → WasSent h (ls ++ l ∷ []) m → WasSent h ls m ⊎ IsAmong m news
  by_sender m was = ⊎_elim same_sender (λ apart. inl (was.0, was.1, subst (λ (es : List Entry). IsAmong m (sent_by_all (new_node h was.0) es)) (entries_there ls l was.0 apart) was.2)) (cases_eq l.node was.0) where
    same_sender : l.node ≡ was.0 → WasSent h ls m ⊎ IsAmong m news
    same_sender same =
        let all : IsAmong m (sent_by_all (new_node h l.node) (entries_of l.node (ls ++ l ∷ []))) = subst (λ (y : ℕ). IsAmong m (sent_by_all (new_node h y) (entries_of y (ls ++ l ∷ [])))) (sym same) was.2 in
        ⊎_elim (λ before. inl (l.node, is, before)) (λ now. inr now) (among_either m (sent_by_all (new_node h l.node) (entries_of l.node ls)) news (subst (IsAmong m) (sent_here h ls l) all))

-- A process that is put

put_others : (w : World) (q : Process) (x : ℕ) → q.node.control.me ≡ x → (y : ℕ) → (x ≡ y → ⊥) → process (record w { processes = with_process w.processes q }) y ≡ process w y
put_others w q x me y apart = process_in-with_other w.processes q y (λ e. apart (sym me ∙ e))

-- Starts

-- a node that is started or stopped keeps its id
anew-me : (w : World) (x : ℕ) (up : Bool) → (anew w x up).node.control.me ≡ x
anew-me w x up = process_in-me w.processes x

again_here : (w : World) (x : ℕ) (up : Bool) → IsOneOf x (ids w) → process (again w x up) x ≡ anew w x up
again_here w x up one = found_at w.processes (anew w x up) x (anew-me w x up) one

started_on : (h : Header) (ls : List Line) (w : World) (x : ℕ) → IsNode h.nodes x → IsWorldOf h ls w → GoesOn h ls (line x Starts) w (again w x true)
started_on h ls w x is k = record {
  ids_stay = ids-with_process w.processes (anew w x true);
  here = again_here w x true (k.there x is) ∙ ap (λ (p : Process). process_of (restarted p.node) true) (k.processes x is);
  others = λ y apart. put_others w (anew w x true) x (anew-me w x true) y apart;
  net = sym (append-nil w.net);
}

-- the line of a start at a node that is up: a crash, and then the start
restarted_on : (h : Header) (ls : List Line) (w : World) (x : ℕ) → IsNode h.nodes x → IsWorldOf h ls w → GoesOn h ls (line x Starts) w (again (again w x false) x true)
restarted_on h ls w x is k = record {
  ids_stay = ids-with_process off.processes (anew off x true) ∙ off_ids;
  here = again_here off x true (subst (IsOneOf x) (sym off_ids) (k.there x is))
      ∙ (ap (λ (p : Process). process_of (restarted p.node) true) (again_here w x false (k.there x is))
      ∙ ap (λ (p : Process). process_of (restarted p.node) true) (k.processes x is));
  others = λ y apart. put_others off (anew off x true) x (anew-me off x true) y apart ∙ put_others w (anew w x false) x (anew-me w x false) y apart;
  net = sym (append-nil w.net);
} where
  off : World
  off = again w x false

  off_ids : ids off ≡ ids w
  off_ids = ids-with_process w.processes (anew w x false)

-- a start of a node that is down, and a crash and a start of a node that is up
start_down : (w : World) (x : ℕ) → is_up w x ≡ false → world_after w (Up x ∷ []) ≡ again w x true
start_down w x off = rw off refl

start_up : (w : World) (x : ℕ) → IsOneOf x (ids w) → is_up w x ≡ true → world_after w (Crash x ∷ Up x ∷ []) ≡ again (again w x false) x true
start_up w x one on =
    let fell : next_world w (Crash x) ≡ again w x false = rw on refl in
    ap (λ (v : World). next_world v (Up x)) fell ∙ start_down (again w x false) x (ap (λ (p : Process). p.up) (again_here w x false one))

start_leads : (h : Header) (ls : List Line) (w : World) (x : ℕ) → IsNode h.nodes x → IsWorldOf h ls w
    → IsWorldOf h (ls ++ line x Starts ∷ []) (world_after w (start_events x (is_up w x)))
start_leads h ls w x is k = by_case (is_up w x) refl where
  by_case : (b : Bool) → is_up w x ≡ b → IsWorldOf h (ls ++ line x Starts ∷ []) (world_after w (start_events x b))
  by_case false off = subst (IsWorldOf h (ls ++ line x Starts ∷ [])) (sym (start_down w x off)) (world_on h ls (line x Starts) w (again w x true) is k (started_on h ls w x is k))
  by_case true on =
      subst (IsWorldOf h (ls ++ line x Starts ∷ [])) (sym (start_up w x (k.there x is) on))
      (world_on h ls (line x Starts) w (again (again w x false) x true) is k (restarted_on h ls w x is k))

-- Inputs

-- an input at x
abbrev to_node : ℕ → Input → Arrival
to_node x i = record { at = x; input = i }

stepped_on : (h : Header) (ls : List Line) (w : World) (x : ℕ) (i : Input) → IsNode h.nodes x → IsWorldOf h ls w
    → GoesOn h ls (line x (Takes i)) w (stepped w i (step (node w x) i))
stepped_on h ls w x i is k = record {
  ids_stay = ids-with_process w.processes next;
  here = found_at w.processes next x me (k.there x is) ∙ ap (λ (p : Process). process_of (step p.node i).node true) (k.processes x is);
  others = λ y apart. process_in-with_other w.processes next y (λ e. apart (sym me ∙ e));
  net = ap (λ (p : Process). w.net ++ (step p.node i).sends) (k.processes x is);
} where
  next : Process
  next = record { node = (step (node w x) i).node; up = true }

  me : next.node.control.me ≡ x
  me = (step_leaves (node w x) i).me ∙ process_in-me w.processes x

input_leads : (h : Header) (ls : List Line) (w : World) (x : ℕ) (i : Input) → IsNode h.nodes x → IsWorldOf h ls w → HasStarted ls x
    → IsWorldOf h (ls ++ line x (Takes i) ∷ []) (acted w (Some (to_node x i)))
input_leads h ls w x i is k begun =
    let up : is_up w x ≡ true = ap (λ (p : Process). p.up) (k.processes x is) ∙ begun in
    let taken : acted w (Some (to_node x i)) ≡ stepped w i (step (node w x) i) = rw up refl in
    subst (IsWorldOf h (ls ++ line x (Takes i) ∷ [])) (sym taken)
    (world_on h ls (line x (Takes i)) w (stepped w i (step (node w x) i)) is k (stepped_on h ls w x i is k))

-- One line

line_leads : (h : Header) (ls : List Line) (w : World) (x : ℕ) (e : Entry) (es : List Event) → IsNode h.nodes x → IsWorldOf h ls w → CanFollow h ls x e → AreEventsOf w x e es
    → IsWorldOf h (ls ++ line x e ∷ []) (world_after w es)
line_leads h ls w x Starts es is k can of = subst (λ (us : List Event). IsWorldOf h (ls ++ line x Starts ∷ []) (world_after w us)) (sym of) (start_leads h ls w x is k)
line_leads h ls w x (Takes (Delivered m)) es is k can of =
    let here = input_leads h ls w x (Delivered m) is k can.0 in
    let at_receiver = subst (λ (y : ℕ). IsWorldOf h (ls ++ line x (Takes (Delivered m)) ∷ []) (acted w (Some (to_node y (Delivered m))))) (sym can.1.0) here in
    let by_number = subst (λ (found : Option Message). IsWorldOf h (ls ++ line x (Takes (Delivered m)) ∷ []) (acted w (delivery found))) (sym of.1) at_receiver in
    subst (λ (us : List Event). IsWorldOf h (ls ++ line x (Takes (Delivered m)) ∷ []) (world_after w us)) (sym of.2) by_number
line_leads h ls w x (Takes i) es is k can of =
    subst (λ (us : List Event). IsWorldOf h (ls ++ line x (Takes i) ∷ []) (world_after w us)) (sym of) (input_leads h ls w x i is k can.0)

line_events : (h : Header) (ls : List Line) (w : World) (x : ℕ) (e : Entry) → IsWorldOf h ls w → CanFollow h ls x e → (es : List Event) × AreEventsOf w x e es
line_events h ls w x Starts k can = (start_events x (is_up w x), refl)
line_events h ls w x (Takes (Delivered m)) k can =
    let found = place_of m w.net (k.kept m can.1.1) in
    (Do (Deliver (suc found.0)) ∷ [], (suc found.0, found.1, refl))
line_events h ls w x (Takes i) k can = (Do (At x i) ∷ [], refl)

-- All lines

world_after-append : (w : World) (first rest : List Event) → world_after w (first ++ rest) ≡ world_after (world_after w first) rest
world_after-append w [] rest = refl
world_after-append w (e ∷ es) rest = world_after-append (next_world w e) es rest

-- a longer merge leads from the world of its first part to the world of the whole
pub merge_leads : (h : Header) (past ls : List Line) (w : World) (es : List Event) → IsWorldOf h past w → GoOn h past ls → IsScheduleOf w ls es → IsWorldOf h (past ++ ls) (world_after w es)
merge_leads h past [] w es k on of = subst (λ (us : List Event). IsWorldOf h (past ++ []) (world_after w us)) (sym of) (subst (λ (all : List Line). IsWorldOf h all w) (sym (append-nil past)) k)
merge_leads h past (l ∷ ls) w es k on of =
    let one : IsWorldOf h (past ++ l ∷ []) (world_after w of.0) = line_leads h past w l.node l.entry of.0 on.0 k on.1 of.3 in
    let all : IsWorldOf h ((past ++ l ∷ []) ++ ls) (world_after (world_after w of.0) of.1) = merge_leads h (past ++ l ∷ []) ls (world_after w of.0) of.1 one on.2 of.4 in
    let whole : IsWorldOf h (past ++ l ∷ ls) (world_after (world_after w of.0) of.1) = subst (λ (ms : List Line). IsWorldOf h ms (world_after (world_after w of.0) of.1)) (append_assoc past (l ∷ []) ls) all in
    let joined : IsWorldOf h (past ++ l ∷ ls) (world_after w (of.0 ++ of.1)) = subst (IsWorldOf h (past ++ l ∷ ls)) (sym (world_after-append w of.0 of.1)) whole in
    subst (λ (us : List Event). IsWorldOf h (past ++ l ∷ ls) (world_after w us)) (sym of.2) joined

-- a longer merge has a schedule
pub merge_schedule : (h : Header) (past ls : List Line) (w : World) → IsWorldOf h past w → GoOn h past ls → (es : List Event) × IsScheduleOf w ls es
merge_schedule h past [] w k on = ([], refl)
merge_schedule h past (l ∷ ls) w k on =
    let first = line_events h past w l.node l.entry k on.1 in
    let one : IsWorldOf h (past ++ l ∷ []) (world_after w first.0) = line_leads h past w l.node l.entry first.0 on.0 k on.1 first.1 in
    let rest = merge_schedule h (past ++ l ∷ []) ls (world_after w first.0) one on.2 in
    (first.0 ++ rest.0, (first.0, rest.0, refl, first.1, rest.1))

-- One line more, and its events

pub merge_more : (h : Header) (past ls : List Line) (l : Line) → GoOn h past ls → IsNode h.nodes l.node → CanFollow h (past ++ ls) l.node l.entry → GoOn h past (ls ++ l ∷ [])
merge_more h past [] l on is can = (is, subst (λ (all : List Line). CanFollow h all l.node l.entry) (append-nil past) can, tt)
merge_more h past (k ∷ ks) l on is can =
    (on.0, on.1, merge_more h (past ++ k ∷ []) ks l on.2 is (subst (λ (all : List Line). CanFollow h all l.node l.entry) (sym (append_assoc past (k ∷ []) ks)) can))

pub schedule_more : (w : World) (ls : List Line) (l : Line) (es more : List Event) → IsScheduleOf w ls es → AreEventsOf (world_after w es) l.node l.entry more → IsScheduleOf w (ls ++ l ∷ []) (es ++ more)
schedule_more w [] l es more of are =
    let here : AreEventsOf w l.node l.entry more = subst (λ (us : List Event). AreEventsOf (world_after w us) l.node l.entry more) of are in
    (more, [], ap (λ (us : List Event). us ++ more) of ∙ sym (append-nil more), here, refl)
schedule_more w (k ∷ ks) l es more of are =
    let behind : AreEventsOf (world_after w (of.0 ++ of.1)) l.node l.entry more = subst (λ (us : List Event). AreEventsOf (world_after w us) l.node l.entry more) of.2 are in
    let there : AreEventsOf (world_after (world_after w of.0) of.1) l.node l.entry more = subst (λ (v : World). AreEventsOf v l.node l.entry more) (world_after-append w of.0 of.1) behind in
    (of.0, of.1 ++ more, ap (λ (us : List Event). us ++ more) of.2 ∙ append_assoc of.0 of.1 more, of.3, schedule_more (world_after w of.0) ks l of.1 more of.4 there)
