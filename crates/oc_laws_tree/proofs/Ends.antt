-- Lease ends: none lies further ahead of its node's clock than a lease lasts, in any world that is reached.
use Rattle.std.proofs.Common.{◌≡◌, ℕ, zero, suc, ◌+◌, ◌-◌, ◌≤◌, max, Bool, true, false, if◌then◌else◌, Option, Some, None, List, get_or, replicate, refl, sym, subst, ◌∙◌, ⊎_elim, arith}
use Rattle.std.specs.List.{range_with_len}
use Rattle.oc_base.specs.declared.cert.Cert.{Cert}
use Rattle.oc_base.specs.declared.rank.Rank.{Rank}
use Rattle.oc_base.specs.declared.refusal.Refusal.{Refusal}
use Rattle.oc_base.specs.declared.shelf.Shelf.{Shelf}
use Rattle.oc_model.specs.declared.event.Act.{Act}
use Rattle.oc_model.specs.declared.event.Event.{Event}
use Rattle.oc_model.specs.declared.input.Input.{Input}
use Rattle.oc_model.specs.declared.input.Input.TheVariants.{Tick, CheckNow, Relocate, Unreachable, Pull, Measured, Publish, Seal, Client, Delivered}
use Rattle.oc_model.specs.declared.message.Body.{Body}
use Rattle.oc_model.specs.declared.message.Body.TheVariants as bodies
use Rattle.oc_model.specs.declared.record.Record.TheVariants as records
use Rattle.oc_model.specs.Adopting.{raises_over, host, birth, has_lease, grants, sends_rejoin, adopts, answers_ask, asked}
use Rattle.oc_model.specs.Adoption.{rank_or_last, adoption_refusal}
use Rattle.oc_model.specs.Checking.{checked_in}
use Rattle.oc_base.specs.Groups.{shelf}
use Rattle.oc_model.specs.Leases.{lease_time, renew}
use Rattle.oc_model.specs.NextWorld.{next_world, stopped}
use Rattle.oc_model.specs.Node.{Header, Control, Node, restarted}
use Rattle.oc_model.specs.Plan.{Plan, begun, write}
use Rattle.oc_model.specs.Step.{received, step}
use Rattle.oc_model.specs.Table.{is_news}
use Rattle.oc_model.specs.World.{World, Process, node, process, process_in, with_process, after_act, new_world}
use Rattle.oc_model.proofs.Processes.{IsNew, process_in-new, at_put, anew}
use Rattle.oc_model.proofs.Rules.{either}
use Rattle.oc_laws_world.proofs.Lifts.{control_of, IsActLaw, act_lift, act_event}
use Rattle.oc_laws_tree.proofs.Points.{passing_after}
use Rattle.oc_laws_tree.proofs.LeaseRules.{OfLeases, OfPlan, stays_took_yes, stays_took_no, stays_unreachable, stays_relocate, stays_raises_over, stays_checks, stays_took_ack, stays_took_rejoin, stays_sees, stays_client, stays_measured, stays_published, stays_sealed_at, stays_pulled, stays_fetched, stays_took_chunk}
use Rattle.oc_laws_tree.proofs.Checks.{check_in_taken, check_in_refused}
use Rattle.oc_laws_tree.proofs.Reached.{Reached}
use Rattle.oc_laws_tree.proofs.Ticks.{set_at, HasTicked, has_ticked}

-- each end that is set is at most a lease's time ahead
abbrev AreWithin : ℕ → List Cert → List (Option ℕ) → ℕ → Type 0
AreWithin me t ends now = (i end : ℕ) → get_or ends i None ≡ Some end → end ≤ now + lease_time

abbrev IsWithin : Control → Type 0
IsWithin n = OfLeases AreWithin n

renew_within : (x me : ℕ) (t : List Cert) (ends : List (Option ℕ)) (now : ℕ) → AreWithin me t ends now → AreWithin me t (renew ends x now) now
renew_within x me t ends now within i end e = ⊎_elim
    (λ here. let new : Some (now + 30) ≡ Some end = sym here.2 ∙ e in let same : now + 30 ≡ end = cc in omega (arith, same))
    (λ other. within i end (sym other ∙ e))
    (set_at ends (x - 1) i (Some (now + lease_time)))

-- Steps

later_within : (n m : Control) (now : ℕ) → HasTicked n now m → n.soft.clock ≤ now → IsWithin n → IsWithin m
later_within n m now ticked late within i end e = ⊎_elim
    (λ same. let old : end ≤ n.soft.clock + 30 = within i end (sym same ∙ e) in omega (arith, old, late, ticked.clock))
    (λ new. let set : Some (now + 30) ≡ Some end = sym new.1 ∙ e in let same : now + 30 ≡ end = cc in omega (arith, same, ticked.clock))
    (ticked.ends i)

checked_in_within : (n : Control) (x seq upto rate number clients : ℕ) (certs : List Cert) → IsWithin n → OfPlan AreWithin (checked_in (begun n) x seq upto rate number clients certs)
checked_in_within n x seq upto rate number clients certs within = by_test (has_lease n x seq) refl where
  by_test : (b : Bool) → has_lease n x seq ≡ b → OfPlan AreWithin (checked_in (begun n) x seq upto rate number clients certs)
  by_test true leased = let takes = check_in_taken n x seq upto rate number clients certs leased in
      rw (takes.leases, takes.clock) (renew_within x n.me n.kept.table n.leases n.soft.clock within)
  by_test false none = subst (OfPlan AreWithin) (sym (check_in_refused n x seq upto rate number clients certs none)) within

adopts_within : (o : Plan) (x seq : ℕ) → OfPlan AreWithin o → OfPlan AreWithin (adopts o x seq)
adopts_within o x seq within =
    let born : Cert = birth x seq o.node.me in
    let entered : Plan = write o (records.Entry born) in
    let renewed : AreWithin o.node.me o.node.kept.table (renew o.node.leases x o.node.soft.clock) o.node.soft.clock = renew_within x o.node.me o.node.kept.table o.node.leases o.node.soft.clock within in
    either (has_lease o.node x seq) (OfPlan AreWithin) (grants o x seq) (if is_news o.node.kept.table born then grants entered x seq else sends_rejoin o x seq)
    renewed (either (is_news o.node.kept.table born) (OfPlan AreWithin) (grants entered x seq) (sends_rejoin o x seq) renewed within)

asked_within : (o : Plan) (x seq : ℕ) (r : Option Rank) → OfPlan AreWithin o → OfPlan AreWithin (asked o x seq r)
asked_within o x seq r within =
    let raised : Plan = raises_over o x (rank_or_last r) in
    by_answer (adoption_refusal (host raised.node x) x r) (stays_raises_over AreWithin o x (rank_or_last r) within) where
      by_answer : (why : Option Refusal) → OfPlan AreWithin (raises_over o x (rank_or_last r)) → OfPlan AreWithin (answers_ask why (raises_over o x (rank_or_last r)) x seq)
      by_answer None h = adopts_within (raises_over o x (rank_or_last r)) x seq h
      by_answer (Some why) h = h

received_within : (n : Control) (ls : List Shelf) (p : ℕ) (b : Body) → IsWithin n → OfPlan AreWithin (received (begun n) ls p b)
received_within n ls p bodies.Look h = h
received_within n ls p (bodies.LookIs is_in parent rate children) h = stays_sees AreWithin (begun n) p (record { in_tree = is_in; parent = parent; rate = rate; children = children }) h
received_within n ls p (bodies.Ask seq rank) h = asked_within (begun n) p seq rank h
received_within n ls p (bodies.Yes seq rank ancestors) h = stays_took_yes AreWithin (begun n) p seq rank ancestors h
received_within n ls p (bodies.No seq why) h = stays_took_no AreWithin (begun n) p seq why h
received_within n ls p (bodies.CheckIn seq upto rate number clients certs) h = checked_in_within n p seq upto rate number clients certs h
received_within n ls p (bodies.CheckAck seq upto rank ancestors) h = stays_took_ack AreWithin (begun n) p seq upto rank ancestors h
received_within n ls p (bodies.Rejoin seq) h = stays_took_rejoin AreWithin (begun n) p seq h
received_within n ls p (bodies.Fetch have) h = stays_fetched AreWithin (begun n) ls p have h
received_within n ls p (bodies.Chunk g start bytes last) h = stays_took_chunk AreWithin (begun n) ls p g start bytes last h

step_within : (n : Node) (i : Input) → IsWithin n.control → IsWithin (step n i).node.control
step_within n (Tick t) h = later_within n.control (step n (Tick t)).node.control (max n.control.soft.clock t) (has_ticked n.control (shelf n.groups) t) (omega arith) h
step_within n CheckNow h = stays_checks AreWithin (begun n.control) h
step_within n (Relocate p) h = stays_relocate AreWithin (begun n.control) p h
step_within n (Unreachable p) h = stays_unreachable AreWithin (begun n.control) p h
step_within n (Pull p) h = stays_pulled AreWithin (begun n.control) (shelf n.groups) p h
step_within n (Measured p rate hops) h = stays_measured AreWithin (begun n.control) p rate hops h
step_within n (Publish g bytes) h = stays_published AreWithin (begun n.control) (shelf n.groups) g bytes h
step_within n (Seal g) h = stays_sealed_at AreWithin (begun n.control) (shelf n.groups) g h
step_within n (Client area start g) h = stays_client AreWithin (begun n.control) (shelf n.groups) area start g h
step_within n (Delivered m) h = received_within n.control (shelf n.groups) m.from m.body h

-- Worlds

abbrev AreAllWithin : World → Type 0
AreAllWithin w = (y : ℕ) → IsWithin (control_of w y)

-- the lease ends after a start, none of which is set
abbrev no_ends : ℕ → List (Option ℕ)
no_ends k = replicate k None

none_set : (k i : ℕ) → get_or (no_ends k) i None ≡ None
none_set zero i = refl
none_set (suc k) zero = refl
none_set (suc k) (suc i) = none_set k i

restarted_within : (n : Node) → IsWithin (restarted n).control
restarted_within n i end e = let clash : None ≡ Some end = sym (none_set n.control.nodes i) ∙ e in absurd cc

put_within : (w : World) (q : Process) → IsWithin q.node.control → AreAllWithin w → (y : ℕ) → IsWithin (process_in (with_process w.processes q) y).node.control
put_within w q here all y = at_put w.processes q (λ (n : Node). IsWithin n.control) y (λ _. here) (all y)

within_law : IsActLaw (λ w. Unit {0}) AreAllWithin
within_law = record {
  starts = λ w x up all. put_within w (anew w x up) (restarted_within (node w x)) all;
  takes = λ w a truth is_up beside all. put_within w (record { node = (step (node w a.at) a.input).node; up = true }) (step_within (node w a.at) a.input (all a.at)) all;
  stops = λ w a truth is_up beside all. put_within w (stopped (step (node w a.at) a.input).node) (restarted_within (step (node w a.at) a.input).node) all;
}

within_act : (w : World) (a : Act) → AreAllWithin w → AreAllWithin (after_act w a)
within_act w a all = act_lift (λ v. Unit {0}) AreAllWithin within_law (λ v b beside. beside) w a tt all

within_event : (w : World) (e : Event) → AreAllWithin w → AreAllWithin (next_world w e)
within_event w e all = act_event (λ v. Unit {0}) AreAllWithin within_law (λ v b beside. beside) w e tt all

within_new : (h : Header) → AreAllWithin (new_world h)
within_new h y =
    let new : IsNew y (process (new_world h) y) = process_in-new h (range_with_len 1 h.nodes) y in
    subst (λ (p : Process). IsWithin p.node.control) (sym new.1) (λ i end e. absurd (unset new.0 i end e)) where
      unset : (g : Header) (i end : ℕ) → get_or (no_ends g.nodes) i None ≡ Some end → ⊥
      unset g i end e = let clash : None ≡ Some end = sym (none_set g.nodes i) ∙ e in absurd cc

-- no lease end lies further ahead than a lease lasts
pub ends_within : (h : Header) (w : World) (y i end : ℕ) → Reached h w → get_or (control_of w y).leases i None ≡ Some end → end ≤ (control_of w y).soft.clock + lease_time
ends_within h w y i end reached e = subst AreAllWithin (sym reached.is) (passing_after AreAllWithin within_act within_event (new_world h) reached.events (within_new h)) y i end e
