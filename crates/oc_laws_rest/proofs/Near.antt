-- Lease ends are near: each that is set is at most a lease's time later than its node's clock.
use Rattle.std.proofs.Common.{◌≡◌, ℕ, zero, suc, ◌+◌, ◌-◌, ◌≤◌, max, true, if◌then◌else◌, Option, Some, None, List, [], ◌∷◌, get_or, replicate, refl, sym, subst, ◌∙◌, ⊎_elim, arith}
use Rattle.std.specs.List.{range_with_len}
use Rattle.oc_base.specs.declared.cert.Cert.{Cert}
use Rattle.oc_base.specs.declared.rank.Rank.{Rank}
use Rattle.oc_base.specs.declared.refusal.Refusal.{Refusal}
use Rattle.oc_base.specs.declared.shelf.Shelf.{Shelf}
use Rattle.oc_base.specs.Groups.{shelf}
use Rattle.oc_model.specs.declared.event.Event.{Event}
use Rattle.oc_model.specs.declared.input.Input.{Input}
use Rattle.oc_model.specs.declared.input.Input.TheVariants.{Tick, CheckNow, Relocate, Unreachable, Pull, Measured, Publish, Seal, Client, Delivered}
use Rattle.oc_model.specs.declared.message.Body.{Body}
use Rattle.oc_model.specs.declared.message.Body.TheVariants as bodies
use Rattle.oc_model.specs.declared.record.Record.TheVariants as records
use Rattle.oc_model.specs.Adopting.{raises_over, host, birth, has_lease, grants, sends_rejoin, adopts, answers_ask, asked}
use Rattle.oc_model.specs.Adoption.{rank_or_last, adoption_refusal}
use Rattle.oc_model.specs.Checking.{merges, merges_all, at_time, starts_leases, dies, ends_each, ends_leases, checks_if_due, tick, acknowledges, life, checked_in}
use Rattle.oc_model.specs.Leases.{lease_time, renew, start_if, start_each, ended}
use Rattle.oc_model.specs.NextWorld.{stopped, world_after}
use Rattle.oc_model.specs.Node.{Header, Control, Node, restarted}
use Rattle.oc_model.specs.Numbers.{at}
use Rattle.oc_model.specs.Plan.{Plan, begun, write}
use Rattle.oc_model.specs.Step.{received, step}
use Rattle.oc_model.specs.Table.{newest, is_news, leased_children}
use Rattle.oc_model.specs.World.{World, Process, node, process, process_in, with_process, new_world}
use Rattle.oc_model.proofs.Processes.{IsNew, process_in-new, at_put, anew}
use Rattle.oc_model.proofs.Rules.{either}
use Rattle.oc_laws_world.proofs.Lifts.{IsActLaw, act_lift, act_event}
use Rattle.oc_laws_tree.proofs.LeaseRules.{OfLeases, OfPlan, stays_took_yes, stays_took_no, stays_unreachable, stays_relocate, stays_raises_over, stays_checks, stays_took_ack, stays_took_rejoin, stays_sees, stays_client, stays_measured, stays_published, stays_sealed_at, stays_pulled, stays_fetched, stays_took_chunk, stays_checks_if_due, stays_fetches_as}
use Rattle.oc_laws_tree.proofs.LeasesAhead.{of_merges}
use Rattle.oc_laws_tree.proofs.Points.{passing_after}
use Rattle.oc_laws_tree.proofs.Reached.{Reached, of_reached}
use Rattle.oc_laws_tree.proofs.Ticks.{set_at}

abbrev Near : ℕ → List Cert → List (Option ℕ) → ℕ → Type 0
Near me t ends clock = (x end : ℕ) → at ends x None ≡ Some end → end ≤ clock + lease_time

abbrev pub IsNear : Control → Type 0
IsNear n = OfLeases Near n

renew_near : (me : ℕ) (t : List Cert) (ends : List (Option ℕ)) (y clock : ℕ) → Near me t ends clock → Near me t (renew ends y clock) clock
renew_near me t ends y clock near x end e = ⊎_elim
    (λ here. let same : Some (clock + lease_time) ≡ Some end = sym here.2 ∙ e in let equal : clock + lease_time ≡ end = cc in omega (arith, equal))
    (λ other. near x end (sym other ∙ e))
    (set_at ends (y - 1) (x - 1) (Some (clock + lease_time)))

start_near : (me : ℕ) (t : List Cert) (e : Option ℕ) (ends : List (Option ℕ)) (y clock : ℕ) → Near me t ends clock → Near me t (start_if e ends y clock) clock
start_near me t (Some f) ends y clock near = near
start_near me t None ends y clock near = renew_near me t ends y clock near

starts_near : (me : ℕ) (t : List Cert) (ys : List ℕ) (ends : List (Option ℕ)) (clock : ℕ) → Near me t ends clock → Near me t (start_each ys ends clock) clock
starts_near me t [] ends clock near = near
starts_near me t (y ∷ ys) ends clock near = starts_near me t ys (start_if (at ends y None) ends y clock) clock (start_near me t (at ends y None) ends y clock near)

dies_near : (e : Option Cert) (o : Plan) → OfPlan Near o → OfPlan Near (dies e o)
dies_near None o h = h
dies_near (Some k) o h = of_merges Near o (record k { dead = true }) h

ends_near : (ys : List ℕ) (o : Plan) → OfPlan Near o → OfPlan Near (ends_each ys o)
ends_near [] o h = h
ends_near (y ∷ ys) o h = ends_near ys (dies (newest o.node.kept.table y) o) (dies_near (newest o.node.kept.table y) o h)

tick_near : (o : Plan) (ls : List Shelf) (t : ℕ) → OfPlan Near o → OfPlan Near (tick o ls t)
tick_near o ls t h =
    let now : ℕ = max o.node.soft.clock t in
    let later : Near o.node.me o.node.kept.table o.node.leases now = λ x end e. let soon : end ≤ o.node.soft.clock + lease_time = h x end e in omega (arith, soon) in
    let started : Plan = starts_leases (at_time o t) in
    let over : Plan = ends_leases started in
    let checked : Plan = checks_if_due over in
    stays_fetches_as Near checked.node.kept.mode checked ls
    (stays_checks_if_due Near over
    (ends_near (ended started.node.kept.table started.node.me started.node.leases started.node.soft.clock) started
    (starts_near o.node.me o.node.kept.table (leased_children o.node.kept.table o.node.me) o.node.leases now later)))

merged_near : (cs : List Cert) (o : Plan) → OfPlan Near o → OfPlan Near (merges_all cs o)
merged_near [] o h = h
merged_near (c ∷ cs) o h = merged_near cs (merges o c) (of_merges Near o c h)

checked_in_near : (o : Plan) (y seq upto rate number clients : ℕ) (certs : List Cert) → OfPlan Near o → OfPlan Near (checked_in o y seq upto rate number clients certs)
checked_in_near o y seq upto rate number clients certs h =
    let told : List Cert = life y seq o.node.me number clients ∷ certs in
    let merged : Plan = merges_all told o in
    either (has_lease o.node y seq) (OfPlan Near) (acknowledges merged y seq upto rate) (sends_rejoin o y seq)
    (renew_near merged.node.me merged.node.kept.table merged.node.leases y merged.node.soft.clock (merged_near told o h)) h

adopts_near : (o : Plan) (y seq : ℕ) → OfPlan Near o → OfPlan Near (adopts o y seq)
adopts_near o y seq h =
    let born : Cert = birth y seq o.node.me in
    let entered : Plan = write o (records.Entry born) in
    let again : Near o.node.me o.node.kept.table (renew o.node.leases y o.node.soft.clock) o.node.soft.clock = renew_near o.node.me o.node.kept.table o.node.leases y o.node.soft.clock h in
    either (has_lease o.node y seq) (OfPlan Near) (grants o y seq) (if is_news o.node.kept.table born then grants entered y seq else sends_rejoin o y seq) again
    (either (is_news o.node.kept.table born) (OfPlan Near) (grants entered y seq) (sends_rejoin o y seq) again h)

answers_near : (why : Option Refusal) (o : Plan) (y seq : ℕ) → OfPlan Near o → OfPlan Near (answers_ask why o y seq)
answers_near None o y seq h = adopts_near o y seq h
answers_near (Some why) o y seq h = h

asked_near : (o : Plan) (y seq : ℕ) (r : Option Rank) → OfPlan Near o → OfPlan Near (asked o y seq r)
asked_near o y seq r h =
    let raised : Plan = raises_over o y (rank_or_last r) in
    answers_near (adoption_refusal (host raised.node y) y r) raised y seq (stays_raises_over Near o y (rank_or_last r) h)

received_near : (o : Plan) (ls : List Shelf) (p : ℕ) (b : Body) → OfPlan Near o → OfPlan Near (received o ls p b)
received_near o ls p bodies.Look h = h
received_near o ls p (bodies.LookIs is_in parent rate children) h = stays_sees Near o p (record { in_tree = is_in; parent = parent; rate = rate; children = children }) h
received_near o ls p (bodies.Ask seq rank) h = asked_near o p seq rank h
received_near o ls p (bodies.Yes seq rank ancestors) h = stays_took_yes Near o p seq rank ancestors h
received_near o ls p (bodies.No seq why) h = stays_took_no Near o p seq why h
received_near o ls p (bodies.CheckIn seq upto rate number clients certs) h = checked_in_near o p seq upto rate number clients certs h
received_near o ls p (bodies.CheckAck seq upto rank ancestors) h = stays_took_ack Near o p seq upto rank ancestors h
received_near o ls p (bodies.Rejoin seq) h = stays_took_rejoin Near o p seq h
received_near o ls p (bodies.Fetch have) h = stays_fetched Near o ls p have h
received_near o ls p (bodies.Chunk g start bytes last) h = stays_took_chunk Near o ls p g start bytes last h

step_near : (n : Node) (i : Input) → IsNear n.control → IsNear (step n i).node.control
step_near n (Tick t) h = tick_near (begun n.control) (shelf n.groups) t h
step_near n CheckNow h = stays_checks Near (begun n.control) h
step_near n (Relocate p) h = stays_relocate Near (begun n.control) p h
step_near n (Unreachable p) h = stays_unreachable Near (begun n.control) p h
step_near n (Pull p) h = stays_pulled Near (begun n.control) (shelf n.groups) p h
step_near n (Measured p rate hops) h = stays_measured Near (begun n.control) p rate hops h
step_near n (Publish g bytes) h = stays_published Near (begun n.control) (shelf n.groups) g bytes h
step_near n (Seal g) h = stays_sealed_at Near (begun n.control) (shelf n.groups) g h
step_near n (Client area start g) h = stays_client Near (begun n.control) (shelf n.groups) area start g h
step_near n (Delivered m) h = received_near (begun n.control) (shelf n.groups) m.from m.body h

-- Worlds

abbrev no_ends : ℕ → List (Option ℕ)
no_ends k = replicate k None

none_set : (k i : ℕ) → get_or (no_ends k) i None ≡ None
none_set zero i = refl
none_set (suc k) zero = refl
none_set (suc k) (suc i) = none_set k i

restarted_near : (n : Node) → IsNear (restarted n).control
restarted_near n x end e = let clash : None ≡ Some end = sym (none_set n.control.nodes _) ∙ e in absurd cc

abbrev IsNearNode : Node → Type 0
IsNearNode n = IsNear n.control

abbrev pub AreNear : World → Type 0
AreNear w = (y : ℕ) → IsNear (node w y).control

put_near : (w : World) (q : Process) → IsNear q.node.control → AreNear w → (y : ℕ) → IsNear (process_in (with_process w.processes q) y).node.control
put_near w q here all y = at_put w.processes q IsNearNode y (λ _. here) (all y)

near_law : IsActLaw (λ w. Unit {0}) AreNear
near_law = record {
  starts = λ w x up all. put_near w (anew w x up) (restarted_near (node w x)) all;
  takes = λ w a truth is_up beside all. put_near w (record { node = (step (node w a.at) a.input).node; up = true }) (step_near (node w a.at) a.input (all a.at)) all;
  stops = λ w a truth is_up beside all. put_near w (stopped (step (node w a.at) a.input).node) (restarted_near (step (node w a.at) a.input).node) all;
}

near_new : (h : Header) → AreNear (new_world h)
near_new h y =
    let new : IsNew y (process (new_world h) y) = process_in-new h (range_with_len 1 h.nodes) y in
    subst (λ (p : Process). IsNear p.node.control) (sym new.1) (λ x end e. let clash : None ≡ Some end = sym (none_set new.0.nodes _) ∙ e in absurd cc)

near_after : (h : Header) (events : List Event) → AreNear (world_after (new_world h) events)
near_after h events =
    passing_after AreNear (λ w a all. act_lift (λ v. Unit {0}) AreNear near_law (λ v b beside. beside) w a tt all) (λ w e all. act_event (λ v. Unit {0}) AreNear near_law (λ v b beside. beside) w e tt all)
    (new_world h) events (near_new h)

-- in every world that events lead to
pub near_of : (h : Header) (w : World) → Reached h w → AreNear w
near_of h w reached = of_reached AreNear near_after h w reached
