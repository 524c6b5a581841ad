-- The chain is one line in every world that is reached, and each root is above all nodes.
use Rattle.std.proofs.Common.{◌≡◌, ℕ, ◌<◌, ◌≤◌, Bool, true, ◌==◌, nat_le, if◌then◌else◌, Option, Some, None, List, [], ◌∷◌, refl, ap, ap₂, sym, subst, ◌∙◌, arith, leb-true, eq-eqb}
use Rattle.std.specs.List.{range_with_len}
use Rattle.std.proofs.lemmas.Bool.{le-leb}
use Rattle.oc_base.specs.declared.cert.Cert.{Cert}
use Rattle.oc_base.specs.declared.rank.Rank.{Rank}
use Rattle.oc_base.specs.declared.refusal.Refusal.{Refusal}
use Rattle.oc_base.specs.declared.shelf.Shelf.{Shelf}
use Rattle.oc_base.specs.Groups.{shelf}
use Rattle.oc_base.specs.Shelves.{line_of}
use Rattle.oc_model.specs.declared.answer.Answer.TheVariants as words
use Rattle.oc_model.specs.declared.event.Act.{Act}
use Rattle.oc_model.specs.declared.event.Event.{Event}
use Rattle.oc_model.specs.declared.input.Input.{Input}
use Rattle.oc_model.specs.declared.input.Input.TheVariants.{Tick, CheckNow, Relocate, Unreachable, Pull, Measured, Publish, Seal, Client, Delivered}
use Rattle.oc_model.specs.declared.message.Body.{Body}
use Rattle.oc_model.specs.declared.message.Body.TheVariants as bodies
use Rattle.oc_model.specs.declared.mode.Mode.TheVariants as modes
use Rattle.oc_model.specs.declared.record.Record.TheVariants as records
use Rattle.oc_model.specs.Adopting.{raises_over, host, birth, has_lease, grants, sends_rejoin, adopts, answers_ask, asked}
use Rattle.oc_model.specs.Adoption.{rank_or_last, adoption_refusal}
use Rattle.oc_model.specs.Checking.{at_time, starts_leases, merges, merges_all, dies, ends_each, ends_leases, checks_if_due, tick, acknowledges, life, checked_in, is_peer}
use Rattle.oc_model.specs.Chains.{IsJoined}
use Rattle.oc_model.specs.Leases.{ended}
use Rattle.oc_model.specs.Measures.{reading_of, same_reading}
use Rattle.oc_model.specs.NextWorld.{next_world, stopped}
use Rattle.oc_model.specs.Node.{Header, Node, restarted}
use Rattle.oc_model.specs.Plan.{Plan, begun, write, answers, is_member}
use Rattle.oc_model.specs.Serving.{redirects, server_for, client_of, client, may_move, measured}
use Rattle.oc_model.specs.Step.{received, step}
use Rattle.oc_model.specs.Table.{newest, is_news}
use Rattle.oc_model.specs.World.{World, Process, node, process, process_in, with_process, mode_of, after_act, new_world}
use Rattle.oc_model.proofs.Processes.{IsNew, process_in-me, process_in-new, at_put, anew}
use Rattle.oc_model.proofs.Rules.{either}
use Rattle.oc_laws_world.proofs.Lifts.{control_of, IsActLaw, act_lift, act_event}
use Rattle.oc_laws_tree.proofs.Points.{passing_after}
use Rattle.oc_laws_tree.proofs.ContentRules.{content_published, content_sealed_at, content_pulled, content_fetched, content_took_chunk}
use Rattle.oc_laws_tree.proofs.Line.{IsInLine, OfLine, IsTop, line_took_yes, line_took_no, line_unreachable, line_relocate, line_raises_over, line_checks, line_checks_if_due, line_fetches_as, line_took_ack, line_took_rejoin, line_sees}
use Rattle.oc_laws_tree.proofs.Reached.{Reached}
use Rattle.oc_laws_tree.proofs.Spans.{IsId, among_them}

-- Asks, check-ins, ticks and clients

line_merges : (o : Plan) (c : Cert) → OfLine o → OfLine (merges o c)
line_merges o c h = either (is_news o.node.kept.table c) OfLine (write o (records.Entry c)) o h h

line_merges_all : (cs : List Cert) (o : Plan) → OfLine o → OfLine (merges_all cs o)
line_merges_all [] o h = h
line_merges_all (c ∷ cs) o h = line_merges_all cs (merges o c) (line_merges o c h)

line_ends_each : (xs : List ℕ) (o : Plan) → OfLine o → OfLine (ends_each xs o)
line_ends_each [] o h = h
line_ends_each (x ∷ xs) o h = line_ends_each xs (dies (newest o.node.kept.table x) o) (by_found (newest o.node.kept.table x)) where
  by_found : (e : Option Cert) → OfLine (dies e o)
  by_found None = h
  by_found (Some k) = line_merges o (record k { dead = true }) h

line_tick : (o : Plan) (ls : List Shelf) (t : ℕ) → OfLine o → OfLine (tick o ls t)
line_tick o ls t h =
    let started : Plan = starts_leases (at_time o t) in
    let over : Plan = ends_leases started in
    let checked : Plan = checks_if_due over in
    line_fetches_as checked.node.kept.mode checked ls (line_checks_if_due over (line_ends_each (ended started.node.kept.table started.node.me started.node.leases started.node.soft.clock) started h))

line_checked_in : (o : Plan) (x seq upto rate number clients : ℕ) (certs : List Cert) → OfLine o → OfLine (checked_in o x seq upto rate number clients certs)
line_checked_in o x seq upto rate number clients certs h =
    let told : List Cert = life x seq o.node.me number clients ∷ certs in
    either (has_lease o.node x seq) OfLine (acknowledges (merges_all told o) x seq upto rate) (sends_rejoin o x seq) (line_merges_all told o h) h

line_adopts : (o : Plan) (x seq : ℕ) → OfLine o → OfLine (adopts o x seq)
line_adopts o x seq h =
    let born : Cert = birth x seq o.node.me in
    let entered : Plan = write o (records.Entry born) in
    either (has_lease o.node x seq) OfLine (grants o x seq) (if is_news o.node.kept.table born then grants entered x seq else sends_rejoin o x seq) h
    (either (is_news o.node.kept.table born) OfLine (grants entered x seq) (sends_rejoin o x seq) h h)

line_asked : (o : Plan) (x seq : ℕ) (r : Option Rank) → OfLine o → OfLine (asked o x seq r)
line_asked o x seq r h = by_answer (raises_over o x (rank_or_last r)) (adoption_refusal (host (raises_over o x (rank_or_last r)).node x) x r) (line_raises_over o x (rank_or_last r) h) where
  by_answer : (q : Plan) (why : Option Refusal) → OfLine q → OfLine (answers_ask why q x seq)
  by_answer q None k = line_adopts q x seq k
  by_answer q (Some why) k = k

line_client : (o : Plan) (ls : List Shelf) (area start : ℕ) (g : List ℕ) → OfLine o → OfLine (client o ls area start g)
line_client o ls area start g h = by_line (line_of g ls) where
  by_server : (to : Option ℕ) (count : ℕ) → OfLine (redirects to o count)
  by_server None count = h
  by_server (Some k) count = h

  by_line : (l : Option Shelf) → OfLine (client_of l o area start)
  by_line None = h
  by_line (Some l) = by_server (server_for o.node area) _

line_measured : (o : Plan) (p rate hops : ℕ) → OfLine o → OfLine (measured o p rate hops)
line_measured o p rate hops h =
    let is_old : Bool = same_reading (reading_of o.node.kept.measures p) (record { rate = rate; hops = hops }) in
    let wrote : Plan = write o (records.Rate p rate hops) in
    either (p == o.node.me) OfLine (answers o words.Own) (if is_old then o else may_move wrote) h (either is_old OfLine o (may_move wrote) h h)

-- Steps

line_received : (o : Plan) (ls : List Shelf) (p : ℕ) (b : Body) → OfLine o → OfLine (received o ls p b)
line_received o ls p bodies.Look h = h
line_received o ls p (bodies.LookIs is_in parent rate children) h = line_sees o p (record { in_tree = is_in; parent = parent; rate = rate; children = children }) h
line_received o ls p (bodies.Ask seq rank) h = line_asked o p seq rank h
line_received o ls p (bodies.Yes seq rank ancestors) h = line_took_yes o p seq rank ancestors h
line_received o ls p (bodies.No seq why) h = line_took_no o p seq why h
line_received o ls p (bodies.CheckIn seq upto rate number clients certs) h = line_checked_in o p seq upto rate number clients certs h
line_received o ls p (bodies.CheckAck seq upto rank ancestors) h = line_took_ack o p seq upto rank ancestors h
line_received o ls p (bodies.Rejoin seq) h = line_took_rejoin o p seq h
line_received o ls p (bodies.Fetch have) h = content_fetched IsInLine o ls p have h
line_received o ls p (bodies.Chunk g start bytes last) h = content_took_chunk IsInLine o ls p g start bytes last h

line_step : (n : Node) (i : Input) → IsInLine n.control → IsInLine (step n i).node.control
line_step n (Tick t) h = line_tick (begun n.control) (shelf n.groups) t h
line_step n CheckNow h = line_checks (begun n.control) h
line_step n (Relocate p) h = line_relocate (begun n.control) p h
line_step n (Unreachable p) h = line_unreachable (begun n.control) p h
line_step n (Pull p) h = content_pulled IsInLine (begun n.control) (shelf n.groups) p h
line_step n (Measured p rate hops) h = line_measured (begun n.control) p rate hops h
line_step n (Publish g bytes) h = content_published IsInLine (begun n.control) (shelf n.groups) g bytes h
line_step n (Seal g) h = content_sealed_at IsInLine (begun n.control) (shelf n.groups) g h
line_step n (Client area start g) h = line_client (begun n.control) (shelf n.groups) area start g h
line_step n (Delivered m) h = line_received (begun n.control) (shelf n.groups) m.from m.body h

-- Worlds

abbrev AreInLine : World → Type 0
AreInLine w = (y : ℕ) → IsInLine (control_of w y)

-- a start clears the place that a node looks for
line_restarted : (n : Node) → IsInLine n.control → IsInLine (restarted n).control
line_restarted n h = record { root = h.root; peer = h.peer; earlier = λ member. tt; few = λ member. omega arith; still = λ member. refl; no_wish = λ member. refl }

line_put : (w : World) (q : Process) → IsInLine q.node.control → AreInLine w → (y : ℕ) → IsInLine (process_in (with_process w.processes q) y).node.control
line_put w q here all y = at_put w.processes q (λ (n : Node). IsInLine n.control) y (λ _. here) (all y)

line_law : IsActLaw (λ w. Unit {0}) AreInLine
line_law = record {
  starts = λ w x up all. line_put w (anew w x up) (line_restarted (node w x) (all x)) all;
  takes = λ w a truth is_up beside all. line_put w (record { node = (step (node w a.at) a.input).node; up = true }) (line_step (node w a.at) a.input (all a.at)) all;
  stops = λ w a truth is_up beside all. line_put w (stopped (step (node w a.at) a.input).node) (line_restarted (step (node w a.at) a.input).node (line_step (node w a.at) a.input (all a.at))) all;
}

line_act_of : (w : World) (a : Act) → AreInLine w → AreInLine (after_act w a)
line_act_of w a all = act_lift (λ v. Unit {0}) AreInLine line_law (λ v b beside. beside) w a tt all

line_event : (w : World) (e : Event) → AreInLine w → AreInLine (next_world w e)
line_event w e all = act_event (λ v. Unit {0}) AreInLine line_law (λ v b beside. beside) w e tt all

line_new : (h : Header) → AreInLine (new_world h)
line_new h y =
    let new : IsNew y (process (new_world h) y) = process_in-new h (range_with_len 1 h.nodes) y in
    subst (λ (p : Process). IsInLine p.node.control) (sym new.1)
    record { root = λ e. absurd cc; peer = λ member p e. absurd cc; earlier = λ member. tt; few = λ member. omega arith; still = λ member. refl; no_wish = λ member. refl }

-- the chain is one line in each world that is reached
pub in_line : (h : Header) (w : World) (y : ℕ) → Reached h w → IsInLine (control_of w y)
in_line h w y reached = subst AreInLine (sym reached.is) (passing_after AreInLine line_act_of line_event (new_world h) reached.events (line_new h)) y

-- Chain members

-- a node is a member exactly where its id is within the chain
pub member_test : (h : Header) (w : World) (x : ℕ) → Reached h w → IsId h x → is_member (control_of w x) ≡ nat_le x h.chain
member_test h w x reached id = ap₂ nat_le (process_in-me w.processes x) (among_them h w x reached id).1

pub is_member_of : (h : Header) (w : World) (x : ℕ) → Reached h w → IsId h x → x ≤ h.chain → is_member (control_of w x) ≡ true
is_member_of h w x reached id member = member_test h w x reached id ∙ le-leb x h.chain member

pub member_of : (h : Header) (w : World) (x : ℕ) → Reached h w → IsId h x → is_member (control_of w x) ≡ true → x ≤ h.chain
member_of h w x reached id member = leb-true x h.chain (sym (member_test h w x reached id) ∙ member)

-- the parent of a member is an earlier member
pub earlier_parent : (h : Header) (w : World) (x p : ℕ) → Reached h w → IsId h x → x ≤ h.chain → IsJoined w x p → p < x
earlier_parent h w x p reached id member joins =
    let peer : is_peer (mode_of w x) p ≡ true = ap (λ m. is_peer m p) joins ∙ eq-eqb p p refl in
    let less : p < (control_of w x).me = (in_line h w x reached).peer (is_member_of h w x reached id member) p peer in
    omega (arith, less, process_in-me w.processes x)

-- a root has no ancestors and has depth 0
pub root_top : (h : Header) (w : World) (x : ℕ) → Reached h w → mode_of w x ≡ modes.Acting → ((control_of w x).kept.ancestors ≡ []) × IsTop (control_of w x).kept.rank
root_top h w x reached acts = (in_line h w x reached).root acts
