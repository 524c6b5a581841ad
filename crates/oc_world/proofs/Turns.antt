-- The effect of one call of the world, as a world of the model: processes are given by their
-- places, and the source is the content of node 1.
use Rattle.std.proofs.Common.{◌≡◌, ◌≢◌, ℕ, zero, suc, ◌+◌, ◌-◌, ◌<◌, ◌≤◌, Bool, true, false, ◌==◌, nat_le, if◌then◌else◌, Some, List, [], ◌∷◌, ◌++◌, length, slice_set, get_or, map, refl, sym, ap, ◌∙◌, subst, arith, length-append, length-set, eqb-true, eq-eqb}
use Rattle.std.specs.List.{AllByRecursion, range_with_len}
use Rattle.std.proofs.lemmas.List.{append_assoc, length-map, set-get_or}
use Rattle.std.proofs.lemmas.List.FromFn.{length-range_with_len}
use Rattle.oc_base.specs.declared.group.Group.{Group}
use Rattle.oc_base.specs.Groups.{IsAscending}
use Rattle.oc_base.specs.Lawful.{IsNode}
use Rattle.oc_calm.specs.Cluster.{HasChain}
use Rattle.oc_model.specs.declared.answer.Answer.TheVariants as answers
use Rattle.oc_model.specs.declared.input.Input.{Input}
use Rattle.oc_model.specs.declared.message.Message.{Message}
use Rattle.oc_laws_step.specs.LawfulNode.{IsLawfulControl}
use Rattle.oc_model.specs.declared.event.Event.TheVariants.{Crash, Up}
use Rattle.oc_model.specs.declared.word.Word.TheVariants as words
use Rattle.oc_model.specs.Lawful.{IsInput}
use Rattle.oc_model.specs.NextWorld.{crashed, cut_off, keeps_write, started, stopped, stopped_at, word_of, word_of_act, word_of_stop}
use Rattle.oc_model.specs.Node.{Header, new_node, restarted}
use Rattle.oc_model.specs.Step.{step}
use Rattle.oc_model.specs.World.{Process, World, acted, down, ids, process_in, source_after, stepped, with_process}
use Rattle.oc_model.specs.WorldBounds.{AreWithinLimits, IsLater}
use Rattle.oc_model.proofs.Outcomes.{step_leaves}
use Rattle.oc_model.proofs.Places.{ids_in, ids-new, ids-with_process, process_in-place, with_process-place}
use Rattle.oc_model.proofs.Processes.{at_put, process_in-me, process_in-with_other, process_in-with_up}
use Rattle.oc_base.specs.declared.limits.TheConstants.{MAX_NODES}
use Rattle.oc_keep.specs.Promises.{IsSameNode}
use Rattle.oc_world.specs.World.{IsAmong, IsNetwork, IsNumbered, world_of}
use Rattle.oc_world.proofs.Source.{step_elsewhere, step_owned}

-- the process at a place, by its id
pub read_process : (ps : List Process) (x i : ℕ) (p : Process) → IsNumbered ps → i + 1 ≡ x → x ≤ length ps → p ≡ get_or ps i p → process_in ps x ≡ p
read_process ps x i p numbered at within is =
    let same : 1 + i ≡ x = omega (arith, at) in
    subst (λ (y : ℕ). process_in ps y ≡ get_or ps i p) same (process_in-place 1 (length ps) ps i p numbered (omega (arith, at, within))) ∙ sym is

-- to write a process at its place is to put it
pub written : (ps : List Process) (x i : ℕ) (q : Process) → IsNumbered ps → i + 1 ≡ x → x ≤ length ps → q.node.control.me ≡ x → with_process ps q ≡ slice_set ps i q
written ps x i q numbered at within me = with_process-place 1 (length ps) ps q i numbered (omega (arith, at, within)) (me ∙ omega (arith, at))

-- the processes are numbered still once one was written at its place
pub numbered_set : (ps : List Process) (x i : ℕ) (q : Process) → IsNumbered ps → i + 1 ≡ x → x ≤ length ps → q.node.control.me ≡ x → IsNumbered (slice_set ps i q)
numbered_set ps x i q numbered at within me =
    ap ids_in (sym (written ps x i q numbered at within me)) ∙ (ids-with_process ps q ∙ (numbered ∙ ap (λ (n : ℕ). range_with_len 1 n) (sym (length-set ps i q))))

-- a property of all processes and of the written one is one of all afterwards
pub all_set : (P : Process → Type 0) (ps : List Process) (i : ℕ) (q : Process) → P q → AllByRecursion P ps → AllByRecursion P (slice_set ps i q)
all_set P [] i q here all = all
all_set P (p ∷ ps) zero q here all = (here, all.1)
all_set P (p ∷ ps) (suc i) q here all = (all.0, all_set P ps i q here all.1)

-- a property of all processes is one of the process at a place
pub all_at : (P : Process → Type 0) (ps : List Process) (i : ℕ) (p : Process) → i < length ps → p ≡ get_or ps i p → AllByRecursion P ps → P p
all_at P [] i p within is all = absurd (omega (arith, within))
all_at P (q ∷ ps) zero p within is all = subst P (sym is) all.0
all_at P (q ∷ ps) (suc i) p within is all = all_at P ps i p (omega (arith, within)) is all.1

-- The source

-- a process that is put with the groups of the one there leaves the source
same_source : (ps : List Process) (p q : Process) → process_in ps q.node.control.me ≡ p → q.node.groups ≡ p.node.groups
    → (process_in (with_process ps q) 1).node.groups ≡ (process_in ps 1).node.groups
same_source ps p q is same =
    at_put ps q (λ n. n.groups ≡ (process_in ps 1).node.groups) 1 (λ e. same ∙ (ap (λ (r : Process). r.node.groups) (sym is) ∙ ap (λ (y : ℕ). (process_in ps y).node.groups) e)) refl

-- the content of node 1 after an input at x, which is up, for any change of x except for its groups
own_source : (ps : List Process) (x : ℕ) (i : Input) (q : Process) → (process_in ps x).up ≡ true → q.node.control.me ≡ x → q.node.groups ≡ (step (process_in ps x).node i).node.groups
    → IsAscending (process_in ps x).node.groups
    → source_after (process_in ps 1).node.groups i (step (process_in ps x).node i).answer ≡ (process_in (with_process ps q) 1).node.groups
own_source ps x i q up me groups ascends = by_id (x == 1) refl where
  by_id : (b : Bool) → (x == 1) ≡ b → source_after (process_in ps 1).node.groups i (step (process_in ps x).node i).answer ≡ (process_in (with_process ps q) 1).node.groups
  by_id true e =
      let one : x ≡ 1 = eqb-true x 1 e in
      subst (λ (y : ℕ). source_after (process_in ps y).node.groups i (step (process_in ps x).node i).answer ≡ (process_in (with_process ps q) y).node.groups) one
      (step_owned (process_in ps x).node i (process_in-me ps x ∙ one) ascends ∙ (sym groups ∙ ap (λ (p : Process). p.node.groups) (sym (subst (λ (y : ℕ). process_in (with_process ps q) y ≡ q) me (process_in-with_up ps q (subst (λ (y : ℕ). (process_in ps y).up ≡ true) (sym me) up))))))
  by_id false e =
      let away : x ≢ 1 = λ h. cc (e, eq-eqb x 1 h) in
      step_elsewhere (process_in ps 1).node.groups (process_in ps x).node i (λ h. away (sym (process_in-me ps x) ∙ h))
      ∙ ap (λ (p : Process). p.node.groups) (sym (process_in-with_other ps q 1 (λ h. away (sym me ∙ h))))

-- The worlds

-- a process written at its place with the groups of the one there
pub put_same : (ps : List Process) (net : List Message) (x i : ℕ) (p q : Process) → IsNumbered ps → i + 1 ≡ x → x ≤ length ps → p ≡ get_or ps i p → q.node.control.me ≡ x → q.node.groups ≡ p.node.groups
    → world_of (slice_set ps i q) net ≡ record (world_of ps net) { processes = with_process ps q }
put_same ps net x i p q numbered at within is me same =
    let put : slice_set ps i q ≡ with_process ps q = sym (written ps x i q numbered at within me) in
    let here : process_in ps q.node.control.me ≡ p = ap (process_in ps) me ∙ read_process ps x i p numbered at within is in
    ap (λ (l : List Process). world_of l net) put ∙ ap (λ (s : List Group). record { processes = with_process ps q; net = net; source = s }) (same_source ps p q here same)

-- the id of a process at a place
pub id_at : (ps : List Process) (x i : ℕ) (p : Process) → IsNumbered ps → i + 1 ≡ x → x ≤ length ps → p ≡ get_or ps i p → p.node.control.me ≡ x
id_at ps x i p numbered at within is = sym (ap (λ (r : Process). r.node.control.me) (read_process ps x i p numbered at within is)) ∙ process_in-me ps x

-- an input to a node that is up
pub turn_acted : (ps : List Process) (net : List Message) (x i : ℕ) (p : Process) (input : Input) → IsNumbered ps → i + 1 ≡ x → x ≤ length ps → p ≡ get_or ps i p → p.up ≡ true → IsAscending p.node.groups
    → world_of (slice_set ps i (record { node = (step p.node input).node; up = true })) (net ++ (step p.node input).sends) ≡ acted (world_of ps net) (Some (record { at = x; input = input }))
turn_acted ps net x i p input numbered at within is up ascends =
    let here : process_in ps x ≡ p = read_process ps x i p numbered at within is in
    let q : Process = record { node = (step p.node input).node; up = true } in
    let me : q.node.control.me ≡ x = (step_leaves p.node input).me ∙ id_at ps x i p numbered at within is in
    let on : (process_in ps x).up ≡ true = ap (λ (r : Process). r.up) here ∙ up in
    let put : slice_set ps i q ≡ with_process ps q = sym (written ps x i q numbered at within me) in
    let source : source_after (process_in ps 1).node.groups input (step (process_in ps x).node input).answer ≡ (process_in (with_process ps q) 1).node.groups =
    own_source ps x input q on me (ap (λ (r : Process). (step r.node input).node.groups) (sym here)) (subst (λ (r : Process). IsAscending r.node.groups) (sym here) ascends) in
    let whole : world_of (with_process ps q) (net ++ (step p.node input).sends) ≡ stepped (world_of ps net) input (step p.node input) =
    ap (λ (s : List Group). record { processes = with_process ps q; net = net ++ (step p.node input).sends; source = s }) (sym source ∙ ap (λ (r : Process). source_after (process_in ps 1).node.groups input (step r.node input).answer) here) in
    rw on (ap (λ (l : List Process). world_of l (net ++ (step p.node input).sends)) put ∙ (whole ∙ ap (λ (r : Process). stepped (world_of ps net) input (step r.node input)) (sym here)))

-- an input to a node that is down
pub turn_idle : (ps : List Process) (net : List Message) (x : ℕ) (input : Input) → (process_in ps x).up ≡ false → world_of ps net ≡ acted (world_of ps net) (Some (record { at = x; input = input }))
turn_idle ps net x input off = rw off refl

-- a start of a node that is down
pub turn_started : (ps : List Process) (net : List Message) (x i : ℕ) (p : Process) → IsNumbered ps → i + 1 ≡ x → x ≤ length ps → p ≡ get_or ps i p → p.up ≡ false
    → world_of (slice_set ps i (record { node = restarted p.node; up = true })) net ≡ started (world_of ps net) (process_in ps x)
turn_started ps net x i p numbered at within is off =
    let here : process_in ps x ≡ p = read_process ps x i p numbered at within is in
    let put : world_of (slice_set ps i (record { node = restarted p.node; up = true })) net ≡ started (world_of ps net) p =
    rw off (put_same ps net x i p (record { node = restarted p.node; up = true }) numbered at within is (id_at ps x i p numbered at within is) refl) in
    put ∙ ap (started (world_of ps net)) (sym here)

-- a crash of a node that is up
pub turn_crashed : (ps : List Process) (net : List Message) (x i : ℕ) (p : Process) → IsNumbered ps → i + 1 ≡ x → x ≤ length ps → p ≡ get_or ps i p → p.up ≡ true
    → world_of (slice_set ps i (stopped p.node)) net ≡ crashed (world_of ps net) (process_in ps x)
turn_crashed ps net x i p numbered at within is on =
    let here : process_in ps x ≡ p = read_process ps x i p numbered at within is in
    let put : world_of (slice_set ps i (stopped p.node)) net ≡ crashed (world_of ps net) p =
    rw on (put_same ps net x i p (stopped p.node) numbered at within is (id_at ps x i p numbered at within is) refl) in
    put ∙ ap (crashed (world_of ps net)) (sym here)

-- a stop in an input of a node that is up, by whether its frame is kept
turn_cut : (ps : List Process) (net : List Message) (x i : ℕ) (p : Process) (input : Input) (kept : Bool) → IsNumbered ps → i + 1 ≡ x → x ≤ length ps → p ≡ get_or ps i p → p.up ≡ true → IsAscending p.node.groups
    → world_of (slice_set ps i (stopped (if kept then (step p.node input).node else p.node))) net ≡ cut_off kept (world_of ps net) p.node input (step p.node input)
turn_cut ps net x i p input false numbered at within is on ascends =
    put_same ps net x i p (stopped p.node) numbered at within is (id_at ps x i p numbered at within is) refl
turn_cut ps net x i p input true numbered at within is on ascends =
    let here : process_in ps x ≡ p = read_process ps x i p numbered at within is in
    let q : Process = stopped (step p.node input).node in
    let me : q.node.control.me ≡ x = (step_leaves p.node input).me ∙ id_at ps x i p numbered at within is in
    let put : slice_set ps i q ≡ with_process ps q = sym (written ps x i q numbered at within me) in
    let source : source_after (process_in ps 1).node.groups input (step (process_in ps x).node input).answer ≡ (process_in (with_process ps q) 1).node.groups =
    own_source ps x input q (ap (λ (r : Process). r.up) here ∙ on) me (ap (λ (r : Process). (step r.node input).node.groups) (sym here)) (subst (λ (r : Process). IsAscending r.node.groups) (sym here) ascends) in
    ap (λ (l : List Process). world_of l net) put
    ∙ ap (λ (s : List Group). record { processes = with_process ps q; net = net; source = s }) (sym source ∙ ap (λ (r : Process). source_after (process_in ps 1).node.groups input (step r.node input).answer) here)

pub turn_stopped : (ps : List Process) (net : List Message) (x i : ℕ) (p : Process) (input : Input) (calls image : ℕ) → IsNumbered ps → i + 1 ≡ x → x ≤ length ps → p ≡ get_or ps i p → p.up ≡ true → IsAscending p.node.groups
    → world_of (slice_set ps i (stopped (if keeps_write calls image p.node input then (step p.node input).node else p.node))) net ≡ stopped_at (world_of ps net) calls image (Some (record { at = x; input = input }))
turn_stopped ps net x i p input calls image numbered at within is on ascends =
    let here : process_in ps x ≡ p = read_process ps x i p numbered at within is in
    let up : (process_in ps x).up ≡ true = ap (λ (r : Process). r.up) here ∙ on in
    rw up (turn_cut ps net x i p input (keeps_write calls image p.node input) numbered at within is on ascends
    ∙ ap (λ (r : Process). cut_off (keeps_write calls image r.node input) (world_of ps net) r.node input (step r.node input)) (sym here))

-- a stop of a node that is down
pub turn_unstopped : (ps : List Process) (net : List Message) (x : ℕ) (input : Input) (calls image : ℕ) → (process_in ps x).up ≡ false → world_of ps net ≡ stopped_at (world_of ps net) calls image (Some (record { at = x; input = input }))
turn_unstopped ps net x input calls image off = rw off refl

-- A new world

abbrev pub new_process : Header → ℕ → Process
new_process h x = down (new_node h x)

-- one more process
pub one_more : (h : Header) (ps : List Process) (k n : ℕ) (all : List Process) → k < n → ps ++ map (new_process h) (range_with_len (1 + k) (n - k)) ≡ all
    → (ps ++ new_process h (k + 1) ∷ []) ++ map (new_process h) (range_with_len (1 + (k + 1)) (n - (k + 1))) ≡ all
one_more h ps k n all less so_far =
    let left : n - k ≡ suc (n - (k + 1)) = omega (arith, less) in
    let id : 1 + k ≡ k + 1 = omega arith in
    let id2 : 1 + k + 1 ≡ 1 + (k + 1) = omega arith in
    append_assoc ps (new_process h (k + 1) ∷ []) (map (new_process h) (range_with_len (1 + (k + 1)) (n - (k + 1))))
    ∙ (ap (λ (l : List Process). ps ++ l) (ap (λ (x : ℕ). new_process h x ∷ map (new_process h) (range_with_len (1 + (k + 1)) (n - (k + 1)))) (sym id) ∙ (ap (λ (b : ℕ). new_process h (1 + k) ∷ map (new_process h) (range_with_len b (n - (k + 1)))) (sym id2) ∙ ap (λ (m : ℕ). map (new_process h) (range_with_len (1 + k) m)) (sym left))) ∙ so_far)

each_new : (h : Header) (xs : List ℕ) → AllByRecursion (IsAmong h.nodes h.chain) (map (new_process h) xs)
each_new h [] = tt
each_new h (x ∷ xs) = (record { among = refl; members = refl; limits = (tt, omega arith, tt) }, each_new h xs)

-- a new world is that of a network
pub new_network : (h : Header) (ps : List Process) → h.nodes ≤ MAX_NODES → ps ≡ map (new_process h) (range_with_len 1 h.nodes) → IsNetwork h.chain ps h.nodes
new_network h ps few is =
    let count : length ps ≡ h.nodes = ap length is ∙ (length-map (range_with_len 1 h.nodes) (new_process h) ∙ length-range_with_len 1 h.nodes) in
    record {
      numbered = ap ids_in is ∙ (ids-new h (range_with_len 1 h.nodes) ∙ ap (range_with_len 1) (sym count));
      few = omega (arith, count, few);
      net = sym count;
      each = subst (AllByRecursion (IsAmong h.nodes h.chain)) (sym is) (each_new h (range_with_len 1 h.nodes));
    }

-- Networks

-- a network with one process written at its place
pub network_set : (chain nodes : ℕ) (ps : List Process) (x i : ℕ) (p q : Process) → IsNetwork chain ps nodes → i + 1 ≡ x → x ≤ length ps → p ≡ get_or ps i p → IsSameNode p.node.control q.node.control → AreWithinLimits q.node.groups
    → IsNetwork chain (slice_set ps i q) nodes
network_set chain nodes ps x i p q is at within here same limits =
    let was : IsAmong nodes chain p = all_at (IsAmong nodes chain) ps i p (omega (arith, at, within)) here is.each in
    record {
      numbered = numbered_set ps x i q is.numbered at within (same.me ∙ id_at ps x i p is.numbered at within here);
      few = omega (arith, length-set ps i q, is.few);
      net = is.net ∙ sym (length-set ps i q);
      each = all_set (IsAmong nodes chain) ps i q (record { among = ap (λ (h : Header). h.nodes) same.header ∙ was.among; members = ap (λ (h : Header). h.chain) same.header ∙ was.members; limits = limits }) is.each;
    }

-- the knowledge of the process at a place
pub among_at : (chain nodes : ℕ) (ps : List Process) (x i : ℕ) (p : Process) → IsNetwork chain ps nodes → i + 1 ≡ x → x ≤ length ps → p ≡ get_or ps i p → IsAmong nodes chain p
among_at chain nodes ps x i p is at within here = all_at (IsAmong nodes chain) ps i p (omega (arith, at, within)) here is.each

-- Parts of a network

-- as many ids as processes
pub count_ids : (ps : List Process) (net : List Message) → length (ids (world_of ps net)) ≡ length ps
count_ids ps net = length-map ps (λ p. p.node.control.me)

-- the process of a node is at its place
pub process_at : (ps : List Process) (x : ℕ) → IsNumbered ps → IsNode (length ps) x → process_in ps x ≡ get_or ps (x - 1) (process_in ps x)
process_at ps x numbered is =
    let same : 1 + (x - 1) ≡ x = omega (arith, is.0) in
    subst (λ (y : ℕ). process_in ps y ≡ get_or ps (x - 1) (process_in ps x)) same (process_in-place 1 (length ps) ps (x - 1) (process_in ps x) numbered (omega (arith, is.0, is.1)))

-- the knowledge of the process of a node
pub among_by_id : (chain nodes : ℕ) (ps : List Process) (x : ℕ) → IsNetwork chain ps nodes → IsNode (length ps) x → IsAmong nodes chain (process_in ps x)
among_by_id chain nodes ps x is within =
    all_at (IsAmong nodes chain) ps (x - 1) (process_in ps x) (omega (arith, within.0, within.1)) (process_at ps x is.numbered within) is.each

-- a network has its chain
pub has_chain : (chain nodes : ℕ) (ps : List Process) (net : List Message) → IsNetwork chain ps nodes → HasChain (world_of ps net) chain
has_chain chain nodes ps net is = record {
  members = λ x node.
      let within : IsNode (length ps) x = subst (λ (n : ℕ). IsNode n x) (count_ids ps net) node in
      ap (λ (y : ℕ). nat_le y (process_in ps x).node.control.chain) (process_in-me ps x) ∙ ap (nat_le x) (among_by_id chain nodes ps x is within).members;
}

-- a node of the world has a place
pub within_of : (ps : List Process) (net : List Message) (x : ℕ) → IsNode (length (ids (world_of ps net))) x → IsNode (length ps) x
within_of ps net x is = subst (λ (n : ℕ). IsNode n x) (count_ids ps net) is

-- whether the process at a place is up
pub up_here : (ps : List Process) (x i : ℕ) (p : Process) (b : Bool) → IsNumbered ps → i + 1 ≡ x → x ≤ length ps → p ≡ get_or ps i p → p.up ≡ b → (process_in ps x).up ≡ b
up_here ps x i p b numbered at within here up = ap (λ (r : Process). r.up) (read_process ps x i p numbered at within here) ∙ up

-- an input of a node is one of the process at its place
pub input_here : (chain nodes : ℕ) (ps : List Process) (net : List Message) (x i : ℕ) (p : Process) (input : Input) → IsNetwork chain ps nodes → i + 1 ≡ x → x ≤ length ps → p ≡ get_or ps i p
    → IsInput (length (ids (world_of ps net))) x input → IsInput p.node.control.nodes p.node.control.me input
input_here chain nodes ps net x i p input is at within here lawful =
    let was = among_at chain nodes ps x i p is at within here in
    let many : length (ids (world_of ps net)) ≡ p.node.control.nodes = count_ids ps net ∙ (sym is.net ∙ sym was.among) in
    subst (λ (y : ℕ). IsInput p.node.control.nodes y input) (sym (id_at ps x i p is.numbered at within here)) (subst (λ (n : ℕ). IsInput n x input) many lawful)

-- the network after an input at the process of a place
pub network_acted : (chain nodes : ℕ) (ps : List Process) (x i : ℕ) (p q : Process) (input : Input) → IsNetwork chain ps nodes → i + 1 ≡ x → x ≤ length ps → p ≡ get_or ps i p → IsSameNode p.node.control q.node.control
    → q.node.groups ≡ (step p.node input).node.groups → IsNetwork chain (slice_set ps i q) nodes
network_acted chain nodes ps x i p q input is at within here same groups =
    let was = among_at chain nodes ps x i p is at within here in
    network_set chain nodes ps x i p q is at within here same (subst AreWithinLimits (sym groups) ((step_leaves p.node input).limits was.limits))

-- the network after a change that leaves the groups
pub network_same : (chain nodes : ℕ) (ps : List Process) (x i : ℕ) (p q : Process) → IsNetwork chain ps nodes → i + 1 ≡ x → x ≤ length ps → p ≡ get_or ps i p → IsSameNode p.node.control q.node.control
    → q.node.groups ≡ p.node.groups → IsNetwork chain (slice_set ps i q) nodes
network_same chain nodes ps x i p q is at within here same groups =
    let was = among_at chain nodes ps x i p is at within here in
    network_set chain nodes ps x i p q is at within here same (subst AreWithinLimits (sym groups) was.limits)

-- the network after a stop
pub network_stopped : (chain nodes : ℕ) (ps : List Process) (x i : ℕ) (p : Process) (input : Input) (b : Bool) → IsNetwork chain ps nodes → i + 1 ≡ x → x ≤ length ps → p ≡ get_or ps i p
    → IsSameNode p.node.control (stopped (if b then (step p.node input).node else p.node)).node.control → IsNetwork chain (slice_set ps i (stopped (if b then (step p.node input).node else p.node))) nodes
network_stopped chain nodes ps x i p input true is at within here same = network_acted chain nodes ps x i p (stopped (step p.node input).node) input is at within here same refl
network_stopped chain nodes ps x i p input false is at within here same = network_same chain nodes ps x i p (stopped p.node) is at within here same refl

-- a process that is written as it is changes nothing
pub set_itself : (ps : List Process) (i : ℕ) (p : Process) → p ≡ get_or ps i p → slice_set ps i p ≡ ps
set_itself ps i p here = ap (slice_set ps i) here ∙ set-get_or ps i p

-- Words

-- of an input to a node that is down
pub word_idle : (ps : List Process) (net : List Message) (x : ℕ) (input : Input) → (process_in ps x).up ≡ false → words.Down ≡ word_of_act (world_of ps net) (Some (record { at = x; input = input }))
word_idle ps net x input off = rw off refl

-- of one to a node that is up
pub word_acted : (ps : List Process) (net : List Message) (x i : ℕ) (p : Process) (input : Input) → IsNumbered ps → i + 1 ≡ x → x ≤ length ps → p ≡ get_or ps i p → p.up ≡ true
    → words.Node (step p.node input).answer ≡ word_of_act (world_of ps net) (Some (record { at = x; input = input }))
word_acted ps net x i p input numbered at within here on =
    let same : process_in ps x ≡ p = read_process ps x i p numbered at within here in
    let up : (process_in ps x).up ≡ true = ap (λ (r : Process). r.up) same ∙ on in
    rw up (ap (λ (r : Process). words.Node (step r.node input).answer) (sym same))

-- of a stop
pub word_unstopped : (ps : List Process) (net : List Message) (x : ℕ) (input : Input) (calls image : ℕ) → (process_in ps x).up ≡ false → words.Down ≡ word_of_stop (world_of ps net) calls image (Some (record { at = x; input = input }))
word_unstopped ps net x input calls image off = rw off refl

pub word_stopped : (ps : List Process) (net : List Message) (x i : ℕ) (p : Process) (input : Input) (calls image : ℕ) → IsNumbered ps → i + 1 ≡ x → x ≤ length ps → p ≡ get_or ps i p → p.up ≡ true
    → (if keeps_write calls image p.node input then words.StoppedNew else words.StoppedOld) ≡ word_of_stop (world_of ps net) calls image (Some (record { at = x; input = input }))
word_stopped ps net x i p input calls image numbered at within here on =
    let same : process_in ps x ≡ p = read_process ps x i p numbered at within here in
    let up : (process_in ps x).up ≡ true = ap (λ (r : Process). r.up) same ∙ on in
    rw up (ap (λ (r : Process). if keeps_write calls image r.node input then words.StoppedNew else words.StoppedOld) (sym same))

-- of a start
pub word_running : (ps : List Process) (net : List Message) (x : ℕ) → (process_in ps x).up ≡ true → words.Up ≡ word_of (world_of ps net) (Up x)
word_running ps net x on = rw on refl

pub word_started : (ps : List Process) (net : List Message) (x : ℕ) → (process_in ps x).up ≡ false → words.Node answers.Ok ≡ word_of (world_of ps net) (Up x)
word_started ps net x off = rw off refl

pub turn_running : (ps : List Process) (net : List Message) (x : ℕ) → (process_in ps x).up ≡ true → world_of ps net ≡ started (world_of ps net) (process_in ps x)
turn_running ps net x on = rw on refl

-- of a crash
pub word_down : (ps : List Process) (net : List Message) (x : ℕ) → (process_in ps x).up ≡ false → words.Down ≡ word_of (world_of ps net) (Crash x)
word_down ps net x off = rw off refl

pub word_crashed : (ps : List Process) (net : List Message) (x : ℕ) → (process_in ps x).up ≡ true → words.Node answers.Ok ≡ word_of (world_of ps net) (Crash x)
word_crashed ps net x on = rw on refl

pub turn_down : (ps : List Process) (net : List Message) (x : ℕ) → (process_in ps x).up ≡ false → world_of ps net ≡ crashed (world_of ps net) (process_in ps x)
turn_down ps net x off = rw off refl

-- Reads

-- the control state of the process at a place is lawful among the nodes of the world
pub lawful_here : (chain nodes : ℕ) (ps : List Process) (net : List Message) (x i : ℕ) (p : Process) → IsNetwork chain ps nodes → i + 1 ≡ x → x ≤ length ps → p ≡ get_or ps i p
    → IsLawfulControl p.node.control.nodes p.node.control → IsLawfulControl (length (ids (world_of ps net))) (process_in ps x).node.control
lawful_here chain nodes ps net x i p is at within here lawful =
    let was = among_at chain nodes ps x i p is at within here in
    let many : p.node.control.nodes ≡ length (ids (world_of ps net)) = was.among ∙ (is.net ∙ sym (count_ids ps net)) in
    subst (λ (r : Process). IsLawfulControl (length (ids (world_of ps net))) r.node.control) (sym (read_process ps x i p is.numbered at within here))
    (subst (λ (n : ℕ). IsLawfulControl n p.node.control) many lawful)

-- two reads of one place give one process
pub read_twice : (ps : List Process) (x i : ℕ) (p q : Process) → IsNumbered ps → i + 1 ≡ x → x ≤ length ps → p ≡ get_or ps i p → q ≡ get_or ps i q → p ≡ q
read_twice ps x i p q numbered at within first second = sym (read_process ps x i p numbered at within first) ∙ read_process ps x i q numbered at within second

-- a world that is later has no fewer messages
pub later_length : (w v : World) → IsLater w v → length w.net ≤ length v.net
later_length w v later = omega (arith, ap (λ (ms : List Message). length ms) later.1, length-append w.net later.0)
