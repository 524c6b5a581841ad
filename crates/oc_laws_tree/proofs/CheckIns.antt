-- The effect of one check-in on a node and its parent: three acts, or two if the check-in is not acknowledged.
use Rattle.std.proofs.Common.{◌≡◌, ℕ, suc, true, false, Option, Some, None, List, [], ◌∷◌, ◌++◌, ◌⊎◌, inl, inr, slice_get, length, refl, ap, ap₂, sym, subst, ◌∙◌, arith, length-append, eq-eqb}
use Rattle.std.proofs.lemmas.Bool.{cond_both, cases_eq}
use Rattle.oc_base.specs.declared.cert.Cert.{Cert}
use Rattle.oc_base.specs.declared.rank.Rank.{Rank}
use Rattle.oc_base.specs.declared.shelf.Shelf.{Shelf}
use Rattle.oc_model.specs.declared.event.Act.TheVariants as acts
use Rattle.oc_model.specs.declared.input.Input.{Input}
use Rattle.oc_model.specs.declared.input.Input.TheVariants as inputs
use Rattle.oc_model.specs.declared.message.Body.{Body}
use Rattle.oc_model.specs.declared.message.Body.TheVariants.{CheckIn, CheckAck}
use Rattle.oc_model.specs.declared.message.Message.{Message}
use Rattle.oc_model.specs.Adopting.{is_number, has_lease}
use Rattle.oc_model.specs.Adoption.{rank_or_last}
use Rattle.oc_model.specs.Asking.{ancestors_by}
use Rattle.oc_model.specs.ChangeLog.{next_certs, place_after, ack}
use Rattle.oc_model.specs.Chains.{IsUp, IsJoined}
use Rattle.oc_model.specs.Checking.{life}
use Rattle.oc_model.specs.ClaimsTree.{table_of, seq_of}
use Rattle.oc_base.specs.Groups.{shelf}
use Rattle.oc_model.specs.Leases.{renew}
use Rattle.oc_model.specs.Node.{Control, Node}
use Rattle.oc_model.specs.Plan.{Plan, begun}
use Rattle.oc_model.specs.Ready.{HoldsLease}
use Rattle.oc_model.specs.Runs.{Run, does, and_then, last_body, body_in, delivers_last}
use Rattle.oc_model.specs.Settle.{takes_ack, checks_in}
use Rattle.oc_model.specs.Step.{plan, filled, step}
use Rattle.oc_model.specs.Table.{leased_by, merge_all}
use Rattle.oc_model.specs.World.{World, Process, node, process_in, with_process, is_up, message_at, stepped, delivery, acted, after_act}
use Rattle.oc_model.specs.WorldBounds.{clock_of}
use Rattle.oc_model.proofs.Outcomes.{step_leaves}
use Rattle.oc_model.proofs.Processes.{process_in-me, process_in-with_up, process_in-with_other}
use Rattle.oc_model.proofs.Rules.{IsClosed, keeps_checks, keeps_checked_in}
use Rattle.oc_laws_world.proofs.Lifts.{control_of}
use Rattle.oc_laws_tree.specs.Sessions.{log_of}
use Rattle.oc_laws_tree.proofs.Checks.{from_to, HasSameRest, SendsCheckIn, check_sends, TakesCheckIn, check_in_taken, rank_unless, TakesAck, ack_taken}
use Rattle.oc_laws_tree.proofs.Core.{Core, core_of, has_uncounted, with_count, counted}

-- Acts

-- the node x has become n and has sent these messages; all other nodes are as they were, and nodes stay up or down
pub record Goes (w : World) (x : ℕ) (n : Control) (ms : List Message) (v : World) : Type 0 where
  pub here : control_of v x ≡ n
  pub others : (y : ℕ) → (x ≡ y → ⊥) → control_of v y ≡ control_of w y
  pub net : v.net ≡ w.net ++ ms
  pub up : (y : ℕ) → is_up v y ≡ is_up w y

stepped_goes : (w : World) (x : ℕ) (i : Input) → IsUp w x → Goes w x (step (node w x) i).node.control (step (node w x) i).sends (stepped w i (step (node w x) i))
stepped_goes w x i up = record {
  here = ap (λ (p : Process). p.node.control) there;
  others = λ y apart. ap (λ (p : Process). p.node.control) (process_in-with_other w.processes q y (λ e. apart (sym me ∙ e)));
  net = refl;
  up = λ y. by_case y (cases_eq x y);
} where
  q : Process
  q = record { node = (step (node w x) i).node; up = true }

  me : (step (node w x) i).node.control.me ≡ x
  me = (step_leaves (node w x) i).me ∙ process_in-me w.processes x

  there : process_in (with_process w.processes q) x ≡ q
  there = subst (λ (y : ℕ). process_in (with_process w.processes q) y ≡ q) me (process_in-with_up w.processes q (subst (λ (y : ℕ). (process_in w.processes y).up ≡ true) (sym me) up))

  by_case : (y : ℕ) → (x ≡ y) ⊎ (x ≡ y → ⊥) → (process_in (with_process w.processes q) y).up ≡ is_up w y
  by_case y (inl e) = subst (λ (z : ℕ). (process_in (with_process w.processes q) z).up ≡ is_up w z) e (ap (λ (p : Process). p.up) there ∙ sym up)
  by_case y (inr apart) = ap (λ (p : Process). p.up) (process_in-with_other w.processes q y (λ e. apart (sym me ∙ e)))

-- an input to a node that is up
pub act_goes : (w : World) (x : ℕ) (i : Input) → IsUp w x → Goes w x (step (node w x) i).node.control (step (node w x) i).sends (acted w (Some (record { at = x; input = i })))
act_goes w x i up = rw up (stepped_goes w x i up)

-- an input to a node that is down
pub act_rests : (w : World) (x : ℕ) (i : Input) → is_up w x ≡ false → acted w (Some (record { at = x; input = i })) ≡ w
act_rests w x i down = rw down refl

-- Steps that send no bytes

abbrev IsDry : Plan → Type 0
IsDry o = o.wants ≡ None

pub dry : (ls : List Shelf) → IsClosed ls (λ o. o.wants ≡ None)
dry ls = record {
  write = λ o r h. h;
  send = λ o p b plain h. h;
  answers = λ o a h. h;
  soft = λ o s e h. h;
  lists = λ o leases rates counts h. h;
}

-- a step that sends no bytes sends the planned messages
pub dry_sends : (n : Node) (i : Input) → (plan n.control (shelf n.groups) i).wants ≡ None → (step n i).sends ≡ (plan n.control (shelf n.groups) i).sends
dry_sends n i e = ap (λ w. filled w n.groups (plan n.control (shelf n.groups) i).sends) e

-- The message that was sent last

got_last : (ms : List Message) (m : Message) → slice_get (ms ++ m ∷ []) (length ms) ≡ Some m
got_last [] m = refl
got_last (a ∷ rest) m = got_last rest m

last_found : (ms : List Message) (m : Message) → message_at (ms ++ m ∷ []) (length (ms ++ m ∷ [])) ≡ Some m
last_found ms m =
    let long : length (ms ++ m ∷ []) ≡ suc (length ms) = omega (arith, length-append ms (m ∷ [])) in
    ap (message_at (ms ++ m ∷ [])) long ∙ got_last ms m

-- the message m was sent last
abbrev pub IsLast : World → Message → Type 0
IsLast w m = (ms : List Message) × (w.net ≡ ms ++ m ∷ [])

last_at : (w : World) (m : Message) → IsLast w m → message_at w.net (length w.net) ≡ Some m
last_at w m (ms, is) = ap (λ (net : List Message). message_at net (length net)) is ∙ last_found ms m

pub last_body_is : (w : World) (m : Message) → IsLast w m → last_body w ≡ Some m.body
last_body_is w m last = ap body_in (last_at w m last)

last_arrival : (w : World) (m : Message) → IsLast w m → (delivers_last w).world ≡ acted w (Some (record { at = m.to; input = inputs.Delivered m }))
last_arrival w m last = ap (λ (found : Option Message). acted w (delivery found)) (last_at w m last)

-- the delivery of the last message
pub last_goes : (w : World) (m : Message) → IsLast w m → IsUp w m.to
    → Goes w m.to (step (node w m.to) (inputs.Delivered m)).node.control (step (node w m.to) (inputs.Delivered m)).sends (delivers_last w).world
last_goes w m last up =
    subst (λ (v : World). Goes w m.to (step (node w m.to) (inputs.Delivered m)).node.control (step (node w m.to) (inputs.Delivered m)).sends v) (sym (last_arrival w m last)) (act_goes w m.to (inputs.Delivered m) up)

pub last_rests : (w : World) (m : Message) → IsLast w m → is_up w m.to ≡ false → (delivers_last w).world ≡ w
last_rests w m last down = last_arrival w m last ∙ act_rests w m.to (inputs.Delivered m) down

-- a step that sends one message has it as the last
pub goes_last : (w : World) (x : ℕ) (n : Control) (ms : List Message) (m : Message) (v : World) → Goes w x n ms v → ms ≡ m ∷ [] → IsLast v m
goes_last w x n ms m v goes e = (w.net, goes.net ∙ ap (λ (sent : List Message). w.net ++ sent) e)

-- The check of a joined node

abbrev pub me_of : World → ℕ → ℕ
me_of w x = (control_of w x).me

pub me_is : (w : World) (x : ℕ) → me_of w x ≡ x
me_is w x = process_in-me w.processes x

pub record ChecksAt (w : World) (x p : ℕ) (v : World) : Type 0 where
  pub core : core_of (control_of v x) ≡ counted (core_of (control_of w x))
  pub rest : HasSameRest (control_of w x) (control_of v x)
  pub log : log_of v x ≡ log_of w x
  pub others : (y : ℕ) → (x ≡ y → ⊥) → control_of v y ≡ control_of w y
  pub up : (y : ℕ) → is_up v y ≡ is_up w y
  pub rate : ℕ
  pub last : IsLast v (from_to x p (CheckIn (seq_of w x) (place_after (log_of w x)) rate (control_of v x).kept.number (control_of v x).kept.clients (next_certs (log_of w x))))

pub checks_at : (w : World) (x p : ℕ) → IsUp w x → IsJoined w x p → ChecksAt w x p (after_act w (acts.At x inputs.CheckNow))
checks_at w x p up joins =
    let n : Control = control_of w x in
    let v : World = after_act w (acts.At x inputs.CheckNow) in
    let o : Plan = plan n (shelf (node w x).groups) inputs.CheckNow in
    let goes : Goes w x o.node (step (node w x) inputs.CheckNow).sends v = act_goes w x inputs.CheckNow up in
    let sends : SendsCheckIn n p o = check_sends n p joins in
    let all : (step (node w x) inputs.CheckNow).sends ≡ o.sends = dry_sends (node w x) inputs.CheckNow (keeps_checks (shelf (node w x).groups) IsDry (dry (shelf (node w x).groups)) (begun n) refl) in
    let said : from_to n.me p (CheckIn n.kept.seq (place_after n.kept.log) sends.rate o.node.kept.number o.node.kept.clients (next_certs n.kept.log))
    ≡ from_to x p (CheckIn n.kept.seq (place_after n.kept.log) sends.rate (control_of v x).kept.number (control_of v x).kept.clients (next_certs n.kept.log)) =
    ap₂ (λ (y : ℕ) (m : Control). from_to y p (CheckIn n.kept.seq (place_after n.kept.log) sends.rate m.kept.number m.kept.clients (next_certs n.kept.log))) (me_is w x) (sym goes.here) in
    record {
      core = ap core_of goes.here ∙ sends.core;
      rest = subst (λ (m : Control). HasSameRest n m) (sym goes.here) sends.rest;
      log = ap (λ (m : Control). m.kept.log) goes.here ∙ sends.log;
      others = goes.others;
      up = goes.up;
      rate = sends.rate;
      last = goes_last w x o.node (step (node w x) inputs.CheckNow).sends _ v goes (all ∙ (sends.sends ∙ ap (λ (m : Message). m ∷ []) said));
    }

-- The check-in at the parent

-- the test by which a parent finds a lease
pub lease_test : (w : World) (p x s : ℕ) → has_lease (control_of w p) x s ≡ is_number (leased_by (table_of w p) p x) s
lease_test w p x s = ap (λ (y : ℕ). is_number (leased_by (table_of w p) y x) s) (me_is w p)

pub lease_held : (w : World) (p x s : ℕ) → HoldsLease w p x s → has_lease (control_of w p) x s ≡ true
lease_held w p x s leased = lease_test w p x s ∙ (ap (λ (o : Option ℕ). is_number o s) leased ∙ eq-eqb s s refl)

pub record TakesAt (w : World) (p x seq upto number clients : ℕ) (certs : List Cert) (v : World) : Type 0 where
  pub core : core_of (control_of v p) ≡ core_of (control_of w p)
  pub table : table_of v p ≡ merge_all (table_of w p) (life x seq p number clients ∷ certs)
  pub leases : (control_of v p).leases ≡ renew (control_of w p).leases x (clock_of w p)
  pub clock : clock_of v p ≡ clock_of w p
  pub others : (y : ℕ) → (p ≡ y → ⊥) → control_of v y ≡ control_of w y
  pub up : (y : ℕ) → is_up v y ≡ is_up w y
  pub last : IsLast v (from_to p x (CheckAck seq upto (rank_or_last (control_of w p).kept.rank) (control_of w p).kept.ancestors))

pub takes_at : (w : World) (p x seq upto rate number clients : ℕ) (certs : List Cert) → IsLast w (from_to x p (CheckIn seq upto rate number clients certs)) → IsUp w p → HoldsLease w p x seq
    → TakesAt w p x seq upto number clients certs (delivers_last w).world
takes_at w p x seq upto rate number clients certs last up leased =
    let n : Control = control_of w p in
    let v : World = (delivers_last w).world in
    let m : Message = from_to x p (CheckIn seq upto rate number clients certs) in
    let o : Plan = plan n (shelf (node w p).groups) (inputs.Delivered m) in
    let goes : Goes w p o.node (step (node w p) (inputs.Delivered m)).sends v = last_goes w m last up in
    let takes : TakesCheckIn n x seq upto number clients certs o = check_in_taken n x seq upto rate number clients certs (lease_held w p x seq leased) in
    let all : (step (node w p) (inputs.Delivered m)).sends ≡ o.sends =
    dry_sends (node w p) (inputs.Delivered m) (keeps_checked_in (shelf (node w p).groups) IsDry (dry (shelf (node w p).groups)) (begun n) x seq upto rate number clients certs refl) in
    record {
      core = ap core_of goes.here ∙ takes.core;
      table = ap (λ (k : Control). k.kept.table) goes.here ∙ (takes.table ∙ ap (λ (y : ℕ). merge_all (table_of w p) (life x seq y number clients ∷ certs)) (me_is w p));
      leases = ap (λ (k : Control). k.leases) goes.here ∙ takes.leases;
      clock = ap (λ (k : Control). k.soft.clock) goes.here ∙ takes.clock;
      others = goes.others;
      up = goes.up;
      last = goes_last w p o.node (step (node w p) (inputs.Delivered m)).sends _ v goes
          (all ∙ (takes.sends ∙ ap (λ (y : ℕ). from_to y x (CheckAck seq upto (rank_or_last n.kept.rank) n.kept.ancestors) ∷ []) (me_is w p)));
    }

-- The acknowledgement at the child

pub record AckedAt (w : World) (x p upto : ℕ) (told : Rank) (xs : List ℕ) (v : World) : Type 0 where
  pub core : core_of (control_of v x) ≡ record (core_of (control_of w x)) { rank = rank_unless (control_of w x).soft.wish (control_of w x).kept.rank told; ancestors = ancestors_by p xs }
  pub rest : HasSameRest (control_of w x) (control_of v x)
  pub log : log_of v x ≡ ack (log_of w x) upto
  pub others : (y : ℕ) → (x ≡ y → ⊥) → control_of v y ≡ control_of w y
  pub up : (y : ℕ) → is_up v y ≡ is_up w y

pub acked_at : (w : World) (x p upto : ℕ) (told : Rank) (xs : List ℕ) → IsLast w (from_to p x (CheckAck (seq_of w x) upto told xs)) → IsUp w x → IsJoined w x p → AckedAt w x p upto told xs (delivers_last w).world
acked_at w x p upto told xs last up joins =
    let n : Control = control_of w x in
    let v : World = (delivers_last w).world in
    let m : Message = from_to p x (CheckAck (seq_of w x) upto told xs) in
    let o : Plan = plan n (shelf (node w x).groups) (inputs.Delivered m) in
    let goes : Goes w x o.node (step (node w x) (inputs.Delivered m)).sends v = last_goes w m last up in
    let takes : TakesAck n p upto told xs o = ack_taken n p upto told xs joins in
    record {
      core = ap core_of goes.here ∙ takes.core;
      rest = subst (λ (k : Control). HasSameRest n k) (sym goes.here) takes.rest;
      log = ap (λ (k : Control). k.kept.log) goes.here ∙ takes.log;
      others = goes.others;
      up = goes.up;
    }

-- The three acts

-- one acknowledged check-in of x, whose parent is p
pub record ChecksIn (w : World) (x p : ℕ) (r : Run) : Type 0 where
  pub acts : length r.acts ≡ 3
  pub up : (y : ℕ) → is_up r.world y ≡ is_up w y
  pub others : (y : ℕ) → (x ≡ y → ⊥) → (p ≡ y → ⊥) → control_of r.world y ≡ control_of w y
  -- the child: its own count may rise, and it takes its rank, its ancestors and its place in the log
  pub child : core_of (control_of r.world x) ≡ record (counted (core_of (control_of w x))) {
    rank = rank_unless (control_of w x).soft.wish (control_of w x).kept.rank (rank_or_last (control_of w p).kept.rank);
    ancestors = ancestors_by p (control_of w p).kept.ancestors;
  }
  pub rest : HasSameRest (control_of w x) (control_of r.world x)
  pub log : log_of r.world x ≡ ack (log_of w x) (place_after (log_of w x))
  -- the parent: the told certificates are merged, and the lease begins anew
  pub parent : core_of (control_of r.world p) ≡ core_of (control_of w p)
  pub table : table_of r.world p ≡ merge_all (table_of w p) (life x (seq_of w x) p (control_of r.world x).kept.number (control_of r.world x).kept.clients ∷ next_certs (log_of w x))
  pub leases : (control_of r.world p).leases ≡ renew (control_of w p).leases x (clock_of w p)
  pub clock : clock_of r.world p ≡ clock_of w p

-- counting leaves the node's place
pub counted_joined : (k : Core) → ((counted k).mode ≡ k.mode) × ((counted k).seq ≡ k.seq) × ((counted k).rank ≡ k.rank)
counted_joined k = cond_both (has_uncounted k) (with_count k) k (λ (j : Core). (j.mode ≡ k.mode) × (j.seq ≡ k.seq) × (j.rank ≡ k.rank)) (λ _. (refl, refl, refl)) (λ _. (refl, refl, refl))

counted_wish : (k : Core) → (counted k).wish ≡ k.wish
counted_wish k = cond_both (has_uncounted k) (with_count k) k (λ (j : Core). j.wish ≡ k.wish) (λ _. refl) (λ _. refl)

pub checks_in_once : (w : World) (x p : ℕ) → (x ≡ p → ⊥) → IsUp w x → IsJoined w x p → IsUp w p → HoldsLease w p x (seq_of w x) → ChecksIn w x p (checks_in x w)
checks_in_once w x p apart up joins parent_up leased =
    let w1 : World = after_act w (acts.At x inputs.CheckNow) in
    let first : ChecksAt w x p w1 = checks_at w x p up joins in
    let parent1 : control_of w1 p ≡ control_of w p = first.others p apart in
    let w2 : World = (delivers_last w1).world in
    let number : ℕ = (control_of w1 x).kept.number in
    let clients : ℕ = (control_of w1 x).kept.clients in
    let second : TakesAt w1 p x (seq_of w x) (place_after (log_of w x)) number clients (next_certs (log_of w x)) w2 =
    takes_at w1 p x (seq_of w x) (place_after (log_of w x)) first.rate number clients (next_certs (log_of w x)) first.last (first.up p ∙ parent_up)
    (ap (λ (k : Control). leased_by k.kept.table p x) parent1 ∙ leased) in
    let child2 : control_of w2 x ≡ control_of w1 x = second.others x (λ e. apart (sym e)) in
    let core2 : core_of (control_of w2 x) ≡ counted (core_of (control_of w x)) = ap core_of child2 ∙ first.core in
    let still = counted_joined (core_of (control_of w x)) in
    let joins2 : IsJoined w2 x p = ap (λ (k : Core). k.mode) core2 ∙ (still.0 ∙ joins) in
    let seq2 : seq_of w2 x ≡ seq_of w x = ap (λ (k : Core). k.seq) core2 ∙ still.1 in
    let told : Rank = rank_or_last (control_of w1 p).kept.rank in
    let xs : List ℕ = (control_of w1 p).kept.ancestors in
    let w3 : World = (delivers_last w2).world in
    let third : AckedAt w2 x p (place_after (log_of w x)) told xs w3 =
    acked_at w2 x p (place_after (log_of w x)) told xs (subst (λ (s : ℕ). IsLast w2 (from_to p x (CheckAck s (place_after (log_of w x)) told xs))) (sym seq2) second.last) (second.up x ∙ (first.up x ∙ up)) joins2 in
    let answered : last_body w2 ≡ Some (CheckAck (seq_of w x) (place_after (log_of w x)) told xs) = last_body_is w2 _ second.last in
    let whole : checks_in x w ≡ and_then (and_then (does (acts.At x inputs.CheckNow) w) delivers_last) delivers_last = ap (λ (b : Option Body). and_then (and_then (does (acts.At x inputs.CheckNow) w) delivers_last) (λ v. takes_ack b w2)) answered in
    let parent3 : control_of w3 p ≡ control_of w2 p = third.others p apart in
    let count3 : (control_of w3 x).kept.number ≡ number = ap (λ (k : Core). k.number) third.core ∙ ap (λ (k : Control). k.kept.number) child2 in
    let clients3 : (control_of w3 x).kept.clients ≡ clients = ap (λ (k : Core). k.clients) third.core ∙ ap (λ (k : Control). k.kept.clients) child2 in
    subst (λ (r : Run). ChecksIn w x p r) (sym whole) record {
      acts = refl;
      up = λ y. third.up y ∙ (second.up y ∙ first.up y);
      others = λ y not_x not_p. third.others y not_x ∙ (second.others y not_p ∙ first.others y not_x);
      child = third.core ∙ (ap₂ (λ (k : Core) (m : Control). record k { rank = rank_unless k.wish k.rank (rank_or_last m.kept.rank); ancestors = ancestors_by p m.kept.ancestors }) core2 parent1
          ∙ ap₂ (λ (wish : Option ℕ) (r : Option Rank). record (counted (core_of (control_of w x))) { rank = rank_unless wish r (rank_or_last (control_of w p).kept.rank); ancestors = ancestors_by p (control_of w p).kept.ancestors })
          (counted_wish (core_of (control_of w x))) still.2);
      rest = record {
        table = third.rest.table ∙ (ap (λ (k : Control). k.kept.table) child2 ∙ first.rest.table);
        leases = third.rest.leases ∙ (ap (λ (k : Control). k.leases) child2 ∙ first.rest.leases);
        clock = third.rest.clock ∙ (ap (λ (k : Control). k.soft.clock) child2 ∙ first.rest.clock);
      };
      log = third.log ∙ ap (λ l. ack l (place_after (log_of w x))) (ap (λ (k : Control). k.kept.log) child2 ∙ first.log);
      parent = ap core_of parent3 ∙ (second.core ∙ ap core_of parent1);
      table = ap (λ (k : Control). k.kept.table) parent3 ∙ (second.table ∙ (ap (λ (k : Control). merge_all k.kept.table (life x (seq_of w x) p number clients ∷ next_certs (log_of w x))) parent1
          ∙ ap₂ (λ (a b : ℕ). merge_all (table_of w p) (life x (seq_of w x) p a b ∷ next_certs (log_of w x))) (sym count3) (sym clients3)));
      leases = ap (λ (k : Control). k.leases) parent3 ∙ (second.leases ∙ ap (λ (k : Control). renew k.leases x k.soft.clock) parent1);
      clock = ap (λ (k : Control). k.soft.clock) parent3 ∙ (second.clock ∙ ap (λ (k : Control). k.soft.clock) parent1);
    }
