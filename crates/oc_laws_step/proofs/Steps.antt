-- The records of each step, which lead from the durable state before to the one after, or its content.
use Rattle.std.proofs.Common.{◌≡◌, ℕ, ◌+◌, ◌≤◌, ◌==◌, None, List, [], length, ◌⊎◌, inl, inr, sym, ◌∙◌, ap, arith}
use Rattle.std.specs.List.{AllByRecursion}
use Rattle.oc_base.specs.declared.shelf.Shelf.{Shelf}
use Rattle.oc_model.specs.declared.answer.Answer.TheVariants as words
use Rattle.oc_model.specs.declared.input.Input.{Input}
use Rattle.oc_model.specs.declared.input.Input.TheVariants as inputs
use Rattle.oc_model.specs.declared.message.Body.{Body}
use Rattle.oc_model.specs.declared.message.Body.TheVariants as bodies
use Rattle.oc_model.specs.Content.{pulled}
use Rattle.oc_model.specs.Node.{Control}
use Rattle.oc_model.specs.Plan.{Plan, begun, send, answers}
use Rattle.oc_model.specs.Records.{folded}
use Rattle.oc_model.specs.Step.{received, plan}
use Rattle.oc_laws_step.specs.Sizes.{total}
use Rattle.oc_laws_step.specs.Sound.{IsSoundRecord}
use Rattle.oc_laws_step.proofs.Adopts.{goes_asked}
use Rattle.oc_laws_step.proofs.Asks.{goes_took_yes, goes_took_no, goes_unreachable, goes_relocate}
use Rattle.oc_laws_step.proofs.Checks.{goes_checks, goes_tick, goes_checked_in, goes_took_ack, goes_took_rejoin}
use Rattle.oc_laws_step.proofs.Contents.{Stays, stays_published, stays_sealed_at, stays_fetched, stays_took_chunk}
use Rattle.oc_laws_step.proofs.Goes.{Goes, IsSame, same_itself, as_entry, as_other, either, goes_send, goes_says}
use Rattle.oc_laws_step.proofs.Looks.{goes_looked, goes_sees}
use Rattle.oc_laws_step.proofs.Serves.{goes_client, goes_measured}

-- the most entries that a step writes: one for each row of the table, or for each certificate of a check-in and the one on its sender
abbrev pub most_entries_of : Body → ℕ
most_entries_of (bodies.Ask seq rank) = 1
most_entries_of (bodies.CheckIn seq upto rate number clients certs) = length certs + 1
most_entries_of b = 0

abbrev pub most_entries : Control → Input → ℕ
most_entries n (inputs.Tick t) = length n.kept.table
most_entries n (inputs.Delivered m) = most_entries_of m.body
most_entries n i = 0

-- the records of a step are sound, and lead from the durable state before to the one after; it writes records or keeps content, not both
pub record Writes (e : ℕ) (n : Control) (q : Plan) : Type 0 where
  pub kept : q.node.kept ≡ folded n.kept q.records
  pub sound : AllByRecursion IsSoundRecord q.records
  pub same : IsSame n q.node
  pub one : (q.keeps ≡ None) ⊎ (q.records ≡ [])
  pub few : total as_entry q.records ≤ e
  pub rest : total as_other q.records ≤ 3

-- a rule that goes by its records writes them
writes_going : (e k : ℕ) (n : Control) (q : Plan) → k ≤ 3 → Goes e k (begun n) q → Writes e n q
writes_going e k n q most h =
    let is : q.records ≡ h.written = h.by.records in
    record {
      kept = h.by.kept ∙ ap (folded n.kept) (sym is);
      sound = rw is h.by.sound;
      same = h.by.same;
      one = inl h.by.keeps;
      few = rw is h.few;
      rest = rw is (omega (arith, h.rest));
    }

-- a rule that leaves the control state alone writes no record
writes_staying : (n : Control) (q : Plan) → Stays (begun n) q → Writes 0 n q
writes_staying n q h = record {
  kept = ap (λ m. m.kept) h.node ∙ ap (folded n.kept) (sym h.records);
  sound = rw h.records tt;
  same = rw h.node (same_itself n);
  one = inr h.records;
  few = rw h.records (omega arith);
  rest = rw h.records (omega arith);
}

-- a pull writes nothing
pub goes_pulled : (o : Plan) (shelf : List Shelf) (p : ℕ) → Goes 0 0 o (pulled o shelf p)
goes_pulled o shelf p = either (p == o.node.me) (Goes 0 0 o) (answers o words.Own) (send o p (bodies.Fetch shelf)) (goes_says 0 0 o words.Own) (goes_send o p (bodies.Fetch shelf))

writes_received : (n : Control) (shelf : List Shelf) (p : ℕ) (b : Body) → Writes (most_entries_of b) n (received (begun n) shelf p b)
writes_received n shelf p bodies.Look = writes_going 0 0 n _ (omega arith) (goes_looked (begun n) p)
writes_received n shelf p (bodies.LookIs is_in parent rate children) = writes_going 0 2 n _ (omega arith) (goes_sees (begun n) p (record { in_tree = is_in; parent = parent; rate = rate; children = children }))
writes_received n shelf p (bodies.Ask seq rank) = writes_going 1 1 n _ (omega arith) (goes_asked (begun n) p seq rank)
writes_received n shelf p (bodies.Yes seq rank ancestors) = writes_going 0 2 n _ (omega arith) (goes_took_yes (begun n) p seq rank ancestors)
writes_received n shelf p (bodies.No seq why) = writes_going 0 3 n _ (omega arith) (goes_took_no (begun n) p seq why)
writes_received n shelf p (bodies.CheckIn seq upto rate number clients certs) = writes_going (length certs + 1) 0 n _ (omega arith) (goes_checked_in (begun n) p seq upto rate number clients certs)
writes_received n shelf p (bodies.CheckAck seq upto rank ancestors) = writes_going 0 3 n _ (omega arith) (goes_took_ack (begun n) p seq upto rank ancestors)
writes_received n shelf p (bodies.Rejoin seq) = writes_going 0 1 n _ (omega arith) (goes_took_rejoin (begun n) p seq)
writes_received n shelf p (bodies.Fetch have) = writes_staying n _ (stays_fetched (begun n) shelf p have)
writes_received n shelf p (bodies.Chunk g start bytes last) = writes_staying n _ (stays_took_chunk (begun n) shelf p g start bytes last)

-- the records of each step lead from the durable state before to the one after
pub writes : (n : Control) (shelf : List Shelf) (i : Input) → Writes (most_entries n i) n (plan n shelf i)
writes n shelf (inputs.Tick t) = writes_going (length n.kept.table) 2 n _ (omega arith) (goes_tick (begun n) shelf t)
writes n shelf inputs.CheckNow = writes_going 0 2 n _ (omega arith) (goes_checks (begun n))
writes n shelf (inputs.Relocate p) = writes_going 0 1 n _ (omega arith) (goes_relocate (begun n) p)
writes n shelf (inputs.Unreachable p) = writes_going 0 3 n _ (omega arith) (goes_unreachable (begun n) p)
writes n shelf (inputs.Pull p) = writes_going 0 0 n _ (omega arith) (goes_pulled (begun n) shelf p)
writes n shelf (inputs.Measured p rate hops) = writes_going 0 1 n _ (omega arith) (goes_measured (begun n) p rate hops)
writes n shelf (inputs.Publish g bytes) = writes_staying n _ (stays_published (begun n) shelf g bytes)
writes n shelf (inputs.Seal g) = writes_staying n _ (stays_sealed_at (begun n) shelf g)
writes n shelf (inputs.Client area start g) = writes_going 0 0 n _ (omega arith) (goes_client (begun n) shelf area start g)
writes n shelf (inputs.Delivered m) = writes_received n shelf m.from m.body
