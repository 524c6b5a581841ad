-- The bytes that a plan wants.
use Rattle.std.proofs.Common.{◌≡◌, ℕ, ◌≤◌, Option, Some, None, IfSome, List, [], ◌∷◌, Bool, true, false, if◌then◌else◌, ◌==◌, nat_lt, ◌&&◌, ◌+◌, length, refl, ap, sym, ◌∙◌}
use Rattle.oc_base.specs.declared.shelf.Shelf.{Shelf}
use Rattle.oc_base.specs.Shelves.{line_of}
use Rattle.oc_model.specs.declared.answer.Answer.{Answer}
use Rattle.oc_model.specs.declared.answer.Answer.TheVariants as words
use Rattle.oc_model.specs.declared.input.Input.{Input}
use Rattle.oc_model.specs.declared.input.Input.TheVariants as inputs
use Rattle.oc_model.specs.declared.message.Body.{Body}
use Rattle.oc_model.specs.declared.message.Body.TheVariants as bodies
use Rattle.oc_model.specs.declared.message.Message.{Message}
use Rattle.oc_model.specs.declared.mode.Mode.{Mode}
use Rattle.oc_model.specs.declared.mode.Mode.TheVariants as modes
use Rattle.oc_model.specs.declared.want.Want.{Want}
use Rattle.oc_model.specs.Content.{unless, grows, keeps, publish_to, published, seal_line, sealed_at, answers_fetch, adds, adds_seal, grown_line, asks_on, keeps_chunk, chunk_to, took_chunk}
use Rattle.oc_model.specs.Node.{Control}
use Rattle.oc_model.specs.Plan.{Plan, begun, answers, ignored, send}
use Rattle.oc_model.specs.Shelves.{line_at, limit, next_behind, with_line}
use Rattle.oc_model.specs.Step.{plan, received}
use Rattle.oc_laws_step.proofs.Goes.{Goes, either}
use Rattle.oc_laws_step.proofs.Asks.{goes_took_yes, goes_took_no, goes_unreachable, goes_relocate}
use Rattle.oc_laws_step.proofs.Adopts.{goes_asked}
use Rattle.oc_laws_step.proofs.Checks.{goes_checks, goes_tick, goes_checked_in, goes_took_ack, goes_took_rejoin}
use Rattle.oc_laws_step.proofs.Looks.{goes_looked, goes_sees}
use Rattle.oc_laws_step.proofs.Serves.{goes_client, goes_measured}
use Rattle.oc_laws_step.proofs.Steps.{goes_pulled}
use Rattle.oc_step.specs.Planned.{PlanView, IsWanting, planned}

-- A step that wants bytes sends one message

abbrev WantsNone : Plan → Type 0
WantsNone o = o.wants ≡ None

none_unless : (a : Option Answer) (o q : Plan) → WantsNone o → WantsNone q → WantsNone (unless a o q)
none_unless None o q h k = k
none_unless (Some a) o q h k = h

none_publish_to : (o : Plan) (shelf : List Shelf) (l : Shelf) (count : ℕ) → WantsNone o → WantsNone (publish_to o shelf l count)
none_publish_to o shelf l count h =
    let kept = if grows shelf l.group count then keeps o l.held false else o in
    either l.sealed WantsNone (answers o words.Sealed) (unless (limit shelf l.group (l.held + count)) o kept) h
    (none_unless (limit shelf l.group (l.held + count)) o kept h (either (grows shelf l.group count) WantsNone (keeps o l.held false) o h h))

none_seal_line : (o : Plan) (l : Option Shelf) → WantsNone o → WantsNone (seal_line o l)
none_seal_line o None h = h
none_seal_line o (Some l) h = either l.sealed WantsNone (ignored o) (keeps o l.held true) h h

none_asks_on : (m : Mode) (p : ℕ) (shelf : List Shelf) (o : Plan) → WantsNone o → WantsNone (asks_on m p shelf o)
none_asks_on modes.Idle p shelf o h = h
none_asks_on (modes.Asking q) p shelf o h = h
none_asks_on (modes.Joined q) p shelf o h = either (q == p) WantsNone (send o p (bodies.Fetch shelf)) o h h
none_asks_on modes.Acting p shelf o h = h

none_keeps_chunk : (o : Plan) (shelf : List Shelf) (p : ℕ) (l : Shelf) (start end : ℕ) (last : Bool) → WantsNone o → WantsNone (keeps_chunk o shelf p l start end last)
none_keeps_chunk o shelf p l start end last h =
    either (adds shelf l end last) WantsNone (asks_on o.node.kept.mode p (with_line (grown_line l end last) shelf) (keeps o start (adds_seal l end last))) (ignored o)
    (none_asks_on o.node.kept.mode p (with_line (grown_line l end last) shelf) (keeps o start (adds_seal l end last)) h) h

none_chunk_to : (o : Plan) (shelf : List Shelf) (p : ℕ) (l : Shelf) (start end : ℕ) (last : Bool) → WantsNone o → WantsNone (chunk_to o shelf p l start end last)
none_chunk_to o shelf p l start end last h =
    let rest = unless (limit shelf l.group end) o (keeps_chunk o shelf p l start end last) in
    either (nat_lt l.held start) WantsNone (answers o words.Gap) (if l.sealed && nat_lt l.held end then answers o words.Sealed else rest) h
    (either (l.sealed && nat_lt l.held end) WantsNone (answers o words.Sealed) rest h (none_unless (limit shelf l.group end) o (keeps_chunk o shelf p l start end last) h (none_keeps_chunk o shelf p l start end last h)))

-- one message where bytes are wanted
abbrev IsAlone : Plan → Type 0
IsAlone o = (w : Want) → o.wants ≡ Some w → (m : Message) × (o.sends ≡ m ∷ [])

alone_none : (o : Plan) → WantsNone o → IsAlone o
alone_none o h = λ w e. absurd cc

alone_goes : (n : Control) (e k : ℕ) (q : Plan) → Goes e k (begun n) q → IsAlone q
alone_goes n e k q goes = alone_none q goes.by.wants

alone_fetch : (n : Control) (p : ℕ) (have : List Shelf) (l : Option Shelf) → IsAlone (answers_fetch (begun n) p have l)
alone_fetch n p have None = alone_none (begun n) refl
alone_fetch n p have (Some l) = λ w e. (_, refl)

alone_received : (n : Control) (shelf : List Shelf) (p : ℕ) (b : Body) → IsAlone (received (begun n) shelf p b)
alone_received n shelf p bodies.Look = alone_goes n 0 0 _ (goes_looked (begun n) p)
alone_received n shelf p (bodies.LookIs is_in parent rate children) = alone_goes n 0 2 _ (goes_sees (begun n) p (record { in_tree = is_in; parent = parent; rate = rate; children = children }))
alone_received n shelf p (bodies.Ask seq rank) = alone_goes n 1 1 _ (goes_asked (begun n) p seq rank)
alone_received n shelf p (bodies.Yes seq rank ancestors) = alone_goes n 0 2 _ (goes_took_yes (begun n) p seq rank ancestors)
alone_received n shelf p (bodies.No seq why) = alone_goes n 0 3 _ (goes_took_no (begun n) p seq why)
alone_received n shelf p (bodies.CheckIn seq upto rate number clients certs) = alone_goes n (length certs + 1) 0 _ (goes_checked_in (begun n) p seq upto rate number clients certs)
alone_received n shelf p (bodies.CheckAck seq upto rank ancestors) = alone_goes n 0 3 _ (goes_took_ack (begun n) p seq upto rank ancestors)
alone_received n shelf p (bodies.Rejoin seq) = alone_goes n 0 1 _ (goes_took_rejoin (begun n) p seq)
alone_received n shelf p (bodies.Fetch have) = alone_fetch n p have (next_behind n.chunk have shelf)
alone_received n shelf p (bodies.Chunk g start bytes last) =
    alone_none (took_chunk (begun n) shelf p g start bytes last) (either (n.me == 1) WantsNone (ignored (begun n)) (chunk_to (begun n) shelf p (line_at g shelf) start (start + length bytes) last) refl (none_chunk_to (begun n) shelf p (line_at g shelf) start (start + length bytes) last refl))

alone_plan : (n : Control) (shelf : List Shelf) (i : Input) → IsAlone (plan n shelf i)
alone_plan n shelf (inputs.Tick t) = alone_goes n (length n.kept.table) 2 _ (goes_tick (begun n) shelf t)
alone_plan n shelf inputs.CheckNow = alone_goes n 0 2 _ (goes_checks (begun n))
alone_plan n shelf (inputs.Relocate p) = alone_goes n 0 1 _ (goes_relocate (begun n) p)
alone_plan n shelf (inputs.Unreachable p) = alone_goes n 0 3 _ (goes_unreachable (begun n) p)
alone_plan n shelf (inputs.Pull p) = alone_goes n 0 0 _ (goes_pulled (begun n) shelf p)
alone_plan n shelf (inputs.Measured p rate hops) = alone_goes n 0 1 _ (goes_measured (begun n) p rate hops)
alone_plan n shelf (inputs.Publish g bytes) =
    alone_none (published (begun n) shelf g bytes) (either (n.me == 1) WantsNone (publish_to (begun n) shelf (line_at g shelf) (length bytes)) (answers (begun n) words.NotSource) (none_publish_to (begun n) shelf (line_at g shelf) (length bytes) refl) refl)
alone_plan n shelf (inputs.Seal g) =
    alone_none (sealed_at (begun n) shelf g) (either (n.me == 1) WantsNone (seal_line (begun n) (line_of g shelf)) (answers (begun n) words.NotSource) (none_seal_line (begun n) (line_of g shelf) refl) refl)
alone_plan n shelf (inputs.Client area start g) = alone_goes n 0 0 _ (goes_client (begun n) shelf area start g)
alone_plan n shelf (inputs.Delivered m) = alone_received n shelf m.from m.body

room_for : (o : Option Want) (w : Want) (room : ℕ) → IfSome o (λ v. v.count ≤ room) → o ≡ Some w → w.count ≤ room
room_for None w room fits e = absurd cc
room_for (Some v) w room fits e = let same : v ≡ w = cc in rw (← same) fits

-- the plan of a step that wants bytes has one message, and room for them
pub plan_wants : (n : Control) (lines : List Shelf) (i : Input) (p : PlanView) → planned n p ≡ plan n lines i → IfSome p.wants (λ w. w.count ≤ p.room) → (w : Want) → p.wants ≡ Some w → IsWanting p w.count
plan_wants n lines i p made room w e =
    let wants : (plan n lines i).wants ≡ Some w = sym (ap (λ (o : Plan). o.wants) made) ∙ e in
    let alone = alone_plan n lines i w wants in
    record {
      wants = (w, e, refl);
      chunk = (alone.0, ap (λ (o : Plan). o.sends) made ∙ alone.1);
      room = room_for p.wants w p.room room e;
    }
