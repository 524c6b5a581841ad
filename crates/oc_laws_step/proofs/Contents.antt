-- Rule 14, content, writes no record: it does not change the control state.
use Rattle.std.proofs.Common.{◌≡◌, ℕ, ◌+◌, Bool, true, false, ◌&&◌, ◌==◌, nat_lt, if◌then◌else◌, Option, Some, None, List, length, refl}
use Rattle.oc_base.specs.declared.shelf.Shelf.{Shelf}
use Rattle.oc_model.specs.declared.answer.Answer.{Answer}
use Rattle.oc_model.specs.declared.answer.Answer.TheVariants as words
use Rattle.oc_model.specs.declared.mode.Mode.{Mode}
use Rattle.oc_model.specs.declared.mode.Mode.TheVariants as modes
use Rattle.oc_model.specs.Content.{unless, keeps, grows, publish_to, published, seal_line, sealed_at, answers_fetch, fetched, adds_seal, adds, grown_line, asks_on, keeps_chunk, chunk_to, took_chunk}
use Rattle.oc_model.specs.Plan.{Plan, answers, ignored}
use Rattle.oc_model.specs.Shelves.{line_at, with_line, limit, next_behind}
use Rattle.oc_base.specs.Shelves.{line_of}
use Rattle.oc_laws_step.proofs.Goes.{either}

-- the control state and the records are as they were
pub record Stays (o q : Plan) : Type 0 where
  pub node : q.node ≡ o.node
  pub records : q.records ≡ o.records

stays_itself : (o : Plan) → Stays o o
stays_itself o = record { node = refl; records = refl }

stays_answers : (o : Plan) (a : Answer) → Stays o (answers o a)
stays_answers o a = record { node = refl; records = refl }

stays_keeps : (o : Plan) (at : ℕ) (closes : Bool) → Stays o (keeps o at closes)
stays_keeps o at closes = record { node = refl; records = refl }

stays_unless : (a : Option Answer) (o q : Plan) → Stays o q → Stays o (unless a o q)
stays_unless None o q h = h
stays_unless (Some a) o q h = stays_answers o a

stays_publish_to : (o : Plan) (shelf : List Shelf) (l : Shelf) (count : ℕ) → Stays o (publish_to o shelf l count)
stays_publish_to o shelf l count =
    either l.sealed (Stays o) (answers o words.Sealed) (unless (limit shelf l.group (l.held + count)) o (if grows shelf l.group count then keeps o l.held false else o))
    (stays_answers o words.Sealed)
    (stays_unless (limit shelf l.group (l.held + count)) o (if grows shelf l.group count then keeps o l.held false else o)
    (either (grows shelf l.group count) (Stays o) (keeps o l.held false) o (stays_keeps o l.held false) (stays_itself o)))

pub stays_published : (o : Plan) (shelf : List Shelf) (g bytes : List ℕ) → Stays o (published o shelf g bytes)
stays_published o shelf g bytes =
    either (o.node.me == 1) (Stays o) (publish_to o shelf (line_at g shelf) (length bytes)) (answers o words.NotSource)
    (stays_publish_to o shelf (line_at g shelf) (length bytes)) (stays_answers o words.NotSource)

stays_seal_line : (o : Plan) (l : Option Shelf) → Stays o (seal_line o l)
stays_seal_line o None = stays_answers o words.NoGroup
stays_seal_line o (Some l) = either l.sealed (Stays o) (ignored o) (keeps o l.held true) (stays_answers o words.Ignored) (stays_keeps o l.held true)

pub stays_sealed_at : (o : Plan) (shelf : List Shelf) (g : List ℕ) → Stays o (sealed_at o shelf g)
stays_sealed_at o shelf g =
    either (o.node.me == 1) (Stays o) (seal_line o (line_of g shelf)) (answers o words.NotSource) (stays_seal_line o (line_of g shelf)) (stays_answers o words.NotSource)

stays_answers_fetch : (o : Plan) (p : ℕ) (have : List Shelf) (l : Option Shelf) → Stays o (answers_fetch o p have l)
stays_answers_fetch o p have None = stays_itself o
stays_answers_fetch o p have (Some l) = record { node = refl; records = refl }

pub stays_fetched : (o : Plan) (shelf : List Shelf) (p : ℕ) (have : List Shelf) → Stays o (fetched o shelf p have)
stays_fetched o shelf p have = stays_answers_fetch o p have (next_behind o.node.chunk have shelf)

stays_asks_on : (m : Mode) (p : ℕ) (shelf : List Shelf) (o q : Plan) → Stays o q → Stays o (asks_on m p shelf q)
stays_asks_on (modes.Joined r) p shelf o q h = either (r == p) (Stays o) _ q (record { node = h.node; records = h.records }) h
stays_asks_on m p shelf o q h = h

stays_keeps_chunk : (o : Plan) (shelf : List Shelf) (p : ℕ) (l : Shelf) (start end : ℕ) (last : Bool) → Stays o (keeps_chunk o shelf p l start end last)
stays_keeps_chunk o shelf p l start end last =
    either (adds shelf l end last) (Stays o) (asks_on o.node.kept.mode p (with_line (grown_line l end last) shelf) (keeps o start (adds_seal l end last))) (ignored o)
    (stays_asks_on o.node.kept.mode p (with_line (grown_line l end last) shelf) o (keeps o start (adds_seal l end last)) (stays_keeps o start (adds_seal l end last)))
    (stays_answers o words.Ignored)

stays_chunk_to : (o : Plan) (shelf : List Shelf) (p : ℕ) (l : Shelf) (start end : ℕ) (last : Bool) → Stays o (chunk_to o shelf p l start end last)
stays_chunk_to o shelf p l start end last =
    either (nat_lt l.held start) (Stays o) (answers o words.Gap)
    (if l.sealed && nat_lt l.held end then answers o words.Sealed else unless (limit shelf l.group end) o (keeps_chunk o shelf p l start end last))
    (stays_answers o words.Gap)
    (either (l.sealed && nat_lt l.held end) (Stays o) (answers o words.Sealed) (unless (limit shelf l.group end) o (keeps_chunk o shelf p l start end last))
    (stays_answers o words.Sealed)
    (stays_unless (limit shelf l.group end) o (keeps_chunk o shelf p l start end last) (stays_keeps_chunk o shelf p l start end last)))

pub stays_took_chunk : (o : Plan) (shelf : List Shelf) (p : ℕ) (g : List ℕ) (start : ℕ) (bytes : List ℕ) (last : Bool) → Stays o (took_chunk o shelf p g start bytes last)
stays_took_chunk o shelf p g start bytes last =
    either (o.node.me == 1) (Stays o) (ignored o) (chunk_to o shelf p (line_at g shelf) start (start + length bytes) last)
    (stays_answers o words.Ignored) (stays_chunk_to o shelf p (line_at g shelf) start (start + length bytes) last)
