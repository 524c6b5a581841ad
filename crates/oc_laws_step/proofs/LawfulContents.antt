-- Rule 14, content, keeps a node lawful, and its messages are lawful.
use Rattle.std.proofs.Common.{ℕ, ◌+◌, ◌≤◌, Bool, true, false, ◌&&◌, ◌==◌, nat_lt, if◌then◌else◌, Option, Some, None, List, [], length, arith}
use Rattle.std.proofs.lemmas.Bool.{cond_both}
use Rattle.oc_base.specs.declared.shelf.Shelf.{Shelf}
use Rattle.oc_base.specs.Names.{IsGroupName}
use Rattle.oc_model.specs.declared.answer.Answer.{Answer}
use Rattle.oc_model.specs.declared.answer.Answer.TheVariants as words
use Rattle.oc_model.specs.declared.message.Body.TheVariants as bodies
use Rattle.oc_model.specs.declared.mode.Mode.{Mode}
use Rattle.oc_model.specs.declared.mode.Mode.TheVariants as modes
use Rattle.oc_model.specs.Content.{unless, keeps, grows, publish_to, published, seal_line, sealed_at, pulled, count_from, wanted, sends_chunk, answers_fetch, fetched, adds_seal, adds, grown_line, asks_on, keeps_chunk, chunk_to, took_chunk}
use Rattle.oc_base.specs.declared.limits.TheConstants.{MAX_GROUP_BYTES, MAX_CHUNK_BYTES}
use Rattle.oc_base.specs.Lawful.{IsNode}
use Rattle.oc_base.specs.Shelves.{IsLine, AreLines, IsShelf, line_of}
use Rattle.oc_model.specs.Plan.{Plan, send, answers, ignored}
use Rattle.oc_model.specs.Shelves.{line_at, with_line, limit, next_behind}
use Rattle.oc_laws_step.specs.LawfulNode.{IsLawfulWant, IsLawfulPlan}
use Rattle.oc_laws_step.proofs.Goes.{either}
use Rattle.oc_laws_step.proofs.LawfulAsks.{lawful_ignored}
use Rattle.oc_laws_step.proofs.LawfulFolds.{lawful_send, lawful_answers}
use Rattle.oc_laws_step.proofs.Lines.{HasRoom, line_at_lawful, behind_lawful, shelf_put, within}
use Rattle.oc_laws_step.proofs.Ranges.{IfFound}

module _ (nodes : ℕ) where
  lawful_keeps : (o : Plan) (at : ℕ) (closes : Bool) → IsLawfulPlan nodes o → IsLawfulPlan nodes (keeps o at closes)
  lawful_keeps o at closes ok = record { node = ok.node; log = ok.log; records = ok.records; sends = ok.sends; wants = ok.wants }

  lawful_unless : (a : Option Answer) (o q : Plan) → IsLawfulPlan nodes o → IsLawfulPlan nodes q → IsLawfulPlan nodes (unless a o q)
  lawful_unless None o q ok rest = rest
  lawful_unless (Some a) o q ok rest = lawful_answers nodes o a ok

  lawful_publish_to : (o : Plan) (shelf : List Shelf) (l : Shelf) (count : ℕ) → IsLawfulPlan nodes o → IsLawfulPlan nodes (publish_to o shelf l count)
  lawful_publish_to o shelf l count ok =
      either l.sealed (IsLawfulPlan nodes) (answers o words.Sealed) (unless (limit shelf l.group (l.held + count)) o (if grows shelf l.group count then keeps o l.held false else o))
      (lawful_answers nodes o words.Sealed ok)
      (lawful_unless (limit shelf l.group (l.held + count)) o (if grows shelf l.group count then keeps o l.held false else o) ok
      (either (grows shelf l.group count) (IsLawfulPlan nodes) (keeps o l.held false) o (lawful_keeps o l.held false ok) ok))

  pub lawful_published : (o : Plan) (shelf : List Shelf) (g bytes : List ℕ) → IsLawfulPlan nodes o → IsLawfulPlan nodes (published o shelf g bytes)
  lawful_published o shelf g bytes ok =
      either (o.node.me == 1) (IsLawfulPlan nodes) (publish_to o shelf (line_at g shelf) (length bytes)) (answers o words.NotSource)
      (lawful_publish_to o shelf (line_at g shelf) (length bytes) ok) (lawful_answers nodes o words.NotSource ok)

  lawful_seal_line : (o : Plan) (l : Option Shelf) → IsLawfulPlan nodes o → IsLawfulPlan nodes (seal_line o l)
  lawful_seal_line o None ok = lawful_answers nodes o words.NoGroup ok
  lawful_seal_line o (Some l) ok = either l.sealed (IsLawfulPlan nodes) (ignored o) (keeps o l.held true) (lawful_ignored nodes o ok) (lawful_keeps o l.held true ok)

  pub lawful_sealed_at : (o : Plan) (shelf : List Shelf) (g : List ℕ) → IsLawfulPlan nodes o → IsLawfulPlan nodes (sealed_at o shelf g)
  lawful_sealed_at o shelf g ok =
      either (o.node.me == 1) (IsLawfulPlan nodes) (seal_line o (line_of g shelf)) (answers o words.NotSource) (lawful_seal_line o (line_of g shelf) ok) (lawful_answers nodes o words.NotSource ok)

  pub lawful_pulled : (o : Plan) (shelf : List Shelf) (p : ℕ) → IsNode nodes p → IsShelf shelf → IsLawfulPlan nodes o → IsLawfulPlan nodes (pulled o shelf p)
  lawful_pulled o shelf p to lines ok =
      either (p == o.node.me) (IsLawfulPlan nodes) (answers o words.Own) (send o p (bodies.Fetch shelf)) (lawful_answers nodes o words.Own ok) (lawful_send nodes o p (bodies.Fetch shelf) to lines ok)

  -- no more bytes are wanted than a chunk has
  want_lawful : (l : Shelf) (start count : ℕ) → count ≤ MAX_CHUNK_BYTES → IsLawfulWant (wanted l start count)
  want_lawful l start count few = cond_both (count == 0) None (Some (record { group = l.group; start = start; count = count })) IsLawfulWant (λ _. tt) (λ _. few)

  lawful_sends_chunk : (o : Plan) (p : ℕ) (l : Shelf) (start : ℕ) → IsNode nodes p → IsLine l → start ≤ MAX_GROUP_BYTES → IsLawfulPlan nodes o → IsLawfulPlan nodes (sends_chunk o p l start (count_from o.node.chunk l start))
  lawful_sends_chunk o p l start to line within ok =
      let sent = lawful_send nodes o p (bodies.Chunk l.group start [] (l.sealed && start + count_from o.node.chunk l start == l.held)) to (line.0, within, omega arith) ok in
      record { node = sent.node; log = sent.log; records = sent.records; sends = sent.sends; wants = want_lawful l start (count_from o.node.chunk l start) (omega (arith, ok.node.chunk)) }

  lawful_answers_fetch : (o : Plan) (p : ℕ) (have : List Shelf) (l : Option Shelf) → IsNode nodes p → AreLines have → IfFound IsLine l → IsLawfulPlan nodes o → IsLawfulPlan nodes (answers_fetch o p have l)
  lawful_answers_fetch o p have None to lines here ok = ok
  lawful_answers_fetch o p have (Some l) to lines here ok = lawful_sends_chunk o p l (line_at l.group have).held to here (line_at_lawful l.group have here.0 lines).1 ok

  pub lawful_fetched : (o : Plan) (shelf : List Shelf) (p : ℕ) (have : List Shelf) → IsNode nodes p → IsShelf shelf → IsShelf have → IsLawfulPlan nodes o → IsLawfulPlan nodes (fetched o shelf p have)
  lawful_fetched o shelf p have to lines theirs ok = lawful_answers_fetch o p have (next_behind o.node.chunk have shelf) to theirs.0 (behind_lawful o.node.chunk have shelf lines.0) ok

  lawful_asks_on : (m : Mode) (p : ℕ) (shelf : List Shelf) (o : Plan) → IsNode nodes p → IsShelf shelf → IsLawfulPlan nodes o → IsLawfulPlan nodes (asks_on m p shelf o)
  lawful_asks_on (modes.Joined q) p shelf o to lines ok = either (q == p) (IsLawfulPlan nodes) (send o p (bodies.Fetch shelf)) o (lawful_send nodes o p (bodies.Fetch shelf) to lines ok) ok
  lawful_asks_on modes.Idle p shelf o to lines ok = ok
  lawful_asks_on (modes.Asking q) p shelf o to lines ok = ok
  lawful_asks_on modes.Acting p shelf o to lines ok = ok

  lawful_keeps_chunk : (o : Plan) (shelf : List Shelf) (p : ℕ) (l : Shelf) (start end : ℕ) (last : Bool) → IsNode nodes p → IsShelf shelf → IsLine l → HasRoom shelf l.group → end ≤ MAX_GROUP_BYTES
      → IsLawfulPlan nodes o → IsLawfulPlan nodes (keeps_chunk o shelf p l start end last)
  lawful_keeps_chunk o shelf p l start end last to lines line room within ok =
      either (adds shelf l end last) (IsLawfulPlan nodes) (asks_on o.node.kept.mode p (with_line (grown_line l end last) shelf) (keeps o start (adds_seal l end last))) (ignored o)
      (lawful_asks_on o.node.kept.mode p (with_line (grown_line l end last) shelf) (keeps o start (adds_seal l end last)) to
      (shelf_put (grown_line l end last) shelf (line.0, omega (arith, line.1, within)) room lines) (lawful_keeps o start (adds_seal l end last) ok))
      (lawful_ignored nodes o ok)

  lawful_chunk_to : (o : Plan) (shelf : List Shelf) (p : ℕ) (l : Shelf) (start end : ℕ) (last : Bool) → IsNode nodes p → IsShelf shelf → IsLine l → IsLawfulPlan nodes o → IsLawfulPlan nodes (chunk_to o shelf p l start end last)
  lawful_chunk_to o shelf p l start end last to lines line ok =
      either (nat_lt l.held start) (IsLawfulPlan nodes) (answers o words.Gap)
      (if l.sealed && nat_lt l.held end then answers o words.Sealed else unless (limit shelf l.group end) o (keeps_chunk o shelf p l start end last))
      (lawful_answers nodes o words.Gap ok)
      (either (l.sealed && nat_lt l.held end) (IsLawfulPlan nodes) (answers o words.Sealed) (unless (limit shelf l.group end) o (keeps_chunk o shelf p l start end last))
      (lawful_answers nodes o words.Sealed ok)
      (within (IsLawfulPlan nodes) o shelf l.group end (keeps_chunk o shelf p l start end last) (lawful_answers nodes o words.Groups ok) (lawful_answers nodes o words.TooLong ok)
      (λ room short. lawful_keeps_chunk o shelf p l start end last to lines line room short ok)))

  pub lawful_took_chunk : (o : Plan) (shelf : List Shelf) (p : ℕ) (g : List ℕ) (start : ℕ) (bytes : List ℕ) (last : Bool) → IsNode nodes p → IsShelf shelf → IsGroupName g
      → IsLawfulPlan nodes o → IsLawfulPlan nodes (took_chunk o shelf p g start bytes last)
  lawful_took_chunk o shelf p g start bytes last to lines name ok =
      either (o.node.me == 1) (IsLawfulPlan nodes) (ignored o) (chunk_to o shelf p (line_at g shelf) start (start + length bytes) last)
      (lawful_ignored nodes o ok) (lawful_chunk_to o shelf p (line_at g shelf) start (start + length bytes) last to lines (line_at_lawful g shelf name lines.0) ok)
