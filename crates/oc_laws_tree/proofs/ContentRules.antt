-- Rule 14, content, does not change the control state, so its properties hold after the rule.
use Rattle.std.proofs.Common.{ℕ, ◌+◌, Bool, true, false, ◌&&◌, ◌==◌, nat_lt, if◌then◌else◌, Option, Some, None, List, length}
use Rattle.oc_base.specs.declared.shelf.Shelf.{Shelf}
use Rattle.oc_model.specs.declared.answer.Answer.{Answer}
use Rattle.oc_model.specs.declared.answer.Answer.TheVariants as words
use Rattle.oc_model.specs.declared.message.Body.TheVariants as bodies
use Rattle.oc_model.specs.declared.mode.Mode.{Mode}
use Rattle.oc_model.specs.declared.mode.Mode.TheVariants as modes
use Rattle.oc_model.specs.Content.{unless, keeps, grows, publish_to, published, seal_line, sealed_at, pulled, answers_fetch, fetched, adds_seal, adds, grown_line, asks_on, keeps_chunk, chunk_to, took_chunk}
use Rattle.oc_model.specs.Node.{Control}
use Rattle.oc_model.specs.Plan.{Plan, send, answers, ignored}
use Rattle.oc_base.specs.Shelves.{line_of}
use Rattle.oc_model.specs.Shelves.{line_at, with_line, limit, next_behind}
use Rattle.oc_model.proofs.Rules.{either}

module _ (P : Control → Type 0) where
  -- a property of the node of a step under way
  abbrev OfNode : Plan → Type 0
  OfNode o = P o.node

  content_unless : (a : Option Answer) (o q : Plan) → OfNode o → OfNode q → OfNode (unless a o q)
  content_unless None o q h g = g
  content_unless (Some a) o q h g = h

  content_publish_to : (o : Plan) (shelf : List Shelf) (l : Shelf) (count : ℕ) → OfNode o → OfNode (publish_to o shelf l count)
  content_publish_to o shelf l count h =
      let kept : Plan = if grows shelf l.group count then keeps o l.held false else o in
      either l.sealed (OfNode) (answers o words.Sealed) (unless (limit shelf l.group (l.held + count)) o kept) h
      (content_unless (limit shelf l.group (l.held + count)) o kept h (either (grows shelf l.group count) (OfNode) (keeps o l.held false) o h h))

  pub content_published : (o : Plan) (shelf : List Shelf) (g bytes : List ℕ) → OfNode o → OfNode (published o shelf g bytes)
  content_published o shelf g bytes h =
      either (o.node.me == 1) (OfNode) (publish_to o shelf (line_at g shelf) (length bytes)) (answers o words.NotSource) (content_publish_to o shelf (line_at g shelf) (length bytes) h) h

  content_seal_line : (l : Option Shelf) (o : Plan) → OfNode o → OfNode (seal_line o l)
  content_seal_line None o h = h
  content_seal_line (Some l) o h = either l.sealed (OfNode) (ignored o) (keeps o l.held true) h h

  pub content_sealed_at : (o : Plan) (shelf : List Shelf) (g : List ℕ) → OfNode o → OfNode (sealed_at o shelf g)
  content_sealed_at o shelf g h = either (o.node.me == 1) (OfNode) (seal_line o (line_of g shelf)) (answers o words.NotSource) (content_seal_line (line_of g shelf) o h) h

  pub content_pulled : (o : Plan) (shelf : List Shelf) (p : ℕ) → OfNode o → OfNode (pulled o shelf p)
  content_pulled o shelf p h = either (p == o.node.me) (OfNode) (answers o words.Own) (send o p (bodies.Fetch shelf)) h h

  content_answers_fetch : (l : Option Shelf) (o : Plan) (p : ℕ) (have : List Shelf) → OfNode o → OfNode (answers_fetch o p have l)
  content_answers_fetch None o p have h = h
  content_answers_fetch (Some l) o p have h = h

  pub content_fetched : (o : Plan) (shelf : List Shelf) (p : ℕ) (have : List Shelf) → OfNode o → OfNode (fetched o shelf p have)
  content_fetched o shelf p have h = content_answers_fetch (next_behind o.node.chunk have shelf) o p have h

  content_asks_on : (m : Mode) (p : ℕ) (shelf : List Shelf) (o : Plan) → OfNode o → OfNode (asks_on m p shelf o)
  content_asks_on (modes.Joined q) p shelf o h = either (q == p) (OfNode) (send o p (bodies.Fetch shelf)) o h h
  content_asks_on modes.Idle p shelf o h = h
  content_asks_on (modes.Asking q) p shelf o h = h
  content_asks_on modes.Acting p shelf o h = h

  content_keeps_chunk : (o : Plan) (shelf : List Shelf) (p : ℕ) (l : Shelf) (start end : ℕ) (last : Bool) → OfNode o → OfNode (keeps_chunk o shelf p l start end last)
  content_keeps_chunk o shelf p l start end last h =
      let kept : Plan = keeps o start (adds_seal l end last) in
      let names : List Shelf = with_line (grown_line l end last) shelf in
      either (adds shelf l end last) (OfNode) (asks_on o.node.kept.mode p names kept) (ignored o) (content_asks_on o.node.kept.mode p names kept h) h

  content_chunk_to : (o : Plan) (shelf : List Shelf) (p : ℕ) (l : Shelf) (start end : ℕ) (last : Bool) → OfNode o → OfNode (chunk_to o shelf p l start end last)
  content_chunk_to o shelf p l start end last h =
      let taken : Plan = keeps_chunk o shelf p l start end last in
      let limited : Plan = unless (limit shelf l.group end) o taken in
      either (nat_lt l.held start) (OfNode) (answers o words.Gap) (if l.sealed && nat_lt l.held end then answers o words.Sealed else limited) h
      (either (l.sealed && nat_lt l.held end) (OfNode) (answers o words.Sealed) limited h (content_unless (limit shelf l.group end) o taken h (content_keeps_chunk o shelf p l start end last h)))

  pub content_took_chunk : (o : Plan) (shelf : List Shelf) (p : ℕ) (g : List ℕ) (start : ℕ) (bytes : List ℕ) (last : Bool) → OfNode o → OfNode (took_chunk o shelf p g start bytes last)
  content_took_chunk o shelf p g start bytes last h =
      either (o.node.me == 1) (OfNode) (ignored o) (chunk_to o shelf p (line_at g shelf) start (start + length bytes) last) h (content_chunk_to o shelf p (line_at g shelf) start (start + length bytes) last h)
