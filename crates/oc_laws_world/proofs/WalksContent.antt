-- Rule 14, content, leaves the tree part unchanged: it sends only chunks and fetches.
use Rattle.std.proofs.Common.{◌≡◌, ℕ, ◌+◌, Bool, true, false, ◌&&◌, ◌==◌, nat_lt, if◌then◌else◌, Option, Some, None, List, [], length}
use Rattle.std.proofs.lemmas.Bool.{cond_both}
use Rattle.oc_base.specs.declared.shelf.Shelf.{Shelf}
use Rattle.oc_model.specs.declared.answer.Answer.{Answer}
use Rattle.oc_model.specs.declared.answer.Answer.TheVariants as words
use Rattle.oc_base.specs.declared.group.Group.{Group}
use Rattle.oc_model.specs.declared.message.Body.{Body}
use Rattle.oc_model.specs.declared.message.Body.TheVariants as bodies
use Rattle.oc_model.specs.declared.message.Message.{Message}
use Rattle.oc_model.specs.declared.mode.Mode.{Mode}
use Rattle.oc_model.specs.declared.mode.Mode.TheVariants as modes
use Rattle.oc_model.specs.Content.{unless, keeps, grows, publish_to, published, seal_line, sealed_at, pulled, count_from, sends_chunk, answers_fetch, fetched, adds_seal, adds, grown_line, asks_on, keeps_chunk, chunk_to, took_chunk}
use Rattle.oc_model.specs.Node.{Control}
use Rattle.oc_model.specs.Plan.{Plan, begun, send, answers, ignored}
use Rattle.oc_model.specs.Shelves.{line_at, with_line, limit, next_behind}
use Rattle.oc_base.specs.Shelves.{line_of}
use Rattle.oc_model.specs.Step.{bytes_wanted, filled}
use Rattle.oc_laws_world.proofs.Machine.{IsMachine, Of}

-- a property of a step under way that sends no bytes
abbrev pub OfDry : (Control → List Message → Type 0) → Plan → Type 0
OfDry P o = Of P o × (o.wants ≡ None)

module _ (came : ℕ → Body → Type 0) (P : Control → List Message → Type 0) (k : IsMachine came P) where
  walks_unless : (a : Option Answer) (o q : Plan) → OfDry P o → OfDry P q → OfDry P (unless a o q)
  walks_unless None o q h g = g
  walks_unless (Some a) o q h g = h

  walks_publish_to : (o : Plan) (shelf : List Shelf) (l : Shelf) (count : ℕ) → OfDry P o → OfDry P (publish_to o shelf l count)
  walks_publish_to o shelf l count h =
      let kept : Plan = if grows shelf l.group count then keeps o l.held false else o in
      cond_both l.sealed (answers o words.Sealed) (unless (limit shelf l.group (l.held + count)) o kept) (OfDry P)
      (λ _. h)
      (λ _. walks_unless (limit shelf l.group (l.held + count)) o kept h (cond_both (grows shelf l.group count) (keeps o l.held false) o (OfDry P) (λ _. h) (λ _. h)))

  pub walks_published : (o : Plan) (shelf : List Shelf) (g bytes : List ℕ) → OfDry P o → OfDry P (published o shelf g bytes)
  walks_published o shelf g bytes h =
      cond_both (o.node.me == 1) (publish_to o shelf (line_at g shelf) (length bytes)) (answers o words.NotSource) (OfDry P) (λ _. walks_publish_to o shelf (line_at g shelf) (length bytes) h) (λ _. h)

  walks_seal_line : (l : Option Shelf) (o : Plan) → OfDry P o → OfDry P (seal_line o l)
  walks_seal_line None o h = h
  walks_seal_line (Some l) o h = cond_both l.sealed (ignored o) (keeps o l.held true) (OfDry P) (λ _. h) (λ _. h)

  pub walks_sealed_at : (o : Plan) (shelf : List Shelf) (g : List ℕ) → OfDry P o → OfDry P (sealed_at o shelf g)
  walks_sealed_at o shelf g h = cond_both (o.node.me == 1) (seal_line o (line_of g shelf)) (answers o words.NotSource) (OfDry P) (λ _. walks_seal_line (line_of g shelf) o h) (λ _. h)

  pub walks_pulled : (o : Plan) (shelf : List Shelf) (p : ℕ) → Of P o → Of P (pulled o shelf p)
  walks_pulled o shelf p h = cond_both (p == o.node.me) (answers o words.Own) (send o p (bodies.Fetch shelf)) (Of P) (λ _. h) (λ _. k.says o.node o.sends p (bodies.Fetch shelf) tt h)

  -- a chunk that is sent has the bytes of its group
  walks_answers_fetch : (n : Control) (p : ℕ) (have : List Shelf) (l : Option Shelf) (ks : List Group) → P n []
      → P (answers_fetch (begun n) p have l).node (filled (answers_fetch (begun n) p have l).wants ks (answers_fetch (begun n) p have l).sends)
  walks_answers_fetch n p have None ks h = h
  walks_answers_fetch n p have (Some l) ks h =
      let start : ℕ = (line_at l.group have).held in
      let count : ℕ = count_from n.chunk l start in
      let last : Bool = l.sealed && start + count == l.held in
      cond_both (count == 0) None (Some (record { group = l.group; start = start; count = count })) (λ w. P n (filled w ks (sends_chunk (begun n) p l start count).sends))
      (λ _. k.says n [] p (bodies.Chunk l.group start [] last) tt h)
      (λ _. k.says n [] p (bodies.Chunk l.group start (bytes_wanted ks (record { group = l.group; start = start; count = count })) last) tt h)

  pub walks_fetched : (n : Control) (shelf : List Shelf) (p : ℕ) (have : List Shelf) (ks : List Group) → P n []
      → P (fetched (begun n) shelf p have).node (filled (fetched (begun n) shelf p have).wants ks (fetched (begun n) shelf p have).sends)
  walks_fetched n shelf p have ks h = walks_answers_fetch n p have (next_behind n.chunk have shelf) ks h

  -- Chunks

  walks_asks_on : (m : Mode) (p : ℕ) (shelf : List Shelf) (o : Plan) → OfDry P o → OfDry P (asks_on m p shelf o)
  walks_asks_on (modes.Joined q) p shelf o h = cond_both (q == p) (send o p (bodies.Fetch shelf)) o (OfDry P) (λ _. (k.says o.node o.sends p (bodies.Fetch shelf) tt h.0, h.1)) (λ _. h)
  walks_asks_on modes.Idle p shelf o h = h
  walks_asks_on (modes.Asking q) p shelf o h = h
  walks_asks_on modes.Acting p shelf o h = h

  walks_keeps_chunk : (o : Plan) (shelf : List Shelf) (p : ℕ) (l : Shelf) (start end : ℕ) (last : Bool) → OfDry P o → OfDry P (keeps_chunk o shelf p l start end last)
  walks_keeps_chunk o shelf p l start end last h =
      let kept : Plan = keeps o start (adds_seal l end last) in
      let names : List Shelf = with_line (grown_line l end last) shelf in
      cond_both (adds shelf l end last) (asks_on o.node.kept.mode p names kept) (ignored o) (OfDry P) (λ _. walks_asks_on o.node.kept.mode p names kept h) (λ _. h)

  walks_chunk_to : (o : Plan) (shelf : List Shelf) (p : ℕ) (l : Shelf) (start end : ℕ) (last : Bool) → OfDry P o → OfDry P (chunk_to o shelf p l start end last)
  walks_chunk_to o shelf p l start end last h =
      let taken : Plan = keeps_chunk o shelf p l start end last in
      let limited : Plan = unless (limit shelf l.group end) o taken in
      cond_both (nat_lt l.held start) (answers o words.Gap) (if l.sealed && nat_lt l.held end then answers o words.Sealed else limited) (OfDry P)
      (λ _. h)
      (λ _. cond_both (l.sealed && nat_lt l.held end) (answers o words.Sealed) limited (OfDry P)
      (λ _. h) (λ _. walks_unless (limit shelf l.group end) o taken h (walks_keeps_chunk o shelf p l start end last h)))

  pub walks_took_chunk : (o : Plan) (shelf : List Shelf) (p : ℕ) (g : List ℕ) (start : ℕ) (bytes : List ℕ) (last : Bool) → OfDry P o → OfDry P (took_chunk o shelf p g start bytes last)
  walks_took_chunk o shelf p g start bytes last h =
      cond_both (o.node.me == 1) (ignored o) (chunk_to o shelf p (line_at g shelf) start (start + length bytes) last) (OfDry P)
      (λ _. h) (λ _. walks_chunk_to o shelf p (line_at g shelf) start (start + length bytes) last h)
