-- The bytes that were read ahead, as a commit adds a frame.
use Rattle.std.proofs.Common.{◌≡◌, ◌≢◌, ◌-◌, ◌<◌, ◌≤◌, ◌⊎◌, inl, inr, ℕ, Bool, IsTrue, IsSome, IfSome, IsErrOf, IfOk, IfErr, Result, Ok, Err, List, [], ◌∷◌, ◌++◌, Option, Some, None, length, take, drop, refl, sym, ap, subst, ◌∙◌, arith}
use Rattle.std.proofs.lemmas.Bool.{cases_lt}
use Rattle.std.proofs.lemmas.List.{append-nil, drop-append-le, length-drop, length-take, take-append-le}
use Rattle.std.proofs.lemmas.List.Concat.{flat_map-append}
use Rattle.oc_base.specs.declared.group.Group.{Group}
use Rattle.oc_io.specs.DiskView.{DiskView}
use Rattle.oc_journal.specs.JournalView.{JournalView}
use Rattle.oc_journal.specs.Promises.{ClosesByAppend}
use Rattle.oc_journal.specs.declared.errors.AppendError.{AppendError}
use Rattle.oc_journal.specs.declared.errors.AppendError.TheVariants as appends
use Rattle.oc_content.specs.Aheads.{IsAhead, IsChunkOf}
use Rattle.oc_content.specs.ContentFile.{bytes_in, content_of}
use Rattle.oc_content.specs.ContentView.{IsIndexed, PieceView, content_with}
use Rattle.oc_content.specs.GroupPieces.{piece_for, pieces_for}
use Rattle.oc_content.specs.Promises.{Commits}
use Rattle.oc_content.specs.declared.ahead.Ahead.{Ahead}
use Rattle.oc_content.specs.declared.ahead.Chunk.{Chunk}
use Rattle.oc_content.specs.declared.index.Index.{Index}
use Rattle.oc_content.proofs.ByPieces.{bytes_are_pieces}
use Rattle.oc_content.proofs.Views.{good_frames}

-- frames that may have more after them
abbrev pub Grows : List (List ℕ) → List (List ℕ) → Type 0
Grows old new = (more : List (List ℕ)) × (new ≡ old ++ more)

-- no bytes are the first none of any
no_bytes : (bs all : List ℕ) → length bs ≡ 0 → bs ≡ take (length bs) all
no_bytes [] all none = refl
no_bytes (b ∷ bs) all none = absurd (omega arith)

-- bytes of a group stay where they are as it grows
stay_there : (bs whole more : List ℕ) (start : ℕ) → bs ≡ take (length bs) (drop start whole) → bs ≡ take (length bs) (drop start (whole ++ more))
stay_there bs whole more start are = by_order (cases_lt (length whole) start) where
  short : length bs ≤ length whole - start
  short = omega (arith, ap length are, length-take (length bs) (drop start whole), length-drop start whole)

  by_order : (length whole < start) ⊎ (start ≤ length whole) → bs ≡ take (length bs) (drop start (whole ++ more))
  by_order (inl past) = no_bytes bs (drop start (whole ++ more)) (omega (arith, short))
  by_order (inr within) =
      are ∙ sym (ap (take (length bs)) (drop-append-le start whole more within) ∙ take-append-le (length bs) (drop start whole) more (omega (arith, short, length-drop start whole)))

-- more good frames add to the bytes of a group
bytes_grow : (old new : List (List ℕ)) (g : List ℕ) → IsSome (content_of old) → IsSome (content_of new) → Grows old new → (more : List ℕ) × (bytes_in g new ≡ bytes_in g old ++ more)
bytes_grow old new g old_good new_good grows =
    (pieces_for g grows.0, bytes_are_pieces new g new_good ∙ (ap (pieces_for g) grows.1 ∙ (flat_map-append (piece_for g) old grows.0 ∙ ap (λ (bs : List ℕ). bs ++ pieces_for g grows.0) (sym (bytes_are_pieces old g old_good)))))

-- the bytes that were read ahead are still those of the frames
chunk_stays : (old new : List (List ℕ)) (c : Chunk) → IsSome (content_of old) → IsSome (content_of new) → Grows old new → IsChunkOf old c → IsChunkOf new c
chunk_stays old new c old_good new_good grows are =
    let more = bytes_grow old new c.group old_good new_good grows in
    subst (λ (whole : List ℕ). c.bytes.items ≡ take (length c.bytes.items) (drop c.start whole)) (sym more.1) (stay_there c.bytes.items (bytes_in c.group old) more.0 c.start are)

-- good frames
good_now : {D : Type 0} (view : D → DiskView) (j : JournalView D) (x : Index) → IsIndexed view j x → IsTrue (view j.disk).honest → IsSome (content_of j.frames)
good_now view j x is honest = subst (λ (o : Option (List Group)). IsSome o) (sym (good_frames view j x is honest)) refl

-- a commit adds a frame, or none
pub frames_grow : {D : Type 0} (view : D → DiskView) (j k : JournalView D) (x y : Index) (p : PieceView) (r : Result ℕ AppendError) → IfOk r (λ n. Commits view p n (content_with j x) (content_with k y)) → IfErr r (λ e. e ≢ appends.Disk → k ≡ j) → (IsErrOf r appends.Disk → ClosesByAppend view p.body j k) → IsTrue (view j.disk).honest → Grows j.frames k.frames
frames_grow view j k x y p (Ok n) commits same disk honest = (p.body ∷ [], commits.appends.frames honest)
frames_grow view j k x y p (Err appends.Closed) commits same disk honest = ([], ap (λ i. i.frames) (same (λ other. cc)) ∙ sym (append-nil j.frames))
frames_grow view j k x y p (Err appends.Full) commits same disk honest = ([], ap (λ i. i.frames) (same (λ other. cc)) ∙ sym (append-nil j.frames))
frames_grow view j k x y p (Err appends.Disk) commits same disk honest = ([], (disk refl).frames honest ∙ sym (append-nil j.frames))

-- the bytes that were read ahead, as frames are added
pub ahead_grows : {D : Type 0} (view : D → DiskView) (j k : JournalView D) (x y : Index) (a : Ahead) → IsIndexed view j x → IsIndexed view k y → (view k.disk).honest ≡ (view j.disk).honest → (IsTrue (view j.disk).honest → Grows j.frames k.frames) → IsAhead view j a → IsAhead view k a
ahead_grows view j k x y a is are same grows = by_chunk a.chunk where
  by_chunk : (o : Option Chunk) → IfSome o (λ c. IsTrue (view j.disk).honest → IsChunkOf j.frames c) → IfSome o (λ c. IsTrue (view k.disk).honest → IsChunkOf k.frames c)
  by_chunk None chunk = tt
  by_chunk (Some c) chunk = λ honest.
      let before = subst (λ (b : Bool). IsTrue b) same honest in
      chunk_stays j.frames k.frames c (good_now view j x is before) (good_now view k y are honest) (grows before) (chunk before)
