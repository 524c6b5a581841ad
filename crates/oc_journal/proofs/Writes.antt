-- The effect of the writes of a journal on a durable disk.
use Rattle.std.proofs.Common.{◌≡◌, inl, ℕ, ◌+◌, ◌<◌, ◌≤◌, ◌^◌, List, [], ◌∷◌, ◌++◌, length, take, drop, sym, ◌∙◌, ap, subst, arith, Result, Ok, Err, OnOk}
use Rattle.std.proofs.lemmas.List.{drop_all}
use Rattle.oc_base.specs.declared.limits.TheConstants.{MAX_FRAME_BYTES}
use Rattle.oc_io.specs.DiskView.{DiskView, Holds, IsTorn, IsSafe, LeavesOnly, IsConsistent}
use Rattle.oc_io.proofs.DiskMoments.{LeavesOnly-now}
use Rattle.oc_journal.specs.JournalFile.{magic, header, frames_of, encoded, blocks, EndsAt, IsBeforeOrAfter, IsAllOrNone}
use Rattle.oc_journal.specs.JournalView.{IsSettled, IsLikeAnImage}
use Rattle.oc_journal.proofs.Blocks.{frames_of-ended}
use Rattle.oc_journal.proofs.Steps.{torn_behind, written_behind, torn_gate, written_gate, torn_first_gate, written_first_gate, torn_header, frames_of-small, IsStaged, body_there, opened_parts}

-- two facts after Ok
pub both : {T E P Q R : Type 0} → (r : Result T E) → (P → Q → R) → OnOk r P → OnOk r Q → OnOk r R
both (Ok x) f p q = f p q
both (Err e) f p q = tt

-- both facts, if the result is Ok
pub ok_pair : {T E : Type 0} → (P Q : Type 0) → (r : Result T E) → OnOk r P → OnOk r Q → OnOk r (P × Q)
ok_pair P Q (Ok x) p q = (p, q)
ok_pair P Q (Err e) p q = tt

-- a settled disk is told by where its frames end
pub IsSettled-from : (v : DiskView) (bodies : List (List ℕ)) (offset : ℕ) → EndsAt v.seen bodies offset → IsSafe v → IsSettled v offset
IsSettled-from v bodies offset e safe = record {
  ends = subst (λ (fs : List (List ℕ)). EndsAt v.seen fs offset) (sym (frames_of-ended v.seen bodies offset e)) e;
  safe = safe;
}

-- The first gate of a settled file with frames is closed.
module _ (v w : DiskView) (end : ℕ) (settled : IsSettled v end) (some : 0 < length (frames_of v.seen)) where
  pub closing_torn : (c : List ℕ) → IsTorn 8 1 v.seen c → IsAllOrNone (frames_of v.seen) c
  closing_torn c torn = torn_first_gate v.seen c (frames_of v.seen) end some settled.ends torn

  pub closing_ends : Holds v.seen 8 (0 ∷ []) w.seen → EndsAt w.seen [] 8
  closing_ends holds = written_first_gate v.seen w.seen (frames_of v.seen) end some settled.ends holds

-- A new file gets its header.
module _ (v w : DiskView) (small : length v.seen ≤ 9) where
  -- each image has no frame, as the file that a read gave
  pub header_torn : IsConsistent v → (c : List ℕ) → IsTorn 0 9 v.seen c → IsLikeAnImage v c
  header_torn law c torn = (v.seen, law.reads, torn_header v.seen c small torn ∙ sym (frames_of-small v.seen small))

  pub header_seen : Holds v.seen 0 header w.seen → w.seen ≡ header
  header_seen holds = holds ∙ ap (λ (l : List ℕ). header ++ l) (drop_all 9 v.seen small)

-- the bytes that a read gives after a write, complete or torn
pub torn_seen : (v w : DiskView) (at n : ℕ) → LeavesOnly v w (IsTorn at n v.seen) → IsConsistent w → IsTorn at n v.seen w.seen
torn_seen v w at n run law = LeavesOnly-now v w (IsTorn at n v.seen) run law w.seen law.reads

-- A frame is written after the gate at the end of a settled file, and the gate is opened.
module _ (v m w : DiskView) (end : ℕ) (body : List ℕ) (settled : IsSettled v end) (short : length body ≤ MAX_FRAME_BYTES) where
  abbrev frames : List (List ℕ)
  frames = frames_of v.seen

  fits : length body < 2 ^ 32
  fits = omega arith

  -- any write after the gate
  pub behind_torn : (n : ℕ) (c : List ℕ) → IsTorn (end + 1) n v.seen c → IsBeforeOrAfter frames body c
  behind_torn n c torn = inl (torn_behind v.seen c frames end n settled.ends torn)

  pub staged : Holds v.seen (end + 1) (encoded body) m.seen → IsStaged m.seen frames end body
  staged holds = written_behind v.seen m.seen frames end body settled.ends holds

  pub gate_torn : Holds v.seen (end + 1) (encoded body) m.seen → (c : List ℕ) → IsTorn end 1 m.seen c → IsBeforeOrAfter frames body c
  gate_torn holds c torn = torn_gate m.seen c frames end body (staged holds) fits torn

  pub gate_ends : Holds v.seen (end + 1) (encoded body) m.seen → Holds m.seen end (1 ∷ []) w.seen → EndsAt w.seen (frames ++ body ∷ []) (end + 5 + length body)
  gate_ends behind gate = written_gate m.seen w.seen frames end body (staged behind) fits gate

  -- the body is after its gate and its length
  pub gate_body : Holds v.seen (end + 1) (encoded body) m.seen → Holds m.seen end (1 ∷ []) w.seen → take (length body) (drop (end + 5) w.seen) ≡ body
  gate_body behind gate = body_there w.seen (magic ++ blocks frames) body (0 ∷ (staged behind).stale) end 1 (sym (staged behind).end) (opened_parts m.seen w.seen frames end body (staged behind) gate)
