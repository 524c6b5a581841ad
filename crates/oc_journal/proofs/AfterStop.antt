-- The frame after the calls that append it were stopped.
use Rattle.std.proofs.Common.{◌≡◌, ◌≢◌, inl, inr, ℕ, ◌+◌, ◌-◌, ◌≤◌, Option, None, Some, IsSome, List, [], ◌∷◌, ◌++◌, length, drop, refl, sym, ◌∙◌, ap, subst, arith, length-append}
use Rattle.std.proofs.lemmas.Bool.{cases_eq}
use Rattle.std.proofs.lemmas.Bool.Decides.{nat_tests}
use Rattle.oc_base.specs.declared.limits.TheConstants.{MAX_FRAME_BYTES}
use Rattle.oc_io.specs.DiskView.{IsTorn}
use Rattle.oc_io.specs.Calls.{Call, blotted, crashed}
use Rattle.oc_io.specs.DiskPast.{MayLeave}
use Rattle.oc_io.specs.Failing.{passed}
use Rattle.oc_io.specs.MemDiskView.{MemDiskView, view_of, refused, wrote, synced, crash_of, crash_by, disk_of}
use Rattle.oc_io.specs.declared.failures.Stop.{Stop}
use Rattle.oc_io.proofs.DiskCalls.{wrote-tears}
use Rattle.oc_io.proofs.LogBlots.{blotted-is}
use Rattle.oc_journal.specs.JournalFile.{magic, frames_of, encoded, blocks, IsJournalOf}
use Rattle.oc_journal.specs.JournalView.{IsSettled}
use Rattle.oc_journal.specs.Stopped.{frames_after, left_of, image_of, IsCut, before, between}
use Rattle.oc_journal.proofs.Blocks.{journal_of}
use Rattle.oc_journal.proofs.Steps.{IsStaged, written_behind, written_gate, opened, written_byte, front_of, back_of, EndsAt-within, EndsAt-same_front, EndsAt-staged}

-- the stop after a call, and after three
left_of-passed : (stop : Option Stop) → left_of (passed stop) ≡ left_of stop - 1
left_of-passed None = refl
left_of-passed (Some stop) = refl

-- a crash after three calls leaves the byte of the stop
crash_by-passed : (stop : Option Stop) (past : List Call) (bytes : List ℕ) → IsSome stop → crash_by (passed (passed (passed stop))) past bytes ≡ crashed (image_of stop) past bytes
crash_by-passed None past bytes some = absurd (no_stop some)
  where
    no_stop : IsSome {T = Stop} None → ⊥
    no_stop is = cc
crash_by-passed (Some stop) past bytes some = refl

-- one byte of a list with such parts was blotted
blotted_byte : (file p q : List ℕ) (x n byte : ℕ) → length p ≡ n → file ≡ p ++ (x ∷ q) → blotted n 1 byte file ≡ p ++ (byte ∷ q)
blotted_byte file p q x n byte long is =
    ap (blotted n 1 byte) is
    ∙ blotted-is n 1 byte (p ++ (x ∷ q)) (omega (arith, length-append p (x ∷ q)))
    ∙ ap (λ (l : List ℕ). l ++ (byte ∷ drop (n + 1) (p ++ (x ∷ q)))) (front_of p q x n long)
    ∙ ap (λ (l : List ℕ). p ++ (byte ∷ l)) (back_of p q x n long)

-- a frame is appended to a settled disk with a stop
module _ (d : MemDiskView) (end : ℕ) (body : List ℕ) (settled : IsSettled (view_of d) end) (short : length body ≤ MAX_FRAME_BYTES) (some : IsSome d.failing.stop) where
  abbrev frames : List (List ℕ)
  frames = frames_of d.bytes

  abbrev base : List ℕ
  base = magic ++ blocks frames

  abbrev kept : List (List ℕ)
  kept = frames_after (left_of d.failing.stop) (image_of d.failing.stop) frames body

  within : end + 1 ≤ length d.bytes
  within = omega (arith, EndsAt-within d.bytes frames end settled.ends)

  -- with this many calls
  kept_at : (k : ℕ) (r : List ℕ) → left_of d.failing.stop ≡ k → IsJournalOf (frames_after k (image_of d.failing.stop) frames body) r → IsJournalOf kept r
  kept_at k r is left = subst (λ (n : ℕ). IsJournalOf (frames_after n (image_of d.failing.stop) frames body) r) (sym is) left

  -- cut short before the frame is whole after the gate
  pub cut_behind : (e : MemDiskView) (r : List ℕ) → IsCut d (end + 1) (encoded body) e → MayLeave e.bytes e.past r → IsJournalOf kept r
  cut_behind e r (before none is) left =
      let image = subst (λ (x : MemDiskView). MayLeave x.bytes x.past r) is left in
      kept_at 0 r none (subst (IsJournalOf frames) (sym (settled.safe r image)) (journal_of d.bytes frames end settled.ends))
  cut_behind e r (between one is) left =
      let image = subst (λ (x : MemDiskView). MayLeave x.bytes x.past r) is left in
      let torn = wrote-tears d (wrote d (end + 1) (encoded body)) (end + 1) (encoded body) within refl r image in
      let from = subst (λ (f : List ℕ). IsTorn (end + 1) (length (encoded body)) f r) (settled.safe torn.0 torn.1) torn.2 in
      kept_at 1 r one (journal_of r frames end (EndsAt-same_front d.bytes r frames end settled.ends from.before))

  -- the disk with the frame after the gate, all bytes durable
  abbrev behind : MemDiskView
  behind = synced (wrote d (end + 1) (encoded body))

  staged : IsStaged behind.bytes frames end body
  staged = written_behind d.bytes behind.bytes frames end body settled.ends refl

  left_behind : left_of behind.failing.stop ≡ left_of d.failing.stop - 2
  left_behind = omega (arith, left_of-passed (passed d.failing.stop), left_of-passed d.failing.stop)

  -- the disk with the gate open
  abbrev gated : MemDiskView
  gated = wrote behind end (1 ∷ [])

  gated_parts : gated.bytes ≡ base ++ (1 ∷ (encoded body ++ staged.stale))
  gated_parts = written_byte gated.bytes behind.bytes base (encoded body ++ staged.stale) staged.gate 1 end (sym staged.end) staged.parts refl

  -- the byte of the image is in the gate
  gate_image : (r : List ℕ) → r ≡ base ++ (image_of d.failing.stop ∷ (encoded body ++ staged.stale)) → IsJournalOf (frames_after 3 (image_of d.failing.stop) frames body) r
  gate_image r parts = elim (cases_eq (image_of d.failing.stop) 1) [
    | inl is_open ↦
        subst (λ (i : ℕ). IsJournalOf (frames_after 3 i frames body) r) (sym is_open)
        (journal_of r (frames ++ body ∷ []) (end + 5 + length body) (opened r frames end (image_of d.failing.stop) body staged.stale is_open parts staged.end staged.short (omega arith)))
    | inr shut ↦
        subst (λ (fs : List (List ℕ)). IsJournalOf fs r) (sym (not_opened (image_of d.failing.stop) shut))
        (journal_of r frames end (record { gate = image_of d.failing.stop; stale = encoded body ++ staged.stale; parts = parts; shut = shut; end = staged.end; short = staged.short }))
  ]
    where
      not_opened : (i : ℕ) → i ≢ 1 → frames_after 3 i frames body ≡ frames
      not_opened i shut = grind (arith, nat_tests)

  -- cut short before the gate is safely open
  pub cut_gate : (m e r : MemDiskView) → 2 ≤ left_of d.failing.stop → m ≡ behind → IsCut m end (1 ∷ []) e → r ≡ disk_of (crash_of e) → MayLeave e.bytes e.past r.bytes → IsJournalOf kept r.bytes
  cut_gate m e r two same (before none is) crash left =
      let image = subst (λ (x : MemDiskView). MayLeave x.bytes x.past r.bytes) (is ∙ ap refused same) left in
      kept_at 2 r.bytes (omega (arith, left_behind, ap (λ (x : MemDiskView). left_of x.failing.stop) same))
      (subst (IsJournalOf frames) (sym image) (journal_of behind.bytes frames end (EndsAt-staged behind.bytes frames end body staged)))
  cut_gate m e r two same (between one is) crash left =
      let there : r.bytes ≡ crash_of (refused gated) = ap (λ (x : MemDiskView). x.bytes) crash ∙ ap crash_of (is ∙ ap (λ (x : MemDiskView). refused (wrote x end (1 ∷ []))) same) in
      let parts : r.bytes ≡ base ++ (image_of d.failing.stop ∷ (encoded body ++ staged.stale)) = there ∙ crash_by-passed d.failing.stop gated.past gated.bytes some ∙ blotted_byte gated.bytes base (encoded body ++ staged.stale) 1 end (image_of d.failing.stop) (sym staged.end) gated_parts in
      kept_at 3 r.bytes (omega (arith, left_behind, ap (λ (x : MemDiskView). left_of x.failing.stop) same)) (gate_image r.bytes parts)

  -- all four calls
  pub not_cut : (m e : MemDiskView) (r : List ℕ) → left_of d.failing.stop ≤ 4 → 2 ≤ left_of d.failing.stop → m ≡ behind → 2 ≤ left_of m.failing.stop → e ≡ synced (wrote m end (1 ∷ [])) → MayLeave e.bytes e.past r → IsJournalOf kept r
  not_cut m e r four two same more is left =
      let image : r ≡ gated.bytes = subst (λ (x : MemDiskView). MayLeave x.bytes x.past r) (is ∙ ap (λ (x : MemDiskView). synced (wrote x end (1 ∷ []))) same) left in
      kept_at 4 r (omega (arith, left_behind, ap (λ (x : MemDiskView). left_of x.failing.stop) same))
      (subst (IsJournalOf (frames ++ body ∷ [])) (sym image)
      (journal_of gated.bytes (frames ++ body ∷ []) (end + 5 + length body) (written_gate behind.bytes gated.bytes frames end body staged (omega arith) refl)))
