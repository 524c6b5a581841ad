-- The bytes that a crash leaves of a disk in memory are one of its images.
use Rattle.std.proofs.Common.{◌≡◌, ◌⊎◌, inl, inr, ℕ, ◌+◌, ◌≤◌, List, [], ◌∷◌, ◌++◌, length, take, drop, refl, sym, ◌∙◌, ap, arith, length-append, Option, None, Some}
use Rattle.std.proofs.lemmas.List.{take_at, drop_at, length-take-le, append_assoc, drop_all}
use Rattle.oc_io.specs.Calls.{Call, Wrote, Synced, undone, IsWritten, Fits, blotted, crashed}
use Rattle.oc_io.proofs.LogBlots.{length-blotted, take-blotted, drop-blotted, take-blotted_before, drop-blotted_behind, length-undone}
use Rattle.oc_io.specs.DiskView.{IsTorn}
use Rattle.oc_io.specs.DiskPast.{MayLeave}
use Rattle.oc_io.specs.declared.failures.Stop.{Stop}
use Rattle.oc_io.specs.MemDiskView.{may_leave_seen, crash_by}

-- a torn write stays one where the same bytes of both are blotted
IsTorn-blotted : (at n p k byte : ℕ) (d e : List ℕ) → IsTorn at n d e → IsTorn at n (blotted p k byte d) (blotted p k byte e)
IsTorn-blotted at n p k byte d e torn = record {
  before = take-blotted at p k byte e ∙ ap (blotted p k byte) torn.before ∙ sym (take-blotted at p k byte d);
  after = drop-blotted (at + n) p k byte e d torn.after;
  no_shorter = omega (arith, length-blotted p k byte d, length-blotted p k byte e, torn.no_shorter);
  no_longer = omega (arith, length-blotted p k byte d, length-blotted p k byte e, torn.no_longer);
}

-- a torn write stays one after both sides lose their unsynced bytes
IsTorn-crashed : (at n byte : ℕ) (past : List Call) (d e : List ℕ) → IsTorn at n d e → IsTorn at n (crashed byte past d) (crashed byte past e)
IsTorn-crashed at n byte [] d e torn = torn
IsTorn-crashed at n byte (Synced ∷ past) d e torn = torn
IsTorn-crashed at n byte (Wrote p over k ∷ past) d e torn =
    IsTorn-crashed at n byte past (blotted p k byte d) (blotted p k byte e) (IsTorn-blotted at n p k byte d e torn)

-- nothing is past the end of both
past_the_end : (n : ℕ) (a b : List ℕ) → length a ≤ n → length b ≤ n → drop n a ≡ drop n b
past_the_end n a b short_a short_b = drop_all n a short_a ∙ sym (drop_all n b short_b)

-- the bytes with a blot over the range of a write are the bytes before that write, torn
IsTorn-undone : (at n byte : ℕ) (over bytes : List ℕ) → IsWritten at over n bytes → IsTorn at n (undone (Wrote at over n) bytes) (blotted at n byte bytes)
IsTorn-undone at n byte over bytes w =
    let within : at ≤ length bytes = omega (arith, w.within) in
    let long = length-undone at n over bytes w in
    let front_long = length-take-le at bytes within in
    record {
      before = take-blotted_before at n byte bytes ∙ sym (ap (λ (l : List ℕ). take at l) (append_assoc (take at bytes) over (drop (at + n) bytes)) ∙ take_at (take at bytes) (over ++ drop (at + n) bytes) at front_long);
      after = drop-blotted_behind (at + n) at n byte bytes refl ∙ sym (behind w.end);
      no_shorter = omega (arith, length-blotted at n byte bytes, long, w.within, w.fits);
      no_longer = omega (arith, length-blotted at n byte bytes, long, w.within, w.fits, w.end);
    }
  where
    behind : (length over ≡ n) ⊎ (at + n ≡ length bytes) → drop (at + n) (undone (Wrote at over n) bytes) ≡ drop (at + n) bytes
    behind (inl whole) = drop_at (take at bytes ++ over) (drop (at + n) bytes) (at + n) (omega (arith, length-append (take at bytes) over, length-take-le at bytes (omega (arith, w.within))))
    behind (inr end) =
        let long = length-undone at n over bytes w in
        past_the_end (at + n) (undone (Wrote at over n) bytes) bytes (omega (arith, long, w.fits)) (omega arith)

-- the bytes after a crash are one of the images
pub crashed-image : (byte : ℕ) (past : List Call) (bytes : List ℕ) → Fits bytes past → MayLeave bytes past (crashed byte past bytes)
crashed-image byte [] bytes fits = refl
crashed-image byte (Synced ∷ past) bytes fits = refl
crashed-image byte (Wrote at over n ∷ past) bytes fits =
    let before = undone (Wrote at over n) bytes in
    inr (crashed byte past before, crashed-image byte past before fits.1, IsTorn-crashed at n byte past before (blotted at n byte bytes) (IsTorn-undone at n byte over bytes fits.0))

-- the bytes after a crash, with a stop or none, are one of the images
pub crash_by-image : (stop : Option Stop) (past : List Call) (bytes : List ℕ) → Fits bytes past → MayLeave bytes past (crash_by stop past bytes)
crash_by-image None past bytes fits = may_leave_seen bytes past
crash_by-image (Some stop) past bytes fits = crashed-image stop.image past bytes fits
