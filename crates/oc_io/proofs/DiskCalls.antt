-- The effects of the calls of a disk in memory on its view.
use Rattle.std.proofs.Common.{◌≡◌, ◌⊎◌, inl, inr, ⊎_elim, ℕ, ◌+◌, ◌-◌, ◌≤◌, min, max, List, ◌∷◌, ◌++◌, length, take, drop, sym, ◌∙◌, ap, subst, arith, length-append, length-take, length-drop, append_assoc, take-append-drop}
use Rattle.std.proofs.lemmas.List.{take_at, drop_at, drop-drop, length-take-le}
use Rattle.oc_io.specs.DiskView.{IsTorn, Tears, Elapses}
use Rattle.oc_io.specs.Calls.{Call, Wrote, Synced, undone, Fits}
use Rattle.oc_io.specs.DiskPast.{MayLeave, HadLeft}
use Rattle.oc_io.specs.MemDiskView.{MemDiskView, view_of, view_of-consistent, may_leave_seen, wrote, overwritten}

-- a call that adds to the record, and can be undone
elapses-more : (d e : MemDiskView) (call : Call) → e.past ≡ call ∷ d.past → undone call e.bytes ≡ d.bytes → Elapses (view_of d) (view_of e)
elapses-more d e call more back = record {
  later = omega (arith, ap length more);
  nothing_else = λ t c earlier left. ⊎_elim
      (λ now. inr (subst (λ past. MayLeave e.bytes past c) (sym more) now))
      (λ before. inl (subst (λ bytes. HadLeft bytes d.past t c) back before.1))
      (subst (λ past. HadLeft e.bytes past t c) more left);
  keeps = λ t c earlier left. subst (λ past. HadLeft e.bytes past t c) (sym more) (inr (earlier, subst (λ bytes. HadLeft bytes d.past t c) (sym back) left));
}

-- a write that is undone gives the bytes before it
pub undone-overwritten : (bytes : List ℕ) (at : ℕ) (new : List ℕ) → at ≤ length bytes → undone (Wrote at (take (length new) (drop at bytes)) (length new)) (overwritten bytes at new) ≡ bytes
undone-overwritten bytes at new within =
    let front = take at bytes in
    let n = length new in
    let behind = drop (at + n) bytes in
    let front_long : length front ≡ at = length-take-le at bytes within in
    let both_long : length (front ++ new) ≡ at + n = omega (arith, length-append front new) in
    let before : take at (front ++ new ++ behind) ≡ front = ap (λ (l : List ℕ). take at l) (append_assoc front new behind) ∙ take_at front (new ++ behind) at front_long in
    let after : drop (at + n) (front ++ new ++ behind) ≡ behind = drop_at (front ++ new) behind (at + n) both_long in
    let rest : take n (drop at bytes) ++ behind ≡ drop at bytes = ap (λ (l : List ℕ). take n (drop at bytes) ++ l) (sym (drop-drop n at bytes)) ∙ take-append-drop n (drop at bytes) in
    ap (λ (l : List ℕ). l ++ take n (drop at bytes) ++ drop (at + n) (front ++ new ++ behind)) before
    ∙ ap (λ (l : List ℕ). front ++ take n (drop at bytes) ++ l) after
    ∙ append_assoc front (take n (drop at bytes)) behind
    ∙ ap (λ (l : List ℕ). front ++ l) rest
    ∙ take-append-drop at bytes

-- the length of the bytes after a write
pub length-overwritten : (bytes : List ℕ) (at : ℕ) (new : List ℕ) → at ≤ length bytes → length (overwritten bytes at new) ≡ max (length bytes) (at + length new)
length-overwritten bytes at new within =
    omega (arith, length-append (take at bytes ++ new) (drop (at + length new) bytes), length-append (take at bytes) new, length-take-le at bytes within, length-drop (at + length new) bytes)

-- a write that was not torn is one of the torn writes
pub IsTorn-overwritten : (bytes : List ℕ) (at : ℕ) (new : List ℕ) → at ≤ length bytes → IsTorn at (length new) bytes (overwritten bytes at new)
IsTorn-overwritten bytes at new within =
    let front = take at bytes in
    let n = length new in
    let behind = drop (at + n) bytes in
    let front_long : length front ≡ at = length-take-le at bytes within in
    let both_long : length (front ++ new) ≡ at + n = omega (arith, length-append front new) in
    record {
      before = ap (λ (l : List ℕ). take at l) (append_assoc front new behind) ∙ take_at front (new ++ behind) at front_long;
      after = drop_at (front ++ new) behind (at + n) both_long;
      no_shorter = omega (arith, length-overwritten bytes at new within);
      no_longer = omega (arith, length-overwritten bytes at new within);
    }

-- the record fits after a write
pub Fits-overwritten : (bytes : List ℕ) (past : List Call) (at : ℕ) (new : List ℕ) → at ≤ length bytes → Fits bytes past → Fits (overwritten bytes at new) (Wrote at (take (length new) (drop at bytes)) (length new) ∷ past)
Fits-overwritten bytes past at new within fits =
    let long = length-overwritten bytes at new within in
    let over : length (take (length new) (drop at bytes)) ≡ min (length new) (length bytes - at) = length-take (length new) (drop at bytes) ∙ ap (min (length new)) (length-drop at bytes) in (
      record { within = omega (arith, long); fits = omega (arith, over); end = ends (length new) (length bytes) at _ _ within long over },
      subst (λ before. Fits before past) (sym (undone-overwritten bytes at new within)) fits,
    )
  where
    ends : (n size at over long : ℕ) → at ≤ size → long ≡ max size (at + n) → over ≡ min n (size - at) → (over ≡ n) ⊎ (at + n ≡ long)
    ends n size at over long within is_long is_over = grind arith

-- time passes by a write, given the disk after it
pub wrote-time : (d e : MemDiskView) (at : ℕ) (new : List ℕ) → at ≤ length d.bytes → e ≡ wrote d at new → Elapses (view_of d) (view_of e)
wrote-time d e at new within is =
    let call = Wrote at (take (length new) (drop at d.bytes)) (length new) in
    let bytes = ap (λ (x : MemDiskView). x.bytes) is in
    elapses-more d e call (ap (λ (x : MemDiskView). x.past) is) (ap (undone call) bytes ∙ undone-overwritten d.bytes at new within)

-- each image after a write is an earlier one with a torn write
pub wrote-tears : (d e : MemDiskView) (at : ℕ) (new : List ℕ) → at ≤ length d.bytes → e ≡ wrote d at new → Tears at (length new) (view_of d) (view_of e)
wrote-tears d e at new within is c left =
    let before = undone-overwritten d.bytes at new within in
    ⊎_elim
    (λ now. (d.bytes, (view_of-consistent d).reads, subst (λ f. IsTorn at (length new) d.bytes f) (sym now) (IsTorn-overwritten d.bytes at new within)))
    (λ torn. (torn.0, subst (λ bytes. MayLeave bytes d.past torn.0) before torn.1, torn.2))
    (subst (λ (x : MemDiskView). MayLeave x.bytes x.past c) is left)

-- an image after a sync
pub synced-image : (old new : List ℕ) (before after rest : List Call) → new ≡ old → after ≡ Synced ∷ rest → (c : List ℕ) → MayLeave new after c → MayLeave old before c
synced-image old new before after rest same is c left =
    let now : c ≡ new = subst (λ past. MayLeave new past c) is left in
    subst (λ f. MayLeave old before f) (sym (now ∙ same)) (may_leave_seen old before)
