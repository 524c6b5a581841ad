-- The parts of the bytes that came, after a head that was taken of them.
use Rattle.std.proofs.Common.{◌≡◌, ℕ, ◌-◌, true, List, [], ◌++◌, length, take, drop, refl, sym, ap, ◌∙◌, arith}
use Rattle.std.proofs.Math.Seq.{drop-append_seam}
use Rattle.std.proofs.lemmas.List.{append-nil, length-append, length-drop, take-append-drop, take_all}
use Rattle.oc_io.specs.Tally.{counted}
use Rattle.oc_link.specs.ArrivedView.{ArrivedView, FailsBehind, GivesFront, arrived}
use Rattle.oc_link.specs.Failures.{has_failed}
use Rattle.oc_link.specs.declared.event.Coming.{Coming}

-- the rest of the bytes, with the same end
abbrev pub left : List ℕ → Coming → ArrivedView
left bytes coming = record { left = bytes; fails = has_failed coming; faults = 0 }

-- all bytes came
pub all_came : (bytes : List ℕ) (coming : Coming) → GivesFront (arrived bytes coming) bytes (left [] coming)
all_came bytes coming = record { front = sym (append-nil bytes); fails = refl; faults = refl }

-- the first n bytes came
pub first_came : (n : ℕ) (bytes : List ℕ) (coming : Coming) → GivesFront (arrived bytes coming) (take n bytes) (left (drop n bytes) coming)
first_came n bytes coming = record { front = sym (take-append-drop n bytes); fails = refl; faults = refl }

-- all bytes came before a call failed
pub all_failed : (bytes : List ℕ) (coming : Coming) → has_failed coming ≡ true → FailsBehind (arrived bytes coming) bytes (record { left = []; fails = has_failed coming; faults = counted 0 })
all_failed bytes coming failed = record { whole = refl; none = refl; fails = failed; same = refl; faults = refl }

-- a slice from a place to the end
to_end : (k : ℕ) (bytes : List ℕ) → take (length bytes - k) (drop k bytes) ≡ drop k bytes
to_end k bytes = take_all (length bytes - k) (drop k bytes) (omega (arith, length-drop k bytes))

-- the source from which a head was taken is one of the bytes that are left
pub rest_is : (bytes head : List ℕ) (coming : Coming) (after : ArrivedView) (count : ℕ) → GivesFront (arrived bytes coming) head after → count ≡ length after.left
    → arrived (take (length bytes - (length bytes - count)) (drop (length bytes - count) bytes)) coming ≡ after
rest_is bytes head coming after count gives is =
    let long : length bytes ≡ length (head ++ after.left) = ap (λ (l : List ℕ). length l) gives.front in
    let place : length bytes - count ≡ length head = omega (arith, long, length-append head after.left, is) in
    let rest : drop (length bytes - count) bytes ≡ after.left = ap (λ (n : ℕ). drop n bytes) place ∙ ap (λ (l : List ℕ). drop (length head) l) gives.front ∙ drop-append_seam head after.left in
    rw (to_end (length bytes - count) bytes ∙ rest, gives.fails, gives.faults)
