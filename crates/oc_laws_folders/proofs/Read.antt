-- Each group has a reading.
use Rattle.std.proofs.Common.{◌≡◌, ℕ, zero, suc, ◌+◌, ◌*◌, ◌<◌, ◌≤◌, ◌/◌, Bool, true, false, List, length, refl, sym, ap, ◌∙◌, subst, arith, leb}
use Rattle.std.proofs.Math.Nat.{le-div_iff_mul-le}
use Rattle.std.proofs.lemmas.Bool.{and_parts, leb-true}
use Rattle.oc_folder.specs.declared.state.State.{State}
use Rattle.oc_folder.specs.declared.limits.TheConstants.{BLOCK_BYTES}
use Rattle.oc_folder.specs.Headers.{part}
use Rattle.oc_folder.specs.Reading.{is_read, has_next, next_block, step, read_on, reading, start, IsReading}
use Rattle.oc_folder.proofs.Courses.{step_goes, rests}
use Rattle.oc_folder.proofs.Forward.{block_advances}

-- a block goes on by its own bytes at least
step_far : (bytes : List ℕ) (s : State) → has_next s (length bytes) ≡ true → s.at + 512 ≤ (step bytes s).at
step_far bytes s h =
    let on : s.at + 512 ≤ (next_block s (part s.at BLOCK_BYTES bytes)).at =
    (block_advances s.next (part s.at BLOCK_BYTES bytes) (record s { at = s.at + BLOCK_BYTES })).at in
    subst (λ t. s.at + 512 ≤ t.at) (sym (step_goes bytes s h)) on

-- where a block is still to be looked at, each one before went on
read_far : (turns : ℕ) (bytes : List ℕ) (s : State) → has_next (read_on turns bytes s) (length bytes) ≡ true → s.at + turns * 512 ≤ (read_on turns bytes s).at
unfolding read_on
read_far zero bytes s h = let same : s.at + 0 * 512 ≤ s.at = omega arith in same
read_far (suc turns) bytes s h = by (has_next s (length bytes)) (read_far turns bytes (step bytes s) h) refl
  where
    by : (b : Bool) → (step bytes s).at + turns * 512 ≤ (read_on turns bytes (step bytes s)).at → has_next s (length bytes) ≡ b
        → s.at + suc turns * 512 ≤ (read_on turns bytes (step bytes s)).at
    by true on e =
        let first : s.at + 512 ≤ (step bytes s).at = step_far bytes s e in
        omega (arith, first, on)
    by false on e =
        let here : read_on (suc turns) bytes s ≡ s = rests (suc turns) bytes s e in
        let none : has_next (read_on (suc turns) bytes s) (length bytes) ≡ false = ap (λ t. has_next t (length bytes)) here ∙ e in
        absurd (let no : true ≡ false = sym h ∙ none in cc)

-- more blocks than these do not fit
too_many : (n : ℕ) → n / 512 * 512 + 512 ≤ n → ⊥
too_many n h =
    let some : zero < 512 = omega arith in
    let more : suc (n / 512) * 512 ≤ n = omega (arith, h) in
    let low : suc (n / 512) ≤ n / 512 = (le-div_iff_mul-le {k = 512} {x = suc (n / 512)} {y = n} some).1 more in
    omega (arith, low)

pub reads : (bytes : List ℕ) → IsReading bytes (reading bytes)
unfolding reading
reads bytes = record {
  passes = record { turns = length bytes / BLOCK_BYTES; is = refl };
  done = by (has_next (read_on (length bytes / BLOCK_BYTES) bytes start) (length bytes)) refl;
}
  where
    end : State
    end = read_on (length bytes / 512) bytes start

    by : (b : Bool) → has_next (read_on (length bytes / BLOCK_BYTES) bytes start) (length bytes) ≡ b → b ≡ false
    by false e = refl
    by true e =
        let far : 0 + length bytes / 512 * 512 ≤ end.at = read_far (length bytes / 512) bytes start e in
        let come : end.at + 512 ≤ length bytes =
        leb-true (end.at + 512) (length bytes) (and_parts (is_read end.next) (leb (end.at + 512) (length bytes)) e).1 in
        absurd (too_many (length bytes) (omega (arith, far, come)))
