-- The effect of an advance on the bytes taken before it.
use Rattle.std.proofs.Common.{◌≡◌, ℕ, ◌+◌, ◌-◌, ◌≤◌, true, not, None, List, ◌++◌, length, take, drop, sym, ap, ◌∙◌, refl, arith, length-drop}
use Rattle.std.proofs.lemmas.List.{append_assoc, take-take, length-take-le}
use Rattle.std.proofs.Math.Seq.{take-add}
use Rattle.oc_chunked.specs.declared.decoder.Decoder.{Decoder}
use Rattle.oc_chunked.specs.Stages.{DecoderState, in_size, in_chunk, in_trailer, ended, refused, is_final, fault_in, StillWants}
use Rattle.oc_chunked.specs.Views.{stage_of, Advances}
use Rattle.oc_chunked.proofs.Steps.{Takes-then}
use Rattle.oc_chunked.proofs.decoder.Decoder.take.Goals as goal

-- one advance after another
Advances-then : (a b c : Decoder) (x y p q r : List ℕ) → Advances a b x p q → Advances b c y q r → Advances a c (x ++ y) p r
Advances-then a b c x y p q r first second = record {
  content = first.content ++ second.content;
  given = second.given ∙ ap (λ (z : List ℕ). z ++ second.content) first.given ∙ append_assoc p first.content second.content;
  takes = Takes-then (stage_of a) (stage_of b) (stage_of c) x y first.content second.content first.takes second.takes;
}

-- more of a piece is the part taken before and the front of the rest
more_taken : (taken count : ℕ) (piece : List ℕ) → taken + count ≤ length piece → take (taken + count) piece ≡ take taken piece ++ take count (take (length piece - taken) (drop taken piece))
more_taken taken count piece within =
    take-add taken count piece
    ∙ ap (λ (z : List ℕ). take taken piece ++ z) (sym (take-take count (length piece - taken) (drop taken piece) (omega arith)))

-- the length of the rest
rest_long : (taken : ℕ) (piece : List ℕ) → length (take (length piece - taken) (drop taken piece)) ≡ length piece - taken
rest_long taken piece = length-take-le (length piece - taken) (drop taken piece) (omega (arith, length-drop taken piece))

-- a stage that takes more is no refusal
open_fine : (s : DecoderState) → true ≡ not (is_final s) → fault_in s ≡ None
open_fine (in_size line) goes = refl
open_fine (in_chunk left) goes = refl
open_fine (in_trailer front) goes = refl
open_fine ended goes = refl
open_fine (refused fault) goes = cc

-- the bytes still wanted after one step and the next
wants_then : (a b c : DecoderState) (m n : ℕ) → true ≡ not (is_final b) → StillWants a m b → StillWants b n c → StillWants a (m + n) c
wants_then a b c m n goes first second = λ fine.
    let before = first (open_fine b goes) in
    let after = second fine in
    omega (arith, before, after)

pub bytes-preserved : goal.bytes-preserved
bytes-preserved c =
    let step = c.advance-taken.ensures in
    let long = rest_long c.bytes.taken c.args.piece.now in
    let within : c.bytes.taken + c.advance-taken.result ≤ length c.args.piece.now = omega (arith, long, step.within, c.bytes-test.true) in
    record {
      within = within;
      advances = rw (more_taken c.bytes.taken c.advance-taken.result c.args.piece.now within) (Advances-then _ _ _ _ _ _ _ _ c.bytes.invariant.advances step.takes);
      room = omega (arith, long, step.room, c.bytes-test.true);
      wants = wants_then (stage_of c.args.self.now) (stage_of c.bytes.self) (stage_of c.advance-taken.new.self) c.bytes.taken c.advance-taken.result (sym c.if-is_open.true ∙ c.is_open.ensures) c.bytes.invariant.wants step.wants;
    }
