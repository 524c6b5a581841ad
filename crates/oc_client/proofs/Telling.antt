-- Lines that are written, one after another.
use Rattle.std.proofs.Common.{◌≡◌, ℕ, ◌+◌, ◌*◌, ◌-◌, ◌≤◌, List, [], ◌++◌, take, drop, sym, ap, ◌∙◌, arith, append_assoc, append-nil}
use Rattle.std.proofs.lemmas.List.{take-append-drop}
use Rattle.oc_client.specs.Lines.{WritesFront, progress_line, lines_after}
use Rattle.oc_client.specs.Metered.{lines_more}
use Rattle.oc_client.specs.declared.progress_lines.TheConstants.{PROGRESS_STEP}
use Rattle.oc_client.proofs.Moving.{front_behind}
use Rattle.oc_link.specs.Calls.{IsFront}

-- the beginning of a text begins each that goes on from it
pub front_of_first : (n : ℕ) (first rest : List ℕ) → IsFront (take n first) (first ++ rest)
front_of_first n first rest =
    (drop n first ++ rest, ap (λ (x : List ℕ). x ++ rest) (sym (take-append-drop n first)) ∙ append_assoc (take n first) (drop n first) rest)

-- the bytes written first, and the beginning of the next
pub fails_behind : {E : Type 0} (takes fails : E → List ℕ → E → Type 0) → ((a b c : E) (x y : List ℕ) → takes a x b → fails b y c → fails a (x ++ y) c) → (a b c : E) (first text : List ℕ) → takes a first b → WritesFront fails b c text → WritesFront fails a c (first ++ text)
fails_behind takes fails then a b c first text went (front, is, broke) = (first ++ front, front_behind first front text is, then a b c first front went broke)

-- a front of a text is one of a longer text
pub fails_of_more : {E : Type 0} (fails : E → List ℕ → E → Type 0) (a c : E) (text rest : List ℕ) → WritesFront fails a c text → WritesFront fails a c (text ++ rest)
fails_of_more fails a c text rest (front, (more, e), broke) = (front, (more ++ rest, ap (λ (x : List ℕ). x ++ rest) e ∙ append_assoc front more rest), broke)

-- one line more
pub line_more : (done at : ℕ) → done ≤ at → lines_after done ((at + 1) - done) ≡ lines_after done (at - done) ++ progress_line ((at + 1) * PROGRESS_STEP)
line_more done at before =
    let many : (at + 1) - done ≡ (at - done) + 1 = omega (arith, before) in
    let place : done + (at - done) ≡ at = omega (arith, before) in
    ap (λ (n : ℕ). lines_after done n) many ∙ lines_more done (at - done) 1 ∙ ap (λ (n : ℕ). lines_after done (at - done) ++ (progress_line ((n + 1) * PROGRESS_STEP) ++ [])) place
    ∙ ap (λ (x : List ℕ). lines_after done (at - done) ++ x) (append-nil (progress_line ((at + 1) * PROGRESS_STEP)))

-- the lines up to here begin those up to there
pub lines_begin : (done at last : ℕ) → done ≤ at → at ≤ last → lines_after done (last - done) ≡ lines_after done (at - done) ++ lines_after at (last - at)
lines_begin done at last first rest =
    let many : last - done ≡ (at - done) + (last - at) = omega (arith, first, rest) in
    let place : done + (at - done) ≡ at = omega (arith, first) in
    ap (λ (n : ℕ). lines_after done n) many ∙ lines_more done (at - done) (last - at) ∙ ap (λ (n : ℕ). lines_after done (at - done) ++ lines_after n (last - at)) place
