use Rattle.std.proofs.Common.{List, ℕ, [], ◌++◌, get_or, ap, ◌∙◌}
use Rattle.std.specs.Borrow.{Bor}
use Rattle.std.proofs.lemmas.List.{take_all}
use Rattle.oc_http.specs.Parts.{joined}
use Rattle.oc_http.proofs.Parts.{joined_more}
use Rattle.oc_http.proofs.texts.join.Goals as goal

-- a part after the last one
abbrev no_part : Bor (List ℕ)
no_part = record { ref_ptr = (0, 0); now = [] }

pub loop-part-preserved : goal.loop-part-preserved
loop-part-preserved c =
    let parts : List (Bor (List ℕ)) = c.args.parts.now in
    let i : ℕ = c.loop-part.part-index in
    c.in_ok-extend_from_slice.ensures.items ∙ (ap (λ (l : List ℕ). l ++ (get_or parts i no_part).now) c.loop-part.invariant ∙ joined_more parts i no_part c.loop-part-test.true)

pub loop-part-init : goal.loop-part-init
loop-part-init c = c.in_ok-text.ensures.items

-- the text has all parts after the last one
pub returns : goal.returns
returns c = c.loop-part.invariant ∙ ap joined (take_all c.loop-part.part-index c.args.parts.now c.loop-part-test.false)
