use Rattle.std.proofs.Common.{◌==◌, Some, ap, sym, ◌∙◌, List, ℕ}
use Rattle.oc_select.specs.Media.{last_of_several}
use Rattle.oc_select.proofs.Parted.{several_after}
use Rattle.oc_select.proofs.media.ending.Goals as goal

pub returns : goal.returns
returns c =
    let split = rw c.in_ok-after.was at c.cut.ensures.first in
    ap (λ (e : List ℕ). Some e) c.last_part.ensures
    ∙ sym (ap (λ (ps : List (List ℕ)). last_of_several ps) split ∙ several_after (λ b. b == 46) c.cut.result.0.now c.in_ok-after.field-0.now)
