use Rattle.std.proofs.Common.{◌==◌, ap, sym, ◌∙◌, List, ℕ}
use Rattle.oc_select.specs.Media.{last_of}
use Rattle.oc_select.proofs.Parted.{last_after}
use Rattle.oc_select.proofs.media.last_part.Goals as goal

pub parts-preserved : goal.parts-preserved
parts-preserved c =
    let split = rw c.in_default-Some.is-1 at c.cut.ensures.first in
    sym (ap (λ (ps : List (List ℕ)). last_of ps) split ∙ last_after (λ b. b == c.args.separator) c.cut.result.0.now c.in_default-Some.after.now) ∙ c.parts.invariant
