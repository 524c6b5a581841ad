use Rattle.std.proofs.Common.{Option, List, ℕ, ap, ◌∙◌}
use Rattle.oc_select.specs.Media.{ending, type_of}
use Rattle.oc_select.proofs.media.media_type.Goals as goal

pub returns-in-Some : goal.returns-in-Some
returns-in-Some c =
    c.type_in.ensures ∙ ap (λ (e : Option (List ℕ)). type_of e) (c.in-Some.ensures ∙ ap (λ (s : List ℕ). ending s) c.last_part.ensures)
