use Rattle.std.proofs.Common.{◌∙◌, ◌++◌, ap, ap₂}
use Rattle.oc_replay.specs.Lines.{held_text}
use Rattle.oc_replay.specs.Shows.{show_text}
use Rattle.oc_commands.proofs.showing.show.Goals as goal

-- one block after the other
pub returns : goal.returns
returns g c =
    c.in_ok-put.ensures.ok
    ∙ ap₂ (λ front behind. front ++ behind) (c.in_ok-text.ensures ∙ ap (λ s. show_text c.args.id s) c.in_ok-status.ensures)
    (c.deref.ensures.value ∙ (c.in_ok-held.ensures ∙ ap held_text c.shelf.ensures.shelf))
