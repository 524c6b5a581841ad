use Rattle.std.proofs.Common.{replicate, arith, ap, ◌∙◌}
use Rattle.std.proofs.lemmas.Grind.{common_steps}
use Rattle.oc_model.specs.declared.reading.Reading.{Reading}
use Rattle.oc_model.specs.Node.{no_reading}
use Rattle.oc_updown.specs.Puts.{last_put}
use Rattle.oc_updown.proofs.Puts.{reading_after, reading_first}
use Rattle.oc_updown.proofs.last_put.what_was_put_last_is_got.Goals as goal

pub returns : goal.returns
returns c nodes puts x low high peers =
    reading_after puts (replicate nodes no_reading) x low (grind (arith, common_steps)) peers
    ∙ ap (λ (r : Reading). last_put x r puts) (reading_first nodes x low high)
