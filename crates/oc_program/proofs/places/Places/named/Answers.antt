use Rattle.std.proofs.Common.{List, ℕ, codes, ap, refl, ◌∙◌}
use Rattle.oc_program.specs.Places.{path_in}
use Rattle.oc_program.proofs.places.Places.named.Goals as goal

pub returns : goal.returns
returns c =
    let folder = c.or_present-folder.ensures in
    record {
      node_is = refl;
      input = c.in_ok-copied.ensures;
      token = c.in_ok-copied-2.ensures;
      folder = c.in_ok-from_str.ensures.ok ∙ folder;
      control = c.in_ok-path_in.ensures ∙ ap (λ (f : List ℕ). path_in f (codes "control.log")) folder;
      alternate = c.in_ok-path_in-2.ensures ∙ ap (λ (f : List ℕ). path_in f (codes "control.alt")) folder;
      content = c.in_ok-path_in-3.ensures ∙ ap (λ (f : List ℕ). path_in f (codes "content.log")) folder;
    }
