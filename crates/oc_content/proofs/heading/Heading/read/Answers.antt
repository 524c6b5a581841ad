use Rattle.std.proofs.Common.{List, ℕ, ◌∷◌, sym, ap, subst, ◌∙◌}
use Rattle.oc_content.specs.Entries.{entry_of}
use Rattle.oc_content.specs.Headings.{IsBehind}
use Rattle.oc_content.proofs.Spelling.{sealed_read}
use Rattle.oc_content.proofs.heading.Heading.read.Goals as goal

pub returns-then-first-eq-SEALED-clause-entry : goal.returns-then-first-eq-SEALED-clause-entry
returns-then-first-eq-SEALED-clause-entry c =
    let rest = c.in_ok-first.rest.now in
    subst (λ (b : List ℕ). IsBehind c.read_fields.result b (entry_of b)) (sym (c.in_ok-first.ensures.cases.0 ∙ ap (λ (x : ℕ). x ∷ rest) c.if-first-eq-SEALED.true)) (sealed_read c.read_fields.result rest c.read_fields.ensures)
