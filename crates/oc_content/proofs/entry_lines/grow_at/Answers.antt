use Rattle.std.proofs.Common.{set, ap, sym, ◌∙◌}
use Rattle.oc_base.specs.declared.shelf.Shelf.{Shelf}
use Rattle.oc_content.specs.Lines.{line_with}
use Rattle.oc_content.proofs.Changes.{changed_is}
use Rattle.oc_content.proofs.entry_lines.grow_at.Goals as goal

pub returns-clause-lines : goal.returns-clause-lines
returns-clause-lines c =
    let ss = c.args.shelves.now.items in
    ap (λ (s : Shelf). set ss c.args.at s) c.grow.ensures
    ∙ sym (changed_is (line_with c.args.heading.now c.args.count) c.args.at ss c.index_mut.result.now c.requires.within c.index_mut.ensures.value)
