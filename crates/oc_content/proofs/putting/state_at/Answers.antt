use Rattle.std.proofs.Common.{Option, length, sym, ap, subst, ◌∙◌}
use Rattle.oc_base.specs.declared.shelf.Shelf.{Shelf}
use Rattle.oc_base.specs.declared.named.Lookup.{Lookup}
use Rattle.oc_content.specs.Putting.{group_state}
use Rattle.oc_base.specs.Shelves.{LooksUpLine}
use Rattle.oc_content.proofs.Lines.{line_of-stands, line_of-goes}
use Rattle.oc_content.proofs.putting.state_at.Goals as goal

pub returns-in-Found : goal.returns-in-Found
returns-in-Found c = λ name place.
    let ss = c.args.shelves.now in
    let at = subst (λ (p : Lookup). LooksUpLine ss name p) c.in-Found.is place in
    c.of_line.ensures (length ss) ∙ ap (λ (line : Option Shelf). group_state line (length ss)) (sym (line_of-stands ss name c.in-Found.at c.index-shelves-at.result at c.index-shelves-at.is))

pub returns-in-Free : goal.returns-in-Free
returns-in-Free c = λ name place.
    let ss = c.args.shelves.now in
    let at = subst (λ (p : Lookup). LooksUpLine ss name p) c.in-Free.is place in
    c.absent.ensures ∙ ap (λ (line : Option Shelf). group_state line (length ss)) (sym (line_of-goes ss name c.in-Free.field-0 at))
