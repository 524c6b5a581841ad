use Rattle.std.proofs.Common.{◌≡◌, ℕ, Option, None, length, sym, ap, subst, ◌∙◌, arith}
use Rattle.oc_base.specs.declared.shelf.Shelf.{Shelf}
use Rattle.oc_content.specs.ContentFile.{fits}
use Rattle.oc_base.specs.Shelves.{LooksUpLine}
use Rattle.oc_base.specs.declared.named.Lookup.{Lookup}
use Rattle.oc_content.proofs.Lines.{stands_within, line_of-stands, line_of-goes}
use Rattle.oc_content.proofs.index.Index.fits.Goals as goal

pub index-requires : goal.index-requires
index-requires c =
    let at = subst (λ (p : Lookup). LooksUpLine c.args.self.now.shelves.items c.args.heading.now.group p) c.in-Found.is c.requires in
    omega (arith, stands_within c.args.self.now.shelves.items c.args.heading.now.group c.in-Found.at at)

pub returns-in-Found : goal.returns-in-Found
returns-in-Found c =
    let ss = c.args.self.now.shelves.items in
    let h = c.args.heading.now in
    let at = subst (λ (p : Lookup). LooksUpLine ss h.group p) c.in-Found.is c.requires in
    c.fits_held.ensures (length ss) ∙ ap (λ (line : Option Shelf). fits line (length ss) h.start c.args.count h.seals) (sym (line_of-stands ss h.group c.in-Found.at c.index.result.now at c.index.ensures))

pub returns-in-Free : goal.returns-in-Free
returns-in-Free c =
    let ss = c.args.self.now.shelves.items in
    let h = c.args.heading.now in
    let at = subst (λ (p : Lookup). LooksUpLine ss h.group p) c.in-Free.is c.requires in
    let groups : c.len.result ≡ length ss = omega arith in
    subst (λ (n : ℕ). c.fits_new.result ≡ fits None n h.start c.args.count h.seals) groups c.fits_new.ensures ∙ (ap (λ (line : Option Shelf). fits line (length ss) h.start c.args.count h.seals) (sym (line_of-goes ss h.group c.in-Free.field-0 at)))
