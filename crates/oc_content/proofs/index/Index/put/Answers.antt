use Rattle.std.proofs.Common.{◌≡◌, ◌++◌, ◌∷◌, [], ℕ, true, length, sym, ap, subst, arith}
use Rattle.oc_base.specs.declared.named.Lookup.{Lookup}
use Rattle.oc_base.specs.Shelves.{line_of, LooksUpLine}
use Rattle.oc_content.specs.ContentFile.{fits, with_entry}
use Rattle.oc_content.specs.Indexes.{IsWithin, IsIndexOf}
use Rattle.oc_content.specs.ContentView.{PieceView}
use Rattle.oc_content.proofs.Adding.{IsIndexOf-add, place_within, end_short}
use Rattle.oc_content.proofs.index.Index.put.Goals as goal

pub add-requires-clause-within : goal.add-requires-clause-within
add-requires-clause-within c =
    let ss = c.args.self.now.shelves.items in
    let p = c.args.piece in
    subst (λ (place : Lookup). IsWithin place (length ss)) (sym (ap (λ (v : PieceView). v.place) c.piece.view_is)) (place_within ss p.entry.group p.place p.entry.start (length p.entry.bytes) p.entry.seals c.requires.place c.requires.fits)

pub overflow_add-result : goal.overflow_add-result
overflow_add-result c =
    let ss = c.args.self.now.shelves.items in
    let p = c.args.piece in
    let short = end_short (line_of p.entry.group ss) (length ss) p.entry.start (length p.entry.bytes) p.entry.seals c.requires.fits in
    omega (arith, short, c.piece.invariant.count_is, ap (λ (v : PieceView). v.entry.start) c.piece.view_is, ap (λ (v : PieceView). length v.entry.bytes) c.piece.view_is)

pub returns-clause-added : goal.returns-clause-added
returns-clause-added c = λ bodies groups honest is number.
    let ss = c.args.self.now.shelves.items in
    let h = c.piece.inside.heading in
    let body = c.piece.inside.frame in
    let count = c.piece.inside.count in
    let place = c.piece.inside.place in
    let many = c.piece.invariant.count_is in
    let at = subst (λ (v : PieceView). LooksUpLine ss v.entry.group v.place) (sym c.piece.view_is) c.requires.place in
    let fit = subst (λ (v : PieceView). fits (line_of v.entry.group ss) (length ss) v.entry.start (length v.entry.bytes) v.entry.seals ≡ true) (sym c.piece.view_is) c.requires.fits in
    let fits_count = subst (λ (n : ℕ). fits (line_of h.group ss) (length ss) h.start n h.seals ≡ true) (sym many) fit in
    subst (λ (v : PieceView). IsIndexOf (bodies ++ v.body ∷ []) (with_entry v.entry groups) c.add.new.self honest) c.piece.view_is
    (IsIndexOf-add bodies groups c.args.self.now c.add.new.self honest h body count c.args.frame place is at fits_count many c.piece.invariant.says number c.add.ensures.lines c.add.ensures.paths)
