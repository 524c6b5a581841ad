use Rattle.std.proofs.Common.{sym, subst}
use Rattle.oc_model.specs.Step.{Piece}
use Rattle.oc_keep.specs.Puts.{CanPut}
use Rattle.oc_keep.specs.Writing.{IsPutAs}
use Rattle.oc_keep.proofs.Steps.{put_as}
use Rattle.oc_keep.proofs.writing.piece.Goals as goal

pub returns-in-Ok-clause-piece : goal.returns-in-Ok-clause-piece
returns-in-Ok-clause-piece g c =
    let old = c.args.content.now in
    let can = subst (λ (of : Piece). CanPut old.shelves of c.args.start c.args.closes) c.in-Some.ensures c.requires in
    subst (λ (of : Piece). IsPutAs g.D.Disk.view old.shelves c.prepare.new.self of c.args.start c.args.closes c.in-Ok.piece) (sym c.in-Some.ensures)
    (put_as g.D.Disk.view (λ x sure. g.met.D.Disk.reliable_keeps x sure) old c.prepare.new.self _ c.args.start c.args.closes c.in-Ok.piece can c.prepare.ensures.same c.in-Ok.ensures.prepares)
