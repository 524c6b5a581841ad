use Rattle.std.proofs.Common.{List, ℕ, length, sym, ap, subst}
use Rattle.oc_content.specs.Pieces.{IsPiece}
use Rattle.oc_content.proofs.Spelling.{entry_at-written, bytes_at-written}
use Rattle.oc_content.proofs.piece.Piece.new.Goals as goal

pub invariant_of-result : goal.invariant_of-result
invariant_of-result c =
    let h = c.args.heading in
    let bytes = c.args.bytes.now in
    subst (λ (body : List ℕ). IsPiece body h (length bytes) c.args.track) (sym c.in_ok-framed.ensures) (record {
      says = entry_at-written h bytes c.requires.name c.requires.start c.requires.skip;
      count_is = ap length (sym (bytes_at-written h bytes c.requires.skip));
      empty = c.requires.empty;
    })
