-- The prefix of a piece that leads to a refusal.
use Rattle.std.proofs.Common.{◌∙◌, sym, subst}
use Rattle.oc_chunked.specs.Stages.{DecoderState}
use Rattle.oc_chunked.specs.Taken.{RefusesPiece}
use Rattle.oc_chunked.specs.Views.{stage_of}
use Rattle.oc_chunked.proofs.Steps.{refused_in, refused_piece}
use Rattle.oc_chunked.proofs.unchunker.Unchunker.feed.Goals as goal

pub returns-in-Some-fault-clause-refused : goal.returns-in-Some-fault-clause-refused
returns-in-Some-fault-clause-refused c _ =
    let takes = c.take-taken.ensures.takes in
    let is = refused_in (stage_of c.take-taken.new.self) c.in-Some-fault.fault (sym c.fault-2.ensures ∙ c.in-Some-fault.is) in
    (is, subst (λ (s : DecoderState). RefusesPiece s c.args.piece.now c.in-Some-fault.fault) c.self.view_is (refused_piece _ _ c.args.piece.now takes.content c.take-taken.result c.in-Some-fault.fault is takes.takes))
