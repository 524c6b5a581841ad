-- No bytes lead to the beginning.
use Rattle.std.proofs.Common.{[], subst, sym}
use Rattle.oc_chunked.specs.Stages.{DecoderState}
use Rattle.oc_chunked.specs.Taken.{IsTaken}
use Rattle.oc_chunked.proofs.Steps.{nothing_taken}
use Rattle.oc_chunked.proofs.unchunker.Unchunker.new.Goals as goal

pub returns : goal.returns
returns c = subst (λ (s : DecoderState). IsTaken [] [] s) (sym c.in_ok-new.ensures) nothing_taken
