-- The end is reached exactly with a chunked text.
use Rattle.std.proofs.Common.{◌≡◌, ◌∙◌, ap}
use Rattle.oc_chunked.specs.Stages.{is_ended}
use Rattle.oc_chunked.proofs.Whole.{ended_tells}
use Rattle.oc_chunked.proofs.unchunker.Unchunker.ended.Goals as goal

pub returns : goal.returns
returns c bytes content taken =
    let e : c.is_ended.result ≡ is_ended c.args.self.now = c.is_ended.ensures ∙ ap is_ended c.self.view_is in
    rw e (ended_tells c.args.self.now bytes content taken)
