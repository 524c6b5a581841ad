-- The wanted bytes are missing.
use Rattle.std.proofs.Common.{◌≡◌, ◌∙◌, ap}
use Rattle.oc_chunked.specs.Stages.{wanted_at}
use Rattle.oc_chunked.proofs.Wanted.{wanted_missing}
use Rattle.oc_chunked.proofs.unchunker.Unchunker.wanted.Goals as goal

pub returns-clause-surely : goal.returns-clause-surely
returns-clause-surely c bytes given more content first last =
    let e : c.wanted.result ≡ wanted_at c.args.self.now = c.wanted.ensures ∙ ap wanted_at c.self.view_is
    in rw e (wanted_missing c.args.self.now bytes given more content first last)
