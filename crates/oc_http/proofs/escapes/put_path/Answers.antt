-- The set of bytes that are escaped is the one that is meant.
use Rattle.std.proofs.Common.{refl}
use Rattle.oc_http.proofs.PathTexts.{written}
use Rattle.oc_http.proofs.escapes.put_path.Goals as goal

pub returns : goal.returns
returns c = rw (← written c.args.path.now, c.in_ok-append_to.ensures.ok, c.percent_encode.ensures.text) refl
