use Rattle.oc_select.proofs.Tagged.{tag_tells}
use Rattle.oc_select.proofs.law.a_tag_tells_the_bytes.Goals as goal

pub returns : goal.returns
returns c = tag_tells
