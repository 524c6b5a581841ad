use Rattle.oc_record.proofs.Frames.{quashed}
use Rattle.oc_record.proofs.quash.what_is_no_news_goes_no_further.Goals as goal

pub returns : goal.returns
returns c = quashed
