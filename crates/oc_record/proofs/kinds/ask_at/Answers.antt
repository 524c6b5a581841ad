use Rattle.std.proofs.Common.{rules}
use Rattle.oc_record.specs.Reading.{ask_at}
use Rattle.oc_record.proofs.kinds.ask_at.Goals as goal

pub returns-in_err-seq : goal.returns-in_err-seq
unfolding ask_at
returns-in_err-seq c = search rules

pub returns-in_err-peer : goal.returns-in_err-peer
unfolding ask_at
returns-in_err-peer c = search rules

pub returns : goal.returns
unfolding ask_at
returns c = search rules
