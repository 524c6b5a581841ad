use Rattle.oc_wire.proofs.UnderKeys.{believed, sent}
use Rattle.oc_wire.proofs.law.messages_have_macs_under_a_key.Goals as goal

pub returns : goal.returns
returns c = record { believed = believed; sent = sent }
