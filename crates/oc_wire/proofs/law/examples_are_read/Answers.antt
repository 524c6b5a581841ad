use Rattle.std.proofs.Common.{refl}
use Rattle.oc_base.specs.Reading.{within_at, flag_at}
use Rattle.oc_wire.specs.FieldReading.{rank_or_none_at, refusal_with, refusal_at, ask_at, no_at}
use Rattle.oc_wire.specs.MessageReading.{body_at, decoded}
use Rattle.oc_wire.proofs.law.examples_are_read.Goals as goal

pub returns-clause-ask : goal.returns-clause-ask
unfolding within_at flag_at rank_or_none_at ask_at body_at decoded
returns-clause-ask c = refl

pub returns-clause-refusal : goal.returns-clause-refusal
unfolding within_at refusal_with refusal_at no_at body_at decoded
returns-clause-refusal c = refl

pub returns-clause-stranger : goal.returns-clause-stranger
unfolding decoded
returns-clause-stranger c = refl

pub returns-clause-kind : goal.returns-clause-kind
unfolding body_at decoded
returns-clause-kind c = refl

pub returns-clause-trailing : goal.returns-clause-trailing
unfolding body_at decoded
returns-clause-trailing c = refl

pub returns-clause-cut : goal.returns-clause-cut
unfolding decoded
returns-clause-cut c = refl
