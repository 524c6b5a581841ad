use Rattle.oc_place.proofs.Asked.{asked_once, asked_is}
use Rattle.oc_place.proofs.law.each_is_asked_once.Goals as goal

pub returns-clause-once : goal.returns-clause-once
returns-clause-once c = asked_once

pub returns-clause-asked : goal.returns-clause-asked
returns-clause-asked c = asked_is
