use Rattle.oc_laws_world.proofs.Passing.{always}
use Rattle.oc_laws_world.specs.Numbers.{HaveOnePeer, AskNumbersAreBelow}
use Rattle.oc_laws_world.proofs.NumbersKept.{numbers_throughout, one_peer, numbers_below}
use Rattle.oc_laws_world.proofs.numbers.ask_numbers_have_one_peer.Goals as goal

pub returns-clause-one_peer : goal.returns-clause-one_peer
returns-clause-one_peer c = always HaveOnePeer (numbers_throughout HaveOnePeer one_peer)

pub returns-clause-below : goal.returns-clause-below
returns-clause-below c = always AskNumbersAreBelow (numbers_throughout AskNumbersAreBelow numbers_below)
