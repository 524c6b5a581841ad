use Rattle.oc_laws_world.proofs.Passing.{always}
use Rattle.oc_laws_tree.specs.Sessions.{CheckInsAreNumbered, AcksAnswer, AskersAreNew, CheckInsTell, AcksAreKnown, AckedAreWithin}
use Rattle.oc_laws_tree.proofs.SessionsCovered.{check_ins_numbered, acks_answer, askers_new, acked_within}
use Rattle.oc_laws_tree.proofs.Together.{all_throughout, all_check_ins_tell, all_acks_known}
use Rattle.oc_laws_tree.proofs.sessions.acknowledged_facts_are_known.Goals as goal

pub returns-clause-numbered : goal.returns-clause-numbered
returns-clause-numbered c = always CheckInsAreNumbered (all_throughout CheckInsAreNumbered (λ w holds. check_ins_numbered w holds.sessions))

pub returns-clause-answered : goal.returns-clause-answered
returns-clause-answered c = always AcksAnswer (all_throughout AcksAnswer (λ w holds. acks_answer w holds.sessions))

pub returns-clause-askers : goal.returns-clause-askers
returns-clause-askers c = always AskersAreNew (all_throughout AskersAreNew (λ w holds. askers_new w holds.sessions))

pub returns-clause-told : goal.returns-clause-told
returns-clause-told c = always CheckInsTell (all_throughout CheckInsTell all_check_ins_tell)

pub returns-clause-known : goal.returns-clause-known
returns-clause-known c = always AcksAreKnown (all_throughout AcksAreKnown all_acks_known)

pub returns-clause-within : goal.returns-clause-within
returns-clause-within c = always AckedAreWithin (all_throughout AckedAreWithin (λ w holds. acked_within w holds.sessions))
