use Rattle.oc_laws_tree.proofs.Reached.{at_reached}
use Rattle.oc_laws_tree.proofs.Settles.{settle_settles, settle_told, settle_keeps_root, settle_lists}
use Rattle.oc_laws_tree.specs.Settling.{SettleSettles, SettleTells, SettleKeepsRoot, SettleLists}
use Rattle.oc_laws_tree.proofs.settling.ready_worlds_settle.Goals as goal

pub returns-clause-settled : goal.returns-clause-settled
returns-clause-settled c = at_reached SettleSettles settle_settles

pub returns-clause-told : goal.returns-clause-told
returns-clause-told c = at_reached SettleTells settle_told

pub returns-clause-root : goal.returns-clause-root
returns-clause-root c = at_reached SettleKeepsRoot settle_keeps_root

pub returns-clause-listed : goal.returns-clause-listed
returns-clause-listed c = at_reached SettleLists settle_lists
