use Rattle.oc_node.proofs.Steps.{begun_told, begun_table, begun_log}
use Rattle.oc_node.proofs.step.receive.Goals as goal

pub sees-requires : goal.sees-requires
sees-requires c = begun_told c.args.step.now.base c.args.step.now.plan c.requires.begun

pub asked-requires-clause-table : goal.asked-requires-clause-table
asked-requires-clause-table c = begun_table c.args.step.now.base c.args.step.now.plan c.requires.begun

pub took_ack-requires : goal.took_ack-requires
took_ack-requires c = begun_log c.args.step.now.base c.args.step.now.plan c.requires.begun
