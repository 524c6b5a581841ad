use Rattle.oc_node.proofs.Steps.{begun_told}
use Rattle.oc_node.proofs.step.take.Goals as goal

pub check-requires : goal.check-requires
check-requires c = begun_told c.args.step.now.base c.args.step.now.plan c.requires.begun

pub measured-requires : goal.measured-requires
measured-requires c = begun_told c.args.step.now.base c.args.step.now.plan c.requires.begun
