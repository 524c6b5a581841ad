use Rattle.node_cases.proofs.node.acts.act_in.Goals as goal

pub returns-in-Do : goal.returns-in-Do
returns-in-Do g c = c.input_of.ensures c.args.me
