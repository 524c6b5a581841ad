use Rattle.std.specs.List.{AllByRecursion}
use Rattle.oc_model.specs.Lawful.{IsInput}
use Rattle.node_cases.proofs.node.trials.inputs_in.Given as goal

abbrev pub invariant-loop : goal.invariant-loop
invariant-loop l = AllByRecursion (IsInput 3 l.me) l.inputs.items
