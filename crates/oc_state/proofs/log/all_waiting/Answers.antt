use Rattle.std.proofs.Common.{rules, tests, arith}
use Rattle.oc_state.proofs.Waiting.{all_are_taken}
use Rattle.oc_state.proofs.log.all_waiting.Goals as goal

pub returns : goal.returns
returns c = search (tests, rules, arith, all_are_taken)
