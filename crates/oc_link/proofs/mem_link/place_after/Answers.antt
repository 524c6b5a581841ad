use Rattle.std.proofs.Common.{sym}
use Rattle.std.proofs.lemmas.List.{drop-drop}
use Rattle.oc_link.proofs.mem_link.place_after.Goals as goal

pub returns-then-at-script-clause-rest : goal.returns-then-at-script-clause-rest
returns-then-at-script-clause-rest c = sym (drop-drop 1 c.args.at c.args.script.now)
