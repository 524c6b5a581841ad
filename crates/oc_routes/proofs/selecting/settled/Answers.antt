use Rattle.std.proofs.Common.{sym, subst}
use Rattle.oc_routes.specs.Asks.{IsLawfulAsk}
use Rattle.oc_routes.proofs.Settling.{chosen_lawful}
use Rattle.oc_routes.proofs.selecting.settled.Goals as goal

pub returns-clause-lawful : goal.returns-clause-lawful
returns-clause-lawful c = λ nodes me lawful whole. subst (IsLawfulAsk nodes me) (sym c.with_selection.ensures) (chosen_lawful nodes me c.args.request c.in_ok-selection.selection c.in_ok-selection.ensures.lawful lawful whole)
