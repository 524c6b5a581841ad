use Rattle.std.proofs.Common.{sym, ◌∙◌}
use Rattle.std.proofs.lemmas.Bool.{eqb-true}
use Rattle.oc_deeds.proofs.MoreNodes.{message_among}
use Rattle.oc_deeds.proofs.reading.message_to.Goals as goal

pub returns-then-eq-clause-lawful : goal.returns-then-eq-clause-lawful
returns-then-eq-clause-lawful c =
    let hearer = c.args.hearer.now in (
      message_among hearer.ids hearer.nodes c.in-Ok.message c.in-Ok.ensures.found.lawful c.requires,
      eqb-true c.in-Ok.message.to hearer.me (sym c.eq.ensures ∙ c.if-eq.true),
    )
