use Rattle.std.proofs.Common.{sym, subst, ◌∙◌}
use Rattle.oc_config.specs.Changes.{Stays}
use Rattle.oc_config.specs.Reading.{IsConfig}
use Rattle.oc_config.specs.Settings.{Settings}
use Rattle.oc_deeds.proofs.rereading.fitting.Goals as goal

pub returns-in-Ok-clause-lawful : goal.returns-in-Ok-clause-lawful
returns-in-Ok-clause-lawful c =
    let kept = c.a_change_keeps_the_network.ensures c.args.running c.args.old.now c.args.new c.in-Ok.config (sym c.config_change.ensures ∙ c.in-Ok.is) in
    subst (λ (s : Settings). IsConfig s) (sym kept.0) c.requires

pub returns-in-Ok-clause-stays : goal.returns-in-Ok-clause-stays
returns-in-Ok-clause-stays c =
    let kept = c.a_change_keeps_the_network.ensures c.args.running c.args.old.now c.args.new c.in-Ok.config (sym c.config_change.ensures ∙ c.in-Ok.is) in
    subst (λ (s : Settings). Stays c.args.running c.args.old.now s) (sym kept.0) kept.1
