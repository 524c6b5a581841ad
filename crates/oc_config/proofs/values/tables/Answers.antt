use Rattle.std.proofs.Common.{Option, Some, List, ap, sym, ◌∙◌, subst}
use Rattle.toml.specs.Data.{Items}
use Rattle.toml.specs.View.{view, items_view}
use Rattle.toml.specs.declared.value.Value.{Value}
use Rattle.oc_config.specs.Values.{GivesTables, tables_in, tables_of}
use Rattle.oc_config.proofs.Faults.{no_tables}
use Rattle.oc_config.proofs.values.tables.Goals as goal

pub returns-in-Some-clause-said : goal.returns-in-Some-clause-said
returns-in-Some-clause-said c =
    let array = sym c.in-Some.ensures ∙ ap (λ (vs : List Value). Some (items_view vs)) (sym c.deref.ensures.value) in
    subst (λ (o : Option Items). GivesTables c.counted_tables.result (tables_of c.args.kind c.args.least c.args.most o) c.args.fault) (sym array) c.counted_tables.ensures.said

pub returns-in-None-clause-said : goal.returns-in-None-clause-said
returns-in-None-clause-said c = no_tables (tables_in c.args.kind c.args.least c.args.most (view c.args.value.now)) c.args.fault (ap (λ (o : Option Items). tables_of c.args.kind c.args.least c.args.most o) (sym c.in-None.ensures))
