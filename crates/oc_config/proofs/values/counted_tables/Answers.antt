use Rattle.std.proofs.Common.{Option, Some, List, sym, subst, arith}
use Rattle.toml.specs.View.{items_view}
use Rattle.oc_config.specs.Values.{Section, GivesTables, tables_of}
use Rattle.oc_config.proofs.Faults.{no_tables}
use Rattle.oc_config.proofs.Tables.{tables_found, too_few, too_many}
use Rattle.oc_config.proofs.values.counted_tables.Goals as goal

pub returns-then-count-least-clause-said : goal.returns-then-count-least-clause-said
returns-then-count-least-clause-said c =
    let vs = c.args.values.now in
    no_tables (tables_of c.args.kind c.args.least c.args.most (Some (items_view vs))) c.args.fault (too_few c.args.kind c.args.least c.args.most vs (omega (arith, c.if-count-least.true)))

pub returns-then-most-count-clause-said : goal.returns-then-most-count-clause-said
returns-then-most-count-clause-said c =
    let vs = c.args.values.now in
    no_tables (tables_of c.args.kind c.args.least c.args.most (Some (items_view vs))) c.args.fault (too_many c.args.kind c.args.least c.args.most vs (omega (arith, c.if-most-count.true)))

pub returns-clause-said : goal.returns-clause-said
returns-clause-said c =
    let vs = c.args.values.now in
    subst (λ (o : Option (List Section)). GivesTables c.all_tables.result o c.args.fault)
    (sym (tables_found c.args.kind c.args.least c.args.most vs (omega (arith, c.if-count-least.false)) (omega (arith, c.if-most-count.false))))
    c.all_tables.ensures.said
