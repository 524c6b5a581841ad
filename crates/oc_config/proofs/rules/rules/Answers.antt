use Rattle.std.proofs.Common.{◌+◌, ap, sym, drop, ◌∙◌, arith}
use Rattle.std.proofs.lemmas.Result.{err_from_is_err_and}
use Rattle.oc_config.specs.AccessRules.{rules_from}
use Rattle.oc_config.specs.Values.{sections_of}
use Rattle.oc_config.proofs.Walks.{rule_put, rule_fault, rules_end}
use Rattle.oc_config.proofs.rules.rules.Goals as goal

pub loop-table-init : goal.loop-table-init
loop-table-init c = record {
  rest = ap (λ rules. rules_from rules (sections_of c.args.tables.now)) c.new-rules.ensures.items;
  count = c.new-rules.ensures.len;
}

pub loop-table-preserved : goal.loop-table-preserved
loop-table-preserved c =
    let m = c.loop-table in record {
      rest =
          ap (λ rules. rules_from rules (sections_of (drop (m.table-index + 1) c.args.tables.now))) c.in_ok-push.ensures.items
          ∙ rule_put m.rules.items c.in_ok-rule.field-0 c.args.tables.now m.table-index c.table-item.result c.loop-table-test.true c.table-item.is c.in_ok-rule.ensures
          ∙ m.invariant.rest;
      count = omega (arith, c.in_ok-push.ensures.len, m.invariant.count);
    }

pub returns-in_err-rule-clause-said : goal.returns-in_err-rule-clause-said
returns-in_err-rule-clause-said c =
    let m = c.loop-table in
    let p = err_from_is_err_and c.from_residual.result c.from_residual.ensures.1 in
    rw (p.1, p.2) (rule_fault _ m.rules.items c.in_err-rule.field-0.0 c.args.tables.now m.table-index c.table-item.result c.loop-table-test.true c.table-item.is m.invariant.rest c.in_err-rule.ensures)

pub returns-in_err-push-clause-said : goal.returns-in_err-push-clause-said
returns-in_err-push-clause-said c =
    let p = err_from_is_err_and c.from_residual-in_err-push.result c.from_residual-in_err-push.ensures.1 in
    rw (p.1, p.2) tt

pub returns : goal.returns
returns c =
    let m = c.loop-table in record {
      said = sym m.invariant.rest ∙ sym (rules_end m.rules.items c.args.tables.now m.table-index c.loop-table-test.false);
      count = omega (arith, m.invariant.count, c.loop-table-test.false, m.auto.table-index-end);
    }
