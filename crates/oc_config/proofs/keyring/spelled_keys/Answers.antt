use Rattle.std.proofs.Common.{◌+◌, ap, sym, drop, ◌∙◌, arith, List, ℕ}
use Rattle.std.specs.Prelude.{Vec}
use Rattle.std.specs.declared.alloc.Global.{Global}
use Rattle.std.proofs.lemmas.Result.{err_from_is_err_and}
use Rattle.toml.specs.View.{items_view}
use Rattle.oc_policy.specs.declared.key.Key.{Key}
use Rattle.oc_config.specs.Accepted.{keys_from}
use Rattle.oc_config.specs.Values.{section_of}
use Rattle.oc_config.proofs.Spelled.{key_put, key_fault, keys_end}
use Rattle.oc_config.proofs.keyring.spelled_keys.Goals as goal

pub loop-value-init : goal.loop-value-init
loop-value-init c = record {
  rest = ap (λ keys. keys_from (section_of c.args.top.now) keys (items_view c.args.values.now)) c.new-keys.ensures.items;
  count = c.new-keys.ensures.len;
}

pub loop-value-preserved : goal.loop-value-preserved
loop-value-preserved c =
    let m = c.loop-value in record {
      rest =
          ap (λ keys. keys_from (section_of c.args.top.now) keys (items_view (drop (m.value-index + 1) c.args.values.now))) c.in_ok-push.ensures.items
          ∙ key_put (section_of c.args.top.now) m.keys.items c.in_ok-accepted_key.field-0 c.args.values.now m.value-index c.value-item.result c.loop-value-test.true c.value-item.is c.in_ok-accepted_key.ensures
          ∙ m.invariant.rest;
      count = omega (arith, c.in_ok-push.ensures.len, m.invariant.count);
    }

pub returns-in_err-accepted_key-clause-said : goal.returns-in_err-accepted_key-clause-said
returns-in_err-accepted_key-clause-said c =
    let m = c.loop-value in
    let p = err_from_is_err_and c.from_residual.result c.from_residual.ensures.1 in
    rw (p.1, p.2) (key_fault {X = Vec Key Global} (λ v. v.items) (section_of c.args.top.now) _ m.keys.items c.in_err-accepted_key.field-0.0 c.args.values.now m.value-index c.value-item.result c.loop-value-test.true c.value-item.is m.invariant.rest c.in_err-accepted_key.ensures)

pub returns-in_err-push-clause-said : goal.returns-in_err-push-clause-said
returns-in_err-push-clause-said c =
    let p = err_from_is_err_and c.from_residual-in_err-push.result c.from_residual-in_err-push.ensures.1 in
    rw (p.1, p.2) tt

pub returns : goal.returns
returns c =
    let m = c.loop-value in record {
      said = sym m.invariant.rest ∙ sym (keys_end (section_of c.args.top.now) m.keys.items c.args.values.now m.value-index c.loop-value-test.false);
      count = omega (arith, m.invariant.count, c.loop-value-test.false, m.auto.value-index-end);
    }
