use Rattle.std.proofs.Common.{◌≡◌, Result, Err, Some, List, ℕ, sym, subst, arith}
use Rattle.std.specs.Prelude.{Vec}
use Rattle.std.specs.declared.alloc.Global.{Global}
use Rattle.oc_policy.specs.declared.key.Key.{Key}
use Rattle.toml.specs.View.{items_view}
use Rattle.oc_config.specs.Accepted.{accepted_of}
use Rattle.oc_config.specs.Values.{GivesBy, section_of}
use Rattle.oc_config.specs.declared.fault.ConfigFault.{ConfigFault}
use Rattle.oc_config.specs.declared.fault.ConfigFault.TheVariants.{Value}
use Rattle.oc_config.specs.declared.config_key.ConfigKey.TheVariants.{Accept}
use Rattle.oc_config.proofs.Spelled.{few_keys, many_keys}
use Rattle.oc_config.proofs.Walks.{gives_fault}
use Rattle.oc_config.proofs.keyring.counted_keys.Goals as goal

pub returns-then-values-gt-MAX_ACCEPTED-clause-said : goal.returns-then-values-gt-MAX_ACCEPTED-clause-said
returns-then-values-gt-MAX_ACCEPTED-clause-said c =
    let s = section_of c.args.top.now in
    let many : accepted_of s (Some (items_view c.args.values.now)) ≡ Err (Value s.place Accept) = many_keys s c.args.values.now (omega (arith, c.if-values-gt-MAX_ACCEPTED.true)) in
    rw c.refuses.ensures (gives_fault {X = Vec Key Global} (λ v. v.items) (accepted_of s (Some (items_view c.args.values.now))) (Value s.place Accept) many)

pub returns-clause-said : goal.returns-clause-said
returns-clause-said c =
    subst (λ (said : Result (List (List ℕ)) ConfigFault). GivesBy {X = Vec Key Global} (λ v. v.items) c.spelled_keys.result said)
    (sym (few_keys (section_of c.args.top.now) c.args.values.now (omega (arith, c.if-values-gt-MAX_ACCEPTED.false))))
    c.spelled_keys.ensures.said
