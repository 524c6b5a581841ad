use Rattle.std.proofs.Common.{Option, Some, List, ap, sym, ◌∙◌, subst}
use Rattle.std.specs.Prelude.{Vec}
use Rattle.std.specs.declared.alloc.Global.{Global}
use Rattle.toml.specs.Data.{Items}
use Rattle.toml.specs.View.{items_view}
use Rattle.toml.specs.declared.value.Value.{Value}
use Rattle.oc_policy.specs.declared.key.Key.{Key}
use Rattle.oc_config.specs.Accepted.{accepted_of}
use Rattle.oc_config.specs.Values.{GivesBy, section_of}
use Rattle.oc_config.proofs.keyring.listed_keys.Goals as goal

pub returns-in-Some-clause-said : goal.returns-in-Some-clause-said
returns-in-Some-clause-said c =
    let array = sym c.in-Some.ensures ∙ ap (λ (vs : List Value). Some (items_view vs)) (sym c.deref.ensures.value) in
    subst (λ (o : Option Items). GivesBy {X = Vec Key Global} (λ v. v.items) c.counted_keys.result (accepted_of (section_of c.args.top.now) o)) (sym array) c.counted_keys.ensures.said
