use Rattle.std.proofs.Common.{List, ℕ, Bool, ◌<◌, if◌then◌else◌, [], ◌∷◌, ◌++◌, ap, sym, subst, ◌∙◌, option_to_list}
use Rattle.std.specs.List.{range_with_len}
use Rattle.oc_model.specs.Choice.{each_once, below}
use Rattle.oc_place.specs.Once.{with_once}
use Rattle.oc_place.proofs.Once.{once_append, is_past}
use Rattle.oc_place.proofs.order.ask_order.Goals as goal

pub returns-else-me-chain-clause-ok : goal.returns-else-me-chain-clause-ok
returns-else-me-chain-clause-ok c =
    let me = c.args.me in
    let chain = c.args.chain in
    let ancestors = c.args.ancestors.now in
    let out = me ∷ option_to_list c.args.without in
    let past : chain < me = subst (λ (n : ℕ). chain < n) c.me.view_is c.if-me-chain.false in
    c.put_chain.ensures
    ∙ ap (λ (l : List ℕ). with_once out l (range_with_len 1 chain)) (c.put_all.ensures.items ∙ ap (λ (l : List ℕ). with_once out l ancestors) c.clear.ensures.items)
    ∙ once_append out [] ancestors (range_with_len 1 chain)
    ∙ ap (λ (b : Bool). each_once out (if b then below me else ancestors ++ range_with_len 1 chain)) (sym (is_past me chain past))
