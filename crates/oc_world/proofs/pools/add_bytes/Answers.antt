use Rattle.std.proofs.Common.{◌≡◌, ℕ, List, [], ◌++◌, get_or, slice_set, sym, ap, ◌∙◌}
use Rattle.std.proofs.lemmas.List.{map-set}
use Rattle.oc_content.proofs.Lists.{map_at}
use Rattle.oc_world.specs.declared.pools.Pool.{Pool}
use Rattle.oc_world.specs.Letters.{contents}
use Rattle.oc_world.proofs.pools.add_bytes.Goals as goal

-- only the bytes of this pool are others
pub returns-clause-ok : goal.returns-clause-ok
returns-clause-ok c =
    let pools = c.args.pools.now in
    let at = c.args.at in
    let pool = c.index-pools-at.result in
    let new : Pool = record { group = (get_or pools at pool).group; bytes = c.append.new.self } in
    let here : get_or (contents pools) at [] ≡ (get_or pools at pool).bytes = map_at (λ (p : Pool). p.bytes) pools at pool [] c.requires c.index-pools-at.is ∙ ap (λ (p : Pool). p.bytes) c.index-pools-at.is in
    map-set (λ (p : Pool). p.bytes) pools at new
    ∙ ap (λ (bytes : List ℕ). slice_set (contents pools) at bytes) (c.in_ok-append.ensures.ok ∙ ap (λ (bytes : List ℕ). bytes ++ c.args.more.now) (sym here))
