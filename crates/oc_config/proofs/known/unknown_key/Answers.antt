use Rattle.std.proofs.Common.{List, ℕ, map, string_bytes, sym, ap, ◌∙◌}
use Rattle.oc_config.specs.Known.{unknown_key}
use Rattle.oc_config.proofs.Keys.{keys_are}
use Rattle.oc_config.proofs.known.unknown_key.Goals as goal

pub loop-key-init : goal.loop-key-init
loop-key-init c =
    let section = c.args.section.now in
    let left = c.into_iter-key-iterator.ensures.into_iter_gives ∙ c.keys-key-items.ensures.rest in (
      tt,
      tt,
      ap (λ keys. unknown_key section.place (map string_bytes keys)) left ∙ ap (λ (keys : List (List ℕ)). unknown_key section.place keys) (sym (keys_are section.table.now.entries)),
    )
