use Rattle.std.proofs.Common.{◌-◌, ◌∙◌, ap, length, drop, arith, length-drop}
use Rattle.std.proofs.lemmas.List.{take_all, drop_min}
use Rattle.oc_content.proofs.group_state.past.Goals as goal

pub returns : goal.returns
returns c =
    let bytes = c.args.bytes.now in
    let skip = c.min-skip.result in
    take_all (length bytes - skip) (drop skip bytes) (omega (arith, length-drop skip bytes))
    ∙ ap (λ n. drop n bytes) c.min-skip.ensures
    ∙ drop_min c.args.held_of_them bytes
