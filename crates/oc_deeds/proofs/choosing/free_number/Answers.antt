use Rattle.std.proofs.Common.{◌≡◌, ℕ, not, Option, None, Some, length, unwrap_or, sym, ap, ◌∙◌, refl, rules, tests, arith}
use Rattle.std.specs.Option.{option_map}
use Rattle.std.proofs.lemmas.Iterator.{YieldsList-from_range}
use Rattle.std.proofs.lemmas.Iterator.Search.{find_from_yields_List}
use Rattle.oc_deeds.specs.Choices.{has_number}
use Rattle.oc_deeds.proofs.choosing.free_number.Goals as goal

same : (o : Option ℕ) → option_map (λ x. x) o ≡ o
same None = refl
same (Some n) = refl

pub returns : goal.returns
returns c =
    let ds = c.args.dials.now in
    let e = find_from_yields_List (λ n. not (has_number ds n)) _ _ c.find-free.result c.find-free.ensures.ran (YieldsList-from_range 0 (length ds) (length ds) (search rules) (omega arith)) (λ x b q k. search (rules, tests)) in
    c.unwrap_or.ensures ∙ ap (λ (o : Option ℕ). unwrap_or o (length ds)) (sym (same c.find-free.result) ∙ e)
