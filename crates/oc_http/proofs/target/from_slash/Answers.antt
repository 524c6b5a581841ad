use Rattle.std.proofs.Common.{drop, sym, ap, ◌∙◌, arith, length-drop}
use Rattle.std.proofs.lemmas.List.{take_all}
use Rattle.oc_http.specs.Targets.{from_place}
use Rattle.oc_http.proofs.target.from_slash.Goals as goal

-- the bytes from the slash that was found
pub returns-in-Some : goal.returns-in-Some
returns-in-Some c =
    let rest = c.args.rest.now in
    take_all _ (drop c.in-Some.at rest) (omega (arith, length-drop c.in-Some.at rest)) ∙ sym (ap (from_place rest) (sym c.place_of.ensures ∙ c.in-Some.is))
