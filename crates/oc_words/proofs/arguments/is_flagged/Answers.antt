use Rattle.std.proofs.Common.{◌≡◌, ◌∙◌, Option, Some, None, false, codes, refl, rules, subst}
use Rattle.std.specs.Option.{option_map_or}
use Rattle.std.specs.Str.{bytes_eq}
use Rattle.clap.specs.Words.{Text, first_of, found_of, rows_of}
use Rattle.clap.proofs.WalkLemmas.{first_value-rows}
use Rattle.oc_words.proofs.arguments.is_flagged.Goals as goal

pub returns-in-Some : goal.returns-in-Some
returns-in-Some c =
    let found : Some c.in-Some.word.now ≡ first_of c.args.id.now (rows_of (found_of c.args.matches.now)) = c.in-Some.ensures ∙ first_value-rows (found_of c.args.matches.now) c.args.id.now in
    let same : c.eq.result ≡ bytes_eq c.in-Some.word.now (codes "true") = search rules in
    subst (λ (o : Option Text). c.eq.result ≡ option_map_or (λ word. bytes_eq word (codes "true")) o false) found same

pub returns-in-None : goal.returns-in-None
returns-in-None c =
    let found : None ≡ first_of c.args.id.now (rows_of (found_of c.args.matches.now)) = c.in-None.ensures ∙ first_value-rows (found_of c.args.matches.now) c.args.id.now in
    subst (λ (o : Option Text). false ≡ option_map_or (λ word. bytes_eq word (codes "true")) o false) found refl
