use Rattle.std.proofs.Common.{◌≡◌, ◌∙◌, Option, Some, None, Bor, ap, subst, sym}
use Rattle.std.specs.Prelude.{ok_or, option_map}
use Rattle.clap.specs.Words.{Text, found_of, rows_of}
use Rattle.clap.proofs.WalkLemmas.{first_value-rows}
use Rattle.oc_base.specs.Words.{GivesFields}
use Rattle.oc_base.specs.declared.why.Why.TheVariants.{Count}
use Rattle.oc_words.specs.Arguments.{word_of}
use Rattle.oc_words.proofs.arguments.word.Goals as goal

-- a word after a reference is the word that was found
found : (given : Option (Bor Text)) (word : Option Text) → option_map (λ w. w.now) given ≡ word
    → GivesFields (λ (w : Bor Text). w.now) (ok_or given Count) (ok_or word Count)
found None word is = ap (λ o. ok_or o Count) (sym is)
found (Some w) word is = ap (λ o. ok_or o Count) (sym is)

pub returns : goal.returns
returns c =
    subst (λ r. GivesFields (λ (w : Bor Text). w.now) r (word_of c.args.id.now (rows_of (found_of c.args.matches.now)))) (sym c.ok_or.ensures.value)
    (found c.get_str.result _ (c.get_str.ensures ∙ first_value-rows (found_of c.args.matches.now) c.args.id.now))
