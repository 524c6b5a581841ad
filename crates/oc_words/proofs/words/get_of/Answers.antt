use Rattle.clap.specs.Words.{found_of, rows_of}
use Rattle.oc_words.specs.Arguments.{download_of}
use Rattle.oc_words.specs.declared.request.Invocation.TheVariants.{Get}
use Rattle.oc_words.proofs.WordLemmas.{asks_with}
use Rattle.oc_words.proofs.words.get_of.Goals as goal

pub returns-clause-answers : goal.returns-clause-answers
returns-clause-answers c = asks_with Get (download_of (rows_of (found_of c.args.arguments.now))) c.in_ok-download_of.field-0 c.in_ok-download_of.ensures.answers
