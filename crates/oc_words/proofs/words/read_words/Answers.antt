use Rattle.std.proofs.Common.{subst, sym}
use Rattle.clap.specs.Words.{app_of, subcommand_rows_of}
use Rattle.oc_words.specs.Words.{Answers, texts_of}
use Rattle.oc_words.proofs.WordLemmas.{AnswersKind, failed, passed}
use Rattle.oc_words.proofs.words.read_words.Goals as goal

pub returns-in-Ok-clause-answers : goal.returns-in-Ok-clause-answers
returns-in-Ok-clause-answers c =
    let words = texts_of c.args.words.now in
    let asks = passed (app_of c.in_ok-command.command) c.in_ok-command.ensures words (subcommand_rows_of c.in-Ok.matches) c.in-Ok.ensures.kinds (λ simple. (c.in-Ok.ensures.matches simple).1) in
    subst (λ asked. Answers asked c.request_of.result) (sym asks) c.request_of.ensures.answers

pub returns-in-Err-clause-answers : goal.returns-in-Err-clause-answers
returns-in-Err-clause-answers c =
    let words = texts_of c.args.words.now in
    let answer = subst (λ k. AnswersKind k c.answer_to.result) c.kind.ensures (c.answer_to.ensures.memory, c.answer_to.ensures.other) in
    failed (app_of c.in_ok-command.command) c.in_ok-command.ensures words c.in-Err.error _ c.in-Err.ensures.kinds answer
