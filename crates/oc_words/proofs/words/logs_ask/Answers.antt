use Rattle.oc_words.proofs.PlainWords.{asked_by_log, asked_log_twice, asked_unknown_log}
use Rattle.oc_words.proofs.words.logs_ask.Goals as goal

pub returns-clause-logging : goal.returns-clause-logging
returns-clause-logging c = asked_by_log

pub returns-clause-unknown : goal.returns-clause-unknown
returns-clause-unknown c = asked_unknown_log

pub returns-clause-said_twice : goal.returns-clause-said_twice
returns-clause-said_twice c = asked_log_twice
