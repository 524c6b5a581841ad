use Rattle.oc_words.proofs.PlainWords.{asked_by_check, asked_by_follow, asked_by_gen, asked_by_get, asked_by_node, asked_by_probing}
use Rattle.oc_words.proofs.PlainWords.{asked_by_replay, asked_by_rules, asked_by_summary, plain_asks}
use Rattle.oc_words.proofs.words.rows_ask.Goals as goal

pub returns-clause-replaying : goal.returns-clause-replaying
returns-clause-replaying c = asked_by_replay

pub returns-clause-summing : goal.returns-clause-summing
returns-clause-summing c = asked_by_summary

pub returns-clause-listing : goal.returns-clause-listing
returns-clause-listing c = asked_by_rules

pub returns-clause-generating : goal.returns-clause-generating
returns-clause-generating c = asked_by_gen

pub returns-clause-serving : goal.returns-clause-serving
returns-clause-serving c = asked_by_node

pub returns-clause-probing : goal.returns-clause-probing
returns-clause-probing c = asked_by_probing

pub returns-clause-checking : goal.returns-clause-checking
returns-clause-checking c = asked_by_check

pub returns-clause-getting : goal.returns-clause-getting
returns-clause-getting c = asked_by_get

pub returns-clause-following : goal.returns-clause-following
returns-clause-following c = asked_by_follow

pub returns-clause-plain : goal.returns-clause-plain
returns-clause-plain c = plain_asks
