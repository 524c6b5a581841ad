use Rattle.oc_words.proofs.PlainWords.{asked_by_large, asked_by_large_file, asked_by_merge, asked_unsummed}
use Rattle.oc_words.proofs.words.records_ask.Goals as goal

pub returns-clause-merging : goal.returns-clause-merging
returns-clause-merging c = asked_by_merge

pub returns-clause-large : goal.returns-clause-large
returns-clause-large c = asked_by_large

pub returns-clause-large_file : goal.returns-clause-large_file
returns-clause-large_file c = asked_by_large_file

pub returns-clause-unsummed : goal.returns-clause-unsummed
returns-clause-unsummed c = asked_unsummed
