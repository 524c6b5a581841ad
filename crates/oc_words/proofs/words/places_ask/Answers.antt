use Rattle.oc_words.proofs.PlainWords.{asked_by_checked, asked_by_configured, asked_by_configured_there, asked_by_endless, asked_by_file}
use Rattle.oc_words.proofs.PlainWords.{asked_by_listed, asked_by_placed, asked_by_version, asked_twice, asked_unchained}
use Rattle.oc_words.proofs.words.places_ask.Goals as goal

pub returns-clause-versioned : goal.returns-clause-versioned
returns-clause-versioned c = asked_by_version

pub returns-clause-replaying : goal.returns-clause-replaying
returns-clause-replaying c = asked_by_file

pub returns-clause-listing : goal.returns-clause-listing
returns-clause-listing c = asked_by_listed

pub returns-clause-serving : goal.returns-clause-serving
returns-clause-serving c = asked_by_endless

pub returns-clause-serving_there : goal.returns-clause-serving_there
returns-clause-serving_there c = asked_by_placed

pub returns-clause-checking : goal.returns-clause-checking
returns-clause-checking c = asked_by_configured

pub returns-clause-checking_there : goal.returns-clause-checking_there
returns-clause-checking_there c = asked_by_configured_there

pub returns-clause-checking_numbers : goal.returns-clause-checking_numbers
returns-clause-checking_numbers c = asked_by_checked

pub returns-clause-unchained : goal.returns-clause-unchained
returns-clause-unchained c = asked_unchained

pub returns-clause-said_twice : goal.returns-clause-said_twice
returns-clause-said_twice c = asked_twice
