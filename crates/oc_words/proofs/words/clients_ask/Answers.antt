use Rattle.oc_words.proofs.PlainWords.{asked_both, asked_by_append, asked_by_from, asked_by_get_as, asked_by_get_told, asked_by_put}
use Rattle.oc_words.proofs.PlainWords.{asked_by_put_as, asked_by_put_told, asked_by_resume, asked_by_seal}
use Rattle.oc_words.proofs.words.clients_ask.Goals as goal

pub returns-clause-publishing : goal.returns-clause-publishing
returns-clause-publishing c = asked_by_put

pub returns-clause-appending : goal.returns-clause-appending
returns-clause-appending c = asked_by_append

pub returns-clause-resuming : goal.returns-clause-resuming
returns-clause-resuming c = asked_by_resume

pub returns-clause-sealing : goal.returns-clause-sealing
returns-clause-sealing c = asked_by_seal

pub returns-clause-publishing_as : goal.returns-clause-publishing_as
returns-clause-publishing_as c = asked_by_put_as

pub returns-clause-said_both : goal.returns-clause-said_both
returns-clause-said_both c = asked_both

pub returns-clause-getting_from : goal.returns-clause-getting_from
returns-clause-getting_from c = asked_by_from

pub returns-clause-getting_as : goal.returns-clause-getting_as
returns-clause-getting_as c = asked_by_get_as

pub returns-clause-publishing_told : goal.returns-clause-publishing_told
returns-clause-publishing_told c = asked_by_put_told

pub returns-clause-getting_told : goal.returns-clause-getting_told
returns-clause-getting_told c = asked_by_get_told
