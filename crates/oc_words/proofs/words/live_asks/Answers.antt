use Rattle.oc_words.proofs.PlainWords.{asked_by_append_live, asked_by_live, asked_by_live_seal, asked_by_resume_live}
use Rattle.oc_words.proofs.words.live_asks.Goals as goal

pub returns-clause-publishing : goal.returns-clause-publishing
returns-clause-publishing c = asked_by_live

pub returns-clause-appending : goal.returns-clause-appending
returns-clause-appending c = asked_by_append_live

pub returns-clause-resuming : goal.returns-clause-resuming
returns-clause-resuming c = asked_by_resume_live

pub returns-clause-sealing : goal.returns-clause-sealing
returns-clause-sealing c = asked_by_live_seal
