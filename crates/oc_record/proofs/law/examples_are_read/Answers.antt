use Rattle.std.proofs.Common.{refl}
use Rattle.oc_base.specs.Reading.{within_at, flag_at, rank_at}
use Rattle.oc_record.specs.Reading.{ask_at, ranked_at, old_entry_at, fields_at, record_at, records_at}
use Rattle.oc_record.proofs.law.examples_are_read.Goals as goal

pub returns-clause-ask : goal.returns-clause-ask
unfolding within_at ask_at fields_at record_at records_at
returns-clause-ask c = refl

pub returns-clause-old_entry : goal.returns-clause-old_entry
unfolding within_at flag_at old_entry_at fields_at record_at records_at
returns-clause-old_entry c = refl

pub returns-clause-strange : goal.returns-clause-strange
unfolding fields_at record_at records_at
returns-clause-strange c = refl

pub returns-clause-cut : goal.returns-clause-cut
unfolding rank_at ranked_at fields_at record_at records_at
returns-clause-cut c = refl

pub returns-clause-beyond : goal.returns-clause-beyond
unfolding within_at flag_at old_entry_at fields_at record_at records_at
returns-clause-beyond c = refl

pub returns-clause-none : goal.returns-clause-none
unfolding records_at
returns-clause-none c = refl
