use Rattle.std.proofs.Common.{refl}
use Rattle.oc_record.specs.Spelling.{records_bytes}
use Rattle.oc_record.proofs.ListLaws.{is_decoded, have_spellings}
use Rattle.oc_record.proofs.law.spellings_are_read.Goals as goal

pub returns-clause-spelled : goal.returns-clause-spelled
returns-clause-spelled c = have_spellings

pub returns-clause-read : goal.returns-clause-read
returns-clause-read c = λ nodes list few lawful. is_decoded nodes (records_bytes list) list few lawful refl
