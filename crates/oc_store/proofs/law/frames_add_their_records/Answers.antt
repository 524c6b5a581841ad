use Rattle.std.proofs.Common.{ap, List, None, Result}
use Rattle.oc_model.specs.declared.record.Record.{Record}
use Rattle.oc_record.specs.declared.fault.RecordFault.{RecordFault}
use Rattle.oc_store.specs.ControlFiles.{bad_or, or_none}
use Rattle.oc_store.proofs.FrameReads.{one_frame, one_frame_more}
use Rattle.oc_store.proofs.law.frames_add_their_records.Goals as goal

pub returns-clause-read : goal.returns-clause-read
returns-clause-read c = λ nodes list few lawful. ap or_none (c.spellings_are_read.ensures.read nodes list few lawful)

pub returns-clause-good : goal.returns-clause-good
returns-clause-good c = λ nodes list few lawful. ap (λ (r : Result (List Record) RecordFault). bad_or r None) (c.spellings_are_read.ensures.read nodes list few lawful)

pub returns-clause-one : goal.returns-clause-one
returns-clause-one c = one_frame

pub returns-clause-more : goal.returns-clause-more
returns-clause-more c = one_frame_more
