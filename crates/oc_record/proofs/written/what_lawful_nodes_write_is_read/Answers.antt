use Rattle.std.proofs.Common.{arith}
use Rattle.oc_model.specs.Step.{step}
use Rattle.oc_record.proofs.Lengths.{records_length}
use Rattle.oc_record.proofs.written.what_lawful_nodes_write_is_read.Goals as goal

pub returns-clause-spelled : goal.returns-clause-spelled
returns-clause-spelled c = λ nodes n i fair short ok. c.spellings_are_read.ensures.spelled nodes (step n i).records (c.lawful_nodes_stay_lawful.ensures.step nodes n i fair short ok).records

pub returns-clause-read : goal.returns-clause-read
returns-clause-read c = λ nodes n i fair short ok. c.spellings_are_read.ensures.read nodes (step n i).records (omega (arith, ok.control.few)) (c.lawful_nodes_stay_lawful.ensures.step nodes n i fair short ok).records

pub returns-clause-fits : goal.returns-clause-fits
returns-clause-fits c = λ nodes n i fair ok. omega (arith, records_length (step n i).records, (c.lawful_nodes_stay_lawful.ensures.frame nodes n i fair ok).bytes)

pub returns-clause-sizes : goal.returns-clause-sizes
returns-clause-sizes c = records_length
