use Rattle.std.proofs.Common.{subst, arith}
use Rattle.oc_record.specs.Reading.{GivesList}
use Rattle.oc_record.proofs.ListLaws.{is_decoded}
use Rattle.oc_record.proofs.Runs.{is_found}
use Rattle.oc_record.proofs.decoding.decode.Goals as goal

pub returns-clause-found : goal.returns-clause-found
returns-clause-found c = is_found c.args.nodes c.args.bytes.now c.records_of.result (λ i. omega (arith, c.type_inv.bytes i)) c.records_of.ensures

pub returns-clause-only : goal.returns-clause-only
returns-clause-only c = λ list lawful e. subst (GivesList c.records_of.result) (is_decoded c.args.nodes c.args.bytes.now list (omega (arith, c.ranges.nodes.fits)) lawful e) c.records_of.ensures
