use Rattle.std.proofs.Common.{Err, sym, subst}
use Rattle.oc_base.specs.Words.{words}
use Rattle.oc_merge.specs.declared.fault.RecordsFault.{RecordsFault}
use Rattle.oc_merge.specs.Reader.{reading_of}
use Rattle.oc_merge.specs.Reading.{GivesBy, after_told, at_line, because, limited}
use Rattle.oc_merge.proofs.Inputs.{input_fails, input_told}
use Rattle.oc_merge.proofs.reader.Reader.with_input.Goals as goal

pub returns-in-Ok : goal.returns-in-Ok
returns-in-Ok c =
    subst (GivesBy reading_of c.with_told.result)
    (input_told (reading_of c.args.self) (reading_of c.within.result) c.args.me c.args.number c.nodes_of.result c.args.word.now (words c.args.fields.now) c.in-Ok.told c.in-Ok.ensures c.nodes_of.ensures c.within.ensures)
    c.with_told.ensures

pub returns-in-Err : goal.returns-in-Err
returns-in-Err c =
    subst (λ (fault : RecordsFault). GivesBy reading_of (Err fault) (limited (at_line c.args.number (because (after_told (reading_of c.args.self) c.args.me c.args.number c.args.word.now (words c.args.fields.now))))))
    (sym c.refused_at.ensures)
    (input_fails reading_of (reading_of c.args.self) c.args.me c.args.number c.nodes_of.result c.args.word.now (words c.args.fields.now) c.in-Err.fault c.in-Err.ensures c.nodes_of.ensures)
