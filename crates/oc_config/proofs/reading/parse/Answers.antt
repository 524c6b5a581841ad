use Rattle.std.proofs.Common.{Some, ap, arith}
use Rattle.toml.specs.View.{table_view}
use Rattle.oc_config.specs.Reading.{table_or_fault}
use Rattle.oc_config.proofs.Documents.{first_line, of_text, of_no_text}
use Rattle.oc_config.proofs.reading.parse.Goals as goal

pub returns-in-Ok : goal.returns-in-Ok
returns-in-Ok c =
    let text = of_text c.args.bytes.now (Some (table_view c.in-Ok.table)) c.in-Ok.ensures.ok.0 c.in-Ok.ensures.ok.1 in record {
      line = 1;
      in_text = first_line c.args.bytes.now;
      gives = ap (table_or_fault 1) text;
    }

pub returns-in-Some : goal.returns-in-Some
returns-in-Some c =
    let range = c.in-Some.ensures.range in
    let span = c.in-Err.ensures.span in
    let refused = c.in-Err.ensures.refused (λ memory. let none = c.in-Some.ensures.none.1 memory in cc) in record {
      line = c.line_at.result;
      in_text = record { place = c.in-Some.place.start; within = omega (arith, range.0, span.0, span.1); line_is = c.line_at.ensures };
      gives = ap (table_or_fault c.line_at.result) (of_no_text c.args.bytes.now refused);
    }
