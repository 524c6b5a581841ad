-- The rows of the codes.
use Rattle.std.specs.Prelude.{◌≡◌, ◌≤◌, length}
use Rattle.oc_base.specs.declared.code_row.CodeRow.{CodeRow}
use Rattle.oc_model.specs.declared.record.Record.{Record}
use Rattle.oc_record.specs.Spelling.{code_of, fields_bytes}

-- the least length of a row is exact: no record of the kind has shorter fields, and some record has fields of that length
pub record HasLeast (row : CodeRow) : Type 0 where
  pub no_shorter : (r : Record) → code_of r ≡ row.code → row.least ≤ length (fields_bytes r)
  pub shortest : Record
  pub kind : code_of shortest ≡ row.code
  pub exact : length (fields_bytes shortest) ≡ row.least
