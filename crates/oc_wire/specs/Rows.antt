-- The rows of the codes.
use Rattle.std.specs.Prelude.{◌≡◌, ℕ, ◌≤◌, length}
use Rattle.oc_base.specs.declared.code_row.CodeRow.{CodeRow}
use Rattle.oc_base.specs.declared.refusal.Refusal.{Refusal}
use Rattle.oc_model.specs.Lawful.{IsBody}
use Rattle.oc_model.specs.declared.message.Body.{Body}
use Rattle.oc_wire.specs.Spelling.{code_of, fields_bytes, why_code, why_fields}

-- a row with the least length of its kind: no lawful body of the kind has shorter fields, and one has fields of that length
pub record HasLeast (row : CodeRow) : Type 0 where
  pub no_shorter : (nodes : ℕ) (b : Body) → IsBody nodes b → code_of b ≡ row.code → row.least ≤ length (fields_bytes b)
  pub shortest : Body
  pub lawful : IsBody 1 shortest
  pub kind : code_of shortest ≡ row.code
  pub exact : length (fields_bytes shortest) ≡ row.least

-- a row with the length of the bytes after its refusal's code, where there is such a refusal
pub record HasLength (row : CodeRow) : Type 0 where
  pub exact : (why : Refusal) → why_code why ≡ row.code → length (why_fields why) ≡ row.least
  pub some : Refusal
  pub kind : why_code some ≡ row.code
