use Rattle.std.specs.Prelude.{ℕ, List, length}
use Rattle.std.specs.List.{sum_by}
use Rattle.oc_model.specs.declared.input.Input.TheVariants.{Publish}
use Rattle.oc_model.specs.Node.{Header}
use Rattle.oc_merge.specs.declared.told.Told.{Told}
use Rattle.oc_merge.specs.declared.told.Told.TheVariants.{Took}
use Rattle.oc_merge.specs.declared.told.ToldLine.{ToldLine}

-- The content of records of running nodes.

-- the network, and the statements of its records, in the order of the lines
pub record Records : Type 0 where
  pub header : Header
  pub lines : List ToldLine

-- the bytes that a line publishes
abbrev pub published_by : Told → ℕ
published_by (Took (Publish group bytes)) = length bytes
published_by told = 0

-- the number of bytes that all lines publish
abbrev pub published_in : List ToldLine → ℕ
published_in lines = sum_by (λ l. published_by l.told) lines
