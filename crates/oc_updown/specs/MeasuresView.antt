-- The measures of a node, as a contract sees them.
use Rattle.std.specs.Prelude.{ℕ, List}
use Rattle.oc_model.specs.declared.reading.Reading.{Reading}

-- the reading of each peer, by its number, and the number of readings for which there is memory
pub record MeasuresView : Type 0 where
  pub readings : List Reading
  pub room : ℕ
