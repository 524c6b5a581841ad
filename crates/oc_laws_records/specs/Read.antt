-- The reading of running nodes' records by a merge, and the result of a replay of the merge.
use Rattle.std.specs.Prelude.{◌≡◌, ℕ, Ok, List}
use Rattle.oc_merge.specs.Reading.{records_of}
use Rattle.oc_merge.specs.Recorded.{own_told}
use Rattle.oc_merge.specs.Told.{Records}
use Rattle.oc_model.specs.Node.{Header}
use Rattle.oc_laws_records.specs.Runs.{Run, runs_text, told_by}

-- the texts of the runs are records of this network: for each node they have the statements of its
-- runs, in order
pub record AreRead (h : Header) (runs : List Run) : Type 0 where
  pub records : Records
  pub read : records_of (runs_text runs) ≡ Ok records
  pub header : records.header ≡ h
  pub own : (x : ℕ) → own_told x records.lines ≡ told_by x runs
