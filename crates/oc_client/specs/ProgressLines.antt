-- The progress lines of a growing count.
use Rattle.std.specs.Prelude.{ℕ, ◌≤◌, List}
use Rattle.oc_client.specs.Lines.{Tells, lines_between}
use Rattle.oc_client.specs.declared.progress_lines.ProgressLines.{ProgressLines}
use Rattle.oc_io.specs.Counts.{Rises}

-- the count grew by `more` bytes, up to the greatest u64, and of each multiple on the way one line told
pub record Grows {E : Type 0} (takes fails : E → List ℕ → E → Type 0) (old : ProgressLines E) (more : ℕ) (new : ProgressLines E) : Type 0 where
  pub rises : Rises old.count more new.count
  pub no_fall : old.count ≤ new.count
  pub told : Tells takes fails old.sink new.sink old.active new.active (lines_between old.count new.count)
