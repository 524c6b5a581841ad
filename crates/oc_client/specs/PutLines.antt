-- The progress lines of a publishing.
use Rattle.std.specs.Prelude.{ℕ, ◌≤◌, List, length}
use Rattle.oc_client.specs.ProgressLines.{Grows}
use Rattle.oc_client.specs.Publishing.{Came}
use Rattle.oc_client.specs.declared.progress_lines.ProgressLines.{ProgressLines}
use Rattle.oc_client.specs.declared.put_end.PutEnd.{PutEnd}

-- the lines at any end count no more bytes than came of the input
pub record TellsWithin {S E : Type 0} (gives fails : S → List ℕ → S → Type 0) (takes breaks : E → List ℕ → E → Type 0) (before after : S) (old new : ProgressLines E) (end : PutEnd) : Type 0 where
  pub came : List ℕ
  pub gave : Came gives fails before came after end
  pub more : ℕ
  pub within : more ≤ length came
  pub grew : Grows takes breaks old more new
