-- The names of a file's faults for a node's files.
use Rattle.std.specs.Prelude.{◌≡◌}
use Rattle.oc_journal.specs.declared.errors.AppendError.{AppendError}
use Rattle.oc_journal.specs.declared.errors.AppendError.TheVariants as appends
use Rattle.oc_journal.specs.declared.errors.FileError.{FileError}
use Rattle.oc_journal.specs.declared.errors.FileError.TheVariants as causes
use Rattle.oc_keep.specs.declared.errors.CommitError.{CommitError}
use Rattle.oc_keep.specs.declared.errors.CommitError.TheVariants as commits
use Rattle.oc_keep.specs.declared.errors.KeepError.{KeepError}
use Rattle.oc_keep.specs.declared.errors.KeepError.TheVariants as keeps
use Rattle.oc_keep.specs.declared.errors.KeepLoad.{KeepLoad}
use Rattle.oc_keep.specs.declared.errors.KeepLoad.TheVariants as loads
use Rattle.oc_keep.specs.declared.errors.ReadyError.{ReadyError}
use Rattle.oc_keep.specs.declared.errors.ReadyError.TheVariants as readies

-- the cause for which a node was not loaded, by the file at fault
abbrev pub cause_of : KeepLoad → FileError
cause_of (loads.Store error) = error.cause
cause_of (loads.Content cause) = cause
cause_of loads.Memory = causes.Memory

abbrev pub IsOutOfMemory : KeepLoad → Type 0
IsOutOfMemory error = cause_of error ≡ causes.Memory

abbrev pub of_ready : ReadyError → KeepError
of_ready readies.Closed = keeps.Closed
of_ready readies.Memory = keeps.Memory
of_ready readies.Disk = keeps.Disk

abbrev pub of_commit : CommitError → KeepError
of_commit commits.Full = keeps.Full
of_commit commits.Disk = keeps.Disk

-- the cause for a file that was open
abbrev pub of_append : AppendError → CommitError
of_append appends.Full = commits.Full
of_append failed = commits.Disk
