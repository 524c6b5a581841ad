-- The reason why a file was not loaded, from the reason of its journal or of a frame.
use Rattle.oc_journal.specs.declared.errors.FileError.{FileError}
use Rattle.oc_journal.specs.declared.errors.FileError.TheVariants as files
use Rattle.oc_journal.specs.declared.errors.FrameError.{FrameError}
use Rattle.oc_journal.specs.declared.errors.FrameError.TheVariants as frames
use Rattle.oc_journal.specs.declared.errors.LoadError.{LoadError}
use Rattle.oc_journal.specs.declared.errors.LoadError.TheVariants as loads

-- the journal was not loaded
abbrev pub of_load : LoadError → FileError
of_load loads.Disk = files.Disk
of_load loads.NotJournal = files.NotJournal
of_load loads.Memory = files.Memory

-- a frame was not read
abbrev pub of_frame : FrameError → FileError
of_frame frames.Disk = files.Disk
of_frame frames.Memory = files.Memory
