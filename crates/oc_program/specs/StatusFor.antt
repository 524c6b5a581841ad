-- The status for each request, if nothing fails that the command names in its status.
use Rattle.std.specs.Prelude.{◌≡◌, ◌⊎◌, ℕ, List, Option, Some, None}
use Rattle.oc_commands.specs.AtConfigured.{HasShownStatus}
use Rattle.oc_commands.specs.AtMerge.{HasRecordsStatus}
use Rattle.oc_commands.specs.AtNode.{HasServiceStatus}
use Rattle.oc_commands.specs.AtReplay.{HasStatus, scale_of}
use Rattle.oc_commands.specs.AtRules.{HasConfigStatus}
use Rattle.oc_commands.specs.Complete.{IsDoneOrMemory, IsServed}
use Rattle.oc_link.specs.declared.counts.LinkCounts.{LinkCounts}
use Rattle.oc_io.specs.DiskView.{DiskView}
use Rattle.oc_io.specs.Faults.{Rose}
use Rattle.oc_keep.specs.Files.{AreHonest, OneRose, disks_in}
use Rattle.oc_keep.specs.Promises.{HoldFiles}
use Rattle.oc_link.specs.Story.{Story}
use Rattle.oc_words.specs.declared.request.Invocation.{Invocation}
use Rattle.oc_words.specs.declared.request.Invocation.TheVariants.{Check, CheckConfigured, Gen, Get, Help, Merge, Node, Put, Replay, Rules, Version}
use Rattle.oc_program.specs.declared.outside.Outside.{Outside}

module _ {S K E T D L N P : Type 0} (gives : S → List ℕ → S → Type 0) (ended : S → Type 0) (input_faults : S → ℕ) (output_faults : K → ℕ)
    (view : D → DiskView) (dials : L → Option Story) (dial_faults : L → ℕ) (counts : N → LinkCounts) (old new : Outside S K E T D L N P) where
  -- The objects that did not fail: the input, the output, an honest disk, a dial, and the asking of
  -- a node's link

  abbrev pub InputHeld : Type 0
  InputHeld = Rose (input_faults old.input) (input_faults new.input) → ⊥

  abbrev pub OutputHeld : Type 0
  OutputHeld = Rose (output_faults old.output) (output_faults new.output) → ⊥

  abbrev pub DisksHeld : Type 0
  DisksHeld = AreHonest view (disks_in old.files) × (OneRose view (disks_in old.files) (disks_in new.files) → ⊥)

  abbrev pub DialsHeld : Type 0
  DialsHeld = Rose (dial_faults old.dialler) (dial_faults new.dialler) → ⊥

  abbrev pub LinkHeld : Type 0
  LinkHeld = Rose (counts old.link).listening (counts new.link).listening → ⊥

  -- A single download without a token is done if its URL was served whole.
  abbrev pub StatusForGet : List ℕ → Option ℕ → Option ℕ → Option (List ℕ) → ℕ → Type 0
  StatusForGet address start None None status = IsServed address start (dials old.dialler) (dials new.dialler) → DialsHeld → OutputHeld → IsDoneOrMemory status
  StatusForGet address start times file status = Unit {0}

  -- Words without a request have status 2. Help, `--version` and `gen` are done; a replay has the
  -- status for the schedule in its input, and `merge` and `rules` likewise. The files of a node are
  -- shown by `check`, for a configuration if it has the node. A `node` has the status for its
  -- configuration, and over the files of a node it is done, or a file is full. Or memory ran out.
  abbrev pub StatusFor : Option Invocation → ℕ → Type 0
  StatusFor None status = (status ≡ 2) ⊎ (status ≡ 4)
  StatusFor (Some Help) status = OutputHeld → IsDoneOrMemory status
  StatusFor (Some Version) status = OutputHeld → IsDoneOrMemory status
  StatusFor (Some (Gen sample)) status = OutputHeld → IsDoneOrMemory status
  StatusFor (Some (Replay large summary file)) status = InputHeld → OutputHeld → HasStatus (scale_of large) gives ended old.input new.input status ⊎ (status ≡ 4)
  StatusFor (Some Merge) status = InputHeld → OutputHeld → HasRecordsStatus gives ended old.input new.input status ⊎ (status ≡ 4)
  StatusFor (Some (Rules file)) status = InputHeld → OutputHeld → HasConfigStatus gives ended old.input new.input status ⊎ (status ≡ 4)
  StatusFor (Some (Check member folder)) status = DisksHeld → OutputHeld → HoldFiles view member.nodes (disks_in old.files) → IsDoneOrMemory status
  StatusFor (Some (CheckConfigured id paths)) status =
      DisksHeld → InputHeld → OutputHeld → HasShownStatus gives ended view (disks_in old.files) id old.input new.input status ⊎ (status ≡ 4)
  StatusFor (Some (Get download)) status = StatusForGet download.address download.start download.times download.token_file status
  StatusFor (Some (Put upload)) status = Unit {0}
  StatusFor (Some (Node service paths)) status =
      DisksHeld → LinkHeld → InputHeld → OutputHeld → HasServiceStatus gives ended view (disks_in old.files) service old.input new.input status ⊎ (status ≡ 4)
