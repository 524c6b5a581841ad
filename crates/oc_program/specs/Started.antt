-- The result of a run over the real objects, by counts of bytes and by the knowledge of the
-- objects.
use Rattle.std.specs.Prelude.{◌≡◌, ℕ, List, Option}
use Rattle.oc_commands.specs.Ends.{status_of}
use Rattle.oc_commands.specs.Lines.{file_told, line_of}
use Rattle.oc_commands.specs.Outside as sayings
use Rattle.oc_commands.specs.Outside.{at_files, at_link, at_node, at_stage}
use Rattle.oc_commands.specs.Run.{Happened}
use Rattle.oc_commands.specs.declared.ending.End.{End}
use Rattle.oc_link.specs.Counts.{no_counts}
use Rattle.oc_link.specs.declared.call.Call.{Call}
use Rattle.oc_link.specs.declared.counts.LinkCounts.{LinkCounts}
use Rattle.oc_io.specs.DiskView.{DiskView}
use Rattle.oc_io.specs.declared.traffic.Traffic.{Traffic}
use Rattle.oc_keep.specs.Files.{disks_in}
use Rattle.oc_link.specs.Story.{Story}
use Rattle.oc_model.specs.World.{World}
use Rattle.oc_program.specs.Streams.{IsCountOfLineOrFront, WentOn, WentOnAndFailed, at_input, at_output, at_told, no_traffic}
use Rattle.oc_program.specs.declared.streams.Things.{Things}
use Rattle.oc_program.specs.declared.starting.Started.{Started}
use Rattle.oc_words.specs.Status.{number_of}
use Rattle.oc_words.specs.declared.request.Invocation.{Invocation}

module _ {T D L N P : Type 0} (world : T → World) (view : D → DiskView) (dials : L → Option Story) (dial_faults : L → ℕ)
    (calls : N → Option (List Call)) (counts : N → LinkCounts) where
  -- the knowledge of streams with this traffic, where the error output had `told` before the last line,
  -- and of objects from their first to their last value
  abbrev pub seen_over : Option Invocation → Started → Traffic → Things T D L N P → Things T D L N P → sayings.Outside
  seen_over asked ran told first last = record {
    asked = asked;
    input = at_input ran.input;
    output = at_output ran.output;
    error = at_told told;
    stage = at_stage world first.stage last.stage;
    files = at_files view (disks_in first.files) (disks_in last.files);
    link = at_link dials dial_faults first.dialler last.dialler;
    token = at_input ran.token;
    node = at_node view calls counts WentOn WentOnAndFailed (disks_in first.files) (disks_in last.files) first.link last.link no_traffic ran.output;
  }

-- the end of the run: the status, the line on the error output after the progress lines, and the
-- effect on objects whose links had not failed before; nothing is promised about the pause between
-- tries
pub record HasRun {T D L N : Type 0} (world : T → World) (view : D → DiskView) (dials : L → Option Story) (dial_faults : L → ℕ) (calls : N → Option (List Call)) (counts : N → LinkCounts) (asked : Option Invocation) (ran : Started) : Type 0 where
  pub first : Things T D L N (Unit {0})
  pub last : Things T D L N (Unit {0})
  pub new_dialler : dial_faults first.dialler ≡ 0
  pub new_link : counts first.link ≡ no_counts
  pub end : End
  pub usage : List ℕ
  pub told : Traffic
  pub status_is : ran.status ≡ number_of (status_of end)
  pub line : IsCountOfLineOrFront told ran.error (line_of end (file_told asked end) usage)
  pub happened : Happened (seen_over world view dials dial_faults calls counts asked ran told first last) end
