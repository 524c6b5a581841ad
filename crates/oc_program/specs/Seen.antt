-- The knowledge of the outside, from its old value to the new one; `told` is the error output
-- before the line that tells how the run ended.
use Rattle.std.specs.Prelude.{ℕ, List, Option}
use Rattle.oc_commands.specs.Outside as sayings
use Rattle.oc_commands.specs.Outside.{at_files, at_link, at_node, at_sink, at_source, at_stage}
use Rattle.oc_commands.specs.Telling.{at_error}
use Rattle.oc_link.specs.declared.call.Call.{Call}
use Rattle.oc_link.specs.declared.counts.LinkCounts.{LinkCounts}
use Rattle.oc_io.specs.DiskView.{DiskView}
use Rattle.oc_keep.specs.Files.{disks_in}
use Rattle.oc_link.specs.Story.{Story}
use Rattle.oc_model.specs.World.{World}
use Rattle.oc_words.specs.declared.request.Invocation.{Invocation}
use Rattle.oc_program.specs.declared.outside.Outside.{Outside}

module _ {S K E T D L N P : Type 0} (gives gives_less : S → List ℕ → S → Type 0) (ended : S → Type 0) (input_faults : S → ℕ)
    (takes takes_less : K → List ℕ → K → Type 0) (output_faults : K → ℕ) (writes writes_less : E → List ℕ → E → Type 0) (error_faults : E → ℕ) (world : T → World) (view : D → DiskView)
    (dials : L → Option Story) (dial_faults : L → ℕ) (calls : N → Option (List Call)) (counts : N → LinkCounts) where
  abbrev pub seen : Option Invocation → Outside S K E T D L N P → E → Outside S K E T D L N P → sayings.Outside
  seen asked old told new = record {
    asked = asked;
    input = at_source gives gives_less ended input_faults old.input new.input;
    output = at_sink takes takes_less output_faults old.output new.output;
    error = at_error writes writes_less error_faults old.error told;
    stage = at_stage world old.stage new.stage;
    files = at_files view (disks_in old.files) (disks_in new.files);
    link = at_link dials dial_faults old.dialler new.dialler;
    token = at_source gives gives_less ended input_faults old.token new.token;
    node = at_node view calls counts takes takes_less (disks_in old.files) (disks_in new.files) old.link new.link old.output new.output;
  }
