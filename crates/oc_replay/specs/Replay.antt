use Rattle.std.specs.Prelude.{◌≡◌, ℕ, ◌<◌, Bool, true, false, Result, Err, List, length}
use Rattle.oc_model.specs.declared.event.Event.{Event}
use Rattle.oc_model.specs.NextWorld.{world_after}
use Rattle.oc_model.specs.World.{World, new_world}
use Rattle.oc_schedule.specs.declared.fault.ScheduleFault.{ScheduleFault}
use Rattle.oc_schedule.specs.declared.fault.ScheduleFault.TheVariants.{Limit}
use Rattle.oc_schedule.specs.declared.fault.What.{What}
use Rattle.oc_schedule.specs.declared.fault.What.TheVariants.{Bytes}
use Rattle.oc_schedule.specs.declared.scale.Scale.{Scale}
use Rattle.oc_schedule.specs.Limits.{most_of}
use Rattle.oc_schedule.specs.Schedule.{schedule_of}
use Rattle.oc_schedule.specs.Script.{Script}
use Rattle.oc_replay.specs.Report.{run_text}
use Rattle.oc_replay.specs.Summary.{run_summary}

-- What a replay does with its input.

-- these bytes came up to the end, and this is their meaning as a schedule of this scale
pub record IsInput {S : Type 0} (scale : Scale) (gives : S → List ℕ → S → Type 0) (ended : S → Type 0) (old new : S) (says : Result Script ScheduleFault) : Type 0 where
  pub bytes : List ℕ
  pub came : gives old bytes new
  pub whole : ended new
  pub read : schedule_of scale bytes ≡ says

-- more bytes came than a schedule may have, or all bytes came and pass another limit
abbrev pub PassesLimit : {S : Type 0} → Scale → (S → List ℕ → S → Type 0) → (S → Type 0) → S → S → What → Type 0
PassesLimit scale gives ended old new Bytes = (bytes : List ℕ) × gives old bytes new × (most_of scale Bytes < length bytes)
PassesLimit scale gives ended old new what = IsInput scale gives ended old new (Err (Limit what))

-- the output of a run: its summary if that is asked for, otherwise its report
abbrev pub run_output : Bool → World → List Event → List ℕ
run_output true w es = run_summary w es
run_output false w es = run_text w es

-- the output of a replay of a schedule
abbrev pub output_text : Bool → Script → List ℕ
output_text summary s = run_output summary (new_world s.header) s.events

-- the report of a schedule
abbrev pub report_of : Script → List ℕ
report_of s = output_text false s

-- the summary of a schedule, over the last of its worlds
abbrev pub summary_of : Script → List ℕ
summary_of s = output_text true s

-- the world after these events of a schedule
abbrev pub world_at : Script → List Event → World
world_at s played = world_after (new_world s.header) played
