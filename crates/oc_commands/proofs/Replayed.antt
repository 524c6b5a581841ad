-- The effect of a replay, told with the laws that hold of its schedule.
use Rattle.std.proofs.Common.{◌≡◌, ℕ, ◌⊎◌, Bool, true, false, cond, List, [], length, Ok, Err, inl, inr}
use Rattle.std.specs.Prelude.{nat_lt}
use Rattle.std.specs.Str.Lines.{lines}
use Rattle.oc_model.specs.Lawful.{IsHeader}
use Rattle.oc_model.specs.World.{World}
use Rattle.oc_io.specs.Faults.{Rose}
use Rattle.oc_replay.specs.Ends.{IfLimit, IfText, OnDone, OnMemory, OnRefusal, OnSink, OnSource}
use Rattle.oc_replay.specs.Replay.{IsInput, PassesLimit, output_text, world_at}
use Rattle.oc_replay.specs.Pieces.{SomeFront}
use Rattle.oc_replay.specs.declared.end.ReplayEnd.{ReplayEnd}
use Rattle.oc_replay.specs.declared.end.ReplayEnd.TheVariants as replays
use Rattle.oc_schedule.proofs.Lawful.{IsSchedule-from_lines}
use Rattle.oc_schedule.specs.Schedule.{IsSchedule, read_lines, schedule_of}
use Rattle.oc_schedule.specs.Limits.{most_of}
use Rattle.oc_schedule.specs.Script.{Script}
use Rattle.oc_schedule.specs.declared.scale.Scale.{Scale}
use Rattle.oc_schedule.specs.declared.fault.ScheduleFault.TheVariants as faults
use Rattle.oc_schedule.specs.declared.fault.What.TheVariants as limits
use Rattle.oc_commands.specs.AtReplay.{HappenedAtReplay}
use Rattle.oc_commands.specs.Headline.{HeadlineHolds}
use Rattle.oc_commands.specs.Outside.{at_sink, at_source, at_stage}
use Rattle.std.specs.Prelude.{None}

-- the schedule in a text is lawful
lawful : (scale : Scale) (bytes : List ℕ) (s : Script) → schedule_of scale bytes ≡ Ok s → IsSchedule scale s
lawful scale bytes s is = by_length (nat_lt (most_of scale limits.Bytes) (length bytes)) is where
  by_length : (b : Bool) → cond b (Err (faults.Limit limits.Bytes)) (read_lines scale 1 None (lines bytes)) ≡ Ok s → IsSchedule scale s
  by_length true is = absurd cc
  by_length false is = IsSchedule-from_lines scale (lines bytes) (Ok s) is

module _ {S K T : Type 0} (gives fails : S → List ℕ → S → Type 0) (ended : S → Type 0) (faulty : S → ℕ)
    (takes breaks : K → List ℕ → K → Type 0) (count : K → ℕ)
    (world : T → World)
    (headline : (s : Script) → IsHeader s.header → HeadlineHolds s) (source came : S) (sink gone : K) (stage left : T) (scale : Scale) (summary : Bool) where
  abbrev text : Script → List ℕ
  text s = output_text summary s

  -- the promise of the call for its end
  pub record Replays (end : ReplayEnd) : Type 0 where
    pub done : OnDone end ((s : Script) × IsInput scale gives ended source came (Ok s) × IsSchedule scale s × takes sink (text s) gone × (world left ≡ world_at s s.events))
    pub text_is : IfText end (λ line why. IsInput scale gives ended source came (Err (faults.Line line why)))
    pub limit : IfLimit end (λ what. PassesLimit scale gives ended source came what)
    pub failed : OnSource end (((bytes : List ℕ) × fails source bytes came) × Rose (faulty source) (faulty came))
    pub refused : OnRefusal end (takes sink [] gone × (left ≡ stage))
    pub cut : OnSink end ((s : Script) × IsInput scale gives ended source came (Ok s) × SomeFront (text s) (λ front. breaks sink front gone) × SomeFront s.events (λ played. world left ≡ world_at s played) × Rose (count sink) (count gone))
    pub memory : OnMemory end ((((bytes : List ℕ) × gives source bytes came) × takes sink [] gone × (left ≡ stage))
        ⊎ ((s : Script) × IsInput scale gives ended source came (Ok s) × SomeFront (text s) (λ front. takes sink front gone)))

  -- the effect of a replay has happened
  pub happened : (end : ReplayEnd) → Replays end
      → HappenedAtReplay (at_source gives fails ended faulty source came) (at_sink takes breaks count sink gone) (at_stage world stage left) scale summary end
  happened replays.Done r = let (s, says, is, written, played) = r.done in (s, says, is, written, played, headline s is.header)
  happened (replays.Text line why) r = (r.text_is, r.refused.0, r.refused.1)
  happened (replays.Limit what) r = (r.limit, r.refused.0, r.refused.1)
  happened replays.Source r = (r.failed, r.refused.0, r.refused.1)
  happened replays.Sink r =
      let (s, says, cut, played, cause) = r.cut in
      let is = lawful scale says.bytes s says.read in
      (s, says, is, (cut.0, (cut.1, cause)), played, headline s is.header)
  happened replays.Memory r = by_memory r.memory where
    by_memory : (((bytes : List ℕ) × gives source bytes came) × takes sink [] gone × (left ≡ stage))
        ⊎ ((s : Script) × IsInput scale gives ended source came (Ok s) × SomeFront (text s) (λ front. takes sink front gone))
        → HappenedAtReplay (at_source gives fails ended faulty source came) (at_sink takes breaks count sink gone) (at_stage world stage left) scale summary replays.Memory
    by_memory (inl m) = inl m
    by_memory (inr (s, says, front)) = let is = lawful scale says.bytes s says.read in inr (s, says, is, front, headline s is.header)
