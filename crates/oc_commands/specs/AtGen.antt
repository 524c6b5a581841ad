-- The effect of `gen` at each of its ends.
use Rattle.std.specs.Prelude.{ℕ, ◌-◌, List, []}
use Rattle.oc_replay.specs.Pieces.{SomeFront}
use Rattle.oc_schedule.specs.Generator.{generated}
use Rattle.oc_schedule.specs.Printing.{script_text}
use Rattle.oc_words.specs.declared.request.Sample.{Sample}
use Rattle.oc_commands.specs.Outside.{Output}
use Rattle.oc_commands.specs.declared.generating.GenEnd.{GenEnd}
use Rattle.oc_commands.specs.declared.generating.GenEnd.TheVariants.{Done, Sink, Memory}

-- the text of the schedule that follows from the seed
abbrev pub sample_text : Sample → List ℕ
sample_text s = script_text (generated s.seed s.nodes (s.events - s.nodes))

abbrev pub HappenedAtGen : Output → Sample → GenEnd → Type 0
HappenedAtGen output sample Done = output.written (sample_text sample)
HappenedAtGen output sample Sink = SomeFront (sample_text sample) output.cut_off
HappenedAtGen output sample Memory = output.written []
