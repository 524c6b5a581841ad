-- Runs of nodes: the record that each of them writes, and the meaning of its lines.
use Rattle.std.specs.Prelude.{ℕ, ◌==◌, if◌then◌else◌, Some, List, [], ◌∷◌, ◌++◌, map}
use Rattle.oc_base.specs.Groups.{shelf}
use Rattle.oc_keep.specs.KeptView.{header_of}
use Rattle.oc_merge.specs.declared.told.Told.{Told}
use Rattle.oc_merge.specs.declared.told.Told.TheVariants.{Started, Came, Took}
use Rattle.oc_model.specs.declared.input.Input.{Input}
use Rattle.oc_model.specs.declared.input.Input.TheVariants.{Delivered}
use Rattle.oc_model.specs.Node.{Header, Node}
use Rattle.oc_replay.specs.Digests.{digest_text}
use Rattle.oc_deeds.specs.Recorded.{RecordLine, inputs_in, record_text}
use Rattle.oc_deeds.specs.Records.{record_head}
use Rattle.oc_wire.specs.Spelling.{spelling}

-- A run of a node: the node in its files at the beginning, the lines of its inputs and its notes,
-- and the rest of a line after a kill.
pub record Run : Type 0 where
  pub node : Node
  pub lines : List RecordLine
  pub cut : List ℕ

abbrev pub number_of : Run → ℕ
number_of run = run.node.control.me

-- the header of the run's network
abbrev pub network_of : Run → Header
network_of run = header_of run.node.control

-- the text of a run
abbrev pub run_text : Run → List ℕ
run_text run = record_head run.node.control (shelf run.node.groups) ++ record_text (number_of run) run.lines ++ run.cut

-- the texts of some runs, one after another, as `cat` gives them
abbrev pub runs_text : List Run → List ℕ
runs_text [] = []
runs_text (run ∷ runs) = run_text run ++ runs_text runs

-- The statements of runs

-- an input: a message by its bytes
abbrev pub told_input : Input → Told
told_input (Delivered message) = Came (spelling message)
told_input i = Took i

-- the start of a run: the digits of the files that it found
abbrev pub told_start : Run → Told
told_start run = Started (Some (digest_text run.node.control.kept (shelf run.node.groups)))

-- a run: its start and its inputs
abbrev pub told_by_run : Run → List Told
told_by_run run = told_start run ∷ map told_input (inputs_in run.lines)

-- the statements of the runs of the node x, in their order
abbrev pub told_by : ℕ → List Run → List Told
told_by x [] = []
told_by x (run ∷ runs) = if number_of run == x then told_by_run run ++ told_by x runs else told_by x runs
