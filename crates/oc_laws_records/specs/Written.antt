-- The record that a running node writes is the text of a run.
use Rattle.std.specs.Prelude.{◌≡◌, ℕ, IfSome, Option, List, [], ◌++◌}
use Rattle.oc_base.specs.Groups.{shelf}
use Rattle.oc_model.specs.declared.input.Input.{Input}
use Rattle.oc_model.specs.Node.{Header, Node}
use Rattle.oc_deeds.specs.Deeds.{Deed, Setting, inputs_of, lines, with_input}
use Rattle.oc_deeds.specs.Recorded.{IsNext, RecordLine, inputs_in, line_of_next}
use Rattle.oc_deeds.specs.Records.{record_head}
use Rattle.oc_laws_records.specs.Lawful.{IsRun, IsTaken}
use Rattle.oc_laws_records.specs.Runs.{Run, run_text}

-- A run of this node, whose text was written by these deeds: its inputs are those that the deeds
-- took, and perhaps one more, with which the next deeds begin.
pub record IsRunOf (s : Setting) (n : Node) (deeds behind : List Deed) : Type 0 where
  pub run : Run
  pub next : Option Input
  pub node : run.node ≡ n
  pub text : lines s deeds ≡ run_text run
  pub inputs : inputs_in run.lines ≡ inputs_of deeds ++ with_input next []
  pub follows : IsNext next behind

-- The whole text of these deeds is that of a lawful run of this network and this node, which tells the inputs that they took.
pub record IsLawfulRunOf (h : Header) (s : Setting) (n : Node) (deeds : List Deed) : Type 0 where
  pub is : IsRunOf s n deeds []
  pub lawful : IsRun h is.run
  pub all : inputs_in is.run.lines ≡ inputs_of deeds

-- the run with the line of the next input, if that was written
abbrev pub with_next : Run → Option Input → Run
with_next run next = record run { lines = run.lines ++ line_of_next next }

-- A lawful run whose text was written by deeds that were cut; it tells the inputs that they took. The line of one more input may have been written
-- after the run, of the input that the next deed takes; the run with this line is lawful where that input is.
pub record IsCutRunOf (h : Header) (s : Setting) (n : Node) (deeds behind : List Deed) : Type 0 where
  pub run : Run
  pub next : Option Input
  pub node : run.node ≡ n
  pub lawful : IsRun h run
  pub inputs : inputs_in run.lines ≡ inputs_of deeds
  pub text : lines s deeds ≡ run_text (with_next run next)
  pub follows : IsNext next behind
  pub whole : IfSome next (IsTaken h.nodes s.me) → IsRun h (with_next run next)

-- the beginning of the record of a run
abbrev pub head_of : Run → List ℕ
head_of run = record_head run.node.control (shelf run.node.groups)

-- The part of a run that a kill leaves, with this text: the same node, its lines up to some line,
-- and perhaps a prefix of that line.
pub record IsStopped (h : Header) (run : Run) (left : List ℕ) : Type 0 where
  pub stopped : Run
  pub lawful : IsRun h stopped
  pub text : run_text stopped ≡ left
  pub node : stopped.node ≡ run.node
  pub rest : List RecordLine
  pub lines : run.lines ≡ stopped.lines ++ rest
