-- The result of a replay of the merge of runs.
use Rattle.std.specs.Prelude.{◌≡◌, ℕ, ◌==◌, if◌then◌else◌, List, [], ◌∷◌, ◌++◌, map}
use Rattle.oc_base.specs.Lawful.{IsNode}
use Rattle.oc_laws_world.specs.MergedLaws.{AllHold}
use Rattle.oc_laws_world.specs.Merges.{Entry, Starts, Takes, after_entries}
use Rattle.oc_merge.specs.Recorded.{own_there, picked}
use Rattle.oc_model.specs.NextWorld.{world_after}
use Rattle.oc_model.specs.Node.{Header, Node, new_node}
use Rattle.oc_model.specs.World.{new_world, node}
use Rattle.oc_schedule.specs.Script.{Script}
use Rattle.oc_deeds.specs.Recorded.{inputs_in}
use Rattle.oc_laws_records.specs.Runs.{Run, number_of, told_by}

-- the entries of a run: its start and its inputs
abbrev pub entries_of_run : Run → List Entry
entries_of_run run = Starts ∷ map Takes (inputs_in run.lines)

-- the entries of the runs of x, in order
abbrev pub entries_by : ℕ → List Run → List Entry
entries_by x [] = []
entries_by x (run ∷ runs) = if number_of run == x then entries_of_run run ++ entries_by x runs else entries_by x runs

-- the entries without those whose lines are left out: inputs that were not taken, as the next start
-- shows by this digest
abbrev pub entries_there : (Node → List ℕ) → Header → ℕ → List Run → List Entry
entries_there digest h x runs = picked (own_there digest h.nodes x (new_node h x) (told_by x runs)) (entries_by x runs)

-- The events of a script lead from a new world to one in which each node is the fold of its own entries, and each world on the way is lawful.
pub record AreReplayed (digest : Node → List ℕ) (h : Header) (runs : List Run) (s : Script) : Type 0 where
  pub header : s.header ≡ h
  pub nodes : (x : ℕ) → IsNode h.nodes x → node (world_after (new_world h) s.events) x ≡ after_entries (new_node h x) (entries_there digest h x runs)
  pub hold : AllHold (new_world h) s.events
