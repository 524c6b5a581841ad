-- Runs that tell the history of a node.
use Rattle.std.specs.Prelude.{◌≡◌, ℕ, Some, List, [], ◌∷◌, ◌++◌, map}
use Rattle.std.specs.List.{AllByRecursion}
use Rattle.oc_laws_world.specs.Missed.{Deed, Started, Finds, IsStory, Tells, record_of}
use Rattle.oc_laws_world.specs.Missed as missed
use Rattle.oc_merge.specs.declared.told.Told.{Told}
use Rattle.oc_merge.specs.declared.told.Told.TheVariants as told
use Rattle.oc_model.specs.Node.{Header, Node, new_node}
use Rattle.oc_laws_records.specs.Lawful.{IsTaken}
use Rattle.oc_laws_records.specs.Runs.{Run, told_by, told_input}

-- a line of a node's record, as a merge reads it
abbrev pub told_of : missed.Told → Told
told_of (Finds digits) = told.Started (Some digits)
told_of (Tells i) = told_input i

abbrev pub IsToldOf : ℕ → ℕ → missed.Told → Type 0
IsToldOf nodes x (Finds digits) = Unit {0}
IsToldOf nodes x (Tells i) = IsTaken nodes x i

-- the history of x up to its last start: its runs tell the record of the node, and each start tells the
-- digest of the node in its state then
pub record IsStoryOf (digest : Node → List ℕ) (h : Header) (x : ℕ) (runs : List Run) (deeds : List Deed) : Type 0 where
  pub story : IsStory digest (new_node h x) deeds
  pub inputs : AllByRecursion (IsToldOf h.nodes x) (record_of digest (new_node h x) (deeds ++ Started ∷ []))
  pub told : told_by x runs ≡ map told_of (record_of digest (new_node h x) (deeds ++ Started ∷ []))
