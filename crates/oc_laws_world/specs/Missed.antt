use Rattle.std.specs.Prelude.{◌≡◌, ℕ, Bool, false, not, ◌&&◌, if◌then◌else◌, List, [], ◌∷◌}
use Rattle.oc_base.specs.Groups.{shelf}
use Rattle.oc_base.specs.Named.{same_name}
use Rattle.oc_model.specs.declared.input.Input.{Input}
use Rattle.oc_model.specs.Node.{Node, restarted}
use Rattle.oc_model.specs.Step.{step}
use Rattle.oc_laws_world.specs.Merges.{Entry, Starts, Takes}

-- Records whose last line before a stop may tell of an input that was not taken.

-- an event at a node: a start, an input that was taken, or a stop between the line of an input and its frame
pub data Deed : Type 0 where
  Started : Deed
  Took : Input → Deed
  Missed : Input → Deed

abbrev pub after_deed : Node → Deed → Node
after_deed n Started = restarted n
after_deed n (Took i) = (step n i).node
after_deed n (Missed i) = n

abbrev pub after_deeds : Node → List Deed → Node
after_deeds n [] = n
after_deeds n (d ∷ ds) = after_deeds (after_deed n d) ds

-- a line of a record: a start, with the digest of the files that it found, or an input
pub data Told : Type 0 where
  Finds : List ℕ → Told
  Tells : Input → Told

abbrev pub told_of : (Node → List ℕ) → Node → Deed → Told
told_of digest n Started = Finds (digest n)
told_of digest n (Took i) = Tells i
told_of digest n (Missed i) = Tells i

-- the record of these events; an input that was taken and one that was missed give the same line
abbrev pub record_of : (Node → List ℕ) → Node → List Deed → List Told
record_of digest n [] = []
record_of digest n (d ∷ ds) = told_of digest n d ∷ record_of digest (after_deed n d) ds

-- whether an input was missed: the next start found the files as they were without the input, and not as they were with it
abbrev pub is_missed : (Node → List ℕ) → Node → Input → List Told → Bool
is_missed digest n i (Finds d ∷ ts) = not (same_name d (digest (step n i).node)) && same_name d (digest n)
is_missed digest n i ts = false

-- the entries of a record without the missed inputs, found from the node's own lines alone
abbrev pub without_missed : (Node → List ℕ) → Node → List Told → List Entry
without_missed digest n [] = []
without_missed digest n (Finds d ∷ ts) = Starts ∷ without_missed digest (restarted n) ts
without_missed digest n (Tells i ∷ ts) =
    if is_missed digest n i ts then without_missed digest n ts else Takes i ∷ without_missed digest (step n i).node ts

-- each start of the remaining record finds the files of its line
abbrev pub StartsFit : (Node → List ℕ) → Node → List Told → Type 0
StartsFit digest n [] = Unit {0}
StartsFit digest n (Finds d ∷ ts) = (digest n ≡ d) × StartsFit digest (restarted n) ts
StartsFit digest n (Tells i ∷ ts) = StartsFit digest (if is_missed digest n i ts then n else (step n i).node) ts

-- The premises of this

-- two nodes have the same control part, lengths and seals
abbrev pub HaveSameFiles : Node → Node → Type 0
HaveSameFiles n m = (m.control.kept ≡ n.control.kept) × (shelf m.groups ≡ shelf n.groups)

-- the digest tells whether this input was taken, if the input changed the files
abbrev pub IsToldApart : (Node → List ℕ) → Node → Input → Type 0
IsToldApart digest n i = digest n ≡ digest (step n i).node → HaveSameFiles n (step n i).node

-- the next event, if any, is a start
abbrev pub Stops : List Deed → Type 0
Stops [] = Unit {0}
Stops (Started ∷ ds) = Unit {0}
Stops ds = ⊥

-- only the last input before a stop is missed, and the digest tells which
abbrev pub IsStory : (Node → List ℕ) → Node → List Deed → Type 0
IsStory digest n [] = Unit {0}
IsStory digest n (Started ∷ ds) = IsStory digest (restarted n) ds
IsStory digest n (Took i ∷ ds) = IsStory digest (step n i).node ds
IsStory digest n (Missed i ∷ ds) = Stops ds × IsToldApart digest n i × IsStory digest n ds
