use Rattle.std.specs.Prelude.{◌≡◌, ℕ, ◌<◌, Bool, true, Some, List, [], ◌∷◌, ◌++◌, length, take, slice_get}
use Rattle.oc_base.specs.Lawful.{IsNode}
use Rattle.oc_model.specs.Node.{Header}
use Rattle.oc_laws_world.specs.Merges.{Entry, Line, entries_of, CanFollow}

-- The lines of records that a merge takes.

-- the records of all nodes, one after another, with a test of an entry by the node's own entries before it, as whether a start finds the
-- files of its line
pub record Records : Type 0 where
  pub header : Header
  pub lines : List Line
  pub fits : ℕ → List Entry → Entry → Bool

-- the entry is the next one in the record of x, after those that were taken
abbrev pub IsNext : Records → List Line → ℕ → Entry → Type 0
IsNext r taken x e = (rest : List Entry) × (entries_of x r.lines ≡ entries_of x taken ++ e ∷ rest)

-- the entry is the next one in its record, passes the test, and can come after the lines that were taken
abbrev pub CanBeTaken : Records → List Line → ℕ → Entry → Type 0
CanBeTaken r taken x e = IsNode r.header.nodes x × IsNext r taken x e × (r.fits x (entries_of x taken) e ≡ true) × CanFollow r.header taken x e

-- each of these lines can be taken after those before it and the lines `past`
abbrev pub AreTaken : Records → List Line → List Line → Type 0
AreTaken r past [] = Unit {0}
AreTaken r past (l ∷ ls) = CanBeTaken r past l.node l.entry × AreTaken r (past ++ l ∷ []) ls

-- the lines were taken one after another, in any order of attempts
abbrev pub IsTaking : Records → List Line → Type 0
IsTaking r taken = AreTaken r [] taken

-- no more line can be taken
abbrev pub IsFull : Records → List Line → Type 0
IsFull r taken = (x : ℕ) (e : Entry) → CanBeTaken r taken x e → ⊥

-- xs is a prefix of ys
abbrev pub IsBeginning : List Entry → List Entry → Type 0
IsBeginning xs ys = (rest : List Entry) × (ys ≡ xs ++ rest)

-- The order of the input file

-- the line at this place of the input is the next one in its record, and can be taken
abbrev pub CanBeTakenAt : Records → List Line → ℕ → Line → Type 0
CanBeTakenAt r taken place l =
    (slice_get r.lines place ≡ Some l) × (length (entries_of l.node (take place r.lines)) ≡ length (entries_of l.node taken))
    × CanBeTaken r taken l.node l.entry

-- the line is the first one of the input that can be taken
pub record IsFirst (r : Records) (taken : List Line) (place : ℕ) (l : Line) : Type 0 where
  pub can : CanBeTakenAt r taken place l
  pub none_before : (earlier : ℕ) (k : Line) → earlier < place → CanBeTakenAt r taken earlier k → ⊥

-- each of these lines, at its turn, is the first one of the input that can be taken
abbrev pub AreInOrder : Records → List Line → List Line → Type 0
AreInOrder r past [] = Unit {0}
AreInOrder r past (l ∷ ls) = ((place : ℕ) × IsFirst r past place l) × AreInOrder r (past ++ l ∷ []) ls

abbrev pub IsInOrder : Records → List Line → Type 0
IsInOrder r taken = AreInOrder r [] taken
