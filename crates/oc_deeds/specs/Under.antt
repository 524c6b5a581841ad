-- The input or the line under way where deeds end partway through, and the deeds that were done before it.
use Rattle.std.specs.Prelude.{◌≡◌, ℕ, true, List, [], ◌∷◌, ◌++◌, codes}
use Rattle.oc_model.specs.declared.input.Input.{Input}
use Rattle.oc_routes.specs.Refusals.{why_text}
use Rattle.oc_deeds.specs.Deeds.{Accepts, Deed, Drops, Notes, Refuses, Says, Setting, Takes, note_line, taken_line}

pub data Under : Type 0 where
  Idle : Under
  -- an input, which the files may have, and whose line may have been begun
  Taking : Input → Under
  -- a line of no input, which may have been begun
  Noting : List ℕ → Under

-- the line that is under way
abbrev pub under_line : Setting → Under → List ℕ
under_line s Idle = []
under_line s (Taking i) = taken_line s.log s.me i
under_line s (Noting line) = line

-- Fronts of deeds

-- The input or the line under way in the midst of a deed.
abbrev pub under_of : Deed → Under
under_of (Takes i) = Taking i
under_of (Accepts i) = Taking i
under_of (Says text) = Noting text
under_of (Notes why) = Noting (note_line why)
under_of (Refuses c count refusal) = Noting (note_line (why_text refusal.why))
under_of (Drops c true) = Noting (note_line (codes "write"))
under_of d = Idle

-- nothing, or the input or the line of the first of these deeds
abbrev pub IsUnder : Under → List Deed → Type 0
IsUnder Idle ds = Unit {0}
IsUnder under [] = ⊥
IsUnder under (d ∷ ds) = under ≡ under_of d

-- a front of these deeds was done, and this was under way after it
pub record Cuts (whole deeds : List Deed) (under : Under) : Type 0 where
  pub behind : List Deed
  pub front : whole ≡ deeds ++ behind
  pub next : IsUnder under behind
