-- The frames that a load has found in a file so far, from gate to gate.
use Rattle.std.specs.Prelude.{◌≡◌, ◌≢◌, ℕ, ◌+◌, ◌<◌, ◌≤◌, false, IsTrue, List, [], ◌∷◌, ◌++◌, take, drop, get_or, Option, None, Some}
use Rattle.std.specs.Int.{w32, to_be_bytes}
use Rattle.std.specs.List.{All}
use Rattle.oc_io.specs.DiskView.{DiskView}
use Rattle.oc_journal.specs.JournalFile.{magic, blocks, is_whole, AreShort, EndsAt}
use Rattle.oc_journal.specs.JournalView.{at_extents}
use Rattle.oc_journal.specs.declared.extent.Extent.{Extent}

-- The extents found before a gate. Each is after the first gate and before this one; without extents this gate is the first one.
pub record IsScanned (v : DiskView) (extents : List Extent) (gate : ℕ) : Type 0 where
  pub within : All (λ extent. (9 ≤ extent.at) × (extent.at + extent.len ≤ gate)) extents
  pub start : 8 ≤ gate
  pub first : extents ≡ [] → gate ≡ 8
  pub size : gate < v.size
  pub front : IsTrue v.honest → take gate v.seen ≡ magic ++ blocks (at_extents v.seen extents)
  pub short : IsTrue v.honest → AreShort (at_extents v.seen extents)

-- the file has the frames at these extents, and then a gate that is not open
pub record IsFound (v : DiskView) (extents : List Extent) (end : ℕ) : Type 0 where
  pub within : All (λ extent. (9 ≤ extent.at) × (extent.at + extent.len ≤ end)) extents
  pub start : 8 ≤ end
  pub first : extents ≡ [] → end ≡ 8
  pub size : end < v.size
  pub ends : IsTrue v.honest → EndsAt v.seen (at_extents v.seen extents) end

-- the result of reading a gate: it is not open, or open with a full frame after it, whose body has this length
abbrev pub IsGate : List ℕ → ℕ → Option ℕ → Type 0
IsGate file gate None = get_or file gate 0 ≢ 1
IsGate file gate (Some len) = drop gate file ≡ 1 ∷ (to_be_bytes w32 len ++ drop (gate + 5) file)

-- the gate is open, but the frame after it is cut off
pub record IsBrokenAt (file : List ℕ) (gate : ℕ) : Type 0 where
  pub rest : List ℕ
  pub gate_open : drop gate file ≡ 1 ∷ rest
  pub cut : is_whole rest ≡ false
