use Rattle.std.specs.Prelude.{ℕ, ◌≤◌, ◌==◌, if◌then◌else◌, List, [], ◌∷◌}
use Rattle.oc_model.specs.declared.reading.Reading.{Reading}
use Rattle.oc_model.specs.Measures.{with_reading}

-- Readings that are put one after another.

-- a reading that is put for a peer
pub record Put : Type 0 where
  pub peer : ℕ
  pub reading : Reading

-- each reading is one of a peer, with a number above 0
abbrev pub OfPeers : List Put → Type 0
OfPeers [] = Unit {0}
OfPeers (p ∷ ps) = (1 ≤ p.peer) × OfPeers ps

-- the readings after these puts
abbrev pub after_puts : List Reading → List Put → List Reading
after_puts ms [] = ms
after_puts ms (p ∷ ps) = after_puts (with_reading ms p.peer p.reading) ps

-- the last reading of x among these, or r without one
abbrev pub last_put : ℕ → Reading → List Put → Reading
last_put x r [] = r
last_put x r (p ∷ ps) = last_put x (if p.peer == x then p.reading else r) ps
