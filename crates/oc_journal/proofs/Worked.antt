-- The definitions computed at worked bytes.
use Rattle.std.proofs.Common.{◌≡◌, [], ◌∷◌, ◌++◌, refl, true}
use Rattle.oc_journal.specs.JournalFile.{magic, header, frames_of, encoded, is_broken_within}

-- the first control file of a new node 2 after `Relocate(1)`
control : frames_of (magic ++ (1 ∷ 0 ∷ 0 ∷ 0 ∷ 13 ∷ 1 ∷ 0 ∷ 0 ∷ 0 ∷ 0 ∷ 0 ∷ 0 ∷ 0 ∷ 1 ∷ 0 ∷ 0 ∷ 0 ∷ 1 ∷ 0 ∷ [])) ≡ (1 ∷ 0 ∷ 0 ∷ 0 ∷ 0 ∷ 0 ∷ 0 ∷ 0 ∷ 1 ∷ 0 ∷ 0 ∷ 0 ∷ 1 ∷ []) ∷ []
control = refl

-- two frames, an empty one and one of two bytes, and stale bytes after the closed gate
two : frames_of (magic ++ (1 ∷ 0 ∷ 0 ∷ 0 ∷ 0 ∷ 1 ∷ 0 ∷ 0 ∷ 0 ∷ 2 ∷ 8 ∷ 9 ∷ 7 ∷ 1 ∷ 1 ∷ [])) ≡ [] ∷ (8 ∷ 9 ∷ []) ∷ []
two = refl

-- a header has no frames
none : frames_of header ≡ []
none = refl

-- a frame that is cut off
broken : is_broken_within 20 (1 ∷ 0 ∷ 0 ∷ 0 ∷ 2 ∷ 8 ∷ 9 ∷ []) ≡ true
broken = refl

-- how a body is encoded
hello : encoded (8 ∷ 9 ∷ []) ≡ 0 ∷ 0 ∷ 0 ∷ 2 ∷ 8 ∷ 9 ∷ 0 ∷ []
hello = refl
