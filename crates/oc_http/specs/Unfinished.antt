-- Bytes that come line by line to make a whole: those that are unfinished, and those that are hopeless.
use Rattle.std.specs.Prelude.{◌≡◌, ℕ, List, [], ◌∷◌, ◌++◌}
use Rattle.httparse.specs.Ascii.{line_feed}

-- bytes that become a whole with others after them
abbrev pub CanBecome : {T : Type 0} → (List ℕ → T → List ℕ → Type 0) → List ℕ → Type 0
CanBecome {T} Reads bytes = (more : List ℕ) × (tree : T) × Reads (bytes ++ more) tree []

-- bytes that begin with no whole, and at the end of each line could still become one
pub record IsUnfinished {T : Type 0} (Reads : List ℕ → T → List ℕ → Type 0) (bytes : List ℕ) : Type 0 where
  pub no_tree : (tree : T) (rest : List ℕ) → ¬ (Reads bytes tree rest)
  pub goes_on : (line rest : List ℕ) → bytes ≡ line ++ line_feed ∷ rest → CanBecome Reads (line ++ line_feed ∷ [])

-- bytes that the end of their last line made hopeless: no bytes can follow with which there is a whole
pub record IsHopeless {T : Type 0} (Reads : List ℕ → T → List ℕ → Type 0) (bytes : List ℕ) : Type 0 where
  pub before : List ℕ
  pub ends : bytes ≡ before ++ line_feed ∷ []
  pub unfinished : IsUnfinished Reads before
  pub never : (more : List ℕ) (tree : T) (rest : List ℕ) → ¬ (Reads (bytes ++ more) tree rest)
