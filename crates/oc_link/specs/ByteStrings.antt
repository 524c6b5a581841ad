-- Byte strings one after another in one buffer.
use Rattle.std.specs.Prelude.{ℕ, ◌≤◌, List, [], ◌∷◌, ◌++◌, take, drop}

-- the strings, and the numbers of further bytes and strings for which there is room
pub record ByteStringsView : Type 0 where
  pub strings : List (List ℕ)
  pub room : ℕ
  pub string_room : ℕ

-- the strings of a buffer, by the offset of the first byte of each
abbrev pub strings_in : List ℕ → List ℕ → List (List ℕ)
strings_in bytes [] = []
strings_in bytes (a ∷ []) = drop a bytes ∷ []
strings_in bytes (a ∷ b ∷ starts) = drop a (take b bytes) ∷ strings_in bytes (b ∷ starts)

-- the strings, with these bytes added to the last one
abbrev pub grown : List (List ℕ) → List ℕ → List (List ℕ)
grown [] more = []
grown (string ∷ []) more = (string ++ more) ∷ []
grown (string ∷ next ∷ strings) more = string ∷ grown (next ∷ strings) more

-- the offsets do not fall, and are within the buffer
abbrev pub AreStarts : ℕ → List ℕ → Type 0
AreStarts len [] = Unit {0}
AreStarts len (a ∷ []) = a ≤ len
AreStarts len (a ∷ b ∷ starts) = (a ≤ b) × AreStarts len (b ∷ starts)
