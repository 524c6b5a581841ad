-- The body of a refusal: the cause, and a remedy.
use Rattle.std.specs.Prelude.{◌≡◌, ℕ, ◌≤◌, Bool, ◌&&◌, nat_le, List, [], ◌∷◌, ◌++◌, length, IsTrue}
use Rattle.std.specs.List.{list_all}

-- a byte from the space to `~`
abbrev pub is_shown : ℕ → Bool
is_shown b = nat_le 32 b && nat_le b 126

-- a line of 1 to 1,000 such bytes, with a line feed after it
pub record IsPlainLine (text : List ℕ) : Type 0 where
  pub line : List ℕ
  pub some : 1 ≤ length line
  pub most : length line ≤ 1000
  pub shown : IsTrue (list_all is_shown line)
  pub ended : text ≡ line ++ 10 ∷ []
