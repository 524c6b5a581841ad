-- The options of a client's requests.
use Rattle.std.specs.Prelude.{ℕ, Option, List}

pub record FetchOptions : Type 0 where
  -- the first byte of a group to ask for; none leaves it to the URL
  pub from : Option ℕ
  -- the token that each request shows
  pub token : Option (List ℕ)
