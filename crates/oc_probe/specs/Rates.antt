-- Rates, and the median of some.
use Rattle.std.specs.Prelude.{ℕ, ◌+◌, ◌-◌, ◌*◌, ◌/◌, ◌<◌, ◌≤◌, max, nat_le, nat_lt, List, [], ◌∷◌, ◌++◌, length, drop, slice_index_or}
use Rattle.std.specs.List.{count_by}

-- the bytes that a probe downloads
abbrev pub probe_bytes : ℕ
probe_bytes = 10_240

-- the number of rates kept of a peer
abbrev pub kept_rates : ℕ
kept_rates = 5

-- The rate of a probe in bytes per second, by the readings of the clock in milliseconds before and after it: its bytes by
-- the time, which counts as at least one millisecond, rounded down, and at least 1.
abbrev pub rate_of : ℕ → ℕ → ℕ
rate_of start end = max (probe_bytes * 1_000 / max (end - start) 1) 1

-- the last of these, as many as are kept
abbrev pub latest : List ℕ → List ℕ
latest rates = drop (length rates - kept_rates) rates

-- the kept rates after another one
abbrev pub with_rate : List ℕ → ℕ → List ℕ
with_rate rates rate = latest (rates ++ rate ∷ [])

-- the kept rates of a peer
abbrev pub rates_of : List (List ℕ) → ℕ → List ℕ
rates_of all peer = slice_index_or all (peer - 1) []

-- m is at this place, counted from 1, when these are put in ascending order: fewer are below it, and as many are at most m
pub record IsAtPlace (place : ℕ) (xs : List ℕ) (m : ℕ) : Type 0 where
  pub below : count_by (λ x. nat_lt x m) xs < place
  pub up_to : place ≤ count_by (λ x. nat_le x m) xs

-- the one in the middle, and the lower one of two there
abbrev pub IsMedian : List ℕ → ℕ → Type 0
IsMedian rates m = IsAtPlace ((length rates + 1) / 2) rates m
