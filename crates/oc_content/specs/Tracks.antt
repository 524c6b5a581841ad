-- The spans of a group.
use Rattle.std.specs.Prelude.{ℕ, ◌-◌, ◌<◌, ◌≤◌, suc, Option, Some, None, List, length, vec_len, vec_capacity}
use Rattle.std.specs.List.{AllWithin}
use Rattle.std.specs.List.Sorted.{IsNonDecreasingBy}
use Rattle.oc_content.specs.declared.track.Span.{Span}
use Rattle.oc_content.specs.declared.track.Track.{Track}

-- the number of further spans for which a track has memory
abbrev pub room_of : Track → ℕ
room_of t = vec_capacity t.spans - vec_len t.spans

-- the last of the ascending spans that begins at this byte or before it; none if each begins after it
abbrev pub IsLastBefore : List Span → ℕ → Option ℕ → Type 0
IsLastBefore spans start None = IsNonDecreasingBy (λ s. s.start) spans → AllWithin (λ s. start < s.start) spans 0 (length spans)
IsLastBefore spans start (Some i) =
    (i < length spans) × (IsNonDecreasingBy (λ s. s.start) spans → AllWithin (λ s. s.start ≤ start) spans 0 (suc i) × AllWithin (λ s. start < s.start) spans (suc i) (length spans))
