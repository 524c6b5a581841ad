-- Headings, and the bodies after them.
use Rattle.std.specs.Prelude.{◌≡◌, ℕ, ◌+◌, ◌-◌, ◌<◌, ◌≤◌, Option, None, Some, List, drop, length}
use Rattle.oc_content.specs.declared.heading.Heading.{Heading}
use Rattle.oc_content.specs.Entries.{Entry}

-- the entry of a body with this heading
abbrev pub entry_at : Heading → List ℕ → Entry
entry_at h body = record { group = h.group; start = h.start; bytes = drop h.skip body; seals = h.seals }

-- the entry of a body, by the heading that was read
abbrev pub IsBehind : Option Heading → List ℕ → Option Entry → Type 0
IsBehind None body said = said ≡ None
IsBehind (Some h) body said = said ≡ Some (entry_at h body)

-- the same for fields that come after `before` bytes of the body
abbrev pub IsHeadingOf : ℕ → List ℕ → Option Heading → Option Entry → Type 0
IsHeadingOf before bytes None said = said ≡ None
IsHeadingOf before bytes (Some h) said =
    (said ≡ Some (record { group = h.group; start = h.start; bytes = drop (h.skip - before) bytes; seals = h.seals }))
    × (before < h.skip) × (h.skip ≤ before + length bytes) × (h.skip < 512)
