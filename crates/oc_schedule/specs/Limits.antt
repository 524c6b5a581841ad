-- The limits on the text of a schedule.
use Rattle.std.specs.Prelude.{ℕ, Bool, true, false, List, codes}
use Rattle.oc_base.specs.declared.limits.TheConstants.{MAX_SCHEDULE_LINES, MAX_SCHEDULE_BYTES, MAX_SCHEDULE_PUBLISHED, MAX_SCHEDULE_SETTLES}
use Rattle.oc_schedule.specs.declared.fault.What.{What}
use Rattle.oc_schedule.specs.declared.fault.What.TheVariants.{Lines, Bytes, Published, Settles}
use Rattle.oc_schedule.specs.declared.scale.Scale.{Scale}
use Rattle.oc_schedule.specs.declared.scale.Scale.TheVariants.{Usual, Large}
use Rattle.oc_schedule.specs.declared.scale.TheConstants.{MAX_LARGE_LINES, MAX_LARGE_BYTES, MAX_LARGE_PUBLISHED}

-- the greatest number of each; the limit on settles is the same in a large schedule, since each may take very long
abbrev pub most_of : Scale → What → ℕ
most_of Usual Lines = MAX_SCHEDULE_LINES
most_of Usual Bytes = MAX_SCHEDULE_BYTES
most_of Usual Published = MAX_SCHEDULE_PUBLISHED
most_of Usual Settles = MAX_SCHEDULE_SETTLES
most_of Large Lines = MAX_LARGE_LINES
most_of Large Bytes = MAX_LARGE_BYTES
most_of Large Published = MAX_LARGE_PUBLISHED
most_of Large Settles = MAX_SCHEDULE_SETTLES

abbrev pub is_large : Scale → Bool
is_large Usual = false
is_large Large = true

-- the word that names each limit
abbrev pub what_text : What → List ℕ
what_text Lines = codes "lines"
what_text Bytes = codes "bytes"
what_text Published = codes "published"
what_text Settles = codes "settles"
