-- Ranges of bytes (RFC 9110, section 14), and the parts of a content that they are.
use Rattle.std.specs.Prelude.{ℕ, ◌+◌, ◌-◌, ◌≤◌, Bool, ◌&&◌, ◌==◌, nat_lt, nat_le, min, if◌then◌else◌, Option, Some, None, option_and_then, is_none, List, length, codes, position}
use Rattle.std.specs.Char.{is_ascii_digit}
use Rattle.std.specs.List.{list_all, before_first, after_first}
use Rattle.std.specs.Str.{byte, str_eq_ignore_ascii_case}
use Rattle.std.specs.Str.Parse.{digits_value}
use Rattle.oc_select.specs.Values.{only_of}
use Rattle.oc_select.specs.declared.range.Range.{Range}
use Rattle.oc_select.specs.declared.range.Range.TheVariants.{Between, From, Last}
use Rattle.oc_select.specs.declared.selection.Selection.{Selection}
use Rattle.oc_select.specs.declared.selection.Selection.TheVariants.{Whole, Part, Unsatisfiable}

-- 1 to 19 digits
abbrev pub is_number : List ℕ → Bool
is_number text = nat_le 1 (length text) && nat_le (length text) 19 && list_all is_ascii_digit text

-- the number that a text spells
abbrev pub number_in : List ℕ → Option ℕ
number_in text = if is_number text then Some (digits_value 10 text) else None

-- a range from a place to a place that is not before it
abbrev pub between : Option ℕ → Option ℕ → Option Range
between None last = None
between (Some first) None = None
between (Some first) (Some last) = if nat_le first last then Some (Between first last) else None

abbrev pub from : Option ℕ → Option Range
from None = None
from (Some first) = Some (From first)

abbrev pub last : Option ℕ → Option Range
last None = None
last (Some count) = Some (Last count)

-- the range with these texts before and after its `-`
abbrev pub range_of : List ℕ → List ℕ → Option Range
range_of before after =
    if length before == 0 then last (number_in after)
    else if length after == 0 then from (number_in before)
    else between (number_in before) (number_in after)

-- the one range that a text spells: `a-b`, `a-` or `-n`
abbrev pub range_spelled : List ℕ → Option Range
range_spelled text =
    if is_none (position (λ b. b == byte "-") text) then None
    else range_of (before_first (λ b. b == byte "-") text) (after_first (λ b. b == byte "-") text)

-- the range that a value of Range asks for, which is `bytes`, in any case, `=` and one range
abbrev pub range_in : List ℕ → Option Range
range_in value =
    if str_eq_ignore_ascii_case (before_first (λ b. b == byte "=") value) (codes "bytes") then range_spelled (after_first (λ b. b == byte "=") value)
    else None

-- the range that the Range field asks for, where there is just one field
abbrev pub range_asked : List (List ℕ) → Option Range
range_asked values = option_and_then range_in (only_of values)

-- a range that does not end before it begins
abbrev pub IsInOrder : Range → Type 0
IsInOrder (Between first last) = first ≤ last
IsInOrder (From first) = Unit {0}
IsInOrder (Last count) = Unit {0}

-- the part of a content of this length that a range is: what the content has of it. One that begins at or past the end can't be given;
-- the last bytes of a content of no bytes are all of it
abbrev pub part_of : ℕ → Range → Selection
part_of length (Between first last) =
    if nat_lt first length then Part first (min last (length - 1) - first + 1) else Unsatisfiable
part_of length (From first) = if nat_lt first length then Part first (length - first) else Unsatisfiable
part_of length (Last count) =
    if count == 0 then Unsatisfiable
    else if length == 0 then Whole
    else Part (length - min count length) (min count length)
