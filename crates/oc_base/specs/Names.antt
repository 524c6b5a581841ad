use Rattle.std.specs.Prelude.{◌≡◌, ℕ, Bool, true, false, not, ◌&&◌, ◌||◌, ◌==◌, nat_lt, nat_le, if◌then◌else◌, Option, Some, None, Result, Ok, Err, List, [], ◌∷◌, length, position}
use Rattle.std.specs.List.{list_all, slice_split}
use Rattle.oc_base.specs.declared.group_name.NameFault.{NameFault}
use Rattle.oc_base.specs.declared.limits.TheConstants.{MIN_NAME_BYTES, MAX_NAME_BYTES}
use Rattle.oc_base.specs.declared.group_name.NameFault.TheVariants.{Length, Byte, Form}

-- a letter, a digit, or one of `/`, `.`, `_`, `~`, `-`, `+`, `:`, `=`, `@`, `,`, `(` and `)`
abbrev pub is_name_byte : ℕ → Bool
is_name_byte b =
    (nat_le 97 b && nat_le b 122) || (nat_le 65 b && nat_le b 90) || (nat_le 48 b && nat_le b 57)
    || b == 47 || b == 46 || b == 95 || b == 126 || b == 45
    || b == 43 || b == 58 || b == 61 || b == 64 || b == 44 || b == 40 || b == 41

-- a segment between two slashes: not empty, not one dot, and not two dots
abbrev pub is_segment : List ℕ → Bool
is_segment [] = false
is_segment (a ∷ []) = not (a == 46)
is_segment (a ∷ b ∷ []) = not (a == 46 && b == 46)
is_segment (a ∷ b ∷ c ∷ rest) = true

-- a path: a slash, and segments with a slash between each two of them
abbrev pub is_path : List ℕ → Bool
is_path [] = false
is_path (b ∷ rest) = b == 47 && list_all is_segment (slice_split (λ x. x == 47) rest)

-- the fault of a name of a valid length: its first byte that no name has, or else its form
abbrev pub fault_at : Option ℕ → Bool → Option NameFault
fault_at (Some i) formed = Some (Byte i)
fault_at None formed = if formed then None else Some Form

-- the reason why these bytes are no group name, if any: the length first, then the first invalid byte, then the form
abbrev pub name_fault : List ℕ → Option NameFault
name_fault bytes =
    if nat_lt (length bytes) MIN_NAME_BYTES || nat_lt MAX_NAME_BYTES (length bytes) then Some Length
    else fault_at (position (λ b. not (is_name_byte b)) bytes) (is_path bytes)

-- the fault, or the bytes where there is none
abbrev pub name_or : List ℕ → Option NameFault → Result (List ℕ) NameFault
name_or bytes None = Ok bytes
name_or bytes (Some fault) = Err fault

-- the result of parsing: the bytes themselves, or the first fault
abbrev pub parsed_name : List ℕ → Result (List ℕ) NameFault
parsed_name bytes = name_or bytes (name_fault bytes)

-- a group name
abbrev pub IsGroupName : List ℕ → Type 0
IsGroupName bytes = name_fault bytes ≡ None
