-- Fields of a binary format.
use Rattle.std.specs.Prelude.{ℕ, ◌+◌, nat_lt, if◌then◌else◌, Result, Ok, Err, List, length, take, drop}
use Rattle.std.specs.Int.{Width, byte_len, from_be_bytes}
use Rattle.oc_base.specs.declared.field.Short.{Short}

-- the big-endian number of this width at a place, and the next place; `Short` exactly where too few bytes are left
abbrev pub number_at : Width → List ℕ → ℕ → Result (ℕ × ℕ) Short
number_at w bytes at =
    if nat_lt (length bytes) (at + byte_len w) then Err (record {})
    else Ok (from_be_bytes w (take (byte_len w) (drop at bytes)), at + byte_len w)
