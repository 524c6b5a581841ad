-- The names of nodes.
use Rattle.std.specs.Prelude.{ℕ, Bool, not, ◌&&◌, ◌==◌, nat_le, List, length}
use Rattle.std.specs.List.{list_all}
use Rattle.oc_config.specs.declared.name.TheConstants.{MAX_NAME_BYTES}

-- a byte from 32 to 126, but neither `"` nor a backslash
abbrev pub is_name_byte : ℕ → Bool
is_name_byte b = (nat_le 32 b && nat_le b 126) && (not (b == 34) && not (b == 92))

-- 1 to 64 of these bytes
abbrev pub is_name : List ℕ → Bool
is_name text = not (length text == 0) && (nat_le (length text) MAX_NAME_BYTES && list_all is_name_byte text)
