-- Fields other than numbers, and the text of bytes.
use Rattle.std.specs.Prelude.{ℕ, ◌==◌, if◌then◌else◌, Result, Ok, Err, List, [], ◌∷◌, length, codes}
use Rattle.std.specs.Str.{bytes_eq}
use Rattle.hex.specs.Hex.{decode_of, encode_lower}
use Rattle.oc_base.specs.Names.{parsed_name}
use Rattle.oc_base.specs.Steps.{with_fault}
use Rattle.oc_base.specs.declared.why.Why.{Why}
use Rattle.oc_base.specs.declared.why.Why.TheVariants.{Group, Hex}

-- the group that a field names
abbrev pub group_in : List ℕ → Result (List ℕ) Why
group_in field = with_fault Group (parsed_name field)

-- the bytes that a field writes in hexadecimal; none for `-`
abbrev pub bytes_in : List ℕ → Result (List ℕ) Why
bytes_in field =
    if bytes_eq field (codes "-") then Ok []
    else if length field == 0 then Err Hex
    else with_fault Hex (decode_of field)

-- bytes in hexadecimal, or `-` for none
abbrev pub bytes_text : List ℕ → List ℕ
bytes_text [] = codes "-"
bytes_text (b ∷ bs) = encode_lower (b ∷ bs)
