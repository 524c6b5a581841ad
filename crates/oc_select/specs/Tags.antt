-- Entity tags (RFC 9110, section 8.8.3), and lists of them.
use Rattle.std.specs.Prelude.{ℕ, Bool, false, not, ◌&&◌, ◌||◌, ◌==◌, nat_le, if◌then◌else◌, List, [], ◌∷◌, ◌++◌, ◌-◌, length, take, drop, slice_index, codes, decimal}
use Rattle.std.specs.Fmt.{digits}
use Rattle.std.specs.List.{list_all, flat_map, onto_first}
use Rattle.std.specs.Str.{byte, bytes_eq}
use Rattle.httparse.specs.Grammar.{trim_ows}
use Rattle.oc_select.specs.declared.content.Content.{Content}
use Rattle.oc_select.specs.declared.content.Source.{Source}
use Rattle.oc_select.specs.declared.content.Source.TheVariants.{Group, File}

-- a number in hexadecimal, in lower case
abbrev pub hexadecimal : ℕ → List ℕ
hexadecimal n = digits 16 false n

-- what a tag has between its quotes: of a group the length, of a file its place, its length and the length of the group's name
abbrev pub tag_name : ℕ → Source → List ℕ
tag_name length (Group is_open) = decimal length
tag_name length (File at name changed) = hexadecimal at ++ codes "-" ++ hexadecimal length ++ codes "-" ++ hexadecimal name

-- the tag of a content, which is a strong one
abbrev pub tag_of : Content → List ℕ
tag_of content = codes "\"" ++ tag_name content.length content.source ++ codes "\""

-- a byte that may be between the quotes of a tag: printed, no space and no quote, or above ASCII
abbrev pub is_tag_byte : ℕ → Bool
is_tag_byte b = b == 33 || (nat_le 35 b && nat_le b 126) || nat_le 128 b

-- a tag without the mark of a weak one
abbrev pub without_mark : List ℕ → List ℕ
without_mark tag = if bytes_eq (take 2 tag) (codes "W/") then drop 2 tag else tag

-- bytes between two quotes
abbrev pub is_quoted : List ℕ → Bool
is_quoted text =
    nat_le 2 (length text) && slice_index text 0 == byte "\"" && slice_index text (length text - 1) == byte "\""
    && list_all is_tag_byte (take (length text - 2) (drop 1 text))

-- a tag, weak or strong
abbrev pub is_tag : List ℕ → Bool
is_tag member = is_quoted (without_mark member)

-- whether a place is within quotes, after one more byte
abbrev pub quoted_after : Bool → ℕ → Bool
quoted_after quoted b = if b == byte "\"" then not quoted else quoted

-- a comma that is not within quotes
abbrev pub is_separator : Bool → ℕ → Bool
is_separator quoted b = b == byte "," && not quoted

-- the parts of a list, which its commas separate, apart from commas within quotes
abbrev pub parts : Bool → List ℕ → List (List ℕ)
parts quoted [] = [] ∷ []
parts quoted (b ∷ rest) =
    if is_separator quoted b then [] ∷ parts false rest
    else onto_first b (parts (quoted_after quoted b) rest)

-- the member that a part is, without the spaces and tabs at both ends; an empty part is none
abbrev pub member_of : List ℕ → List (List ℕ)
member_of part = if length (trim_ows part) == 0 then [] else trim_ows part ∷ []

-- the members of a list
abbrev pub members_in : List ℕ → List (List ℕ)
members_in value = flat_map member_of (parts false value)

-- the members of the fields of a name, which are one list
abbrev pub members : List (List ℕ) → List (List ℕ)
members values = flat_map members_in values
