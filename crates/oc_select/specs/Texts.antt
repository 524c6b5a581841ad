-- The texts of the fields of a reply.
use Rattle.std.specs.Prelude.{ℕ, ◌+◌, ◌-◌, if◌then◌else◌, List, ◌++◌, codes, decimal}
use Rattle.oc_select.specs.declared.content.Content.{Content}
use Rattle.oc_select.specs.declared.content.Source.{Source}
use Rattle.oc_select.specs.declared.content.Source.TheVariants.{Group, File}

-- the length of a content that a part tells, and `*` where it is open
abbrev pub length_told : ℕ → Source → List ℕ
length_told length (Group is_open) = if is_open then codes "*" else decimal length
length_told length (File at name changed) = decimal length

-- the value of Content-Range with a part of a content: its first and its last byte, and the length
abbrev pub part_range : Content → ℕ → ℕ → List ℕ
part_range content start count =
    codes "bytes " ++ decimal start ++ codes "-" ++ decimal (start + count - 1) ++ codes "/" ++ length_told content.length content.source

-- the value of Content-Range where no byte of the range is there
abbrev pub no_range : ℕ → List ℕ
no_range length = codes "bytes */" ++ decimal length
