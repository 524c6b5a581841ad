-- Prefixes of group names.
use Rattle.std.specs.Prelude.{◌≡◌, ℕ, ◌++◌, Bool, ◌||◌, nat_eq, if◌then◌else◌, Option, None, Result, List, codes}
use Rattle.std.specs.List.{starts_with}
use Rattle.std.specs.Str.{bytes_eq}
use Rattle.oc_base.specs.Names.{name_fault, name_or}
use Rattle.oc_base.specs.declared.group_name.NameFault.{NameFault}

-- the fault of bytes that are no prefix; one slash is a prefix, and any other is a group name
abbrev pub prefix_fault : List ℕ → Option NameFault
prefix_fault bytes = if bytes_eq bytes (codes "/") then None else name_fault bytes

-- a prefix: a slash alone, or a group name
abbrev pub IsPrefix : List ℕ → Type 0
IsPrefix bytes = prefix_fault bytes ≡ None

-- the result of parsing: these very bytes, or the first fault
abbrev pub parsed_prefix : List ℕ → Result (List ℕ) NameFault
parsed_prefix bytes = name_or bytes (prefix_fault bytes)

-- whether a name is within a prefix: the prefix is `/`, or is the name, or the name begins with the prefix and a `/`
abbrev pub is_within : List ℕ → List ℕ → Bool
is_within prefix name =
    bytes_eq prefix (codes "/") || bytes_eq prefix name || starts_with nat_eq name (prefix ++ codes "/")
