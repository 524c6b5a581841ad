-- The entry in the body of one content frame, and its bytes.
use Rattle.std.specs.Prelude.{ℕ, ◌+◌, Bool, true, false, ◌==◌, nat_lt, if◌then◌else◌, Option, Some, None, is_some, List, [], ◌∷◌, ◌++◌, length, take, drop}
use Rattle.std.specs.Int.{w64, to_be_bytes, from_be_bytes}
use Rattle.oc_base.specs.Names.{name_fault}

-- an entry: bytes at the end of a group, whose length was `start` before them, and perhaps its seal after them
pub record Entry : Type 0 where
  pub group : List ℕ
  pub start : ℕ
  pub bytes : List ℕ
  pub seals : Bool

-- the entry of a name with the start and the bytes after it, if the name is a group name
abbrev pub named : Bool → List ℕ → List ℕ → Option Entry
named seals name rest =
    if is_some (name_fault name) then None
    else Some (record { group = name; start = from_be_bytes w64 (take 8 rest); bytes = drop 8 rest; seals = seals })

-- the entry of a length of a name, the name, the start and the bytes
abbrev pub fields : Bool → List ℕ → Option Entry
fields seals [] = None
fields seals (n ∷ rest) =
    if nat_lt (length rest) (n + 8) then None else named seals (take n rest) (drop n rest)

-- the entry of a body: a byte 0 begins the sealed form, and the plain form is the fields alone
abbrev pub entry_of : List ℕ → Option Entry
entry_of [] = None
entry_of (b ∷ rest) = if b == 0 then fields true rest else fields false (b ∷ rest)

-- the byte 0 of the sealed form
abbrev pub mark : Bool → List ℕ
mark seals = if seals then 0 ∷ [] else []

-- the bytes before the entry's own bytes
abbrev pub heading : Bool → List ℕ → ℕ → List ℕ
heading seals name start = mark seals ++ ((length name ∷ name) ++ to_be_bytes w64 start)

-- the body of an entry
abbrev pub written : Entry → List ℕ
written e = heading e.seals e.group e.start ++ e.bytes
