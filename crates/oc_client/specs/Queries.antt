-- The parts of a URL's query that a client uses to follow a group.
use Rattle.std.specs.Prelude.{ℕ, Bool, ◌==◌, ◌||◌, bytes_eq, is_some, if◌then◌else◌, Option, Some, None, unwrap_or, Result, Ok, Err, List, [], ◌∷◌, codes}
use Rattle.std.specs.Option.{option_or}
use Rattle.oc_base.specs.declared.limits.TheConstants.{MAX_START}
use Rattle.oc_base.specs.declared.why.Why.{Why}
use Rattle.oc_base.specs.Words.{number_in}
use Rattle.oc_http.specs.Queries.{parts}

-- the bytes after a prefix, if the bytes begin with it
abbrev pub behind : List ℕ → List ℕ → Option (List ℕ)
behind [] bytes = Some bytes
behind (p ∷ prefix) [] = None
behind (p ∷ prefix) (b ∷ bytes) = if b == p then behind prefix bytes else None

-- the first value of a name with its `=`
abbrev pub first_value : List ℕ → List (List ℕ) → Option (List ℕ)
first_value name [] = None
first_value name (part ∷ more) = option_or (behind name part) (first_value name more)

-- the start that a value spells, if the value is a number within the limit
abbrev pub start_spelled : Result ℕ Why → Option ℕ
start_spelled (Ok start) = Some start
start_spelled (Err why) = None

-- the start that a part gives
abbrev pub start_said : Option (List ℕ) → Option ℕ
start_said None = None
start_said (Some value) = start_spelled (number_in 0 MAX_START value)

-- the first start that some part gives
abbrev pub first_start : List (List ℕ) → Option ℕ
first_start [] = None
first_start (part ∷ more) = option_or (start_said (behind (codes "start=") part)) (first_start more)

-- the start of a URL, and 0 where the query gives none
abbrev pub start_of : Option (List ℕ) → ℕ
start_of None = 0
start_of (Some query) = unwrap_or (first_start (parts query)) 0

-- whether a part gives knowledge of a group: it is `known`, or begins with `of=`
abbrev pub is_knowledge : List ℕ → Bool
is_knowledge part = bytes_eq part (codes "known") || is_some (behind (codes "of=") part)

-- the first part that gives knowledge of a group
abbrev pub first_knowledge : List (List ℕ) → Option (List ℕ)
first_knowledge [] = None
first_knowledge (part ∷ more) = if is_knowledge part then Some part else first_knowledge more

-- the knowledge of a group in a URL's query, as text
abbrev pub knowledge_of : Option (List ℕ) → Option (List ℕ)
knowledge_of None = None
knowledge_of (Some query) = first_knowledge (parts query)

-- the area in a URL's query, as text
abbrev pub area_of : Option (List ℕ) → Option (List ℕ)
area_of None = None
area_of (Some query) = first_value (codes "area=") (parts query)
