-- The path and the query of a request's target.
use Rattle.std.specs.Prelude.{ℕ, Bool, ◌==◌, if◌then◌else◌, Option, Some, None, List, length, take, drop, codes}
use Rattle.std.specs.List.{before_first, after_first, position}
use Rattle.std.specs.Str.{byte}
use Rattle.oc_http.specs.Fields.{is_alike}

-- the beginning of a target that has scheme and authority, in upper or lower case
abbrev pub scheme : List ℕ
scheme = codes "http://"

abbrev pub is_absolute : List ℕ → Bool
is_absolute target = is_alike (take (length scheme) target) scheme

-- the bytes from a place on, or a slash where there is none
abbrev pub from_place : List ℕ → Option ℕ → List ℕ
from_place rest None = codes "/"
from_place rest (Some at) = drop at rest

-- the bytes from the first slash on, or a slash where there is none
abbrev pub from_slash : List ℕ → List ℕ
from_slash rest = from_place rest (position (λ b. b == byte "/") rest)

-- the target without scheme and authority
abbrev pub origin_form : List ℕ → List ℕ
origin_form target = if is_absolute target then from_slash (drop (length scheme) target) else target

-- the path of a target, without its query
abbrev pub path_of : List ℕ → List ℕ
path_of target = before_first (λ b. b == byte "?") (origin_form target)

-- the query of a target: the bytes after the first question mark
abbrev pub query_of : List ℕ → List ℕ
query_of target = after_first (λ b. b == byte "?") (origin_form target)
