-- The head of a request, and its faults.
use Rattle.std.specs.Prelude.{ℕ, Bool, true, false, not, ◌&&◌, ◌==◌, nat_lt, if◌then◌else◌, Option, Some, None, unwrap_or, Result, Ok, Err, List, [], ◌∷◌, length, take, codes}
use Rattle.std.specs.Str.{bytes_eq}
use Rattle.httparse.specs.Grammar.{RequestHead}
use Rattle.oc_base.specs.Steps.{◌>>=◌}
use Rattle.oc_base.specs.declared.limits.TheConstants.{MAX_FIELDS, MAX_BODY_BYTES}
use Rattle.oc_http.specs.Fields.{Named, named, is_present, is_only, is_unusable, length_of, only_of, hosts, codings, lengths, expectations, authorizations, macs, closes, has_host_fault, selectors_of}
use Rattle.oc_http.specs.Escapes.{decoded}
use Rattle.oc_http.specs.Targets.{path_of, query_of}
use Rattle.oc_http.specs.Lengths.{fault_or, checked_length}
use Rattle.oc_http.specs.declared.fault.HttpFault.{HttpFault}
use Rattle.oc_http.specs.declared.fault.HttpFault.TheVariants as faults
use Rattle.oc_http.specs.declared.head.Head.{Head}
use Rattle.oc_http.specs.declared.head.Method.{Method}
use Rattle.oc_http.specs.declared.head.Method.TheVariants as methods

-- the method that a text names
abbrev pub method_of : List ℕ → Method
method_of method =
    if bytes_eq method (codes "GET") then methods.Get
    else if bytes_eq method (codes "HEAD") then methods.Head
    else if bytes_eq method (codes "POST") then methods.Post
    else methods.Other

abbrev pub is_post : Method → Bool
is_post methods.Post = true
is_post method = false

-- the bytes without the empty lines with which they begin
abbrev pub after_empty_lines : List ℕ → List ℕ
after_empty_lines [] = []
after_empty_lines (a ∷ []) = if a == 10 then [] else a ∷ []
after_empty_lines (a ∷ b ∷ rest) =
    if a == 10 then after_empty_lines (b ∷ rest)
    else if a == 13 && b == 10 then after_empty_lines rest
    else a ∷ b ∷ rest

-- bytes of a request that begin with `HEAD`, empty lines aside
abbrev pub begins_with_head : List ℕ → Bool
begins_with_head bytes = bytes_eq (take 4 (after_empty_lines bytes)) (codes "HEAD")

-- the first fault of a request's head
abbrev pub head_fault : Method → ℕ → List Named → Option HttpFault
head_fault method minor fields =
    if nat_lt MAX_FIELDS (length fields) then Some faults.Fields
    else if has_host_fault minor (hosts fields) then Some faults.Host
    else if is_present (codings fields) then Some (faults.Coding (is_present (lengths fields)))
    else if is_unusable (lengths fields) then Some (faults.Length false)
    else if is_post method && not (is_present (lengths fields)) then Some (faults.Length true)
    else if nat_lt MAX_BODY_BYTES (unwrap_or (length_of (lengths fields)) 0) then Some faults.BodyLong
    else None

-- the length that is given, 0 where none is; a required length that is missing, or one that is too great, is a fault
abbrev pub wanted_length : Bool → Option ℕ → Result ℕ HttpFault
wanted_length wanted None = if wanted then Err (faults.Length true) else Ok 0
wanted_length wanted (Some count) = if nat_lt MAX_BODY_BYTES count then Err faults.BodyLong else Ok count

-- the length of a request's body, or the first fault of the head, test by test
abbrev pub body_length : Method → ℕ → List Named → Result ℕ HttpFault
body_length method minor fields =
    if nat_lt MAX_FIELDS (length fields) then Err faults.Fields
    else if has_host_fault minor (hosts fields) then Err faults.Host
    else (checked_length (codings fields) (lengths fields) >>= wanted_length (is_post method))

-- a request of version 1.1 that waits for 100 Continue before it sends the body
abbrev pub expects : ℕ → List Named → Bool
expects minor fields = minor == 1 && is_only (codes "100-continue") (expectations fields)

-- the head that these parts give
abbrev pub head_of : List ℕ → List ℕ → ℕ → List Named → Head
head_of method target minor fields = record {
  method = method_of method;
  path = decoded (path_of target);
  query = query_of target;
  length = unwrap_or (length_of (lengths fields)) 0;
  expects = expects minor fields;
  minor = minor;
  closes = closes fields;
  has_authorization = is_present (authorizations fields);
  authorization = only_of (authorizations fields);
  mac = only_of (macs fields);
  selectors = selectors_of fields;
}

-- the head that these parts give, or its first fault
abbrev pub read_request_parts : List ℕ → List ℕ → ℕ → List Named → Result Head HttpFault
read_request_parts method target minor fields =
    fault_or (head_of method target minor fields) (head_fault (method_of method) minor fields)

-- the contents of a whole head, or its first fault
abbrev pub read_request : RequestHead → Result Head HttpFault
read_request head = read_request_parts head.method head.target head.minor (named head.fields)
