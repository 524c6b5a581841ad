-- The length that the fields of a head give, or the first fault.
use Rattle.std.specs.Prelude.{ℕ, false, if◌then◌else◌, Option, Some, None, Result, Ok, Err, List}
use Rattle.oc_http.specs.Fields.{is_present, is_unusable, length_of}
use Rattle.oc_http.specs.declared.fault.HttpFault.{HttpFault}
use Rattle.oc_http.specs.declared.fault.HttpFault.TheVariants.{Coding, Length}

-- the value, or the first fault where there is one
abbrev pub fault_or : {A : Type 0} → A → Option HttpFault → Result A HttpFault
fault_or value None = Ok value
fault_or value (Some fault) = Err fault

-- the length that the fields give, or its fault
abbrev pub content_length : List (List ℕ) → Result (Option ℕ) HttpFault
content_length values = if is_unusable values then Err (Length false) else Ok (length_of values)

-- the length or the first fault: a transfer coding is refused first, then a length that is not just one number
abbrev pub checked_length : List (List ℕ) → List (List ℕ) → Result (Option ℕ) HttpFault
checked_length codings lengths = if is_present codings then Err (Coding (is_present lengths)) else content_length lengths
