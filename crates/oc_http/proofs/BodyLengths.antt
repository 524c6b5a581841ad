-- The length of a request's body, test by test, and the first fault of the head are one.
use Rattle.std.proofs.Common.{◌≡◌, ℕ, Bool, true, false, cond, List, [], ◌∷◌, length, Option, Some, None, Ok, Err, refl}
use Rattle.std.specs.Prelude.{◌&&◌, not, nat_lt, unwrap_or}
use Rattle.oc_base.specs.Steps.{◌>>=◌}
use Rattle.oc_base.specs.declared.limits.TheConstants.{MAX_FIELDS, MAX_BODY_BYTES}
use Rattle.oc_http.specs.Fields.{Named, is_present, is_unusable, length_of, hosts, codings, lengths}
use Rattle.oc_http.specs.Lengths.{fault_or, checked_length}
use Rattle.oc_http.specs.Fields.{has_host_fault}
use Rattle.oc_http.specs.Requests.{head_fault, is_post, wanted_length, body_length}
use Rattle.oc_http.specs.declared.fault.HttpFault.{HttpFault}
use Rattle.oc_http.specs.declared.fault.HttpFault.TheVariants.{Fields, Host, Coding, Length, BodyLong}
use Rattle.oc_http.specs.declared.head.Method.{Method}

-- the first fault of the lengths that are told
abbrev length_fault : Bool → List (List ℕ) → Option HttpFault
length_fault wanted told = cond (is_unusable told) (Some (Length false)) (cond (wanted && not (is_present told)) (Some (Length true)) (cond (nat_lt MAX_BODY_BYTES (unwrap_or (length_of told) 0)) (Some BodyLong) None))

-- one number, which may be too great
great : (long : Bool) (count : ℕ) → cond long (Err BodyLong) (Ok count) ≡ fault_or count (cond long (Some BodyLong) None)
great true count = refl
great false count = refl

-- one field, which may be no number
one : (bad wanted : Bool) (count : ℕ) → (cond bad (Err (Length false)) (Ok (Some count)) >>= wanted_length wanted) ≡ fault_or count (cond bad (Some (Length false)) (cond (wanted && false) (Some (Length true)) (cond (nat_lt MAX_BODY_BYTES count) (Some BodyLong) None)))
one true wanted count = refl
one false true count = great (nat_lt MAX_BODY_BYTES count) count
one false false count = great (nat_lt MAX_BODY_BYTES count) count

-- the lengths that are told, without a transfer coding
told_is : (wanted : Bool) (told : List (List ℕ)) → (checked_length [] told >>= wanted_length wanted) ≡ fault_or (unwrap_or (length_of told) 0) (length_fault wanted told)
told_is true [] = refl
told_is false [] = refl
told_is wanted (value ∷ []) = one (is_unusable (value ∷ [])) wanted (unwrap_or (length_of (value ∷ [])) 0)
told_is wanted (value ∷ second ∷ more) = refl

-- all tests of a head, as values
tests : (over host wanted : Bool) (coded told : List (List ℕ)) → cond over (Err Fields) (cond host (Err Host) (checked_length coded told >>= wanted_length wanted)) ≡ fault_or (unwrap_or (length_of told) 0) (cond over (Some Fields) (cond host (Some Host) (cond (is_present coded) (Some (Coding (is_present told))) (length_fault wanted told))))
tests true host wanted coded told = refl
tests false true wanted coded told = refl
tests false false wanted [] told = told_is wanted told
tests false false wanted (value ∷ more) told = refl

-- the two definitions of the length of a body are one
pub length_is : (method : Method) (minor : ℕ) (fields : List Named) → body_length method minor fields ≡ fault_or (unwrap_or (length_of (lengths fields)) 0) (head_fault method minor fields)
length_is method minor fields = tests (nat_lt MAX_FIELDS (length fields)) (has_host_fault minor (hosts fields)) (is_post method) (codings fields) (lengths fields)
