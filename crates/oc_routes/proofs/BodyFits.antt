-- A head that has no fault tells a body within the limit.
use Rattle.std.proofs.Common.{◌≡◌, ◌≤◌, ℕ, nat_lt, false, true, Bool, Some, None, Ok, List, ◌++◌, length, refl, sym, ap, subst, ◌∙◌, arith, cond}
use Rattle.std.specs.Prelude.{unwrap_or, ◌&&◌, not}
use Rattle.std.proofs.lemmas.Bool.Decides.{nat_tests}
use Rattle.oc_base.specs.declared.limits.TheConstants.{MAX_BODY_BYTES, MAX_FIELDS}
use Rattle.oc_http.specs.Fields.{Named, named, is_present, is_unusable, length_of, lengths, hosts, codings, has_host_fault}
use Rattle.oc_http.specs.Lengths.{fault_or}
use Rattle.oc_http.specs.Requests.{head_of, is_post, read_request_parts, method_of}
use Rattle.oc_http.specs.Taking.{SaysRequest}
use Rattle.oc_http.specs.declared.fault.HttpFault.{HttpFault}
use Rattle.oc_http.specs.declared.fault.HttpFault.TheVariants as http
use Rattle.oc_http.specs.declared.head.Head.{Head}

fits : (a b c d e : Bool) (x : HttpFault) (y : HttpFault) (z : HttpFault) (u : HttpFault) (v : HttpFault) (n : ℕ) (told head : Head) → told.length ≡ n
    → fault_or told (cond a (Some x) (cond b (Some y) (cond c (Some z) (cond d (Some u) (cond e (Some v) (cond (nat_lt MAX_BODY_BYTES n) (Some http.BodyLong) None)))))) ≡ Ok head → head.length ≤ MAX_BODY_BYTES
fits true b c d e x y z u v n told head is says = cc
fits false true c d e x y z u v n told head is says = cc
fits false false true d e x y z u v n told head is says = cc
fits false false false true e x y z u v n told head is says = cc
fits false false false false true x y z u v n told head is says = cc
fits false false false false false x y z u v n told head is says = short (nat_lt MAX_BODY_BYTES n) refl says
  where
    short : (long : Bool) → long ≡ nat_lt MAX_BODY_BYTES n → fault_or told (cond long (Some http.BodyLong) None) ≡ Ok head → head.length ≤ MAX_BODY_BYTES
    short true e says = cc
    short false e says =
        let same : told ≡ head = cc in
        let count : head.length ≡ n = ap (λ (h : Head). h.length) (sym same) ∙ is in
        let within : n ≤ MAX_BODY_BYTES = grind (arith, nat_tests) in
        subst (λ (m : ℕ). m ≤ MAX_BODY_BYTES) (sym count) within

parts_fit : (method target : List ℕ) (minor : ℕ) (fields : List Named) (head : Head) → read_request_parts method target minor fields ≡ Ok head → head.length ≤ MAX_BODY_BYTES
parts_fit method target minor fields head =
    fits (nat_lt MAX_FIELDS (length fields)) (has_host_fault minor (hosts fields)) (is_present (codings fields)) (is_unusable (lengths fields)) (is_post (method_of method) && not (is_present (lengths fields)))
    http.Fields http.Host (http.Coding (is_present (lengths fields))) (http.Length false) (http.Length true) (unwrap_or (length_of (lengths fields)) 0) (head_of method target minor fields) head refl

body_fits : (bytes : List ℕ) (head : Head) → SaysRequest bytes head → head.length ≤ MAX_BODY_BYTES
body_fits bytes head says = parts_fit says.head.method says.head.target says.head.minor (named says.head.fields) head says.answer_is

-- a head that was read tells a body within the limit
pub says_fits : {S : Type 0} (left : S → List ℕ) (old new : S) (head : Head) → ((bytes : List ℕ) × (left old ≡ bytes ++ left new) × SaysRequest bytes head) → head.length ≤ MAX_BODY_BYTES
says_fits left old new head read = body_fits (read.0) head (read.2)
