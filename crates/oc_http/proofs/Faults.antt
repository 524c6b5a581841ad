-- Values, or first faults.
use Rattle.std.proofs.Common.{◌≡◌, ℕ, inl, inr, arith, Option, Some, None, Result, Ok, Err, refl, ap}
use Rattle.std.specs.Prelude.{IsErrOf}
use Rattle.oc_io.specs.Faults.{NoFall, Rose}
use Rattle.oc_http.specs.Lengths.{fault_or}
use Rattle.oc_http.specs.Gives.{Gives, Fails}
use Rattle.oc_http.specs.declared.fault.HttpFault.{HttpFault}
use Rattle.oc_http.specs.declared.fault.HttpFault.TheVariants.{Memory}

-- a value means that there is no fault, and any other value would do
pub fault_or-ok : {A B : Type 0} (value : A) (other : B) (first : Option HttpFault) (got : A) → Ok got ≡ fault_or value first → (value ≡ got) × (fault_or other first ≡ Ok other)
fault_or-ok value other None got h = (cc, refl)
fault_or-ok value other (Some fault) got h = cc

-- a fault is that of any value
pub fault_or-err : {A B : Type 0} (value : A) (other : B) (first : Option HttpFault) (fault : HttpFault) → Err fault ≡ fault_or value first → fault_or other first ≡ Err fault
fault_or-err value other None fault h = cc
fault_or-err value other (Some first) fault h = cc

-- the fault that is said
pub Fails-same : {A : Type 0} (fault : HttpFault) (said : Result A HttpFault) → said ≡ Err fault → Fails fault said
Fails-same Memory said h = tt
Fails-same fault said h = h

-- the result that is said
pub Gives-same : {A : Type 0} (returned said : Result A HttpFault) → said ≡ returned → Gives returned said
Gives-same (Ok value) said h = h
Gives-same (Err fault) said h = Fails-same fault said h

-- a fault has its cause whatever value there was to give
pub same_cause : {A B R : Type 0} (fault cause : HttpFault) → (IsErrOf {T = A} (Err fault) cause → R) → IsErrOf {T = B} (Err fault) cause → R
same_cause fault cause told is = let same : fault ≡ cause = cc in told (ap Err same)

-- a count that rose at the end rose in all
pub Rose-later : (a b c : ℕ) → NoFall a b → Rose b c → Rose a c
Rose-later a b c less (inl h) = inl (omega (arith, less, h))
Rose-later a b c less (inr h) = inr h
