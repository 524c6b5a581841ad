-- Reading records one after the other, as a loop does.
use Rattle.std.proofs.Common.{◌≡◌, ℕ, zero, suc, ◌-◌, ◌+◌, ◌≤◌, ◌<◌, List, [], ◌∷◌, ◌++◌, length, Result, Ok, Err, refl, sym, ap, ◌∙◌, append_assoc, arith, IfOk}
use Rattle.std.specs.Global.{Vec}
use Rattle.std.proofs.lemmas.Bool.{lt-ltb, le-ltb}
use Rattle.std.proofs.lemmas.List.{append-nil, length-append}
use Rattle.oc_model.specs.declared.record.Record.{Record}
use Rattle.oc_record.specs.declared.fault.RecordFault.{RecordFault}
use Rattle.oc_record.specs.declared.fault.RecordFault.TheVariants as faults
use Rattle.oc_record.specs.Reading.{Gives, GivesList, record_at, records_at, decoded}
use Rattle.oc_base.specs.Steps.{◌>>=◌}
use Rattle.oc_base.proofs.TextsAt.{IsBytes}
use Rattle.oc_record.specs.Spelling.{records_bytes}
use Rattle.oc_model.specs.Lawful.{AreRecords}
use Rattle.oc_record.proofs.ListLaws.{is_spelled}
use Rattle.oc_record.proofs.RecordReads.{record_takes}

-- the records read before, and after them those that are still read
abbrev pub with_front : List Record → Result (List Record) RecordFault → Result (List Record) RecordFault
with_front front read = read >>= λ rest. Ok (front ++ rest)

-- the records so far and those that are still read are all, and each took a byte at least
pub record IsUnderWay (nodes : ℕ) (bytes : List ℕ) (front : List Record) (at : ℕ) : Type 0 where
  pub whole : with_front front (records_at nodes (length bytes - length front) bytes at) ≡ decoded nodes bytes
  pub fewer : length front ≤ at

-- one more record in front
regroup : (front : List Record) (r : Record) (read : Result (List Record) RecordFault) → with_front front (read >>= λ rest. Ok (r ∷ rest)) ≡ with_front (front ++ r ∷ []) read
regroup front r (Ok rest) = ap (λ (rs : List Record). Ok rs) (simp append_assoc)
regroup front r (Err fault) = refl

-- a record is read
pub goes_on : (nodes : ℕ) (bytes : List ℕ) (front : List Record) (at : ℕ) (r : Record) (next : ℕ) → IsBytes bytes → at < length bytes → record_at nodes bytes at ≡ Ok (r, next)
    → IsUnderWay nodes bytes front at → IsUnderWay nodes bytes (front ++ r ∷ []) next × (at < next)
unfolding records_at
goes_on nodes bytes front at r next fits lt read way =
    let t = record_takes nodes bytes at (r, next) fits read in
    let less : length (front ++ r ∷ []) ≡ length front + 1 = omega (arith, length-append front (r ∷ [])) in
    let k : length bytes - length front ≡ suc (length bytes - length (front ++ r ∷ [])) = omega (arith, lt, way.fewer, less) in
    let one : with_front front (records_at nodes (length bytes - length front) bytes at) ≡ with_front (front ++ r ∷ []) (records_at nodes (length bytes - length (front ++ r ∷ [])) bytes next) =
    rw (k, lt-ltb at (length bytes) lt, read) (regroup front r (records_at nodes (length bytes - length (front ++ r ∷ [])) bytes next)) in
    (record { whole = sym one ∙ way.whole; fewer = omega (arith, less, way.fewer, t.0.moved) }, omega (arith, t.0.moved))

-- the first fault
first_fault : (nodes : ℕ) (bytes : List ℕ) (front : List Record) (at : ℕ) (fault : RecordFault) → at < length bytes → record_at nodes bytes at ≡ Err fault
    → IsUnderWay nodes bytes front at → decoded nodes bytes ≡ Err fault
unfolding records_at
first_fault nodes bytes front at fault lt read way =
    let k : length bytes - length front ≡ suc (length bytes - (length front + 1)) = omega (arith, lt, way.fewer) in
    let one : with_front front (records_at nodes (length bytes - length front) bytes at) ≡ Err fault = rw (k, lt-ltb at (length bytes) lt, read) refl in
    sym way.whole ∙ one

-- a fault is the fault of all
pub ends : (nodes : ℕ) (bytes : List ℕ) (front : List Record) (at : ℕ) (fault : RecordFault) → at < length bytes → Gives (Err fault) (record_at nodes bytes at)
    → IsUnderWay nodes bytes front at → GivesList (Err fault) (decoded nodes bytes)
unfolding records_at
ends nodes bytes front at faults.Memory lt read way = tt
ends nodes bytes front at faults.Short lt read way = first_fault nodes bytes front at faults.Short lt read way
ends nodes bytes front at faults.Value lt read way = first_fault nodes bytes front at faults.Value lt read way
ends nodes bytes front at (faults.Kind code) lt read way = first_fault nodes bytes front at (faults.Kind code) lt read way

-- nothing is read after the end
at_end : (nodes : ℕ) (bytes : List ℕ) (at most : ℕ) → length bytes ≤ at → records_at nodes most bytes at ≡ Ok []
unfolding records_at
at_end nodes bytes at zero le = refl
at_end nodes bytes at (suc most) le = rw (le-ltb at (length bytes) le) refl

-- the end
pub is_done : (nodes : ℕ) (bytes : List ℕ) (front : List Record) (at : ℕ) → length bytes ≤ at → IsUnderWay nodes bytes front at → decoded nodes bytes ≡ Ok front
is_done nodes bytes front at le way =
    let one : with_front front (records_at nodes (length bytes - length front) bytes at) ≡ Ok front = ap (with_front front) (at_end nodes bytes at (length bytes - length front) le) ∙ ap (λ (rs : List Record). Ok rs) (append-nil front) in
    sym way.whole ∙ one

-- an answer that is a list is a spelled one
pub is_found : (nodes : ℕ) (bytes : List ℕ) (answer : Result (Vec Record) RecordFault) → IsBytes bytes → GivesList answer (decoded nodes bytes)
    → IfOk answer (λ list. AreRecords nodes list.items × (bytes ≡ records_bytes list.items))
is_found nodes bytes (Ok list) fits given = is_spelled nodes bytes list.items fits given
is_found nodes bytes (Err fault) fits given = tt
