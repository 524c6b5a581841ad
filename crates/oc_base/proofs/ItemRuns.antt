-- Reading items one after the other, as a loop does.
use Rattle.std.proofs.Common.{◌≡◌, ℕ, suc, ◌-◌, ◌+◌, ◌≤◌, ◌<◌, List, [], ◌∷◌, ◌++◌, Ok, Err, refl, sym, ap, ◌∙◌, append_assoc, arith}
use Rattle.std.proofs.lemmas.List.{append-nil}
use Rattle.oc_base.specs.declared.field_fault.FieldFault.{FieldFault}
use Rattle.oc_base.specs.declared.field_fault.FieldFault.TheVariants as faults
use Rattle.oc_base.specs.Steps.{◌>>=◌}
use Rattle.oc_base.specs.Reading.{Reading, items_at, Gives}

-- the items read before, and after them those that are still read
abbrev pub with_front : {A : Type 0} → List A → Reading (List A) → Reading (List A)
with_front front read = read >>= λ x. Ok (front ++ x.0, x.1)

-- one more in front
regroup : {A : Type 0} (front : List A) (x : A) (read : Reading (List A)) → with_front front (read >>= λ y. Ok (x ∷ y.0, y.1)) ≡ with_front (front ++ x ∷ []) read
regroup {A = A} front x (Ok y) = ap (λ (xs : List A). Ok (xs, y.1)) (simp append_assoc)
regroup front x (Err fault) = refl

-- an item is read
pub goes_on : {A S : Type 0} (read : S → ℕ → Reading A) (kept : A → S) (before : S) (front : List A) (count i next : ℕ) (x : A) (behind : ℕ) (total : Reading (List A)) → i < count → read before next ≡ Ok (x, behind)
    → with_front front (items_at read kept before (count - i) next) ≡ total → with_front (front ++ x ∷ []) (items_at read kept (kept x) (count - (i + 1)) behind) ≡ total
unfolding items_at
goes_on read kept before front count i next x behind total lt e so_far =
    let k : count - i ≡ suc (count - (i + 1)) = omega arith in
    let one : with_front front (items_at read kept before (count - i) next) ≡ with_front (front ++ x ∷ []) (items_at read kept (kept x) (count - (i + 1)) behind) =
    rw (k, e) (regroup front x (items_at read kept (kept x) (count - (i + 1)) behind)) in
    sym one ∙ so_far

-- a fault is the fault of all
pub ends : {A S : Type 0} (read : S → ℕ → Reading A) (kept : A → S) (before : S) (front : List A) (count i next : ℕ) (fault : FieldFault) (total : Reading (List A)) → i < count → read before next ≡ Err fault
    → with_front front (items_at read kept before (count - i) next) ≡ total → total ≡ Err fault
unfolding items_at
ends read kept before front count i next fault total lt e so_far =
    let k : count - i ≡ suc (count - (i + 1)) = omega arith in
    let one : with_front front (items_at read kept before (count - i) next) ≡ Err fault = rw (k, e) refl in
    sym so_far ∙ one

-- all are read
pub is_done : {A S : Type 0} (read : S → ℕ → Reading A) (kept : A → S) (before : S) (front : List A) (count i next : ℕ) (total : Reading (List A)) → count ≤ i
    → with_front front (items_at read kept before (count - i) next) ≡ total → total ≡ Ok (front, next)
unfolding items_at
is_done {A = A} read kept before front count i next total le so_far =
    let k : count - i ≡ 0 = omega arith in
    let one : with_front front (items_at read kept before (count - i) next) ≡ Ok (front, next) = rw k (ap (λ (xs : List A). Ok (xs, next)) (append-nil front)) in
    sym so_far ∙ one

-- an answer that equals the read
pub gives : {A : Type 0} (answer read : Reading A) → read ≡ answer → Gives answer read
gives (Ok x) read e = e
gives (Err faults.Short) read e = e
gives (Err faults.Value) read e = e
gives (Err faults.Memory) read e = tt
