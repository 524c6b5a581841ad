-- A sink whose relations include its count of faults.
use Rattle.std.specs.Prelude.{ℕ, List, [], ◌++◌}
use Rattle.std.proofs.Common.{inl, inr, arith}
use Rattle.oc_io.specs.Faults.{NoFall, Rose}
use Rattle.oc_commands.specs.declared.progress.Counting.{Counting}

-- these bytes were taken, and the count of faults did not fall
abbrev pub Takes : {E : Type 0} → (E → List ℕ → E → Type 0) → (E → ℕ) → Counting E → List ℕ → Counting E → Type 0
Takes takes faults a text b = takes a.sink text b.sink × NoFall (faults a.sink) (faults b.sink)

-- these bytes were taken, then a call failed, and the failure was counted
abbrev pub Fails : {E : Type 0} → (E → List ℕ → E → Type 0) → (E → ℕ) → Counting E → List ℕ → Counting E → Type 0
Fails fails faults a text b = fails a.sink text b.sink × NoFall (faults a.sink) (faults b.sink) × Rose (faults a.sink) (faults b.sink)

rose_after : (a b c : ℕ) → NoFall a b → Rose b c → Rose a c
rose_after a b c steady (inl higher) = inl (omega (arith, steady, higher))
rose_after a b c steady (inr last) = inr last

pub takes_nothing : {E : Type 0} (takes : E → List ℕ → E → Type 0) (faults : E → ℕ) → ((e : E) → takes e [] e) → (a : Counting E) → Takes takes faults a [] a
takes_nothing takes faults nothing a = (nothing a.sink, omega arith)

pub takes_then : {E : Type 0} (takes : E → List ℕ → E → Type 0) (faults : E → ℕ) → ((a b c : E) (x y : List ℕ) → takes a x b → takes b y c → takes a (x ++ y) c)
    → (a b c : Counting E) (x y : List ℕ) → Takes takes faults a x b → Takes takes faults b y c → Takes takes faults a (x ++ y) c
takes_then takes faults then a b c x y first second = (then a.sink b.sink c.sink x y first.0 second.0, omega (arith, first.1, second.1))

pub takes_fails : {E : Type 0} (takes fails : E → List ℕ → E → Type 0) (faults : E → ℕ) → ((a b c : E) (x y : List ℕ) → takes a x b → fails b y c → fails a (x ++ y) c)
    → (a b c : Counting E) (x y : List ℕ) → Takes takes faults a x b → Fails fails faults b y c → Fails fails faults a (x ++ y) c
takes_fails takes fails faults then a b c x y first second = (
  then a.sink b.sink c.sink x y first.0 second.0,
  omega (arith, first.1, second.1),
  rose_after (faults a.sink) (faults b.sink) (faults c.sink) first.1 second.2,
)
