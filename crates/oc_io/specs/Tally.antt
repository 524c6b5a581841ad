-- The calls of an object in memory: the calls that are to fail, the number of calls, and the number of failures.
use Rattle.std.specs.Prelude.{◌≡◌, ℕ, ◌+◌, ◌-◌, ◌^◌, ◌<◌, ◌≤◌, min, List, Contains, refl}
use Rattle.std.proofs.Common.{subst, ◌∙◌, ap, ⊎_elim, arith}
use Rattle.std.proofs.lemmas.Bool.{cases_lt}

-- the numbers of the calls that are to fail, counted from 1; the number of calls; the number of faults
pub record Tally : Type 0 where
  pub listed : List ℕ
  pub made : ℕ
  pub faults : ℕ

-- the count after one more, at most the greatest u64
abbrev pub counted : ℕ → ℕ
counted n = min (n + 1) (2 ^ 64 - 1)

-- the tally before the first call
abbrev pub fresh : List ℕ → Tally
fresh listed = record { listed = listed; made = 0; faults = 0 }

-- the tally after one more call
abbrev pub called : Tally → Tally
called t = record t { made = counted t.made }

-- the tally after one more fault
abbrev pub faulted : Tally → Tally
faulted t = record t { faults = counted t.faults }

-- the next call is listed to fail
abbrev pub IsListed : Tally → Type 0
IsListed t = Contains t.listed (counted t.made)

-- between the old tally and the new one no call failed
pub record Passes (old new : Tally) : Type 0 where
  pub listed : new.listed ≡ old.listed
  pub faults : new.faults ≡ old.faults
  pub made : old.made ≤ new.made
  pub none : (k : ℕ) → old.made < k → k ≤ new.made → ¬ Contains old.listed k

-- between the old tally and the new one the last call failed, and no other
pub record Stops (old new : Tally) : Type 0 where
  pub listed : new.listed ≡ old.listed
  pub faults : new.faults ≡ counted old.faults
  pub made : old.made ≤ new.made
  pub none : (k : ℕ) → old.made < k → k < new.made → ¬ Contains old.listed k

-- no call was made
pub Passes-none : (t : Tally) → Passes t t
Passes-none t = record {
  listed = refl;
  faults = refl;
  made = omega arith;
  none = λ k above below. absurd (omega arith);
}

-- calls without a failure, and more after them
pub Passes-then : (a b c : Tally) → Passes a b → Passes b c → Passes a c
Passes-then a b c p q = record {
  listed = q.listed ∙ p.listed;
  faults = q.faults ∙ p.faults;
  made = omega (arith, p.made, q.made);
  none = λ k above below. ⊎_elim (λ later. subst (λ xs. ¬ Contains xs k) p.listed (q.none k later below)) (p.none k above) (cases_lt b.made k);
}

-- calls without a failure, and one that failed after them
pub Passes-stops : (a b c : Tally) → Passes a b → Stops b c → Stops a c
Passes-stops a b c p q = record {
  listed = q.listed ∙ p.listed;
  faults = q.faults ∙ ap counted p.faults;
  made = omega (arith, p.made, q.made);
  none = λ k above below. ⊎_elim (λ later. subst (λ xs. ¬ Contains xs k) p.listed (q.none k later below)) (p.none k above) (cases_lt b.made k);
}
