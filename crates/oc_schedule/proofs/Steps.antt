use Rattle.std.proofs.Common.{◌≡◌, Bool, true, false, cond, ◌⊎◌, inl, inr, Result, Ok, Err, refl}
use Rattle.oc_base.specs.Steps.{◌>>=◌}

-- Steps of which an `Ok` is the result.

-- the first step gave a value, and the second step gave this one
pub steps : {A B E P : Type 0} (r : Result A E) (f : A → Result B E) (y : B) → (r >>= f) ≡ Ok y → ((x : A) → r ≡ Ok x → f x ≡ Ok y → P) → P
steps (Ok x) f y h k = k x refl h
steps (Err e) f y h k = absurd (cc h)

-- the chosen one of two results
pub chosen : {A : Type 0} (b : Bool) (x y z : A) → cond b x y ≡ z → ((b ≡ true) × (x ≡ z)) ⊎ ((b ≡ false) × (y ≡ z))
chosen true x y z h = inl (refl, h)
chosen false x y z h = inr (refl, h)

-- a guard that refuses did not hold
pub behind_guard : {A E : Type 0} (b : Bool) (e : E) (r : Result A E) (y : A) → cond b (Err e) r ≡ Ok y → (b ≡ false) × (r ≡ Ok y)
behind_guard true e r y h = absurd (cc h)
behind_guard false e r y h = (refl, h)

-- a guard that lets the step pass did hold
pub within_guard : {A E : Type 0} (b : Bool) (e : E) (r : Result A E) (y : A) → cond b r (Err e) ≡ Ok y → (b ≡ true) × (r ≡ Ok y)
within_guard true e r y h = (refl, h)
within_guard false e r y h = absurd (cc h)
