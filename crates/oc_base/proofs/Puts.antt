-- Texts that are put one after the other.
use Rattle.std.proofs.Common.{◌≡◌, ℕ, List, ◌++◌, Result, Ok, Err, OnOk, ap, ◌∙◌, append_assoc}

-- one more text after those that were put
pub more : (out text last before after : List ℕ) → before ≡ out ++ text → after ≡ before ++ last → after ≡ out ++ (text ++ last)
more out text last before after e f = f ∙ ap (λ (x : List ℕ). x ++ last) e ∙ append_assoc out text last

-- one more text, if its put succeeded
pub more_on_ok : {A E : Type 0} (result : Result A E) (out text last before after : List ℕ)
    → before ≡ out ++ text → OnOk result (after ≡ before ++ last) → OnOk result (after ≡ out ++ (text ++ last))
more_on_ok (Ok x) out text last before after e f = more out text last before after e f
more_on_ok (Err fault) out text last before after e f = f
