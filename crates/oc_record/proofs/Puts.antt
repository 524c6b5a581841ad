-- The bytes written by several calls, each of which adds bytes at the end.
use Rattle.std.proofs.Common.{◌≡◌, ℕ, List, ◌++◌, Result}
use Rattle.std.proofs.lemmas.Result.{on_ok_weaker}
use Rattle.std.specs.Result.{OnOk}
use Rattle.oc_base.proofs.Puts.{more}

-- the last of these calls, whose result is the result of all
pub last_more : {T E : Type 0} (r : Result T E) (out text last before after : List ℕ) → before ≡ out ++ text → OnOk r (after ≡ before ++ last) → OnOk r (after ≡ out ++ (text ++ last))
last_more r out text last before after e = on_ok_weaker r (more out text last before after e)
