-- The waiting certificates of a change log.
use Rattle.std.proofs.Common.{◌≡◌, ℕ, zero, suc, ◌≤◌, Option, Some, None, List, [], ◌∷◌, length, take, drop, replicate, ap, arith}
use Rattle.std.proofs.lemmas.List.{take_all}
use Rattle.oc_base.specs.declared.cert.Cert.{Cert}
use Rattle.oc_updown.proofs.Entries.{no_entries_past}
use Rattle.oc_updown.specs.TableView.{entries_of}

-- all certificates are taken
pub all_are_taken : (cs : List Cert) (n : ℕ) → length cs ≤ n → take n cs ≡ cs
all_are_taken cs n few = take_all n cs few

-- the number of entries is at most that of the rows in use
pub entries_in_use : (rows : List (Option Cert)) (used n : ℕ) (blank : Option Cert) → drop used rows ≡ replicate n blank → blank ≡ None → length (entries_of rows) ≤ used
entries_in_use [] used n blank e none = omega arith
entries_in_use (row ∷ rows) zero n blank e none = omega (arith, ap length (no_entries_past (row ∷ rows) 0 0 n blank (omega arith) e none))
entries_in_use (None ∷ rows) (suc used) n blank e none = omega (arith, entries_in_use rows used n blank e none)
entries_in_use (Some c ∷ rows) (suc used) n blank e none = omega (arith, entries_in_use rows used n blank e none)
