use Rattle.std.specs.Prelude.{◌≡◌, ℕ, Bool, not, ◌&&◌, ◌||◌, ◌==◌, nat_lt, ◌⊎◌, List}
use Rattle.oc_base.specs.declared.cert.Cert.{Cert}
use Rattle.oc_base.specs.Cert.{Outranks}
use Rattle.oc_model.specs.Numbers.{IsAmong}

-- Facts, which certificates tell. Fact f: ask f.seq of f.subject went to f.parent, this lease is alive or dead, and
-- the subject had served f.clients clients at its own number f.number.

-- k is a later word than f on the same subject
abbrev pub IsBelow : Cert → Cert → Type 0
IsBelow f k = (f.subject ≡ k.subject) × Outranks k f

-- the facts cover f: f or a later word on its subject is among them
abbrev pub IsCovered : List Cert → Cert → Type 0
IsCovered ks f = (k : Cert) × IsAmong k ks × ((k ≡ f) ⊎ IsBelow f k)

-- k is the last word on x among these facts
pub record IsNewest (ks : List Cert) (x : ℕ) (k : Cert) : Type 0 where
  pub among : IsAmong k ks
  pub subject : k.subject ≡ x
  pub last : (f : Cert) → IsAmong f ks → IsBelow k f → ⊥

abbrev pub same_state : Bool → Bool → Bool
same_state a b = (a && b) || (not a && not b)

-- whether k outranks f: by the number of the ask, then by death, then by the own number
abbrev pub outranks : Cert → Cert → Bool
outranks k f = nat_lt f.seq k.seq || (k.seq == f.seq && ((k.dead && not f.dead) || (same_state k.dead f.dead && nat_lt f.number k.number)))
