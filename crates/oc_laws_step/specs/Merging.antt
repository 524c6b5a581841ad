use Rattle.std.specs.Prelude.{◌≡◌, ℕ, Option, Some, None, List}
use Rattle.oc_base.specs.declared.cert.Cert.{Cert}
use Rattle.oc_model.specs.Certificates.{IsNewest}
use Rattle.oc_model.specs.Numbers.{IsAmong}

-- The result of merging certificates in any order.

-- one ask of a subject went to one parent, and one own number of it at one ask and state names one count of clients
pub record AreConsistent (cs : List Cert) : Type 0 where
  pub parent : (f k : Cert) → IsAmong f cs → IsAmong k cs → f.subject ≡ k.subject → f.seq ≡ k.seq → f.parent ≡ k.parent
  pub clients : (f k : Cert) → IsAmong f cs → IsAmong k cs → f.subject ≡ k.subject → f.seq ≡ k.seq → f.dead ≡ k.dead → f.number ≡ k.number → f.clients ≡ k.clients

-- the entry of x after these certificates were merged: the last word on x among them, or none
abbrev pub IsLastWord : List Cert → ℕ → Option Cert → Type 0
IsLastWord cs x None = (c : Cert) → IsAmong c cs → c.subject ≡ x → ⊥
IsLastWord cs x (Some k) = IsNewest cs x k

-- the same certificates, in any order and any number of times
pub record AreSameCerts (cs ds : List Cert) : Type 0 where
  pub there : (c : Cert) → IsAmong c cs → IsAmong c ds
  pub back : (c : Cert) → IsAmong c ds → IsAmong c cs
