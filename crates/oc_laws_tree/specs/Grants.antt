use Rattle.std.specs.Prelude.{ℕ, List}
use Rattle.oc_base.specs.declared.cert.Cert.{Cert}
use Rattle.oc_base.specs.declared.rank.Rank.{Rank}
use Rattle.oc_model.specs.declared.message.Body.TheVariants.{Yes}
use Rattle.oc_model.specs.Adopting.{birth}
use Rattle.oc_model.specs.Certificates.{IsCovered}
use Rattle.oc_model.specs.Chains.{IsJoined}
use Rattle.oc_model.specs.ClaimsTree.{table_of, seq_of}
use Rattle.oc_model.specs.Numbers.{IsAmong}
use Rattle.oc_model.specs.World.{World}
use Rattle.oc_laws_world.specs.Numbers.{IsAnywhere}

-- The parent that a fact names knows the fact, or a later word on its subject.

-- the parent that a fact names knows the fact, or a later word on its subject
abbrev pub FactsAreGranted : World → Type 0
FactsAreGranted w = (f : Cert) → IsAnywhere w f → IsCovered (table_of w f.parent) f

-- y answered the ask of x with this number by a yes
abbrev pub HasSaidYes : World → ℕ → ℕ → ℕ → Type 0
HasSaidYes w y x s = (r : Rank) × (ancestors : List ℕ) × IsAmong (record { from = y; to = x; body = Yes s r ancestors }) w.net

-- the sender of a yes knows of the lease, or a later word on the child
abbrev pub YesesAreGranted : World → Type 0
YesesAreGranted w = (y x s : ℕ) → HasSaidYes w y x s → IsCovered (table_of w y) (birth x s y)

-- a parent knows of its child's present lease, or a later word on the child
abbrev pub ParentsAreGranted : World → Type 0
ParentsAreGranted w = (x y : ℕ) → IsJoined w x y → IsCovered (table_of w y) (birth x (seq_of w x) y)
