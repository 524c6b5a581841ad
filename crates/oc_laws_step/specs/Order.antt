use Rattle.std.specs.Prelude.{◌≡◌, ◌⊎◌, Option, Some, None}
use Rattle.oc_base.specs.declared.cert.Cert.{Cert}
use Rattle.oc_base.specs.declared.rank.Rank.{Rank}
use Rattle.oc_base.specs.Rank.{Precedes}

-- The orders of ranks and of certificates.

-- equal in ask number, state and own number
abbrev pub AreEven : Cert → Cert → Type 0
AreEven k f = (k.seq ≡ f.seq) × (k.dead ≡ f.dead) × (k.number ≡ f.number)

-- the second rank is the first or precedes it; no rank is the worst
abbrev pub IsNoWorse : Option Rank → Option Rank → Type 0
IsNoWorse None new = Unit {0}
IsNoWorse (Some o) None = ⊥
IsNoWorse (Some o) (Some r) = (r ≡ o) ⊎ Precedes r o
