-- Values within their ranges: ids, rates, ranks, certificates, ancestors and children.
use Rattle.std.specs.Prelude.{ℕ, ◌^◌, ◌≤◌, ◌<◌, Option, Some, None, List, [], ◌∷◌, length}
use Rattle.std.specs.List.{AllByRecursion}
use Rattle.oc_base.specs.declared.cert.Cert.{Cert}
use Rattle.oc_base.specs.declared.cert.Child.{Child}
use Rattle.oc_base.specs.declared.limits.TheConstants.{MAX_DEPTH, MAX_ANCESTORS, MAX_RATE}
use Rattle.oc_base.specs.declared.rank.Rank.{Rank}
use Rattle.oc_base.specs.declared.refusal.Refusal.{Refusal}
use Rattle.oc_base.specs.declared.refusal.Refusal.TheVariants as refusals

-- the id of a node, in a network of `nodes` nodes
abbrev pub IsNode : ℕ → ℕ → Type 0
IsNode nodes x = (1 ≤ x) × (x ≤ nodes)

-- ids of nodes
abbrev pub AreNodes : ℕ → List ℕ → Type 0
AreNodes nodes xs = AllByRecursion (IsNode nodes) xs

-- no id, or the id of a node
abbrev pub IsNodeOrNone : ℕ → Option ℕ → Type 0
IsNodeOrNone nodes None = Unit {0}
IsNodeOrNone nodes (Some x) = IsNode nodes x

-- a rate in bytes per second, at most 2^40
abbrev pub IsRate : ℕ → Type 0
IsRate r = r ≤ MAX_RATE

-- a number of 64 bits
abbrev pub IsLong : ℕ → Type 0
IsLong n = n < 2 ^ 64

-- a number of 64 bits that is not 0
abbrev pub IsCount : ℕ → Type 0
IsCount n = (1 ≤ n) × (n < 2 ^ 64)

-- an epoch of 64 bits, and a depth within its limit
abbrev pub IsRank : Rank → Type 0
IsRank r = IsLong r.epoch × (r.depth ≤ MAX_DEPTH)

-- no rank, or one within its limits
abbrev pub IsRankOrNone : Option Rank → Type 0
IsRankOrNone None = Unit {0}
IsRankOrNone (Some r) = IsRank r

-- a certificate about nodes of this network, of an ask with a number above 0
pub record IsCert (nodes : ℕ) (c : Cert) : Type 0 where
  pub subject : IsNode nodes c.subject
  pub seq : IsCount c.seq
  pub parent : IsNode nodes c.parent
  pub number : IsLong c.number
  pub clients : IsLong c.clients

-- certificates that are all of this kind
abbrev pub AreCerts : ℕ → List Cert → Type 0
AreCerts nodes cs = AllByRecursion (IsCert nodes) cs

-- ids of nodes, at most as many as a node keeps as ancestors
abbrev pub AreAncestors : ℕ → List ℕ → Type 0
AreAncestors nodes xs = AreNodes nodes xs × (length xs ≤ MAX_ANCESTORS)

-- a refusal; `Chain` names a node
abbrev pub IsRefusal : ℕ → Refusal → Type 0
IsRefusal nodes (refusals.Chain k) = IsNode nodes k
IsRefusal nodes why = Unit {0}

-- children with their rates, ascending by id
abbrev pub AreChildren : ℕ → List Child → Type 0
AreChildren nodes [] = Unit {0}
AreChildren nodes (c ∷ cs) = IsNode nodes c.id × IsRate c.rate × AllByRecursion (λ d. c.id < d.id) cs × AreChildren nodes cs
