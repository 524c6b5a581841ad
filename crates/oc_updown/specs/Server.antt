use Rattle.std.specs.Prelude.{◌≡◌, ℕ, ◌<◌, ◌⊎◌, List}
use Rattle.oc_base.specs.declared.cert.Cert.{Cert}
use Rattle.oc_model.specs.Numbers.{at}
use Rattle.oc_model.specs.Table.{IsListed}

-- The selected server, as a fact about the table.

-- x is a node past the chain that the table lists below this node
abbrev pub IsServer : List Cert → ℕ → ℕ → ℕ → Type 0
IsServer t me chain x = (chain < x) × IsListed t me x

-- x was named to fewer clients than y, or to as many and has the smaller id
abbrev pub IsFreer : List ℕ → ℕ → ℕ → Type 0
IsFreer counts x y = (at counts x 0 < at counts y 0) ⊎ ((at counts x 0 ≡ at counts y 0) × (x < y))

-- k is a server, in the area if any server is; no server there (or anywhere, where the area has none) is freer
pub record IsBestServer (t : List Cert) (me chain : ℕ) (areas counts : List ℕ) (area k : ℕ) : Type 0 where
  pub server : IsServer t me chain k
  pub near : (x : ℕ) → IsServer t me chain x → at areas x 0 ≡ area → at areas k 0 ≡ area
  pub least : (x : ℕ) → IsServer t me chain x → (at areas k 0 ≡ area → at areas x 0 ≡ area) → ¬ IsFreer counts x k
