use Rattle.std.specs.Prelude.{◌≡◌, ◌≢◌, ℕ, ◌*◌, ◌<◌, ◌≤◌, ◌⊎◌, min, List}
use Rattle.oc_model.specs.declared.place.Candidate.{Candidate}
use Rattle.oc_model.specs.Numbers.{IsAmong}

-- The chosen candidate, as a fact.

-- the way through c was measured, and has at least nine tenths of the direct rate
pub record IsSuitable (direct : ℕ) (c : Candidate) : Type 0 where
  pub mine : c.mine ≢ 0
  pub up : c.up ≢ 0
  pub through : 9 * direct ≤ 10 * min c.mine c.up

-- c has fewer hops than d, or as many and a smaller id
abbrev pub ComesBefore : Candidate → Candidate → Type 0
ComesBefore c d = (c.hops < d.hops) ⊎ ((c.hops ≡ d.hops) × (c.id < d.id))

-- c is one of the candidates and suitable, and no suitable one comes before it
pub record IsBest (direct : ℕ) (cs : List Candidate) (c : Candidate) : Type 0 where
  pub among : IsAmong c cs
  pub suitable : IsSuitable direct c
  pub least : (d : Candidate) → IsAmong d cs → IsSuitable direct d → ¬ ComesBefore d c

-- this is the id of a best candidate
abbrev pub IsIdOfBest : ℕ → List Candidate → ℕ → Type 0
IsIdOfBest direct cs k = (c : Candidate) × (c.id ≡ k) × IsBest direct cs c
