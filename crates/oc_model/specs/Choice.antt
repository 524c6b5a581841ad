use Rattle.std.specs.Prelude.{ℕ, ◌*◌, min, Bool, not, ◌&&◌, ◌||◌, ◌==◌, nat_lt, nat_le, if◌then◌else◌, Option, Some, None, option_to_list, List, [], ◌∷◌, ◌++◌, filter, option_map, zero, suc}
use Rattle.std.specs.List.{range_with_len}
use Rattle.oc_model.specs.declared.place.Candidate.{Candidate}
use Rattle.oc_model.specs.declared.place.Review.{Review}
use Rattle.oc_model.specs.declared.place.Review.TheVariants as reviews
use Rattle.oc_model.specs.Numbers.{has}

-- The choice of a place, as docs/RULES.md tells under "How a place is chosen".

-- the rate of the way through a candidate
abbrev pub through : Candidate → ℕ
through c = min c.mine c.up

-- whether the way through a candidate was measured, and has at least nine tenths of the direct rate
abbrev pub is_suitable : ℕ → Candidate → Bool
is_suitable direct c = not (c.mine == 0) && not (c.up == 0) && nat_le (9 * direct) (10 * through c)

-- whether a candidate is nearer than another: by hops, then by id
abbrev pub is_nearer : Candidate → Candidate → Bool
is_nearer c d = nat_lt c.hops d.hops || (c.hops == d.hops && nat_lt c.id d.id)

abbrev pub nearer_of : Candidate → Option Candidate → Candidate
nearer_of c None = c
nearer_of c (Some d) = if is_nearer d c then d else c

-- the nearest candidate
abbrev pub nearest : List Candidate → Option Candidate
nearest [] = None
nearest (c ∷ cs) = Some (nearer_of c (nearest cs))

-- the nearest of the suitable candidates, compared with this direct rate
abbrev pub chosen : ℕ → List Candidate → Option ℕ
chosen direct cs = option_map (λ c. c.id) (nearest (filter (is_suitable direct) cs))

-- the place of a joined node: its own rate to its parent, the rate of its parent to the grandparent, the grandparent with
-- its own rate to it, and the other children of its parent
pub record View : Type 0 where
  pub direct : ℕ
  pub up : ℕ
  pub grand : Option (ℕ × ℕ)
  pub siblings : List Candidate

abbrev pub go_beneath : Option ℕ → Review
go_beneath None = reviews.Stay
go_beneath (Some k) = reviews.Beneath k

-- up, where the way through the parent is more than a tenth worse than the direct one; else beneath the chosen sibling, if there is one
abbrev pub reviewed_with : Option (ℕ × ℕ) → View → Review
reviewed_with None v = go_beneath (chosen v.direct v.siblings)
reviewed_with (Some g) v = if nat_lt (10 * min v.direct v.up) (9 * g.1) then reviews.Up (g.0) else go_beneath (chosen v.direct v.siblings)

abbrev pub reviewed : View → Review
reviewed v = reviewed_with v.grand v

-- the ids below this one, the greatest first
abbrev pub below : ℕ → List ℕ
below zero = []
below (suc zero) = []
below (suc (suc n)) = suc n ∷ below (suc n)

-- the first list without repeats, and without the ids of the second list
abbrev pub each_once : List ℕ → List ℕ → List ℕ
each_once out [] = []
each_once out (x ∷ xs) = if has out x then each_once out xs else x ∷ each_once (x ∷ out) xs

-- the nodes that a node asks for a place, in order: a chain member asks the earlier members, the nearest first; any other node
-- asks its ancestors and then the chain; no node asks itself or the one that is left out
abbrev pub ask_order : ℕ → ℕ → List ℕ → Option ℕ → List ℕ
ask_order me chain ancestors without =
    each_once (me ∷ option_to_list without) (if nat_le me chain then below me else ancestors ++ range_with_len 1 chain)
