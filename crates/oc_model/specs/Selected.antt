use Rattle.std.specs.Prelude.{ℕ, Bool, ◌&&◌, ◌||◌, ◌==◌, nat_lt, if◌then◌else◌, Option, Some, None, List, [], ◌∷◌, filter}
use Rattle.oc_base.specs.declared.cert.Cert.{Cert}
use Rattle.oc_model.specs.Numbers.{at}
use Rattle.oc_model.specs.Table.{listed_in}

-- The choice of the node to which a client is sent.

-- whether x was named to fewer clients than y, or to as many and has the smaller id
abbrev pub is_freer : List ℕ → ℕ → ℕ → Bool
is_freer counts x y = nat_lt (at counts x 0) (at counts y 0) || (at counts x 0 == at counts y 0 && nat_lt x y)

abbrev pub freer_of : List ℕ → ℕ → Option ℕ → ℕ
freer_of counts x None = x
freer_of counts x (Some y) = if is_freer counts y x then y else x

-- the node of the second list that was named to the fewest clients, and of several the one with the least id
abbrev pub freest : List ℕ → List ℕ → Option ℕ
freest counts [] = None
freest counts (x ∷ xs) = Some (freer_of counts x (freest counts xs))

-- the first list, or the second where that is empty
abbrev pub or_all : List ℕ → List ℕ → List ℕ
or_all [] ys = ys
or_all (x ∷ xs) ys = x ∷ xs

-- the nodes past the chain that the table lists below this one
abbrev pub servers : List Cert → ℕ → ℕ → List ℕ
servers t me chain = filter (λ x. nat_lt chain x) (listed_in t me)

-- the freest node in the client's area, or of all where the area has none
abbrev pub selected : List Cert → ℕ → ℕ → List ℕ → List ℕ → ℕ → Option ℕ
selected t me chain areas counts area = freest counts (or_all (filter (λ x. at areas x 0 == area) (servers t me chain)) (servers t me chain))
