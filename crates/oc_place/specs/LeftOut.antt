use Rattle.std.specs.Prelude.{ℕ, List, ◌∷◌, option_to_list}
use Rattle.oc_place.specs.declared.left_out.LeftOut.{LeftOut}

-- the ids that are left out
abbrev pub out_of : LeftOut → List ℕ
out_of l = l.me ∷ option_to_list l.without
