-- The children that a node tells to other nodes.
use Rattle.std.specs.Prelude.{ℕ, not, List, filter}
use Rattle.oc_base.specs.declared.cert.Child.{Child}
use Rattle.oc_model.specs.Numbers.{has}

-- these children without those that are among the nodes xs
abbrev pub but : List ℕ → List Child → List Child
but xs cs = filter (λ c. not (has xs c.id)) cs
