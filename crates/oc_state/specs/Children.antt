-- The children of a node, by the rows of its table.
use Rattle.std.specs.Prelude.{ℕ, not, ◌&&◌, ◌==◌, if◌then◌else◌, Option, None, Some, List, [], ◌∷◌, map}
use Rattle.oc_base.specs.declared.cert.Cert.{Cert}
use Rattle.oc_base.specs.declared.cert.Child.{Child}
use Rattle.oc_model.specs.Numbers.{at}
use Rattle.oc_model.specs.Table.{is_lease_of, leased_children}

-- the row's subject, if it is a child of y
abbrev pub child_of_row : ℕ → Option Cert → Option ℕ
child_of_row y None = None
child_of_row y (Some k) = if is_lease_of y k then Some k.subject else None

-- the row's subject, if it is a child of y other than x
abbrev pub other_child_of_row : ℕ → ℕ → Option Cert → Option ℕ
other_child_of_row y x None = None
other_child_of_row y x (Some k) = if is_lease_of y k && not (k.subject == x) then Some k.subject else None

-- a child, with the rate that it told last
abbrev pub told_child : List ℕ → ℕ → Child
told_child rates x = record { id = x; rate = at rates x 0 }

abbrev pub told_of : List ℕ → Option ℕ → List Child
told_of rates None = []
told_of rates (Some x) = told_child rates x ∷ []

-- the children that a row gives: one or none
abbrev pub told_of_row : ℕ → List ℕ → Option Cert → List Child
told_of_row y rates row = told_of rates (child_of_row y row)

-- all children of y, ascending
abbrev pub told_children : List Cert → ℕ → List ℕ → List Child
told_children t y rates = map (λ x. record { id = x; rate = at rates x 0 }) (leased_children t y)
