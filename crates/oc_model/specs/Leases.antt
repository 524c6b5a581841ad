use Rattle.std.specs.Prelude.{ℕ, ◌+◌, Bool, false, nat_le, nat_lt, Option, Some, None, List, [], ◌∷◌, filter, find}
use Rattle.oc_base.specs.declared.cert.Cert.{Cert}
use Rattle.oc_model.specs.Numbers.{at, put_at}
use Rattle.oc_model.specs.Table.{leased_children}

-- Leases: by the number of a child the second at which its lease ends, if it has been set.

-- the duration of a lease, in seconds
abbrev pub lease_time : ℕ
lease_time = 30

-- renews the lease of x, from this second on
abbrev pub renew : List (Option ℕ) → ℕ → ℕ → List (Option ℕ)
renew ends x now = put_at ends x (Some (now + lease_time))

abbrev pub start_if : Option ℕ → List (Option ℕ) → ℕ → ℕ → List (Option ℕ)
start_if None ends x now = renew ends x now
start_if (Some t) ends x now = ends

-- gives each of these children an end of its lease, where it has none
abbrev pub start_each : List ℕ → List (Option ℕ) → ℕ → List (Option ℕ)
start_each [] ends now = ends
start_each (x ∷ xs) ends now = start_each xs (start_if (at ends x None) ends x now) now

-- gives each leased child of y an end of its lease, where it has none
abbrev pub start_all : List Cert → ℕ → List (Option ℕ) → ℕ → List (Option ℕ)
start_all t y ends now = start_each (leased_children t y) ends now

abbrev pub is_over : Option ℕ → ℕ → Bool
is_over None now = false
is_over (Some end) now = nat_le end now

-- the leased children of y whose lease has ended, ascending
abbrev pub ended : List Cert → ℕ → List (Option ℕ) → ℕ → List ℕ
ended t y ends now = filter (λ x. is_over (at ends x None) now) (leased_children t y)

-- the least such child past x
abbrev pub next_ended : List Cert → ℕ → List (Option ℕ) → ℕ → ℕ → Option ℕ
next_ended t y ends x now = find (λ z. nat_lt x z) (ended t y ends now)
