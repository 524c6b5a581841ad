-- The statements of a condition about the bytes of its group.
use Rattle.std.proofs.Common.{◌≡◌, ℕ, ◌==◌, Bool, true, false, Some, None, List, length, refl, sym, ◌∙◌, if◌then◌else◌}
use Rattle.std.proofs.lemmas.Bool.{eqb-true, eqb-false}
use Rattle.oc_base.specs.Groups.{bytes_of, shelf}
use Rattle.oc_base.specs.declared.group.Group.{Group}
use Rattle.oc_routes.specs.declared.refused.Refused.TheVariants.{At}
use Rattle.oc_routes.specs.Conditions.{unmet_at}
use Rattle.oc_routes.specs.Waits.{holding}
use Rattle.oc_routes.proofs.Holdings.{held_is}

met_by : (held at : ℕ) (b : Bool) → (held == at) ≡ b → (if b then None else Some (At held)) ≡ None → held ≡ at
met_by held at true is none = eqb-true held at is
met_by held at false is none = cc

unmet_length : (held at other : ℕ) (b : Bool) → (held == at) ≡ b → (if b then None else Some (At held)) ≡ Some (At other) → (held ≡ other) × (held ≡ at → ⊥)
unmet_length held at other true is some = cc
unmet_length held at other false is some =
    let why : At held ≡ At other = cc in
    (cc, eqb-false held at is)

-- a condition that is met says the length of the group
pub met_is : (group : List ℕ) (at : ℕ) (groups : List Group) → unmet_at 1 group (Some at) (shelf groups) ≡ None → length (bytes_of group groups) ≡ at
met_is group at groups none = sym (held_is group groups) ∙ met_by (holding group (shelf groups)).held at ((holding group (shelf groups)).held == at) refl none

-- the fault gives the length where a condition is not met
pub unmet_is : (group : List ℕ) (at other : ℕ) (groups : List Group) → unmet_at 1 group (Some at) (shelf groups) ≡ Some (At other)
    → (length (bytes_of group groups) ≡ other) × (other ≡ at → ⊥)
unmet_is group at other groups some =
    let both = unmet_length (holding group (shelf groups)).held at other ((holding group (shelf groups)).held == at) refl some in
    (sym (held_is group groups) ∙ both.0, λ e. both.1 (both.0 ∙ e))
