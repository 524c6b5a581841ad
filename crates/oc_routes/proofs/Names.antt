-- Names that are parsed.
use Rattle.std.proofs.Common.{◌≡◌, ℕ, List, Option, Some, None, Ok, refl, subst}
use Rattle.oc_base.specs.Names.{IsGroupName, name_fault, name_or, parsed_name}
use Rattle.oc_base.specs.declared.group_name.NameFault.{NameFault}

-- a name is given where there is no fault, and is the bytes
given : (bytes : List ℕ) (o : Option NameFault) (group : List ℕ) → name_or bytes o ≡ Ok group → (o ≡ None) × (bytes ≡ group)
given bytes None group h = (refl, cc h)
given bytes (Some fault) group h = cc h

-- a parsed name is a group name
pub parsed_is_name : (bytes group : List ℕ) → parsed_name bytes ≡ Ok group → IsGroupName group
parsed_is_name bytes group h =
    let name = given bytes (name_fault bytes) group h in
    subst (λ (b : List ℕ). name_fault b ≡ None) name.1 name.0
