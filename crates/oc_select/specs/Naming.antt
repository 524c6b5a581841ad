-- What a list of tags says of a content.
use Rattle.std.specs.Prelude.{ℕ, Bool, false, if◌then◌else◌, List, [], ◌∷◌, codes}
use Rattle.std.specs.List.{list_all, list_any}
use Rattle.std.specs.Str.{bytes_eq}
use Rattle.oc_select.specs.Tags.{is_tag, without_mark, members}
use Rattle.oc_select.specs.declared.naming.Comparison.{Comparison}
use Rattle.oc_select.specs.declared.naming.Comparison.TheVariants.{Strong, Weak}
use Rattle.oc_select.specs.declared.naming.Naming.{Naming}
use Rattle.oc_select.specs.declared.naming.Naming.TheVariants.{Nothing, Named, Other}

-- whether a member is this tag, which is a strong one
abbrev pub is_same : Comparison → List ℕ → List ℕ → Bool
is_same Strong tag member = bytes_eq member tag
is_same Weak tag member = bytes_eq (without_mark member) tag

-- a list whose only member is `*`
abbrev pub is_any : List (List ℕ) → Bool
is_any [] = false
is_any (member ∷ []) = bytes_eq member (codes "*")
is_any (member ∷ second ∷ more) = false

-- what some tags say of this one
abbrev pub said_by : Comparison → List ℕ → List (List ℕ) → Naming
said_by how tag tags = if list_any (is_same how tag) tags then Named else Other

-- what the members of a list say of a tag
abbrev pub said : Comparison → List ℕ → List (List ℕ) → Naming
said how tag [] = Nothing
said how tag (member ∷ more) =
    if is_any (member ∷ more) then Named
    else if list_all is_tag (member ∷ more) then said_by how tag (member ∷ more)
    else Nothing

-- what the fields of a name say of a tag
abbrev pub naming : Comparison → List ℕ → List (List ℕ) → Naming
naming how tag values = said how tag (members values)
