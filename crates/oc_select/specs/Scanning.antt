-- What the members of a list say of a tag, one after another.
use Rattle.std.specs.Prelude.{ℕ, suc, Bool, true, false, ◌||◌, if◌then◌else◌, Option, Some, None, List, [], ◌∷◌, codes}
use Rattle.std.specs.Str.{bytes_eq}
use Rattle.oc_select.specs.Tags.{is_tag, is_separator, quoted_after}
use Rattle.oc_select.specs.Naming.{is_same}
use Rattle.oc_select.specs.declared.naming.Comparison.{Comparison}
use Rattle.oc_select.specs.declared.naming.Naming.{Naming}
use Rattle.oc_select.specs.declared.naming.Naming.TheVariants as namings
use Rattle.oc_select.specs.declared.scanning.Heard.{Heard}
use Rattle.oc_select.specs.declared.scanning.Heard.TheVariants.{Nothing, Any, Tags, Wrong}

-- what was heard, with one more tag
abbrev pub tag_heard : Comparison → List ℕ → Bool → List ℕ → Heard
tag_heard how tag named member = if is_tag member then Tags (named || is_same how tag member) else Wrong

-- what was heard, with one more member
abbrev pub heard : Comparison → List ℕ → Heard → List ℕ → Heard
heard how tag Nothing member = if bytes_eq member (codes "*") then Any else tag_heard how tag false member
heard how tag Any member = Wrong
heard how tag (Tags named) member = tag_heard how tag named member
heard how tag Wrong member = Wrong

-- what was heard, with these members
abbrev pub heard_all : Comparison → List ℕ → Heard → List (List ℕ) → Heard
heard_all how tag h [] = h
heard_all how tag h (member ∷ more) = heard_all how tag (heard how tag h member) more

-- what all that was heard says
abbrev pub concluded : Heard → Naming
concluded Nothing = namings.Nothing
concluded Any = namings.Named
concluded (Tags true) = namings.Named
concluded (Tags false) = namings.Other
concluded Wrong = namings.Nothing

-- the place of the first comma that is not within quotes, of bytes that begin at this place
abbrev pub comma_from : ℕ → Bool → List ℕ → Option ℕ
comma_from at quoted [] = None
comma_from at quoted (b ∷ rest) =
    if is_separator quoted b then Some at else comma_from (suc at) (quoted_after quoted b) rest
