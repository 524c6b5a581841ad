-- The bytes of a content, and what the selections of a request mean.
use Rattle.std.specs.Prelude.{◌≡◌, ℕ, ◌^◌, ◌<◌, ◌≤◌, ◌⊎◌, Option, Some, List, take, drop, codes}
use Rattle.std.specs.List.{Contains}
use Rattle.httpdate.specs.Date.{unix_secs}
use Rattle.httpdate.specs.declared.date.HttpDate.{HttpDate}
use Rattle.oc_select.specs.Tags.{members, without_mark}
use Rattle.oc_select.specs.Conditions.{date_in}
use Rattle.oc_select.specs.declared.content.Content.{Content}
use Rattle.oc_select.specs.declared.content.Source.{Source}
use Rattle.oc_select.specs.declared.content.Source.TheVariants.{Group, File}

-- the bytes of a content at a path, where a group of a name has these bytes. The name of a file's group is the beginning of the path
abbrev pub bytes_in : (List ℕ → List ℕ) → List ℕ → ℕ → Source → List ℕ
bytes_in group path length (Group is_open) = take length (group path)
bytes_in group path length (File at name changed) = take length (drop at (group (take name path)))

abbrev pub bytes_of : (List ℕ → List ℕ) → List ℕ → Content → List ℕ
bytes_of group path content = bytes_in group path content.length content.source

-- the numbers of a source have 64 bits
abbrev pub IsSource : Source → Type 0
IsSource (Group is_open) = Unit {0}
IsSource (File at name changed) = (at < 2 ^ 64) × (name < 2 ^ 64)

-- the numbers of a content have 64 bits
abbrev pub IsContent : Content → Type 0
IsContent content = (content.length < 2 ^ 64) × IsSource content.source

-- `*` is a member of the fields, or this tag, weak or strong
abbrev pub IsNamed : List ℕ → List (List ℕ) → Type 0
IsNamed tag values = (member : List ℕ) × Contains (members values) member × ((member ≡ codes "*") ⊎ (without_mark member ≡ tag))

-- there is just one field, which is a date, and the last change is not after it
abbrev pub IsNoYounger : Option HttpDate → List (List ℕ) → Type 0
IsNoYounger change values = (date : HttpDate) × (second : ℕ) × (change ≡ Some date) × (date_in values ≡ Some second) × (unix_secs date ≤ second)
