-- The conditions of a request (RFC 9110, section 13), of a content with this tag and this last change.
use Rattle.std.specs.Prelude.{ℕ, Bool, true, false, nat_lt, nat_le, if◌then◌else◌, Option, Some, None, List, [], ◌∷◌, ◌||◌, option_and_then}
use Rattle.std.specs.Str.{bytes_eq}
use Rattle.httpdate.specs.Date.{unix_secs, date_text, parse_secs}
use Rattle.httpdate.specs.declared.date.HttpDate.{HttpDate}
use Rattle.oc_select.specs.Values.{is_present, only_of}
use Rattle.oc_select.specs.Naming.{naming}
use Rattle.oc_select.specs.declared.content.Source.{Source}
use Rattle.oc_select.specs.declared.content.Source.TheVariants.{Group, File}
use Rattle.oc_select.specs.declared.naming.Comparison.TheVariants.{Strong, Weak}
use Rattle.oc_select.specs.declared.naming.Naming.{Naming}
use Rattle.oc_select.specs.declared.naming.Naming.TheVariants.{Nothing, Named, Other}
use Rattle.oc_select.specs.declared.selectors.Selectors.{Selectors}

-- the last change of a content; a group has none that is told
abbrev pub change_of : Source → Option HttpDate
change_of (Group is_open) = None
change_of (File at name changed) = changed

-- the second of a date field; none of one that is no date, and of several
abbrev pub date_in : List (List ℕ) → Option ℕ
date_in values = option_and_then parse_secs (only_of values)

-- the content has changed after this second
abbrev pub is_after : Option HttpDate → Option ℕ → Bool
is_after None second = false
is_after (Some change) None = false
is_after (Some change) (Some second) = nat_lt second (unix_secs change)

-- the content has not changed after this second
abbrev pub is_until : Option HttpDate → Option ℕ → Bool
is_until None second = false
is_until (Some change) None = false
is_until (Some change) (Some second) = nat_le (unix_secs change) second

abbrev pub is_other : Naming → Bool
is_other Nothing = false
is_other Named = false
is_other Other = true

abbrev pub is_named : Naming → Bool
is_named Nothing = false
is_named Named = true
is_named Other = false

-- If-Match names other contents; or there is no such field, and the content has changed after If-Unmodified-Since
abbrev pub is_refused : List ℕ → Option HttpDate → Selectors → Bool
is_refused tag change s =
    if is_present s.if_match then is_other (naming Strong tag s.if_match)
    else is_after change (date_in s.if_unmodified_since)

-- If-None-Match names the content; or there is no such field, and the content has not changed after If-Modified-Since
abbrev pub is_known : List ℕ → Option HttpDate → Selectors → Bool
is_known tag change s =
    if is_present s.if_none_match then is_named (naming Weak tag s.if_none_match)
    else is_until change (date_in s.if_modified_since)

-- a value that is exactly the text of the last change
abbrev pub is_change : Option HttpDate → List ℕ → Bool
is_change None value = false
is_change (Some change) value = bytes_eq value (date_text change)

-- If-Range lets a range count: there is no such field, or just one with the tag or the last change
abbrev pub is_current : List ℕ → Option HttpDate → List (List ℕ) → Bool
is_current tag change [] = true
is_current tag change (value ∷ []) = bytes_eq value tag || is_change change value
is_current tag change (value ∷ second ∷ more) = false
