-- Worked examples of requests and of the fields of replies.
use Rattle.std.specs.Prelude.{◌≡◌, ℕ, true, false, Some, None, List, [], ◌∷◌, codes}
use Rattle.oc_select.specs.Tags.{tag_of}
use Rattle.oc_select.specs.Naming.{naming}
use Rattle.oc_select.specs.Ranges.{range_asked, part_of}
use Rattle.oc_select.specs.Selecting.{selection}
use Rattle.oc_select.specs.Texts.{part_range, no_range}
use Rattle.oc_select.specs.Media.{media_type}
use Rattle.oc_select.specs.declared.content.Content.{Content}
use Rattle.oc_select.specs.declared.content.Source.TheVariants.{Group, File}
use Rattle.oc_select.specs.declared.naming.Comparison.TheVariants.{Strong, Weak}
use Rattle.oc_select.specs.declared.naming.Naming.TheVariants.{Nothing, Named, Other}
use Rattle.oc_select.specs.declared.range.Range.TheVariants.{Between, From, Last}
use Rattle.oc_select.specs.declared.selection.Selection.TheVariants.{Whole, Part, NotModified, PreconditionFailed, Unsatisfiable}
use Rattle.oc_select.specs.declared.selectors.RequestLine.{RequestLine}
use Rattle.oc_select.specs.declared.selectors.Selectors.{Selectors}

-- a group that is sealed, one that is open, and a file
abbrev sealed : Content
sealed = record { length = 10; source = Group false }

abbrev growing : Content
growing = record { length = 10; source = Group true }

abbrev file : Content
file = record { length = 10; source = File 4096 2 None }

abbrev get : RequestLine
get = record { is_get = true; has_start = false }

abbrev head : RequestLine
head = record { is_get = false; has_start = false }

abbrev get_start : RequestLine
get_start = record { is_get = true; has_start = true }

-- no field
abbrev nothing : Selectors
nothing = record { if_match = []; if_none_match = []; if_modified_since = []; if_unmodified_since = []; if_range = []; range = [] }

-- one field of a name
abbrev one : List ℕ → List (List ℕ)
one value = value ∷ []

-- a tag
abbrev nine : List ℕ
nine = codes "\"9\""

-- lists of tags
pub record AreTags : Type 0 where
  pub tag : naming Strong nine (one (codes "\"9\"")) ≡ Named
  pub other : naming Strong nine (one (codes "\"8\"")) ≡ Other
  pub weak : naming Weak nine (one (codes "W/\"9\"")) ≡ Named
  pub weak_is_not_strong : naming Strong nine (one (codes "W/\"9\"")) ≡ Other
  pub any : naming Strong nine (one (codes "*")) ≡ Named
  pub any_with_more : naming Strong nine (one (codes "*, \"9\"")) ≡ Nothing
  pub empty_members : naming Weak nine (one (codes ", \"8\" ,,\"9\",")) ≡ Named
  pub commas_alone : naming Weak nine (one (codes " , ,")) ≡ Nothing
  pub no_quotes : naming Weak nine (one (codes "9")) ≡ Nothing
  pub comma_within : naming Weak nine (one (codes "\"8,9\", \"9\"")) ≡ Named
  pub quote_missing : naming Weak nine (one (codes "\"8, \"9\"")) ≡ Nothing
  pub two_fields : naming Weak nine (codes "\"8\"" ∷ codes "\"9\"" ∷ []) ≡ Named
  pub one_of_two_wrong : naming Weak nine (codes "\"9\"" ∷ codes "x" ∷ []) ≡ Nothing

-- ranges, and parts
pub record AreRanges : Type 0 where
  pub between : range_asked (one (codes "bytes=3-6")) ≡ Some (Between 3 6)
  pub capitals : range_asked (one (codes "BYTES=3-")) ≡ Some (From 3)
  pub last : range_asked (one (codes "bytes=-3")) ≡ Some (Last 3)
  pub backwards : range_asked (one (codes "bytes=6-3")) ≡ None
  pub two_ranges : range_asked (one (codes "bytes=0-1,3-6")) ≡ None
  pub space : range_asked (one (codes "bytes= 3-6")) ≡ None
  pub no_number : range_asked (one (codes "bytes=-")) ≡ None
  pub three : range_asked (one (codes "bytes=3-6-9")) ≡ None
  pub twenty_digits : range_asked (one (codes "bytes=00000000000000000003-")) ≡ None
  pub two_fields : range_asked (codes "bytes=3-6" ∷ codes "bytes=3-6" ∷ []) ≡ None
  pub part : part_of 10 (Between 3 6) ≡ Part 3 4
  pub past_the_end : part_of 10 (Between 3 20) ≡ Part 3 7
  pub at_the_end : part_of 10 (From 10) ≡ Unsatisfiable
  pub last_more : part_of 10 (Last 20) ≡ Part 0 10
  pub last_none : part_of 10 (Last 0) ≡ Unsatisfiable
  pub last_of_nothing : part_of 0 (Last 3) ≡ Whole

-- conditions in their order, and ranges after them
pub record AreOrders : Type 0 where
  pub range : selection sealed get (record nothing { range = one (codes "bytes=3-6") }) ≡ Part 3 4
  pub head_has_none : selection sealed head (record nothing { range = one (codes "bytes=3-6") }) ≡ Whole
  pub start_has_none : selection sealed get_start (record nothing { range = one (codes "bytes=3-6") }) ≡ Whole
  pub file_has_no_start : selection file get_start (record nothing { range = one (codes "bytes=3-6") }) ≡ Part 3 4
  pub match_first : selection file get (record nothing { if_match = one (codes "\"1\""); if_none_match = one (codes "*"); range = one (codes "bytes=3-6") }) ≡ PreconditionFailed
  pub then_none_match : selection file get (record nothing { if_match = one (codes "\"1000-a-2\""); if_none_match = one (codes "*"); range = one (codes "bytes=3-6") }) ≡ NotModified
  pub same_tag : selection growing get (record nothing { if_range = one (codes "\"10\""); range = one (codes "bytes=3-") }) ≡ Part 3 7
  pub another_tag : selection growing get (record nothing { if_range = one (codes "\"9\""); range = one (codes "bytes=3-") }) ≡ Whole
  pub past : selection growing get (record nothing { range = one (codes "bytes=10-") }) ≡ Unsatisfiable

-- the values of fields
pub record AreTexts : Type 0 where
  pub tag : tag_of sealed ≡ codes "\"10\""
  pub file_tag : tag_of file ≡ codes "\"1000-a-2\""
  pub part : part_range sealed 3 4 ≡ codes "bytes 3-6/10"
  pub open_part : part_range growing 3 7 ≡ codes "bytes 3-9/*"
  pub none : no_range 10 ≡ codes "bytes */10"

-- media types
pub record AreTypes : Type 0 where
  pub html : media_type (codes "/a/b.HTML") ≡ codes "text/html; charset=utf-8"
  pub last_ending : media_type (codes "/a.tar.gz") ≡ codes "application/gzip"
  pub directory : media_type (codes "/a.html/b") ≡ codes "application/octet-stream"
  pub unknown : media_type (codes "/a.rs") ≡ codes "application/octet-stream"
  pub nothing : media_type [] ≡ codes "application/octet-stream"
