-- What a request selects of a content (RFC 9110, section 13.2.2).
use Rattle.std.specs.Prelude.{ℕ, Bool, not, ◌&&◌, if◌then◌else◌, Option, Some, None, List}
use Rattle.oc_select.specs.Tags.{tag_of}
use Rattle.oc_select.specs.Conditions.{change_of, is_refused, is_known, is_current}
use Rattle.oc_select.specs.Ranges.{range_asked, part_of}
use Rattle.oc_select.specs.declared.content.Content.{Content}
use Rattle.oc_select.specs.declared.content.Source.{Source}
use Rattle.oc_select.specs.declared.content.Source.TheVariants.{Group, File}
use Rattle.oc_select.specs.declared.range.Range.{Range}
use Rattle.oc_select.specs.declared.selection.Selection.{Selection}
use Rattle.oc_select.specs.declared.selection.Selection.TheVariants.{Whole, NotModified, PreconditionFailed}
use Rattle.oc_select.specs.declared.selectors.RequestLine.{RequestLine}
use Rattle.oc_select.specs.declared.selectors.Selectors.{Selectors}

-- whether ranges of a content count at all: in GET, and of a group without a start
abbrev pub has_ranges : Source → RequestLine → Bool
has_ranges (Group is_open) line = line.is_get && not line.has_start
has_ranges (File at name changed) line = line.is_get

-- the range that counts
abbrev pub range_for : List ℕ → Source → RequestLine → Selectors → Option Range
range_for tag source line s =
    if has_ranges source line && is_current tag (change_of source) s.if_range then range_asked s.range else None

-- the part that a range is, and all without one
abbrev pub part_or_whole : ℕ → Option Range → Selection
part_or_whole length None = Whole
part_or_whole length (Some range) = part_of length range

-- what is selected of a content with this tag
abbrev pub selected : List ℕ → Content → RequestLine → Selectors → Selection
selected tag content line s =
    if is_refused tag (change_of content.source) s then PreconditionFailed
    else if is_known tag (change_of content.source) s then NotModified
    else part_or_whole content.length (range_for tag content.source line s)

-- what a request selects of a content
abbrev pub selection : Content → RequestLine → Selectors → Selection
selection content line s = selected (tag_of content) content line s
