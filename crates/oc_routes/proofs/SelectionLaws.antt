-- What a client selects of the content of a group.
use Rattle.std.proofs.Common.{◌≡◌, ◌⊎◌, ℕ, ◌+◌, ◌<◌, ◌≤◌, ◌^◌, Bool, true, false, inl, inr, Some, None, List, [], sym, ap, ◌∙◌}
use Rattle.std.specs.Prelude.{if◌then◌else◌}
use Rattle.oc_base.specs.Groups.{bytes_of}
use Rattle.oc_base.specs.declared.group.Group.{Group}
use Rattle.oc_select.specs.Conditions.{change_of}
use Rattle.oc_select.specs.Meaning.{IsContent, IsNamed, IsNoYounger}
use Rattle.oc_select.specs.Meaning as meaning
use Rattle.oc_select.specs.Selecting.{selection}
use Rattle.oc_select.specs.Tags.{tag_of}
use Rattle.oc_select.specs.declared.content.Content.{Content}
use Rattle.oc_select.specs.declared.selection.Selection.{Selection}
use Rattle.oc_select.specs.declared.selection.Selection.TheVariants.{Whole, Part, NotModified}
use Rattle.oc_select.specs.declared.selectors.RequestLine.{RequestLine}
use Rattle.oc_select.specs.declared.selectors.Selectors.{Selectors}
use Rattle.oc_routes.proofs.PieceLaws.{owed_begun}
use Rattle.oc_routes.specs.Contents.{begun, owed, part_of}
use Rattle.oc_routes.specs.Group.{chosen}
use Rattle.oc_routes.specs.Manners.{content_for}
use Rattle.oc_routes.specs.Selections.{client_selection, content_here, content_of, would_give}
use Rattle.oc_routes.specs.declared.hint.Hint.{Hint}
use Rattle.oc_routes.specs.declared.holding.Holding.{Holding}
use Rattle.oc_routes.specs.declared.manner.Manner.{Manner}
use Rattle.oc_routes.specs.declared.manner.Manner.TheVariants.{HeadAlone, Once, Follow}
use Rattle.oc_routes.specs.declared.response.GroupRange.{GroupRange}
use Rattle.oc_routes.specs.declared.showing.Client.{Client}

-- what is not whole was selected of a content that would be given
selected_by : (gives : Bool) (chosen other : Selection) → (if gives then chosen else Whole) ≡ other → (other ≡ Whole → ⊥) → chosen ≡ other
selected_by true chosen other is not_whole = is
selected_by false chosen other is not_whole = absurd (not_whole (sym is))

part_not_whole : (first count : ℕ) → Part first count ≡ Whole → ⊥
part_not_whole first count e = cc

known_not_whole : NotModified ≡ Whole → ⊥
known_not_whole e = cc

-- what is not whole is the selection of the content that the client is shown
pub shown_selects : (hint : Hint) (h : Holding) (start : ℕ) (line : RequestLine) (selectors : Selectors) (other : Selection)
    → client_selection hint h start line selectors ≡ other → (other ≡ Whole → ⊥) → selection (content_here hint h start) line selectors ≡ other
shown_selects hint h start line selectors other is not_whole =
    selected_by (would_give hint h start) (selection (content_here hint h start) line selectors) other is not_whole

pub part_within : ((content : Content) (line : RequestLine) (s : Selectors) (start count : ℕ) → selection content line s ≡ Part start count → (0 < count) × (start + count ≤ content.length))
    → (hint : Hint) (h : Holding) (start : ℕ) (line : RequestLine) (selectors : Selectors) (first count : ℕ)
    → client_selection hint h start line selectors ≡ Part first count → (0 < count) × (first + count ≤ (content_here hint h start).length)
part_within law hint h start line selectors first count is =
    law (content_here hint h start) line selectors first count (shown_selects hint h start line selectors (Part first count) is (part_not_whole first count))

named_or : (tag : List ℕ) (tags dates : List (List ℕ)) → IsNamed tag tags ⊎ ((tags ≡ []) × IsNoYounger None dates) → IsNamed tag tags
named_or tag tags dates (inl named) = named
named_or tag tags dates (inr young) = let none : None ≡ Some ((young.1).0) = (young.1).2 in cc

-- a group has no time of change, so what is known of it is its tag
pub known_is_named : ((content : Content) (line : RequestLine) (s : Selectors) → selection content line s ≡ NotModified
    → IsNamed (tag_of content) s.if_none_match ⊎ ((s.if_none_match ≡ []) × IsNoYounger (change_of content.source) s.if_modified_since))
    → (hint : Hint) (h : Holding) (start : ℕ) (line : RequestLine) (selectors : Selectors)
    → client_selection hint h start line selectors ≡ NotModified → IsNamed (tag_of (content_here hint h start)) selectors.if_none_match
known_is_named law hint h start line selectors is =
    named_or (tag_of (content_here hint h start)) selectors.if_none_match selectors.if_modified_since
    (law (content_here hint h start) line selectors (shown_selects hint h start line selectors NotModified is known_not_whole))

-- the content of a reply in this manner
content_is : (manner : Manner) (whole range : GroupRange) → content_for manner whole ≡ Some range → range ≡ whole
content_is HeadAlone whole range is = cc
content_is Once whole range is = let same : Some whole ≡ Some range = is in cc
content_is Follow whole range is = let same : Some whole ≡ Some range = is in cc

pub part_given : (client : Client) (sealed : Bool) (all : ℕ) (content : Content) (first count : ℕ) (range : GroupRange) (groups : List Group)
    → (chosen client (Part first count) sealed all content).content ≡ Some range
    → owed (Some (begun client.group range)) groups ≡ part_of client.group first count groups
part_given client sealed all content first count range groups is =
    let whole : GroupRange = record { start = first; count = count; chunked = false } in
    ap (λ (r : GroupRange). owed (Some (begun client.group r)) groups) (content_is client.manner whole range is)
    ∙ owed_begun client.group whole groups

-- the tag of a group's content tells its length
pub same_bytes : ((group : List ℕ → List ℕ) (path : List ℕ) (a b : Content) → IsContent a → IsContent b → tag_of a ≡ tag_of b → meaning.bytes_of group path a ≡ meaning.bytes_of group path b)
    → (group : List ℕ) (a b : ℕ) (p q : Bool) (groups : List Group) → a < 2 ^ 64 → b < 2 ^ 64
    → tag_of (content_of a p) ≡ tag_of (content_of b q) → part_of group 0 a groups ≡ part_of group 0 b groups
same_bytes law group a b p q groups a_fits b_fits is =
    law (λ (name : List ℕ). bytes_of name groups) group (content_of a p) (content_of b q) (a_fits, tt) (b_fits, tt) is
