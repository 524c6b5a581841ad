-- What a selection says of the request.
use Rattle.std.proofs.Common.{◌≡◌, ℕ, zero, suc, ◌+◌, ◌-◌, ◌<◌, ◌≤◌, min, Bool, true, false, cond, List, [], ◌∷◌, length, Option, Some, None, refl, sym, ap, ◌∙◌, inl, inr, ◌⊎◌, arith}
use Rattle.std.specs.Prelude.{◌&&◌, ◌||◌, ◌==◌, nat_lt, not, codes}
use Rattle.std.specs.List.{list_all, list_any, Contains}
use Rattle.std.proofs.lemmas.Bool.{cases_Bool, and_parts, ltb-true, leb-true}
use Rattle.std.proofs.lemmas.Slice.Eq.{bytes_eq-Decides}
use Rattle.httpdate.specs.Date.{unix_secs}
use Rattle.httpdate.specs.declared.date.HttpDate.{HttpDate}
use Rattle.oc_select.specs.Values.{is_present, no_selectors}
use Rattle.oc_select.specs.Tags.{tag_of, is_tag, members, without_mark}
use Rattle.oc_select.specs.Naming.{is_any, is_same, said, naming}
use Rattle.oc_select.specs.Conditions.{change_of, date_in, is_after, is_current, is_known, is_named, is_refused, is_until}
use Rattle.oc_select.specs.Ranges.{part_of, range_asked}
use Rattle.oc_select.specs.Selecting.{has_ranges, part_or_whole, range_for, selection}
use Rattle.oc_select.specs.Meaning.{IsNamed, IsNoYounger}
use Rattle.oc_select.specs.declared.content.Content.{Content}
use Rattle.oc_select.specs.declared.content.Source.{Source}
use Rattle.oc_select.specs.declared.content.Source.TheVariants.{Group, File}
use Rattle.oc_select.specs.declared.naming.Comparison.TheVariants.{Weak}
use Rattle.oc_select.specs.declared.naming.Naming.{Naming}
use Rattle.oc_select.specs.declared.naming.Naming.TheVariants.{Nothing, Named, Other}
use Rattle.oc_select.specs.declared.range.Range.{Range}
use Rattle.oc_select.specs.declared.range.Range.TheVariants.{Between, From, Last}
use Rattle.oc_select.specs.declared.selection.Selection.{Selection}
use Rattle.oc_select.specs.declared.selection.Selection.TheVariants.{Whole, Part, NotModified, PreconditionFailed, Unsatisfiable}
use Rattle.oc_select.specs.declared.selectors.RequestLine.{RequestLine}
use Rattle.oc_select.specs.declared.selectors.Selectors.{Selectors}

-- the order of a selection
abbrev chosen : Bool → Bool → ℕ → Option Range → Selection
chosen refused known length range = cond refused PreconditionFailed (cond known NotModified (part_or_whole length range))

-- a part is that of a range
part_from : (refused known : Bool) (length : ℕ) (range : Option Range) (start count : ℕ) → chosen refused known length range ≡ Part start count
    → (r : Range) × (range ≡ Some r) × (part_of length r ≡ Part start count)
part_from true known length range start count h = cc
part_from false true length range start count h = cc
part_from false false length None start count h = cc
part_from false false length (Some r) start count h = (r, refl, h)

none_from : (refused known : Bool) (length : ℕ) (range : Option Range) → chosen refused known length range ≡ Unsatisfiable
    → (r : Range) × (range ≡ Some r) × (part_of length r ≡ Unsatisfiable)
none_from true known length range h = cc
none_from false true length range h = cc
none_from false false length None h = cc
none_from false false length (Some r) h = (r, refl, h)

-- a range that counts is asked for by a GET
range_counts : (get current : Bool) (asked : Option Range) (r : Range) → cond (get && current) asked None ≡ Some r → (get ≡ true) × (asked ≡ Some r)
range_counts true true asked r h = (refl, h)
range_counts true false asked r h = cc
range_counts false current asked r h = cc

is_get : (source : Source) (line : RequestLine) → has_ranges source line ≡ true → line.is_get ≡ true
is_get (Group is_open) line h = (and_parts line.is_get (not line.has_start) h).0
is_get (File at name changed) line h = h

asked_for : (tag : List ℕ) (source : Source) (line : RequestLine) (s : Selectors) (r : Range) → range_for tag source line s ≡ Some r → (line.is_get ≡ true) × (range_asked s.range ≡ Some r)
asked_for tag source line s r h =
    let counts = range_counts (has_ranges source line) (is_current tag (change_of source) s.if_range) (range_asked s.range) r h in
    (is_get source line counts.0, counts.1)

pub part_asked : (content : Content) (line : RequestLine) (s : Selectors) (start count : ℕ) → selection content line s ≡ Part start count
    → (line.is_get ≡ true) × ((range : Range) × (range_asked s.range ≡ Some range) × (part_of content.length range ≡ Part start count))
part_asked content line s start count h =
    let tag = tag_of content in
    let change = change_of content.source in
    let found = part_from (is_refused tag change s) (is_known tag change s) content.length (range_for tag content.source line s) start count h in
    let asked = asked_for tag content.source line s found.0 found.1 in
    (asked.0, (found.0, asked.1, found.2))

pub none_asked : (content : Content) (line : RequestLine) (s : Selectors) → selection content line s ≡ Unsatisfiable
    → (line.is_get ≡ true) × ((range : Range) × (range_asked s.range ≡ Some range) × (part_of content.length range ≡ Unsatisfiable))
none_asked content line s h =
    let tag = tag_of content in
    let change = change_of content.source in
    let found = none_from (is_refused tag change s) (is_known tag change s) content.length (range_for tag content.source line s) h in
    let asked = asked_for tag content.source line s found.0 found.1 in
    (asked.0, (found.0, asked.1, found.2))

-- parts are within

positive : (n : ℕ) → (n == 0) ≡ false → 0 < n
positive zero h = cc
positive (suc n) h = omega arith

part_by_test : (t : Bool) (a c start count : ℕ) → cond t (Part a c) Unsatisfiable ≡ Part start count → (t ≡ true) × (a ≡ start) × (c ≡ count)
part_by_test true a c start count h = (refl, cc, cc)
part_by_test false a c start count h = cc

part_by_tests : (t u : Bool) (a c start count : ℕ) → cond t Unsatisfiable (cond u Whole (Part a c)) ≡ Part start count → (t ≡ false) × (u ≡ false) × (a ≡ start) × (c ≡ count)
part_by_tests true u a c start count h = cc
part_by_tests false true a c start count h = cc
part_by_tests false false a c start count h = (refl, refl, cc, cc)

within : (length : ℕ) (r : Range) (start count : ℕ) → part_of length r ≡ Part start count → (0 < count) × (start + count ≤ length)
within length (Between first last) start count h =
    let part = part_by_test (nat_lt first length) first (min last (length - 1) - first + 1) start count h in
    let inside : first < length = ltb-true first length part.0 in
    (omega (arith, part.1, part.2), omega (arith, part.1, part.2, inside))
within length (From first) start count h =
    let part = part_by_test (nat_lt first length) first (length - first) start count h in
    let inside : first < length = ltb-true first length part.0 in
    (omega (arith, part.1, part.2, inside), omega (arith, part.1, part.2, inside))
within length (Last last) start count h =
    let part = part_by_tests (last == 0) (length == 0) (length - min last length) (min last length) start count h in
    let some : 0 < last = positive last part.0 in
    let more : 0 < length = positive length part.1 in
    (omega (arith, part.2, part.3, some, more), omega (arith, part.2, part.3))

pub part_within : (content : Content) (line : RequestLine) (s : Selectors) (start count : ℕ) → selection content line s ≡ Part start count
    → (0 < count) × (start + count ≤ content.length)
part_within content line s start count h =
    let asked = part_asked content line s start count h in
    within content.length asked.1.0 start count asked.1.2

-- what was not modified

no_part : (t : Bool) (a c : ℕ) → cond t (Part a c) Unsatisfiable ≡ NotModified → ⊥
no_part true a c h = cc
no_part false a c h = cc

no_last : (t u : Bool) (a c : ℕ) → cond t Unsatisfiable (cond u Whole (Part a c)) ≡ NotModified → ⊥
no_last true u a c h = cc
no_last false true a c h = cc
no_last false false a c h = cc

never : (length : ℕ) (range : Option Range) → part_or_whole length range ≡ NotModified → ⊥
never length None h = cc
never length (Some (Between first last)) h = no_part (nat_lt first length) first (min last (length - 1) - first + 1) h
never length (Some (From first)) h = no_part (nat_lt first length) first (length - first) h
never length (Some (Last last)) h = no_last (last == 0) (length == 0) (length - min last length) (min last length) h

known_from : (refused known : Bool) (length : ℕ) (range : Option Range) → chosen refused known length range ≡ NotModified → known ≡ true
known_from true known length range h = cc
known_from false true length range h = refl
known_from false false length range h = absurd (never length range h)

-- a member that passes a test
found_in : (p : List ℕ → Bool) (xs : List (List ℕ)) → list_any p xs ≡ true → (x : List ℕ) × Contains xs x × (p x ≡ true)
found_in p [] h = cc
found_in p (x ∷ xs) h = elim (cases_Bool (p x)) [
  | inl passes ↦ (x, (0, omega arith, refl), passes)
  | inr other ↦
      let rest = found_in p xs (sym (ap (λ (t : Bool). t || list_any p xs) other) ∙ h) in
      (rest.0, (suc rest.1.0, omega (arith, rest.1.1), rest.1.2), rest.2)
]

from_said_by : (t : Bool) → cond t Named Other ≡ Named → t ≡ true
from_said_by true h = refl
from_said_by false h = cc

-- a list that names a tag has it
from_tests : (star all any : Bool) → cond star Named (cond all (cond any Named Other) Nothing) ≡ Named → (star ≡ true) ⊎ (any ≡ true)
from_tests true all any h = inl refl
from_tests false true any h = inr (from_said_by any h)
from_tests false false any h = cc

star_alone : (m : List ℕ) (ms : List (List ℕ)) → is_any (m ∷ ms) ≡ true → m ≡ codes "*"
star_alone m [] h = (bytes_eq-Decides m (codes "*")).0 h
star_alone m (n ∷ ms) h = cc

named_member : (tag : List ℕ) (ms : List (List ℕ)) → said Weak tag ms ≡ Named
    → (m : List ℕ) × Contains ms m × ((m ≡ codes "*") ⊎ (without_mark m ≡ tag))
named_member tag [] h = cc
named_member tag (m ∷ ms) h = elim (from_tests (is_any (m ∷ ms)) (list_all is_tag (m ∷ ms)) (list_any (is_same Weak tag) (m ∷ ms)) h) [
  | inl star ↦ (m, (0, omega arith, refl), inl (star_alone m ms star))
  | inr any ↦
      let found = found_in (is_same Weak tag) (m ∷ ms) any in
      (found.0, found.1, inr ((bytes_eq-Decides (without_mark found.0) tag).0 found.2))
]

from_is_named : (n : Naming) → is_named n ≡ true → n ≡ Named
from_is_named Nothing h = cc
from_is_named Named h = refl
from_is_named Other h = cc

no_younger : (change : Option HttpDate) (second : Option ℕ) → is_until change second ≡ true
    → (date : HttpDate) × (n : ℕ) × (change ≡ Some date) × (second ≡ Some n) × (unix_secs date ≤ n)
no_younger None second h = cc
no_younger (Some date) None h = cc
no_younger (Some date) (Some n) h = (date, n, refl, refl, leb-true (unix_secs date) n h)

known : (tag : List ℕ) (change : Option HttpDate) (tags dates : List (List ℕ)) → cond (is_present tags) (is_named (naming Weak tag tags)) (is_until change (date_in dates)) ≡ true
    → IsNamed tag tags ⊎ ((tags ≡ []) × IsNoYounger change dates)
known tag change [] dates h = inr (refl, no_younger change (date_in dates) h)
known tag change (value ∷ more) dates h = inl (named_member tag (members (value ∷ more)) (from_is_named (naming Weak tag (value ∷ more)) h))

pub not_modified : (content : Content) (line : RequestLine) (s : Selectors) → selection content line s ≡ NotModified
    → IsNamed (tag_of content) s.if_none_match ⊎ ((s.if_none_match ≡ []) × IsNoYounger (change_of content.source) s.if_modified_since)
not_modified content line s h =
    let tag = tag_of content in
    let change = change_of content.source in
    known tag change s.if_none_match s.if_modified_since
    (known_from (is_refused tag change s) (is_known tag change s) content.length (range_for tag content.source line s) h)

-- a request with none of the fields

no_date : (change : Option HttpDate) → is_after change None ≡ false
no_date None = refl
no_date (Some date) = refl

no_date_until : (change : Option HttpDate) → is_until change None ≡ false
no_date_until None = refl
no_date_until (Some date) = refl

abbrev no_range_at_all : Option Range
no_range_at_all = None

no_range : (t : Bool) → cond t no_range_at_all no_range_at_all ≡ no_range_at_all
no_range true = refl
no_range false = refl

plain_by : (refused known : Bool) (length : ℕ) (range : Option Range) → refused ≡ false → known ≡ false → range ≡ None → chosen refused known length range ≡ Whole
plain_by true known length range p q r = cc
plain_by false true length range p q r = cc
plain_by false false length None p q r = refl
plain_by false false length (Some r) p q e = cc

pub plain : (content : Content) (line : RequestLine)
    → selection content line no_selectors ≡ Whole
plain content line =
    let change = change_of content.source in
    plain_by (is_after change None) (is_until change None) content.length (cond (has_ranges content.source line && true) None None)
    (no_date change) (no_date_until change) (no_range (has_ranges content.source line && true))
