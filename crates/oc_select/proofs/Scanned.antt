-- What members say one after another is what they say together.
use Rattle.std.proofs.Common.{◌≡◌, ℕ, Bool, true, false, cond, List, [], ◌∷◌, ◌++◌, length, arith, refl, sym, ap, ◌∙◌, subst, inl, inr}
use Rattle.std.specs.Prelude.{◌&&◌, ◌||◌, codes}
use Rattle.std.specs.List.{list_all, list_any, flat_map}
use Rattle.std.specs.Str.{bytes_eq}
use Rattle.std.proofs.lemmas.Bool.{cases_Bool}
use Rattle.std.proofs.lemmas.Slice.Eq.{bytes_eq-Decides}
use Rattle.oc_select.specs.Tags.{is_tag, members, members_in, member_of, parts}
use Rattle.oc_select.specs.Naming.{is_same, said}
use Rattle.oc_select.specs.Scanning.{heard, heard_all, tag_heard, concluded}
use Rattle.oc_select.specs.declared.naming.Comparison.{Comparison}
use Rattle.oc_select.specs.declared.naming.Naming.{Naming}
use Rattle.oc_select.specs.declared.naming.Naming.TheVariants as namings
use Rattle.oc_select.specs.declared.scanning.Heard.{Heard}
use Rattle.oc_select.specs.declared.scanning.Heard.TheVariants.{Nothing, Any, Tags, Wrong}

pub heard_all-append : (how : Comparison) (tag : List ℕ) (h : Heard) (xs ys : List (List ℕ)) → heard_all how tag h (xs ++ ys) ≡ heard_all how tag (heard_all how tag h xs) ys
heard_all-append how tag h [] ys = refl
heard_all-append how tag h (x ∷ xs) ys = heard_all-append how tag (heard how tag h x) xs ys

-- after a member that can't be there nothing is said
heard_wrong : (how : Comparison) (tag : List ℕ) (ms : List (List ℕ)) → concluded (heard_all how tag Wrong ms) ≡ namings.Nothing
heard_wrong how tag [] = refl
heard_wrong how tag (m ∷ ms) = heard_wrong how tag ms

or_assoc : (a b c : Bool) → ((a || b) || c) ≡ (a || (b || c))
or_assoc true b c = refl
or_assoc false b c = refl

-- what tags say of which one was named, or none
abbrev of_tags : Comparison → List ℕ → Bool → List (List ℕ) → Naming
of_tags how tag named ms = cond (list_all is_tag ms) (cond (named || list_any (is_same how tag) ms) namings.Named namings.Other) namings.Nothing

-- one more member, which is a tag or none
one_more : (how : Comparison) (tag : List ℕ) (is_tag_too named same : Bool) (ms : List (List ℕ)) → ((b : Bool) → concluded (heard_all how tag (Tags b) ms) ≡ of_tags how tag b ms)
    → concluded (heard_all how tag (cond is_tag_too (Tags (named || same)) Wrong) ms)
    ≡ cond (is_tag_too && list_all is_tag ms) (cond (named || (same || list_any (is_same how tag) ms)) namings.Named namings.Other) namings.Nothing
one_more how tag true named same ms rest =
    rest (named || same) ∙ ap (λ (b : Bool). cond (list_all is_tag ms) (cond b namings.Named namings.Other) namings.Nothing) (or_assoc named same (list_any (is_same how tag) ms))
one_more how tag false named same ms rest = heard_wrong how tag ms

heard_tags : (how : Comparison) (tag : List ℕ) (named : Bool) (ms : List (List ℕ)) → concluded (heard_all how tag (Tags named) ms) ≡ of_tags how tag named ms
heard_tags how tag true [] = refl
heard_tags how tag false [] = refl
heard_tags how tag named (m ∷ ms) = one_more how tag (is_tag m) named (is_same how tag m) ms (λ b. heard_tags how tag b ms)

-- one member alone
alone : (star is_tag_too same : Bool) → concluded (cond star Any (cond is_tag_too (Tags (false || same)) Wrong))
    ≡ cond star namings.Named (cond (is_tag_too && true) (cond (same || false) namings.Named namings.Other) namings.Nothing)
alone true t s = refl
alone false true true = refl
alone false true false = refl
alone false false s = refl

-- a `*` with others is no list of tags
star_first : (how : Comparison) (tag n : List ℕ) (ms : List (List ℕ)) → concluded (heard_all how tag Nothing (codes "*" ∷ n ∷ ms)) ≡ said how tag (codes "*" ∷ n ∷ ms)
star_first how tag n ms = heard_wrong how tag ms

pub concluded-said : (how : Comparison) (tag : List ℕ) (ms : List (List ℕ)) → concluded (heard_all how tag Nothing ms) ≡ said how tag ms
concluded-said how tag [] = refl
concluded-said how tag (m ∷ []) = alone (bytes_eq m (codes "*")) (is_tag m) (is_same how tag m)
concluded-said how tag (m ∷ n ∷ ms) = elim (cases_Bool (bytes_eq m (codes "*"))) [
  | inl star ↦
      subst (λ (x : List ℕ). concluded (heard_all how tag Nothing (x ∷ n ∷ ms)) ≡ said how tag (x ∷ n ∷ ms)) (sym ((bytes_eq-Decides m (codes "*")).0 star)) (star_first how tag n ms)
  | inr other ↦
      ap (λ (b : Bool). concluded (heard_all how tag (cond b Any (tag_heard how tag false m)) (n ∷ ms))) other
      ∙ one_more how tag (is_tag m) false (is_same how tag m) (n ∷ ms) (λ b. heard_tags how tag b (n ∷ ms))
]

-- what was heard after one more value
pub value_more : (how : Comparison) (tag : List ℕ) (h : Heard) (value : List ℕ) (values : List (List ℕ))
    → heard_all how tag (heard_all how tag h (members_in value)) (members values) ≡ heard_all how tag h (members (value ∷ values))
value_more how tag h value values = sym (heard_all-append how tag h (members_in value) (members values))

-- what was heard after the first part
pub part_more : (how : Comparison) (tag : List ℕ) (h : Heard) (value part rest : List ℕ) → parts false value ≡ part ∷ parts false rest
    → heard_all how tag (heard_all how tag h (member_of part)) (members_in rest) ≡ heard_all how tag h (members_in value)
part_more how tag h value part rest cut =
    sym (heard_all-append how tag h (member_of part) (members_in rest)) ∙ sym (ap (λ (ps : List (List ℕ)). heard_all how tag h (flat_map member_of ps)) cut)

-- what was heard after the last part
pub part_last : (how : Comparison) (tag : List ℕ) (h : Heard) (value part : List ℕ) → parts false value ≡ part ∷ []
    → heard_all how tag h (member_of part) ≡ heard_all how tag h (members_in value)
part_last how tag h value part cut =
    sym (heard_all-append how tag h (member_of part) []) ∙ sym (ap (λ (ps : List (List ℕ)). heard_all how tag h (flat_map member_of ps)) cut)

pub none_left : (xs : List (List ℕ)) → length xs ≡ 0 → xs ≡ []
none_left [] h = refl
none_left (x ∷ xs) h = absurd (omega arith)
