-- What a client was given is known when it sends it back.
use Rattle.std.proofs.Common.{◌≡◌, ℕ, zero, suc, ◌-◌, ◌/◌, ◌%◌, ◌<◌, ◌≤◌, Bool, true, false, cond, eqb, List, [], ◌∷◌, ◌++◌, length, length-append, get_or, leb, take, reverse, Option, Some, None, refl, sym, ap, ◌∙◌, inl, inr, arith}
use Rattle.std.specs.Prelude.{◌&&◌, ◌||◌, codes, option_and_then}
use Rattle.std.specs.Fmt.{digits, digits_onto, digit_glyph}
use Rattle.std.specs.List.{AllByRecursion, flat_map, list_all, onto_first}
use Rattle.std.specs.Str.{bytes_eq}
use Rattle.std.proofs.Math.Nat.{mod-lt}
use Rattle.std.proofs.lemmas.Bool.{and_from, eq-eqb, le-leb, ne_eqb}
use Rattle.std.proofs.lemmas.Bool.Decides.{nat_tests, eqb_tells}
use Rattle.std.proofs.lemmas.List.{get_or_push, reverse-append, reverse-reverse, take-append-le, take_all}
use Rattle.std.proofs.lemmas.Slice.Eq.{bytes_eq-Decides}
use Rattle.httparse.specs.Grammar.{skip_ows, trim_ows}
use Rattle.httpdate.specs.Date.{date_text, parse_secs, unix_secs, valid_secs}
use Rattle.httpdate.specs.Valid.{parts_secs}
use Rattle.httpdate.specs.declared.date.HttpDate.{HttpDate}
use Rattle.httpdate.specs.declared.parts.Parts.{Parts}
use Rattle.httpdate.proofs.FormatLemmas.{parse_complete}
use Rattle.httpdate.proofs.ValidLemmas.{is_valid_complete}
use Rattle.oc_select.specs.Tags.{hexadecimal, is_quoted, is_tag, is_tag_byte, member_of, members, parts, quoted_after, tag_name, tag_of}
use Rattle.oc_select.specs.Naming.{naming, said}
use Rattle.oc_select.specs.declared.content.Content.{Content}
use Rattle.oc_select.specs.declared.content.Source.{Source}
use Rattle.oc_select.specs.declared.content.Source.TheVariants.{Group, File}
use Rattle.oc_select.specs.declared.naming.Comparison.TheVariants.{Weak}
use Rattle.oc_select.specs.declared.naming.Naming.TheVariants.{Nothing, Named, Other}

-- the text of a date is read as its second
pub date_back : (d : HttpDate) → parse_secs (date_text d) ≡ Some (unix_secs d)
date_back d =
    ap (λ (o : Option Parts). option_and_then valid_secs o) (parse_complete (date_text d) d.parts (d.civil, d.time, d.right_day) (inl refl))
    ∙ ap (λ (t : Bool). cond t (Some (parts_secs d.parts)) None) (is_valid_complete d.parts (d.civil, d.time, d.right_day))

-- a byte of a tag
abbrev IsPlain : ℕ → Type 0
IsPlain b = (is_tag_byte b ≡ true) × (eqb b 34 ≡ false)

abbrev ArePlain : List ℕ → Type 0
ArePlain = AllByRecursion IsPlain

plain_byte : (d : ℕ) → d < 16 → is_tag_byte (digit_glyph false d) ≡ true
plain_byte d below = grind (arith, nat_tests)

no_quote : (d : ℕ) → d < 16 → eqb (digit_glyph false d) 34 ≡ false
no_quote d below = grind (arith, nat_tests)

onto_plain : (base : ℕ) → 0 < base → base ≤ 16 → (k n : ℕ) (acc : List ℕ) → ArePlain acc → ArePlain (digits_onto k base false n acc)
onto_plain base low high zero n acc all = all
onto_plain base low high (suc k) n acc all =
    let below : n % base < base = mod-lt n low in
    let first : IsPlain (digit_glyph false (n % base)) = (plain_byte (n % base) (omega arith), no_quote (n % base) (omega arith)) in
    elim (eqb_tells (n / base) 0) [
      | inl last ↦ rw (last.0) (first, all)
      | inr more ↦ rw (more.0) (onto_plain base low high k (n / base) (digit_glyph false (n % base) ∷ acc) (first, all))
    ]

plain_digits : (base : ℕ) → 0 < base → base ≤ 16 → (n : ℕ) → ArePlain (digits base false n)
unfolding digits
plain_digits base low high n = onto_plain base low high 64 n [] tt

plain_append : (xs ys : List ℕ) → ArePlain xs → ArePlain ys → ArePlain (xs ++ ys)
plain_append [] ys p q = q
plain_append (x ∷ xs) ys p q = (p.0, plain_append xs ys p.1 q)

plain_dash : ArePlain (codes "-")
plain_dash = ((refl, refl), tt)

plain_name : (length : ℕ) (source : Source) → ArePlain (tag_name length source)
plain_name length (Group is_open) = plain_digits 10 (omega arith) (omega arith) length
plain_name length (File at name changed) =
    let number = plain_digits 16 (omega arith) (omega arith) in
    plain_append (hexadecimal at ++ codes "-" ++ hexadecimal length ++ codes "-") (hexadecimal name)
    (plain_append (hexadecimal at ++ codes "-" ++ hexadecimal length) (codes "-")
    (plain_append (hexadecimal at ++ codes "-") (hexadecimal length) (plain_append (hexadecimal at) (codes "-") (number at) plain_dash) (number length)) plain_dash)
    (number name)

-- a tag is one part of a list
and_false : (t : Bool) → (t && false) ≡ false
and_false true = refl
and_false false = refl

parts_inside : (xs : List ℕ) → ArePlain xs → parts true (xs ++ codes "\"") ≡ (xs ++ codes "\"") ∷ []
parts_inside [] all = refl
parts_inside (b ∷ xs) all =
    ap (λ (t : Bool). cond t ([] ∷ parts false (xs ++ codes "\"")) (onto_first b (parts (quoted_after true b) (xs ++ codes "\"")))) (and_false (eqb b 44))
    ∙ ap (λ (t : Bool). onto_first b (parts (cond t false true) (xs ++ codes "\""))) all.0.1
    ∙ ap (λ (ps : List (List ℕ)). onto_first b ps) (parts_inside xs all.1)

one_part : (name : List ℕ) → ArePlain name → parts false (34 ∷ (name ++ codes "\"")) ≡ (34 ∷ (name ++ codes "\"")) ∷ []
one_part name all = ap (λ (ps : List (List ℕ)). onto_first 34 ps) (parts_inside name all)

-- no space is at its ends
untrimmed : (name : List ℕ) → trim_ows (34 ∷ (name ++ codes "\"")) ≡ 34 ∷ (name ++ codes "\"")
unfolding trim_ows
untrimmed name =
    let turned : reverse (34 ∷ (name ++ codes "\"")) ≡ 34 ∷ reverse (34 ∷ name) = reverse-append (34 ∷ name) (codes "\"") in
    ap (λ (ys : List ℕ). reverse (skip_ows ys)) turned ∙ sym (ap (λ (ys : List ℕ). reverse ys) turned) ∙ reverse-reverse (34 ∷ (name ++ codes "\""))

one_member : (name : List ℕ) → member_of (34 ∷ (name ++ codes "\"")) ≡ (34 ∷ (name ++ codes "\"")) ∷ []
one_member name =
    ap (λ (t : List ℕ). cond (eqb (length t) 0) [] (t ∷ [])) (untrimmed name)
    ∙ ap (λ (t : Bool). cond t [] ((34 ∷ (name ++ codes "\"")) ∷ [])) (ne_eqb (length (34 ∷ (name ++ codes "\""))) 0 (λ e. omega arith))

-- what is between two quotes is a tag
all_tag_bytes : (xs : List ℕ) → ArePlain xs → list_all is_tag_byte xs ≡ true
all_tag_bytes [] all = refl
all_tag_bytes (x ∷ xs) all = and_from (is_tag_byte x) (list_all is_tag_byte xs) all.0.0 (all_tag_bytes xs all.1)

four : (a b c d : Bool) → a ≡ true → b ≡ true → c ≡ true → d ≡ true → (a && b && c && d) ≡ true
four true true true true p q r s = refl
four false b c d p q r s = cc
four true false c d p q r s = cc
four true true false d p q r s = cc
four true true true false p q r s = cc

quoted : (name : List ℕ) → ArePlain name → is_quoted (34 ∷ (name ++ codes "\"")) ≡ true
quoted name all =
    let tag : List ℕ = 34 ∷ (name ++ codes "\"") in
    let long = length-append name (codes "\"") in
    let last : get_or tag (length tag - 1) 0 ≡ 34 = get_or_push (34 ∷ name) 34 0 (length tag - 1) (omega (arith, long)) in
    let inside : take (length tag - 2) (name ++ codes "\"") ≡ name =
    take-append-le (length tag - 2) name (codes "\"") (omega (arith, long)) ∙ take_all (length tag - 2) name (omega (arith, long)) in
    four (leb 2 (length tag)) true (eqb (get_or tag (length tag - 1) 0) 34) (list_all is_tag_byte (take (length tag - 2) (name ++ codes "\"")))
    (le-leb 2 (length tag) (omega (arith, long))) refl (eq-eqb (get_or tag (length tag - 1) 0) 34 last)
    (ap (λ (xs : List ℕ). list_all is_tag_byte xs) inside ∙ all_tag_bytes name all)

one_named : (is_tag_too same : Bool) → is_tag_too ≡ true → same ≡ true → cond (is_tag_too && true) (cond (same || false) Named Other) Nothing ≡ Named
one_named true true p q = refl
one_named false same p q = cc
one_named true false p q = cc

-- the tag of a content names it
pub tag_back : (content : Content) → naming Weak (tag_of content) (tag_of content ∷ []) ≡ Named
tag_back content =
    let name = tag_name content.length content.source in
    let plain = plain_name content.length content.source in
    let tag : List ℕ = tag_of content in
    let alone : members (tag ∷ []) ≡ tag ∷ [] =
    ap (λ (ps : List (List ℕ)). flat_map member_of ps ++ []) (one_part name plain) ∙ ap (λ (ms : List (List ℕ)). (ms ++ []) ++ []) (one_member name) in
    ap (λ (ms : List (List ℕ)). said Weak tag ms) alone ∙ one_named (is_tag tag) (bytes_eq tag tag) (quoted name plain) ((bytes_eq-Decides tag tag).1 refl)
