-- Two tags that are the same are of the same bytes.
use Rattle.std.proofs.Common.{◌≡◌, ℕ, zero, suc, ◌/◌, ◌%◌, ◌^◌, ◌<◌, ◌≤◌, false, eqb, List, [], ◌∷◌, ◌++◌, take, refl, sym, ap, ◌∙◌, inl, inr, arith}
use Rattle.std.specs.Prelude.{decimal, codes}
use Rattle.std.specs.Fmt.{digits, digits_onto, digit_glyph}
use Rattle.std.specs.List.{AllByRecursion}
use Rattle.std.specs.Str.Parse.{digits_value}
use Rattle.std.proofs.Math.Nat.{mod-lt}
use Rattle.std.proofs.lemmas.Bool.Decides.{nat_tests, eqb_tells}
use Rattle.std.proofs.lemmas.Fmt.{decimal_injective, digits_is_IsNumeral}
use Rattle.std.proofs.lemmas.List.{append_assoc, append_cancel_right}
use Rattle.oc_select.specs.Tags.{hexadecimal, tag_name, tag_of}
use Rattle.oc_select.specs.Meaning.{IsContent, IsSource, bytes_in, bytes_of}
use Rattle.oc_select.specs.declared.content.Content.{Content}
use Rattle.oc_select.specs.declared.content.Source.{Source}
use Rattle.oc_select.specs.declared.content.Source.TheVariants.{Group, File}

-- no byte is a `-`
abbrev HasNoDash : List ℕ → Type 0
HasNoDash = AllByRecursion (λ c. eqb c 45 ≡ false)

glyph : (d : ℕ) → d < 16 → eqb (digit_glyph false d) 45 ≡ false
glyph d below = grind (arith, nat_tests)

onto : (base : ℕ) → 0 < base → base ≤ 16 → (k n : ℕ) (acc : List ℕ) → HasNoDash acc → HasNoDash (digits_onto k base false n acc)
onto base low high zero n acc all = all
onto base low high (suc k) n acc all =
    let below : n % base < base = mod-lt n low in
    let first = glyph (n % base) (omega arith) in
    elim (eqb_tells (n / base) 0) [
      | inl last ↦ rw (last.0) (first, all)
      | inr more ↦ rw (more.0) (onto base low high k (n / base) (digit_glyph false (n % base) ∷ acc) (first, all))
    ]

digits_without : (base : ℕ) → 0 < base → base ≤ 16 → (n : ℕ) → HasNoDash (digits base false n)
unfolding digits
digits_without base low high n = onto base low high 64 n [] tt

hexadecimal_without : (n : ℕ) → HasNoDash (hexadecimal n)
hexadecimal_without n = digits_without 16 (omega arith) (omega arith) n

decimal_without : (n : ℕ) → HasNoDash (decimal n)
decimal_without n = digits_without 10 (omega arith) (omega arith) n

-- a dash is no other byte
dash : eqb 45 45 ≡ false → ⊥
dash h = cc

-- what has no dash has none inside
none_inside : (a xs bytes : List ℕ) → HasNoDash bytes → bytes ≡ a ++ 45 ∷ xs → ⊥
none_inside [] xs [] all h = cc
none_inside (c ∷ a) xs [] all h = cc
none_inside [] xs (b ∷ bytes) all h =
    let first : b ≡ 45 = cc in
    dash (sym (ap (λ (c : ℕ). eqb c 45) first) ∙ all.0)
none_inside (c ∷ a) xs (b ∷ bytes) all h = none_inside a xs bytes all.1 cc

-- the first dash ends what is before it
split_dash : (a b xs ys : List ℕ) → HasNoDash a → HasNoDash b → a ++ 45 ∷ xs ≡ b ++ 45 ∷ ys → (a ≡ b) × (xs ≡ ys)
split_dash [] [] xs ys p q h = (refl, cc)
split_dash [] (c ∷ b) xs ys p q h =
    let first : c ≡ 45 = cc in
    absurd (dash (sym (ap (λ (d : ℕ). eqb d 45) first) ∙ q.0))
split_dash (c ∷ a) [] xs ys p q h =
    let first : c ≡ 45 = cc in
    absurd (dash (sym (ap (λ (d : ℕ). eqb d 45) first) ∙ p.0))
split_dash (c ∷ a) (d ∷ b) xs ys p q h =
    let first : c ≡ d = cc in
    let rest = split_dash a b xs ys p.1 q.1 cc in
    (cc, rest.1)

hexadecimal_value : (n : ℕ) → n < 2 ^ 64 → digits_value 16 (hexadecimal n) ≡ n
hexadecimal_value n small = (digits_is_IsNumeral 16 false (omega arith) (omega arith) n (omega arith)).1

hexadecimal_injective : (m n : ℕ) → m < 2 ^ 64 → n < 2 ^ 64 → hexadecimal m ≡ hexadecimal n → m ≡ n
hexadecimal_injective m n p q h = sym (hexadecimal_value m p) ∙ ap (digits_value 16) h ∙ hexadecimal_value n q

-- the name of a file's tag, from its first dash
regroup : (a b c : List ℕ) → a ++ codes "-" ++ b ++ codes "-" ++ c ≡ a ++ 45 ∷ (b ++ 45 ∷ c)
regroup a b c = append_assoc (a ++ codes "-" ++ b) (codes "-") c ∙ append_assoc (a ++ codes "-") b (45 ∷ c) ∙ append_assoc a (codes "-") (b ++ 45 ∷ c)

same_bytes : (group : List ℕ → List ℕ) (path : List ℕ) (m n : ℕ) (a b : Source) → m < 2 ^ 64 → n < 2 ^ 64 → IsSource a → IsSource b → tag_name m a ≡ tag_name n b
    → bytes_in group path m a ≡ bytes_in group path n b
same_bytes group path m n (Group is_open) (Group is_open_too) p q x y h = ap (λ (l : ℕ). take l (group path)) (decimal_injective m n p q h)
same_bytes group path m n (Group is_open) (File at name changed) p q x y h =
    absurd (none_inside (hexadecimal at) (hexadecimal n ++ 45 ∷ hexadecimal name) (decimal m) (decimal_without m) (h ∙ regroup (hexadecimal at) (hexadecimal n) (hexadecimal name)))
same_bytes group path m n (File at name changed) (Group is_open) p q x y h =
    absurd (none_inside (hexadecimal at) (hexadecimal m ++ 45 ∷ hexadecimal name) (decimal n) (decimal_without n) (sym h ∙ regroup (hexadecimal at) (hexadecimal m) (hexadecimal name)))
same_bytes group path m n (File at name changed) (File at_too name_too changed_too) p q x y h =
    let whole : hexadecimal at ++ 45 ∷ (hexadecimal m ++ 45 ∷ hexadecimal name) ≡ hexadecimal at_too ++ 45 ∷ (hexadecimal n ++ 45 ∷ hexadecimal name_too) =
    sym (regroup (hexadecimal at) (hexadecimal m) (hexadecimal name)) ∙ h ∙ regroup (hexadecimal at_too) (hexadecimal n) (hexadecimal name_too) in
    let first = split_dash (hexadecimal at) (hexadecimal at_too) (hexadecimal m ++ 45 ∷ hexadecimal name) (hexadecimal n ++ 45 ∷ hexadecimal name_too) (hexadecimal_without at) (hexadecimal_without at_too) whole in
    let second = split_dash (hexadecimal m) (hexadecimal n) (hexadecimal name) (hexadecimal name_too) (hexadecimal_without m) (hexadecimal_without n) first.1 in
    let places : at ≡ at_too = hexadecimal_injective at at_too x.0 y.0 first.0 in
    let lengths : m ≡ n = hexadecimal_injective m n p q second.0 in
    let names : name ≡ name_too = hexadecimal_injective name name_too x.1 y.1 second.1 in
    cc

-- what is between the quotes of two tags that are the same
names_of : (a b : List ℕ) → codes "\"" ++ a ++ codes "\"" ≡ codes "\"" ++ b ++ codes "\"" → a ≡ b
names_of a b h =
    let rest : a ++ codes "\"" ≡ b ++ codes "\"" = cc in
    append_cancel_right a b (codes "\"") rest

pub tag_tells : (group : List ℕ → List ℕ) (path : List ℕ) (a b : Content) → IsContent a → IsContent b → tag_of a ≡ tag_of b → bytes_of group path a ≡ bytes_of group path b
tag_tells group path a b p q h =
    same_bytes group path a.length b.length a.source b.source p.0 q.0 p.1 q.1 (names_of (tag_name a.length a.source) (tag_name b.length b.source) h)
