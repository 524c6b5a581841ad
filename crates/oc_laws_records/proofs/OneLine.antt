-- A note is one line.
use Rattle.std.proofs.Common.{◌≡◌, ◌≢◌, ℕ, zero, suc, ◌+◌, ◌/◌, ◌%◌, Bool, true, false, not, ◌==◌, List, [], ◌∷◌, ◌++◌, refl, arith, codes, decimal}
use Rattle.std.specs.Prelude.{if◌then◌else◌, nat_lt}
use Rattle.std.specs.Fmt.{digit_glyph, digits, digits_onto}
use Rattle.std.specs.List.{list_all}
use Rattle.std.specs.Str.{byte}
use Rattle.std.proofs.lemmas.Bool.{and_parts, eq-eqb}
use Rattle.oc_base.proofs.Each.{all_append}
use Rattle.oc_probe.specs.declared.fault.ProbeFault.{ProbeFault}
use Rattle.oc_probe.specs.declared.fault.ProbeFault.TheVariants as faults
use Rattle.oc_routes.specs.Refusals.{why_text}
use Rattle.oc_routes.specs.declared.refused.Refused.{Refused}
use Rattle.oc_routes.specs.declared.refused.Refused.TheVariants as refusals
use Rattle.oc_deeds.specs.Turns.{fault_word, probe_note}
use Rattle.oc_laws_records.specs.Lawful.{IsOneLine}

one_then : (a c : List ℕ) → IsOneLine a → IsOneLine c → IsOneLine (a ++ c)
one_then a c one more = all_append (λ b. b ≢ byte "\n") a c one more

-- letters, by a test that computes
pub letters_one : (bs : List ℕ) → list_all (λ b. not (b == 10)) bs ≡ true → IsOneLine bs
letters_one [] all = tt
letters_one (b ∷ bs) all =
    let parts = and_parts (not (b == 10)) (list_all (λ c. not (c == 10)) bs) all in
    (λ e. other (b == 10) (eq-eqb b 10 e) parts.0, letters_one bs parts.1)
  where
    other : (t : Bool) → t ≡ true → not t ≡ true → ⊥
    other true e h = cc
    other false e h = cc

-- Numbers

-- no digit is an end of a line
glyph_one : (b : Bool) (d : ℕ) → (if b then 48 + d else (if false then 55 + d else 87 + d)) ≢ byte "\n"
glyph_one true d e = let f : 48 + d ≡ 10 = e in omega (arith, f)
glyph_one false d e = let f : 87 + d ≡ 10 = e in omega (arith, f)

-- the last digits of a number, before others
digits_one : (k n : ℕ) (more : List ℕ) → IsOneLine more → IsOneLine (digits_onto k 10 false n more)
digits_one zero n more one = one
digits_one (suc k) n more one = by_test (n / 10 == 0) (digits_one k (n / 10) (digit_glyph false (n % 10) ∷ more) (glyph_one (nat_lt (n % 10) 10) (n % 10), one))
  where
    by_test : (b : Bool) → IsOneLine (digits_onto k 10 false (n / 10) (digit_glyph false (n % 10) ∷ more))
        → IsOneLine (if b then digit_glyph false (n % 10) ∷ more else digits_onto k 10 false (n / 10) (digit_glyph false (n % 10) ∷ more))
    by_test true rest = (glyph_one (nat_lt (n % 10) 10) (n % 10), one)
    by_test false rest = rest

decimal_one : (n : ℕ) → IsOneLine (decimal n)
unfolding digits
decimal_one n = digits_one 64 n [] tt

-- Notes

-- the text for the cause of a refusal is within one line
pub why_one : (why : Refused) → IsOneLine (why_text why)
why_one refusals.Source = letters_one (codes "source") refl
why_one refusals.Ended = letters_one (codes "ended") refl
why_one refusals.Head = letters_one (codes "head") refl
why_one refusals.HeadLong = letters_one (codes "headlong") refl
why_one refusals.Fields = letters_one (codes "fields") refl
why_one refusals.Host = letters_one (codes "host") refl
why_one (refusals.Coding both) = letters_one (codes "coding") refl
why_one (refusals.Length missing) = letters_one (codes "length") refl
why_one refusals.BodyLong = letters_one (codes "bodylong") refl
why_one refusals.Method = letters_one (codes "method") refl
why_one refusals.Path = letters_one (codes "path") refl
why_one refusals.Query = letters_one (codes "query") refl
why_one (refusals.Denied rule needs_token) = one_then (codes "denied ") (decimal rule) (letters_one (codes "denied ") refl) (decimal_one rule)
why_one refusals.Mac = letters_one (codes "mac") refl
why_one refusals.Message = letters_one (codes "message") refl
why_one refusals.Body = letters_one (codes "body") refl
why_one (refusals.At length) = one_then (codes "at ") (decimal length) (letters_one (codes "at ") refl) (decimal_one length)

-- the word for the fault of a probe is within one line
word_one : (fault : ProbeFault) → IsOneLine (fault_word fault)
word_one faults.Link = letters_one (codes " link") refl
word_one other = letters_one (codes " reply") refl

pub probe_one : (peer : ℕ) (fault : ProbeFault) → IsOneLine (probe_note peer fault)
probe_one peer fault =
    one_then (codes "probe ") (decimal peer ++ fault_word fault) (letters_one (codes "probe ") refl)
    (one_then (decimal peer) (fault_word fault) (decimal_one peer) (word_one fault))
