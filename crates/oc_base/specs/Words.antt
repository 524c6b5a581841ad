-- The words of a line, and the value of one word.
use Rattle.std.specs.Prelude.{◌≡◌, ℕ, Bool, not, ◌&&◌, ◌==◌, nat_le, nat_lt, if◌then◌else◌, Result, Ok, Err, List, [], ◌∷◌, length, slice_index, filter}
use Rattle.std.specs.Char.{is_ascii_digit}
use Rattle.std.specs.List.{list_all, slice_split}
use Rattle.std.specs.Str.{byte}
use Rattle.std.specs.Str.Parse.{digits_value}
use Rattle.oc_base.specs.declared.why.Why.{Why}
use Rattle.oc_base.specs.declared.why.Why.TheVariants.{Count, Number, Range}

-- the words of a line, which spaces separate
abbrev pub words : List ℕ → List (List ℕ)
words line = filter (λ word. not (length word == 0)) (slice_split (λ b. b == byte " ") line)

-- there is one more field
abbrev pub IsMore : List (List ℕ) → Type 0
IsMore fields = (a : List ℕ) × (rest : List (List ℕ)) × (fields ≡ a ∷ rest)

-- the field of a line with exactly one
abbrev pub one : List (List ℕ) → Result (List ℕ) Why
one (a ∷ []) = Ok a
one fields = Err Count

-- the fields of a line with exactly two
abbrev pub two : List (List ℕ) → Result (List ℕ × List ℕ) Why
two (a ∷ b ∷ []) = Ok (a, b)
two fields = Err Count

-- the fields of a line with exactly three
abbrev pub three : List (List ℕ) → Result (List ℕ × List ℕ × List ℕ) Why
three (a ∷ b ∷ c ∷ []) = Ok (a, b, c)
three fields = Err Count

-- the fields of a line with exactly four
abbrev pub four : List (List ℕ) → Result (List ℕ × List ℕ × List ℕ × List ℕ) Why
four (a ∷ b ∷ c ∷ d ∷ []) = Ok (a, b, c, d)
four fields = Err Count

-- the fields of a line with exactly six
abbrev pub six : List (List ℕ) → Result (List ℕ × List ℕ × List ℕ × List ℕ × List ℕ × List ℕ) Why
six (a ∷ b ∷ c ∷ d ∷ e ∷ f ∷ []) = Ok (a, b, c, d, e, f)
six fields = Err Count

-- whether a field is spelled as a number: decimal digits without a leading zero
abbrev pub is_number : List ℕ → Bool
is_number field =
    not (length field == 0) && not (nat_lt 1 (length field) && slice_index field 0 == byte "0") && list_all is_ascii_digit field

-- the number in a field, from least to most
abbrev pub number_in : ℕ → ℕ → List ℕ → Result ℕ Why
number_in least most field =
    if not (is_number field) then Err Number
    else if nat_le least (digits_value 10 field) && nat_le (digits_value 10 field) most then Ok (digits_value 10 field)
    else Err Range

-- the node whose id is in a field
abbrev pub node_in : ℕ → List ℕ → Result ℕ Why
node_in nodes field = number_in 1 nodes field

-- a call gives, in this view, the value that its words have
abbrev pub GivesFields : {X A : Type 0} → (X → A) → Result X Why → Result A Why → Type 0
GivesFields view (Ok x) read = read ≡ Ok (view x)
GivesFields view (Err why) read = read ≡ Err why
