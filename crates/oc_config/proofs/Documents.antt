-- The table of some bytes.
use Rattle.std.proofs.Common.{◌≡◌, ℕ, Option, Some, None, Result, Err, List, inl, inr, refl, ◌∙◌, arith}
use Rattle.std.proofs.lemmas.Bool.{cases_Bool, cond-true, cond-false}
use Rattle.std.proofs.lemmas.Str.{IsUtf8-from_is_utf8, is_utf8-from_IsUtf8}
use Rattle.std.specs.Str.{IsUtf8, is_utf8}
use Rattle.toml.specs.Data.{Members}
use Rattle.toml.specs.Parse.{parse_document}
use Rattle.oc_config.specs.Reading.{IsLineOf, document, settings_from, settings_of}
use Rattle.oc_config.specs.Settings.{Settings}
use Rattle.oc_config.specs.declared.fault.ConfigFault.{ConfigFault}
use Rattle.oc_config.specs.declared.fault.ConfigFault.TheVariants.{Toml}

-- the table of bytes in UTF-8 is that of the text
pub of_text : (bytes : List ℕ) (found : Option Members) → IsUtf8 bytes → parse_document bytes ≡ found → document bytes ≡ found
of_text bytes found text is = cond-true (is_utf8 bytes) (parse_document bytes) None (is_utf8-from_IsUtf8 bytes text) ∙ is

-- bytes that are no text with a table have none
pub of_no_text : (bytes : List ℕ) → (IsUtf8 bytes → parse_document bytes ≡ None) → document bytes ≡ None
of_no_text bytes refused = elim (cases_Bool (is_utf8 bytes)) [
  | inl good ↦ of_text bytes None (IsUtf8-from_is_utf8 bytes good) (refused (IsUtf8-from_is_utf8 bytes good))
  | inr bad ↦ cond-false (is_utf8 bytes) (parse_document bytes) None bad
]

-- a text has a first line
pub first_line : (bytes : List ℕ) → IsLineOf bytes 1
first_line bytes = record { place = 0; within = omega arith; line_is = refl }

-- the line of a fault of TOML does not matter for a property that holds of such a fault in each line or in none
of_any_line : (P : Result Settings ConfigFault → Type 0) → ((a b : ℕ) → P (Err (Toml a)) → P (Err (Toml b)))
    → (a b : ℕ) (found : Option Members) → P (settings_from a found) → P (settings_from b found)
of_any_line P same a b None holds = same a b holds
of_any_line P same a b (Some members) holds = holds

pub any_line : (P : Result Settings ConfigFault → Type 0) → ((a b : ℕ) → P (Err (Toml a)) → P (Err (Toml b)))
    → (a b : ℕ) (bytes : List ℕ) → P (settings_of a bytes) → P (settings_of b bytes)
any_line P same a b bytes holds = of_any_line P same a b (document bytes) holds
