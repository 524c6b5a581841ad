-- The token of a client: its line is a text, and only a client has one.
use Rattle.std.proofs.Common.{◌≡◌, ◌∙◌, ℕ, zero, suc, ◌<◌, ◌==◌, ◌&&◌, true, not, List, [], ◌∷◌, length, Option, Some, None, refl, ap, sym, arith}
use Rattle.std.specs.Prelude.{IsUtf8, nat_le, slice_index, IfNone, IfSome}
use Rattle.std.specs.Borrow.{Bor}
use Rattle.std.specs.List.{list_all}
use Rattle.std.proofs.lemmas.Bool.{and_parts}
use Rattle.std.proofs.lemmas.Bool.Decides.{nat_tests}
use Rattle.std.proofs.lemmas.Str.{IsUtf8-from_ascii}
use Rattle.oc_policy.specs.Tokens.{is_token_byte}
use Rattle.oc_words.specs.Paths.{token_file_asked, token_file_of}
use Rattle.oc_words.specs.declared.request.Invocation.{Invocation}
use Rattle.oc_commands.specs.AtToken.{TakesToken, first_of, is_token}
use Rattle.oc_commands.specs.Outside.{Input}
use Rattle.oc_commands.specs.declared.token.TheConstants.{MAX_TOKEN_BYTES}

-- a byte of a token is ASCII
token_byte_ascii : (b : ℕ) → is_token_byte b ≡ true → b < 128
token_byte_ascii b h = grind (arith, nat_tests)

-- all bytes of a token are of ASCII
all_ascii : (line : List ℕ) → list_all is_token_byte line ≡ true → (i : ℕ) → slice_index line i < 128
all_ascii [] all i = omega arith
all_ascii (x ∷ xs) all zero = token_byte_ascii x (and_parts (is_token_byte x) (list_all is_token_byte xs) all).0
all_ascii (x ∷ xs) all (suc i) = all_ascii xs (and_parts (is_token_byte x) (list_all is_token_byte xs) all).1 i

pub IsUtf8-token : (line : List ℕ) → is_token line ≡ true → IsUtf8 line
IsUtf8-token line is =
    let parts = and_parts (not (length line == 0) && nat_le (length line) MAX_TOKEN_BYTES) (list_all is_token_byte line) is in
    IsUtf8-from_ascii line (all_ascii line parts.1)

-- the part cut off in front is the first line
pub first_cut : (rest : Option (Bor (List ℕ))) (line : List ℕ) (lines : List (List ℕ)) (others : List ℕ → List (List ℕ)) → IfNone rest (lines ≡ line ∷ []) → IfSome rest (λ r. lines ≡ line ∷ others r.now) → line ≡ first_of lines
first_cut None line lines others last more = sym (ap first_of last)
first_cut (Some r) line lines others last more = sym (ap first_of more)

-- a request that names no file of a token is none of those that name one
pub untokened : (asked : Option Invocation) (r : Invocation) (file : List ℕ) → asked ≡ Some r → token_file_of r ≡ None → token_file_asked asked ≡ Some file → ⊥
untokened asked r file is none named =
    let same : None ≡ Some file = sym none ∙ (sym (ap token_file_asked is) ∙ named) in
    cc

-- no token is taken where no file is named
pub untaken : (file : Input) (name token : Option (List ℕ)) → name ≡ None → TakesToken file name token → token ≡ None
untaken file None None is took = refl
untaken file None (Some token) is took = absurd took
untaken file (Some name) token is took = cc
