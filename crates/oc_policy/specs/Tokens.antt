-- Tokens of access rules.
use Rattle.std.specs.Prelude.{ℕ, Bool, true, false, not, ◌&&◌, ◌||◌, nat_lt, nat_le, if◌then◌else◌, Option, Some, None, Result, Ok, Err, List, ◌++◌, length, codes, position}
use Rattle.std.specs.Str.{bytes_eq}
use Rattle.oc_policy.specs.declared.token.TheConstants.{MAX_TOKEN_BYTES}
use Rattle.oc_policy.specs.declared.token.TokenFault.{TokenFault}
use Rattle.oc_policy.specs.declared.token.TokenFault.TheVariants.{Length, Byte}

-- a byte that is printed, except for the space
abbrev pub is_token_byte : ℕ → Bool
is_token_byte b = nat_le 33 b && nat_le b 126

-- the first byte that no token has, if there is one
abbrev pub byte_fault : Option ℕ → Option TokenFault
byte_fault None = None
byte_fault (Some at) = Some (Byte at)

-- the fault of bytes that are no token
abbrev pub token_fault : List ℕ → Option TokenFault
token_fault bytes =
    if nat_lt (length bytes) 1 || nat_lt MAX_TOKEN_BYTES (length bytes) then Some Length
    else byte_fault (position (λ b. not (is_token_byte b)) bytes)

-- the bytes where there is no fault, and else the fault
abbrev pub token_or : List ℕ → Option TokenFault → Result (List ℕ) TokenFault
token_or bytes None = Ok bytes
token_or bytes (Some fault) = Err fault

-- the result of parsing: these very bytes, or the first fault
abbrev pub parsed_token : List ℕ → Result (List ℕ) TokenFault
parsed_token bytes = token_or bytes (token_fault bytes)

-- the text that a request shows for a token
abbrev pub bearer : List ℕ → List ℕ
bearer token = codes "Bearer " ++ token

-- a request that shows the token of a rule; a rule without a token asks for nothing
abbrev pub is_shown : Option (List ℕ) → Option (List ℕ) → Bool
is_shown None shown = true
is_shown (Some token) None = false
is_shown (Some token) (Some value) = bytes_eq value (bearer token)
