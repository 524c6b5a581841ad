-- The names of groups in the reports of a node.
use Rattle.std.specs.Prelude.{◌≡◌, ℕ, Bool, true, ◌&&◌, ◌==◌, not, nat_lt, List}
use Rattle.std.specs.List.{list_all}

-- a visible byte of ASCII that neither JSON (RFC 8259, section 7) nor a label of Prometheus escapes: no quote and no backslash
abbrev pub is_plain : ℕ → Bool
is_plain b = nat_lt 32 b && nat_lt b 127 && not (b == 34) && not (b == 92)

-- a text that needs no escapes in quotes
abbrev pub IsPlain : List ℕ → Type 0
IsPlain text = list_all is_plain text ≡ true
