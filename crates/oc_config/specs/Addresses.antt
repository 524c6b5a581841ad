-- The addresses of nodes.
use Rattle.std.specs.Prelude.{ℕ, Bool, false, not, ◌&&◌, ◌||◌, ◌==◌, nat_eq, nat_le, is_ok, is_some, List, [], ◌∷◌, length, codes}
use Rattle.std.specs.Char.{is_ascii_hexdigit}
use Rattle.std.specs.List.{list_all, before_first, after_first, starts_with}
use Rattle.std.specs.Net.Reader.{read_ipv6, whole_value}
use Rattle.std.specs.Str.{byte}
use Rattle.oc_base.specs.Words.{number_in}
use Rattle.oc_config.specs.declared.address.TheConstants.{MAX_ADDRESS_BYTES}

-- a letter, a digit, `.` or `-`
abbrev pub is_hostname_byte : ℕ → Bool
is_hostname_byte b =
    (nat_le (byte "a") b && nat_le b (byte "z")) || (nat_le (byte "A") b && nat_le b (byte "Z")) || (nat_le (byte "0") b && nat_le b (byte "9"))
    || b == byte "." || b == byte "-"

-- one or more of these bytes
abbrev pub is_hostname : List ℕ → Bool
is_hostname host = not (length host == 0) && list_all is_hostname_byte host

-- a number from 1 to 65,535
abbrev pub is_port : List ℕ → Bool
is_port text = is_ok (number_in 1 65535 text)

abbrev pub is_colon : ℕ → Bool
is_colon b = b == byte ":"

-- a host name, a colon and a port
abbrev pub is_named : List ℕ → Bool
is_named text = is_hostname (before_first is_colon text) && is_port (after_first is_colon text)

-- a hexadecimal digit, `:` or `.`
abbrev pub is_ipv6_byte : ℕ → Bool
is_ipv6_byte b = is_ascii_hexdigit b || b == byte ":" || b == byte "."

-- such bytes, which are an address of IPv6 (RFC 4291, section 2.2)
abbrev pub is_ipv6 : List ℕ → Bool
is_ipv6 host = list_all is_ipv6_byte host && is_some (whole_value (read_ipv6 host))

abbrev pub is_closing : ℕ → Bool
is_closing b = b == byte "]"

-- a colon and a port after a host
abbrev pub is_after_host : List ℕ → Bool
is_after_host [] = false
is_after_host (b ∷ port) = is_colon b && is_port port

-- an address of IPv6, the bracket after it, a colon and a port
abbrev pub is_closed : List ℕ → Bool
is_closed rest = is_ipv6 (before_first is_closing rest) && is_after_host (after_first is_closing rest)

-- an address of IPv6 in brackets, a colon and a port
abbrev pub is_bracketed : List ℕ → Bool
is_bracketed [] = false
is_bracketed (b ∷ rest) = b == byte "[" && is_closed rest

-- an address at which a node can listen: a host name or an address of IPv6, with a port, of at most 255 bytes
abbrev pub is_address : List ℕ → Bool
is_address text = nat_le (length text) MAX_ADDRESS_BYTES && (is_named text || is_bracketed text)

-- an address whose host is `0.0.0.0` or `[::]`, at which nobody can be reached
abbrev pub is_everywhere : List ℕ → Bool
is_everywhere text = starts_with nat_eq text (codes "0.0.0.0:") || starts_with nat_eq text (codes "[::]:")

-- an address at which others can reach a node
abbrev pub is_reachable : List ℕ → Bool
is_reachable text = is_address text && not (is_everywhere text)
