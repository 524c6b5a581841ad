-- The URLs that a client asks, and where it asks for them.
use Rattle.std.specs.Prelude.{◌≡◌, ℕ, Bool, true, not, ◌&&◌, Option, Some, None, unwrap_or, option_map, Ok, List, [], ◌++◌, codes, decimal, bytes_eq}
use Rattle.std.specs.Str.{IsUtf8}
use Rattle.url.specs.Host.{host_text}
use Rattle.url.specs.Parser.{parse_url}
use Rattle.url.specs.Parts.{Parts, has_host, has_credentials, nonempty_host}

-- the scheme is `http`, there is a host, and there is no user and no password
abbrev pub is_good : Parts → Bool
is_good url = bytes_eq url.scheme (codes "http") && has_host url && not (has_credentials url)

-- an address is a good URL
pub record IsAddressOf (address : List ℕ) (url : Parts) : Type 0 where
  pub parsed : parse_url None address ≡ Ok url
  pub good : is_good url ≡ true

-- an address is no good URL
abbrev pub IsBadAddress : List ℕ → Type 0
IsBadAddress address = (url : Parts) → ¬ (IsAddressOf address url)

-- a Location, joined to the URL that was asked, is a good URL
pub record LeadsTo (asked : Parts) (location : List ℕ) (url : Parts) : Type 0 where
  pub text : IsUtf8 location
  pub joined : parse_url (Some asked) location ≡ Ok url
  pub good : is_good url ≡ true

-- a Location leads to no good URL
abbrev pub LeadsNowhere : Parts → List ℕ → Type 0
LeadsNowhere asked location = (url : Parts) → ¬ (LeadsTo asked location url)

-- the host as a URL writes it
abbrev pub host_name : Parts → List ℕ
host_name url = unwrap_or (option_map host_text (nonempty_host url)) []

-- `:` and the port, where there is one
abbrev pub port_text : Option ℕ → List ℕ
port_text None = []
port_text (Some port) = codes ":" ++ decimal port

-- the Host field of a request for the URL: the host, with the port where the URL has one
abbrev pub host_of : Parts → List ℕ
host_of url = host_name url ++ port_text url.port

-- the address to dial for a URL: its host with its port, or with 80
abbrev pub dial_address : Parts → List ℕ
dial_address url = host_name url ++ port_text (Some (unwrap_or url.port 80))
