-- The addresses of a configuration are hosts.
use Rattle.std.proofs.Common.{◌≡◌, ◌≤◌, ℕ, zero, suc, ◌-◌, ◌<◌, Bool, true, false, ◌&&◌, Option, Some, None, List, [], ◌∷◌, length, refl, arith, not, get_or}
use Rattle.std.specs.Prelude.{IfSome, unwrap_or}
use Rattle.oc_config.specs.Addresses as config
use Rattle.oc_config.specs.Reading.{AllPassing, IsConfig}
use Rattle.oc_config.specs.Settings.{Settings}
use Rattle.oc_config.proofs.AddressBytes.{address_bytes}
use Rattle.oc_http.specs.Writing.{IsHost}
use Rattle.oc_deeds.specs.Lawful.{IsPlaced}

both : (a b : Bool) → (a && b) ≡ true → (a ≡ true) × (b ≡ true)
both true true is = (refl, refl)
both true false is = absurd cc
both false b is = absurd cc

host_of : (text : List ℕ) → config.is_address text ≡ true → IsHost text
host_of text is = let bytes = address_bytes text is in record { some = omega (arith, bytes.some); most = bytes.most; bytes = bytes.bytes }

-- an address at any place can be reached
reached_at : (addresses : List (Option (List ℕ))) (i : ℕ) → AllPassing config.is_reachable addresses → IfSome (get_or addresses i None) (λ text. config.is_reachable text ≡ true)
reached_at [] zero all = tt
reached_at [] (suc i) all = tt
reached_at (o ∷ addresses) zero all = all 0 None (omega arith)
reached_at (o ∷ addresses) (suc i) all = reached_at addresses i (λ k d inside. all (suc k) d (omega (arith, inside)))

host_at : (o : Option (List ℕ)) → IfSome o (λ text. config.is_reachable text ≡ true) → 0 < length (unwrap_or o []) → IsHost (unwrap_or o [])
host_at None good some = absurd (omega (arith, some))
host_at (Some text) good some = host_of text (both (config.is_address text) (not (config.is_everywhere text)) good).0

pub placed : (nodes : ℕ) (s : Settings) → IsConfig s → length s.addresses ≤ nodes → IsPlaced nodes s.addresses
placed nodes s c within = record {
  count = within;
  hosts = λ x some. host_at (get_or s.addresses (x - 1) None) (reached_at s.addresses (x - 1) c.addresses) some;
}
