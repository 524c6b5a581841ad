use Rattle.std.specs.Prelude.{◌≡◌, ℕ, ◌≤◌, ◌⊎◌, List}
use Rattle.oc_base.specs.declared.cert.Cert.{Cert}
use Rattle.oc_model.specs.declared.message.Body.TheVariants.{CheckIn}
use Rattle.oc_model.specs.declared.message.Message.{Message}
use Rattle.oc_model.specs.Node.{Durable}
use Rattle.oc_model.specs.Numbers.{IsAmong}
use Rattle.oc_model.specs.World.{World, node}
use Rattle.oc_laws_world.specs.Numbers.{IsAnywhere}

-- Each own number of a node names one count of its clients, in every table, log and message.

-- a check-in of x told this own number and count, among these messages
abbrev pub HasToldIn : List Message → ℕ → ℕ → ℕ → Type 0
HasToldIn net x n c = (y s upto rate : ℕ) × (certs : List Cert) × IsAmong (record { from = x; to = y; body = CheckIn s upto rate n c certs }) net

-- a check-in of x told this own number and count, among all messages
abbrev pub HasTold : World → ℕ → ℕ → ℕ → Type 0
HasTold w x n c = HasToldIn w.net x n c

abbrev pub kept_of : World → ℕ → Durable
kept_of w x = (node w x).control.kept

-- the own number n of x goes with the count c: as its present pair, by a fact anywhere, or by a check-in
abbrev pub GoesWithCount : World → ℕ → ℕ → ℕ → Type 0
GoesWithCount w x n c =
    (((kept_of w x).number ≡ n) × ((kept_of w x).clients ≡ c))
    ⊎ (HasTold w x n c ⊎ ((f : Cert) × IsAnywhere w f × (f.subject ≡ x) × (f.number ≡ n) × (f.clients ≡ c)))

-- one own number of a node names at most one count
abbrev pub HaveOneCount : World → Type 0
HaveOneCount w = (x n c d : ℕ) → GoesWithCount w x n c → GoesWithCount w x n d → c ≡ d

-- the own number 0 goes with 0 clients
abbrev pub ZeroCountsNone : World → Type 0
ZeroCountsNone w = (x c : ℕ) → GoesWithCount w x 0 c → c ≡ 0

-- no own number of a node is above its present one
abbrev pub OwnNumbersAreBelow : World → Type 0
OwnNumbersAreBelow w = (x n c : ℕ) → GoesWithCount w x n c → n ≤ (kept_of w x).number
