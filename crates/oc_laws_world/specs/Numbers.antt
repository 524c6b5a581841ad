use Rattle.std.specs.Prelude.{◌≡◌, ℕ, ◌≤◌, ◌⊎◌, Option, List}
use Rattle.oc_base.specs.declared.cert.Cert.{Cert}
use Rattle.oc_base.specs.declared.rank.Rank.{Rank}
use Rattle.oc_model.specs.declared.message.Body.{Body}
use Rattle.oc_model.specs.declared.message.Body.TheVariants.{Ask, CheckIn}
use Rattle.oc_model.specs.declared.message.Message.{Message}
use Rattle.oc_model.specs.declared.mode.Mode.{Mode}
use Rattle.oc_model.specs.declared.mode.Mode.TheVariants.{Asking, Joined}
use Rattle.oc_model.specs.ClaimsTree.{table_of, seq_of}
use Rattle.oc_model.specs.Numbers.{IsAmong}
use Rattle.oc_model.specs.World.{World, node, mode_of}

-- Each ask number has one peer, in every table, log and message.

-- an ask of x with this number went to p, among these messages
abbrev pub HasAskedIn : List Message → ℕ → ℕ → ℕ → Type 0
HasAskedIn net x s p = (r : Option Rank) × IsAmong (record { from = x; to = p; body = Ask s r }) net

-- an ask of x with this number went to p, among all messages
abbrev pub HasAsked : World → ℕ → ℕ → ℕ → Type 0
HasAsked w x s p = HasAskedIn w.net x s p

-- a node in this mode asks p, or is joined to p
abbrev pub IsPeer : Mode → ℕ → Type 0
IsPeer mode p = (mode ≡ Asking p) ⊎ (mode ≡ Joined p)

-- a message tells this fact
abbrev pub Tells : Body → Cert → Type 0
Tells (CheckIn seq upto rate number clients certs) f = IsAmong f certs
Tells body f = ⊥

-- this fact is in a table, in a log, or in a message
abbrev pub IsAnywhere : World → Cert → Type 0
IsAnywhere w f =
    ((y : ℕ) × IsAmong f (table_of w y)) ⊎ (((y : ℕ) × IsAmong f (node w y).control.kept.log.waiting) ⊎ ((m : Message) × IsAmong m w.net × Tells m.body f))

-- ask number s of x goes with the peer p: as its present ask or parent, by an ask that was ever sent, or by a fact anywhere
abbrev pub GoesWith : World → ℕ → ℕ → ℕ → Type 0
GoesWith w x s p =
    ((seq_of w x ≡ s) × IsPeer (mode_of w x) p) ⊎ (HasAsked w x s p ⊎ ((f : Cert) × IsAnywhere w f × (f.subject ≡ x) × (f.seq ≡ s) × (f.parent ≡ p)))

-- one ask number of a node goes with at most one peer
abbrev pub HaveOnePeer : World → Type 0
HaveOnePeer w = (x s p q : ℕ) → GoesWith w x s p → GoesWith w x s q → p ≡ q

-- no ask number of a node is above its present one
abbrev pub AskNumbersAreBelow : World → Type 0
AskNumbersAreBelow w = (x s p : ℕ) → GoesWith w x s p → s ≤ seq_of w x
