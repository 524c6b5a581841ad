-- The laws of sessions and of coverage in terms of known facts: a parent knows the facts that its child told it and that it
-- acknowledged; and it knows each fact that its child knows, or the fact waits in the child's log.
use Rattle.std.proofs.Common.{◌≡◌, ℕ, ◌≤◌, List, ◌⊎◌}
use Rattle.std.specs.List.{AllByRecursion}
use Rattle.oc_base.specs.declared.cert.Cert.{Cert}
use Rattle.oc_model.specs.declared.message.Message.{Message}
use Rattle.oc_model.specs.declared.mode.Mode.{Mode}
use Rattle.oc_model.specs.declared.mode.Mode.TheVariants as modes
use Rattle.oc_model.specs.Chains.{IsJoined}
use Rattle.oc_model.specs.ClaimsTree.{table_of, seq_of}
use Rattle.oc_model.specs.Node.{Control, Log}
use Rattle.oc_model.specs.Numbers.{IsAmong}
use Rattle.oc_model.specs.World.{World, mode_of}
use Rattle.oc_laws_tree.specs.Sessions.{log_of, HasCheckedIn, HasAcknowledgedAmong, HasAcknowledged, CheckInsAreNumbered, AcksAnswer}
use Rattle.oc_laws_tree.proofs.Known.{Knows, table_with}
use Rattle.oc_laws_tree.proofs.CheckMessages.{HasCheckedInNow, HasAcknowledgedNow}
use Rattle.oc_laws_tree.proofs.LogPlaces.{IsWhole, HoldsBefore}

-- a fact that these certificates tell or that this table knows
abbrev pub IsToldIn : List Cert → List Cert → Cert → Type 0
IsToldIn t certs f = IsAmong f certs ⊎ Knows t f

-- the laws of sessions and of coverage in a world
pub record SessionsHold (w : World) : Type 0 where
  pub numbered : CheckInsAreNumbered w
  pub answered : AcksAnswer w
  -- a node that asks has not checked in with its present ask number
  pub silent : (x p : ℕ) → mode_of w x ≡ modes.Asking p → (y upto : ℕ) (certs : List Cert) → HasCheckedIn w x y (seq_of w x) upto certs → ⊥
  pub whole : (x : ℕ) → IsWhole (log_of w x)
  -- each fact before the place of a check-in with the parent is in the check-in, or the parent knows the fact
  pub tells : (x y : ℕ) → IsJoined w x y → (upto : ℕ) (certs : List Cert) → HasCheckedIn w x y (seq_of w x) upto certs
      → HoldsBefore (log_of w x) upto (IsToldIn (table_of w y) certs)
  -- the parent knows each fact before an acknowledged place
  pub known : (x y : ℕ) → IsJoined w x y → (upto : ℕ) → HasAcknowledged w y x (seq_of w x) upto → HoldsBefore (log_of w x) upto (Knows (table_of w y))
  -- the parent knows each fact of its child, or the fact waits
  pub rows : (x y : ℕ) (f : Cert) → IsJoined w x y → IsAmong f (table_of w x) → Knows (table_of w y) f ⊎ IsAmong f (log_of w x).waiting

-- the laws for the node x in the middle of a change of this world, both as a child and as a parent of others, whose check-ins
-- came before. They speak of no other part of the node
pub record Session (w : World) (x id seq : ℕ) (mode : Mode) (table : List Cert) (log : Log) (ms : List Message) : Type 0 where
  pub me : id ≡ x
  pub own : AllByRecursion (λ m. m.from ≡ x) ms
  pub whole : IsWhole log
  pub numbered : (y s upto : ℕ) (certs : List Cert) → HasCheckedInNow w ms x y s upto certs → s ≤ seq
  pub silent : (p : ℕ) → mode ≡ modes.Asking p → (y upto : ℕ) (certs : List Cert) → HasCheckedInNow w ms x y seq upto certs → ⊥
  pub tells : (y : ℕ) → mode ≡ modes.Joined y → (upto : ℕ) (certs : List Cert) → HasCheckedInNow w ms x y seq upto certs
      → HoldsBefore log upto (IsToldIn (table_with w x table y) certs)
  pub known : (y : ℕ) → mode ≡ modes.Joined y → (upto : ℕ) → HasAcknowledgedNow w ms y x seq upto → HoldsBefore log upto (Knows (table_with w x table y))
  pub rows : (y : ℕ) → mode ≡ modes.Joined y → (f : Cert) → IsAmong f table → Knows (table_with w x table y) f ⊎ IsAmong f log.waiting
  -- the table forgets nothing, and each acknowledgement answers an earlier check-in whose facts the table now knows
  pub grows : (f : Cert) → Knows (table_of w x) f → Knows table f
  pub answered : (y z s upto : ℕ) → HasAcknowledgedAmong ms y z s upto → (certs : List Cert) × HasCheckedIn w z y s upto certs
  pub acked : (z : ℕ) → IsJoined w z x → (upto : ℕ) → HasAcknowledgedAmong ms x z (seq_of w z) upto → HoldsBefore (log_of w z) upto (Knows table)

abbrev pub IsInSession : World → ℕ → Control → List Message → Type 0
IsInSession w x n ms = Session w x n.me n.kept.seq n.kept.mode n.kept.table n.kept.log ms
