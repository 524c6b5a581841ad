-- The effect of a tick before its check.
use Rattle.std.proofs.Common.{◌≡◌, ℕ, ◌+◌, ◌-◌, Bool, true, false, nat_le, Option, Some, None, List, [], ◌∷◌, refl, arith}
use Rattle.std.proofs.lemmas.Bool.{leb-true, le-leb, leb-false, lt-leb}
use Rattle.oc_base.specs.declared.cert.Cert.{Cert}
use Rattle.oc_model.specs.declared.soft.Soft.{Soft}
use Rattle.oc_model.specs.declared.record.Record.TheVariants as records
use Rattle.oc_model.specs.Checking.{merges, dies, ends_each, ends_leases, forgets_refusal}
use Rattle.oc_model.specs.Leases.{ended}
use Rattle.oc_model.specs.Plan.{Plan, write}
use Rattle.oc_model.specs.Table.{newest, is_news}
use Rattle.oc_model.proofs.Lists.{all_append}
use Rattle.oc_laws_step.proofs.Goes.{either}
use Rattle.oc_step.specs.Since.{IsTold, AreTold}

-- the step told certificates alone, and did not change the part that a start clears
record Tells (s : Soft) (o : Plan) : Type 0 where
  told : AreTold o.records
  soft : o.node.soft ≡ s

tells_merges : (s : Soft) (o : Plan) (c : Cert) → Tells s o → Tells s (merges o c)
tells_merges s o c so = either (is_news o.node.kept.table c) (Tells s) (write o (records.Entry c)) o (record { told = all_append IsTold o.records (records.Entry c ∷ []) so.told (tt, tt); soft = so.soft }) so

tells_dies : (s : Soft) (was : Option Cert) (o : Plan) → Tells s o → Tells s (dies was o)
tells_dies s None o so = so
tells_dies s (Some k) o so = tells_merges s o (record k { dead = true }) so

tells_each : (s : Soft) (xs : List ℕ) (o : Plan) → Tells s o → Tells s (ends_each xs o)
tells_each s [] o so = so
tells_each s (x ∷ xs) o so = tells_each s xs (dies (newest o.node.kept.table x) o) (tells_dies s (newest o.node.kept.table x) o so)

tells_ends : (o : Plan) → AreTold o.records → Tells o.node.soft (ends_leases o)
tells_ends o told = tells_each o.node.soft (ended o.node.kept.table o.node.me o.node.leases o.node.soft.clock) o (record { told = told; soft = refl })

pub ends_told : (o : Plan) → AreTold o.records → AreTold (ends_leases o).records
ends_told o told = (tells_ends o told).told

pub ends_soft : (o : Plan) → AreTold o.records → (ends_leases o).node.soft ≡ o.node.soft
ends_soft o told = (tells_ends o told).soft

-- forgetting a refusal tells nothing
pub forgets_told : (due : Option ℕ) (o : Plan) → AreTold o.records → AreTold (forgets_refusal due o).records
forgets_told None o told = told
forgets_told (Some t) o told = told

-- two seconds or more have passed
pub past_is : (t now : ℕ) → nat_le 2 (now - t) ≡ nat_le (t + 2) now
past_is t now = by_test (nat_le (t + 2) now) refl where
  by_test : (b : Bool) → nat_le (t + 2) now ≡ b → nat_le 2 (now - t) ≡ b
  by_test true e = le-leb 2 (now - t) (omega (arith, leb-true (t + 2) now e))
  by_test false e = lt-leb 2 (now - t) (omega (arith, leb-false (t + 2) now e))
