-- The growth of the change log: at most one certificate for each record.
use Rattle.std.proofs.Common.{ℕ, ◌+◌, ◌≤◌, ◌==◌, List, [], ◌∷◌, length, arith}
use Rattle.std.proofs.lemmas.Bool.{cond_both}
use Rattle.oc_base.specs.declared.cert.Cert.{Cert}
use Rattle.oc_base.specs.declared.limits.TheConstants.{MAX_BASE_ACKED}
use Rattle.oc_model.specs.declared.mode.Mode.{Mode}
use Rattle.oc_model.specs.declared.mode.Mode.TheVariants as modes
use Rattle.oc_model.specs.declared.record.Record.{Record}
use Rattle.oc_model.specs.declared.record.Record.TheVariants as records
use Rattle.oc_model.specs.ChangeLog.{ack, acked_whole, begun_with, is_ahead}
use Rattle.oc_model.specs.Lawful.{AreRecords, IsRecord}
use Rattle.oc_model.specs.Node.{Durable, Log}
use Rattle.oc_model.specs.Records.{fold_one, folded, is_joined, noted}
use Rattle.oc_node.specs.DurableView.{IsKept}
use Rattle.oc_node.proofs.Folding.{kept_one, rows_few}

noted_log : (m : Mode) (l : Log) (c : Cert) → (noted m l c).length ≤ l.length + 1
noted_log modes.Idle l c = omega arith
noted_log (modes.Asking p) l c = omega arith
noted_log (modes.Joined p) l c = omega arith
noted_log modes.Acting l c = omega arith

acked_log : (l : Log) (upto : ℕ) → (ack l upto).length ≤ l.length
acked_log l upto = cond_both (is_ahead l upto) _ l (λ (m : Log). m.length ≤ l.length) (λ _. omega arith) (λ _. omega arith)

-- one record makes the log longer by at most one, above the greatest length at a base
log_one : (nodes : ℕ) (d : Durable) (r : Record) (b : ℕ) → IsRecord nodes r → IsKept nodes d → MAX_BASE_ACKED ≤ b → d.log.length ≤ b → (fold_one d r).log.length ≤ b + 1
log_one nodes d (records.Ask s p) b ok kept most h = omega arith
log_one nodes d (records.Joined p r) b ok kept most h =
    cond_both (d.seq == 0) d (record d { mode = modes.Joined p; rank = _; log = begun_with d.table }) (λ (e : Durable). e.log.length ≤ b + 1)
    (λ _. omega (arith, h)) (λ _. omega (arith, rows_few nodes d kept, kept.few, most))
log_one nodes d records.Lost b ok kept most h = omega arith
log_one nodes d records.Acting b ok kept most h = omega arith
log_one nodes d (records.Ranked r) b ok kept most h = omega (arith, h)
log_one nodes d (records.OldEntry x s p dead) b ok kept most h =
    omega (arith, h, noted_log d.mode d.log (record { subject = x; seq = s; parent = p; dead = dead; number = 0; clients = 0 }))
log_one nodes d (records.Acked upto) b ok kept most h = omega (arith, h, acked_log d.log upto)
log_one nodes d (records.Ancestors xs) b ok kept most h = omega (arith, h)
log_one nodes d (records.Rate p rate hops) b ok kept most h = omega (arith, h)
log_one nodes d (records.Epoch e) b ok kept most h = omega (arith, h)
log_one nodes d (records.Base n) b ok kept most h =
    cond_both (is_joined d.mode) (record d { log = acked_whole n }) d (λ (e : Durable). e.log.length ≤ b + 1)
    (λ _. omega (arith, ok, most)) (λ _. omega (arith, h))
log_one nodes d (records.Snapshot g) b ok kept most h = omega arith
log_one nodes d (records.Entry c) b ok kept most h = omega (arith, h, noted_log d.mode d.log c)
log_one nodes d (records.Info number clients) b ok kept most h = omega (arith, h)

-- a list of records makes the log longer by at most their number
pub log_grows : (nodes : ℕ) (d : Durable) (rs : List Record) (b : ℕ) → AreRecords nodes rs → IsKept nodes d → MAX_BASE_ACKED ≤ b → d.log.length ≤ b → (folded d rs).log.length ≤ b + length rs
log_grows nodes d [] b ok kept most h = omega (arith, h)
log_grows nodes d (r ∷ rs) b ok kept most h =
    omega (arith, log_grows nodes (fold_one d r) rs (b + 1) ok.1 (kept_one nodes d r ok.0 kept) (omega (arith, most)) (log_one nodes d r b ok.0 kept most h))
