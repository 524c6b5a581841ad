use Rattle.std.specs.Prelude.{Bool, true, false, ◌==◌, if◌then◌else◌, Some, List, [], ◌∷◌, length}
use Rattle.oc_base.specs.declared.cert.Cert.{Cert}
use Rattle.oc_model.specs.declared.mode.Mode.{Mode}
use Rattle.oc_model.specs.declared.mode.Mode.TheVariants as modes
use Rattle.oc_model.specs.declared.record.Record.{Record}
use Rattle.oc_model.specs.declared.record.Record.TheVariants as records
use Rattle.oc_model.specs.ChangeLog.{begun_with, note, ack, acked_whole}
use Rattle.oc_model.specs.Measures.{with_reading}
use Rattle.oc_model.specs.Node.{Durable, Log, empty_log, new_durable}
use Rattle.oc_model.specs.Table.{merge}

-- The effect of a record on the durable part of a node.

abbrev pub is_joined : Mode → Bool
is_joined (modes.Joined p) = true
is_joined mode = false

-- the log takes a certificate only while the node is joined
abbrev pub noted : Mode → Log → Cert → Log
noted (modes.Joined p) l c = note l c
noted mode l c = l

-- enters a certificate in the table, and in the log of a joined node
abbrev pub entered : Durable → Cert → Durable
entered d c = record d { table = merge d.table c; log = noted d.mode d.log c }

-- the durable part after one record
abbrev pub fold_one : Durable → Record → Durable
fold_one d (records.Ask s p) = record d { seq = s; mode = modes.Asking p; log = empty_log }
fold_one d (records.Joined p r) = if d.seq == 0 then d else record d { mode = modes.Joined p; rank = Some r; log = begun_with d.table }
fold_one d records.Lost = record d { mode = modes.Idle; log = empty_log }
fold_one d records.Acting = record d { mode = modes.Acting; log = empty_log; ancestors = [] }
fold_one d (records.Ranked r) = record d { rank = Some r }
fold_one d (records.OldEntry x s p dead) = entered d (record { subject = x; seq = s; parent = p; dead = dead; number = 0; clients = 0 })
fold_one d (records.Acked upto) = record d { log = ack d.log upto }
fold_one d (records.Ancestors xs) = record d { ancestors = xs }
fold_one d (records.Rate p rate hops) = record d { measures = with_reading d.measures p (record { rate = rate; hops = hops }) }
fold_one d (records.Epoch e) = record d { rank = Some (record { epoch = e; depth = 0 }) }
fold_one d (records.Base n) = if is_joined d.mode then record d { log = acked_whole n } else d
fold_one d (records.Snapshot g) = new_durable (length d.measures)
fold_one d (records.Entry c) = entered d c
fold_one d (records.Info number clients) = record d { number = number; clients = clients }

-- the durable part after these records, one after another
abbrev pub folded : Durable → List Record → Durable
folded d [] = d
folded d (r ∷ rs) = folded (fold_one d r) rs
