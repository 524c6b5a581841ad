use Rattle.std.proofs.Common.{List, ℕ, ◌+◌, ap, subst, ◌∙◌}
use Rattle.oc_io.specs.MemDiskView.{wrote, synced}
use Rattle.oc_journal.specs.Stopped.{IsCut}
use Rattle.oc_journal.proofs.AfterStop.{cut_behind, cut_gate, not_cut}
use Rattle.oc_journal.proofs.stopped.write_until_stop.Goals as goal

pub returns-in_default-clause-left : goal.returns-in_default-clause-left
returns-in_default-clause-left c =
    let d = c.args.disk in
    let cut = subst (λ (bytes : List ℕ). IsCut d (c.args.end + 1) bytes c.write_and_sync.new.disk) c.bytes.ensures.bytes c.in_default.ensures.err in
    cut_behind d c.args.end c.args.frame.now c.requires.settled c.bytes.ensures.short c.requires.stop c.write_and_sync.new.disk c.crash.result.bytes cut c.crash.ensures.image

pub returns-in_default-write_and_sync-clause-left : goal.returns-in_default-write_and_sync-clause-left
returns-in_default-write_and_sync-clause-left c =
    let d = c.args.disk in
    let same = c.in-Ok.ensures.ok.1 ∙ ap (λ (bytes : List ℕ). synced (wrote d (c.args.end + 1) bytes)) c.bytes.ensures.bytes in
    cut_gate d c.args.end c.args.frame.now c.requires.settled c.bytes.ensures.short c.requires.stop c.write_and_sync.new.disk c.write_and_sync-2.new.disk c.crash-in_default-write_and_sync.result c.in-Ok.ensures.ok.0 same c.in_default-write_and_sync.ensures.err c.crash-in_default-write_and_sync.ensures.disk c.crash-in_default-write_and_sync.ensures.image

pub returns-clause-left : goal.returns-clause-left
returns-clause-left c =
    let d = c.args.disk in
    let same = c.in-Ok.ensures.ok.1 ∙ ap (λ (bytes : List ℕ). synced (wrote d (c.args.end + 1) bytes)) c.bytes.ensures.bytes in
    not_cut d c.args.end c.args.frame.now c.requires.settled c.bytes.ensures.short c.requires.stop c.write_and_sync.new.disk c.write_and_sync-2.new.disk c.crash-2.result.bytes c.requires.left c.in-Ok.ensures.ok.0 same c.in-Ok-write_and_sync.ensures.ok.0 c.in-Ok-write_and_sync.ensures.ok.1 c.crash-2.ensures.image
