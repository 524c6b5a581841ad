use Rattle.std.proofs.Common.{refl}
use Rattle.oc_keep.proofs.Sizes.{frame_size}
use Rattle.oc_keep.proofs.Stays.{keeps_current, keeps_none, puts_none}
use Rattle.oc_keep.proofs.writing.writing.Goals as goal

pub prepare-requires-clause-fits : goal.prepare-requires-clause-fits
prepare-requires-clause-fits g c = rw c.records-records.ensures (frame_size c.args.plan.now.records c.requires.fits)

pub returns-in_err-prepare-clause-store : goal.returns-in_err-prepare-clause-store
returns-in_err-prepare-clause-store g c = keeps_current g.D.Disk.view c.args.store.now c.prepare.new.self c.prepare.ensures.same

pub returns-in_err-prepare-clause-content : goal.returns-in_err-prepare-clause-content
returns-in_err-prepare-clause-content g c = puts_none g.D.Disk.view c.args.content.now

pub returns-in_err-prepare-clause-none_failed : goal.returns-in_err-prepare-clause-none_failed
returns-in_err-prepare-clause-none_failed g c = record { closed = refl; no_fault = refl }

pub returns-then-not-is_empty-clause-store : goal.returns-then-not-is_empty-clause-store
returns-then-not-is_empty-clause-store g c = keeps_current g.D.Disk.view c.args.store.now c.prepare.new.self c.prepare.ensures.same

pub returns-then-not-is_empty-clause-content : goal.returns-then-not-is_empty-clause-content
returns-then-not-is_empty-clause-content g c = puts_none g.D.Disk.view c.args.content.now

pub returns-then-not-is_empty-clause-none_failed : goal.returns-then-not-is_empty-clause-none_failed
returns-then-not-is_empty-clause-none_failed g c = record { closed = refl; no_fault = refl }

pub returns-in_err-piece-in-Some-clause-store : goal.returns-in_err-piece-in-Some-clause-store
returns-in_err-piece-in-Some-clause-store g c = keeps_none g.D.Disk.view c.args.store.now

pub returns-in_err-piece-in-Some-clause-content : goal.returns-in_err-piece-in-Some-clause-content
returns-in_err-piece-in-Some-clause-content g c = c.piece.ensures.same

pub returns-in_err-piece-in-Some-clause-none_failed : goal.returns-in_err-piece-in-Some-clause-none_failed
returns-in_err-piece-in-Some-clause-none_failed g c = c.piece.ensures.none_failed

pub returns-in_ok-piece-in-Some-clause-store : goal.returns-in_ok-piece-in-Some-clause-store
returns-in_ok-piece-in-Some-clause-store g c = keeps_none g.D.Disk.view c.args.store.now

pub returns-in_ok-piece-in-Some-clause-content : goal.returns-in_ok-piece-in-Some-clause-content
returns-in_ok-piece-in-Some-clause-content g c = c.piece.ensures.same

pub returns-in_ok-piece-in-Some-clause-none_failed : goal.returns-in_ok-piece-in-Some-clause-none_failed
returns-in_ok-piece-in-Some-clause-none_failed g c = c.piece.ensures.none_failed

pub returns-in-None-clause-store : goal.returns-in-None-clause-store
returns-in-None-clause-store g c = keeps_none g.D.Disk.view c.args.store.now

pub returns-in-None-clause-content : goal.returns-in-None-clause-content
returns-in-None-clause-content g c = puts_none g.D.Disk.view c.args.content.now

pub returns-in-None-clause-none_failed : goal.returns-in-None-clause-none_failed
returns-in-None-clause-none_failed g c = record { closed = refl; no_fault = refl }
