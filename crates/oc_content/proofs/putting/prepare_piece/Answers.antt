use Rattle.std.proofs.Common.{List, length, refl, sym, subst, rules}
use Rattle.oc_base.specs.declared.shelf.Shelf.{Shelf}
use Rattle.oc_content.specs.Indexes.{HasGroupRoom, rooms, memory_of}
use Rattle.oc_content.specs.ContentView.{IsReady}
use Rattle.oc_content.proofs.Views.{IsIndexed-sized, IsIndexed-kept, PutsNothing-by}
use Rattle.oc_content.proofs.Puts.{ready_put}
use Rattle.oc_journal.proofs.ReadRuns.{OnlyReads-none}
use Rattle.oc_content.proofs.putting.prepare_piece.Goals as goal

pub piece_for-requires-clause-sized : goal.piece_for-requires-clause-sized
piece_for-requires-clause-sized g c = IsIndexed-sized g.D.Disk.view c.args.journal.now c.args.index.now c.requires.indexed

pub returns-in_err-piece-clause-indexed : goal.returns-in_err-piece-clause-indexed
returns-in_err-piece-clause-indexed g c =
    let j = c.args.journal.now in
    IsIndexed-kept g.D.Disk.view j j c.args.index.now c.piece_for.new.index c.requires.indexed refl (λ _. refl) c.piece_for.ensures.keeps

pub returns-in_err-piece-clause-same : goal.returns-in_err-piece-clause-same
returns-in_err-piece-clause-same g c =
    let j = c.args.journal.now in
    PutsNothing-by g.D.Disk.view j j c.args.index.now c.piece_for.new.index (OnlyReads-none g.D.Disk.view j) c.piece_for.ensures.keeps

pub returns-in_err-reserve-clause-indexed : goal.returns-in_err-reserve-clause-indexed
returns-in_err-reserve-clause-indexed g c =
    let same = c.reserve.ensures.same in
    IsIndexed-kept g.D.Disk.view c.args.journal.now c.reserve.new.self c.args.index.now c.piece_for.new.index c.requires.indexed same.disk.goes_on.honest same.frames c.piece_for.ensures.keeps

pub returns-in_err-reserve-clause-same : goal.returns-in_err-reserve-clause-same
returns-in_err-reserve-clause-same g c = PutsNothing-by g.D.Disk.view c.args.journal.now c.reserve.new.self c.args.index.now c.piece_for.new.index c.reserve.ensures.same c.piece_for.ensures.keeps

pub returns-clause-indexed : goal.returns-clause-indexed
returns-clause-indexed g c =
    let same = c.reserve.ensures.same in
    IsIndexed-kept g.D.Disk.view c.args.journal.now c.reserve.new.self c.args.index.now c.piece_for.new.index c.requires.indexed same.disk.goes_on.honest same.frames c.piece_for.ensures.keeps

pub returns-clause-same : goal.returns-clause-same
returns-clause-same g c = PutsNothing-by g.D.Disk.view c.args.journal.now c.reserve.new.self c.args.index.now c.piece_for.new.index c.reserve.ensures.same c.piece_for.ensures.keeps

pub returns-clause-prepares : goal.returns-clause-prepares
returns-clause-prepares g c =
    let x = c.args.index.now in
    let y = c.piece_for.new.index in
    let sized = IsIndexed-sized g.D.Disk.view c.args.journal.now x c.requires.indexed in
    let e = c.in_ok-piece.ensures in
    record {
      entry = e.entry;
      body = e.body;
      prepared =
          subst (λ (ss : List Shelf). IsReady ss (rooms y.tracks.items) (memory_of y) c.reserve.new.self.spare c.in_ok-piece.piece) (sym c.piece_for.ensures.keeps.lines)
          (ready_put x.shelves.items (rooms y.tracks.items) (memory_of y) c.reserve.new.self.spare c.in_ok-piece.piece c.args.added.now.group.now c.args.added.now.start c.args.added.now.bytes.now c.args.added.now.last sized.short e.place e.none e.entry e.room.0 (subst (λ (ss : List Shelf). HasGroupRoom (length ss) (memory_of y) c.in_ok-piece.piece.place) c.piece_for.ensures.keeps.lines e.room.1) c.in_ok-reserve.ensures.room.spare);
      room = search rules;
    }
