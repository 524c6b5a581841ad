use Rattle.std.proofs.Common.{IsTrue, sym, subst}
use Rattle.oc_io.proofs.DiskMoments.{still_honest}
use Rattle.oc_content.specs.ContentView.{ContentView, IsPrepared}
use Rattle.oc_content.proofs.Views.{shelved}
use Rattle.oc_content.proofs.Causes.{parts_kept, closed_parts}
use Rattle.oc_content.proofs.Growing.{ahead_grows, frames_grow}
use Rattle.oc_content.proofs.content.Content.commit.Goals as goal

pub append-requires : goal.append-requires
append-requires g c = record {
  indexed = c.self.invariant.indexed;
  ready = subst (λ (v : ContentView g.row.D.Denot). IsPrepared v c.args.piece) (sym c.self.view_is) c.requires.prepared;
  adds_some = c.requires.adds;
}

pub returns-clause-lines : goal.returns-clause-lines
returns-clause-lines g c = λ honest.
    let view = g.D.Disk.view in
    let h = subst (λ (v : ContentView g.row.D.Denot). IsTrue (view v.journal.disk).honest) (sym c.self.view_is) honest in
    shelved view c.append.new.journal c.append.new.index c.append.ensures.indexed (still_honest (view c.self.inside.journal.disk) (view c.append.new.journal.disk) c.append.ensures.safely.takes.goes_on h)

pub returns-clause-unchanged : goal.returns-clause-unchanged
returns-clause-unchanged g c =
    rw (← c.self.view_is) (parts_kept c.self.inside.journal c.append.new.journal c.self.inside.index c.append.new.index c.append.result c.append.ensures.unchanged c.append.ensures.index_err)

pub returns-clause-disk : goal.returns-clause-disk
returns-clause-disk g c =
    rw (← c.self.view_is) (closed_parts g.D.Disk.view c.args.piece.body c.self.inside.journal c.append.new.journal c.self.inside.index c.append.new.index c.append.result c.append.ensures.disk c.append.ensures.index_err)

pub invariant_of-self : goal.invariant_of-self
invariant_of-self g c =
    let view = g.D.Disk.view in
    let s = c.self.inside in
    let k = c.append.new.journal in
    let e = c.append.ensures in
    record {
      indexed = e.indexed;
      ahead = ahead_grows view s.journal k s.index c.append.new.index s.ahead c.self.invariant.indexed e.indexed e.safely.takes.goes_on.honest (frames_grow view s.journal k s.index c.append.new.index c.args.piece c.append.result e.commits e.unchanged e.disk) c.self.invariant.ahead;
    }
