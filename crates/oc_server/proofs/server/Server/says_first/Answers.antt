use Rattle.std.proofs.Common.{◌≡◌, List, ℕ, refl, subst, ◌∙◌}
use Rattle.std.proofs.lemmas.Result.{err_from_is_err_and}
use Rattle.oc_link.proofs.Stories.{adds-none}
use Rattle.oc_deeds.specs.Brief.{told_first}
use Rattle.oc_deeds.specs.Deeds.{Says}
use Rattle.oc_deeds.proofs.Results.{done_then, err_then}
use Rattle.oc_server.proofs.Steps.{did_line, line_breaks_as, memory_breaks}
use Rattle.oc_server.proofs.server.Server.says_first.Goals as goal

pub returns-clause-did : goal.returns-clause-did
returns-clause-did g c =
    let s = c.args.self.now in
    let text = told_first s.log s.kept.node.control s.kept.content.shelves in
    let is : c.deref.result.now ≡ text = c.deref.ensures.value ∙ c.in_ok-text.ensures in
    done_then c.write_line.result (λ wrote. did_line g.D.Disk.view g.K.Sink.takes g.K.Sink.fails g.K.Sink.faults g.L.Link.story g.L.Link.counts (Says text) s c.write_line.new.sink s.works s.link s.tally refl refl c.requires.is_open refl
    (subst (λ (t : List ℕ). g.K.Sink.takes s.sink t c.write_line.new.sink) is wrote) c.write_line.ensures.count (λ all. all) refl (adds-none (g.L.Link.story s.link))) c.write_line.ensures.wrote

pub returns-clause-breaks : goal.returns-clause-breaks
returns-clause-breaks g c =
    let s = c.args.self.now in
    let text = told_first s.log s.kept.node.control s.kept.content.shelves in
    let is : c.deref.result.now ≡ text = c.deref.ensures.value ∙ c.in_ok-text.ensures in
    err_then c.write_line.result (λ end stops. line_breaks_as g.D.Disk.view g.K.Sink.takes g.K.Sink.fails g.K.Sink.faults g.L.Link.story g.L.Link.counts end c.deref.result.now text s (record s { sink = c.write_line.new.sink }) is refl refl refl stops (c.recovers.ensures.survives c.requires.is_open)) c.write_line.ensures.stops

pub returns-in_err-text-clause-breaks : goal.returns-in_err-text-clause-breaks
returns-in_err-text-clause-breaks g c =
    let p = err_from_is_err_and c.from_residual.result c.from_residual.ensures.1 in
    let s = c.args.self.now in
    rw (p.1, p.2) (memory_breaks g.D.Disk.view g.K.Sink.takes g.K.Sink.fails g.K.Sink.faults g.L.Link.story g.L.Link.counts g.met.K.Sink.takes_nothing s s refl refl refl refl (c.recovers.ensures.survives c.requires.is_open))
