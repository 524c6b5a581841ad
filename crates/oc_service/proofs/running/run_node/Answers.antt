use Rattle.std.proofs.Common.{◌≡◌, ◌≤◌, ℕ, List, length, sym, ap, subst, arith}
use Rattle.std.specs.Prelude.{All}
use Rattle.oc_config.specs.Settings.{Settings}
use Rattle.oc_io.specs.Faults.{Rose}
use Rattle.oc_keep.specs.Files.{disks_in}
use Rattle.oc_keep.proofs.Complete.{only_memory}
use Rattle.oc_model.specs.Node.{Header}
use Rattle.oc_deeds.specs.Records.{is_record}
use Rattle.oc_deeds.proofs.MoreNodes.{measures_too}
use Rattle.oc_updown.specs.MeasureLines.{IsMeasure}
use Rattle.oc_service.proofs.Headers.{ids_within}
use Rattle.oc_service.specs.OnSite.{header_for}
use Rattle.oc_service.proofs.OnSite.{told_of}
use Rattle.oc_service.specs.declared.running.NodeEnd.TheVariants.{Turned}
use Rattle.oc_service.proofs.Unfailed.{unfailed}
use Rattle.oc_service.proofs.running.run_node.Goals as goal

pub returns-in-Err-clause-unfailed : goal.returns-in-Err-clause-unfailed
returns-in-Err-clause-unfailed g c = λ honest files sound asked written.
    only_memory g.D.Disk.view (length c.args.config.addresses) _ _ honest files sound c.in-Err.error c.in-Err.ensures.unloaded.refuses

pub returns-in-Ok-clause-ends : goal.returns-in-Ok-clause-ends
returns-in-Ok-clause-ends g c =
    let s = c.args.config in
    let site = c.args.site in
    let task = c.args.task in
    let loaded = c.in-Ok.ensures.loaded in
    told_of g.D.Disk.view g.K.Sink.takes g.K.Sink.fails g.K.Sink.faults g.L.Link.story g.L.Link.counts g.met.K.Sink.takes_nothing g.met.K.Sink.takes_then g.met.K.Sink.takes_fails
    s task site c.leave.result c.in-Ok.turns c.run-end.new.turns loaded c.leave.ensures.files c.leave.ensures.link c.leave.ensures.sink c.leave.ensures.survives c.leave.ensures.full c.run-end.result c.run-end.ensures

pub returns-in-Ok-clause-unfailed : goal.returns-in-Ok-clause-unfailed
returns-in-Ok-clause-unfailed g c = λ honest files sound asked written.
    let a = c.args.site.sink in
    let b = c.leave.result.sink in
    let sink : (text : List ℕ) → (g.K.Sink.fails a text b × Rose (g.K.Sink.faults a) (g.K.Sink.faults b)) → ⊥ = λ text cut. written cut.1 in
    unfailed g.D.Disk.view g.L.Link.story g.L.Link.counts g.K.Sink.takes g.K.Sink.fails (λ text. g.K.Sink.takes a text b) (λ text. g.K.Sink.fails a text b × Rose (g.K.Sink.faults a) (g.K.Sink.faults b)) c.args.config c.args.task (disks_in c.args.site.files) (disks_in c.leave.result.files) c.args.site.link c.leave.result.link a b honest files sound asked sink (Turned c.run-end.result) (returns-in-Ok-clause-ends g c)

pub run-end-requires-clause-measures : goal.run-end-requires-clause-measures
run-end-requires-clause-measures g c =
    let s = c.args.config in
    let loaded = c.in-Ok.ensures.loaded in
    let nodes = c.in-Ok.turns.server.kept.node.control.nodes in
    let are : nodes ≡ (header_for c.args.task s).nodes = ap (λ (h : Header). h.nodes) loaded.node.header in
    let within : length s.addresses ≤ (header_for c.args.task s).nodes = ids_within (is_record c.args.task.log) s c.requires.config in
    subst (λ (x : Settings). All (IsMeasure nodes) x.measures) (sym loaded.config) (measures_too (length s.addresses) nodes (omega (arith, within, are)) s.measures c.requires.config.measures)
