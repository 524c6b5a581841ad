use Rattle.std.proofs.Common.{◌≡◌, ℕ, ap₂, subst}
use Rattle.oc_deeds.specs.declared.log.Log.{Log}
use Rattle.oc_keep.specs.Files.{disks_in}
use Rattle.oc_service.specs.OnSite.{NodeEnds, at_run, setting_of}
use Rattle.oc_service.specs.declared.running.Task.{Task}
use Rattle.oc_commands.specs.AtNode.{task_of}
use Rattle.oc_commands.specs.Outside.{at_sink}
use Rattle.oc_commands.proofs.serving.serve_config.Goals as goal

pub returns-in-Some-clause-happened : goal.returns-in-Some-clause-happened
returns-in-Some-clause-happened g c =
    let (placed, is) = c.in-Some.ensures in
    let service = c.args.service in
    let text = c.args.configured.text in
    let left = c.run_node-end.result.site in
    let output = at_sink g.K.Sink.takes g.K.Sink.fails g.K.Sink.faults c.args.site.sink left.sink in
    let task_with : ℕ → Log → Task = λ me log. record { me = me; turns = service.turns; probes = service.probes; log = log; text = text; about = c.about.result } in
    let task_is : task_with c.in-Some.me c.log_of.result ≡ task_of service text c.about.result = ap₂ task_with is c.log_of.ensures in (
      placed,
      c.about.result,
      (c.args.started, c.about.ensures),
      subst (λ (task : Task). NodeEnds (at_run g.D.Disk.view g.L.Link.story g.L.Link.counts g.K.Sink.takes g.K.Sink.fails c.args.configured.config task
          (disks_in c.args.site.files) (disks_in left.files) c.args.site.link left.link c.args.site.sink left.sink)
          output.written output.cut_off (setting_of task) c.run_node-end.result.end) task_is c.run_node-end.ensures.ends,
    )
