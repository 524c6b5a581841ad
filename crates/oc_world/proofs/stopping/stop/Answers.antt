use Rattle.std.proofs.Common.{◌&&◌}
use Rattle.oc_base.specs.Stops.{is_kept_new}
use Rattle.oc_keep.specs.ReadyView.{is_written}
use Rattle.oc_world.proofs.Cuts.{can_stop, left_by_stop}
use Rattle.oc_world.proofs.stopping.stop.Goals as goal

pub commit_stopped-control-requires-clause-stops : goal.commit_stopped-control-requires-clause-stops
commit_stopped-control-requires-clause-stops c = can_stop c.args.kept c.args.ready c.requires.open c.requires.ready

pub returns : goal.returns
returns c =
    let r = c.commit_stopped-control.result in
    left_by_stop c.args.kept c.args.ready (is_written c.args.ready.write && is_kept_new c.args.calls c.args.image) (record { control = r.0; alternate = r.1; content = r.2 }) c.commit_stopped-control.ensures.survives c.commit_stopped-control.ensures.files
