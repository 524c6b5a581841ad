use Rattle.oc_commands.proofs.Replayed.{happened}
use Rattle.oc_commands.proofs.replaying.replay_input.Goals as goal

pub returns-clause-happened : goal.returns-clause-happened
returns-clause-happened g c =
    let e = c.replay.ensures in
    happened g.S.Source.gives g.S.Source.fails g.S.Source.ended g.S.Source.faults g.K.Sink.takes g.K.Sink.fails g.K.Sink.faults
    g.T.Stage.world c.headline_holds.ensures
    c.args.input.now c.replay.new.source c.args.out.now c.replay.new.sink c.args.stage.now c.replay.new.stage c.args.scale c.args.summary c.replay.result (record {
      done = e.done;
      text_is = e.text;
      limit = e.limit;
      failed = e.source;
      refused = e.refused;
      cut = e.sink;
      memory = e.memory;
    })
