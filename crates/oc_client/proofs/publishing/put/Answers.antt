use Rattle.std.proofs.Common.{[]}
use Rattle.oc_client.specs.declared.put_end.PutEnd.TheVariants as ends
use Rattle.oc_client.proofs.Lines.{Laws, untold}
use Rattle.oc_client.proofs.publishing.put.Goals as goal

-- Nothing came, and nothing is told

pub returns-in-Err-clause-within : goal.returns-in-Err-clause-within
returns-in-Err-clause-within g c =
    let laws : Laws g.E.Sink.takes g.E.Sink.fails = record { none = g.met.E.Sink.takes_nothing; both = g.met.E.Sink.takes_then; last = g.met.E.Sink.takes_fails } in
    untold g.S.Source.gives g.S.Source.fails g.E.Sink.takes g.E.Sink.fails laws c.args.input.now c.args.input.now c.args.aside.now.lines [] ends.Memory (g.met.S.Source.gives_nothing c.args.input.now)

pub returns-in-Err-Bad-clause-within : goal.returns-in-Err-Bad-clause-within
returns-in-Err-Bad-clause-within g c =
    let laws : Laws g.E.Sink.takes g.E.Sink.fails = record { none = g.met.E.Sink.takes_nothing; both = g.met.E.Sink.takes_then; last = g.met.E.Sink.takes_fails } in
    untold g.S.Source.gives g.S.Source.fails g.E.Sink.takes g.E.Sink.fails laws c.args.input.now c.args.input.now c.args.aside.now.lines [] ends.BadUrl (g.met.S.Source.gives_nothing c.args.input.now)

pub returns-in-Err-Memory-clause-within : goal.returns-in-Err-Memory-clause-within
returns-in-Err-Memory-clause-within g c =
    let laws : Laws g.E.Sink.takes g.E.Sink.fails = record { none = g.met.E.Sink.takes_nothing; both = g.met.E.Sink.takes_then; last = g.met.E.Sink.takes_fails } in
    untold g.S.Source.gives g.S.Source.fails g.E.Sink.takes g.E.Sink.fails laws c.args.input.now c.args.input.now c.args.aside.now.lines [] ends.Memory (g.met.S.Source.gives_nothing c.args.input.now)
