use Rattle.std.proofs.Common.{◌≡◌, [], replicate}
use Rattle.oc_probe.proofs.gauge.Gauge.new.Given as goal

abbrev pub invariant-loop-peer : goal.invariant-loop-peer
invariant-loop-peer l = l.peers.items ≡ replicate l._peer []
