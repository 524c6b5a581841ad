use Rattle.std.proofs.Common.{rules}
use Rattle.oc_probe.proofs.Medians.{median_of}
use Rattle.oc_probe.proofs.recent.Recent.median.Goals as goal

pub returns : goal.returns
returns c =
    let s = c.select_nth_unstable-median in
    median_of c.args.self.now _ s.result.0.now s.result.2.now s.result.1.now _ c.self.inside.count s.ensures.permutation s.ensures.front_len s.ensures.partitioned (search rules) (search rules) (search rules) (search rules)
