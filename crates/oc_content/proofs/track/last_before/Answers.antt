use Rattle.std.proofs.Common.{leb, rules}
use Rattle.std.proofs.lemmas.List.Sorted.{IsPartitionPoint-from_clause, IsPartitionedBy-leb}
use Rattle.oc_content.proofs.Halving.{last_before_point}
use Rattle.oc_content.proofs.track.last_before.Goals as goal

pub returns : goal.returns
returns c =
    let spans = c.args.spans.now in
    last_before_point spans c.args.start c.partition_point.result c.checked_sub.result c.checked_sub.ensures c.partition_point.ensures.bound (λ up.
    IsPartitionPoint-from_clause (λ s. leb s.start c.args.start) spans c.partition_point.result c.partition_point.ensures.partitioned (IsPartitionedBy-leb (λ s. s.start) spans c.args.start up) (λ a r f called. search rules))
