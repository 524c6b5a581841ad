use Rattle.std.proofs.Common.{length}
use Rattle.oc_base.proofs.group_name.+are_segments.Given as goal

-- the rest after a slash is shorter
abbrev pub decreases-are_segments : goal.decreases-are_segments
decreases-are_segments l = length l.bytes.now
