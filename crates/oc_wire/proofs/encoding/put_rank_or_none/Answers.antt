use Rattle.std.proofs.Common.{[], ◌∷◌}
use Rattle.oc_base.specs.Spelling.{rank_bytes}
use Rattle.oc_wire.proofs.Puts.{more_if_ok}
use Rattle.oc_wire.proofs.encoding.put_rank_or_none.Goals as goal

pub returns-in_ok-push-in-Some : goal.returns-in_ok-push-in-Some
returns-in_ok-push-in-Some c =
    rw c.in-Some.is (more_if_ok _ (1 ∷ []) (rank_bytes c.in-Some.rank) _ _ c.put_rank.result c.in_ok-push-in-Some.ensures.items c.put_rank.ensures)
