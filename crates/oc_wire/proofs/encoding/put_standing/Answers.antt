use Rattle.std.proofs.Common.{◌++◌}
use Rattle.oc_base.specs.Spelling.{eight, rank_bytes, ids_bytes}
use Rattle.oc_base.proofs.Puts.{more}
use Rattle.oc_wire.proofs.Puts.{more_if_ok}
use Rattle.oc_wire.proofs.encoding.put_standing.Goals as goal

pub returns : goal.returns
returns c =
    let number = eight c.args.number.now in
    let rank = rank_bytes c.args.rank.now in
    let second = more _ number rank _ _ c.in_ok-put_long.ensures c.in_ok-put_rank.ensures in
    more_if_ok _ (number ++ rank) (ids_bytes c.args.ancestors.now) _ _ c.put_ids.result second c.put_ids.ensures
