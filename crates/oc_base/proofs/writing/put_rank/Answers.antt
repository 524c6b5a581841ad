use Rattle.oc_base.specs.Spelling.{four, eight}
use Rattle.oc_base.proofs.Puts.{more_on_ok}
use Rattle.oc_base.proofs.writing.put_rank.Goals as goal

pub returns : goal.returns
returns c =
    let rank = c.args.rank.now in
    more_on_ok _ _ (eight rank.epoch) (four rank.depth) _ _ c.in_ok-put_long.ensures c.put_int.ensures
