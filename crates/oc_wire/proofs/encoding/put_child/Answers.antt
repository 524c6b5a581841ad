use Rattle.oc_base.specs.Spelling.{four, eight}
use Rattle.oc_wire.proofs.Puts.{more_if_ok}
use Rattle.oc_wire.proofs.encoding.put_child.Goals as goal

pub returns : goal.returns
returns c = more_if_ok _ (four c.args.child.now.id) (eight c.args.child.now.rate) _ _ c.put_long.result c.in_ok-put_id.ensures c.put_long.ensures
