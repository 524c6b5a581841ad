use Rattle.std.proofs.Common.{[], ◌∷◌, ◌++◌}
use Rattle.oc_base.specs.Spelling.{four, eight}
use Rattle.oc_base.proofs.Puts.{more}
use Rattle.oc_record.proofs.Puts.{last_more}
use Rattle.oc_record.proofs.encoding.put_rate.Goals as goal

pub returns : goal.returns
returns c =
    let peer = four c.args.peer.now in
    let rate = eight c.args.rate.now in
    let both = more c.args.out.now.items peer rate c.put_id.new.out.items c.put_long.new.out.items c.in_ok-put_id.ensures c.in_ok-put_long.ensures in
    last_more c.put_byte.result c.args.out.now.items (peer ++ rate) (c.args.hops.now ∷ []) c.put_long.new.out.items c.put_byte.new.out.items both c.put_byte.ensures
