use Rattle.oc_base.specs.Spelling.{four, eight}
use Rattle.oc_record.proofs.Puts.{last_more}
use Rattle.oc_record.proofs.encoding.put_ask.Goals as goal

pub returns : goal.returns
returns c = last_more c.put_id.result c.args.out.now.items (eight c.args.seq.now) (four c.args.peer.now) c.put_long.new.out.items c.put_id.new.out.items c.in_ok-put_long.ensures c.put_id.ensures
