use Rattle.oc_base.specs.Spelling.{eight}
use Rattle.oc_record.proofs.Puts.{last_more}
use Rattle.oc_record.proofs.encoding.put_info.Goals as goal

pub returns : goal.returns
returns c = last_more c.put_long-2.result c.args.out.now.items (eight c.args.number.now) (eight c.args.clients.now) c.put_long.new.out.items c.put_long-2.new.out.items c.in_ok-put_long.ensures c.put_long-2.ensures
