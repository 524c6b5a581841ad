use Rattle.oc_base.specs.Spelling.{four, rank_bytes}
use Rattle.oc_record.proofs.Puts.{last_more}
use Rattle.oc_record.proofs.encoding.put_joined.Goals as goal

pub returns : goal.returns
returns c = last_more c.put_rank.result c.args.out.now.items (four c.args.peer.now) (rank_bytes c.args.rank.now) c.put_id.new.out.items c.put_rank.new.out.items c.in_ok-put_id.ensures c.put_rank.ensures
