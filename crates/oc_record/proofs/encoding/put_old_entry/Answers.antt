use Rattle.std.proofs.Common.{◌++◌}
use Rattle.oc_base.specs.Spelling.{four, eight, flag}
use Rattle.oc_base.proofs.Puts.{more}
use Rattle.oc_record.proofs.Puts.{last_more}
use Rattle.oc_record.proofs.encoding.put_old_entry.Goals as goal

pub returns : goal.returns
returns c =
    let subject = four c.args.subject.now in
    let seq = eight c.args.seq.now in
    let parent = four c.args.parent.now in
    let two = more c.args.out.now.items subject seq c.put_id.new.out.items c.put_long.new.out.items c.in_ok-put_id.ensures c.in_ok-put_long.ensures in
    let three = more c.args.out.now.items (subject ++ seq) parent c.put_long.new.out.items c.put_id-2.new.out.items two c.in_ok-put_id-2.ensures in
    last_more c.put_flag.result c.args.out.now.items (subject ++ seq ++ parent) (flag c.args.dead.now) c.put_id-2.new.out.items c.put_flag.new.out.items three c.put_flag.ensures
