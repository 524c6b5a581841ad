-- Fields that are put by two calls.
use Rattle.std.proofs.Common.{◌++◌}
use Rattle.oc_base.specs.Spelling.{eight, rank_bytes, ids_bytes}
use Rattle.oc_wire.specs.Spelling.{rank_or_none_bytes, why_bytes, certs_bytes}
use Rattle.oc_wire.proofs.Puts.{more_if_ok}
use Rattle.oc_wire.proofs.encoding.put_fields.Goals as goal

pub returns-in_ok-put_long-in-Ask : goal.returns-in_ok-put_long-in-Ask
returns-in_ok-put_long-in-Ask c =
    let ask = c.in-Ask in
    rw ask.is (more_if_ok _ (eight ask.seq) (rank_or_none_bytes ask.rank) _ _ c.put_rank_or_none.result c.in_ok-put_long-in-Ask.ensures c.put_rank_or_none.ensures)

pub returns-in_ok-put_long-in-No : goal.returns-in_ok-put_long-in-No
returns-in_ok-put_long-in-No c =
    let no = c.in-No in
    rw no.is (more_if_ok _ (eight no.seq) (why_bytes no.why) _ _ c.put_refusal.result c.in_ok-put_long-in-No.ensures c.put_refusal.ensures)

pub returns-in_ok-put_numbers-in-CheckIn : goal.returns-in_ok-put_numbers-in-CheckIn
returns-in_ok-put_numbers-in-CheckIn c =
    let check = c.in-CheckIn in
    let numbers = eight check.seq ++ eight check.upto ++ eight check.rate ++ eight check.number ++ eight check.clients in
    rw check.is (more_if_ok _ numbers (certs_bytes check.certs) _ _ c.put_certs.result c.in_ok-put_numbers-in-CheckIn.ensures c.put_certs.ensures)

pub returns-in_ok-put_long-in-CheckAck : goal.returns-in_ok-put_long-in-CheckAck
returns-in_ok-put_long-in-CheckAck c =
    let ack = c.in-CheckAck in
    let standing = eight ack.upto ++ rank_bytes ack.rank ++ ids_bytes ack.ancestors in
    rw ack.is (more_if_ok _ (eight ack.seq) standing _ _ c.put_standing-in-CheckAck.result c.in_ok-put_long-in-CheckAck.ensures c.put_standing-in-CheckAck.ensures)
