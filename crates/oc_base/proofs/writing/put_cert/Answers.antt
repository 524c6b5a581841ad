use Rattle.std.proofs.Common.{◌++◌}
use Rattle.oc_base.specs.Spelling.{four, eight, flag, lease_bytes}
use Rattle.oc_base.proofs.Puts.{more}
use Rattle.oc_base.proofs.writing.put_cert.Goals as goal

pub returns : goal.returns
returns c =
    let cert = c.args.cert.now in
    let seq = more _ (four cert.subject) (eight cert.seq) _ _ c.in_ok-put_id.ensures c.in_ok-put_long.ensures in
    let parent = more _ (four cert.subject ++ eight cert.seq) (four cert.parent) _ _ seq c.in_ok-put_id-2.ensures in
    let lease = more _ (four cert.subject ++ eight cert.seq ++ four cert.parent) (flag cert.dead) _ _ parent c.in_ok-put_flag.ensures in
    let number = more _ (lease_bytes cert.subject cert.seq cert.parent cert.dead) (eight cert.number) _ _ lease c.in_ok-put_long-2.ensures in
    more _ (lease_bytes cert.subject cert.seq cert.parent cert.dead ++ eight cert.number) (eight cert.clients) _ _ number c.in_ok-put_long-3.ensures
