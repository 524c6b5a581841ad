use Rattle.std.proofs.Common.{◌++◌}
use Rattle.oc_base.specs.Spelling.{eight}
use Rattle.oc_base.proofs.Puts.{more}
use Rattle.oc_wire.proofs.Puts.{more_if_ok}
use Rattle.oc_wire.proofs.encoding.put_numbers.Goals as goal

pub returns : goal.returns
returns c =
    let seq = eight c.args.seq.now in
    let upto = eight c.args.upto.now in
    let rate = eight c.args.rate.now in
    let number = eight c.args.number.now in
    let first = c.in_ok-put_long.ensures in
    let second = more _ seq upto _ _ first c.in_ok-put_long-2.ensures in
    let third = more _ (seq ++ upto) rate _ _ second c.in_ok-put_long-3.ensures in
    let fourth = more _ (seq ++ upto ++ rate) number _ _ third c.in_ok-put_long-4.ensures in
    more_if_ok _ (seq ++ upto ++ rate ++ number) (eight c.args.clients.now) _ _ c.put_long-5.result fourth c.put_long-5.ensures
