use Rattle.std.proofs.Common.{◌≤◌, ◌+◌, ◌-◌, length, take, ap, sym, arith}
use Rattle.std.proofs.lemmas.List.{length-take-le}
use Rattle.oc_client.proofs.Filled.{read_behind}
use Rattle.oc_client.proofs.filling.read_on.Goals as goal

pub returns-clause-fills : goal.returns-clause-fills
returns-clause-fills g c =
    let count = c.in_ok-count.count in
    let buf = c.args.buffer.now in
    let part = c.read.new.buf in
    let inside : count ≤ length part = omega (arith, c.in_ok-count.ensures.within, c.read.auto.buf) in
    record {
      bytes = take count part;
      came = c.in_ok-count.ensures.gives;
      long = ap (λ n. c.args.done + n) (sym (length-take-le count part inside));
      filled = read_behind c.args.done (length buf - c.args.done) count buf part (omega (arith, c.requires)) inside;
    }
