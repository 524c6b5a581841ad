use Rattle.oc_server.proofs.Takes.{has_line}
use Rattle.oc_server.proofs.taking.input_line.Goals as goal

pub put_input_line-requires : goal.put_input_line-requires
put_input_line-requires g c =
    let nodes = c.args.kept.now.node.control.nodes in
    has_line nodes c.args.kept.now.node.control.me c.args.input.now (λ m is. (c.spellings_are_read.ensures.spelled nodes m c.recovers.ensures.reached.header.few is).fits) c.requires
