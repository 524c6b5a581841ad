use Rattle.std.proofs.Common.{option_map}
use Rattle.oc_merge.specs.AfterLineView.{view_of}
use Rattle.oc_merge.proofs.LinesThere.{fault_behind}
use Rattle.oc_merge.proofs.there.after_message.Goals as goal

pub returns-in-Err : goal.returns-in-Err
returns-in-Err g c =
    fault_behind (view_of g.A.Alone.node) c.after_fault.result g.A.Alone.digest c.args.nodes c.args.me (g.A.Alone.node c.args.one) c.args.bytes.now (option_map (λ digits. digits.now) c.args.found) c.in-Err.fault c.requires.me.0 c.in-Err.ensures.exact c.after_fault.ensures.lost c.after_fault.ensures.other
