use Rattle.std.proofs.Common.{◌∙◌, arith, sym}
use Rattle.oc_state.proofs.ChildRows.{chain_ends}
use Rattle.oc_state.proofs.children.chain_child.Goals as goal

pub returns : goal.returns
returns c =
    sym (chain_ends c.args.rows.now.items c.used.result _ c.loop-place.place _ c.args.me c.args.chain c.args.asker c.loop-place.invariant.1 c.used.ensures.rest c.requires.1 (omega arith)) ∙ c.loop-place.invariant.0
