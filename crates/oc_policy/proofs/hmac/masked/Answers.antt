use Rattle.std.proofs.Common.{bit_xor, sym, slice_index_or, arith}
use Rattle.std.proofs.lemmas.Grind.{get_or_default_zero}
use Rattle.std.proofs.lemmas.List.Edits.{map_over_more}
use Rattle.oc_policy.proofs.hmac.masked.Goals as goal

pub loop-byte-preserved : goal.loop-byte-preserved
loop-byte-preserved c =
    map_over_more (λ byte. bit_xor byte c.args.mask) c.args.block.now c.loop-byte.byte-items c.loop-byte.byte-index
    (slice_index_or c.loop-byte.byte-items c.loop-byte.byte-index 0) (omega arith) c.loop-byte.invariant
    (sym (get_or_default_zero c.loop-byte.byte-items c.loop-byte.byte-index _ (omega arith)))
