use Rattle.std.proofs.Common.{◌≡◌, ◌++◌, drop, map, take, bit_xor}
use Rattle.oc_policy.proofs.hmac.masked.Given as goal

abbrev pub invariant-loop-byte : goal.invariant-loop-byte
invariant-loop-byte l = l.byte-items ≡ map (λ byte. bit_xor byte l.mask) (take l.byte-index l.block) ++ drop l.byte-index l.block
