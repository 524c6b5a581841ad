-- Counts of faults over several calls.
use Rattle.std.proofs.Common.{ℕ, inl, inr, arith}
use Rattle.oc_io.specs.Faults.{NoFall, Rose}

-- a count that did not fall and then rose has risen
pub Rose-after : (a b c : ℕ) → NoFall a b → Rose b c → Rose a c
Rose-after a b c steady (inl higher) = inl (omega arith)
Rose-after a b c steady (inr last) = inr last
