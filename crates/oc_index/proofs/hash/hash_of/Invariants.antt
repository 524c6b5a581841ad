-- The bytes that are left lead on to the hash of all.
use Rattle.std.proofs.Common.{◌≡◌, drop, fold}
use Rattle.oc_index.specs.Index.{hash, with_byte}
use Rattle.oc_index.proofs.hash.hash_of.Given as goal

abbrev pub invariant-loop-place : goal.invariant-loop-place
invariant-loop-place l = fold with_byte l.hash (drop l.place l.bytes) ≡ hash l.bytes
