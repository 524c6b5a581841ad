use Rattle.std.proofs.Common.{◌+◌, ◌-◌, ◌≤◌, length, take, vec_len, vec_capacity}
use Rattle.oc_chunked.specs.Stages.{StillWants}
use Rattle.oc_chunked.specs.Views.{stage_of, Advances}
use Rattle.oc_chunked.proofs.decoder.Decoder.take.Given as goal

-- the bytes taken of the piece led on, and there is room for the rest
abbrev pub invariant-bytes : goal.invariant-bytes
invariant-bytes l = record {
  within : l.taken ≤ length l.piece;
  advances : Advances l.fn.self l.self (take l.taken l.piece) l.fn.out.items l.out.items;
  room : vec_len l.out + length l.piece ≤ vec_capacity l.out + l.taken;
  wants : StillWants (stage_of l.fn.self) l.taken (stage_of l.self);
}

abbrev pub decreases-bytes : goal.decreases-bytes
decreases-bytes l = length l.piece - l.taken
