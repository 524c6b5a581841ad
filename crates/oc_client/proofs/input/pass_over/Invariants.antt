-- the bytes that are not left were passed over
use Rattle.std.proofs.Common.{ℕ, List, ◌≡◌, ◌+◌, ◌<◌, length}
use Rattle.oc_io.specs.Faults.{NoFall}
use Rattle.oc_client.proofs.input.pass_over.Given as goal

abbrev pub invariant-pieces : goal.invariant-pieces
invariant-pieces g l = record {
  bytes : List ℕ;
  came : g.S.Source.gives l.fn.input bytes l.input;
  all : length bytes + l.left ≡ l.count;
  room : 0 < length l.buffer;
  count : NoFall (g.S.Source.faults l.fn.input) (g.S.Source.faults l.input);
}

abbrev pub decreases-pieces : goal.decreases-pieces
decreases-pieces g l = l.left
