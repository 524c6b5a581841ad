use Rattle.std.specs.Io.KnownBytes.{Keeps}
use Rattle.oc_io.proofs.retrying.read_once.Given as goal

-- the tries so far left the bytes of the reader as they were
abbrev pub invariant-loop : goal.invariant-loop
invariant-loop g l = Keeps (g.R.Read.remaining l.fn.reader) (g.R.Read.remaining l.reader)
