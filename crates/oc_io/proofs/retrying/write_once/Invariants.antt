use Rattle.std.specs.Io.KnownBytes.{Keeps}
use Rattle.oc_io.proofs.retrying.write_once.Given as goal

-- the tries so far left the bytes of the writer as they were
abbrev pub invariant-loop : goal.invariant-loop
invariant-loop g l = Keeps (g.W.Write.contents l.fn.writer) (g.W.Write.contents l.writer)
