use Rattle.std.proofs.Common.{◌≡◌, drop}
use Rattle.oc_link.specs.Stands.{stands_after, standing_of}
use Rattle.oc_link.proofs.history.standing_of.Given as goal

abbrev pub invariant-loop-call : goal.invariant-loop-call
invariant-loop-call l = stands_after l.connection (drop l.call-index l.calls) l.standing ≡ standing_of l.connection l.calls
