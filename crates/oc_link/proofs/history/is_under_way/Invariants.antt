use Rattle.std.proofs.Common.{◌≡◌, drop}
use Rattle.oc_link.specs.Dials.{dialling_after, is_dialling}
use Rattle.oc_link.proofs.history.is_under_way.Given as goal

abbrev pub invariant-loop-call : goal.invariant-loop-call
invariant-loop-call l = dialling_after l.dial (drop l.call-index l.calls) l.dials ≡ is_dialling l.dial l.calls
