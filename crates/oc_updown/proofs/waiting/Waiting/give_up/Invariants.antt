use Rattle.std.proofs.Common.{◌≡◌, drop}
use Rattle.oc_updown.proofs.waiting.Waiting.give_up.Given as goal

abbrev pub invariant-loop : goal.invariant-loop
invariant-loop l = (l.self.certs ≡ drop l.counter l.fn.self.certs) × (l.self.room ≡ l.fn.self.room) × (l.self.nodes ≡ l.fn.self.nodes)
