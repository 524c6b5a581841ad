use Rattle.std.proofs.Common.{◌≡◌, drop, IfSome}
use Rattle.oc_step.specs.Since.{entry_over}
use Rattle.oc_step.proofs.since.entry_since.Given as goal

abbrev pub invariant-loop-change : goal.invariant-loop-change
invariant-loop-change l =
    (entry_over l.subject l.last (drop l.change-index l.records) ≡ entry_over l.subject l.fn.before l.records)
    × IfSome l.last (λ k. k.subject ≡ l.subject)
