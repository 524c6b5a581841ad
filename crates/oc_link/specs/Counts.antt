-- The counts of failed calls of a link, and the time that it has waited.
use Rattle.std.specs.Prelude.{◌≡◌, ℕ, ◌+◌, ◌≤◌, Result, Ok, Err}
use Rattle.oc_io.specs.Faults.{Rose}
use Rattle.oc_io.specs.declared.fault.Failed.{Failed}
use Rattle.oc_link.specs.declared.counts.LinkCounts.{LinkCounts}
use Rattle.oc_link.specs.declared.event.LinkEvent.{LinkEvent}
use Rattle.oc_link.specs.Failures.{RisesAt, fails_reading, fails_writing, fails_dialling}

-- the counts of a link that was never used
abbrev pub no_counts : LinkCounts
no_counts = record { listening = 0; reading = 0; writing = 0; dialling = 0; waited = 0 }

-- The effect of an event of `next` on the counts: each failure that it tells raises its count, and the link waited no longer than asked.
pub record CountsEvent (event : LinkEvent) (wait : ℕ) (old new : LinkCounts) : Type 0 where
  pub listening : new.listening ≡ old.listening
  pub reading : RisesAt (fails_reading event) old.reading new.reading
  pub writing : RisesAt (fails_writing event) old.writing new.writing
  pub dialling : RisesAt (fails_dialling event) old.dialling new.dialling
  pub waited : new.waited ≤ old.waited + wait

-- the effect of a failed call on the counts
pub record CountsFailure (old new : LinkCounts) : Type 0 where
  pub listening : Rose old.listening new.listening
  pub rest : new ≡ record old { listening = new.listening; waited = new.waited }

-- the effect of `next` on the counts
abbrev pub Counted : Result LinkEvent Failed → ℕ → LinkCounts → LinkCounts → Type 0
Counted (Ok event) wait old new = CountsEvent event wait old new
Counted (Err failed) wait old new = CountsFailure old new × (new.waited ≤ old.waited + wait)

-- the effect of `listen` on the counts
abbrev pub CountsListening : Result (Unit {0}) Failed → LinkCounts → LinkCounts → Type 0
CountsListening (Ok done) old new = new ≡ old
CountsListening (Err failed) old new = CountsFailure old new × (new.waited ≡ old.waited)
