-- Lines that tell of a failure: `! source` and `! write`.
use Rattle.std.specs.Prelude.{◌≡◌, true, IsTrue, List, [], ◌∷◌}
use Rattle.oc_link.specs.Counts.{CountsEvent}
use Rattle.oc_link.specs.Failures.{fails_reading, fails_writing}
use Rattle.oc_link.specs.declared.counts.LinkCounts.{LinkCounts}
use Rattle.oc_link.specs.declared.event.LinkEvent.{LinkEvent}
use Rattle.oc_io.specs.Faults.{Rose}
use Rattle.oc_routes.specs.declared.refused.Refused.{Refused}
use Rattle.oc_routes.specs.declared.refused.Refused.TheVariants.{Source}
use Rattle.oc_deeds.specs.Deeds.{Deed, Drops, Refuses, Sees}

-- the last event that the link reported, after a deed
abbrev pub told_last : LinkEvent → Deed → LinkEvent
told_last event (Sees new wait bytes) = new
told_last event d = event

-- a refusal that tells that a call failed
abbrev pub IsFailure : Refused → Type 0 → Type 0
IsFailure Source failed = failed
IsFailure why failed = Unit {0}

-- `! source` is written where the link told last that a request could not be read, and `! write` where it told that a reply could not be sent
abbrev pub IsBorneOut : LinkEvent → Deed → Type 0
IsBorneOut event (Refuses c count refusal) = IsFailure refusal.why (IsTrue (fails_reading event))
IsBorneOut event (Drops c true) = IsTrue (fails_writing event)
IsBorneOut event d = Unit {0}

abbrev pub AreBorneOut : LinkEvent → List Deed → Type 0
AreBorneOut event [] = Unit {0}
AreBorneOut event (d ∷ ds) = IsBorneOut event d × AreBorneOut (told_last event d) ds

-- The counts of the link

-- the count that this line reports rose from `old` to `now`
abbrev pub RisesFor : Deed → LinkCounts → LinkCounts → Type 0
RisesFor (Refuses c count refusal) old now = IsFailure refusal.why (Rose old.reading now.reading)
RisesFor (Drops c true) old now = Rose old.writing now.writing
RisesFor d old now = Unit {0}

-- The counts of a link go from `now` to `new` over these deeds, and the last event before them
-- changed `old` to `now`: each line of a failure is written only if its count rose with the last
-- event.
abbrev pub RiseForLines : LinkCounts → LinkCounts → List Deed → LinkCounts → Type 0
RiseForLines old now [] new = new ≡ now
RiseForLines old now (Sees event wait bytes ∷ ds) new = (at : LinkCounts) × CountsEvent event wait now at × RiseForLines now at ds new
RiseForLines old now (d ∷ ds) new = RisesFor d old now × RiseForLines old now ds new
