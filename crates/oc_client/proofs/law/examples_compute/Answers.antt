use Rattle.std.proofs.Common.{refl}
use Rattle.std.specs.Fmt.{digits}
use Rattle.oc_client.proofs.law.examples_compute.Goals as goal

pub returns-clause-texts : goal.returns-clause-texts
unfolding digits
returns-clause-texts c = record { ask = refl; lets_in = refl; piece = refl; seals = refl }

pub returns-clause-answers : goal.returns-clause-answers
returns-clause-answers c = record { length = refl; no_length = refl; absent = refl; denied = refl; moved = refl; unavailable = refl; coded = refl; conflict = refl; no_conflict = refl }

pub returns-clause-steps : goal.returns-clause-steps
returns-clause-steps c = record { taken = refl; elsewhere = refl; lost = refl; not_arrived = refl; was_taken = refl; other = refl; came_late = refl; fourth = refl; fifth = refl; fifth_unavailable = refl; refused = refl }

pub returns-clause-arrivals : goal.returns-clause-arrivals
returns-clause-arrivals c = record { twice = refl; late = refl; closed = refl; closed_again = refl }
