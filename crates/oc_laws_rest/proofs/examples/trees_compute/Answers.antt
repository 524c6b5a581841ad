use Rattle.std.proofs.Common.{refl}
use Rattle.oc_laws_rest.proofs.examples.trees_compute.Goals as goal

pub returns-clause-forgotten : goal.returns-clause-forgotten
returns-clause-forgotten c = record { quiet = refl; before = refl; later = refl; forgotten = refl; another = refl }

pub returns-clause-orphans : goal.returns-clause-orphans
returns-clause-orphans c = record { child = refl; before = refl; quiet = refl; found = refl; late = refl; refused = refl; root = refl; later = refl }

pub returns-clause-stale : goal.returns-clause-stale
returns-clause-stale c = record { child = refl; at_source = refl; at_parent = refl; quiet = refl; moved = refl; still = refl; forgotten = refl }
