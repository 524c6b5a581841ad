use Rattle.std.specs.Prelude.{if◌then◌else◌, Option, Some, None}
use Rattle.oc_model.specs.declared.place.Candidate.{Candidate}
use Rattle.oc_model.specs.Choice.{is_nearer, nearer_of}

-- The nearest candidate so far, as candidates are compared one after another.

-- the nearer one of the best so far and one more; the earlier one where neither is nearer
abbrev pub nearer_yet : Option Candidate → Candidate → Candidate
nearer_yet None c = c
nearer_yet (Some b) c = if is_nearer c b then c else b

-- the nearer one of the best so far and the nearest of the rest
abbrev pub with_rest : Option Candidate → Option Candidate → Option Candidate
with_rest None rest = rest
with_rest (Some b) rest = Some (nearer_of b rest)
