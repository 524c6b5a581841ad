-- A snapshot's records of the measures.
use Rattle.std.specs.Prelude.{ℕ, if◌then◌else◌, List, [], ◌∷◌}
use Rattle.oc_model.specs.declared.reading.Reading.{Reading}
use Rattle.oc_model.specs.declared.record.Record.{Record}
use Rattle.oc_model.specs.declared.record.Record.TheVariants.{Rate}
use Rattle.oc_model.specs.Measures.{same_reading}
use Rattle.oc_model.specs.Node.{no_reading}

-- the record of the reading of x, if x was measured
abbrev pub rate_record : ℕ → Reading → List Record
rate_record x r = if same_reading r no_reading then [] else Rate x r.rate r.hops ∷ []
