use Rattle.std.specs.Prelude.{ℕ, Bool, ◌&&◌, ◌==◌, List}
use Rattle.oc_model.specs.declared.reading.Reading.{Reading}
use Rattle.oc_model.specs.Node.{no_reading}
use Rattle.oc_model.specs.Numbers.{at, put_at}

-- The measures of a node: its readings of the ways to its peers.

-- the reading of a peer
abbrev pub reading_of : List Reading → ℕ → Reading
reading_of ms x = at ms x no_reading

-- the readings with a new one of this peer
abbrev pub with_reading : List Reading → ℕ → Reading → List Reading
with_reading ms x r = put_at ms x r

-- whether two readings are equal
abbrev pub same_reading : Reading → Reading → Bool
same_reading a b = a.rate == b.rate && a.hops == b.hops
