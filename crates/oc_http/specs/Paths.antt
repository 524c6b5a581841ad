-- The paths of a node that name no group.
use Rattle.std.specs.Prelude.{ℕ, List, codes}

-- the path to which nodes post messages
abbrev pub message_path : List ℕ
message_path = codes "/!overcast"

-- the path of the content by which rates are measured
abbrev pub probe_path : List ℕ
probe_path = codes "/!probe"
