-- The two control files.
use Rattle.oc_store.specs.declared.errors.Side.{Side}
use Rattle.oc_store.specs.declared.errors.Side.TheVariants.{First, Second}

-- the other side
abbrev pub opposite : Side → Side
opposite First = Second
opposite Second = First
