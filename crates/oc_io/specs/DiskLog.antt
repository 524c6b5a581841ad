-- The record that a disk in memory keeps of its calls: the calls in order, and the replaced bytes in one pool.
use Rattle.std.specs.Prelude.{ℕ, ◌-◌, List, [], ◌∷◌, length, take, drop}
use Rattle.oc_io.specs.Calls.{Call, Wrote, Synced}
use Rattle.oc_io.specs.declared.disk_log.LoggedCall.{LoggedCall}
use Rattle.oc_io.specs.declared.disk_log.LoggedCall.TheVariants.{Write, Sync}

-- the calls of these steps, newest first
abbrev pub told : List LoggedCall → List ℕ → List Call
told [] pool = []
told (Write at over count ∷ steps) pool =
    Wrote at (drop (length pool - over) pool) count ∷ told steps (take (length pool - over) pool)
told (Sync ∷ steps) pool = Synced ∷ told steps pool
