-- The small parts that a start clears; the lists by the number of a node are not among them.
use Rattle.std.specs.Prelude.{ℕ, false, None, List}
use Rattle.oc_model.specs.declared.soft.Soft.{Soft}
use Rattle.oc_state.specs.declared.volatile.Volatile.{Volatile}

-- the model's state of these small parts and the nodes still to be asked
abbrev pub soft_of : Volatile → List ℕ → Soft
soft_of v tries = record { clock = v.clock; due = v.due; tries = tries; silent = v.silent; refused = v.refused; checked = v.checked; search = v.search; served = v.served; wish = v.wish; left = v.left; waits = v.waits; patience = v.patience; moves = v.moves }

-- the small parts of the model's state
abbrev pub volatile_of : Soft → Volatile
volatile_of s = record { clock = s.clock; due = s.due; silent = s.silent; refused = s.refused; checked = s.checked; search = s.search; served = s.served; wish = s.wish; left = s.left; waits = s.waits; patience = s.patience; moves = s.moves }

-- the small parts after a start
abbrev pub new_volatile : Volatile
new_volatile = record { clock = 0; due = None; silent = false; refused = false; checked = None; search = None; served = 0; wish = None; left = None; waits = 0; patience = 0; moves = 0 }
