use Rattle.std.specs.Prelude.{◌≡◌, ℕ, ◌<◌, Some, List, [], ◌∷◌, ◌++◌, codes}
use Rattle.oc_base.specs.declared.cert.Cert.{Cert}
use Rattle.oc_model.specs.declared.event.Act.TheVariants.{At, Deliver}
use Rattle.oc_model.specs.declared.event.Event.{Event}
use Rattle.oc_model.specs.declared.event.Event.TheVariants.{Up, Crash, Do}
use Rattle.oc_model.specs.declared.input.Input.TheVariants.{Tick, CheckNow, Pull, Publish, Client, Unreachable}
use Rattle.oc_model.specs.Chains.{IsRoot, true_line}
use Rattle.oc_model.specs.ClaimsTree.{table_of, HasMissingCause, HasWrongCause}
use Rattle.oc_model.specs.ExampleRuns.{header, join}
use Rattle.oc_model.specs.NextWorld.{world_after}
use Rattle.oc_model.specs.Table.{newest, table_line}
use Rattle.oc_model.specs.World.{World, new_world, node}

-- Worlds in which each cause occurs that explains a wrong line or count.

-- A parent with three children fails, and they join their grandparent. Before the world settles the root still lists the parent.

abbrev failing : List Event
failing =
    (Up 1 ∷ Up 2 ∷ Up 3 ∷ Up 4 ∷ Up 5 ∷ Do (At 1 (Tick 0)) ∷ []) ++ join 2 1 1 ++ join 3 2 3 ++ join 4 2 5 ++ join 5 2 7
    ++ (Crash 2 ∷ Do (At 3 (Unreachable 2)) ∷ Do (At 4 (Unreachable 2)) ∷ Do (At 5 (Unreachable 2)) ∷ Do (Deliver 9) ∷ Do (Deliver 10) ∷ Do (Deliver 11) ∷ Do (Deliver 12) ∷ Do (Deliver 13) ∷ Do (Deliver 14) ∷ [])

abbrev failed : World
failed = world_after (new_world (header 5 1 (0 ∷ 0 ∷ 0 ∷ 0 ∷ 0 ∷ []))) failing

-- the wrong line has its cause
abbrev pub WrongCauseOccurs : Type 0
WrongCauseOccurs = (table_line (table_of failed 1) 1 2 ≡ Some 1) × HasWrongCause failed 1 2

-- A node two links below the root serves a client, and tells its parent.

abbrev serving : List Event
serving =
    (Up 1 ∷ Up 2 ∷ Up 3 ∷ Do (At 1 (Tick 0)) ∷ []) ++ join 2 1 1 ++ join 3 2 3
    ++ (Do (At 2 CheckNow) ∷ Do (Deliver 5) ∷ Do (Deliver 6) ∷ Do (At 1 (Publish (codes "/a") [])) ∷ Do (At 3 (Pull 1)) ∷ Do (Deliver 7) ∷ Do (Deliver 8) ∷ Do (At 3 (Client 0 0 (codes "/a")))
    ∷ Do (At 3 CheckNow) ∷ [])

-- the world after the node counted the client
abbrev counted : World
counted = world_after (new_world (header 3 1 (0 ∷ 0 ∷ 0 ∷ []))) serving

-- the world after the parent knows the count
abbrev told : World
told = world_after counted (Do (Deliver 9) ∷ [])

abbrev number_of : World → ℕ → ℕ
number_of w x = (node w x).control.kept.number

-- y has an old count of x
abbrev HasOldCount : World → ℕ → ℕ → Type 0
HasOldCount w y x = (e : Cert) × (newest (table_of w y) x ≡ Some e) × (e.number < number_of w x)

-- the root's line of node 3 is right, but its count is old
abbrev IsBehind : World → Type 0
IsBehind w = IsRoot w 1 × (table_line (table_of w 1) 1 3 ≡ Some 2) × (true_line w 1 3 ≡ Some 2) × HasOldCount w 1 3

-- the count is old since the parent was not told
abbrev pub UntoldOccurs : Type 0
UntoldOccurs = IsBehind counted × HasOldCount counted 2 3

-- the count is old since a certificate waits at the parent
abbrev pub WaitingOccurs : Type 0
WaitingOccurs = IsBehind told × HasMissingCause told 1 3
