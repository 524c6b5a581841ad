use Rattle.std.specs.Prelude.{◌≡◌, ℕ, false, List, [], ◌∷◌, map, codes}
use Rattle.oc_base.specs.Groups.{shelf}
use Rattle.oc_model.specs.declared.event.Act.TheVariants.{At, Deliver}
use Rattle.oc_model.specs.declared.event.Event.TheVariants.{Up, Crash, Do}
use Rattle.oc_model.specs.declared.input.Input.{Input}
use Rattle.oc_model.specs.declared.input.Input.TheVariants.{Pull, Publish, Delivered}
use Rattle.oc_model.specs.declared.message.Body.TheVariants.{Fetch, Chunk}
use Rattle.oc_model.specs.declared.message.Message.{Message}
use Rattle.oc_model.specs.ExampleRuns.{header, from_to}
use Rattle.oc_model.specs.Node.{Header, Node, new_node}
use Rattle.oc_model.specs.World.{new_world}
use Rattle.oc_laws_world.specs.Merges.{Entry, Line, line, Starts, Takes, IsMerge, IsScheduleOf, entries_of, own_fold}
use Rattle.oc_laws_world.specs.Missed.{Deed, Started, Took, Missed, record_of, without_missed}

-- Two records: node 1 publishes, and node 2 copies the group and is started again.

abbrev two : Header
two = header 2 1 (0 ∷ 0 ∷ [])

abbrev fetch : Message
fetch = from_to 2 1 (Fetch [])

abbrev chunk : Message
chunk = from_to 1 2 (Chunk (codes "/a") 0 (codes "hello") false)

abbrev copying : List Line
copying =
    line 2 Starts
    ∷ line 2 (Takes (Pull 1))
    ∷ line 1 Starts
    ∷ line 1 (Takes (Publish (codes "/a") (codes "hello")))
    ∷ line 1 (Takes (Delivered fetch))
    ∷ line 2 (Takes (Delivered chunk))
    ∷ line 2 Starts
    ∷ []

-- each message was sent before its delivery
abbrev pub Copying : Type 0
Copying = IsMerge two copying

-- the entries of node 2 are those of its own record
abbrev pub CopyingAt2 : Type 0
CopyingAt2 = entries_of 2 copying ≡ Starts ∷ Takes (Pull 1) ∷ Takes (Delivered chunk) ∷ Starts ∷ []

-- the fetch is the first message of the net, and the chunk the second; a crash comes before the second start
abbrev pub CopyingScheduled : Type 0
CopyingScheduled = IsScheduleOf (new_world two) copying
    (Up 2 ∷ Do (At 2 (Pull 1)) ∷ Up 1 ∷ Do (At 1 (Publish (codes "/a") (codes "hello"))) ∷ Do (Deliver 1) ∷ Do (Deliver 2) ∷ Crash 2 ∷ Up 2 ∷ [])

-- node 2 holds the published bytes by its own record
abbrev pub CopyingHeld : Type 0
CopyingHeld = shelf (own_fold two copying 2).groups ≡ record { group = codes "/a"; held = 5; sealed = false } ∷ []

-- Two records: one whose second publish was not taken, since the node stopped, and one whose first publish was taken.

abbrev adds : List ℕ → Input
adds bytes = Publish (codes "/a") bytes

-- the lengths of all groups, which differ between these files
abbrev lengths : Node → List ℕ
lengths n = map (λ l. l.held) (shelf n.groups)

abbrev left : List Deed → List Entry
left deeds = without_missed lengths (new_node two 1) (record_of lengths (new_node two 1) deeds)

abbrev pub MissedLeftOut : Type 0
MissedLeftOut =
    left (Started ∷ Took (adds (codes "hi")) ∷ Missed (adds (codes "!")) ∷ Started ∷ Took (adds (codes "?")) ∷ [])
    ≡ Starts ∷ Takes (adds (codes "hi")) ∷ Starts ∷ Takes (adds (codes "?")) ∷ []

abbrev pub TakenKept : Type 0
TakenKept = left (Started ∷ Took (adds (codes "hi")) ∷ Started ∷ []) ≡ Starts ∷ Takes (adds (codes "hi")) ∷ Starts ∷ []
