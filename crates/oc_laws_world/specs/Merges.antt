use Rattle.std.specs.Prelude.{◌≡◌, ℕ, Bool, true, false, ◌==◌, if◌then◌else◌, Some, List, [], ◌∷◌, ◌++◌}
use Rattle.oc_base.specs.Lawful.{IsNode}
use Rattle.oc_model.specs.declared.event.Act.TheVariants.{At, Deliver}
use Rattle.oc_model.specs.declared.event.Event.{Event}
use Rattle.oc_model.specs.declared.event.Event.TheVariants.{Up, Crash, Do}
use Rattle.oc_model.specs.declared.input.Input.{Input}
use Rattle.oc_model.specs.declared.input.Input.TheVariants.{Delivered}
use Rattle.oc_model.specs.declared.message.Message.{Message}
use Rattle.oc_model.specs.NextWorld.{world_after}
use Rattle.oc_model.specs.Node.{Header, Node, new_node, restarted}
use Rattle.oc_model.specs.Numbers.{IsAmong}
use Rattle.oc_model.specs.Step.{step}
use Rattle.oc_model.specs.World.{World, is_up, message_at}

-- The records of running nodes, and the schedule that they make together.

-- an entry of a node's record: a start, or an input
pub data Entry : Type 0 where
  Starts : Entry
  Takes : Input → Entry

-- an entry, with the node whose record it is from
pub record Line : Type 0 where
  pub node : ℕ
  pub entry : Entry

abbrev pub line : ℕ → Entry → Line
line x e = record { node = x; entry = e }

-- One node

-- the node after an entry
abbrev pub after_entry : Node → Entry → Node
after_entry n Starts = restarted n
after_entry n (Takes i) = (step n i).node

abbrev pub sent_by : Node → Entry → List Message
sent_by n Starts = []
sent_by n (Takes i) = (step n i).sends

-- the node after its entries, one after another
abbrev pub after_entries : Node → List Entry → Node
after_entries n [] = n
after_entries n (e ∷ es) = after_entries (after_entry n e) es

abbrev pub sent_by_all : Node → List Entry → List Message
sent_by_all n [] = []
sent_by_all n (e ∷ es) = sent_by n e ++ sent_by_all (after_entry n e) es

-- All nodes: a merge is a list of lines

-- the entries of x in a merge, in their order
abbrev pub entries_of : ℕ → List Line → List Entry
entries_of x [] = []
entries_of x (l ∷ ls) = if l.node == x then l.entry ∷ entries_of x ls else entries_of x ls

-- the node x by its own entries alone
abbrev pub own_fold : Header → List Line → ℕ → Node
own_fold h ls x = after_entries (new_node h x) (entries_of x ls)

abbrev pub is_any : List Entry → Bool
is_any [] = false
is_any (e ∷ es) = true

-- x has an entry in these lines, the first of which is a start
abbrev pub HasStarted : List Line → ℕ → Type 0
HasStarted ls x = is_any (entries_of x ls) ≡ true

-- a step of one of these lines sent the message
abbrev pub WasSent : Header → List Line → Message → Type 0
WasSent h ls m = (x : ℕ) × IsNode h.nodes x × IsAmong m (sent_by_all (new_node h x) (entries_of x ls))

-- an input can come to x after these lines: a message only if it was sent to x before
abbrev pub CanCome : Header → List Line → ℕ → Input → Type 0
CanCome h ls x (Delivered m) = (m.to ≡ x) × WasSent h ls m
CanCome h ls x i = Unit {0}

-- an entry of x can come after these lines: a start always, an input only after a start of x and if it can come
abbrev pub CanFollow : Header → List Line → ℕ → Entry → Type 0
CanFollow h ls x Starts = Unit {0}
CanFollow h ls x (Takes i) = HasStarted ls x × CanCome h ls x i

-- each of these lines belongs to a node, and can come after those before it and the lines `past`
abbrev pub GoOn : Header → List Line → List Line → Type 0
GoOn h past [] = Unit {0}
GoOn h past (l ∷ ls) = IsNode h.nodes l.node × CanFollow h past l.node l.entry × GoOn h (past ++ l ∷ []) ls

abbrev pub IsMerge : Header → List Line → Type 0
IsMerge h ls = GoOn h [] ls

-- The schedule of a merge

-- the events of a start: with a crash before it if the node is up
abbrev pub start_events : ℕ → Bool → List Event
start_events x false = Up x ∷ []
start_events x true = Crash x ∷ Up x ∷ []

-- the events of an entry of x in this world; a delivery names the message by its place in the net
abbrev pub AreEventsOf : World → ℕ → Entry → List Event → Type 0
AreEventsOf w x Starts es = es ≡ start_events x (is_up w x)
AreEventsOf w x (Takes (Delivered m)) es = (k : ℕ) × (message_at w.net k ≡ Some m) × (es ≡ Do (Deliver k) ∷ [])
AreEventsOf w x (Takes i) es = es ≡ Do (At x i) ∷ []

-- the events of these lines, one after another, from this world on
abbrev pub IsScheduleOf : World → List Line → List Event → Type 0
IsScheduleOf w [] es = es ≡ []
IsScheduleOf w (l ∷ ls) es =
    (first rest : List Event) × (es ≡ first ++ rest) × AreEventsOf w l.node l.entry first × IsScheduleOf (world_after w first) ls rest
