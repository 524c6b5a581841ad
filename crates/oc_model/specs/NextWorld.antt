use Rattle.std.specs.Prelude.{ℕ, Bool, true, false, not, ◌&&◌, ◌||◌, if◌then◌else◌, Option, Some, None, is_some, List, [], ◌∷◌, length}
use Rattle.oc_model.specs.declared.answer.Answer.TheVariants as answers
use Rattle.oc_model.specs.declared.event.Act.{Act}
use Rattle.oc_model.specs.declared.event.Event.{Event}
use Rattle.oc_model.specs.declared.event.Event.TheVariants.{Up, Crash, Stop, Do, Held, Show, Settle, Heal}
use Rattle.oc_model.specs.declared.input.Input.{Input}
use Rattle.oc_model.specs.declared.word.Word.{Word}
use Rattle.oc_model.specs.declared.word.Word.TheVariants as words
use Rattle.oc_base.specs.Groups.{shelf}
use Rattle.oc_base.specs.Stops.{is_kept_new}
use Rattle.oc_model.specs.Heal.{is_able, leader, heals}
use Rattle.oc_model.specs.Node.{Node, Outcome, restarted}
use Rattle.oc_model.specs.Ready.{is_ready}
use Rattle.oc_model.specs.Runs.{after_acts}
use Rattle.oc_model.specs.Settle.{settles}
use Rattle.oc_model.specs.Plan.{Plan}
use Rattle.oc_model.specs.Step.{step, plan}
use Rattle.oc_model.specs.World.{World, Process, Arrival, down, process, node, is_up, with_process, source_after, arrival, after_act}
use Rattle.oc_model.specs.Numbers.{is_empty}

-- The effect of one event of a schedule, and the word that reports it.

abbrev pub put : World → Process → World
put w p = record w { processes = with_process w.processes p }

-- starts a node that is down
abbrev pub started : World → Process → World
started w p = if p.up then w else put w (record { node = restarted p.node; up = true })

-- a stopped node: its durable part, and all else as after a start
abbrev pub stopped : Node → Process
stopped n = down (restarted n)

-- stops a node that is up
abbrev pub crashed : World → Process → World
crashed w p = if p.up then put w (stopped p.node) else w

-- stops a node within the write of an input: the input is kept, or all is as before; no message is sent
abbrev pub cut_off : Bool → World → Node → Input → Outcome → World
cut_off true w n i o = record w { processes = with_process w.processes (stopped o.node); source = source_after w.source i o.answer }
cut_off false w n i o = put w (stopped n)

abbrev pub has_change : Plan → Bool
has_change o = not (is_empty o.records) || is_some o.keeps

-- whether this input changes the durable state, so that a frame is written
abbrev pub writes : Node → Input → Bool
writes n i = has_change (plan n.control (shelf n.groups) i)

-- whether the frame of this input is kept
abbrev pub keeps_write : ℕ → ℕ → Node → Input → Bool
keeps_write k image n i = writes n i && is_kept_new k image

abbrev pub stopped_at : World → ℕ → ℕ → Option Arrival → World
stopped_at w k image None = w
stopped_at w k image (Some a) =
    if is_up w a.at then cut_off (keeps_write k image (node w a.at) a.input) w (node w a.at) a.input (step (node w a.at) a.input) else w

-- the acts of settle, if the world is ready
abbrev pub settle_acts_if : Bool → World → Option (List Act)
settle_acts_if true w = Some (settles w).acts
settle_acts_if false w = None

abbrev pub settle_acts : World → Option (List Act)
settle_acts w = settle_acts_if (is_ready w) w

-- the acts of heal, if the world is able
abbrev pub heal_acts_if : Bool → Option ℕ → World → Option (List Act)
heal_acts_if true (Some m) w = Some (heals m w).acts
heal_acts_if able m w = None

abbrev pub heal_acts : World → Option (List Act)
heal_acts w = heal_acts_if (is_able w) (leader w) w

-- the world after these acts, if there are any
abbrev pub after_any : World → Option (List Act) → World
after_any w None = w
after_any w (Some done) = after_acts w done

-- the world after one event
abbrev pub next_world : World → Event → World
next_world w (Up x) = started w (process w x)
next_world w (Crash x) = crashed w (process w x)
next_world w (Stop calls image a) = stopped_at w calls image (arrival w a)
next_world w (Do a) = after_act w a
next_world w (Held x) = w
next_world w (Show x) = w
next_world w Settle = after_any w (settle_acts w)
next_world w Heal = after_any w (heal_acts w)

-- the word of an act
abbrev pub word_of_act : World → Option Arrival → Word
word_of_act w None = words.NoMessage
word_of_act w (Some a) = if is_up w a.at then words.Node (step (node w a.at) a.input).answer else words.Down

-- the word of a stop
abbrev pub word_of_stop : World → ℕ → ℕ → Option Arrival → Word
word_of_stop w k image None = words.NoMessage
word_of_stop w k image (Some a) =
    if is_up w a.at then (if keeps_write k image (node w a.at) a.input then words.StoppedNew else words.StoppedOld) else words.Down

-- the word of settle, with the number of its acts
abbrev pub word_of_settle : Option (List Act) → Word
word_of_settle None = words.Unready
word_of_settle (Some done) = words.Settled (length done)

-- the word of heal, with the number of its acts
abbrev pub word_of_heal : Option (List Act) → Word
word_of_heal None = words.Unready
word_of_heal (Some done) = words.Healed (length done)

-- the word of an event
abbrev pub word_of : World → Event → Word
word_of w (Up x) = if is_up w x then words.Up else words.Node answers.Ok
word_of w (Crash x) = if is_up w x then words.Node answers.Ok else words.Down
word_of w (Stop calls image a) = word_of_stop w calls image (arrival w a)
word_of w (Do a) = word_of_act w (arrival w a)
word_of w (Held x) = words.Node answers.Ok
word_of w (Show x) = words.Node answers.Ok
word_of w Settle = word_of_settle (settle_acts w)
word_of w Heal = word_of_heal (heal_acts w)

-- the world after these events, one after another
abbrev pub world_after : World → List Event → World
world_after w [] = w
world_after w (e ∷ es) = world_after (next_world w e) es
