-- A node's deeds on one page: a machine whose steps are turns, given the reports of the link and
-- the clock in each. `turn` of oc_deeds gives the deeds of a turn, and `after`, `line` and `calls`
-- of a deed give the node after it, its line and its calls.
use Rattle.std.specs.Prelude.{ℕ, Bool, ◌==◌, if◌then◌else◌, Option, Some, List, [], ◌∷◌, ◌++◌}
use Rattle.oc_base.specs.Groups.{shelf}
use Rattle.oc_base.specs.declared.shelf.Shelf.{Shelf}
use Rattle.oc_model.specs.declared.input.Input.TheVariants.{Measured}
use Rattle.oc_config.specs.Settings.{Settings}
use Rattle.oc_model.specs.Node.{Control, Node}
use Rattle.oc_probe.specs.declared.probing.Probing.{Probing}
use Rattle.oc_routes.specs.Tallies.{first_tally}
use Rattle.oc_routes.specs.Sights.{AboutView}
use Rattle.oc_deeds.specs.Brief.{told_first}
use Rattle.oc_deeds.specs.Choices.{due_index}
use Rattle.oc_deeds.specs.Deeds.{Deed, Running, Says, Setting, Takes, after_all}
use Rattle.oc_deeds.specs.Pace.{first_pace}
use Rattle.oc_deeds.specs.Records.{told_ahead}
use Rattle.oc_deeds.specs.Rereading.{last_read, probing_by}
use Rattle.oc_deeds.specs.Turns.{Observation, dealt, pace_after, probing_after, turn}
use Rattle.oc_deeds.specs.declared.pace.Pace.{Pace}
use Rattle.oc_updown.specs.declared.measure_lines.Measure.{Measure}

-- a node between two turns
pub record Machine : Type 0 where
  pub running : Running
  pub pace : Pace
  pub probing : Option Probing
  -- the bytes of its configuration that were read last; none where the last reading failed
  pub reading : Option (List ℕ)

-- a node that goes by this configuration, with no messages to send and no request under way
abbrev pub node_at_first : Settings → AboutView → Node → Running
node_at_first config about n = record { node = n; outbox = []; works = []; dials = []; tally = first_tally n.control.nodes; config = config; about = about }

-- the machine at first, nothing counted, whose configuration was read from these bytes: no tick yet; in a record
-- ticks are whole seconds apart, otherwise they are at most this interval apart
abbrev pub at_first : Bool → ℕ → Option Probing → List ℕ → Running → Machine
at_first whole most probing text running =
    record { running = running; pace = first_pace whole most; probing = probing; reading = Some text }

-- each of the node's own measures is taken as an input
abbrev pub own_measure : Setting → Measure → List Deed
own_measure s m = if m.from == s.me then Says (told_ahead s.log s.me (Measured m.peer m.rate m.hops)) ∷ Takes (Measured m.peer m.rate m.hops) ∷ [] else []

abbrev pub own_measures : Setting → List Measure → List Deed
own_measures s [] = []
own_measures s (m ∷ ms) = own_measure s m ++ own_measures s ms

-- the beginning of a node with this control part and these groups: it reports its position in the
-- tree or begins its record, as the log asks, and takes the measures
abbrev pub begins_on : Setting → List Measure → Control → List Shelf → List Deed
begins_on s ms n shelves = Says (told_first s.log n shelves) ∷ own_measures s ms

abbrev pub begins : Setting → List Measure → Node → List Deed
begins s ms n = begins_on s ms n.control (shelf n.groups)

abbrev pub begun : Setting → List Measure → Machine → Machine
begun s ms m = record m { running = after_all (begins s ms m.running.node) m.running }

-- the deeds of a turn for this observation, and the node after it
abbrev pub turn_deeds : Setting → Observation → Machine → List Deed
turn_deeds s t m = turn m.pace m.probing t s m.running

abbrev pub due_at : Observation → Machine → Option ℕ
due_at t m = due_index m.running.works (shelf m.running.node.groups) t.before

-- the configuration that it goes by when it looks for a new one
abbrev pub config_at_look : Setting → Observation → Machine → Settings
config_at_look s t m = (after_all (dealt m.pace m.probing t s m.running) m.running).config

abbrev pub after_turn : Setting → Observation → Machine → Machine
after_turn s t m = record {
  running = after_all (turn_deeds s t m) m.running;
  pace = pace_after (due_at t m) m.pace t m.running.node;
  probing = probing_by s (config_at_look s t m) t.reread (probing_after (due_at t m) t m.running.dials m.probing);
  reading = last_read t.look m.reading;
}

-- turn after turn
abbrev pub turns_deeds : Setting → List Observation → Machine → List Deed
turns_deeds s [] m = []
turns_deeds s (t ∷ ts) m = turn_deeds s t m ++ turns_deeds s ts (after_turn s t m)

abbrev pub after_turns : Setting → List Observation → Machine → Machine
after_turns s [] m = m
after_turns s (t ∷ ts) m = after_turns s ts (after_turn s t m)

-- All deeds of a node: it begins, and turns.
abbrev pub node_deeds : Setting → List Measure → List Observation → Machine → List Deed
node_deeds s ms ts m = begins s ms m.running.node ++ turns_deeds s ts (begun s ms m)

abbrev pub machine_after : Setting → List Measure → List Observation → Machine → Machine
machine_after s ms ts m = after_turns s ts (begun s ms m)
