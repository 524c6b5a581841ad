-- A record: lines of a node that a schedule can be made of. Its beginning tells the network of the node and its files, and after
-- that there is a line for each input, written before its frame.
use Rattle.std.specs.Prelude.{ℕ, Bool, true, false, List, [], ◌++◌, codes, decimal}
use Rattle.oc_base.specs.declared.shelf.Shelf.{Shelf}
use Rattle.oc_model.specs.declared.input.Input.{Input}
use Rattle.oc_model.specs.Node.{Control, Header}
use Rattle.oc_replay.specs.Digests.{has_line}
use Rattle.oc_routes.specs.Inputs.{input_line}
use Rattle.oc_schedule.specs.Printing.{script_text}
use Rattle.oc_deeds.specs.declared.log.Log.{Log}
use Rattle.oc_deeds.specs.declared.log.Log.TheVariants as logs

abbrev pub is_record : Log → Bool
is_record logs.Record = true
is_record log = false

-- the text of an input before its frame: in a record its line
abbrev pub told_ahead : Log → ℕ → Input → List ℕ
told_ahead logs.Record me i = input_line me i
told_ahead log me i = []

-- the network of a node
abbrev pub network_of : Control → Header
network_of n = record { nodes = n.nodes; chain = n.chain; chunk = n.chunk; areas = n.areas }

-- the header of a network and its areas: the text of a schedule without events
abbrev pub network_text : Header → List ℕ
network_text h = script_text (record { header = h; events = [] })

-- `up ID`
abbrev pub up_line : ℕ → List ℕ
up_line me = codes "up " ++ decimal me ++ codes "\n"

-- The beginning of a record: the line `#`, the header and the areas, `up ID`, and `# ID has H` of the files of the node.
abbrev pub record_head : Control → List Shelf → List ℕ
record_head n shelves = codes "#\n" ++ network_text (network_of n) ++ up_line n.me ++ has_line n.me n.kept shelves
