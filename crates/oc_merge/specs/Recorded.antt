use Rattle.std.specs.Prelude.{ℕ, ◌+◌, Bool, true, false, not, ◌&&◌, ◌==◌, if◌then◌else◌, Option, Some, None, Result, Ok, Err, List, [], ◌∷◌, length, map, take, get_or, slice_get}
use Rattle.std.specs.Str.{bytes_eq}
use Rattle.oc_model.specs.declared.input.Input.{Input}
use Rattle.oc_model.specs.declared.input.Input.TheVariants.{Delivered}
use Rattle.oc_model.specs.declared.message.Body.TheVariants.{Look}
use Rattle.oc_model.specs.declared.message.Message.{Message}
use Rattle.oc_model.specs.Node.{Node, new_node, restarted}
use Rattle.oc_model.specs.Step.{step}
use Rattle.oc_wire.specs.declared.fault.WireFault.{WireFault}
use Rattle.oc_wire.specs.MessageReading.{decoded}
use Rattle.oc_laws_world.specs.Merges.{Entry, Starts, Takes, Line, line, after_entries}
use Rattle.oc_laws_world.specs.Taking as takings
use Rattle.oc_merge.specs.declared.told.Told.{Told}
use Rattle.oc_merge.specs.declared.told.Told.TheVariants.{Started, Came, Took}
use Rattle.oc_merge.specs.declared.told.ToldLine.{ToldLine}
use Rattle.oc_merge.specs.Told.{Records}

-- Records for the laws of merges. The digest of a node represents its files.

-- the message that represents bytes that are no message: nobody sends it
abbrev pub no_message : Message
no_message = record { from = 0; to = 0; body = Look }

abbrev pub message_or_none : Result Message WireFault → Message
message_or_none (Ok m) = m
message_or_none (Err fault) = no_message

-- the message between `nodes` nodes that these bytes are
abbrev pub message_of : ℕ → List ℕ → Message
message_of nodes bytes = message_or_none (decoded nodes bytes)

abbrev pub entry_of : ℕ → Told → Entry
entry_of nodes (Started files) = Starts
entry_of nodes (Came bytes) = Takes (Delivered (message_of nodes bytes))
entry_of nodes (Took i) = Takes i

abbrev pub line_of : ℕ → ToldLine → Line
line_of nodes l = line l.node (entry_of nodes l.told)

-- the statements of the lines of x, in order
abbrev pub own_told : ℕ → List ToldLine → List Told
own_told x [] = []
own_told x (l ∷ ls) = if l.node == x then l.told ∷ own_told x ls else own_told x ls

-- Starts

-- the digits of the files that a start tells
abbrev pub found_in : Option Told → Option (List ℕ)
found_in (Some (Started digits)) = digits
found_in told = None

-- whether they are those of this node; where no digits are told nothing is compared
abbrev pub are_files : (Node → List ℕ) → Option (List ℕ) → Node → Bool
are_files digest None n = true
are_files digest (Some digits) n = bytes_eq digits (digest n)

-- whether the files told by the line of x after these entries are those of the node
abbrev pub fits : (Node → List ℕ) → Records → ℕ → List Entry → Bool
fits digest r x past = are_files digest (found_in (slice_get (own_told x r.lines) (length past))) (after_entries (new_node r.header x) past)

abbrev pub recorded : (Node → List ℕ) → Records → takings.Records
recorded digest r = record { header = r.header; lines = map (line_of r.header.nodes) r.lines; fits = λ x past e. fits digest r x past }

-- Lines of inputs that were not taken

-- the digits of the files that the first start after it finds, where it tells them
abbrev pub found_after : List Told → Option (List ℕ)
found_after (Started None ∷ ts) = found_after ts
found_after (Started (Some digits) ∷ ts) = Some digits
found_after ts = None

-- whether an input of the node n was not taken: the next start finds the files without it, and not
-- those with it
abbrev pub is_missed : (Node → List ℕ) → Node → Input → Option (List ℕ) → Bool
is_missed digest n i None = false
is_missed digest n i (Some digits) = not (bytes_eq digits (digest (step n i).node)) && bytes_eq digits (digest n)

-- for each line of x, whether it is kept, given these lines alone and the node n before them; all
-- lines after bytes that are no message for x are kept
abbrev pub own_there : (Node → List ℕ) → ℕ → ℕ → Node → List Told → List Bool
own_there digest nodes x n [] = []
own_there digest nodes x n (Started files ∷ ts) = true ∷ own_there digest nodes x (restarted n) ts
own_there digest nodes x n (Came bytes ∷ ts) =
    if (message_of nodes bytes).to == x then (
    if is_missed digest n (Delivered (message_of nodes bytes)) (found_after ts) then false ∷ own_there digest nodes x n ts
    else true ∷ own_there digest nodes x (step n (Delivered (message_of nodes bytes))).node ts
    ) else true ∷ map (λ t. true) ts
own_there digest nodes x n (Took i ∷ ts) =
    if is_missed digest n i (found_after ts) then false ∷ own_there digest nodes x n ts else true ∷ own_there digest nodes x (step n i).node ts

-- whether the line at this place is there
abbrev pub is_there : (Node → List ℕ) → Records → ℕ → ToldLine → Bool
is_there digest r place l =
    get_or (own_there digest r.header.nodes l.node (new_node r.header l.node) (own_told l.node r.lines)) (length (own_told l.node (take place r.lines))) true

-- the same of the lines from this place on
abbrev pub are_there : (Node → List ℕ) → Records → ℕ → List ToldLine → List Bool
are_there digest r place [] = []
are_there digest r place (l ∷ ls) = is_there digest r place l ∷ are_there digest r (place + 1) ls

-- the lines that are marked as kept
abbrev pub picked : {A : Type 0} → List Bool → List A → List A
picked (true ∷ bs) (x ∷ xs) = x ∷ picked bs xs
picked (false ∷ bs) (x ∷ xs) = picked bs xs
picked bs xs = []

-- the records without the lines of inputs that were not taken
abbrev pub records_there : (Node → List ℕ) → Records → Records
records_there digest r = record r { lines = picked (are_there digest r 0 r.lines) r.lines }
