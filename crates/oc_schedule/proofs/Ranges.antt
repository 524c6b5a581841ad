-- The ranges of the values that lines give.
use Rattle.std.specs.List.{AllByRecursion}
use Rattle.std.proofs.Common.{◌≡◌, ℕ, zero, suc, ◌≤◌, [], ◌∷◌, Result, Ok, Err, List, subst, arith, min, replicate, codes}
use Rattle.std.specs.Prelude.{slice_set}
use Rattle.std.specs.Str.{bytes_eq}
use Rattle.std.proofs.lemmas.List.{length-replicate}
use Rattle.oc_base.specs.declared.why.Why.TheVariants as causes
use Rattle.oc_model.specs.declared.event.Event.{Event}
use Rattle.oc_model.specs.declared.event.Event.TheVariants.{Up, Crash, Stop, Do, Held, Show, Settle, Heal}
use Rattle.oc_base.specs.Lawful.{IsNode}
use Rattle.oc_model.specs.Lawful.{IsHeader, IsEvent}
use Rattle.oc_model.specs.Node.{Header}
use Rattle.oc_schedule.proofs.ActRanges.{act_range, either, number_range}
use Rattle.oc_schedule.proofs.Steps.{steps, within_guard}
use Rattle.oc_base.specs.Words.{one, two, number_in, node_in}
use Rattle.oc_base.specs.declared.limits.TheConstants.{MAX_AREA, MAX_NODES, MAX_CHAIN, MAX_CHUNK_BYTES, USUAL_CHUNK_BYTES}
use Rattle.oc_model.specs.declared.header.Sizes.{Sizes}
use Rattle.oc_schedule.specs.Acts.{act_in, most_byte}
use Rattle.oc_schedule.specs.Lines.{header_without_areas, sizes_in, named_in, chunk_in, opening_in, header_in, area_in, first_three, node_alone_in, up_in, crash_in, held_in, show_in, alone, stop_in, act_alone_in, event_in, most_calls}
use Rattle.oc_base.specs.Steps.{with_fault}
use Rattle.oc_schedule.specs.Script.{published_by}

-- areas that are 0 are areas
pub zeros_are_areas : (n : ℕ) → AllByRecursion (λ a. a ≤ MAX_AREA) (replicate n 0)
zeros_are_areas zero = tt
zeros_are_areas (suc n) = (omega arith, zeros_are_areas n)

-- a list of areas with one more area set
pub set_keeps_areas : (areas : List ℕ) (i a : ℕ) → AllByRecursion (λ a. a ≤ MAX_AREA) areas → a ≤ MAX_AREA → AllByRecursion (λ a. a ≤ MAX_AREA) (slice_set areas i a)
set_keeps_areas [] i a all small = tt
set_keeps_areas (x ∷ areas) zero a all small = (small, all.1)
set_keeps_areas (x ∷ areas) (suc i) a all small = (all.0, set_keeps_areas areas i a all.1 small)

sizes_range : (n c : List ℕ) (chunk : ℕ) (sizes : Sizes) → 1 ≤ chunk → chunk ≤ MAX_CHUNK_BYTES → sizes_in n c chunk ≡ Ok sizes → IsHeader (header_without_areas sizes)
sizes_range n c chunk sizes some fits h =
    steps (number_in 1 MAX_NODES n) _ _ h λ nodes is_nodes then.
    steps (number_in 1 (min MAX_CHAIN nodes) c) _ _ then λ chain is_chain end.
    let a = number_range 1 MAX_NODES n nodes is_nodes in
    let b = number_range 1 (min MAX_CHAIN nodes) c chain is_chain in
    let made : Sizes = record { nodes = nodes; chain = chain; chunk = chunk } in
    let same : made ≡ sizes = cc end in
    subst (λ (s : Sizes). IsHeader (header_without_areas s)) same
    (record { some = a.0; few = a.1; chain = b.0; short = omega arith; within = omega arith; chunk = some; fits = fits; areas = length-replicate nodes 0; bytes = zeros_are_areas nodes })

-- the range of a chunk's number
chunk_range : (words : List (List ℕ)) (chunk : ℕ) → chunk_in words ≡ Ok chunk → (1 ≤ chunk) × (chunk ≤ MAX_CHUNK_BYTES)
chunk_range [] chunk h = let same : USUAL_CHUNK_BYTES ≡ chunk = cc h in (omega (arith, same), omega (arith, same))
chunk_range (name ∷ fields) chunk h =
    steps (one fields) _ _ h λ b is_one then.
    number_range 1 MAX_CHUNK_BYTES b chunk (within_guard (bytes_eq name (codes "chunk")) causes.Word _ chunk then).1

opening_range : (words : List (List ℕ)) (sizes : Sizes) → opening_in words ≡ Ok sizes → IsHeader (header_without_areas sizes)
opening_range words sizes h =
    steps (named_in (codes "overcast") words) _ _ h λ version is_version then.
    steps (named_in (codes "nodes") version.1) _ _ then λ n is_nodes then.
    steps (named_in (codes "chain") n.1) _ _ then λ c is_chain then.
    steps (chunk_in c.1) _ _ then λ chunk is_chunk then.
    let range = chunk_range c.1 chunk is_chunk in
    sizes_range n.0 c.0 chunk sizes range.0 range.1 (within_guard (bytes_eq version.0 (codes "1")) causes.Word _ sizes then).1

without_fault : {A E F : Type 0} (fault : F) (r : Result A E) (y : A) → with_fault fault r ≡ Ok y → r ≡ Ok y
without_fault fault (Ok x) y h = cc h
without_fault fault (Err e) y h = absurd (cc h)

-- a header that is read is within its ranges
pub header_range : (words : List (List ℕ)) (h : Header) → header_in words ≡ Ok h → IsHeader h
header_range words h is =
    steps (with_fault causes.Header (opening_in words)) _ _ is λ sizes first_script end.
    let same : header_without_areas sizes ≡ h = cc end in
    subst IsHeader same (opening_range words sizes (without_fault causes.Header (opening_in words) sizes first_script))

-- the area of a node that is read is within its range
pub area_range : (nodes : ℕ) (fields : List (List ℕ)) (area : ℕ × ℕ) → area_in nodes fields ≡ Ok area → IsNode nodes area.0 × (area.1 ≤ MAX_AREA)
area_range nodes fields area h =
    steps (two fields) _ _ h λ f is_two then.
    steps (node_in nodes f.0) _ _ then λ node is_node then.
    steps (number_in 0 most_byte f.1) _ _ then λ a is_area end.
    let same : (node, a) ≡ area = cc end in
    subst (λ (x : ℕ × ℕ). IsNode nodes x.0 × (x.1 ≤ MAX_AREA)) same
    (number_range 1 nodes f.0 node is_node, (number_range 0 most_byte f.1 a is_area).1)

-- An event that is read is within its ranges, unless it publishes too many bytes.

abbrev IsEventIfFew : ℕ → Event → Type 0
IsEventIfFew nodes event = published_by event ≤ 1000000 → IsEvent nodes event

node_range : (nodes : ℕ) (fields : List (List ℕ)) (node : ℕ) → node_alone_in nodes fields ≡ Ok node → IsNode nodes node
node_range nodes fields node h =
    steps (one fields) _ _ h λ n is_one is_node. number_range 1 nodes n node is_node

up_range : (nodes : ℕ) (fields : List (List ℕ)) (event : Event) → up_in nodes fields ≡ Ok event → IsEventIfFew nodes event
up_range nodes fields event h =
    steps (node_alone_in nodes fields) _ _ h λ node is_node end.
    let same : Up node ≡ event = cc end in
    subst (IsEventIfFew nodes) same λ few. node_range nodes fields node is_node

crash_range : (nodes : ℕ) (fields : List (List ℕ)) (event : Event) → crash_in nodes fields ≡ Ok event → IsEventIfFew nodes event
crash_range nodes fields event h =
    steps (node_alone_in nodes fields) _ _ h λ node is_node end.
    let same : Crash node ≡ event = cc end in
    subst (IsEventIfFew nodes) same λ few. node_range nodes fields node is_node

held_range : (nodes : ℕ) (fields : List (List ℕ)) (event : Event) → held_in nodes fields ≡ Ok event → IsEventIfFew nodes event
held_range nodes fields event h =
    steps (node_alone_in nodes fields) _ _ h λ node is_node end.
    let same : Held node ≡ event = cc end in
    subst (IsEventIfFew nodes) same λ few. node_range nodes fields node is_node

show_range : (nodes : ℕ) (fields : List (List ℕ)) (event : Event) → show_in nodes fields ≡ Ok event → IsEventIfFew nodes event
show_range nodes fields event h =
    steps (node_alone_in nodes fields) _ _ h λ node is_node end.
    let same : Show node ≡ event = cc end in
    subst (IsEventIfFew nodes) same λ few. node_range nodes fields node is_node

-- an event without fields is read as that event
is_alone : (event : Event) (fields : List (List ℕ)) (other : Event) → alone event fields ≡ Ok other → event ≡ other
is_alone event [] other h = cc h
is_alone event (field ∷ fields) other h = absurd (cc h)

stop_range : (nodes : ℕ) (words : List (List ℕ)) (event : Event) → stop_in nodes words ≡ Ok event → IsEventIfFew nodes event
stop_range nodes words event h =
    steps (first_three words) _ _ h λ f is_three then.
    steps (number_in 0 most_calls f.0) _ _ then λ calls is_calls then.
    steps (number_in 0 most_byte f.1) _ _ then λ image is_image then.
    steps (act_in nodes f.2 f.3) _ _ then λ act is_act end.
    let same : Stop calls image act ≡ event = cc end in
    subst (IsEventIfFew nodes) same λ few.
    ((number_range 0 most_calls f.0 calls is_calls).1, (number_range 0 most_byte f.1 image is_image).1, act_range nodes f.2 f.3 act is_act few)

alone_range : (nodes : ℕ) (word : List ℕ) (fields : List (List ℕ)) (event : Event) → act_alone_in nodes word fields ≡ Ok event → IsEventIfFew nodes event
alone_range nodes word fields event h =
    steps (act_in nodes word fields) _ _ h λ act is_act end.
    let same : Do act ≡ event = cc end in
    subst (IsEventIfFew nodes) same (act_range nodes word fields act is_act)

-- an event that is read is within its ranges, unless it publishes too many bytes
pub event_range : (nodes : ℕ) (word : List ℕ) (fields : List (List ℕ)) (event : Event) → event_in nodes word fields ≡ Ok event → published_by event ≤ 1000000 → IsEvent nodes event
event_range nodes word fields event h =
    let P = IsEventIfFew nodes event in
    either P (bytes_eq word (codes "up")) _ _ _ h (up_range nodes fields event) λ h.
    either P (bytes_eq word (codes "crash")) _ _ _ h (crash_range nodes fields event) λ h.
    either P (bytes_eq word (codes "stop")) _ _ _ h (stop_range nodes fields event) λ h.
    either P (bytes_eq word (codes "held")) _ _ _ h (held_range nodes fields event) λ h.
    either P (bytes_eq word (codes "show")) _ _ _ h (show_range nodes fields event) λ h.
    either P (bytes_eq word (codes "settle")) _ _ _ h (λ h. subst (IsEventIfFew nodes) (is_alone Settle fields event h) λ few. tt) λ h.
    either P (bytes_eq word (codes "heal")) _ _ _ h (λ h. subst (IsEventIfFew nodes) (is_alone Heal fields event h) λ few. tt) λ h.
    alone_range nodes word fields event h
