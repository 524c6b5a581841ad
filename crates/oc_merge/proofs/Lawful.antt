-- Records that are read are within their ranges.
use Rattle.std.proofs.Common.{◌≡◌, ℕ, ◌+◌, ◌-◌, ◌≤◌, ◌&&◌, ◌||◌, ◌==◌, not, nat_lt, Bool, Option, Some, None, Result, Ok, Err, IfOk, List, [], ◌∷◌, ◌++◌, length, inl, inr, ◌∙◌, refl, sym, subst, arith, codes, length-append, slice_set}
use Rattle.std.specs.List.{AllByRecursion}
use Rattle.std.specs.Str.{bytes_eq}
use Rattle.std.proofs.Math.ListN.{length-set}
use Rattle.std.proofs.lemmas.Bool.{and_parts, eqb-true}
use Rattle.std.proofs.lemmas.Bool.Decides.{nat_tests}
use Rattle.oc_base.specs.Lawful.{IsNode}
use Rattle.oc_base.specs.Steps.{map_fault, with_fault}
use Rattle.oc_base.specs.Words.{one, two, node_in, words}
use Rattle.oc_base.specs.declared.limits.TheConstants.{MAX_AREA, MAX_PUBLISH_BYTES}
use Rattle.oc_base.specs.declared.why.Why.TheVariants as causes
use Rattle.oc_model.specs.declared.event.Act.{Act}
use Rattle.oc_model.specs.declared.event.Act.TheVariants.{At, Deliver}
use Rattle.oc_model.specs.declared.input.Input.{Input}
use Rattle.oc_model.specs.declared.input.Input.TheVariants.{Publish}
use Rattle.oc_model.specs.Lawful.{IsGiven, IsHeader}
use Rattle.oc_model.specs.Node.{Header}
use Rattle.hex.specs.Hex.{decode_of}
use Rattle.oc_schedule.specs.Acts.{act_in, bytes_of_act}
use Rattle.oc_schedule.specs.Lines.{header_in, area_in, node_alone_in}
use Rattle.oc_schedule.proofs.ActRanges.{act_range, number_range}
use Rattle.oc_schedule.proofs.Ranges.{area_range, header_range, set_keeps_areas}
use Rattle.oc_schedule.proofs.Steps.{steps, chosen, behind_guard, within_guard}
use Rattle.oc_merge.specs.declared.fault.Cause.TheVariants.{Said, Areas}
use Rattle.oc_merge.specs.declared.fault.Most.TheVariants as limits
use Rattle.oc_merge.specs.declared.fault.RecordsFault.{RecordsFault}
use Rattle.oc_merge.specs.declared.fault.RecordsFault.TheVariants.{Line, Limit}
use Rattle.oc_merge.specs.declared.fault.TheConstants.{MAX_RECORD_LINES, MAX_RECORD_PUBLISHED}
use Rattle.oc_merge.specs.declared.place.Place.{Place}
use Rattle.oc_merge.specs.declared.place.Place.TheVariants.{Outside, Opened, Begun, Within}
use Rattle.oc_merge.specs.declared.told.Told.{Told}
use Rattle.oc_merge.specs.declared.told.Told.TheVariants.{Started, Came, Took}
use Rattle.oc_merge.specs.declared.told.ToldLine.{ToldLine}
use Rattle.oc_merge.specs.Lines.{came_in, files_in, is_comment, is_cut_off, is_note, is_recorded, of_own, own_input, told_in, took_in}
use Rattle.oc_merge.specs.Reading.{Gives, Reading, after_area, after_comment, after_files, after_header, after_inside, after_opening, after_told, after_up, after_words, agreed, at_line, because, begun, with_digits, has_areas, is_none, nodes_of, nothing_read, read_line, read_lines, read_statement, read_words, records_at_end, started_at, starts, tells, with_areas, with_files}
use Rattle.oc_merge.specs.Records.{AreRecords, IsLine, IsTold}
use Rattle.oc_merge.specs.Told.{Records, published_by, published_in}

-- What a line tells

said : {A E F : Type 0} (f : E → F) (r : Result A E) (x : A) → map_fault f r ≡ Ok x → r ≡ Ok x
said f (Ok y) x h = cc h
said f (Err e) x h = absurd (cc h)

own_range : (nodes me node : ℕ) (t u : Told) → IsNode nodes node → IsTold nodes node t → of_own me node t ≡ Ok u → IsNode nodes me × IsTold nodes me u
own_range nodes me node t u is lawful h =
    let own = within_guard (node == me) causes.Word (Ok t) u h in
    let same : t ≡ u = cc own.1 in
    let here : node ≡ me = eqb-true node me own.0 in
    (subst (IsNode nodes) here is, subst (IsTold nodes me) same (subst (λ (x : ℕ). IsTold nodes x t) here lawful))

came_range : (nodes me : ℕ) (fields : List (List ℕ)) (u : Told) → came_in nodes me fields ≡ Ok u → IsNode nodes me × IsTold nodes me u
came_range nodes me fields u h =
    steps (two fields) _ _ h λ f is_two then.
    steps (node_in nodes f.0) _ _ then λ node is_node then.
    steps (with_fault causes.Hex (decode_of f.1)) _ _ then λ bytes is_hex end.
    own_range nodes me node (Came bytes) u (number_range 1 nodes f.0 node is_node) tt end

few_published : (node : ℕ) (i : Input) → published_by (Took i) ≤ 1000000 → bytes_of_act (At node i) ≤ 1000000
few_published node (Publish group bytes) few = few
few_published node i few = omega arith

input_range : (nodes me : ℕ) (word : List ℕ) (fields : List (List ℕ)) (act : Act) (u : Told) → act_in nodes word fields ≡ Ok act → own_input me act ≡ Ok u → IsNode nodes me × IsTold nodes me u
input_range nodes me word fields (At node i) u is_act h =
    let few = behind_guard (nat_lt MAX_PUBLISH_BYTES (published_by (Took i))) causes.Range (of_own me node (Took i)) u h in
    let within : published_by (Took i) ≤ 1000000 = grind (arith, nat_tests) in
    let lawful : IsNode nodes node × IsGiven nodes node i = act_range nodes word fields (At node i) is_act (few_published node i within) in
    own_range nodes me node (Took i) u lawful.0 lawful.1 few.1
input_range nodes me word fields (Deliver number) u is_act h = absurd (cc h)

told_range : (nodes me : ℕ) (word : List ℕ) (fields : List (List ℕ)) (u : Told) → told_in nodes me word fields ≡ Ok u → IsNode nodes me × IsTold nodes me u
told_range nodes me word fields u h = elim (chosen (bytes_eq word (codes "recv")) _ _ _ h) [
  | inl came ↦ came_range nodes me fields u came.1
  | inr other ↦
      let took = within_guard (is_recorded word) causes.Word (took_in nodes me word fields) u other.1 in
      steps (act_in nodes word fields) _ _ took.1 λ act is_act end. input_range nodes me word fields act u is_act end
]

-- What was read so far

abbrev IsHeaderIfAny : Option Header → Type 0
IsHeaderIfAny None = Unit {0}
IsHeaderIfAny (Some h) = IsHeader h

-- before the line of this number
record IsBefore (i : ℕ) (r : Reading) : Type 0 where
  header : IsHeaderIfAny r.header
  sized : length r.areas ≡ nodes_of r.header
  areas : AllByRecursion (λ a. a ≤ MAX_AREA) r.areas
  lines : AllByRecursion (IsLine (nodes_of r.header)) r.lines
  few : length r.lines + 1 ≤ i

later : (i : ℕ) (r : Reading) → IsBefore i r → IsBefore (i + 1) r
later i r b = record { header = b.header; sized = b.sized; areas = b.areas; lines = b.lines; few = omega (arith, b.few) }

all_push : (P : ToldLine → Type 0) (ls : List ToldLine) (l : ToldLine) → AllByRecursion P ls → P l → AllByRecursion P (ls ++ l ∷ [])
all_push P [] l all last = (last, all)
all_push P (k ∷ ks) l all last = (all.0, all_push P ks l all.1 last)

-- no line was told before the first header
all_of_none : (nodes : ℕ) (ls : List ToldLine) → AllByRecursion (IsLine 0) ls → AllByRecursion (IsLine nodes) ls
all_of_none nodes [] all = all
all_of_none nodes (l ∷ ls) all = absurd (omega (arith, all.0.0.0, all.0.0.1))

record Agrees (first : Option Header) (h found : Header) : Type 0 where
  header : IsHeader found
  nodes : found.nodes ≡ h.nodes
  lines : (ls : List ToldLine) → AllByRecursion (IsLine (nodes_of first)) ls → AllByRecursion (IsLine found.nodes) ls

agreed_range : (first : Option Header) (h found : Header) → IsHeaderIfAny first → IsHeader h → agreed first h ≡ Ok found → Agrees first h found
agreed_range None h found first is e =
    let same : h ≡ found = cc e in
    subst (Agrees None h) same (record { header = is; nodes = refl; lines = λ ls all. all_of_none h.nodes ls all })
agreed_range (Some k) h found first is e =
    let test = within_guard (k.nodes == h.nodes && k.chain == h.chain && k.chunk == h.chunk) causes.Header (Ok k) found e in
    let same : k ≡ found = cc test.1 in
    let nodes : k.nodes ≡ h.nodes = eqb-true k.nodes h.nodes (and_parts (k.nodes == h.nodes) (k.chain == h.chain) (and_parts (k.nodes == h.nodes && k.chain == h.chain) (k.chunk == h.chunk) test.0).0).0 in
    subst (Agrees (Some k) h) same (record { header = first; nodes = nodes; lines = λ ls all. all })

header_keeps : (i : ℕ) (r : Reading) (ws : List (List ℕ)) (t : Reading) → IsBefore i r → after_header r ws ≡ Ok t → IsBefore (i + 1) t
header_keeps i r ws t b e =
    steps (header_in ws) _ _ e λ h is_header then.
    steps (agreed r.header h) _ _ then λ first is_first end.
    let same : record r { header = Some first; areas = h.areas; place = Opened } ≡ t = cc end in
    let is : IsHeader h = header_range ws h is_header in
    let agrees : Agrees r.header h first = agreed_range r.header h first b.header is is_first in
    subst (IsBefore (i + 1)) same (record { header = agrees.header; sized = is.areas ∙ sym agrees.nodes; areas = is.bytes; lines = agrees.lines r.lines b.lines; few = omega (arith, b.few) })

area_keeps : (i : ℕ) (r : Reading) (fields : List (List ℕ)) (t : Reading) → IsBefore i r → after_area r fields ≡ Ok t → IsBefore (i + 1) t
area_keeps i r fields t b e =
    steps (area_in (nodes_of r.header) fields) _ _ e λ area is_area end.
    let same : record r { areas = slice_set r.areas (area.0 - 1) area.1 } ≡ t = cc end in
    subst (IsBefore (i + 1)) same (record {
      header = b.header;
      sized = length-set r.areas (area.0 - 1) area.1 ∙ b.sized;
      areas = set_keeps_areas r.areas (area.0 - 1) area.1 b.areas (area_range (nodes_of r.header) fields area is_area).1;
      lines = b.lines;
      few = omega (arith, b.few);
    })

tells_keeps : (i : ℕ) (r : Reading) (node : ℕ) (told : Told) → IsBefore i r → IsNode (nodes_of r.header) node → IsTold (nodes_of r.header) node told → IsBefore (i + 1) (tells r i node told)
tells_keeps i r node told b is lawful = record {
  header = b.header;
  sized = b.sized;
  areas = b.areas;
  lines = all_push (IsLine (nodes_of r.header)) r.lines (record { number = i; node = node; told = told }) b.lines (is, lawful);
  few = omega (arith, b.few, length-append r.lines (record { number = i; node = node; told = told } ∷ []));
}

with_areas_range : (areas : List ℕ) (first : Option Header) → IsHeaderIfAny first → length areas ≡ nodes_of first → AllByRecursion (λ a. a ≤ MAX_AREA) areas → IsHeaderIfAny (with_areas areas first)
with_areas_range areas None is sized all = tt
with_areas_range areas (Some h) is sized all = record { some = is.some; few = is.few; chain = is.chain; short = is.short; within = is.within; chunk = is.chunk; fits = is.fits; areas = sized; bytes = all }

same_nodes : (areas : List ℕ) (first : Option Header) → nodes_of first ≡ nodes_of (with_areas areas first)
same_nodes areas None = refl
same_nodes areas (Some h) = refl

start_keeps : (i : ℕ) (r : Reading) (node : ℕ) → IsBefore i r → IsNode (nodes_of r.header) node → IsBefore (i + 1) (started_at r i node)
start_keeps i r node b is = tells_keeps i (record r { place = Begun node }) node (Started None) (record { header = b.header; sized = b.sized; areas = b.areas; lines = b.lines; few = b.few }) is tt

starts_keeps : (i : ℕ) (r : Reading) (node : ℕ) (t : Reading) → IsBefore i r → IsNode (nodes_of r.header) node → starts r i node ≡ Ok t → IsBefore (i + 1) t
starts_keeps i r node t b is e = elim (chosen (not r.started) _ _ _ e) [
  | inl first ↦
      let same : started_at (begun r) i node ≡ t = cc first.1 in
      let nodes : nodes_of r.header ≡ nodes_of (with_areas r.areas r.header) = same_nodes r.areas r.header in
      let before : IsBefore i (begun r) = record {
        header = with_areas_range r.areas r.header b.header b.sized b.areas;
        sized = b.sized ∙ nodes;
        areas = b.areas;
        lines = subst (λ (n : ℕ). AllByRecursion (IsLine n) r.lines) nodes b.lines;
        few = b.few;
      } in
      subst (IsBefore (i + 1)) same (start_keeps i (begun r) node before (subst (λ (n : ℕ). IsNode n node) nodes is))
  | inr other ↦
      let again = within_guard (has_areas r.areas r.header) Areas (Ok (started_at r i node)) t other.1 in
      let same : started_at r i node ≡ t = cc again.1 in
      subst (IsBefore (i + 1)) same (start_keeps i r node b is)
]

up_keeps : (i : ℕ) (r : Reading) (fields : List (List ℕ)) (t : Reading) → IsBefore i r → after_up r i fields ≡ Ok t → IsBefore (i + 1) t
up_keeps i r fields t b e =
    steps (because (node_alone_in (nodes_of r.header) fields)) _ _ e λ node is_node end.
    steps (one fields) _ _ (said (λ why. Said why) (node_alone_in (nodes_of r.header) fields) node is_node) λ n is_one is_number.
    starts_keeps i r node t b (number_range 1 (nodes_of r.header) n node is_number) end

told_keeps : (i : ℕ) (r : Reading) (me : ℕ) (word : List ℕ) (fields : List (List ℕ)) (t : Reading) → IsBefore i r → after_told r me i word fields ≡ Ok t → IsBefore (i + 1) t
told_keeps i r me word fields t b e =
    steps (told_in (nodes_of r.header) me word fields) _ _ e λ told is_told end.
    let inside : Reading = record r { place = Within me } in
    let same : tells inside i me told ≡ t = cc end in
    let before : IsBefore i inside = record { header = b.header; sized = b.sized; areas = b.areas; lines = b.lines; few = b.few } in
    let range = told_range (nodes_of r.header) me word fields told is_told in
    subst (IsBefore (i + 1)) same (tells_keeps i inside me told before range.0 range.1)

inside_keeps : (i : ℕ) (r : Reading) (me : ℕ) (word : List ℕ) (fields : List (List ℕ)) (t : Reading) → IsBefore i r → after_inside r me i word fields ≡ Ok t → IsBefore (i + 1) t
inside_keeps i r me word fields t b e = elim (chosen (is_note word) _ _ _ e) [
  | inl note ↦
      let same : record r { place = Within me } ≡ t = cc note.1 in
      subst (IsBefore (i + 1)) same (record { header = b.header; sized = b.sized; areas = b.areas; lines = b.lines; few = omega (arith, b.few) })
  | inr other ↦ elim (chosen (bytes_eq word (codes "overcast")) _ _ _ other.1) [
    | inl header ↦ header_keeps i r (word ∷ fields) t b header.1
    | inr told ↦ told_keeps i r me word fields t b told.1
  ]
]

opening_keeps : (i : ℕ) (r : Reading) (word : List ℕ) (fields : List (List ℕ)) (t : Reading) → IsBefore i r → after_opening r i word fields ≡ Ok t → IsBefore (i + 1) t
opening_keeps i r word fields t b e = elim (chosen (bytes_eq word (codes "overcast")) _ _ _ e) [
  | inl header ↦ header_keeps i r (word ∷ fields) t b (said (λ why. Said why) (after_header r (word ∷ fields)) t header.1)
  | inr other ↦ elim (chosen (bytes_eq word (codes "area")) _ _ _ other.1) [
    | inl area ↦ area_keeps i r fields t b (said (λ why. Said why) (after_area r fields) t area.1)
    | inr up ↦ up_keeps i r fields t b (within_guard (bytes_eq word (codes "up")) (Said causes.Word) (after_up r i fields) t up.1).1
  ]
]

words_keep : (i : ℕ) (place : Place) (r : Reading) (word : List ℕ) (fields : List (List ℕ)) (t : Reading) → IsBefore i r → after_words place r i word fields ≡ Ok t → IsBefore (i + 1) t
words_keep i Outside r word fields t b e = header_keeps i r (word ∷ fields) t b (said (λ why. Said why) (after_header r (word ∷ fields)) t e)
words_keep i Opened r word fields t b e = opening_keeps i r word fields t b e
words_keep i (Begun me) r word fields t b e = inside_keeps i r me word fields t b (said (λ why. Said why) (after_inside r me i word fields) t e)
words_keep i (Within me) r word fields t b e = inside_keeps i r me word fields t b (said (λ why. Said why) (after_inside r me i word fields) t e)

-- Comments

digits_told : (nodes x : ℕ) (digits : List ℕ) (t : Told) → IsTold nodes x t → IsTold nodes x (with_digits digits t)
digits_told nodes x digits (Started files) is = tt
digits_told nodes x digits (Came bytes) is = is
digits_told nodes x digits (Took i) is = is

files_lines : (nodes : ℕ) (digits : List ℕ) (ls : List ToldLine) → AllByRecursion (IsLine nodes) ls → AllByRecursion (IsLine nodes) (with_files digits ls)
files_lines nodes digits [] all = all
files_lines nodes digits (l ∷ []) all = ((all.0.0, digits_told nodes l.node digits l.told all.0.1), all.1)
files_lines nodes digits (l ∷ k ∷ ks) all = (all.0, files_lines nodes digits (k ∷ ks) all.1)

files_length : (digits : List ℕ) (ls : List ToldLine) → length (with_files digits ls) ≡ length ls
files_length digits [] = refl
files_length digits (l ∷ []) = refl
files_length digits (l ∷ k ∷ ks) = omega (arith, files_length digits (k ∷ ks))

files_keep : (i : ℕ) (r : Reading) (node : ℕ) (found : Option (List ℕ)) → IsBefore i r → IsBefore (i + 1) (after_files r node found)
files_keep i r node None b = later i r b
files_keep i r node (Some digits) b = record {
  header = b.header;
  sized = b.sized;
  areas = b.areas;
  lines = files_lines (nodes_of r.header) digits r.lines b.lines;
  few = omega (arith, b.few, files_length digits r.lines);
}

comment_keeps : (i : ℕ) (place : Place) (r : Reading) (line : List ℕ) → IsBefore i r → IsBefore (i + 1) (after_comment place r line)
comment_keeps i (Begun node) r line b = files_keep i r node (files_in node line) b
comment_keeps i Outside r line b = later i r b
comment_keeps i Opened r line b = later i r b
comment_keeps i (Within me) r line b = later i r b

-- The text

statement_keeps : (i : ℕ) (r : Reading) (word : List ℕ) (fields : List (List ℕ)) (t : Reading) → IsBefore i r → read_statement i r word fields ≡ Ok t → IsBefore (i + 1) t
statement_keeps i r word fields t b e =
    steps (at_line i (after_words r.place r i word fields)) _ _ e λ next is_next then.
    let within = behind_guard (nat_lt MAX_RECORD_PUBLISHED (published_in next.lines)) (Limit limits.Published) (Ok next) t then in
    let same : next ≡ t = cc within.1 in
    subst (IsBefore (i + 1)) same (words_keep i r.place r word fields next b (said (λ cause. Line i cause) (after_words r.place r i word fields) next is_next))

read_keeps : (i : ℕ) (r : Reading) (line : List ℕ) (ws : List (List ℕ)) (t : Reading) → IsBefore i r → read_words i r line ws ≡ Ok t → IsBefore (i + 1) t
read_keeps i r line [] t b e =
    let same : r ≡ t = cc e in
    subst (IsBefore (i + 1)) same (later i r b)
read_keeps i r line (word ∷ fields) t b e = elim (chosen (is_comment word) _ _ _ e) [
  | inl comment ↦
      let same : after_comment r.place r line ≡ t = cc comment.1 in
      subst (IsBefore (i + 1)) same (comment_keeps i r.place r line b)
  | inr statement ↦ statement_keeps i r word fields t b statement.1
]

line_keeps : (i : ℕ) (whole : Bool) (r : Reading) (line : List ℕ) (t : Reading) → IsBefore i r → read_line i whole r line ≡ Ok t → (i ≤ MAX_RECORD_LINES) × IsBefore (i + 1) t
line_keeps i whole r line t b e =
    let few = behind_guard (nat_lt MAX_RECORD_LINES i) (Limit limits.Lines) _ t e in
    let among : i ≤ MAX_RECORD_LINES = grind (arith, nat_tests) in
    elim (chosen (not whole || is_cut_off line) _ _ _ few.1) [
      | inl skipped ↦
          let same : r ≡ t = cc skipped.1 in
          (among, subst (IsBefore (i + 1)) same (later i r b))
      | inr read ↦ (among, read_keeps i r line (words line) t b read.1)
    ]

lines_range : (i : ℕ) (ended : Bool) (r : Reading) (ls : List (List ℕ)) (found : Records) → i ≤ MAX_RECORD_LINES + 1 → IsBefore i r → read_lines i ended r ls ≡ Ok found → AreRecords found
lines_range i ended r [] found upto b e = at_end r.header refl where
  at_end : (first : Option Header) → r.header ≡ first → AreRecords found
  at_end None none =
      let other : records_at_end i None r.lines ≡ Ok found = subst (λ (h : Option Header). records_at_end i h r.lines ≡ Ok found) none e in
      absurd (cc other)
  at_end (Some h) some =
      let whole : records_at_end i (Some h) r.lines ≡ Ok found = subst (λ (first : Option Header). records_at_end i first r.lines ≡ Ok found) some e in
      let same : record { header = h; lines = r.lines } ≡ found = cc whole in
      subst AreRecords same (record {
        header = subst IsHeaderIfAny some b.header;
        lines = subst (λ (first : Option Header). AllByRecursion (IsLine (nodes_of first)) r.lines) some b.lines;
        few = omega (arith, b.few, upto);
      })
lines_range i ended r (line ∷ rest) found upto b e =
    steps (read_line i (ended || not (is_none rest)) r line) _ _ e λ next is_next then.
    let kept = line_keeps i (ended || not (is_none rest)) r line next b is_next in
    lines_range (i + 1) ended next rest found (omega (arith, kept.0)) kept.1 then

-- the result of a call for these lines is within its ranges
pub AreRecords-from_lines : (ended : Bool) (ls : List (List ℕ)) (r : Result Records RecordsFault) → Gives r (read_lines 1 ended nothing_read ls) → IfOk r AreRecords
AreRecords-from_lines ended ls (Ok found) h = lines_range 1 ended nothing_read ls found (omega arith) (record { header = tt; sized = refl; areas = tt; lines = tt; few = omega arith }) h
AreRecords-from_lines ended ls (Err fault) h = tt
