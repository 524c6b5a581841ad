-- The meaning of a text as records: its lines, one after another.
use Rattle.std.specs.Prelude.{◌≡◌, ℕ, ◌+◌, ◌-◌, Bool, true, false, not, ◌&&◌, ◌||◌, ◌==◌, nat_lt, if◌then◌else◌, Option, Some, None, Result, Ok, Err, List, [], ◌∷◌, ◌++◌, length, slice_index, slice_set, codes}
use Rattle.std.specs.Str.{byte, bytes_eq}
use Rattle.std.specs.Str.Lines.{lines}
use Rattle.oc_base.specs.Steps.{◌>>=◌, map_fault}
use Rattle.oc_base.specs.Words.{words}
use Rattle.oc_base.specs.declared.why.Why.{Why}
use Rattle.oc_base.specs.declared.why.Why.TheVariants as causes
use Rattle.oc_model.specs.Node.{Header}
use Rattle.oc_schedule.specs.Lines.{header_in, area_in, node_alone_in}
use Rattle.oc_merge.specs.declared.fault.Cause.{Cause}
use Rattle.oc_merge.specs.declared.fault.Cause.TheVariants.{Said, Areas}
use Rattle.oc_merge.specs.declared.fault.RecordsFault.{RecordsFault}
use Rattle.oc_merge.specs.declared.fault.RecordsFault.TheVariants.{Line, Limit, Memory}
use Rattle.oc_merge.specs.declared.fault.Most.TheVariants as limits
use Rattle.oc_merge.specs.declared.fault.TheConstants.{MAX_RECORD_LINES, MAX_RECORD_BYTES, MAX_RECORD_PUBLISHED}
use Rattle.oc_merge.specs.declared.place.Place.{Place}
use Rattle.oc_merge.specs.declared.place.Place.TheVariants.{Outside, Opened, Begun, Within}
use Rattle.oc_merge.specs.declared.told.Told.{Told}
use Rattle.oc_merge.specs.declared.told.Told.TheVariants.{Started}
use Rattle.oc_merge.specs.declared.told.ToldLine.{ToldLine}
use Rattle.oc_merge.specs.Lines.{is_cut_off, is_comment, is_note, files_in, told_in}
use Rattle.oc_merge.specs.Told.{Records, published_in}

-- the state of the reading: the sizes of the first header, with the areas of the first header that
-- was followed by a start, and whether there was a start; the areas after the last header; the
-- place between the lines; and the statements of the lines
pub record Reading : Type 0 where
  pub header : Option Header
  pub started : Bool
  pub areas : List ℕ
  pub place : Place
  pub lines : List ToldLine

abbrev pub nothing_read : Reading
nothing_read = record { header = None; started = false; areas = []; place = Outside; lines = [] }

abbrev pub nodes_of : Option Header → ℕ
nodes_of None = 0
nodes_of (Some h) = h.nodes

-- a cause that schedules have too
abbrev pub because : {A : Type 0} → Result A Why → Result A Cause
because r = map_fault (λ why. Said why) r

-- Headers and areas

-- the header of the network, where a further one has its numbers
abbrev pub agreed : Option Header → Header → Result Header Why
agreed None h = Ok h
agreed (Some first) h = if first.nodes == h.nodes && first.chain == h.chain && first.chunk == h.chunk then Ok first else Err causes.Header

-- a line that opens a record
abbrev pub after_header : Reading → List (List ℕ) → Result Reading Why
after_header r words = do
  h ← header_in words
  first ← agreed r.header h
  Ok (record r { header = Some first; areas = h.areas; place = Opened })

-- a line `area N A` after it
abbrev pub after_area : Reading → List (List ℕ) → Result Reading Why
after_area r fields = do
  (node, area) ← area_in (nodes_of r.header) fields
  Ok (record r { areas = slice_set r.areas (node - 1) area })

-- Starts

abbrev pub with_areas : List ℕ → Option Header → Option Header
with_areas areas None = None
with_areas areas (Some h) = Some (record h { areas = areas })

abbrev pub has_areas : List ℕ → Option Header → Bool
has_areas areas None = false
has_areas areas (Some h) = bytes_eq areas h.areas

-- one more line with this statement about the node
abbrev pub tells : Reading → ℕ → ℕ → Told → Reading
tells r i node told = record r { lines = r.lines ++ record { number = i; node = node; told = told } ∷ [] }

-- the first start of all: its areas are those of the network
abbrev pub begun : Reading → Reading
begun r = record r { header = with_areas r.areas r.header; started = true }

-- the line of a start
abbrev pub started_at : Reading → ℕ → ℕ → Reading
started_at r i node = tells (record r { place = Begun node }) i node (Started None)

-- the start of a node: the areas are those of the first record
abbrev pub starts : Reading → ℕ → ℕ → Result Reading Cause
starts r i node =
    if not r.started then Ok (started_at (begun r) i node)
    else if has_areas r.areas r.header then Ok (started_at r i node)
    else Err Areas

-- a line `up N`
abbrev pub after_up : Reading → ℕ → List (List ℕ) → Result Reading Cause
after_up r i fields = do
  node ← because (node_alone_in (nodes_of r.header) fields)
  starts r i node

-- a start that found these files
abbrev pub with_digits : List ℕ → Told → Told
with_digits digits (Started files) = Started (Some digits)
with_digits digits told = told

-- the lines, with these digits in the last one if it is a start
abbrev pub with_files : List ℕ → List ToldLine → List ToldLine
with_files digits [] = []
with_files digits (l ∷ []) = record l { told = with_digits digits l.told } ∷ []
with_files digits (l ∷ ls) = l ∷ with_files digits ls

-- a comment, which may tell the files of the start before it
abbrev pub after_files : Reading → ℕ → Option (List ℕ) → Reading
after_files r node None = r
after_files r node (Some digits) = record r { place = Within node; lines = with_files digits r.lines }

abbrev pub after_comment : Place → Reading → List ℕ → Reading
after_comment (Begun node) r line = after_files r node (files_in node line)
after_comment place r line = r

-- Lines of a record

abbrev pub after_told : Reading → ℕ → ℕ → List ℕ → List (List ℕ) → Result Reading Why
after_told r me i word fields = do
  told ← told_in (nodes_of r.header) me word fields
  Ok (tells (record r { place = Within me }) i me told)

-- a line in the record of `me`
abbrev pub after_inside : Reading → ℕ → ℕ → List ℕ → List (List ℕ) → Result Reading Why
after_inside r me i word fields =
    if is_note word then Ok (record r { place = Within me })
    else if bytes_eq word (codes "overcast") then after_header r (word ∷ fields)
    else after_told r me i word fields

-- a line after a header
abbrev pub after_opening : Reading → ℕ → List ℕ → List (List ℕ) → Result Reading Cause
after_opening r i word fields =
    if bytes_eq word (codes "overcast") then because (after_header r (word ∷ fields))
    else if bytes_eq word (codes "area") then because (after_area r fields)
    else if bytes_eq word (codes "up") then after_up r i fields
    else Err (Said causes.Word)

-- a line that is not skipped, of this number, by its place
abbrev pub after_words : Place → Reading → ℕ → List ℕ → List (List ℕ) → Result Reading Cause
after_words Outside r i word fields = because (after_header r (word ∷ fields))
after_words Opened r i word fields = after_opening r i word fields
after_words (Begun me) r i word fields = because (after_inside r me i word fields)
after_words (Within me) r i word fields = because (after_inside r me i word fields)

-- The text

-- a cause, at this line
abbrev pub at_line : {A : Type 0} → ℕ → Result A Cause → Result A RecordsFault
at_line i r = map_fault (λ cause. Line i cause) r

-- the limit on the bytes that all lines publish
abbrev pub within_limits : Reading → Result Reading RecordsFault
within_limits r = if nat_lt MAX_RECORD_PUBLISHED (published_in r.lines) then Err (Limit limits.Published) else Ok r

-- the state of the reading, if no limit is exceeded
abbrev pub limited : Result Reading RecordsFault → Result Reading RecordsFault
limited read = read >>= within_limits

-- a line that is not skipped: its cause, and after it that limit
abbrev pub read_statement : ℕ → Reading → List ℕ → List (List ℕ) → Result Reading RecordsFault
read_statement i r word fields = limited (at_line i (after_words r.place r i word fields))

-- a line of these words
abbrev pub read_words : ℕ → Reading → List ℕ → List (List ℕ) → Result Reading RecordsFault
read_words i r line [] = Ok r
read_words i r line (word ∷ fields) = if is_comment word then Ok (after_comment r.place r line) else read_statement i r word fields

-- reads the line of this number, given whether it is complete; the limit on lines comes first
abbrev pub read_line : ℕ → Bool → Reading → List ℕ → Result Reading RecordsFault
read_line i whole r line =
    if nat_lt MAX_RECORD_LINES i then Err (Limit limits.Lines)
    else if not whole || is_cut_off line then Ok r
    else read_words i r line (words line)

-- the end of the text: without a header the line after the last is refused
abbrev pub records_at_end : ℕ → Option Header → List ToldLine → Result Records RecordsFault
records_at_end i None told = Err (Line i (Said causes.Header))
records_at_end i (Some h) told = Ok (record { header = h; lines = told })

abbrev pub is_none : List (List ℕ) → Bool
is_none [] = true
is_none (line ∷ rest) = false

-- the lines from this number on; all but the last are whole, and the last is where the text ends with a line's end
abbrev pub read_lines : ℕ → Bool → Reading → List (List ℕ) → Result Records RecordsFault
read_lines i ended r [] = records_at_end i r.header r.lines
read_lines i ended r (line ∷ rest) = do
  next ← read_line i (ended || not (is_none rest)) r line
  read_lines (i + 1) ended next rest

-- whether a text ends with a line's end
abbrev pub is_ended : List ℕ → Bool
is_ended bytes = slice_index bytes (length bytes - 1) == byte "\n"

-- the records that a text is, or its first fault
abbrev pub records_of : List ℕ → Result Records RecordsFault
records_of bytes =
    if nat_lt MAX_RECORD_BYTES (length bytes) then Err (Limit limits.Bytes)
    else read_lines 1 (is_ended bytes) nothing_read (lines bytes)

-- The link between code and definition: the view of a call's result is that of the definition,
-- unless memory ran out
abbrev pub GivesBy : {X A : Type 0} → (X → A) → Result X RecordsFault → Result A RecordsFault → Type 0
GivesBy view (Ok x) read = read ≡ Ok (view x)
GivesBy view (Err (Line i cause)) read = read ≡ Err (Line i cause)
GivesBy view (Err (Limit most)) read = read ≡ Err (Limit most)
GivesBy view (Err Memory) read = Unit {0}

abbrev pub Gives : {A : Type 0} → Result A RecordsFault → Result A RecordsFault → Type 0
Gives = GivesBy (λ x. x)
