-- The measures in the lines of a text.
use Rattle.std.specs.Prelude.{◌≡◌, ◌≢◌, ℕ, ◌+◌, ◌-◌, ◌^◌, ◌≤◌, ◌==◌, min, if◌then◌else◌, Result, Ok, Err, List, [], ◌∷◌, ◌++◌, Vec}
use Rattle.std.specs.Str.Lines.{lines}
use Rattle.std.specs.declared.alloc.Global.{Global}
use Rattle.oc_base.specs.Steps.{◌>>=◌, map_fault}
use Rattle.oc_base.specs.Words.{words, four, number_in, node_in}
use Rattle.oc_base.specs.declared.limits.TheConstants.{MAX_RATE, MAX_HOPS}
use Rattle.oc_base.specs.declared.why.Why.{Why}
use Rattle.oc_base.specs.declared.why.Why.TheVariants.{Range}
use Rattle.oc_updown.specs.declared.measure_fault.MeasureFault.{MeasureFault}
use Rattle.oc_updown.specs.declared.measure_fault.MeasureFault.TheVariants.{Line, Memory}
use Rattle.oc_updown.specs.declared.measure_lines.Measure.{Measure}

-- a measure between two different nodes of the network, with a rate within the limit
pub record IsMeasure (nodes : ℕ) (m : Measure) : Type 0 where
  pub from : (1 ≤ m.from) × (m.from ≤ nodes)
  pub peer : (1 ≤ m.peer) × (m.peer ≤ nodes)
  pub other : m.peer ≢ m.from
  pub rate : m.rate ≤ MAX_RATE

-- the id in a field, of a node other than `from`
abbrev pub peer_in : ℕ → ℕ → List ℕ → Result ℕ Why
peer_in nodes from field = do
  peer ← node_in nodes field
  if peer == from then Err Range else Ok peer

-- the measure of a line `FROM PEER RATE HOPS`
abbrev pub measure_in : ℕ → List (List ℕ) → Result Measure Why
measure_in nodes fields = do
  (f, p, r, h) ← four fields
  from ← node_in nodes f
  peer ← peer_in nodes from p
  rate ← number_in 0 MAX_RATE r
  hops ← number_in 0 MAX_HOPS h
  Ok (record { from = from; peer = peer; rate = rate; hops = hops })

-- the value, or the cause with the number of the line
abbrev pub at_line : {A : Type 0} → ℕ → Result A Why → Result A MeasureFault
at_line i r = map_fault (λ why. Line i why) r

-- the measures with that of one more line; an empty line adds none
abbrev pub with_measure : ℕ → ℕ → List Measure → List (List ℕ) → Result (List Measure) MeasureFault
with_measure nodes i so_far [] = Ok so_far
with_measure nodes i so_far (word ∷ fields) = do
  measure ← at_line i (measure_in nodes (word ∷ fields))
  Ok (so_far ++ measure ∷ [])

-- the number of the next line; it stays at the greatest number of 32 bits
abbrev pub next_line : ℕ → ℕ
next_line i = min (i + 1) (2 ^ 32 - 1)

-- the measures with those of these lines, from this number on
abbrev pub with_measures : ℕ → ℕ → List Measure → List (List ℕ) → Result (List Measure) MeasureFault
with_measures nodes i so_far [] = Ok so_far
with_measures nodes i so_far (line ∷ rest) = do
  next ← with_measure nodes i so_far (words line)
  with_measures nodes (next_line i) next rest

-- the measures of a text, or its first fault
abbrev pub measures_in : ℕ → List ℕ → Result (List Measure) MeasureFault
measures_in nodes text = with_measures nodes 1 [] (lines text)

-- a call gives these measures, except that memory may run out
abbrev pub Gives : Result (Vec Measure Global) MeasureFault → Result (List Measure) MeasureFault → Type 0
Gives (Ok measures) said = said ≡ Ok measures.items
Gives (Err (Line i why)) said = said ≡ Err (Line i why)
Gives (Err Memory) said = Unit {0}

-- the same for one more line
abbrev pub PutsMeasure : ℕ → ℕ → List Measure → List Measure → List (List ℕ) → Result (Unit {0}) MeasureFault → Type 0
PutsMeasure nodes number old new fields (Ok done) = with_measure nodes number old fields ≡ Ok new
PutsMeasure nodes number old new fields (Err (Line i why)) = with_measure nodes number old fields ≡ Err (Line i why)
PutsMeasure nodes number old new fields (Err Memory) = Unit {0}
