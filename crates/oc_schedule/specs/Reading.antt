use Rattle.std.specs.Prelude.{◌≡◌, ℕ, Result, Ok, Err}
use Rattle.oc_schedule.specs.declared.fault.LineFault.{LineFault}
use Rattle.oc_schedule.specs.declared.fault.LineFault.TheVariants as lines
use Rattle.oc_schedule.specs.declared.fault.ScheduleFault.{ScheduleFault}
use Rattle.oc_schedule.specs.declared.fault.ScheduleFault.TheVariants.{Line, Limit, Memory}
use Rattle.oc_base.specs.Steps.{map_fault}
use Rattle.oc_base.specs.declared.why.Why.{Why}

-- The result of reading: a function on lists gives a value or the first fault, and a call gives the same.

-- a cause as a fault of this line
abbrev pub at_line : {A : Type 0} → ℕ → Result A Why → Result A ScheduleFault
at_line i r = map_fault (λ why. Line i why) r

-- a call gave, seen by view, the result of the function, unless memory ran out
abbrev pub GivesBy : {X A : Type 0} → (X → A) → Result X ScheduleFault → Result A ScheduleFault → Type 0
GivesBy view (Ok x) read = read ≡ Ok (view x)
GivesBy view (Err (Line i why)) read = read ≡ Err (Line i why)
GivesBy view (Err (Limit what)) read = read ≡ Err (Limit what)
GivesBy view (Err Memory) read = Unit {0}

abbrev pub Gives : {A : Type 0} → Result A ScheduleFault → Result A ScheduleFault → Type 0
Gives = GivesBy (λ x. x)

-- a fault of the line of this number
abbrev pub fault_at : ℕ → LineFault → ScheduleFault
fault_at i (lines.Cause why) = Line i why
fault_at i lines.Memory = Memory

-- the same for one line, where the only fault is a cause
abbrev pub GivesLineBy : {X A : Type 0} → (X → A) → Result X LineFault → Result A Why → Type 0
GivesLineBy view (Ok x) read = read ≡ Ok (view x)
GivesLineBy view (Err (lines.Cause why)) read = read ≡ Err why
GivesLineBy view (Err lines.Memory) read = Unit {0}

abbrev pub GivesLine : {A : Type 0} → Result A LineFault → Result A Why → Type 0
GivesLine = GivesLineBy (λ x. x)
