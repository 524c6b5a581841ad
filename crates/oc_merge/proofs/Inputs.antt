-- A line of an input, with the reading before it.
use Rattle.std.proofs.Common.{◌≡◌, ℕ, Result, Ok, Err, List, ap, sym, subst, ◌∙◌}
use Rattle.oc_base.specs.Steps.{◌>>=◌}
use Rattle.oc_base.specs.declared.why.Why.{Why}
use Rattle.oc_schedule.specs.declared.fault.LineFault.{LineFault}
use Rattle.oc_schedule.specs.declared.fault.LineFault.TheVariants as lines_of
use Rattle.oc_schedule.specs.Reading.{GivesLine}
use Rattle.oc_merge.specs.declared.fault.Cause.TheVariants.{Said}
use Rattle.oc_merge.specs.declared.fault.RecordsFault.{RecordsFault}
use Rattle.oc_merge.specs.declared.fault.RecordsFault.TheVariants.{Line}
use Rattle.oc_merge.specs.declared.place.Place.TheVariants.{Within}
use Rattle.oc_merge.specs.declared.told.Told.{Told}
use Rattle.oc_merge.specs.Faults.{fault_at}
use Rattle.oc_merge.specs.Lines.{told_in}
use Rattle.oc_merge.specs.Reading.{GivesBy, Reading, after_told, at_line, because, limited, nodes_of, tells, within_limits}

-- the result of reading, by the statement of the line
abbrev read_on : Reading → ℕ → ℕ → Result Told Why → Result Reading RecordsFault
read_on r me i told = limited (at_line i (because (told >>= λ t. Ok (tells (record r { place = Within me }) i me t))))

-- an input line gives a statement
pub input_told : (r next : Reading) (me i nodes : ℕ) (word : List ℕ) (fields : List (List ℕ)) (told : Told) → told_in nodes me word fields ≡ Ok told → nodes ≡ nodes_of r.header
    → next ≡ record r { place = Within me } → within_limits (tells next i me told) ≡ limited (at_line i (because (after_told r me i word fields)))
input_told r next me i nodes word fields told is same on =
    let here : told_in (nodes_of r.header) me word fields ≡ Ok told = subst (λ (n : ℕ). told_in n me word fields ≡ Ok told) same is in
    ap (λ (n : Reading). within_limits (tells n i me told)) on ∙ sym (ap (read_on r me i) here)

-- an input line is refused
pub input_refused : (r : Reading) (me i nodes : ℕ) (word : List ℕ) (fields : List (List ℕ)) (why : Why) → told_in nodes me word fields ≡ Err why → nodes ≡ nodes_of r.header
    → limited (at_line i (because (after_told r me i word fields))) ≡ Err (Line i (Said why))
input_refused r me i nodes word fields why is same =
    ap (read_on r me i) (subst (λ (n : ℕ). told_in n me word fields ≡ Err why) same is)

-- memory runs out at an input line
pub input_fails : {X : Type 0} (view : X → Reading) (r : Reading) (me i nodes : ℕ) (word : List ℕ) (fields : List (List ℕ)) (fault : LineFault) → GivesLine (Err fault) (told_in nodes me word fields) → nodes ≡ nodes_of r.header
    → GivesBy view (Err (fault_at i fault)) (limited (at_line i (because (after_told r me i word fields))))
input_fails view r me i nodes word fields (lines_of.Cause why) is same = input_refused r me i nodes word fields why is same
input_fails view r me i nodes word fields lines_of.Memory is same = tt
