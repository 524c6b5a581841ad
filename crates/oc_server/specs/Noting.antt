-- A line of no input.
use Rattle.std.specs.Prelude.{ℕ, Option, List}
use Rattle.oc_link.specs.Calls.{IsFront}
use Rattle.oc_link.specs.declared.call.Call.{Call}
use Rattle.oc_link.specs.declared.counts.LinkCounts.{LinkCounts}
use Rattle.oc_io.specs.DiskView.{DiskView}
use Rattle.oc_io.specs.Faults.{Rose}
use Rattle.oc_server.specs.Scenes.{Breaks}
use Rattle.oc_deeds.specs.Under.{Idle, Noting}
use Rattle.oc_deeds.specs.declared.ends.TurnEnd.{TurnEnd}
use Rattle.oc_deeds.specs.declared.ends.TurnEnd.TheVariants as ends
use Rattle.oc_server.specs.declared.server.Server.{Server}

-- the output failed in a line
abbrev pub LineStops : {K : Type 0} → (K → List ℕ → K → Type 0) → (K → ℕ) → TurnEnd → List ℕ → K → K → Type 0
LineStops fails faults ends.Sink line old new = (front : List ℕ) × IsFront front line × fails old front new × Rose (faults old) (faults new)
LineStops fails faults end line old new = ⊥

-- the end in this line, or before it because memory ran out
abbrev pub NoteBreaks : {D L K : Type 0} → (D → DiskView) → (K → List ℕ → K → Type 0) → (K → List ℕ → K → Type 0) → (K → ℕ) → (L → Option (List Call)) → (L → LinkCounts) → TurnEnd → List ℕ → Server D L K → Server D L K → Type 0
NoteBreaks view takes fails faults story counts ends.Memory line old new = Breaks view takes fails faults story counts ends.Memory Idle old new
NoteBreaks view takes fails faults story counts ends.Sink line old new = Breaks view takes fails faults story counts ends.Sink (Noting line) old new
NoteBreaks view takes fails faults story counts end line old new = ⊥
