use Rattle.std.specs.Prelude.{ℕ, ◌≤◌, length}
use Rattle.std.specs.List.{AllByRecursion}
use Rattle.oc_base.specs.Lawful.{IsNode}
use Rattle.oc_model.specs.declared.event.Event.{Event}
use Rattle.oc_model.specs.declared.event.Event.TheVariants.{Up, Crash, Do}
use Rattle.oc_model.specs.Lawful.{IsHeader, IsGiven}
use Rattle.oc_merge.specs.declared.fault.TheConstants.{MAX_RECORD_LINES}
use Rattle.oc_merge.specs.declared.told.Told.{Told}
use Rattle.oc_merge.specs.declared.told.Told.TheVariants.{Took}
use Rattle.oc_merge.specs.declared.told.ToldLine.{ToldLine}
use Rattle.oc_merge.specs.Told.{Records}

-- Records within their ranges.

abbrev pub IsTold : ℕ → ℕ → Told → Type 0
IsTold nodes x (Took i) = IsGiven nodes x i
IsTold nodes x told = Unit {0}

abbrev pub IsLine : ℕ → ToldLine → Type 0
IsLine nodes l = IsNode nodes l.node × IsTold nodes l.node l.told

pub record AreRecords (r : Records) : Type 0 where
  pub header : IsHeader r.header
  pub lines : AllByRecursion (IsLine r.header.nodes) r.lines
  pub few : length r.lines ≤ MAX_RECORD_LINES

-- the events that a merge plays: starts, crashes and acts
abbrev pub IsPlayed : Event → Type 0
IsPlayed (Up x) = Unit {0}
IsPlayed (Crash x) = Unit {0}
IsPlayed (Do a) = Unit {0}
IsPlayed e = ⊥
