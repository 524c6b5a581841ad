use Rattle.std.proofs.Common.{◌≡◌, [], length}
use Rattle.std.specs.Prelude.{All}
use Rattle.std.specs.Str.Lines.{lines}
use Rattle.oc_updown.specs.MeasureLines.{IsMeasure, with_measures}
use Rattle.oc_updown.proofs.measure_lines.read_lines.Given as goal

-- the rest of the text gives the result of the whole text
abbrev pub invariant-lines : goal.invariant-lines
invariant-lines l = record {
  exact : with_measures l.nodes l.number l.measures.items (lines l.rest) ≡ with_measures l.nodes 1 [] (lines l.text);
  lawful : All (IsMeasure l.nodes) l.measures.items;
}

abbrev pub decreases-lines : goal.decreases-lines
decreases-lines l = length l.rest
