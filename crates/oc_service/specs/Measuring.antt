-- The measures, as a part of a node's deeds.
use Rattle.std.specs.Prelude.{List}
use Rattle.oc_model.specs.declared.input.Input.{Input}
use Rattle.oc_model.specs.declared.input.Input.TheVariants.{Measured}
use Rattle.oc_deeds.specs.Parts.{Part}
use Rattle.oc_service.specs.WhatNodeDoes.{begins, own_measure, own_measures}
use Rattle.oc_updown.specs.declared.measure_lines.Measure.{Measure}

-- the input that a measure is
abbrev pub input_of : Measure → Input
input_of m = Measured m.peer m.rate m.hops

-- a measure is taken, if it is the node's own
abbrev pub takes_own_measure : Measure → Part
takes_own_measure m s a = own_measure s m

-- each of these measures is taken, if it is the node's own
abbrev pub takes_own_measures : List Measure → Part
takes_own_measures ms s a = own_measures s ms

-- the beginning of a node with these measures
abbrev pub begins_with : List Measure → Part
begins_with ms s a = begins s ms a.node
