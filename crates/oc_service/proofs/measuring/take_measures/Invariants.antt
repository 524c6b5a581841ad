use Rattle.std.proofs.Common.{◌≡◌, List, ◌++◌, drop}
use Rattle.std.specs.Prelude.{All}
use Rattle.oc_updown.specs.MeasureLines.{IsMeasure}
use Rattle.oc_deeds.specs.Deeds.{Deed}
use Rattle.oc_server.specs.Scenes.{Did, IsServing, setting}
use Rattle.oc_service.specs.WhatNodeDoes.{own_measures}
use Rattle.oc_service.proofs.measuring.take_measures.Given as goal

-- the deeds so far, and those of the measures to come, are all
abbrev pub invariant-measures : goal.invariant-measures
invariant-measures g l = record {
  serving : IsServing l.server;
  config : l.server.config ≡ l.fn.server.config;
  lawful : All (IsMeasure l.server.kept.node.control.nodes) l.server.config.measures;
  far : (deeds : List Deed)
      × (deeds ++ own_measures (setting l.fn.server) (drop l.place l.fn.server.config.measures) ≡ own_measures (setting l.fn.server) l.fn.server.config.measures)
      × Did g.D.Disk.view g.K.Sink.takes g.K.Sink.faults g.L.Link.story g.L.Link.counts deeds l.fn.server l.server;
}
