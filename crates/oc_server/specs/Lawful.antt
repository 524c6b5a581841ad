-- Lawful news, and nodes that are ready for a turn.
use Rattle.std.specs.Prelude.{IfSome}
use Rattle.oc_deeds.specs.Lawful.{IsMadeFor}
use Rattle.oc_server.specs.Scenes.{IsServing}
use Rattle.oc_server.specs.declared.turns.Turns.{Turns}

-- the state between any two turns: the server is serving, and the state kept for probes is its own
pub record IsReady {D L K : Type 0} (t : Turns D L K) : Type 0 where
  pub serving : IsServing t.server
  pub probing : IfSome t.probing (IsMadeFor t.server.kept.node.control.nodes)
