use Rattle.oc_model.specs.declared.event.Event.{Event}
use Rattle.std.specs.Prelude.{List}
use Rattle.oc_model.specs.Chains.{HasNoCycle}
use Rattle.oc_model.specs.Claims.{HoldPrefixes, HoldAcknowledged, SealedAreWhole, ChunksAreTrue, SealedSourceStays}
use Rattle.oc_model.specs.World.{World}
use Rattle.oc_laws_world.specs.Numbers.{HaveOnePeer, AskNumbersAreBelow}
use Rattle.oc_laws_world.specs.Ranks.{NoRankWorsens, InTreeAreRanked, ToldRanksHold, ParentsPrecede}
use Rattle.oc_laws_world.specs.Throughout.{Throughout}

-- The statement of this crate's laws for each world on the way of some events.
pub record AllHold (w : World) (es : List Event) : Type 0 where
  pub prefixes : Throughout HoldPrefixes w es
  pub acknowledged : Throughout HoldAcknowledged w es
  pub whole : Throughout SealedAreWhole w es
  pub chunks : Throughout ChunksAreTrue w es
  pub sealed_source : Throughout (λ v. (e : Event) → SealedSourceStays v e) w es
  pub never_worse : Throughout (λ v. (e : Event) → NoRankWorsens v e) w es
  pub placed : Throughout InTreeAreRanked w es
  pub told : Throughout ToldRanksHold w es
  pub parents : Throughout ParentsPrecede w es
  pub no_cycle : Throughout HasNoCycle w es
  pub one_peer : Throughout HaveOnePeer w es
  pub below : Throughout AskNumbersAreBelow w es
