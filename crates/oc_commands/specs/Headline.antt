-- The properties of every world of a schedule.
use Rattle.oc_laws_tree.specs.Listing.{SettledListsExactly}
use Rattle.oc_laws_world.specs.Ranks.{ToldRanksHold}
use Rattle.oc_laws_world.specs.Throughout.{Throughout}
use Rattle.oc_model.specs.Chains.{HasNoCycle}
use Rattle.oc_model.specs.Claims.{HoldPrefixes, HoldAcknowledged, SealedAreWhole}
use Rattle.oc_model.specs.ClaimsTree.{IsExplained, IsInformed}
use Rattle.oc_model.specs.World.{new_world}
use Rattle.oc_schedule.specs.Script.{Script}
use Rattle.oc_commands.specs.SettleAndHeal.{AtEach, SettleAndHealHold}

-- the properties of the new world of its header, of each world to which its events lead, one after
-- another, and of those inside settle and heal; and the effect of each settle and heal
pub record HeadlineHolds (s : Script) : Type 0 where
  pub prefixes : Throughout HoldPrefixes (new_world s.header) s.events
  pub acknowledged : Throughout HoldAcknowledged (new_world s.header) s.events
  pub whole : Throughout SealedAreWhole (new_world s.header) s.events
  pub no_cycle : Throughout HasNoCycle (new_world s.header) s.events
  pub told_ranks : Throughout ToldRanksHold (new_world s.header) s.events
  pub explained : Throughout IsExplained (new_world s.header) s.events
  pub informed : Throughout IsInformed (new_world s.header) s.events
  pub settled : Throughout SettledListsExactly (new_world s.header) s.events
  pub settle_and_heal : AtEach SettleAndHealHold (new_world s.header) s.events
