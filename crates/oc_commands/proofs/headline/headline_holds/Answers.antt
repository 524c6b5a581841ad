use Rattle.std.proofs.Common.{List}
use Rattle.oc_model.specs.NextWorld.{world_after}
use Rattle.oc_model.specs.World.{new_world}
use Rattle.oc_model.specs.declared.event.Event.{Event}
use Rattle.oc_commands.specs.SettleAndHeal.{SettleAndHealHold}
use Rattle.oc_commands.proofs.SettleAndHealEvents.{HealLaws, SettleLaws, at_each, settle_and_heal_hold}
use Rattle.oc_commands.proofs.headline.headline_holds.Goals as goal

pub returns : goal.returns
returns c = λ s lawful.
    let settle : (front : List Event) → SettleLaws (world_after (new_world s.header) front) = λ front. record {
      tested = (c.tests_decide.ensures.ready (world_after (new_world s.header) front)).0;
      refused = c.unready_worlds_refuse_settle.ensures.refused (world_after (new_world s.header) front);
      unchanged = c.unready_worlds_refuse_settle.ensures.unchanged (world_after (new_world s.header) front);
      settles = c.ready_worlds_settle.ensures.settled s.header front;
      tells = c.ready_worlds_settle.ensures.told s.header front;
      lists = c.ready_worlds_settle.ensures.listed s.header front;
      takes = c.settle_takes_few_acts.ensures.number s.header front;
    } in
    let heal : (front : List Event) → HealLaws (world_after (new_world s.header) front) = λ front. record {
      tested = (c.tests_decide.ensures.able (world_after (new_world s.header) front)).0;
      refused = c.unable_worlds_refuse_heal.ensures.refused (world_after (new_world s.header) front);
      unchanged = c.unable_worlds_refuse_heal.ensures.unchanged (world_after (new_world s.header) front);
      leads = c.unable_worlds_refuse_heal.ensures.leads (world_after (new_world s.header) front);
      heals = c.able_worlds_heal.ensures s.header front lawful;
      takes = c.heal_goes_step_by_step.ensures.number s.header front lawful;
    } in
    record {
      prefixes = (c.content_stays_true.ensures.prefixes s.header s.events).0;
      acknowledged = (c.content_stays_true.ensures.acknowledged s.header s.events).0;
      whole = (c.content_stays_true.ensures.whole s.header s.events).0;
      no_cycle = (c.parent_links_form_no_cycle.ensures s.header s.events).0;
      told_ranks = (c.ranks_hold.ensures.told s.header s.events).0;
      explained = (c.every_line_is_explained.ensures s.header s.events).0;
      informed = (c.every_count_is_informed.ensures s.header s.events).0;
      settled = (c.settled_trees_are_listed_exactly.ensures s.header s.events).0;
      settle_and_heal = at_each SettleAndHealHold (new_world s.header) (λ front e. settle_and_heal_hold (world_after (new_world s.header) front) (settle front) (heal front) e) s.events;
    }
