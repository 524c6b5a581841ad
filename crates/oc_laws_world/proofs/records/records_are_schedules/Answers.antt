use Rattle.std.proofs.Common.{[], ap}
use Rattle.oc_model.specs.World.{Process, new_world}
use Rattle.oc_laws_world.proofs.Merged.{world_new, merge_leads, merge_schedule, merge_more, schedule_more}
use Rattle.oc_laws_world.proofs.records.records_are_schedules.Goals as goal

pub returns-clause-scheduled : goal.returns-clause-scheduled
returns-clause-scheduled c = λ h ls merge. merge_schedule h [] ls (new_world h) (world_new h) merge

pub returns-clause-folds : goal.returns-clause-folds
returns-clause-folds c = λ h ls es merge schedule x is. ap (λ (p : Process). p.node) ((merge_leads h [] ls (new_world h) es (world_new h) merge schedule).processes x is)

pub returns-clause-net : goal.returns-clause-net
returns-clause-net c = λ h ls es merge schedule m.
    ((merge_leads h [] ls (new_world h) es (world_new h) merge schedule).sent m, (merge_leads h [] ls (new_world h) es (world_new h) merge schedule).kept m)

pub returns-clause-laws : goal.returns-clause-laws
returns-clause-laws c = λ h ls es merge schedule. record {
  prefixes = (c.content_stays_true.ensures.prefixes h es).0;
  acknowledged = (c.content_stays_true.ensures.acknowledged h es).0;
  whole = (c.content_stays_true.ensures.whole h es).0;
  chunks = (c.content_stays_true.ensures.chunks h es).0;
  sealed_source = (c.content_stays_true.ensures.sealed_source h es).0;
  never_worse = (c.ranks_hold.ensures.never_worse h es).0;
  placed = (c.ranks_hold.ensures.placed h es).0;
  told = (c.ranks_hold.ensures.told h es).0;
  parents = (c.ranks_hold.ensures.parents h es).0;
  no_cycle = (c.parent_links_form_no_cycle.ensures h es).0;
  one_peer = (c.ask_numbers_have_one_peer.ensures.one_peer h es).0;
  below = (c.ask_numbers_have_one_peer.ensures.below h es).0;
}

pub returns-clause-one_more : goal.returns-clause-one_more
returns-clause-one_more c = λ h ls l merge is can. merge_more h [] ls l merge is can

pub returns-clause-its_events : goal.returns-clause-its_events
returns-clause-its_events c = λ h ls l es more of are. schedule_more (new_world h) ls l es more of are
