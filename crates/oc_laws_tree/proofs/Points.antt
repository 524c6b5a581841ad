-- The laws for the one world after all events.
use Rattle.std.proofs.Common.{ℕ, List}
use Rattle.oc_model.specs.declared.event.Act.{Act}
use Rattle.oc_model.specs.declared.event.Event.{Event}
use Rattle.oc_model.specs.declared.message.Message.{Message}
use Rattle.oc_model.specs.NextWorld.{next_world, world_after}
use Rattle.oc_model.specs.Node.{Header, Control}
use Rattle.oc_model.specs.World.{World, after_act, new_world}
use Rattle.oc_laws_world.specs.Ranks.{ParentsPrecede}
use Rattle.oc_laws_world.proofs.Laws.{law_throughout}
use Rattle.oc_laws_world.proofs.Lifts.{IsLaw}
use Rattle.oc_laws_world.proofs.Passing.{passing_throughout, throughout_after}
use Rattle.oc_laws_world.proofs.RanksKept.{ranks_throughout}
use Rattle.oc_laws_tree.specs.LeaseEnds.{LeaseEndsLieAhead}
use Rattle.oc_laws_tree.proofs.GrantsKept.{GrantsHold, IsGranting, grants_law, grants_new, facts_granted}
use Rattle.oc_laws_tree.proofs.LeaseEnds.{known_anywhere, lease_ends_throughout}
use Rattle.oc_laws_tree.proofs.SoundNodes.{AreSound, sound_throughout}
use Rattle.oc_laws_tree.proofs.Together.{AllHold, all_throughout}

-- a law that each act and each event keeps
pub passing_after : (J : World → Type 0) → ((w : World) (a : Act) → J w → J (after_act w a)) → ((w : World) (e : Event) → J w → J (next_world w e)) → (w : World) (events : List Event) → J w → J (world_after w events)
passing_after J of_act of_event w events holds = throughout_after J w events (passing_throughout J of_act of_event J (λ v j. j) w holds events)

pub law_after : (J : World → Type 0) (P : World → ℕ → Control → List Message → Type 0) → IsLaw J P → (h : Header) (events : List Event) → J (new_world h) → J (world_after (new_world h) events)
law_after J P law h events holds = throughout_after J (new_world h) events (law_throughout J P law J (λ v j. j) h events holds)

pub all_after : (h : Header) (events : List Event) → AllHold (world_after (new_world h) events)
all_after h events = throughout_after AllHold (new_world h) events (all_throughout AllHold (λ v holds. holds) h events)

pub sound_after : (h : Header) (events : List Event) → AreSound (world_after (new_world h) events)
sound_after h events = throughout_after AreSound (new_world h) events (sound_throughout AreSound (λ v sound. sound) h events)

pub parents_after : (h : Header) (events : List Event) → ParentsPrecede (world_after (new_world h) events)
parents_after h events = throughout_after ParentsPrecede (new_world h) events (ranks_throughout ParentsPrecede (λ old v holds. holds.parents) h events)

pub lease_ends_after : (h : Header) (events : List Event) → LeaseEndsLieAhead (world_after (new_world h) events)
lease_ends_after h events =
    throughout_after LeaseEndsLieAhead (new_world h) events
    (lease_ends_throughout GrantsHold IsGranting grants_law (λ v holds. known_anywhere v (facts_granted v holds)) h (grants_new h) events)
