use Rattle.oc_laws_world.proofs.Passing.{always}
use Rattle.oc_model.specs.declared.event.Event.{Event}
use Rattle.oc_model.specs.Claims.{HoldPrefixes, HoldAcknowledged, SealedAreWhole, ChunksAreTrue, SealedSourceStays}
use Rattle.oc_model.specs.World.{new_world}
use Rattle.oc_laws_world.proofs.Kept.{sound_prefixes, sound_acknowledged, sound_whole, sound_chunks, sound_sealed, throughout}
use Rattle.oc_laws_world.proofs.Turns.{sound_new}
use Rattle.oc_laws_world.proofs.content.content_stays_true.Goals as goal

pub returns-clause-prefixes : goal.returns-clause-prefixes
returns-clause-prefixes c = always HoldPrefixes (λ h. throughout HoldPrefixes sound_prefixes (new_world h) (sound_new h))

pub returns-clause-acknowledged : goal.returns-clause-acknowledged
returns-clause-acknowledged c = always HoldAcknowledged (λ h. throughout HoldAcknowledged sound_acknowledged (new_world h) (sound_new h))

pub returns-clause-whole : goal.returns-clause-whole
returns-clause-whole c = always SealedAreWhole (λ h. throughout SealedAreWhole sound_whole (new_world h) (sound_new h))

pub returns-clause-chunks : goal.returns-clause-chunks
returns-clause-chunks c = always ChunksAreTrue (λ h. throughout ChunksAreTrue sound_chunks (new_world h) (sound_new h))

pub returns-clause-sealed_source : goal.returns-clause-sealed_source
returns-clause-sealed_source c = always (λ w. (e : Event) → SealedSourceStays w e) (λ h. throughout (λ w. (e : Event) → SealedSourceStays w e) sound_sealed (new_world h) (sound_new h))
