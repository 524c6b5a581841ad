-- The laws of content in a sound world, and the proof that every world to which events lead from a new one is sound.
use Rattle.std.proofs.Common.{ℕ, Option, Some, None, List, [], ◌∷◌, ap, ◌∙◌}
use Rattle.oc_model.specs.declared.event.Act.{Act}
use Rattle.oc_model.specs.declared.event.Event.{Event}
use Rattle.oc_model.specs.declared.event.Event.TheVariants.{Settle, Heal}
use Rattle.oc_model.specs.declared.message.Body.{Body}
use Rattle.oc_model.specs.declared.message.Body.TheVariants.{Fetch, Chunk}
use Rattle.oc_model.specs.Claims.{HoldPrefixes, HoldAcknowledged, IsAcknowledged, SealedAreWhole, IsTrueChunk, ChunksAreTrue, SealedSourceStays}
use Rattle.oc_model.specs.NextWorld.{settle_acts, heal_acts, next_world}
use Rattle.oc_model.specs.World.{World, node, after_act}
use Rattle.oc_laws_world.specs.Throughout.{Along, AlongAny, Inside, Throughout}
use Rattle.oc_model.proofs.Lists.{all_weaker}
use Rattle.oc_model.proofs.Processes.{process_in-me}
use Rattle.oc_laws_world.proofs.Truth.{IsTrueOfSource, IsTrueOfSender}
use Rattle.oc_laws_world.proofs.Turns.{Sound, IsTrueIn, act_turn, event_turn}

-- a sound world has HoldPrefixes
pub sound_prefixes : (w : World) → Sound w → HoldPrefixes w
sound_prefixes w sound x g k h = let held = (sound.ready x).holds.each g k h in (held.whole, held.found, held.front)

-- a sound world has SealedAreWhole
pub sound_whole : (w : World) → Sound w → SealedAreWhole w
sound_whole w sound x g k h e =
    let held = (sound.ready x).holds.each g k h in
    let full = held.sealed e in
    (held.whole, held.found, full.0, full.1)

-- a message that is true of its sender is acknowledged
acknowledged : (w : World) (x : ℕ) (b : Body) → IsTrueOfSender (node w x).groups b → IsAcknowledged w x b
acknowledged w x (Fetch have) h = h
acknowledged w x b h = tt

-- a sound world has HoldAcknowledged
pub sound_acknowledged : (w : World) → Sound w → HoldAcknowledged w
sound_acknowledged w sound = record {
  fetches = all_weaker (IsTrueIn w) (λ m. IsAcknowledged w m.from m.body) (λ m h. acknowledged w m.from m.body h.sender) w.net sound.net;
  source = (sound.ready 1).own (process_in-me w.processes 1);
}

-- a message that is true of the source is a true chunk
brought : (w : World) (b : Body) → IsTrueOfSource w.source b → IsTrueChunk w b
brought w (Chunk g start bytes last) h = h
brought w b h = tt

-- a sound world has ChunksAreTrue
pub sound_chunks : (w : World) → Sound w → ChunksAreTrue w
sound_chunks w sound = all_weaker (IsTrueIn w) (λ m. IsTrueChunk w m.body) (λ m h. brought w m.body h.source) w.net sound.net

-- no event changes what is sealed in the source of a sound world
pub sound_sealed : (w : World) → Sound w → (e : Event) → SealedSourceStays w e
sound_sealed w sound e g s h closed = let grown = (event_turn w sound e).source g s h in grown.found ∙ ap Some (grown.stays closed)

-- Throughout

module _ (P : World → Type 0) (of_sound : (w : World) → Sound w → P w) where
  -- a property of each sound world holds along acts
  along : (w : World) → Sound w → (done : List Act) → Along P w done
  along w sound [] = tt
  along w sound (a ∷ rest) = let next = act_turn w sound a in (of_sound (after_act w a) next.sound, along (after_act w a) next.sound rest)

  along_any : (w : World) → Sound w → (done : Option (List Act)) → AlongAny P w done
  along_any w sound None = tt
  along_any w sound (Some done) = along w sound done

  -- the property holds inside each event
  inside : (w : World) → Sound w → (e : Event) → Inside P w e
  inside w sound Settle = along_any w sound (settle_acts w)
  inside w sound Heal = along_any w sound (heal_acts w)
  inside w sound e = tt

  -- the property holds throughout all events
  pub throughout : (w : World) → Sound w → (events : List Event) → Throughout P w events
  throughout w sound [] = of_sound w sound
  throughout w sound (e ∷ es) = (of_sound w sound, inside w sound e, throughout (next_world w e) (event_turn w sound e).sound es)
