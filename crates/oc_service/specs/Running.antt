-- A loaded node that listens, takes its measures, and turns.
use Rattle.std.specs.Prelude.{◌≡◌, ◌⊎◌, ℕ, ◌+◌, ◌<◌, Option, List, [], ◌++◌, length}
use Rattle.oc_link.specs.Counts.{CountsFailure}
use Rattle.oc_link.specs.Told.{Adds}
use Rattle.oc_link.specs.declared.call.Call.{Call}
use Rattle.oc_link.specs.declared.call.Call.TheVariants as acts
use Rattle.oc_link.specs.declared.counts.LinkCounts.{LinkCounts}
use Rattle.oc_io.specs.DiskView.{DiskView}
use Rattle.oc_keep.specs.KeptView.{IsHonest, node_of}
use Rattle.oc_routes.specs.Responses.{address_of}
use Rattle.oc_deeds.specs.Deeds.{Deed}
use Rattle.oc_deeds.specs.Under.{Cuts}
use Rattle.oc_server.specs.Scenes.{BreaksAfter, Did, running, setting}
use Rattle.oc_deeds.specs.Under.{Under}
use Rattle.oc_deeds.specs.Turns.{Observation, terms_in}
use Rattle.oc_deeds.specs.declared.ends.TurnEnd.{TurnEnd}
use Rattle.oc_deeds.specs.declared.ends.TurnEnd.TheVariants as ends
use Rattle.oc_server.specs.declared.server.Server.{Server}
use Rattle.oc_server.specs.declared.turns.Turns.{Turns}
use Rattle.oc_service.specs.WhatNodeDoes.{Machine, begins, begun, due_at, machine_after, node_deeds, turn_deeds}
use Rattle.oc_service.specs.WhatNodeGives.{ServesFrom}
use Rattle.oc_service.specs.WhatNodeHears.{AreHeard, MayHear, MayReread, all_calls_after, until}

-- a running node as the machine
abbrev pub machine : {D L K : Type 0} → Turns D L K → Machine
machine t = record { running = running t.server; pace = t.pace; probing = t.probing; reading = t.reading }

-- the link listens, and nothing else changed
pub record Listens {D L K : Type 0} (story : L → Option (List Call)) (counts : L → LinkCounts) (old new : Server D L K) : Type 0 where
  pub rest : new ≡ record old { link = new.link }
  pub calls : Adds (acts.Listen (address_of old.config.listens old.kept.node.control.me)) (story old.link) (story new.link)
  pub counted : counts new.link ≡ counts old.link

-- the link could not listen, and nothing changed
pub record IsDeaf {D L K : Type 0} (story : L → Option (List Call)) (counts : L → LinkCounts) (end : TurnEnd) (old new : Server D L K) : Type 0 where
  pub link : end ≡ ends.Link
  pub rest : new ≡ record old { link = new.link }
  pub calls : story new.link ≡ story old.link
  pub counted : CountsFailure (counts old.link) (counts new.link)

-- The node listened and did these deeds: its measures, and then this number of turns.
pub record Runs {D L K : Type 0} (view : D → DiskView) (takes : K → List ℕ → K → Type 0) (faults : K → ℕ) (story : L → Option (List Call)) (counts : L → LinkCounts) (most : ℕ) (old new : Turns D L K) : Type 0 where
  pub listening : Server D L K
  pub listens : Listens story counts old.server listening
  pub told : List Observation
  pub many : length told ≡ most
  pub deeds : List Deed
  pub did : Did view takes faults story counts deeds listening new.server
  pub are : IsHonest view old.server.kept → deeds ≡ node_deeds (setting old.server) old.server.config.measures told (machine old)
  pub heard : IsHonest view old.server.kept
      → AreHeard (setting old.server) (until (story listening.link) (story new.server.link)) told (begun (setting old.server) old.server.config.measures (machine old))
  pub serves : IsHonest view old.server.kept → old.server.works ≡ [] → ServesFrom (setting old.server) deeds (running old.server) (story listening.link) (story new.server.link)

-- The node listened, and ended after these deeds: after whole turns, in the midst of one, or before
-- the first. In a turn with more deeds than the asking of the link, the event was read; and so was the configuration, if anything was done by it.
pub record Halts {D L K : Type 0} (view : D → DiskView) (takes fails : K → List ℕ → K → Type 0) (faults : K → ℕ) (story : L → Option (List Call)) (counts : L → LinkCounts) (most : ℕ) (end : TurnEnd) (old new : Turns D L K) : Type 0 where
  pub listening : Server D L K
  pub listens : Listens story counts old.server listening
  pub told : List Observation
  pub last : Observation
  pub deeds : List Deed
  pub under : Under
  -- fewer turns than `most` come before the last one, or the run ended before the first
  pub few : (length told < most) ⊎ (IsHonest view old.server.kept → Cuts (begins (setting old.server) old.server.config.measures (node_of old.server.kept)) deeds under)
  pub breaks : BreaksAfter view takes fails faults story counts end deeds under listening new.server
  pub cut : IsHonest view old.server.kept
      → Cuts (node_deeds (setting old.server) old.server.config.measures told (machine old) ++ turn_deeds (setting old.server) last (machine_after (setting old.server) old.server.config.measures told (machine old))) deeds under
  pub heard : IsHonest view old.server.kept
      → AreHeard (setting old.server) (until (story listening.link) (story new.server.link)) told (begun (setting old.server) old.server.config.measures (machine old))
  pub last_heard : IsHonest view old.server.kept
      → (length deeds < length (node_deeds (setting old.server) old.server.config.measures told (machine old)) + 3)
      ⊎ MayHear (terms_in (setting old.server) (machine_after (setting old.server) old.server.config.measures told (machine old)).running)
      (all_calls_after (setting old.server) told (begun (setting old.server) old.server.config.measures (machine old)) (until (story listening.link) (story new.server.link)))
      (due_at last (machine_after (setting old.server) old.server.config.measures told (machine old))) last (machine_after (setting old.server) old.server.config.measures told (machine old))
  pub last_reread : IsHonest view old.server.kept → MayReread last (machine_after (setting old.server) old.server.config.measures told (machine old))
  pub serves : IsHonest view old.server.kept → old.server.works ≡ [] → ServesFrom (setting old.server) deeds (running old.server) (story listening.link) (story new.server.link)

-- the run of a loaded node
abbrev pub RunEnds : {D L K : Type 0} → (D → DiskView) → (K → List ℕ → K → Type 0) → (K → List ℕ → K → Type 0) → (K → ℕ) → (L → Option (List Call)) → (L → LinkCounts) → ℕ → TurnEnd → Turns D L K → Turns D L K → Type 0
RunEnds view takes fails faults story counts most ends.Served old new = Runs view takes faults story counts most old new
RunEnds view takes fails faults story counts most ends.Link old new = IsDeaf story counts ends.Link old.server new.server ⊎ Halts view takes fails faults story counts most ends.Link old new
RunEnds view takes fails faults story counts most end old new = Halts view takes fails faults story counts most end old new
