-- A running node turn by turn: one turn that was done, turns one after another, and a turn that ended partway through.
use Rattle.std.specs.Prelude.{◌≡◌, ◌⊎◌, ℕ, zero, suc, ◌<◌, Bool, IsTrue, Option, None, Some, List, [], ◌∷◌, ◌++◌, length}
use Rattle.std.specs.Option.{option_map}
use Rattle.oc_base.specs.Groups.{shelf}
use Rattle.oc_link.specs.Stands.{may}
use Rattle.oc_link.specs.Traffic.{held}
use Rattle.oc_link.specs.declared.call.Call.{Call}
use Rattle.oc_link.specs.declared.call.Call.TheVariants as acts
use Rattle.oc_link.specs.declared.counts.LinkCounts.{LinkCounts}
use Rattle.oc_link.specs.declared.event.LinkEvent.{LinkEvent}
use Rattle.oc_link.specs.declared.event.LinkEvent.TheVariants as events
use Rattle.oc_io.specs.DiskView.{DiskView}
use Rattle.oc_keep.specs.KeptView.{IsHonest, node_of}
use Rattle.oc_routes.specs.Verdicts.{NodeTerms}
use Rattle.oc_deeds.specs.Measured.{IsMeasured}
use Rattle.oc_deeds.specs.Served.{is_served, is_something}
use Rattle.oc_deeds.specs.Choices.{due_index}
use Rattle.oc_deeds.specs.Deeds.{after_all, dials_after, errand_in}
use Rattle.oc_deeds.specs.Hurries.{came_hurries}
use Rattle.oc_server.specs.Looks.{Renews}
use Rattle.oc_server.specs.Parts.{Does, Stops}
use Rattle.oc_server.specs.Scenes.{running, setting}
use Rattle.oc_deeds.specs.Rereading.{MeansLook, last_read, looks_again, probing_by}
use Rattle.oc_deeds.specs.declared.reread.Reread.{Reread}
use Rattle.oc_deeds.specs.declared.reread.Reread.TheVariants as rereads
use Rattle.oc_link.specs.declared.look.Look.{Look}
use Rattle.oc_config.specs.Settings.{Settings}
use Rattle.oc_deeds.specs.Turns.{Means, Observation, dealt, pace_after, paced, probed, probing_after, quickened, takes_next, terms_in, turn}
use Rattle.oc_deeds.specs.declared.ends.TurnEnd.{TurnEnd}
use Rattle.oc_deeds.specs.declared.ends.TurnEnd.TheVariants as ends
use Rattle.oc_server.specs.declared.server.Server.{Server}
use Rattle.oc_server.specs.declared.turns.Turns.{Turns}

-- the terms by which a server reads requests
abbrev pub reads_by : {D L K : Type 0} → Server D L K → NodeTerms
reads_by s = terms_in (setting s) (running s)

-- the place of the work that is due by itself when a turn begins
abbrev pub due_in : {D L K : Type 0} → Server D L K → ℕ → Option ℕ
due_in s before = due_index s.works (shelf (node_of s.kept).groups) before

-- The news that was read

-- the bytes that an event lends after these calls
abbrev pub lent_in : LinkEvent → List ℕ → List Call → List ℕ
lent_in (events.Request a) bytes calls = held a.connection calls
lent_in event bytes calls = bytes

-- these bytes were lent, where a story was told when the link was asked, and is told now
abbrev pub IsLent : Option (List Call) → Option (List Call) → LinkEvent → List ℕ → List ℕ → Type 0
IsLent (Some calls) (Some now) event bytes lent = lent ≡ lent_in event bytes (calls ++ acts.Next event bytes ∷ [])
IsLent old new event bytes lent = Unit {0}

-- the event could come, where a story was told when the link was asked, and is told now
abbrev pub CouldCome : Option (List Call) → Option (List Call) → LinkEvent → Type 0
CouldCome (Some calls) (Some now) event = IsTrue (may event calls)
CouldCome old new event = Unit {0}

-- The news is that of the link, which was asked at that point of its story, as it was read.
pub record IsRead {D L K : Type 0} (old : Turns D L K) (asked now : Option (List Call)) (t : Observation) : Type 0 where
  pub lent : List ℕ
  pub is_lent : IsLent asked now t.event t.bytes lent
  pub could : CouldCome asked now t.event
  pub means : Means (reads_by old.server) lent (errand_in t.event old.server.dials) t.event t.came
  pub measured : IsMeasured old.probing t.came t.now t.median

-- the story of the link with a reading of the clock after it
abbrev pub after_reading : ℕ → Option (List Call) → Option (List Call)
after_reading before story = option_map (λ calls. calls ++ acts.Millis before ∷ []) story

-- the news is read where no work was due
abbrev pub MayRead : {D L K : Type 0} → (L → Option (List Call)) → Option ℕ → Turns D L K → Server D L K → Observation → Type 0
MayRead story None old new t = IsRead old (after_reading t.before (story old.server.link)) (story new.link) t
MayRead story (Some place) old new t = Unit {0}

-- One thing that happened

-- One thing that happened at the link was taken, in a turn that began at this time.
pub record NextTaken {D L K : Type 0} (view : D → DiskView) (takes : K → List ℕ → K → Type 0) (faults : K → ℕ) (story : L → Option (List Call)) (counts : L → LinkCounts) (before : ℕ) (served : Bool) (old new : Turns D L K) : Type 0 where
  pub told : Observation
  pub begins : told.before ≡ before
  pub does : Does view takes faults story counts (takes_next old.pace old.probing told) old.server new.server
  pub read : IsHonest view old.server.kept → IsRead old (story old.server.link) (story new.server.link) told
  pub serves : served ≡ is_something told.came
  pub pace : IsHonest view old.server.kept → new.pace ≡ paced (quickened (came_hurries told.came (node_of old.server.kept)) old.pace) told.now told.seconds
  pub probing : IsHonest view old.server.kept → new.probing ≡ probed told.came told.now (dials_after told.event old.server.dials) old.probing
  pub reading : new.reading ≡ old.reading

-- A front of these deeds was done before this end. The news was read, where more was done than to ask for it.
pub record NextStops {D L K : Type 0} (view : D → DiskView) (takes fails : K → List ℕ → K → Type 0) (faults : K → ℕ) (story : L → Option (List Call)) (counts : L → LinkCounts) (end : TurnEnd) (before : ℕ) (old new : Turns D L K) : Type 0 where
  pub told : Observation
  pub begins : told.before ≡ before
  pub stops : Stops view takes fails faults story counts end (takes_next old.pace old.probing told) old.server new.server
  pub read : IsHonest view old.server.kept → (length stops.deeds < 2) ⊎ IsRead old (story old.server.link) (story new.server.link) told

-- What came or was due

-- It was dealt with, and something was served or not.
pub record Handled {D L K : Type 0} (view : D → DiskView) (takes : K → List ℕ → K → Type 0) (faults : K → ℕ) (story : L → Option (List Call)) (counts : L → LinkCounts) (served : Bool) (old new : Turns D L K) : Type 0 where
  pub told : Observation
  pub renews : Renews view old.server.kept new.server.kept
  pub does : Does view takes faults story counts (dealt old.pace old.probing told) old.server new.server
  pub read : IsHonest view old.server.kept → MayRead story (due_in old.server told.before) old new.server told
  pub serves : IsHonest view old.server.kept → served ≡ is_served (due_in old.server told.before) told.came
  pub pace : IsHonest view old.server.kept → new.pace ≡ pace_after (due_in old.server told.before) old.pace told (node_of old.server.kept)
  pub probing : IsHonest view old.server.kept → new.probing ≡ probing_after (due_in old.server told.before) told old.server.dials old.probing
  pub reading : new.reading ≡ old.reading

-- A front of that was done, and then it ended so. What came was read, where more was done than to ask for it.
pub record HandleStops {D L K : Type 0} (view : D → DiskView) (takes fails : K → List ℕ → K → Type 0) (faults : K → ℕ) (story : L → Option (List Call)) (counts : L → LinkCounts) (end : TurnEnd) (old new : Turns D L K) : Type 0 where
  pub told : Observation
  pub stops : Stops view takes fails faults story counts end (dealt old.pace old.probing told) old.server new.server
  pub read : IsHonest view old.server.kept → (length stops.deeds < 3) ⊎ MayRead story (due_in old.server told.before) old new.server told

-- The look at the file of the configuration

-- The file was looked at, and what that gave was gone by.
pub record LooksAgain {D L K : Type 0} (view : D → DiskView) (takes : K → List ℕ → K → Type 0) (faults : K → ℕ) (story : L → Option (List Call)) (counts : L → LinkCounts) (old new : Turns D L K) : Type 0 where
  pub look : Look
  pub reread : Reread
  pub does : Does view takes faults story counts (looks_again look reread) old.server new.server
  pub means : MeansLook old.reading look reread
  pub reading : new.reading ≡ last_read look old.reading
  pub pace : new.pace ≡ old.pace
  pub probing : IsHonest view old.server.kept → new.probing ≡ probing_by (setting old.server) old.server.config reread old.probing

-- A front of that was done, and then it ended so. What the look gave was read, where anything was done by it.
pub record LookAgainStops {D L K : Type 0} (view : D → DiskView) (takes fails : K → List ℕ → K → Type 0) (faults : K → ℕ) (story : L → Option (List Call)) (counts : L → LinkCounts) (end : TurnEnd) (old new : Turns D L K) : Type 0 where
  pub look : Look
  pub reread : Reread
  pub stops : Stops view takes fails faults story counts end (looks_again look reread) old.server new.server
  pub means : (reread ≡ rereads.Nothing) ⊎ MeansLook old.reading look reread

-- One turn

-- the configuration that a server goes by when it looks for a new one
abbrev pub config_at_look : {D L K : Type 0} → Turns D L K → Observation → Settings
config_at_look t told = (after_all (dealt t.pace t.probing told (setting t.server) (running t.server)) (running t.server)).config

-- A turn was done, and served something or not.
pub record Turned {D L K : Type 0} (view : D → DiskView) (takes : K → List ℕ → K → Type 0) (faults : K → ℕ) (story : L → Option (List Call)) (counts : L → LinkCounts) (served : Bool) (old new : Turns D L K) : Type 0 where
  pub told : Observation
  pub renews : Renews view old.server.kept new.server.kept
  pub does : Does view takes faults story counts (turn old.pace old.probing told) old.server new.server
  pub read : IsHonest view old.server.kept → MayRead story (due_in old.server told.before) old new.server told
  pub again : MeansLook old.reading told.look told.reread
  pub serves : IsHonest view old.server.kept → served ≡ is_served (due_in old.server told.before) told.came
  pub pace : IsHonest view old.server.kept → new.pace ≡ pace_after (due_in old.server told.before) old.pace told (node_of old.server.kept)
  pub probing : IsHonest view old.server.kept
      → new.probing ≡ probing_by (setting old.server) (config_at_look old told) told.reread (probing_after (due_in old.server told.before) told old.server.dials old.probing)
  pub reading : new.reading ≡ last_read told.look old.reading

-- A front of a turn was done, and then it ended so. What came was read, where more was done than to ask for it, and so was what the look gave, where
-- anything was done by it.
pub record TurnStops {D L K : Type 0} (view : D → DiskView) (takes fails : K → List ℕ → K → Type 0) (faults : K → ℕ) (story : L → Option (List Call)) (counts : L → LinkCounts) (end : TurnEnd) (old new : Turns D L K) : Type 0 where
  pub told : Observation
  pub stops : Stops view takes fails faults story counts end (turn old.pace old.probing told) old.server new.server
  pub read : IsHonest view old.server.kept → (length stops.deeds < 3) ⊎ MayRead story (due_in old.server told.before) old new.server told
  pub again : (told.reread ≡ rereads.Nothing) ⊎ MeansLook old.reading told.look told.reread

-- Turns one after another

abbrev pub Serves : {D L K : Type 0} → (D → DiskView) → (K → List ℕ → K → Type 0) → (K → ℕ) → (L → Option (List Call)) → (L → LinkCounts) → ℕ → Turns D L K → Turns D L K → Type 0
Serves {D} {L} {K} view takes faults story counts zero old new = new ≡ old
Serves {D} {L} {K} view takes faults story counts (suc n) old new = (served : Bool) × (at : Turns D L K)
    × Turned view takes faults story counts served old at × Serves view takes faults story counts n at new

-- fewer turns than `most`, and then one that ended partway through, with this end
pub record ServesUpTo {D L K : Type 0} (view : D → DiskView) (takes fails : K → List ℕ → K → Type 0) (faults : K → ℕ) (story : L → Option (List Call)) (counts : L → LinkCounts) (most : ℕ) (end : TurnEnd) (old new : Turns D L K) : Type 0 where
  pub done : ℕ
  pub few : done < most
  pub at : Turns D L K
  pub serves : Serves view takes faults story counts done old at
  pub stops : TurnStops view takes fails faults story counts end at new

-- the end of this number of turns
abbrev pub ServeEnds : {D L K : Type 0} → (D → DiskView) → (K → List ℕ → K → Type 0) → (K → List ℕ → K → Type 0) → (K → ℕ) → (L → Option (List Call)) → (L → LinkCounts) → ℕ → TurnEnd → Turns D L K → Turns D L K → Type 0
ServeEnds view takes fails faults story counts most ends.Served old new = Serves view takes faults story counts most old new
ServeEnds view takes fails faults story counts most end old new = ServesUpTo view takes fails faults story counts most end old new
