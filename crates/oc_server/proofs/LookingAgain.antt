-- A turn: what came or was due is dealt with, and then the file of the configuration is looked at.
use Rattle.std.proofs.Common.{◌≡◌, ◌⊎◌, ◌<◌, ◌++◌, ◌∷◌, ℕ, Bool, Option, None, Some, List, [], length, inl, inr, refl, sym, ap, subst, ◌∙◌}
use Rattle.oc_config.specs.Settings.{Settings}
use Rattle.oc_link.specs.Told.{AddsAll}
use Rattle.oc_link.specs.declared.call.Call.{Call}
use Rattle.oc_link.specs.declared.counts.LinkCounts.{LinkCounts}
use Rattle.oc_link.specs.declared.event.LinkEvent.{LinkEvent}
use Rattle.oc_link.specs.declared.look.Look.TheVariants as looks
use Rattle.oc_io.specs.DiskView.{DiskView}
use Rattle.oc_keep.specs.KeptView.{IsHonest, node_of}
use Rattle.oc_base.specs.Groups.{shelf}
use Rattle.oc_model.specs.Node.{Node}
use Rattle.oc_probe.specs.declared.probing.Probing.{Probing}
use Rattle.oc_link.specs.declared.look.Look.{Look}
use Rattle.oc_deeds.specs.Choices.{due_index}
use Rattle.oc_deeds.specs.Deeds.{Deed, Looks, Reads, Running, Setting, after_all, calls_of}
use Rattle.oc_deeds.specs.Parts.{one}
use Rattle.oc_deeds.specs.Rereading.{MeansLook, goes_by, last_read, looks_again, probing_by}
use Rattle.oc_deeds.specs.Turns.{Observation, dealt, pace_after, probing_after, takes_at, turn}
use Rattle.oc_deeds.specs.declared.ends.TurnEnd.{TurnEnd}
use Rattle.oc_deeds.specs.Under.{Cuts, Idle}
use Rattle.oc_deeds.specs.declared.dials.Dialling.{Dialling}
use Rattle.oc_deeds.specs.declared.pace.Pace.{Pace}
use Rattle.oc_deeds.specs.declared.reread.Reread.{Reread}
use Rattle.oc_deeds.specs.declared.reread.Reread.TheVariants as rereads
use Rattle.oc_server.specs.Parts.{Does, Stops}
use Rattle.oc_server.specs.Runs.{CouldCome, HandleStops, Handled, IsLent, LookAgainStops, LooksAgain, MayRead, TurnStops, Turned, after_reading, config_at_look, due_in}
use Rattle.oc_server.specs.Scenes.{Breaks, BreaksAfter, running, setting}
use Rattle.oc_server.specs.declared.server.Server.{Server}
use Rattle.oc_server.specs.declared.turns.Turns.{Turns}
use Rattle.oc_deeds.proofs.Cuts.{cuts_more}
use Rattle.oc_server.proofs.Parts.{behind_part, does_as, does_then, stops_behind, stops_first}
use Rattle.oc_server.proofs.Scenes.{setting_stays, still_honest, still_renewed}

-- What is dealt with is the same whatever a look gave

-- the news of a turn with what a look gave
abbrev looking : Observation → Look → Reread → Observation
looking t look reread = record t { look = look; reread = reread }

taken_same : (due : Option ℕ) (pace : Pace) (probing : Option Probing) (t : Observation) (look : Look) (reread : Reread) (s : Setting) (a : Running)
    → takes_at due pace probing (looking t look reread) s a ≡ takes_at due pace probing t s a
taken_same None pace probing t look reread s a = refl
taken_same (Some place) pace probing t look reread s a = refl

dealt_same : (pace : Pace) (probing : Option Probing) (t : Observation) (look : Look) (reread : Reread) (s : Setting) (a : Running) → dealt pace probing (looking t look reread) s a ≡ dealt pace probing t s a
dealt_same pace probing t look reread s a = ap (λ (ds : List Deed). Reads t.before ∷ ds) (taken_same (due_index a.works (shelf a.node.groups) t.before) pace probing t look reread s a)

pace_same : (due : Option ℕ) (pace : Pace) (t : Observation) (look : Look) (reread : Reread) (n : Node) → pace_after due pace (looking t look reread) n ≡ pace_after due pace t n
pace_same None pace t look reread n = refl
pace_same (Some place) pace t look reread n = refl

probing_same : (due : Option ℕ) (t : Observation) (look : Look) (reread : Reread) (ds : List Dialling) (p : Option Probing) → probing_after due (looking t look reread) ds p ≡ probing_after due t ds p
probing_same None t look reread ds p = refl
probing_same (Some place) t look reread ds p = refl

module _ {D L K : Type 0} (view : D → DiskView) (takes fails : K → List ℕ → K → Type 0) (faults : K → ℕ) (story : L → Option (List Call)) (counts : L → LinkCounts) where
  config_same : (old : Turns D L K) (t : Observation) (look : Look) (reread : Reread) → config_at_look old (looking t look reread) ≡ config_at_look old t
  config_same old t look reread =
      ap (λ (ds : List Deed). (after_all ds (running old.server)).config) (dealt_same old.pace old.probing t look reread (setting old.server) (running old.server))

  read_same : (due : Option ℕ) (old : Turns D L K) (new : Server D L K) (t : Observation) (look : Look) (reread : Reread) → MayRead story due old new t → MayRead story due old new (looking t look reread)
  read_same None old new t look reread read = record { lent = read.lent; is_lent = read.is_lent; could = read.could; means = read.means; measured = read.measured }
  read_same (Some place) old new t look reread read = tt

  -- What was read is told at a later moment, too

  lent_on : (x y z : Option (List Call)) (event : LinkEvent) (bytes lent : List ℕ) (more : List Call) → AddsAll more y z → IsLent x y event bytes lent → IsLent x z event bytes lent
  lent_on None y z event bytes lent more adds is = tt
  lent_on (Some x) y None event bytes lent more adds is = tt
  lent_on (Some x) None (Some z) event bytes lent more adds is = absurd adds
  lent_on (Some x) (Some y) (Some z) event bytes lent more adds is = is

  could_on : (x y z : Option (List Call)) (event : LinkEvent) (more : List Call) → AddsAll more y z → CouldCome x y event → CouldCome x z event
  could_on None y z event more adds could = tt
  could_on (Some x) y None event more adds could = tt
  could_on (Some x) None (Some z) event more adds could = absurd adds
  could_on (Some x) (Some y) (Some z) event more adds could = could

  read_on : (due : Option ℕ) (old : Turns D L K) (at new : Server D L K) (t : Observation) (more : List Call) → AddsAll more (story at.link) (story new.link)
      → MayRead story due old at t → MayRead story due old new t
  read_on None old at new t more adds read = record {
    lent = read.lent;
    is_lent = lent_on (after_reading t.before (story old.server.link)) (story at.link) (story new.link) t.event t.bytes read.lent more adds read.is_lent;
    could = could_on (after_reading t.before (story old.server.link)) (story at.link) (story new.link) t.event more adds read.could;
    means = read.means;
    measured = read.measured;
  }
  read_on (Some place) old at new t more adds read = tt

  -- A turn after what came or was due was dealt with
  module _ (takes_then : (a b c : K) (x y : List ℕ) → takes a x b → takes b y c → takes a (x ++ y) c) (old at new : Turns D L K) where
    honest_at : {served : Bool} → Handled view takes faults story counts served old at → IsHonest view old.server.kept → IsHonest view at.server.kept
    honest_at handled honest = still_honest view takes fails faults story counts handled.does.deeds old.server at.server handled.does.did honest

    -- the configuration when the file is looked at
    config_is : {served : Bool} → (handled : Handled view takes faults story counts served old at) → IsHonest view old.server.kept → at.server.config ≡ config_at_look old handled.told
    config_is handled honest =
        ap (λ (r : Running). r.config) (behind_part view takes fails faults story counts (dealt old.pace old.probing handled.told) old.server at.server handled.does honest)

    pub turned_looked : {served : Bool} → Handled view takes faults story counts served old at → LooksAgain view takes faults story counts at new → Turned view takes faults story counts served old new
    turned_looked {served} handled looked = record {
      told = told;
      renews = still_renewed view takes fails faults story counts handled.does.deeds looked.does.deeds old.server at.server new.server handled.does.did looked.does.did handled.renews;
      does = does_then view takes fails faults story counts takes_then (dealt old.pace old.probing told) (looks_again looked.look looked.reread) old.server at.server new.server
          (does_as view takes fails faults story counts (dealt old.pace old.probing handled.told) (dealt old.pace old.probing told) old.server at.server
          (λ honest. dealt_same old.pace old.probing handled.told looked.look looked.reread (setting old.server) (running old.server)) handled.does) looked.does;
      read = λ honest.
          read_on (due_in old.server handled.told.before) old at.server new.server told (calls_of (setting at.server) looked.does.deeds (running at.server))
          (looked.does.did.done (honest_at handled honest)).calls (read_same (due_in old.server handled.told.before) old at.server handled.told looked.look looked.reread (handled.read honest));
      again = subst (λ (last : Option (List ℕ)). MeansLook last looked.look looked.reread) handled.reading looked.means;
      serves = handled.serves;
      pace = λ honest. looked.pace ∙ handled.pace honest ∙ sym (pace_same (due_in old.server handled.told.before) old.pace handled.told looked.look looked.reread (node_of old.server.kept));
      probing = λ honest.
          looked.probing (honest_at handled honest)
          ∙ ap (λ (s : Setting). probing_by s at.server.config looked.reread at.probing) (setting_stays view takes fails faults story counts old.server at.server handled.does.did.same handled.does.did.log)
          ∙ ap (λ (c : Settings). probing_by (setting old.server) c looked.reread at.probing) (config_is handled honest)
          ∙ ap (λ (c : Settings). probing_by (setting old.server) c looked.reread at.probing) (sym (config_same old handled.told looked.look looked.reread))
          ∙ ap (λ (p : Option Probing). probing_by (setting old.server) (config_at_look old told) looked.reread p)
          (handled.probing honest ∙ sym (probing_same (due_in old.server handled.told.before) handled.told looked.look looked.reread old.server.dials old.probing));
      reading = looked.reading ∙ ap (λ (last : Option (List ℕ)). last_read looked.look last) handled.reading;
    }
      where
        told : Observation
        told = looking handled.told looked.look looked.reread

    -- it ended while it dealt with what came or was due
    pub stopped_handling : (end : TurnEnd) → HandleStops view takes fails faults story counts end old new → TurnStops view takes fails faults story counts end old new
    stopped_handling end stopped = record {
      told = told;
      stops = record {
        deeds = stopped.stops.deeds;
        under = stopped.stops.under;
        breaks = stopped.stops.breaks;
        cut = λ honest.
            cuts_more (dealt old.pace old.probing told s a) (looks_again looks.Nothing rereads.Nothing s (after_all (dealt old.pace old.probing told s a) a)) stopped.stops.deeds stopped.stops.under
            (subst (λ (ds : List Deed). Cuts ds stopped.stops.deeds stopped.stops.under) (sym (dealt_same old.pace old.probing stopped.told looks.Nothing rereads.Nothing s a)) (stopped.stops.cut honest));
      };
      read = λ honest. elim (stopped.read honest) [
        | inl few ↦ inl few
        | inr read ↦ inr (read_same (due_in old.server stopped.told.before) old new.server stopped.told looks.Nothing rereads.Nothing read)
      ];
      again = inl refl;
    }
      where
        told : Observation
        told = looking stopped.told looks.Nothing rereads.Nothing

        s : Setting
        s = setting old.server

        a : Running
        a = running old.server

    -- or while it looked
    pub stopped_looking : {served : Bool} (end : TurnEnd) → Handled view takes faults story counts served old at → LookAgainStops view takes fails faults story counts end at new
        → TurnStops view takes fails faults story counts end old new
    stopped_looking end handled stopped = record {
      told = told;
      stops = stops_behind view takes fails faults story counts takes_then end (dealt old.pace old.probing told) (looks_again stopped.look stopped.reread) old.server at.server new.server
          (does_as view takes fails faults story counts (dealt old.pace old.probing handled.told) (dealt old.pace old.probing told) old.server at.server
          (λ honest. dealt_same old.pace old.probing handled.told stopped.look stopped.reread (setting old.server) (running old.server)) handled.does) stopped.stops;
      read = λ honest. inr (
          read_on (due_in old.server handled.told.before) old at.server new.server told (calls_of (setting at.server) stopped.stops.deeds (running at.server))
          (made stopped.stops.breaks (honest_at handled honest)) (read_same (due_in old.server handled.told.before) old at.server handled.told stopped.look stopped.reread (handled.read honest)));
      again = elim stopped.means [
        | inl none ↦ inl none
        | inr means ↦ inr (subst (λ (last : Option (List ℕ)). MeansLook last stopped.look stopped.reread) handled.reading means)
      ];
    }
      where
        told : Observation
        told = looking handled.told stopped.look stopped.reread

        made : BreaksAfter view takes fails faults story counts end stopped.stops.deeds stopped.stops.under at.server new.server → IsHonest view at.server.kept
            → AddsAll (calls_of (setting at.server) stopped.stops.deeds (running at.server)) (story at.server.link) (story new.server.link)
        made (x, did, breaks) honest =
            subst (λ (z : Option (List Call)). AddsAll (calls_of (setting at.server) stopped.stops.deeds (running at.server)) (story at.server.link) z) (sym breaks.told) (did.done honest).calls

  -- What a look gave

  module _ (takes_nothing : (k : K) → takes k [] k) (takes_then : (a b c : K) (x y : List ℕ) → takes a x b → takes b y c → takes a (x ++ y) c) (old : Turns D L K) (b : Server D L K) (new : Turns D L K)
      (look : Look) (does : Does view takes faults story counts (one (Looks look)) old.server b) where
    -- was gone by
    pub look_done : (reread : Reread) → Does view takes faults story counts (goes_by reread) b new.server → MeansLook old.reading look reread → new.reading ≡ last_read look old.reading → new.pace ≡ old.pace
        → new.probing ≡ probing_by (setting b) (running b).config reread old.probing → LooksAgain view takes faults story counts old new
    look_done reread gone means reading pace probing = record {
      look = look;
      reread = reread;
      does = does_then view takes fails faults story counts takes_then (one (Looks look)) (goes_by reread) old.server b new.server does gone;
      means = means;
      reading = reading;
      pace = pace;
      probing = λ honest.
          probing
          ∙ ap (λ (s : Setting). probing_by s (running b).config reread old.probing) (setting_stays view takes fails faults story counts old.server b does.did.same does.did.log)
          ∙ ap (λ (r : Running). probing_by (setting old.server) r.config reread old.probing) (behind_part view takes fails faults story counts (one (Looks look)) old.server b does honest);
    }

    -- was gone by in part
    pub look_stopped : (end : TurnEnd) (reread : Reread) → MeansLook old.reading look reread → Stops view takes fails faults story counts end (goes_by reread) b new.server
        → LookAgainStops view takes fails faults story counts end old new
    look_stopped end reread means stops = record {
      look = look;
      reread = reread;
      stops = stops_behind view takes fails faults story counts takes_then end (one (Looks look)) (goes_by reread) old.server b new.server does stops;
      means = inr means;
    }

    -- was not read, since memory ran out
    pub look_unread : (end : TurnEnd) → Breaks view takes fails faults story counts end Idle b new.server → LookAgainStops view takes fails faults story counts end old new
    look_unread end breaks = record {
      look = look;
      reread = rereads.Nothing;
      stops = stops_behind view takes fails faults story counts takes_then end (one (Looks look)) (goes_by rereads.Nothing) old.server b new.server does
          (stops_first view takes fails faults story counts takes_nothing end Idle (goes_by rereads.Nothing) b new.server does.did.is_open (λ honest. tt) breaks);
      means = inl refl;
    }
