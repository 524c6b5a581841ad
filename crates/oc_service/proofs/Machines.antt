-- Turns of a server, as turns of the machine of a node's deeds.
use Rattle.std.proofs.Common.{◌≡◌, ◌∙◌, ℕ, zero, suc, Bool, false, Option, None, Some, List, [], ◌∷◌, ◌++◌, length, refl, sym, ap, ap₂, subst}
use Rattle.oc_link.specs.Told.{AddsAll}
use Rattle.oc_link.specs.declared.call.Call.{Call}
use Rattle.oc_link.specs.declared.counts.LinkCounts.{LinkCounts}
use Rattle.oc_io.specs.DiskView.{DiskView}
use Rattle.oc_keep.specs.KeptView.{IsHonest}
use Rattle.oc_deeds.specs.Deeds.{Deed, Running, Setting, after_all, calls_of}
use Rattle.oc_server.specs.Runs.{MayRead, Serves, Turned, due_in, reads_by}
use Rattle.oc_server.specs.Scenes.{Did, running, setting}
use Rattle.oc_server.specs.Settled.{deeds_of}
use Rattle.oc_deeds.specs.Turns.{Observation, turn}
use Rattle.oc_deeds.specs.declared.pace.Pace.{Pace}
use Rattle.oc_server.specs.declared.server.Server.{Server}
use Rattle.oc_server.specs.declared.turns.Turns.{Turns}
use Rattle.oc_probe.specs.declared.probing.Probing.{Probing}
use Rattle.oc_server.proofs.Parts.{behind_part}
use Rattle.oc_server.proofs.Scenes.{did_none, did_then, setting_stays, still_honest}
use Rattle.oc_service.specs.Running.{machine}
use Rattle.oc_service.specs.WhatNodeDoes.{Machine, after_turn, after_turns, turn_deeds, turns_deeds}
use Rattle.oc_service.specs.WhatNodeHears.{AreHeard, MayHear, all_calls_after, calls_after, until}
use Rattle.oc_service.proofs.Stories.{Follows, follows_adds, follows_then, lent_until, until_then}

abbrev pub machine_of : Running → Pace → Option Probing → Option (List ℕ) → Machine
machine_of running pace probing reading = record { running = running; pace = pace; probing = probing; reading = reading }

module _ {D L K : Type 0} (view : D → DiskView) (takes fails : K → List ℕ → K → Type 0) (faults : K → ℕ) (story : L → Option (List Call)) (counts : L → LinkCounts)
    (takes_nothing : (k : K) → takes k [] k) (takes_then : (a b c : K) (x y : List ℕ) → takes a x b → takes b y c → takes a (x ++ y) c) where
  -- Turns that were made, as turns of the machine.
  pub record Made (n : ℕ) (old new : Turns D L K) : Type 0 where
    pub told : List Observation
    pub many : length told ≡ n
    pub deeds : List Deed
    pub did : Did view takes faults story counts deeds old.server new.server
    pub are : IsHonest view old.server.kept → deeds ≡ turns_deeds (setting old.server) told (machine old)
    pub behind : IsHonest view old.server.kept → machine new ≡ after_turns (setting old.server) told (machine old)
    pub heard : IsHonest view old.server.kept → (all : Option (List Call)) → Follows (story new.server.link) all
        → AreHeard (setting old.server) (until (story old.server.link) all) told (machine old)
    pub calls : IsHonest view old.server.kept → (all : Option (List Call)) → Follows (story new.server.link) all
        → until (story new.server.link) all ≡ all_calls_after (setting old.server) told (machine old) (until (story old.server.link) all)

  -- the event of a turn
  pub heard_at : (due : Option ℕ) (old : Turns D L K) (new : Server D L K) (t : Observation) (all : Option (List Call)) → Follows (story new.link) all
      → MayRead story due old new t → MayHear (reads_by old.server) (until (story old.server.link) all) due t (machine old)
  heard_at None old new t all follows read = record {
    lent = read.lent;
    is_lent = lent_until t.before (story old.server.link) (story new.link) all t.event t.bytes read.lent follows read.is_lent;
    means = read.means;
    measured = read.measured;
  }
  heard_at (Some place) old new t all follows read = tt

  -- the machine after a turn
  behind_one : {served : Bool} (old at : Turns D L K) → (turned : Turned view takes faults story counts served old at) → IsHonest view old.server.kept
      → machine at ≡ after_turn (setting old.server) turned.told (machine old)
  behind_one old at turned honest =
      ap (λ (r : Running). machine_of r at.pace at.probing at.reading) (behind_part view takes fails faults story counts (turn old.pace old.probing turned.told) old.server at.server turned.does honest)
      ∙ ap₂ (λ (p : Pace) (q : Option Probing). machine_of (after_all (turn_deeds (setting old.server) turned.told (machine old)) (running old.server)) p q at.reading) (turned.pace honest) (turned.probing honest)
      ∙ ap (λ (last : Option (List ℕ)). record (after_turn (setting old.server) turned.told (machine old)) { reading = last }) turned.reading

  -- the calls until the end of a turn
  calls_one : {served : Bool} (old at : Turns D L K) → (turned : Turned view takes faults story counts served old at) → IsHonest view old.server.kept
      → (all : Option (List Call)) → Follows (story at.server.link) all
      → until (story at.server.link) all ≡ calls_after (setting old.server) turned.told (machine old) (until (story old.server.link) all)
  calls_one old at turned honest all follows =
      until_then (calls_of (setting old.server) (turn_deeds (setting old.server) turned.told (machine old)) (running old.server)) (story old.server.link) (story at.server.link) all
      (subst (λ (ds : List Deed). AddsAll (calls_of (setting old.server) ds (running old.server)) (story old.server.link) (story at.server.link)) (turned.does.are honest) (turned.does.did.done honest).calls) follows

  -- no turn
  made_none : (old new : Turns D L K) → old.server.kept.closed ≡ false → new ≡ old → Made zero old new
  made_none old new is_open same = record {
    told = [];
    many = refl;
    deeds = [];
    did = subst (λ (t : Turns D L K). Did view takes faults story counts [] old.server t.server) (sym same) (did_none view takes fails faults story counts takes_nothing old.server is_open);
    are = λ honest. refl;
    behind = λ honest. ap (λ (t : Turns D L K). machine t) same;
    heard = λ honest all follows. tt;
    calls = λ honest all follows. ap (λ (t : Turns D L K). until (story t.server.link) all) same;
  }

  -- turns after one
  made_more : {served : Bool} (n : ℕ) (old at new : Turns D L K) → Turned view takes faults story counts served old at → Made n at new → Made (suc n) old new
  made_more n old at new turned made = record {
    told = turned.told ∷ made.told;
    many = ap suc made.many;
    deeds = turned.does.deeds ++ made.deeds;
    did = did_then view takes fails faults story counts takes_then turned.does.deeds made.deeds old.server at.server new.server did made.did;
    are = λ honest.
        ap₂ (λ (x y : List Deed). x ++ y) (turned.does.are honest)
        (made.are (honest_at honest) ∙ ap₂ (λ (s : Setting) (m : Machine). turns_deeds s made.told m) setting_is (behind_one old at turned honest));
    behind = λ honest. made.behind (honest_at honest) ∙ ap₂ (λ (s : Setting) (m : Machine). after_turns s made.told m) setting_is (behind_one old at turned honest);
    heard = λ honest all follows. (
      (heard_at (due_in old.server turned.told.before) old at.server turned.told all (follows_at honest all follows) (turned.read honest), turned.again),
      subst (λ (calls : Option (List Call)). AreHeard (setting old.server) calls made.told (after_turn (setting old.server) turned.told (machine old))) (calls_one old at turned honest all (follows_at honest all follows))
          (subst (λ (m : Machine). AreHeard (setting old.server) (until (story at.server.link) all) made.told m) (behind_one old at turned honest)
          (subst (λ (s : Setting). AreHeard s (until (story at.server.link) all) made.told (machine at)) setting_is (made.heard (honest_at honest) all follows))),
    );
    calls = λ honest all follows.
        made.calls (honest_at honest) all follows
        ∙ ap₂ (λ (s : Setting) (m : Machine). all_calls_after s made.told m (until (story at.server.link) all)) setting_is (behind_one old at turned honest)
        ∙ ap (λ (calls : Option (List Call)). all_calls_after (setting old.server) made.told (after_turn (setting old.server) turned.told (machine old)) calls) (calls_one old at turned honest all (follows_at honest all follows));
  } where
    did : Did view takes faults story counts turned.does.deeds old.server at.server
    did = turned.does.did

    honest_at : IsHonest view old.server.kept → IsHonest view at.server.kept
    honest_at honest = still_honest view takes fails faults story counts turned.does.deeds old.server at.server did honest

    setting_is : setting at.server ≡ setting old.server
    setting_is = setting_stays view takes fails faults story counts old.server at.server did.same did.log

    -- the story at the end of the first turn is told where the later one is
    follows_at : IsHonest view old.server.kept → (all : Option (List Call)) → Follows (story new.server.link) all → Follows (story at.server.link) all
    follows_at honest all follows =
        follows_then (story at.server.link) (story new.server.link) all
        (follows_adds (calls_of (setting at.server) made.deeds (running at.server)) (story at.server.link) (story new.server.link) (made.did.done (honest_at honest)).calls) follows

  -- turns of a server
  pub made : (n : ℕ) (old new : Turns D L K) → old.server.kept.closed ≡ false → Serves view takes faults story counts n old new → Made n old new
  made zero old new is_open same = made_none old new is_open same
  made (suc n) old new is_open (served, at, turned, rest) = made_more n old at new turned (made n at new turned.does.did.is_open rest)

  -- the deeds of the machine are those of the turns one by one
  pub made_deeds : (n : ℕ) (old new : Turns D L K) (is_open : old.server.kept.closed ≡ false) (serves : Serves view takes faults story counts n old new)
      → (made n old new is_open serves).deeds ≡ deeds_of view takes faults story counts n old new serves
  unfolding made made_none made_more
  made_deeds zero old new is_open same = refl
  made_deeds (suc n) old new is_open (served, at, turned, rest) = ap (λ (ds : List Deed). turned.does.deeds ++ ds) (made_deeds n at new turned.does.did.is_open rest)
