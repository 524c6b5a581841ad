-- A loaded node that listens, takes the measures, and turns.
use Rattle.std.proofs.Common.{◌≡◌, ◌⊎◌, ◌∙◌, ℕ, ◌+◌, ◌<◌, Option, None, Some, List, [], ◌∷◌, ◌++◌, length, inl, inr, refl, sym, ap, ap₂, subst, arith, append-nil, length-append}
use Rattle.std.specs.Prelude.{◌==◌, if◌then◌else◌, Bool, true, false}
use Rattle.std.specs.Option.{option_map}
use Rattle.std.proofs.lemmas.List.{append_assoc}
use Rattle.oc_base.specs.Groups.{shelf}
use Rattle.oc_base.specs.declared.shelf.Shelf.{Shelf}
use Rattle.oc_link.specs.Told.{AddsAll}
use Rattle.oc_link.specs.declared.call.Call.{Call}
use Rattle.oc_link.specs.declared.counts.LinkCounts.{LinkCounts}
use Rattle.oc_link.specs.declared.event.LinkEvent.TheVariants as events
use Rattle.oc_io.specs.DiskView.{DiskView}
use Rattle.oc_keep.specs.KeptView.{IsHonest, KeptView, node_of}
use Rattle.oc_model.specs.declared.input.Input.{Input}
use Rattle.oc_model.specs.declared.input.Input.TheVariants.{Measured}
use Rattle.oc_deeds.specs.Deeds.{Deed, Running, Says, Setting, Takes, after_all, calls_of}
use Rattle.oc_deeds.specs.Under.{Cuts}
use Rattle.oc_server.specs.Parts.{Stops}
use Rattle.oc_deeds.specs.Records.{told_ahead}
use Rattle.oc_server.specs.Runs.{MayRead, ServeEnds, ServesUpTo, TurnStops, due_in, reads_by}
use Rattle.oc_server.specs.Scenes.{BreaksAfter, Did, running, setting}
use Rattle.oc_deeds.specs.Settled.{AreServed, IsSettled}
use Rattle.oc_server.specs.Settled.{deeds_until, deeds_up_to}
use Rattle.oc_deeds.specs.Turns.{Observation, terms_in}
use Rattle.oc_deeds.specs.declared.came.Came.TheVariants as comes
use Rattle.oc_deeds.specs.declared.ends.TurnEnd.{TurnEnd}
use Rattle.oc_deeds.specs.declared.ends.TurnEnd.TheVariants as ends
use Rattle.oc_server.specs.declared.server.Server.{Server}
use Rattle.oc_server.specs.declared.turns.Turns.{Turns}
use Rattle.oc_deeds.specs.declared.work.Work.{Work}
use Rattle.oc_updown.specs.declared.measure_lines.Measure.{Measure}
use Rattle.oc_deeds.proofs.Chains.{calls_append}
use Rattle.oc_deeds.proofs.Cuts.{cuts_behind, cuts_more}
use Rattle.oc_server.proofs.Scenes.{breaks_then, did_then, setting_stays, still_honest}
use Rattle.oc_service.specs.Measuring.{begins_with}
use Rattle.oc_service.specs.Running.{Halts, Listens, RunEnds, Runs, machine}
use Rattle.oc_service.specs.WhatNodeDoes.{Machine, begins, begins_on, begun, after_turns, due_at, machine_after, node_deeds, own_measure, own_measures, turn_deeds, turns_deeds}
use Rattle.oc_service.specs.WhatNodeGives.{ServesFrom}
use Rattle.oc_service.specs.WhatNodeHears.{AreHeard, MayHear, MayReread, all_calls_after, until}
use Rattle.oc_deeds.specs.declared.reread.Reread.TheVariants as rereads
use Rattle.oc_link.specs.declared.look.Look.TheVariants as looks
use Rattle.oc_service.proofs.Machines.{Made, heard_at, machine_of, made, made_deeds}
use Rattle.oc_service.proofs.Replies.{begins_quiet, begins_works, serves_behind, serves_front}
use Rattle.oc_service.proofs.Stories.{Follows, follows_adds, follows_self, follows_then, until_then}

-- taking the measures makes no call
one_calls : (s : Setting) (text : List ℕ) (i : Input) (a : Running) (b : Bool) → calls_of s (if b then Says text ∷ Takes i ∷ [] else []) a ≡ []
one_calls s text i a true = refl
one_calls s text i a false = refl

own_calls : (s t : Setting) (ms : List Measure) (a : Running) → calls_of s (own_measures t ms) a ≡ []
own_calls s t [] a = refl
own_calls s t (x ∷ ms) a =
    calls_append s (own_measure t x) (own_measures t ms) a
    ∙ ap₂ (λ (p q : List Call). p ++ q) (one_calls s (told_ahead t.log t.me (Measured x.peer x.rate x.hops)) (Measured x.peer x.rate x.hops) a (x.from == t.me)) (own_calls s t ms (after_all (own_measure t x) a))

none_more : (cs : List Call) → cs ≡ [] → (calls : Option (List Call)) → option_map (λ (c : List Call). c ++ cs) calls ≡ calls
none_more cs is None = refl
none_more cs is (Some p) = ap Some (ap (λ (x : List Call). p ++ x) is ∙ append-nil p)

module _ {D L K : Type 0} (view : D → DiskView) (takes fails : K → List ℕ → K → Type 0) (faults : K → ℕ) (story : L → Option (List Call)) (counts : L → LinkCounts)
    (takes_nothing : (k : K) → takes k [] k) (takes_then : (a b c : K) (x y : List ℕ) → takes a x b → takes b y c → takes a (x ++ y) c)
    (most : ℕ) (old : Turns D L K) (held : IsHonest view old.server.kept → old.server.kept.content.shelves ≡ shelf (node_of old.server.kept).groups)
    (listening : Server D L K) (listens : Listens story counts old.server listening) where
  abbrev s : Setting
  s = setting old.server

  -- the deeds before the first turn
  abbrev own : List Deed
  own = begins_on s old.server.config.measures old.server.kept.node.control old.server.kept.content.shelves

  -- the deeds of the beginning, over honest disks those of the node
  abbrev own_told : List Deed
  own_told = begins s old.server.config.measures (node_of old.server.kept)

  own_is : IsHonest view old.server.kept → own ≡ own_told
  own_is honest = ap (λ (shelves : List Shelf). begins_on s old.server.config.measures old.server.kept.node.control shelves) (held honest)

  abbrev m : Machine
  m = begun s old.server.config.measures (machine old)

  kept_is : listening.kept ≡ old.server.kept
  kept_is = ap (λ (x : Server D L K). x.kept) listens.rest

  -- the server that listens is the node as it was
  listening_running : running listening ≡ running old.server
  listening_running = ap (λ (x : Server D L K). running x) listens.rest

  listening_setting : setting listening ≡ s
  listening_setting = ap (λ (x : Server D L K). setting x) listens.rest

  honest_listening : IsHonest view old.server.kept → IsHonest view listening.kept
  honest_listening honest = subst (λ (k : KeptView D). IsHonest view k) (sym kept_is) honest

  -- the law of turns for the deeds since this server
  abbrev IsServedSince : Server D L K → List Deed → Option (List Call) → Type 0
  IsServedSince at ds z =
      (made later : List Call) → IsHonest view at.kept → story at.link ≡ Some made → z ≡ Some later → at.works ≡ [] → IsSettled made at.works → AreServed (setting at) made later ds (running at)

  module _ (at : Server D L K) (did : Did view takes faults story counts own listening at) where
    -- the state with which the turns begin
    abbrev first : Turns D L K
    first = record old { server = at }

    honest_at : IsHonest view old.server.kept → IsHonest view at.kept
    honest_at honest = still_honest view takes fails faults story counts own listening at did (honest_listening honest)

    setting_at : setting at ≡ s
    setting_at = setting_stays view takes fails faults story counts listening at did.same did.log ∙ listening_setting

    running_at : IsHonest view old.server.kept → running at ≡ after_all own (running old.server)
    running_at honest = (did.done (honest_listening honest)).after ∙ ap (λ (r : Running). after_all own r) listening_running

    machine_at : IsHonest view old.server.kept → machine first ≡ m
    machine_at honest = ap (λ (r : Running). machine_of r old.pace old.probing old.reading) (running_at honest)

    works_at : old.server.works ≡ [] → (after_all own (running old.server)).works ≡ []
    works_at none = begins_works s old.server.config.measures (node_of old.server.kept) (running old.server) ∙ none

    adds_at : IsHonest view old.server.kept → AddsAll (calls_of s own (running old.server)) (story listening.link) (story at.link)
    adds_at honest =
        subst (λ (r : Running). AddsAll (calls_of s own r) (story listening.link) (story at.link)) listening_running
        (subst (λ (x : Setting). AddsAll (calls_of x own (running listening)) (story listening.link) (story at.link)) listening_setting (did.done (honest_listening honest)).calls)

    -- replies served by the deeds since then are served by all deeds since the node listens
    serves_all : (ds all : List Deed) (z : Option (List Call)) → own ++ ds ≡ all → (IsHonest view old.server.kept → Follows (story at.link) z) → IsServedSince at ds z
        → IsHonest view old.server.kept → old.server.works ≡ [] → ServesFrom s all (running old.server) (story listening.link) z
    serves_all ds all z is follows served honest none =
        subst (λ (es : List Deed). ServesFrom s es (running old.server) (story listening.link) z) is
        (serves_behind s own (running old.server) (begins_quiet s old.server.config.measures (node_of old.server.kept)) none ds (running at) (story listening.link) (story at.link) z (works_at none) (running_at honest) (adds_at honest) (follows honest)
        (λ made later told behind settled.
        let left : at.works ≡ [] = ap (λ (r : Running). r.works) (running_at honest) ∙ works_at none in
        subst (λ (x : Setting). AreServed x made later ds (running at)) setting_at
        (served made later (honest_at honest) told behind left (subst (λ (ws : List Work). IsSettled made ws) (sym left) settled))))

    -- taking the measures makes no call
    calls_at : IsHonest view old.server.kept → (all : Option (List Call)) → Follows (story at.link) all → until (story at.link) all ≡ until (story listening.link) all
    calls_at honest all follows =
        until_then (calls_of (setting listening) own (running listening)) (story listening.link) (story at.link) all (did.done (honest_listening honest)).calls follows
        ∙ none_more (calls_of (setting listening) own (running listening)) (own_calls (setting listening) s old.server.config.measures (running listening)) (until (story listening.link) all)

    -- any number of turns was made
    module _ (n : ℕ) (last : Turns D L K) (turns : Made view takes fails faults story counts takes_nothing takes_then n first last) where
      abbrev all_deeds : List Deed
      all_deeds = own ++ turns.deeds

      did_all : Did view takes faults story counts all_deeds listening last.server
      did_all = did_then view takes fails faults story counts takes_then own turns.deeds listening at last.server did turns.did

      deeds_are : IsHonest view old.server.kept → all_deeds ≡ node_deeds s old.server.config.measures turns.told (machine old)
      deeds_are honest =
          ap (λ (ds : List Deed). own ++ ds)
          (turns.are (honest_at honest) ∙ ap₂ (λ (x : Setting) (y : Machine). turns_deeds x turns.told y) setting_at (machine_at honest))
          ∙ ap (λ (ds : List Deed). ds ++ turns_deeds s turns.told m) (own_is honest)

      machine_last : IsHonest view old.server.kept → machine last ≡ machine_after s old.server.config.measures turns.told (machine old)
      machine_last honest = turns.behind (honest_at honest) ∙ ap₂ (λ (x : Setting) (y : Machine). after_turns x turns.told y) setting_at (machine_at honest)

      -- the story at the beginning of the turns
      follows_at : IsHonest view old.server.kept → (all : Option (List Call)) → Follows (story last.server.link) all → Follows (story at.link) all
      follows_at honest all follows =
          follows_then (story at.link) (story last.server.link) all
          (follows_adds (calls_of (setting at) turns.deeds (running at)) (story at.link) (story last.server.link) (turns.did.done (honest_at honest)).calls) follows

      heard_all : IsHonest view old.server.kept → (all : Option (List Call)) → Follows (story last.server.link) all → AreHeard s (until (story listening.link) all) turns.told m
      heard_all honest all follows =
          subst (λ (calls : Option (List Call)). AreHeard s calls turns.told m) (calls_at honest all (follows_at honest all follows))
          (subst (λ (x : Machine). AreHeard s (until (story at.link) all) turns.told x) (machine_at honest)
          (subst (λ (x : Setting). AreHeard x (until (story at.link) all) turns.told (machine first)) setting_at
          (turns.heard (honest_at honest) all follows)))

      calls_last : IsHonest view old.server.kept → (all : Option (List Call)) → Follows (story last.server.link) all
          → until (story last.server.link) all ≡ all_calls_after s turns.told m (until (story listening.link) all)
      calls_last honest all follows =
          turns.calls (honest_at honest) all follows
          ∙ ap₂ (λ (x : Setting) (y : Machine). all_calls_after x turns.told y (until (story at.link) all)) setting_at (machine_at honest)
          ∙ ap (λ (calls : Option (List Call)). all_calls_after s turns.told m calls) (calls_at honest all (follows_at honest all follows))

      follows_made : IsHonest view old.server.kept → Follows (story at.link) (story last.server.link)
      follows_made honest = follows_at honest (story last.server.link) (follows_self (story last.server.link))

      runs : n ≡ most → IsServedSince at turns.deeds (story last.server.link) → Runs view takes faults story counts most old last
      runs is served = record {
        listening = listening;
        listens = listens;
        told = turns.told;
        many = turns.many ∙ is;
        deeds = all_deeds;
        did = did_all;
        are = deeds_are;
        heard = λ honest. heard_all honest (story last.server.link) (follows_self (story last.server.link));
        serves = serves_all turns.deeds all_deeds (story last.server.link) refl follows_made served;
      }

      -- the observation of a turn that ended partway through
      module _ (end : TurnEnd) (new : Turns D L K) (few : n < most) (turn_stops : TurnStops view takes fails faults story counts end last new) where
        abbrev last_told : Observation
        last_told = turn_stops.told

        abbrev stop_deeds : List Deed
        stop_deeds = turn_stops.stops.deeds

        honest_last : IsHonest view old.server.kept → IsHonest view last.server.kept
        honest_last honest = still_honest view takes fails faults story counts turns.deeds at last.server turns.did (honest_at honest)

        setting_last : setting last.server ≡ s
        setting_last = setting_stays view takes fails faults story counts at last.server turns.did.same turns.did.log ∙ setting_at

        abbrev behind : Machine
        behind = machine_after s old.server.config.measures turns.told (machine old)

        abbrev whole : List Deed
        whole = node_deeds s old.server.config.measures turns.told (machine old)

        cut_all : IsHonest view old.server.kept → Cuts (whole ++ turn_deeds s last_told behind) (all_deeds ++ stop_deeds) turn_stops.stops.under
        cut_all honest =
            subst (λ (ds : List Deed). Cuts (whole ++ turn_deeds s last_told behind) (ds ++ stop_deeds) turn_stops.stops.under) (sym (deeds_are honest))
            (cuts_behind whole (turn_deeds s last_told behind) stop_deeds turn_stops.stops.under
            (subst (λ (x : Machine). Cuts (turn_deeds s last_told x) stop_deeds turn_stops.stops.under) (machine_last honest)
            (subst (λ (x : Setting). Cuts (turn_deeds x last_told (machine last)) stop_deeds turn_stops.stops.under) setting_last
            (turn_stops.stops.cut (honest_last honest)))))

        -- the story is told until then where it is told now
        follows_last : IsHonest view old.server.kept → Follows (story last.server.link) (story new.server.link)
        follows_last honest = follows_broken turn_stops.stops.breaks where
          follows_broken : BreaksAfter view takes fails faults story counts end stop_deeds turn_stops.stops.under last.server new.server → Follows (story last.server.link) (story new.server.link)
          follows_broken (x, did, breaks) =
              subst (λ (y : Option (List Call)). Follows (story last.server.link) y) (sym breaks.told)
              (follows_adds (calls_of (setting last.server) stop_deeds (running last.server)) (story last.server.link) (story x.link) (did.done (honest_last honest)).calls)

        last_heard : IsHonest view old.server.kept
            → (length (all_deeds ++ stop_deeds) < length whole + 3) ⊎ MayHear (terms_in s behind.running) (all_calls_after s turns.told m (until (story listening.link) (story new.server.link))) (due_at last_told behind) last_told behind
        last_heard honest = by_read (turn_stops.read (honest_last honest)) where
          heard_now : (due : Option ℕ) → MayRead story due last new.server last_told → MayHear (reads_by last.server) (until (story last.server.link) (story new.server.link)) due last_told (machine last)
          heard_now due read = heard_at view takes fails faults story counts takes_nothing takes_then due last new.server last_told (story new.server.link) (follows_self (story new.server.link)) read

          by_read : (length stop_deeds < 3) ⊎ MayRead story (due_in last.server last_told.before) last new.server last_told
              → (length (all_deeds ++ stop_deeds) < length whole + 3) ⊎ MayHear (terms_in s behind.running) (all_calls_after s turns.told m (until (story listening.link) (story new.server.link))) (due_at last_told behind) last_told behind
          by_read (inl short) = inl (omega (arith, length-append all_deeds stop_deeds, ap length (deeds_are honest), short))
          by_read (inr read) = inr
              (subst (λ (calls : Option (List Call)). MayHear (terms_in s behind.running) calls (due_at last_told behind) last_told behind) (calls_last honest (story new.server.link) (follows_last honest))
              (subst (λ (x : Machine). MayHear (terms_in s x.running) (until (story last.server.link) (story new.server.link)) (due_at last_told x) last_told x) (machine_last honest)
              (subst (λ (x : Setting). MayHear (terms_in x (running last.server)) (until (story last.server.link) (story new.server.link)) (due_at last_told (machine last)) last_told (machine last)) setting_last
              (heard_now (due_in last.server last_told.before) read))))

        last_reread : IsHonest view old.server.kept → MayReread last_told behind
        last_reread honest = subst (λ (x : Machine). MayReread last_told x) (machine_last honest) turn_stops.again

        halts : IsServedSince at (turns.deeds ++ stop_deeds) (story new.server.link) → Halts view takes fails faults story counts most end old new
        halts served = record {
          listening = listening;
          listens = listens;
          told = turns.told;
          last = last_told;
          deeds = all_deeds ++ stop_deeds;
          under = turn_stops.stops.under;
          few = inl (omega (arith, few, turns.many));
          breaks = breaks_then view takes fails faults story counts takes_then all_deeds stop_deeds turn_stops.stops.under end listening last.server new.server did_all turn_stops.stops.breaks;
          cut = cut_all;
          heard = λ honest. heard_all honest (story new.server.link) (follows_last honest);
          last_heard = last_heard;
          last_reread = last_reread;
          serves = serves_all (turns.deeds ++ stop_deeds) (all_deeds ++ stop_deeds) (story new.server.link) (sym (append_assoc own turns.deeds stop_deeds))
              (λ honest. follows_at honest (story new.server.link) (follows_last honest)) served;
        }

    halts_of : (end : TurnEnd) (new : Turns D L K) (up : ServesUpTo view takes fails faults story counts most end first new)
        → IsServedSince at (deeds_up_to view takes fails faults story counts most end first new up) (story new.server.link) → Halts view takes fails faults story counts most end old new
    halts_of end new up served =
        halts up.done up.at (made view takes fails faults story counts takes_nothing takes_then up.done first up.at did.is_open up.serves) end new up.few up.stops
        (subst (λ (ds : List Deed). IsServedSince at (ds ++ up.stops.stops.deeds) (story new.server.link))
        (sym (made_deeds view takes fails faults story counts takes_nothing takes_then up.done first up.at did.is_open up.serves)) served)

    -- the end of the turns
    pub serve_ends : (end : TurnEnd) (new : Turns D L K) (ended : ServeEnds view takes fails faults story counts most end first new)
        → IsServedSince at (deeds_until view takes fails faults story counts most end first new ended) (story new.server.link) → RunEnds view takes fails faults story counts most end old new
    serve_ends ends.Served new h served =
        runs most new (made view takes fails faults story counts takes_nothing takes_then most first new did.is_open h) refl
        (subst (λ (ds : List Deed). IsServedSince at ds (story new.server.link)) (sym (made_deeds view takes fails faults story counts takes_nothing takes_then most first new did.is_open h)) served)
    serve_ends ends.Link new h served = inr (halts_of ends.Link new h served)
    serve_ends ends.Disk new h served = halts_of ends.Disk new h served
    serve_ends ends.Full new h served = halts_of ends.Full new h served
    serve_ends ends.Sink new h served = halts_of ends.Sink new h served
    serve_ends ends.Memory new h served = halts_of ends.Memory new h served

  -- The run ended before its first turn

  -- a quiet observation, for the turn that did not begin
  abbrev no_told : Observation
  no_told = record { before = 0; event = events.Quiet; bytes = []; came = comes.Nothing; now = 0; median = 0; started = 0; seconds = 0; look = looks.Nothing; reread = rereads.Nothing }

  module _ (end : TurnEnd) (new : Turns D L K) (stops : Stops view takes fails faults story counts end (begins_with old.server.config.measures) listening new.server) where
    front : IsHonest view old.server.kept → Cuts own_told stops.deeds stops.under
    front honest =
        subst (λ (x : Server D L K). Cuts (begins (setting x) old.server.config.measures (node_of x.kept)) stops.deeds stops.under) listens.rest (stops.cut (honest_listening honest))

    calls_stopped : IsHonest view old.server.kept → AddsAll (calls_of s stops.deeds (running old.server)) (story listening.link) (story new.server.link)
    calls_stopped honest = by_breaks stops.breaks where
      by_breaks : BreaksAfter view takes fails faults story counts end stops.deeds stops.under listening new.server → AddsAll (calls_of s stops.deeds (running old.server)) (story listening.link) (story new.server.link)
      by_breaks (x, did, breaks) =
          subst (λ (y : Option (List Call)). AddsAll (calls_of s stops.deeds (running old.server)) (story listening.link) y) (sym breaks.told)
          (subst (λ (r : Running). AddsAll (calls_of s stops.deeds r) (story listening.link) (story x.link)) listening_running
          (subst (λ (y : Setting). AddsAll (calls_of y stops.deeds (running listening)) (story listening.link) (story x.link)) listening_setting (did.done (honest_listening honest)).calls))

    early : Halts view takes fails faults story counts most end old new
    early = record {
      listening = listening;
      listens = listens;
      told = [];
      last = no_told;
      deeds = stops.deeds;
      under = stops.under;
      few = inr front;
      breaks = stops.breaks;
      cut = λ honest.
          cuts_more (own_told ++ []) (turn_deeds s no_told (machine_after s old.server.config.measures [] (machine old))) stops.deeds stops.under
          (cuts_more own_told [] stops.deeds stops.under (front honest));
      heard = λ honest. tt;
      last_heard = λ honest. inl (omega (arith, ap length (front honest).front, length-append stops.deeds (front honest).behind, length-append own_told []));
      last_reread = λ honest. inl refl;
      serves = λ honest none.
          serves_front s own_told (running old.server) (begins_quiet s old.server.config.measures (node_of old.server.kept)) none stops.deeds (front honest).behind (story listening.link) (story new.server.link) (front honest).front (calls_stopped honest);
    }

  pub early_ends : (end : TurnEnd) (new : Turns D L K) → Stops view takes fails faults story counts end (begins_with old.server.config.measures) listening new.server
      → RunEnds view takes fails faults story counts most end old new
  early_ends ends.Served new stops = absurd stops.breaks.2.cause
  early_ends ends.Link new stops = inr (early ends.Link new stops)
  early_ends ends.Disk new stops = early ends.Disk new stops
  early_ends ends.Full new stops = early ends.Full new stops
  early_ends ends.Sink new stops = early ends.Sink new stops
  early_ends ends.Memory new stops = early ends.Memory new stops

  -- the measures of the server that listens

  pub served_ends : (at : Server D L K) → Did view takes faults story counts (begins_on (setting listening) listening.config.measures listening.kept.node.control listening.kept.content.shelves) listening at
      → (end : TurnEnd) (new : Turns D L K) (ended : ServeEnds view takes fails faults story counts most end (record old { server = at }) new)
      → IsServedSince at (deeds_until view takes fails faults story counts most end (record old { server = at }) new ended) (story new.server.link) → RunEnds view takes fails faults story counts most end old new
  served_ends at did =
      serve_ends at (subst (λ (ds : List Deed). Did view takes faults story counts ds listening at) (ap (λ (x : Server D L K). begins_on (setting x) x.config.measures x.kept.node.control x.kept.content.shelves) listens.rest) did)

  pub halted_ends : (end : TurnEnd) (new : Turns D L K) → Stops view takes fails faults story counts end (begins_with listening.config.measures) listening new.server
      → RunEnds view takes fails faults story counts most end old new
  halted_ends end new stops =
      early_ends end new (subst (λ (ms : List Measure). Stops view takes fails faults story counts end (begins_with ms) listening new.server) (ap (λ (x : Server D L K). x.config.measures) listens.rest) stops)
