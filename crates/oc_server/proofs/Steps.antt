-- Deeds, one at a time.
use Rattle.std.proofs.Common.{◌≡◌, ◌≤◌, length, ℕ, Bool, false, true, Option, None, Some, List, [], ◌∷◌, ◌++◌, refl, sym, ap, subst, ◌∙◌, arith}
use Rattle.std.proofs.lemmas.List.{append-nil}
use Rattle.std.specs.List.{AllByRecursion}
use Rattle.oc_link.specs.Counts.{CountsFailure}
use Rattle.oc_link.specs.Told.{AddsAll, GivesEvent, Told}
use Rattle.oc_link.specs.declared.call.Call.{Call}
use Rattle.oc_link.specs.declared.call.Call.TheVariants as acts
use Rattle.oc_link.specs.declared.counts.LinkCounts.{LinkCounts}
use Rattle.oc_link.specs.declared.event.LinkEvent.{LinkEvent}
use Rattle.oc_link.proofs.Stories.{adds-then}
use Rattle.oc_io.specs.DiskView.{DiskView}
use Rattle.oc_io.specs.Faults.{NoFall}
use Rattle.oc_keep.specs.Files.{AllGoOn, Survives}
use Rattle.oc_keep.specs.KeptView.{IsHonest, KeptView, NodeSurvives, disks_of, going_by, header_of, node_of}
use Rattle.oc_model.specs.declared.input.Input.{Input}
use Rattle.oc_model.specs.declared.message.Message.{Message}
use Rattle.oc_model.specs.Node.{Header, Node}
use Rattle.std.specs.Prelude.{unwrap_or}
use Rattle.oc_config.specs.Settings.{Settings}
use Rattle.oc_deeds.specs.Deeds.{Deed, Rereads, Running, after, calls, finish, deed_input, line, reread_line, reread_of}
use Rattle.oc_deeds.specs.Areas.{areas_among}
use Rattle.oc_deeds.specs.Changes.{Change, with_change}
use Rattle.oc_deeds.specs.Records.{is_record}
use Rattle.oc_deeds.proofs.ChangesOf.{change_none, keeps_areas}
use Rattle.oc_server.specs.Looks.{LooksOnly, LookStops}
use Rattle.oc_server.specs.Moments.{TakesOne}
use Rattle.oc_server.specs.Noting.{LineStops, NoteBreaks}
use Rattle.oc_deeds.specs.Done.{AreDone, CountsAll}
use Rattle.oc_server.specs.Scenes.{Breaks, Did, IsLawful, KeepsAll, running, setting}
use Rattle.oc_deeds.specs.Lawful.{IsLawfulWork, IsPlaced}
use Rattle.oc_policy.specs.declared.deciding.TheConstants.{MAX_RULES}
use Rattle.oc_deeds.specs.Under.{Idle}
use Rattle.oc_deeds.specs.declared.dials.Dialling.{Dialling}
use Rattle.oc_deeds.specs.declared.ends.TurnEnd.{TurnEnd}
use Rattle.oc_deeds.specs.declared.ends.TurnEnd.TheVariants as ends
use Rattle.oc_routes.specs.Sights.{about_of}
use Rattle.oc_routes.specs.Tallies.{TallyView}
use Rattle.oc_routes.specs.declared.about.About.{About}
use Rattle.oc_server.specs.declared.server.Server.{Server}
use Rattle.oc_deeds.specs.declared.work.Transfer.{Transfer}
use Rattle.oc_deeds.specs.declared.work.Work.{Work}
use Rattle.oc_server.proofs.Lawful.{lawful_of, seat_of, set_of}
use Rattle.oc_server.proofs.Looking.{go_on_none, looks_none, memory_looks}
use Rattle.oc_server.proofs.Moments.{prefix_none, prefix_one}
use Rattle.oc_server.proofs.Scenes.{done_none}

module _ {D L K : Type 0} (view : D → DiskView) (takes fails : K → List ℕ → K → Type 0) (faults : K → ℕ) (story : L → Option (List Call)) (counts : L → LinkCounts) where
  -- One deed that takes no input

  pub did_step : (d : Deed) (old new : Server D L K) → deed_input d ≡ None → reread_of d ≡ None → new.config ≡ old.config → new.log ≡ old.log
      → takes old.sink (line (setting old) d) new.sink → NoFall (faults old.sink) (faults new.sink)
      → CountsAll (d ∷ []) (counts old.link) (counts new.link) → LooksOnly view old.kept new.kept → (IsLawful old → IsLawful new)
      → (IsHonest view old.kept → running new ≡ after d (running old))
      → (IsHonest view old.kept → AddsAll (calls (setting old) d (running old)) (story old.link) (story new.link))
      → Did view takes faults story counts (d ∷ []) old new
  did_step d old new none unread config log text few counted looks lawful is made = record {
    is_open = looks.is_open;
    same = seat_of old.kept.node.control new.kept.node.control looks.same;
    recorded = λ is. record { each = (keeps_areas old.kept.node.control d unread, tt); areas = ap (λ (h : Header). h.areas) looks.same.header };
    config = config ∙ ap (λ (o : Option Settings). unwrap_or o old.config) (sym unread);
    set = set_of old new looks.same config log;
    log = log;
    goes_on = looks.goes_on;
    no_fall = few;
    counted = counted;
    keeps = subst (λ (o : Option Change). KeepsAll view (with_change o []) old.kept new.kept) (sym (change_none d none unread)) looks;
    lawful = lawful;
    text = subst (λ (t : List ℕ). takes old.sink t new.sink) (sym (append-nil (line (setting old) d))) text;
    done = λ honest. record {
      after = is honest;
      calls = subst (λ (cs : List Call). AddsAll cs (story old.link) (story new.link)) (sym (append-nil (calls (setting old) d (running old)))) (made honest);
    };
    moments = λ honest.
        prefix_one view (header_of old.kept.node.control) old.kept.node.control.me takes (line (setting old)) d (node_of old.kept) (disks_of old.kept) (disks_of new.kept) (disks_of new.kept) old.sink new.sink
        (looks.moments honest)
        (subst (λ (o : Option Input). TakesOne view (header_of old.kept.node.control) old.kept.node.control.me o (node_of old.kept) (disks_of new.kept) (disks_of new.kept)) (sym none) refl)
        text;
  }

  -- a deed that changes the works and the link
  pub did_works : (takes_nothing : (k : K) → takes k [] k) (d : Deed) (old : Server D L K) (ws : List Work) (link : L) → deed_input d ≡ None → reread_of d ≡ None → line (setting old) d ≡ []
      → old.kept.closed ≡ false → CountsAll (d ∷ []) (counts old.link) (counts link)
      → (AllByRecursion (IsLawfulWork old.kept.node.control.nodes old.kept.node.control.me) old.works → AllByRecursion (IsLawfulWork old.kept.node.control.nodes old.kept.node.control.me) ws)
      → record (running old) { works = ws } ≡ after d (running old) → AddsAll (calls (setting old) d (running old)) (story old.link) (story link)
      → Did view takes faults story counts (d ∷ []) old (record old { works = ws; link = link })
  did_works takes_nothing d old ws link none unread silent is_open counted lawful is made =
      did_step d old (record old { works = ws; link = link }) none unread refl refl (subst (λ (t : List ℕ). takes old.sink t old.sink) (sym silent) (takes_nothing old.sink)) (omega arith)
      counted (looks_none view old.kept is_open) (lawful_of old (record old { works = ws; link = link }) (record { me = refl; header = refl }) (λ all. all) lawful (λ all. all)) (λ honest. is) (λ honest. made)

  -- a deed that writes a line, and changes the works, the link and the counts
  pub did_line : (d : Deed) (old : Server D L K) (sink : K) (ws : List Work) (link : L) (tally : TallyView) → deed_input d ≡ None → reread_of d ≡ None
      → old.kept.closed ≡ false → CountsAll (d ∷ []) (counts old.link) (counts link) → takes old.sink (line (setting old) d) sink → NoFall (faults old.sink) (faults sink)
      → (AllByRecursion (IsLawfulWork old.kept.node.control.nodes old.kept.node.control.me) old.works → AllByRecursion (IsLawfulWork old.kept.node.control.nodes old.kept.node.control.me) ws)
      → record (running old) { works = ws; tally = tally } ≡ after d (running old) → AddsAll (calls (setting old) d (running old)) (story old.link) (story link)
      → Did view takes faults story counts (d ∷ []) old (record old { sink = sink; works = ws; link = link; tally = tally })
  did_line d old sink ws link tally none unread is_open counted text few lawful is made =
      did_step d old (record old { sink = sink; works = ws; link = link; tally = tally }) none unread refl refl text few counted (looks_none view old.kept is_open)
      (lawful_of old (record old { sink = sink; works = ws; link = link; tally = tally }) (record { me = refl; header = refl }) (λ all. all) lawful (λ all. all)) (λ honest. is) (λ honest. made)

  -- a deed after a look that changes the works, the link and the counts
  pub did_given : (takes_nothing : (k : K) → takes k [] k) (d : Deed) (old : Server D L K) (kept : KeptView D) (ws left : List Work) (link : L) (tally counts_to : TallyView) → deed_input d ≡ None → reread_of d ≡ None → line (setting old) d ≡ []
      → LooksOnly view old.kept kept → CountsAll (d ∷ []) (counts old.link) (counts link)
      → (AllByRecursion (IsLawfulWork old.kept.node.control.nodes old.kept.node.control.me) old.works → AllByRecursion (IsLawfulWork old.kept.node.control.nodes old.kept.node.control.me) ws)
      → after d (running old) ≡ record (running old) { works = left; tally = counts_to } → (IsHonest view old.kept → ws ≡ left) → (IsHonest view old.kept → tally ≡ counts_to)
      → (IsHonest view old.kept → AddsAll (calls (setting old) d (running old)) (story old.link) (story link))
      → Did view takes faults story counts (d ∷ []) old (record old { kept = kept; works = ws; link = link; tally = tally })
  did_given takes_nothing d old kept ws left link tally counts_to none unread silent looks counted lawful behind is tallied made =
      did_step d old (record old { kept = kept; works = ws; link = link; tally = tally }) none unread refl refl (subst (λ (t : List ℕ). takes old.sink t old.sink) (sym silent) (takes_nothing old.sink)) (omega arith)
      counted looks (lawful_of old (record old { kept = kept; works = ws; link = link; tally = tally }) (seat_of old.kept.node.control kept.node.control looks.same) (λ all. all) lawful (λ all. all))
      (λ honest.
      ap (λ (n : Node). record { node = n; outbox = old.outbox; works = ws; dials = old.dials; config = old.config; tally = tally; about = about_of old.about }) (looks.node honest)
      ∙ ap (λ (x : List Work). record { node = node_of old.kept; outbox = old.outbox; works = x; dials = old.dials; config = old.config; tally = tally; about = about_of old.about }) (is honest)
      ∙ ap (λ (t : TallyView). record { node = node_of old.kept; outbox = old.outbox; works = left; dials = old.dials; config = old.config; tally = t; about = about_of old.about }) (tallied honest)
      ∙ sym behind) made

  -- a deed that changes what is told of the program, and the link
  pub did_told : (takes_nothing : (k : K) → takes k [] k) (d : Deed) (old : Server D L K) (about : About) (link : L) → deed_input d ≡ None → reread_of d ≡ None → line (setting old) d ≡ []
      → old.kept.closed ≡ false → CountsAll (d ∷ []) (counts old.link) (counts link)
      → record (running old) { about = about_of about } ≡ after d (running old) → AddsAll (calls (setting old) d (running old)) (story old.link) (story link)
      → Did view takes faults story counts (d ∷ []) old (record old { about = about; link = link })
  did_told takes_nothing d old about link none unread silent is_open counted is made =
      did_step d old (record old { about = about; link = link }) none unread refl refl (subst (λ (t : List ℕ). takes old.sink t old.sink) (sym silent) (takes_nothing old.sink)) (omega arith)
      counted (looks_none view old.kept is_open) (lawful_of old (record old { about = about; link = link }) (record { me = refl; header = refl }) (λ all. all) (λ all. all) (λ all. all)) (λ honest. is) (λ honest. made)

  -- one that goes by another configuration, and by its areas
  pub did_reread : (takes_nothing : (k : K) → takes k [] k) (old : Server D L K) (config : Settings) (link : L) → old.kept.closed ≡ false
      → IsPlaced old.kept.node.control.nodes config.addresses → length config.rules ≤ MAX_RULES
      → (is_record old.log ≡ true → areas_among old.kept.node.control.nodes config.areas ≡ old.kept.node.control.areas)
      → AddsAll (acts.Report reread_line ∷ []) (story old.link) (story link) → counts link ≡ counts old.link
      → Did view takes faults story counts (Rereads config ∷ []) old
      (record old { kept = going_by (areas_among old.kept.node.control.nodes config.areas) old.kept; config = config; about = record old.about { refused = false }; link = link })
  did_reread takes_nothing old config link is_open placed rules still made counted = record {
    is_open = is_open;
    same = record { me = refl; header = refl };
    recorded = λ is. record { each = (still is, tt); areas = still is };
    config = refl;
    set = λ set. record { placed = placed; rules = rules; areas = refl; roomy = set.roomy };
    log = refl;
    goes_on = go_on_none view (disks_of old.kept);
    no_fall = omega arith;
    counted = counted;
    keeps = (old.kept, looks_none view old.kept is_open, looks_none view (going_by (areas_among old.kept.node.control.nodes config.areas) old.kept) is_open);
    lawful = lawful_of old (record old { kept = going_by (areas_among old.kept.node.control.nodes config.areas) old.kept; config = config; about = record old.about { refused = false }; link = link })
        (record { me = refl; header = refl }) (λ all. all) (λ all. all) (λ all. all);
    text = takes_nothing old.sink;
    done = λ honest. record { after = refl; calls = made };
    moments = λ honest.
        prefix_one view (header_of old.kept.node.control) old.kept.node.control.me takes (line (setting old)) (Rereads config) (node_of old.kept) (disks_of old.kept) (disks_of old.kept) (disks_of old.kept) old.sink old.sink
        (0, refl) refl (takes_nothing old.sink);
  }

  -- none, and the files were looked at
  pub did_look : (takes_nothing : (k : K) → takes k [] k) (old new : Server D L K) → new.config ≡ old.config → new.log ≡ old.log → new.about ≡ old.about → new.sink ≡ old.sink → new.link ≡ old.link
      → new.outbox ≡ old.outbox → new.works ≡ old.works → new.dials ≡ old.dials → new.tally ≡ old.tally → (IsLawful old → IsLawful new)
      → LooksOnly view old.kept new.kept → Did view takes faults story counts [] old new
  did_look takes_nothing old new config log about sink link outbox works dials tally lawful looks = record {
    is_open = looks.is_open;
    same = seat_of old.kept.node.control new.kept.node.control looks.same;
    recorded = λ is. record { each = tt; areas = ap (λ (h : Header). h.areas) looks.same.header };
    config = config;
    set = set_of old new looks.same config log;
    log = log;
    goes_on = looks.goes_on;
    no_fall = subst (λ (k : K). NoFall (faults old.sink) (faults k)) (sym sink) (omega arith);
    counted = ap counts link;
    keeps = looks;
    lawful = lawful;
    text = subst (λ (k : K). takes old.sink [] k) (sym sink) (takes_nothing old.sink);
    done = λ honest.
        let now : running new ≡ running old = is_same honest in
        subst (λ (r : Running). AreDone (setting old) [] (running old) r (story old.link) (story new.link)) (sym now)
        (subst (λ (l : L). AreDone (setting old) [] (running old) (running old) (story old.link) (story l)) (sym link) (done_none (setting old) (running old) (story old.link)));
    moments = λ honest.
        prefix_none view (header_of old.kept.node.control) old.kept.node.control.me takes (line (setting old)) (node_of old.kept) (disks_of old.kept) (disks_of new.kept) old.sink new.sink
        (looks.moments honest) sink;
  }
    where
      is_same : IsHonest view old.kept → running new ≡ running old
      is_same honest =
          ap (λ (n : Node). record { node = n; outbox = new.outbox; works = new.works; dials = new.dials; config = new.config; tally = new.tally; about = about_of new.about }) (looks.node honest)
          ∙ ap (λ (ms : List Message). record { node = node_of old.kept; outbox = ms; works = new.works; dials = new.dials; config = new.config; tally = new.tally; about = about_of new.about }) outbox
          ∙ ap (λ (ws : List Work). record { node = node_of old.kept; outbox = old.outbox; works = ws; dials = new.dials; config = new.config; tally = new.tally; about = about_of new.about }) works
          ∙ ap (λ (ds : List Dialling). record { node = node_of old.kept; outbox = old.outbox; works = old.works; dials = ds; config = new.config; tally = new.tally; about = about_of new.about }) dials
          ∙ ap (λ (c : Settings). record { node = node_of old.kept; outbox = old.outbox; works = old.works; dials = old.dials; config = c; tally = new.tally; about = about_of new.about }) config
          ∙ ap (λ (t : TallyView). record { node = node_of old.kept; outbox = old.outbox; works = old.works; dials = old.dials; config = old.config; tally = t; about = about_of new.about }) tally
          ∙ ap (λ (x : About). record (running old) { about = about_of x }) about

  -- A break at once

  -- memory ran out, or a disk failed in a look
  pub look_breaks : (takes_nothing : (k : K) → takes k [] k) (end : TurnEnd) (old new : Server D L K) → new.sink ≡ old.sink → story new.link ≡ story old.link → counts new.link ≡ counts old.link
      → LookStops view end old.kept new.kept → Breaks view takes fails faults story counts end Idle old new
  look_breaks takes_nothing ends.Memory old new sink told counted stops = record {
    text = subst (λ (k : K). takes old.sink [] k) (sym sink) (takes_nothing old.sink);
    leaves = stops.leaves;
    moments = stops.moments;
    goes_on = stops.goes_on;
    cause = tt;
    meets = tt;
    told = told;
    counted = counted;
  }
  look_breaks takes_nothing ends.Disk old new sink told counted stops = record {
    text = subst (λ (k : K). takes old.sink [] k) (sym sink) (takes_nothing old.sink);
    leaves = stops.leaves;
    moments = stops.moments;
    goes_on = stops.goes_on;
    cause = stops.cause;
    meets = tt;
    told = told;
    counted = counted;
  }
  look_breaks takes_nothing ends.Served old new sink told counted stops = absurd stops.cause
  look_breaks takes_nothing ends.Link old new sink told counted stops = absurd stops.cause
  look_breaks takes_nothing ends.Full old new sink told counted stops = absurd stops.cause
  look_breaks takes_nothing ends.Sink old new sink told counted stops = absurd stops.cause

  -- memory ran out, and the files are as they were
  pub memory_breaks : (takes_nothing : (k : K) → takes k [] k) (old new : Server D L K) → new.kept ≡ old.kept → new.sink ≡ old.sink → story new.link ≡ story old.link → counts new.link ≡ counts old.link
      → (IsHonest view old.kept → NodeSurvives view old.kept (node_of old.kept)) → Breaks view takes fails faults story counts ends.Memory Idle old new
  memory_breaks takes_nothing old new kept sink told counted survives =
      look_breaks takes_nothing ends.Memory old new sink told counted (subst (λ (k : KeptView D). LookStops view ends.Memory old.kept k) (sym kept) (memory_looks view old.kept survives))

  -- the link was asked in vain
  pub link_breaks : (takes_nothing : (k : K) → takes k [] k) (old new : Server D L K) → new.kept ≡ old.kept → new.sink ≡ old.sink → story new.link ≡ story old.link → CountsFailure (counts old.link) (counts new.link)
      → (IsHonest view old.kept → NodeSurvives view old.kept (node_of old.kept)) → Breaks view takes fails faults story counts ends.Link Idle old new
  link_breaks takes_nothing old new kept sink told failed survives = record {
    text = subst (λ (k : K). takes old.sink [] k) (sym sink) (takes_nothing old.sink);
    leaves = subst (λ (k : KeptView D). IsHonest view old.kept → Survives view (header_of old.kept.node.control) old.kept.node.control.me (disks_of k) (node_of old.kept)) (sym kept) survives;
    moments = λ honest. (0, ap (λ (k : KeptView D). disks_of k) kept);
    goes_on = subst (λ (k : KeptView D). AllGoOn view (disks_of old.kept) (disks_of k)) (sym kept) (go_on_none view (disks_of old.kept));
    cause = failed.listening;
    meets = tt;
    told = told;
    counted = failed;
  }

  -- the output failed in a line of no input
  pub line_breaks : (end : TurnEnd) (text : List ℕ) (old new : Server D L K) → new.kept ≡ old.kept → story new.link ≡ story old.link → counts new.link ≡ counts old.link
      → LineStops fails faults end text old.sink new.sink → (IsHonest view old.kept → NodeSurvives view old.kept (node_of old.kept)) → NoteBreaks view takes fails faults story counts end text old new
  line_breaks ends.Sink text old new kept told counted (front, is, failed, rose) survives = record {
    text = (front, is, failed);
    leaves = subst (λ (k : KeptView D). IsHonest view old.kept → Survives view (header_of old.kept.node.control) old.kept.node.control.me (disks_of k) (node_of old.kept)) (sym kept) survives;
    moments = λ honest. (0, ap (λ (k : KeptView D). disks_of k) kept);
    goes_on = subst (λ (k : KeptView D). AllGoOn view (disks_of old.kept) (disks_of k)) (sym kept) (go_on_none view (disks_of old.kept));
    cause = rose;
    meets = tt;
    told = told;
    counted = counted;
  }
  line_breaks ends.Memory text old new kept told counted stops survives = absurd stops
  line_breaks ends.Served text old new kept told counted stops survives = absurd stops
  line_breaks ends.Link text old new kept told counted stops survives = absurd stops
  line_breaks ends.Disk text old new kept told counted stops survives = absurd stops
  line_breaks ends.Full text old new kept told counted stops survives = absurd stops

module _ {D L K : Type 0} (view : D → DiskView) (takes fails : K → List ℕ → K → Type 0) (faults : K → ℕ) (story : L → Option (List Call)) (counts : L → LinkCounts) where
  -- the output failed in a line of no input, where the line is given as an equal text
  pub line_breaks_as : (end : TurnEnd) (text other : List ℕ) (old new : Server D L K) → text ≡ other → new.kept ≡ old.kept → story new.link ≡ story old.link → counts new.link ≡ counts old.link
      → LineStops fails faults end text old.sink new.sink → (IsHonest view old.kept → NodeSurvives view old.kept (node_of old.kept)) → NoteBreaks view takes fails faults story counts end other old new
  line_breaks_as end text other old new same kept told counted stops survives =
      subst (λ (t : List ℕ). NoteBreaks view takes fails faults story counts end t old new) same (line_breaks view takes fails faults story counts end text old new kept told counted stops survives)

-- a text that was put first is all
pub put_first : (old text new : List ℕ) → old ≡ [] → new ≡ old ++ text → new ≡ text
put_first old text new none is = is ∙ ap (λ (t : List ℕ). t ++ text) none

-- The news of the link

-- an event came by some bytes
pub event_bytes : (event : LinkEvent) (lent : List ℕ) (a b : Option (List Call)) → Told (GivesEvent event lent) a b → (bytes : List ℕ) × AddsAll (acts.Next event bytes ∷ []) a b
event_bytes event lent a None told = ([], tt)
event_bytes event lent None (Some b) told = absurd told
event_bytes event lent (Some a) (Some b) told = (told.bytes, told.made)

-- The bytes given to a connection

-- a text, and the end of the reply where nothing of the content is left
pub gave : (c : ℕ) (bytes text : List ℕ) (keeps told : Bool) (rest left : Option Transfer) (a b d : Option (List Call)) → bytes ≡ text → rest ≡ left
    → AddsAll (acts.Give c bytes ∷ []) a b → AddsAll (finish c keeps told rest) b d → AddsAll (acts.Give c text ∷ finish c keeps told left) a d
gave c bytes text keeps told rest left a b d same is given finished =
    subst (λ (t : List ℕ). AddsAll (acts.Give c t ∷ finish c keeps told left) a d) same
    (subst (λ (p : Option Transfer). AddsAll (acts.Give c bytes ∷ finish c keeps told p) a d) is
    (adds-then (acts.Give c bytes ∷ []) (finish c keeps told rest) a b d given finished))
