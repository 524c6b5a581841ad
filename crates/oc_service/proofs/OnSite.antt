-- The effect of a loaded node, on the files from which it was loaded, on its link and on its
-- output.
use Rattle.std.proofs.Common.{◌≡◌, ◌⊎◌, ◌∙◌, ℕ, ◌+◌, ◌<◌, false, Option, List, [], ◌∷◌, ◌++◌, length, inl, inr, refl, sym, ap, ap₂, subst}
use Rattle.std.specs.List.{AllByRecursion}
use Rattle.oc_content.specs.ContentFile.{groups_in}
use Rattle.oc_config.specs.Settings.{Settings}
use Rattle.oc_link.specs.Told.{AddsAll}
use Rattle.oc_link.specs.declared.call.Call.{Call}
use Rattle.oc_link.specs.declared.call.Call.TheVariants as acts
use Rattle.oc_link.specs.declared.counts.LinkCounts.{LinkCounts}
use Rattle.oc_link.specs.declared.event.LinkEvent.TheVariants.{Quiet}
use Rattle.oc_link.proofs.Stories.{adds-then}
use Rattle.oc_io.specs.DiskView.{DiskView}
use Rattle.oc_io.specs.Faults.{Rose}
use Rattle.oc_keep.proofs.Runs.{all_go_on_then, one_rose_after}
use Rattle.oc_keep.proofs.Stays.{all_honest}
use Rattle.oc_keep.specs.Files.{Disks, AllGoOn, AreHonest, Leaves, SameAsEither, Survives, disks_in}
use Rattle.oc_keep.specs.KeptView.{IsFullAt, IsFullOn, IsHonest, KeptView, NodeSurvives, disks_of, header_of, node_of}
use Rattle.oc_keep.specs.Promises.{ChangesNothing, IsNodeOf, LoadsSafely}
use Rattle.oc_keep.specs.Trials.{first_node}
use Rattle.oc_keep.proofs.Areas.{survives_areas}
use Rattle.oc_model.specs.declared.input.Input.{Input}
use Rattle.oc_model.specs.Node.{Control, Header, Node}
use Rattle.oc_model.specs.Step.{step}
use Rattle.oc_routes.specs.Responses.{address_of}
use Rattle.oc_deeds.specs.Answered.{AreAnswered}
use Rattle.oc_deeds.specs.Changes.{KeepAreas, after_changes, changes_of}
use Rattle.oc_deeds.specs.Records.{is_record}
use Rattle.oc_deeds.specs.declared.log.Log.TheVariants.{Record}
use Rattle.oc_deeds.specs.Deeds.{Deed, Setting, calls_of, inputs_of, line, lines}
use Rattle.oc_server.specs.Moments.{AtEachPrefix}
use Rattle.oc_deeds.specs.Under.{Cuts}
use Rattle.oc_server.specs.Scenes.{BreaksAfter, Did, EndsOn, HasCause, LeavesAt, LeavesUnder, WritesAt, running, setting}
use Rattle.oc_deeds.specs.Done.{CountsAll}
use Rattle.oc_deeds.specs.Under.{Idle, Noting, Taking, Under, under_line}
use Rattle.oc_deeds.specs.Turns.{Observation, terms_in}
use Rattle.oc_deeds.specs.Within.{IsWithin}
use Rattle.oc_deeds.specs.declared.ends.TurnEnd.{TurnEnd}
use Rattle.oc_deeds.specs.declared.ends.TurnEnd.TheVariants as ends
use Rattle.oc_deeds.specs.declared.log.Log.{Log}
use Rattle.oc_server.specs.declared.server.Server.{Server}
use Rattle.oc_server.specs.declared.turns.Turns.{Turns}
use Rattle.oc_server.proofs.Looking.{seated}
use Rattle.oc_server.proofs.Moments.{ends_areas}
use Rattle.oc_server.proofs.Scenes.{broken_cause, broken_leaves, broken_text, did_node, setting_stays, still_honest}
use Rattle.oc_service.specs.OnSite.{CountsUntil, DidOn, HasCauseOn, IsFullFor, LeavesBehind, LeavesOne, NodeEnds, Stops, WasDeaf, Writes, at_run, header_for, heard_before, machine_on, node_calls, setting_of}
use Rattle.oc_service.specs.AtAnyMoment.{AlwaysRecovers}
use Rattle.oc_service.specs.Failures.{AreBorneOut}
use Rattle.oc_service.specs.Loading.{IsLoaded}
use Rattle.oc_service.specs.declared.site.Site.{Site}
use Rattle.oc_service.proofs.Loaded.{loaded_machine}
use Rattle.oc_service.specs.Running.{Halts, IsDeaf, Listens, RunEnds, Runs, machine}
use Rattle.oc_service.specs.WhatNodeDoes.{Machine, begun, due_at, machine_after, node_deeds, turn_deeds}
use Rattle.oc_service.specs.WhatNodeDoes as machines
use Rattle.oc_service.specs.WhatNodeGives.{ServesFrom}
use Rattle.oc_service.specs.WhatNodeHears.{AreHeard, MayHear, MayReread, all_calls_after, until}
use Rattle.oc_service.specs.declared.running.NodeEnd.TheVariants.{Turned}
use Rattle.oc_service.specs.declared.running.Task.{Task}
use Rattle.oc_service.proofs.BorneOut.{front_borne, node_borne}
use Rattle.oc_service.proofs.Recorded.{cut_record, node_record}
use Rattle.oc_service.proofs.Replies.{front_answered, node_answered, serves_until}
use Rattle.oc_service.proofs.Stories.{Follows, follows_adds, until_then}
use Rattle.oc_service.proofs.Within.{kept_within}

module _ {D L K : Type 0} (view : D → DiskView) (takes fails : K → List ℕ → K → Type 0) (faults : K → ℕ) (story : L → Option (List Call)) (counts : L → LinkCounts)
    (takes_nothing : (k : K) → takes k [] k) (takes_then : (a b c : K) (x y : List ℕ) → takes a x b → takes b y c → takes a (x ++ y) c)
    (takes_fails : (a b c : K) (x y : List ℕ) → takes a x b → fails b y c → fails a (x ++ y) c)
    (task : Task) (d : Disks D) (first last : Turns D L K)
    (loaded : IsNodeOf view (header_for task first.server.config) task.me d first.server.kept)
    (safely : LoadsSafely view (header_for task first.server.config) task.me d (disks_of first.server.kept))
    (log : first.server.log ≡ task.log) (begins : AreHonest view d → machine first ≡ machine_on view first.server.config task d)
    (recovers : last.server.kept.closed ≡ false → IsHonest view last.server.kept → NodeSurvives view last.server.kept (node_of last.server.kept))
    (full : last.server.kept.closed ≡ false → IsHonest view last.server.kept → (i : Input) → IsFullAt last.server.kept i → IsFullOn view (disks_of last.server.kept) (node_of last.server.kept) i) where
  abbrev c : Settings
  c = first.server.config

  abbrev h : Header
  h = header_for task c

  abbrev me : ℕ
  me = task.me

  abbrev at_first_node : Node
  at_first_node = first_node view h me d

  abbrev m : Machine
  m = machine_on view c task d

  abbrev e : Disks D
  e = disks_of last.server.kept

  honest_kept : AreHonest view d → IsHonest view first.server.kept
  honest_kept honest = all_honest view d (disks_of first.server.kept) safely.goes_on honest

  setting_is : setting first.server ≡ setting_of task
  setting_is = ap (λ (x : ℕ). record { me = x; log = first.server.log }) loaded.id ∙ ap (λ (x : Log). record { me = me; log = x }) log

  -- a statement about every crash under the node's own name is one under that of the files
  named : (P : Header → ℕ → Type 0) → P (header_of first.server.kept.node.control) first.server.kept.node.control.me → P h me
  named P p = subst (λ (x : Header). P x me) loaded.header (subst (λ (x : ℕ). P (header_of first.server.kept.node.control) x) loaded.id p)

  -- Turns before the last one

  begins_on_site : (deeds : List Deed) (under : Under) → AreHonest view d → Cuts (machines.begins (setting first.server) c.measures (node_of first.server.kept)) deeds under
      → Cuts (machines.begins (setting_of task) c.measures at_first_node) deeds under
  begins_on_site deeds under honest front =
      subst (λ (n : Node). Cuts (machines.begins (setting_of task) c.measures n) deeds under) (loaded.node honest)
      (subst (λ (x : Setting). Cuts (machines.begins x c.measures (node_of first.server.kept)) deeds under) setting_is front)

  few_on : (told : List Observation) (deeds : List Deed) (under : Under)
      → (length told < task.turns) ⊎ (IsHonest view first.server.kept → Cuts (machines.begins (setting first.server) c.measures (node_of first.server.kept)) deeds under)
      → (length told < task.turns) ⊎ (AreHonest view d → Cuts (machines.begins (setting_of task) c.measures at_first_node) deeds under)
  few_on told deeds under (inl few) = inl few
  few_on told deeds under (inr early) = inr (λ honest. begins_on_site deeds under honest (early (honest_kept honest)))

  -- The server that listens, by its link

  abbrev listening_by : L → Server D L K
  listening_by link = record first.server { link = link }

  module _ (link : L) (listens : Listens story counts first.server (listening_by link)) where
    abbrev l : Server D L K
    l = listening_by link

    adds_listen : AddsAll (acts.Listen (address_of c.listens me) ∷ []) (story first.server.link) (story link)
    adds_listen = subst (λ (x : ℕ). AddsAll (acts.Listen (address_of c.listens x) ∷ []) (story first.server.link) (story link)) loaded.id listens.calls

    heard_is : (all : Option (List Call)) → Follows (story link) all → until (story link) all ≡ heard_before c me (story first.server.link) all
    heard_is all follows = until_then (acts.Listen (address_of c.listens me) ∷ []) (story first.server.link) (story link) all adds_listen follows

    heard_on : AreHonest view d → (told : List Observation) → Follows (story link) (story last.server.link)
        → AreHeard (setting first.server) (until (story link) (story last.server.link)) told (begun (setting first.server) c.measures (machine first))
        → AreHeard (setting_of task) (heard_before c me (story first.server.link) (story last.server.link)) told (begun (setting_of task) c.measures m)
    heard_on honest told follows heard =
        subst (λ (calls : Option (List Call)). AreHeard (setting_of task) calls told (begun (setting_of task) c.measures m)) (heard_is (story last.server.link) follows)
        (subst (λ (x : Machine). AreHeard (setting_of task) (until (story link) (story last.server.link)) told (begun (setting_of task) c.measures x)) (begins honest)
        (subst (λ (x : Setting). AreHeard x (until (story link) (story last.server.link)) told (begun x c.measures (machine first))) setting_is heard))

    calls_on : AreHonest view d → (deeds : List Deed) → AddsAll (calls_of (setting l) deeds (running l)) (story link) (story last.server.link)
        → AddsAll (node_calls c task deeds m) (story first.server.link) (story last.server.link)
    calls_on honest deeds adds =
        adds-then (acts.Listen (address_of c.listens me) ∷ []) (calls_of (setting_of task) deeds m.running) (story first.server.link) (story link) (story last.server.link) adds_listen
        (subst (λ (x : Machine). AddsAll (calls_of (setting_of task) deeds x.running) (story link) (story last.server.link)) (begins honest)
        (subst (λ (x : Setting). AddsAll (calls_of x deeds (running first.server)) (story link) (story last.server.link)) setting_is adds))

    abbrev Choice : List Observation → Observation → List Deed → Setting → Machine → Option (List Call) → Type 0
    Choice told next deeds s y calls =
        (length deeds < length (node_deeds s c.measures told y) + 3)
        ⊎ MayHear (terms_in s (machine_after s c.measures told y).running) (all_calls_after s told (begun s c.measures y) calls) (due_at next (machine_after s c.measures told y)) next (machine_after s c.measures told y)

    last_on : AreHonest view d → (told : List Observation) (next : Observation) (deeds : List Deed) → Follows (story link) (story last.server.link)
        → (length deeds < length (node_deeds (setting first.server) c.measures told (machine first)) + 3)
        ⊎ MayHear (terms_in (setting first.server) (machine_after (setting first.server) c.measures told (machine first)).running) (all_calls_after (setting first.server) told (begun (setting first.server) c.measures (machine first)) (until (story link) (story last.server.link)))
        (due_at next (machine_after (setting first.server) c.measures told (machine first))) next (machine_after (setting first.server) c.measures told (machine first))
        → (length deeds < length (node_deeds (setting_of task) c.measures told m) + 3)
        ⊎ MayHear (terms_in (setting_of task) (machine_after (setting_of task) c.measures told m).running) (all_calls_after (setting_of task) told (begun (setting_of task) c.measures m) (heard_before c me (story first.server.link) (story last.server.link)))
        (due_at next (machine_after (setting_of task) c.measures told m)) next (machine_after (setting_of task) c.measures told m)
    last_on honest told next deeds follows heard =
        subst (λ (calls : Option (List Call)). Choice told next deeds (setting_of task) m calls) (heard_is (story last.server.link) follows)
        (subst (λ (x : Machine). Choice told next deeds (setting_of task) x (until (story link) (story last.server.link))) (begins honest)
        (subst (λ (x : Setting). Choice told next deeds x (machine first) (until (story link) (story last.server.link))) setting_is heard))

    -- what the last look gave
    reread_on : AreHonest view d → (told : List Observation) (next : Observation) → MayReread next (machine_after (setting first.server) c.measures told (machine first))
        → MayReread next (machine_after (setting_of task) c.measures told m)
    reread_on honest told next means =
        subst (λ (x : Machine). MayReread next (machine_after (setting_of task) c.measures told x)) (begins honest)
        (subst (λ (x : Setting). MayReread next (machine_after x c.measures told (machine first))) setting_is means)

    -- each connection was served, if nothing was under way when it was loaded
    abbrev ServesAll : List Deed → Type 0
    ServesAll deeds = IsHonest view first.server.kept → first.server.works ≡ [] → ServesFrom (setting first.server) deeds (running first.server) (story link) (story last.server.link)

    served_on : AreHonest view d → (deeds : List Deed) → Follows (story link) (story last.server.link) → ServesAll deeds
        → ServesFrom (setting_of task) deeds m.running (heard_before c me (story first.server.link) (story last.server.link)) (story last.server.link)
    served_on honest deeds follows serves =
        subst (λ (calls : Option (List Call)). ServesFrom (setting_of task) deeds m.running calls (story last.server.link)) (heard_is (story last.server.link) follows)
        (serves_until (setting_of task) deeds m.running (story link) (story last.server.link)
        (subst (λ (x : Machine). ServesFrom (setting_of task) deeds x.running (story link) (story last.server.link)) (begins honest)
        (subst (λ (x : Setting). ServesFrom x deeds (running first.server) (story link) (story last.server.link)) setting_is
        (serves (honest_kept honest) (ap (λ (x : Machine). x.running.works) (begins honest))))))

    -- the inputs of deeds
    within_on : (deeds : List Deed) (at : Server D L K) → Did view takes faults story counts deeds l at → AllByRecursion (IsWithin h.nodes me) (inputs_of deeds)
    within_on deeds at did = named (λ x y. AllByRecursion (IsWithin x.nodes y) (inputs_of deeds)) (kept_within view deeds first.server.kept at.kept did.keeps)

    -- the areas that a record tells
    areas_on : AreHonest view d → (deeds : List Deed) (at : Server D L K) → Did view takes faults story counts deeds l at → task.log ≡ Record → KeepAreas at_first_node.control deeds
    areas_on honest deeds at did is =
        subst (λ (n : Node). KeepAreas n.control deeds) (loaded.node honest) (did.recorded (ap is_record (log ∙ is))).each

    -- the nodes that crashes leave at each prefix of deeds, and after them
    moments_on : AreHonest view d → (deeds : List Deed) (at : Server D L K) → Did view takes faults story counts deeds l at → (under : Under)
        → EndsOn view (header_of at.kept.node.control) at.kept.node.control.me (node_of at.kept) under (disks_of at.kept) e → AlwaysRecovers view h me takes (line (setting_of task)) deeds under d e first.server.sink at.sink
    moments_on honest deeds at did under behind = record {
      loaded = disks_of first.server.kept;
      done = disks_of at.kept;
      load = record { goes_on = safely.goes_on; any_moment = safely.any_moment honest };
      prefixes =
          subst (λ (x : Setting). AtEachPrefix view h me takes (line x) deeds at_first_node (disks_of first.server.kept) first.server.sink (disks_of at.kept) at.sink) setting_is
          (subst (λ (n : Node). AtEachPrefix view h me takes (line (setting first.server)) deeds n (disks_of first.server.kept) first.server.sink (disks_of at.kept) at.sink) (loaded.node honest)
          (named (λ x y. AtEachPrefix view x y takes (line (setting first.server)) deeds (node_of first.server.kept) (disks_of first.server.kept) first.server.sink (disks_of at.kept) at.sink) (did.moments (honest_kept honest))));
      ends = subst (λ (n : Node). EndsOn view h me (after_changes n (changes_of deeds)) under (disks_of at.kept) e) (loaded.node honest)
          (subst (λ (n : Node). EndsOn view h me n under (disks_of at.kept) e) (did_node view takes fails faults story counts deeds l at did (honest_kept honest))
          (named (λ x y. EndsOn view x y (node_of at.kept) under (disks_of at.kept) e)
          (seated (λ x y. EndsOn view x y (node_of at.kept) under (disks_of at.kept) e) (λ areas x y. ends_areas view areas x y (node_of at.kept) under (disks_of at.kept) e) first.server.kept at.kept did.same behind)));
    }

    -- All turns

    deeds_on : AreHonest view d → (told : List Observation) (deeds : List Deed) → (IsHonest view first.server.kept → deeds ≡ node_deeds (setting first.server) c.measures told (machine first))
        → deeds ≡ node_deeds (setting_of task) c.measures told m
    deeds_on honest told deeds are = are (honest_kept honest) ∙ ap₂ (λ (x : Setting) (y : Machine). node_deeds x c.measures told y) setting_is (begins honest)

    heard_told : AreHonest view d → (told : List Observation) (deeds : List Deed) → Did view takes faults story counts deeds l last.server
        → (IsHonest view first.server.kept → AreHeard (setting first.server) (until (story link) (story last.server.link)) told (begun (setting first.server) c.measures (machine first)))
        → AreHeard (setting_of task) (heard_before c me (story first.server.link) (story last.server.link)) told (begun (setting_of task) c.measures m)
    heard_told honest told deeds did heard = heard_on honest told (follows_adds (calls_of (setting l) deeds (running l)) (story link) (story last.server.link) (did.done (honest_kept honest)).calls) (heard (honest_kept honest))

    did_on : (told : List Observation) (deeds : List Deed) → length told ≡ task.turns → Did view takes faults story counts deeds l last.server
        → (IsHonest view first.server.kept → deeds ≡ node_deeds (setting first.server) c.measures told (machine first))
        → (IsHonest view first.server.kept → AreHeard (setting first.server) (until (story link) (story last.server.link)) told (begun (setting first.server) c.measures (machine first)))
        → ServesAll deeds
        → DidOn view story counts takes c task deeds d e first.server.link last.server.link first.server.sink last.server.sink
    did_on told deeds many did are heard serves = record {
      told = told;
      many = many;
      are = λ honest. deeds_on honest told deeds are;
      heard = λ honest. heard_told honest told deeds did heard;
      calls = λ honest. calls_on honest deeds (did.done (honest_kept honest)).calls;
      replies = λ honest. record {
        answered = subst (λ (ds : List Deed). AreAnswered (setting_of task) ds m.running) (sym (deeds_on honest told deeds are)) (node_answered (setting_of task) c.measures told m);
        served = served_on honest deeds (follows_adds (calls_of (setting l) deeds (running l)) (story link) (story last.server.link) (did.done (honest_kept honest)).calls) serves;
      };
      failures = λ honest.
          subst (λ (ds : List Deed). AreBorneOut Quiet ds) (sym (deeds_on honest told deeds are))
          (node_borne Quiet (heard_before c me (story first.server.link) (story last.server.link)) (setting_of task) c.measures told m (heard_told honest told deeds did heard));
      recorded = λ honest. node_record (setting_of task) c.measures told m deeds (deeds_on honest told deeds are);
      areas = λ honest is. areas_on honest deeds last.server did is;
      within = within_on deeds last.server did;
      counted = subst (λ (x : LinkCounts). CountsAll deeds x (counts last.server.link)) listens.counted did.counted;
      goes_on = all_go_on_then view d (disks_of first.server.kept) e safely.goes_on did.goes_on;
      survives = λ honest.
          subst (λ (n : Node). Survives view h me e (after_changes n (changes_of deeds))) (loaded.node honest)
          (subst (λ (n : Node). Survives view h me e n) (did_node view takes fails faults story counts deeds l last.server did (honest_kept honest))
          (named (λ x y. Survives view x y e (node_of last.server.kept))
          (seated (λ x y. Survives view x y e (node_of last.server.kept)) (λ areas x y. survives_areas view areas x y e (node_of last.server.kept)) first.server.kept last.server.kept did.same
          (recovers did.is_open (all_honest view (disks_of first.server.kept) e did.goes_on (honest_kept honest))))));
      moments = λ honest. moments_on honest deeds last.server did Idle (0, refl);
    }

    -- An early end

    one_on : (n : Node) (under : Under) → LeavesUnder view first.server.kept last.server.kept n under → LeavesOne view h me e n under
    one_on n (Taking i) p = named (λ x y. Leaves view x y e (SameAsEither n (step n i).node)) p
    one_on n Idle p = named (λ x y. Survives view x y e n) p
    one_on n (Noting line) p = named (λ x y. Survives view x y e n) p

    behind_on : (end : TurnEnd) (n : Node) (under : Under) → LeavesAt view first.server.kept last.server.kept end n under → LeavesBehind view h me e end n under
    behind_on ends.Disk n under p = one_on n under p
    behind_on ends.Sink n under p = one_on n under p
    behind_on ends.Served n under p = one_on n Idle p
    behind_on ends.Link n under p = one_on n Idle p
    behind_on ends.Full n under p = one_on n Idle p
    behind_on ends.Memory n under p = one_on n Idle p

    module _ (deeds : List Deed) (under : Under) where
      -- the node after the deeds
      abbrev n : Node
      n = after_changes at_first_node (changes_of deeds)

      -- a file is full for the input under way at a node that nothing changed
      full_on : (i : Input) → BreaksAfter view takes fails faults story counts ends.Full deeds (Taking i) l last.server → IsFullFor view i n d e
      full_on i (at, did, breaks) = λ honest.
          let before = all_honest view (disks_of first.server.kept) (disks_of at.kept) did.goes_on (honest_kept honest) in
          subst (λ (x : Node). IsFullOn view e x i)
          (unchanged at.kept last.server.kept before breaks.meets.1.nothing
          ∙ did_node view takes fails faults story counts deeds l at did (honest_kept honest)
          ∙ ap (λ (x : Node). after_changes x (changes_of deeds)) (loaded.node honest))
          (full (breaks.meets.1.still ∙ did.is_open) (all_honest view (disks_of at.kept) e breaks.goes_on before) i breaks.cause) where
            unchanged : (a b : KeptView D) → IsHonest view a → ChangesNothing view a b → node_of b ≡ node_of a
            unchanged a b honest same = ap₂ (λ (x : Control) (y : List (List ℕ)). record { control = x; groups = groups_in y }) same.control (same.content.journal.frames honest.content)

      cause_on : (end : TurnEnd) (u : Under) → BreaksAfter view takes fails faults story counts end deeds u l last.server
          → HasCause view faults end u first.server.kept last.server.kept first.server.sink last.server.sink (counts link) (counts last.server.link)
          → HasCauseOn view end u n d e (counts first.server.link) (counts last.server.link)
      cause_on ends.Disk u breaks cause = one_rose_after view d (disks_of first.server.kept) e safely.goes_on cause
      cause_on ends.Sink u breaks cause = tt
      cause_on ends.Link u breaks cause = subst (λ (x : LinkCounts). Rose x.listening (counts last.server.link).listening) listens.counted cause
      cause_on ends.Full (Taking i) breaks cause = full_on i breaks
      cause_on ends.Full Idle breaks cause = cause
      cause_on ends.Full (Noting line) breaks cause = cause
      cause_on ends.Served u breaks cause = cause
      cause_on ends.Memory u breaks cause = tt

      goes_on_all : (end : TurnEnd) → BreaksAfter view takes fails faults story counts end deeds under l last.server → AllGoOn view d e
      goes_on_all end (at, did, breaks) =
          all_go_on_then view d (disks_of first.server.kept) e safely.goes_on
          (all_go_on_then view (disks_of first.server.kept) (disks_of at.kept) e did.goes_on breaks.goes_on)

      within_all : (end : TurnEnd) → BreaksAfter view takes fails faults story counts end deeds under l last.server → AllByRecursion (IsWithin h.nodes me) (inputs_of deeds)
      within_all end (at, did, breaks) = within_on deeds at did

      counted_all : (end : TurnEnd) → BreaksAfter view takes fails faults story counts end deeds under l last.server → CountsUntil end deeds (counts first.server.link) (counts last.server.link)
      counted_all end (at, did, breaks) = (counts at.link, subst (λ (x : LinkCounts). CountsAll deeds x (counts at.link)) listens.counted did.counted, breaks.counted)

      moments_all : (end : TurnEnd) (breaks : BreaksAfter view takes fails faults story counts end deeds under l last.server) → AreHonest view d
          → AlwaysRecovers view h me takes (line (setting_of task)) deeds under d e first.server.sink breaks.0.sink
      moments_all end (at, did, breaks) honest =
          moments_on honest deeds at did under (breaks.moments (still_honest view takes fails faults story counts deeds l at did (honest_kept honest)))

      -- the bytes written after the deeds
      rest_on : (end : TurnEnd) (breaks : BreaksAfter view takes fails faults story counts end deeds under l last.server) → WritesAt takes fails breaks.0.sink last.server.sink end [] (under_line (setting_of task) under)
      rest_on end (at, did, breaks) =
          subst (λ (x : Setting). WritesAt takes fails at.sink last.server.sink end [] (under_line x under)) (setting_stays view takes fails faults story counts l at did.same did.log ∙ setting_is) breaks.text

      adds_all : (end : TurnEnd) → BreaksAfter view takes fails faults story counts end deeds under l last.server → AreHonest view d
          → AddsAll (calls_of (setting l) deeds (running l)) (story link) (story last.server.link)
      adds_all end (at, did, breaks) honest =
          subst (λ (y : Option (List Call)). AddsAll (calls_of (setting l) deeds (running l)) (story link) y) (sym breaks.told) (did.done (honest_kept honest)).calls

      writes_on : (end : TurnEnd) → BreaksAfter view takes fails faults story counts end deeds under l last.server
          → Writes (λ text. takes first.server.sink text last.server.sink) (λ text. fails first.server.sink text last.server.sink × Rose (faults first.server.sink) (faults last.server.sink)) (setting_of task) end deeds under
      writes_on end breaks =
          by_end end (broken_cause view takes fails faults story counts deeds under end l last.server breaks)
          (subst (λ (x : Setting). WritesAt takes fails first.server.sink last.server.sink end (lines x deeds) (under_line x under)) setting_is
          (broken_text view takes fails faults story counts takes_then takes_fails deeds under end l last.server breaks)) where
            by_end : (x : TurnEnd) → HasCause view faults x under first.server.kept last.server.kept first.server.sink last.server.sink (counts link) (counts last.server.link)
                → WritesAt takes fails first.server.sink last.server.sink x (lines (setting_of task) deeds) (under_line (setting_of task) under)
                → Writes (λ text. takes first.server.sink text last.server.sink) (λ text. fails first.server.sink text last.server.sink × Rose (faults first.server.sink) (faults last.server.sink)) (setting_of task) x deeds under
            by_end ends.Sink cause text = (text.0, text.1, (text.2, cause))
            by_end ends.Served cause text = text
            by_end ends.Link cause text = text
            by_end ends.Disk cause text = text
            by_end ends.Full cause text = text
            by_end ends.Memory cause text = text

  runs_on : Runs view takes faults story counts task.turns first last
      → (deeds : List Deed) × takes first.server.sink (lines (setting_of task) deeds) last.server.sink × DidOn view story counts takes c task deeds d e first.server.link last.server.link first.server.sink last.server.sink
  runs_on r =
      let link = r.listening.link in
      let listens = subst (λ (x : Server D L K). Listens story counts first.server x) r.listens.rest r.listens in
      let did = subst (λ (x : Server D L K). Did view takes faults story counts r.deeds x last.server) r.listens.rest r.did in (
        r.deeds,
        subst (λ (x : Setting). takes first.server.sink (lines x r.deeds) last.server.sink) setting_is did.text,
        did_on link listens r.told r.deeds r.many did r.are r.heard r.serves,
      )

  halts_on : (end : TurnEnd) → Halts view takes fails faults story counts task.turns end first last
      → Stops (at_run view story counts takes fails c task d e first.server.link last.server.link first.server.sink last.server.sink) (λ text. takes first.server.sink text last.server.sink) (λ text. fails first.server.sink text last.server.sink × Rose (faults first.server.sink) (faults last.server.sink)) (setting_of task) end
  halts_on end r =
      let link = r.listening.link in
      let listens = subst (λ (x : Server D L K). Listens story counts first.server x) r.listens.rest r.listens in
      let breaks = subst (λ (x : Server D L K). BreaksAfter view takes fails faults story counts end r.deeds r.under x last.server) r.listens.rest r.breaks in
      let l = listening_by link in
      let follows = λ (honest : AreHonest view d). follows_adds (calls_of (setting l) r.deeds (running l)) (story link) (story last.server.link) (adds_all link listens r.deeds r.under end breaks honest) in
      let cut = λ (honest : AreHonest view d).
      subst (λ (x : Machine). Cuts (node_deeds (setting_of task) c.measures r.told x ++ turn_deeds (setting_of task) r.last (machine_after (setting_of task) c.measures r.told x)) r.deeds r.under) (begins honest)
      (subst (λ (x : Setting). Cuts (node_deeds x c.measures r.told (machine first) ++ turn_deeds x r.last (machine_after x c.measures r.told (machine first))) r.deeds r.under) setting_is (r.cut (honest_kept honest))) in (
        r.deeds,
        r.under,
        writes_on link listens r.deeds r.under end breaks,
        record {
          told = r.told;
          last = r.last;
          few = few_on r.told r.deeds r.under r.few;
          cut = cut;
          heard = λ honest. heard_on link listens honest r.told (follows honest) (r.heard (honest_kept honest));
          last_heard = λ honest. last_on link listens honest r.told r.last r.deeds (follows honest) (r.last_heard (honest_kept honest));
          last_reread = λ honest. reread_on link listens honest r.told r.last (r.last_reread (honest_kept honest));
          calls = λ honest. calls_on link listens honest r.deeds (adds_all link listens r.deeds r.under end breaks honest);
          replies = λ honest. record {
            answered = front_answered (setting_of task) c.measures r.told r.last m r.deeds r.under (cut honest);
            served = served_on link listens honest r.deeds (follows honest) r.serves;
          };
          failures = λ honest.
              front_borne Quiet (terms_in (setting_of task) (machine_after (setting_of task) c.measures r.told m).running) (heard_before c me (story first.server.link) (story last.server.link)) (setting_of task) c.measures r.told r.last m
              (heard_on link listens honest r.told (follows honest) (r.heard (honest_kept honest))) r.deeds (cut honest).behind
              (all_calls_after (setting_of task) r.told (begun (setting_of task) c.measures m) (heard_before c me (story first.server.link) (story last.server.link))) (cut honest).front
              (last_on link listens honest r.told r.last r.deeds (follows honest) (r.last_heard (honest_kept honest)));
          recorded = λ honest. cut_record (setting_of task) c.measures r.told r.last m r.deeds r.under (cut honest);
          areas = λ honest is. areas_on link listens honest r.deeds breaks.0 breaks.1 is;
          within = within_all link listens r.deeds r.under end breaks;
          counted = counted_all link listens r.deeds r.under end breaks;
          goes_on = goes_on_all link listens r.deeds r.under end breaks;
          leaves = λ honest.
              subst (λ (x : Node). LeavesBehind view h me e end (after_changes x (changes_of r.deeds)) r.under) (loaded.node honest)
              (behind_on link listens end _ r.under (broken_leaves view takes fails faults story counts r.deeds r.under end l last.server breaks (honest_kept honest)));
          so_far = breaks.0.sink;
          rest = rest_on link listens r.deeds r.under end breaks;
          moments = moments_all link listens r.deeds r.under end breaks;
          cause = cause_on link listens r.deeds r.under end r.under breaks (broken_cause view takes fails faults story counts r.deeds r.under end l last.server breaks);
        },
      )

  deaf_on : IsDeaf story counts ends.Link first.server last.server → takes first.server.sink [] last.server.sink × WasDeaf view story counts takes c task d e first.server.link last.server.link first.server.sink last.server.sink
  deaf_on deaf = (
    subst (λ (x : Server D L K). takes first.server.sink [] x.sink) (sym deaf.rest) (takes_nothing first.server.sink),
    record {
      goes_on = subst (λ (x : Server D L K). AllGoOn view d (disks_of x.kept)) (sym deaf.rest) safely.goes_on;
      survives = λ honest.
          subst (λ (n : Node). Survives view h me e n) (loaded.node honest)
          (subst (λ (x : Server D L K). Survives view h me (disks_of x.kept) (node_of first.server.kept)) (sym deaf.rest) (loaded.survives honest));
      moments = λ honest. record {
        loaded = disks_of first.server.kept;
        done = disks_of first.server.kept;
        load = record { goes_on = safely.goes_on; any_moment = safely.any_moment honest };
        prefixes = (0, refl, ap (λ (x : Server D L K). x.sink) deaf.rest);
        ends = (0, ap (λ (x : Server D L K). disks_of x.kept) deaf.rest);
      };
      calls = deaf.calls;
      counted = deaf.counted;
    },
  )

  pub ends_on : (end : TurnEnd) → RunEnds view takes fails faults story counts task.turns end first last
      → NodeEnds (at_run view story counts takes fails c task d e first.server.link last.server.link first.server.sink last.server.sink) (λ text. takes first.server.sink text last.server.sink) (λ text. fails first.server.sink text last.server.sink × Rose (faults first.server.sink) (faults last.server.sink)) (setting_of task) (Turned end)
  ends_on ends.Served r = runs_on r
  ends_on ends.Link (inl deaf) = inl (deaf_on deaf)
  ends_on ends.Link (inr r) = inr (halts_on ends.Link r)
  ends_on ends.Disk r = halts_on ends.Disk r
  ends_on ends.Full r = halts_on ends.Full r
  ends_on ends.Sink r = halts_on ends.Sink r
  ends_on ends.Memory r = halts_on ends.Memory r

-- the end over these files, links and outputs
abbrev pub EndsAs : {D L K : Type 0} → (D → DiskView) → (K → List ℕ → K → Type 0) → (K → List ℕ → K → Type 0) → (K → ℕ) → (L → Option (List Call)) → (L → LinkCounts) → Settings → Task → Disks D → TurnEnd → Disks D → L → L → K → K → Type 0
EndsAs view takes fails faults story counts s task d end e l m k j =
    NodeEnds (at_run view story counts takes fails s task d e l m k j) (λ text. takes k text j) (λ text. fails k text j × Rose (faults k) (faults j)) (setting_of task) (Turned end)

-- this end for the objects given to the node and given back
pub told_of : {D L K : Type 0} (view : D → DiskView) (takes fails : K → List ℕ → K → Type 0) (faults : K → ℕ) (story : L → Option (List Call)) (counts : L → LinkCounts)
    (takes_nothing : (k : K) → takes k [] k) (takes_then : (a b c : K) (x y : List ℕ) → takes a x b → takes b y c → takes a (x ++ y) c)
    (takes_fails : (a b c : K) (x y : List ℕ) → takes a x b → fails b y c → fails a (x ++ y) c)
    (s : Settings) (task : Task) (site back : Site D L K) (first last : Turns D L K) → IsLoaded view s task site first
    → disks_in back.files ≡ disks_of last.server.kept → back.link ≡ last.server.link → back.sink ≡ last.server.sink
    → (last.server.kept.closed ≡ false → IsHonest view last.server.kept → NodeSurvives view last.server.kept (node_of last.server.kept))
    → (last.server.kept.closed ≡ false → IsHonest view last.server.kept → (i : Input) → IsFullAt last.server.kept i → IsFullOn view (disks_of last.server.kept) (node_of last.server.kept) i)
    → (end : TurnEnd) → RunEnds view takes fails faults story counts task.turns end first last
    → EndsAs view takes fails faults story counts s task (disks_in site.files) end (disks_in back.files) site.link back.link site.sink back.sink
told_of {D} {L} {K} view takes fails faults story counts takes_nothing takes_then takes_fails s task site back first last loaded files link sink recovers full end ends =
    let d = disks_in site.files in
    let e = disks_of last.server.kept in
    let own = subst (λ (x : Settings). IsLoaded view x task site first) (sym loaded.config) loaded in
    let told = ends_on view takes fails faults story counts takes_nothing takes_then takes_fails task d first last own.node own.safely own.log (loaded_machine view first.server.config task site first own) recovers full end ends in
    subst (λ (j : K). EndsAs view takes fails faults story counts s task d end (disks_in back.files) site.link back.link site.sink j) (sym sink)
    (subst (λ (k : K). EndsAs view takes fails faults story counts s task d end (disks_in back.files) site.link back.link k last.server.sink) loaded.sink
    (subst (λ (m : L). EndsAs view takes fails faults story counts s task d end (disks_in back.files) site.link m first.server.sink last.server.sink) (sym link)
    (subst (λ (l : L). EndsAs view takes fails faults story counts s task d end (disks_in back.files) l last.server.link first.server.sink last.server.sink) loaded.link
    (subst (λ (x : Disks D). EndsAs view takes fails faults story counts s task d end x first.server.link last.server.link first.server.sink last.server.sink) (sym files)
    (subst (λ (c : Settings). EndsAs view takes fails faults story counts c task d end e first.server.link last.server.link first.server.sink last.server.sink) loaded.config told)))))
