-- One turn, part by part.
use Rattle.std.proofs.Common.{◌≡◌, ℕ, Bool, true, false, Option, None, Some, List, [], ◌∷◌, ◌++◌, length, slice_get, inl, inr, refl, sym, ap, subst, ◌∙◌, arith}
use Rattle.std.specs.Prelude.{IsTrue}
use Rattle.oc_base.specs.Groups.{shelf}
use Rattle.oc_config.specs.Settings.{Settings}
use Rattle.oc_link.specs.Stands.{may}
use Rattle.oc_link.specs.Told.{AddsAll, GivesEvent, Told as Telling}
use Rattle.oc_link.specs.Traffic.{held}
use Rattle.oc_link.specs.declared.call.Call.{Call}
use Rattle.oc_link.specs.declared.call.Call.TheVariants as acts
use Rattle.oc_link.specs.declared.counts.LinkCounts.{LinkCounts}
use Rattle.oc_link.specs.declared.event.LinkEvent.{LinkEvent}
use Rattle.oc_link.specs.declared.event.LinkEvent.TheVariants as events
use Rattle.oc_link.proofs.Stories.{adds-then}
use Rattle.oc_io.specs.DiskView.{DiskView}
use Rattle.oc_keep.specs.KeptView.{IsHonest, node_of}
use Rattle.oc_probe.specs.declared.probing.Probing.{Probing}
use Rattle.oc_routes.specs.Verdicts.{NodeTerms, terms_of}
use Rattle.oc_model.specs.Node.{Header}
use Rattle.oc_deeds.specs.Choices.{due_index, wait_for}
use Rattle.oc_deeds.specs.Deeds.{Deed, Reads, Running, Sees, after_all, after, calls_of, config_behind, dials_after, errand_in}
use Rattle.oc_server.specs.Looks.{Renews}
use Rattle.oc_server.specs.Parts.{Does, Stops}
use Rattle.oc_deeds.specs.Parts.{Part, one, ◌>>◌}
use Rattle.oc_server.specs.Runs.{CouldCome, IsLent, IsRead, MayRead, after_reading, due_in, lent_in, reads_by, NextStops, NextTaken, Handled, HandleStops}
use Rattle.oc_deeds.specs.Measured.{IsMeasured}
use Rattle.oc_deeds.specs.Served.{is_something, is_served}
use Rattle.oc_server.specs.Scenes.{Breaks, Did, IsServing, running, setting}
use Rattle.oc_deeds.specs.Under.{Idle}
use Rattle.oc_deeds.specs.Hurries.{came_hurries}
use Rattle.oc_deeds.specs.Turns.{Means, Observation, deals, quickened, takes_due, pace_after, paced, probed, probing_after, takes_at, takes_next, takes_one}
use Rattle.oc_deeds.specs.Turns as turns
use Rattle.oc_deeds.specs.declared.reread.Reread.TheVariants as rereads
use Rattle.oc_link.specs.declared.look.Look.TheVariants as looks
use Rattle.oc_deeds.specs.declared.came.Came.{Came}
use Rattle.oc_deeds.specs.declared.came.Came.TheVariants as comes
use Rattle.oc_deeds.specs.declared.dials.Errand.{Errand}
use Rattle.oc_deeds.specs.declared.ends.TurnEnd.{TurnEnd}
use Rattle.oc_deeds.specs.declared.pace.Pace.{Pace}
use Rattle.oc_server.specs.declared.server.Server.{Server}
use Rattle.oc_server.specs.declared.turns.Turns.{Turns}
use Rattle.oc_server.proofs.Parts.{does_after, does_as, does_then, one_then}
use Rattle.oc_server.proofs.Scenes.{breaks_behind, breaks_first, still_honest, still_renewed}

-- Bytes that were lent

-- the calls after the same calls are the same
cancel : (xs ys zs : List Call) → xs ++ ys ≡ xs ++ zs → ys ≡ zs
cancel [] ys zs e = e
cancel (x ∷ xs) ys zs e = let rest : xs ++ ys ≡ xs ++ zs = cc in cancel xs ys zs rest

-- the bytes of an event that was told are those of its deed
same_bytes : (event : LinkEvent) (calls now : List Call) (x y : List ℕ) → now ≡ calls ++ acts.Next event x ∷ [] → now ≡ calls ++ acts.Next event y ∷ [] → x ≡ y
same_bytes event calls now x y p q =
    let e : acts.Next event x ∷ [] ≡ acts.Next event y ∷ [] = cancel calls (acts.Next event x ∷ []) (acts.Next event y ∷ []) (sym p ∙ q) in cc

-- the bytes that were lent are those of the story, as far as it is looked at
pub record Lent (a z : Option (List Call)) (event : LinkEvent) (bytes lent : List ℕ) : Type 0 where
  pub bytes_lent : List ℕ
  pub is_lent : IsLent a z event bytes bytes_lent
  pub could : CouldCome a z event
  pub means : (t : NodeTerms) (errand : Option Errand) (came : Came) → Means t lent errand event came → Means t bytes_lent errand event came

lent_by : (event : LinkEvent) (calls now end : List Call) (bytes lent : List ℕ) → GivesEvent event lent calls now → now ≡ calls ++ acts.Next event bytes ∷ [] → Lent (Some calls) (Some end) event bytes lent
lent_by (events.Request a) calls now end bytes lent told is =
    record { bytes_lent = lent; is_lent = told.lends ∙ ap (λ (cs : List Call). held a.connection cs) is; could = told.could; means = λ t errand came m. m }
lent_by (events.Reply d coming) calls now end bytes lent told is =
    record { bytes_lent = lent; is_lent = told.lends ∙ same_bytes (events.Reply d coming) calls now told.bytes bytes told.made is; could = told.could; means = λ t errand came m. m }
lent_by (events.Room c) calls now end bytes lent told is = record { bytes_lent = bytes; is_lent = refl; could = told.could; means = λ t errand came m. m }
lent_by (events.Gone c loss) calls now end bytes lent told is = record { bytes_lent = bytes; is_lent = refl; could = told.could; means = λ t errand came m. m }
lent_by events.Quiet calls now end bytes lent told is = record { bytes_lent = bytes; is_lent = refl; could = told.could; means = λ t errand came m. m }

pub lent_is : (event : LinkEvent) (bytes lent : List ℕ) (more : List Call) (a b z : Option (List Call)) → Telling (GivesEvent event lent) a b → AddsAll (acts.Next event bytes ∷ []) a b → AddsAll more b z
    → Lent a z event bytes lent
lent_is event bytes lent more None b z told adds behind = record { bytes_lent = lent; is_lent = tt; could = tt; means = λ t errand came m. m }
lent_is event bytes lent more (Some calls) b None told adds behind = record { bytes_lent = lent; is_lent = tt; could = tt; means = λ t errand came m. m }
lent_is event bytes lent more (Some calls) None (Some end) told adds behind = absurd behind
lent_is event bytes lent more (Some calls) (Some now) (Some end) told adds behind = lent_by event calls now end bytes lent told adds

-- The news was dealt with.
pub record Dealt {D L K : Type 0} (view : D → DiskView) (takes : K → List ℕ → K → Type 0) (faults : K → ℕ) (story : L → Option (List Call)) (counts : L → LinkCounts) (came : Came) (now : ℕ) (old new : Turns D L K) : Type 0 where
  pub median : ℕ
  pub started : ℕ
  pub seconds : ℕ
  pub measured : IsMeasured old.probing came now median
  pub does : Does view takes faults story counts (deals old.pace old.probing came now median started seconds) old.server new.server
  pub pace : IsHonest view old.server.kept → new.pace ≡ paced (quickened (came_hurries came (node_of old.server.kept)) old.pace) now seconds
  pub probing : new.probing ≡ probed came now old.server.dials old.probing

-- A front of the deeds for the news was done, and then the turn ended with this end.
pub record DealStops {D L K : Type 0} (view : D → DiskView) (takes fails : K → List ℕ → K → Type 0) (faults : K → ℕ) (story : L → Option (List Call)) (counts : L → LinkCounts) (end : TurnEnd) (came : Came) (now : ℕ) (old new : Turns D L K) : Type 0 where
  pub median : ℕ
  pub started : ℕ
  pub seconds : ℕ
  pub measured : IsMeasured old.probing came now median
  pub stops : Stops view takes fails faults story counts end (deals old.pace old.probing came now median started seconds) old.server new.server

module _ {D L K : Type 0} (view : D → DiskView) (takes fails : K → List ℕ → K → Type 0) (faults : K → ℕ) (story : L → Option (List Call)) (counts : L → LinkCounts) where
  -- The state kept to read heads

  pub did_heads : (ds : List Deed) (a b c : Server D L K) → c ≡ record b { heads = c.heads } → Did view takes faults story counts ds a b → Did view takes faults story counts ds a c
  did_heads ds a b c same did = subst (λ (x : Server D L K). Did view takes faults story counts ds a x) (sym same) (record {
    is_open = did.is_open;
    same = did.same;
    recorded = λ is. let kept = did.recorded is in record { each = kept.each; areas = kept.areas };
    config = did.config;
    set = λ before. let set = did.set before in record { placed = set.placed; rules = set.rules; areas = set.areas; roomy = set.roomy };
    log = did.log;
    goes_on = did.goes_on;
    no_fall = did.no_fall;
    counted = did.counted;
    keeps = did.keeps;
    lawful = λ lawful. let more = did.lawful lawful in record { sendable = more.sendable; works = more.works; dials = more.dials };
    text = did.text;
    done = λ honest. did.done honest;
    moments = did.moments;
  })

  pub serving_heads : (b c : Server D L K) → c ≡ record b { heads = c.heads } → IsServing b → IsServing c
  serving_heads b c same serving = subst (λ (x : Server D L K). IsServing x) (sym same) (record {
    is_open = serving.is_open;
    set = record { placed = serving.set.placed; rules = serving.set.rules; areas = serving.set.areas; roomy = serving.set.roomy };
    lawful = record { sendable = serving.lawful.sendable; works = serving.lawful.works; dials = serving.lawful.dials };
  })

  -- The terms of a node at two moments

  -- the story of the link after deeds
  told_behind : (ds : List Deed) (a b : Server D L K) → Did view takes faults story counts ds a b → IsHonest view a.kept → AddsAll (calls_of (setting a) ds (running a)) (story a.link) (story b.link)
  told_behind ds a b did honest = (did.done honest).calls

  -- the terms by which requests are read
  pub reads_same : (ds : List Deed) (a b : Server D L K) → Did view takes faults story counts ds a b → config_behind ds a.config ≡ a.config → reads_by b ≡ reads_by a
  reads_same ds a b did same =
      ap (λ (me : ℕ). terms_of me (length b.config.addresses) b.config.rules b.config.keys) did.same.me
      ∙ ap (λ (c : Settings). terms_of a.kept.node.control.me (length c.addresses) c.rules c.keys) (did.config ∙ same)

  -- Work that was due

  module _ (takes_then : (a b c : K) (x y : List ℕ) → takes a x b → takes b y c → takes a (x ++ y) c) (before : ℕ) (a b c : Server D L K) (did : Did view takes faults story counts (Reads before ∷ []) a b) where
    first : Does view takes faults story counts (one (Reads before)) a b
    first = record { deeds = Reads before ∷ []; did = did; are = λ honest. refl }

    -- the node when it was asked for due work
    pub due_then : (due : Option ℕ) → (IsHonest view b.kept → due ≡ due_in b before) → IsHonest view a.kept → due_in a before ≡ due
    due_then due is honest =
        ap (λ (r : Running). due_index r.works (shelf r.node.groups) before) (sym (did.done honest).after)
        ∙ sym (is (still_honest view takes fails faults story counts (Reads before ∷ []) a b did honest))

    -- the deeds of a turn by the work that was due
    one_by : (due : Option ℕ) (pace : Pace) (probing : Option Probing) (t : Observation) → t.before ≡ before → (IsHonest view a.kept → due_in a before ≡ due) → IsHonest view a.kept
        → takes_at due pace probing t (setting b) (running b) ≡ takes_one pace probing t (setting b) (running b)
    one_by due pace probing t begins is honest =
        ap (λ (o : Option ℕ). takes_at o pace probing t (setting b) (running b))
        (sym (is honest) ∙ ap (λ (r : Running). due_index r.works (shelf r.node.groups) before) (sym (did.done honest).after)
        ∙ ap (λ (n : ℕ). due_index b.works (shelf (node_of b.kept).groups) n) (sym begins))

    pub does_turn : (due : Option ℕ) (pace : Pace) (probing : Option Probing) (t : Observation) → t.before ≡ before → (IsHonest view a.kept → due_in a before ≡ due)
        → Does view takes faults story counts (takes_at due pace probing t) b c → Does view takes faults story counts (turns.dealt pace probing t) a c
    does_turn due pace probing t begins is does =
        subst (λ (n : ℕ). Does view takes faults story counts (one (Reads n) >> takes_one pace probing t) a c) (sym begins)
        (does_after view takes fails faults story counts takes_then (one (Reads before)) (takes_one pace probing t) (takes_at due pace probing t) a b c first (one_by due pace probing t begins is) does)

    pub stops_turn : (end : TurnEnd) (due : Option ℕ) (pace : Pace) (probing : Option Probing) (t : Observation) → t.before ≡ before → (IsHonest view a.kept → due_in a before ≡ due)
        → (stops : Stops view takes fails faults story counts end (takes_at due pace probing t) b c)
        → (whole : Stops view takes fails faults story counts end (turns.dealt pace probing t) a c) × (whole.deeds ≡ Reads before ∷ stops.deeds)
    stops_turn end due pace probing t begins is stops =
        one_then view takes fails faults story counts takes_then end (Reads before) (turns.dealt pace probing t) (takes_one pace probing t) (takes_at due pace probing t) a b c did
        (λ honest. ap (λ (n : ℕ). (one (Reads n) >> takes_one pace probing t) (setting a) (running a)) begins) (one_by due pace probing t begins is) stops

    -- the story when the link was asked
    lent_then : (event : LinkEvent) (bytes lent : List ℕ) (more : List Call) (x y z : Option (List Call)) → AddsAll (acts.Millis before ∷ []) x y → AddsAll more y z
        → IsLent y z event bytes lent → IsLent (after_reading before x) z event bytes lent
    lent_then event bytes lent more None y z made behind is = tt
    lent_then event bytes lent more (Some calls) y None made behind is = tt
    lent_then event bytes lent more (Some calls) None (Some end) made behind is = absurd behind
    lent_then event bytes lent more (Some calls) (Some now) (Some end) made behind is =
        is ∙ ap (λ (cs : List Call). lent_in event bytes (cs ++ acts.Next event bytes ∷ [])) made

    could_then : (event : LinkEvent) (more : List Call) (x y z : Option (List Call)) → AddsAll (acts.Millis before ∷ []) x y → AddsAll more y z → CouldCome y z event → CouldCome (after_reading before x) z event
    could_then event more None y z made behind could = tt
    could_then event more (Some calls) y None made behind could = tt
    could_then event more (Some calls) None (Some end) made behind could = absurd behind
    could_then event more (Some calls) (Some now) (Some end) made behind could = subst (λ (cs : List Call). IsTrue (may event cs)) made could

  -- One thing that happened

  module _ (takes_nothing : (k : K) → takes k [] k) (takes_then : (a b c : K) (x y : List ℕ) → takes a x b → takes b y c → takes a (x ++ y) c) (old : Turns D L K) (before wait : ℕ) (event : LinkEvent) (bytes : List ℕ) (b : Server D L K)
      (is : wait ≡ wait_for old.pace old.server.works before) (did : Did view takes faults story counts (Sees event wait bytes ∷ []) old.server b) where
    abbrev sees : Deed
    sees = Sees event (wait_for old.pace old.server.works before) bytes

    abbrev told_with : Came → ℕ → ℕ → ℕ → ℕ → Observation
    told_with came now median started seconds =
        record { before = before; event = event; bytes = bytes; came = came; now = now; median = median; started = started; seconds = seconds; look = looks.Nothing; reread = rereads.Nothing }

    seen : Did view takes faults story counts (sees ∷ []) old.server b
    seen = subst (λ (n : ℕ). Did view takes faults story counts (Sees event n bytes ∷ []) old.server b) is did

    -- memory ran out before the news was understood
    pub next_unread : (end : TurnEnd) (new : Turns D L K) → Breaks view takes fails faults story counts end Idle b new.server → NextStops view takes fails faults story counts end before old new
    next_unread end new breaks = record {
      told = told_with comes.Nothing 0 0 0 0;
      begins = refl;
      stops = record {
        deeds = sees ∷ [];
        under = Idle;
        breaks = breaks_behind view takes fails faults story counts (sees ∷ []) Idle end old.server b new.server seen breaks;
        cut = λ honest. record {
          behind = (one (Reads 0) >> deals old.pace old.probing comes.Nothing 0 0 0 0) (setting old.server) (after_all (sees ∷ []) (running old.server));
          front = refl;
          next = tt;
        };
      };
      read = λ honest. inl (omega arith);
    }

    module _ (errand : Option Errand) (lent : List ℕ) (came : Came) (now : ℕ) (c d : Server D L K) (new : Turns D L K)
        (told : Telling (GivesEvent event lent) (story old.server.link) (story b.link)) (errand_is : errand ≡ errand_in event old.server.dials) (means : Means (reads_by b) lent errand event came)
        (heads : c ≡ record b { heads = c.heads }) (read : Did view takes faults story counts (Reads now ∷ []) c d) where
      seen_whole : Did view takes faults story counts (sees ∷ []) old.server c
      seen_whole = did_heads (sees ∷ []) old.server b c heads seen

      -- the node when the news is dealt with
      node_then : IsHonest view old.server.kept → running d ≡ after (Sees event (wait_for old.pace old.server.works before) bytes) (running old.server)
      node_then honest = (read.done (still_honest view takes fails faults story counts (sees ∷ []) old.server c seen_whole honest)).after ∙ (seen_whole.done honest).after

      abbrev rest_by : ℕ → ℕ → ℕ → Part
      rest_by median started seconds = deals old.pace old.probing came now median started seconds

      honest_then : IsHonest view old.server.kept → IsHonest view d.kept
      honest_then honest = still_honest view takes fails faults story counts (Reads now ∷ []) c d read (still_honest view takes fails faults story counts (sees ∷ []) old.server c seen_whole honest)

      -- the news is that of the link
      pub is_read : (median started seconds : ℕ) (more : List Call) → AddsAll more (story b.link) (story new.server.link) → IsMeasured old.probing came now median → IsHonest view old.server.kept
          → IsRead old (story old.server.link) (story new.server.link) (told_with came now median started seconds)
      is_read median started seconds more behind measured honest =
          let l = lent_is event bytes lent more (story old.server.link) (story b.link) (story new.server.link) told (seen.done honest).calls behind in
          record {
            lent = l.bytes_lent;
            is_lent = l.is_lent;
            could = l.could;
            means = l.means (reads_by old.server) (errand_in event old.server.dials) came
                (subst (λ (t : NodeTerms). Means t lent (errand_in event old.server.dials) event came) (reads_same (sees ∷ []) old.server b seen refl)
                (subst (λ (e : Option Errand). Means (reads_by b) lent e event came) errand_is means));
            measured = measured;
          }

      link_same : c.link ≡ b.link
      link_same = ap (λ (s : Server D L K). s.link) heads

      -- the story of the link from there on
      calls_behind : (more : List Call) (z : Option (List Call)) → AddsAll more (story c.link) z → AddsAll more (story b.link) z
      calls_behind more z adds = subst (λ (x : L). AddsAll more (story x) z) link_same adds

      pub next_taken : Dealt view takes faults story counts came now (record old { server = d }) new → new.reading ≡ old.reading → NextTaken view takes faults story counts before (is_something came) old new
      next_taken dealt reading = record {
        told = told_with came now dealt.median dealt.started dealt.seconds;
        begins = refl;
        does = does_as view takes fails faults story counts (one sees >> (one (Reads now) >> rest_by dealt.median dealt.started dealt.seconds)) (takes_next old.pace old.probing (told_with came now dealt.median dealt.started dealt.seconds)) old.server new.server (λ honest. refl)
            (does_then view takes fails faults story counts takes_then (one sees) (one (Reads now) >> rest_by dealt.median dealt.started dealt.seconds) old.server c new.server (record { deeds = sees ∷ []; did = seen_whole; are = λ honest. refl })
            (does_then view takes fails faults story counts takes_then (one (Reads now)) (rest_by dealt.median dealt.started dealt.seconds) c d new.server (record { deeds = Reads now ∷ []; did = read; are = λ honest. refl }) dealt.does));
        read = λ honest.
            let c_honest = still_honest view takes fails faults story counts (sees ∷ []) old.server c seen_whole honest in
            let d_honest = still_honest view takes fails faults story counts (Reads now ∷ []) c d read c_honest in
            is_read dealt.median dealt.started dealt.seconds _
            (calls_behind _ (story new.server.link) (adds-then _ _ (story c.link) (story d.link) (story new.server.link) (read.done c_honest).calls (dealt.does.did.done d_honest).calls)) dealt.measured honest;
        serves = refl;
        pace = λ honest.
            dealt.pace (honest_then honest)
            ∙ ap (λ (r : Running). paced (quickened (came_hurries came r.node) old.pace) now dealt.seconds) (node_then honest);
        probing = λ honest. dealt.probing ∙ ap (λ (r : Running). probed came now r.dials old.probing) (node_then honest);
        reading = reading;
      }

      pub next_stops : (end : TurnEnd) → DealStops view takes fails faults story counts end came now (record old { server = d }) new → NextStops view takes fails faults story counts end before old new
      next_stops end dealt =
          let inner = one_then view takes fails faults story counts takes_then end (Reads now) (one (Reads now) >> rest_by dealt.median dealt.started dealt.seconds) (rest_by dealt.median dealt.started dealt.seconds) (rest_by dealt.median dealt.started dealt.seconds) c d new.server read (λ honest. refl) (λ honest. refl) dealt.stops in
          let whole = one_then view takes fails faults story counts takes_then end sees (takes_next old.pace old.probing (told_with came now dealt.median dealt.started dealt.seconds)) (one (Reads now) >> rest_by dealt.median dealt.started dealt.seconds) (one (Reads now) >> rest_by dealt.median dealt.started dealt.seconds) old.server c new.server seen_whole (λ honest. refl) (λ honest. refl) inner.0 in
          record {
            told = told_with came now dealt.median dealt.started dealt.seconds;
            begins = refl;
            stops = whole.0;
            read = λ honest.
                let c_honest = still_honest view takes fails faults story counts (sees ∷ []) old.server c seen_whole honest in
                let at = dealt.stops.breaks in
                let made = subst (λ (z : Option (List Call)). AddsAll (calls_of (setting d) dealt.stops.deeds (running d)) (story d.link) z) (sym at.2.told) (at.1.done (honest_then honest)).calls in
                inr (is_read dealt.median dealt.started dealt.seconds _
                (calls_behind _ (story new.server.link) (adds-then _ _ (story c.link) (story d.link) (story new.server.link) (read.done c_honest).calls made)) dealt.measured honest);
          }

  -- A turn

  module _ (takes_nothing : (k : K) → takes k [] k) (takes_then : (a b c : K) (x y : List ℕ) → takes a x b → takes b y c → takes a (x ++ y) c) (old : Turns D L K) (before : ℕ) (b : Server D L K) (new : Turns D L K) (did : Did view takes faults story counts (Reads before ∷ []) old.server b) where
    abbrev told_due : ℕ → Observation
    told_due seconds = record { before = before; event = events.Quiet; bytes = []; came = comes.Nothing; now = 0; median = 0; started = 0; seconds = seconds; look = looks.Nothing; reread = rereads.Nothing }

    -- some work was due
    module _ (place : ℕ) (is : IsHonest view old.server.kept → due_in old.server before ≡ Some place) where
      pub turned_due : (seconds : ℕ) → Renews view old.server.kept b.kept → Does view takes faults story counts (takes_due old.pace (slice_get b.works place) before seconds) b new.server → new.pace ≡ paced old.pace before seconds → new.probing ≡ old.probing → new.reading ≡ old.reading
          → Handled view takes faults story counts true old new
      turned_due seconds renews does pace probing reading = record {
        told = told_due seconds;
        renews = still_renewed view takes fails faults story counts (Reads before ∷ []) does.deeds old.server b new.server did does.did renews;
        does = does_turn takes_then before old.server b new.server did (Some place) old.pace old.probing
            (told_due seconds) refl is
            (record { deeds = does.deeds; did = does.did; are = does.are });
        read = λ honest. subst (λ (o : Option ℕ). MayRead story o old new.server (told_due seconds)) (sym (is honest)) tt;
        serves = λ honest. sym (ap (λ (o : Option ℕ). is_served o comes.Nothing) (is honest));
        pace = λ honest. pace ∙ sym (ap (λ (o : Option ℕ). pace_after o old.pace (told_due seconds) (node_of old.server.kept)) (is honest));
        probing = λ honest. probing ∙ sym (ap (λ (o : Option ℕ). probing_after o (told_due seconds) old.server.dials old.probing) (is honest));
        reading = reading;
      }

      pub stopped_due : (end : TurnEnd) (seconds : ℕ) → Stops view takes fails faults story counts end (takes_due old.pace (slice_get b.works place) before seconds) b new.server → HandleStops view takes fails faults story counts end old new
      stopped_due end seconds stops = record {
        told = told_due seconds;
        stops = (stops_turn takes_then before old.server b new.server did end (Some place) old.pace old.probing (told_due seconds) refl is
            (record { deeds = stops.deeds; under = stops.under; breaks = stops.breaks; cut = stops.cut })).0;
        read = λ honest. inr (subst (λ (o : Option ℕ). MayRead story o old new.server (told_due seconds)) (sym (is honest)) tt);
      }

    -- no work was due
    module _ (is : IsHonest view old.server.kept → due_in old.server before ≡ None) where
      -- the news that was read is that of the link in this turn
      read_then : (t : Observation) (more : List Call) → t.before ≡ before → IsHonest view old.server.kept → AddsAll more (story b.link) (story new.server.link)
          → IsRead (record old { server = b }) (story b.link) (story new.server.link) t → MayRead story (due_in old.server t.before) old new.server t
      read_then t more begins honest behind read =
          subst (λ (n : ℕ). MayRead story (due_in old.server n) old new.server t) (sym begins)
          (subst (λ (o : Option ℕ). MayRead story o old new.server t) (sym (is honest))
          (subst (λ (n : ℕ). IsRead old (after_reading n (story old.server.link)) (story new.server.link) t) (sym begins) (record {
            lent = read.lent;
            is_lent = lent_then takes_then before old.server b new.server did t.event t.bytes read.lent more (story old.server.link) (story b.link) (story new.server.link) (did.done honest).calls behind read.is_lent;
            could = could_then takes_then before old.server b new.server did t.event more (story old.server.link) (story b.link) (story new.server.link) (did.done honest).calls behind read.could;
            means = subst (λ (n : NodeTerms). Means n read.lent (errand_in t.event old.server.dials) t.event t.came) (reads_same (Reads before ∷ []) old.server b did refl)
                (subst (λ (r : Running). Means (reads_by b) read.lent (errand_in t.event r.dials) t.event t.came) (did.done honest).after read.means);
            measured = read.measured;
          })))

      b_honest : IsHonest view old.server.kept → IsHonest view b.kept
      b_honest honest = still_honest view takes fails faults story counts (Reads before ∷ []) old.server b did honest

      pub turned_next : (served : Bool) → Renews view old.server.kept b.kept → NextTaken view takes faults story counts before served (record old { server = b }) new → Handled view takes faults story counts served old new
      turned_next served renews taken = record {
        told = taken.told;
        renews = still_renewed view takes fails faults story counts (Reads before ∷ []) taken.does.deeds old.server b new.server did taken.does.did renews;
        does = does_turn takes_then before old.server b new.server did None old.pace old.probing taken.told taken.begins is
            (record { deeds = taken.does.deeds; did = taken.does.did; are = taken.does.are });
        read = λ honest. read_then taken.told _ taken.begins honest (taken.does.did.done (b_honest honest)).calls (taken.read (b_honest honest));
        serves = λ honest. taken.serves ∙ ap (λ (o : Option ℕ). is_served o taken.told.came) (sym (due_told taken.told taken.begins honest));
        pace = λ honest.
            taken.pace (b_honest honest)
            ∙ ap (λ (r : Running). paced (quickened (came_hurries taken.told.came r.node) old.pace) taken.told.now taken.told.seconds) (did.done honest).after
            ∙ ap (λ (o : Option ℕ). pace_after o old.pace taken.told (node_of old.server.kept)) (sym (due_told taken.told taken.begins honest));
        probing = λ honest.
            taken.probing (b_honest honest)
            ∙ ap (λ (r : Running). probed taken.told.came taken.told.now (dials_after taken.told.event r.dials) old.probing) (did.done honest).after
            ∙ ap (λ (o : Option ℕ). probing_after o taken.told old.server.dials old.probing) (sym (due_told taken.told taken.begins honest));
        reading = taken.reading;
      }
        where
          due_told : (t : Observation) → t.before ≡ before → IsHonest view old.server.kept → due_in old.server t.before ≡ None
          due_told t begins honest = ap (λ (n : ℕ). due_in old.server n) begins ∙ is honest

      pub stopped_next : (end : TurnEnd) → NextStops view takes fails faults story counts end before (record old { server = b }) new → HandleStops view takes fails faults story counts end old new
      stopped_next end taken =
          let whole = stops_turn takes_then before old.server b new.server did end None old.pace old.probing taken.told taken.begins is
          (record { deeds = taken.stops.deeds; under = taken.stops.under; breaks = taken.stops.breaks; cut = taken.stops.cut }) in
          record {
            told = taken.told;
            stops = whole.0;
            read = λ honest. elim (taken.read (b_honest honest)) [
              | inl few ↦ inl (let longer : length (whole.0.deeds) ≡ length (Reads before ∷ taken.stops.deeds) = ap length whole.1 in omega (arith, longer, few))
              | inr read ↦
                  let at = taken.stops.breaks in
                  inr (read_then taken.told _ taken.begins honest
                  (subst (λ (z : Option (List Call)). AddsAll (calls_of (setting b) taken.stops.deeds (running b)) (story b.link) z) (sym at.2.told) (at.1.done (b_honest honest)).calls) read)
            ];
          }

  -- the turn ended before it began
  pub stopped_at_once : (takes_nothing : (k : K) → takes k [] k) (end : TurnEnd) (old new : Turns D L K) → old.server.kept.closed ≡ false → Breaks view takes fails faults story counts end Idle old.server new.server
      → HandleStops view takes fails faults story counts end old new
  stopped_at_once takes_nothing end old new is_open breaks = record {
    told = record { before = 0; event = events.Quiet; bytes = []; came = comes.Nothing; now = 0; median = 0; started = 0; seconds = 0; look = looks.Nothing; reread = rereads.Nothing };
    stops = record {
      deeds = [];
      under = Idle;
      breaks = breaks_first view takes fails faults story counts takes_nothing Idle end old.server new.server is_open breaks;
      cut = λ honest. record { behind = _; front = refl; next = tt };
    };
    read = λ honest. inl (omega arith);
  }

  -- the link was asked in vain
  pub next_unasked : (takes_nothing : (k : K) → takes k [] k) (end : TurnEnd) (before : ℕ) (old new : Turns D L K) → old.server.kept.closed ≡ false → Breaks view takes fails faults story counts end Idle old.server new.server
      → NextStops view takes fails faults story counts end before old new
  next_unasked takes_nothing end before old new is_open breaks = record {
    told = record { before = before; event = events.Quiet; bytes = []; came = comes.Nothing; now = 0; median = 0; started = 0; seconds = 0; look = looks.Nothing; reread = rereads.Nothing };
    begins = refl;
    stops = record {
      deeds = [];
      under = Idle;
      breaks = breaks_first view takes fails faults story counts takes_nothing Idle end old.server new.server is_open breaks;
      cut = λ honest. record { behind = _; front = refl; next = tt };
    };
    read = λ honest. inl (omega arith);
  }
