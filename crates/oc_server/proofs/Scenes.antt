-- Scenes after scenes.
use Rattle.std.proofs.Common.{◌≡◌, ◌≤◌, ℕ, false, true, Option, List, [], ◌++◌, length, refl, sym, ap, subst, ◌∙◌, arith}
use Rattle.std.proofs.lemmas.List.{append-nil}
use Rattle.oc_config.specs.Settings.{Settings, key_of}
use Rattle.oc_link.specs.Told.{AddsAll}
use Rattle.oc_link.specs.declared.call.Call.{Call}
use Rattle.oc_link.specs.declared.counts.LinkCounts.{LinkCounts}
use Rattle.oc_link.proofs.Stories.{adds-none, adds-then}
use Rattle.oc_io.specs.DiskView.{DiskView}
use Rattle.oc_io.specs.Faults.{NoFall, Rose}
use Rattle.oc_io.proofs.Counts.{Rose-after}
use Rattle.oc_keep.specs.Files.{AllGoOn, Leaves, SameAsEither, Survives}
use Rattle.oc_keep.specs.KeptView.{IsHonest, KeptView, disks_of, header_of, node_of}
use Rattle.oc_keep.specs.Promises.{IsSameSeat}
use Rattle.oc_keep.proofs.Areas.{leaves_areas, survives_areas}
use Rattle.oc_keep.proofs.Runs.{all_go_on_then, one_rose_after}
use Rattle.oc_keep.proofs.Stays.{all_honest}
use Rattle.oc_base.proofs.Each.{all_append}
use Rattle.oc_model.specs.Node.{Header, Node}
use Rattle.oc_model.specs.Step.{step}
use Rattle.oc_policy.specs.declared.deciding.TheConstants.{MAX_RULES}
use Rattle.oc_deeds.specs.Deeds.{Deed, Running, Setting, after_all, calls_of, config_behind, line, lines}
use Rattle.oc_deeds.specs.Changes.{Change, KeepsAreas, after_changes, changes_of}
use Rattle.oc_deeds.specs.Records.{is_record}
use Rattle.oc_deeds.proofs.ChangesOf.{keep_same}
use Rattle.oc_server.specs.Looks.{Renews}
use Rattle.oc_server.specs.Moments.{AtEachPrefix}
use Rattle.oc_deeds.specs.Done.{AreDone}
use Rattle.oc_server.specs.Scenes.{Breaks, BreaksAfter, Did, HasCause, IsServing, KeepsAll, KeepsRecord, LeavesAt, LeavesUnder, WritesAt, running, setting}
use Rattle.oc_deeds.specs.Lawful.{IsPlaced}
use Rattle.oc_deeds.specs.Under.{Under, Idle, Taking, Noting, under_line}
use Rattle.oc_deeds.specs.declared.ends.TurnEnd.{TurnEnd}
use Rattle.oc_deeds.specs.declared.ends.TurnEnd.TheVariants as ends
use Rattle.oc_deeds.specs.declared.log.Log.{Log}
use Rattle.oc_server.specs.declared.server.Server.{Server}
use Rattle.oc_deeds.proofs.Chains.{after_append, calls_append, config_append, counts_append, counts_listening, changes_append, lines_append}
use Rattle.oc_server.proofs.Chains.{nodes_behind}
use Rattle.oc_server.proofs.Moments.{prefix_areas, prefix_then}
use Rattle.oc_server.proofs.Looking.{go_on_none, keeps_no_fall, keeps_then, looks_none, seated}

-- what a server is set to, by its parts
abbrev setting_with : ℕ → Log → Setting
setting_with me log = record { me = me; log = log }

-- A running node after deeds

-- nothing
pub done_none : (s : Setting) (a : Running) (story : Option (List Call)) → AreDone s [] a a story story
done_none s a story = record { after = refl; calls = adds-none story }

-- deeds after deeds
pub done_then : (s : Setting) (ds es : List Deed) (a b c : Running) (x y z : Option (List Call)) → AreDone s ds a b x y → AreDone s es b c y z → AreDone s (ds ++ es) a c x z
done_then s ds es a b c x y z first second = record {
  after = second.after ∙ ap (after_all es) first.after ∙ sym (after_append ds es a);
  calls = subst (λ (cs : List Call). AddsAll cs x z) (sym (calls_append s ds es a))
      (adds-then (calls_of s ds a) (calls_of s es (after_all ds a)) x y z first.calls (subst (λ (r : Running). AddsAll (calls_of s es r) y z) first.after second.calls));
}

module _ {D L K : Type 0} (view : D → DiskView) (takes fails : K → List ℕ → K → Type 0) (faults : K → ℕ) (story : L → Option (List Call)) (counts : L → LinkCounts) where
  -- Nothing was done

  pub did_none : (takes_nothing : (k : K) → takes k [] k) (a : Server D L K) → a.kept.closed ≡ false → Did view takes faults story counts [] a a
  did_none takes_nothing a is_open = record {
    is_open = is_open;
    same = record { me = refl; header = refl };
    recorded = λ is. record { each = tt; areas = refl };
    config = refl;
    set = λ set. set;
    log = refl;
    goes_on = go_on_none view (disks_of a.kept);
    no_fall = omega arith;
    counted = refl;
    keeps = looks_none view a.kept is_open;
    lawful = λ lawful. lawful;
    text = takes_nothing a.sink;
    done = λ honest. done_none (setting a) (running a) (story a.link);
    moments = λ honest. (0, refl, refl);
  }

  -- Deeds after deeds

  -- which node it is, and what it writes
  pub setting_stays : (a b : Server D L K) → IsSameSeat a.kept.node.control b.kept.node.control → b.log ≡ a.log → setting b ≡ setting a
  setting_stays a b same log =
      ap (λ (me : ℕ). setting_with me b.log) same.me ∙ ap (λ (x : Log). setting_with a.kept.node.control.me x) log

  -- the lines after lines, told of the same node
  text_then : (takes_then : (a b c : K) (x y : List ℕ) → takes a x b → takes b y c → takes a (x ++ y) c) (s other : Setting) (ds es : List Deed) (a b c : K)
      → other ≡ s → takes a (lines s ds) b → takes b (lines other es) c → takes a (lines s (ds ++ es)) c
  text_then takes_then s other ds es a b c same first second =
      subst (λ (t : List ℕ). takes a t c) (sym (lines_append s ds es))
      (takes_then a b c (lines s ds) (lines s es) first (subst (λ (x : Setting). takes b (lines x es) c) same second))

  -- what is kept for a record by deeds after deeds
  record_then : (ds es : List Deed) (a b c : Server D L K) → IsSameSeat a.kept.node.control b.kept.node.control → b.log ≡ a.log → KeepsRecord ds a b → (is_record b.log ≡ true → KeepsRecord es b c) → is_record a.log ≡ true → KeepsRecord (ds ++ es) a c
  record_then ds es a b c same log first second is =
      let more : KeepsRecord es b c = second (ap is_record log ∙ is) in
      let n = a.kept.node.control in
      record {
        each = all_append (KeepsAreas n) ds es first.each (keep_same n b.kept.node.control (sym (ap (λ (h : Header). h.nodes) same.header)) (sym first.areas) es more.each);
        areas = more.areas ∙ first.areas;
      }

  pub did_then : (takes_then : (a b c : K) (x y : List ℕ) → takes a x b → takes b y c → takes a (x ++ y) c) (ds es : List Deed) (a b c : Server D L K)
      → Did view takes faults story counts ds a b → Did view takes faults story counts es b c → Did view takes faults story counts (ds ++ es) a c
  did_then takes_then ds es a b c first second = record {
    is_open = second.is_open;
    same = record { me = second.same.me ∙ first.same.me; header = second.same.header ∙ first.same.header };
    recorded = λ is. record_then ds es a b c first.same first.log (first.recorded is) second.recorded is;
    config = second.config ∙ ap (config_behind es) first.config ∙ sym (config_append ds es a.config);
    set = λ set. second.set (first.set set);
    log = second.log ∙ first.log;
    goes_on = all_go_on_then view (disks_of a.kept) (disks_of b.kept) (disks_of c.kept) first.goes_on second.goes_on;
    no_fall = omega (arith, first.no_fall, second.no_fall);
    counted = counts_append ds es (counts a.link) (counts b.link) (counts c.link) first.counted second.counted;
    keeps = subst (λ (cs : List Change). KeepsAll view cs a.kept c.kept) (sym (changes_append ds es)) (keeps_then view (changes_of ds) (changes_of es) a.kept b.kept c.kept first.keeps second.keeps);
    lawful = λ lawful. second.lawful (first.lawful lawful);
    text = text_then takes_then (setting a) (setting b) ds es a.sink b.sink c.sink (setting_stays a b first.same first.log) first.text second.text;
    done = λ honest. done_then (setting a) ds es (running a) (running b) (running c) (story a.link) (story b.link) (story c.link) (first.done honest)
        (subst (λ (s : Setting). AreDone s es (running b) (running c) (story b.link) (story c.link)) (setting_stays a b first.same first.log)
        (second.done (all_honest view (disks_of a.kept) (disks_of b.kept) first.goes_on honest)));
    moments = λ honest.
        prefix_then view (header_of a.kept.node.control) a.kept.node.control.me takes (line (setting a)) ds es (node_of a.kept) (disks_of a.kept) (disks_of b.kept) (disks_of c.kept) a.sink b.sink c.sink (first.moments honest)
        (subst (λ (n : Node). AtEachPrefix view (header_of a.kept.node.control) a.kept.node.control.me takes (line (setting a)) es n (disks_of b.kept) b.sink (disks_of c.kept) c.sink)
        (ap (λ (r : Running). r.node) (first.done honest).after ∙ nodes_behind ds (running a))
        (subst (λ (s : Setting). AtEachPrefix view (header_of a.kept.node.control) a.kept.node.control.me takes (line s) es (node_of b.kept) (disks_of b.kept) b.sink (disks_of c.kept) c.sink)
        (setting_stays a b first.same first.log)
        (seated (λ h me. AtEachPrefix view h me takes (line (setting b)) es (node_of b.kept) (disks_of b.kept) b.sink (disks_of c.kept) c.sink)
        (λ areas h me. prefix_areas view areas h me takes (line (setting b)) es (node_of b.kept) (disks_of b.kept) (disks_of c.kept) b.sink c.sink) a.kept b.kept first.same
        (second.moments (all_honest view (disks_of a.kept) (disks_of b.kept) first.goes_on honest)))));
  }

  -- The facts between any two calls hold after deeds
  pub still_serving : (ds : List Deed) (a b : Server D L K) → Did view takes faults story counts ds a b → IsServing a → IsServing b
  still_serving ds a b did serving =
      record { is_open = did.is_open; set = did.set serving.set; lawful = did.lawful serving.lawful }

  -- the disks that kept the disk model keep it
  pub still_honest : (ds : List Deed) (a b : Server D L K) → Did view takes faults story counts ds a b → IsHonest view a.kept → IsHonest view b.kept
  still_honest ds a b did honest = all_honest view (disks_of a.kept) (disks_of b.kept) did.goes_on honest

  -- the generation of the files does not fall
  pub did_no_fall : (ds : List Deed) (a b : Server D L K) → Did view takes faults story counts ds a b → IsHonest view a.kept → NoFall a.kept.store.generation b.kept.store.generation
  did_no_fall ds a b did honest = keeps_no_fall view (changes_of ds) a.kept b.kept did.keeps honest

  -- files that were renewed stay renewed
  pub still_renewed : (ds es : List Deed) (a b c : Server D L K) → Did view takes faults story counts ds a b → Did view takes faults story counts es b c
      → Renews view a.kept b.kept → Renews view a.kept c.kept
  still_renewed ds es a b c did more renews honest ripe = omega (arith, renews honest ripe, did_no_fall es b c more (still_honest ds a b did honest))

  -- the node after deeds is the fold of their changes
  pub did_node : (ds : List Deed) (a b : Server D L K) → Did view takes faults story counts ds a b → IsHonest view a.kept → node_of b.kept ≡ after_changes (node_of a.kept) (changes_of ds)
  did_node ds a b did honest = ap (λ (r : Running). r.node) (did.done honest).after ∙ nodes_behind ds (running a)

  -- Breaks after deeds

  -- a break after one list of deeds
  pub breaks_behind : (ds : List Deed) (under : Under) (end : TurnEnd) (a b c : Server D L K)
      → Did view takes faults story counts ds a b → Breaks view takes fails faults story counts end under b c → BreaksAfter view takes fails faults story counts end ds under a c
  breaks_behind ds under end a b c did breaks = (b, did, breaks)

  -- a break after no deeds
  pub breaks_first : (takes_nothing : (k : K) → takes k [] k) (under : Under) (end : TurnEnd) (a c : Server D L K)
      → a.kept.closed ≡ false → Breaks view takes fails faults story counts end under a c → BreaksAfter view takes fails faults story counts end [] under a c
  breaks_first takes_nothing under end a c is_open breaks = (a, did_none takes_nothing a is_open, breaks)

  -- a break after further deeds
  pub breaks_then : (takes_then : (a b c : K) (x y : List ℕ) → takes a x b → takes b y c → takes a (x ++ y) c) (ds es : List Deed) (under : Under) (end : TurnEnd) (a b c : Server D L K)
      → Did view takes faults story counts ds a b → BreaksAfter view takes fails faults story counts end es under b c → BreaksAfter view takes fails faults story counts end (ds ++ es) under a c
  breaks_then takes_then ds es under end a b c did (at, more, breaks) = (at, did_then takes_then ds es a b at did more, breaks)

  -- The files and outputs at a break after deeds

  under_of : (a b c : KeptView D) (under : Under) (n m : Node) → IsSameSeat a.node.control b.node.control → m ≡ n → LeavesUnder view b c m under → LeavesUnder view a c n under
  under_of a b c (Taking i) n m same is leaves =
      subst (λ (x : Node). Leaves view (header_of a.node.control) a.node.control.me (disks_of c) (SameAsEither x (step x i).node)) is
      (seated (λ h me. Leaves view h me (disks_of c) (SameAsEither m (step m i).node)) (λ areas h me. leaves_areas view areas h me (disks_of c) m (step m i).node) a b same leaves)
  under_of a b c under n m same is leaves =
      subst (λ (x : Node). Survives view (header_of a.node.control) a.node.control.me (disks_of c) x) is
      (seated (λ h me. Survives view h me (disks_of c) m) (λ areas h me. survives_areas view areas h me (disks_of c) m) a b same leaves)

  leaves_of : (a b c : KeptView D) (end : TurnEnd) (under : Under) (n m : Node) → IsSameSeat a.node.control b.node.control → m ≡ n → LeavesAt view b c end m under → LeavesAt view a c end n under
  leaves_of a b c ends.Disk under n m same is leaves = under_of a b c under n m same is leaves
  leaves_of a b c ends.Sink under n m same is leaves = under_of a b c under n m same is leaves
  leaves_of a b c end under n m same is leaves = under_of a b c Idle n m same is leaves

  -- every crash leaves the fold of the changes so far, or with the input under way
  pub broken_leaves : (ds : List Deed) (under : Under) (end : TurnEnd) (a c : Server D L K) → BreaksAfter view takes fails faults story counts end ds under a c
      → IsHonest view a.kept → LeavesAt view a.kept c.kept end (after_changes (node_of a.kept) (changes_of ds)) under
  broken_leaves ds under end a c (b, did, breaks) honest =
      leaves_of a.kept b.kept c.kept end under (after_changes (node_of a.kept) (changes_of ds)) (node_of b.kept) did.same (did_node ds a b did honest) (breaks.leaves (still_honest ds a b did honest))

  write_then : (takes_then : (a b c : K) (x y : List ℕ) → takes a x b → takes b y c → takes a (x ++ y) c) (takes_fails : (a b c : K) (x y : List ℕ) → takes a x b → fails b y c → fails a (x ++ y) c)
      → (a b c : K) (end : TurnEnd) (x line : List ℕ) → takes a x b → WritesAt takes fails b c end [] line → WritesAt takes fails a c end x line
  write_then takes_then takes_fails a b c ends.Sink x line first (front, is, failed) = (front, is, takes_fails a b c x front first failed)
  write_then takes_then takes_fails a b c end x line first second = subst (λ (t : List ℕ). takes a t c) (append-nil x) (takes_then a b c x [] first second)

  -- the lines of the deeds were written, and where the output failed some prefix of the one under way
  pub broken_text : (takes_then : (a b c : K) (x y : List ℕ) → takes a x b → takes b y c → takes a (x ++ y) c) (takes_fails : (a b c : K) (x y : List ℕ) → takes a x b → fails b y c → fails a (x ++ y) c)
      → (ds : List Deed) (under : Under) (end : TurnEnd) (a c : Server D L K) → BreaksAfter view takes fails faults story counts end ds under a c
      → WritesAt takes fails a.sink c.sink end (lines (setting a) ds) (under_line (setting a) under)
  broken_text takes_then takes_fails ds under end a c (b, did, breaks) =
      write_then takes_then takes_fails a.sink b.sink c.sink end (lines (setting a) ds) (under_line (setting a) under) did.text
      (subst (λ (s : Setting). WritesAt takes fails b.sink c.sink end [] (under_line s under)) (setting_stays a b did.same did.log) breaks.text)

  cause_of : (a b c : KeptView D) (end : TurnEnd) (under : Under) (x y z : K) (p q r : LinkCounts) → AllGoOn view (disks_of a) (disks_of b) → NoFall (faults x) (faults y) → q.listening ≡ p.listening
      → HasCause view faults end under b c y z q r → HasCause view faults end under a c x z p r
  cause_of a b c ends.Disk under x y z p q r on few same cause = one_rose_after view (disks_of a) (disks_of b) (disks_of c) on cause
  cause_of a b c ends.Sink under x y z p q r on few same cause = Rose-after _ _ _ few cause
  cause_of a b c ends.Full (Taking i) x y z p q r on few same cause = cause
  cause_of a b c ends.Full Idle x y z p q r on few same cause = cause
  cause_of a b c ends.Full (Noting line) x y z p q r on few same cause = cause
  cause_of a b c ends.Link under x y z p q r on few same cause = subst (λ (n : ℕ). Rose n r.listening) same cause
  cause_of a b c ends.Memory under x y z p q r on few same cause = tt
  cause_of a b c ends.Served under x y z p q r on few same cause = cause

  -- the cause of a break: a count rose, or a file is full
  pub broken_cause : (ds : List Deed) (under : Under) (end : TurnEnd) (a c : Server D L K) → BreaksAfter view takes fails faults story counts end ds under a c
      → HasCause view faults end under a.kept c.kept a.sink c.sink (counts a.link) (counts c.link)
  broken_cause ds under end a c (b, did, breaks) =
      cause_of a.kept b.kept c.kept end under a.sink b.sink c.sink (counts a.link) (counts b.link) (counts c.link) did.goes_on did.no_fall (counts_listening ds (counts a.link) (counts b.link) did.counted) breaks.cause
