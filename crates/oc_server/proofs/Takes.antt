-- One input is taken, or it is not.
use Rattle.std.proofs.Common.{◌≡◌, ℕ, zero, suc, take, drop, IsTrue, false, true, List, Option, [], ◌∷◌, ◌++◌, None, Some, inl, inr, refl, sym, ap, subst, ◌∙◌}
use Rattle.std.proofs.lemmas.List.{append-nil}
use Rattle.std.specs.List.{AllByRecursion}
use Rattle.oc_base.specs.declared.shelf.Shelf.{Shelf}
use Rattle.oc_link.specs.Calls.{IsFront}
use Rattle.oc_link.specs.Told.{AddsAll}
use Rattle.oc_link.specs.declared.call.Call.{Call}
use Rattle.oc_link.specs.declared.counts.LinkCounts.{LinkCounts}
use Rattle.oc_link.proofs.Stories.{adds-none}
use Rattle.oc_io.specs.DiskView.{DiskView}
use Rattle.oc_io.specs.Faults.{NoFall}
use Rattle.oc_keep.specs.Calls.{IsSameOnFiles, RefusesInput}
use Rattle.oc_keep.specs.Files.{AllGoOn, SameAsEither, Survives}
use Rattle.oc_keep.specs.KeptView.{AtAnyMoment, IsFullAt, IsFullByPlan, IsHonest, KeptView, NodeSurvives, disks_of, header_of, node_of}
use Rattle.oc_keep.specs.Promises.{ChangesNothing, IsSameNode}
use Rattle.oc_keep.specs.declared.errors.KeepError.{KeepError}
use Rattle.oc_keep.specs.declared.errors.KeepError.TheVariants as keeps
use Rattle.oc_keep.proofs.Stays.{Law, all_honest, leaves_now}
use Rattle.oc_laws_step.specs.LawfulNode.{IsLawfulOutcome}
use Rattle.oc_model.specs.Lawful.{IsInput, IsMessage}
use Rattle.oc_model.specs.Node.{Control, Header, Node}
use Rattle.oc_model.specs.Step.{plan, step}
use Rattle.oc_model.specs.declared.input.Input.{Input}
use Rattle.oc_model.specs.declared.input.Input.TheVariants as inputs
use Rattle.oc_model.specs.declared.message.Message.{Message}
use Rattle.oc_node.specs.OutcomeView.{OutcomeView}
use Rattle.oc_routes.specs.Inputs.{HasLine}
use Rattle.oc_wire.specs.Spelling.{HasSpelling}
use Rattle.std.specs.Prelude.{unwrap_or}
use Rattle.oc_config.specs.Settings.{Settings}
use Rattle.oc_deeds.specs.Deeds.{Accepts, counted_input, Deed, Running, Takes, after, calls, for_outbox, deed_input, line, reread_of, sender_of, taken_line}
use Rattle.oc_deeds.specs.Changes.{Change, with_change}
use Rattle.oc_deeds.proofs.ChangesOf.{change_input, keeps_areas}
use Rattle.oc_server.specs.Noting.{LineStops}
use Rattle.oc_server.specs.Moments.{TakesOne}
use Rattle.oc_deeds.specs.Outboxes.{with_messages}
use Rattle.oc_server.specs.Scenes.{Breaks, Did, KeepStops, KeepsAll, KeepsOne, end_of, running, setting}
use Rattle.oc_deeds.specs.Done.{CountsAll}
use Rattle.oc_deeds.specs.Lawful.{IsLawfulDial, IsLawfulWork}
use Rattle.oc_deeds.specs.Under.{Taking}
use Rattle.oc_deeds.specs.Sending.{AreSendable}
use Rattle.oc_deeds.specs.declared.dials.Dialling.{Dialling}
use Rattle.oc_deeds.specs.declared.ends.TurnEnd.{TurnEnd}
use Rattle.oc_deeds.specs.declared.ends.TurnEnd.TheVariants as ends
use Rattle.oc_routes.specs.Sights.{about_of}
use Rattle.oc_routes.specs.Tallies.{TallyView, known_before}
use Rattle.oc_routes.specs.declared.about.About.{About}
use Rattle.oc_deeds.specs.Counted.{noted}
use Rattle.oc_server.specs.declared.server.Server.{Server}
use Rattle.oc_deeds.specs.declared.work.Work.{Work}
use Rattle.oc_server.proofs.Looking.{go_on_none, keeps_one, named}
use Rattle.oc_server.proofs.Moments.{prefix_one}
use Rattle.oc_deeds.proofs.Messages.{lawful_are, kept_sendable, with_sendable}
use Rattle.oc_server.proofs.Lawful.{lawful_of, seat_of, set_of}

-- the messages of the step of a lawful node can be sent
pub step_sendable : (nodes : ℕ) (n : Node) (i : Input) → ((m : Message) → IsMessage nodes m → HasSpelling m.body) → IsLawfulOutcome nodes (step n i) → AreSendable nodes (step n i).sends
step_sendable nodes n i text lawful = lawful_are nodes (step n i).sends text lawful.sends

module _ {D : Type 0} (view : D → DiskView) (law : Law view) (old new : KeptView D) (i : Input) where
  -- every crash leaves the node that is there while no disk failed
  open_leaves : IsSameNode old.node.control new.node.control → AllGoOn view (disks_of old) (disks_of new) → (IsHonest view old → node_of new ≡ node_of old)
      → new.closed ≡ false → (new.closed ≡ false → IsHonest view new → NodeSurvives view new (node_of new))
      → IsHonest view old → Survives view (header_of old.node.control) old.node.control.me (disks_of new) (node_of old)
  open_leaves same on node is_open survives honest =
      subst (λ (n : Node). Survives view (header_of old.node.control) old.node.control.me (disks_of new) n) (node honest)
      (named (λ h me. Survives view h me (disks_of new) (node_of new)) old new same
      (survives is_open (all_honest view (disks_of old) (disks_of new) on honest)))

  -- a file that was full is full still, where nothing changed
  full_still : ChangesNothing view old new → IsFullAt old i → IsFullAt new i
  full_still nothing full =
      subst (λ (n : Control). IsFullByPlan new.store.current.end new.content.journal.end new.content.shelves i (plan n new.content.shelves i)) (sym nothing.control)
      (subst (λ (lines : List Shelf). IsFullByPlan new.store.current.end new.content.journal.end lines i (plan old.node.control lines i)) (sym nothing.content.shelves)
      (subst (λ (end : ℕ). IsFullByPlan new.store.current.end end old.content.shelves i (plan old.node.control old.content.shelves i)) (sym nothing.content.journal.end)
      (subst (λ (end : ℕ). IsFullByPlan end old.content.journal.end old.content.shelves i (plan old.node.control old.content.shelves i)) (sym nothing.store.current.end) full)))

  pub keep_stops : (error : KeepError) → old.closed ≡ false → IsSameOnFiles view old new → (error ≡ keeps.Closed → IsTrue old.closed) → RefusesInput view error i old new
      → (IsHonest view old → AtAnyMoment view old new (SameAsEither (node_of old) (step (node_of old) i).node))
      → (new.closed ≡ false → IsHonest view new → NodeSurvives view new (node_of new))
      → KeepStops view (end_of error) i old new
  keep_stops keeps.Closed is_open same closed refused moments survives =
      let yes : old.closed ≡ true = closed refl in let no = is_open in absurd cc
  keep_stops keeps.Memory is_open same closed refused moments survives = record {
    leaves = open_leaves same.node same.goes_on refused.node (refused.why.still ∙ is_open) survives;
    any_moment = moments;
    goes_on = same.goes_on;
    cause = tt;
    meets = tt;
  }
  keep_stops keeps.Full is_open same closed refused moments survives = record {
    leaves = open_leaves same.node same.goes_on refused.node (refused.why.1.still ∙ is_open) survives;
    any_moment = moments;
    goes_on = same.goes_on;
    cause = full_still refused.why.1.nothing refused.why.0;
    meets = (refused.why.0, refused.why.1);
  }
  keep_stops keeps.Disk is_open same closed refused moments survives = record {
    leaves = λ honest. leaves_now view (header_of old.node.control) old.node.control.me (disks_of old) (disks_of new) (SameAsEither (node_of old) (step (node_of old) i).node) law (all_honest view (disks_of old) (disks_of new) same.goes_on honest) (moments honest);
    any_moment = moments;
    goes_on = same.goes_on;
    cause = refused.why.1.rose;
    meets = refused.why.0;
  }

-- A server that takes an input

-- what it counted, with an input of this outcome that led from one server to another
abbrev noted_by : {D L K : Type 0} → Input → OutcomeView → Server D L K → Server D L K → TallyView
noted_by i outcome old new = noted (sender_of i) (known_before i old.kept.node.control.kept.table) outcome.answer new.kept.node.control old.tally

module _ {D L K : Type 0} (view : D → DiskView) (takes fails : K → List ℕ → K → Type 0) (faults : K → ℕ) (story : L → Option (List Call)) (counts : L → LinkCounts) where
  -- an input was taken with its line, and these of its messages went to the outbox
  did_input : (d : Deed) (i : Input) (outcome : OutcomeView) (kept : List Message → List Message) (old new : Server D L K)
      → deed_input d ≡ Some i → reread_of d ≡ None → line (setting old) d ≡ taken_line old.log old.kept.node.control.me i
      → ((a : Running) → after d a ≡ record a { node = (step a.node i).node; outbox = with_messages a.outbox (kept (step a.node i).sends); tally = counted_input i a.node a.tally }) → ((a : Running) → calls (setting old) d a ≡ [])
      → CountsAll (d ∷ []) (counts old.link) (counts old.link)
      → ((ms : List Message) → AreSendable old.kept.node.control.nodes ms → AreSendable old.kept.node.control.nodes (kept ms))
      → old.kept.closed ≡ false → KeepsOne view i outcome old.kept new.kept → takes old.sink (taken_line old.log old.kept.node.control.me i) new.sink → NoFall (faults old.sink) (faults new.sink)
      → new.config ≡ old.config → new.log ≡ old.log → new.about ≡ old.about → new.link ≡ old.link → new.works ≡ old.works → new.dials ≡ old.dials → new.outbox ≡ with_messages old.outbox (kept outcome.sends)
      → new.tally ≡ noted_by i outcome old new
      → Did view takes faults story counts (d ∷ []) old new
  did_input d i outcome kept old new own unread lined behind silent counted can is_open keeps text few config log about link works dials outbox tally = record {
    is_open = keeps.is_open;
    same = seat_of old.kept.node.control new.kept.node.control keeps.same;
    recorded = λ is. record { each = (keeps_areas old.kept.node.control d unread, tt); areas = ap (λ (h : Header). h.areas) keeps.same.header };
    config = config ∙ ap (λ (o : Option Settings). unwrap_or o old.config) (sym unread);
    set = set_of old new keeps.same config log;
    log = log;
    goes_on = keeps.goes_on;
    no_fall = few;
    counted = subst (λ (l : L). CountsAll (d ∷ []) (counts old.link) (counts l)) (sym link) counted;
    keeps = subst (λ (o : Option Change). KeepsAll view (with_change o []) old.kept new.kept) (sym (change_input d i own)) (keeps_one view i outcome old.kept new.kept is_open keeps);
    lawful = lawful_of old new (seat_of old.kept.node.control new.kept.node.control keeps.same)
        (λ before. subst (λ (ms : List Message). AreSendable old.kept.node.control.nodes ms) (sym outbox) (with_sendable old.kept.node.control.nodes old.outbox (kept outcome.sends) before (can outcome.sends keeps.sendable)))
        (λ before. subst (λ (ws : List Work). AllByRecursion (IsLawfulWork old.kept.node.control.nodes old.kept.node.control.me) ws) (sym works) before)
        (λ before. subst (λ (ds : List Dialling). AllByRecursion (IsLawfulDial old.kept.node.control.nodes) ds) (sym dials) before);
    text = subst (λ (t : List ℕ). takes old.sink t new.sink) (sym (append-nil (line (setting old) d) ∙ lined)) text;
    done = λ honest. record {
      after = is honest ∙ sym (behind (running old));
      calls = subst (λ (cs : List Call). AddsAll cs (story old.link) (story new.link)) (sym (append-nil (calls (setting old) d (running old)) ∙ silent (running old)))
          (subst (λ (l : L). AddsAll [] (story old.link) (story l)) (sym link) (adds-none (story old.link)));
    };
    moments = λ honest.
        prefix_one view (header_of old.kept.node.control) old.kept.node.control.me takes (line (setting old)) d (node_of old.kept) (disks_of old.kept) (disks_of old.kept) (disks_of new.kept) old.sink new.sink
        (0, refl)
        (subst (λ (o : Option Input). TakesOne view (header_of old.kept.node.control) old.kept.node.control.me o (node_of old.kept) (disks_of old.kept) (disks_of new.kept)) (sym own) (record { goes_on = keeps.goes_on; any_moment = keeps.any_moment honest }))
        (subst (λ (t : List ℕ). takes old.sink t new.sink) (sym lined) text);
  }
    where
      -- it was counted by the step of the input
      tallied : IsHonest view old.kept → new.tally ≡ counted_input i (node_of old.kept) old.tally
      tallied honest =
          tally
          ∙ ap (λ (o : OutcomeView). noted (sender_of i) (known_before i old.kept.node.control.kept.table) o.answer new.kept.node.control old.tally) (keeps.outcome_is honest)
          ∙ ap (λ (n : Node). noted (sender_of i) (known_before i old.kept.node.control.kept.table) (step (node_of old.kept) i).answer n.control old.tally) (keeps.node honest)

      is : IsHonest view old.kept
          → running new ≡ record (running old) { node = (step (node_of old.kept) i).node; outbox = with_messages old.outbox (kept (step (node_of old.kept) i).sends); tally = counted_input i (node_of old.kept) old.tally }
      is honest =
          ap (λ (n : Node). record { node = n; outbox = new.outbox; works = new.works; dials = new.dials; config = new.config; tally = new.tally; about = about_of new.about }) (keeps.node honest)
          ∙ ap (λ (ms : List Message). record { node = (step (node_of old.kept) i).node; outbox = ms; works = new.works; dials = new.dials; config = new.config; tally = new.tally; about = about_of new.about }) outbox
          ∙ ap (λ (o : OutcomeView). record { node = (step (node_of old.kept) i).node; outbox = with_messages old.outbox (kept o.sends); works = new.works; dials = new.dials; config = new.config; tally = new.tally; about = about_of new.about }) (keeps.outcome_is honest)
          ∙ ap (λ (ws : List Work). record { node = (step (node_of old.kept) i).node; outbox = with_messages old.outbox (kept (step (node_of old.kept) i).sends); works = ws; dials = new.dials; config = new.config; tally = new.tally; about = about_of new.about }) works
          ∙ ap (λ (ds : List Dialling). record { node = (step (node_of old.kept) i).node; outbox = with_messages old.outbox (kept (step (node_of old.kept) i).sends); works = old.works; dials = ds; config = new.config; tally = new.tally; about = about_of new.about }) dials
          ∙ ap (λ (c : Settings). record { node = (step (node_of old.kept) i).node; outbox = with_messages old.outbox (kept (step (node_of old.kept) i).sends); works = old.works; dials = old.dials; config = c; tally = new.tally; about = about_of new.about }) config
          ∙ ap (λ (t : TallyView). record { node = (step (node_of old.kept) i).node; outbox = with_messages old.outbox (kept (step (node_of old.kept) i).sends); works = old.works; dials = old.dials; config = old.config; tally = t; about = about_of new.about }) (tallied honest)
          ∙ ap (λ (x : About). record { node = (step (node_of old.kept) i).node; outbox = with_messages old.outbox (kept (step (node_of old.kept) i).sends); works = old.works; dials = old.dials; config = old.config; tally = counted_input i (node_of old.kept) old.tally; about = about_of x }) about

  -- all messages went to the outbox
  pub did_take : (i : Input) (outcome : OutcomeView) (old new : Server D L K) → old.kept.closed ≡ false → KeepsOne view i outcome old.kept new.kept
      → takes old.sink (taken_line old.log old.kept.node.control.me i) new.sink → NoFall (faults old.sink) (faults new.sink)
      → new.config ≡ old.config → new.log ≡ old.log → new.about ≡ old.about → new.link ≡ old.link → new.works ≡ old.works → new.dials ≡ old.dials → new.outbox ≡ with_messages old.outbox outcome.sends
      → new.tally ≡ noted_by i outcome old new
      → Did view takes faults story counts (Takes i ∷ []) old new
  did_take i outcome old new = did_input (Takes i) i outcome (λ ms. ms) old new refl refl refl (λ a. refl) (λ a. refl) refl (λ ms all. all)

  -- the outbox gets all messages but the one back to the sender
  pub did_accept : (i : Input) (outcome : OutcomeView) (old new : Server D L K) → old.kept.closed ≡ false → KeepsOne view i outcome old.kept new.kept
      → takes old.sink (taken_line old.log old.kept.node.control.me i) new.sink → NoFall (faults old.sink) (faults new.sink)
      → new.config ≡ old.config → new.log ≡ old.log → new.about ≡ old.about → new.link ≡ old.link → new.works ≡ old.works → new.dials ≡ old.dials → new.outbox ≡ with_messages old.outbox (for_outbox i outcome.sends)
      → new.tally ≡ noted_by i outcome old new
      → Did view takes faults story counts (Accepts i ∷ []) old new
  did_accept i outcome old new = did_input (Accepts i) i outcome (for_outbox i) old new refl refl refl (λ a. refl) (λ a. refl) refl (λ ms all. kept_sendable old.kept.node.control.nodes ms (sender_of i) all)

  -- an input that was not taken wrote nothing
  pub keep_breaks : (takes_nothing : (k : K) → takes k [] k) (end : TurnEnd) (i : Input) (old new : Server D L K)
      → new.sink ≡ old.sink → story new.link ≡ story old.link → counts new.link ≡ counts old.link
      → KeepStops view end i old.kept new.kept → Breaks view takes fails faults story counts end (Taking i) old new
  keep_breaks takes_nothing ends.Disk i old new sink told counted stops =
      record { text = subst (λ (k : K). takes old.sink [] k) (sym sink) (takes_nothing old.sink); leaves = stops.leaves; moments = λ honest. inl (record { goes_on = stops.goes_on; any_moment = stops.any_moment honest }); goes_on = stops.goes_on; cause = stops.cause; meets = stops.meets; told = told; counted = counted }
  keep_breaks takes_nothing ends.Full i old new sink told counted stops =
      record { text = subst (λ (k : K). takes old.sink [] k) (sym sink) (takes_nothing old.sink); leaves = stops.leaves; moments = λ honest. inl (record { goes_on = stops.goes_on; any_moment = stops.any_moment honest }); goes_on = stops.goes_on; cause = stops.cause; meets = stops.meets; told = told; counted = counted }
  keep_breaks takes_nothing ends.Memory i old new sink told counted stops =
      record { text = subst (λ (k : K). takes old.sink [] k) (sym sink) (takes_nothing old.sink); leaves = stops.leaves; moments = λ honest. inl (record { goes_on = stops.goes_on; any_moment = stops.any_moment honest }); goes_on = stops.goes_on; cause = tt; meets = tt; told = told; counted = counted }
  keep_breaks takes_nothing ends.Served i old new sink told counted stops = absurd stops.cause
  keep_breaks takes_nothing ends.Link i old new sink told counted stops = absurd stops.cause
  keep_breaks takes_nothing ends.Sink i old new sink told counted stops = absurd stops.cause

  -- memory ran out before an input was taken
  pub memory_before : (takes_nothing : (k : K) → takes k [] k) (i : Input) (old : Server D L K) → (IsHonest view old.kept → NodeSurvives view old.kept (node_of old.kept))
      → Breaks view takes fails faults story counts ends.Memory (Taking i) old old
  memory_before takes_nothing i old survives =
      record { text = takes_nothing old.sink; leaves = survives; moments = λ honest. inr refl; goes_on = go_on_none view (disks_of old.kept); cause = tt; meets = tt; told = refl; counted = refl }

  -- the output failed in the line of an input that the files have
  pub write_breaks : (end : TurnEnd) (i : Input) (outcome : OutcomeView) (old new : Server D L K) → story new.link ≡ story old.link → counts new.link ≡ counts old.link
      → KeepsOne view i outcome old.kept new.kept → LineStops fails faults end (taken_line old.log old.kept.node.control.me i) old.sink new.sink
      → Breaks view takes fails faults story counts end (Taking i) old new
  write_breaks ends.Sink i outcome old new told counted kept (front, is, failed, rose) = record {
    text = (front, is, failed);
    leaves = λ honest.
        let left : Survives view (header_of old.kept.node.control) old.kept.node.control.me (disks_of new.kept) (step (node_of old.kept) i).node =
        subst (λ (n : Node). Survives view (header_of old.kept.node.control) old.kept.node.control.me (disks_of new.kept) n) (kept.node honest)
        (named (λ h me. Survives view h me (disks_of new.kept) (node_of new.kept)) old.kept new.kept kept.same (kept.survives honest)) in
        record { each = λ a b c may. inr (left.each a b c may) };
    moments = λ honest. inl (record { goes_on = kept.goes_on; any_moment = kept.any_moment honest });
    goes_on = kept.goes_on;
    cause = rose;
    meets = kept.fits;
    told = told;
    counted = counted;
  }
  write_breaks ends.Memory i outcome old new told counted kept stops = absurd stops
  write_breaks ends.Served i outcome old new told counted kept stops = absurd stops
  write_breaks ends.Link i outcome old new told counted kept stops = absurd stops
  write_breaks ends.Disk i outcome old new told counted kept stops = absurd stops
  write_breaks ends.Full i outcome old new told counted kept stops = absurd stops

module _ {D L K : Type 0} (view : D → DiskView) (takes fails : K → List ℕ → K → Type 0) (faults : K → ℕ) (story : L → Option (List Call)) (counts : L → LinkCounts) where
  -- the output failed in the line of an input, where the line is given as an equal text
  pub write_breaks_as : (end : TurnEnd) (i : Input) (outcome : OutcomeView) (old new : Server D L K) (text : List ℕ) → text ≡ taken_line old.log old.kept.node.control.me i → story new.link ≡ story old.link → counts new.link ≡ counts old.link
      → KeepsOne view i outcome old.kept new.kept → LineStops fails faults end text old.sink new.sink
      → Breaks view takes fails faults story counts end (Taking i) old new
  write_breaks_as end i outcome old new text same told counted kept stops =
      write_breaks view takes fails faults story counts end i outcome old new told counted kept (subst (λ (t : List ℕ). LineStops fails faults end t old.sink new.sink) same stops)

-- a lawful input has a line
pub has_line : (nodes me : ℕ) (i : Input) → ((m : Message) → IsMessage nodes m → HasSpelling m.body) → IsInput nodes me i → HasLine i
has_line nodes me (inputs.Delivered m) text lawful = text m lawful.0
has_line nodes me i text lawful = tt

-- the first bytes of a line are a prefix of the line
pub front_of : (n : ℕ) (bytes line : List ℕ) → bytes ≡ line → IsFront (take n bytes) line
front_of n bytes line is = (drop n bytes, sym is ∙ parts n bytes)
  where
    parts : (k : ℕ) (xs : List ℕ) → xs ≡ take k xs ++ drop k xs
    parts zero xs = refl
    parts (suc k) [] = refl
    parts (suc k) (x ∷ xs) = ap (λ (ys : List ℕ). x ∷ ys) (parts k xs)
