-- Turns one after another do their deeds in order.
use Rattle.std.proofs.Common.{◌≡◌, ℕ, Bool, zero, suc, Option, None, Some, List, [], ◌∷◌, ◌++◌, inl, inr, refl, sym, ap, subst, ◌∙◌}
use Rattle.std.proofs.lemmas.List.{append-nil}
use Rattle.oc_link.specs.Told.{AddsAll}
use Rattle.oc_link.specs.declared.call.Call.{Call}
use Rattle.oc_link.specs.declared.call.Call.TheVariants as acts
use Rattle.oc_link.specs.declared.counts.LinkCounts.{LinkCounts}
use Rattle.oc_io.specs.DiskView.{DiskView}
use Rattle.oc_keep.specs.KeptView.{IsHonest}
use Rattle.oc_deeds.proofs.Chains.{after_append}
use Rattle.oc_deeds.proofs.PartsOrdered.{IsToldAt, turning}
use Rattle.oc_server.proofs.Scenes.{setting_stays, still_honest}
use Rattle.oc_deeds.proofs.Settled.{IsOrderly, ordered_front, ordered_then, orderly_none, orderly_then}
use Rattle.oc_deeds.specs.Deeds.{Deed, Running, Setting, after_all, calls_of, errand_in}
use Rattle.oc_deeds.specs.Replying.{IsOrdered}
use Rattle.oc_server.specs.Runs.{CouldCome, MayRead, ServeEnds, Serves, ServesUpTo, Turned, TurnStops, after_reading, due_in, reads_by}
use Rattle.oc_server.specs.Scenes.{running, setting}
use Rattle.oc_deeds.specs.Settled.{AreServed, IsSettled}
use Rattle.oc_server.specs.Settled.{deeds_of, deeds_until, deeds_up_to}
use Rattle.oc_deeds.specs.Rereading.{looks_again}
use Rattle.oc_deeds.specs.Turns.{Observation, dealt, turn}
use Rattle.oc_deeds.specs.declared.ends.TurnEnd.{TurnEnd}
use Rattle.oc_deeds.specs.declared.ends.TurnEnd.TheVariants as ends
use Rattle.oc_server.specs.declared.server.Server.{Server}
use Rattle.oc_server.specs.declared.turns.Turns.{Turns}
use Rattle.oc_deeds.proofs.TurnOrdered.{asked_only, calls_joined, due_or_asked, same_story, served_in_order, was_told}

module _ {D L K : Type 0} (view : D → DiskView) (takes fails : K → List ℕ → K → Type 0) (faults : K → ℕ) (story : L → Option (List Call)) (counts : L → LinkCounts) where
  -- the news that was read was told after these calls
  told_at : (due : Option ℕ) (old new : Turns D L K) (t : Observation) (made later : List Call) → story old.server.link ≡ Some made → story new.server.link ≡ Some later → MayRead story due old new.server t
      → IsToldAt due t (made ++ (acts.Millis t.before ∷ []))
  told_at (Some place) old new t made later before behind read = tt
  told_at None old new t made later before behind read = record {
    terms = reads_by old.server;
    lent = read.lent;
    errand = errand_in t.event old.server.dials;
    means = read.means;
    could = subst (λ (x : Option (List Call)). CouldCome (after_reading t.before x) (Some later) t.event) before
        (subst (λ (z : Option (List Call)). CouldCome (after_reading t.before (story old.server.link)) z t.event) behind read.could);
  }

  -- the deeds of a turn
  abbrev pub turn_of : Turns D L K → Observation → List Deed
  turn_of old t = turn old.pace old.probing t (setting old.server) (running old.server)

  whole_turn : (old new : Turns D L K) (t : Observation) (made later : List Call) → story old.server.link ≡ Some made → story new.server.link ≡ Some later → MayRead story (due_in old.server t.before) old new.server t
      → IsSettled made old.server.works → IsOrderly (setting old.server) made (turn_of old t) (running old.server)
  whole_turn old new t made later before behind read settled =
      turning (setting old.server) made old.pace old.probing t (running old.server) (told_at (due_in old.server t.before) old new t made later before behind read) settled

  -- Deeds in order from one server to another
  pub record IsDone (made later : List Call) (deeds : List Deed) (a b : Server D L K) : Type 0 where
    pub same : setting b ≡ setting a
    pub after : running b ≡ after_all deeds (running a)
    pub calls : later ≡ made ++ calls_of (setting a) deeds (running a)
    pub orderly : IsOrderly (setting a) made deeds (running a)

  still_settled : (made later : List Call) (deeds : List Deed) (a b : Server D L K) → (done : IsDone made later deeds a b) → IsSettled later b.works
  still_settled made later deeds a b done =
      subst (λ (r : Running). IsSettled later r.works) (sym done.after)
      (subst (λ (cs : List Call). IsSettled cs (after_all deeds (running a)).works) (sym done.calls) done.orderly.settled)

  calls_there : (at : List Call) (es : List Deed) (a b : Server D L K) → setting b ≡ setting a → (ds : List Deed) → running b ≡ after_all ds (running a)
      → at ++ calls_of (setting b) es (running b) ≡ at ++ calls_of (setting a) es (after_all ds (running a))
  calls_there at es a b same ds after =
      ap (λ (x : Setting). at ++ calls_of x es (running b)) same ∙ ap (λ (r : Running). at ++ calls_of (setting a) es r) after

  done_then : (made at later : List Call) (ds es : List Deed) (a b c : Server D L K) → IsDone made at ds a b → IsDone at later es b c → IsDone made later (ds ++ es) a c
  done_then made at later ds es a b c first second =
      let s : Setting = setting a in
      record {
        same = second.same ∙ first.same;
        after = second.after ∙ ap (λ (r : Running). after_all es r) first.after ∙ sym (after_append ds es (running a));
        calls = calls_joined s made at later ds es (running a) first.calls (second.calls ∙ calls_there at es a b first.same ds first.after);
        orderly = orderly_then s made ds es (running a) first.orderly
            (subst (λ (x : Setting). IsOrderly x (made ++ calls_of s ds (running a)) es (after_all ds (running a))) first.same
            (subst (λ (r : Running). IsOrderly (setting b) (made ++ calls_of s ds (running a)) es r) first.after
            (subst (λ (cs : List Call). IsOrderly (setting b) cs es (running b)) first.calls second.orderly)));
      }

  -- A turn

  pub turned_done : (served : Bool) (old new : Turns D L K) (made later : List Call) → (turned : Turned view takes faults story counts served old new) → IsHonest view old.server.kept
      → story old.server.link ≡ Some made → story new.server.link ≡ Some later → later ≡ made ++ calls_of (setting old.server) turned.does.deeds (running old.server) → IsSettled made old.server.works
      → IsDone made later turned.does.deeds old.server new.server
  turned_done served old new made later turned honest before behind calls settled =
      let did = turned.does.did in
      record {
        same = setting_stays view takes fails faults story counts old.server new.server did.same did.log;
        after = (did.done honest).after;
        calls = calls;
        orderly = subst (λ (ds : List Deed). IsOrderly (setting old.server) made ds (running old.server)) (sym (turned.does.are honest))
            (whole_turn old new turned.told made later before behind (turned.read honest) settled);
      }

  -- a turn does its deeds in order, and the works fit each connection after it
  pub turned_ordered : (served : Bool) (old new : Turns D L K) (made later : List Call) → (turned : Turned view takes faults story counts served old new) → IsHonest view old.server.kept
      → story old.server.link ≡ Some made → story new.server.link ≡ Some later → IsSettled made old.server.works
      → IsOrdered (setting old.server) made (turn_of old turned.told) (running old.server) × IsSettled later new.server.works
  turned_ordered served old new made later turned honest before behind settled =
      let did = turned.does.did in
      let mine : List Call = calls_of (setting old.server) turned.does.deeds (running old.server) in
      let told = was_told mine (story old.server.link) later (subst (λ (z : Option (List Call)). AddsAll mine (story old.server.link) z) behind (did.done honest).calls) in
      let same : made ≡ told.0 = same_story made (told.0) (sym before ∙ told.1) in
      let calls : later ≡ made ++ mine = told.2 ∙ ap (λ (cs : List Call). cs ++ mine) (sym same) in (
        (whole_turn old new turned.told made later before behind (turned.read honest) settled).ordered,
        still_settled made later turned.does.deeds old.server new.server (turned_done served old new made later turned honest before behind calls settled),
      )

  -- Turns

  serves_honest : (n : ℕ) (old new : Turns D L K) → IsHonest view old.server.kept → Serves view takes faults story counts n old new → IsHonest view new.server.kept
  serves_honest zero old new honest same = subst (λ (x : Turns D L K). IsHonest view x.server.kept) (sym same) honest
  serves_honest (suc n) old new honest (served, at, turned, rest) =
      serves_honest n at new (still_honest view takes fails faults story counts turned.does.deeds old.server at.server turned.does.did honest) rest

  -- the story before turns, and these deeds in order since
  pub record AreDoneSince (later : List Call) (deeds : List Deed) (old new : Turns D L K) : Type 0 where
    pub made : List Call
    pub before : story old.server.link ≡ Some made
    pub done : IsSettled made old.server.works → IsDone made later deeds old.server new.server

  pub serves_done : (n : ℕ) (old new : Turns D L K) (later : List Call) → IsHonest view old.server.kept → (serves : Serves view takes faults story counts n old new) → story new.server.link ≡ Some later
      → AreDoneSince later (deeds_of view takes faults story counts n old new serves) old new
  serves_done zero old new later honest same behind =
      subst (λ (x : Turns D L K). AreDoneSince later [] old x) (sym same) (record {
        made = later;
        before = subst (λ (x : Turns D L K). story x.server.link ≡ Some later) same behind;
        done = λ settled. record {
          same = refl;
          after = refl;
          calls = sym (append-nil later);
          orderly = orderly_none (setting old.server) later (running old.server) settled;
        };
      })
  serves_done (suc n) old new later honest (served, at, turned, rest) behind =
      let did = turned.does.did in
      let ds : List Deed = turned.does.deeds in
      let es : List Deed = deeds_of view takes faults story counts n at new rest in
      let at_honest = still_honest view takes fails faults story counts ds old.server at.server did honest in
      let since = serves_done n at new later at_honest rest behind in
      let told = was_told (calls_of (setting old.server) ds (running old.server)) (story old.server.link) since.made
      (subst (λ (z : Option (List Call)). AddsAll (calls_of (setting old.server) ds (running old.server)) (story old.server.link) z) since.before (did.done honest).calls) in
      record {
        made = told.0;
        before = told.1;
        done = λ settled.
            let first = turned_done served old at (told.0) since.made turned honest (told.1) since.before (told.2) settled in
            done_then (told.0) since.made later ds es old.server at.server new.server first (since.done (still_settled (told.0) since.made ds old.server at.server first));
      }

  -- A turn that ended partway through

  stopped_ordered : (end : TurnEnd) (old new : Turns D L K) (made later : List Call) → (stops : TurnStops view takes fails faults story counts end old new) → IsHonest view old.server.kept
      → story old.server.link ≡ Some made → story new.server.link ≡ Some later → IsSettled made old.server.works
      → IsOrdered (setting old.server) made stops.stops.deeds (running old.server)
  stopped_ordered end old new made later stops honest before behind settled =
      let t = stops.told in
      let cut = stops.stops.cut honest in
      let whole : MayRead story (due_in old.server t.before) old new.server t → IsOrdered (setting old.server) made stops.stops.deeds (running old.server) =
      λ read. ordered_front (setting old.server) made stops.stops.deeds cut.behind (running old.server)
      (subst (λ (ds : List Deed). IsOrdered (setting old.server) made ds (running old.server)) cut.front (whole_turn old new t made later before behind read settled).ordered) in
      elim (stops.read honest) [
        | inr read ↦ whole read
        | inl few ↦ elim (due_or_asked (due_in old.server t.before)) [
          | inl none ↦ asked_only (due_in old.server t.before) (setting old.server) made old.pace old.probing t (running old.server)
              (looks_again t.look t.reread (setting old.server) (after_all (dealt old.pace old.probing t (setting old.server) (running old.server)) (running old.server))) stops.stops.deeds cut.behind none cut.front few
          | inr due ↦ whole (subst (λ (o : Option ℕ). MayRead story o old new.server t) (sym (due.1)) tt)
        ]
      ]

  -- Turns of which the last may have ended partway through

  all_served : (n : ℕ) (old new : Turns D L K) (made later : List Call) → IsHonest view old.server.kept → story old.server.link ≡ Some made → story new.server.link ≡ Some later → old.server.works ≡ [] → IsSettled made old.server.works
      → (serves : Serves view takes faults story counts n old new) → AreServed (setting old.server) made later (deeds_of view takes faults story counts n old new serves) (running old.server)
  all_served n old new made later honest before behind none settled serves =
      let ds : List Deed = deeds_of view takes faults story counts n old new serves in
      let since = serves_done n old new later honest serves behind in
      let same : made ≡ since.made = same_story made since.made (sym before ∙ since.before) in
      let done = subst (λ (cs : List Call). IsDone cs later ds old.server new.server) (sym same) (since.done (subst (λ (cs : List Call). IsSettled cs old.server.works) same settled)) in
      served_in_order (setting old.server) made later (running old.server) ds none settled done.calls done.orderly.ordered

  -- deeds in order, and then those of a turn that ended partway through
  joined_served : (old at : Server D L K) (made mid later : List Call) (ds es : List Deed) → old.works ≡ [] → IsSettled made old.works → IsDone made mid ds old at → later ≡ mid ++ calls_of (setting at) es (running at)
      → IsOrdered (setting at) mid es (running at) → AreServed (setting old) made later (ds ++ es) (running old)
  joined_served old at made mid later ds es none settled done calls ordered =
      let s : Setting = setting old in
      served_in_order s made later (running old) (ds ++ es) none settled
      (calls_joined s made mid later ds es (running old) done.calls (calls ∙ calls_there mid es old at done.same ds done.after))
      (ordered_then s made ds es (running old) done.orderly.ordered
      (subst (λ (x : Setting). IsOrdered x (made ++ calls_of s ds (running old)) es (after_all ds (running old))) done.same
      (subst (λ (r : Running). IsOrdered (setting at) (made ++ calls_of s ds (running old)) es r) done.after
      (subst (λ (cs : List Call). IsOrdered (setting at) cs es (running at)) done.calls ordered))))

  up_to_served : (most : ℕ) (end : TurnEnd) (old new : Turns D L K) (made later : List Call) → IsHonest view old.server.kept → story old.server.link ≡ Some made → story new.server.link ≡ Some later → old.server.works ≡ []
      → IsSettled made old.server.works → (up : ServesUpTo view takes fails faults story counts most end old new)
      → AreServed (setting old.server) made later (deeds_up_to view takes fails faults story counts most end old new up) (running old.server)
  up_to_served most end old new made later honest before behind none settled up =
      let at = up.at.server in
      let ds : List Deed = deeds_of view takes faults story counts up.done old up.at up.serves in
      let es : List Deed = up.stops.stops.deeds in
      let breaks = up.stops.stops.breaks in
      let at_honest = serves_honest up.done old up.at honest up.serves in
      let told = was_told (calls_of (setting at) es (running at)) (story at.link) later
      (subst (λ (z : Option (List Call)). AddsAll (calls_of (setting at) es (running at)) (story at.link) z) (sym breaks.2.told ∙ behind) (breaks.1.done at_honest).calls) in
      let since = serves_done up.done old up.at (told.0) honest up.serves (told.1) in
      let same : made ≡ since.made = same_story made since.made (sym before ∙ since.before) in
      let done = subst (λ (cs : List Call). IsDone cs (told.0) ds old.server at) (sym same) (since.done (subst (λ (cs : List Call). IsSettled cs old.server.works) same settled)) in
      joined_served old.server at made (told.0) later ds es none settled done (told.2)
      (stopped_ordered end up.at new (told.0) later up.stops at_honest (told.1) behind (still_settled made (told.0) ds old.server at done))

  pub ends_served : (most : ℕ) (end : TurnEnd) (old new : Turns D L K) (made later : List Call) → IsHonest view old.server.kept → story old.server.link ≡ Some made → story new.server.link ≡ Some later → old.server.works ≡ []
      → IsSettled made old.server.works → (ended : ServeEnds view takes fails faults story counts most end old new)
      → AreServed (setting old.server) made later (deeds_until view takes fails faults story counts most end old new ended) (running old.server)
  ends_served most ends.Served old new made later honest before behind none settled served = all_served most old new made later honest before behind none settled served
  ends_served most ends.Link old new made later honest before behind none settled served = up_to_served most ends.Link old new made later honest before behind none settled served
  ends_served most ends.Disk old new made later honest before behind none settled served = up_to_served most ends.Disk old new made later honest before behind none settled served
  ends_served most ends.Full old new made later honest before behind none settled served = up_to_served most ends.Full old new made later honest before behind none settled served
  ends_served most ends.Sink old new made later honest before behind none settled served = up_to_served most ends.Sink old new made later honest before behind none settled served
  ends_served most ends.Memory old new made later honest before behind none settled served = up_to_served most ends.Memory old new made later honest before behind none settled served
