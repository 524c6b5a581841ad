-- A run of inputs, one after another.
use Rattle.std.proofs.Common.{◌≡◌, inl, inr, ℕ, ◌+◌, ◌-◌, ◌<◌, false, true, IsTrue, List, [], ◌∷◌, ◌++◌, length, reverse, take, drop, refl, sym, ap, subst, ◌∙◌, arith, append_assoc}
use Rattle.std.specs.List.{AllByRecursion}
use Rattle.std.proofs.lemmas.List.{append-nil, drop_at, length-append, reverse-append}
use Rattle.oc_base.specs.declared.shelf.Shelf.{Shelf}
use Rattle.oc_model.specs.declared.input.Input.{Input}
use Rattle.oc_model.specs.Lawful.{IsInput}
use Rattle.oc_model.specs.Node.{Control, Header, Node}
use Rattle.oc_model.specs.Step.{plan, step}
use Rattle.oc_io.specs.DiskView.{DiskView}
use Rattle.oc_io.proofs.Counts.{Rose-after}
use Rattle.oc_io.proofs.DiskMoments.{GoesOn-then, still_reliable}
use Rattle.oc_keep.specs.Calls.{DoesNothing, RefusesInput}
use Rattle.oc_keep.specs.declared.ended.Trial.{Trial}
use Rattle.oc_keep.specs.declared.ended.TrialEnd.{TrialEnd}
use Rattle.oc_keep.specs.declared.ended.TrialEnd.TheVariants.{All, Load, Take}
use Rattle.oc_keep.specs.declared.errors.KeepError.{KeepError}
use Rattle.oc_keep.specs.declared.errors.KeepError.TheVariants as keeps
use Rattle.oc_keep.specs.Files.{Disks, AllGoOn, AreHonest, AreReliable, Leaves, OneRose, SameAsEither, SameDurable, Survives}
use Rattle.oc_keep.specs.KeptView.{AtAnyMoment, IsFullAt, IsFullByPlan, IsFullOn, IsHonest, KeptView, NodeSurvives, disks_of, header_of, node_of}
use Rattle.oc_keep.specs.Promises.{ChangesNothing, IsNodeOf, IsSameNode, LoadsSafely}
use Rattle.oc_keep.specs.Trials.{BeginsWith, EndsFull, HasCause, HasRunCause, HasTakeCause, LeavesAfter, LeavesBy, LeavesEnd, LeavesTaken, RunLeaves, after_inputs, first_node}
use Rattle.oc_keep.proofs.Stays.{AllStay, Law, all_honest, all_were_honest, leaves_now, nothing_node, nothing_stays}

-- Lists of inputs

-- one more input
after_push : (n : Node) (t : List Input) (i : Input) → after_inputs n (t ++ i ∷ []) ≡ (step (after_inputs n t) i).node
after_push n [] i = refl
after_push n (x ∷ t) i = after_push (step n x).node t i

-- a prefix of two lists in a row
take_front : (t rest : List Input) → take (length t) (t ++ rest) ≡ t
take_front [] rest = refl
take_front (x ∷ t) rest = ap (λ (xs : List Input). x ∷ xs) (take_front t rest)

-- one input fewer is left
pub one_fewer : (m n : ℕ) → m + 1 ≡ n → m < n
one_fewer m n is = omega (arith, is)

-- Disks

pub all_go_on_then : {D : Type 0} (view : D → DiskView) (a b c : Disks D) → AllGoOn view a b → AllGoOn view b c → AllGoOn view a c
all_go_on_then view a b c first second = record {
  control = GoesOn-then (view a.control) (view b.control) (view c.control) first.control second.control;
  alternate = GoesOn-then (view a.alternate) (view b.alternate) (view c.alternate) first.alternate second.alternate;
  content = GoesOn-then (view a.content) (view b.content) (view c.content) first.content second.content;
}

pub all_reliable : {D : Type 0} (view : D → DiskView) (a b : Disks D) → AllGoOn view a b → AreReliable view a → AreReliable view b
all_reliable view a b on sure = record {
  control = still_reliable (view a.control) (view b.control) on.control sure.control;
  alternate = still_reliable (view a.alternate) (view b.alternate) on.alternate sure.alternate;
  content = still_reliable (view a.content) (view b.content) on.content sure.content;
}

-- a count that rose after other changes
pub one_rose_after : {D : Type 0} (view : D → DiskView) (a b c : Disks D) → AllGoOn view a b → OneRose view b c → OneRose view a c
one_rose_after view a b c on (inl rose) = inl (Rose-after _ _ _ on.control.count rose)
one_rose_after view a b c on (inr (inl rose)) = inr (inl (Rose-after _ _ _ on.alternate.count rose))
one_rose_after view a b c on (inr (inr rose)) = inr (inr (Rose-after _ _ _ on.content.count rose))

-- disks without a write are left by every crash as before
leaves_stays : {D : Type 0} (view : D → DiskView) (h : Header) (me : ℕ) (old new : Disks D) (P : Node → Type 0) → AreHonest view old → AllStay view old new → Leaves view h me old P → Leaves view h me new P
leaves_stays view h me old new P honest stay leaves = record {
  each = λ a b c left. leaves.each a b c (record {
    control = stay.control.images honest.control a left.control;
    alternate = stay.alternate.images honest.alternate b left.alternate;
    content = stay.content.images honest.content c left.content;
  });
}

-- a file stays as full as it was where nothing changed
stays_full : {D : Type 0} (view : D → DiskView) (k k2 : KeptView D) (i : Input) → ChangesNothing view k k2 → IsFullAt k i → IsFullAt k2 i
stays_full view k k2 i same full =
    subst (λ (n : Control). IsFullByPlan k2.store.current.end k2.content.journal.end k2.content.shelves i (plan n k2.content.shelves i)) (sym same.control)
    (subst (λ (ls : List Shelf). IsFullByPlan k2.store.current.end k2.content.journal.end ls i (plan k.node.control ls i)) (sym same.content.shelves)
    (subst (λ (n : ℕ). IsFullByPlan k2.store.current.end n k.content.shelves i (plan k.node.control k.content.shelves i)) (sym same.content.journal.end)
    (subst (λ (n : ℕ). IsFullByPlan n k.content.journal.end k.content.shelves i (plan k.node.control k.content.shelves i)) (sym same.store.current.end) full)))

-- a list that begins with an input with P begins with one with Q, where P gives Q
pub begins_with : (P Q : Input → Type 0) (is : List Input) → ((i : Input) → P i → Q i) → BeginsWith P is → BeginsWith Q is
begins_with P Q [] f h = h
begins_with P Q (i ∷ is) f h = f i h

-- the disks that a run hands back, where it ended at a full file
pub full_on : {D : Type 0} (view : D → DiskView) (first : Node) (k : KeptView D) (d : Disks D) (is : List Input) (done : ℕ) (old : KeptView D) → EndsFull old is k done → node_of old ≡ first → d ≡ disks_of k
    → ((i : Input) → IsFullAt k i → IsFullOn view (disks_of k) (node_of k) i) → BeginsWith (IsFullOn view d (after_inputs first (take done is))) (drop done is)
full_on view first k d is done old ends node same full =
    begins_with (IsFullAt k) (IsFullOn view d (after_inputs first (take done is))) (drop done is)
    (λ i h. subst (λ (e : Disks _). IsFullOn view e (after_inputs first (take done is)) i) (sym same)
    (subst (λ (m : Node). IsFullOn view (disks_of k) m i) (ends.node ∙ ap (λ (m : Node). after_inputs m (take done is)) node) (full i h))) ends.next

-- A run

-- the inputs taken so far, and those that are left
pub record IsSoFar {D : Type 0} (view : D → DiskView) (first now : KeptView D) (all rest : List Input) (done : ℕ) : Type 0 where
  pub taken : List Input
  pub split : all ≡ taken ++ rest
  pub count : done ≡ length taken
  pub is_open : now.closed ≡ false
  pub same : IsSameNode first.node.control now.node.control
  pub on : AllGoOn view (disks_of first) (disks_of now)
  pub node : IsHonest view first → node_of now ≡ after_inputs (node_of first) taken
  pub survives : IsHonest view first → NodeSurvives view now (node_of now)
  pub lawful : AllByRecursion (IsInput first.node.control.nodes first.node.control.me) rest

module _ {D : Type 0} (view : D → DiskView) (law : Law view) (first : KeptView D) (all : List Input) where
  -- the run before the first input
  pub so_far_none : first.closed ≡ false → (IsHonest view first → NodeSurvives view first (node_of first)) → AllByRecursion (IsInput first.node.control.nodes first.node.control.me) all → IsSoFar view first first all all 0
  so_far_none is_open survives lawful = record {
    taken = [];
    split = refl;
    count = refl;
    is_open = is_open;
    same = record { me = refl; header = refl };
    on = go_on_same;
    node = λ _. refl;
    survives = survives;
    lawful = lawful;
  }
    where
      go_on_same : AllGoOn view (disks_of first) (disks_of first)
      go_on_same = record {
        control = record { honest = refl; reliable = refl; name = refl; listed = refl; count = omega arith };
        alternate = record { honest = refl; reliable = refl; name = refl; listed = refl; count = omega arith };
        content = record { honest = refl; reliable = refl; name = refl; listed = refl; count = omega arith };
      }

  -- the last item of the reversed list is the next input
  pub popped : (now : KeptView D) (inputs rest : List Input) (i : Input) (done : ℕ) → inputs ≡ rest ++ i ∷ [] → IsSoFar view first now all (reverse inputs) done → IsSoFar view first now all (i ∷ reverse rest) done
  popped now inputs rest i done is so = subst (λ (left : List Input). IsSoFar view first now all left done) (ap reverse is ∙ reverse-append rest (i ∷ [])) so

  -- no input is left
  pub popped_none : (now : KeptView D) (inputs rest : List Input) (done len : ℕ) → inputs ≡ rest ++ [] → rest ≡ take (len - 1) inputs → len ≡ 0 → IsSoFar view first now all (reverse inputs) done → IsSoFar view first now all [] done
  popped_none now inputs rest done len is front none so =
      subst (λ (left : List Input). IsSoFar view first now all (reverse left) done) (is ∙ append-nil rest ∙ front ∙ ap (λ (n : ℕ). take (n - 1) inputs) none) so

  -- the next input is an input of this node
  pub next_lawful : (now : KeptView D) (i : Input) (rest : List Input) (done : ℕ) → IsSoFar view first now all (i ∷ rest) done → IsInput now.node.control.nodes now.node.control.me i
  next_lawful now i rest done so =
      subst (λ (me : ℕ). IsInput now.node.control.nodes me i) (sym so.same.me)
      (subst (λ (h : Header). IsInput h.nodes first.node.control.me i) (sym so.same.header) so.lawful.0)

  -- the next input was taken
  pub so_far_on : (now new : KeptView D) (i : Input) (rest : List Input) (done : ℕ) → IsSoFar view first now all (i ∷ rest) done
      → new.closed ≡ now.closed → IsSameNode now.node.control new.node.control → AllGoOn view (disks_of now) (disks_of new)
      → (IsHonest view now → node_of new ≡ (step (node_of now) i).node) → (IsHonest view now → NodeSurvives view new (node_of new))
      → IsSoFar view first new all rest (done + 1)
  so_far_on now new i rest done so still same on node survives = record {
    taken = so.taken ++ i ∷ [];
    split = so.split ∙ sym (append_assoc so.taken (i ∷ []) rest);
    count = omega (arith, so.count, length-append so.taken (i ∷ []));
    is_open = still ∙ so.is_open;
    same = record { me = same.me ∙ so.same.me; header = same.header ∙ so.same.header };
    on = all_go_on_then view (disks_of first) (disks_of now) (disks_of new) so.on on;
    node = λ honest. node (later honest) ∙ ap (λ (n : Node). (step n i).node) (so.node honest) ∙ sym (after_push (node_of first) so.taken i);
    survives = λ honest. survives (later honest);
    lawful = so.lawful.1;
  }
    where
      later : IsHonest view first → IsHonest view now
      later honest = all_honest view (disks_of first) (disks_of now) so.on honest

  -- all inputs were taken
  pub so_far_all : (now : KeptView D) (done : ℕ) → IsSoFar view first now all [] done → (done ≡ length all) × (IsHonest view first → Survives view (header_of first.node.control) first.node.control.me (disks_of now) (after_inputs (node_of first) all))
  so_far_all now done so =
      let whole : all ≡ so.taken = so.split ∙ append-nil so.taken in (
        so.count ∙ ap length (sym whole),
        λ honest.
            subst (λ (is : List Input). Survives view (header_of first.node.control) first.node.control.me (disks_of now) (after_inputs (node_of first) is)) (sym whole)
            (named now so.same (λ h me. Survives view h me (disks_of now) (after_inputs (node_of first) so.taken))
            (subst (λ (n : Node). NodeSurvives view now n) (so.node honest) (so.survives honest))),
      )
    where
      named : (now : KeptView D) → IsSameNode first.node.control now.node.control → (P : Header → ℕ → Type 0) → P (header_of now.node.control) now.node.control.me → P (header_of first.node.control) first.node.control.me
      named now same P p = subst (λ (me : ℕ). P (header_of first.node.control) me) same.me (subst (λ (h : Header). P h now.node.control.me) same.header p)

  -- the next input was refused
  pub refused_count : (now : KeptView D) (i : Input) (rest : List Input) (done : ℕ) → IsSoFar view first now all (i ∷ rest) done → done < length all
  refused_count now i rest done so = omega (arith, so.count, ap length so.split, length-append so.taken (i ∷ rest))

  pub refused_cause : (now new : KeptView D) (i : Input) (rest : List Input) (done : ℕ) (error : KeepError) → IsSoFar view first now all (i ∷ rest) done
      → (error ≡ keeps.Closed → IsTrue now.closed) → RefusesInput view error i now new → HasTakeCause view (disks_of first) (disks_of new) error
  refused_cause now new i rest done keeps.Closed so closed refused = let no : now.closed ≡ true = closed refl in let yes = so.is_open in absurd cc
  refused_cause now new i rest done keeps.Memory so closed refused = tt
  refused_cause now new i rest done keeps.Full so closed refused = tt
  refused_cause now new i rest done keeps.Disk so closed refused = one_rose_after view (disks_of first) (disks_of now) (disks_of new) so.on refused.why.1.rose

  pub refused_leaves : (now new : KeptView D) (i : Input) (rest : List Input) (done : ℕ) (error : KeepError) → IsSoFar view first now all (i ∷ rest) done → AllGoOn view (disks_of now) (disks_of new)
      → RefusesInput view error i now new
      → (IsHonest view now → AtAnyMoment view now new (SameAsEither (node_of now) (step (node_of now) i).node))
      → IsHonest view first → LeavesTaken view (header_of first.node.control) first.node.control.me (node_of first) all (disks_of new) done error
  refused_leaves now new i rest done error so on refused moments honest = by_error error refused where
    later : IsHonest view now
    later = all_honest view (disks_of first) (disks_of now) so.on honest

    front : take done all ≡ so.taken
    front = ap (λ (n : ℕ). take n all) so.count ∙ ap (take (length so.taken)) so.split ∙ take_front so.taken (i ∷ rest)

    more : take (done + 1) all ≡ so.taken ++ i ∷ []
    more =
        let long : done + 1 ≡ length (so.taken ++ i ∷ []) = omega (arith, so.count, length-append so.taken (i ∷ [])) in
        ap (λ (n : ℕ). take n all) long ∙ ap (take (length (so.taken ++ i ∷ []))) (so.split ∙ sym (append_assoc so.taken (i ∷ []) rest)) ∙ take_front (so.taken ++ i ∷ []) rest

    before : node_of now ≡ after_inputs (node_of first) (take done all)
    before = so.node honest ∙ ap (after_inputs (node_of first)) (sym front)

    after : (step (node_of now) i).node ≡ after_inputs (node_of first) (take (done + 1) all)
    after = ap (λ (n : Node). (step n i).node) (so.node honest) ∙ sym (after_push (node_of first) so.taken i) ∙ ap (after_inputs (node_of first)) (sym more)

    named : (P : Header → ℕ → Type 0) → P (header_of now.node.control) now.node.control.me → P (header_of first.node.control) first.node.control.me
    named P p = subst (λ (me : ℕ). P (header_of first.node.control) me) so.same.me (subst (λ (h : Header). P h now.node.control.me) so.same.header p)

    failed : Leaves view (header_of first.node.control) first.node.control.me (disks_of new) (SameAsEither (after_inputs (node_of first) (take done all)) (after_inputs (node_of first) (take (done + 1) all)))
    failed =
        subst (λ (n : Node). Leaves view (header_of first.node.control) first.node.control.me (disks_of new) (SameAsEither (after_inputs (node_of first) (take done all)) n)) after
        (subst (λ (n : Node). Leaves view (header_of first.node.control) first.node.control.me (disks_of new) (SameAsEither n (step (node_of now) i).node)) before
        (named (λ h me. Leaves view h me (disks_of new) (SameAsEither (node_of now) (step (node_of now) i).node))
        (leaves_now view (header_of now.node.control) now.node.control.me (disks_of now) (disks_of new) (SameAsEither (node_of now) (step (node_of now) i).node) law (all_honest view (disks_of now) (disks_of new) on later) (moments later))))

    kept : ChangesNothing view now new → Survives view (header_of first.node.control) first.node.control.me (disks_of new) (after_inputs (node_of first) (take done all))
    kept nothing =
        subst (λ (n : Node). Survives view (header_of first.node.control) first.node.control.me (disks_of new) n) before
        (named (λ h me. Survives view h me (disks_of new) (node_of now))
        (leaves_stays view (header_of now.node.control) now.node.control.me (disks_of now) (disks_of new) (SameDurable (node_of now)) later (nothing_stays view now new nothing) (so.survives honest)))

    by_error : (e : KeepError) → RefusesInput view e i now new → LeavesTaken view (header_of first.node.control) first.node.control.me (node_of first) all (disks_of new) done e
    by_error keeps.Closed refused = kept refused.why.nothing
    by_error keeps.Memory refused = kept refused.why.nothing
    by_error keeps.Full refused = kept refused.why.1.nothing
    by_error keeps.Disk refused = failed

  -- the next input was refused since its file is full
  pub refused_full : (now new : KeptView D) (i : Input) (rest : List Input) (done : ℕ) → IsSoFar view first now all (i ∷ rest) done → IsFullAt now i → ChangesNothing view now new → new.closed ≡ now.closed → IsHonest view first → EndsFull first all new done
  refused_full now new i rest done so full same still honest = record {
    unclosed = still ∙ so.is_open;
    node = nothing_node view now new same (all_honest view (disks_of first) (disks_of now) so.on honest).content ∙ so.node honest ∙ ap (after_inputs (node_of first)) (sym front);
    next = subst (BeginsWith (IsFullAt new)) (sym back) (stays_full view now new i same full);
  }
    where
      front : take done all ≡ so.taken
      front = ap (λ (n : ℕ). take n all) so.count ∙ ap (take (length so.taken)) so.split ∙ take_front so.taken (i ∷ rest)

      back : drop done all ≡ i ∷ rest
      back = ap (λ (n : ℕ). drop n all) so.count ∙ ap (drop (length so.taken)) so.split ∙ drop_at so.taken (i ∷ rest) (length so.taken) refl

-- an input that was refused since its file is full
pub taken_full : {D : Type 0} (view : D → DiskView) (error : KeepError) (i : Input) (old new : KeptView D) → error ≡ keeps.Full → RefusesInput view error i old new → IsFullAt old i × DoesNothing view old new
taken_full view keeps.Closed i old new is refused = absurd cc
taken_full view keeps.Memory i old new is refused = absurd cc
taken_full view keeps.Full i old new is refused = refused.why
taken_full view keeps.Disk i old new is refused = absurd cc

-- A trial

-- the inputs of a loaded node
pub inputs_of : (n : Control) (h : Header) (me : ℕ) (is : List Input) → header_of n ≡ h → n.me ≡ me → AllByRecursion (IsInput h.nodes me) is → AllByRecursion (IsInput n.nodes n.me) is
inputs_of n h me is header id lawful =
    subst (λ (m : ℕ). AllByRecursion (IsInput n.nodes m) is) (sym id)
    (subst (λ (x : Header). AllByRecursion (IsInput x.nodes me) is) (sym header) lawful)

module _ {D : Type 0} (view : D → DiskView) (h : Header) (me : ℕ) (d : Disks D) (k : KeptView D) (loaded : IsNodeOf view h me d k) (safely : LoadsSafely view h me d (disks_of k)) where
  -- a loaded node survives every crash
  pub loaded_survives : IsHonest view k → NodeSurvives view k (node_of k)
  loaded_survives honest =
      subst (λ (m : ℕ). Survives view (header_of k.node.control) m (disks_of k) (node_of k)) (sym loaded.id)
      (subst (λ (x : Header). Survives view x me (disks_of k) (node_of k)) (sym loaded.header) (loaded.survives (all_were_honest view d (disks_of k) safely.goes_on honest)))

  -- the disks that are handed back after the run
  pub ran_leaves : (last : KeptView D) (e : Disks D) (is : List Input) (t : Trial) → e ≡ disks_of last → AreHonest view d → RunLeaves view k is last t → LeavesAfter view h me d is e t
  ran_leaves last e is t same honest leaves =
      by_end t.end
      (subst (λ (x : Disks D). LeavesEnd view h me (first_node view h me d) is x t.done t.end) (sym same)
      (subst (λ (n : Node). LeavesEnd view h me n is (disks_of last) t.done t.end) (loaded.node honest)
      (subst (λ (m : ℕ). LeavesEnd view h m (node_of k) is (disks_of last) t.done t.end) loaded.id
      (subst (λ (x : Header). LeavesEnd view x k.node.control.me (node_of k) is (disks_of last) t.done t.end) loaded.header leaves))))
    where
      by_end : (end : TrialEnd) → LeavesEnd view h me (first_node view h me d) is e t.done end → LeavesBy view h me d is e t.done end
      by_end All left = left
      by_end (Load error) left = absurd left
      by_end (Take error) left = left

  -- the cause at which the trial ended
  pub ran_cause : (last : KeptView D) (e : Disks D) (end : TrialEnd) → e ≡ disks_of last → HasRunCause view (disks_of k) (disks_of last) end → HasCause view h.nodes d e end
  ran_cause last e end same why = by_end end (subst (λ (x : Disks D). HasRunCause view (disks_of k) x end) (sym same) why) where
    by_error : (error : KeepError) → HasTakeCause view (disks_of k) e error → HasTakeCause view d e error
    by_error keeps.Closed why = absurd why
    by_error keeps.Memory why = tt
    by_error keeps.Full why = tt
    by_error keeps.Disk why = one_rose_after view d (disks_of k) e safely.goes_on why

    by_end : (end : TrialEnd) → HasRunCause view (disks_of k) e end → HasCause view h.nodes d e end
    by_end All why = tt
    by_end (Load error) why = absurd why
    by_end (Take error) why = by_error error why

  pub ran_on : (last : KeptView D) (e : Disks D) → e ≡ disks_of last → AllGoOn view (disks_of k) (disks_of last) → AllGoOn view d e
  ran_on last e same on = all_go_on_then view d (disks_of k) e safely.goes_on (subst (λ (x : Disks D). AllGoOn view (disks_of k) x) (sym same) on)
