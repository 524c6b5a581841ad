-- Deed by deed, the works go on to fit each connection, and each deed comes in its order.
use Rattle.std.proofs.Common.{◌≡◌, ℕ, Bool, true, false, Option, None, Some, List, [], ◌∷◌, ◌++◌, drop, refl, sym, ap, subst, ◌∙◌, Result, Ok, Err}
use Rattle.std.specs.Prelude.{◌==◌, if◌then◌else◌, is_some, length, unwrap_or}
use Rattle.std.proofs.lemmas.Bool.{eqb-true}
use Rattle.std.proofs.lemmas.List.{append_assoc, append-nil}
use Rattle.oc_link.proofs.Stories.{stands-then}
use Rattle.oc_link.specs.Stands.{stands_after, standing_of, untouched}
use Rattle.oc_link.specs.declared.call.Call.{Call}
use Rattle.oc_link.specs.declared.call.Call.TheVariants as acts
use Rattle.oc_link.specs.declared.phase.Phase.{Phase}
use Rattle.oc_link.specs.declared.phase.Phase.TheVariants.{Awaiting, Answering, Whole, Broken, Gone}
use Rattle.oc_link.specs.declared.phase.Standing.{Standing}
use Rattle.oc_routes.specs.Contents.{rest_after, piece_of}
use Rattle.oc_routes.specs.Refusals.{refusal_text}
use Rattle.oc_routes.specs.declared.verdict.Refusal.{Refusal}
use Rattle.oc_routes.specs.declared.response.Response.{Response}
use Rattle.oc_deeds.proofs.Givings.{works_left}
use Rattle.oc_deeds.proofs.Replying.{first_at, left_on, other_left, phase_here, rest_at, taken_other, taken_out}
use Rattle.oc_deeds.proofs.WorksOn.{other_pushed, other_without, own_pushed}
use Rattle.oc_deeds.specs.Deeds.{Accepts, BreaksOff, Deed, Dials, Drops, Gives, Keeps, LaysAside, Looks, Notes, Permits, Probes, Reads, Refuses, Rejects, Replies, Rereads, Running, Says, Sees, Setting, Takes, Tells, Waits, after, after_all, calls, calls_of, content_in, finish, first_piece, first_rest, keeps, piece, transfer_for, refusal_calls, refuses, rest, takes_request, with_content}
use Rattle.oc_config.specs.Settings.{Settings}
use Rattle.oc_link.specs.declared.look.Look.{Look}
use Rattle.oc_updown.specs.declared.measure_lines.Measure.{Measure}
use Rattle.oc_deeds.specs.Rereading.{fitting, fresh, goes_by, looks_again, measured_by, settles, takes_measures}
use Rattle.oc_deeds.specs.Telling.{takes_ahead}
use Rattle.oc_deeds.specs.declared.reread.Reread.{Reread}
use Rattle.oc_deeds.specs.declared.reread.Reread.TheVariants as rereads
use Rattle.oc_deeds.specs.declared.unfit.Unfit.{Unfit}
use Rattle.oc_deeds.specs.Replying.{HasContent, IsGivable, IsOrdered, MayAnswer, MayDo, phase_on, works_on}
use Rattle.oc_deeds.specs.Settled.{Fits, IsSettled}
use Rattle.oc_deeds.specs.Works.{without_work}
use Rattle.oc_deeds.specs.declared.work.Pending.{Pending}
use Rattle.oc_deeds.specs.declared.work.Transfer.{Transfer}
use Rattle.oc_deeds.specs.declared.work.Waiting.{Waiting}
use Rattle.oc_deeds.specs.declared.work.Work.{Work}
use Rattle.oc_deeds.specs.declared.work.Work.TheVariants as works

-- Deeds in order, after which the works fit

pub record IsOrderly (s : Setting) (made : List Call) (ds : List Deed) (a : Running) : Type 0 where
  pub ordered : IsOrdered s made ds a
  pub settled : IsSettled (made ++ calls_of s ds a) (after_all ds a).works

pub orderly_none : (s : Setting) (made : List Call) (a : Running) → IsSettled made a.works → IsOrderly s made [] a
orderly_none s made a settled = record { ordered = tt; settled = subst (λ (cs : List Call). IsSettled cs a.works) (sym (append-nil made)) settled }

pub orderly_behind : (s : Setting) (made : List Call) (d : Deed) (ds : List Deed) (a : Running) → MayDo d made a → IsOrderly s (made ++ calls s d a) ds (after d a) → IsOrderly s made (d ∷ ds) a
orderly_behind s made d ds a may o = record {
  ordered = (may, o.ordered);
  settled = subst (λ (cs : List Call). IsSettled cs (after_all ds (after d a)).works) (append_assoc made (calls s d a) (calls_of s ds (after d a))) o.settled;
}

pub orderly_one : (s : Setting) (made : List Call) (d : Deed) (a : Running) → MayDo d made a → IsSettled (made ++ calls s d a) (after d a).works → IsOrderly s made (d ∷ []) a
orderly_one s made d a may settled = orderly_behind s made d [] a may (orderly_none s (made ++ calls s d a) (after d a) settled)

pub orderly_then : (s : Setting) (made : List Call) (ds es : List Deed) (a : Running) → IsOrderly s made ds a → IsOrderly s (made ++ calls_of s ds a) es (after_all ds a) → IsOrderly s made (ds ++ es) a
orderly_then s made [] es a first second = subst (λ (cs : List Call). IsOrderly s cs es a) (append-nil made) second
orderly_then s made (d ∷ ds) es a first second =
    orderly_behind s made d (ds ++ es) a (first.ordered.0)
    (orderly_then s (made ++ calls s d a) ds es (after d a)
    (record {
      ordered = first.ordered.1;
      settled = subst (λ (cs : List Call). IsSettled cs (after_all ds (after d a)).works) (sym (append_assoc made (calls s d a) (calls_of s ds (after d a)))) first.settled;
    })
    (subst (λ (cs : List Call). IsOrderly s cs es (after_all ds (after d a))) (sym (append_assoc made (calls s d a) (calls_of s ds (after d a)))) second))

-- deeds in order after others
pub ordered_then : (s : Setting) (made : List Call) (ds es : List Deed) (a : Running) → IsOrdered s made ds a → IsOrdered s (made ++ calls_of s ds a) es (after_all ds a) → IsOrdered s made (ds ++ es) a
ordered_then s made [] es a first second = subst (λ (cs : List Call). IsOrdered s cs es a) (append-nil made) second
ordered_then s made (d ∷ ds) es a first second = (
  first.0,
  ordered_then s (made ++ calls s d a) ds es (after d a) (first.1)
      (subst (λ (cs : List Call). IsOrdered s cs es (after_all ds (after d a))) (sym (append_assoc made (calls s d a) (calls_of s ds (after d a)))) second),
)

-- the first of deeds in order
pub ordered_front : (s : Setting) (made : List Call) (ds es : List Deed) (a : Running) → IsOrdered s made (ds ++ es) a → IsOrdered s made ds a
ordered_front s made [] es a ordered = tt
ordered_front s made (d ∷ ds) es a ordered = (ordered.0, ordered_front s (made ++ calls s d a) ds es (after d a) (ordered.1))

-- Works by connection

pub settled_by : (made more : List Call) (ws : List Work) → ((c : ℕ) → Fits (stands_after c more (standing_of c made)).phase (works_on c ws)) → IsSettled (made ++ more) ws
settled_by made more ws fits = λ c. subst (λ (x : Standing). Fits x.phase (works_on c ws)) (sym (stands-then c made more untouched)) (fits c)

-- no work is after the first of a connection
pub one_at_most : (phase : Phase) (ws : List Work) → Fits phase ws → drop 1 ws ≡ []
one_at_most Awaiting ws fits = ap (λ (x : List Work). drop 1 x) fits
one_at_most Answering ws fits = ap (λ (x : List Work). drop 1 x) (fits.1)
one_at_most Whole ws fits = ap (λ (x : List Work). drop 1 x) fits
one_at_most Broken ws fits = ap (λ (x : List Work). drop 1 x) fits
one_at_most Gone ws fits = ap (λ (x : List Work). drop 1 x) fits

pub fits_if : (b : Bool) (x st : Standing) (ws : List Work) → x.phase ≡ st.phase → Fits st.phase ws → Fits (if b then x else st).phase ws
fits_if true x st ws same fits = subst (λ (y : Phase). Fits y ws) (sym same) fits
fits_if false x st ws same fits = fits

-- no work is on a connection that awaits a request
none_on : (c d : ℕ) (made : List Call) (ws : List Work) → (d == c) ≡ true → phase_on d made ≡ Awaiting → IsSettled made ws → works_on c ws ≡ []
none_on c d made ws own may settled = subst (λ (x : Phase). Fits x (works_on c ws)) (phase_here c d made Awaiting own may) (settled c)

-- no other work is on the connection of a work that is taken out
none_left : (c d : ℕ) (made : List Call) (ws : List Work) → (d == c) ≡ true → IsSettled made ws → works_on c (without_work d ws) ≡ []
none_left c d made ws own settled = taken_out c d ws own ∙ one_at_most (phase_on c made) (works_on c ws) (settled c)

other_still : (c d : ℕ) (phase : Phase) (ws : List Work) → (d == c) ≡ false → Fits phase (works_on c ws) → Fits phase (works_on c (without_work d ws))
other_still c d phase ws apart fits = subst (λ (x : List Work). Fits phase x) (sym (other_without c d ws apart)) fits

-- Deeds that touch no connection

abbrev pub IsQuiet : Deed → Type 0
IsQuiet (Reads t) = Unit {0}
IsQuiet (Tells t) = Unit {0}
IsQuiet (Takes i) = Unit {0}
IsQuiet (Accepts i) = Unit {0}
IsQuiet (Says text) = Unit {0}
IsQuiet (Notes why) = Unit {0}
IsQuiet (Rejects fault) = Unit {0}
IsQuiet (Dials place m d) = Unit {0}
IsQuiet (Probes peer d t) = Unit {0}
IsQuiet (Looks look) = Unit {0}
IsQuiet (Rereads config) = Unit {0}
IsQuiet (Keeps why) = Unit {0}
IsQuiet d = ⊥

abbrev pub AllQuiet : List Deed → Type 0
AllQuiet [] = Unit {0}
AllQuiet (d ∷ ds) = IsQuiet d × AllQuiet ds

pub quiet_behind : (s : Setting) (made : List Call) (d : Deed) (ds : List Deed) (a : Running) → IsQuiet d → IsSettled made a.works
    → (IsSettled (made ++ calls s d a) (after d a).works → IsOrderly s (made ++ calls s d a) ds (after d a)) → IsOrderly s made (d ∷ ds) a
quiet_behind s made (Reads t) ds a quiet settled onward = orderly_behind s made (Reads t) ds a tt (onward (settled_by made (calls s (Reads t) a) a.works (λ c. settled c)))
quiet_behind s made (Tells t) ds a quiet settled onward = orderly_behind s made (Tells t) ds a tt (onward (settled_by made (calls s (Tells t) a) a.works (λ c. settled c)))
quiet_behind s made (Takes i) ds a quiet settled onward = orderly_behind s made (Takes i) ds a tt (onward (settled_by made [] a.works (λ c. settled c)))
quiet_behind s made (Accepts i) ds a quiet settled onward = orderly_behind s made (Accepts i) ds a tt (onward (settled_by made [] a.works (λ c. settled c)))
quiet_behind s made (Says text) ds a quiet settled onward = orderly_behind s made (Says text) ds a tt (onward (settled_by made [] a.works (λ c. settled c)))
quiet_behind s made (Notes why) ds a quiet settled onward = orderly_behind s made (Notes why) ds a tt (onward (settled_by made [] a.works (λ c. settled c)))
quiet_behind s made (Rejects fault) ds a quiet settled onward = orderly_behind s made (Rejects fault) ds a tt (onward (settled_by made [] a.works (λ c. settled c)))
quiet_behind s made (Dials place m d) ds a quiet settled onward = orderly_behind s made (Dials place m d) ds a tt (onward (settled_by made (calls s (Dials place m d) a) a.works (λ c. settled c)))
quiet_behind s made (Probes peer d t) ds a quiet settled onward = orderly_behind s made (Probes peer d t) ds a tt (onward (settled_by made (calls s (Probes peer d t) a) a.works (λ c. settled c)))
quiet_behind s made (Looks look) ds a quiet settled onward = orderly_behind s made (Looks look) ds a tt (onward (settled_by made (calls s (Looks look) a) a.works (λ c. settled c)))
quiet_behind s made (Rereads config) ds a quiet settled onward = orderly_behind s made (Rereads config) ds a tt (onward (settled_by made (calls s (Rereads config) a) a.works (λ c. settled c)))
quiet_behind s made (Keeps why) ds a quiet settled onward = orderly_behind s made (Keeps why) ds a tt (onward (settled_by made (calls s (Keeps why) a) a.works (λ c. settled c)))
quiet_behind s made (Sees e wait bytes) ds a quiet settled onward = absurd quiet
quiet_behind s made (Permits c) ds a quiet settled onward = absurd quiet
quiet_behind s made (Waits w) ds a quiet settled onward = absurd quiet
quiet_behind s made (Replies r response t) ds a quiet settled onward = absurd quiet
quiet_behind s made (Refuses c count why) ds a quiet settled onward = absurd quiet
quiet_behind s made (BreaksOff c) ds a quiet settled onward = absurd quiet
quiet_behind s made (Gives p t) ds a quiet settled onward = absurd quiet
quiet_behind s made (LaysAside p) ds a quiet settled onward = absurd quiet
quiet_behind s made (Drops c told) ds a quiet settled onward = absurd quiet

pub all_quiet : (s : Setting) (made : List Call) (ds : List Deed) (a : Running) → AllQuiet ds → IsSettled made a.works → IsOrderly s made ds a
all_quiet s made [] a quiet settled = orderly_none s made a settled
all_quiet s made (d ∷ ds) a quiet settled =
    quiet_behind s made d ds a (quiet.0) settled (λ settled_after. all_quiet s (made ++ calls s d a) ds (after d a) (quiet.1) settled_after)

-- those by which a configuration that was read again is gone by
quiet_measures : (ms : List Measure) (s : Setting) (a : Running) → AllQuiet (takes_measures ms s a)
unfolding takes_measures
quiet_measures [] s a = tt
quiet_measures (m ∷ ms) s a = (tt, (tt, quiet_measures ms s (after_all (takes_ahead (measured_by m) s a) a)))

quiet_settled : (o : Result Settings Unfit) (old : Settings) (s : Setting) (a : Running) → AllQuiet (settles o old s a)
quiet_settled (Err why) old s a = (tt, tt)
quiet_settled (Ok new) old s a = (tt, quiet_measures (fresh s.me old new) s (after (Rereads new) a))

pub quiet_by : (r : Reread) (s : Setting) (a : Running) → AllQuiet (goes_by r s a)
quiet_by rereads.Nothing s a = tt
quiet_by (rereads.Unfit why) s a = (tt, tt)
quiet_by (rereads.Config new) s a = quiet_settled (fitting s a.config new) a.config s a

pub quiet_looks : (look : Look) (r : Reread) (s : Setting) (a : Running) → AllQuiet (looks_again look r s a)
quiet_looks look r s a = (tt, quiet_by r s (after (Looks look) a))

-- A permission, a wait, a refusal, and the end of a connection

pub permits : (s : Setting) (made : List Call) (d : ℕ) (a : Running) → phase_on d made ≡ Awaiting → IsSettled made a.works → IsOrderly s made (Permits d ∷ []) a
permits s made d a may settled =
    orderly_one s made (Permits d) a may
    (settled_by made (calls s (Permits d) a) a.works (λ c. fits_if (d == c) (record (standing_of c made) { fed = true }) (standing_of c made) (works_on c a.works) refl (settled c)))

pub waits : (s : Setting) (made : List Call) (x : Waiting) (a : Running) → phase_on x.connection made ≡ Awaiting → IsSettled made a.works → IsOrderly s made (Waits x ∷ []) a
waits s made x a may settled =
    orderly_one s made (Waits x) a may (settled_by made (acts.Take x.connection x.request.count ∷ []) (a.works ++ works.Waits x ∷ []) (λ c. by_test c (x.connection == c) refl))
  where
    by_test : (c : ℕ) (b : Bool) → (x.connection == c) ≡ b → Fits (stands_after c (acts.Take x.connection x.request.count ∷ []) (standing_of c made)).phase (works_on c (a.works ++ works.Waits x ∷ []))
    by_test c true own =
        rw own (works.Waits x, own_pushed c a.works (works.Waits x) own ∙ ap (λ (y : List Work). y ++ works.Waits x ∷ []) (none_on c x.connection made a.works own may settled))
    by_test c false apart =
        rw apart (subst (λ (ws : List Work). Fits (phase_on c made) ws) (sym (other_pushed c a.works (works.Waits x) apart)) (settled c))

ended : (keep : Bool) (ws : List Work) → ws ≡ [] → Fits (if keep then Awaiting else Whole) ws
ended true ws none = none
ended false ws none = none

refused : (c d count : ℕ) (keep : Bool) (text : Option (List ℕ)) (st : Standing) (ws : List Work) → (d == c) ≡ true → ws ≡ [] → Fits (stands_after c (refuses d count keep text) st).phase ws
refused c d count keep None st ws own none = rw own none
refused c d count keep (Some text) st ws own none = rw own (ended keep ws none)

refused_other : (c d count : ℕ) (keep : Bool) (text : Option (List ℕ)) (st : Standing) (ws : List Work) → (d == c) ≡ false → Fits st.phase ws → Fits (stands_after c (refuses d count keep text) st).phase ws
refused_other c d count keep None st ws apart fits = rw apart fits
refused_other c d count keep (Some text) st ws apart fits = rw apart fits

pub refuses_request : (s : Setting) (made : List Call) (d count : ℕ) (refusal : Refusal) (a : Running) → phase_on d made ≡ Awaiting → IsSettled made a.works → IsOrderly s made (Refuses d count refusal ∷ []) a
refuses_request s made d count refusal a may settled =
    orderly_one s made (Refuses d count refusal) a may (settled_by made (refusal_calls d count refusal) a.works (λ c. by_test c (d == c) refl))
  where
    taken : ℕ
    taken = unwrap_or refusal.kept count

    keep : Bool
    keep = is_some refusal.kept

    by_test : (c : ℕ) (b : Bool) → (d == c) ≡ b → Fits (stands_after c (refusal_calls d count refusal) (standing_of c made)).phase (works_on c a.works)
    by_test c true own = refused c d taken keep (refusal_text refusal) (standing_of c made) (works_on c a.works) own (none_on c d made a.works own may settled)
    by_test c false apart = refused_other c d taken keep (refusal_text refusal) (standing_of c made) (works_on c a.works) apart (settled c)

pub breaks : (s : Setting) (made : List Call) (d : ℕ) (a : Running) → IsSettled made a.works → IsOrderly s made (BreaksOff d ∷ []) a
breaks s made d a settled =
    orderly_one s made (BreaksOff d) a tt (settled_by made (acts.BreakOff d ∷ []) (without_work d a.works) (λ c. by_test c (d == c) refl))
  where
    by_test : (c : ℕ) (b : Bool) → (d == c) ≡ b → Fits (stands_after c (acts.BreakOff d ∷ []) (standing_of c made)).phase (works_on c (without_work d a.works))
    by_test c true own = rw own (none_left c d made a.works own settled)
    by_test c false apart = rw apart (other_still c d (phase_on c made) a.works apart (settled c))

-- a connection that is gone, whose work is still there
pub record IsLeft (d : ℕ) (made : List Call) (ws : List Work) : Type 0 where
  pub phase : phase_on d made ≡ Gone
  pub one : drop 1 (works_on d ws) ≡ []
  pub others : (c : ℕ) → (d == c) ≡ false → Fits (phase_on c made) (works_on c ws)

pub drops : (s : Setting) (made : List Call) (d : ℕ) (told : Bool) (a : Running) → IsLeft d made a.works → IsOrderly s made (Drops d told ∷ []) a
drops s made d told a left =
    orderly_one s made (Drops d told) a left.phase (settled_by made [] (without_work d a.works) (λ c. by_test c (d == c) refl))
  where
    by_test : (c : ℕ) (b : Bool) → (d == c) ≡ b → Fits (phase_on c made) (works_on c (without_work d a.works))
    by_test c true own =
        subst (λ (x : Phase). Fits x (works_on c (without_work d a.works))) (sym (phase_here c d made Gone own left.phase))
        (taken_out c d a.works own ∙ subst (λ (x : ℕ). drop 1 (works_on x a.works) ≡ []) (eqb-true d c own) left.one)
    by_test c false apart = other_still c d (phase_on c made) a.works apart (left.others c apart)

-- Texts

text_given : (c d : ℕ) (text : List ℕ) (keep watched : Bool) (left : Option Transfer) (st : Standing) (ws : List Work) → (d == c) ≡ true → st.phase ≡ Answering → ws ≡ works_left left
    → Fits (stands_after c (acts.Give d text ∷ finish d keep watched left) st).phase ws
text_given c d text keep watched None st ws own phase under = rw own (ended keep ws under)
text_given c d text keep watched (Some p) st ws own phase under = rw own (subst (λ (x : Phase). Fits x ws) (sym phase) (works.Content p, under))

text_other : (c d : ℕ) (text : List ℕ) (keep watched : Bool) (left : Option Transfer) (st : Standing) (ws : List Work) → (d == c) ≡ false → Fits st.phase ws
    → Fits (stands_after c (acts.Give d text ∷ finish d keep watched left) st).phase ws
text_other c d text keep watched None st ws apart fits = rw apart fits
text_other c d text keep watched (Some p) st ws apart fits = rw apart fits

-- Contents

pub gives : (s : Setting) (made : List Call) (p : Transfer) (t : ℕ) (a : Running) → HasContent p made a.works → IsSettled made a.works → IsOrderly s made (Gives p t ∷ []) a
gives s made p t a has settled =
    orderly_one s made (Gives p t) a has (settled_by made (calls s (Gives p t) a) (with_content left (without_work p.connection a.works)) (λ c. by_test c (p.connection == c) refl))
  where
    left : Option Transfer
    left = rest p t a.node.groups

    by_test : (c : ℕ) (b : Bool) → (p.connection == c) ≡ b
        → Fits (stands_after c (acts.Give p.connection (piece p a.node.groups) ∷ finish p.connection p.keeps p.told left) (standing_of c made)).phase (works_on c (with_content left (without_work p.connection a.works)))
    by_test c true own =
        text_given c p.connection (piece p a.node.groups) p.keeps p.told left (standing_of c made) (works_on c (with_content left (without_work p.connection a.works))) own (phase_here c p.connection made Answering own has.phase)
        (left_on c (without_work p.connection a.works) left (none_left c p.connection made a.works own settled) (rest_at true c p t (rest_after p.content (length (piece_of p.content a.node.groups))) own))
    by_test c false apart =
        text_other c p.connection (piece p a.node.groups) p.keeps p.told left (standing_of c made) (works_on c (with_content left (without_work p.connection a.works))) apart
        (subst (λ (ws : List Work). Fits (phase_on c made) ws)
        (sym (other_left c (without_work p.connection a.works) left (rest_at false c p t (rest_after p.content (length (piece_of p.content a.node.groups))) apart) ∙ other_without c p.connection a.works apart)) (settled c))

pub lays : (s : Setting) (made : List Call) (p : Transfer) (a : Running) → HasContent p made a.works → IsSettled made a.works → IsOrderly s made (LaysAside p ∷ []) a
lays s made p a has settled =
    orderly_one s made (LaysAside p) a has (settled_by made [] (without_work p.connection a.works ++ works.Aside p ∷ []) (λ c. by_test c (p.connection == c) refl))
  where
    by_test : (c : ℕ) (b : Bool) → (p.connection == c) ≡ b → Fits (phase_on c made) (works_on c (without_work p.connection a.works ++ works.Aside p ∷ []))
    by_test c true own =
        subst (λ (x : Phase). Fits x (works_on c (without_work p.connection a.works ++ works.Aside p ∷ []))) (sym (phase_here c p.connection made Answering own has.phase))
        (works.Aside p, own_pushed c (without_work p.connection a.works) (works.Aside p) own ∙ ap (λ (x : List Work). x ++ works.Aside p ∷ []) (none_left c p.connection made a.works own settled))
    by_test c false apart =
        subst (λ (ws : List Work). Fits (phase_on c made) ws) (sym (other_pushed c (without_work p.connection a.works) (works.Aside p) apart ∙ other_without c p.connection a.works apart)) (settled c)

-- Requests that are answered

-- a reply is under way after the request that was taken
answering : (r : Pending) (c : ℕ) (made : List Call) (ws : List Work) (waited : Bool) → r.waited ≡ waited → (r.connection == c) ≡ true → MayAnswer waited c made ws
    → (stands_after c (takes_request r) (standing_of c made)).phase ≡ Answering
answering r c made ws true has own may = rw has (may.0)
answering r c made ws false has own may = rw (has, own) refl

pub replies_request : (s : Setting) (made : List Call) (r : Pending) (response : Response) (t : ℕ) (a : Running) → MayAnswer r.waited r.connection made a.works
    → IsGivable (content_in r.asked.operation response.content) a.node.groups → IsSettled made a.works → IsOrderly s made (Replies r response t ∷ []) a
replies_request s made r response t a may there settled =
    orderly_one s made (Replies r response t) a (may, there)
    (settled_by made (calls s (Replies r response t) a) (with_content left (without_work r.connection a.works))
    (λ c. subst (λ (x : Standing). Fits x.phase (works_on c (with_content left (without_work r.connection a.works)))) (sym (stands-then c (takes_request r) texts (standing_of c made))) (by_test c (r.connection == c) refl)))
  where
    left : Option Transfer
    left = first_rest (transfer_for r response t) t a.node.groups

    first : List ℕ
    first = first_piece (transfer_for r response t) a.node.groups

    texts : List Call
    texts = acts.Give r.connection (response.text ++ first) ∷ finish r.connection (keeps response.connection) r.told left

    by_test : (c : ℕ) (b : Bool) → (r.connection == c) ≡ b
        → Fits (stands_after c texts (stands_after c (takes_request r) (standing_of c made))).phase (works_on c (with_content left (without_work r.connection a.works)))
    by_test c true own =
        let here : MayAnswer r.waited c made a.works = subst (λ (x : ℕ). MayAnswer r.waited x made a.works) (eqb-true r.connection c own) may in
        text_given c r.connection (response.text ++ first) (keeps response.connection) r.told left (stands_after c (takes_request r) (standing_of c made)) (works_on c (with_content left (without_work r.connection a.works))) own
        (answering r c made a.works r.waited refl own here)
        (left_on c (without_work r.connection a.works) left (none_left c r.connection made a.works own settled) (first_at true c r response t (content_in r.asked.operation response.content) a.node.groups own))
    by_test c false apart =
        let before = taken_other r c (standing_of c made) r.waited refl apart in
        text_other c r.connection (response.text ++ first) (keeps response.connection) r.told left (stands_after c (takes_request r) (standing_of c made)) (works_on c (with_content left (without_work r.connection a.works))) apart
        (subst (λ (x : Standing). Fits x.phase (works_on c (with_content left (without_work r.connection a.works)))) (sym (before.0))
        (subst (λ (ws : List Work). Fits (phase_on c made) ws)
        (sym (other_left c (without_work r.connection a.works) left (first_at false c r response t (content_in r.asked.operation response.content) a.node.groups apart) ∙ other_without c r.connection a.works apart)) (settled c)))
