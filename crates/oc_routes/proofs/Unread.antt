-- The verdict where no head was read.
use Rattle.std.proofs.Common.{◌≡◌, ℕ, Bool, Some, None, Result, Ok, Err, IfOk, List, [], ◌++◌, refl, sym, ap, ◌∙◌, subst}
use Rattle.oc_link.specs.declared.event.Arrival.{Arrival}
use Rattle.oc_http.specs.Answers.{AnswersRequest, IsDecided}
use Rattle.oc_http.specs.Taking.{RefusesRequest, Took}
use Rattle.oc_http.specs.declared.fault.HttpFault.{HttpFault}
use Rattle.oc_http.specs.declared.fault.HttpFault.TheVariants.{Source, Ended, Head as NoHead, HeadLong, Fields, Host, Coding, Length, BodyLong, Memory}
use Rattle.oc_http.specs.declared.head.Head.{Head}
use Rattle.oc_routes.specs.Askers.{asker_in}
use Rattle.oc_routes.specs.declared.fault.RouteFault.TheVariants as faults
use Rattle.oc_routes.specs.declared.refused.Refused.{Refused}
use Rattle.oc_routes.specs.Verdicts.{IsVerdict, NodeTerms, fault_met, is_none, refuse, taken, unfinished, unread}
use Rattle.oc_routes.specs.declared.verdict.Verdict.{Verdict}

-- reading stopped with a fault, at bytes in memory
abbrev pub Stopped : {S : Type 0} → (S → List ℕ) → S → S → HttpFault → Type 0
Stopped {S} left old new fault =
    (taken : List ℕ) × Took (λ (o : S) (bytes : List ℕ) (n : S). left o ≡ bytes ++ left n) (λ (o : S) (bytes : List ℕ) (n : S). ⊥) old taken new fault
    × RefusesRequest taken (left new ≡ []) fault

-- no call fails at bytes in memory
stopped_answers : {S : Type 0} (left : S → List ℕ) (old new : S) (fault : HttpFault) → Stopped left old new fault → (fault_met fault ≡ Some faults.Memory → ⊥) → AnswersRequest (left old) (left new) (Err fault) × IsDecided {A = Head} (Err fault)
stopped_answers left old new Source h some = absurd (h.1)
stopped_answers left old new Ended h some = ((h.0, h.1, h.2), tt)
stopped_answers left old new NoHead h some = ((h.0, h.1, h.2), tt)
stopped_answers left old new HeadLong h some = ((h.0, h.1, h.2), tt)
stopped_answers left old new Fields h some = ((h.0, h.1, h.2), tt)
stopped_answers left old new Host h some = ((h.0, h.1, h.2), tt)
stopped_answers left old new (Coding both) h some = ((h.0, h.1, h.2), tt)
stopped_answers left old new (Length missing) h some = ((h.0, h.1, h.2), tt)
stopped_answers left old new BodyLong h some = ((h.0, h.1, h.2), tt)
stopped_answers left old new Memory h some = absurd (some refl)

unread_verdict : {S : Type 0} (left : S → List ℕ) (old new : S) (t : NodeTerms) (a : Arrival) (fault : HttpFault) (v : Verdict) → Stopped left old new fault → (fault_met fault ≡ Some faults.Memory → ⊥)
    → v ≡ unread a.coming (is_none (left old)) (asker_in (taken (left old) (left new))) (fault_met fault) → IsVerdict t a (left old) v
unread_verdict left old new t a fault v stopped some is =
    let both = stopped_answers left old new fault stopped some in
    record { answer = Err fault; rest = left new; answers = both.0; decided = both.1; verdict = is }

-- the verdict where the bytes ended before a whole head
pub ended_verdict : {S M : Type 0} (left : S → List ℕ) (old new : S) (t : NodeTerms) (a : Arrival) (fault : HttpFault) (bytes : List ℕ) (none : Bool) (r : Result Verdict M) → Stopped left old new fault → fault_met fault ≡ None
    → bytes ≡ left old → none ≡ is_none bytes → IfOk r (λ (v : Verdict). v ≡ unfinished a.coming none) → IfOk r (IsVerdict t a bytes)
ended_verdict left old new t a fault bytes none (Ok v) stopped met from is_it is =
    subst (λ (x : List ℕ). IsVerdict t a x v) (sym from)
    (unread_verdict left old new t a fault v stopped (λ (e : fault_met fault ≡ Some faults.Memory). cc)
    (is ∙ ap (unfinished a.coming) (is_it ∙ ap is_none from) ∙ ap (unread a.coming (is_none (left old)) (asker_in (taken (left old) (left new)))) (sym met)))
ended_verdict left old new t a fault bytes none (Err e) stopped met from is_it is = tt

-- the bytes are refused, by whether those that were taken begin a HEAD
pub refused_verdict : {S : Type 0} (left : S → List ℕ) (old new : S) (t : NodeTerms) (a : Arrival) (fault : HttpFault) (why : Refused) (bytes : List ℕ) (v : Verdict) → Stopped left old new fault → fault_met fault ≡ Some (faults.Refused why)
    → bytes ≡ left old → v ≡ refuse (asker_in (taken bytes (left new))) None why → IsVerdict t a bytes v
refused_verdict left old new t a fault why bytes v stopped met from is =
    subst (λ (x : List ℕ). IsVerdict t a x v) (sym from)
    (unread_verdict left old new t a fault v stopped (λ (e : fault_met fault ≡ Some faults.Memory). cc)
    (is ∙ ap (λ (x : List ℕ). refuse (asker_in (taken x (left new))) None why) from ∙ ap (unread a.coming (is_none (left old)) (asker_in (taken (left old) (left new)))) (sym met)))
