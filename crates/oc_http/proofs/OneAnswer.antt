-- There is one answer to the bytes that are left of a source.
use Rattle.std.proofs.Common.{◌≡◌, ℕ, ◌<◌, ◌≤◌, ◌⊎◌, inl, inr, List, [], ◌∷◌, ◌++◌, length, refl, sym, ap, ◌∙◌, subst, arith, length-append, Result, Ok, Err}
use Rattle.std.proofs.lemmas.List.{append_assoc, append-nil, append_cancel_left}
use Rattle.std.proofs.lemmas.Bool.{cases_lt}
use Rattle.httparse.specs.Ascii.{line_feed}
use Rattle.oc_base.specs.declared.limits.TheConstants.{MAX_HEAD_BYTES}
use Rattle.oc_http.specs.Answers.{IsDecided, AnswersHead}
use Rattle.oc_http.specs.Taking.{IsAnswered}
use Rattle.oc_http.specs.Unfinished.{IsUnfinished, IsHopeless}
use Rattle.oc_http.specs.declared.fault.HttpFault.{HttpFault}
use Rattle.oc_http.specs.declared.fault.HttpFault.TheVariants.{Source, Ended, Head as NoHead, HeadLong, Fields, Host, Coding, Length, BodyLong, Memory}
use Rattle.oc_http.proofs.Fronts.{shorter_front, same_front}
use Rattle.oc_http.proofs.LineEnds.{ended, ends_or_whole}
use Rattle.oc_http.proofs.Heads.{IsForm}

-- the end of the reading of a head, apart from failures and want of memory
record IsEnd {H A : Type 0} (Reads : List ℕ → H → List ℕ → Type 0) (bytes rest : List ℕ) (answer : Result A HttpFault) : Type 0 where
  unfinished : IsUnfinished Reads bytes
  short : length bytes < MAX_HEAD_BYTES
  none : rest ≡ []
  answer_is : answer ≡ Err Ended

record IsNever {H A : Type 0} (Reads : List ℕ → H → List ℕ → Type 0) (bytes : List ℕ) (answer : Result A HttpFault) : Type 0 where
  hopeless : IsHopeless Reads bytes
  fits : length bytes ≤ MAX_HEAD_BYTES
  answer_is : answer ≡ Err NoHead

record IsFull {H A : Type 0} (Reads : List ℕ → H → List ℕ → Type 0) (bytes : List ℕ) (answer : Result A HttpFault) : Type 0 where
  unfinished : IsUnfinished Reads bytes
  long : length bytes ≡ MAX_HEAD_BYTES
  answer_is : answer ≡ Err HeadLong

abbrev Outcome : {H A : Type 0} → (List ℕ → H → List ℕ → Type 0) → (H → Result A HttpFault) → List ℕ → List ℕ → Result A HttpFault → Type 0
Outcome Reads read bytes rest answer = IsAnswered Reads read bytes answer ⊎ IsEnd Reads bytes rest answer ⊎ IsNever Reads bytes answer ⊎ IsFull Reads bytes answer

-- each answer is one of these
outcome : {H A : Type 0} (Reads : List ℕ → H → List ℕ → Type 0) (read : H → Result A HttpFault) (left rest : List ℕ) (answer : Result A HttpFault) → AnswersHead Reads read left rest answer → IsDecided answer → (bytes : List ℕ) × (left ≡ bytes ++ rest) × Outcome Reads read bytes rest answer
outcome Reads read left rest (Ok value) h own = (h.0, h.1, inl h.2)
outcome Reads read left rest (Err Source) h own = absurd own
outcome Reads read left rest (Err Ended) h own = (h.0, h.1, inr (inl (record { unfinished = h.2.0; short = h.2.1; none = h.2.2; answer_is = refl })))
outcome Reads read left rest (Err NoHead) h own = (h.0, h.1, inr (inr (inl (record { hopeless = h.2.0; fits = h.2.1; answer_is = refl }))))
outcome Reads read left rest (Err HeadLong) h own = (h.0, h.1, inr (inr (inr (record { unfinished = h.2.0; long = h.2.1; answer_is = refl }))))
outcome Reads read left rest (Err Fields) h own = (h.0, h.1, inl h.2)
outcome Reads read left rest (Err Host) h own = (h.0, h.1, inl h.2)
outcome Reads read left rest (Err (Coding both)) h own = (h.0, h.1, inl h.2)
outcome Reads read left rest (Err (Length missing)) h own = (h.0, h.1, inl h.2)
outcome Reads read left rest (Err BodyLong) h own = (h.0, h.1, inl h.2)
outcome Reads read left rest (Err Memory) h own = absurd own

-- a whole head and bytes that are unfinished are no prefixes of the same bytes, unless the unfinished ones are shorter
whole_not_unfinished : {H A : Type 0} {Reads : List ℕ → H → List ℕ → Type 0} {read : H → Result A HttpFault} → IsForm Reads → (bytes rest other behind : List ℕ) (answer : Result A HttpFault) → bytes ++ rest ≡ other ++ behind → IsAnswered Reads read bytes answer → IsUnfinished Reads other → length bytes ≤ length other → ⊥
whole_not_unfinished form bytes rest other behind answer same answered unfinished less =
    let found = shorter_front bytes other rest behind same less in
    let text : other ≡ ended (form.line answered.head) ++ found.0 = found.1 ∙ ap (λ (x : List ℕ). x ++ found.0) (form.front bytes answered.head [] answered.whole ∙ append-nil (ended (form.line answered.head))) in
    unfinished.no_tree answered.head found.0 (form.again bytes other answered.head [] found.0 answered.whole text)

-- bytes that are a whole head are read at the front of all bytes that begin with them
reads_left : {H A : Type 0} {Reads : List ℕ → H → List ℕ → Type 0} {read : H → Result A HttpFault} → IsForm Reads → (bytes rest left : List ℕ) (answer : Result A HttpFault) → left ≡ bytes ++ rest → (answered : IsAnswered Reads read bytes answer) → Reads left answered.head rest
reads_left form bytes rest left answer e answered =
    form.again bytes left answered.head [] rest answered.whole (e ∙ ap (λ (x : List ℕ). x ++ rest) (form.front bytes answered.head [] answered.whole ∙ append-nil (ended (form.line answered.head))))

-- bytes that no head can come of are no prefix of bytes that are unfinished
never_not_unfinished : {H : Type 0} {Reads : List ℕ → H → List ℕ → Type 0} → (bytes rest other behind : List ℕ) → bytes ++ rest ≡ other ++ behind → IsHopeless Reads bytes → IsUnfinished Reads other → length bytes ≤ length other → ⊥
never_not_unfinished {H} {Reads} bytes rest other behind same hopeless unfinished less =
    let found = shorter_front bytes other rest behind same less in
    let text : other ≡ hopeless.before ++ line_feed ∷ found.0 = found.1 ∙ ap (λ (x : List ℕ). x ++ found.0) hopeless.ends ∙ append_assoc hopeless.before (line_feed ∷ []) found.0 in
    let can = unfinished.goes_on hopeless.before found.0 text in
    hopeless.never can.0 can.1 [] (subst (λ (x : List ℕ). Reads (x ++ can.0) can.1 []) (sym hopeless.ends) can.2)

-- the first line end after which no head can come is one
never_once : {H : Type 0} {Reads : List ℕ → H → List ℕ → Type 0} → (bytes rest other behind : List ℕ) → bytes ++ rest ≡ other ++ behind → IsHopeless Reads bytes → IsHopeless Reads other → length bytes ≤ length other → rest ≡ behind
never_once {H} {Reads} bytes rest other behind same first second less =
    let found = shorter_front bytes other rest behind same less in
    let text : ended first.before ++ found.0 ≡ second.before ++ ended [] = ap (λ (x : List ℕ). x ++ found.0) (sym first.ends) ∙ sym found.1 ∙ second.ends in
    elim (ends_or_whole first.before found.0 second.before [] tt text) [
      | inl none ↦
          let whole : other ≡ bytes = found.1 ∙ ap (λ (x : List ℕ). bytes ++ x) none ∙ append-nil bytes in
          append_cancel_left bytes rest behind (same ∙ ap (λ (x : List ℕ). x ++ behind) whole)
      | inr before ↦
          let e : second.before ≡ first.before ++ line_feed ∷ before.0 = before.1 ∙ append_assoc first.before (line_feed ∷ []) before.0 in
          let can = second.unfinished.goes_on first.before before.0 e in
          absurd (first.never can.0 can.1 [] (subst (λ (x : List ℕ). Reads (x ++ can.0) can.1 []) (sym first.ends) can.2))
    ]

record Same {A : Type 0} (first second : Result A HttpFault) (r s : List ℕ) : Type 0 where
  answer : first ≡ second
  rest : r ≡ s

Same-sym : {A : Type 0} (first second : Result A HttpFault) (r s : List ℕ) → Same first second r s → Same second first s r
Same-sym first second r s same = record { answer = sym same.answer; rest = sym same.rest }

-- a whole head, against each outcome
whole_first : {H A : Type 0} {Reads : List ℕ → H → List ℕ → Type 0} (read : H → Result A HttpFault) → IsForm Reads → (left b r c s : List ℕ) (first second : Result A HttpFault) → left ≡ b ++ r → left ≡ c ++ s → IsAnswered Reads read b first → Outcome Reads read c s second → Same first second r s
whole_first {H} {A} {Reads} read form left b r c s first second e f x (inl y) =
    let same = form.unique left x.head y.head r s (reads_left form b r left first e x) (reads_left form c s left second f y) in
    record { answer = sym x.answer_is ∙ ap read same.0 ∙ y.answer_is; rest = same.1 }
whole_first read form left b r c s first second e f x (inr (inl y)) =
    let all : left ≡ c = f ∙ ap (λ (z : List ℕ). c ++ z) y.none ∙ append-nil c in
    absurd (y.unfinished.no_tree x.head r (reads_left form b r c first (sym all ∙ e) x))
whole_first {H} {A} {Reads} read form left b r c s first second e f x (inr (inr (inl y))) =
    absurd (y.hopeless.never s x.head r (reads_left form b r (c ++ s) first (sym f ∙ e) x))
whole_first read form left b r c s first second e f x (inr (inr (inr y))) =
    absurd (whole_not_unfinished form b r c s first (sym e ∙ f) x y.unfinished (omega (arith, x.fits, y.long)))

-- the end of the source, against each other outcome but a whole head
end_first : {H A : Type 0} {Reads : List ℕ → H → List ℕ → Type 0} (read : H → Result A HttpFault) → IsForm Reads → (left b r c s : List ℕ) (first second : Result A HttpFault) → left ≡ b ++ r → left ≡ c ++ s → IsEnd Reads b r first → Outcome Reads read c s second → Same first second r s
end_first read form left b r c s first second e f x (inl y) =
    Same-sym second first s r (whole_first read form left c s b r second first f e y (inr (inl x)))
end_first read form left b r c s first second e f x (inr (inl y)) = record { answer = x.answer_is ∙ sym y.answer_is; rest = x.none ∙ sym y.none }
end_first read form left b r c s first second e f x (inr (inr (inl y))) =
    let all : b ++ [] ≡ c ++ s = ap (λ (z : List ℕ). b ++ z) (sym x.none) ∙ sym e ∙ f in
    absurd (never_not_unfinished c s b [] (sym all) y.hopeless x.unfinished (omega (arith, ap length all, length-append b [], length-append c s)))
end_first read form left b r c s first second e f x (inr (inr (inr y))) =
    absurd (omega (arith, ap length e, ap length f, length-append b r, length-append c s, ap length x.none, x.short, y.long))

-- bytes that no head can come of, against each other outcome
never_first : {H A : Type 0} {Reads : List ℕ → H → List ℕ → Type 0} (read : H → Result A HttpFault) → IsForm Reads → (left b r c s : List ℕ) (first second : Result A HttpFault) → left ≡ b ++ r → left ≡ c ++ s → IsNever Reads b first → Outcome Reads read c s second → Same first second r s
never_first read form left b r c s first second e f x (inl y) =
    Same-sym second first s r (whole_first read form left c s b r second first f e y (inr (inr (inl x))))
never_first read form left b r c s first second e f x (inr (inl y)) =
    Same-sym second first s r (end_first read form left c s b r second first f e y (inr (inr (inl x))))
never_first read form left b r c s first second e f x (inr (inr (inl y))) =
    let rest : r ≡ s = elim (cases_lt (length b) (length c)) [
      | inl less ↦ never_once b r c s (sym e ∙ f) x.hopeless y.hopeless (omega (arith, less))
      | inr less ↦ sym (never_once c s b r (sym f ∙ e) y.hopeless x.hopeless less)
    ] in
    record { answer = x.answer_is ∙ sym y.answer_is; rest = rest }
never_first read form left b r c s first second e f x (inr (inr (inr y))) =
    absurd (never_not_unfinished b r c s (sym e ∙ f) x.hopeless y.unfinished (omega (arith, x.fits, y.long)))

-- as many bytes as a head may have, against each outcome
full_first : {H A : Type 0} {Reads : List ℕ → H → List ℕ → Type 0} (read : H → Result A HttpFault) → IsForm Reads → (left b r c s : List ℕ) (first second : Result A HttpFault) → left ≡ b ++ r → left ≡ c ++ s → IsFull Reads b first → Outcome Reads read c s second → Same first second r s
full_first read form left b r c s first second e f x (inl y) =
    Same-sym second first s r (whole_first read form left c s b r second first f e y (inr (inr (inr x))))
full_first read form left b r c s first second e f x (inr (inl y)) =
    Same-sym second first s r (end_first read form left c s b r second first f e y (inr (inr (inr x))))
full_first read form left b r c s first second e f x (inr (inr (inl y))) =
    Same-sym second first s r (never_first read form left c s b r second first f e y (inr (inr (inr x))))
full_first read form left b r c s first second e f x (inr (inr (inr y))) =
    record { answer = x.answer_is ∙ sym y.answer_is; rest = (same_front b c r s (sym e ∙ f) (x.long ∙ sym y.long)).1 }

either_first : {H A : Type 0} {Reads : List ℕ → H → List ℕ → Type 0} (read : H → Result A HttpFault) → IsForm Reads → (left b r c s : List ℕ) (first second : Result A HttpFault) → left ≡ b ++ r → left ≡ c ++ s → Outcome Reads read b r first → Outcome Reads read c s second → Same first second r s
either_first read form left b r c s first second e f (inl x) y = whole_first read form left b r c s first second e f x y
either_first read form left b r c s first second e f (inr (inl x)) y = end_first read form left b r c s first second e f x y
either_first read form left b r c s first second e f (inr (inr (inl x))) y = never_first read form left b r c s first second e f x y
either_first read form left b r c s first second e f (inr (inr (inr x))) y = full_first read form left b r c s first second e f x y

-- there is one answer, and one rest
pub one_answer : {H A : Type 0} {Reads : List ℕ → H → List ℕ → Type 0} (read : H → Result A HttpFault) → IsForm Reads → (left r s : List ℕ) (first second : Result A HttpFault) → AnswersHead Reads read left r first → AnswersHead Reads read left s second → IsDecided first → IsDecided second → (first ≡ second) × (r ≡ s)
one_answer {H} {A} {Reads} read form left r s first second x y own other =
    let a = outcome Reads read left r first x own in
    let b = outcome Reads read left s second y other in
    let same = either_first read form left a.0 r b.0 s first second a.1 b.1 a.2 b.2 in
    (same.answer, same.rest)
