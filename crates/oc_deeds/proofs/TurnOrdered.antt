-- The first deeds of a turn, and deeds in order.
use Rattle.std.proofs.Common.{◌≡◌, ◌⊎◌, ◌<◌, ℕ, Option, None, Some, List, [], ◌∷◌, ◌++◌, length, inl, inr, refl, sym, ap, subst, ◌∙◌, arith}
use Rattle.std.proofs.lemmas.List.{append_assoc}
use Rattle.oc_link.specs.Told.{AddsAll}
use Rattle.oc_link.specs.declared.call.Call.{Call}
use Rattle.oc_link.specs.declared.phase.Phase.TheVariants.{Answering, Awaiting, Whole}
use Rattle.oc_link.specs.declared.phase.Phase.{Phase}
use Rattle.oc_probe.specs.declared.probing.Probing.{Probing}
use Rattle.oc_deeds.proofs.Chains.{calls_append}
use Rattle.oc_deeds.proofs.RepliedDeeds.{given_front, given_whole}
use Rattle.oc_deeds.proofs.Settled.{ordered_front}
use Rattle.oc_deeds.specs.Choices.{wait_for}
use Rattle.oc_deeds.specs.Deeds.{Deed, Reads, Running, Sees, Setting, after_all, calls_of}
use Rattle.oc_deeds.specs.Replying.{IsOrdered, phase_on, works_on}
use Rattle.oc_deeds.specs.Settled.{AreServed, Fits, IsSettled}
use Rattle.oc_deeds.specs.Turns.{Observation, takes_at}
use Rattle.oc_deeds.specs.declared.pace.Pace.{Pace}
use Rattle.oc_deeds.specs.declared.work.Work.{Work}

-- Stories

-- a story that is told now was told before
pub was_told : (cs : List Call) (x : Option (List Call)) (z : List Call) → AddsAll cs x (Some z) → (made : List Call) × (x ≡ Some made) × (z ≡ made ++ cs)
was_told cs None z adds = absurd adds
was_told cs (Some made) z adds = (made, refl, adds)

pub same_story : (x y : List Call) → Some x ≡ Some y → x ≡ y
same_story x y is = cc

-- The first deeds of a turn

-- fewer than three deeds of these are a front of the first two
short : (xs behind more : List Deed) (d e : Deed) → d ∷ e ∷ more ≡ xs ++ behind → length xs < 3 → (rest : List Deed) × (d ∷ e ∷ [] ≡ xs ++ rest)
short [] behind more d e is few = (d ∷ e ∷ [], refl)
short (x ∷ []) behind more d e is few =
    let all : d ∷ e ∷ more ≡ x ∷ behind = is in
    let first : d ≡ x = cc in
    (e ∷ [], ap (λ (y : Deed). y ∷ e ∷ []) first)
short (x ∷ y ∷ []) behind more d e is few =
    let all : d ∷ e ∷ more ≡ x ∷ y ∷ behind = is in
    let first : d ≡ x = cc in
    let second : e ≡ y = cc in
    ([], ap (λ (z : Deed). z ∷ e ∷ []) first ∙ ap (λ (z : Deed). x ∷ z ∷ []) second)
short (x ∷ y ∷ z ∷ xs) behind more d e is few = absurd (omega (arith, few))

-- no other deed was done where a turn only asked for news
pub asked_only : (due : Option ℕ) (s : Setting) (made : List Call) (pace : Pace) (probing : Option Probing) (t : Observation) (a : Running) (more deeds behind : List Deed) → due ≡ None
    → (Reads t.before ∷ takes_at due pace probing t s a) ++ more ≡ deeds ++ behind → length deeds < 3 → IsOrdered s made deeds a
asked_only (Some place) s made pace probing t a more deeds behind none is few = let no : Some place ≡ None = none in absurd (cc no)
asked_only None s made pace probing t a more deeds behind none is few =
    let front = short deeds behind _ (Reads t.before) (Sees t.event (wait_for pace a.works t.before) t.bytes) is few in
    ordered_front s made deeds (front.0) a
    (subst (λ (ds : List Deed). IsOrdered s made ds a) (front.1) (tt, (tt, tt)))

-- some work was due, or the turn asked for news
pub due_or_asked : (due : Option ℕ) → (due ≡ None) ⊎ ((place : ℕ) × (due ≡ Some place))
due_or_asked None = inl refl
due_or_asked (Some place) = inr (place, refl)

-- Deeds after deeds

pub calls_joined : (s : Setting) (made at later : List Call) (ds es : List Deed) (a : Running) → at ≡ made ++ calls_of s ds a → later ≡ at ++ calls_of s es (after_all ds a) → later ≡ made ++ calls_of s (ds ++ es) a
calls_joined s made at later ds es a first second =
    second
    ∙ ap (λ (cs : List Call). cs ++ calls_of s es (after_all ds a)) first
    ∙ append_assoc made (calls_of s ds a) (calls_of s es (after_all ds a))
    ∙ ap (λ (cs : List Call). made ++ cs) (sym (calls_append s ds es a))

-- From a moment without works

idle : (made : List Call) (ws : List Work) (c : ℕ) → IsSettled made ws → ws ≡ [] → phase_on c made ≡ Answering → ⊥
idle made ws c settled none phase =
    let fits : Fits Answering (works_on c ws) = subst (λ (x : Phase). Fits x (works_on c ws)) phase (settled c) in
    let one : [] ≡ fits.0 ∷ [] = sym (ap (works_on c) none) ∙ fits.1 in
    absurd (cc one)

pub served_in_order : (s : Setting) (made later : List Call) (a : Running) (deeds : List Deed) → a.works ≡ [] → IsSettled made a.works → later ≡ made ++ calls_of s deeds a → IsOrdered s made deeds a → AreServed s made later deeds a
served_in_order s made later a deeds none settled calls ordered = record {
  calls = calls;
  ordered = ordered;
  front = λ (c : ℕ). given_front s made deeds a c none (idle made a.works c settled none) ordered;
  whole = λ c ended.
      given_whole s made deeds a c none (idle made a.works c settled none) ordered
      (subst (λ (cs : List Call). (phase_on c cs ≡ Awaiting) ⊎ (phase_on c cs ≡ Whole)) calls ended);
}
