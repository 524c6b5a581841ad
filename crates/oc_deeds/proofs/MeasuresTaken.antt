-- Measures of a configuration that was read again, taken one after another.
use Rattle.std.proofs.Common.{◌≡◌, ◌<◌, ◌≤◌, ℕ, ◌+◌, zero, suc, Bool, arith, filter, List, [], ◌∷◌, ◌++◌, length, drop, get_or, refl, sym, ap, ◌∙◌, append_assoc, append-nil, drop-cons, add-one}
use Rattle.std.proofs.lemmas.Bool.{cond_both}
use Rattle.std.proofs.lemmas.List.{drop_all}
use Rattle.std.specs.Prelude.{All}
use Rattle.oc_updown.specs.declared.measure_lines.Measure.{Measure}
use Rattle.oc_deeds.specs.Deeds.{Deed, Running, Setting, after_all}
use Rattle.oc_deeds.specs.Parts.{Part, in_turn}
use Rattle.oc_deeds.specs.Rereading.{measured_by, takes_measures}
use Rattle.oc_deeds.specs.Telling.{takes_ahead}
use Rattle.oc_deeds.proofs.Chains.{after_append}

-- this part, and then the rest of some measures are all of them
abbrev pub AreTaken : List Measure → List Measure → Part → Setting → Running → Type 0
AreTaken rest all p s a = p s a ++ takes_measures rest s (after_all (p s a) a) ≡ takes_measures all s a

-- at first
pub none_taken : (all : List Measure) (p : Part) (s : Setting) (a : Running) → p s a ≡ [] → AreTaken all all p s a
none_taken all p s a none = ap (λ (ds : List Deed). ds ++ takes_measures all s (after_all ds a)) none

-- the first measure of the rest, and then the others
first_of : (m : Measure) (more : List Measure) (s : Setting) (b : Running)
    → takes_measures (m ∷ more) s b ≡ takes_ahead (measured_by m) s b ++ takes_measures more s (after_all (takes_ahead (measured_by m) s b) b)
unfolding takes_measures
first_of m more s b = refl

-- one more
pub one_taken : (all : List Measure) (i : ℕ) (m : Measure) (p : Part) (s : Setting) (a : Running) → i < length all → m ≡ get_or all i m
    → AreTaken (drop i all) all p s a → AreTaken (drop (i + 1) all) all (in_turn p (takes_ahead (measured_by m))) s a
one_taken all i m p s a within is taken =
    let ds = p s a in
    let b = after_all ds a in
    let es = takes_ahead (measured_by m) s b in
    ap (λ (n : ℕ). (ds ++ es) ++ takes_measures (drop n all) s (after_all (ds ++ es) a)) (add-one i)
    ∙ ap (λ (r : Running). (ds ++ es) ++ takes_measures (drop (suc i) all) s r) (after_append ds es a)
    ∙ append_assoc ds es (takes_measures (drop (suc i) all) s (after_all es b))
    ∙ ap (λ (more : List Deed). ds ++ more) (sym (first_of m (drop (suc i) all) s b))
    ∙ ap (λ (ms : List Measure). ds ++ takes_measures ms s b) (sym (drop-cons all i m within ∙ ap (λ (x : Measure). x ∷ drop (suc i) all) (sym is)))
    ∙ taken

-- the deeds of the rest, of which this measure is the first
pub rest_is : (all : List Measure) (i : ℕ) (m : Measure) (s : Setting) (b : Running) → i < length all → m ≡ get_or all i m
    → takes_measures (drop i all) s b ≡ in_turn (takes_ahead (measured_by m)) (takes_measures (drop (suc i) all)) s b
rest_is all i m s b within is =
    ap (λ (ms : List Measure). takes_measures ms s b) (drop-cons all i m within ∙ ap (λ (x : Measure). x ∷ drop (suc i) all) (sym is)) ∙ first_of m (drop (suc i) all) s b

-- no more
none_left : (s : Setting) (b : Running) → takes_measures [] s b ≡ []
unfolding takes_measures
none_left s b = refl

pub all_taken : (all : List Measure) (i : ℕ) (p : Part) (s : Setting) (a : Running) → length all ≤ i → AreTaken (drop i all) all p s a → p s a ≡ takes_measures all s a
all_taken all i p s a past taken =
    sym (append-nil (p s a)) ∙ ap (λ (ds : List Deed). p s a ++ ds) (sym (none_left s (after_all (p s a) a)))
    ∙ ap (λ (ms : List Measure). p s a ++ takes_measures ms s (after_all (p s a) a)) (sym (drop_all i all past)) ∙ taken

-- Fresh measures

all_cons : (P : Measure → Type 0) (x : Measure) (ys : List Measure) → P x → All P ys → All P (x ∷ ys)
all_cons P x ys first rest zero d few = first
all_cons P x ys first rest (suc k) d few = rest k d (omega (arith, few))

-- what holds of each holds of each of some
pub all_some : (P : Measure → Type 0) (test : Measure → Bool) (xs : List Measure) → All P xs → All P (filter test xs)
all_some P test [] all = λ k d few. absurd (omega (arith, few))
all_some P test (x ∷ xs) all =
    let rest : All P (filter test xs) = all_some P test xs (λ k d few. all (suc k) d (omega (arith, few))) in
    let both : All P (x ∷ filter test xs) = all_cons P x (filter test xs) (all 0 x (omega arith)) rest in
    cond_both (test x) (x ∷ filter test xs) (filter test xs) (All P) (λ _. both) (λ _. rest)
