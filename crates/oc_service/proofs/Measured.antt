-- The deeds for the measures.
use Rattle.std.proofs.Common.{◌≡◌, ◌≢◌, ◌∙◌, ℕ, Bool, true, false, refl, suc, ◌+◌, ◌<◌, ◌≤◌, List, [], ◌∷◌, ◌++◌, length, drop, get_or, ap, sym, eq-eqb, cond, append_assoc, append-nil, drop-cons, add-one}
use Rattle.std.specs.Prelude.{◌==◌, if◌then◌else◌}
use Rattle.std.proofs.lemmas.List.{drop_all}
use Rattle.std.proofs.lemmas.Bool.{ne_eqb}
use Rattle.oc_config.specs.Settings.{Settings}
use Rattle.oc_updown.specs.declared.measure_lines.Measure.{Measure}
use Rattle.oc_model.specs.declared.input.Input.TheVariants.{Measured}
use Rattle.oc_deeds.specs.Deeds.{Deed, Says, Setting, Takes, config_behind}
use Rattle.oc_deeds.specs.Records.{told_ahead}
use Rattle.oc_service.specs.WhatNodeDoes.{own_measure, own_measures}

-- the deeds for a measure of the node itself
abbrev pub taken : Setting → Measure → List Deed
taken s m = Says (told_ahead s.log s.me (Measured m.peer m.rate m.hops)) ∷ Takes (Measured m.peer m.rate m.hops) ∷ []

-- a measure of this node is taken
pub own_deeds : (s : Setting) (m : Measure) → m.from ≡ s.me → own_measure s m ≡ taken s m
own_deeds s m is = ap (λ b. cond b (taken s m) []) (eq-eqb m.from s.me is)

-- a measure of another node is not taken
pub other_deeds : (s : Setting) (m : Measure) → m.from ≢ s.me → own_measure s m ≡ []
other_deeds s m is = ap (λ b. cond b (taken s m) []) (ne_eqb m.from s.me is)

-- the configuration stays, whatever is measured
pub own_config : (s : Setting) (m : Measure) (c : Settings) → config_behind (own_measure s m) c ≡ c
own_config s m c = by_own (m.from == s.me)
  where
    by_own : (b : Bool) → config_behind (if b then taken s m else []) c ≡ c
    by_own true = refl
    by_own false = refl

-- the measures from a place on begin with the one there
next_measure : (ms : List Measure) (i : ℕ) (m : Measure) → i < length ms → m ≡ get_or ms i m → drop i ms ≡ m ∷ drop (suc i) ms
next_measure ms i m within is = drop-cons ms i m within ∙ ap (λ (x : Measure). x ∷ drop (suc i) ms) (sym is)

-- the deeds after those of the measures before this place
pub measures_here : (s : Setting) (ms : List Measure) (i : ℕ) (m : Measure) (deeds : List Deed) → i < length ms → m ≡ get_or ms i m
    → deeds ++ own_measures s (drop i ms) ≡ own_measures s ms → own_measures s ms ≡ deeds ++ (own_measure s m ++ own_measures s (drop (suc i) ms))
measures_here s ms i m deeds within is so_far = sym so_far ∙ ap (λ (l : List Measure). deeds ++ own_measures s l) (next_measure ms i m within is)

-- one measure more
pub measure_more : (s : Setting) (ms : List Measure) (i : ℕ) (m : Measure) (deeds : List Deed) → i < length ms → m ≡ get_or ms i m
    → deeds ++ own_measures s (drop i ms) ≡ own_measures s ms → (deeds ++ own_measure s m) ++ own_measures s (drop (i + 1) ms) ≡ own_measures s ms
measure_more s ms i m deeds within is so_far =
    ap (λ (n : ℕ). (deeds ++ own_measure s m) ++ own_measures s (drop n ms)) (add-one i)
    ∙ append_assoc deeds (own_measure s m) (own_measures s (drop (suc i) ms))
    ∙ sym (measures_here s ms i m deeds within is so_far)

-- all measures are taken after the last
pub all_measured : (s : Setting) (ms : List Measure) (i : ℕ) (deeds : List Deed) → length ms ≤ i → deeds ++ own_measures s (drop i ms) ≡ own_measures s ms → deeds ≡ own_measures s ms
all_measured s ms i deeds past so_far = sym (append-nil deeds) ∙ ap (λ (l : List Measure). deeds ++ own_measures s l) (sym (drop_all i ms past)) ∙ so_far
