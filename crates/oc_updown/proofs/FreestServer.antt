-- The freest of those in the area, or of all, is the best of all.
use Rattle.std.proofs.Common.{◌≡◌, ℕ, Bool, true, false, if◌then◌else◌, Option, Some, None, List, [], ◌∷◌, ◌⊎◌, inl, inr, refl, ap, sym, subst, ◌∙◌}
use Rattle.std.specs.Prelude.{filter}
use Rattle.oc_model.specs.Numbers.{IsAmong}
use Rattle.oc_model.specs.Selected.{is_freer, freer_of, freest, or_all}
use Rattle.oc_updown.specs.Better.{is_near, is_better, with_best, best_of}
use Rattle.oc_updown.proofs.Better.{by_area, takes, keeps}
use Rattle.oc_updown.proofs.Lists.{among_filtered, none_passes}

-- one of two is the one that was picked
picked : (b : Bool) (z x y : ℕ) → (if b then z else x) ≡ y → (z ≡ y) ⊎ (x ≡ y)
picked true z x y e = inl e
picked false z x y e = inr e

-- the freer of a node and the freest of the rest is in the whole list
freer_among : (counts : List ℕ) (x : ℕ) (xs : List ℕ) (y : ℕ) (o : Option ℕ) → ((z : ℕ) → o ≡ Some z → IsAmong z xs) → freer_of counts x o ≡ y → (x ≡ y) ⊎ IsAmong y xs
freer_among counts x xs y None rest e = inl e
freer_among counts x xs y (Some z) rest e = elim (picked (is_freer counts z x) z x y e) [ inl same ↦ inr (subst (λ (w : ℕ). IsAmong w xs) same (rest z refl)) | inr same ↦ inl same ]

-- the freest node is in the list
freest_among : (counts : List ℕ) (xs : List ℕ) (y : ℕ) → freest counts xs ≡ Some y → IsAmong y xs
freest_among counts [] y e = absurd cc
freest_among counts (x ∷ xs) y e = freer_among counts x xs y (freest counts xs) (freest_among counts xs) cc

-- the freer of two nodes that are alike is better
by_alike : (b f : Bool) → by_area b b f ≡ f
by_alike true f = refl
by_alike false f = refl

-- the same for servers
pub alike : (areas counts : List ℕ) (area x y : ℕ) (b : Bool) → is_near areas area x ≡ b → is_near areas area y ≡ b → is_better areas counts area y x ≡ is_freer counts y x
alike areas counts area x y b h e = ap (λ (v : Bool). by_area v (is_near areas area x) (is_freer counts y x)) e ∙ ap (λ (v : Bool). by_area b v (is_freer counts y x)) h ∙ by_alike b (is_freer counts y x)

-- one in the area is better than one that is not
pub inside : (areas counts : List ℕ) (area x y : ℕ) → is_near areas area x ≡ false → is_near areas area y ≡ true → is_better areas counts area y x ≡ true
inside areas counts area x y h e = ap (λ (v : Bool). by_area v (is_near areas area x) (is_freer counts y x)) e ∙ ap (λ (v : Bool). by_area true v (is_freer counts y x)) h

-- one that is not in the area is no better than one that is
pub outside : (areas counts : List ℕ) (area x y : ℕ) → is_near areas area x ≡ true → is_near areas area y ≡ false → is_better areas counts area y x ≡ false
outside areas counts area x y h e = ap (λ (v : Bool). by_area v (is_near areas area x) (is_freer counts y x)) e ∙ ap (λ (v : Bool). by_area false v (is_freer counts y x)) h

-- the best of one in the area, with none of the others there
alone : (areas counts : List ℕ) (area x : ℕ) (xs : List ℕ) (o : Option ℕ) → freest counts xs ≡ o → ((y : ℕ) → IsAmong y xs → is_near areas area y ≡ false) → is_near areas area x ≡ true → x ≡ with_best (is_better areas counts area) x o
alone areas counts area x xs None e outs h = refl
alone areas counts area x xs (Some y) e outs h = sym (keeps (is_better areas counts area) x y (outside areas counts area x y h (outs y (freest_among counts xs y e))))

-- the best of those that are alike
among_alike : (areas counts : List ℕ) (area x : ℕ) (xs : List ℕ) (b : Bool) (o : Option ℕ) → freest counts xs ≡ o → ((y : ℕ) → IsAmong y xs → is_near areas area y ≡ b) → is_near areas area x ≡ b → freer_of counts x o ≡ with_best (is_better areas counts area) x o
among_alike areas counts area x xs b None e same h = refl
among_alike areas counts area x xs b (Some y) e same h = ap (λ (t : Bool). if t then y else x) (sym (alike areas counts area x y b h (same y (freest_among counts xs y e))))

-- one more in front, by whether it is in the area and whether another is
step : (areas counts : List ℕ) (area x : ℕ) (xs f : List ℕ) → ((y : ℕ) → IsAmong y f → is_near areas area y ≡ true) → (f ≡ [] → (y : ℕ) → IsAmong y xs → is_near areas area y ≡ false) → (b : Bool) → is_near areas area x ≡ b → freest counts (or_all (if b then x ∷ f else f) (x ∷ xs)) ≡ Some (with_best (is_better areas counts area) x (freest counts (or_all f xs)))
step areas counts area x xs [] ins outs true e = ap (λ (y : ℕ). Some y) (alone areas counts area x xs (freest counts xs) refl (outs refl) e)
step areas counts area x xs (z ∷ zs) ins outs true e = ap (λ (y : ℕ). Some y) (among_alike areas counts area x (z ∷ zs) true (freest counts (z ∷ zs)) refl ins e)
step areas counts area x xs [] ins outs false e = ap (λ (y : ℕ). Some y) (among_alike areas counts area x xs false (freest counts xs) refl (outs refl) e)
step areas counts area x xs (z ∷ zs) ins outs false e =
    let y = freer_of counts z (freest counts zs) in
    ap (λ (y : ℕ). Some y) (sym (takes (is_better areas counts area) x y (inside areas counts area x y e (ins y (freest_among counts (z ∷ zs) y refl)))))

-- the freest of those in the area, or of all where none is, is the best of all
pub freest_best : (areas counts : List ℕ) (area : ℕ) (xs : List ℕ) → freest counts (or_all (filter (is_near areas area) xs) xs) ≡ best_of (is_better areas counts area) xs
freest_best areas counts area [] = refl
freest_best areas counts area (x ∷ xs) =
    step areas counts area x xs (filter (is_near areas area) xs) (λ y h. (among_filtered (is_near areas area) xs y h).1) (λ e y h. none_passes (is_near areas area) xs y e h) (is_near areas area x) refl
    ∙ ap (λ (o : Option ℕ). Some (with_best (is_better areas counts area) x o)) (freest_best areas counts area xs)
