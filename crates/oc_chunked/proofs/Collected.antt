-- The outcomes of the collecting of lines, of which there is one.
use Rattle.std.proofs.Common.{◌≡◌, ℕ, ◌<◌, ◌≤◌, ◌⊎◌, inl, inr, List, [], ◌∷◌, ◌++◌, length, refl, sym, ap, ◌∙◌, subst, arith, length-append}
use Rattle.std.specs.Prelude.{⊤}
use Rattle.std.proofs.lemmas.List.{append_assoc, append-nil}
use Rattle.httparse.specs.Ascii.{line_feed}
use Rattle.oc_http.specs.Unfinished.{IsUnfinished, IsHopeless}
use Rattle.oc_http.proofs.LineEnds.{ended}
use Rattle.oc_http.proofs.Heads.{IsForm}
use Rattle.oc_chunked.proofs.Fronts.{all_or_less}

pub data Outcome (T : Type 0) : Type 0 where
  unended : Outcome T
  hopeless : Outcome T
  too_long : Outcome T
  whole : T → Outcome T

-- the outcome to which the collecting has come with these bytes, of which there may be at most `most`
abbrev pub Collects : {T : Type 0} → (List ℕ → T → List ℕ → Type 0) → ℕ → List ℕ → Outcome T → Type 0
Collects Reads most bytes unended = IsUnfinished Reads bytes × (length bytes < most)
Collects Reads most bytes hopeless = IsHopeless Reads bytes × (length bytes ≤ most)
Collects Reads most bytes too_long = IsUnfinished Reads bytes × (length bytes ≡ most)
Collects Reads most bytes (whole tree) = Reads bytes tree [] × (length bytes ≤ most)

-- the collecting does not go on
abbrev pub IsLast : {T : Type 0} → Outcome T → Type 0
IsLast unended = ⊥
IsLast outcome = ⊤

-- bytes that begin with a whole one are not unfinished
unfinished_not_whole : {T : Type 0} {Reads : List ℕ → T → List ℕ → Type 0} → IsForm Reads → (p q bytes : List ℕ) (tree : T) → bytes ≡ p ++ q → IsUnfinished Reads bytes → Reads p tree [] → ⊥
unfinished_not_whole form p q bytes tree e unfinished reads =
    let line = ended (form.line tree) in
    let p_is : p ≡ line = form.front p tree [] reads ∙ append-nil line in
    unfinished.no_tree tree q (form.again p bytes tree [] q reads (e ∙ ap (λ (z : List ℕ). z ++ q) p_is))

-- bytes that begin with hopeless bytes are not unfinished
unfinished_not_hopeless : {T : Type 0} {Reads : List ℕ → T → List ℕ → Type 0} → (p q bytes : List ℕ) → bytes ≡ p ++ q → IsUnfinished Reads bytes → IsHopeless Reads p → ⊥
unfinished_not_hopeless {T} {Reads} p q bytes e unfinished never =
    let text : bytes ≡ never.before ++ line_feed ∷ q = e ∙ ap (λ (z : List ℕ). z ++ q) never.ends ∙ append_assoc never.before (line_feed ∷ []) q in
    let can = unfinished.goes_on never.before q text in
    never.never can.0 can.1 [] (subst (λ (z : List ℕ). Reads (z ++ can.0) can.1 []) (sym never.ends) can.2)

-- hopeless bytes begin with no whole one
hopeless_not_whole : {T : Type 0} {Reads : List ℕ → T → List ℕ → Type 0} → IsForm Reads → (p x : List ℕ) (tree : T) → IsHopeless Reads (p ++ x) → Reads p tree [] → ⊥
hopeless_not_whole {T} {Reads} form p x tree never reads =
    elim (all_or_less p x never.before line_feed never.ends) [
      | inl none ↦
          let same : p ≡ p ++ x = sym (append-nil p) ∙ ap (λ (z : List ℕ). p ++ z) (sym none) in
          never.never [] tree [] (subst (λ (z : List ℕ). Reads z tree []) (same ∙ sym (append-nil (p ++ x))) reads)
      | inr found ↦ unfinished_not_whole form p found.0 never.before tree found.1 never.unfinished reads
    ]

pub record One {T : Type 0} (x : List ℕ) (a b : Outcome T) : Type 0 where
  pub none : x ≡ []
  pub same : a ≡ b

-- bytes and nothing after them
back : (p x : List ℕ) → x ≡ [] → p ≡ p ++ x ++ []
back p x none = sym (append-nil p) ∙ ap (λ (z : List ℕ). p ++ z) (sym none) ∙ sym (append-nil (p ++ x))

-- bytes as long as they with others have none after them
nothing_more : (p x : List ℕ) → length (p ++ x) ≤ length p → x ≡ []
nothing_more p [] less = refl
nothing_more p (b ∷ x) less = absurd (omega (arith, less, length-append p (b ∷ x)))

-- no bytes follow where the collecting has ended, and there is one outcome
pub collects_once : {T : Type 0} {Reads : List ℕ → T → List ℕ → Type 0} → IsForm Reads → (most : ℕ) (p x : List ℕ) (a b : Outcome T) → Collects Reads most p a → Collects Reads most (p ++ x) b → (x ≡ []) ⊎ IsLast a → One x a b
collects_once form most p x unended unended c d (inl none) = record { none = none; same = refl }
collects_once form most p x unended hopeless c d (inl none) = absurd (unfinished_not_hopeless (p ++ x) [] p (back p x none) c.0 d.0)
collects_once form most p x unended too_long c d (inl none) = absurd (omega (arith, c.1, d.1, length-append p x, ap length none))
collects_once form most p x unended (whole t) c d (inl none) = absurd (unfinished_not_whole form (p ++ x) [] p t (back p x none) c.0 d.0)
collects_once form most p x unended b c d (inr last) = absurd last
collects_once form most p x hopeless unended c d cond = absurd (unfinished_not_hopeless p x (p ++ x) refl d.0 c.0)
collects_once form most p x hopeless hopeless c d cond =
    elim (all_or_less p x (d.0).before line_feed (d.0).ends) [
      | inl none ↦ record { none = none; same = refl }
      | inr found ↦ absurd (unfinished_not_hopeless p found.0 (d.0).before found.1 (d.0).unfinished c.0)
    ]
collects_once form most p x hopeless too_long c d cond = absurd (unfinished_not_hopeless p x (p ++ x) refl d.0 c.0)
collects_once form most p x hopeless (whole t) c d cond = absurd ((c.0).never x t [] d.0)
collects_once form most p x too_long unended c d cond = absurd (omega (arith, c.1, d.1, length-append p x))
collects_once form most p x too_long hopeless c d cond =
    let none = nothing_more p x (omega (arith, c.1, d.1)) in
    absurd (unfinished_not_hopeless (p ++ x) [] p (back p x none) c.0 d.0)
collects_once form most p x too_long too_long c d cond = record { none = nothing_more p x (omega (arith, c.1, d.1)); same = refl }
collects_once form most p x too_long (whole t) c d cond =
    let none = nothing_more p x (omega (arith, c.1, d.1)) in
    absurd (unfinished_not_whole form (p ++ x) [] p t (back p x none) c.0 d.0)
collects_once form most p x (whole s) unended c d cond = absurd (unfinished_not_whole form p x (p ++ x) s refl d.0 c.0)
collects_once form most p x (whole s) hopeless c d cond = absurd (hopeless_not_whole form p x s d.0 c.0)
collects_once form most p x (whole s) too_long c d cond = absurd (unfinished_not_whole form p x (p ++ x) s refl d.0 c.0)
collects_once {T} {Reads} form most p x (whole s) (whole t) c d cond =
    let line = ended (form.line s) in
    let p_is : p ≡ line = form.front p s [] c.0 ∙ append-nil line in
    let again = form.again p (p ++ x) s [] x c.0 (ap (λ (z : List ℕ). z ++ x) p_is) in
    let one = form.unique (p ++ x) s t x [] again d.0 in
    record { none = one.1; same = ap whole one.0 }
