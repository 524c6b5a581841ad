-- The effect of a write to a metered sink.
use Rattle.std.specs.Prelude.{◌≡◌, ℕ, ◌+◌, ◌*◌, ◌-◌, ◌/◌, ◌≤◌, zero, suc, Bool, true, false, length, List, [], ◌++◌, refl}
use Rattle.std.proofs.Common.{◌∙◌, ap, sym, subst, inl, inr, arith, append_assoc, length-append}
use Rattle.oc_client.specs.Lines.{Tells, lines_after, lines_between, progress_line}
use Rattle.oc_client.specs.ProgressLines.{Grows}
use Rattle.oc_client.specs.declared.metered.Metered.{Metered}
use Rattle.oc_client.specs.declared.progress_lines.ProgressLines.{ProgressLines}
use Rattle.oc_client.specs.declared.progress_lines.TheConstants.{PROGRESS_STEP}
use Rattle.oc_io.specs.Counts.{Rises, Rises-none}

-- no lines lie between a count and itself
no_lines : (count : ℕ) → lines_between count count ≡ []
no_lines count =
    let none : count / PROGRESS_STEP - count / PROGRESS_STEP ≡ 0 = omega arith in
    ap (λ (many : ℕ). lines_after (count / PROGRESS_STEP) many) none

-- some lines and further ones
pub lines_more : (done many further : ℕ) → lines_after done (many + further) ≡ lines_after done many ++ lines_after (done + many) further
lines_more done zero further =
    let none : 0 + further ≡ further = omega arith in
    let same : done ≡ done + 0 = omega arith in
    ap (λ (n : ℕ). lines_after done n) none ∙ ap (λ (n : ℕ). lines_after n further) same
lines_more done (suc many) further =
    let step : suc many + further ≡ suc (many + further) = omega arith in
    let place : (done + 1) + many ≡ done + suc many = omega arith in
    let more = lines_more (done + 1) many further ∙ ap (λ (n : ℕ). lines_after (done + 1) many ++ lines_after n further) place in
    ap (λ (n : ℕ). lines_after done n) step
    ∙ ap (λ (text : List ℕ). progress_line ((done + 1) * PROGRESS_STEP) ++ text) more
    ∙ sym (append_assoc (progress_line ((done + 1) * PROGRESS_STEP)) (lines_after (done + 1) many) (lines_after (done + suc many) further))

lines_then : (a b c : ℕ) → a ≤ b → b ≤ c → lines_between a c ≡ lines_between a b ++ lines_between b c
lines_then a b c first rest =
    let many : c / PROGRESS_STEP - a / PROGRESS_STEP ≡ (b / PROGRESS_STEP - a / PROGRESS_STEP) + (c / PROGRESS_STEP - b / PROGRESS_STEP) = omega (arith, first, rest) in
    let place : a / PROGRESS_STEP + (b / PROGRESS_STEP - a / PROGRESS_STEP) ≡ b / PROGRESS_STEP = omega (arith, first) in
    ap (λ (n : ℕ). lines_after (a / PROGRESS_STEP) n) many
    ∙ lines_more (a / PROGRESS_STEP) (b / PROGRESS_STEP - a / PROGRESS_STEP) (c / PROGRESS_STEP - b / PROGRESS_STEP)
    ∙ ap (λ (n : ℕ). lines_between a b ++ lines_after n (c / PROGRESS_STEP - b / PROGRESS_STEP)) place

-- two rises are one by both
rises_both : (a b c m n : ℕ) → Rises a m b → Rises b n c → Rises a (m + n) c
rises_both a b c m n (inl p) (inl q) = inl (omega (arith, p, q))
rises_both a b c m n (inl p) (inr q) = inr (q.0, omega (arith, p, q.1))
rises_both a b c m n (inr p) (inl q) = inr (omega (arith, q, p.0), omega (arith, p.1))
rises_both a b c m n (inr p) (inr q) = inr (q.0, omega (arith, p.1))

module _ {E : Type 0} (takes fails : E → List ℕ → E → Type 0) (nothing : (a : E) → takes a [] a) (then : (a b c : E) (x y : List ℕ) → takes a x b → takes b y c → takes a (x ++ y) c) (then_fails : (a b c : E) (x y : List ℕ) → takes a x b → fails b y c → fails a (x ++ y) c) where
  told_nothing : (a : E) (active : Bool) → Tells takes fails a a active active []
  told_nothing a true = nothing a
  told_nothing a false = (refl, refl)

  told_then : (a b c : E) (p q r : Bool) (x y : List ℕ) → Tells takes fails a b p q x → Tells takes fails b c q r y → Tells takes fails a c p r (x ++ y)
  told_then a b c false true r x y f s = absurd (let wrong : true ≡ false = f.1 in cc)
  told_then a b c false false r x y f s = (s.0 ∙ f.0, s.1)
  told_then a b c true true true x y f s = then a b c x y f s
  told_then a b c true true false x y f (front, (rest, e), broke) =
      (x ++ front, (rest, ap (λ (t : List ℕ). x ++ t) e ∙ sym (append_assoc x front rest)), then_fails a b c x front f broke)
  told_then a b c true false true x y f s = absurd (let wrong : true ≡ false = s.1 in cc)
  told_then a b c true false false x y (front, (rest, e), broke) s =
      (front, (rest ++ y, ap (λ (t : List ℕ). t ++ y) e ∙ append_assoc front rest y), subst (λ (k : E). fails a front k) (sym s.0) broke)

  pub grows_nothing : (a : ProgressLines E) → Grows takes fails a (length {A = ℕ} []) a
  grows_nothing a = record {
    rises = Rises-none a.count;
    no_fall = omega arith;
    told = subst (λ (text : List ℕ). Tells takes fails a.sink a.sink a.active a.active text) (sym (no_lines a.count)) (told_nothing a.sink a.active);
  }

  pub grows_both : (a b c : ProgressLines E) (m n : ℕ) → Grows takes fails a m b → Grows takes fails b n c → Grows takes fails a (m + n) c
  grows_both a b c m n f s = record {
    rises = rises_both a.count b.count c.count m n f.rises s.rises;
    no_fall = omega (arith, f.no_fall, s.no_fall);
    told = subst (λ (text : List ℕ). Tells takes fails a.sink c.sink a.active c.active text) (sym (lines_then a.count b.count c.count f.no_fall s.no_fall))
        (told_then a.sink b.sink c.sink a.active b.active c.active (lines_between a.count b.count) (lines_between b.count c.count) f.told s.told);
  }

  pub grows_then : (a b c : ProgressLines E) (x y : List ℕ) → Grows takes fails a (length x) b → Grows takes fails b (length y) c → Grows takes fails a (length (x ++ y)) c
  grows_then a b c x y f s = subst (λ (k : ℕ). Grows takes fails a k c) (sym (length-append x y)) (grows_both a b c (length x) (length y) f s)

-- bytes that were taken, by whose number the count grew
pub record Goes {K E : Type 0} (takes fails : E → List ℕ → E → Type 0) (went : K → List ℕ → K → Type 0) (old : Metered K E) (bytes : List ℕ) (new : Metered K E) : Type 0 where
  pub gone : went old.sink bytes new.sink
  pub grew : Grows takes fails old.lines (length bytes) new.lines

pub Goes-nothing : {K E : Type 0} (takes fails : E → List ℕ → E → Type 0) (nothing : (a : E) → takes a [] a) (then : (a b c : E) (x y : List ℕ) → takes a x b → takes b y c → takes a (x ++ y) c) (then_fails : (a b c : E) (x y : List ℕ) → takes a x b → fails b y c → fails a (x ++ y) c) (went : K → List ℕ → K → Type 0) → ((k : K) → went k [] k) → (a : Metered K E) → Goes takes fails went a [] a
Goes-nothing takes fails nothing then then_fails went none a = record { gone = none a.sink; grew = grows_nothing takes fails nothing then then_fails a.lines }

pub Goes-then : {K E : Type 0} (takes fails : E → List ℕ → E → Type 0) (nothing : (a : E) → takes a [] a) (then : (a b c : E) (x y : List ℕ) → takes a x b → takes b y c → takes a (x ++ y) c) (then_fails : (a b c : E) (x y : List ℕ) → takes a x b → fails b y c → fails a (x ++ y) c) (first second : K → List ℕ → K → Type 0) → ((a b c : K) (x y : List ℕ) → first a x b → second b y c → second a (x ++ y) c) → (a b c : Metered K E) (x y : List ℕ) → Goes takes fails first a x b → Goes takes fails second b y c → Goes takes fails second a (x ++ y) c
Goes-then takes fails nothing then then_fails first second joins a b c x y f s = record {
  gone = joins a.sink b.sink c.sink x y f.gone s.gone;
  grew = grows_then takes fails nothing then then_fails a.lines b.lines c.lines x y f.grew s.grew;
}
