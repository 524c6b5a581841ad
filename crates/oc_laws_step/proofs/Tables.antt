-- Tables: the row found after a put or a merge, and that the result is a table.
use Rattle.std.proofs.Common.{◌≡◌, ℕ, ◌<◌, ◌≤◌, Bool, true, false, ◌==◌, nat_lt, if◌then◌else◌, Option, Some, None, List, [], ◌∷◌, ◌⊎◌, inl, inr, refl, ap, ap₂, sym, ◌∙◌, arith, eqb-true, eq-eqb, ne_eqb, ltb-true, ltb-false}
use Rattle.std.proofs.lemmas.Bool.{eqb-false, cond_both, cases_eq, cases_order, false_from_ne_true, true≢false}
use Rattle.oc_base.specs.declared.cert.Cert.{Cert}
use Rattle.oc_model.specs.Certificates.{outranks}
use Rattle.oc_model.specs.Table.{newest, put, is_news, is_news_to, merge, merge_all}
use Rattle.oc_model.proofs.Lists.{all_weaker}
use Rattle.oc_laws_step.specs.Sound.{AreAbove, IsTable}
use Rattle.oc_laws_step.proofs.CertOrder.{outranks_fact, fact_outranks, outranks_irreflexive, outranks_transitive}

-- Putting a row

-- the row found at x after the row c was put
abbrev FindsPut : List Cert → Cert → ℕ → Type 0
FindsPut t c x = newest (put t c) x ≡ (if c.subject == x then Some c else newest t x)

-- at its own subject the new row, at others the row before
pub newest-put : (t : List Cert) (c : Cert) (x : ℕ) → FindsPut t c x
newest-put [] c x = refl
newest-put (k ∷ ks) c x = by_test (k.subject == c.subject) (nat_lt c.subject k.subject) (newest-put ks c x) refl where
  in_place : k.subject ≡ c.subject → newest (c ∷ ks) x ≡ (if c.subject == x then Some c else newest (k ∷ ks) x)
  in_place e = let same : (k.subject == x) ≡ (c.subject == x) = ap (λ s. s == x) e in rw same (again (c.subject == x)) where
    again : (b : Bool) → (if b then Some c else newest ks x) ≡ (if b then Some c else if b then Some k else newest ks x)
    again true = refl
    again false = refl

  behind : (k.subject ≡ c.subject → ⊥) → FindsPut ks c x → newest (k ∷ put ks c) x ≡ (if c.subject == x then Some c else newest (k ∷ ks) x)
  behind apart rest = by_found (k.subject == x) (c.subject == x) refl refl where
    by_found : (b d : Bool) → (k.subject == x) ≡ b → (c.subject == x) ≡ d → (if b then Some k else newest (put ks c) x) ≡ (if d then Some c else if b then Some k else newest ks x)
    by_found true true e f = absurd (apart (eqb-true k.subject x e ∙ sym (eqb-true c.subject x f)))
    by_found true false e f = refl
    by_found false d e f = rest ∙ ap (λ v. if v then Some c else newest ks x) f

  by_test : (b l : Bool) → FindsPut ks c x → (k.subject == c.subject) ≡ b → newest (if b then c ∷ ks else if l then c ∷ k ∷ ks else k ∷ put ks c) x ≡ (if c.subject == x then Some c else newest (k ∷ ks) x)
  by_test true l rest e = in_place (eqb-true k.subject c.subject e)
  by_test false true rest e = refl
  by_test false false rest e = behind (eqb-false k.subject c.subject e) rest

pub newest-put_same : (t : List Cert) (c : Cert) (x : ℕ) → c.subject ≡ x → newest (put t c) x ≡ Some c
newest-put_same t c x e = let same : (c.subject == x) ≡ true = eq-eqb c.subject x e in newest-put t c x ∙ rw same refl

pub newest-put_other : (t : List Cert) (c : Cert) (x : ℕ) → (c.subject ≡ x → ⊥) → newest (put t c) x ≡ newest t x
newest-put_other t c x apart = let other : (c.subject == x) ≡ false = ne_eqb c.subject x apart in newest-put t c x ∙ rw other refl

-- a row that is found is about the subject asked for
pub newest-subject : (t : List Cert) (x : ℕ) (k : Cert) → newest t x ≡ Some k → k.subject ≡ x
newest-subject [] x k h = absurd cc
newest-subject (j ∷ js) x k h = by_test (j.subject == x) (newest-subject js x k) refl h where
  by_test : (b : Bool) → (newest js x ≡ Some k → k.subject ≡ x) → (j.subject == x) ≡ b → (if b then Some j else newest js x) ≡ Some k → k.subject ≡ x
  by_test true rest e h = let same : j ≡ k = cc in rw (← same) (eqb-true j.subject x e)
  by_test false rest e h = rest h

-- Merging

-- a merged certificate is no news any more, and one that was no news stays so
pub merge_takes : (t : List Cert) (c : Cert) → is_news (merge t c) c ≡ false
merge_takes t c = by_test (is_news t c) refl where
  by_test : (b : Bool) → is_news t c ≡ b → is_news (if b then put t c else t) c ≡ false
  by_test true e = rw (newest-put_same t c c.subject refl) (false_from_ne_true (outranks c c) (λ h. outranks_irreflexive c (outranks_fact c c h)))
  by_test false e = e

-- a certificate that outranks nothing known, after a later word came
outdated : (c d : Cert) (was : Option Cert) → is_news_to was c ≡ true → is_news_to was d ≡ false → outranks d c ≡ false
outdated c d None news old = absurd (true≢false old)
outdated c d (Some k) news old =
    false_from_ne_true (outranks d c) (λ h. true≢false (sym (fact_outranks d k (outranks_transitive d c k (outranks_fact d c h) (outranks_fact c k news))) ∙ old))

pub merge_keeps : (t : List Cert) (c d : Cert) → is_news t d ≡ false → is_news (merge t c) d ≡ false
merge_keeps t c d old = by_test (is_news t c) refl where
  put_in : is_news t c ≡ true → (c.subject ≡ d.subject) ⊎ (c.subject ≡ d.subject → ⊥) → is_news (put t c) d ≡ false
  put_in news (inl same) = rw (newest-put_same t c d.subject same) (outdated c d (newest t c.subject) news (rw same old))
  put_in news (inr apart) = rw (newest-put_other t c d.subject apart) old

  by_test : (b : Bool) → is_news t c ≡ b → is_news (if b then put t c else t) d ≡ false
  by_test true e = put_in e (cases_eq c.subject d.subject)
  by_test false e = old

-- Tables stay tables

-- rows above a subject, and one more
above_put : (x : ℕ) (t : List Cert) (c : Cert) → x < c.subject → AreAbove x t → AreAbove x (put t c)
above_put x [] c less all = (less, tt)
above_put x (k ∷ ks) c less all = by_test (k.subject == c.subject) (nat_lt c.subject k.subject) (above_put x ks c less all.1) where
  by_test : (b l : Bool) → AreAbove x (put ks c) → AreAbove x (if b then c ∷ ks else if l then c ∷ k ∷ ks else k ∷ put ks c)
  by_test true l rest = (less, all.1)
  by_test false true rest = (less, all)
  by_test false false rest = (all.0, rest)

-- rows above a subject are above a lesser one
pub above_lower : (x y : ℕ) (t : List Cert) → x ≤ y → AreAbove y t → AreAbove x t
above_lower x y t less all = all_weaker (λ k. y < k.subject) (λ k. x < k.subject) (λ k h. omega arith) t all

pub table_put : (t : List Cert) (c : Cert) → IsTable t → IsTable (put t c)
table_put [] c up = (tt, tt)
table_put (k ∷ ks) c up = by_test (k.subject == c.subject) (nat_lt c.subject k.subject) (table_put ks c up.1) refl refl where
  by_test : (b l : Bool) → IsTable (put ks c) → (k.subject == c.subject) ≡ b → nat_lt c.subject k.subject ≡ l → IsTable (if b then c ∷ ks else if l then c ∷ k ∷ ks else k ∷ put ks c)
  by_test true l rest e f = (above_lower c.subject k.subject ks (let same : k.subject ≡ c.subject = eqb-true k.subject c.subject e in omega (arith, same)) up.0, up.1)
  by_test false true rest e f =
      let less : c.subject < k.subject = ltb-true c.subject k.subject f in
      ((less, above_lower c.subject k.subject ks (omega arith) up.0), up)
  by_test false false rest e f =
      let apart : k.subject ≡ c.subject → ⊥ = eqb-false k.subject c.subject e in
      let least : k.subject ≤ c.subject = ltb-false c.subject k.subject f in
      (above_put k.subject ks c (strict k.subject c.subject least apart) up.0, rest) where
        strict : (a b : ℕ) → a ≤ b → (a ≡ b → ⊥) → a < b
        strict a b h n = omega arith

pub table_merge : (t : List Cert) (c : Cert) → IsTable t → IsTable (merge t c)
table_merge t c up = cond_both (is_news t c) (put t c) t IsTable (λ _. table_put t c up) (λ _. up)

pub table_merge_all : (cs t : List Cert) → IsTable t → IsTable (merge_all t cs)
table_merge_all [] t up = up
table_merge_all (c ∷ cs) t up = table_merge_all cs (merge t c) (table_merge t c up)

-- nothing is found below all rows
pub none_below : (x y : ℕ) (t : List Cert) → x ≤ y → AreAbove y t → newest t x ≡ None
none_below x y [] less all = refl
none_below x y (k ∷ ks) less all =
    let apart : (k.subject == x) ≡ false = ne_eqb k.subject x (λ e. let above : y < k.subject = all.0 in omega (arith, above)) in
    rw apart (none_below x y ks less all.1)

-- two tables in which the same is found are one
pub table_ext : (t u : List Cert) → IsTable t → IsTable u → ((x : ℕ) → newest t x ≡ newest u x) → t ≡ u
table_ext [] [] up vp same = refl
table_ext [] (k ∷ ks) up vp same = absurd (let here : (k.subject == k.subject) ≡ true = eq-eqb k.subject k.subject refl in let found : None ≡ Some k = same k.subject ∙ rw here refl in cc)
table_ext (k ∷ ks) [] up vp same = absurd (let here : (k.subject == k.subject) ≡ true = eq-eqb k.subject k.subject refl in let found : Some k ≡ None = sym (rw here refl) ∙ same k.subject in cc)
table_ext (k ∷ ks) (j ∷ js) up vp same = by_order (λ e. table_ext ks js up.1 vp.1 (rest_same e)) (cases_eq k.subject j.subject) where
  -- one row is there at the lesser of the two subjects, where the other table has none
  here : (a : Cert) (rows : List Cert) → newest (a ∷ rows) a.subject ≡ Some a
  here a rows = let self : (a.subject == a.subject) ≡ true = eq-eqb a.subject a.subject refl in rw self refl

  missing : (a b : Cert) (rows bs : List Cert) → a.subject < b.subject → AreAbove b.subject bs → newest (a ∷ rows) a.subject ≡ newest (b ∷ bs) a.subject → ⊥
  missing a b rows bs less above e =
      let none : newest (b ∷ bs) a.subject ≡ None = none_below a.subject a.subject (b ∷ bs) (omega arith) (less, above_lower a.subject b.subject bs (omega arith) above) in
      let found : Some a ≡ None = sym (here a rows) ∙ (e ∙ none) in
      cc

  rest_same : k ≡ j → (x : ℕ) → newest ks x ≡ newest js x
  rest_same e x = by_test (k.subject == x) refl where
    by_test : (b : Bool) → (k.subject == x) ≡ b → newest ks x ≡ newest js x
    by_test true f =
        let at : k.subject ≡ x = eqb-true k.subject x f in
        let also : j.subject ≡ x = sym (ap (λ c. c.subject) e) ∙ at in
        none_below x k.subject ks (omega (arith, at)) up.0 ∙ sym (none_below x j.subject js (omega (arith, also)) vp.0)
    by_test false f =
        let g : (j.subject == x) ≡ false = rw (← e) f in
        let step : (if k.subject == x then Some k else newest ks x) ≡ (if j.subject == x then Some j else newest js x) = same x in
        rw (f, g) at step

  equal : k.subject ≡ j.subject → k ≡ j
  equal e =
      let found : Some k ≡ Some j = sym (here k ks) ∙ (same k.subject ∙ (ap (newest (j ∷ js)) e ∙ here j js)) in
      cc

  by_order : (k ≡ j → ks ≡ js) → (k.subject ≡ j.subject) ⊎ (k.subject ≡ j.subject → ⊥) → k ∷ ks ≡ j ∷ js
  by_order rest (inl e) = ap₂ (λ a rows. a ∷ rows) (equal e) (rest (equal e))
  by_order rest (inr apart) = absurd (by_less (cases_order k.subject j.subject)) where
    by_less : (k.subject ≡ j.subject) ⊎ ((k.subject < j.subject) ⊎ (j.subject < k.subject)) → ⊥
    by_less (inl e) = apart e
    by_less (inr (inl less)) = missing k j ks js less vp.0 (same k.subject)
    by_less (inr (inr more)) = missing j k js ks more up.0 (sym (same j.subject))
