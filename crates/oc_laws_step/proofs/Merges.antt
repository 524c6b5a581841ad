-- Merging certificates finds the last word on each subject, in whatever order they come.
use Rattle.std.proofs.Common.{◌≡◌, ℕ, Bool, true, false, if◌then◌else◌, Option, Some, None, List, [], ◌∷◌, ◌++◌, ◌⊎◌, inl, inr, ⊎_elim, refl, ap, sym, subst, ◌∙◌, append_assoc, append-nil}
use Rattle.std.proofs.lemmas.Bool.{cases_eq, true≢false}
use Rattle.oc_base.specs.declared.cert.Cert.{Cert}
use Rattle.oc_base.specs.Cert.{Outranks}
use Rattle.oc_model.specs.Certificates.{outranks, IsBelow, IsNewest}
use Rattle.oc_model.specs.Numbers.{IsAmong}
use Rattle.oc_model.specs.Table.{newest, put, is_news, is_news_to, merge, merge_all}
use Rattle.oc_laws_step.specs.Order.{AreEven}
use Rattle.oc_laws_step.specs.Merging.{AreConsistent, IsLastWord, AreSameCerts}
use Rattle.oc_laws_step.proofs.CertOrder.{outranks_fact, fact_outranks, outranks_irreflexive, outranks_transitive, outranks_total}
use Rattle.oc_laws_step.proofs.Tables.{newest-put_same, newest-put_other, table_merge_all, table_ext}

-- Being among certificates

pub among_left : {X : Type 0} (x : X) (xs ys : List X) → IsAmong x xs → IsAmong x (xs ++ ys)
among_left x [] ys h = absurd h
among_left x (z ∷ zs) ys (inl e) = inl e
among_left x (z ∷ zs) ys (inr h) = inr (among_left x zs ys h)

pub among_last : {X : Type 0} (x : X) (xs : List X) → IsAmong x (xs ++ x ∷ [])
among_last x [] = inl refl
among_last x (z ∷ zs) = inr (among_last x zs)

-- one among these and one more
pub among_split : {X : Type 0} (x y : X) (xs : List X) → IsAmong x (xs ++ y ∷ []) → IsAmong x xs ⊎ (y ≡ x)
among_split x y [] (inl e) = inr e
among_split x y [] (inr h) = absurd h
among_split x y (z ∷ zs) (inl e) = inl (inl e)
among_split x y (z ∷ zs) (inr h) = ⊎_elim (λ k. inl (inr k)) (λ e. inr e) (among_split x y zs h)

-- One more certificate

-- a table that has the last words of the certificates that were merged
abbrev pub Finds : List Cert → List Cert → Type 0
Finds cs t = (x : ℕ) → IsLastWord cs x (newest t x)

-- the certificate that comes is the last word where it is news
takes_news : (cs : List Cert) (c : Cert) (was : Option Cert) → IsLastWord cs c.subject was → is_news_to was c ≡ true → IsNewest (cs ++ c ∷ []) c.subject c
takes_news cs c was old news = record { among = among_last c cs; subject = refl; last = λ f h below. by_case was old news f below (among_split f c cs h) } where
  by_case : (was : Option Cert) → IsLastWord cs c.subject was → is_news_to was c ≡ true → (f : Cert) → IsBelow c f → IsAmong f cs ⊎ (c ≡ f) → ⊥
  by_case was old news f below (inr e) = outranks_irreflexive c (subst (λ g. Outranks g c) (sym e) below.1)
  by_case None old news f below (inl h) = old f h (sym below.0)
  by_case (Some k) old news f below (inl h) = old.last f h (old.subject ∙ below.0, outranks_transitive f c k below.1 (outranks_fact c k news))

-- without news the old word stays the last
keeps_word : (cs : List Cert) (c k : Cert) → IsNewest cs c.subject k → outranks c k ≡ false → IsNewest (cs ++ c ∷ []) c.subject k
keeps_word cs c k old none = record {
  among = among_left k cs (c ∷ []) old.among;
  subject = old.subject;
  last = λ f h below. ⊎_elim (λ before. old.last f before below) (λ e. true≢false (sym (fact_outranks c k (subst (λ g. Outranks g k) (sym e) below.1)) ∙ none)) (among_split f c cs h);
}

-- the last word on another subject stays
other_word : (cs : List Cert) (c : Cert) (x : ℕ) (was : Option Cert) → (c.subject ≡ x → ⊥) → IsLastWord cs x was → IsLastWord (cs ++ c ∷ []) x was
other_word cs c x None apart old = λ f h e. ⊎_elim (λ before. old f before e) (λ is. apart (ap (λ g. g.subject) is ∙ e)) (among_split f c cs h)
other_word cs c x (Some k) apart old = record {
  among = among_left k cs (c ∷ []) old.among;
  subject = old.subject;
  last = λ f h below. ⊎_elim (λ before. old.last f before below) (λ is. apart (ap (λ g. g.subject) is ∙ (sym below.0 ∙ old.subject))) (among_split f c cs h);
}

-- merging one certificate keeps the last words
finds_merge : (cs t : List Cert) (c : Cert) → Finds cs t → Finds (cs ++ c ∷ []) (merge t c)
finds_merge cs t c finds x = by_test (is_news t c) refl where
  new : is_news t c ≡ true → (c.subject ≡ x) ⊎ (c.subject ≡ x → ⊥) → IsLastWord (cs ++ c ∷ []) x (newest (put t c) x)
  new news (inl e) = rw (newest-put_same t c x e) (subst (λ y. IsNewest (cs ++ c ∷ []) y c) e (takes_news cs c (newest t c.subject) (finds c.subject) news))
  new news (inr apart) = rw (newest-put_other t c x apart) (other_word cs c x (newest t x) apart (finds x))

  kept : (was : Option Cert) → newest t c.subject ≡ was → is_news_to was c ≡ false → IsLastWord cs c.subject was → IsLastWord (cs ++ c ∷ []) c.subject was
  kept None is none old = absurd (true≢false none)
  kept (Some k) is none old = keeps_word cs c k old none

  old : is_news t c ≡ false → (c.subject ≡ x) ⊎ (c.subject ≡ x → ⊥) → IsLastWord (cs ++ c ∷ []) x (newest t x)
  old none (inl e) = subst (λ y. IsLastWord (cs ++ c ∷ []) y (newest t y)) e (kept (newest t c.subject) refl none (finds c.subject))
  old none (inr apart) = other_word cs c x (newest t x) apart (finds x)

  by_test : (b : Bool) → is_news t c ≡ b → IsLastWord (cs ++ c ∷ []) x (newest (if b then put t c else t) x)
  by_test true e = new e (cases_eq c.subject x)
  by_test false e = old e (cases_eq c.subject x)

-- Many certificates

finds_merge_all : (ds cs t : List Cert) → Finds cs t → Finds (cs ++ ds) (merge_all t ds)
finds_merge_all [] cs t finds = subst (λ es. Finds es t) (sym (append-nil cs)) finds
finds_merge_all (c ∷ ds) cs t finds =
    subst (λ es. Finds es (merge_all (merge t c) ds)) (append_assoc cs (c ∷ []) ds) (finds_merge_all ds (cs ++ c ∷ []) (merge t c) (finds_merge cs t c finds))

-- each row is the last word of all that were merged, and there is one for each subject
pub merging_finds : (cs : List Cert) → Finds cs (merge_all [] cs)
merging_finds cs = finds_merge_all cs [] [] (λ x c h. absurd h)

-- Order and repeats

abbrev cert_by : ℕ → ℕ → ℕ → Bool → ℕ → ℕ → Cert
cert_by x s p d n c = record { subject = x; seq = s; parent = p; dead = d; number = n; clients = c }

-- two last words of consistent certificates are one
one_word : (cs : List Cert) → AreConsistent cs → (x : ℕ) (k j : Cert) → IsNewest cs x k → IsNewest cs x j → k ≡ j
one_word cs fair x k j h g = by_case (outranks_total k j) where
  about : k.subject ≡ j.subject
  about = h.subject ∙ sym g.subject

  same : AreEven k j → k ≡ j
  same e =
      let parent : k.parent ≡ j.parent = fair.parent k j h.among g.among about e.0 in
      let clients : k.clients ≡ j.clients = fair.clients k j h.among g.among about e.0 e.1 e.2 in
      (λ i. cert_by (about i) (e.0 i) (parent i) (e.1 i) (e.2 i) (clients i))

  by_case : Outranks k j ⊎ (Outranks j k ⊎ AreEven k j) → k ≡ j
  by_case (inl more) = absurd (g.last k h.among (sym about, more))
  by_case (inr (inl less)) = absurd (h.last j g.among (about, less))
  by_case (inr (inr even)) = same even

-- the last word of the same certificates is the same
word_along : (cs ds : List Cert) → AreSameCerts cs ds → (x : ℕ) (k : Cert) → IsNewest cs x k → IsNewest ds x k
word_along cs ds same x k h = record { among = same.there k h.among; subject = h.subject; last = λ f g. h.last f (same.back f g) }

same_found : (cs ds : List Cert) → AreConsistent cs → AreSameCerts cs ds → (x : ℕ) (a b : Option Cert) → IsLastWord cs x a → IsLastWord ds x b → a ≡ b
same_found cs ds fair same x None None h g = refl
same_found cs ds fair same x None (Some j) h g = absurd (h j (same.back j g.among) g.subject)
same_found cs ds fair same x (Some k) None h g = absurd (g k (same.there k h.among) h.subject)
same_found cs ds fair same x (Some k) (Some j) h g =
    ap Some (one_word cs fair x k j h (word_along ds cs (record { there = same.back; back = same.there }) x j g))

-- consistent certificates give one table, in whatever order and however often they are merged
pub order_and_repeats : (cs ds : List Cert) → AreConsistent cs → AreSameCerts cs ds → merge_all [] cs ≡ merge_all [] ds
order_and_repeats cs ds fair same =
    table_ext (merge_all [] cs) (merge_all [] ds) (table_merge_all cs [] tt) (table_merge_all ds [] tt)
    (λ x. same_found cs ds fair same x (newest (merge_all [] cs) x) (newest (merge_all [] ds) x) (merging_finds cs x) (merging_finds ds x))
