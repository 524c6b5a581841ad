-- The merge of certificates into a node's table: it makes no lease that the node does not know, and ends no lease of a child of
-- which the node knows all.
use Rattle.std.proofs.Common.{◌≡◌, ℕ, zero, suc, Bool, true, false, not, ◌==◌, if◌then◌else◌, Some, None, List, [], ◌∷◌, inl, inr, take, refl, ap, sym, subst, ◌∙◌, ⊎_elim, eqb-true, eq-eqb}
use Rattle.std.proofs.lemmas.Bool.{cases_eq, true≢false, and_parts}
use Rattle.oc_base.specs.declared.cert.Cert.{Cert}
use Rattle.oc_model.specs.Checking.{life}
use Rattle.oc_model.specs.Numbers.{IsAmong}
use Rattle.oc_model.specs.Table.{newest, put, is_news, merge, merge_all, is_lease_of, lease_number, leased_by, HasLease}
use Rattle.oc_laws_step.proofs.Tables.{newest-put_same, newest-put_other, merge_takes, merge_keeps}
use Rattle.oc_laws_tree.proofs.Known.{Knows}
use Rattle.oc_laws_tree.proofs.LeasesAhead.{leased_merge_other, leased_put_none}

-- an item of the first part of a list is an item of the list
pub among_take : {X : Type 0} (n : ℕ) (x : X) (xs : List X) → IsAmong x (take n xs) → IsAmong x xs
among_take zero x xs h = absurd h
among_take (suc n) x [] h = absurd h
among_take (suc n) x (y ∷ ys) (inl e) = inl e
among_take (suc n) x (y ∷ ys) (inr h) = inr (among_take n x ys h)

-- the row of a subject stays where nothing is news of it
row_kept : (t : List Cert) (c : Cert) (z : ℕ) → (c.subject ≡ z → Knows t c) → newest (merge t c) z ≡ newest t z
row_kept t c z known = by_test (is_news t c) refl where
  by_test : (b : Bool) → is_news t c ≡ b → newest (if b then put t c else t) z ≡ newest t z
  by_test true e = newest-put_other t c z (λ same. true≢false (sym e ∙ known same))
  by_test false e = refl

pub rows_kept : (cs t : List Cert) (z : ℕ) → ((c : Cert) → IsAmong c cs → c.subject ≡ z → Knows t c) → newest (merge_all t cs) z ≡ newest t z
rows_kept [] t z known = refl
rows_kept (c ∷ cs) t z known =
    rows_kept cs (merge t c) z (λ d among same. merge_keeps t c d (known d (inr among) same)) ∙ row_kept t c z (λ same. known c (inl refl) same)

-- no lease of y is made where y knows each fact that names y
lease_only : (t : List Cert) (c : Cert) (y z s : ℕ) → (c.parent ≡ y → Knows t c) → leased_by (merge t c) y z ≡ Some s → leased_by t y z ≡ Some s
lease_only t c y z s known leased = ⊎_elim (λ same. by_test same (is_news t c) refl leased) (λ apart. sym (leased_merge_other t c y z apart) ∙ leased) (cases_eq c.subject z) where
  by_lease : c.subject ≡ z → is_news t c ≡ true → (b : Bool) → is_lease_of y c ≡ b → leased_by (put t c) y z ≡ Some s → leased_by t y z ≡ Some s
  by_lease same e true f found = let own : c.parent ≡ y = eqb-true c.parent y (and_parts (not c.dead) (c.parent == y) f).1 in absurd (true≢false (sym e ∙ known own))
  by_lease same e false f found = let clash : None ≡ Some s = sym (leased_put_none t c y z same f) ∙ found in absurd cc

  by_test : c.subject ≡ z → (b : Bool) → is_news t c ≡ b → leased_by (if b then put t c else t) y z ≡ Some s → leased_by t y z ≡ Some s
  by_test same true e found = by_lease same e (is_lease_of y c) refl found
  by_test same false e found = found

pub leases_only : (cs t : List Cert) (y z s : ℕ) → ((c : Cert) → IsAmong c cs → c.parent ≡ y → Knows t c) → leased_by (merge_all t cs) y z ≡ Some s → leased_by t y z ≡ Some s
leases_only [] t y z s known leased = leased
leases_only (c ∷ cs) t y z s known leased =
    lease_only t c y z s (λ own. known c (inl refl) own) (leases_only cs (merge t c) y z s (λ d among own. merge_keeps t c d (known d (inr among) own)) leased)

-- a new life of a child that has its lease keeps the lease, and makes no other
life_put : (t : List Cert) (x s y number clients : ℕ) → leased_by (put t (life x s y number clients)) y x ≡ Some s
life_put t x s y number clients = ap (lease_number y) (newest-put_same t (life x s y number clients) x refl) ∙ ap (λ b. if b then Some s else None) (eq-eqb y y refl)

pub life_kept : (t : List Cert) (x s y number clients : ℕ) → HasLease t y x s → HasLease (merge t (life x s y number clients)) y x s
life_kept t x s y number clients leased = by_test (is_news t (life x s y number clients)) where
  by_test : (b : Bool) → leased_by (if b then put t (life x s y number clients) else t) y x ≡ Some s
  by_test true = life_put t x s y number clients
  by_test false = leased

pub life_only : (t : List Cert) (x s y number clients z r : ℕ) → HasLease t y x s → leased_by (merge t (life x s y number clients)) y z ≡ Some r → leased_by t y z ≡ Some r
life_only t x s y number clients z r leased found = ⊎_elim
    (λ (same : x ≡ z).
    let kept : leased_by (merge t (life x s y number clients)) y z ≡ Some s = subst (λ u. leased_by (merge t (life x s y number clients)) y u ≡ Some s) same (life_kept t x s y number clients leased) in
    let number_same : Some s ≡ Some r = sym kept ∙ found in
    subst (λ u. leased_by t y u ≡ Some s) same leased ∙ number_same)
    (λ apart. sym (leased_merge_other t (life x s y number clients) y z apart) ∙ found)
    (cases_eq x z)

-- a merged certificate is known, and stays known
pub known_after : (cs t : List Cert) (d : Cert) → Knows t d → Knows (merge_all t cs) d
known_after [] t d known = known
known_after (c ∷ cs) t d known = known_after cs (merge t c) d (merge_keeps t c d known)

pub first_known : (c : Cert) (cs t : List Cert) → Knows (merge_all t (c ∷ cs)) c
first_known c cs t = known_after cs (merge t c) c (merge_takes t c)
