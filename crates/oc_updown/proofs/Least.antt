-- The child that is found is the least whose lease has ended.
use Rattle.std.proofs.Common.{◌≡◌, ℕ, ◌+◌, ◌<◌, ◌≤◌, Bool, true, false, ◌==◌, nat_lt, Option, Some, None, List, [], ◌∷◌, length, ◌⊎◌, inl, inr, refl, ap, sym, subst, ◌∙◌, arith, eq-eqb, ne_eqb, true≢false}
use Rattle.std.proofs.lemmas.Bool.{ltb-true, ltb-false, leb-true, le-leb, cases_lt}
use Rattle.oc_base.specs.declared.cert.Cert.{Cert}
use Rattle.oc_model.specs.Numbers.{at}
use Rattle.oc_model.specs.Table.{is_lease_of, lease_number, leased_by, HasLease}
use Rattle.oc_model.specs.Leases.{is_over}
use Rattle.oc_updown.specs.TableView.{AreRowsFrom, AreRows, entries_of}
use Rattle.oc_updown.proofs.Entries.{newest_before}
use Rattle.oc_updown.specs.Ended.{HasEnded, IsNextEnded}
use Rattle.oc_updown.proofs.Ends.{next_among}

-- an end that is over is set, and not later than now
end_is_set : (o : Option ℕ) (now : ℕ) → is_over o now ≡ true → (end : ℕ) × (o ≡ Some end) × (end ≤ now)
end_is_set None now h = absurd (true≢false (sym h))
end_is_set (Some end) now h = (end, refl, leb-true end now h)

-- an end that is set and not later than now is over
end_is_over : (o : Option ℕ) (end now : ℕ) → o ≡ Some end → end ≤ now → is_over o now ≡ true
end_is_over o end now e h = rw e (le-leb end now h)

-- the first entry does not matter for another node
leased_other : (k : Cert) (t : List Cert) (y x : ℕ) → (k.subject ≡ x → ⊥) → leased_by (k ∷ t) y x ≡ leased_by t y x
leased_other k t y x other = let away : k.subject == x ≡ false = ne_eqb k.subject x other in rw away

-- the first entry decides for its own subject
leased_own : (k : Cert) (t : List Cert) (y x : ℕ) → k.subject ≡ x → leased_by (k ∷ t) y x ≡ lease_number y (Some k)
leased_own k t y x own = let is : k.subject == x ≡ true = eq-eqb k.subject x own in rw is

-- a child by these rows is not before them
leased_from : (nodes z y x s : ℕ) (rows : List (Option Cert)) → AreRowsFrom nodes z rows → HasLease (entries_of rows) y x s → z ≤ x
leased_from nodes z y x s rows fit lease = by_order (cases_lt x z) where
  by_order : (x < z) ⊎ (z ≤ x) → z ≤ x
  by_order (inr h) = h
  by_order (inl h) =
      let none : leased_by (entries_of rows) y x ≡ None = ap (lease_number y) (newest_before nodes z x rows fit h) in
      absurd cc

-- a row that gives no child past the number changes nothing
next_with : (k : Cert) (rows : List (Option Cert)) (y : ℕ) (ends : List (Option ℕ)) (nodes z after now : ℕ) (found : Option ℕ) → AreRowsFrom nodes z (Some k ∷ rows) → (after < k.subject → HasEnded (entries_of (Some k ∷ rows)) y ends now k.subject → ⊥) → IsNextEnded (entries_of rows) y ends after now found → IsNextEnded (entries_of (Some k ∷ rows)) y ends after now found
next_with k rows y ends nodes z after now found fit never next = by_found found next where
  away : (w : ℕ) → after < w → HasEnded (entries_of (Some k ∷ rows)) y ends now w → k.subject ≡ w → ⊥
  away w past ended own = never (subst (λ (n : ℕ). after < n) (sym own) past) (subst (λ (n : ℕ). HasEnded (entries_of (Some k ∷ rows)) y ends now n) (sym own) ended)

  rest : (w : ℕ) → after < w → HasEnded (entries_of (Some k ∷ rows)) y ends now w → HasEnded (entries_of rows) y ends now w
  rest w past ended = ((ended.0.0, sym (leased_other k (entries_of rows) y w (away w past ended)) ∙ ended.0.1), ended.1)

  by_found : (found : Option ℕ) → IsNextEnded (entries_of rows) y ends after now found → IsNextEnded (entries_of (Some k ∷ rows)) y ends after now found
  by_found None next = λ w past ended. next w past (rest w past ended)
  by_found (Some x) next =
      let later : z + 1 ≤ x = leased_from nodes (z + 1) y x next.1.0.0 rows fit.2 next.1.0.1 in (
        next.0,
        ((next.1.0.0, leased_other k (entries_of rows) y x (λ own. omega (arith, fit.0, own)) ∙ next.1.0.1), next.1.1),
        λ w past ended. next.2 w past (rest w past ended),
      )

-- the child that is found among rows is the least
next_from_rows : (y : ℕ) (rows : List (Option Cert)) (ends : List (Option ℕ)) (nodes z after now : ℕ) → AreRowsFrom nodes z rows → IsNextEnded (entries_of rows) y ends after now (next_among rows y ends after now)
next_from_rows y [] ends nodes z after now fit = λ w past ended. let no : None ≡ Some ended.0.0 = ended.0.1 in absurd cc
next_from_rows y (None ∷ rows) ends nodes z after now fit = next_from_rows y rows ends nodes (z + 1) after now fit
next_from_rows y (Some k ∷ rows) ends nodes z after now fit = by_tests (next_from_rows y rows ends nodes (z + 1) after now fit.2) (is_lease_of y k) refl (is_over (at ends k.subject None) now) refl (nat_lt after k.subject) refl where
  by_tests : IsNextEnded (entries_of rows) y ends after now (next_among rows y ends after now) → (a : Bool) → is_lease_of y k ≡ a → (b : Bool) → is_over (at ends k.subject None) now ≡ b → (d : Bool) → nat_lt after k.subject ≡ d → IsNextEnded (entries_of (Some k ∷ rows)) y ends after now (next_among (Some k ∷ rows) y ends after now)
  by_tests next false e b h d g =
      let no_lease : lease_number y (Some k) ≡ None = rw e in
      rw e (next_with k rows y ends nodes z after now (next_among rows y ends after now) fit (λ past ended. let no : None ≡ Some ended.0.0 = sym no_lease ∙ (sym (leased_own k (entries_of rows) y k.subject refl) ∙ ended.0.1) in absurd cc) next)
  by_tests next true e false h d g = rw (e, h) (next_with k rows y ends nodes z after now (next_among rows y ends after now) fit (λ past ended. true≢false (sym (end_is_over (at ends k.subject None) ended.1.0 now ended.1.1 ended.1.2) ∙ h)) next)
  by_tests next true e true h false g = rw (e, h, g) (next_with k rows y ends nodes z after now (next_among rows y ends after now) fit (λ past ended. let early : k.subject ≤ after = ltb-false after k.subject g in omega arith) next)
  by_tests next true e true h true g =
      let lease : leased_by (k ∷ entries_of rows) y k.subject ≡ Some k.seq = leased_own k (entries_of rows) y k.subject refl ∙ rw e in
      rw (e, h, g) (
        ltb-true after k.subject g,
        ((k.seq, lease), end_is_set (at ends k.subject None) now h),
        λ w past ended. let from : z ≤ w = leased_from nodes z y w ended.0.0 (Some k ∷ rows) fit ended.0.1 in omega (arith, fit.0),
      )

-- the same for all rows
pub next_is_least : (rows : List (Option Cert)) (y : ℕ) (ends : List (Option ℕ)) (after now : ℕ) (found : Option ℕ) → AreRows rows → found ≡ next_among rows y ends after now → IsNextEnded (entries_of rows) y ends after now found
next_is_least rows y ends after now found fit e = rw e (next_from_rows y rows ends (length rows) 1 after now fit)
