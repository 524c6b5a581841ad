-- The lease ends of a node's leased children that lie ahead of its clock, and the effect of renewed leases and of merged
-- certificates on them.
use Rattle.std.proofs.Common.{◌≡◌, ℕ, zero, suc, ◌+◌, ◌-◌, ◌<◌, Bool, true, false, not, ◌==◌, if◌then◌else◌, Option, Some, None, List, [], ◌∷◌, ◌⊎◌, inl, inr, get_or, set, refl, ap, sym, subst, ◌∙◌, ⊎_elim, arith, ne_eqb}
use Rattle.std.proofs.lemmas.Bool.{cond_both, cases_eq, true≢false, and_right}
use Rattle.oc_base.specs.declared.cert.Cert.{Cert}
use Rattle.oc_model.specs.declared.record.Record.TheVariants as records
use Rattle.oc_model.specs.Checking.{merges}
use Rattle.oc_model.specs.Leases.{lease_time, renew}
use Rattle.oc_model.specs.Node.{Control}
use Rattle.oc_model.specs.Numbers.{at}
use Rattle.oc_model.specs.Plan.{Plan, write}
use Rattle.oc_model.specs.Table.{put, is_news, merge, is_lease_of, lease_number, leased_by}
use Rattle.oc_model.specs.WorldBounds.{IsOneOf}
use Rattle.oc_laws_step.proofs.Tables.{newest-put_same, newest-put_other}
use Rattle.oc_laws_tree.proofs.Known.{Knows}
use Rattle.oc_laws_tree.proofs.LeaseRules.{OfLeases, OfPlan}

-- the end of the lease of x, where x has one here and its end is set, is later than this clock
abbrev IsAheadAt : ℕ → ℕ → List Cert → List (Option ℕ) → ℕ → Type 0
IsAheadAt x me t ends clock = (s end : ℕ) → leased_by t me x ≡ Some s → at ends x None ≡ Some end → clock < end

-- the lease end of each child lies ahead
abbrev pub AreAhead : ℕ → List Cert → List (Option ℕ) → ℕ → Type 0
AreAhead me t ends clock = (x : ℕ) → IsAheadAt x me t ends clock

-- the lease end of each child except these lies ahead
abbrev pub AreAheadBut : List ℕ → ℕ → List Cert → List (Option ℕ) → ℕ → Type 0
AreAheadBut xs me t ends clock = (x : ℕ) → (IsOneOf x xs → ⊥) → IsAheadAt x me t ends clock

-- each lease end that is set for a leased child lies ahead of the node's clock
abbrev pub IsAhead : Control → Type 0
IsAhead n = OfLeases AreAhead n

-- Lease ends

-- the found item after one was set: that one, or at another place the old one
set_found : (ends : List (Option ℕ)) (i j : ℕ) (v : Option ℕ) (end : ℕ) → get_or (set ends i v) j None ≡ Some end → (v ≡ Some end) ⊎ ((i ≡ j → ⊥) × (get_or ends j None ≡ Some end))
set_found [] i j v end e = absurd cc
set_found (x ∷ xs) zero zero v end e = inl e
set_found (x ∷ xs) zero (suc j) v end e = inr (λ f. absurd (omega (arith, f)), e)
set_found (x ∷ xs) (suc i) zero v end e = inr (λ f. absurd (omega (arith, f)), e)
set_found (x ∷ xs) (suc i) (suc j) v end e = ⊎_elim (λ f. inl f) (λ f. inr (λ g. f.0 (omega (arith, g)), f.1)) (set_found xs i j v end e)

-- a lease that begins anew ends later than the clock
pub renew_ahead : (x me : ℕ) (t : List Cert) (ends : List (Option ℕ)) (clock : ℕ) → AreAheadBut (x ∷ []) me t ends clock → AreAhead me t (renew ends x clock) clock
renew_ahead x me t ends clock but z s end leased is_set = ⊎_elim new old (set_found ends (x - 1) (z - 1) (Some (clock + lease_time)) end is_set) where
  new : Some (clock + lease_time) ≡ Some end → clock < end
  new e = let same : clock + 30 ≡ end = cc in omega (arith, same)

  old : (x - 1 ≡ z - 1 → ⊥) × (at ends z None ≡ Some end) → clock < end
  old e = but z apart s end leased e.1 where
    apart : IsOneOf z (x ∷ []) → ⊥
    apart (inl same) = e.0 (ap (λ (n : ℕ). n - 1) (sym same))
    apart (inr none) = none

-- Merging

-- a merge leaves the lease of every other subject
pub leased_merge_other : (t : List Cert) (c : Cert) (y z : ℕ) → (c.subject ≡ z → ⊥) → leased_by (merge t c) y z ≡ leased_by t y z
leased_merge_other t c y z apart =
    cond_both (is_news t c) (put t c) t (λ u. leased_by u y z ≡ leased_by t y z) (λ _. ap (lease_number y) (newest-put_other t c z apart)) (λ _. refl)

-- a row that is no lease of y ends the lease of its subject
pub leased_put_none : (t : List Cert) (c : Cert) (y z : ℕ) → c.subject ≡ z → is_lease_of y c ≡ false → leased_by (put t c) y z ≡ None
leased_put_none t c y z same loose = ap (lease_number y) (newest-put_same t c z same) ∙ ap (λ b. if b then Some c.seq else None) loose

-- a merge about one of these children, or of a fact that y knows where it names y, makes no lease of another child
pub merged_ahead : (t : List Cert) (c : Cert) (y : ℕ) (xs : List ℕ) (ends : List (Option ℕ)) (clock : ℕ) → IsOneOf c.subject xs ⊎ (c.parent ≡ y → Knows t c)
    → AreAheadBut xs y t ends clock → AreAheadBut xs y (merge t c) ends clock
merged_ahead t c y xs ends clock told but z out s end leased is_set = ⊎_elim here there (cases_eq c.subject z) where
  there : (c.subject ≡ z → ⊥) → clock < end
  there apart = but z out s end (sym (leased_merge_other t c y z apart) ∙ leased) is_set

  by_parent : c.subject ≡ z → is_news t c ≡ true → (c.parent ≡ y → Knows t c) → leased_by (put t c) y z ≡ Some s → (c.parent ≡ y) ⊎ (c.parent ≡ y → ⊥) → clock < end
  by_parent same news known found (inl own) = absurd (true≢false (sym news ∙ known own))
  by_parent same news known found (inr other) =
      let none : leased_by (put t c) y z ≡ None = leased_put_none t c y z same (and_right (not c.dead) (c.parent == y) (ne_eqb c.parent y other)) in
      let clash : None ≡ Some s = sym none ∙ found in
      absurd cc

  by_test : c.subject ≡ z → (c.parent ≡ y → Knows t c) → (b : Bool) → is_news t c ≡ b → leased_by (if b then put t c else t) y z ≡ Some s → clock < end
  by_test same known true e found = by_parent same e known found (cases_eq c.parent y)
  by_test same known false e found = but z out s end found is_set

  here : c.subject ≡ z → clock < end
  here same = ⊎_elim (λ among. absurd (out (subst (λ (x : ℕ). IsOneOf x xs) same among))) (λ known. by_test same known (is_news t c) refl leased) told

-- a property of the table after a merge holds of the step under way
pub of_merges : (Q : ℕ → List Cert → List (Option ℕ) → ℕ → Type 0) (o : Plan) (c : Cert) → Q o.node.me (merge o.node.kept.table c) o.node.leases o.node.soft.clock → OfPlan Q (merges o c)
of_merges Q o c h = by_test (is_news o.node.kept.table c) refl where
  by_test : (b : Bool) → is_news o.node.kept.table c ≡ b → OfPlan Q (if b then write o (records.Entry c) else o)
  by_test true e = h
  by_test false e = subst (λ (u : List Cert). Q o.node.me u o.node.leases o.node.soft.clock) (ap (λ b. if b then put o.node.kept.table c else o.node.kept.table) e) h
