-- The leases of a table, tested node by node instead of row by row.
use Rattle.std.proofs.Common.{◌≡◌, ℕ, zero, suc, ◌+◌, ◌<◌, ◌≤◌, Bool, true, false, not, ◌||◌, ◌==◌, Option, Some, None, List, [], ◌∷◌, length, inl, inr, ⊎_elim, refl, ap, sym, subst, ◌∙◌, arith, eqb-true, ne_eqb}
use Rattle.std.specs.List.{list_all, range_with_len}
use Rattle.std.proofs.lemmas.Bool.{and_parts, cases_eq}
use Rattle.oc_base.specs.declared.cert.Cert.{Cert}
use Rattle.oc_model.specs.declared.mode.Mode.{Mode}
use Rattle.oc_model.specs.declared.mode.Mode.TheVariants.{Idle, Asking, Joined, Acting}
use Rattle.oc_model.specs.Ready.{is_current, holds_current, has_told}
use Rattle.oc_model.specs.Records.{is_joined}
use Rattle.oc_model.specs.Table.{leased_by}
use Rattle.oc_model.specs.World.{World, node, ids, mode_of}
use Rattle.oc_model.specs.WorldBounds.{IsOneOf}
use Rattle.oc_model.proofs.Members.{all_test, test_all}
use Rattle.oc_model.specs.Numbers.{is_empty}
use Rattle.oc_calm.specs.Cluster.{HasNoStranger}
use Rattle.oc_calm.proofs.Fitting.{same_truth}

-- a test that holds of all rows holds of each node with a lease in the table
leased_row : (test : ℕ → Bool) (y x seq : ℕ) (rows : List Cert) → leased_by rows y x ≡ Some seq → list_all (λ k. test k.subject) rows ≡ true → test x ≡ true
leased_row test y x seq [] leased all = absurd cc
leased_row test y x seq (k ∷ ks) leased all = by_test (leased_row test y x seq ks) (k.subject == x) refl where
  parts : (test k.subject ≡ true) × (list_all (λ j. test j.subject) ks ≡ true)
  parts = and_parts (test k.subject) (list_all (λ j. test j.subject) ks) all

  by_test : (leased_by ks y x ≡ Some seq → list_all (λ j. test j.subject) ks ≡ true → test x ≡ true) → (b : Bool) → (k.subject == x) ≡ b → test x ≡ true
  by_test rest true e = ap test (sym (eqb-true k.subject x e)) ∙ parts.0
  by_test rest false e = rest (rw e at leased) parts.1

-- a test that holds of every id holds of all rows
all_rows : (test : ℕ → Bool) (rows : List Cert) → ((x : ℕ) → test x ≡ true) → list_all (λ k. test k.subject) rows ≡ true
all_rows test [] each = refl
all_rows test (k ∷ ks) each = rw (each k.subject) (all_rows test ks each)

-- a number within a range is one of its numbers
one_of_range : (b n x : ℕ) → b ≤ x → x < b + n → IsOneOf x (range_with_len b n)
one_of_range b zero x low high = absurd (omega (arith, low, high))
one_of_range b (suc n) x low high = ⊎_elim (λ same. inl same) (λ other. inr (one_of_range (b + 1) n x (omega (arith, low, other)) (omega (arith, high)))) (cases_eq x b)

-- the test of the lease of x at y
pub current_at : World → ℕ → ℕ → Bool
current_at w y x = is_current w y x (leased_by (node w y).control.kept.table y x)

pub current_is : (w : World) (y x : ℕ) (b : Bool) → b ≡ is_current w y x (leased_by (node w y).control.kept.table y x) → current_at w y x ≡ b
unfolding current_at
current_is w y x b e = sym e

-- the test holds of all nodes exactly where it holds of all rows
pub currents_are : (w : World) (y n : ℕ) → ids w ≡ range_with_len 1 n → n ≡ length (ids w) → HasNoStranger w y → list_all (current_at w y) (ids w) ≡ holds_current w y
unfolding current_at
currents_are w y n numbered count strangers = same_truth (list_all (current_at w y) (ids w)) (holds_current w y) there back where
  table : List Cert
  table = (node w y).control.kept.table

  there : list_all (current_at w y) (ids w) ≡ true → holds_current w y ≡ true
  there all = all_rows (current_at w y) table (λ x. by_lease x (leased_by table y x) refl) where
    by_lease : (x : ℕ) (found : Option ℕ) → leased_by table y x ≡ found → is_current w y x (leased_by table y x) ≡ true
    by_lease x None e = ap (is_current w y x) e
    by_lease x (Some seq) e =
        let is = strangers.node x seq e in
        all_test (current_at w y) (ids w) all x (subst (IsOneOf x) (sym numbered) (one_of_range 1 n x is.0 (omega (arith, is.1, count))))

  back : holds_current w y ≡ true → list_all (current_at w y) (ids w) ≡ true
  back all = test_all (current_at w y) (ids w) (λ x one. by_lease x (leased_by table y x) refl) where
    by_lease : (x : ℕ) (found : Option ℕ) → leased_by table y x ≡ found → is_current w y x (leased_by table y x) ≡ true
    by_lease x None e = ap (is_current w y x) e
    by_lease x (Some seq) e = leased_row (current_at w y) y x seq table e all

-- Waiting certificates

-- an empty list has length 0
empty_counts : (cs : List Cert) → (length cs == 0) ≡ is_empty cs
empty_counts [] = refl
empty_counts (c ∷ cs) = ne_eqb (length (c ∷ cs)) 0 (λ e. omega (arith, e))

pub told_joined : (w : World) (y p n : ℕ) → mode_of w y ≡ Joined p → n ≡ length (node w y).control.kept.log.waiting → (n == 0) ≡ has_told w y
told_joined w y p n e count =
    ap (λ (m : ℕ). m == 0) count
    ∙ (empty_counts (node w y).control.kept.log.waiting ∙ ap (λ (m : Mode). not (is_joined m) || is_empty (node w y).control.kept.log.waiting) (sym e))

told_unless : (m : Mode) (b : Bool) → ((p : ℕ) → m ≡ Joined p → ⊥) → true ≡ (not (is_joined m) || b)
told_unless (Joined p) b other = absurd (other p refl)
told_unless Idle b other = refl
told_unless (Asking p) b other = refl
told_unless Acting b other = refl

pub told_other : (w : World) (y : ℕ) → ((p : ℕ) → mode_of w y ≡ Joined p → ⊥) → true ≡ has_told w y
told_other w y other = told_unless (mode_of w y) (is_empty (node w y).control.kept.log.waiting) other
