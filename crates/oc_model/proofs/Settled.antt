-- The tests that a world is settled, and that a write is kept, agree with their definitions.
use Rattle.std.proofs.Common.{◌≡◌, ℕ, Bool, true, false, not, ◌&&◌, ◌||◌, ◌==◌, Option, Some, None, List, [], ◌∷◌, ◌↔◌, inl, inr, ⊎_elim, refl, ap, sym, subst, ◌∙◌, eqb-true, eq-eqb}
use Rattle.std.specs.List.{list_all}
use Rattle.std.proofs.lemmas.Bool.{and_parts, or_cases}
use Rattle.oc_base.specs.declared.cert.Cert.{Cert}
use Rattle.oc_model.specs.declared.mode.Mode.{Mode}
use Rattle.oc_model.specs.declared.mode.Mode.TheVariants.{Idle, Asking, Joined, Acting}
use Rattle.oc_model.specs.Chains.{IsUp, IsJoined}
use Rattle.oc_model.specs.ChangeLog.{IsWaiting}
use Rattle.oc_model.specs.Checking.{is_joined_to}
use Rattle.oc_base.specs.Stops.{IsKeptNew, is_kept_new}
use Rattle.oc_model.specs.Numbers.{IsAmong, is_empty}
use Rattle.oc_model.specs.Ready.{IsSettled, is_ready, is_current, holds_current, has_told, is_calm, is_settled}
use Rattle.oc_model.specs.Records.{is_joined}
use Rattle.oc_model.specs.Table.{leased_by}
use Rattle.oc_model.specs.World.{World, node, is_up, mode_of, ids}
use Rattle.oc_model.proofs.Members.{all_test, test_all}
use Rattle.oc_model.proofs.Processes.{up_in}
use Rattle.oc_model.proofs.Ready.{ready_true, ready_test}

-- Leases

-- the mode that is tested as joined to y is
pub joined_true : (m : Mode) (y : ℕ) → is_joined_to m y ≡ true → m ≡ Joined y
joined_true (Joined q) y e = ap Joined (eqb-true q y e)
joined_true Idle y e = absurd cc
joined_true (Asking p) y e = absurd cc
joined_true Acting y e = absurd cc

-- a node with a lease in a table has a row in the table
leased_row : (test : ℕ → Bool) (y x seq : ℕ) (rows : List Cert) → leased_by rows y x ≡ Some seq → list_all (λ k. test k.subject) rows ≡ true → test x ≡ true
leased_row test y x seq [] leased all = absurd cc
leased_row test y x seq (k ∷ ks) leased all = by_test (leased_row test y x seq ks) (k.subject == x) refl where
  parts : (test k.subject ≡ true) × (list_all (λ j. test j.subject) ks ≡ true)
  parts = and_parts (test k.subject) (list_all (λ j. test j.subject) ks) all

  by_test : (leased_by ks y x ≡ Some seq → list_all (λ j. test j.subject) ks ≡ true → test x ≡ true) → (b : Bool) → (k.subject == x) ≡ b → test x ≡ true
  by_test rest true e = ap test (sym (eqb-true k.subject x e)) ∙ parts.0
  by_test rest false e = rest (rw e at leased) parts.1

-- a test of all rows, where it holds of every subject
all_rows : (test : ℕ → Bool) (rows : List Cert) → ((x : ℕ) → test x ≡ true) → list_all (λ k. test k.subject) rows ≡ true
all_rows test [] each = refl
all_rows test (k ∷ ks) each = rw (each k.subject) (all_rows test ks each)

-- the lease of x at y is current, as the test says
IsCurrent : World → ℕ → ℕ → ℕ → Type 0
IsCurrent w y x seq = IsUp w x × IsJoined w x y × ((node w x).control.kept.seq ≡ seq)

current_true : (w : World) (y x seq : ℕ) → is_current w y x (Some seq) ≡ true → IsCurrent w y x seq
unfolding IsCurrent
current_true w y x seq e =
    let outer = and_parts (is_up w x && is_joined_to (mode_of w x) y) ((node w x).control.kept.seq == seq) e in
    let inner = and_parts (is_up w x) (is_joined_to (mode_of w x) y) outer.0 in
    (inner.0, joined_true (mode_of w x) y inner.1, eqb-true (node w x).control.kept.seq seq outer.1)

current_test : (w : World) (y x : ℕ) (found : Option ℕ) → ((seq : ℕ) → found ≡ Some seq → IsCurrent w y x seq) → is_current w y x found ≡ true
unfolding IsCurrent
current_test w y x None each = refl
current_test w y x (Some seq) each =
    let is = each seq refl in
    rw (is.0, is.1, eq-eqb y y refl, eq-eqb (node w x).control.kept.seq seq is.2) refl

-- Waiting certificates

-- two tests that hold
and_both : (a b : Bool) → a ≡ true → b ≡ true → (a && b) ≡ true
and_both a b h k = rw (h, k) refl

-- an empty list has no member
none_among : (cs : List Cert) → is_empty cs ≡ true → (c : Cert) → IsAmong c cs → ⊥
none_among [] e c among = among
none_among (f ∷ fs) e c among = absurd cc

-- a list with no certificate about any node is empty
empty_if : (cs : List Cert) → ((x : ℕ) → ((c : Cert) × IsAmong c cs × (c.subject ≡ x)) → ⊥) → is_empty cs ≡ true
empty_if [] none = refl
empty_if (c ∷ cs) none = absurd (none c.subject (c, inl refl, refl))

-- the mode that is joined
joined_to : (m : Mode) → is_joined m ≡ true → (p : ℕ) × (m ≡ Joined p)
joined_to (Joined p) e = (p, refl)
joined_to Idle e = absurd cc
joined_to (Asking p) e = absurd cc
joined_to Acting e = absurd cc

-- One node

-- the facts that the test gives about a node that is up
calm_parts : (w : World) (y : ℕ) → is_calm w y ≡ true → IsUp w y → (holds_current w y ≡ true) × (has_told w y ≡ true)
calm_parts w y e up = by_test (is_up w y) up e where
  by_test : (b : Bool) → b ≡ true → (not b || (holds_current w y && has_told w y)) ≡ true → (holds_current w y ≡ true) × (has_told w y ≡ true)
  by_test true f e = and_parts (holds_current w y) (has_told w y) e
  by_test false f e = absurd cc

calm_test : (w : World) (y : ℕ) → (IsUp w y → (holds_current w y ≡ true) × (has_told w y ≡ true)) → is_calm w y ≡ true
calm_test w y each = by_test (is_up w y) each where
  by_test : (b : Bool) → (b ≡ true → (holds_current w y ≡ true) × (has_told w y ≡ true)) → (not b || (holds_current w y && has_told w y)) ≡ true
  by_test true each = let both = each refl in and_both (holds_current w y) (has_told w y) both.0 both.1
  by_test false each = refl

-- a joined node to which nothing waits
told_true : (w : World) (n p x : ℕ) → has_told w n ≡ true → IsJoined w n p → IsWaiting (node w n).control.kept.log x → ⊥
told_true w n p x e joins waits =
    let is : is_joined (mode_of w n) ≡ true = ap is_joined joins in
    none_among (node w n).control.kept.log.waiting (by_test (is_joined (mode_of w n)) is e) waits.0 waits.1 where
      by_test : (b : Bool) → b ≡ true → (not b || is_empty (node w n).control.kept.log.waiting) ≡ true → is_empty (node w n).control.kept.log.waiting ≡ true
      by_test true f e = e
      by_test false f e = absurd cc

told_test : (w : World) (n : ℕ) → ((p x : ℕ) → IsJoined w n p → IsWaiting (node w n).control.kept.log x → ⊥) → has_told w n ≡ true
told_test w n none = by_test (is_joined (mode_of w n)) refl where
  by_test : (b : Bool) → is_joined (mode_of w n) ≡ b → (not b || is_empty (node w n).control.kept.log.waiting) ≡ true
  by_test true e = let at = joined_to (mode_of w n) e in empty_if (node w n).control.kept.log.waiting (λ x waits. none at.0 x at.1 waits)
  by_test false e = refl

-- All nodes

-- a world that is tested as settled is
settled_true : (w : World) → is_settled w ≡ true → IsSettled w
unfolding IsCurrent
settled_true w e =
    let parts = and_parts (is_ready w) (list_all (is_calm w) (ids w)) e in
    record {
      ready = ready_true w parts.0;
      leases = λ y x seq up leased.
          let calm = calm_parts w y (all_test (is_calm w) (ids w) parts.1 y (up_in w.processes y up)) up in
          let row : is_current w y x (leased_by (node w y).control.kept.table y x) ≡ true =
          leased_row (λ z. is_current w y z (leased_by (node w y).control.kept.table y z)) y x seq (node w y).control.kept.table leased calm.0 in
          current_true w y x seq (subst (λ f. is_current w y x f ≡ true) leased row);
      told = λ n p x up joins waits.
          let calm = calm_parts w n (all_test (is_calm w) (ids w) parts.1 n (up_in w.processes n up)) up in
          told_true w n p x calm.1 joins waits;
    }

-- a settled world passes the test
settled_test : (w : World) → IsSettled w → is_settled w ≡ true
unfolding IsCurrent
settled_test w settled =
    let all : list_all (is_calm w) (ids w) ≡ true =
    test_all (is_calm w) (ids w) (λ y one. calm_test w y (λ up. (
      all_rows (λ x. is_current w y x (leased_by (node w y).control.kept.table y x)) (node w y).control.kept.table
          (λ x. current_test w y x (leased_by (node w y).control.kept.table y x) (λ seq leased. settled.leases y x seq up leased)),
      told_test w y (λ p x joins waits. settled.told y p x up joins waits),
    ))) in
    and_both (is_ready w) (list_all (is_calm w) (ids w)) (ready_test w settled.ready) all

-- the test of settled is its definition
pub settled_tested : (w : World) → (is_settled w ≡ true) ↔ IsSettled w
settled_tested w = (settled_true w, settled_test w)

-- Stops

-- the test that a write is kept is its definition
pub kept_new_tested : (k image : ℕ) → (is_kept_new k image ≡ true) ↔ IsKeptNew k image
kept_new_tested k image = (says, by_case) where
  says : is_kept_new k image ≡ true → IsKeptNew k image
  says e =
      ⊎_elim (λ four. inl (eqb-true k 4 four))
      (λ both. let parts = and_parts (k == 3) (image == 1) both in inr (eqb-true k 3 parts.0, eqb-true image 1 parts.1))
      (or_cases (k == 4) (k == 3 && image == 1) e)

  by_case : IsKeptNew k image → is_kept_new k image ≡ true
  by_case (inl four) = rw four refl
  by_case (inr three) = rw (three.0, three.1) refl
