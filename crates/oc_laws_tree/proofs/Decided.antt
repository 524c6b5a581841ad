-- The terms of the explanations are decidable.
use Rattle.std.proofs.Common.{◌≡◌, ℕ, Bool, true, false, Option, Some, None, List, [], ◌∷◌, ◌⊎◌, inl, inr, refl, ap, ◌∙◌, ⊎_elim}
use Rattle.std.proofs.lemmas.Bool.{cases_eq}
use Rattle.oc_base.specs.declared.cert.Cert.{Cert}
use Rattle.oc_model.specs.declared.mode.Mode.{Mode}
use Rattle.oc_model.specs.declared.mode.Mode.TheVariants.{Idle, Asking, Joined, Acting}
use Rattle.oc_model.specs.Chains.{IsUp, IsJoined}
use Rattle.oc_model.specs.ClaimsTree.{table_of, seq_of, WaitsAt, WaitsBelow, HasEndedLease, HasWaiting, IsTrueLink}
use Rattle.oc_model.specs.Numbers.{IsAmong}
use Rattle.oc_model.specs.Ready.{HoldsLease}
use Rattle.oc_model.specs.Table.{newest, leased_by}
use Rattle.oc_model.specs.World.{World, node, is_up, mode_of}

-- a statement is true, or false
abbrev pub IsDecided : Type 0 → Type 0
IsDecided P = P ⊎ (P → ⊥)

-- a disjunction of decided statements is decided
pub decided_either : {P Q : Type 0} → IsDecided P → IsDecided Q → IsDecided (P ⊎ Q)
decided_either (inl p) q = inl (inl p)
decided_either (inr not_p) (inl q) = inl (inr q)
decided_either (inr not_p) (inr not_q) = inr (⊎_elim not_p not_q)

pub decided_not : {P : Type 0} → IsDecided P → IsDecided (P → ⊥)
decided_not (inl p) = inr (λ not_p. not_p p)
decided_not (inr not_p) = inl not_p

-- a decided statement that is not denied is true
pub not_denied : {P : Type 0} → IsDecided P → ((P → ⊥) → ⊥) → P
not_denied (inl p) h = p
not_denied (inr not_p) h = absurd (h not_p)

-- Equalities

pub number_decided : (found : Option ℕ) (s : ℕ) → IsDecided (found ≡ Some s)
number_decided None s = inr (λ e. absurd cc)
number_decided (Some n) s = ⊎_elim (λ e. inl (ap Some e)) (λ apart. inr (λ e. apart cc)) (cases_eq n s)

pub true_decided : (b : Bool) → IsDecided (b ≡ true)
true_decided true = inl refl
true_decided false = inr (λ e. absurd cc)

pub joined_decided : (m : Mode) (p : ℕ) → IsDecided (m ≡ Joined p)
joined_decided Idle p = inr (λ e. absurd cc)
joined_decided (Asking q) p = inr (λ e. absurd cc)
joined_decided Acting p = inr (λ e. absurd cc)
joined_decided (Joined q) p = ⊎_elim (λ e. inl (ap Joined e)) (λ apart. inr (λ e. apart cc)) (cases_eq q p)

-- Waiting facts

-- a fact about x is among these
about_decided : (fs : List Cert) (x : ℕ) → IsDecided ((c : Cert) × IsAmong c fs × (c.subject ≡ x))
about_decided [] x = inr (λ found. found.1)
about_decided (f ∷ fs) x = by_rest (cases_eq f.subject x) (about_decided fs x) where
  by_rest : (f.subject ≡ x) ⊎ (f.subject ≡ x → ⊥) → IsDecided ((c : Cert) × IsAmong c fs × (c.subject ≡ x)) → IsDecided ((c : Cert) × IsAmong c (f ∷ fs) × (c.subject ≡ x))
  by_rest (inl e) rest = inl (f, inl refl, e)
  by_rest (inr apart) (inl found) = inl (found.0, inr found.1, found.2)
  by_rest (inr apart) (inr out) = inr (λ found. by_place found.0 found.1 found.2) where
    by_place : (c : Cert) → (f ≡ c) ⊎ IsAmong c fs → c.subject ≡ x → ⊥
    by_place c (inl e) about = apart (ap (λ (k : Cert). k.subject) e ∙ about)
    by_place c (inr later) about = out (c, later, about)

pub waits_decided : (w : World) (y x : ℕ) → IsDecided (WaitsAt w y x)
waits_decided w y x = about_decided (node w y).control.kept.log.waiting x

pub below_decided : (w : World) (c : List ℕ) (x : ℕ) → IsDecided (WaitsBelow w c x)
below_decided w [] x = inr (λ h. h)
below_decided w (r ∷ []) x = inr (λ h. h)
below_decided w (y ∷ z ∷ zs) x = decided_either (waits_decided w y x) (below_decided w (z ∷ zs) x)

pub waiting_decided : (w : World) (c : List ℕ) → IsDecided (HasWaiting w c)
waiting_decided w [] = inr (λ h. h)
waiting_decided w (x ∷ ys) = decided_either (below_decided w ys x) (waiting_decided w ys)

-- Leases

pub lease_decided : (w : World) (y x s : ℕ) → IsDecided (HoldsLease w y x s)
lease_decided w y x s = number_decided (leased_by (table_of w y) y x) s

pub ended_decided : (w : World) (c : List ℕ) → IsDecided (HasEndedLease w c)
ended_decided w [] = inr (λ h. h)
ended_decided w (r ∷ []) = inr (λ h. h)
ended_decided w (x ∷ y ∷ ys) = decided_either (decided_not (lease_decided w y x (seq_of w x))) (ended_decided w (y ∷ ys))

-- Links

-- the found row has this ask number
row_decided : (found : Option Cert) (s : ℕ) → IsDecided ((e : Cert) × (found ≡ Some e) × (e.seq ≡ s))
row_decided None s = inr (λ row. by_row row.0 row.1) where
  by_row : (e : Cert) → None ≡ Some e → ⊥
  by_row e h = absurd cc
row_decided (Some k) s = ⊎_elim (λ e. inl (k, refl, e)) (λ apart. inr (λ row. apart (by_row row.0 row.1 row.2))) (cases_eq k.seq s) where
  by_row : (e : Cert) → Some k ≡ Some e → e.seq ≡ s → k.seq ≡ s
  by_row e h about = let same : k ≡ e = cc in ap (λ (c : Cert). c.seq) same ∙ about

pub link_decided : (w : World) (table : List Cert) (x y : ℕ) → IsDecided (IsTrueLink w table x y)
link_decided w table x y = by_parts (true_decided (is_up w x)) (joined_decided (mode_of w x) y) (row_decided (newest table x) (seq_of w x)) where
  by_parts : IsDecided (IsUp w x) → IsDecided (IsJoined w x y) → IsDecided ((e : Cert) × (newest table x ≡ Some e) × (e.seq ≡ seq_of w x)) → IsDecided (IsTrueLink w table x y)
  by_parts (inl up) (inl joined) (inl row) = inl (up, joined, row)
  by_parts (inr out) joined row = inr (λ link. out link.0)
  by_parts (inl up) (inr out) row = inr (λ link. out link.1)
  by_parts (inl up) (inl joined) (inr out) = inr (λ link. out link.2)
