-- Properties of all items of a list, and the items of its parts.
use Rattle.std.proofs.Common.{◌≡◌, ℕ, ◌-◌, Bool, true, false, ◌==◌, nat_lt, if◌then◌else◌, Some, List, [], ◌∷◌, ◌++◌, ◌⊎◌, inl, inr, ⊎_elim, drop, subst}
use Rattle.std.specs.List.{AllByRecursion}
use Rattle.std.proofs.lemmas.Bool.{cond_both}
use Rattle.oc_base.specs.declared.cert.Cert.{Cert}
use Rattle.oc_model.specs.declared.mode.Mode.{Mode}
use Rattle.oc_model.specs.declared.mode.Mode.TheVariants as modes
use Rattle.oc_model.specs.ChangeLog.{ack, is_ahead}
use Rattle.oc_model.specs.Node.{Log}
use Rattle.oc_model.specs.Numbers.{IsAmong}
use Rattle.oc_model.specs.Records.{noted}
use Rattle.oc_model.specs.Table.{newest, put, is_news, merge}
use Rattle.oc_model.proofs.Lists.{all_append}
use Rattle.oc_laws_step.proofs.Folds.{all_drop}

-- a property of all items holds of each item
pub all_among : {X : Type 0} (P : X → Type 0) (xs : List X) (x : X) → AllByRecursion P xs → IsAmong x xs → P x
all_among P [] x all none = absurd none
all_among P (y ∷ ys) x all (inl e) = subst P e all.0
all_among P (y ∷ ys) x all (inr later) = all_among P ys x all.1 later

-- an item of two lists in a row is an item of one of them
pub among_either : {X : Type 0} (x : X) (xs ys : List X) → IsAmong x (xs ++ ys) → IsAmong x xs ⊎ IsAmong x ys
among_either x [] ys h = inr h
among_either x (z ∷ zs) ys (inl e) = inl (inl e)
among_either x (z ∷ zs) ys (inr h) = ⊎_elim (λ k. inl (inr k)) (λ k. inr k) (among_either x zs ys h)

-- a property of all rows holds after one is put
all_put : (P : Cert → Type 0) (t : List Cert) (c : Cert) → P c → AllByRecursion P t → AllByRecursion P (put t c)
all_put P [] c here all = (here, tt)
all_put P (k ∷ ks) c here all =
    cond_both (k.subject == c.subject) (c ∷ ks) (if nat_lt c.subject k.subject then c ∷ k ∷ ks else k ∷ put ks c) (AllByRecursion P)
    (λ _. (here, all.1))
    (λ _. cond_both (nat_lt c.subject k.subject) (c ∷ k ∷ ks) (k ∷ put ks c) (AllByRecursion P) (λ _. (here, all)) (λ _. (all.0, all_put P ks c here all.1)))

-- a property of all rows holds after one is merged
pub all_merge : (P : Cert → Type 0) (t : List Cert) (c : Cert) → P c → AllByRecursion P t → AllByRecursion P (merge t c)
all_merge P t c here all = cond_both (is_news t c) (put t c) t (AllByRecursion P) (λ _. all_put P t c here all) (λ _. all)

-- a property of all rows holds of the row that is found
pub all_newest : (P : Cert → Type 0) (t : List Cert) (x : ℕ) (k : Cert) → newest t x ≡ Some k → AllByRecursion P t → P k
all_newest P [] x k e all = absurd cc
all_newest P (j ∷ js) x k e all = by_test (j.subject == x) (λ later. all_newest P js x k later all.1) e where
  by_test : (b : Bool) → (newest js x ≡ Some k → P k) → (if b then Some j else newest js x) ≡ Some k → P k
  by_test true rest f = let same : j ≡ k = cc in subst P same all.0
  by_test false rest f = rest f

-- a property of all waiting certificates holds after one is noted
pub all_noted : (P : Cert → Type 0) (m : Mode) (l : Log) (c : Cert) → P c → AllByRecursion P l.waiting → AllByRecursion P (noted m l c).waiting
all_noted P (modes.Joined p) l c here all = all_append P l.waiting (c ∷ []) all (here, tt)
all_noted P modes.Idle l c here all = all
all_noted P (modes.Asking p) l c here all = all
all_noted P modes.Acting l c here all = all

-- a property of all waiting certificates holds after an acknowledgement
pub all_acked : (P : Cert → Type 0) (l : Log) (upto : ℕ) → AllByRecursion P l.waiting → AllByRecursion P (ack l upto).waiting
all_acked P l upto all =
    cond_both (is_ahead l upto) (record { length = l.length; acked = upto; waiting = drop (upto - l.acked) l.waiting }) l (λ (k : Log). AllByRecursion P k.waiting)
    (λ _. all_drop P (upto - l.acked) l.waiting all) (λ _. all)
