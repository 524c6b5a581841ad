-- The rows and the lease ends of m, whose children are nodes past the chain, each with its first ask.
use Rattle.std.proofs.Common.{◌≡◌, ℕ, ◌+◌, ◌-◌, ◌≤◌, ◌<◌, Bool, true, false, not, ◌&&◌, ◌==◌, nat_lt, nat_le, if◌then◌else◌, Option, Some, None, List, [], ◌∷◌, ◌⊎◌, inl, inr, map, filter, find, length, refl, ap, sym, subst, ◌∙◌, arith, eqb-true}
use Rattle.std.specs.List.{AllByRecursion}
use Rattle.std.proofs.lemmas.Bool.{lt-leb, eqb-false}
use Rattle.std.proofs.lemmas.List.{get_or-set_same, get_or-set_other}
use Rattle.oc_base.specs.declared.cert.Cert.{Cert}
use Rattle.oc_model.specs.Adopting.{birth}
use Rattle.oc_model.specs.Adoption.{chain_child}
use Rattle.oc_model.specs.Leases.{renew, start_if, start_each, start_all, is_over, ended}
use Rattle.oc_model.specs.Node.{Header}
use Rattle.oc_model.specs.Numbers.{at}
use Rattle.oc_model.specs.Table.{newest, put, is_lease_of, leased_children}
use Rattle.oc_model.specs.WorldBounds.{IsOneOf}

-- a node past the chain that is up
pub record IsLeaf (h : Header) (up : ℕ → Bool) (x : ℕ) : Type 0 where
  pub lives : up x ≡ true
  pub past : h.chain < x
  pub within : x ≤ h.nodes

-- the end of the lease of x, if it is set
abbrev pub end_of : List (Option ℕ) → ℕ → Option ℕ
end_of ends x = at ends x None

-- this table of m has the lease of x
abbrev pub Row : ℕ → List Cert → ℕ → Type 0
Row m t x = newest t x ≡ Some (birth x 1 m)

module _ (h : Header) (up : ℕ → Bool) (m : ℕ) where
  -- each row is a lease of such a node
  pub record IsRow (k : Cert) : Type 0 where
    pub is : k ≡ birth k.subject 1 m
    pub leaf : IsLeaf h up k.subject

  abbrev pub AreRows : List Cert → Type 0
  AreRows t = AllByRecursion IsRow t

  -- what a table has of x, if anything
  pub row_found : (t : List Cert) (x : ℕ) (k : Cert) → AreRows t → newest t x ≡ Some k → (k ≡ birth x 1 m) × IsLeaf h up x
  row_found [] x k rows e = absurd cc
  row_found (j ∷ js) x k rows e = by_test (j.subject == x) refl (λ found. row_found js x k rows.1 found) e where
    by_test : (b : Bool) → (j.subject == x) ≡ b → (newest js x ≡ Some k → (k ≡ birth x 1 m) × IsLeaf h up x) → (if b then Some j else newest js x) ≡ Some k → (k ≡ birth x 1 m) × IsLeaf h up x
    by_test true same rest found =
        let equal : j ≡ k = cc in
        let at_x : j.subject ≡ x = eqb-true j.subject x same in
        (sym equal ∙ (rows.0.is ∙ ap (λ (y : ℕ). birth y 1 m) at_x), subst (IsLeaf h up) at_x rows.0.leaf)
    by_test false same rest found = rest found

  pub row_or_none : (t : List Cert) (x : ℕ) → AreRows t → (newest t x ≡ None) ⊎ Row m t x
  row_or_none t x rows = by_found (newest t x) refl where
    by_found : (e : Option Cert) → newest t x ≡ e → (newest t x ≡ None) ⊎ Row m t x
    by_found None e = inl e
    by_found (Some k) e = inr (e ∙ ap Some (row_found t x k rows e).0)

  -- the new row among them
  pub rows_put : (t : List Cert) (c : Cert) → IsRow c → AreRows t → AreRows (put t c)
  rows_put [] c row rows = (row, tt)
  rows_put (k ∷ ks) c row rows = by_tests (k.subject == c.subject) (nat_lt c.subject k.subject) (rows_put ks c row rows.1) where
    by_tests : (a b : Bool) → AreRows (put ks c) → AreRows (if a then c ∷ ks else if b then c ∷ k ∷ ks else k ∷ put ks c)
    by_tests true b rest = (row, rows.1)
    by_tests false true rest = (row, (rows.0, rows.1))
    by_tests false false rest = (rows.0, rest)

  -- each leased child has a row
  pub leased_row : (t : List Cert) (x : ℕ) → AreRows t → IsOneOf x (leased_children t m) → Row m t x × IsLeaf h up x
  leased_row [] x rows one = absurd one
  leased_row (k ∷ ks) x rows one = by_tests (is_lease_of m k) (k.subject == x) refl (leased_row ks x rows.1) one where
    here : (k.subject == x) ≡ true → (Some k ≡ Some (birth x 1 m)) × IsLeaf h up x
    here same =
        let at_x : k.subject ≡ x = eqb-true k.subject x same in
        (ap Some (rows.0.is ∙ ap (λ (y : ℕ). birth y 1 m) at_x), subst (IsLeaf h up) at_x rows.0.leaf)

    by_tests : (a b : Bool) → (k.subject == x) ≡ b → (IsOneOf x (leased_children ks m) → Row m ks x × IsLeaf h up x)
        → IsOneOf x (map (λ (c : Cert). c.subject) (if a then k ∷ filter (is_lease_of m) ks else filter (is_lease_of m) ks))
        → ((if b then Some k else newest ks x) ≡ Some (birth x 1 m)) × IsLeaf h up x
    by_tests a true same rest one = here same
    by_tests true false apart rest (inl is) = absurd (eqb-false k.subject x apart (sym is))
    by_tests true false apart rest (inr later) = rest later
    by_tests false false apart rest one = rest one

  -- so no leased child is a chain member
  none_found : (xs : List ℕ) (x : ℕ) → ((y : ℕ) → IsOneOf y xs → h.chain < y) → find (λ k. nat_le k h.chain && not (k == x)) xs ≡ None
  none_found [] x past = refl
  none_found (y ∷ ys) x past =
      let out : nat_le y h.chain ≡ false = lt-leb y h.chain (past y (inl refl)) in
      rw out (none_found ys x (λ z one. past z (inr one)))

  pub no_member : (t : List Cert) (x : ℕ) → AreRows t → chain_child t m h.chain x ≡ None
  no_member t x rows = none_found (leased_children t m) x (λ y one. (leased_row t y rows one).1.past)

-- Lease ends

all_set : (xs : List ℕ) (ends : List (Option ℕ)) (now end : ℕ) → ((x : ℕ) → IsOneOf x xs → at ends x None ≡ Some end) → start_each xs ends now ≡ ends
all_set [] ends now end each = refl
all_set (x ∷ xs) ends now end each =
    let here : start_if (at ends x None) ends x now ≡ ends = ap (λ (e : Option ℕ). start_if e ends x now) (each x (inl refl)) in
    ap (λ (es : List (Option ℕ)). start_each xs es now) here ∙ all_set xs ends now end (λ y one. each y (inr one))

none_over : (xs : List ℕ) (ends : List (Option ℕ)) (now end : ℕ) → now < end → ((x : ℕ) → IsOneOf x xs → at ends x None ≡ Some end) → filter (λ x. is_over (at ends x None) now) xs ≡ []
none_over [] ends now end ahead each = refl
none_over (x ∷ xs) ends now end ahead each =
    let here : is_over (at ends x None) now ≡ false = ap (λ (e : Option ℕ). is_over e now) (each x (inl refl)) ∙ lt-leb end now ahead in
    rw here (none_over xs ends now end ahead (λ y one. each y (inr one)))

-- where each lease ends at the same second, and that lies ahead, a tick sets and ends none
pub none_set : (m : ℕ) (t : List Cert) (ends : List (Option ℕ)) (now end : ℕ) → ((x : ℕ) → IsOneOf x (leased_children t m) → at ends x None ≡ Some end) → start_all t m ends now ≡ ends
none_set m t ends now end each = all_set (leased_children t m) ends now end each

pub none_ended : (m : ℕ) (t : List Cert) (ends : List (Option ℕ)) (now end : ℕ) → now < end → ((x : ℕ) → IsOneOf x (leased_children t m) → at ends x None ≡ Some end) → ended t m ends now ≡ []
none_ended m t ends now end ahead each = none_over (leased_children t m) ends now end ahead each

pub renewed : (ends : List (Option ℕ)) (x now : ℕ) → 1 ≤ x → x ≤ length ends → at (renew ends x now) x None ≡ Some (now + 30)
renewed ends x now least most = get_or-set_same ends (x - 1) (Some (now + 30)) None (omega (arith, least, most))

pub renewed_other : (ends : List (Option ℕ)) (x y now : ℕ) → 1 ≤ x → 1 ≤ y → (x ≡ y → ⊥) → at (renew ends x now) y None ≡ at ends y None
renewed_other ends x y now least low apart = get_or-set_other ends (x - 1) (y - 1) (Some (now + 30)) None (λ e. apart (omega (arith, e, least, low)))
