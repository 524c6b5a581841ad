-- The facts that a table knows: those that would be no news to it. The laws of the tree are first proved in these terms; a
-- known fact is a covered one, since one ask number has one peer and one own number one count.
use Rattle.std.proofs.Common.{◌≡◌, ℕ, ◌==◌, Bool, true, false, if◌then◌else◌, Option, Some, None, List, [], ◌∷◌, ◌⊎◌, inl, inr, refl, sym, subst, ◌∙◌, ⊎_elim}
use Rattle.std.proofs.lemmas.Bool.{cases_eq, true≢false}
use Rattle.std.proofs.Common.{eq-eqb, ne_eqb, nat_lt}
use Rattle.oc_base.specs.declared.cert.Cert.{Cert}
use Rattle.oc_base.specs.Cert.{Outranks}
use Rattle.oc_model.specs.declared.message.Message.{Message}
use Rattle.oc_model.specs.Certificates.{outranks, IsCovered}
use Rattle.oc_model.specs.ClaimsTree.{table_of}
use Rattle.oc_model.specs.Node.{Control}
use Rattle.oc_model.specs.Numbers.{IsAmong}
use Rattle.oc_model.specs.Table.{newest, put, is_news, is_news_to, merge}
use Rattle.oc_model.specs.World.{World}
use Rattle.oc_laws_step.specs.Order.{AreEven}
use Rattle.oc_laws_step.proofs.CertOrder.{fact_outranks, outranks_total}
use Rattle.oc_laws_step.proofs.Tables.{newest-subject}
use Rattle.oc_laws_world.proofs.Lifts.{control_of, Becomes, at_each}

-- the fact would be no news to this table
abbrev pub Knows : List Cert → Cert → Type 0
Knows t f = is_news t f ≡ false

-- the table of y, with this table for the node x
abbrev pub table_with : World → ℕ → List Cert → ℕ → List Cert
table_with w x t y = if y == x then t else table_of w y

-- the table of y, with this state of the node x
abbrev pub table_now : World → ℕ → Control → ℕ → List Cert
table_now w x n = table_with w x n.kept.table

-- a row that is found is among the rows
pub newest_among : (t : List Cert) (x : ℕ) (k : Cert) → newest t x ≡ Some k → IsAmong k t
newest_among [] x k e = absurd cc
newest_among (j ∷ js) x k e = by_test (j.subject == x) (λ later. newest_among js x k later) e where
  by_test : (b : Bool) → (newest js x ≡ Some k → IsAmong k js) → (if b then Some j else newest js x) ≡ Some k → IsAmong k (j ∷ js)
  by_test true rest f = inl cc
  by_test false rest f = inr (rest f)

-- the row by which a fact is known: a later word on the subject, or one that is even with the fact
pub record KnownBy (t : List Cert) (f k : Cert) : Type 0 where
  pub found : newest t f.subject ≡ Some k
  pub among : IsAmong k t
  pub subject : k.subject ≡ f.subject
  pub later : Outranks k f ⊎ AreEven k f

pub known_by : (t : List Cert) (f : Cert) → Knows t f → (k : Cert) × KnownBy t f k
known_by t f known = by_found (newest t f.subject) refl where
  by_found : (was : Option Cert) → newest t f.subject ≡ was → (k : Cert) × KnownBy t f k
  by_found None e = absurd (true≢false (subst (λ (o : Option Cert). is_news_to o f ≡ false) e known))
  by_found (Some k) e = (k, record { found = e; among = newest_among t f.subject k e; subject = newest-subject t f.subject k e; later = by_order (outranks_total k f) }) where
    old : outranks f k ≡ false
    old = subst (λ (o : Option Cert). is_news_to o f ≡ false) e known

    by_order : Outranks k f ⊎ (Outranks f k ⊎ AreEven k f) → Outranks k f ⊎ AreEven k f
    by_order (inl more) = inl more
    by_order (inr (inl less)) = absurd (true≢false (sym (fact_outranks f k less) ∙ old))
    by_order (inr (inr even)) = inr even

-- a known fact is covered, if each row that is even with it is the fact
pub covered_known : (t : List Cert) (f : Cert) → ((k : Cert) → IsAmong k t → k.subject ≡ f.subject → AreEven k f → k ≡ f) → Knows t f → IsCovered t f
covered_known t f same known = let by = known_by t f known in by_row by.0 by.1 where
  by_row : (k : Cert) → KnownBy t f k → IsCovered t f
  by_row k by = (k, by.among, ⊎_elim (λ more. inr (sym by.subject, more)) (λ even. inl (same k by.among by.subject even)) by.later)

-- a row of a table after a merge was there before or is the merged certificate
pub among_merge : (t : List Cert) (c f : Cert) → IsAmong f (merge t c) → IsAmong f t ⊎ (c ≡ f)
among_merge t c f h = by_test (is_news t c) h where
  among_put : (t : List Cert) → IsAmong f (put t c) → IsAmong f t ⊎ (c ≡ f)
  among_put [] (inl e) = inr e
  among_put [] (inr none) = absurd none
  among_put (k ∷ ks) h = by_tests (k.subject == c.subject) (nat_lt c.subject k.subject) (λ later. among_put ks later) h where
    by_tests : (b l : Bool) → (IsAmong f (put ks c) → IsAmong f ks ⊎ (c ≡ f)) → IsAmong f (if b then c ∷ ks else if l then c ∷ k ∷ ks else k ∷ put ks c) → IsAmong f (k ∷ ks) ⊎ (c ≡ f)
    by_tests true l rest (inl e) = inr e
    by_tests true l rest (inr old) = inl (inr old)
    by_tests false true rest (inl e) = inr e
    by_tests false true rest (inr old) = inl old
    by_tests false false rest (inl e) = inl (inl e)
    by_tests false false rest (inr later) = ⊎_elim (λ old. inl (inr old)) (λ e. inr e) (rest later)

  by_test : (b : Bool) → IsAmong f (if b then put t c else t) → IsAmong f t ⊎ (c ≡ f)
  by_test true g = among_put t g
  by_test false g = inl g

-- Tables that grow

-- the second tables know all that the first tables know
abbrev pub Grow : (ℕ → List Cert) → (ℕ → List Cert) → Type 0
Grow before after = (y : ℕ) (f : Cert) → Knows (before y) f → Knows (after y) f

-- the node that changes has its present table, and each other node that of the world
pub now_own : (w : World) (x : ℕ) (n : Control) → table_now w x n x ≡ n.kept.table
now_own w x n = let own : (x == x) ≡ true = eq-eqb x x refl in rw own refl

pub now_other : (w : World) (x : ℕ) (n : Control) (y : ℕ) → (x ≡ y → ⊥) → table_now w x n y ≡ table_of w y
now_other w x n y apart = let other : (y == x) ≡ false = ne_eqb y x (λ e. apart (sym e)) in rw other refl

-- known facts stay known as the table of the changing node grows
pub now_grows : (w : World) (x : ℕ) (n m : Control) → ((f : Cert) → Knows n.kept.table f → Knows m.kept.table f) → Grow (table_now w x n) (table_now w x m)
now_grows w x n m grows y f known = by_test (y == x) known where
  by_test : (b : Bool) → Knows (if b then n.kept.table else table_of w y) f → Knows (if b then m.kept.table else table_of w y) f
  by_test true h = grows f h
  by_test false h = h

-- a fact that the changing node knows is known at this parent, if the parent is that node
pub now_here : (w : World) (x : ℕ) (n : Control) (p : ℕ) (f : Cert) → p ≡ x → Knows n.kept.table f → Knows (table_now w x n p) f
now_here w x n p f e known = subst (λ (z : ℕ). Knows (table_now w x n z) f) (sym e) (subst (λ (t : List Cert). Knows t f) (sym (now_own w x n)) known)

-- the tables before a change are those of the world
pub now_begins : (w : World) (x : ℕ) → Grow (table_of w) (table_now w x (control_of w x))
now_begins w x y f known = by_case (cases_eq x y) where
  by_case : (x ≡ y) ⊎ (x ≡ y → ⊥) → Knows (table_now w x (control_of w x) y) f
  by_case (inl e) = now_here w x (control_of w x) y f (sym e) (subst (λ (z : ℕ). Knows (table_of w z) f) (sym e) known)
  by_case (inr apart) = subst (λ (t : List Cert). Knows t f) (sym (now_other w x (control_of w x) y apart)) known

-- the tables in the middle of a change have grown from those of the world
pub now_since : (w : World) (x : ℕ) (n : Control) → ((f : Cert) → Knows (control_of w x).kept.table f → Knows n.kept.table f) → Grow (table_of w) (table_now w x n)
now_since w x n grows y f known = now_grows w x (control_of w x) n grows y f (now_begins w x y f known)

-- the tables after a change are those of the new world
pub now_ends : (w v : World) (x : ℕ) (n : Control) (ms : List Message) → Becomes w x n ms v → Grow (table_now w x n) (table_of v)
now_ends w v x n ms becomes y f known = at_each w v x n ms becomes (λ y c. Knows (table_now w x n y) f → Knows c.kept.table f)
    (λ k. subst (λ (t : List Cert). Knows t f) (now_own w x n) k)
    (λ y apart k. subst (λ (t : List Cert). Knows t f) (now_other w x n y apart) k)
    y known

-- the tables of the world have grown
pub now_later : (w v : World) (x : ℕ) (n : Control) (ms : List Message) → Becomes w x n ms v → ((f : Cert) → Knows (control_of w x).kept.table f → Knows n.kept.table f) → Grow (table_of w) (table_of v)
now_later w v x n ms becomes grows y f known = now_ends w v x n ms becomes y f (now_since w x n grows y f known)
