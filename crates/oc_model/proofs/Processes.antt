-- The list of processes: the process found at an id after a put, and the processes of a new world.
use Rattle.std.proofs.Common.{◌≡◌, ℕ, Bool, true, false, List, [], ◌∷◌, ◌⊎◌, inl, inr, map, if◌then◌else◌, ◌==◌, refl, ap, sym, subst, ◌∙◌, ⊎_elim, eqb-true, eq-eqb, ne_eqb}
use Rattle.std.proofs.lemmas.Bool.{cases_eq}
use Rattle.oc_model.specs.Node.{Header, Node, new_node, restarted}
use Rattle.oc_model.specs.WorldBounds.{IsOneOf}
use Rattle.oc_model.specs.World.{World, Process, down, absent, node, process_in, with_process}

-- the process of x started anew, or stopped, and the world with it
abbrev pub anew : World → ℕ → Bool → Process
anew w x up = record { node = restarted (node w x); up = up }

abbrev pub again : World → ℕ → Bool → World
again w x up = record w { processes = with_process w.processes (anew w x up) }

-- the process at an id is that of a node of this id
pub process_in-me : (ps : List Process) (x : ℕ) → (process_in ps x).node.control.me ≡ x
process_in-me [] x = refl
process_in-me (p ∷ ps) x = by_test (process_in-me ps x) (p.node.control.me == x) refl where
  by_test : (process_in ps x).node.control.me ≡ x → (b : Bool) → (p.node.control.me == x) ≡ b → (process_in (p ∷ ps) x).node.control.me ≡ x
  by_test rest true e = rw e (eqb-true p.node.control.me x e)
  by_test rest false e = rw e rest

-- a put at one id does not change the processes at other ids
pub process_in-with_other : (ps : List Process) (q : Process) (x : ℕ) → (q.node.control.me ≡ x → ⊥) → process_in (with_process ps q) x ≡ process_in ps x
process_in-with_other [] q x away = refl
process_in-with_other (p ∷ ps) q x away = by_test (process_in-with_other ps q x away) (p.node.control.me == q.node.control.me) refl where
  by_test : process_in (with_process ps q) x ≡ process_in ps x → (b : Bool) → (p.node.control.me == q.node.control.me) ≡ b → process_in (with_process (p ∷ ps) q) x ≡ process_in (p ∷ ps) x
  by_test rest true e =
      let new : (q.node.control.me == x) ≡ false = ne_eqb q.node.control.me x away in
      let old : (p.node.control.me == x) ≡ false = rw (eqb-true p.node.control.me q.node.control.me e) new in
      rw (e, new, old)
  by_test rest false e = rw e (ap (λ r. if p.node.control.me == x then p else r) rest)

-- the process that was put, or an absent one where no process has the id
abbrev pub IsPutOrAbsent : List Process → Process → Type 0
IsPutOrAbsent ps q = (process_in (with_process ps q) q.node.control.me ≡ q) ⊎ ((process_in ps q.node.control.me ≡ absent q.node.control.me) × (process_in (with_process ps q) q.node.control.me ≡ absent q.node.control.me))

-- at the id of the process that was put, it or an absent one is found
pub process_in-with_same : (ps : List Process) (q : Process) → IsPutOrAbsent ps q
process_in-with_same [] q = inr (refl, refl)
process_in-with_same (p ∷ ps) q = by_test (process_in-with_same ps q) (p.node.control.me == q.node.control.me) refl where
  by_test : IsPutOrAbsent ps q → (b : Bool) → (p.node.control.me == q.node.control.me) ≡ b → IsPutOrAbsent (p ∷ ps) q
  by_test rest true e = inl (rw (e, eq-eqb q.node.control.me q.node.control.me refl))
  by_test (inl put) false e = inl (rw (e, e) put)
  by_test (inr none) false e = inr (rw e none.0, rw (e, e) none.1)

-- at the id of a process that is up, the one that was put
pub process_in-with_up : (ps : List Process) (q : Process) → (process_in ps q.node.control.me).up ≡ true → process_in (with_process ps q) q.node.control.me ≡ q
process_in-with_up ps q up = by_case (process_in-with_same ps q) where
  by_case : IsPutOrAbsent ps q → process_in (with_process ps q) q.node.control.me ≡ q
  by_case (inl put) = put
  by_case (inr none) = absurd (cc (up, ap (λ p. p.up) (none.0)))

-- a process of a new node of this id, whatever the header
abbrev pub IsNew : ℕ → Process → Type 0
IsNew x p = (h : Header) × (p ≡ down (new_node h x))

-- in a new world each process is that of a new node
pub process_in-new : (h : Header) (xs : List ℕ) (x : ℕ) → IsNew x (process_in (map (λ y. down (new_node h y)) xs) x)
process_in-new h [] x = (record { nodes = 0; chain = 0; chunk = 0; areas = [] }, refl)
process_in-new h (y ∷ ys) x = by_test (process_in-new h ys x) (y == x) refl where
  by_test : IsNew x (process_in (map (λ z. down (new_node h z)) ys) x) → (b : Bool) → (y == x) ≡ b → IsNew x (process_in (map (λ z. down (new_node h z)) (y ∷ ys)) x)
  by_test rest true e = (h, rw e (ap (λ z. down (new_node h z)) (eqb-true y x e)))
  by_test rest false e = (rest.0, rw e rest.1)

-- a node that is up is one of the ids
pub up_in : (ps : List Process) (x : ℕ) → (process_in ps x).up ≡ true → IsOneOf x (map (λ p. p.node.control.me) ps)
up_in [] x up = absurd cc
up_in (p ∷ ps) x up = by_test (up_in ps x) (p.node.control.me == x) refl where
  by_test : ((process_in ps x).up ≡ true → IsOneOf x (map (λ q. q.node.control.me) ps)) → (b : Bool) → (p.node.control.me == x) ≡ b → IsOneOf x (map (λ q. q.node.control.me) (p ∷ ps))
  by_test rest true e = inl (sym (eqb-true p.node.control.me x e))
  by_test rest false e = inr (rest (rw e at up))

-- a property of the new node and of those before holds at each id
pub at_put : (ps : List Process) (q : Process) (P : Node → Type 0) (x : ℕ) → (q.node.control.me ≡ x → P q.node) → P (process_in ps x).node → P (process_in (with_process ps q) x).node
at_put ps q P x new old = ⊎_elim here there (cases_eq q.node.control.me x) where
  by_case : q.node.control.me ≡ x → IsPutOrAbsent ps q → P (process_in (with_process ps q) q.node.control.me).node
  by_case e (inl put) = subst (λ (p : Process). P p.node) (sym put) (new e)
  by_case e (inr none) = subst (λ (p : Process). P p.node) (none.0 ∙ sym (none.1)) (subst (λ (y : ℕ). P (process_in ps y).node) (sym e) old)

  here : q.node.control.me ≡ x → P (process_in (with_process ps q) x).node
  here e = subst (λ (y : ℕ). P (process_in (with_process ps q) y).node) e (by_case e (process_in-with_same ps q))

  there : (q.node.control.me ≡ x → ⊥) → P (process_in (with_process ps q) x).node
  there apart = subst (λ (p : Process). P p.node) (sym (process_in-with_other ps q x apart)) old

-- a put at the id of a process that is up needs no property of the old process
pub at_put_up : (ps : List Process) (q : Process) (P : Node → Type 0) (x : ℕ) → (process_in ps q.node.control.me).up ≡ true
    → (q.node.control.me ≡ x → P q.node) → ((q.node.control.me ≡ x → ⊥) → P (process_in ps x).node) → P (process_in (with_process ps q) x).node
at_put_up ps q P x up new old = ⊎_elim here there (cases_eq q.node.control.me x) where
  here : q.node.control.me ≡ x → P (process_in (with_process ps q) x).node
  here e = subst (λ (y : ℕ). P (process_in (with_process ps q) y).node) e (subst (λ (p : Process). P p.node) (sym (process_in-with_up ps q up)) (new e))

  there : (q.node.control.me ≡ x → ⊥) → P (process_in (with_process ps q) x).node
  there apart = subst (λ (p : Process). P p.node) (sym (process_in-with_other ps q x apart)) (old apart)
