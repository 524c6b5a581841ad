-- The nodes of a new world, and the process found at the id of a node.
use Rattle.std.proofs.Common.{◌≡◌, ℕ, zero, suc, ◌+◌, ◌≤◌, ◌<◌, Bool, true, false, ◌==◌, List, [], ◌∷◌, inl, inr, map, if◌then◌else◌, ap, sym, subst, ⊎_elim, refl, arith, eqb-true, eq-eqb}
use Rattle.std.specs.List.{range_with_len}
use Rattle.std.proofs.lemmas.Bool.{cases_eq, eqb-false}
use Rattle.oc_model.specs.Node.{Header, new_node}
use Rattle.oc_model.specs.World.{Process, down, process_in, with_process}
use Rattle.oc_model.specs.WorldBounds.{IsOneOf}

-- a number within a range is one of its numbers
pub in_range : (b n x : ℕ) → b ≤ x → x < b + n → IsOneOf x (range_with_len b n)
in_range b zero x least most = absurd (omega arith)
in_range b (suc n) x least most = ⊎_elim (λ (e : x ≡ b). inl e) (λ apart. inr (in_range (b + 1) n x (omega (arith, apart)) (omega arith))) (cases_eq x b)

-- the process of an id in a new world
pub new_found : (h : Header) (xs : List ℕ) (x : ℕ) → IsOneOf x xs → process_in (map (λ y. down (new_node h y)) xs) x ≡ down (new_node h x)
new_found h [] x one = absurd one
new_found h (y ∷ ys) x one = by_test (y == x) refl (λ later. new_found h ys x later) where
  by_test : (b : Bool) → (y == x) ≡ b → (IsOneOf x ys → process_in (map (λ z. down (new_node h z)) ys) x ≡ down (new_node h x))
      → (if b then down (new_node h y) else process_in (map (λ z. down (new_node h z)) ys) x) ≡ down (new_node h x)
  by_test true e rest = ap (λ z. down (new_node h z)) (eqb-true y x e)
  by_test false e rest = ⊎_elim (λ same. absurd (eqb-false y x e (sym same))) rest one

-- a process that was put is found at its id, if that is there
put_found : (ps : List Process) (q : Process) → IsOneOf q.node.control.me (map (λ p. p.node.control.me) ps) → process_in (with_process ps q) q.node.control.me ≡ q
put_found [] q one = absurd one
put_found (p ∷ ps) q one = by_test (p.node.control.me == q.node.control.me) refl (λ later. put_found ps q later) where
  by_test : (b : Bool) → (p.node.control.me == q.node.control.me) ≡ b
      → (IsOneOf q.node.control.me (map (λ r. r.node.control.me) ps) → process_in (with_process ps q) q.node.control.me ≡ q)
      → process_in (if b then q ∷ ps else p ∷ with_process ps q) q.node.control.me ≡ q
  by_test true e rest = rw (eq-eqb q.node.control.me q.node.control.me refl) refl
  by_test false e rest = rw e (⊎_elim (λ same. absurd (eqb-false p.node.control.me q.node.control.me e (sym same))) rest one)

pub found_at : (ps : List Process) (q : Process) (x : ℕ) → q.node.control.me ≡ x → IsOneOf x (map (λ p. p.node.control.me) ps) → process_in (with_process ps q) x ≡ q
found_at ps q x me one = subst (λ (y : ℕ). process_in (with_process ps q) y ≡ q) me (put_found ps q (subst (λ (y : ℕ). IsOneOf y (map (λ p. p.node.control.me) ps)) (sym me) one))
