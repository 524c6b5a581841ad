-- Processes by their places, where the ids are one after another: a list that is read and written at an index.
use Rattle.std.proofs.Common.{◌≡◌, ℕ, zero, suc, ◌+◌, ◌<◌, Bool, true, false, List, [], ◌∷◌, ◌==◌, length, map, set, get_or, refl, ap, sym, ◌∙◌, arith, eqb-true, eq-eqb, ne_eqb}
use Rattle.std.specs.List.{range_with_len}
use Rattle.std.proofs.lemmas.List.{length-map}
use Rattle.oc_model.specs.Node.{Header, new_node}
use Rattle.oc_model.specs.World.{Process, down, absent, process_in, with_process}

abbrev pub ids_in : List Process → List ℕ
ids_in ps = map (λ p. p.node.control.me) ps

-- whatever is put, the ids stay
pub ids-with_process : (ps : List Process) (q : Process) → ids_in (with_process ps q) ≡ ids_in ps
ids-with_process [] q = refl
ids-with_process (p ∷ ps) q = by_test (ids-with_process ps q) (p.node.control.me == q.node.control.me) refl where
  by_test : ids_in (with_process ps q) ≡ ids_in ps → (b : Bool) → (p.node.control.me == q.node.control.me) ≡ b → ids_in (with_process (p ∷ ps) q) ≡ ids_in (p ∷ ps)
  by_test rest true e = rw e (ap (λ x. x ∷ ids_in ps) (sym (eqb-true p.node.control.me q.node.control.me e)))
  by_test rest false e = rw e (ap (λ xs. p.node.control.me ∷ xs) rest)

-- whatever is put, there are as many processes
pub length-with_process : (ps : List Process) (q : Process) → length (with_process ps q) ≡ length ps
length-with_process ps q = sym (length-map (with_process ps q) (λ p. p.node.control.me)) ∙ (ap length (ids-with_process ps q) ∙ length-map ps (λ p. p.node.control.me))

-- the ids of new processes
pub ids-new : (h : Header) (xs : List ℕ) → ids_in (map (λ x. down (new_node h x)) xs) ≡ xs
ids-new h [] = refl
ids-new h (x ∷ xs) = ap (λ ys. x ∷ ys) (ids-new h xs)

-- the process of an id is at the id's place
pub process_in-place : (b n : ℕ) (ps : List Process) (k : ℕ) (d : Process) → ids_in ps ≡ range_with_len b n → k < length ps → process_in ps (b + k) ≡ get_or ps k d
process_in-place b n [] k d is within = absurd (omega arith)
process_in-place b zero (p ∷ ps) k d is within = absurd cc
process_in-place b (suc n) (p ∷ ps) zero d is within =
    let me : p.node.control.me ≡ b = cc in
    let here : (p.node.control.me == b + 0) ≡ true = eq-eqb p.node.control.me (b + 0) (omega arith) in
    rw here
process_in-place b (suc n) (p ∷ ps) (suc k) d is within =
    let me : p.node.control.me ≡ b = cc in
    let apart : (p.node.control.me == b + suc k) ≡ false = ne_eqb p.node.control.me (b + suc k) (λ e. omega arith) in
    let rest : ids_in ps ≡ range_with_len (b + 1) n = cc in
    let next : b + suc k ≡ b + 1 + k = omega arith in
    rw apart (ap (process_in ps) next ∙ process_in-place (b + 1) n ps k d rest (omega arith))

-- an id outside the list has an absent process
pub process_in-outside : (b n : ℕ) (ps : List Process) (x : ℕ) → ids_in ps ≡ range_with_len b n → ((k : ℕ) → k < n → b + k ≡ x → ⊥) → process_in ps x ≡ absent x
process_in-outside b n [] x is out = refl
process_in-outside b zero (p ∷ ps) x is out = absurd cc
process_in-outside b (suc n) (p ∷ ps) x is out =
    let me : p.node.control.me ≡ b = cc in
    let apart : (p.node.control.me == x) ≡ false = ne_eqb p.node.control.me x (λ e. out 0 (omega arith) (omega arith)) in
    let rest : ids_in ps ≡ range_with_len (b + 1) n = cc in
    rw apart (process_in-outside (b + 1) n ps x rest (λ k l e. out (suc k) (omega arith) (omega arith)))

-- putting a process is writing at the place of its id
pub with_process-place : (b n : ℕ) (ps : List Process) (q : Process) (k : ℕ) → ids_in ps ≡ range_with_len b n → k < length ps → q.node.control.me ≡ b + k → with_process ps q ≡ set ps k q
with_process-place b n [] q k is within at = refl
with_process-place b zero (p ∷ ps) q k is within at = absurd cc
with_process-place b (suc n) (p ∷ ps) q zero is within at =
    let me : p.node.control.me ≡ b = cc in
    let here : (p.node.control.me == q.node.control.me) ≡ true = eq-eqb p.node.control.me q.node.control.me (omega arith) in
    rw here
with_process-place b (suc n) (p ∷ ps) q (suc k) is within at =
    let me : p.node.control.me ≡ b = cc in
    let apart : (p.node.control.me == q.node.control.me) ≡ false = ne_eqb p.node.control.me q.node.control.me (λ e. omega arith) in
    let rest : ids_in ps ≡ range_with_len (b + 1) n = cc in
    rw apart (ap (λ qs. p ∷ qs) (with_process-place (b + 1) n ps q k rest (omega arith) (omega arith)))
