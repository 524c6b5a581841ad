-- Unchanged properties under acts: the nodes of a world, and which of them are up.
use Rattle.std.proofs.Common.{◌≡◌, ℕ, Bool, true, false, Option, Some, None, List, [], ◌∷◌, ⊎_elim, filter, length, refl, ap, sym, subst, ◌∙◌}
use Rattle.std.proofs.lemmas.Bool.{cond_both, cases_eq}
use Rattle.oc_model.specs.declared.event.Act.{Act}
use Rattle.oc_model.specs.declared.input.Input.{Input}
use Rattle.oc_model.specs.Runs.{after_acts}
use Rattle.oc_model.specs.Step.{step}
use Rattle.oc_model.specs.World.{World, Process, Arrival, node, process, process_in, with_process, ids, is_up, up_ids, stepped, arrival, acted, after_act}
use Rattle.oc_model.proofs.GoesOn.{ids-after_acts}
use Rattle.oc_model.proofs.Outcomes.{step_leaves}
use Rattle.oc_model.proofs.Processes.{process_in-me, process_in-with_other, process_in-with_up}

-- a step leaves the node's id
pub me_after : (w : World) (x : ℕ) (i : Input) → (step (node w x) i).node.control.me ≡ x
me_after w x i = (step_leaves (node w x) i).me ∙ process_in-me w.processes x

-- an input to a node that is up leaves each node up or down as it was
up_stepped : (w : World) (x y : ℕ) (i : Input) → is_up w x ≡ true → is_up (stepped w i (step (node w x) i)) y ≡ is_up w y
up_stepped w x y i up = ⊎_elim here there (cases_eq q.node.control.me y) where
  q : Process
  q = record { node = (step (node w x) i).node; up = true }

  here : q.node.control.me ≡ y → (process_in (with_process w.processes q) y).up ≡ (process_in w.processes y).up
  here e =
      let same : x ≡ y = sym (me_after w x i) ∙ e in
      let there : (process_in w.processes q.node.control.me).up ≡ true = ap (λ (z : ℕ). (process_in w.processes z).up) (me_after w x i) ∙ up in
      subst (λ (z : ℕ). (process_in (with_process w.processes q) z).up ≡ (process_in w.processes z).up) e (ap (λ (p : Process). p.up) (process_in-with_up w.processes q there) ∙ sym there)

  there : (q.node.control.me ≡ y → ⊥) → (process_in (with_process w.processes q) y).up ≡ (process_in w.processes y).up
  there other = ap (λ (p : Process). p.up) (process_in-with_other w.processes q y other)

-- an act leaves each node up or down as it was
up_acted : (w : World) (a : Option Arrival) (y : ℕ) → is_up (acted w a) y ≡ is_up w y
up_acted w None y = refl
up_acted w (Some a) y =
    cond_both (process w a.at).up (stepped w a.input (step (node w a.at) a.input)) w (λ v. is_up v y ≡ is_up w y) (λ up. up_stepped w a.at y a.input up) (λ _. refl)

-- acts one after another leave each node up or down as it was
pub up_stays : (w : World) (done : List Act) (y : ℕ) → is_up (after_acts w done) y ≡ is_up w y
up_stays w [] y = refl
up_stays w (a ∷ rest) y = up_stays (after_act w a) rest y ∙ up_acted w (arrival w a) y

-- two tests that agree leave the same items of a list
pub same_filter : (f g : ℕ → Bool) → ((x : ℕ) → f x ≡ g x) → (xs : List ℕ) → filter f xs ≡ filter g xs
same_filter f g same [] = refl
same_filter f g same (x ∷ xs) = by_test (same_filter f g same xs) (g x) (same x) refl where
  by_test : filter f xs ≡ filter g xs → (b : Bool) → f x ≡ g x → g x ≡ b → filter f (x ∷ xs) ≡ filter g (x ∷ xs)
  by_test rest true e t = let left : f x ≡ true = e ∙ t in rw (left, t) (ap (λ (ys : List ℕ). x ∷ ys) rest)
  by_test rest false e t = let left : f x ≡ false = e ∙ t in rw (left, t) rest

-- the nodes that are up stay the same
pub ups_stay : (w : World) (done : List Act) → up_ids (after_acts w done) ≡ up_ids w
ups_stay w done = same_filter (is_up (after_acts w done)) (is_up w) (up_stays w done) (ids (after_acts w done)) ∙ ap (λ (xs : List ℕ). filter (is_up w) xs) (ids-after_acts w done)

-- the ids stay the same
pub ids_stay : (w : World) (done : List Act) → ids (after_acts w done) ≡ ids w
ids_stay w done = ids-after_acts w done

pub count_stays : (w : World) (done : List Act) → length (ids (after_acts w done)) ≡ length (ids w)
count_stays w done = ap length (ids-after_acts w done)
