-- The children that are told, one after another.
use Rattle.std.proofs.Common.{◌≡◌, ℕ, ◌+◌, ◌<◌, Bool, true, false, not, List, [], ◌∷◌, ◌++◌, length, drop, get_or, map, filter, refl, ap, sym, ◌∙◌, append_assoc}
use Rattle.oc_base.specs.declared.cert.Child.{Child}
use Rattle.oc_model.specs.Looking.{children}
use Rattle.oc_model.specs.Node.{Control}
use Rattle.oc_model.specs.Numbers.{at, has}
use Rattle.oc_model.specs.Table.{leased_children}
use Rattle.oc_state.specs.Children.{told_child, told_children}
use Rattle.oc_state.proofs.Lists.{drop_at}
use Rattle.oc_step.specs.Told.{but}

-- the first child is told or left out, and then the others
but_cons : (xs : List ℕ) (c : Child) (cs : List Child) → but xs (c ∷ cs) ≡ but xs (c ∷ []) ++ but xs cs
but_cons xs c cs = by_test (not (has xs c.id)) refl where
  by_test : (b : Bool) → not (has xs c.id) ≡ b → but xs (c ∷ cs) ≡ but xs (c ∷ []) ++ but xs cs
  by_test true e = rw e
  by_test false e = rw e

-- the rest still completes the whole after a child was added
pub but_go_on : (xs : List ℕ) (cs : List Child) (i : ℕ) (c : Child) (before after whole : List Child) → i < length cs → c ≡ get_or cs i c → after ≡ before ++ but xs (c ∷ []) → before ++ but xs (drop i cs) ≡ whole → after ++ but xs (drop (i + 1) cs) ≡ whole
but_go_on xs cs i c before after whole within e put so =
    let here : but xs (drop i cs) ≡ but xs (c ∷ []) ++ but xs (drop (i + 1) cs) = ap (but xs) (drop_at cs i c within e) ∙ but_cons xs c (drop (i + 1) cs) in
    rw put (append_assoc before (but xs (c ∷ [])) (but xs (drop (i + 1) cs)) ∙ (sym (ap (λ (ls : List Child). before ++ ls) here) ∙ so))

-- leaving nodes out before or after their rates are looked up is the same
but_told : (xs : List ℕ) (rates : List ℕ) (ids : List ℕ) → but xs (map (λ x. record { id = x; rate = at rates x 0 }) ids) ≡ map (λ x. record { id = x; rate = at rates x 0 }) (filter (λ x. not (has xs x)) ids)
but_told xs rates [] = refl
but_told xs rates (x ∷ ids) = by_test (but_told xs rates ids) (not (has xs x)) refl where
  by_test : but xs (map (λ x. record { id = x; rate = at rates x 0 }) ids) ≡ map (λ x. record { id = x; rate = at rates x 0 }) (filter (λ x. not (has xs x)) ids) → (b : Bool) → not (has xs x) ≡ b → but xs (map (λ x. record { id = x; rate = at rates x 0 }) (x ∷ ids)) ≡ map (λ x. record { id = x; rate = at rates x 0 }) (filter (λ x. not (has xs x)) (x ∷ ids))
  by_test rest true e = rw e (ap (λ (cs : List Child). told_child rates x ∷ cs) rest)
  by_test rest false e = rw e rest

-- the children that a node tells
pub told_is : (n : Control) → but n.kept.ancestors (told_children n.kept.table n.me n.rates) ≡ children n
told_is n = but_told n.kept.ancestors n.rates (leased_children n.kept.table n.me)
