-- The earlier members that are asked for their positions, one after another.
use Rattle.std.proofs.Common.{◌≡◌, ℕ, zero, suc, ◌-◌, ◌<◌, ◌≤◌, Bool, true, false, nat_lt, List, [], ◌∷◌, refl, ap, sym, ◌∙◌, arith}
use Rattle.std.specs.Prelude.{filter}
use Rattle.oc_model.specs.declared.mode.Mode.TheVariants.{Acting}
use Rattle.oc_model.specs.Checking.{looks_at_each, looks_round}
use Rattle.oc_model.specs.Choice.{below}
use Rattle.oc_model.specs.Plan.{Plan, is_member}
use Rattle.oc_laws_step.proofs.Ranges.{below_lawful}
use Rattle.oc_node.proofs.Ending.{filter_zero}

-- the first, and then the rest
looks_cons : (p : ℕ → Bool) (x : ℕ) (xs : List ℕ) (o : Plan) → looks_at_each (filter p (x ∷ xs)) o ≡ looks_at_each (filter p xs) (looks_at_each (filter p (x ∷ [])) o)
looks_cons p x xs o = by_test (p x) refl where
  by_test : (b : Bool) → p x ≡ b → looks_at_each (filter p (x ∷ xs)) o ≡ looks_at_each (filter p xs) (looks_at_each (filter p (x ∷ [])) o)
  by_test true e = rw e
  by_test false e = rw e

-- the earlier members that are left, the greatest first, past one of them
pub looks_go_on : (other n : ℕ) (o q whole : Plan) → 1 < n → q ≡ looks_at_each (filter (λ x. nat_lt other x) ((n - 1) ∷ [])) o → looks_at_each (filter (λ x. nat_lt other x) (below n)) o ≡ whole → looks_at_each (filter (λ x. nat_lt other x) (below (n - 1))) q ≡ whole
looks_go_on other zero o q whole past e so = absurd (omega arith)
looks_go_on other (suc zero) o q whole past e so = absurd (omega arith)
looks_go_on other (suc (suc k)) o q whole past e so =
    let less : suc (suc k) - 1 ≡ suc k = omega arith in
    let asked : q ≡ looks_at_each (filter (λ x. nat_lt other x) (suc k ∷ [])) o = e ∙ ap (λ (m : ℕ). looks_at_each (filter (λ x. nat_lt other x) (m ∷ [])) o) less in
    ap (λ (m : ℕ). looks_at_each (filter (λ x. nat_lt other x) (below m)) q) less
    ∙ ap (λ (p : Plan). looks_at_each (filter (λ x. nat_lt other x) (below (suc k))) p) asked
    ∙ sym (looks_cons (λ x. nat_lt other x) (suc k) (below (suc k)) o)
    ∙ so

-- no earlier member is left
pub looks_end : (other n : ℕ) (o whole : Plan) → n ≤ 1 → looks_at_each (filter (λ x. nat_lt other x) (below n)) o ≡ whole → o ≡ whole
looks_end other zero o whole over so = so
looks_end other (suc zero) o whole over so = so
looks_end other (suc (suc k)) o whole over so = absurd (omega arith)

-- all earlier members are past no member
pub all_below : (n : ℕ) → filter (λ x. nat_lt 0 x) (below n) ≡ below n
all_below n = filter_zero n (below n) (below_lawful n n (omega arith))

-- an acting chain member asks all earlier members
pub acting_looks : (o : Plan) → is_member o.node ≡ true → looks_round Acting o ≡ looks_at_each (filter (λ x. nat_lt 0 x) (below o.node.me)) o
acting_looks o member = rw member (ap (λ (xs : List ℕ). looks_at_each xs o) (sym (all_below o.node.me)))
