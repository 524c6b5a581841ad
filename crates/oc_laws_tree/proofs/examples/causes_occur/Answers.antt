use Rattle.std.proofs.Common.{◌≡◌, true, false, [], ◌∷◌, inl, inr, refl, arith}
use Rattle.oc_laws_tree.proofs.examples.causes_occur.Goals as goal

pub returns-clause-wrong : goal.returns-clause-wrong
returns-clause-wrong c = (
  refl,
  (
    λ e. omega (arith, e),
    (
      2 ∷ 1 ∷ [],
      2,
      1,
      (refl, λ e. omega (arith, e), refl, (refl, refl)),
      inr (refl, refl, λ link. absurd (down link.0), tt),
      inl (record { subject = 2; seq = 1; parent = 1; dead = false; number = 0; clients = 0 }, refl, refl),
    ),
  ),
) where
  down : false ≡ true → ⊥
  down e = absurd cc

pub returns-clause-untold : goal.returns-clause-untold
returns-clause-untold c = (
  ((refl, refl), refl, refl, (record { subject = 3; seq = 1; parent = 2; dead = false; number = 0; clients = 0 }, refl, omega arith)),
  (record { subject = 3; seq = 1; parent = 2; dead = false; number = 0; clients = 0 }, refl, omega arith),
)

pub returns-clause-waiting : goal.returns-clause-waiting
returns-clause-waiting c = (
  ((refl, refl), refl, refl, (record { subject = 3; seq = 1; parent = 2; dead = false; number = 0; clients = 0 }, refl, omega arith)),
  (3 ∷ 2 ∷ 1 ∷ [], (refl, refl, refl, (refl, refl, refl, (refl, refl, (refl, refl)))), inr (inl (inl (record { subject = 3; seq = 1; parent = 2; dead = false; number = 1; clients = 1 }, inl refl, refl)))),
)
