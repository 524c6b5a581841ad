-- Whom a node asks or is joined to, it has dialled: the effect of each input on that.
use Rattle.std.proofs.Common.{◌≡◌, ℕ, max, true, Option, List, ◌⊎◌, inl, inr, refl, ap, subst, ◌∙◌, ⊎_elim, eqb-true, eq-eqb}
use Rattle.oc_base.specs.declared.rank.Rank.{Rank}
use Rattle.oc_model.specs.declared.input.Input.{Input}
use Rattle.oc_model.specs.declared.input.Input.TheVariants.{Tick, Unreachable, Delivered}
use Rattle.oc_model.specs.declared.message.Body.{Body}
use Rattle.oc_model.specs.declared.message.Body.TheVariants as bodies
use Rattle.oc_model.specs.declared.message.Message.{Message}
use Rattle.oc_model.specs.declared.mode.Mode.{Mode}
use Rattle.oc_model.specs.declared.mode.Mode.TheVariants as modes
use Rattle.oc_model.specs.Checking.{is_due, is_peer}
use Rattle.oc_model.specs.Node.{Node}
use Rattle.oc_model.specs.Numbers.{IsAmong}
use Rattle.oc_model.specs.Step.{step}
use Rattle.oc_laws_rest.specs.Rounds.{is_dial}
use Rattle.oc_laws_rest.proofs.Said.{Has, Had, HadNone, HasReported}
use Rattle.oc_laws_rest.proofs.Said as said

-- a message by which x begins a connection to p
pub record IsDial (x p : ℕ) (m : Message) : Type 0 where
  pub from : m.from ≡ x
  pub to : m.to ≡ p
  pub dials : is_dial m.body ≡ true

-- one of these is such a message
pub record Dials (x : ℕ) (ms : List Message) (p : ℕ) : Type 0 where
  pub message : Message
  pub among : IsAmong message ms
  pub is : IsDial x p message

module _ (x : ℕ) (B : ℕ → Type 0) where
  -- B holds of each node that x asks or is joined to
  abbrev Asked : ℕ → ℕ → Option Rank → Type 0
  Asked p s r = B p

  abbrev Joined : ℕ → ℕ → Type 0
  Joined p s = B p

  -- or x has dialled it in this step
  has_dialled : (m : Mode) (s : ℕ) (r : Option Rank) (ms : List Message) → Has x Asked Joined m s r ms → (p : ℕ) → is_peer m p ≡ true → B p ⊎ Dials x ms p
  has_dialled (modes.Asking q) s r ms h p peer = ⊎_elim
      (λ b. inl (subst B (eqb-true q p peer) b))
      (λ one. inr record { message = record { from = x; to = q; body = bodies.Ask s r }; among = one; is = record { from = refl; to = eqb-true q p peer; dials = refl } })
      h
  has_dialled (modes.Joined q) s r ms h p peer = ⊎_elim
      (λ b. inl (subst B (eqb-true q p peer) b))
      (λ (has : HasReported ms x q s).
      inr record { message = record { from = x; to = q; body = bodies.CheckIn s has.0 has.1 has.2 has.3 has.4 }; among = has.5; is = record { from = refl; to = eqb-true q p peer; dials = refl } })
      h
  has_dialled modes.Idle s r ms h p peer = absurd cc
  has_dialled modes.Acting s r ms h p peer = absurd cc

  had_each : (q : ℕ) (b : Body) (m : Mode) (s : ℕ) (r : Option Rank) → ((p : ℕ) → is_peer m p ≡ true → B p) → Had x Asked Joined q b m s r
  had_each q b (modes.Asking p) s r had = inl (had p (eq-eqb p p refl))
  had_each q b (modes.Joined p) s r had = inl (had p (eq-eqb p p refl))
  had_each q b modes.Idle s r had = tt
  had_each q b modes.Acting s r had = tt

  had_but : (q : ℕ) (m : Mode) (s : ℕ) (r : Option Rank) → ((p : ℕ) → is_peer m p ≡ true → (p ≡ q) ⊎ B p) → HadNone x Asked Joined q m s r
  had_but q (modes.Asking p) s r had = ⊎_elim (λ same. inr same) (λ b. inl b) (had p (eq-eqb p p refl))
  had_but q (modes.Joined p) s r had = ⊎_elim (λ same. inr same) (λ b. inl b) (had p (eq-eqb p p refl))
  had_but q modes.Idle s r had = tt
  had_but q modes.Acting s r had = tt

  -- what a step leaves
  abbrev pub HasTied : Node → Input → Type 0
  HasTied n i = (p : ℕ) → is_peer (step n i).node.control.kept.mode p ≡ true → B p ⊎ Dials x (step n i).sends p

  after_step : (n : Node) (i : Input) → Has x Asked Joined (step n i).node.control.kept.mode (step n i).node.control.kept.seq (step n i).node.control.kept.rank (step n i).sends → HasTied n i
  after_step n i h = has_dialled (step n i).node.control.kept.mode (step n i).node.control.kept.seq (step n i).node.control.kept.rank (step n i).sends h

  pub step_ticks : (n : Node) (t : ℕ) → n.control.me ≡ x → is_due n.control.soft.due (max n.control.soft.clock t) ≡ true → HasTied n (Tick t)
  step_ticks n t me due = after_step n (Tick t) (said.step_ticks x Asked Joined n t me due)

  pub step_fails : (n : Node) (q : ℕ) → n.control.me ≡ x → ((p : ℕ) → is_peer n.control.kept.mode p ≡ true → (p ≡ q) ⊎ B p) → HasTied n (Unreachable q)
  step_fails n q me had = after_step n (Unreachable q) (said.step_fails x Asked Joined n q me (had_but q n.control.kept.mode n.control.kept.seq n.control.kept.rank had))

  pub step_receives : (n : Node) (m : Message) → n.control.me ≡ x → ((p : ℕ) → is_peer n.control.kept.mode p ≡ true → B p) → HasTied n (Delivered m)
  step_receives n m me had =
      after_step n (Delivered m)
      (said.step_receives x Asked Joined n m me
      (λ seq r xs body asking same. let b : B m.from = had m.from (ap (λ (k : Mode). is_peer k m.from) asking ∙ eq-eqb m.from m.from refl) in ((λ _. b), (λ _. b)))
      (had_each m.from m.body n.control.kept.mode n.control.kept.seq n.control.kept.rank had))
