-- A node that neither asks nor is joined, and whose ask number stays, sends no ask and no check-in: the effect of each input on that.
use Rattle.std.proofs.Common.{◌≡◌, ℕ, ◌≤◌, List, [], ◌∷◌, subst, arith}
use Rattle.std.specs.List.{AllByRecursion}
use Rattle.oc_model.specs.declared.input.Input.{Input}
use Rattle.oc_model.specs.declared.message.Body.{Body}
use Rattle.oc_model.specs.declared.message.Body.TheVariants as bodies
use Rattle.oc_model.specs.declared.message.Message.{Message}
use Rattle.oc_model.specs.declared.mode.Mode.{Mode}
use Rattle.oc_model.specs.declared.mode.Mode.TheVariants as modes
use Rattle.oc_model.specs.Node.{Control, Node}
use Rattle.oc_model.specs.Step.{step}
use Rattle.oc_model.proofs.Lists.{all_append}
use Rattle.oc_laws_step.specs.Sound.{IsTable}
use Rattle.oc_laws_world.proofs.Machine.{IsMachine, IsLoose, and_sent}
use Rattle.oc_laws_world.proofs.Walks.{HasCome, walks_step}
use Rattle.oc_laws_rest.proofs.Roots.{any_came}

-- neither an ask nor a check-in
abbrev pub IsMild : Body → Type 0
IsMild (bodies.Ask seq rank) = ⊥
IsMild (bodies.CheckIn seq upto rate number clients certs) = ⊥
IsMild b = Unit {0}

loose_mild : (b : Body) → IsLoose b → IsMild b
loose_mild (bodies.Ask seq rank) loose = absurd loose
loose_mild (bodies.CheckIn seq upto rate number clients certs) loose = absurd loose
loose_mild b loose = tt

-- no parent, and none that is asked
abbrev pub IsAlone : Mode → Type 0
IsAlone (modes.Asking p) = ⊥
IsAlone (modes.Joined p) = ⊥
IsAlone mode = Unit {0}

not_asking : (k : Mode) (p : ℕ) → k ≡ modes.Asking p → IsAlone k → ⊥
not_asking k p e alone = subst IsAlone e alone

not_joined : (k : Mode) (p : ℕ) → k ≡ modes.Joined p → IsAlone k → ⊥
not_joined k p e alone = subst IsAlone e alone

-- while the ask number is still this one
abbrev AreMild : ℕ → Control → List Message → Type 0
AreMild s n ms = (s ≤ n.kept.seq) × (n.kept.seq ≡ s → IsAlone n.kept.mode × AllByRecursion (λ m. IsMild m.body) ms)

mild_sent : (s : ℕ) (n : Control) (ms : List Message) (p : ℕ) (b : Body) → (n.kept.seq ≡ s → IsAlone n.kept.mode → IsMild b) → AreMild s n ms → AreMild s n (and_sent n ms p b)
mild_sent s n ms p b is h = (h.0, λ e. ((h.1 e).0, all_append (λ (m : Message). IsMild m.body) ms (record { from = n.me; to = p; body = b } ∷ []) (h.1 e).1 (is e (h.1 e).0, tt)))

mild_machine : (s : ℕ) → IsMachine any_came (AreMild s)
mild_machine s = record {
  soft = λ n ms soft h. h;
  lists = λ n ms leases rates counts h. h;
  aside = λ n ms ancestors measures h. h;
  falls = λ n ms h. (h.0, λ e. (tt, (h.1 e).1));
  asks = λ n ms p e1 h. (let low = h.0 in omega (arith, low), λ e. let low = h.0 in absurd (omega (arith, e, low)));
  acts = λ n ms h. (h.0, λ e. (tt, (h.1 e).1));
  raises = λ n ms e e1 e2 h. h;
  joins = λ n ms p r xs e1 asking e3 e4 h. (h.0, λ e. absurd (not_asking n.kept.mode p asking (h.1 e).0));
  ranks = λ n ms p upto r xs e1 e2 e3 h. h;
  acks = λ n ms p upto r xs e1 e2 e3 h. h;
  adopts = λ n ms y t r e1 e2 e3 h. h;
  merges = λ n ms y t upto rate number clients certs c e1 e2 e3 h. h;
  ends = λ n ms y k e1 e2 e3 h. h;
  counts = λ n ms clients e1 h. h;
  says = λ n ms p b loose h. mild_sent s n ms p b (λ e alone. loose_mild b loose) h;
  says_ask = λ n ms p asking h. mild_sent s n ms p (bodies.Ask n.kept.seq n.kept.rank) (λ e alone. not_asking n.kept.mode p asking alone) h;
  says_yes = λ n ms y t r e1 e2 e3 h. mild_sent s n ms y _ (λ e alone. tt) h;
  says_check_in = λ n ms p rate joined h. mild_sent s n ms p _ (λ e alone. not_joined n.kept.mode p joined alone) h;
  says_check_ack = λ n ms y t upto rate number clients certs e1 e2 h. mild_sent s n ms y _ (λ e alone. tt) h;
  drops = λ n ms h. (h.0, λ e. ((h.1 e).0, tt));
  starts = λ n ms h. h;
}

pub step_mild : (n : Node) (i : Input) → IsTable n.control.kept.table → HasCome any_came i → IsAlone n.control.kept.mode → (step n i).node.control.kept.seq ≡ n.control.kept.seq → AllByRecursion (λ m. IsMild m.body) (step n i).sends
step_mild n i is_table came alone same = ((walks_step any_came (AreMild n.control.kept.seq) (mild_machine n.control.kept.seq) n i is_table came (omega arith, λ e. (alone, tt))).1 same).1
