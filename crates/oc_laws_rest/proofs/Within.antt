-- The epoch of a node never falls, and each ask that it sends tells an epoch that it has: the effect of each input on that.
use Rattle.std.proofs.Common.{ℕ, ◌≤◌, Option, Some, None, List, [], ◌∷◌, inl, inr, sym, subst, arith}
use Rattle.std.specs.List.{AllByRecursion}
use Rattle.oc_base.specs.declared.rank.Rank.{Rank}
use Rattle.oc_model.specs.declared.input.Input.{Input}
use Rattle.oc_model.specs.declared.message.Body.{Body}
use Rattle.oc_model.specs.declared.message.Body.TheVariants as bodies
use Rattle.oc_model.specs.declared.message.Message.{Message}
use Rattle.oc_model.specs.Heal.{epoch_in}
use Rattle.oc_model.specs.Node.{Control, Node}
use Rattle.oc_model.specs.Step.{step}
use Rattle.oc_model.proofs.Lists.{all_weaker, all_append}
use Rattle.oc_laws_step.specs.Sound.{IsTable}
use Rattle.oc_laws_world.proofs.Machine.{IsMachine, IsLoose, and_sent}
use Rattle.oc_laws_world.proofs.RankSteps.{Rises, rises_epoch, rises_acting, rises_joined, rises_better}
use Rattle.oc_laws_world.proofs.Walks.{HasCome, walks_step}
use Rattle.oc_laws_rest.proofs.Roots.{any_came}

-- an ask tells an epoch up to this one
abbrev pub IsWithin : ℕ → Body → Type 0
IsWithin e (bodies.Ask seq r) = epoch_in r ≤ e
IsWithin e b = Unit {0}

pub within_up : (e f : ℕ) → e ≤ f → (b : Body) → IsWithin e b → IsWithin f b
within_up e f low (bodies.Ask seq r) h = omega (arith, low, h)
within_up e f low b h = tt

loose_within : (e : ℕ) (b : Body) → IsLoose b → IsWithin e b
loose_within e (bodies.Ask seq r) loose = absurd loose
loose_within e b loose = tt

epoch_rises : (a b : Option Rank) → Rises a b → epoch_in a ≤ epoch_in b
epoch_rises None b h = omega arith
epoch_rises (Some a) None h = absurd h
epoch_rises (Some a) (Some b) (inl e) = subst (λ (r : Rank). a.epoch ≤ r.epoch) (sym e) (omega arith)
epoch_rises (Some a) (Some b) (inr (inl more)) = omega (arith, more)
epoch_rises (Some a) (Some b) (inr (inr same)) = let even = same.0 in omega (arith, even)

-- an epoch that is at least this, and asks that tell no greater one
abbrev AreWithin : ℕ → Control → List Message → Type 0
AreWithin low n ms = (low ≤ epoch_in n.kept.rank) × AllByRecursion (λ s. IsWithin (epoch_in n.kept.rank) s.body) ms

risen : (low e f : ℕ) (ms : List Message) → e ≤ f → (low ≤ e) × AllByRecursion (λ s. IsWithin e s.body) ms → (low ≤ f) × AllByRecursion (λ s. IsWithin f s.body) ms
risen low e f ms up h = (omega (arith, up, h.0), all_weaker (λ (s : Message). IsWithin e s.body) (λ (s : Message). IsWithin f s.body) (λ s within. within_up e f up s.body within) ms h.1)

said : (low : ℕ) (n : Control) (ms : List Message) (p : ℕ) (b : Body) → IsWithin (epoch_in n.kept.rank) b → AreWithin low n ms → AreWithin low n (and_sent n ms p b)
said low n ms p b is h = (h.0, all_append (λ (s : Message). IsWithin (epoch_in n.kept.rank) s.body) ms (record { from = n.me; to = p; body = b } ∷ []) h.1 (is, tt))

within_machine : (low : ℕ) → IsMachine any_came (AreWithin low)
within_machine low = record {
  soft = λ n ms s h. h;
  lists = λ n ms leases rates counts h. h;
  aside = λ n ms ancestors measures h. h;
  falls = λ n ms h. h;
  asks = λ n ms p e1 h. h;
  acts = λ n ms h. risen low (epoch_in n.kept.rank) _ ms (epoch_rises n.kept.rank (Some _) (rises_acting n.kept.rank)) h;
  raises = λ n ms e e1 above h. risen low (epoch_in n.kept.rank) e ms (epoch_rises n.kept.rank (Some _) (rises_epoch n.kept.rank e above)) h;
  joins = λ n ms p r xs e1 e2 shallow before h. risen low (epoch_in n.kept.rank) _ ms (epoch_rises n.kept.rank (Some _) (rises_joined n.kept.rank r shallow before)) h;
  ranks = λ n ms p upto r xs e1 e2 better h. risen low (epoch_in n.kept.rank) _ ms (epoch_rises n.kept.rank (Some _) (rises_better n.kept.rank r better)) h;
  acks = λ n ms p upto r xs e1 e2 e3 h. h;
  adopts = λ n ms x s r e1 e2 e3 h. h;
  merges = λ n ms x s upto rate number clients certs c e1 e2 e3 h. h;
  ends = λ n ms x k e1 e2 e3 h. h;
  counts = λ n ms clients e1 h. h;
  says = λ n ms p b loose h. said low n ms p b (loose_within (epoch_in n.kept.rank) b loose) h;
  says_ask = λ n ms p e1 h. said low n ms p (bodies.Ask n.kept.seq n.kept.rank) (omega arith) h;
  says_yes = λ n ms y s r e1 e2 e3 h. said low n ms y _ tt h;
  says_check_in = λ n ms p rate e1 h. said low n ms p _ tt h;
  says_check_ack = λ n ms y s upto rate number clients certs e1 e2 h. said low n ms y _ tt h;
  drops = λ n ms h. (h.0, tt);
  starts = λ n ms h. h;
}

pub step_within : (low : ℕ) (n : Node) (i : Input) → IsTable n.control.kept.table → HasCome any_came i → low ≤ epoch_in n.control.kept.rank → AreWithin low (step n i).node.control (step n i).sends
step_within low n i is_table came least = walks_step any_came (AreWithin low) (within_machine low) n i is_table came (least, tt)
