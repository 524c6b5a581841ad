-- Ascending tables: every node of every world has one, so that laws need not say so.
use Rattle.std.proofs.Common.{ℕ, true, List}
use Rattle.std.specs.List.{range_with_len}
use Rattle.std.proofs.Common.{sym, subst}
use Rattle.oc_model.specs.declared.event.Act.{Act}
use Rattle.oc_model.specs.declared.event.Event.{Event}
use Rattle.oc_model.specs.declared.message.Message.{Message}
use Rattle.oc_model.specs.Adopting.{birth}
use Rattle.oc_model.specs.NextWorld.{next_world}
use Rattle.oc_model.specs.Node.{Header, Control}
use Rattle.oc_model.specs.World.{World, Process, process, after_act, new_world}
use Rattle.oc_model.proofs.Processes.{IsNew, process_in-new}
use Rattle.oc_laws_step.specs.Sound.{IsTable}
use Rattle.oc_laws_step.proofs.Tables.{table_merge}
use Rattle.oc_laws_world.specs.Throughout.{Throughout}
use Rattle.oc_laws_world.proofs.Lifts.{HasSent, IsLaw, AreTables, at_each, lift_act, lift_event}
use Rattle.oc_laws_world.proofs.Machine.{IsMachine, both_kept}
use Rattle.oc_laws_world.proofs.Passing.{passing_throughout}

-- two laws hold together
pub both_laws : (J K : World → Type 0) (P Q : World → ℕ → Control → List Message → Type 0) → IsLaw J P → IsLaw K Q → IsLaw (λ w. J w × K w) (λ w x n ms. P w x n ms × Q w x n ms)
both_laws J K P Q first second = record {
  begins = λ w x holds. (first.begins w x holds.0, second.begins w x holds.1);
  keeps = λ w x holds. both_kept (HasSent w x) (P w x) (Q w x) (first.keeps w x holds.0) (second.keeps w x holds.1);
  ends = λ w v x n ms holds becomes h. (first.ends w v x n ms holds.0 becomes h.0, second.ends w v x n ms holds.1 becomes h.1);
}

-- a node with an ascending table
abbrev pub HasTable : World → ℕ → Control → List Message → Type 0
HasTable w x n ms = IsTable n.kept.table

-- the small changes leave a table ascending
tables_kept : (w : World) (x : ℕ) → IsMachine (HasSent w x) (HasTable w x)
tables_kept w x = record {
  soft = λ n ms s h. h;
  lists = λ n ms leases rates counts h. h;
  aside = λ n ms ancestors measures h. h;
  falls = λ n ms h. h;
  asks = λ n ms p e1 h. h;
  acts = λ n ms h. h;
  raises = λ n ms e e1 e2 h. h;
  joins = λ n ms p r xs e1 e2 e3 e4 h. h;
  ranks = λ n ms p upto r xs e1 e2 e3 h. h;
  acks = λ n ms p upto r xs e1 e2 e3 h. h;
  adopts = λ n ms x s r e1 e2 e3 h. table_merge n.kept.table (birth x s n.me) h;
  merges = λ n ms x s upto rate number clients certs c e1 e2 e3 h. table_merge n.kept.table c h;
  ends = λ n ms x k e1 e2 e3 h. table_merge n.kept.table (record k { dead = true }) h;
  counts = λ n ms clients e1 h. h;
  says = λ n ms p b e1 h. h;
  says_ask = λ n ms p e1 h. h;
  says_yes = λ n ms x s r e1 e2 e3 h. h;
  says_check_in = λ n ms p rate e1 h. h;
  says_check_ack = λ n ms x s upto rate number clients certs e1 e2 h. h;
  drops = λ n ms h. h;
  starts = λ n ms h. h;
}

pub tables_law : IsLaw AreTables HasTable
tables_law = record {
  begins = λ w x holds. holds x;
  keeps = λ w x holds. tables_kept w x;
  ends = λ w v x n ms holds becomes h. at_each w v x n ms becomes (λ y c. IsTable c.kept.table) h (λ y apart. holds y);
}

-- a law together with ascending tables
abbrev pub Tabled : (World → Type 0) → World → Type 0
Tabled J w = AreTables w × J w

abbrev TabledNode : (World → ℕ → Control → List Message → Type 0) → World → ℕ → Control → List Message → Type 0
TabledNode P w x n ms = HasTable w x n ms × P w x n ms

tabled : (J : World → Type 0) (P : World → ℕ → Control → List Message → Type 0) → IsLaw J P → IsLaw (Tabled J) (TabledNode P)
tabled J P law = both_laws AreTables J HasTable P tables_law law

-- a new world has ascending tables
pub tables_new : (h : Header) → AreTables (new_world h)
tables_new h x =
    let new : IsNew x (process (new_world h) x) = process_in-new h (range_with_len 1 h.nodes) x in
    subst (λ (p : Process). IsTable p.node.control.kept.table) (sym new.1) tt

module _ (J : World → Type 0) (P : World → ℕ → Control → List Message → Type 0) (law : IsLaw J P) where
  -- each act and each event keeps such a law
  pub tabled_act : (w : World) (a : Act) → Tabled J w → Tabled J (after_act w a)
  tabled_act w a holds = lift_act (Tabled J) (TabledNode P) (tabled J P law) (λ v k. k.0) w a holds

  pub tabled_event : (w : World) (e : Event) → Tabled J w → Tabled J (next_world w e)
  tabled_event w e holds = lift_event (Tabled J) (TabledNode P) (tabled J P law) (λ v k. k.0) w e holds

  -- a consequence of such a law holds of each world on the way from a new one
  pub tabled_throughout : (Q : World → Type 0) → ((w : World) → Tabled J w → Q w) → (h : Header) (events : List Event) → J (new_world h) → Throughout Q (new_world h) events
  tabled_throughout Q follows h events holds = passing_throughout (Tabled J) tabled_act tabled_event Q follows (new_world h) (tables_new h, holds) events

  -- the same for a law that says nothing of tables
  pub law_event : (w : World) (e : Event) → AreTables w → J w → J (next_world w e)
  law_event w e tables holds = (tabled_event w e (tables, holds)).1

  pub law_throughout : (Q : World → Type 0) → ((w : World) → J w → Q w) → (h : Header) (events : List Event) → J (new_world h) → Throughout Q (new_world h) events
  law_throughout Q follows h events holds = tabled_throughout Q (λ w k. follows w k.1) h events holds
