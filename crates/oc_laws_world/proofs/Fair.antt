-- The changes of groups, messages and the source that a step may make, of which each rule consists.
use Rattle.std.proofs.Common.{◌≡◌, ℕ, List, [], refl, sym, subst, ◌∙◌}
use Rattle.std.specs.List.{AllByRecursion}
use Rattle.oc_base.specs.declared.group.Group.{Group}
use Rattle.oc_model.specs.declared.message.Message.{Message}
use Rattle.oc_base.specs.Groups.{with_group}
use Rattle.oc_model.specs.Node.{Node, Outcome}
use Rattle.oc_model.proofs.Groups.{ascend-with_group}
use Rattle.oc_laws_world.proofs.Truth.{Grows, grows_itself, grows_with, MayReplace, IsHeld, Holds, holds_with, holds_same, AreSame, same_with, IsTrue}

-- a node with groups of this source, and with all of them if it is node 1
pub record Ready (s : List Group) (n : Node) : Type 0 where
  pub holds : Holds s n.groups
  pub own : n.control.me ≡ 1 → AreSame n.groups s

-- a message that a node with this id and these groups may send, with the source as given
abbrev pub MaySend : List Group → ℕ → List Group → Message → Type 0
MaySend s me ks m = (m.from ≡ me) × IsTrue s ks m.body

-- an outcome that keeps content true, as the source goes from s to s'
pub record Fair (s s' : List Group) (n : Node) (o : Outcome) : Type 0 where
  pub me : o.node.control.me ≡ n.control.me
  pub groups : Grows n.groups o.node.groups
  pub source : Grows s s'
  pub ready : Ready s' o.node
  pub away : (n.control.me ≡ 1 → ⊥) → s' ≡ s
  pub sends : AllByRecursion (MaySend s' n.control.me o.node.groups) o.sends

-- an outcome that leaves the groups unchanged, as that of every rule except rule 14, content
pub fair_still : (s : List Group) (n : Node) (o : Outcome) → Ready s n → o.node.control.me ≡ n.control.me → o.node.groups ≡ n.groups → AllByRecursion (MaySend s n.control.me n.groups) o.sends → Fair s s n o
fair_still s n o ready me same sent = record {
  me = me;
  groups = subst (λ ks. Grows n.groups ks) (sym same) (grows_itself n.groups);
  source = grows_itself s;
  ready = record { holds = subst (λ ks. Holds s ks) (sym same) ready.holds; own = λ e. subst (λ ks. AreSame ks s) (sym same) (ready.own (sym me ∙ e)) };
  away = λ _. refl;
  sends = subst (λ ks. AllByRecursion (MaySend s n.control.me ks) o.sends) (sym same) sent;
}

-- node 1 keeps a group, and the source keeps the same
pub fair_source : (s : List Group) (n : Node) (k : Group) (o : Outcome) → Ready s n → n.control.me ≡ 1 → MayReplace k n.groups
    → o.node.control.me ≡ n.control.me → o.node.groups ≡ with_group k n.groups → o.sends ≡ [] → Fair s (with_group k s) n o
fair_source s n k o ready first may me groups none =
    let same = ready.own first in
    let after : AreSame (with_group k n.groups) (with_group k s) = same_with k n.groups s same in
    record {
      me = me;
      groups = subst (λ ks. Grows n.groups ks) (sym groups) (grows_with k n.groups may);
      source = grows_with k s (λ t h. may t (same k.name ∙ h));
      ready = record {
        holds = subst (λ ks. Holds (with_group k s) ks) (sym groups) (holds_same (with_group k s) (with_group k n.groups) (ascend-with_group k n.groups ready.holds.ascend) after);
        own = λ _. subst (λ ks. AreSame ks (with_group k s)) (sym groups) after;
      };
      away = λ other. absurd (other first);
      sends = subst (λ ms. AllByRecursion (MaySend (with_group k s) n.control.me o.node.groups) ms) (sym none) tt;
    }

-- node 1 keeps nothing, and the source is another list of the same groups
pub fair_same : (s s' : List Group) (n : Node) (o : Outcome) → Ready s n → n.control.me ≡ 1 → AreSame s' s
    → o.node.control.me ≡ n.control.me → o.node.groups ≡ n.groups → o.sends ≡ [] → Fair s s' n o
fair_same s s' n o ready first same me groups none =
    let after : AreSame n.groups s' = λ g. ready.own first g ∙ sym (same g) in
    record {
      me = me;
      groups = subst (λ ks. Grows n.groups ks) (sym groups) (grows_itself n.groups);
      source = λ g k h. grows_itself s' g k (same g ∙ h);
      ready = record {
        holds = subst (λ ks. Holds s' ks) (sym groups) (holds_same s' n.groups ready.holds.ascend after);
        own = λ _. subst (λ ks. AreSame ks s') (sym groups) after;
      };
      away = λ other. absurd (other first);
      sends = subst (λ ms. AllByRecursion (MaySend s' n.control.me o.node.groups) ms) (sym none) tt;
    }

-- another node keeps a group of which the source has at least as much
pub fair_keeps : (s : List Group) (n : Node) (k : Group) (o : Outcome) → Ready s n → (n.control.me ≡ 1 → ⊥) → MayReplace k n.groups → IsHeld s k.name k
    → o.node.control.me ≡ n.control.me → o.node.groups ≡ with_group k n.groups → AllByRecursion (MaySend s n.control.me (with_group k n.groups)) o.sends → Fair s s n o
fair_keeps s n k o ready other may held me groups sent = record {
  me = me;
  groups = subst (λ ks. Grows n.groups ks) (sym groups) (grows_with k n.groups may);
  source = grows_itself s;
  ready = record {
    holds = subst (λ ks. Holds s ks) (sym groups) (holds_with s k n.groups ready.holds held);
    own = λ first. absurd (other (sym me ∙ first));
  };
  away = λ _. refl;
  sends = subst (λ ks. AllByRecursion (MaySend s n.control.me ks) o.sends) (sym groups) sent;
}
