-- The move of a node that is not in place below the chain member before it: its conditions, and the properties that it keeps.
use Rattle.std.proofs.Common.{◌≡◌, ℕ, ◌+◌, ◌-◌, ◌≤◌, ◌<◌, Bool, true, false, not, ◌&&◌, ◌||◌, ◌==◌, nat_lt, nat_le, if◌then◌else◌, Option, Some, None, List, [], ◌∷◌, inl, inr, length, refl, ap, sym, subst, ◌∙◌, ⊎_elim, arith, leb-true, lt-ltb, ltb-true, eqb-true}
use Rattle.std.proofs.lemmas.Bool.{cases_eq, and_parts, and_from, le-leb, or_right, or_cases, false_from_ne_true}
use Rattle.oc_base.specs.declared.refusal.Refusal.TheVariants as refusals
use Rattle.oc_model.specs.Adopting.{host}
use Rattle.oc_model.specs.Adoption.{chain_child, chain_refusal}
use Rattle.oc_model.specs.Chains.{IsUp, IsJoined, IsRoot, IsTrueChain}
use Rattle.oc_model.specs.ClaimsTree.{table_of, seq_of}
use Rattle.oc_model.specs.Heal.{AreLeased, IsPlaced}
use Rattle.oc_model.specs.Node.{Header, Control}
use Rattle.oc_model.specs.Ready.{HoldsLease, IsLeased}
use Rattle.oc_model.specs.Table.{leased_children}
use Rattle.oc_model.specs.World.{World, is_up}
use Rattle.oc_model.specs.WorldBounds.{IsOneOf}
use Rattle.oc_model.proofs.Members.{found_by, found_passes}
use Rattle.oc_laws_step.specs.Sound.{IsTable}
use Rattle.oc_laws_tree.proofs.LeaseTicks.{leased_among}
use Rattle.oc_laws_tree.proofs.SoundNodes.{AreSound}
use Rattle.oc_laws_tree.proofs.Points.{sound_after}
use Rattle.oc_laws_tree.proofs.Children.{found_one, child_leased, found_least}
use Rattle.oc_laws_tree.proofs.Descending.{link_held}
use Rattle.oc_laws_tree.proofs.Held.{Stays, IsHeld, IsCurrent}
use Rattle.oc_laws_tree.proofs.LineHolds.{earlier_parent}
use Rattle.oc_laws_tree.proofs.Reached.{Reached, of_reached}
use Rattle.oc_laws_tree.proofs.Spans.{up_id}

-- Chains of members

-- each member of the chain is an earlier one than the node below it
pub record IsClimb (m y : ℕ) (c : List ℕ) : Type 0 where
  pub above : m ≤ y
  pub short : length c ≤ y - m + 1
  pub below : (z : ℕ) → IsOneOf z c → z ≤ y

pub chain_climbs : (h : Header) (w : World) (m y : ℕ) (c : List ℕ) → Reached h w → y ≤ h.chain → IsTrueChain w y m c → IsClimb m y c
chain_climbs h w m y [] reached member chain = absurd chain
chain_climbs h w m y (a ∷ []) reached member chain = record {
  above = omega (arith, chain.1);
  short = omega arith;
  below = λ z one. ⊎_elim (λ same. omega (arith, same, chain.0)) (λ none. absurd none) one;
}
chain_climbs h w m y (a ∷ d ∷ ds) reached member chain =
    let less : d < y = earlier_parent h w y d reached (up_id h w y reached chain.1) member chain.2 in
    let rest : IsClimb m d (d ∷ ds) = chain_climbs h w m d (d ∷ ds) reached (omega (arith, less, member)) chain.3 in
    record {
      above = omega (arith, rest.above, less);
      short = omega (arith, rest.short, rest.above, less);
      below = λ z one. ⊎_elim (λ same. omega (arith, same, chain.0)) (λ later. omega (arith, rest.below z later, less)) one;
    }

-- a node on a chain that is leased is in place
pub placed_member : (w : World) (m y x : ℕ) (c : List ℕ) → IsTrueChain w y m c → AreLeased w c → IsOneOf x c → IsPlaced w m x
placed_member w m y x [] chain leased one = absurd one
placed_member w m y x (a ∷ []) chain leased (inl same) = (a ∷ [], subst (λ z. IsTrueChain w z m (a ∷ [])) (sym (same ∙ chain.0)) chain, tt)
placed_member w m y x (a ∷ []) chain leased (inr none) = absurd none
placed_member w m y x (a ∷ d ∷ ds) chain leased (inl same) = (a ∷ d ∷ ds, subst (λ z. IsTrueChain w z m (a ∷ d ∷ ds)) (sym (same ∙ chain.0)) chain, leased)
placed_member w m y x (a ∷ d ∷ ds) chain leased (inr later) = placed_member w m d x (d ∷ ds) chain.3 leased.1 later

-- the child of the root on a chain of more than one node
pub top_child : (w : World) (m y : ℕ) (c : List ℕ) → IsTrueChain w y m c → AreLeased w c → (y ≡ m → ⊥) → (a : ℕ) × IsOneOf a c × IsHeld w m a
top_child w m y [] chain leased other = absurd chain
top_child w m y (a ∷ []) chain leased other = absurd (other chain.1)
top_child w m y (a ∷ d ∷ ds) chain leased other = ⊎_elim
    (λ (same : d ≡ m). (y, inl (sym chain.0), subst (λ z. IsHeld w z y) same (link_held w y d m ds (refl, chain.1, chain.2, chain.3) (subst (IsLeased w) chain.0 leased.0))))
    (λ apart. let top = top_child w m d (d ∷ ds) chain.3 leased.1 apart in (top.0, inr top.1, top.2))
    (cases_eq d m)

-- a node that is joined to a node in place, and has its lease there, is in place
pub placed_beneath : (w : World) (m q x : ℕ) → IsHeld w q x → IsPlaced w m q → IsPlaced w m x
placed_beneath w m q x held ([], chain, leased) = absurd chain
placed_beneath w m q x held (a ∷ [], chain, leased) =
    (x ∷ a ∷ [], (refl, held.up, subst (IsJoined w x) (sym chain.0) held.joined, subst (λ z. IsTrueChain w z m (a ∷ [])) (sym chain.0) chain), ((q, held.joined, held.lease), leased))
placed_beneath w m q x held (a ∷ d ∷ ds, chain, leased) =
    (x ∷ a ∷ d ∷ ds, (refl, held.up, subst (IsJoined w x) (sym chain.0) held.joined, subst (λ z. IsTrueChain w z m (a ∷ d ∷ ds)) (sym chain.0) chain), ((q, held.joined, held.lease), leased))

-- The properties that step 3 keeps

-- m acts as root and is the least member that is up, and leases of members are current
pub record IsHealing (h : Header) (m : ℕ) (w : World) : Type 0 where
  pub reached : Reached h w
  pub root : IsRoot w m
  pub member : m ≤ h.chain
  pub least : (y : ℕ) → IsUp w y → y ≤ h.chain → m ≤ y
  pub current : (y z s : ℕ) → IsUp w y → z ≤ h.chain → HoldsLease w y z s → IsCurrent w y z s

-- a change at x: all other nodes keep their places and leases
pub record ChangesAt (h : Header) (x : ℕ) (w v : World) : Type 0 where
  pub reached : Reached h v
  pub up : (y : ℕ) → is_up v y ≡ is_up w y
  pub stays : (y : ℕ) → (x ≡ y → ⊥) → Stays w v y
  pub seqs : (y : ℕ) → (x ≡ y → ⊥) → seq_of v y ≡ seq_of w y
  pub current : (y z s : ℕ) → IsUp v y → z ≤ h.chain → HoldsLease v y z s → IsCurrent v y z s
  pub leases : (y z : ℕ) → (x ≡ z → ⊥) → IsHeld w y z → HoldsLease v y z (seq_of w z)

pub healing_on : (h : Header) (m x : ℕ) (w v : World) → IsHealing h m w → (x ≡ m → ⊥) → ChangesAt h x w v → IsHealing h m v
healing_on h m x w v healing other changes = record {
  reached = changes.reached;
  root = (changes.up m ∙ healing.root.0, (changes.stays m other).acts healing.root.1);
  member = healing.member;
  least = λ y up member. healing.least y (sym (changes.up y) ∙ up) member;
  current = changes.current;
}

-- nodes in place stay in place, if their chain does not lead through x
chain_on : (h : Header) (m x : ℕ) (w v : World) → ChangesAt h x w v → (y : ℕ) (c : List ℕ) → IsTrueChain w y m c → AreLeased w c → (IsOneOf x c → ⊥) → IsTrueChain v y m c × AreLeased v c
chain_on h m x w v changes y [] chain leased out = absurd chain
chain_on h m x w v changes y (a ∷ []) chain leased out =
    let stays : Stays w v y = changes.stays y (λ e. out (inl (e ∙ sym chain.0))) in
    ((chain.0, chain.1, (stays.up ∙ chain.2.0, stays.acts chain.2.1)), tt)
chain_on h m x w v changes y (a ∷ d ∷ ds) chain leased out =
    let other : x ≡ y → ⊥ = λ e. out (inl (e ∙ sym chain.0)) in
    let stays : Stays w v y = changes.stays y other in
    let held : IsHeld w d y = link_held w y d m ds (refl, chain.1, chain.2, chain.3) (subst (IsLeased w) chain.0 leased.0) in
    let rest = chain_on h m x w v changes d (d ∷ ds) chain.3 leased.1 (λ one. out (inr one)) in
    let joined : IsJoined v y d = stays.joined d chain.2 in
    let lease : IsLeased v y = (d, joined, subst (HoldsLease v d y) (sym (changes.seqs y other)) (changes.leases d y other held)) in
    ((chain.0, stays.up ∙ chain.1, joined, rest.0), (subst (IsLeased v) (sym chain.0) lease, rest.1))

pub placed_on : (h : Header) (m x : ℕ) (w v : World) → ChangesAt h x w v → (IsPlaced w m x → ⊥) → (y : ℕ) → IsPlaced w m y → IsPlaced v m y
placed_on h m x w v changes loose y (c, chain, leased) =
    let on = chain_on h m x w v changes y c chain leased (λ one. loose (placed_member w m y x c chain leased one)) in
    (c, on.0, on.1)

-- The order of the chain

-- q is the greatest member before x
abbrev pub IsBefore : Header → World → ℕ → ℕ → Type 0
IsBefore h w q x = (k : ℕ) → IsUp w k → k ≤ h.chain → k < x → k ≤ q

table_is : (h : Header) (w : World) (y : ℕ) → Reached h w → IsTable (table_of w y)
table_is h w y reached = (of_reached AreSound sound_after h w reached y).kept.table

-- a member that is a leased child of q is after x
child_behind : (h : Header) (m : ℕ) (w : World) (q x k : ℕ) → IsHealing h m w → IsUp w q → chain_child (table_of w q) q h.chain x ≡ Some k → (k ≤ h.chain) × IsUp w k × (q < k)
child_behind h m w q x k healing up found =
    let test : ℕ → Bool = λ z. nat_le z h.chain && not (z == x) in
    let passes = and_parts (nat_le k h.chain) (not (k == x)) (found_passes test (leased_children (table_of w q) q) k found) in
    let member : k ≤ h.chain = leb-true k h.chain passes.0 in
    let lease = child_leased (table_of w q) q k (table_is h w q healing.reached) (found_one test (leased_children (table_of w q) q) k found) in
    let current : IsCurrent w q k lease.0 = healing.current q k lease.0 up member lease.1 in
    (member, current.0, earlier_parent h w k q healing.reached (up_id h w k healing.reached current.0) member current.1)

-- the order of the chain gives no reason to refuse x at the greatest member before it
pub line_free : (h : Header) (m : ℕ) (w : World) (q x : ℕ) (n : Control) → IsHealing h m w → IsUp w q → IsBefore h w q x → n.kept.table ≡ table_of w q → n.me ≡ q → n.chain ≡ h.chain
    → chain_refusal (host n x) x (chain_child n.kept.table n.me n.chain x) ≡ None
line_free h m w q x n healing up before table me chain = by_child (chain_child n.kept.table n.me n.chain x) refl where
  is : chain_child n.kept.table n.me n.chain x ≡ chain_child (table_of w q) q h.chain x
  is = cc

  by_child : (c : Option ℕ) → chain_child n.kept.table n.me n.chain x ≡ c → chain_refusal (host n x) x c ≡ None
  by_child None e = refl
  by_child (Some k) e =
      let behind = child_behind h m w q x k healing up (sym is ∙ e) in
      let not_less : (k < x) → ⊥ = λ less. let low : k ≤ q = before k behind.1 behind.0 less in omega (arith, low, behind.2) in
      let free : (nat_lt n.chain x || nat_lt k x) ≡ false = false_from_ne_true (nat_lt n.chain x || nat_lt k x) (λ t. ⊎_elim
      (λ past. let more : n.chain < x = ltb-true n.chain x past in not_less (omega (arith, more, chain, behind.0)))
      (λ less. not_less (ltb-true k x less))
      (or_cases (nat_lt n.chain x) (nat_lt k x) t)) in
      ap (λ b. if nat_le n.me n.chain && b then Some (refusals.Chain k) else None) free ∙ by_test (nat_le n.me n.chain) where
        by_test : (b : Bool) → (if b && false then Some (refusals.Chain k) else None) ≡ None
        by_test true = refl
        by_test false = refl

-- m refuses x for a child that is a member before x
pub line_taken : (h : Header) (m : ℕ) (w : World) (a x : ℕ) (n : Control) → IsHealing h m w → IsHeld w m a → a ≤ h.chain → a < x → n.kept.table ≡ table_of w m → n.me ≡ m → n.chain ≡ h.chain
    → (k : ℕ) × (chain_refusal (host n x) x (chain_child n.kept.table n.me n.chain x) ≡ Some (refusals.Chain k))
line_taken h m w a x n healing held member less table me chain =
    let one : IsOneOf a (leased_children (table_of w m) m) = leased_among (table_of w m) m a (seq_of w a) held.lease in
    let passes : (nat_le a h.chain && not (a == x)) ≡ true = and_from (nat_le a h.chain) (not (a == x)) (le-leb a h.chain member) (ap not (false_from_ne_true (a == x) (λ e. let same : a ≡ x = eqb-true a x e in omega (arith, same, less)))) in
    let found = found_by test (leased_children (table_of w m) m) a one passes in
    let first : found.0 ≤ a = found_least test (table_of w m) m found.0 a (table_is h w m healing.reached) found.1 one passes in
    let is : chain_child n.kept.table n.me n.chain x ≡ Some found.0 = whole ∙ found.1 in
    let here : (nat_le n.me n.chain && (nat_lt n.chain x || nat_lt found.0 x)) ≡ true = and_from (nat_le n.me n.chain) (nat_lt n.chain x || nat_lt found.0 x)
    (le-leb n.me n.chain (omega (arith, me, chain, healing.member))) (or_right (nat_lt n.chain x) (nat_lt found.0 x) (lt-ltb found.0 x (omega (arith, first, less)))) in
    (found.0, ap (chain_refusal (host n x) x) is ∙ ap (λ b. if b then Some (refusals.Chain found.0) else None) here) where
      test : ℕ → Bool
      test z = nat_le z h.chain && not (z == x)

      whole : chain_child n.kept.table n.me n.chain x ≡ chain_child (table_of w m) m h.chain x
      whole = cc
