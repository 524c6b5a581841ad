-- The nodes that are known to be in place, as they are noted and forgotten.
use Rattle.std.proofs.Common.{◌≡◌, ℕ, zero, suc, ◌+◌, ◌-◌, ◌<◌, ◌≤◌, Bool, true, false, ◌&&◌, ◌==◌, List, [], ◌∷◌, length, reverse, get_or, set, replicate, if◌then◌else◌, refl, ap, sym, subst, ◌∙◌, ⊎_elim, arith, true≢false, eqb-true, eq-eqb, Some, None, nat_lt, ltb-true, ltb-false}
use Rattle.std.specs.List.{AllByRecursion, range_with_len}
use Rattle.std.proofs.lemmas.Bool.{and_parts, cases_eq}
use Rattle.std.proofs.lemmas.List.{get_or-set_same, get_or-set_other, get_or_past, length-set, length-replicate, reverse-append}
use Rattle.oc_model.specs.Ready.{is_root}
use Rattle.oc_model.specs.Runs.{Run}
use Rattle.oc_model.specs.World.{World, ids}
use Rattle.oc_model.proofs.Lists.{all_append}
use Rattle.oc_calm.specs.Cluster.{IsNodeOf}
use Rattle.oc_calm.specs.Placed.{ArePlaced, IsForgotten}
use Rattle.oc_calm.specs.Played.{is_placed_under, nodes_below}
use Rattle.oc_calm.specs.Tree.{parent_of, above}
use Rattle.oc_calm.specs.Way.{Plays}
use Rattle.oc_calm.proofs.PlacedWays.{leader_placed, way_up, below_way, below_elsewhere}
use Rattle.oc_calm.proofs.RoundRuns.{nodes_count}
use Rattle.oc_calm.proofs.Steady.{count_stays}

-- Tops

-- a node that passes the test of a top is the top and a root
pub top_true : (w : World) (m x : ℕ) → (x == m && is_root w x) ≡ true → (x ≡ m) × (is_root w x ≡ true)
top_true w m x e = let both = and_parts (x == m) (is_root w x) e in (eqb-true x m both.0, both.1)

-- a top that fails the test is no root
pub top_false : (w : World) (m x : ℕ) → (x == m && is_root w x) ≡ false → x ≡ m → is_root w x ≡ false
top_false w m x e same = let here : (x == m) ≡ true = eq-eqb x m same in rw here at e

-- a top is placed
pub top_placed : (w : World) (m x : ℕ) → (x == m && is_root w x) ≡ true → true ≡ is_placed_under w m x
top_placed w m x e = let both = top_true w m x e in sym (leader_placed w m x both.0 both.1)

-- Noting

-- one more node is known to be in place
pub placed_more : (w : World) (m x i : ℕ) (known : List Bool) → ArePlaced w m known → IsNodeOf w x → is_placed_under w m x ≡ true → i ≡ x - 1 → ArePlaced w m (set known i true)
placed_more w m x i known placed node here place = record {
  places = length-set known i true ∙ placed.places;
  placed = λ y there e. ⊎_elim
      (λ (same : y ≡ x). ap (is_placed_under w m) same ∙ here)
      (λ (other : y ≡ x → ⊥).
      let apart : y - 1 ≡ i → ⊥ = λ e. other (omega (arith, e, place, node.0, there.0)) in
      placed.placed y there (sym (get_or-set_other known i (y - 1) true false apart) ∙ e))
      (cases_eq y x);
}

-- Forgetting

-- one more node is forgotten
pub forget_more : (known : List Bool) (i : ℕ) → i < length known → ((k : ℕ) → k < i → get_or known k false ≡ false) → (k : ℕ) → k < i + 1 → get_or (set known i false) k false ≡ false
forget_more known i within before k low = ⊎_elim
    (λ (same : k ≡ i). ap (λ (j : ℕ). get_or (set known i false) j false) same ∙ get_or-set_same known i false false within)
    (λ (other : k ≡ i → ⊥). get_or-set_other known i k false false other ∙ before k (omega (arith, low, other)))
    (cases_eq k i)

-- all nodes are forgotten
pub all_forgotten : (known : List Bool) (i : ℕ) → length known ≤ i → ((k : ℕ) → k < i → get_or known k false ≡ false) → IsForgotten known
all_forgotten known i past before = record { none = λ k. by_test k (nat_lt k i) refl } where
  by_test : (k : ℕ) (b : Bool) → nat_lt k i ≡ b → get_or known k false ≡ false
  by_test k true e = before k (ltb-true k i e)
  by_test k false e = get_or_past known k false (omega (arith, past, ltb-false k i e))

-- entries that are all forgotten are right in any world
pub forgotten_placed : (w : World) (m : ℕ) (known : List Bool) → length known ≡ length (ids w) → IsForgotten known → ArePlaced w m known
forgotten_placed w m known places forgotten = record { places = places; placed = λ x node e. absurd (true≢false (sym e ∙ forgotten.none (x - 1))) }

-- forgotten entries are right after a run too
pub forgotten_after : {f : World → Run} {w v : World} {n k : ℕ} (m : ℕ) (known : List Bool) → Plays f w v n k → length known ≡ length (ids w) → IsForgotten known → ArePlaced v m known
forgotten_after {f} {w} {v} m known played places forgotten =
    forgotten_placed v m known (places ∙ (sym (count_stays w (f w).acts) ∙ ap (λ (z : World). length (ids z)) (sym played.reached))) forgotten

-- no node is known at first
replicate_false : (n k : ℕ) → get_or (replicate n false) k false ≡ false
replicate_false zero k = refl
replicate_false (suc n) zero = refl
replicate_false (suc n) (suc k) = replicate_false n k

-- entries of which none is set are right
pub none_placed : (w : World) (m n : ℕ) → ids w ≡ range_with_len 1 n → ArePlaced w m (replicate n false)
none_placed w m n e = forgotten_placed w m (replicate n false) (length-replicate n false ∙ nodes_count w n e) (record { none = replicate_false n })

-- Nodes below the top

-- a property of each item of a list holds of each of the reversed list
all_reverse : (P : ℕ → Type 0) (xs : List ℕ) → AllByRecursion P xs → AllByRecursion P (reverse xs)
all_reverse P [] all = tt
all_reverse P (x ∷ xs) all = subst (AllByRecursion P) (sym (reverse-append (x ∷ []) xs)) (all_append P (reverse xs) (x ∷ []) (all_reverse P xs all.1) (all.0, tt))

-- a property of each item holds too where the list may be left out
pub turned_nodes : (P : ℕ → Type 0) (b : Bool) (xs : List ℕ) → AllByRecursion P xs → AllByRecursion P (if b then reverse xs else [])
turned_nodes P true xs all = all_reverse P xs all
turned_nodes P false xs all = tt

-- the nodes below the top, once the way has ended at the top or elsewhere
pub turned_below : (w : World) (k m x y : ℕ) (b : Bool) (xs : List ℕ) → above w k x ≡ Some y → parent_of w y ≡ None → b ≡ (y == m && is_root w y) → xs ≡ way_up w k x
    → (if b then reverse xs else []) ≡ nodes_below m x w
turned_below w k m x y true xs way none top e =
    let both = top_true w m y (sym top) in
    ap reverse e ∙ below_way w k m x y way both.0 both.1
turned_below w k m x y false xs way none top e = below_elsewhere w k m x y way none (top_false w m y (sym top))
