-- The same work for each of some nodes.
use Rattle.std.proofs.Common.{◌≡◌, ℕ, ◌+◌, ◌<◌, ◌≤◌, List, [], ◌∷◌, ◌++◌, length, drop, get_or, ap, sym, subst, ◌∙◌}
use Rattle.std.specs.List.{AllByRecursion, range_with_len}
use Rattle.std.proofs.lemmas.List.{drop_more, drop_all}
use Rattle.oc_base.specs.Lawful.{IsNode}
use Rattle.oc_model.specs.Chains.{IsUp}
use Rattle.oc_model.specs.Runs.{Run, rests, and_then, for_each}
use Rattle.oc_model.specs.World.{World, up_ids}
use Rattle.oc_model.proofs.Lists.{all_weaker}
use Rattle.oc_calm.specs.Cluster.{IsNodeOf, IsNumbered, IsRoll, IsUpNode}
use Rattle.oc_calm.specs.Timely.{AreTimely}
use Rattle.oc_calm.specs.Way.{Plays, Begins}
use Rattle.oc_calm.proofs.Steady.{count_stays, ids_stay, up_stays, ups_stay}
use Rattle.oc_calm.proofs.Timely.{timely_first, timely_later}
use Rattle.oc_calm.proofs.Ways.{IsLeft, less_left, none_left, cut_in_rest}

-- Lists

-- the next item of a list
next_is : (xs : List ℕ) (i x : ℕ) → i < length xs → x ≡ get_or xs i x → drop i xs ≡ x ∷ drop (i + 1) xs
next_is xs i x within is = drop_more xs i x within ∙ ap (λ (y : ℕ). y ∷ drop (i + 1) xs) (sym is)

-- a property of all remaining items holds of the next one and of those after it
pub all_next : (P : ℕ → Type 0) (xs : List ℕ) (i x : ℕ) → i < length xs → x ≡ get_or xs i x → AllByRecursion P (drop i xs) → P x × AllByRecursion P (drop (i + 1) xs)
all_next P xs i x within is all = let both : AllByRecursion P (x ∷ drop (i + 1) xs) = subst (AllByRecursion P) (next_is xs i x within is) all in both

-- Runs

-- the rest of a run is the rest by any other run that is the same from this world on
pub left_as : {whole f : World → Run} (g : World → Run) {w v : World} {n k : ℕ} → f v ≡ g v → IsLeft whole w n f v k → IsLeft whole w n g v k
left_as g e left = record {
  done = left.done;
  acts = left.acts ∙ ap (λ (r : Run). left.done ++ r.acts) e;
  world = left.world ∙ ap (λ (r : Run). r.world) e;
  reached = left.reached;
  count = left.count;
}

-- the remaining work is that of the next item, and then that of the items after it
pub next_left : {whole : World → Run} (f : ℕ → World → Run) {w v : World} {n k : ℕ} (xs : List ℕ) (i x : ℕ) → i < length xs → x ≡ get_or xs i x
    → IsLeft whole w n (for_each (drop i xs) f) v k → IsLeft whole w n (λ z. and_then (f x z) (for_each (drop (i + 1) xs) f)) v k
next_left f {w} {v} xs i x within is left = left_as (λ z. and_then (f x z) (for_each (drop (i + 1) xs) f)) (ap (λ (ys : List ℕ). for_each ys f v) (next_is xs i x within is)) left

-- once the work of the next item is done, that of the items after it remains
pub each_more : {whole : World → Run} (f : ℕ → World → Run) {w v u : World} {n k j : ℕ} (xs : List ℕ) (i x : ℕ) → i < length xs → x ≡ get_or xs i x
    → IsLeft whole w n (for_each (drop i xs) f) v k → Plays (f x) v u k j → IsLeft whole w n (for_each (drop (i + 1) xs) f) u j
each_more f xs i x within is left played = less_left (next_left f xs i x within is left) played

-- memory runs out during the work of the next item
pub each_cut : {whole : World → Run} (f : ℕ → World → Run) {w v u : World} {n k : ℕ} (xs : List ℕ) (i x : ℕ) → i < length xs → x ≡ get_or xs i x
    → IsLeft whole w n (for_each (drop i xs) f) v k → Begins (f x) v u → Begins whole w u
each_cut f xs i x within is left begun = cut_in_rest (for_each (drop (i + 1) xs) f) (next_left f xs i x within is left) begun

-- after the last item nothing remains
pub each_done : {whole : World → Run} (f : ℕ → World → Run) {w v : World} {n k : ℕ} (xs : List ℕ) (i : ℕ) → length xs ≤ i
    → IsLeft whole w n (for_each (drop i xs) f) v k → Plays whole w v n k
each_done f {w} {v} xs i past left = none_left (left_as rests (ap (λ (ys : List ℕ). for_each ys f v) (drop_all i xs past)) left)

-- Timely acts

-- the first of two runs is timely where both together are
pub timely_front : (r : Run) (g : World → Run) → AreTimely (and_then r g).acts → AreTimely r.acts
timely_front r g all = timely_first r.acts (g r.world).acts all

-- the second of two runs, once the first was played
pub timely_rest : {f : World → Run} (g : World → Run) {w v : World} {n k : ℕ} → Plays f w v n k → AreTimely (and_then (f w) g).acts → AreTimely (g v).acts
timely_rest {f} g {w} {v} played all = subst (λ (z : World). AreTimely (g z).acts) (sym played.world) (timely_later (f w).acts (g (f w).world).acts all)

-- the work of the next item is timely, and so is that of the items after it
pub next_timely : (f : ℕ → World → Run) (v : World) (xs : List ℕ) (i x : ℕ) → i < length xs → x ≡ get_or xs i x → AreTimely (for_each (drop i xs) f v).acts
    → AreTimely (and_then (f x v) (for_each (drop (i + 1) xs) f)).acts
next_timely f v xs i x within is all = subst (λ (ys : List ℕ). AreTimely (for_each ys f v).acts) (next_is xs i x within is) all

-- Unchanged properties of a roll

-- ids stay the same after a run
pub numbered_stays : {f : World → Run} {w v : World} {n k : ℕ} → Plays f w v n k → IsNumbered w → IsNumbered v
numbered_stays {f} {w} {v} played numbered = subst IsNumbered (sym played.reached) (subst (λ (ys : List ℕ). ys ≡ range_with_len 1 (length ys)) (sym (ids_stay w (f w).acts)) numbered)

-- a roll stays a roll after a run
pub roll_stays : {f : World → Run} {w v : World} {n k : ℕ} (xs : List ℕ) → Plays f w v n k → IsRoll w xs → IsRoll v xs
roll_stays {f} {w} {v} xs played roll = record {
  ids = numbered_stays played roll.ids;
  up = roll.up ∙ (sym (ups_stay w (f w).acts) ∙ ap (λ (z : World). up_ids z) (sym played.reached));
}

-- nodes are still nodes after a run
pub nodes_stay : {f : World → Run} {w v : World} {n k : ℕ} (xs : List ℕ) → Plays f w v n k → AllByRecursion (IsNodeOf w) xs → AllByRecursion (IsNodeOf v) xs
nodes_stay {f} {w} {v} xs played all =
    subst (λ (z : World). AllByRecursion (IsNodeOf z) xs) (sym played.reached) (subst (λ (m : ℕ). AllByRecursion (IsNode m) xs) (sym (count_stays w (f w).acts)) all)

-- a node is still a node after a run
pub node_stays : {f : World → Run} {w v : World} {n k : ℕ} (x : ℕ) → Plays f w v n k → IsNodeOf w x → IsNodeOf v x
node_stays x played node = (nodes_stay (x ∷ []) played (node, tt)).0

-- a node that is up stays up
pub up_node_stays : {f : World → Run} {w v : World} {n k : ℕ} (x : ℕ) → Plays f w v n k → IsUpNode w x → IsUpNode v x
up_node_stays {f} {w} {v} x played is = (node_stays x played is.0, subst (λ (z : World). IsUp z x) (sym played.reached) (up_stays w (f w).acts x ∙ is.1))

-- nodes that are up stay up
pub up_nodes_stay : {f : World → Run} {w v : World} {n k : ℕ} (xs : List ℕ) → Plays f w v n k → AllByRecursion (IsUpNode w) xs → AllByRecursion (IsUpNode v) xs
up_nodes_stay {f} {w} {v} xs played all = all_weaker (IsUpNode w) (IsUpNode v) (λ x is. up_node_stays x played is) xs all
