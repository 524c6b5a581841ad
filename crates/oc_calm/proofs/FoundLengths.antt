-- The lengths found while a way up is climbed, and when they are noted.
use Rattle.std.proofs.Common.{◌≡◌, ℕ, zero, suc, ◌+◌, ◌-◌, ◌<◌, ◌≤◌, Option, Some, None, List, [], ◌∷◌, length, ◌⊎◌, inl, inr, ⊎_elim, get_or, set, replicate, refl, ap, sym, subst, ◌∙◌, arith}
use Rattle.std.specs.List.{range_with_len}
use Rattle.std.proofs.lemmas.Bool.{cases_eq}
use Rattle.std.proofs.lemmas.List.{get_or-set_same, get_or-set_other, get_or-replicate, length-set, length-replicate}
use Rattle.oc_model.specs.Numbers.{at, put_at}
use Rattle.oc_model.specs.World.{World, ids}
use Rattle.oc_base.specs.Lawful.{IsNode}
use Rattle.oc_base.specs.declared.limits.TheConstants.{MAX_NODES}
use Rattle.oc_calm.specs.Cluster.{IsNodeOf}
use Rattle.oc_calm.specs.Tree.{parent_of, chain_length, length_alone, above, EndsAt, IsFound, AreFound, IsOnWay, AreFoundBut, IsKnown, KeepKnown, AreLengths}
use Rattle.oc_calm.proofs.RoundRuns.{nodes_count}
use Rattle.oc_calm.proofs.ChainLengths.{longer, length_unlinked, linked_alone, length_above, above_first, above_none, above_zero, above_more, above_between, round_none}

-- Lists by number

-- a property of each node holds of each after one was set, if it holds of that node
pub set_each : (P : ℕ → Option ℕ → Type 0) (n x : ℕ) (ls : List (Option ℕ)) (v : Option ℕ) → length ls ≡ n → IsNode n x → P x v
    → ((y : ℕ) → IsNode n y → (y ≡ x → ⊥) → P y (at ls y None)) → (y : ℕ) → IsNode n y → P y (at (put_at ls x v) y None)
set_each P n x ls v count node new old y there = ⊎_elim here other (cases_eq y x) where
  here : y ≡ x → P y (at (put_at ls x v) y None)
  here e =
      let within : x - 1 < length ls = omega (arith, node.0, node.1, count) in
      subst (λ (z : ℕ). P z (at (put_at ls x v) z None)) (sym e) (subst (P x) (sym (get_or-set_same ls (x - 1) v None within)) new)

  other : (y ≡ x → ⊥) → P y (at (put_at ls x v) y None)
  other apart =
      let places : y - 1 ≡ x - 1 → ⊥ = λ e. apart (omega (arith, e, node.0, there.0)) in
      subst (P y) (sym (get_or-set_other ls (x - 1) (y - 1) v None places)) (old y there apart)

-- setting an entry keeps the known entries
pub set_keeps : (n x k : ℕ) (ls : List (Option ℕ)) → length ls ≡ n → IsNode n x → KeepKnown ls (put_at ls x (Some k))
set_keeps n x k ls count node = record {
  known = λ y known. ⊎_elim
      (λ (e : y - 1 ≡ x - 1). (k, let within : x - 1 < length ls = omega (arith, node.0, node.1, count) in ap (λ (i : ℕ). get_or (put_at ls x (Some k)) i None) e ∙ get_or-set_same ls (x - 1) (Some k) None within))
      (λ (apart : y - 1 ≡ x - 1 → ⊥). (known.0, get_or-set_other ls (x - 1) (y - 1) (Some k) None apart ∙ known.1))
      (cases_eq (y - 1) (x - 1));
}

-- setting an entry makes it known
pub set_known : (n x k : ℕ) (ls : List (Option ℕ)) → length ls ≡ n → IsNode n x → IsKnown (put_at ls x (Some k)) x
set_known n x k ls count node = (k, let within : x - 1 < length ls = omega (arith, node.0, node.1, count) in get_or-set_same ls (x - 1) (Some k) None within)

-- no change forgets nothing
pub keep_all : (ls : List (Option ℕ)) → KeepKnown ls ls
keep_all ls = record { known = λ y known. known }

-- two changes that forget nothing together forget nothing
pub keep_both : {a b c : List (Option ℕ)} → KeepKnown a b → KeepKnown b c → KeepKnown a c
keep_both first second = record { known = λ y known. second.known y (first.known y known) }

-- the number of unknown entries
pub unknown : List (Option ℕ) → ℕ
unknown [] = 0
unknown (None ∷ ls) = unknown ls + 1
unknown (Some n ∷ ls) = unknown ls

-- the number of unknown entries falls by one when one of them is set
pub unknown-set : (ls : List (Option ℕ)) (i k : ℕ) → i < length ls → get_or ls i None ≡ None → unknown (set ls i (Some k)) + 1 ≡ unknown ls
unfolding unknown
unknown-set [] i k within none = absurd (omega (arith, within))
unknown-set (None ∷ ls) zero k within none = refl
unknown-set (Some n ∷ ls) zero k within none = absurd cc
unknown-set (None ∷ ls) (suc i) k within none = omega (arith, unknown-set ls i k (omega (arith, within)) none)
unknown-set (Some n ∷ ls) (suc i) k within none = unknown-set ls i k (omega (arith, within)) none

-- the unknown entries are at most as many as all entries
pub unknown_few : (ls : List (Option ℕ)) → unknown ls ≤ length ls
unfolding unknown
unknown_few [] = omega arith
unknown_few (None ∷ ls) = omega (arith, unknown_few ls)
unknown_few (Some n ∷ ls) = omega (arith, unknown_few ls)

-- Climbing

-- the beginning of a climb
pub climb_begins : (w : World) (x : ℕ) (ls : List (Option ℕ)) → AreFound w ls → AreFoundBut w 0 x ls
climb_begins w x ls found = record { places = found.places; found = λ y node. inl (found.found y node) }

-- the length found at a node is that of its chain, also where the way comes back to its start
pub climb_ends : (w : World) (k x y n : ℕ) (ls : List (Option ℕ)) → IsNodeOf w y → above w k x ≡ Some y → AreFoundBut w k x ls → at ls y None ≡ Some n → EndsAt w x k n
climb_ends w k x y n ls node way found known = record { top = y; above = way; length = ⊎_elim here there (found.found y node) } where
  here : IsFound w y (at ls y None) → n ≡ chain_length w y
  here h = let is : IsFound w y (Some n) = subst (IsFound w y) known h in is

  there : IsOnWay w k x y (at ls y None) → n ≡ chain_length w y
  there h =
      let zero_noted : Some n ≡ Some 0 = sym known ∙ h.noted in
      let none : n ≡ 0 = cc in
      none ∙ sym (round_none w (k - h.links) y (omega (arith, h.fewer)) (above_between w h.links k x y y (omega (arith, h.fewer)) h.above way))

-- a climb that goes one link up
pub climb_goes_on : (w : World) (k x y p : ℕ) (ls : List (Option ℕ)) → IsNodeOf w y → above w k x ≡ Some y → parent_of w y ≡ Some p → AreFoundBut w k x ls → at ls y None ≡ None
    → AreFoundBut w (k + 1) x (put_at ls y (Some (length_alone w y)))
climb_goes_on w k x y p ls node way up found new = record {
  places = length-set ls (y - 1) (Some (length_alone w y)) ∙ found.places;
  found = set_each (λ z f. IsFound w z f ⊎ IsOnWay w (k + 1) x z f) (length (ids w)) y ls (Some (length_alone w y)) found.places node
      (inr (record { links = k; fewer = omega arith; above = way; noted = ap Some (linked_alone w y p up) }))
      (λ z there apart. ⊎_elim (λ h. inl h) (λ h. inr (record { links = h.links; fewer = omega (arith, h.fewer); above = h.above; noted = h.noted })) (found.found z there));
}

-- a climb at a node without a parent
pub climb_stops : (w : World) (k x y : ℕ) (ls : List (Option ℕ)) → IsNodeOf w y → above w k x ≡ Some y → parent_of w y ≡ None → AreFoundBut w k x ls
    → AreFoundBut w k x (put_at ls y (Some (length_alone w y)))
climb_stops w k x y ls node way none found = record {
  places = length-set ls (y - 1) (Some (length_alone w y)) ∙ found.places;
  found = set_each (λ z f. IsFound w z f ⊎ IsOnWay w k x z f) (length (ids w)) y ls (Some (length_alone w y)) found.places node
      (inl (length_unlinked w y none)) (λ z there apart. found.found z there);
}

-- the way ends at a node without a parent
pub stop_ends : (w : World) (k x y : ℕ) → above w k x ≡ Some y → parent_of w y ≡ None → EndsAt w x k (length_alone w y)
stop_ends w k x y way none = record { top = y; above = way; length = length_unlinked w y none }

-- A climb from x that has come up to y by k links
pub record IsClimb (w : World) (x : ℕ) (start : List (Option ℕ)) (k y : ℕ) (ls : List (Option ℕ)) : Type 0 where
  pub node : IsNodeOf w y
  pub way : above w k x ≡ Some y
  pub found : AreFoundBut w k x ls
  pub known : KeepKnown start ls
  pub here : (y ≡ x) ⊎ IsKnown ls x
  pub count : k + unknown ls ≤ MAX_NODES

-- an entry that is no number is none
pub nothing : (o : Option ℕ) → ((n : ℕ) → o ≡ Some n → ⊥) → o ≡ None
nothing None other = refl
nothing (Some n) other = absurd (other n refl)

-- a climb that has not left its first node
pub climb_starts : (w : World) (x : ℕ) (ls : List (Option ℕ)) → IsNodeOf w x → length ls ≤ MAX_NODES → AreFound w ls → IsClimb w x ls 0 x ls
climb_starts w x ls node few found = record {
  node = node;
  way = above_zero w x;
  found = climb_begins w x ls found;
  known = keep_all ls;
  here = inl refl;
  count = omega (arith, unknown_few ls, few);
}

-- the node that a climb has come to is noted
pub noted_known : (w : World) (x : ℕ) (start : List (Option ℕ)) (k y n : ℕ) (ls : List (Option ℕ)) → IsClimb w x start k y ls → KeepKnown start (put_at ls y (Some n)) × IsKnown (put_at ls y (Some n)) x
noted_known w x start k y n ls climb = (keep_both climb.known keeps, ⊎_elim (λ same. subst (IsKnown (put_at ls y (Some n))) same (set_known (length (ids w)) y n ls climb.found.places climb.node)) (λ known. keeps.known x known) climb.here) where
  keeps : KeepKnown ls (put_at ls y (Some n))
  keeps = set_keeps (length (ids w)) y n ls climb.found.places climb.node

-- the number of unknown entries falls when that node is noted
pub noted_less : (w : World) (x : ℕ) (start : List (Option ℕ)) (k y n i : ℕ) (ls : List (Option ℕ)) → IsClimb w x start k y ls → at ls y None ≡ None → i ≡ y - 1 → unknown (set ls i (Some n)) + 1 ≡ unknown ls
noted_less w x start k y n i ls climb new place =
    let within : y - 1 < length ls = omega (arith, climb.node.0, climb.node.1, climb.found.places) in
    rw place (unknown-set ls (y - 1) n within new)

-- a climb that goes one link up
pub climb_step : (w : World) (x : ℕ) (start : List (Option ℕ)) (k y p n i : ℕ) (ls : List (Option ℕ)) → IsClimb w x start k y ls → at ls y None ≡ None → parent_of w y ≡ Some p → IsNodeOf w p
    → i ≡ y - 1 → n ≡ length_alone w y → IsClimb w x start (k + 1) p (set ls i (Some n))
climb_step w x start k y p n i ls climb new up node place alone = record {
  node = node;
  way = above_more w k x y p climb.way up;
  found = rw (place, alone) (climb_goes_on w k x y p ls climb.node climb.way up climb.found new);
  known = rw place (noted_known w x start k y n ls climb).0;
  here = inr (rw place (noted_known w x start k y n ls climb).1);
  count = omega (arith, climb.count, noted_less w x start k y n i ls climb new place);
}

-- the first node is known where the node that the climb has come to is known
pub known_here : (w : World) (x : ℕ) (start : List (Option ℕ)) (k y n : ℕ) (ls : List (Option ℕ)) → IsClimb w x start k y ls → at ls y None ≡ Some n → IsKnown ls x
known_here w x start k y n ls climb known = ⊎_elim (λ same. subst (IsKnown ls) same (n, known)) (λ h. h) climb.here

-- the found lengths once a node without a parent is noted
pub stop_found : (w : World) (x : ℕ) (start : List (Option ℕ)) (k y n i : ℕ) (ls : List (Option ℕ)) → IsClimb w x start k y ls → parent_of w y ≡ None → i ≡ y - 1 → n ≡ length_alone w y
    → AreFoundBut w k x (set ls i (Some n))
stop_found w x start k y n i ls climb none place alone = rw (place, alone) (climb_stops w k x y ls climb.node climb.way none climb.found)

-- the climb ends at a node without a parent
pub stop_top : (w : World) (x : ℕ) (start : List (Option ℕ)) (k y n : ℕ) (ls : List (Option ℕ)) → IsClimb w x start k y ls → parent_of w y ≡ None → n ≡ length_alone w y → EndsAt w x k n
stop_top w x start k y n ls climb none alone = rw alone (stop_ends w k x y climb.way none)

-- a known length once that node is noted
pub stop_known : (w : World) (x : ℕ) (start : List (Option ℕ)) (k y n i : ℕ) (ls : List (Option ℕ)) → IsClimb w x start k y ls → i ≡ y - 1 → KeepKnown start (set ls i (Some n)) × IsKnown (set ls i (Some n)) x
stop_known w x start k y n i ls climb place = rw place (noted_known w x start k y n ls climb)

-- Noting

-- a note of no chain is right where the way ends without one
pub none_noted : (w : World) (k x n : ℕ) (ls : List (Option ℕ)) → EndsAt w x k n → n ≡ 0 → AreFoundBut w k x ls → AreFound w ls
none_noted w k x n ls ends none found = record { places = found.places; found = λ y node. ⊎_elim (λ h. h) (λ h. on_way y h) (found.found y node) } where
  on_way : (y : ℕ) → IsOnWay w k x y (at ls y None) → IsFound w y (at ls y None)
  on_way y h =
      let up : above w (k - h.links) y ≡ Some ends.top = above_between w h.links k x y ends.top (omega (arith, h.fewer)) h.above ends.above in
      let no_chain : chain_length w y ≡ 0 = length_above w (k - h.links) y ends.top up ∙ ap (longer (k - h.links)) (sym ends.length ∙ none) in
      subst (IsFound w y) (sym h.noted) (sym no_chain)

-- k links are left from here to the top, whose chain has at least one node
pub record IsLeftOf (w : World) (k x n : ℕ) (ls : List (Option ℕ)) : Type 0 where
  pub ends : EndsAt w x k n
  pub some : 0 < n
  pub found : AreFoundBut w k x ls

-- noting a node keeps the known entries
pub note_keeps : (w : World) (k x n m i : ℕ) (start ls : List (Option ℕ)) → IsNodeOf w x → IsLeftOf w k x n ls → i ≡ x - 1 → KeepKnown start ls → KeepKnown start (set ls i (Some m))
note_keeps w k x n m i start ls node left place keeps = rw place (keep_both keeps (set_keeps (length (ids w)) x m ls left.found.places node))

-- the note goes on one link up
pub note_goes_on : (w : World) (k x p n : ℕ) (ls : List (Option ℕ)) → IsNodeOf w x → parent_of w x ≡ Some p → 0 < k → IsLeftOf w k x n ls → IsLeftOf w (k - 1) p n (put_at ls x (Some (n + k)))
note_goes_on w zero x p n ls node up more left = absurd (omega (arith, more))
note_goes_on w (suc k) x p n ls node up more left =
    let same : suc k - 1 ≡ k = omega arith in
    rw same (record {
      ends = record { top = left.ends.top; above = sym (above_first w k x p up) ∙ left.ends.above; length = left.ends.length };
      some = left.some;
      found = record {
        places = length-set ls (x - 1) (Some (n + suc k)) ∙ left.found.places;
        found = set_each (λ z f. IsFound w z f ⊎ IsOnWay w k p z f) (length (ids w)) x ls (Some (n + suc k)) left.found.places node
            (inl (long (chain_length w left.ends.top) left.ends.length (length_above w (suc k) x left.ends.top left.ends.above)))
            (λ z there apart. ⊎_elim (λ h. inl h) (λ h. on_way z apart h) (left.found.found z there));
      };
    }) where
      long : (m : ℕ) → n ≡ m → chain_length w x ≡ longer (suc k) m → n + suc k ≡ chain_length w x
      long zero e h = absurd (omega (arith, e, left.some))
      long (suc m) e h = let length : suc m + suc k ≡ chain_length w x = sym h in omega (arith, e, length)

      by_links : (z j : ℕ) → (z ≡ x → ⊥) → j < suc k → above w j x ≡ Some z → at ls z None ≡ Some 0 → IsOnWay w k p z (at ls z None)
      by_links z zero apart fewer way noted = let here : Some x ≡ Some z = sym (above_zero w x) ∙ way in let same : x ≡ z = cc in absurd (apart (sym same))
      by_links z (suc j) apart fewer way noted = record { links = j; fewer = omega (arith, fewer); above = sym (above_first w j x p up) ∙ way; noted = noted }

      on_way : (z : ℕ) → (z ≡ x → ⊥) → IsOnWay w (suc k) x z (at ls z None) → IsFound w z (at ls z None) ⊎ IsOnWay w k p z (at ls z None)
      on_way z apart h = inr (by_links z h.links apart h.fewer h.above h.noted)

-- a node has a parent while links are left
pub note_linked : (w : World) (k x n : ℕ) → parent_of w x ≡ None → 0 < k → EndsAt w x k n → ⊥
note_linked w zero x n none more ends = omega (arith, more)
note_linked w (suc k) x n none more ends = let no : None ≡ Some ends.top = sym (above_none w k x none) ∙ ends.above in absurd cc

-- all notes are made at the top
pub note_ends : (w : World) (k x n : ℕ) (ls : List (Option ℕ)) → k ≡ 0 → IsLeftOf w k x n ls → AreFound w ls
note_ends w k x n ls over left = record {
  places = left.found.places;
  found = λ y node. ⊎_elim (λ h. h) (λ h. absurd (omega (arith, h.fewer, over))) (left.found.found y node);
}

-- All nodes

-- no length is known at first
pub none_found : (w : World) (n : ℕ) → ids w ≡ range_with_len 1 n → AreFound w (replicate n None)
none_found w n e =
    let count : n ≡ length (ids w) = nodes_count w n e in
    record {
      places = length-replicate n None ∙ count;
      found = λ y node. let none : at (replicate n None) y None ≡ None = get_or-replicate n (y - 1) None None (omega (arith, node.0, node.1, count)) in subst (IsFound w y) (sym none) tt;
    }

-- all lengths are found once all are known
pub all_found : (w : World) (ls : List (Option ℕ)) → AreFound w ls → ((y : ℕ) → IsNodeOf w y → IsKnown ls y) → AreLengths w ls
all_found w ls found known = record {
  places = found.places;
  found = λ y node. let is = known y node in let same : IsFound w y (Some is.0) = subst (IsFound w y) is.1 (found.found y node) in is.1 ∙ ap Some same;
}

-- one more node is known
pub known_more : (i : ℕ) (old new : List (Option ℕ)) → ((y : ℕ) → 1 ≤ y → y < i → IsKnown old y) → KeepKnown old new → IsKnown new i → (y : ℕ) → 1 ≤ y → y < i + 1 → IsKnown new y
known_more i old new before keeps here y low high = ⊎_elim (λ same. subst (IsKnown new) (sym same) here) (λ other. keeps.known y (before y low (omega (arith, high, other)))) (cases_eq y i)
