-- The places where the lines of a node come next, and the heads of a merge that has taken none.
use Rattle.std.proofs.Common.{◌≡◌, ◌≢◌, ℕ, zero, suc, ◌+◌, ◌-◌, ◌<◌, ◌≤◌, false, if◌then◌else◌, Some, List, [], ◌∷◌, ◌++◌, ⊎_elim, length, take, drop, slice_get, slice_set, get_or, replicate, refl, ap, sym, subst, ◌∙◌, arith, eq-eqb, ne_eqb}
use Rattle.std.proofs.Math.ListN.{length-set}
use Rattle.std.proofs.lemmas.Bool.{cases_eq}
use Rattle.std.proofs.lemmas.List.{drop_all, get_or_append_left, get_or_push, get_or-replicate, get_or-set_same, get_or-set_other, length_push, length-replicate}
use Rattle.std.proofs.lemmas.Option.{slice_get_within}
use Rattle.oc_base.specs.Lawful.{IsNode}
use Rattle.oc_merge.specs.declared.heads.Head.{Head}
use Rattle.oc_merge.specs.declared.told.ToldLine.{ToldLine}
use Rattle.oc_merge.specs.Heads.{AreHeads, ArePlacesFrom, IsHeadOf, before_own, head_of, no_head}
use Rattle.oc_merge.specs.Recorded.{own_told}
use Rattle.oc_merge.proofs.Fronts.{drop_at_place}
use Rattle.oc_merge.proofs.Going.{before_none, before_within, own_none}

-- a line of x is the next
pub next_own : (x : ℕ) (ls : List ToldLine) (p : ℕ) (l : ToldLine) → slice_get ls p ≡ Some l → l.node ≡ x → before_own x (drop p ls) ≡ 0
next_own x ls p l at is = ap (before_own x) (drop_at_place ls p l at) ∙ ap (λ b. if b then 0 else suc (before_own x (drop (suc p) ls))) (eq-eqb l.node x is)

-- a line of another node is not
pub next_other : (x : ℕ) (ls : List ToldLine) (p : ℕ) (l : ToldLine) → slice_get ls p ≡ Some l → (l.node ≡ x → ⊥) → before_own x (drop p ls) ≡ before_own x (drop (p + 1) ls) + 1
next_other x ls p l at apart =
    let next : suc p ≡ p + 1 = omega arith in
    ap (before_own x) (drop_at_place ls p l at)
    ∙ (ap (λ b. if b then 0 else suc (before_own x (drop (suc p) ls))) (ne_eqb l.node x apart)
    ∙ (ap (λ q. suc (before_own x (drop q ls))) next ∙ omega arith))

-- after all lines there is none
pub next_none : (x : ℕ) (ls : List ToldLine) (p : ℕ) → length ls ≤ p → before_own x (drop p ls) ≡ 0
next_none x ls p past = ap (before_own x) (drop_all p ls past)

-- the first head of x
first_head : (x : ℕ) (ls : List ToldLine) (h : Head) → h.place ≡ before_own x ls → h.started ≡ false → IsHeadOf ls [] x h
first_head x ls h place begun = record {
  within = omega (arith, place, before_within x ls);
  own = ap (λ n. before_own x (drop n ls)) place ∙ before_none x ls;
  count = ap (λ n. length (own_told x (take n ls))) place ∙ ap length (own_none x ls);
  started = begun;
}

pub heads_push : (n : ℕ) (ls : List ToldLine) (hs : List Head) (h : Head) → AreHeads n ls [] hs → h.place ≡ 0 + before_own (n + 1) (drop 0 ls) → h.started ≡ false → AreHeads (n + 1) ls [] (hs ++ h ∷ [])
heads_push n ls hs h are place begun = record {
  all = length_push hs h ∙ ap (λ k. k + 1) are.all;
  each = each;
} where
  each : (x : ℕ) → IsNode (n + 1) x → IsHeadOf ls [] x (head_of (hs ++ h ∷ []) x)
  each x is = ⊎_elim last before (cases_eq x (n + 1)) where
    before : (x ≡ n + 1 → ⊥) → IsHeadOf ls [] x (head_of (hs ++ h ∷ []) x)
    before apart =
        let among : IsNode n x = (is.0, omega (arith, is.1, apart)) in
        subst (IsHeadOf ls [] x) (sym (get_or_append_left hs (h ∷ []) no_head (x - 1) (omega (arith, among.0, among.1, are.all)))) (are.each x among)

    at_last : head_of (hs ++ h ∷ []) (n + 1) ≡ h
    at_last = get_or_push hs h no_head (n + 1 - 1) (omega (arith, are.all))

    last : x ≡ n + 1 → IsHeadOf ls [] x (head_of (hs ++ h ∷ []) x)
    last same = subst (λ (y : ℕ). IsHeadOf ls [] y (head_of (hs ++ h ∷ []) y)) (sym same) (subst (IsHeadOf ls [] (n + 1)) (sym at_last) (first_head (n + 1) ls h (omega (arith, place)) begun))

-- The walk over the lines

-- before it, after all lines
pub places_none : (nodes : ℕ) (ls : List ToldLine) (first next : List ℕ) → first ≡ replicate nodes (length ls) → length next ≡ length ls → ArePlacesFrom nodes ls (length ls) first next
places_none nodes ls first next are long = record {
  all_nodes = ap length are ∙ length-replicate nodes (length ls);
  all_lines = long;
  first_is = λ x is. ap (λ (ns : List ℕ). get_or ns (x - 1) 0) are
      ∙ (get_or-replicate nodes (x - 1) (length ls) 0 (omega (arith, is.0, is.1))
      ∙ omega (arith, next_none x ls (length ls) (omega arith)));
  next_is = λ place l behind at. absurd (omega (arith, behind, slice_get_within ls place l at));
}

-- one line more
pub places_on : (nodes : ℕ) (ls : List ToldLine) (p : ℕ) (l : ToldLine) (first next : List ℕ) → ArePlacesFrom nodes ls (suc p) first next → slice_get ls p ≡ Some l → IsNode nodes l.node
    → ArePlacesFrom nodes ls p (slice_set first (l.node - 1) p) (slice_set next p (get_or first (l.node - 1) 0))
places_on nodes ls p l first next are at is = record {
  all_nodes = length-set first (l.node - 1) p ∙ are.all_nodes;
  all_lines = length-set next p (get_or first (l.node - 1) 0) ∙ are.all_lines;
  first_is = first_is;
  next_is = next_is;
} where
  first_is : (x : ℕ) → IsNode nodes x → get_or (slice_set first (l.node - 1) p) (x - 1) 0 ≡ p + before_own x (drop p ls)
  first_is x among = ⊎_elim here there (cases_eq l.node x) where
    here : l.node ≡ x → get_or (slice_set first (l.node - 1) p) (x - 1) 0 ≡ p + before_own x (drop p ls)
    here same =
        subst (λ (y : ℕ). get_or (slice_set first (l.node - 1) p) (y - 1) 0 ≡ p + before_own y (drop p ls)) same
        (get_or-set_same first (l.node - 1) p 0 (omega (arith, is.0, is.1, are.all_nodes)) ∙ omega (arith, next_own l.node ls p l at refl))

    there : (l.node ≡ x → ⊥) → get_or (slice_set first (l.node - 1) p) (x - 1) 0 ≡ p + before_own x (drop p ls)
    there apart =
        let others : x - 1 ≢ l.node - 1 = λ e. apart (omega (arith, e, is.0, among.0)) in
        let next_one : suc p ≡ p + 1 = omega arith in
        let behind : before_own x (drop (suc p) ls) ≡ before_own x (drop (p + 1) ls) = ap (λ q. before_own x (drop q ls)) next_one in
        get_or-set_other first (l.node - 1) (x - 1) p 0 others ∙ omega (arith, are.first_is x among, next_other x ls p l at apart, behind)

  next_is : (place : ℕ) (k : ToldLine) → p ≤ place → slice_get ls place ≡ Some k → get_or (slice_set next p (get_or first (l.node - 1) 0)) place 0 ≡ place + 1 + before_own k.node (drop (place + 1) ls)
  next_is place k behind there = ⊎_elim here later (cases_eq p place) where
    here : p ≡ place → get_or (slice_set next p (get_or first (l.node - 1) 0)) place 0 ≡ place + 1 + before_own k.node (drop (place + 1) ls)
    here same =
        let one : Some l ≡ Some k = sym at ∙ (ap (slice_get ls) same ∙ there) in
        let line : l ≡ k = cc one in
        let place_next : suc p ≡ place + 1 = omega (arith, same) in
        let behind_one : before_own l.node (drop (suc p) ls) ≡ before_own k.node (drop (place + 1) ls) =
        ap (λ (j : ToldLine). before_own j.node (drop (suc p) ls)) line ∙ ap (λ q. before_own k.node (drop q ls)) place_next in
        subst (λ (q : ℕ). get_or (slice_set next p (get_or first (l.node - 1) 0)) q 0 ≡ place + 1 + before_own k.node (drop (place + 1) ls)) same
        (get_or-set_same next p (get_or first (l.node - 1) 0) 0 (omega (arith, slice_get_within ls p l at, are.all_lines)) ∙ omega (arith, are.first_is l.node is, behind_one, same))

    later : (p ≡ place → ⊥) → get_or (slice_set next p (get_or first (l.node - 1) 0)) place 0 ≡ place + 1 + before_own k.node (drop (place + 1) ls)
    later apart =
        let others : place ≢ p = λ e. apart (sym e) in
        get_or-set_other next p place (get_or first (l.node - 1) 0) 0 others ∙ are.next_is place k (omega (arith, behind, apart)) there

pub any_default : (xs : List ℕ) (i a b : ℕ) → i < length xs → get_or xs i a ≡ get_or xs i b
any_default [] i a b within = absurd (omega (arith, within))
any_default (x ∷ xs) zero a b within = refl
any_default (x ∷ xs) (suc i) a b within = any_default xs i a b (omega (arith, within))

-- the same, by the value at the index of the node
pub places_step : (nodes : ℕ) (ls : List ToldLine) (from : ℕ) (l : ToldLine) (first next : List ℕ) (index value : ℕ) → ArePlacesFrom nodes ls from first next → 0 < from → slice_get ls (from - 1) ≡ Some l → IsNode nodes l.node
    → index ≡ l.node - 1 → value ≡ get_or first index value → ArePlacesFrom nodes ls (from - 1) (slice_set first index (from - 1)) (slice_set next (from - 1) value)
places_step nodes ls from l first next index value are some there is index_is read = by_index where
  p : ℕ
  p = from - 1

  base : ArePlacesFrom nodes ls p (slice_set first (l.node - 1) p) (slice_set next p (get_or first (l.node - 1) 0))
  base = places_on nodes ls p l first next (subst (λ (q : ℕ). ArePlacesFrom nodes ls q first next) (omega (arith, some)) are) there is

  value_is : value ≡ get_or first (l.node - 1) 0
  value_is = read ∙ (ap (λ i. get_or first i value) index_is ∙ any_default first (l.node - 1) value 0 (omega (arith, is.0, is.1, are.all_nodes)))

  by_value : ArePlacesFrom nodes ls p (slice_set first (l.node - 1) p) (slice_set next p value)
  by_value = subst (λ (v : ℕ). ArePlacesFrom nodes ls p (slice_set first (l.node - 1) p) (slice_set next p v)) (sym value_is) base

  by_index : ArePlacesFrom nodes ls p (slice_set first index p) (slice_set next p value)
  by_index = subst (λ (i : ℕ). ArePlacesFrom nodes ls p (slice_set first i p) (slice_set next p value)) (sym index_is) by_value
