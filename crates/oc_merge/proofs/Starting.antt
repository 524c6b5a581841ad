-- A merge that has taken no line.
use Rattle.std.proofs.Common.{◌≡◌, ℕ, ◌+◌, ◌-◌, ◌<◌, false, Some, List, [], ◌∷◌, ◌++◌, ⊎_elim, length, drop, slice_get, get_or, ap, sym, subst, ◌∙◌, arith}
use Rattle.std.proofs.lemmas.Bool.{cases_eq}
use Rattle.std.proofs.lemmas.List.{get_or_append_left, get_or_push}
use Rattle.oc_base.specs.Lawful.{IsNode}
use Rattle.oc_model.specs.Node.{Header, Node}
use Rattle.oc_model.specs.World.{World, Process, ids, is_up, new_world}
use Rattle.oc_model.proofs.GoesOn.{ids-always}
use Rattle.oc_laws_world.proofs.Merged.{world_new}
use Rattle.oc_merge.specs.declared.heads.Head.{Head}
use Rattle.oc_merge.specs.declared.told.ToldLine.{ToldLine}
use Rattle.oc_merge.specs.Heads.{AreHeads, ArePlacesFrom, HasWay, before_own, head_of, no_head}
use Rattle.oc_merge.specs.Told.{Records}
use Rattle.oc_merge.proofs.Going.{before_none, node_at_head}
use Rattle.oc_merge.proofs.NextPlaces.{any_default, heads_push}
use Rattle.oc_merge.proofs.OneMore.{length-range}

pub down_new : (h : Header) (x : ℕ) → IsNode h.nodes x → is_up (new_world h) x ≡ false
down_new h x is = ap (λ (p : Process). p.up) ((world_new h).processes x is)

pub ids_new : (h : Header) → length (ids (new_world h)) ≡ h.nodes
ids_new h = ap length (ids-always h []) ∙ length-range 1 h.nodes

-- the line at the first place of a node is of the node
pub own_first_place : (x : ℕ) (ls : List ToldLine) (p : ℕ) (l : ToldLine) → p ≡ 0 + before_own x (drop 0 ls) → slice_get ls p ≡ Some l → l.node ≡ x
own_first_place x ls p l first there =
    let place : p ≡ before_own x ls = omega (arith, first) in
    node_at_head x ls p l (ap (λ q. before_own x (drop q ls)) place ∙ before_none x ls) there

-- one more head, and how its line can come next
abbrev pub HaveFirst : (Node → List ℕ) → Records → World → ℕ → List Head → Type 0
HaveFirst digest r w upto heads = AreHeads upto r.lines [] heads × ((x : ℕ) → IsNode upto x → HasWay digest r w x (head_of heads x))

pub first_more : (digest : Node → List ℕ) (r : Records) (w : World) (n : ℕ) (hs : List Head) (h : Head) → HaveFirst digest r w n hs → h.place ≡ 0 + before_own (n + 1) (drop 0 r.lines) → h.started ≡ false
    → HasWay digest r w (n + 1) h → HaveFirst digest r w (n + 1) (hs ++ h ∷ [])
first_more digest r w n hs h are place begun way = (heads_push n r.lines hs h are.0 place begun, each) where
  each : (x : ℕ) → IsNode (n + 1) x → HasWay digest r w x (head_of (hs ++ h ∷ []) x)
  each x is = ⊎_elim last before (cases_eq x (n + 1)) where
    before : (x ≡ n + 1 → ⊥) → HasWay digest r w x (head_of (hs ++ h ∷ []) x)
    before apart =
        let among : IsNode n x = (is.0, omega (arith, is.1, apart)) in
        subst (HasWay digest r w x) (sym (get_or_append_left hs (h ∷ []) no_head (x - 1) (omega (arith, among.0, among.1, are.0.all)))) (are.1 x among)

    last : x ≡ n + 1 → HasWay digest r w x (head_of (hs ++ h ∷ []) x)
    last same = subst (λ (y : ℕ). HasWay digest r w y (head_of (hs ++ h ∷ []) y)) (sym same) (subst (HasWay digest r w (n + 1)) (sym (get_or_push hs h no_head (n + 1 - 1) (omega (arith, are.0.all)))) way)

-- the place of the first line of a node, as it is read
pub first_read : (nodes : ℕ) (ls : List ToldLine) (first next : List ℕ) (n value : ℕ) → ArePlacesFrom nodes ls 0 first next → n < nodes → value ≡ get_or first n value → value ≡ 0 + before_own (n + 1) (drop 0 ls)
first_read nodes ls first next n value are within read =
    let index : n ≡ n + 1 - 1 = omega arith in
    read ∙ (any_default first n value 0 (omega (arith, within, are.all_nodes)) ∙ (ap (λ i. get_or first i 0) index ∙ are.first_is (n + 1) (omega arith, omega (arith, within))))
