-- The way of a root's new rank down a chain: each node of the chain checks in, from the top down.
use Rattle.std.proofs.Common.{◌≡◌, ℕ, zero, suc, ◌+◌, ◌-◌, ◌*◌, ◌≤◌, ◌<◌, Bool, true, false, ◌&&◌, ◌||◌, ◌==◌, nat_lt, if◌then◌else◌, Option, Some, None, List, [], ◌∷◌, ◌++◌, inl, inr, drop, take, reverse, length, refl, ap, sym, subst, ◌∙◌, arith, lt-ltb, ltb-false, ne_eqb, eq-eqb, length-append}
use Rattle.std.proofs.lemmas.List.{reverse-append, length-reverse}
use Rattle.std.proofs.lemmas.Bool.{or_left, or_right, and_from, true≢false}
use Rattle.oc_base.specs.declared.rank.Rank.{Rank}
use Rattle.oc_base.specs.Rank.{Precedes, beneath_of}
use Rattle.oc_base.specs.declared.limits.TheConstants.{MAX_DEPTH}
use Rattle.oc_model.specs.declared.mode.Mode.TheVariants.{Acting}
use Rattle.oc_model.specs.Adoption.{rank_or_last, precedes, is_better, take_rank}
use Rattle.oc_model.specs.Asking.{ancestors_by}
use Rattle.oc_model.specs.Chains.{IsUp, IsTrueChain}
use Rattle.oc_model.specs.Heal.{AreLeased, epoch_in, top_down}
use Rattle.oc_model.specs.Node.{Header}
use Rattle.oc_model.specs.Numbers.{has}
use Rattle.oc_model.specs.Ready.{HoldsLease, IsLeased}
use Rattle.oc_model.specs.Runs.{Run, for_each}
use Rattle.oc_model.specs.Settle.{checks_in}
use Rattle.oc_model.specs.World.{World, mode_of}
use Rattle.oc_model.specs.ClaimsTree.{seq_of}
use Rattle.oc_model.specs.WorldBounds.{IsOneOf}
use Rattle.oc_model.proofs.Chains.{acting_alone, joined_once}
use Rattle.oc_laws_world.specs.Ranks.{own_rank, ParentsPrecede}
use Rattle.oc_laws_world.proofs.Lifts.{control_of}
use Rattle.oc_laws_tree.proofs.Points.{parents_after}
use Rattle.oc_laws_tree.proofs.CheckIns.{ChecksIn, checks_in_once}
use Rattle.oc_laws_tree.proofs.Checks.{rank_unless}
use Rattle.oc_laws_tree.proofs.LineHolds.{in_line, is_member_of, earlier_parent}
use Rattle.oc_laws_tree.proofs.Spans.{up_id}
use Rattle.oc_laws_tree.proofs.Core.{Core, core_of}
use Rattle.oc_laws_tree.proofs.Held.{Steady, steady_itself, stays_then, IsHeld}
use Rattle.oc_laws_tree.proofs.Levels.{for_each-append}
use Rattle.oc_laws_tree.proofs.ReadyStays.{chain_first_up, chain_root}
use Rattle.oc_laws_tree.proofs.Reached.{Reached, of_reached}
use Rattle.oc_laws_tree.proofs.CheckedIn.{CheckInKeeps, checks_in_keeps, parent_apart}

-- The taken rank

-- a rank of this epoch, at most this deep
abbrev pub IsOfEpoch : ℕ → ℕ → Option Rank → Type 0
IsOfEpoch epoch most rank = (k : ℕ) × (rank ≡ Some (record { epoch = epoch; depth = k })) × (k ≤ most)

-- a rank taken from a parent whose rank precedes the own one is of the parent's epoch, and at most one level deeper
taken_beneath : (own : Option Rank) (told : Rank) → told.depth < MAX_DEPTH → Precedes told (rank_or_last own) → IsOfEpoch told.epoch (told.depth + 1) (take_rank own told)
taken_beneath own told shallow above = by_test (is_better own told) refl where
  low : nat_lt told.depth MAX_DEPTH ≡ true
  low = lt-ltb told.depth MAX_DEPTH shallow

  kept : (o : Option Rank) → is_better o told ≡ false → Precedes told (rank_or_last o) → IsOfEpoch told.epoch (told.depth + 1) o
  kept None e k = let clash : true ≡ false = sym (ap (λ b. b && true) low) ∙ e in absurd cc
  kept (Some o) e (inl more) =
      let better : is_better (Some o) told ≡ true = and_from (nat_lt told.depth MAX_DEPTH) (precedes (beneath_of told) o) low (or_left (nat_lt o.epoch told.epoch) _ (lt-ltb o.epoch told.epoch more)) in
      absurd (true≢false (sym better ∙ e))
  kept (Some o) e (inr same) = by_depth (nat_lt (told.depth + 1) o.depth) refl where
    by_depth : (b : Bool) → nat_lt (told.depth + 1) o.depth ≡ b → IsOfEpoch told.epoch (told.depth + 1) (Some o)
    by_depth true deeper =
        let better : is_better (Some o) told ≡ true = and_from (nat_lt told.depth MAX_DEPTH) (precedes (beneath_of told) o) low
        (or_right (nat_lt o.epoch told.epoch) (told.epoch == o.epoch && nat_lt (told.depth + 1) o.depth) (and_from (told.epoch == o.epoch) (nat_lt (told.depth + 1) o.depth) (eq-eqb told.epoch o.epoch same.0) deeper)) in
        absurd (true≢false (sym better ∙ e))
    by_depth false deeper = (o.depth, ap (λ (n : ℕ). Some (record { epoch = n; depth = o.depth })) (sym same.0), ltb-false (told.depth + 1) o.depth deeper)

  by_test : (b : Bool) → is_better own told ≡ b → IsOfEpoch told.epoch (told.depth + 1) (if b then Some (beneath_of told) else own)
  by_test true e = (told.depth + 1, refl, omega arith)
  by_test false e = kept own e above

-- Ancestors

has_taken : (n : ℕ) (xs : List ℕ) (x : ℕ) → has xs x ≡ false → has (take n xs) x ≡ false
has_taken zero xs x none = refl
has_taken (suc n) [] x none = none
has_taken (suc n) (y ∷ ys) x none = by_test (y == x) (λ rest. has_taken n ys x rest) none where
  by_test : (b : Bool) → (has ys x ≡ false → has (take n ys) x ≡ false) → (b || has ys x) ≡ false → (b || has (take n ys) x) ≡ false
  by_test true rest e = e
  by_test false rest e = rest e

-- a node that is neither the parent nor one of its ancestors is no ancestor
stranger_by : (d : ℕ) (xs : List ℕ) (x : ℕ) → (x ≡ d → ⊥) → has xs x ≡ false → has (ancestors_by d xs) x ≡ false
stranger_by d xs x other none = ap (λ b. b || has (take 999 xs) x) (ne_eqb d x (λ e. other (sym e))) ∙ has_taken 999 xs x none

-- The order of the nodes

drop_one : (xs ys : List ℕ) → 1 ≤ length xs → drop 1 (xs ++ ys) ≡ drop 1 xs ++ ys
drop_one [] ys some = absurd (omega (arith, some))
drop_one (x ∷ xs) ys some = refl

-- a node comes after the nodes above it
top_down_then : (y d : ℕ) (ds : List ℕ) → top_down (Some (y ∷ d ∷ ds)) ≡ top_down (Some (d ∷ ds)) ++ y ∷ []
top_down_then y d ds =
    ap (drop 1) (reverse-append (y ∷ []) (d ∷ ds)) ∙ drop_one (reverse (d ∷ ds)) (y ∷ []) (omega (arith, length-reverse (d ∷ ds)))

-- The effect

-- the rank of the root m, of this epoch, is told down the chain from m to y, on which x is not
pub record TellsDown (h : Header) (w : World) (x m y epoch : ℕ) (c : List ℕ) (r : Run) : Type 0 where
  pub acts : length r.acts + 3 ≤ 3 * length c
  pub reached : Reached h r.world
  pub steady : Steady w r.world
  pub seqs : (z : ℕ) → seq_of r.world z ≡ seq_of w z
  pub only : (a b s : ℕ) → HoldsLease r.world a b s → HoldsLease w a b s
  pub held : (a b : ℕ) → IsHeld w a b → IsHeld r.world a b
  pub core : core_of (control_of r.world x) ≡ core_of (control_of w x)
  pub root : core_of (control_of r.world m) ≡ core_of (control_of w m)
  pub epochs : (most : ℕ) → ((z : ℕ) → IsUp w z → epoch_in (own_rank w z) ≤ most) → (z : ℕ) → IsUp r.world z → epoch_in (own_rank r.world z) ≤ most
  pub rank : IsOfEpoch epoch (length c - 1) (own_rank r.world y)
  pub stranger : has (control_of r.world y).kept.ancestors x ≡ false

-- the links of the chain hold
pub link_held : (w : World) (y d m : ℕ) (ds : List ℕ) → IsTrueChain w y m (y ∷ d ∷ ds) → IsLeased w y → IsHeld w d y
link_held w y d m ds chain leased = record {
  host = chain_first_up w d m (d ∷ ds) chain.3;
  up = chain.1;
  joined = chain.2;
  lease = subst (λ (p : ℕ). HoldsLease w p y (seq_of w y)) (joined_once w y leased.0 d leased.1 chain.2) leased.2;
}

-- a chain of chain members, which take the rank that they are told
pub tells_down : (h : Header) (w : World) (x m y epoch : ℕ) (c : List ℕ) → Reached h w → y ≤ h.chain → IsTrueChain w y m c → AreLeased w c → (IsOneOf x c → ⊥) → length c ≤ MAX_DEPTH
    → own_rank w m ≡ Some (record { epoch = epoch; depth = 0 }) → (control_of w m).kept.ancestors ≡ [] → TellsDown h w x m y epoch c (for_each (top_down (Some c)) checks_in w)
tells_down h w x m y epoch [] reached member chain leased out short rank top = absurd chain
tells_down h w x m y epoch (a ∷ []) reached member chain leased out short rank top = record {
  acts = omega arith;
  reached = reached;
  steady = steady_itself w;
  seqs = λ z. refl;
  only = λ a b s leased. leased;
  held = λ a b held. held;
  core = refl;
  root = refl;
  epochs = λ most all. all;
  rank = (0, ap (own_rank w) chain.1 ∙ rank, omega arith);
  stranger = ap (λ (z : ℕ). has (control_of w z).kept.ancestors x) chain.1 ∙ ap (λ xs. has xs x) top;
}
tells_down h w x m y epoch (a ∷ d ∷ ds) reached member chain leased out short rank top =
    let above : List ℕ = top_down (Some (d ∷ ds)) in
    let earlier : d < y = earlier_parent h w y d reached (up_id h w y reached chain.1) member chain.2 in
    let first : TellsDown h w x m d epoch (d ∷ ds) (for_each above checks_in w) = tells_down h w x m d epoch (d ∷ ds) reached (omega (arith, earlier, member)) chain.3 leased.1 (λ one. out (inr one)) (omega (arith, short)) rank top in
    let u : World = (for_each above checks_in w).world in
    let here : IsHeld u d y = first.held d y (link_held w y d m ds (refl, chain.1, chain.2, chain.3) (subst (IsLeased w) chain.0 leased.0)) in
    let v : World = (checks_in y u).world in
    let checked : ChecksIn u y d (checks_in y u) = checks_in_once u y d (parent_apart h u first.reached y d here.joined) here.up here.joined here.host here.lease in
    let keeps : CheckInKeeps h u y v = checks_in_keeps h u y d first.reached here.up here.joined in
    let child_not_x : y ≡ x → ⊥ = λ e. out (inl (sym e ∙ sym chain.0)) in
    let child_not_root : y ≡ m → ⊥ = λ e. acting_alone w y d (subst (λ z. mode_of w z ≡ Acting) (sym e) (chain_root w y m (a ∷ d ∷ ds) chain)) chain.2 in
    let parent_not_x : x ≡ d → ⊥ = λ e. out (inr (inl e)) in
    let host : Rank = record { epoch = epoch; depth = first.rank.0 } in
    let told : rank_or_last (own_rank u d) ≡ host = ap rank_or_last first.rank.1 in
    let parents : ParentsPrecede u = of_reached ParentsPrecede parents_after h u first.reached in
    let precedes_own : Precedes host (rank_or_last (own_rank u y)) = subst (λ (r : Rank). Precedes r (rank_or_last (own_rank u y))) told (parents y d here.joined).1 in
    let taken : IsOfEpoch epoch (first.rank.0 + 1) (take_rank (own_rank u y) host) = taken_beneath (own_rank u y) host (omega (arith, first.rank.2, short)) precedes_own in
    let no_wish : (control_of u y).soft.wish ≡ None = (in_line h u y first.reached).no_wish (is_member_of h u y first.reached (up_id h u y first.reached here.up) member) in
    let took : own_rank v y ≡ take_rank (own_rank u y) host =
    ap (λ (k : Core). k.rank) checked.child ∙ (ap (λ (wish : Option ℕ). rank_unless wish (own_rank u y) (rank_or_last (own_rank u d))) no_wish ∙ ap (take_rank (own_rank u y)) told) in
    subst (λ (xs : List ℕ). TellsDown h w x m y epoch (a ∷ d ∷ ds) (for_each xs checks_in w)) (sym (ap (λ (z : ℕ). top_down (Some (z ∷ d ∷ ds))) chain.0 ∙ top_down_then y d ds))
    (subst (TellsDown h w x m y epoch (a ∷ d ∷ ds)) (sym (for_each-append checks_in above (y ∷ []) w)) record {
      acts = omega (arith, length-append (for_each above checks_in w).acts ((checks_in y u).acts ++ []), length-append (checks_in y u).acts [], checked.acts, first.acts);
      reached = keeps.reached;
      steady = λ z. stays_then w u v z (first.steady z) (keeps.steady z);
      seqs = λ z. keeps.seqs z ∙ first.seqs z;
      only = λ b z s is. first.only b z s (keeps.only b z s is);
      held = λ b z is. keeps.held b z (first.held b z is);
      core = keeps.cores x child_not_x ∙ first.core;
      root = keeps.cores m child_not_root ∙ first.root;
      epochs = λ most all. keeps.epochs most (first.epochs most all);
      rank = (taken.0, took ∙ taken.1, omega (arith, taken.2, first.rank.2));
      stranger = ap (λ (k : Core). has k.ancestors x) checked.child ∙ stranger_by d (control_of u d).kept.ancestors x parent_not_x first.stranger;
    })
