-- The turn of a node in step 3 of heal, where the member before the node is not the root: by way of the root, whose epoch is
-- told down to that member.
use Rattle.std.proofs.Common.{◌≡◌, ℕ, ◌+◌, ◌≤◌, ◌<◌, true, false, ◌&&◌, ◌==◌, nat_lt, nat_le, Option, Some, None, List, length, refl, ap, ap₂, sym, subst, ◌∙◌, ⊎_elim, arith, lt-ltb, ltb-true, eqb-true, length-append}
use Rattle.std.proofs.Common.{leb-true}
use Rattle.std.proofs.lemmas.Bool.{cases_eq, or_left, or_cases, and_parts, false_from_ne_true}
use Rattle.oc_base.specs.declared.rank.Rank.{Rank}
use Rattle.oc_base.specs.declared.limits.TheConstants.{MAX_DEPTH}
use Rattle.oc_model.specs.declared.event.Act.TheVariants as acts
use Rattle.oc_model.specs.declared.input.Input.TheVariants as inputs
use Rattle.oc_model.specs.declared.mode.Mode.TheVariants.{Asking, Joined}
use Rattle.oc_model.specs.Adopting.{is_acting, in_tree}
use Rattle.oc_model.specs.Adoption.{rank_or_last, precedes_any}
use Rattle.oc_model.specs.Chains.{IsUp, IsJoined}
use Rattle.oc_model.specs.ClaimsTree.{seq_of}
use Rattle.oc_model.specs.Heal.{IsPlaced, epoch_in, asks, joins, top_down, below, tells_rank, joins_by}
use Rattle.oc_model.specs.Node.{Header, Control}
use Rattle.oc_model.specs.Plan.{Plan, begun}
use Rattle.oc_model.specs.Runs.{Run, and_then, for_each}
use Rattle.oc_model.specs.Settle.{checks_in}
use Rattle.oc_model.specs.World.{World, is_up, mode_of, after_act}
use Rattle.oc_model.proofs.Chains.{chain_to-finds}
use Rattle.oc_laws_world.specs.Ranks.{own_rank}
use Rattle.oc_laws_world.proofs.Lifts.{control_of}
use Rattle.oc_laws_tree.proofs.Asks.{raised_none, begun_raised, MayAdopt, line_refuses}
use Rattle.oc_laws_tree.proofs.CheckIns.{me_is}
use Rattle.oc_laws_tree.proofs.Core.{Core, core_of, epoch_or_last}
use Rattle.oc_laws_tree.proofs.Descending.{TellsDown, tells_down}
use Rattle.oc_laws_tree.proofs.Held.{stays_then, IsHeld}
use Rattle.oc_laws_tree.proofs.Joining.{CanMove, ComesBeneath, comes_beneath, AsksInVain, asks_in_vain}
use Rattle.oc_laws_tree.proofs.LineHolds.{root_top}
use Rattle.oc_laws_tree.proofs.Placing.{IsClimb, chain_climbs, top_child, placed_beneath, IsHealing, ChangesAt, healing_on, placed_on, line_free, line_taken}
use Rattle.oc_laws_tree.proofs.Putting.{IsLoose, steady_changes, vain_changes, came_changes, came_held}
use Rattle.oc_laws_tree.proofs.Turn.{RaisesAt, raises_at, raised_changes, CanPut, IsPut, placed_joined, over, loose, not_first, risen, over_me, over_chain, moves_to_root}
use Rattle.oc_laws_tree.proofs.Spans.{IsId, up_id, among_them}

-- a rank with a greater epoch, at any depth, precedes each rank that the root's rank precedes

past_of : (e k : ℕ) (r : Option Rank) → precedes_any (record { epoch = e; depth = 0 }) r ≡ true → precedes_any (record { epoch = e + 1; depth = k }) r ≡ true
past_of e k None above = refl
past_of e k (Some s) above =
    let low : s.epoch ≤ e = ⊎_elim
    (λ (more : nat_lt s.epoch e ≡ true). let less : s.epoch < e = ltb-true s.epoch e more in omega (arith, less))
    (λ (same : (e == s.epoch && nat_lt 0 s.depth) ≡ true). let even : e ≡ s.epoch = eqb-true e s.epoch (and_parts (e == s.epoch) (nat_lt 0 s.depth) same).0 in omega (arith, even))
    (or_cases (nat_lt s.epoch e) (e == s.epoch && nat_lt 0 s.depth) above) in
    or_left (nat_lt s.epoch (e + 1)) (e + 1 == s.epoch && nat_lt k s.depth) (lt-ltb s.epoch (e + 1) (omega (arith, low)))

-- A join by way of the root

module _ (h : Header) (m : ℕ) (w : World) (x p most : ℕ) (can : CanPut h m w x p most) (apart : p ≡ m → ⊥) where
  -- x asks the root in vain, since the root has a member before x as a child
  abbrev u1 : World
  u1 = (asks m x w).world

  abbrev host_chain : IsPlaced w m p
  host_chain = can.all p can.host can.member can.less

  line : (a : ℕ) × (a ≤ p) × IsHeld w m a
  line =
      let top = top_child w m p host_chain.0 host_chain.1 host_chain.2 apart in
      let climb : IsClimb m p host_chain.0 = chain_climbs h w m p host_chain.0 can.healing.reached can.member host_chain.1 in
      (top.0, climb.below top.0 top.1, top.2)

  vain : AsksInVain h w x m (over h m w x p most can) (asks m x w)
  vain =
      let o : Plan = over h m w x p most can in
      let refusal = line_taken h m w line.0 x o.node can.healing line.2 (omega (arith, line.1, can.member)) (omega (arith, line.1, can.less)) (risen h m w x p most can).raised.rest.table (over_me h m w x p most can) (over_chain h m w x p most can) in
      asks_in_vain h w x m o can.healing.reached (moves_to_root h m w x p most can) can.healing.root.0 refl (risen h m w x p most can).raised (line_refuses o.node x refusal.0 (own_rank w x) refusal.1)

  changes1 : ChangesAt h x w u1
  changes1 = vain_changes h m x m w (over h m w x p most can) (asks m x w) can.healing (loose h m w x p most can) can.other vain

  healing1 : IsHealing h m u1
  healing1 = healing_on h m x w u1 can.healing can.other changes1

  -- a node that asks is not in place and has no parent
  asks_loose : (u : World) → mode_of u x ≡ Asking m → (IsPlaced u m x → ⊥) × IsLoose h u x
  asks_loose u asks = (
    λ placed. let joined = placed_joined u m x can.other placed in let clash : Asking m ≡ Joined joined.0 = sym asks ∙ joined.1 in cc,
    λ member y held. let clash : Asking m ≡ Joined y = sym asks ∙ held.joined in cc,
  )

  asks1 : mode_of u1 x ≡ Asking m
  asks1 = ap (λ (k : Core). k.mode) vain.child

  -- the root checks, and its epoch is past that of x
  abbrev u2 : World
  u2 = after_act u1 (acts.At m inputs.CheckNow)

  abbrev epoch : ℕ
  epoch = (risen h m w x p most can).top.0.epoch

  rank1 : own_rank u1 m ≡ Some (record { epoch = epoch; depth = 0 })
  rank1 =
      let top = (risen h m w x p most can).top in
      ap (λ (k : Core). k.rank) vain.host ∙ (top.1 ∙ ap (λ (d : ℕ). Some (record { epoch = epoch; depth = d })) top.2)

  epoch_low : epoch ≤ most + 1
  epoch_low = let risen_here = risen h m w x p most can in omega (arith, risen_here.epoch, ap epoch_in risen_here.top.1)

  checked : RaisesAt h u1 m epoch u2
  checked = raises_at h u1 m epoch vain.reached healing1.root rank1 (omega (arith, epoch_low, can.room))

  changes2 : ChangesAt h x u1 u2
  changes2 = raised_changes h m x epoch u1 u2 healing1 checked

  healing2 : IsHealing h m u2
  healing2 = healing_on h m x u1 u2 healing1 can.other changes2

  core2 : core_of (control_of u2 x) ≡ core_of (control_of u1 x)
  core2 = ap core_of (checked.others x (λ e. can.other (sym e)))

  asks2 : mode_of u2 x ≡ Asking m
  asks2 = ap (λ (k : Core). k.mode) core2 ∙ asks1

  kept2 : (y : ℕ) → IsPlaced w m y → IsPlaced u2 m y
  kept2 y placed = placed_on h m x u1 u2 changes2 (asks_loose u1 asks1).0 y (placed_on h m x w u1 changes1 can.unplaced y placed)

  -- the chain from p up to the root
  abbrev chain2 : IsPlaced u2 m p
  chain2 = kept2 p host_chain

  climb2 : IsClimb m p chain2.0
  climb2 = chain_climbs h u2 m p chain2.0 healing2.reached can.member chain2.1

  -- the new rank is told down the chain
  abbrev told : Run
  told = for_each (below m p u2) checks_in u2

  abbrev u3 : World
  u3 = told.world

  tells : TellsDown h u2 x m p (epoch + 1) chain2.0 told
  tells =
      let found : below m p u2 ≡ top_down (Some chain2.0) = ap top_down (chain_to-finds u2 p m chain2.0 chain2.1) in
      subst (λ (xs : List ℕ). TellsDown h u2 x m p (epoch + 1) chain2.0 (for_each xs checks_in u2)) (sym found)
      (tells_down h u2 x m p (epoch + 1) chain2.0 healing2.reached can.member chain2.1 chain2.2 (λ one. let most_id : x ≤ p = climb2.below x one in omega (arith, most_id, can.less))
      (omega (arith, climb2.short, climb2.above, can.member, can.short)) (ap (λ (k : Core). k.rank) checked.core) (root_top h u2 m healing2.reached healing2.root.1).0)

  changes3 : ChangesAt h x u2 u3
  changes3 = steady_changes h m x u2 u3 healing2 tells.reached tells.steady tells.seqs tells.only tells.held

  healing3 : IsHealing h m u3
  healing3 = healing_on h m x u2 u3 healing2 can.other changes3

  core3 : core_of (control_of u3 x) ≡ core_of (control_of u1 x)
  core3 = tells.core ∙ core2

  asks3 : mode_of u3 x ≡ Asking m
  asks3 = ap (λ (k : Core). k.mode) core3 ∙ asks1

  rank3 : own_rank u3 x ≡ own_rank w x
  rank3 = ap (λ (k : Core). k.rank) core3 ∙ ap (λ (k : Core). k.rank) vain.child

  seq3 : seq_of u3 x ≡ seq_of w x + 1
  seq3 = ap (λ (k : Core). k.seq) core3 ∙ ap (λ (k : Core). k.seq) vain.child

  kept3 : (y : ℕ) → IsPlaced w m y → IsPlaced u3 m y
  kept3 y placed = placed_on h m x u2 u3 changes3 (asks_loose u2 asks2).0 y (kept2 y placed)

  up3 : (y : ℕ) → is_up u3 y ≡ is_up w y
  up3 y = changes3.up y ∙ (changes2.up y ∙ changes1.up y)

  -- x comes under p
  joined3 : (d : ℕ) × IsJoined u3 p d
  joined3 = placed_joined u3 m p apart (kept3 p host_chain)

  host_takes : MayAdopt (control_of u3 p) x (own_rank u3 x)
  host_takes =
      let id : IsId h p = up_id h w p can.healing.reached can.host in
      record {
        other = λ e. let same : x ≡ p = e ∙ me_is u3 p in omega (arith, same, can.less);
        placed = ap in_tree joined3.1;
        stranger = tells.stranger;
        shallow = shallow;
        line = line_free h m u3 p x (control_of u3 p) healing3 (up3 p ∙ can.host) (λ k up member less. can.before k (sym (up3 k) ∙ up) member less) refl (me_is u3 p) (among_them h u3 p healing3.reached id).1;
        above = above;
      } where
        depth : ℕ
        depth = tells.rank.0

        shallow : nat_le MAX_DEPTH (rank_or_last (own_rank u3 p)).depth ≡ false
        shallow =
            let is : (rank_or_last (own_rank u3 p)).depth ≡ tells.rank.0 = ap (λ (k : Option Rank). (rank_or_last k).depth) tells.rank.1 in
            false_from_ne_true (nat_le MAX_DEPTH (rank_or_last (own_rank u3 p)).depth) (λ e.
            let deep : MAX_DEPTH ≤ (rank_or_last (own_rank u3 p)).depth = leb-true MAX_DEPTH (rank_or_last (own_rank u3 p)).depth e in
            absurd (omega (arith, deep, is, tells.rank.2, climb2.short, climb2.above, can.member, can.short)))

        above : precedes_any (rank_or_last (own_rank u3 p)) (own_rank u3 x) ≡ true
        above =
            let top = (risen h m w x p most can).top in
            let was : precedes_any (rank_or_last (over h m w x p most can).node.kept.rank) (own_rank w x) ≡ true = (risen h m w x p most can).above in
            let host_rank : rank_or_last (over h m w x p most can).node.kept.rank ≡ record { epoch = epoch; depth = 0 } = ap rank_or_last top.1 ∙ ap (λ (d : ℕ). record { epoch = epoch; depth = d }) top.2 in
            ap₂ precedes_any (ap rank_or_last tells.rank.1) rank3 ∙ past_of epoch tells.rank.0 (own_rank w x) (ap (λ (k : Rank). precedes_any k (own_rank w x)) (sym host_rank) ∙ was)

  moves_to_host : CanMove u3 x p
  moves_to_host = record {
    up = up3 x ∙ can.up;
    other = λ e. omega (arith, e, can.less);
    first = not_first h m w x p most can;
    earlier = λ member. omega (arith, can.less);
    more = omega (arith, seq3, can.asks);
  }

  came : ComesBeneath h u3 x p (begun (control_of u3 p)) (joins p x u3)
  came = comes_beneath h u3 x p (begun (control_of u3 p)) healing3.reached moves_to_host (up3 p ∙ can.host) (raised_none (control_of u3 p) x (own_rank u3 x) (ap is_acting joined3.1)) (begun_raised (control_of u3 p)) host_takes

  abbrev u4 : World
  u4 = (joins p x u3).world

  changes4 : ChangesAt h x u3 u4
  changes4 = came_changes h m x p u3 (begun (control_of u3 p)) (joins p x u3) healing3 (asks_loose u3 asks3).1 (λ e. omega (arith, e, can.less)) (up3 x ∙ can.up) came

  kept4 : (y : ℕ) → IsPlaced w m y → IsPlaced u4 m y
  kept4 y placed = placed_on h m x u3 u4 changes4 (asks_loose u3 asks3).0 y (kept3 y placed)

  -- no epoch is more than two above the others
  low1 : (y : ℕ) → IsUp u1 y → epoch_in (own_rank u1 y) ≤ most + 1
  low1 y up = ⊎_elim
      (λ (is : x ≡ y). subst (λ (z : ℕ). epoch_in (own_rank u1 z) ≤ most + 1) is (let own : epoch_in (own_rank w x) ≤ most = can.low x can.up in omega (arith, ap (λ (k : Core). epoch_in k.rank) vain.child, own)))
      (λ not_x. ⊎_elim
      (λ (is : m ≡ y). subst (λ (z : ℕ). epoch_in (own_rank u1 z) ≤ most + 1) is (omega (arith, ap epoch_in rank1, epoch_low)))
      (λ not_m. let own : epoch_in (own_rank w y) ≤ most = can.low y (sym (vain.up y) ∙ up) in omega (arith, ap (λ (k : Control). epoch_in k.kept.rank) (vain.others y not_x not_m), own))
      (cases_eq m y))
      (cases_eq x y)

  low2 : (y : ℕ) → IsUp u2 y → epoch_in (own_rank u2 y) ≤ most + 2
  low2 y up = ⊎_elim
      (λ (is : m ≡ y). subst (λ (z : ℕ). epoch_in (own_rank u2 z) ≤ most + 2) is (omega (arith, ap (λ (k : Core). epoch_in k.rank) checked.core, epoch_low)))
      (λ not_m. let own : epoch_in (own_rank u1 y) ≤ most + 1 = low1 y (sym (checked.up y) ∙ up) in omega (arith, ap (λ (k : Control). epoch_in k.kept.rank) (checked.others y not_m), own))
      (cases_eq m y)

  low3 : (y : ℕ) → IsUp u3 y → epoch_in (own_rank u3 y) ≤ most + 2
  low3 = tells.epochs (most + 2) low2

  low4 : (y : ℕ) → IsUp u4 y → epoch_in (own_rank u4 y) ≤ most + 2
  low4 y up = ⊎_elim
      (λ (is : x ≡ y). subst (λ (z : ℕ). epoch_in (own_rank u4 z) ≤ most + 2) is
      (let own : epoch_in (own_rank u3 p) ≤ most + 2 = low3 p (up3 p ∙ can.host) in omega (arith, ap (λ (k : Core). epoch_in k.rank) came.child, epoch_or_last (own_rank u3 p), own)))
      (λ not_x. ⊎_elim
      (λ (is : p ≡ y). subst (λ (z : ℕ). epoch_in (own_rank u4 z) ≤ most + 2) is (let own : epoch_in (own_rank u3 p) ≤ most + 2 = low3 p (up3 p ∙ can.host) in omega (arith, ap (λ (k : Core). epoch_in k.rank) came.host, own)))
      (λ not_p. let own : epoch_in (own_rank u3 y) ≤ most + 2 = low3 y (sym (came.up y) ∙ up) in omega (arith, ap (λ (k : Control). epoch_in k.kept.rank) (came.others y not_x not_p), own))
      (cases_eq p y))
      (cases_eq x y)

  -- at most 51 acts, since the chain has at most 15 nodes below the root
  few : length (joins_by m p x w).acts ≤ 51
  few =
      let first : Run = asks m x w in
      let second : Run = and_then first (tells_rank m p) in
      omega (
        arith,
        length-append second.acts (joins p x u3).acts,
        length-append first.acts (tells_rank m p u1).acts,
        vain.acts,
        came.acts,
        tells.acts,
        climb2.short,
        climb2.above,
        can.member,
        can.short,
        (up_id h w m can.healing.reached can.healing.root.0).least,
      )

  pub put_under : IsPut h m w x most (joins_by m p x w)
  put_under = record {
    healing = healing_on h m x u3 u4 healing3 can.other changes4;
    up = λ y. changes4.up y ∙ up3 y;
    stays = λ y other. stays_then w u3 u4 y (stays_then w u2 u3 y (stays_then w u1 u2 y (changes1.stays y other) (changes2.stays y other)) (changes3.stays y other)) (changes4.stays y other);
    seqs = λ y other. changes4.seqs y other ∙ (changes3.seqs y other ∙ (changes2.seqs y other ∙ changes1.seqs y other));
    seq = omega (arith, ap (λ (k : Core). k.seq) came.child, seq3);
    placed = placed_beneath u4 m p x (came_held h m x p u3 (begun (control_of u3 p)) (joins p x u3) healing3 (up3 x ∙ can.up) (up3 p ∙ can.host) came) (kept4 p host_chain);
    kept = kept4;
    low = low4;
    acts = few;
  }
