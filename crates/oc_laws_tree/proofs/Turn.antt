-- The turn of a node in step 3 of heal: its conditions and its effect, proved where the member before the node is the root.
use Rattle.std.proofs.Common.{◌≡◌, ℕ, ◌+◌, ◌≤◌, ◌<◌, nat_le, if◌then◌else◌, Option, Some, None, [], ◌∷◌, length, refl, ap, sym, subst, ◌∙◌, ⊎_elim, arith, ne_eqb}
use Rattle.std.proofs.lemmas.Bool.{cases_eq}
use Rattle.oc_base.specs.declared.rank.Rank.{Rank}
use Rattle.oc_base.specs.declared.limits.TheConstants.{MAX_DEPTH}
use Rattle.oc_model.specs.declared.event.Act.TheVariants as acts
use Rattle.oc_model.specs.declared.input.Input.TheVariants as inputs
use Rattle.oc_model.specs.declared.mode.Mode.{Mode}
use Rattle.oc_model.specs.Adopting.{is_acting, in_tree, raises}
use Rattle.oc_model.specs.Adoption.{rank_or_last}
use Rattle.oc_model.specs.Chains.{IsUp, IsJoined, IsRoot}
use Rattle.oc_model.specs.Checking.{next_check, checks_as, checks}
use Rattle.oc_model.specs.ClaimsTree.{table_of, seq_of}
use Rattle.oc_model.specs.Heal.{IsPlaced, epoch_in, joins}
use Rattle.oc_model.specs.Node.{Header, Control}
use Rattle.oc_model.specs.Numbers.{number_end, raise, has}
use Rattle.oc_model.specs.Plan.{Plan, begun, with_soft}
use Rattle.oc_model.specs.Runs.{Run}
use Rattle.oc_model.specs.Step.{step}
use Rattle.oc_model.specs.Table.{leased_by}
use Rattle.oc_model.specs.World.{World, node, is_up, after_act}
use Rattle.oc_laws_world.specs.Ranks.{own_rank}
use Rattle.oc_laws_world.proofs.Lifts.{control_of}
use Rattle.oc_laws_tree.proofs.Asks.{raised_host, HasRisenOver, root_raised, MayAdopt}
use Rattle.oc_laws_tree.proofs.CheckIns.{Goes, act_goes, me_is}
use Rattle.oc_laws_tree.proofs.Checks.{HasSameRest}
use Rattle.oc_laws_tree.proofs.Core.{Core, core_of, epoch_or_last}
use Rattle.oc_laws_tree.proofs.Held.{Stays, Steady, stays_same, stays_core, IsHeld, held_on}
use Rattle.oc_laws_tree.proofs.Joining.{CanMove, ComesBeneath, comes_beneath}
use Rattle.oc_laws_tree.proofs.Line.{IsTop}
use Rattle.oc_laws_tree.proofs.LineHolds.{member_of, earlier_parent, root_top}
use Rattle.oc_laws_tree.proofs.Placing.{placed_beneath, IsHealing, ChangesAt, healing_on, placed_on, IsBefore, line_free}
use Rattle.oc_laws_tree.proofs.Putting.{IsLoose, steady_changes, came_changes, came_held}
use Rattle.oc_laws_tree.proofs.Reached.{Reached, reached_act}
use Rattle.oc_laws_tree.proofs.Spans.{up_id, among_them}

-- The root checks

-- the epoch of the root is one more
pub record RaisesAt (h : Header) (w : World) (m epoch : ℕ) (v : World) : Type 0 where
  pub reached : Reached h v
  pub core : core_of (control_of v m) ≡ record (core_of (control_of w m)) { rank = Some (record { epoch = epoch + 1; depth = 0 }) }
  pub rest : HasSameRest (control_of w m) (control_of v m)
  pub others : (y : ℕ) → (m ≡ y → ⊥) → control_of v y ≡ control_of w y
  pub up : (y : ℕ) → is_up v y ≡ is_up w y

pub raises_at : (h : Header) (w : World) (m epoch : ℕ) → Reached h w → IsRoot w m → own_rank w m ≡ Some (record { epoch = epoch; depth = 0 }) → epoch < number_end → RaisesAt h w m epoch (after_act w (acts.At m inputs.CheckNow))
raises_at h w m epoch reached root rank room =
    let n : Control = control_of w m in
    let o : Plan = with_soft (begun n) (record n.soft { due = Some (next_check n) }) in
    let goes : Goes w m (step (node w m) inputs.CheckNow).node.control (step (node w m) inputs.CheckNow).sends (after_act w (acts.At m inputs.CheckNow)) = act_goes w m inputs.CheckNow root.0 in
    let next : raise (rank_or_last n.kept.rank).epoch ≡ Some (epoch + 1) =
    ap (λ (r : Option Rank). raise (rank_or_last r).epoch) rank ∙ ap (λ b. if b then None else Some (epoch + 1)) (ne_eqb epoch number_end (λ e. omega (arith, e, room))) in
    let is : checks (begun n) ≡ raises o (Some (epoch + 1)) = ap (λ (k : Mode). checks_as k o) root.1 ∙ ap (raises o) next in
    let here : control_of (after_act w (acts.At m inputs.CheckNow)) m ≡ (raises o (Some (epoch + 1))).node = goes.here ∙ ap (λ (q : Plan). q.node) is in
    record {
      reached = reached_act h w (acts.At m inputs.CheckNow) reached;
      core = ap core_of here;
      rest = subst (λ (k : Control). HasSameRest n k) (sym here) record { table = refl; leases = refl; clock = refl };
      others = goes.others;
      up = goes.up;
    }

-- all places and leases stay
pub raised_changes : (h : Header) (m x epoch : ℕ) (w v : World) → IsHealing h m w → RaisesAt h w m epoch v → ChangesAt h x w v
raised_changes h m x epoch w v healing raises =
    let seqs : (y : ℕ) → seq_of v y ≡ seq_of w y = λ y. ⊎_elim
    (λ (same : m ≡ y). subst (λ (z : ℕ). seq_of v z ≡ seq_of w z) same (ap (λ (k : Core). k.seq) raises.core)) (λ apart. ap (λ (k : Control). k.kept.seq) (raises.others y apart)) (cases_eq m y) in
    let tables : (y : ℕ) → table_of v y ≡ table_of w y = λ y. ⊎_elim
    (λ (same : m ≡ y). subst (λ (z : ℕ). table_of v z ≡ table_of w z) same raises.rest.table) (λ apart. ap (λ (k : Control). k.kept.table) (raises.others y apart)) (cases_eq m y) in
    let steady : Steady w v = λ y. ⊎_elim
    (λ (same : m ≡ y). subst (Stays w v) same (stays_same w v m (raises.up m) (ap (λ (k : Core). k.mode) raises.core) (ap (λ (k : Core). k.seq) raises.core)))
    (λ apart. stays_core w v y (raises.up y) (ap core_of (raises.others y apart))) (cases_eq m y) in
    steady_changes h m x w v healing raises.reached steady seqs
    (λ a b s leased. ap (λ t. leased_by t a b) (sym (tables a)) ∙ leased)
    (λ a b held. held_on w v steady a b held (λ leased. ap (λ t. leased_by t a b) (tables a) ∙ leased))

-- The turn

-- x, which is not in place, can be put under p, the greatest chain member before x
pub record CanPut (h : Header) (m : ℕ) (w : World) (x p most : ℕ) : Type 0 where
  pub healing : IsHealing h m w
  pub short : h.chain ≤ 16
  pub up : IsUp w x
  pub other : x ≡ m → ⊥
  pub unplaced : IsPlaced w m x → ⊥
  pub host : IsUp w p
  pub member : p ≤ h.chain
  pub less : p < x
  pub before : IsBefore h w p x
  pub all : (y : ℕ) → IsUp w y → y ≤ h.chain → y < x → IsPlaced w m y
  -- no epoch is above this one
  pub low : (y : ℕ) → IsUp w y → epoch_in (own_rank w y) ≤ most
  pub room : most + 2 < number_end
  pub asks : seq_of w x + 1 < number_end

-- x is in place, and so are all nodes that were in place
pub record IsPut (h : Header) (m : ℕ) (w : World) (x most : ℕ) (r : Run) : Type 0 where
  pub healing : IsHealing h m r.world
  pub up : (y : ℕ) → is_up r.world y ≡ is_up w y
  pub stays : (y : ℕ) → (x ≡ y → ⊥) → Stays w r.world y
  pub seqs : (y : ℕ) → (x ≡ y → ⊥) → seq_of r.world y ≡ seq_of w y
  pub seq : seq_of r.world x ≤ seq_of w x + 2
  pub placed : IsPlaced r.world m x
  pub kept : (y : ℕ) → IsPlaced w m y → IsPlaced r.world m y
  pub low : (y : ℕ) → IsUp r.world y → epoch_in (own_rank r.world y) ≤ most + 2
  pub acts : length r.acts ≤ 51

-- a root is in place
pub root_placed : (w : World) (m : ℕ) → IsRoot w m → IsPlaced w m m
root_placed w m root = (m ∷ [], (refl, refl, root), tt)

-- a node in place below m is joined
pub placed_joined : (w : World) (m y : ℕ) → (y ≡ m → ⊥) → IsPlaced w m y → (d : ℕ) × IsJoined w y d
placed_joined w m y other ([], chain, leased) = absurd chain
placed_joined w m y other (a ∷ [], chain, leased) = absurd (other chain.1)
placed_joined w m y other (a ∷ d ∷ ds, chain, leased) = (d, chain.2)

module _ (h : Header) (m : ℕ) (w : World) (x p most : ℕ) (can : CanPut h m w x p most) where
  abbrev pub r : Option Rank
  r = own_rank w x

  abbrev pub root : Control
  root = control_of w m

  -- x is no member whose parent holds its lease, since such a member is in place
  pub loose : IsLoose h w x
  loose member y held =
      let less : y < x = earlier_parent h w x y can.healing.reached (up_id h w x can.healing.reached held.up) member held.joined in
      can.unplaced (placed_beneath w m y x held (can.all y held.host (omega (arith, less, member)) less))

  pub not_first : x ≡ 1 → ⊥
  not_first first =
      let some : 1 ≤ m = (up_id h w m can.healing.reached can.healing.root.0).least in
      let least : m ≤ x = can.healing.least x can.up (omega (arith, first, some, can.healing.member)) in
      can.other (omega (arith, first, some, least))

  -- the root with its epoch raised over that of x
  abbrev pub over : Plan
  over = raised_host root x r

  rank_low : (rank_or_last r).epoch ≤ most
  rank_low = subst (λ (e : ℕ). e ≤ most) (sym (epoch_or_last r)) (can.low x can.up)

  top : (root.kept.ancestors ≡ []) × IsTop root.kept.rank
  top = root_top h w m can.healing.reached can.healing.root.1

  not_root : x ≡ root.me → ⊥
  not_root e = can.other (e ∙ me_is w m)

  pub risen : HasRisenOver root r (most + 1) over
  risen =
      let own : epoch_in root.kept.rank ≤ most = can.low m can.healing.root.0 in
      root_raised root x r (most + 1) (ap is_acting can.healing.root.1) top.1 not_root (omega (arith, rank_low, can.room)) (omega (arith, own)) (omega (arith, rank_low))

  pub over_me : over.node.me ≡ m
  over_me = ap (λ (k : Core). k.me) risen.raised.core ∙ me_is w m

  pub over_chain : over.node.chain ≡ h.chain
  over_chain = ap (λ (k : Core). k.chain) risen.raised.core ∙ (among_them h w m can.healing.reached (up_id h w m can.healing.reached can.healing.root.0)).1

  pub moves_to_root : CanMove w x m
  moves_to_root = record {
    up = can.up;
    other = can.other;
    first = not_first;
    earlier = λ member. can.healing.least x can.up (member_of h w x can.healing.reached (up_id h w x can.healing.reached can.up) member);
    more = omega (arith, can.asks);
  }

  -- Under the root

  root_takes : p ≡ m → MayAdopt over.node x r
  root_takes same = record {
    other = λ e. can.other (e ∙ over_me);
    placed = ap (λ (k : Core). in_tree k.mode) risen.raised.core ∙ ap in_tree can.healing.root.1;
    stranger = ap (λ xs. has xs x) (ap (λ (k : Core). k.ancestors) risen.raised.core ∙ top.0);
    shallow = ap (λ (k : Option Rank). nat_le MAX_DEPTH (rank_or_last k).depth) risen.top.1 ∙ ap (nat_le MAX_DEPTH) risen.top.2;
    line = line_free h m w m x over.node can.healing can.healing.root.0 (subst (λ (q : ℕ). IsBefore h w q x) same can.before) risen.raised.rest.table over_me over_chain;
    above = risen.above;
  }

  pub put_at_root : p ≡ m → IsPut h m w x most (joins m x w)
  put_at_root same =
      let v : World = (joins m x w).world in
      let came : ComesBeneath h w x m over (joins m x w) = comes_beneath h w x m over can.healing.reached moves_to_root can.healing.root.0 refl risen.raised (root_takes same) in
      let changes : ChangesAt h x w v = came_changes h m x m w over (joins m x w) can.healing loose can.other can.up came in
      let healing : IsHealing h m v = healing_on h m x w v can.healing can.other changes in
      let held : IsHeld v m x = came_held h m x m w over (joins m x w) can.healing can.up can.healing.root.0 came in
      record {
        healing = healing;
        up = came.up;
        stays = changes.stays;
        seqs = changes.seqs;
        seq = omega (arith, ap (λ (k : Core). k.seq) came.child);
        placed = placed_beneath v m m x held (root_placed v m healing.root);
        kept = placed_on h m x w v changes can.unplaced;
        low = λ y up. ⊎_elim
            (λ (is : x ≡ y). subst (λ (z : ℕ). epoch_in (own_rank v z) ≤ most + 2) is
            (omega (arith, ap (λ (k : Core). epoch_in k.rank) came.child, epoch_or_last over.node.kept.rank, risen.epoch)))
            (λ not_x. ⊎_elim
            (λ (is : m ≡ y). subst (λ (z : ℕ). epoch_in (own_rank v z) ≤ most + 2) is (omega (arith, ap (λ (k : Core). epoch_in k.rank) came.host, risen.epoch)))
            (λ not_m. let own : epoch_in (own_rank w y) ≤ most = can.low y (sym (came.up y) ∙ up) in omega (arith, ap (λ (k : Control). epoch_in k.kept.rank) (came.others y not_x not_m), own))
            (cases_eq m y))
            (cases_eq x y);
        acts = omega (arith, came.acts);
      }
