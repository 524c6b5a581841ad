-- Step 1 of heal: the least chain member that is up comes to act as root. It asks each earlier member at most twice.
use Rattle.std.proofs.Common.{◌≡◌, ℕ, zero, suc, ◌+◌, ◌-◌, ◌*◌, ◌<◌, ◌≤◌, Bool, true, false, not, ◌&&◌, ◌==◌, if◌then◌else◌, Option, Some, None, List, [], ◌∷◌, ◌⊎◌, inl, inr, length, refl, ap, sym, subst, ◌∙◌, ⊎_elim, arith, ne_eqb, eq-eqb, length-append}
use Rattle.std.proofs.lemmas.Bool.{cond_both}
use Rattle.oc_model.specs.declared.answer.Answer.TheVariants as words
use Rattle.oc_model.specs.declared.event.Act.{Act}
use Rattle.oc_model.specs.declared.event.Act.TheVariants as acts
use Rattle.oc_model.specs.declared.input.Input.{Input}
use Rattle.oc_model.specs.declared.input.Input.TheVariants as inputs
use Rattle.oc_model.specs.declared.mode.Mode.{Mode}
use Rattle.oc_model.specs.declared.mode.Mode.TheVariants as modes
use Rattle.oc_model.specs.declared.record.Record.TheVariants as records
use Rattle.oc_model.specs.Adoption.{rank_or_last}
use Rattle.oc_model.specs.Asking.{lost_from, lost, send_ask, ask, act, descend, try_at, waits_awhile, try_first, next_try, set_tries, round, not_seen, not_reached, unreachable}
use Rattle.oc_model.specs.Chains.{IsUp}
use Rattle.oc_model.specs.Checking.{next_check, checks_as, checks}
use Rattle.oc_model.specs.ClaimsTree.{seq_of}
use Rattle.oc_model.specs.Heal.{epoch_in, rises, rises_in, comes_to_act}
use Rattle.oc_model.specs.Node.{Header, Control}
use Rattle.oc_model.specs.Numbers.{number_end, is_empty}
use Rattle.oc_model.specs.Plan.{Plan, begun, write, answers, with_soft, searching, is_member}
use Rattle.oc_model.specs.Runs.{Run, rests, does, and_then}
use Rattle.oc_model.specs.Step.{step}
use Rattle.oc_model.specs.World.{World, node, is_up, mode_of, arrival, acted, after_act}
use Rattle.oc_laws_world.specs.Ranks.{own_rank}
use Rattle.oc_laws_world.proofs.Lifts.{control_of}
use Rattle.oc_laws_tree.proofs.CheckIns.{Goes, act_goes, me_is}
use Rattle.oc_laws_tree.proofs.Core.{epoch_or_last, next_epoch_most}
use Rattle.oc_laws_tree.proofs.Line.{order_below}
use Rattle.oc_laws_tree.proofs.LineHolds.{in_line, is_member_of}
use Rattle.oc_laws_tree.proofs.Reached.{Reached, reached_act}
use Rattle.oc_laws_tree.proofs.Spans.{IsId, up_id}

-- the most events that a chain member needs to act as root: by its mode, whether it is silent, the number of tries, and its id
abbrev left : Mode → Bool → ℕ → ℕ → ℕ
left modes.Acting silent tries me = 0
left modes.Idle silent tries me = me
left (modes.Joined p) silent tries me = me
left (modes.Asking p) true tries me = tries + 1
left (modes.Asking p) false tries me = tries + 1 + me

abbrev pub left_of : Control → ℕ
left_of n = left n.kept.mode n.soft.silent (length n.soft.tries) n.me

-- at most this number of events is left after an event; the ask number and the epoch rise by at most one
record HasRisen (n : Control) (most : ℕ) (m : Control) : Type 0 where
  few : left_of m ≤ most
  seq : m.kept.seq ≤ n.kept.seq + 1
  epoch : epoch_in m.kept.rank ≤ epoch_in n.kept.rank + 1

-- an idle chain member that can ask
record CanAsk (n : Control) : Type 0 where
  idle : n.kept.mode ≡ modes.Idle
  member : is_member n ≡ true
  more : (n.kept.seq == number_end) ≡ false

-- the remaining tries, and a fresh round after them where the node is not silent
abbrev tries_left : Bool → ℕ → ℕ → ℕ
tries_left true tries me = tries
tries_left false tries me = tries + me

risen_acting : (o : Plan) (most : ℕ) → HasRisen o.node most (act o).node
risen_acting o most = record { few = omega arith; seq = omega arith; epoch = omega (arith, next_epoch_most (rank_or_last o.node.kept.rank), epoch_or_last o.node.kept.rank) }

risen_first : (ps : List ℕ) (o : Plan) → CanAsk o.node → HasRisen o.node (tries_left o.node.soft.silent (length ps) o.node.me) (try_first ps o).node
risen_first [] o can = by_silent o.node.soft.silent refl where
  waits : (silent : Bool) → o.node.soft.silent ≡ silent → HasRisen o.node (tries_left silent 0 o.node.me) (if true && silent then act o else waits_awhile o).node
  waits true e = risen_acting o 0
  waits false e = record { few = subst (λ (m : Mode). left m o.node.soft.silent (length o.node.soft.tries) o.node.me ≤ 0 + o.node.me) (sym can.idle) (omega arith); seq = omega arith; epoch = omega arith }

  by_silent : (silent : Bool) → o.node.soft.silent ≡ silent → HasRisen o.node (tries_left o.node.soft.silent 0 o.node.me) (try_first [] o).node
  by_silent silent e =
      subst (λ (b : Bool). HasRisen o.node (tries_left o.node.soft.silent 0 o.node.me) (if b && o.node.soft.silent then act o else waits_awhile o).node) (sym can.member)
      (subst (λ (s : Bool). HasRisen o.node (tries_left s 0 o.node.me) (if true && s then act o else waits_awhile o).node) (sym e) (waits silent e))
risen_first (p ∷ ps) o can =
    let tried : Plan = with_soft o (record o.node.soft { tries = ps }) in
    let asks : try_at tried p ≡ ask tried p = ap (λ b. if not b && is_empty o.node.kept.ancestors then descend tried p else ask tried p) can.member in
    let asked : ask tried p ≡ send_ask (searching (write tried (records.Ask (o.node.kept.seq + 1) p)) None) p = ap (λ b. if b then answers (lost tried) words.Spent else send_ask (searching (write tried (records.Ask (o.node.kept.seq + 1) p)) None) p) can.more in
    subst (λ (q : Plan). HasRisen o.node (tries_left o.node.soft.silent (length (p ∷ ps)) o.node.me) q.node) (sym (asks ∙ asked))
    record { few = by_silent o.node.soft.silent; seq = omega arith; epoch = omega arith } where
      by_silent : (silent : Bool) → left (modes.Asking p) silent (length ps) o.node.me ≤ tries_left silent (length (p ∷ ps)) o.node.me
      by_silent true = omega arith
      by_silent false = omega arith

risen_next : (o : Plan) → CanAsk o.node → HasRisen o.node (tries_left o.node.soft.silent (length o.node.soft.tries) o.node.me) (next_try o).node
risen_next o can = cond_both (o.node.me == 1) (act o) (try_first o.node.soft.tries o) (λ (q : Plan). HasRisen o.node (tries_left o.node.soft.silent (length o.node.soft.tries) o.node.me) q.node)
    (λ _. risen_acting o _) (λ _. risen_first o.node.soft.tries o can)

-- fewer events than the id are left after a round
risen_round : (o : Plan) (without : Option ℕ) → CanAsk o.node → HasRisen o.node (o.node.me - 1) (round o without).node
risen_round o without can =
    let tried : Plan = set_tries o without in
    let risen : HasRisen tried.node (length tried.node.soft.tries) (round o without).node = risen_next tried record { idle = can.idle; member = can.member; more = can.more } in
    let few : length tried.node.soft.tries ≤ o.node.me - 1 = (order_below o.node.me o.node.chain o.node.kept.ancestors without can.member).1 in
    record { few = omega (arith, risen.few, few); seq = risen.seq; epoch = risen.epoch }

-- One event

-- the loss of a parent by a node in this mode
lost_to : (n : Control) (m : Mode) → n.kept.mode ≡ m → lost_from m (begun n) ≡ write (begun n) records.Lost → lost (begun n) ≡ write (begun n) records.Lost
lost_to n m e fallen = ap (λ k. lost_from k (begun n)) e ∙ fallen

fewer : (n : Control) (m : Mode) (most : ℕ) (k : Control) → n.kept.mode ≡ m → most ≤ left m n.soft.silent (length n.soft.tries) n.me - 1 → HasRisen n most k → HasRisen n (left_of n - 1) k
fewer n m most k e less risen = record { few = subst (λ (j : Mode). left_of k ≤ left j n.soft.silent (length n.soft.tries) n.me - 1) (sym e) (omega (arith, less, risen.few)); seq = risen.seq; epoch = risen.epoch }

module _ (n : Control) (some : 1 ≤ n.me) (member : is_member n ≡ true) (more : (n.kept.seq == number_end) ≡ false) where
  abbrev fallen : Plan
  fallen = write (begun n) records.Lost

  -- the check of an idle node
  risen_check : n.kept.mode ≡ modes.Idle → HasRisen n (left_of n - 1) (checks (begun n)).node
  risen_check idle =
      let o : Plan = with_soft (begun n) (record n.soft { due = Some (next_check n) }) in
      let risen : HasRisen o.node (n.me - 1) (round o None).node = risen_round o None record { idle = idle; member = member; more = more } in
      subst (λ (m : Mode). HasRisen n (left_of n - 1) (checks_as m o).node) (sym idle)
      (fewer n modes.Idle (n.me - 1) (round o None).node idle (omega arith) record { few = risen.few; seq = risen.seq; epoch = risen.epoch })

  -- the lost peer of a node that is not idle
  risen_asking : (p : ℕ) → n.kept.mode ≡ modes.Asking p → HasRisen n (left_of n - 1) (unreachable (begun n) p).node
  risen_asking p asks =
      let gone : lost (begun n) ≡ fallen = lost_to n (modes.Asking p) asks refl in
      let goes : unreachable (begun n) p ≡ next_try fallen =
      ap (λ (m : Mode). not_reached m (begun n) p) asks ∙ (ap (λ b. if b then next_try (lost (begun n)) else not_seen n.soft.search (begun n) p) (eq-eqb p p refl) ∙ ap next_try gone) in
      let risen : HasRisen fallen.node (tries_left n.soft.silent (length n.soft.tries) n.me) (next_try fallen).node = risen_next fallen record { idle = refl; member = member; more = more } in
      subst (λ (q : Plan). HasRisen n (left_of n - 1) q.node) (sym goes)
      (fewer n (modes.Asking p) (tries_left n.soft.silent (length n.soft.tries) n.me) (next_try fallen).node asks (by_silent n.soft.silent) record { few = risen.few; seq = risen.seq; epoch = risen.epoch }) where
        by_silent : (silent : Bool) → tries_left silent (length n.soft.tries) n.me ≤ left (modes.Asking p) silent (length n.soft.tries) n.me - 1
        by_silent true = omega arith
        by_silent false = omega arith

  risen_joined : (p : ℕ) → n.kept.mode ≡ modes.Joined p → HasRisen n (left_of n - 1) (unreachable (begun n) p).node
  risen_joined p joins =
      let gone : lost (begun n) ≡ fallen = lost_to n (modes.Joined p) joins refl in
      let goes : unreachable (begun n) p ≡ round fallen (Some p) =
      ap (λ (m : Mode). not_reached m (begun n) p) joins ∙ (ap (λ b. if b then round (lost (begun n)) (Some p) else not_seen n.soft.search (begun n) p) (eq-eqb p p refl) ∙ ap (λ (q : Plan). round q (Some p)) gone) in
      let risen : HasRisen fallen.node (n.me - 1) (round fallen (Some p)).node = risen_round fallen (Some p) record { idle = refl; member = member; more = more } in
      subst (λ (q : Plan). HasRisen n (left_of n - 1) q.node) (sym goes)
      (fewer n (modes.Joined p) (n.me - 1) (round fallen (Some p)).node joins (omega arith) record { few = risen.few; seq = risen.seq; epoch = risen.epoch })

-- Events in a world

-- the world after events at m alone
pub record HasRisenTo (h : Header) (w : World) (m most : ℕ) (v : World) : Type 0 where
  pub reached : Reached h v
  pub up : (y : ℕ) → is_up v y ≡ is_up w y
  pub others : (y : ℕ) → (m ≡ y → ⊥) → control_of v y ≡ control_of w y
  pub seq : seq_of v m ≤ seq_of w m + most
  pub epoch : epoch_in (own_rank v m) ≤ epoch_in (own_rank w m) + most

-- the world after one of these events
record RisesOnce (h : Header) (w : World) (m : ℕ) (r : Run) : Type 0 where
  acts : length r.acts ≡ 1
  to : HasRisenTo h w m 1 r.world
  few : left_of (control_of r.world m) ≤ left_of (control_of w m) - 1

goes_once : (h : Header) (w : World) (m : ℕ) (i : Input) (a : Act) → arrival w a ≡ Some (record { at = m; input = i }) → Reached h w → IsUp w m → HasRisen (control_of w m) (left_of (control_of w m) - 1) (step (node w m) i).node.control → RisesOnce h w m (does a w)
goes_once h w m i a comes reached up risen =
    let v : World = after_act w a in
    let goes : Goes w m (step (node w m) i).node.control (step (node w m) i).sends v = subst (λ (u : World). Goes w m (step (node w m) i).node.control (step (node w m) i).sends u) (sym (ap (acted w) comes)) (act_goes w m i up) in
    record {
      acts = refl;
      to = record {
        reached = reached_act h w a reached;
        up = goes.up;
        others = goes.others;
        seq = subst (λ (k : Control). k.kept.seq ≤ seq_of w m + 1) (sym goes.here) risen.seq;
        epoch = subst (λ (k : Control). epoch_in k.kept.rank ≤ epoch_in (own_rank w m) + 1) (sym goes.here) risen.epoch;
      };
      few = subst (λ (k : Control). left_of k ≤ left_of (control_of w m) - 1) (sym goes.here) risen.few;
    }

rises_once : (h : Header) (w : World) (m : ℕ) → Reached h w → IsUp w m → 1 ≤ m → is_member (control_of w m) ≡ true → seq_of w m < number_end → (mode_of w m ≡ modes.Acting → ⊥) → RisesOnce h w m (rises (mode_of w m) m w)
rises_once h w m reached up some member below other = by_mode (mode_of w m) refl where
  first : 1 ≤ (control_of w m).me
  first = subst (λ (k : ℕ). 1 ≤ k) (sym (me_is w m)) some

  more : (seq_of w m == number_end) ≡ false
  more = ne_eqb (seq_of w m) number_end (λ e. omega (arith, e, below))

  by_mode : (k : Mode) → mode_of w m ≡ k → RisesOnce h w m (rises k m w)
  by_mode modes.Idle e = goes_once h w m inputs.CheckNow (acts.At m inputs.CheckNow) refl reached up (risen_check (control_of w m) first member more e)
  by_mode (modes.Asking p) e = goes_once h w m (inputs.Unreachable p) (acts.At m (inputs.Unreachable p)) refl reached up (risen_asking (control_of w m) first member more p e)
  by_mode (modes.Joined p) e = goes_once h w m (inputs.Unreachable p) (acts.At m (inputs.Unreachable p)) refl reached up (risen_joined (control_of w m) first member more p e)
  by_mode modes.Acting e = absurd (other e)

-- All events

-- a node that needs no more events acts as root, if its id is at least 1
none_left : (m : Mode) (silent : Bool) (tries me : ℕ) → 1 ≤ me → left m silent tries me ≡ 0 → m ≡ modes.Acting
none_left modes.Acting silent tries me some e = refl
none_left modes.Idle silent tries me some e = absurd (omega (arith, some, e))
none_left (modes.Joined p) silent tries me some e = absurd (omega (arith, some, e))
none_left (modes.Asking p) true tries me some e = absurd (omega (arith, e))
none_left (modes.Asking p) false tries me some e = absurd (omega (arith, e))

acts_or_not : (m : Mode) → (m ≡ modes.Acting) ⊎ (m ≡ modes.Acting → ⊥)
acts_or_not modes.Acting = inl refl
acts_or_not modes.Idle = inr (λ e. absurd cc)
acts_or_not (modes.Asking p) = inr (λ e. absurd cc)
acts_or_not (modes.Joined p) = inr (λ e. absurd cc)

-- m acts as root after at most this number of events
pub record ComesToAct (h : Header) (w : World) (m most : ℕ) (r : Run) : Type 0 where
  pub few : length r.acts ≤ most
  pub to : HasRisenTo h w m most r.world
  pub root : mode_of r.world m ≡ modes.Acting

-- a node that acts as root rests
rises_rest : (n m : ℕ) (w : World) → mode_of w m ≡ modes.Acting → rises_in n m w ≡ rests w
rises_rest zero m w acts = refl
rises_rest (suc n) m w acts = ap (λ (k : Mode). and_then (rises k m w) (rises_in n m)) acts ∙ rises_rest n m w acts

rested : (h : Header) (w : World) (m k : ℕ) (r : Run) → Reached h w → mode_of w m ≡ modes.Acting → r ≡ rests w → ComesToAct h w m k r
rested h w m k r reached acts e = subst (ComesToAct h w m k) (sym e) record {
  few = omega arith;
  to = record { reached = reached; up = λ y. refl; others = λ y other. refl; seq = omega arith; epoch = omega arith };
  root = acts;
}

-- one event, and then the rest of them
risen_then : (h : Header) (w : World) (m j : ℕ) (first : Run) (f : World → Run) → RisesOnce h w m first → ComesToAct h first.world m j (f first.world) → ComesToAct h w m (j + 1) (and_then first f)
risen_then h w m j first f once rest = record {
  few = omega (arith, length-append first.acts (f first.world).acts, once.acts, rest.few);
  to = record {
    reached = rest.to.reached;
    up = λ y. rest.to.up y ∙ once.to.up y;
    others = λ y other. rest.to.others y other ∙ once.to.others y other;
    seq = omega (arith, rest.to.seq, once.to.seq);
    epoch = omega (arith, rest.to.epoch, once.to.epoch);
  };
  root = rest.root;
}

rises_all : (h : Header) (n m k : ℕ) (w : World) → Reached h w → IsUp w m → m ≤ h.chain → seq_of w m + k ≤ number_end → left_of (control_of w m) ≤ k → k ≤ n → ComesToAct h w m k (rises_in n m w)
rises_all h zero m k w reached up member room few within =
    rested h w m k (rises_in zero m w) reached
    (none_left (mode_of w m) (control_of w m).soft.silent (length (control_of w m).soft.tries) (control_of w m).me (omega (arith, (up_id h w m reached up).least, me_is w m)) (omega (arith, few, within))) refl
rises_all h (suc n) m k w reached up member room few within = ⊎_elim
    (λ acts. rested h w m k (rises_in (suc n) m w) reached acts (rises_rest (suc n) m w acts))
    (λ other.
    let some : 1 ≤ m = (up_id h w m reached up).least in
    let one : 1 ≤ k = at_least k (left_of (control_of w m)) few (λ none. other (none_left (mode_of w m) (control_of w m).soft.silent (length (control_of w m).soft.tries) (control_of w m).me (omega (arith, some, me_is w m)) none)) in
    let once : RisesOnce h w m (rises (mode_of w m) m w) =
    rises_once h w m reached up some (is_member_of h w m reached (up_id h w m reached up) member) (omega (arith, room, one)) other in
    let rest : ComesToAct h (rises (mode_of w m) m w).world m (k - 1) (rises_in n m (rises (mode_of w m) m w).world) =
    rises_all h n m (k - 1) (rises (mode_of w m) m w).world once.to.reached (once.to.up m ∙ up) member (omega (arith, room, one, once.to.seq)) (omega (arith, once.few, few)) (omega (arith, within)) in
    subst (λ (j : ℕ). ComesToAct h w m j (rises_in (suc n) m w)) (restore k one) (risen_then h w m (k - 1) (rises (mode_of w m) m w) (rises_in n m) once rest))
    (acts_or_not (mode_of w m)) where
      at_least : (j l : ℕ) → l ≤ j → (l ≡ 0 → ⊥) → 1 ≤ j
      at_least j l less some = omega arith

      restore : (j : ℕ) → 1 ≤ j → j - 1 + 1 ≡ j
      restore j some = omega arith

-- a node needs at most twice as many events as its id says
left_most : (m : Mode) (silent : Bool) (tries me : ℕ) → 1 ≤ me → tries ≤ me - 1 → left m silent tries me ≤ 2 * me
left_most modes.Acting silent tries me some few = omega arith
left_most modes.Idle silent tries me some few = omega arith
left_most (modes.Joined p) silent tries me some few = omega arith
left_most (modes.Asking p) true tries me some few = omega (arith, some, few)
left_most (modes.Asking p) false tries me some few = omega (arith, some, few)

-- step 1 makes the least member a root
pub comes_to_act_root : (h : Header) (w : World) (m : ℕ) → Reached h w → IsUp w m → m ≤ h.chain → seq_of w m + 2 * m ≤ number_end → ComesToAct h w m (2 * m) (comes_to_act m w)
comes_to_act_root h w m reached up member room =
    let id : IsId h m = up_id h w m reached up in
    let few : length (control_of w m).soft.tries ≤ (control_of w m).me - 1 = (in_line h w m reached).few (is_member_of h w m reached id member) in
    let most : left_of (control_of w m) ≤ 2 * (control_of w m).me = left_most (mode_of w m) (control_of w m).soft.silent (length (control_of w m).soft.tries) (control_of w m).me (omega (arith, id.least, me_is w m)) few in
    rises_all h (2 * m) m (2 * m) w reached up member room (omega (arith, most, me_is w m)) (omega arith)
