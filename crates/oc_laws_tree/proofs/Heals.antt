-- Heal of an able world: the properties of the world after each of the four steps.
use Rattle.std.proofs.Common.{◌≡◌, ℕ, ◌+◌, ◌*◌, ◌≤◌, ◌<◌, Bool, true, false, not, nat_lt, Some, List, [], ◌∷◌, ◌++◌, ◌⊎◌, inl, inr, filter, length, refl, ap, sym, subst, ◌∙◌, ⊎_elim, arith, lt-ltb, length-append}
use Rattle.std.proofs.lemmas.List.FromFn.{length-range_with_len}
use Rattle.std.proofs.lemmas.Bool.{cases_eq, cases_order, not-true, true≢false}
use Rattle.oc_model.specs.declared.event.Event.TheVariants.{Heal}
use Rattle.oc_model.specs.declared.word.Word.TheVariants.{Healed}
use Rattle.oc_model.specs.Chains.{IsUp, IsRoot}
use Rattle.oc_model.specs.ClaimsTree.{seq_of, IsTold}
use Rattle.oc_model.specs.Heal.{up_members, up_others, leader, epoch_in, most_seq, most_epoch, IsAble, IsPlaced, is_placed, comes_to_act, all_join, heals}
use Rattle.oc_model.specs.Lawful.{IsHeader}
use Rattle.oc_model.specs.NextWorld.{next_world}
use Rattle.oc_model.specs.Node.{Header}
use Rattle.oc_model.specs.Plan.{is_member}
use Rattle.oc_model.specs.Ready.{IsLeased, IsReadyUnder, IsSettled}
use Rattle.oc_model.specs.Runs.{Run, and_then}
use Rattle.oc_model.specs.Settle.{first_five_steps, settles}
use Rattle.oc_model.specs.World.{World, is_up, ids, up_ids}
use Rattle.oc_model.specs.WorldBounds.{IsOneOf}
use Rattle.oc_model.proofs.Able.{among_up}
use Rattle.oc_model.proofs.Chains.{acting_alone}
use Rattle.oc_model.proofs.Members.{of_filter, in_filter}
use Rattle.oc_laws_world.specs.Ranks.{own_rank}
use Rattle.oc_laws_world.proofs.Lifts.{control_of}
use Rattle.oc_laws_tree.specs.Healing.{IsLeast, HealHeals, behind_one, behind_two, behind_three, nodes_to_place, DoesStepOne, DoesStepTwo, DoesStepThree, DoesStepFour, unplaced, acts_to_heal, WhereAble, HealTakes}
use Rattle.oc_laws_tree.proofs.AllPlaced.{IsInOrder, HasPlaced, places_all, up_rises, of_members, in_members}
use Rattle.oc_laws_tree.proofs.Counted.{five_most}
use Rattle.oc_laws_tree.proofs.FiveSteps.{FiveSteps, five_steps, up_of}
use Rattle.oc_laws_tree.proofs.LineHolds.{member_of, is_member_of}
use Rattle.oc_laws_tree.proofs.Low.{AreLow, five_low}
use Rattle.oc_laws_tree.proofs.Placing.{IsHealing}
use Rattle.oc_laws_tree.proofs.ReadyStays.{filter_same}
use Rattle.oc_laws_tree.proofs.Reached.{Reached}
use Rattle.oc_laws_tree.proofs.Refused.{heal_leads, heal_does, heal_tells}
use Rattle.oc_laws_tree.proofs.Rises.{ComesToAct, comes_to_act_root}
use Rattle.oc_laws_tree.proofs.RisingHeals.{IsRising, filter_rises, first_least, filter_short, one_left, one_right, one_of_both, filter-append, parts_fewer}
use Rattle.oc_laws_tree.proofs.Settles.{HasSettled, has_settled}
use Rattle.oc_laws_tree.proofs.Spans.{ids_reached, up_id}
use Rattle.oc_laws_tree.proofs.Turn.{root_placed, placed_joined}

-- The leader

-- the leader is up, a chain member, and the least of the members that are up
record Leads (h : Header) (w : World) (m : ℕ) : Type 0 where
  up : IsUp w m
  member : m ≤ h.chain
  least : (x : ℕ) → IsUp w x → x ≤ h.chain → m ≤ x

leads : (h : Header) (w : World) (m : ℕ) → Reached h w → leader w ≡ Some m → Leads h w m
leads h w m reached e =
    let first = first_least (up_members w) m (filter_rises (λ y. is_member (control_of w y)) (up_ids w) (up_rises h w reached)) e in
    let is = of_members h w m reached first.0 in
    record { up = is.0; member = is.1; least = λ x up member. first.1 x (in_members h w x reached up member) }

leads_least : (h : Header) (w : World) (m : ℕ) → Reached h w → Leads h w m → IsLeast w m
leads_least h w m reached is = record {
  up = is.up;
  member = is_member_of h w m reached (up_id h w m reached is.up) is.member;
  least = λ x up member. is.least x up (member_of h w x reached (up_id h w x reached up) member);
}

-- The nodes of step 3

past_in_order : (h : Header) (xs : List ℕ) → ((q : ℕ) → IsOneOf q xs → h.chain < q) → IsInOrder h xs
past_in_order h [] past = tt
past_in_order h (x ∷ xs) past = (λ q one member. let more : h.chain < q = past q (inr one) in absurd (omega (arith, more, member)), past_in_order h xs (λ q one. past q (inr one)))

in_order : (h : Header) (xs ys : List ℕ) → IsRising xs → ((q : ℕ) → IsOneOf q ys → h.chain < q) → IsInOrder h (xs ++ ys)
in_order h [] ys rising past = past_in_order h ys past
in_order h (x ∷ xs) ys rising past = (
  λ q one member. ⊎_elim (λ first. rising.0 q first) (λ second. let more : h.chain < q = past q second in absurd (omega (arith, more, member))) (one_of_both q xs ys one),
  in_order h xs ys rising.1 past,
)

-- a node past the chain that is up
of_others : (h : Header) (w : World) (x : ℕ) → Reached h w → IsOneOf x (up_others w) → IsUp w x × (h.chain < x)
of_others h w x reached one =
    let both = of_filter (λ y. not (is_member (control_of w y))) (up_ids w) x one in
    let up : IsUp w x = up_of w x both.1 in
    (up, by_order (cases_order x h.chain) up (not-true (is_member (control_of w x)) both.0)) where
      by_order : (x ≡ h.chain) ⊎ ((x < h.chain) ⊎ (h.chain < x)) → IsUp w x → is_member (control_of w x) ≡ false → h.chain < x
      by_order (inl e) up loose = absurd (true≢false (sym (is_member_of h w x reached (up_id h w x reached up) (omega (arith, e))) ∙ loose))
      by_order (inr (inl less)) up loose = absurd (true≢false (sym (is_member_of h w x reached (up_id h w x reached up) (omega (arith, less))) ∙ loose))
      by_order (inr (inr more)) up loose = more

-- each node that is up is the root, or one of the nodes of step 3
to_place : (h : Header) (m : ℕ) (w : World) → IsHealing h m w → (x : ℕ) → IsUp w x → (x ≡ m → ⊥) → IsOneOf x (nodes_to_place w m)
to_place h m w healing x up other = by_member (is_member (control_of w x)) refl where
  by_member : (b : Bool) → is_member (control_of w x) ≡ b → IsOneOf x (nodes_to_place w m)
  by_member true e =
      let least : m ≤ x = healing.least x up (member_of h w x healing.reached (up_id h w x healing.reached up) e) in
      one_left x (filter (nat_lt m) (up_members w)) (up_others w)
      (in_filter (nat_lt m) (up_members w) x (lt-ltb m x (omega (arith, least, other))) (in_filter (λ y. is_member (control_of w y)) (up_ids w) x e (among_up w x up)))
  by_member false e = one_right x (filter (nat_lt m) (up_members w)) (up_others w) (in_filter (λ y. not (is_member (control_of w y))) (up_ids w) x (ap not e) (among_up w x up))

-- the nodes of step 3 are fewer than twice all nodes
few_to_place : (h : Header) (m : ℕ) (w : World) → Reached h w → length (nodes_to_place w m) ≤ 2 * h.nodes
few_to_place h m w reached =
    let all : length (ids w) ≡ h.nodes = ap length (ids_reached h w reached) ∙ length-range_with_len 1 h.nodes in
    omega (
      arith,
      length-append (filter (nat_lt m) (up_members w)) (up_others w),
      filter_short (nat_lt m) (up_members w),
      filter_short (λ y. is_member (control_of w y)) (up_ids w),
      filter_short (λ y. not (is_member (control_of w y))) (up_ids w),
      filter_short (is_up w) (ids w),
      all,
    )

-- the nodes of step 3 that are not in place are at most as many as all nodes not in place
few_unplaced : (w : World) (m : ℕ) → length (filter (λ x. not (is_placed w m x)) (nodes_to_place w m)) ≤ length (unplaced w m)
few_unplaced w m =
    let test : ℕ → Bool = λ x. not (is_placed w m x) in
    omega (
      arith,
      ap length (filter-append test (filter (nat_lt m) (up_members w)) (up_others w)),
      length-append (filter test (filter (nat_lt m) (up_members w))) (filter test (up_others w)),
      parts_fewer test (nat_lt m) (λ x. is_member (control_of w x)) (up_ids w),
    )

-- The four steps

-- a world where all nodes that are up are in place is ready
placed_ready : (w : World) (m : ℕ) → IsRoot w m → ((y : ℕ) → IsUp w y → IsPlaced w m y) → IsReadyUnder w m
placed_ready w m root all = record {
  root = root;
  alone = λ x is. ⊎_elim (λ same. same) (λ other. let joined = placed_joined w m x other (all x is.0) in absurd (acting_alone w x joined.0 is.1 joined.1)) (cases_eq x m);
  chains = λ x up other. let placed = all x up in (placed.0, placed.1);
  leases = λ x up other. first_leased x other (all x up);
} where
  first_leased : (x : ℕ) → (x ≡ m → ⊥) → IsPlaced w m x → IsLeased w x
  first_leased x other ([], chain, leased) = absurd chain
  first_leased x other (a ∷ [], chain, leased) = absurd (other chain.1)
  first_leased x other (a ∷ d ∷ ds, chain, leased) = subst (IsLeased w) chain.0 leased.0

-- the effect of heal on an able world that m leads
record HasHealed (h : Header) (w : World) (m : ℕ) : Type 0 where
  least : IsLeast w m
  one : DoesStepOne w m
  two : DoesStepTwo w m
  three : DoesStepThree w m
  ready : IsReadyUnder (behind_three w m) m
  four : HasSettled h (behind_three w m) m
  acts : length (heals m w).acts ≡ acts_to_heal w m

has_healed : (h : Header) (w : World) (m : ℕ) → Reached h w → IsHeader h → IsAble w → leader w ≡ Some m → HasHealed h w m
has_healed h w m reached header able leading =
    let is : Leads h w m = leads h w m reached leading in
    let w1 : World = behind_one w m in
    let w2 : World = behind_two w m in
    let w3 : World = behind_three w m in
    let first : ComesToAct h w m (2 * m) (comes_to_act m w) = comes_to_act_root h w m reached is.up is.member (omega (arith, able.seqs m is.up, is.member, header.short)) in
    let low1 : AreLow (most_epoch + 32) (most_seq + 32) w1 = λ y up. ⊎_elim
    (λ (same : m ≡ y). subst (λ (z : ℕ). (epoch_in (own_rank w1 z) ≤ most_epoch + 32) × (seq_of w1 z ≤ most_seq + 32)) same
    (omega (arith, first.to.epoch, able.epochs m is.up, is.member, header.short), omega (arith, first.to.seq, able.seqs m is.up, is.member, header.short)))
    (λ apart.
    let was : IsUp w y = sym (first.to.up y) ∙ up in
    (omega (arith, ap (λ k. epoch_in k.kept.rank) (first.to.others y apart), able.epochs y was), omega (arith, ap (λ k. k.kept.seq) (first.to.others y apart), able.seqs y was)))
    (cases_eq m y) in
    let five : FiveSteps h w1 = five_steps h w1 first.to.reached in
    let up1 : up_ids w1 ≡ up_ids w = ap (filter (is_up w1)) (ids_reached h w1 first.to.reached ∙ sym (ids_reached h w reached)) ∙ filter_same (is_up w1) (is_up w) (ids w) first.to.up in
    let up2 : (y : ℕ) → is_up w2 y ≡ is_up w y = λ y. (five.calmed.stayed.steady y).up ∙ first.to.up y in
    let healing : IsHealing h m w2 = record {
      reached = five.calmed.stayed.reached;
      root = (up2 m ∙ is.up, (five.calmed.stayed.steady m).acts first.root);
      member = is.member;
      least = λ y up member. is.least y (sym (up2 y) ∙ up) member;
      current = λ y z s up member leased. five.calmed.current y z s up leased;
    } in
    let low2 : AreLow (most_epoch + 32 + 3) (most_seq + 32 + 3) w2 = five_low h (most_epoch + 32) (most_seq + 32) w1 first.to.reached low1 in
    let nodes : List ℕ = nodes_to_place w2 m in
    let third : HasPlaced h m w2 nodes w2 (all_join m w2) = places_all h m w2 nodes (most_epoch + 32 + 3) w2 record {
      healing = healing;
      short = header.short;
      order = in_order h (filter (nat_lt m) (up_members w2)) (up_others w2)
          (filter_rises (nat_lt m) (up_members w2) (filter_rises (λ y. is_member (control_of w2 y)) (up_ids w2) (up_rises h w2 healing.reached))) (λ q one. (of_others h w2 q healing.reached one).1);
      up = λ x one. ⊎_elim
          (λ early. (of_members h w2 x healing.reached (of_filter (nat_lt m) (up_members w2) x early).1).0)
          (λ late. (of_others h w2 x healing.reached late).0) (one_of_both x (filter (nat_lt m) (up_members w2)) (up_others w2) one);
      others = λ y up. ⊎_elim (λ same. inr (subst (IsPlaced w2 m) (sym same) (root_placed w2 m healing.root))) (λ other. inl (to_place h m w2 healing y up other)) (cases_eq y m);
      asked = λ y. inl refl;
      low = λ y up. (low2 y up).0;
      room = omega (arith, few_to_place h m w2 healing.reached, header.few);
      asks = λ y up. let low = (low2 y up).1 in omega (arith, low);
    } in
    let ready : IsReadyUnder w3 m = placed_ready w3 m third.healing.root third.all in
    let fourth : HasSettled h w3 m = has_settled h w3 m third.healing.reached ready in
    record {
      least = leads_least h w m reached is;
      one = record { root = (first.to.up m ∙ is.up, first.root); few = first.few };
      two = record { leases = five.calmed.current; few = omega (arith, five_most h w1 first.to.reached, ap length up1) };
      three = record { each = third.each; all = third.all; asks = third.asked; few = omega (arith, third.acts, few_unplaced w2 m) };
      ready = ready;
      four = fourth;
      acts =
          let one : Run = comes_to_act m w in
          let two : Run = and_then one first_five_steps in
          let three : Run = and_then two (all_join m) in
          omega (arith, length-append three.acts (settles w3).acts, length-append two.acts (all_join m w2).acts, length-append one.acts (first_five_steps w1).acts, fourth.acts);
    }

-- The laws

module _ (h : Header) (w : World) (reached : Reached h w) (header : IsHeader h) where
  pub heal_heals : HealHeals w
  heal_heals able =
      let m = heal_leads w able in
      let healed : HasHealed h w m.0 = has_healed h w m.0 reached header able m.1 in
      let does : next_world w Heal ≡ (settles (behind_three w m.0)).world = heal_does w m.0 able m.1 in
      (subst IsSettled (sym does) healed.four.settled, subst IsTold (sym does) healed.four.told, (m.0, healed.least, subst (λ (v : World). IsRoot v m.0) (sym does) healed.four.root))

  pub heal_step_one : WhereAble DoesStepOne w
  heal_step_one m able leading = (has_healed h w m reached header able leading).one

  pub heal_step_two : WhereAble DoesStepTwo w
  heal_step_two m able leading = (has_healed h w m reached header able leading).two

  pub heal_step_three : WhereAble DoesStepThree w
  heal_step_three m able leading = (has_healed h w m reached header able leading).three

  pub heal_step_four : WhereAble DoesStepFour w
  heal_step_four m able leading = record { ready = (has_healed h w m reached header able leading).ready; settles = heal_does w m able leading }

  pub heal_takes : WhereAble HealTakes w
  heal_takes m able leading = heal_tells w m able leading ∙ ap (λ (n : ℕ). Healed n) (has_healed h w m reached header able leading).acts
