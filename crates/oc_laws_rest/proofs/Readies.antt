-- A network in which one chain member is up, and no node that is up has measured a way, becomes one tree.
use Rattle.std.proofs.Common.{◌≡◌, ℕ, zero, suc, ◌+◌, ◌≤◌, ◌<◌, Bool, true, not, ◌&&◌, Option, Some, None, List, [], ◌∷◌, ◌++◌, ◌⊎◌, inl, inr, length, refl, ap, sym, subst, ◌∙◌, ⊎_elim, arith, eq-eqb}
use Rattle.std.proofs.lemmas.Bool.{cases_eq, cases_Bool, cases_order, and_parts, true≢false, false_from_ne_true}
use Rattle.oc_model.specs.declared.event.Act.TheVariants.{At}
use Rattle.oc_model.specs.declared.input.Input.{Input}
use Rattle.oc_model.specs.declared.input.Input.TheVariants.{Tick, Unreachable, Delivered}
use Rattle.oc_model.specs.declared.message.Message.{Message}
use Rattle.oc_model.specs.declared.mode.Mode.{Mode}
use Rattle.oc_model.specs.declared.mode.Mode.TheVariants as modes
use Rattle.oc_model.specs.declared.reading.Reading.{Reading}
use Rattle.oc_base.specs.declared.rank.Rank.{Rank}
use Rattle.oc_base.specs.Rank.{Precedes}
use Rattle.oc_model.specs.Adoption.{rank_or_last}
use Rattle.oc_model.specs.Chains.{IsUp, IsJoined, IsRoot, IsTrueChain, HasTrueChain}
use Rattle.oc_model.specs.Checking.{is_peer}
use Rattle.oc_model.specs.ClaimsTree.{table_of, seq_of}
use Rattle.oc_model.specs.Heal.{epoch_in}
use Rattle.oc_model.specs.Node.{Header, Control}
use Rattle.oc_model.specs.Numbers.{number_end}
use Rattle.oc_model.specs.Plan.{is_member}
use Rattle.oc_model.specs.Ready.{HoldsLease, IsReadyUnder}
use Rattle.oc_model.specs.Step.{step}
use Rattle.oc_model.specs.Table.{leased_by}
use Rattle.oc_model.specs.World.{World, Process, node, is_up, mode_of, message_at, delivery, acted, after_act}
use Rattle.oc_model.proofs.Chains.{acting_alone}
use Rattle.oc_laws_world.specs.Ranks.{own_rank, rank_of, ParentsPrecede}
use Rattle.oc_laws_tree.proofs.LineHolds.{is_member_of, member_of}
use Rattle.oc_laws_tree.proofs.Points.{parents_after}
use Rattle.oc_laws_tree.proofs.Reached.{Reached, reached_act, of_reached}
use Rattle.oc_laws_tree.proofs.Spans.{IsId, up_id, told_id}
use Rattle.oc_laws_tree.proofs.Known.{newest_among}
use Rattle.oc_laws_tree.proofs.Rows.{lease_row}
use Rattle.oc_laws_step.proofs.Tables.{newest-subject}
use Rattle.oc_laws_rest.specs.Rounds.{Turn, Round, after_turns, is_dial, arriving, arrived, after_arrivals, after_round, after_rounds, is_round, are_later_rounds, is_quiet}
use Rattle.oc_laws_rest.specs.Rest.{PeersAreUp, NobodyAsks, JoinedAreLeased, IsOnlyMember, IsLeastMember, NobodyMeasured, HaveRoom, LeasesAreCurrent}
use Rattle.oc_laws_rest.proofs.Asks.{round_asks}
use Rattle.oc_laws_rest.proofs.Children.{IsKept, rounds_more, later_more, later_keeps}
use Rattle.oc_laws_rest.proofs.Children.{Ticking as Turns}
use Rattle.oc_laws_rest.proofs.Crown.{IsOfRound, round_step, crowned}
use Rattle.oc_laws_rest.proofs.Forgets.{IsSilent, HasForgotten, forgets_in, later_ups}
use Rattle.oc_laws_rest.proofs.Forgets.{three_rounds as root_ends}
use Rattle.oc_laws_rest.proofs.Endings.{three_rounds as child_ends}
use Rattle.oc_laws_rest.proofs.Forgetting.{HasEnd}
use Rattle.oc_laws_rest.proofs.Hush.{IsHush, FromUp, IsDown, down_goes, down_hush, IsChildOf, child_goes, its_place, child_hush, IsReigning, Turning, Rules, root_goes, root_hush}
use Rattle.oc_laws_rest.proofs.Keeping.{AreNone, IsAnyTime, IsJoinedBy}
use Rattle.oc_laws_rest.proofs.Leases.{round_leases, joined_are_leased}
use Rattle.oc_laws_rest.proofs.Links.{HasEnded, EndsAs, round_ends, rounds_end, me_of, takes, takes_none, arrived_fails, arrived_comes}
use Rattle.oc_laws_rest.proofs.Places.{IsSpent, spent_step, Begins, HasFound, round_finds}
use Rattle.oc_laws_rest.proofs.Replies.{after_input}
use Rattle.oc_laws_rest.proofs.Roots.{IsTopmost, topmost_on, topmost, its_id, in_chain, free, round_rises, acts_as_root, reached_turns, reached_arrived, reached_round, reached_rounds}
use Rattle.oc_laws_rest.proofs.Seeking.{IsCalm}

-- A property of one node, round after round

module _ (h : Header) (x : ℕ) (K : Control → Type 0) (keeps : (w : World) (i : Input) → Reached h w → IsOfRound i → K (node w x).control → K (step (node w x) i).node.control) where
  kept_input : (w : World) (z : ℕ) (i : Input) → Reached h w → IsOfRound i → K (node w x).control → K (node (after_input w z i) x).control
  kept_input w z i reached of holds = ⊎_elim
      (λ up. ⊎_elim
      (λ (e : z ≡ x). subst (λ (y : ℕ). K (node (after_input w z i) y).control) e (subst (λ (p : Process). K p.node.control) (sym (takes w z i up).here)
      (subst (λ (y : ℕ). K (step (node w y) i).node.control) (sym e) (keeps w i reached of holds))))
      (λ apart. subst (λ (p : Process). K p.node.control) (sym ((takes w z i up).others x apart)) holds)
      (cases_eq z x))
      (λ off. subst (λ (v : World). K (node v x).control) (sym (takes_none w z i off)) holds)
      (cases_Bool (is_up w z))

  kept_turns : (ts : List Turn) (w : World) → Reached h w → K (node w x).control → K (node (after_turns w ts) x).control
  kept_turns [] w reached holds = holds
  kept_turns (t ∷ ts) w reached holds = kept_turns ts (after_act w (At t.node (Tick t.time))) (reached_act h w (At t.node (Tick t.time)) reached) (kept_input w t.node (Tick t.time) reached tt holds)

  kept_arrived : (w : World) (k : ℕ) (s : Message) → message_at w.net k ≡ Some s → Reached h w → K (node w x).control → K (node (arrived w k) x).control
  kept_arrived w k s found reached holds = ⊎_elim
      (λ fails. subst (λ (v : World). K (node v x).control) (sym (arrived_fails w k s found fails)) (kept_input w s.from (Unreachable s.to) reached tt holds))
      (λ comes. subst (λ (v : World). K (node v x).control) (sym (arrived_comes w k s found comes)) (kept_input w s.to (Delivered s) reached tt holds))
      (cases_Bool (is_dial s.body && not (is_up w s.to)))

  kept_arrivals : (ks : List ℕ) (w : World) → Reached h w → K (node w x).control → K (node (after_arrivals w ks) x).control
  kept_arrivals [] w reached holds = holds
  kept_arrivals (k ∷ ks) w reached holds = kept_arrivals ks (arrived w k) (reached_arrived h w k reached) (by_message (message_at w.net k) refl) where
    by_message : (s : Option Message) → message_at w.net k ≡ s → K (node (arrived w k) x).control
    by_message (Some s) found = kept_arrived w k s found reached holds
    by_message None found = subst (λ (v : World). K (node v x).control) (sym none) holds where
      none : arrived w k ≡ w
      none = ap (λ (s : Option Message). after_act w (arriving w k s)) found ∙ ap (λ (s : Option Message). acted w (delivery s)) found

  kept_round : (r : Round) (w : World) → Reached h w → K (node w x).control → K (node (after_round w r) x).control
  kept_round r w reached holds = kept_arrivals r.arrivals (after_turns w r.turns) (reached_turns h r.turns w reached) (kept_turns r.turns w reached holds)

  kept_rounds : (rs : List Round) (w : World) → Reached h w → K (node w x).control → K (node (after_rounds w rs) x).control
  kept_rounds [] w reached holds = holds
  kept_rounds (r ∷ rs) w reached holds = kept_rounds rs (after_round w r) (reached_round h w r reached) (kept_round r w reached holds)

-- nothing is left to a node that is spent
spent_rounds : (h : Header) (x : ℕ) (rs : List Round) (w : World) → Reached h w → IsSpent (node w x).control → IsSpent (node (after_rounds w rs) x).control
spent_rounds h x rs w reached spent = kept_rounds h x IsSpent (λ v i known of s. spent_step h v x i known s) rs w reached spent

-- rounds leave the readings
same_readings : (h : Header) (x : ℕ) (rs : List Round) (w : World) → Reached h w → (node (after_rounds w rs) x).control.kept.measures ≡ (node w x).control.kept.measures
same_readings h x rs w reached =
    kept_rounds h x (λ n. n.kept.measures ≡ (node w x).control.kept.measures)
    (λ v i known of same. (round_step (node w x).control.kept.measures (node v x) i of (crowned h v x known, same)).1) rs w reached refl

-- Chains

-- a chain is one node longer below
chain_below : (w : World) (x p m : ℕ) → IsUp w x → IsJoined w x p → HasTrueChain w p m → HasTrueChain w x m
chain_below w x p m up joined ([], chain) = absurd chain
chain_below w x p m up joined (a ∷ [], chain) = (x ∷ a ∷ [], (refl, up, subst (IsJoined w x) (sym chain.0) joined, subst (λ (z : ℕ). IsTrueChain w z m (a ∷ [])) (sym chain.0) chain))
chain_below w x p m up joined (a ∷ d ∷ ds, chain) = (x ∷ a ∷ d ∷ ds, (refl, up, subst (IsJoined w x) (sym chain.0) joined, subst (λ (z : ℕ). IsTrueChain w z m (a ∷ d ∷ ds)) (sym chain.0) chain))

epoch_read : (r : Option Rank) → (rank_or_last r).epoch ≡ epoch_in r
epoch_read None = refl
epoch_read (Some r) = refl

-- where each node but the root is joined to one that is up, and epochs have an end, each has a chain to the root
module _ (w : World) (m : ℕ) (root : IsRoot w m) (parents : ParentsPrecede w) (joined : (x : ℕ) → IsUp w x → (x ≡ m → ⊥) → (p : ℕ) × IsJoined w x p × IsUp w p)
    (room : (x : ℕ) → IsUp w x → epoch_in (own_rank w x) < number_end) where
  -- where a parent of no better epoch is less deep
  one_up : (n : ℕ) → ((x : ℕ) → IsUp w x → number_end ≤ (rank_of w x).epoch + n → HasTrueChain w x m) → (k x : ℕ) → IsUp w x → number_end ≤ (rank_of w x).epoch + suc n → (rank_of w x).depth ≤ k
      → ((p : ℕ) → IsUp w p → number_end ≤ (rank_of w p).epoch + suc n → suc (rank_of w p).depth ≤ k → HasTrueChain w p m) → HasTrueChain w x m
  one_up n higher k x up near low next = ⊎_elim
      (λ (e : x ≡ m). subst (λ (y : ℕ). HasTrueChain w y m) (sym e) (m ∷ [], (refl, refl, root)))
      (λ other. let p = joined x up other in chain_below w x p.0 m up p.1 (above p.0 p.2 (parents x p.0 p.1).1))
      (cases_eq x m) where
        above : (p : ℕ) → IsUp w p → Precedes (rank_of w p) (rank_of w x) → HasTrueChain w p m
        above p up_p (inl more) = higher p up_p (omega (arith, more, near))
        above p up_p (inr same) = let even = same.0 in let less = same.1 in next p up_p (omega (arith, even, near)) (omega (arith, less, low))

  by_depth : (n : ℕ) → ((x : ℕ) → IsUp w x → number_end ≤ (rank_of w x).epoch + n → HasTrueChain w x m) → (k x : ℕ) → IsUp w x → number_end ≤ (rank_of w x).epoch + suc n → (rank_of w x).depth ≤ k → HasTrueChain w x m
  by_depth n higher zero x up near low = one_up n higher zero x up near low (λ p up_p near_p low_p. absurd (omega (arith, low_p)))
  by_depth n higher (suc j) x up near low = one_up n higher (suc j) x up near low (λ p up_p near_p low_p. by_depth n higher j p up_p near_p (omega (arith, low_p)))

  climbs : (n x : ℕ) → IsUp w x → number_end ≤ (rank_of w x).epoch + n → HasTrueChain w x m
  climbs zero x up near = let less : epoch_in (own_rank w x) < number_end = room x up in absurd (omega (arith, less, near, epoch_read (own_rank w x)))
  climbs (suc n) x up near = by_depth n (λ y up_y near_y. climbs n y up_y near_y) (rank_of w x).depth x up near (omega arith)

  pub chain_of : (x : ℕ) → IsUp w x → HasTrueChain w x m
  chain_of x up = climbs number_end x up (omega arith)

-- places are kept with their leases
later_leased : (h : Header) → (rs : List Round) (v : World) → Reached h v → JoinedAreLeased v → are_later_rounds v rs ≡ true → JoinedAreLeased (after_rounds v rs)
later_leased h [] v known leased quiet = leased
later_leased h (r ∷ rs) v known leased quiet =
    let both = and_parts (is_round (length v.net) v r) (are_later_rounds (after_round v r) rs) quiet in
    later_leased h rs (after_round v r) (reached_round h v r known) (round_leases h v r known both.0) both.1

-- The tree

module _ (h : Header) (w : World) (reached : Reached h w) (m : ℕ) (only : IsOnlyMember w m) (unmeasured : NobodyMeasured w) where
  least : IsLeastMember w m
  least = record { up = only.up; member = only.member; least = λ x up is. let same : x ≡ m = only.only x up is in omega (arith, same) }

  abbrev id : IsId h m
  id = its_id h w reached m least

  abbrev within : m ≤ h.chain
  within = in_chain h w reached m least

  -- a world that rounds lead to
  record Follows (v : World) : Type 0 where
    known : Reached h v
    ups : (y : ℕ) → is_up v y ≡ is_up w y
    readings : (y : ℕ) → (node v y).control.kept.measures ≡ (node w y).control.kept.measures

  top_of : (v : World) → Follows v → IsTopmost h m id within v
  top_of v follows = topmost_on h m id within w v (topmost h w reached m least) follows.known follows.ups

  only_in : (v : World) → Follows v → (y : ℕ) → is_up v y ≡ true → y ≤ h.chain → y ≡ m
  only_in v follows y up low =
      let up_w : IsUp w y = sym (follows.ups y) ∙ up in
      only.only y up_w (is_member_of h w y reached (up_id h w y reached up_w) low)

  past_of : (v : World) → Follows v → (x : ℕ) → is_up v x ≡ true → (x ≡ m → ⊥) → h.chain < x
  past_of v follows x up other = ⊎_elim
      (λ e. absurd (other (only_in v follows x up (omega (arith, e)))))
      (λ rest. ⊎_elim (λ less. absurd (other (only_in v follows x up (omega (arith, less))))) (λ more. more) rest)
      (cases_order x h.chain)

  -- who acts is m
  acts_alone : (v : World) → Follows v → (x : ℕ) → IsRoot v x → x ≡ m
  acts_alone v follows x root = only_in v follows x root.0 (⊎_elim
      (λ is. member_of h v x follows.known (up_id h v x follows.known root.0) is)
      (λ first. let least_id : 1 ≤ m = id.least in omega (arith, first, me_of v x, least_id, within))
      (crowned h v x follows.known root.1))

  follows_round : (v : World) (r : Round) → Follows v → is_round (length v.net) v r ≡ true → Follows (after_round v r)
  follows_round v r follows is =
      let ends : HasEnded v (after_round v r) = round_ends v (length v.net) r is in
      record {
        known = reached_round h v r follows.known;
        ups = λ y. ends.ups y ∙ follows.ups y;
        readings = λ y. same_readings h y (r ∷ []) v follows.known ∙ follows.readings y;
      }

  -- the root, after one more round
  root_on : (v : World) (r : Round) → Follows v → PeersAreUp v → is_round (length v.net) v r ≡ true → (IsSpent (node (after_round v r) m).control → ⊥) → mode_of (after_round v r) m ≡ modes.Acting
  root_on v r follows peers is room =
      let top : IsTopmost h m id within v = top_of v follows in
      let top_on : IsTopmost h m id within (after_round v r) = top_of (after_round v r) (follows_round v r follows is) in
      let ends : HasEnded v (after_round v r) = round_ends v (length v.net) r is in
      ⊎_elim
      (λ last. absurd (room (inl last)))
      (λ rises. ⊎_elim (λ acts. acts)
      (λ asks. absurd (free h m id within (after_round v r) top_on ends.peers asks.0 (ap (λ (n : Mode). is_peer n asks.0) asks.1 ∙ eq-eqb asks.0 asks.0 refl))) rises)
      (round_rises h m id within v top (free h m id within v top peers) r is)

  module _ (b c d : World) (first second : Round) where
    -- two rounds in which m acts, the second of which begins when m has forgotten the others
    record LastRounds : Type 0 where
      follows : Follows b
      asks : NobodyAsks b
      peers : PeersAreUp b
      quiet : is_round (length b.net) b first ≡ true
      next : c ≡ after_round b first
      quiet_next : is_round (length c.net) c second ≡ true
      end : d ≡ after_round c second
      acts : mode_of b m ≡ modes.Acting
      acts_next : mode_of c m ≡ modes.Acting
      forgot : HasForgotten c m
      room : (x : ℕ) → IsUp d x → IsSpent (node d x).control → ⊥

    module _ (last : LastRounds) where
      follows_c : Follows c
      follows_c = subst Follows (sym last.next) (follows_round b first last.follows last.quiet)

      follows_d : Follows d
      follows_d = subst Follows (sym last.end) (follows_round c second follows_c last.quiet_next)

      asks_c : NobodyAsks c
      asks_c = subst NobodyAsks (sym last.next) (round_asks h b (length b.net) first last.follows.known last.quiet)

      asks_d : NobodyAsks d
      asks_d = subst NobodyAsks (sym last.end) (round_asks h c (length c.net) second follows_c.known last.quiet_next)

      leased_c : JoinedAreLeased c
      leased_c = subst JoinedAreLeased (sym last.next) (round_leases h b first last.follows.known last.quiet)

      leased_d : JoinedAreLeased d
      leased_d = subst JoinedAreLeased (sym last.end) (round_leases h c second follows_c.known last.quiet_next)

      -- Another node

      module _ (x : ℕ) (up : IsUp d x) (other : x ≡ m → ⊥) where
        up_w : is_up w x ≡ true
        up_w = sym (follows_d.ups x) ∙ up

        up_b : is_up b x ≡ true
        up_b = last.follows.ups x ∙ (sym (follows_d.ups x) ∙ up)

        up_c : is_up c x ≡ true
        up_c = follows_c.ups x ∙ (sym (follows_d.ups x) ∙ up)

        its : IsId h x
        its = up_id h d x follows_d.known up

        past : h.chain < x
        past = past_of d follows_d x up other

        abbrev ms : List Reading
        ms = (node w x).control.kept.measures

        none : AreNone (node w x).control.kept.measures
        none p = unmeasured x p (sym (follows_d.ups x) ∙ up)

        -- idle or joined
        by_mode : (v : World) → Follows v → NobodyAsks v → is_up v x ≡ true → (k : Mode) → mode_of v x ≡ k → (mode_of v x ≡ modes.Idle) ⊎ ((p : ℕ) × (mode_of v x ≡ modes.Joined p))
        by_mode v follows asks up_v modes.Idle e = inl e
        by_mode v follows asks up_v (modes.Joined p) e = inr (p, e)
        by_mode v follows asks up_v (modes.Asking p) e = absurd (asks x p up_v e)
        by_mode v follows asks up_v modes.Acting e = absurd (other (acts_alone v follows x (up_v, e)))

        -- in the first of these rounds nothing is asked of x
        begins_b : Begins h m id within x its past ms none (Unit {0}) b (top_of b last.follows) last.acts (only_in b last.follows) up_b (node b x).control
        begins_b = (
          last.follows.readings x,
          ⊎_elim (λ idle. inl (idle, inl tt)) (λ joined. inr (tt, joined)) (by_mode b last.follows last.asks up_b (mode_of b x) refl),
        )

        found_c : IsSpent (node c x).control ⊎ HasFound h m id within x its past ms none (Unit {0}) b (top_of b last.follows) last.acts (only_in b last.follows) up_b (node c x).control
        found_c = subst (λ (v : World). IsSpent (node v x).control ⊎ HasFound h m id within x its past ms none (Unit {0}) b (top_of b last.follows) last.acts (only_in b last.follows) up_b (node v x).control) (sym last.next)
            (round_finds h m id within x its past ms none (Unit {0}) b (top_of b last.follows) last.acts (only_in b last.follows) up_b first last.quiet begins_b (inl tt))

        -- m holds no lease of itself or of a node that is down
        forgotten : (y : ℕ) (id_y : IsId h y) → IsSilent h m id within y id_y c → HasEnd y 0 (node c m).control
        forgotten y id_y silent s leased =
            let held = subst (λ (z : ℕ). leased_by (node c m).control.kept.table z y ≡ Some s) (me_of c m) leased in
            absurd (⊎_elim
            (λ same. last.forgot.other s (subst (λ (z : ℕ). leased_by (node c m).control.kept.table m z ≡ Some s) same held))
            (λ off. true≢false (sym (last.forgot.up y s held) ∙ off))
            silent)

        joined_c : (p : ℕ) → mode_of c x ≡ modes.Joined p → (q : ℕ) × IsJoined d x q
        joined_c p e =
            let stays : IsJoinedBy x p (seq_of c x) ms none IsAnyTime (node (after_rounds c (second ∷ [])) x).control =
            later_keeps h x p (seq_of c x) ms none (second ∷ []) c follows_c.known leased_c up_c
            (me_of c x, false_from_ne_true (is_member (node c x).control) (λ is. let low : x ≤ h.chain = member_of h c x follows_c.known its is in let far : h.chain < x = past in omega (arith, low, far)), e, refl, follows_c.readings x, tt)
            (ap (λ (t : Bool). t && true) last.quiet_next) in
            (p, subst (λ (v : World). IsJoined v x p) (sym last.end) stays.2)

        not_spent_c : IsSpent (node c x).control → ⊥
        not_spent_c spent = last.room x up (subst (λ (v : World). IsSpent (node v x).control) (sym last.end) (spent_rounds h x (second ∷ []) c follows_c.known spent))

        idle_c : mode_of c x ≡ modes.Idle → IsCalm (node c x).control.soft.search → (q : ℕ) × IsJoined d x q
        idle_c idle calm = ⊎_elim
            (λ spent. absurd (last.room x up spent))
            (λ found. ⊎_elim (λ joined. joined)
            (λ rest. ⊎_elim (λ asks. absurd (asks_d x asks.0 up asks.1)) (λ never. absurd never.0) rest) found.1)
            (subst (λ (v : World). IsSpent (node v x).control ⊎ HasFound h m id within x its past ms none ⊥ c (top_of c follows_c) last.acts_next (only_in c follows_c) up_c (node v x).control) (sym last.end)
            (round_finds h m id within x its past ms none ⊥ c (top_of c follows_c) last.acts_next (only_in c follows_c) up_c second last.quiet_next (follows_c.readings x, inl (idle, inr calm)) (inr forgotten)))

        finds_place : (q : ℕ) × IsJoined d x q
        finds_place = ⊎_elim
            (λ spent. absurd (not_spent_c spent))
            (λ found. ⊎_elim (λ joined. joined_c joined.0 joined.1)
            (λ rest. ⊎_elim (λ asks. absurd (asks_c x asks.0 up_c asks.1)) (λ idle. idle_c idle.1 idle.2) rest) found.1)
            found_c

      -- The whole tree

      root : IsRoot d m
      root = (
        follows_d.ups m ∙ only.up,
        subst (λ (v : World). mode_of v m ≡ modes.Acting) (sym last.end)
            (root_on c second follows_c (subst PeersAreUp (sym last.next) (round_ends b (length b.net) first last.quiet).peers) last.quiet_next
            (λ spent. last.room m (follows_d.ups m ∙ only.up) (subst (λ (v : World). IsSpent (node v m).control) (sym last.end) spent))),
      )

      ready : IsReadyUnder d m
      ready = record {
        root = root;
        alone = λ x acts. acts_alone d follows_d x acts;
        chains = λ x up other. chain_of d m root (of_reached ParentsPrecede parents_after h d follows_d.known)
            (λ y up_y apart. let place = finds_place y up_y apart in (place.0, place.1, (leased_d y place.0 up_y place.1).parent))
            (λ y up_y. ⊎_elim
            (λ e. absurd (last.room y up_y (inr (omega (arith, e)))))
            (λ rest. ⊎_elim (λ less. less) (λ more. absurd (last.room y up_y (inr (omega (arith, more))))) rest)
            (cases_order (epoch_in (own_rank d y)) number_end))
            x up;
        leases = λ x up other. let place = finds_place x up other in (place.0, place.1, (leased_d x place.0 up place.1).lease);
      }

  -- All rounds

  pub tree_stands : (q r : Round) (rs : List Round) (a b c d : Round) → (more : List Round) → more ≡ a ∷ b ∷ c ∷ d ∷ [] → is_quiet w (q ∷ r ∷ rs ++ more) ≡ true → HaveRoom (after_rounds w (q ∷ r ∷ rs ++ more))
      → IsReadyUnder (after_rounds w (q ∷ r ∷ rs ++ more)) m
  tree_stands q r rs a b c d more four quiet room = subst (λ (v : World). IsReadyUnder v m) (sym whole) (ready vb vc vd c d last) where
    v : World
    v = after_rounds w (q ∷ r ∷ rs)

    va : World
    va = after_round v a

    vb : World
    vb = after_round va b

    vc : World
    vc = after_round vb c

    vd : World
    vd = after_round vc d

    whole : after_rounds w (q ∷ r ∷ rs ++ more) ≡ after_round (after_round (after_round (after_round (after_rounds w (q ∷ r ∷ rs)) a) b) c) d
    whole = rounds_more (q ∷ r ∷ rs) more w ∙ ap (after_rounds (after_rounds w (q ∷ r ∷ rs))) four

    front : (is_round 0 w q ≡ true) × (are_later_rounds (after_round w q) (r ∷ rs ++ more) ≡ true)
    front = and_parts (is_round 0 w q) (are_later_rounds (after_round w q) (r ∷ rs ++ more)) quiet

    rest : (are_later_rounds (after_round w q) (r ∷ rs) ≡ true) × (are_later_rounds (after_rounds w (q ∷ r ∷ rs)) more ≡ true)
    rest = later_more (r ∷ rs) more (after_round w q) front.1

    begun_quiet : is_quiet w (q ∷ r ∷ rs) ≡ true
    begun_quiet = ap (λ (k : Bool). k && are_later_rounds (after_round w q) (r ∷ rs)) front.0 ∙ rest.0

    last_four : are_later_rounds (after_rounds w (q ∷ r ∷ rs)) (a ∷ b ∷ c ∷ d ∷ []) ≡ true
    last_four = subst (λ (ls : List Round). are_later_rounds (after_rounds w (q ∷ r ∷ rs)) ls ≡ true) four rest.1

    qa : (is_round (length v.net) v a ≡ true) × (are_later_rounds (after_round v a) (b ∷ c ∷ d ∷ []) ≡ true)
    qa = and_parts (is_round (length v.net) v a) (are_later_rounds (after_round v a) (b ∷ c ∷ d ∷ [])) last_four

    qb : (is_round (length va.net) va b ≡ true) × (are_later_rounds (after_round va b) (c ∷ d ∷ []) ≡ true)
    qb = and_parts (is_round (length va.net) va b) (are_later_rounds (after_round va b) (c ∷ d ∷ [])) qa.1

    qc : (is_round (length vb.net) vb c ≡ true) × (are_later_rounds (after_round vb c) (d ∷ []) ≡ true)
    qc = and_parts (is_round (length vb.net) vb c) (are_later_rounds (after_round vb c) (d ∷ [])) qb.1

    qd : (is_round (length vc.net) vc d ≡ true) × (are_later_rounds (after_round vc d) [] ≡ true)
    qd = and_parts (is_round (length vc.net) vc d) (are_later_rounds (after_round vc d) []) qc.1

    ends : EndsAs w v
    ends = rounds_end w q (r ∷ rs) begun_quiet

    follows_v : Follows v
    follows_v = record { known = reached_rounds h (q ∷ r ∷ rs) w reached; ups = ends.ups; readings = λ y. same_readings h y (q ∷ r ∷ rs) w reached }

    follows_a : Follows va
    follows_a = follows_round v a follows_v qa.0

    follows_b : Follows vb
    follows_b = follows_round va b follows_a qb.0

    follows_c : Follows vc
    follows_c = follows_round vb c follows_b qc.0

    follows_d : Follows vd
    follows_d = follows_round vc d follows_c qd.0

    room_d : (x : ℕ) → IsUp vd x → IsSpent (node vd x).control → ⊥
    room_d x up spent =
        let left = subst HaveRoom whole room x up in
        let numbers : seq_of vd x < number_end = left.0 in
        let epochs : epoch_in (own_rank vd x) < number_end = left.1 in
        ⊎_elim (λ last. omega (arith, last, numbers)) (λ high. omega (arith, high, epochs)) spent

    -- m is not spent before
    room_before : (u : World) → Reached h u → (ls : List Round) → after_rounds u ls ≡ vd → IsSpent (node u m).control → ⊥
    room_before u known ls to spent = room_d m (follows_d.ups m ∙ only.up) (subst (λ (z : World). IsSpent (node z m).control) to (spent_rounds h m ls u known spent))

    root_v : IsRoot v m
    root_v = acts_as_root h w reached m least q r rs begun_quiet (λ last. room_before v follows_v.known (a ∷ b ∷ c ∷ d ∷ []) refl (inl last))

    peers_a : PeersAreUp va
    peers_a = (round_ends v (length v.net) a qa.0).peers

    peers_b : PeersAreUp vb
    peers_b = (round_ends va (length va.net) b qb.0).peers

    last : LastRounds vb vc vd c d
    last = record {
      follows = follows_b;
      asks = round_asks h va (length va.net) b follows_a.known qb.0;
      peers = peers_b;
      quiet = qc.0;
      next = refl;
      quiet_next = qd.0;
      end = refl;
      acts = root_on va b follows_a peers_a qb.0 (room_before vb follows_b.known (c ∷ d ∷ []) refl);
      acts_next = root_on vb c follows_b peers_b qc.0 (room_before vc follows_c.known (d ∷ []) refl);
      forgot = forgets_in h m id within v (top_of v follows_v) root_v.1 (a ∷ b ∷ c ∷ []) a b c refl three;
      room = room_d;
    } where
      three : are_later_rounds v (a ∷ b ∷ c ∷ []) ≡ true
      three = ap (λ (t : Bool). t && (is_round (length va.net) va b && (is_round (length vb.net) vb c && true))) qa.0 ∙ (ap (λ (t : Bool). true && (t && (is_round (length vb.net) vb c && true))) qb.0 ∙ ap (λ (t : Bool). true && (true && (t && true))) qc.0)

  -- m acts on
  later_reigns : (rs : List Round) (u : World) → IsReigning h m id within u → are_later_rounds u rs ≡ true → IsReigning h m id within (after_rounds u rs)
  later_reigns [] u reign quiet = reign
  later_reigns (r ∷ rs) u reign quiet =
      let both = and_parts (is_round (length u.net) u r) (are_later_rounds (after_round u r) rs) quiet in
      later_reigns rs (after_round u r) (root_goes h m id within u reign r both.0) both.1

  module _ (v : World) (follows : Follows v) (ready_v : IsReadyUnder v m) (leased : JoinedAreLeased v) where
    -- a node that is up and not m is a child, and keeps its place
    record HasPlace (x : ℕ) : Type 0 where
      parent : ℕ
      none : AreNone (node v x).control.kept.measures
      child : IsChildOf h x parent (seq_of v x) (node v x).control.kept.measures none v

    place_of : (x : ℕ) → is_up v x ≡ true → (x ≡ m → ⊥) → HasPlace x
    place_of x up other =
        let place = ready_v.leases x up other in
        let bare : AreNone (node v x).control.kept.measures = subst AreNone (sym (follows.readings x)) (λ q. unmeasured x q (sym (follows.ups x) ∙ up)) in
        record {
          parent = place.0;
          none = bare;
          child = record {
            reached = follows.known;
            up = up;
            joined = (
              me_of v x,
              false_from_ne_true (is_member (node v x).control) (λ is. let low : x ≤ h.chain = member_of h v x follows.known (up_id h v x follows.known up) is in let far : h.chain < x = past_of v follows x up other in omega (arith, low, far)),
              place.1,
              refl,
              refl,
              tt,
            );
            leased = leased;
          };
        }

    -- The tree stays

    module _ (rs : List Round) (rounds : are_later_rounds v rs ≡ true) where
      follows_end : Follows (after_rounds v rs)
      follows_end = record { known = reached_rounds h rs v follows.known; ups = λ y. later_ups rs v rounds y ∙ follows.ups y; readings = λ y. same_readings h y rs v follows.known ∙ follows.readings y }

      -- each link stays
      link_stays : (x p : ℕ) → is_up v x ≡ true → IsJoined v x p → IsJoined (after_rounds v rs) x p
      link_stays x p up joined =
          let place : HasPlace x = place_of x up (λ e. acting_alone v m p ready_v.root.1 (subst (λ (z : ℕ). IsJoined v z p) e joined)) in
          let own = place.child.joined in
          let stays : IsJoinedBy x p (seq_of v x) (node v x).control.kept.measures place.none IsAnyTime (node (after_rounds v rs) x).control =
          later_keeps h x p (seq_of v x) (node v x).control.kept.measures place.none rs v follows.known leased up (own.0, own.1, joined, own.3, own.4, tt) rounds in
          stays.2

      root_stays : IsRoot (after_rounds v rs) m
      root_stays = (follows_end.ups m ∙ only.up, (later_reigns rs v (record { top = top_of v follows; acts = ready_v.root.1 }) rounds).acts)

      chain_stays : (x : ℕ) (c : List ℕ) → IsTrueChain v x m c → IsTrueChain (after_rounds v rs) x m c
      chain_stays x [] chain = absurd chain
      chain_stays x (y ∷ []) chain = (chain.0, chain.1, subst (IsRoot (after_rounds v rs)) (sym chain.1) root_stays)
      chain_stays x (y ∷ d ∷ ds) chain = (chain.0, later_ups rs v rounds x ∙ chain.1, link_stays x d chain.1 chain.2, chain_stays d (d ∷ ds) chain.3)

      ready_stays : IsReadyUnder (after_rounds v rs) m
      ready_stays = record {
        root = root_stays;
        alone = λ x acts. acts_alone (after_rounds v rs) follows_end x acts;
        chains = λ x up other. let chain = ready_v.chains x (sym (later_ups rs v rounds x) ∙ up) other in (chain.0, chain_stays x chain.0 chain.1);
        leases = λ x up other.
            let place : HasPlace x = place_of x (sym (later_ups rs v rounds x) ∙ up) other in
            let joined : IsJoined (after_rounds v rs) x place.parent = link_stays x place.parent (sym (later_ups rs v rounds x) ∙ up) place.child.joined.2 in
            (place.parent, joined, (later_leased h rs v follows.known leased rounds x place.parent up joined).lease);
      }

    -- Stale leases

    module _ (a b c : Round) (rounds : are_later_rounds v (a ∷ b ∷ c ∷ []) ≡ true) where
      abbrev end : World
      end = after_rounds v (a ∷ b ∷ c ∷ [])

      ups_end : (x : ℕ) → is_up (after_rounds v (a ∷ b ∷ c ∷ [])) x ≡ is_up v x
      ups_end x = later_ups (a ∷ b ∷ c ∷ []) v rounds x

      leased_end : JoinedAreLeased (after_rounds v (a ∷ b ∷ c ∷ []))
      leased_end = later_leased h (a ∷ b ∷ c ∷ []) v follows.known leased rounds

      -- a node that sends y neither an ask nor a check-in in these rounds has no lease there after them
      module _ (x : ℕ) (its : IsId h x) (Q : World → Type 0) (goes : (u : World) (r : Round) → Q u → is_round (length u.net) u r ≡ true → Q (after_round u r)) (quiet : Q v) where
        none_left : (y : ℕ) → is_up v y ≡ true → (Before : (u : World) → Q u → World → List ℕ → Type 0) (After : (u : World) → Q u → World → Type 0) → ((u : World) (silent : Q u) → IsHush h u x y (Before u silent) (After u silent))
            → (s : ℕ) → HoldsLease (after_rounds v (a ∷ b ∷ c ∷ [])) y x s → ⊥
        none_left y up Before After hush s held = ⊎_elim
            (λ (e : y ≡ m).
            root_ends h m id within x its Q Before After goes (subst (λ (z : ℕ). (u : World) (silent : Q u) → IsHush h u x z (Before u silent) (After u silent)) e hush) v (top_of v follows) ready_v.root.1 quiet a b c rounds s
            (subst (λ (z : ℕ). HoldsLease (after_rounds v (a ∷ b ∷ c ∷ [])) z x s) e held))
            (λ other.
            let place : HasPlace y = place_of y up other in
            child_ends h y place.parent (seq_of v y) (node v y).control.kept.measures place.none x its Q Before After goes hush v follows.known up place.child.joined leased quiet a b c rounds s held)
            (cases_eq y m)

      -- each lease is of a child
      leases_current : LeasesAreCurrent (after_rounds v (a ∷ b ∷ c ∷ []))
      leases_current y x s up_end held = ⊎_elim
          (λ up_x. ⊎_elim
          (λ (e : x ≡ m). absurd (none_left m id (IsReigning h m id within) (λ u r reign. root_goes h m id within u reign r) reign y up_y (Turning h m id within) (Rules h m id within) (λ u reigns. root_hush h m id within u reigns y) s
          (subst (λ (z : ℕ). HoldsLease (after_rounds v (a ∷ b ∷ c ∷ [])) y z s) e held)))
          (λ other. by_place up_x (place_of x up_x other))
          (cases_eq x m))
          (λ off. absurd (none_left x id_x (IsDown h x) (down_goes h x) (follows.known, off) y up_y (λ u down w zs. FromUp h u w) (λ u down. FromUp h u) (down_hush h x y) s held))
          (cases_Bool (is_up v x)) where
            up_y : is_up v y ≡ true
            up_y = sym (ups_end y) ∙ up_end

            reign : IsReigning h m id within v
            reign = record { top = top_of v follows; acts = ready_v.root.1 }

            id_x : IsId h x
            id_x =
                let row = lease_row (table_of end y) y x s held in
                subst (IsId h) (newest-subject (table_of end y) x row.0 row.1.found) (told_id h end y row.0 (reached_rounds h (a ∷ b ∷ c ∷ []) v follows.known) (newest_among (table_of end y) x row.0 row.1.found))

            by_place : is_up v x ≡ true → HasPlace x → IsUp (after_rounds v (a ∷ b ∷ c ∷ [])) x × IsJoined (after_rounds v (a ∷ b ∷ c ∷ [])) x y × (seq_of (after_rounds v (a ∷ b ∷ c ∷ [])) x ≡ s)
            by_place up_x place = ⊎_elim
                (λ (e : place.parent ≡ y).
                let up : IsUp (after_rounds v (a ∷ b ∷ c ∷ [])) x = ups_end x ∙ up_x in
                let stays : IsJoinedBy x place.parent (seq_of v x) (node v x).control.kept.measures place.none IsAnyTime (node (after_rounds v (a ∷ b ∷ c ∷ [])) x).control =
                later_keeps h x place.parent (seq_of v x) (node v x).control.kept.measures place.none (a ∷ b ∷ c ∷ []) v follows.known leased up_x place.child.joined rounds in
                let joined : IsJoined (after_rounds v (a ∷ b ∷ c ∷ [])) x y = subst (λ (z : ℕ). IsJoined (after_rounds v (a ∷ b ∷ c ∷ [])) x z) e stays.2 in
                let own : HoldsLease (after_rounds v (a ∷ b ∷ c ∷ [])) y x (seq_of (after_rounds v (a ∷ b ∷ c ∷ [])) x) = (leased_end x y up joined).lease in
                let both : Some (seq_of (after_rounds v (a ∷ b ∷ c ∷ [])) x) ≡ Some s = sym own ∙ held in
                let same : seq_of (after_rounds v (a ∷ b ∷ c ∷ [])) x ≡ s = cc in
                (up, joined, same))
                (λ apart. absurd (none_left x id_x (IsChildOf h x place.parent (seq_of v x) (node v x).control.kept.measures place.none) (child_goes h x place.parent (seq_of v x) (node v x).control.kept.measures place.none) place.child y up_y
                (λ u child. Turns h x place.parent (seq_of v x) (node v x).control.kept.measures place.none u (its_place h x place.parent (seq_of v x) (node v x).control.kept.measures place.none u child).end)
                (λ u child. IsKept h x place.parent (seq_of v x) (node v x).control.kept.measures place.none IsAnyTime u)
                (λ u child. child_hush h x place.parent (seq_of v x) (node v x).control.kept.measures place.none y apart u child) s held))
                (cases_eq place.parent y)

  -- where the network is one tree at the end of a round
  pub tree_current : (q r : Round) (rs : List Round) (a b c : Round) → (more : List Round) → more ≡ a ∷ b ∷ c ∷ [] → is_quiet w (q ∷ r ∷ rs ++ more) ≡ true → IsReadyUnder (after_rounds w (q ∷ r ∷ rs)) m
      → LeasesAreCurrent (after_rounds w (q ∷ r ∷ rs ++ more))
  tree_current q r rs a b c more three quiet ready_v =
      let front = and_parts (is_round 0 w q) (are_later_rounds (after_round w q) (r ∷ rs ++ more)) quiet in
      let rest = later_more (r ∷ rs) more (after_round w q) front.1 in
      let begun_quiet : is_quiet w (q ∷ r ∷ rs) ≡ true = ap (λ (k : Bool). k && are_later_rounds (after_round w q) (r ∷ rs)) front.0 ∙ rest.0 in
      let v : World = after_rounds w (q ∷ r ∷ rs) in
      let follows : Follows v = record { known = reached_rounds h (q ∷ r ∷ rs) w reached; ups = (rounds_end w q (r ∷ rs) begun_quiet).ups; readings = λ y. same_readings h y (q ∷ r ∷ rs) w reached } in
      let later : are_later_rounds v (a ∷ b ∷ c ∷ []) ≡ true = subst (λ (ls : List Round). are_later_rounds v ls ≡ true) three rest.1 in
      let whole : after_rounds w (q ∷ r ∷ rs ++ more) ≡ after_rounds v (a ∷ b ∷ c ∷ []) = rounds_more (q ∷ r ∷ rs) more w ∙ ap (after_rounds v) three in
      subst LeasesAreCurrent (sym whole) (leases_current v follows ready_v (joined_are_leased h w reached q r rs begun_quiet) a b c later)

  -- where the network is one tree at the end of a round, it stays one
  pub tree_stays : (q r : Round) (rs more : List Round) → is_quiet w (q ∷ r ∷ rs ++ more) ≡ true → IsReadyUnder (after_rounds w (q ∷ r ∷ rs)) m → IsReadyUnder (after_rounds w (q ∷ r ∷ rs ++ more)) m
  tree_stays q r rs more quiet ready_v =
      let front = and_parts (is_round 0 w q) (are_later_rounds (after_round w q) (r ∷ rs ++ more)) quiet in
      let rest = later_more (r ∷ rs) more (after_round w q) front.1 in
      let begun_quiet : is_quiet w (q ∷ r ∷ rs) ≡ true = ap (λ (k : Bool). k && are_later_rounds (after_round w q) (r ∷ rs)) front.0 ∙ rest.0 in
      let v : World = after_rounds w (q ∷ r ∷ rs) in
      let follows : Follows v = record { known = reached_rounds h (q ∷ r ∷ rs) w reached; ups = (rounds_end w q (r ∷ rs) begun_quiet).ups; readings = λ y. same_readings h y (q ∷ r ∷ rs) w reached } in
      subst (λ (u : World). IsReadyUnder u m) (sym (rounds_more (q ∷ r ∷ rs) more w)) (ready_stays v follows ready_v (joined_are_leased h w reached q r rs begun_quiet) more rest.1)

-- a network in which one chain member is up becomes one tree
pub becomes_ready : (h : Header) (w : World) → Reached h w → (m : ℕ) → IsOnlyMember w m → NobodyMeasured w → (q r : Round) (rs : List Round) (a b c d : Round) → is_quiet w (q ∷ r ∷ rs ++ a ∷ b ∷ c ∷ d ∷ []) ≡ true
    → HaveRoom (after_rounds w (q ∷ r ∷ rs ++ a ∷ b ∷ c ∷ d ∷ [])) → IsReadyUnder (after_rounds w (q ∷ r ∷ rs ++ a ∷ b ∷ c ∷ d ∷ [])) m
becomes_ready h w reached m only unmeasured q r rs a b c d quiet room = tree_stands h w reached m only unmeasured q r rs a b c d (a ∷ b ∷ c ∷ d ∷ []) refl quiet room

-- and three rounds later no lease is stale
pub becomes_current : (h : Header) (w : World) → Reached h w → (m : ℕ) → IsOnlyMember w m → NobodyMeasured w → (q r : Round) (rs : List Round) (a b c : Round) → is_quiet w (q ∷ r ∷ rs ++ a ∷ b ∷ c ∷ []) ≡ true
    → IsReadyUnder (after_rounds w (q ∷ r ∷ rs)) m → LeasesAreCurrent (after_rounds w (q ∷ r ∷ rs ++ a ∷ b ∷ c ∷ []))
becomes_current h w reached m only unmeasured q r rs a b c quiet ready_v = tree_current h w reached m only unmeasured q r rs a b c (a ∷ b ∷ c ∷ []) refl quiet ready_v

-- one tree stays one
pub stays_ready : (h : Header) (w : World) → Reached h w → (m : ℕ) → IsOnlyMember w m → NobodyMeasured w → (q r : Round) (rs more : List Round) → is_quiet w (q ∷ r ∷ rs ++ more) ≡ true
    → IsReadyUnder (after_rounds w (q ∷ r ∷ rs)) m → IsReadyUnder (after_rounds w (q ∷ r ∷ rs ++ more)) m
stays_ready h w reached m only unmeasured q r rs more quiet ready_v = tree_stays h w reached m only unmeasured q r rs more quiet ready_v
