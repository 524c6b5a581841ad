-- The first five steps of settle from any world that is reached: they end every lease that is not current and keep all links
-- that hold.
use Rattle.std.proofs.Common.{◌≡◌, ℕ, ◌+◌, ◌≤◌, ◌<◌, Bool, Some, None, List, [], ◌∷◌, inl, inr, filter, refl, ap, sym, subst, ◌∙◌, ⊎_elim, arith}
use Rattle.std.proofs.lemmas.Bool.{cases_eq, cond_both}
use Rattle.oc_model.specs.declared.mode.Mode.{Mode}
use Rattle.oc_model.specs.declared.mode.Mode.TheVariants.{Idle, Asking, Joined, Acting}
use Rattle.oc_model.specs.Chains.{IsUp}
use Rattle.oc_model.specs.ClaimsTree.{seq_of, KnowsNumber}
use Rattle.oc_model.specs.Leases.{lease_time}
use Rattle.oc_model.specs.Node.{Header, Control}
use Rattle.oc_model.specs.Numbers.{at}
use Rattle.oc_model.specs.Ready.{HoldsLease}
use Rattle.oc_model.specs.Runs.{and_then}
use Rattle.oc_model.specs.Settle.{ticks, all_tick, checks_in, checks_in_if, checks_in_if_joined, all_check_in, first_five_steps}
use Rattle.oc_model.specs.Table.{lease_number}
use Rattle.oc_model.specs.World.{World, is_up, mode_of, ids, up_ids}
use Rattle.oc_model.specs.WorldBounds.{IsOneOf, IsDistinct, clock_of}
use Rattle.oc_model.proofs.Able.{among_up}
use Rattle.oc_model.proofs.Members.{of_filter}
use Rattle.oc_laws_world.proofs.Lifts.{control_of}
use Rattle.oc_laws_tree.proofs.Core.{Core, core_of, IsCounted}
use Rattle.oc_laws_tree.proofs.Held.{Steady, steady_itself, stays_then, IsHeld, held_on, held_before, IsCurrent, current_stays}
use Rattle.oc_laws_tree.proofs.Passes.{IsTurn, HasPassed, each_passes}
use Rattle.oc_laws_tree.proofs.Reached.{Reached}
use Rattle.oc_laws_tree.proofs.Spans.{ids_distinct, up_id}
use Rattle.oc_laws_tree.proofs.Ticking.{TickKeeps, tick_keeps, row_fresh, none_over, all_stale, fresh_row, less_stale, IsStaleBy, IsFreshBy, stale_other, fresh_other, leased_id, ends_ahead}
use Rattle.oc_laws_tree.proofs.CheckedIn.{CheckInKeeps, keeps_before, checks_in_keeps}

-- The properties that the steps keep

-- places and links have stayed since the world w0
pub record HasStayed (h : Header) (w0 w : World) : Type 0 where
  pub reached : Reached h w
  pub steady : Steady w0 w
  pub held : (y z : ℕ) → IsHeld w0 y z → IsHeld w y z

pub stayed_itself : (h : Header) (w : World) → Reached h w → HasStayed h w w
stayed_itself h w reached = record { reached = reached; steady = steady_itself w; held = λ y z held. held }

-- places and links stay after one more step
pub stayed_then : (h : Header) (w0 w v : World) → HasStayed h w0 w → Reached h v → Steady w v → ((y z : ℕ) → IsHeld w y z → IsHeld v y z) → HasStayed h w0 v
stayed_then h w0 w v stayed reached steady held = record {
  reached = reached;
  steady = λ y. stays_then w0 w v y (stayed.steady y) (steady y);
  held = λ y z is. held y z (stayed.held y z is);
}

-- the parent of each link that holds knows its child's own number, and the child has counted all its clients
abbrev pub AreTold : World → Type 0
AreTold w = (y z : ℕ) → IsHeld w y z → KnowsNumber w y z × IsCounted (core_of (control_of w z))

-- a node that is up stays up while places stay
still_up : (w v : World) → Steady w v → (y : ℕ) → IsUp w y → IsUp v y
still_up w v steady y up = (steady y).up ∙ up

pub up_of : (w : World) (x : ℕ) → IsOneOf x (up_ids w) → IsUp w x
up_of w x one = (of_filter (is_up w) (ids w) x one).0

-- a filtered list without repeats has no repeats
pub filter_distinct : (test : ℕ → Bool) (xs : List ℕ) → IsDistinct xs → IsDistinct (filter test xs)
filter_distinct test [] distinct = tt
filter_distinct test (x ∷ xs) distinct =
    cond_both (test x) (x ∷ filter test xs) (filter test xs) IsDistinct
    (λ _. (λ one. distinct.0 (of_filter test xs x one).1, filter_distinct test xs distinct.1))
    (λ _. filter_distinct test xs distinct.1)

pub up_distinct : (h : Header) (w : World) → Reached h w → IsDistinct (up_ids w)
up_distinct h w reached = filter_distinct (is_up w) (ids w) (ids_distinct h w reached)

-- a tick leaves the own number of a node that has counted its clients
counts_stay : (h : Header) (w : World) (x : ℕ) (v : World) → TickKeeps h 15 w x v → (z : ℕ) → IsCounted (core_of (control_of w z)) → ((control_of v z).kept.number ≡ (control_of w z).kept.number) × IsCounted (core_of (control_of v z))
counts_stay h w x v keeps z counted = ⊎_elim
    (λ (same : x ≡ z).
    let here = keeps.core.counts (subst (λ (u : ℕ). IsCounted (core_of (control_of w u))) (sym same) counted) in
    subst (λ (u : ℕ). ((control_of v u).kept.number ≡ (control_of w u).kept.number) × IsCounted (core_of (control_of v u))) same (here.0, here.2))
    (λ apart. (ap (λ (k : Control). k.kept.number) (keeps.others z apart), subst (λ (k : Control). IsCounted (core_of k)) (sym (keeps.others z apart)) counted))
    (cases_eq x z)

module _ (h : Header) (w0 : World) where
  -- a node that is up later was up before
  was_up : (w v : World) → HasStayed h w0 w → HasStayed h w0 v → (y : ℕ) → IsUp v y → IsOneOf y (up_ids w)
  was_up w v first second y up = among_up w y ((first.steady y).up ∙ (sym (second.steady y).up ∙ up))

  -- Step 1

  abbrev IsStale : ℕ → World → ℕ → Type 0
  IsStale d w y = IsStaleBy w d y

  first_turn : (x : ℕ) (w : World) → HasStayed h w0 w → IsUp w x → IsTurn (HasStayed h w0) IsUp (IsStale 30) x w (ticks 0 x w).world
  first_turn x w stayed up =
      let v : World = (ticks 0 x w).world in
      let keeps : TickKeeps h 0 w x v = tick_keeps h 0 w x stayed.reached up in
      record {
        goes = stayed_then h w0 w v stayed keeps.reached keeps.steady (λ y z held. held_on w v keeps.steady y z held (λ leased.
            ap (lease_number y) (row_fresh h 0 w x v keeps y z (λ same. none_over h w x v stayed.reached up keeps z (seq_of w z) (subst (λ (u : ℕ). HoldsLease w u z (seq_of w z)) (sym same) leased))) ∙ leased));
        done = all_stale h 0 w x v stayed.reached up keeps;
        before = λ y apart is. still_up w v keeps.steady y is;
        after = λ y apart stale. stale_other w v 30 y keeps.steady (keeps.others y apart) stale;
      }

  -- after step 1 each lease that is not current ends within a lease's time
  first_tick : (w : World) → HasStayed h w0 w → HasStayed h w0 (all_tick 0 w).world × ((y : ℕ) → IsUp (all_tick 0 w).world y → IsStaleBy (all_tick 0 w).world 30 y)
  first_tick w stayed =
      let passed : HasPassed (ticks 0) (HasStayed h w0) IsUp (IsStale 30) first_turn (up_ids w) w (all_tick 0 w).world =
      each_passes (ticks 0) (HasStayed h w0) IsUp (IsStale 30) first_turn (up_ids w) w (up_distinct h w stayed.reached) stayed (λ x one. up_of w x one) in
      (passed.goes, λ y up. passed.done y (was_up w (all_tick 0 w).world stayed passed.goes y up))

  -- Steps 2 and 4

  -- places and links have stayed, and leases that are not current end within d seconds
  record AreStale (d : ℕ) (w : World) : Type 0 where
    stayed : HasStayed h w0 w
    stale : (y : ℕ) → IsUp w y → IsStaleBy w d y

  -- the lease of x at its parent is new, and the parent knows the own number of x
  abbrev IsTold : World → ℕ → Type 0
  IsTold w x = (p : ℕ) → IsHeld w p x → (at (control_of w p).leases x None ≡ Some (clock_of w p + lease_time)) × KnowsNumber w p x × IsCounted (core_of (control_of w x))

  stale_then : (d : ℕ) (w : World) (x : ℕ) (v : World) → CheckInKeeps h w x v → (y : ℕ) → IsStaleBy w d y → IsStaleBy v d y
  stale_then d w x v keeps y stale z s leased = ⊎_elim
      (λ is. inl (current_stays w v keeps.steady y z s is))
      (λ (end : (e : ℕ) × (at (control_of w y).leases z None ≡ Some e) × (e ≤ clock_of w y + d)). ⊎_elim
      (λ same. inr (end.0, same ∙ end.1, subst (λ (now : ℕ). end.0 ≤ now + d) (sym (keeps.clocks y)) end.2))
      (λ here. inl (current_stays w v keeps.steady y z s (of_lease here.0 here.1)))
      (keeps.ends y z (leased_id h w y z s keeps.began was)))
      (stale z s was) where
        was : HoldsLease w y z s
        was = keeps.only y z s leased

        of_lease : x ≡ z → IsHeld w y x → IsCurrent w y z s
        of_lease same held =
            let own : IsHeld w y z = subst (IsHeld w y) same held in
            let numbers : Some (seq_of w z) ≡ Some s = sym own.lease ∙ was in
            (own.up, own.joined, cc)

  -- a node that has told stays so when another node checks in
  told_other : (w : World) (x : ℕ) (v : World) → CheckInKeeps h w x v → (z : ℕ) → (x ≡ z → ⊥) → IsTold w z → IsTold v z
  told_other w x v keeps z apart told p held =
      let was : IsHeld w p z = keeps_before h w x v keeps p z held in
      let old = told p was in
      let core : core_of (control_of v z) ≡ core_of (control_of w z) = keeps.cores z apart in (
        ⊎_elim (λ same. same) (λ here. absurd (apart here.0)) (keeps.ends p z (up_id h w z keeps.began was.up)) ∙ (old.0 ∙ ap (λ (now : ℕ). Some (now + lease_time)) (sym (keeps.clocks p))),
        (old.1.0, keeps.rows p z apart was ∙ old.1.1, old.1.2 ∙ sym (ap (λ (k : Core). k.number) core)),
        subst IsCounted (sym core) old.2,
      )

  check_turn : (d x : ℕ) (w : World) → AreStale d w → IsUp w x → IsTurn (AreStale d) IsUp IsTold x w (checks_in_if_joined x w).world
  check_turn d x w all up = by_mode (mode_of w x) refl where
    still : (m : Mode) → mode_of w x ≡ m → ((p : ℕ) → m ≡ Joined p → ⊥) → IsTurn (AreStale d) IsUp IsTold x w w
    still m is none = record { goes = all; done = λ p held. absurd (none p (sym is ∙ held.joined)); before = λ y apart is_up. is_up; after = λ y apart told. told }

    by_mode : (m : Mode) → mode_of w x ≡ m → IsTurn (AreStale d) IsUp IsTold x w (checks_in_if m x w).world
    by_mode Idle is = still Idle is (λ p e. absurd cc)
    by_mode (Asking p) is = still (Asking p) is (λ q e. absurd cc)
    by_mode Acting is = still Acting is (λ p e. absurd cc)
    by_mode (Joined p) is =
        let v : World = (checks_in x w).world in
        let keeps : CheckInKeeps h w x v = checks_in_keeps h w x p all.stayed.reached up is in
        record {
          goes = record {
            stayed = stayed_then h w0 w v all.stayed keeps.reached keeps.steady keeps.held;
            stale = λ y is_up. stale_then d w x v keeps y (all.stale y (sym (keeps.steady y).up ∙ is_up));
          };
          done = λ q held. (keeps.renewed q held, keeps.told q held, keeps.counted);
          before = λ y apart is_up. still_up w v keeps.steady y is_up;
          after = λ y apart told. told_other w x v keeps y apart told;
        }

  -- after steps 2 and 4 the leases of all links that hold are new, and parents know their children's own numbers
  record AreFresh (d : ℕ) (w : World) : Type 0 where
    all : AreStale d w
    fresh : (y : ℕ) → IsFreshBy w 30 y
    told : AreTold w

  check_pass : (d : ℕ) (w : World) → AreStale d w → AreFresh d (all_check_in w).world
  check_pass d w all =
      let v : World = (all_check_in w).world in
      let passed : HasPassed checks_in_if_joined (AreStale d) IsUp IsTold (check_turn d) (up_ids w) w v =
      each_passes checks_in_if_joined (AreStale d) IsUp IsTold (check_turn d) (up_ids w) w (up_distinct h w all.stayed.reached) all (λ x one. up_of w x one) in
      let each : (z : ℕ) → IsUp v z → IsTold v z = λ z up. passed.done z (was_up w v all.stayed passed.goes.stayed z up) in
      record {
        all = passed.goes;
        fresh = λ y z held. (clock_of v y + lease_time, (each z held.up y held).0, omega arith);
        told = λ y z held. let is = each z held.up y held in (is.1, is.2);
      }

  -- Steps 3 and 5

  record IsAging (w : World) : Type 0 where
    stayed : HasStayed h w0 w
    told : AreTold w

  abbrev IsAgingAt : ℕ → World → ℕ → Type 0
  IsAgingAt d w y = IsUp w y × IsStaleBy w (d + 15) y × IsFreshBy w 30 y

  aging_turn : (d x : ℕ) (w : World) → IsAging w → IsAgingAt d w x → IsTurn IsAging (IsAgingAt d) (IsStale d) x w (ticks 15 x w).world
  aging_turn d x w all at_x =
      let v : World = (ticks 15 x w).world in
      let keeps : TickKeeps h 15 w x v = tick_keeps h 15 w x all.stayed.reached at_x.0 in
      record {
        goes = record {
          stayed = stayed_then h w0 w v all.stayed keeps.reached keeps.steady (λ y z held. held_on w v keeps.steady y z held (λ leased. ap (lease_number y) (fresh_row h w x v keeps at_x.2 y z held) ∙ leased));
          told = λ y z held.
              let was : IsHeld w y z = held_before w v keeps.steady y z held (λ leased. keeps.only y z (seq_of w z) leased) in
              let old = all.told y z was in
              let count = counts_stay h w x v keeps z old.1 in
              ((old.0.0, fresh_row h w x v keeps at_x.2 y z was ∙ old.0.1, old.0.2 ∙ sym count.0), count.1);
        };
        done = less_stale h d w x v keeps at_x.1;
        before = λ y apart is. (still_up w v keeps.steady y is.0, stale_other w v (d + 15) y keeps.steady (keeps.others y apart) is.1, fresh_other w v 30 y keeps.steady (keeps.others y apart) is.2);
        after = λ y apart stale. stale_other w v d y keeps.steady (keeps.others y apart) stale;
      }

  -- after steps 3 and 5 the remaining times are 15 seconds shorter
  aging_tick : (d : ℕ) (w : World) → AreFresh (d + 15) w → AreStale d (all_tick 15 w).world × AreTold (all_tick 15 w).world
  aging_tick d w fresh =
      let v : World = (all_tick 15 w).world in
      let begins : IsAging w = record { stayed = fresh.all.stayed; told = fresh.told } in
      let passed : HasPassed (ticks 15) IsAging (IsAgingAt d) (IsStale d) (aging_turn d) (up_ids w) w v =
      each_passes (ticks 15) IsAging (IsAgingAt d) (IsStale d) (aging_turn d) (up_ids w) w (up_distinct h w fresh.all.stayed.reached) begins
      (λ x one. (up_of w x one, fresh.all.stale x (up_of w x one), fresh.fresh x)) in
      (record { stayed = passed.goes.stayed; stale = λ y up. passed.done y (was_up w v fresh.all.stayed passed.goes.stayed y up) }, passed.goes.told)

-- All five steps

-- no node that is up holds a lease that is not current
abbrev pub AreCurrent : World → Type 0
AreCurrent w = (y z s : ℕ) → IsUp w y → HoldsLease w y z s → IsCurrent w y z s

pub record HasCalmed (h : Header) (w0 w : World) : Type 0 where
  pub stayed : HasStayed h w0 w
  pub told : AreTold w
  pub current : AreCurrent w

-- places and links have stayed after each of the five steps
pub record FiveSteps (h : Header) (w : World) : Type 0 where
  pub one : HasStayed h w (all_tick 0 w).world
  pub two : HasStayed h w (and_then (all_tick 0 w) all_check_in).world
  pub three : HasStayed h w (and_then (and_then (all_tick 0 w) all_check_in) (all_tick 15)).world
  pub four : HasStayed h w (and_then (and_then (and_then (all_tick 0 w) all_check_in) (all_tick 15)) all_check_in).world
  pub calmed : HasCalmed h w (first_five_steps w).world

pub five_steps : (h : Header) (w : World) → Reached h w → FiveSteps h w
five_steps h w reached =
    let one = first_tick h w w (stayed_itself h w reached) in
    let w1 : World = (all_tick 0 w).world in
    let two : AreFresh h w 30 (all_check_in w1).world = check_pass h w 30 w1 record { stayed = one.0; stale = one.1 } in
    let w2 : World = (all_check_in w1).world in
    let three = aging_tick h w 15 w2 two in
    let w3 : World = (all_tick 15 w2).world in
    let four : AreFresh h w 15 (all_check_in w3).world = check_pass h w 15 w3 three.0 in
    let w4 : World = (all_check_in w3).world in
    let five = aging_tick h w 0 w4 four in
    let w5 : World = (all_tick 15 w4).world in
    record {
      one = one.0;
      two = two.all.stayed;
      three = three.0.stayed;
      four = four.all.stayed;
      calmed = record {
        stayed = five.0.stayed;
        told = five.1;
        current = λ y z s up leased. ⊎_elim
            (λ is. is)
            (λ (end : (e : ℕ) × (at (control_of w5 y).leases z None ≡ Some e) × (e ≤ clock_of w5 y + 0)).
            let ahead : clock_of w5 y < end.0 = ends_ahead h w5 five.0.stayed.reached y z s end.0 up leased end.1 in
            absurd (omega (arith, ahead, end.2)))
            (five.0.stale y up z s leased);
      };
    }
