-- The growth of ask numbers and epochs by the first five steps of settle: by at most one in each round of ticks, and none in a
-- round of check-ins.
use Rattle.std.proofs.Common.{◌≡◌, ℕ, ◌+◌, ◌≤◌, List, [], ◌∷◌, inl, inr, refl, sym, subst, ◌∙◌, arith}
use Rattle.oc_model.specs.declared.mode.Mode.{Mode}
use Rattle.oc_model.specs.declared.mode.Mode.TheVariants.{Idle, Asking, Joined, Acting}
use Rattle.oc_model.specs.Chains.{IsUp}
use Rattle.oc_model.specs.ClaimsTree.{seq_of}
use Rattle.oc_model.specs.Heal.{epoch_in}
use Rattle.oc_model.specs.Node.{Header, Control}
use Rattle.oc_model.specs.Runs.{for_each}
use Rattle.oc_model.specs.Settle.{ticks, all_tick, checks_in, checks_in_if, checks_in_if_joined, all_check_in, first_five_steps}
use Rattle.oc_model.specs.World.{World, is_up, mode_of, up_ids}
use Rattle.oc_model.specs.WorldBounds.{IsOneOf}
use Rattle.oc_model.proofs.Able.{among_up}
use Rattle.oc_laws_world.specs.Ranks.{own_rank}
use Rattle.oc_laws_tree.proofs.FiveSteps.{up_of, up_distinct}
use Rattle.oc_laws_tree.proofs.Passes.{IsTurn, HasPassed, each_passes}
use Rattle.oc_laws_tree.proofs.Reached.{Reached}
use Rattle.oc_laws_tree.proofs.Ticking.{TickKeeps, tick_keeps}
use Rattle.oc_laws_tree.proofs.CheckedIn.{CheckInKeeps, checks_in_keeps}

-- the epoch and the ask number of y are at most these
abbrev pub IsLow : ℕ → ℕ → World → ℕ → Type 0
IsLow epoch seq w y = (epoch_in (own_rank w y) ≤ epoch) × (seq_of w y ≤ seq)

-- the same for each node that is up
abbrev pub AreLow : ℕ → ℕ → World → Type 0
AreLow epoch seq w = (y : ℕ) → IsUp w y → IsLow epoch seq w y

module _ (h : Header) (w0 : World) where
  record GoesOn (w : World) : Type 0 where
    reached : Reached h w
    up : (y : ℕ) → is_up w y ≡ is_up w0 y

  tick_turn : (more epoch seq x : ℕ) (w : World) → GoesOn w → IsUp w x × IsLow epoch seq w x → IsTurn GoesOn (λ v y. IsUp v y × IsLow epoch seq v y) (IsLow (epoch + 1) (seq + 1)) x w (ticks more x w).world
  tick_turn more epoch seq x w goes low =
      let v = (ticks more x w).world in
      let keeps : TickKeeps h more w x v = tick_keeps h more w x goes.reached low.0 in
      let same : (e s : ℕ) (y : ℕ) → (x ≡ y → ⊥) → IsLow e s w y → IsLow e s v y = λ e s y apart is.
      subst (λ (k : Control). (epoch_in k.kept.rank ≤ e) × (k.kept.seq ≤ s)) (sym (keeps.others y apart)) is in
      record {
        goes = record { reached = keeps.reached; up = λ y. (keeps.steady y).up ∙ goes.up y };
        done = (omega (arith, keeps.core.epoch, low.1.0), omega (arith, keeps.core.seq, low.1.1));
        before = λ y apart is. ((keeps.steady y).up ∙ is.0, same epoch seq y apart is.1);
        after = λ y apart is. same (epoch + 1) (seq + 1) y apart is;
      }

-- a round of ticks raises them by at most one
tick_low : (h : Header) (more epoch seq : ℕ) (w : World) → Reached h w → AreLow epoch seq w → Reached h (all_tick more w).world × AreLow (epoch + 1) (seq + 1) (all_tick more w).world
tick_low h more epoch seq w reached low =
    let before = λ (v : World) (y : ℕ). IsUp v y × IsLow epoch seq v y in
    let passed : HasPassed (ticks more) (GoesOn h w) before (IsLow (epoch + 1) (seq + 1)) (tick_turn h w more epoch seq) (up_ids w) w (all_tick more w).world =
    each_passes (ticks more) (GoesOn h w) before (IsLow (epoch + 1) (seq + 1)) (tick_turn h w more epoch seq) (up_ids w) w (up_distinct h w reached) record { reached = reached; up = λ y. refl }
    (λ x one. (up_of w x one, low x (up_of w x one))) in
    (passed.goes.reached, λ y up. passed.done y (among_up w y (sym (passed.goes.up y) ∙ up)))

-- a round of check-ins does not raise them
checks_low : (h : Header) (epoch seq : ℕ) (xs : List ℕ) (w : World) → Reached h w → ((x : ℕ) → IsOneOf x xs → IsUp w x) → AreLow epoch seq w → Reached h (for_each xs checks_in_if_joined w).world × AreLow epoch seq (for_each xs checks_in_if_joined w).world
checks_low h epoch seq [] w reached up low = (reached, low)
checks_low h epoch seq (x ∷ xs) w reached up low = by_mode (mode_of w x) refl (λ v r u l. checks_low h epoch seq xs v r u l) where
  by_mode : (m : Mode) → mode_of w x ≡ m
      → ((v : World) → Reached h v → ((y : ℕ) → IsOneOf y xs → IsUp v y) → AreLow epoch seq v → Reached h (for_each xs checks_in_if_joined v).world × AreLow epoch seq (for_each xs checks_in_if_joined v).world)
      → Reached h (for_each xs checks_in_if_joined (checks_in_if m x w).world).world × AreLow epoch seq (for_each xs checks_in_if_joined (checks_in_if m x w).world).world
  by_mode Idle e rest = rest w reached (λ y one. up y (inr one)) low
  by_mode (Asking p) e rest = rest w reached (λ y one. up y (inr one)) low
  by_mode Acting e rest = rest w reached (λ y one. up y (inr one)) low
  by_mode (Joined p) e rest =
      let v : World = (checks_in x w).world in
      let keeps : CheckInKeeps h w x v = checks_in_keeps h w x p reached (up x (inl refl)) e in
      rest v keeps.reached (λ y one. (keeps.steady y).up ∙ up y (inr one))
      (λ y is_up. (keeps.epochs epoch (λ z z_up. (low z z_up).0) y is_up, subst (λ s. s ≤ seq) (sym (keeps.seqs y)) (low y (sym (keeps.steady y).up ∙ is_up)).1))

pub five_low : (h : Header) (epoch seq : ℕ) (w : World) → Reached h w → AreLow epoch seq w → AreLow (epoch + 3) (seq + 3) (first_five_steps w).world
five_low h epoch seq w reached low =
    let w1 : World = (all_tick 0 w).world in
    let one = tick_low h 0 epoch seq w reached low in
    let w2 : World = (all_check_in w1).world in
    let two = checks_low h (epoch + 1) (seq + 1) (up_ids w1) w1 one.0 (λ x is. up_of w1 x is) one.1 in
    let w3 : World = (all_tick 15 w2).world in
    let three = tick_low h 15 (epoch + 1) (seq + 1) w2 two.0 two.1 in
    let w4 : World = (all_check_in w3).world in
    let four = checks_low h (epoch + 1 + 1) (seq + 1 + 1) (up_ids w3) w3 three.0 (λ x is. up_of w3 x is) three.1 in
    let five = tick_low h 15 (epoch + 1 + 1) (seq + 1 + 1) w4 four.0 four.1 in
    λ y up. let is = five.1 y up in (omega (arith, is.0), omega (arith, is.1))
